use Rattle.std.proofs.Common.{◌≡◌, arith, ap, ◌∙◌, refl, inr}
use Rattle.be_query.specs.Building.{Values, marks_of, turned}
use Rattle.be_query.specs.Grammar.{Leaf}
use Rattle.be_query.specs.Lexing.{Whole}
use Rattle.be_query.specs.Tokens.{plain}
use Rattle.be_query.specs.View.{level_seen, outer_of, token_of, formula, literal}
use Rattle.be_query.proofs.Steps.{negations_within, turned_leaf, built_on, value_built, deep_ended, good_value, value_refused}
use Rattle.be_query.proofs.parser.take_value.Goals as goal

pub overflow_sub-context : goal.overflow_sub-context
overflow_sub-context c = let h = negations_within (level_seen c.args.context.now.level) (outer_of c.args.context.now) in omega arith

pub returns-in-Err-clause-err : goal.returns-in-Err-clause-err
returns-in-Err-clause-err c = inr (value_refused c.args.op c.in-Text.raw.now (token_of c.args.token) (marks_of (level_seen c.args.context.now.level) (outer_of c.args.context.now)) c.args.context.now.comparisons c.args.at c.args.start _ (ap token_of c.in-Text.is) (rw c.in-Err.is at c.in_ok-read.ensures.err).0)

pub returns-clause-ok : goal.returns-clause-ok
returns-clause-ok c =
    let h = rw c.in-Ok.is at c.in_ok-read.ensures.ok in
    let k = c.in_ok-tree.ensures in
    let t = ap token_of c.in-Text.is in
    let level = level_seen c.args.context.now.level in
    let name = plain c.args.name.now in
    let made = rw c.in-Some.is at c.in_ok-made.ensures in
    let leaf : formula c.in_ok-leaf.leaf.value ≡ turned level.operand_negated (Leaf name c.args.op (literal c.in-Ok.literal)) =
    ap formula c.in_ok-leaf.ensures.ok ∙ (λ i. Leaf (made.0 i) (c.turned_operator-op.ensures i) (literal c.in-Ok.literal)) ∙ turned_leaf level.operand_negated name c.args.op (literal c.in-Ok.literal) in
    let kept = leaf ∙ ap (λ v. turned level.operand_negated (Leaf name c.args.op v)) h.0 in
    let built = value_built name c.args.op _ _ level _ (outer_of c.args.context.now) _ _ t kept k.tree k.level in
    let deep = deep_ended (level_seen c.args.context.now.level) _ (outer_of c.args.context.now) c.args.context.now.depth c.requires.counted.deep k.level in
    record {
      counted = record { named = tt; settled = ap (λ l. l.negations) k.level; deep = deep; shallow = omega arith; few = omega arith };
      built = built;
      faults = λ len xs. built_on (Values name c.args.op) (level_seen c.args.context.now.level) (outer_of c.args.context.now) c.args.context.now.comparisons len (record { at = c.args.at; start = c.args.start; lexeme = Whole (token_of c.args.token) }) (token_of c.args.token) xs _ c.requires.counted.settled refl built (good_value c.args.op c.in-Text.raw.now (token_of c.args.token) (marks_of (level_seen c.args.context.now.level) (outer_of c.args.context.now)) c.args.context.now.comparisons c.args.start t h.1 (omega arith));
    }
