use Rattle.std.proofs.Common.{arith, ap, refl}
use Rattle.be_query.specs.Building.{Joints, marks_of}
use Rattle.be_query.specs.Lexing.{Whole}
use Rattle.be_query.specs.View.{formula, level_seen, outer_of, token_of}
use Rattle.be_query.proofs.Steps.{outer_pop, outer_within, built_on, close_built, deep_closed, close_fault}
use Rattle.be_query.proofs.parser.take_joint.Goals as goal

pub overflow_add-ended : goal.overflow_add-ended
overflow_add-ended c = let h = outer_pop _ _ _ c.in-Some.ensures.items in let k = outer_within (level_seen c.args.context.now.level) _ _ _ h in omega arith

pub overflow_sub-context : goal.overflow_sub-context
overflow_sub-context c = let h = outer_pop _ _ _ c.in-Some.ensures.items in let k = outer_within (level_seen c.args.context.now.level) _ _ _ h in omega arith

pub returns-in_ok-tree-in-Close-clause-ok : goal.returns-in_ok-tree-in-Close-clause-ok
returns-in_ok-tree-in-Close-clause-ok c start =
    let s = c.in_ok-side-in-Close.ensures in
    let k = c.in_ok-tree-in-Close.ensures in
    let t = ap token_of c.in-Close.is in
    let o = outer_pop _ _ _ c.in-Some.ensures.items in
    let built = close_built _ _ (level_seen c.args.context.now.level) _ _ (outer_of c.args.context.now) _ _ _ t o s.tree k.tree k.level in
    let deep = deep_closed (level_seen c.args.context.now.level) _ _ (outer_of c.args.context.now) _ c.args.context.now.depth c.requires.settled o c.requires.deep k.level in
    record {
      counted = record { named = tt; settled = ap (λ l. l.negations) k.level; deep = deep; shallow = omega arith; few = omega arith };
      built = built;
      faults = λ len xs. built_on (Joints (formula c.args.tree.value)) (level_seen c.args.context.now.level) (outer_of c.args.context.now) c.args.context.now.comparisons len (record { at = c.args.at; start = start; lexeme = Whole (token_of c.args.token) }) (token_of c.args.token) xs _ c.requires.settled refl built (close_fault (token_of c.args.token) (marks_of (level_seen c.args.context.now.level) (outer_of c.args.context.now)) c.args.context.now.comparisons start t);
    }
