use Rattle.std.proofs.Common.{◌≡◌, ◌-◌, ap, sym, ◌∙◌, Some, length, arith, rules}
use Rattle.be_query.specs.Building.{build_from}
use Rattle.be_query.specs.Lexing.{lexemes, whole, tokens, Whole}
use Rattle.be_query.specs.View.{stage_of, state_of, fault_in, token_of, formula}
use Rattle.be_query.proofs.Loop.{separated, separated_shorter, taken, taken_shorter, no_lexemes, fault_within}
use Rattle.be_query.proofs.Sentences.{built_parses}
use Rattle.be_query.proofs.Few.{few_parsed, whole_text}
use Rattle.be_query.proofs.Held.{step_kept, end_kept}
use Rattle.be_query.proofs.query.parse.Goals as goal

pub lexemes-preserved-in-Separator : goal.lexemes-preserved-in-Separator
lexemes-preserved-in-Separator c =
    let i = c.lexemes.invariant in
    let e = separated c.lexemes.rest.now c.in-Separator.beyond.now (length c.args.text.now) c.in-Separator.ensures.front i.within in
    record {
      utf8 = search rules;
      within = (let h = separated_shorter c.lexemes.rest.now c.in-Separator.beyond.now c.in-Separator.ensures.front in omega arith);
      counted = i.counted;
      faults = ap (fault_in (stage_of c.lexemes.stage) c.lexemes.context (length c.args.text.now)) (sym e) ∙ i.faults;
      built = ap (λ l. build_from (Some (state_of (stage_of c.lexemes.stage) c.lexemes.context)) (whole l)) (sym e) ∙ i.built;
      kept = i.kept;
    }

pub lexemes-preserved : goal.lexemes-preserved
lexemes-preserved c =
    let i = c.lexemes.invariant in
    let f = c.in-Token.ensures.front in
    let p = c.in_ok-stage-in-Token.ensures.ok in
    let e = taken c.lexemes.rest.now c.in-Token.beyond.now (length c.args.text.now) f.0 c.in-Token.shift (Whole (token_of c.in-Token.token)) f.1 f.2 f.3 f.4 i.within in
    record {
      utf8 = search rules;
      within = (let h = taken_shorter c.lexemes.rest.now c.in-Token.beyond.now f.0 f.2 f.3 f.4 in omega arith);
      counted = p.counted;
      faults = sym (p.faults (length c.args.text.now) _) ∙ ap (fault_in (stage_of c.lexemes.stage) c.lexemes.context (length c.args.text.now)) (sym e) ∙ i.faults;
      built = ap (λ s. build_from s (whole (lexemes 0 (length c.args.text.now - length c.in-Token.beyond.now) c.in-Token.beyond.now))) (sym p.built) ∙ ap (λ l. build_from (Some (state_of (stage_of c.lexemes.stage) c.lexemes.context)) (whole l)) (sym e) ∙ i.built;
      kept = step_kept (state_of (stage_of c.lexemes.stage) c.lexemes.context) _ (token_of c.in-Token.token) i.kept c.in-Token.ensures.clean p.built;
    }

pub invariant_of-result : goal.invariant_of-result
invariant_of-result c =
    let i = c.lexemes.invariant in
    let fin = c.in_ok-tree.ensures in
    let empty : length c.lexemes.rest.now ≡ 0 = grind (arith, c.lexemes-test.ensures) in
    let none = no_lexemes (length c.args.text.now - length c.lexemes.rest.now) c.lexemes.rest.now empty in (
      few_parsed c.args.text.now (formula c.in_ok-tree.tree.value)
          (fault_within c.args.text.now (omega arith) ∙ sym i.faults ∙ ap (fault_in (stage_of c.lexemes.stage) c.lexemes.context (length c.args.text.now)) none ∙ fin.ends)
          (built_parses (tokens c.args.text.now) (state_of (stage_of c.lexemes.stage) c.lexemes.context) (formula c.in_ok-tree.tree.value) (sym i.built ∙ ap (λ l. build_from (Some (state_of (stage_of c.lexemes.stage) c.lexemes.context)) (whole l)) none) fin.ok),
      end_kept (state_of (stage_of c.lexemes.stage) c.lexemes.context) (formula c.in_ok-tree.tree.value) i.kept fin.ok,
    )

pub returns-clause-ok : goal.returns-clause-ok
returns-clause-ok c =
    let i = c.lexemes.invariant in
    let fin = c.in_ok-tree.ensures in
    let empty : length c.lexemes.rest.now ≡ 0 = grind (arith, c.lexemes-test.ensures) in
    let none = no_lexemes (length c.args.text.now - length c.lexemes.rest.now) c.lexemes.rest.now empty in
    let good = fault_within c.args.text.now (omega arith) ∙ sym i.faults ∙ ap (fault_in (stage_of c.lexemes.stage) c.lexemes.context (length c.args.text.now)) none ∙ fin.ends in (
      good,
      (whole_text c.args.text.now good, built_parses (tokens c.args.text.now) (state_of (stage_of c.lexemes.stage) c.lexemes.context) (formula c.in_ok-tree.tree.value) (sym i.built ∙ ap (λ l. build_from (Some (state_of (stage_of c.lexemes.stage) c.lexemes.context)) (whole l)) none) fin.ok),
    )
