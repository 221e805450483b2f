use Rattle.std.proofs.Common.{◌≡◌, ◌∷◌, ◌++◌, ◌<◌, List, length, drop, map, false, sym, ap, ◌∙◌, arith, rules, length-drop}
use Rattle.be_pattern.specs.Match.{Part, Run, Only, matches, some_tail}
use Rattle.be_byte_pattern.proofs.LiteralRuns.{first_serves, nothing_sought, one_passed, passed_to, run_missing, run_too_long}
use Rattle.be_byte_pattern.proofs.runs.after_first.Goals as goal
use Rattle.be_byte_pattern.proofs.runs.after_first.Goals.{After-place_of-at}

-- the positions that one step has skipped
passed : (c : After-place_of-at) (ps : List Part) → some_tail (matches (map Only c.args.run.now ++ ps)) (drop c.place_of-at.result c.places.rest.now) ≡ some_tail (matches (map Only c.args.run.now ++ ps)) c.places.rest.now
passed c ps =
    let e : c.args.run.now ≡ c.in-Some.first.now ∷ c.in-Some.others.now = search rules in
    passed_to c.args.run.now c.places.rest.now c.in-Some.first.now c.in-Some.others.now c.place_of-at.result ps e (omega arith) c.place_of-at.ensures.missing

pub returns-in_default-clause-some : goal.returns-in_default-clause-some
returns-in_default-clause-some c = λ ps. nothing_sought c.args.run.now c.args.bytes.now ps c.in_default.ensures.cases

pub returns-then-at-end-clause-none : goal.returns-then-at-end-clause-none
returns-then-at-end-clause-none c = λ ps.
    let run = c.args.run.now in
    let rest = c.places.rest.now in
    let at = c.place_of-at.result in
    let e : run ≡ c.in-Some.first.now ∷ c.in-Some.others.now = search rules in
    let short : length (drop at rest) < length run = omega (arith, length-drop at rest, ap length e) in
    sym (c.places.invariant ps) ∙ sym (passed (goal.at.returns-then-at-end-clause-none c).After-place_of-at ps) ∙ run_too_long run (drop at rest) ps short

pub returns-in-Some-after_run-clause-some : goal.returns-in-Some-after_run-clause-some
returns-in-Some-after_run-clause-some c = λ ps.
    let run = c.args.run.now in
    sym (c.places.invariant (Run ∷ ps)) ∙ sym (passed (goal.at.returns-in-Some-after_run-clause-some c).After-place_of-at (Run ∷ ps))
    ∙ ap (some_tail (matches (map Only run ++ (Run ∷ ps)))) (sym c.split_at.ensures.back ∙ c.in-Some-after_run.ensures.some)
    ∙ first_serves run c.in-Some-after_run.after.now ps

pub places-preserved : goal.places-preserved
places-preserved c = λ ps.
    let run = c.args.run.now in
    let p = matches (map Only run ++ ps) in
    let here = c.split_at.result.1.now in
    let missing : p here ≡ false = run_missing run here ps c.in_default-after_run.ensures.none in
    ap (some_tail p) c.after_byte-rest.ensures ∙ one_passed p here missing
    ∙ ap (some_tail p) c.split_at.ensures.back ∙ passed (goal.at.places-preserved c).After-place_of-at ps ∙ c.places.invariant ps

pub returns-clause-none : goal.returns-clause-none
returns-clause-none c = λ ps. sym (c.places.invariant ps) ∙ run_too_long c.args.run.now c.places.rest.now ps c.places-test.false
