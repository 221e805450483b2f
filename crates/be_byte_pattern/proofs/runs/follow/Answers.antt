use Rattle.std.proofs.Common.{◌≡◌, ◌∷◌, length, map, ap, arith, rules}
use Rattle.std.specs.Prelude.{string_bytes}
use Rattle.std.proofs.lemmas.Grind.{common_steps}
use Rattle.be_byte_pattern.proofs.LiteralRuns.{none_mapped, run_absent, run_ends, run_passed, some_mapped}
use Rattle.be_byte_pattern.proofs.runs.follow.Goals as goal

pub returns-then-is_empty : goal.returns-then-is_empty
returns-then-is_empty c =
    let e : c.runs.left.now ≡ c.in-Some.run'.now ∷ c.in-Some.after.now = search rules in
    let none : length c.in-Some.after.now ≡ 0 = grind (arith, common_steps) in
    run_ends (map string_bytes c.runs.left.now) (map string_bytes c.in-Some.after.now) (string_bytes c.in-Some.run'.now) c.as_bytes.result.now c.runs.rest.now _ _
    (ap (map string_bytes) e) (none_mapped string_bytes c.in-Some.after.now none) c.as_bytes.ensures.value c.ends_with.ensures c.runs.invariant

pub returns-in_default-after_first : goal.returns-in_default-after_first
returns-in_default-after_first c =
    let e : c.runs.left.now ≡ c.in-Some.run'.now ∷ c.in-Some.after.now = search rules in
    run_absent (map string_bytes c.runs.left.now) (map string_bytes c.in-Some.after.now) (string_bytes c.in-Some.run'.now) c.as_bytes-in-Some.result.now c.runs.rest.now _
    (ap (map string_bytes) e) c.as_bytes-in-Some.ensures.value c.in_default-after_first.ensures.none c.runs.invariant

pub runs-preserved : goal.runs-preserved
runs-preserved c =
    let e : c.runs.left.now ≡ c.in-Some.run'.now ∷ c.in-Some.after.now = search rules in
    let some : length c.in-Some.after.now ≡ 0 → ⊥ = grind (arith, common_steps) in
    run_passed (map string_bytes c.runs.left.now) (map string_bytes c.in-Some.after.now) (string_bytes c.in-Some.run'.now) c.as_bytes-in-Some.result.now c.runs.rest.now c.in-Some-after_first.shorter.now _
    (ap (map string_bytes) e) (some_mapped string_bytes c.in-Some.after.now some) c.as_bytes-in-Some.ensures.value c.in-Some-after_first.ensures.some c.runs.invariant
