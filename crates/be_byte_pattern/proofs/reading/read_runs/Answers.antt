use Rattle.std.proofs.Common.{◌≡◌, ◌∷◌, ◌++◌, [], ℕ, List, length, map, refl, ap, ◌∙◌, arith, rules}
use Rattle.std.specs.Prelude.{string_bytes}
use Rattle.std.proofs.lemmas.Grind.{common_steps}
use Rattle.be_pattern.specs.Match.{Only}
use Rattle.be_byte_pattern.specs.Runs.{after_stars}
use Rattle.be_byte_pattern.proofs.CanonicalStarts.{leaves_none, leaves_run}
use Rattle.be_byte_pattern.proofs.reading.read_runs.Goals as goal

pushed : {X : Type 0} (f : X → List ℕ) (xs : List X) (x : X) → map f (xs ++ x ∷ []) ≡ map f xs ++ f x ∷ []
pushed f [] x = refl
pushed f (y ∷ xs) x = ap (λ l. f y ∷ l) (pushed f xs x)

empty_text : (bs : List ℕ) → length bs ≡ 0 → bs ≡ []
empty_text [] e = refl
empty_text (b ∷ bs) e = absurd (omega (arith, e))

pub stars-preserved : goal.stars-preserved
stars-preserved c = record {
  utf8 = search rules;
  leaves = λ ps e.
      let more : c.push.new.self.items ≡ c.stars.later.items ++ c.in_ok-run.run' ∷ [] = search rules in
      leaves_run ps (map Only (string_bytes c.in_ok-front.front)) (map string_bytes c.stars.later.items) (map string_bytes c.push.new.self.items)
      c.stars.rest.now c.in-Some.after.now c.in_ok-run.left_over.now (string_bytes c.in_ok-run.run')
      (ap (map string_bytes) more ∙ pushed string_bytes c.stars.later.items c.in_ok-run.run')
      c.in-Some.ensures.star c.in_ok-run.ensures.leaves (c.stars.invariant.leaves ps e);
}

pub returns-then-is_empty : goal.returns-then-is_empty
returns-then-is_empty c = λ ps e.
    let none : length c.stars.rest.now ≡ 0 = grind (arith, common_steps) in
    let all = leaves_none ps (map Only (string_bytes c.in_ok-front.front) ++ after_stars (map string_bytes c.stars.later.items)) c.stars.rest.now
    (empty_text c.stars.rest.now none) (c.stars.invariant.leaves ps e) in
    record { alone = all.1; bytes = all.0 }
