-- Places that a loop fills one after another.
use Rattle.std.proofs.Common.{◌≡◌, ℕ, List, ◌++◌, ap, arith, drop, length, map, min, sym, take, ◌∙◌}
use Rattle.std.proofs.lemmas.List.{drop_min, length-map, take_min, take-append-drop, take-map}
use Rattle.bestore_c.specs.Places.{over}

module _ {X : Type 0} (number : X → ℕ) (xs : List X) where
  -- Every place for which there is a number holds the number.
  pub filled_all : (was is : List ℕ) (n : ℕ) → n ≡ min (length xs) (length was) → take n is ≡ map number (take n xs) → drop n is ≡ drop n was
      → is ≡ over (map number xs) was
  filled_all was is n count first rest =
      let least : n ≡ min (length was) (length xs) = omega (arith, count) in
      let numbers : take (length was) (map number xs) ≡ map number (take n xs) =
      take-map number (length was) xs ∙ ap (map number) (sym (take_min (length was) xs) ∙ ap (λ m. take m xs) (sym least)) in
      let others : drop (length (map number xs)) was ≡ drop n was =
      ap (λ m. drop m was) (length-map xs number) ∙ (sym (drop_min (length xs) was) ∙ ap (λ m. drop m was) (sym count)) in
      sym (take-append-drop n is) ∙ (ap (λ ns. ns ++ drop n is) (first ∙ sym numbers)
      ∙ ap (λ ns. take (length was) (map number xs) ++ ns) (rest ∙ sym others))
