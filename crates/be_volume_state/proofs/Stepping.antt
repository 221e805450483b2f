-- The operations left after one more step.
use Rattle.std.proofs.Common.{◌≡◌, ◌<◌, ◌+◌, ◌-◌, ◌++◌, ℕ, suc, List, [], ◌∷◌, length, min, take, drop, take-append-drop, append_assoc, refl, sym, ap, ◌∙◌, arith}
use Rattle.std.proofs.lemmas.List.{length-drop, length-take}
use Rattle.std.specs.List.{flat_map, range_with_len}
use Rattle.be_volume.specs.Volume.{State}
use Rattle.be_volume.specs.declared.ops.Op.{Op}
use Rattle.be_volume_state.specs.Places.{left_from}
use Rattle.be_volume_state.specs.Rebuilding.{held_ops, index_ops, number_ops, numbers_from}
use Rattle.be_volume_state.specs.declared.lists.Step.TheVariants.{Number, Held}

module _ (s : State) (node : ℕ) where
  numbers_step : node < s.next → numbers_from s node ≡ node ∷ numbers_from s (node + 1)
  numbers_step h = ap (range_with_len node) (one_less h)
    where
      one_less : node < s.next → s.next - node ≡ suc (s.next - (node + 1))
      one_less lt = omega (arith, lt)

  pub number_step : (piece : List Op) → node < s.next → piece ≡ number_ops s node → left_from s (Number node) ≡ piece ++ left_from s (Number (node + 1))
  number_step piece h e =
      let rest : List Op = index_ops s ++ flat_map (held_ops s) (numbers_from s 1) in
      ap (λ ns. flat_map (number_ops s) ns ++ rest) (numbers_step h) ∙ append_assoc (number_ops s node) (flat_map (number_ops s) (numbers_from s (node + 1))) rest
      ∙ ap (λ p. p ++ left_from s (Number (node + 1))) (sym e)

  pub held_step : (piece : List Op) → node < s.next → piece ≡ held_ops s node → left_from s (Held node) ≡ piece ++ left_from s (Held (node + 1))
  held_step piece h e = ap (flat_map (held_ops s)) (numbers_step h) ∙ ap (λ p. p ++ left_from s (Held (node + 1))) (sym e)

-- the first k are cut off
pub cut : (ready given rest beyond : List Op) (k : ℕ) → given ≡ take k ready → rest ≡ drop k ready → ready ++ beyond ≡ given ++ (rest ++ beyond)
cut ready given rest beyond k e f =
    ap (λ l. l ++ beyond) (sym (take-append-drop k ready)) ∙ append_assoc (take k ready) (drop k ready) beyond
    ∙ ap (λ l. l ++ (drop k ready ++ beyond)) (sym e) ∙ ap (λ l. given ++ (l ++ beyond)) (sym f)

empty_list : {A : Type 0} (xs : List A) → length xs ≡ 0 → xs ≡ []
empty_list [] e = refl
empty_list (x ∷ xs) e = absurd (omega arith)

-- nothing is left after a list that isn't full
pub last_cut : (ready given rest : List Op) (k : ℕ) → k ≡ min (length ready) 64 → given ≡ take k ready → rest ≡ drop k ready → length given < 64 →
    (rest ≡ []) × (length ready < 64)
last_cut ready given rest k m e f short =
    let some : length given ≡ min k (length ready) = ap length e ∙ length-take k ready in
    let none : length rest ≡ length ready - k = ap length f ∙ length-drop k ready in
    (empty_list rest (omega arith), omega arith)
