-- The nodes of a range, listed once and put in order, are as many as the range has keys.
use Rattle.std.proofs.Common.{◌≡◌, ℕ, List, [], length, refl, subst, inl, inr}
use Rattle.std.specs.List.Sorted.{IsStrictlyIncreasing}
use Rattle.std.specs.declared.option.Option.{Option}
use Rattle.be_plan.specs.Walk.{HasNodes, HasOnly, Keeps}
use Rattle.be_plan.proofs.Marked.{nothing_in}
use Rattle.be_volume.specs.Volume.{State}
use Rattle.be_ways.specs.Ways.{HasKeys}

pub are_keys : (s : State) (name low : List ℕ) (high : Option (List ℕ)) (before found nodes : List ℕ) → before ≡ [] → HasNodes s name low high found
    → HasOnly s name low high before found → Keeps found nodes → Keeps nodes found → IsStrictlyIncreasing nodes → HasKeys s name low high (length nodes)
are_keys s name low high before found nodes empty has only keeps back rising = record {
  nodes = nodes;
  rising = rising;
  has = λ k h within. keeps h.node (has k h within);
  only = λ n there. elim (only n (back n there)) [
    | inl old ↦ absurd (nothing_in before n empty old)
    | inr is ↦ is
  ];
  count_is = refl;
}

-- The same for a range whose name and bounds equal these.
pub same_keys : (s : State) (name name2 low low2 : List ℕ) (high high2 : Option (List ℕ)) (count count2 : ℕ) → name ≡ name2 → low ≡ low2 → high ≡ high2 → count ≡ count2
    → HasKeys s name low high count → HasKeys s name2 low2 high2 count2
same_keys s name name2 low low2 high high2 count count2 e f g h has =
    let by_name = subst (λ (x : List ℕ). HasKeys s x low high count) e has in
    let by_low = subst (λ (x : List ℕ). HasKeys s name2 x high count) f by_name in
    let by_high = subst (λ (x : Option (List ℕ)). HasKeys s name2 low2 x count) g by_low in
    subst (λ (x : ℕ). HasKeys s name2 low2 high2 x) h by_high
