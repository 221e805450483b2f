-- The keys that the value of a literal keeps in the range, and what the remaining keys imply.
use Rattle.std.proofs.Common.{◌≡◌, ℕ, true, false, List, [], ◌∷◌, ◌++◌, append_assoc, IsTrue, refl, sym, ap, ◌∙◌, subst}
use Rattle.std.specs.Ordering.{is_lt, is_gt}
use Rattle.be_value.specs.Key.{key}
use Rattle.be_value.specs.Value.{kind_of, is_indexable, value_cmp}
use Rattle.be_value.specs.declared.values.Kind.{Kind}
use Rattle.be_value.specs.declared.values.Value.{Value}
use Rattle.be_query.specs.Grammar.{Literal}
use Rattle.be_query.specs.declared.tree.Cmp.{Cmp}
use Rattle.be_query.specs.declared.tree.Cmp.TheVariants.{Eq, Lt, Le, Gt, Ge}
use Rattle.be_volume.specs.Maps.{name_cmp}
use Rattle.be_volume.specs.Query.{holds, is_true_of}
use Rattle.be_plan.specs.Narrow.{IsPair, Represents, HasEnds, last_node}
use Rattle.be_plan.proofs.Beside.{above_zero, below_zero, longer}
use Rattle.be_plan.proofs.Bounds.{above, below, equal_not_lower, equal_at_most, not_below, not_above, from_lowest, from_last, to_lowest, to_last, from_both}
use Rattle.be_plan.proofs.Ends.{beyond, before}

module _ (literal : Literal) (kind : Kind) (b : Value) (represents : Represents literal kind b) (front first after : List ℕ) (e : HasEnds b front first after)
    (v : Value) (n : ℕ) (p : IsPair kind v n) where
  indexable : IsTrue (is_indexable (kind_of b))
  indexable = let P : Kind → Type 0 = λ k. IsTrue (is_indexable k) in subst P (sym represents.kind_is) represents.indexable

  pair : IsPair (kind_of b) v n
  pair = record { is_value = p.is_value; kind_is = p.kind_is ∙ sym represents.kind_is; node_fits = p.node_fits }

  is : (op : Cmp) → holds op v literal ≡ is_true_of op (value_cmp v b)
  is op = represents.compares op v p.kind_is

  lowest_is : key b 0 ≡ (front ++ e.below) ++ 0 ∷ []
  lowest_is = sym e.least ∙ ap (λ a. front ++ a) e.first_is ∙ sym (append_assoc front e.below (0 ∷ []))

  after_is : front ++ after ≡ key b last_node ++ 0 ∷ []
  after_is = ap (λ a. front ++ a) e.after_is ∙ sym (append_assoc front e.last (0 ∷ [])) ∙ ap (λ k. k ++ 0 ∷ []) e.greatest

  pub equal_keeps_low : holds Eq v literal ≡ true → is_lt (name_cmp (key v n) (front ++ first)) ≡ false
  equal_keeps_low h = equal_not_lower b v n represents.is_value indexable pair (sym (is Eq) ∙ h) (front ++ first) e.least

  pub equal_keeps_high : holds Eq v literal ≡ true → is_gt (name_cmp (key v n) (front ++ e.last)) ≡ false
  equal_keeps_high h = equal_at_most b v n represents.is_value indexable pair (sym (is Eq) ∙ h) (front ++ e.last) e.greatest

  pub lower_keeps : holds Lt v literal ≡ true → is_gt (name_cmp (key v n) (front ++ e.below)) ≡ false
  lower_keeps h =
      let P : List ℕ → Type 0 = λ k. is_lt (name_cmp (key v n) k) ≡ true in
      below_zero (key v n) (front ++ e.below) (subst P lowest_is (below b v n represents.is_value indexable pair (sym (is Lt) ∙ h) (key b 0) refl))

  pub at_most_keeps : holds Le v literal ≡ true → is_gt (name_cmp (key v n) (front ++ e.last)) ≡ false
  at_most_keeps h = not_above b v n represents.is_value indexable pair (sym (is Le) ∙ h) (front ++ e.last) e.greatest

  pub higher_keeps : holds Gt v literal ≡ true → is_lt (name_cmp (key v n) (front ++ after)) ≡ false
  higher_keeps h = ap (λ k. is_lt (name_cmp (key v n) k)) after_is
      ∙ above_zero (key v n) (key b last_node) (above b v n represents.is_value indexable pair (sym (is Gt) ∙ h) (key b last_node) refl)

  pub not_lower_keeps : holds Ge v literal ≡ true → is_lt (name_cmp (key v n) (front ++ first)) ≡ false
  not_lower_keeps h = not_below b v n represents.is_value indexable pair (sym (is Ge) ∙ h) (front ++ first) e.least

  from_low : is_lt (name_cmp (key v n) (front ++ first)) ≡ false → is_lt (name_cmp (key v n) (key b 0)) ≡ false
  from_low h = ap (λ k. is_lt (name_cmp (key v n) k)) (sym e.least) ∙ h

  to_high : is_gt (name_cmp (key v n) (front ++ e.last)) ≡ false → is_gt (name_cmp (key v n) (key b last_node)) ≡ false
  to_high h = ap (λ k. is_gt (name_cmp (key v n) k)) (sym e.greatest) ∙ h

  pub equal_reported : is_lt (name_cmp (key v n) (front ++ first)) ≡ false → is_gt (name_cmp (key v n) (front ++ e.last)) ≡ false → holds Eq v literal ≡ true
  equal_reported low high = is Eq ∙ from_both b v n represents.is_value indexable pair (from_low low) (to_high high)

  pub lower_reported : is_gt (name_cmp (key v n) (front ++ e.below)) ≡ false → holds Lt v literal ≡ true
  lower_reported h =
      let up : is_gt (name_cmp (key b 0) (front ++ e.below)) ≡ true = ap (λ k. is_gt (name_cmp k (front ++ e.below))) lowest_is ∙ longer (front ++ e.below) in
      is Lt ∙ to_lowest b v n represents.is_value indexable pair (before (key v n) (front ++ e.below) (key b 0) up h)

  pub at_most_reported : is_gt (name_cmp (key v n) (front ++ e.last)) ≡ false → holds Le v literal ≡ true
  at_most_reported h = is Le ∙ to_last b v n represents.is_value indexable pair (to_high h)

  pub higher_reported : is_lt (name_cmp (key v n) (front ++ after)) ≡ false → holds Gt v literal ≡ true
  higher_reported h =
      let up : is_gt (name_cmp (front ++ after) (key b last_node)) ≡ true = ap (λ k. is_gt (name_cmp k (key b last_node))) after_is ∙ longer (key b last_node) in
      is Gt ∙ from_last b v n represents.is_value indexable pair (beyond (key v n) (front ++ after) (key b last_node) up h)

  pub not_lower_reported : is_lt (name_cmp (key v n) (front ++ first)) ≡ false → holds Ge v literal ≡ true
  not_lower_reported h = is Ge ∙ from_lowest b v n represents.is_value indexable pair (from_low h)
