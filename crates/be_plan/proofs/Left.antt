-- What a list of nodes of a range's keys, tested against the remaining condition, contains.
use Rattle.std.proofs.Common.{◌≡◌, ◌∙◌, ℕ, List, sym, subst, inl, inr}
use Rattle.std.specs.declared.option.Option.{Option}
use Rattle.std.specs.declared.option.Option.TheVariants.{Some}
use Rattle.be_value.specs.declared.values.Kind.{Kind}
use Rattle.be_query.specs.Grammar.{Formula}
use Rattle.be_volume.specs.Query.{sat}
use Rattle.be_volume.specs.Reading.{index_kind}
use Rattle.be_volume.specs.Sound.{IsSound}
use Rattle.be_volume.specs.Volume.{State}
use Rattle.be_plan.specs.Narrow.{LeavesRest}
use Rattle.be_plan.specs.Walk.{Collects, HasOnlyTrue, HasWithin, Keeps}
use Rattle.be_plan.proofs.Seen.{left_key}

-- The name `own` and the bounds `from` and `to` are those of the range, and `tested` is the
-- remaining condition.
module _ (s : State) (sound : IsSound s) (f rest tested : Formula) (name own low from : List ℕ) (high to : Option (List ℕ)) (kind : Kind) (kind_is : index_kind s name ≡ Some kind)
    (leaves : LeavesRest f name kind low high (Some rest)) (is : tested ≡ rest) (is_name : own ≡ name) (is_low : from ≡ low) (is_high : to ≡ high)
  where
    -- What was added satisfies the formula.
    pub adds_left : (before after : List ℕ) → Keeps before after → HasOnlyTrue s tested own from to before after → Collects s f before after
    adds_left before after keeps only =
        let R : Formula → Type 0 = λ q. HasOnlyTrue s q own from to before after in
        let N : List ℕ → Type 0 = λ m. HasOnlyTrue s rest m from to before after in
        let L : List ℕ → Type 0 = λ l. HasOnlyTrue s rest name l to before after in
        let H : Option (List ℕ) → Type 0 = λ h. HasOnlyTrue s rest name low h before after in
        let all : HasOnlyTrue s rest name low high before after = subst H is_high (subst L is_low (subst N is_name (subst R is only))) in
        let P : ℕ → Type 0 = λ m. sat s f m ≡ sat s rest m in
        record {
          keeps = keeps;
          only = λ n h. elim (all n h) [
            | inl there ↦ inl there
            | inr w ↦ inr (subst P w.0.node_is (left_key s sound name w.0.key w.0.is_key kind kind_is f low high (Some rest) leaves w.0.within) ∙ w.1)
          ];
        }

    -- Every node that satisfies the formula has been found.
    pub has_left : (found : List ℕ) → HasWithin s tested own from to found → HasWithin s f name low high found
    has_left found has =
        let R : Formula → Type 0 = λ q. HasWithin s q own from to found in
        let N : List ℕ → Type 0 = λ m. HasWithin s rest m from to found in
        let L : List ℕ → Type 0 = λ l. HasWithin s rest name l to found in
        let H : Option (List ℕ) → Type 0 = λ h. HasWithin s rest name low h found in
        let all : HasWithin s rest name low high found = subst H is_high (subst L is_low (subst N is_name (subst R is has))) in
        λ k h w holds. all k h w (sym (left_key s sound name k h kind kind_is f low high (Some rest) leaves w) ∙ holds)
