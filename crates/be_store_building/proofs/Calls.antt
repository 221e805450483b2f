-- What a call of the builder of volumes leaves, and what is said of it.
use Rattle.std.proofs.Common.{◌≡◌, ◌⊎◌, ℕ, List, length, Option, None, Some, Result, Ok, Err, subst, sym, ap, ◌∙◌, refl, inl, inr}
use Rattle.std.specs.Prelude.{IfErr, IfOk, OnErr, OnOk}
use Rattle.be_pages.specs.declared.room.PageState.{PageState}
use Rattle.be_paged_building.specs.Building.{IsNoRoom, IsTooLarge, Refuses as Declines}
use Rattle.be_paged_building.specs.declared.building.VolumeBuilder.{VolumeBuilder}
use Rattle.be_store_building.specs.Building.{Building, IsSpent, Refuses, failed_with}
use Rattle.be_store_building.specs.Failing.{IsFailure, IsLast}
use Rattle.be_store_building.specs.FirstPages.{NoneFree, state_in}
use Rattle.be_store_building.specs.Inside.{IsWhole}
use Rattle.be_store_building.specs.declared.first_pages.FirstPages.{FirstPages}
use Rattle.be_store_building.proofs.Encoding.{needs_more}
use Rattle.be_table.specs.declared.limits.Limits.{Limits}
use Rattle.be_tree.specs.Counting.{HasInHand}
use Rattle.be_value.specs.declared.refusals.Refusal.{Refusal}
use Rattle.be_value.specs.declared.refusals.Refusal.TheVariants.{Full}
use Rattle.be_volume.specs.Volume.{State}

-- after a call that doesn't end the building, the builder is whole
pub still : {A : Type 0} (answer : Result A Refusal) (found : Option Refusal) (P : Type 0) → IsFailure answer found → OnOk answer P → IfErr answer (λ e. P ⊎ IsLast e) → found ≡ None → P
still (Ok x) found P failure ok err none = ok
still (Err e) found P failure ok (inl p) none = p
still (Err e) found P (inl failed) ok (inr last) none = absurd (some e (sym failed.0 ∙ none))
  where
    some : (f : Refusal) → Some f ≡ None → ⊥
    some f is = cc
still (Err e) found P (inr failed) ok (inr last) none = absurd (failed.1 last)

pub either : {A : Type 0} (answer : Result A Refusal) (P : Type 0) → OnOk answer P → OnErr answer P → P
either (Ok x) P ok err = ok
either (Err e) P ok err = err

pub declined : {S A : Type 0} (before after : VolumeBuilder) (why room : Refusal → Type 0) (answer : Result A Refusal) (old new : S) (P : Type 0) → ((e : Refusal) → room e → IsLast e) → (after ≡ before → new ≡ old → P)
    → Declines before after why room answer old new → IfErr answer (λ e. P ⊎ IsLast e)
declined before after why room (Ok x) old new P last same h = tt
declined before after why room (Err e) old new P last same (inl declines) = inl (same declines.1 declines.2)
declined before after why room (Err e) old new P last same (inr full) = inr (last e full)

pub on_ok : {A : Type 0} (answer : Result A Refusal) (P Q X : Type 0) → OnOk answer P → OnOk answer Q → (P → Q → X) → OnOk answer X
on_ok (Ok x) P Q X p q f = f p q
on_ok (Err e) P Q X p q f = tt

pub on_err : {A : Type 0} (answer : Result A Refusal) (P X : Type 0) → OnErr answer P → (P → X) → OnErr answer X
on_err (Ok x) P X p f = tt
on_err (Err e) P X p f = f p

pub passed : {A : Type 0} (r : Result A Refusal) (e : Refusal) (why : Refusal → Type 0) → IfErr r (λ f. f ≡ e) → why e → IfErr r why
passed (Ok x) e why is reason = tt
passed (Err f) e why is reason = subst why (sym is) reason

pub whole_still : (pages left : FirstPages) (volume after : VolumeBuilder) → IsWhole pages volume → after ≡ volume → left ≡ pages → IsWhole left after
whole_still pages left volume after whole same kept = subst (λ v. IsWhole left v) (sym same) (subst (λ p. IsWhole p volume) (sym kept) whole)

-- an error for want of room ends the building
pub spends : (left : FirstPages) (pages : ℕ) (volume : State) (held : List ℕ) (old : ℕ → PageState) → length left.states.items ≡ pages → HasInHand old held
    → (e : Refusal) → IsNoRoom (λ least. (least ≡ 0) × NoneFree left.states.items) (IsTooLarge volume held old (state_in left.states.items)) e → IsSpent pages volume e
spends left pages volume held old len hand e (inl memory) = inl memory
spends left pages volume held old len hand e (inr none) = inr (none.0.1 ∙ ap Full none.0.2.0, needs_more left.states.items none.0.2.1 left.own pages volume held old len hand none.1)

-- what a builder says of such a call
abbrev pub made : Limits → State → Option Refusal → Building
made limits volume failed = record { limits = limits; volume = volume; failed = failed }

same_building : (limits : Limits) (v w : State) (f g : Option Refusal) → v ≡ w → f ≡ g → made limits v f ≡ made limits w g
same_building limits v w f g p q = subst (λ x. made limits v f ≡ made limits x g) p (ap (made limits v) q)

pub accepted : {A : Type 0} (answer : Result A Refusal) (found : Option Refusal) (limits : Limits) (now volume : State) → IsFailure answer found → OnOk answer (now ≡ volume) → OnOk answer (made limits now found ≡ made limits volume None)
accepted (Ok x) found limits now volume failure is = same_building limits now volume found None is failure
accepted (Err e) found limits now volume failure is = tt

pub refused : {S A : Type 0} (before after : VolumeBuilder) (why room spent : Refusal → Type 0) (answer : Result A Refusal) (f found : Option Refusal) (limits : Limits) (was is : State) (old new : S) → f ≡ None
    → ((e : Refusal) → why e → IsLast e → ⊥) → ((e : Refusal) → room e → IsLast e) → ((e : Refusal) → room e → spent e) → IsFailure answer found → OnErr answer (is ≡ was) → Declines before after why room answer old new
    → IfErr answer (Refuses why spent (made limits was f) (made limits is found))
refused before after why room spent (Ok x) f found limits was is old new none mild last ends failure same h = tt
refused before after why room spent (Err e) f found limits was is old new none mild last ends failure same (inl declines) = inr (none, inl (declines.0, by failure))
  where
    by : ((found ≡ Some e) × IsLast e) ⊎ ((found ≡ None) × (IsLast e → ⊥)) → made limits is found ≡ made limits was f
    by (inl failed) = absurd (mild e declines.0 failed.1)
    by (inr failed) = same_building limits is was found f same (failed.0 ∙ sym none)
refused before after why room spent (Err e) f found limits was is old new none mild last ends failure same (inr full) = inr (none, inr (ends e full, by failure))
  where
    by : ((found ≡ Some e) × IsLast e) ⊎ ((found ≡ None) × (IsLast e → ⊥)) → made limits is found ≡ failed_with (made limits was f) e
    by (inl failed) = same_building limits is was found (Some e) same failed.0
    by (inr failed) = absurd (failed.1 (last e full))
