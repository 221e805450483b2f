-- What lists of operations, and reads, leave of versions.
use Rattle.std.proofs.Common.{◌≡◌, ◌⊎◌, ℕ, List, Ok, Err, IsTrue, true, false, inl, inr, ap, sym, subst, ◌∙◌, refl}
use Rattle.std.specs.declared.result.Result.{Result}
use Rattle.be_value.specs.declared.refusals.Refusal.{Refusal}
use Rattle.be_pages.specs.declared.room.PageState.{PageState}
use Rattle.be_pages.specs.declared.room.PageState.TheVariants.{Free, Old, GivenUp, Taken, Filled}
use Rattle.be_pages.specs.Pages.{IsUnchanged, KeepsStart, is_kept, after_keep, after_undo}
use Rattle.be_tree_reading.specs.Forest.{IsWriteStart}
use Rattle.be_tree_reading.proofs.Frame.{unchanged_start}
use Rattle.be_volume.specs.Volume.{State}
use Rattle.be_volume.specs.declared.ops.Done.{Done}
use Rattle.be_paged_reading.specs.Version.{IsVersion}
use Rattle.be_paged_reading.proofs.Versions.{version_since}

made_by : Result (State × List Done) Refusal → State → State
made_by (Ok reached) none = reached.0
made_by (Err e) none = none

-- a list makes only one volume
pub one_made : {r : Result (State × List Done) Refusal} {made new : State} {a b : List Done} → r ≡ Ok (made, a) → r ≡ Ok (new, b) → made ≡ new
unfolding made_by
one_made {made = made} p q = ap (λ r. made_by r made) (sym p ∙ q)

-- what was there when the write began is there again once a refused list is undone
pub refused_start : {S K A B C : Type 0} (kept_of : S → K) (page_state_of : S → ℕ → PageState) (words_of : S → ℕ → ℕ → ℕ) (old new : S)
    → (A × IsUnchanged kept_of page_state_of words_of old new) ⊎ (B × C × KeepsStart kept_of page_state_of words_of old new) → KeepsStart kept_of page_state_of words_of old new
refused_start kept_of page_state_of words_of old new (inl h) = unchanged_start kept_of page_state_of words_of old new h.1
refused_start kept_of page_state_of words_of old new (inr h) = h.2

-- both forms, if there were only reads since
pub stays_since : (s t : ℕ → PageState) (v w : ℕ → ℕ → ℕ) (page : ℕ) (volume : State) → t ≡ s → w ≡ v
    → IsVersion s v page volume × IsWriteStart s → IsVersion t w page volume × IsWriteStart t
stays_since s t v w page volume same_page_state same_words h =
    (version_since s t v w page volume same_page_state same_words h.0, subst IsWriteStart (sym same_page_state) h.1)

clash : false ≡ true → ⊥
clash e = cc

-- the next write can begin once one is kept or undone
pub kept_start : (s kept : ℕ → PageState) → ((q : ℕ) → kept q ≡ after_keep (s q)) → IsWriteStart kept
kept_start s kept same q used = same q ∙ by (s q) (subst (λ (x : PageState). IsTrue (is_kept x)) (same q) used)
  where
    by : (x : PageState) → IsTrue (is_kept (after_keep x)) → after_keep x ≡ Old
    by Free h = absurd (clash h)
    by Old h = refl
    by GivenUp h = absurd (clash h)
    by Taken h = refl
    by Filled h = refl

pub undone_start : (s undone : ℕ → PageState) → ((q : ℕ) → undone q ≡ after_undo (s q)) → IsWriteStart undone
undone_start s undone same q used = same q ∙ by (s q) (subst (λ (x : PageState). IsTrue (is_kept x)) (same q) used)
  where
    by : (x : PageState) → IsTrue (is_kept (after_undo x)) → after_undo x ≡ Old
    by Free h = absurd (clash h)
    by Old h = refl
    by GivenUp h = refl
    by Taken h = absurd (clash h)
    by Filled h = absurd (clash h)
