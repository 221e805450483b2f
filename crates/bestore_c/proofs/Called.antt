-- What calls do to an open handle.
use Rattle.std.proofs.Common.{◌≡◌, Bool, Option, Some, None, false, true, refl, sym, subst}
use Rattle.std.proofs.lemmas.Bool.{false≢true}
use Rattle.be_session.specs.Sitting.{Sitting}
use Rattle.bestore_c.specs.Calls.{Calls}
use Rattle.std.specs.Prelude.{is_some}

-- The call leaves the session unchanged.
pub stays : (p : Option Sitting) (closed : Type 0) (does : Sitting → Sitting → Type 0) → is_some p ≡ true → ((s : Sitting) → does s s) → Calls p p closed does
stays None closed does full all = absurd (false≢true full)
stays (Some s) closed does full all = (refl, refl, all s)

-- Reading the arguments fails before the session is called. Either the handle is closed, or the session is unchanged.
pub unasked : (p : Option Sitting) (live : Bool) (closed : Type 0) (does : Sitting → Sitting → Type 0) → live ≡ is_some p
    → (live ≡ false → closed) → (live ≡ true → (s : Sitting) → does s s) → Calls p p closed does
unasked None live closed does full shut all = shut full
unasked (Some s) live closed does full shut all = (refl, refl, all full s)

-- The call leaves another session of the same store.
pub called : (p q : Option Sitting) (s t : Sitting) (closed : Type 0) (does : Sitting → Sitting → Type 0) → p ≡ Some s → q ≡ Some t → t.store ≡ s.store
    → t.holds ≡ s.holds
    → does s t → Calls p q closed does
called p q s t closed does was is store holds done =
    subst (λ r. Calls r q closed does) (sym was) (subst (λ r. Calls (Some s) r closed does) (sym is) (store, holds, done))
