-- What a step leaves, if the `State` represents a sound state.
use Rattle.std.proofs.Common.{◌≡◌, Bool, true, false, IsTrue, IfOk, OnErr, sym, subst}
use Rattle.std.specs.declared.result.Result.{Result}
use Rattle.std.specs.declared.result.Result.TheVariants.{Ok, Err}
use Rattle.be_value.specs.declared.refusals.Refusal.{Refusal}
use Rattle.be_core.specs.declared.event.Event.{Event}
use Rattle.be_core.specs.declared.event.Event.TheVariants.{Look, Announce, LookAgain, Read, Unpin, Lock, Scan, Fill, Publish, Unlock}
use Rattle.be_core.specs.declared.state.State.{State}
use Rattle.be_core.specs.Laws.{LeavesNone}
use Rattle.be_core.specs.Machine.{Sound, Allowed, after_event}
use Rattle.be_core.specs.Shown.{shown, blank, Images, ShowsSound, IsUnchanged, MakesStep}
use Rattle.be_core.proofs.Schedules.{after-sound, after-leaves_none}

made-sound : (old new : State) (e : Event) (done : Bool) → MakesStep old (λ w. Allowed w e) (λ w. after_event w e) done new → ShowsSound old → ShowsSound new
made-sound old new e true made (image, s) = (_, subst Sound (sym (made image).1) (after-sound (shown old image) e s (made image).0))
made-sound old new e false made (image, s) = (image, subst Sound (sym (made image).1) s)

pub step-sound : (old new : State) (e : Event) (r : Result Bool Refusal) → IfOk r (λ done. MakesStep old (λ w. Allowed w e) (λ w. after_event w e) done new)
    → OnErr r (IsUnchanged old new) → ShowsSound old → ShowsSound new
step-sound old new e (Ok done) made same s = made-sound old new e done made s
step-sound old new e (Err x) made same (image, s) = (image, subst Sound (sym (same image)) s)

-- what a step leaves doesn't depend on the words of past versions
reads : (old new : State) (e : Event) (image after : Images) → LeavesNone (shown old image) e (shown new after) → LeavesNone (shown old blank) e (shown new blank)
reads old new (Look k) image after left = left
reads old new (Announce k) image after left = left
reads old new (LookAgain k) image after left = left
reads old new (Read k p i) image after left = left
reads old new (Unpin k) image after left = left
reads old new (Lock k) image after left = left
reads old new (Scan k j) image after left = left
reads old new (Fill k p i word) image after left = left
reads old new (Publish k v given) image after left = left
reads old new (Unlock k) image after left = left

made-leaves_none : (old new : State) (e : Event) (image : Images) → Sound (shown old image) → Allowed (shown old image) e → shown new (after_event (shown old image) e).image ≡ after_event (shown old image) e → LeavesNone (shown old blank) e (shown new blank)
made-leaves_none old new e image s may is = reads old new e image _ (subst (λ w. LeavesNone (shown old image) e w) (sym is) (after-leaves_none (shown old image) e s may))

pub step-leaves_none : (old new : State) (e : Event) (r : Result Bool Refusal) → IfOk r (λ done. MakesStep old (λ w. Allowed w e) (λ w. after_event w e) done new)
    → ShowsSound old → IfOk r (λ done. IsTrue done → LeavesNone (shown old blank) e (shown new blank))
step-leaves_none old new e (Ok true) made s = λ _. made-leaves_none old new e s.0 s.1 (made s.0).0 (made s.0).1
step-leaves_none old new e (Ok false) made s = λ no_true. absurd (cc)
step-leaves_none old new e (Err x) made s = tt
