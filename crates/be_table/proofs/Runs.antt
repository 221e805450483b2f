-- The moves of a table, as the machine's events.
use Rattle.std.proofs.Common.{List, [], ◌∷◌, ◌++◌, refl, sym, subst}
use Rattle.be_core.specs.declared.event.Event.TheVariants as events
use Rattle.be_core.specs.Machine.{World, Sound, first_state}
use Rattle.be_core.proofs.Schedules.{first-sound, fill-sound, sound-protected}
use Rattle.be_core.proofs.Readers.{after_look-sound, after_announce-sound, after_look_again-sound, after_unpin-sound}
use Rattle.be_core.proofs.Scans.{after_scan-sound}
use Rattle.be_core.proofs.Writers.{after_lock-sound, after_unlock-sound, after_return-sound, after_publish-sound}
use Rattle.be_table.specs.declared.pass.Move.{Move}
use Rattle.be_table.specs.declared.pass.Move.TheVariants.{Look, Announce, LookAgain, Unpin, Lock, Scan, Fill, Publish, Unlock, Return}
use Rattle.be_table.specs.Laws.{EventsAreMoves, RunsAreSound, FrontsRun}
use Rattle.be_table.specs.Trace.{MayMove, after_move, Run}

pub events_are_moves : EventsAreMoves
events_are_moves w (events.Look k) may = (may, refl)
events_are_moves w (events.Announce k) may = (may, refl)
events_are_moves w (events.LookAgain k) may = (may, refl)
events_are_moves w (events.Read k p i) may = refl
events_are_moves w (events.Unpin k) may = (may, refl)
events_are_moves w (events.Lock k) may = (may, refl)
events_are_moves w (events.Scan k j) may = (may, refl)
events_are_moves w (events.Fill k p i word) may = (may, refl)
events_are_moves w (events.Publish k page given) may = (may, refl)
events_are_moves w (events.Unlock k) may = (may, refl)

move-sound : (w : World) (m : Move) → Sound w → MayMove w m → Sound (after_move w m)
move-sound w (Look k) s may = after_look-sound w s k may
move-sound w (Announce k) s may = after_announce-sound w s k may
move-sound w (LookAgain k) s may = after_look_again-sound w s k may
move-sound w (Unpin k) s may = after_unpin-sound w s k may
move-sound w (Lock k) s may = after_lock-sound w s k may
move-sound w (Scan k j) s may = after_scan-sound w s k j may
move-sound w (Fill k p i word) s may = fill-sound w k p i word s may
move-sound w (Publish k page given) s may = after_publish-sound w s k page given may
move-sound w (Unlock k) s may = after_unlock-sound w s k may
move-sound w (Return k p) s may = after_return-sound w s p may.1

run-sound : (w : World) (ms : List Move) (v : World) → Sound w → Run w ms v → Sound v
run-sound w [] v s r = subst Sound (sym r) s
run-sound w (m ∷ ms) v s r = run-sound (after_move w m) ms v (move-sound w m s r.0) r.1

pub runs_are_sound : RunsAreSound
runs_are_sound limits words ms w inside r =
    let s = run-sound _ ms w (first-sound limits.pages limits.used limits.passes limits.commits words inside) r in
    (s, sound-protected w s)

run-front : (w : World) (front rest : List Move) (v : World) → Run w (front ++ rest) v → (mid : World) × Run w front mid × Run mid rest v
run-front w [] rest v r = (w, refl, r)
run-front w (m ∷ front) rest v r = let x = run-front (after_move w m) front rest v r.1 in (x.0, (r.0, x.1), x.2)

pub fronts_run : FrontsRun
fronts_run limits words front rest w r = run-front (first_state limits.pages limits.used limits.passes limits.commits words) front rest w r
