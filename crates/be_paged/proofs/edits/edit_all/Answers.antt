use Rattle.std.proofs.Common.{◌≡◌, ℕ, ◌≤◌, ◌<◌, ◌+◌, ◌^◌, IsOk, Ok, zero, suc, List, [], ◌∷◌, take, length, subst, sym, ap, ◌∙◌, refl, rules, arith, length-append}
use Rattle.be_volume.specs.Volume.{State, step}
use Rattle.be_volume.specs.Ahead.{reached}
use Rattle.be_volume.proofs.StepLemmas.{turn, performed}
use Rattle.be_volume.proofs.Soundness.{step_sound}
use Rattle.be_paged.specs.Changes.{Reaches, SetsSameValue}
use Rattle.be_paged_reading.specs.Page.{contents}
use Rattle.be_paged_reading.specs.Version.{Encodes}
use Rattle.be_paged.proofs.Applying.Composing.{changes_none, changes_trans, start_after}
use Rattle.be_paged.proofs.IndexEntries.Settled.{sets_ok, sets_same}
use Rattle.be_paged.proofs.Sizes.Stopping.{list_stops}
use Rattle.be_tree.proofs.Shape.Parts.{on_err}
use Rattle.be_paged.specs.Stops.{StopsList}
use Rattle.be_paged.proofs.edits.edit_all.Goals as goal

pub loop-op-init : goal.loop-op-init
loop-op-init g c = record {
  changes = changes_none g.R.Look.kept g.R.Look.page_state g.R.Look.words (contents c.args.version.now) c.args.room.now c.requires.in_hand.0;
  steps = λ volume encodes sound ok. record { made = volume; stepped = ap (λ xs. Ok (volume, xs)) (sym c.requires.lists.1); encodes = encodes; sound = sound };
  stays = λ volume encodes sound lies. (encodes, refl);
  next = omega arith;
  counted = ap length c.requires.lists.1;
  asked = c.requires.asked;
}

pub edit-requires-clause-asked : goal.edit-requires-clause-asked
edit-requires-clause-asked g c = c.loop-op.invariant.asked

pub edit-requires-clause-in_hand : goal.edit-requires-clause-in_hand
edit-requires-clause-in_hand g c =
    let few : length c.args.ops.now ≤ 64 = c.requires.lists.0 in
    (c.loop-op.invariant.changes.in_hand, omega (arith, c.loop-op.invariant.next, c.requires.in_hand.1, few, c.loop-op-test.true))

pub loop-op-preserved : goal.loop-op-preserved
loop-op-preserved g c =
    let few : length c.args.ops.now ≤ 64 = c.requires.lists.0 in
    let more : c.loop-op.op-index < length c.args.ops.now = c.loop-op-test.true in
    record {
      changes = changes_trans g.R.Look.kept g.R.Look.page_state g.R.Look.words (contents c.args.version.now) (contents c.loop-op.version) (contents c.edit.new.version) c.args.room.now c.loop-op.room c.edit.new.room
          c.loop-op.invariant.changes c.in_ok-edit.ensures.changes;
      steps = λ volume encodes sound ok.
          let r = c.loop-op.invariant.steps volume encodes sound ok in
          let now = turn volume c.args.ops.now c.loop-op.op-index c.op-item.result c.loop-op-test.true c.op-item.is ok in
          let accepted = subst (λ (s : State). IsOk (step s c.op-item.result)) (ap (reached volume) r.stepped) now.accepted in
          let fits : r.made.next + 1 < 2 ^ 64 = omega (arith, r.encodes.next, c.loop-op.invariant.next, c.requires.in_hand.1, few, more) in
          let e = c.in_ok-edit.ensures.steps r.made r.encodes r.sound fits accepted in
          record {
            made = e.made;
            stepped = performed volume r.made e.made _ c.args.ops.now c.loop-op.op-index c.op-item.result _ c.loop-op-test.true c.op-item.is r.stepped e.stepped ∙ ap (λ xs. Ok (e.made, xs)) (sym c.push.ensures.items);
            encodes = e.encodes;
            sound = step_sound r.made e.made c.op-item.result _ r.sound fits c.valid.ensures e.stepped;
          };
      stays = λ volume encodes sound lies.
          let r = c.loop-op.invariant.stays volume encodes sound lies in
          let this : SetsSameValue volume c.op-item.result = subst (SetsSameValue volume) (sym c.op-item.is) (lies c.loop-op.op-index c.op-item.result c.loop-op-test.true) in
          let fits : volume.next + 1 < 2 ^ 64 = omega (arith, r.0.next, c.loop-op.invariant.next, c.requires.in_hand.1, few, more) in
          let e = c.in_ok-edit.ensures.steps volume r.0 sound fits (sets_ok volume c.op-item.result this) in (
            subst (λ (s : State). Encodes (g.R.Look.words c.edit.new.room) (contents c.edit.new.version) s) (sets_same volume e.made c.op-item.result _ this e.stepped) e.encodes,
            c.in_ok-edit.ensures.stays volume r.0 sound this ∙ r.1,
          );
      next = omega (arith, c.loop-op.invariant.next, c.in_ok-edit.ensures.next);
      counted = ap length c.push.ensures.items ∙ length-append _ _ ∙ ap (λ n. n + 1) c.loop-op.invariant.counted;
      asked = tt;
    }

take_past : {A : Type 0} (xs : List A) (i : ℕ) → length xs ≤ i → take i xs ≡ xs
take_past [] zero le = refl
take_past [] (suc i) le = refl
take_past (x ∷ xs) zero le = absurd (omega (arith, le))
take_past (x ∷ xs) (suc i) le = ap (λ ys. x ∷ ys) (take_past xs i (omega (arith, le)))

pub returns-clause-steps : goal.returns-clause-steps
returns-clause-steps g c = λ volume encodes sound ok.
    subst (λ ops. Reaches (g.R.Look.words c.loop-op.room) (contents c.loop-op.version) volume ops c.loop-op.dones.items) (take_past c.args.ops.now c.loop-op.op-index c.loop-op-test.false)
    (c.loop-op.invariant.steps volume encodes sound ok)

pub returns-clause-stays : goal.returns-clause-stays
returns-clause-stays g c = λ volume encodes sound lies. (c.loop-op.invariant.stays volume encodes sound lies).1

pub returns-in_err-edit-clause-refused : goal.returns-in_err-edit-clause-refused
returns-in_err-edit-clause-refused g c =
    let back = start_after g.R.Look.kept g.R.Look.page_state g.R.Look.words (contents c.args.version.now) (contents c.loop-op.version) c.args.room.now c.loop-op.room c.edit.new.room c.loop-op.invariant.changes c.in_err-edit.ensures.refused.0 in
    let before = contents c.args.version.now in
    let start = c.args.room.now in
    let new = c.edit.new.room in
    let more : c.loop-op.op-index < length c.args.ops.now = c.loop-op-test.true in
    let k : StopsList g.R.Look.kept g.R.Look.page_state g.R.Look.words c.args.ops.now before start new =
    λ volume most indices encodes sound ok stays.
    let r = c.loop-op.invariant.steps volume encodes sound ok in
    list_stops g.R.Look.kept g.R.Look.page_state g.R.Look.words volume r.made c.args.ops.now c.loop-op.op-index most indices c.loop-op.dones.items before (contents c.loop-op.version) start c.loop-op.room new
    c.loop-op.invariant.changes r.encodes r.stepped (omega (arith, more)) stays c.in_err-edit.ensures.refused.2
    in
    (on_err _ back, search rules, on_err _ k)
