use Rattle.std.proofs.Common.{ℕ, ◌+◌, ◌<◌, ◌^◌, sym, subst, ◌∙◌, refl, rules, arith}
use Rattle.be_volume.specs.declared.ops.Op.TheVariants.{Drop}
use Rattle.be_volume.proofs.StepLemmas.{accepted}
use Rattle.be_paged_reading.specs.Page.{contents}
use Rattle.be_paged_reading.specs.Version.{Encodes}
use Rattle.be_paged.proofs.Applying.Composing.{changes_none, changes_trans, changes_since, in_hand_since, start_since, start_after}
use Rattle.be_paged.proofs.Applying.Dropping.{leaves_first}
use Rattle.be_paged.proofs.Applying.Emptying.{first_has, bare_of, unset_ok, thinner, some_there}
use Rattle.be_paged_reading.proofs.CatalogPairs.Validity.{values_valid}
use Rattle.be_paged.specs.Stops.{Gains}
use Rattle.be_paged.proofs.Sizes.Stopping.{gains_none, gains_trans, stops_after, stops_since}
use Rattle.be_tree.proofs.Shape.Parts.{on_err}
use Rattle.be_paged.proofs.edits.unset_all.Goals as goal

pub loop-init : goal.loop-init
loop-init g c = record {
  changes = changes_none g.R.Look.kept g.R.Look.page_state g.R.Look.words (contents c.args.version.now) c.args.room.now c.requires.in_hand;
  gains = gains_none (g.R.Look.words c.args.room.now) 0 (contents c.args.version.now);
  next = refl;
  thinned = λ volume encodes sound fits ok. record {
    left = volume;
    encodes = encodes;
    leaves = leaves_first volume c.args.node sound (accepted volume (Drop c.args.node) ok).found;
    counted = omega (arith, sound.few_attributes c.args.node);
  };
}

pub first_attribute-requires : goal.first_attribute-requires
first_attribute-requires g c = record { tree = c.loop.invariant.changes.in_hand.trees.each 0 0 (omega arith) }

pub unset_value-requires-clause-in_hand : goal.unset_value-requires-clause-in_hand
unset_value-requires-clause-in_hand g c =
    in_hand_since g.R.Look.kept g.R.Look.page_state g.R.Look.words (contents c.loop.version) c.loop.room c.first_attribute.new.look c.first_attribute.ensures.unchanged c.loop.invariant.changes.in_hand

pub unset_value-requires-clause-known : goal.unset_value-requires-clause-known
unset_value-requires-clause-known g c = c.in-Some.ensures.place

pub loop-preserved : goal.loop-preserved
loop-preserved g c =
    let w = g.R.Look.words in
    let step = changes_since g.R.Look.kept g.R.Look.page_state g.R.Look.words (contents c.loop.version) (contents c.unset_value.new.version) c.loop.room c.first_attribute.new.look c.unset_value.new.room
    c.first_attribute.ensures.unchanged c.in_ok-unset_value.ensures.changes.0 in
    record {
      changes = changes_trans g.R.Look.kept g.R.Look.page_state g.R.Look.words (contents c.args.version.now) (contents c.loop.version) (contents c.unset_value.new.version) c.args.room.now c.loop.room c.unset_value.new.room
          c.loop.invariant.changes step;
      gains = gains_trans 0 0 0 (w c.args.room.now) (w c.loop.room) (w c.unset_value.new.room) (contents c.args.version.now) (contents c.loop.version) (contents c.unset_value.new.version) c.loop.invariant.gains
          (subst (λ (v : ℕ → ℕ → ℕ). Gains 0 v (w c.unset_value.new.room) (contents c.loop.version) (contents c.unset_value.new.version)) c.first_attribute.ensures.unchanged.words c.in_ok-unset_value.ensures.changes.1) (omega arith);
      next = c.in_ok-unset_value.ensures.next ∙ c.loop.invariant.next;
      thinned = λ volume encodes sound fits ok.
          let r = c.loop.invariant.thinned volume encodes sound fits ok in
          let first = c.in-Some.ensures.name r.left.nodes r.encodes.catalog (values_valid r.left r.leaves.sound) in
          let has = first_has r.left.nodes c.args.node c.in-Some.name (values_valid r.left r.leaves.sound) first in
          let read = subst (λ (w : ℕ → ℕ → ℕ). Encodes w (contents c.loop.version) r.left) (sym c.first_attribute.ensures.unchanged.words) r.encodes in
          let more : r.left.next + 1 < 2 ^ 64 = omega (arith, r.leaves.next, fits) in
          thinner volume r.left c.args.node c.in-Some.name r.leaves has.1 (g.R.Look.words c.unset_value.new.room) (contents c.unset_value.new.version) _ c.loop.counter has.0 more
          (some_there r.left.nodes c.args.node c.in-Some.name first) r.counted
          (c.in_ok-unset_value.ensures.steps r.left read r.leaves.sound (unset_ok volume r.left c.args.node c.in-Some.name r.leaves has.1));
    }

pub returns-in_default-clause-changes : goal.returns-in_default-clause-changes
returns-in_default-clause-changes g c =
    let v = contents c.loop.version in
    let read = c.first_attribute.new.look in
    let same = c.first_attribute.ensures.unchanged in (
      changes_trans g.R.Look.kept g.R.Look.page_state g.R.Look.words (contents c.args.version.now) v v c.args.room.now c.loop.room read c.loop.invariant.changes
          (changes_since g.R.Look.kept g.R.Look.page_state g.R.Look.words v v c.loop.room read read same
          (changes_none g.R.Look.kept g.R.Look.page_state g.R.Look.words v read (in_hand_since g.R.Look.kept g.R.Look.page_state g.R.Look.words v c.loop.room read same c.loop.invariant.changes.in_hand))),
      subst (λ (w : ℕ → ℕ → ℕ). Gains 0 (g.R.Look.words c.args.room.now) w (contents c.args.version.now) (contents c.loop.version)) (sym c.first_attribute.ensures.unchanged.words) c.loop.invariant.gains,
    )

pub returns-in_default-clause-bare : goal.returns-in_default-clause-bare
returns-in_default-clause-bare g c = λ volume encodes sound fits ok.
    let r = c.loop.invariant.thinned volume encodes sound fits ok in
    record {
      left = r.left;
      encodes = subst (λ (w : ℕ → ℕ → ℕ). Encodes w (contents c.loop.version) r.left) (sym c.first_attribute.ensures.unchanged.words) r.encodes;
      leaves = r.leaves;
      bare = bare_of r.left.nodes c.args.node (c.in_default.ensures.name r.left.nodes r.encodes.catalog (values_valid r.left r.leaves.sound));
    }

pub returns-clause-bare : goal.returns-clause-bare
returns-clause-bare g c = λ volume encodes sound fits ok.
    let r = c.loop.invariant.thinned volume encodes sound fits ok in
    record { left = r.left; encodes = r.encodes; leaves = r.leaves; bare = omega (arith, r.counted, c.loop-test.false) }

pub returns-in_err-unset_value-clause-refused : goal.returns-in_err-unset_value-clause-refused
returns-in_err-unset_value-clause-refused g c =
    let more = start_since g.R.Look.kept g.R.Look.page_state g.R.Look.words c.loop.room c.first_attribute.new.look c.unset_value.new.room c.first_attribute.ensures.unchanged c.in_err-unset_value.ensures.refused.0 in
    let back = start_after g.R.Look.kept g.R.Look.page_state g.R.Look.words (contents c.args.version.now) (contents c.loop.version) c.args.room.now c.loop.room c.unset_value.new.room c.loop.invariant.changes more in
    let v = contents c.loop.version in
    let read = c.first_attribute.new.look in
    let new = c.unset_value.new.room in
    let same = c.first_attribute.ensures.unchanged in
    let hand = in_hand_since g.R.Look.kept g.R.Look.page_state g.R.Look.words v c.loop.room read same c.loop.invariant.changes.in_hand in
    let k = stops_after g.R.Look.kept g.R.Look.page_state g.R.Look.words 0 0 0 (contents c.args.version.now) v c.args.room.now c.loop.room new c.loop.invariant.changes c.loop.invariant.gains (omega arith)
    (stops_since g.R.Look.kept g.R.Look.page_state g.R.Look.words 0 v c.loop.room read new hand same c.in_err-unset_value.ensures.refused.2) in
    (on_err _ back, search rules, on_err _ k)
