use Rattle.std.proofs.Common.{ℕ, List, sym, subst, ◌∙◌, rules, arith, is_some}
use Rattle.std.specs.Option.{option_copied}
use Rattle.be_paged_reading.specs.Entry.{Entry}
use Rattle.be_paged_reading.specs.Page.{IsNamedAt, IsGapAt, contents}
use Rattle.be_paged_reading.specs.Version.{Encodes}
use Rattle.be_paged.proofs.Applying.Composing.{changes_none, changes_since, start_since, in_hand_since}
use Rattle.be_paged.proofs.IndexEntries.EntryChange.{encodes_unindexed}
use Rattle.be_paged_reading.proofs.CatalogPairs.Validity.{values_valid}
use Rattle.be_paged.specs.Stops.{Gains}
use Rattle.be_tree.specs.Counting.{one_of}
use Rattle.be_paged.proofs.Sizes.Stopping.{gains_none, stops_since}
use Rattle.be_tree.proofs.Shape.Parts.{on_err}
use Rattle.be_paged.proofs.changes.change_entry.Goals as goal

pub returns-in_default-clause-changes : goal.returns-in_default-clause-changes
returns-in_default-clause-changes g c = (
  changes_none g.R.Look.kept g.R.Look.page_state g.R.Look.words (contents c.args.version.now) c.args.room.now c.requires.in_hand,
  gains_none (g.R.Look.words c.args.room.now) (one_of (is_some (option_copied c.args.new))) (contents c.args.version.now),
)

pub returns-in_default-clause-encodes : goal.returns-in_default-clause-encodes
returns-in_default-clause-encodes g c = λ volume encodes sound.
    encodes_unindexed (g.R.Look.words c.args.room.now) (contents c.args.version.now) volume c.args.name.now c.args.node c.in_default.field-0 (option_copied c.args.new) encodes
    (subst (λ (es : List Entry). IsGapAt es c.args.name.now c.in_default.field-0) c.deref.ensures.0 c.in_default.ensures.absent)

pub value_in-old-requires : goal.value_in-old-requires
value_in-old-requires g c = record { tree = c.requires.in_hand.trees.each 0 0 (omega arith); known = c.requires.known }

pub change_at-requires-clause-in_hand : goal.change_at-requires-clause-in_hand
change_at-requires-clause-in_hand g c =
    in_hand_since g.R.Look.kept g.R.Look.page_state g.R.Look.words (contents c.args.version.now) c.args.room.now c.value_in-old.new.look c.value_in-old.ensures.unchanged c.requires.in_hand

pub change_at-requires-clause-in_range : goal.change_at-requires-clause-in_range
change_at-requires-clause-in_range g c =
    let at = subst (λ (xs : List Entry). IsNamedAt xs c.args.name.now c.in-Ok.at) c.deref.ensures.0 c.in-Ok.ensures.found in
    at.in_range

pub returns-clause-changes : goal.returns-clause-changes
returns-clause-changes g c = (
  changes_since g.R.Look.kept g.R.Look.page_state g.R.Look.words (contents c.args.version.now) (contents c.change_at.new.version) c.args.room.now c.value_in-old.new.look c.change_at.new.room c.value_in-old.ensures.unchanged c.in_ok-change_at.ensures.changes.0,
  subst (λ (w : ℕ → ℕ → ℕ). Gains (one_of (is_some (option_copied c.args.new))) w (g.R.Look.words c.change_at.new.room) (contents c.args.version.now) (contents c.change_at.new.version)) c.value_in-old.ensures.unchanged.words
      c.in_ok-change_at.ensures.changes.1,
)

pub returns-clause-encodes : goal.returns-clause-encodes
returns-clause-encodes g c = λ volume encodes sound.
    let at = subst (λ (xs : List Entry). IsNamedAt xs c.args.name.now c.in-Ok.at) c.deref.ensures.0 c.in-Ok.ensures.found in
    let old = c.value_in-old.ensures.value volume.nodes encodes.catalog (values_valid volume sound) in
    let read = subst (λ (w : ℕ → ℕ → ℕ). Encodes w (contents c.args.version.now) volume) (sym c.value_in-old.ensures.unchanged.words) encodes in
    c.in_ok-change_at.ensures.encodes volume c.args.name.now at read sound (c.as_ref.ensures.value ∙ old)

pub returns-clause-stays : goal.returns-clause-stays
returns-clause-stays g c = λ volume encodes sound v has is same.
    let at = subst (λ (xs : List Entry). IsNamedAt xs c.args.name.now c.in-Ok.at) c.deref.ensures.0 c.in-Ok.ensures.found in
    let old = c.value_in-old.ensures.value volume.nodes encodes.catalog (values_valid volume sound) in
    let read = subst (λ (w : ℕ → ℕ → ℕ). Encodes w (contents c.args.version.now) volume) (sym c.value_in-old.ensures.unchanged.words) encodes in
    c.in_ok-change_at.ensures.stays volume c.args.name.now at read sound (c.as_ref.ensures.value ∙ old) v (c.as_ref.ensures.value ∙ old ∙ has) is same

pub returns-in_err-change_at-clause-refused : goal.returns-in_err-change_at-clause-refused
returns-in_err-change_at-clause-refused g c =
    let before = contents c.args.version.now in
    let back = start_since g.R.Look.kept g.R.Look.page_state g.R.Look.words c.args.room.now c.value_in-old.new.look c.change_at.new.room c.value_in-old.ensures.unchanged c.in_err-change_at.ensures.refused.0 in
    let read = in_hand_since g.R.Look.kept g.R.Look.page_state g.R.Look.words before c.args.room.now c.value_in-old.new.look c.value_in-old.ensures.unchanged c.requires.in_hand in
    let k = stops_since g.R.Look.kept g.R.Look.page_state g.R.Look.words 0 before c.args.room.now c.value_in-old.new.look c.change_at.new.room read c.value_in-old.ensures.unchanged c.in_err-change_at.ensures.refused.2 in
    (on_err _ back, search rules, on_err _ k)
