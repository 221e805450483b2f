use Rattle.std.proofs.Common.{List, ◌∷◌, ◌++◌, take, drop, ap, sym, subst, ◌∙◌, refl, arith}
use Rattle.be_volume.specs.declared.ops.Op.TheVariants.{MkIndex}
use Rattle.be_volume.specs.declared.ops.Done.TheVariants.{Unit as Nothing}
use Rattle.be_paged_reading.specs.Entry.{Entry}
use Rattle.be_paged.specs.Changes.{Changes, Steps}
use Rattle.be_paged_reading.specs.Page.{IsNamedAt, IsGapAt, contents}
use Rattle.be_paged.proofs.Applying.Composing.{changes_none}
use Rattle.be_paged.proofs.IndexEntries.Making.{made_changes, made_steps, not_there, not_full}
use Rattle.be_paged.proofs.edits.make_index.Goals as goal

pub returns-then-len-lt-MAX_INDICES-clause-changes : goal.returns-then-len-lt-MAX_INDICES-clause-changes
returns-then-len-lt-MAX_INDICES-clause-changes g c =
    let before = contents c.args.version.now in
    let inserted = c.insert.ensures.items ∙ ap (λ (e : Entry). take c.in-Err.at before.entries ++ e ∷ drop c.in-Err.at before.entries) c.new.ensures.entry in
    let entry : Entry = record { name = c.args.name.now; kind = c.args.kind; root = 0 } in
    let done = made_changes g.R.Look.kept g.R.Look.page_state g.R.Look.words c.args.room.now before c.in-Err.at entry c.requires.in_hand (omega (arith, c.if-len-lt-MAX_INDICES.true, c.len.ensures.value))
    c.new.ensures.named refl in
    subst (λ (es : List Entry). Changes {K = g.R.Look.Kept} g.R.Look.kept g.R.Look.page_state g.R.Look.words before (record { next = before.next; catalog = before.catalog; entries = es }) c.args.room.now c.args.room.now) (sym inserted) done

pub returns-then-len-lt-MAX_INDICES-clause-steps : goal.returns-then-len-lt-MAX_INDICES-clause-steps
returns-then-len-lt-MAX_INDICES-clause-steps g c = λ volume encodes ok.
    let before = contents c.args.version.now in
    let w = g.R.Look.words c.args.room.now in
    let name = c.args.name.now in
    let inserted = c.insert.ensures.items ∙ ap (λ (e : Entry). take c.in-Err.at before.entries ++ e ∷ drop c.in-Err.at before.entries) c.new.ensures.entry in
    let entry : Entry = record { name = c.args.name.now; kind = c.args.kind; root = 0 } in
    let gap = subst (λ (es : List Entry). IsGapAt es name c.in-Err.at) c.deref.ensures.0 c.in-Err.ensures.absent in
    subst (λ (es : List Entry). Steps w (record { next = before.next; catalog = before.catalog; entries = es }) volume (MkIndex name c.args.kind) Nothing) (sym inserted)
    (made_steps w before volume name c.args.kind c.in-Err.at entry encodes ok gap refl refl refl)

pub returns-else-len-lt-MAX_INDICES-clause-changes : goal.returns-else-len-lt-MAX_INDICES-clause-changes
returns-else-len-lt-MAX_INDICES-clause-changes g c = changes_none g.R.Look.kept g.R.Look.page_state g.R.Look.words (contents c.args.version.now) c.args.room.now c.requires.in_hand

pub returns-else-len-lt-MAX_INDICES-clause-steps : goal.returns-else-len-lt-MAX_INDICES-clause-steps
returns-else-len-lt-MAX_INDICES-clause-steps g c = λ volume encodes ok.
    not_full (g.R.Look.words c.args.room.now) (contents c.args.version.now) volume c.args.name.now c.args.kind encodes ok (omega (arith, c.if-len-lt-MAX_INDICES.false, c.len.ensures.value))

pub returns-in_default-clause-changes : goal.returns-in_default-clause-changes
returns-in_default-clause-changes g c = changes_none g.R.Look.kept g.R.Look.page_state g.R.Look.words (contents c.args.version.now) c.args.room.now c.requires.in_hand

pub returns-in_default-clause-steps : goal.returns-in_default-clause-steps
returns-in_default-clause-steps g c = λ volume encodes ok.
    not_there (g.R.Look.words c.args.room.now) (contents c.args.version.now) volume c.args.name.now c.args.kind c.in_default.field-0 encodes ok
    (subst (λ (es : List Entry). IsNamedAt es c.args.name.now c.in_default.field-0) c.deref.ensures.0 c.in_default.ensures.found)
