use Rattle.std.proofs.Common.{sym, subst, IsOk, arith}
use Rattle.std.proofs.lemmas.Result.{IfOk-weaker}
use Rattle.be_volume.specs.Volume.{step}
use Rattle.be_volume.specs.declared.ops.Op.{Op}
use Rattle.be_volume.specs.declared.ops.Op.TheVariants.{MkIndex}
use Rattle.be_paged.specs.Changes.{SetsSameValue, Steps}
use Rattle.be_paged_reading.specs.Page.{contents}
use Rattle.be_paged.proofs.IndexEntries.Settled.{if_ok}
use Rattle.be_paged.proofs.Sizes.Stopping.{result_stops}
use Rattle.be_paged.proofs.edits.edit.Goals as goal

pub returns-in-New-clause-steps : goal.returns-in-New-clause-steps
returns-in-New-clause-steps g c = IfOk-weaker c.add_node.result _ _ (λ done e volume encodes sound fits ok.
    subst (λ (op : Op). Steps (g.R.Look.words c.add_node.new.room) (contents c.add_node.new.version) volume op done) (sym c.in-New.is) (e volume encodes sound)) c.add_node.ensures.steps

pub returns-in-Drop-clause-steps : goal.returns-in-Drop-clause-steps
returns-in-Drop-clause-steps g c = IfOk-weaker c.drop_node.result _ _ (λ done e volume encodes sound fits ok.
    subst (λ (op : Op). Steps (g.R.Look.words c.drop_node.new.room) (contents c.drop_node.new.version) volume op done) (sym c.in-Drop.is) (e volume encodes sound fits (subst (λ (op : Op). IsOk (step volume op)) c.in-Drop.is ok))) c.drop_node.ensures.steps

pub returns-in-Set-clause-steps : goal.returns-in-Set-clause-steps
returns-in-Set-clause-steps g c = IfOk-weaker c.set_value.result _ _ (λ done e volume encodes sound fits ok.
    subst (λ (op : Op). Steps (g.R.Look.words c.set_value.new.room) (contents c.set_value.new.version) volume op done) (sym c.in-Set.is) (e volume encodes sound (subst (λ (op : Op). IsOk (step volume op)) c.in-Set.is ok))) c.set_value.ensures.steps

pub returns-in-Unset-clause-steps : goal.returns-in-Unset-clause-steps
returns-in-Unset-clause-steps g c = IfOk-weaker c.unset_value.result _ _ (λ done e volume encodes sound fits ok.
    subst (λ (op : Op). Steps (g.R.Look.words c.unset_value.new.room) (contents c.unset_value.new.version) volume op done) (sym c.in-Unset.is) (e volume encodes sound (subst (λ (op : Op). IsOk (step volume op)) c.in-Unset.is ok))) c.unset_value.ensures.steps

pub returns-in-MkIndex-clause-steps : goal.returns-in-MkIndex-clause-steps
returns-in-MkIndex-clause-steps g c = λ volume encodes sound fits ok.
    subst (λ (op : Op). Steps (g.R.Look.words c.make_index.new.room) (contents c.make_index.new.version) volume op c.make_index.result) (sym c.in-MkIndex.is)
    (subst (λ room. Steps (g.R.Look.words room) (contents c.make_index.new.version) volume (MkIndex c.in-MkIndex.name c.in-MkIndex.kind) c.make_index.result) (sym c.make_index.ensures.room)
    (c.make_index.ensures.steps volume encodes (subst (λ (op : Op). IsOk (step volume op)) c.in-MkIndex.is ok)))

pub returns-in-RmIndex-clause-steps : goal.returns-in-RmIndex-clause-steps
returns-in-RmIndex-clause-steps g c = λ volume encodes sound fits ok.
    subst (λ (op : Op). Steps (g.R.Look.words c.remove_index.new.room) (contents c.remove_index.new.version) volume op c.remove_index.result) (sym c.in-RmIndex.is)
    (c.remove_index.ensures.steps volume encodes (subst (λ (op : Op). IsOk (step volume op)) c.in-RmIndex.is ok))

pub returns-in-New-clause-stays : goal.returns-in-New-clause-stays
returns-in-New-clause-stays g c = if_ok c.add_node.result _ (λ done volume encodes sound lies. absurd (subst (SetsSameValue volume) c.in-New.is lies))

pub returns-in-Drop-clause-stays : goal.returns-in-Drop-clause-stays
returns-in-Drop-clause-stays g c = if_ok c.drop_node.result _ (λ done volume encodes sound lies. absurd (subst (SetsSameValue volume) c.in-Drop.is lies))

pub returns-in-Unset-clause-stays : goal.returns-in-Unset-clause-stays
returns-in-Unset-clause-stays g c = if_ok c.unset_value.result _ (λ done volume encodes sound lies. absurd (subst (SetsSameValue volume) c.in-Unset.is lies))

pub returns-in-MkIndex-clause-stays : goal.returns-in-MkIndex-clause-stays
returns-in-MkIndex-clause-stays g c = λ volume encodes sound lies. absurd (subst (SetsSameValue volume) c.in-MkIndex.is lies)

pub returns-in-RmIndex-clause-stays : goal.returns-in-RmIndex-clause-stays
returns-in-RmIndex-clause-stays g c = λ volume encodes sound lies. absurd (subst (SetsSameValue volume) c.in-RmIndex.is lies)

pub returns-in-Set-clause-stays : goal.returns-in-Set-clause-stays
returns-in-Set-clause-stays g c = IfOk-weaker c.set_value.result _ _ (λ done e volume encodes sound lies. e volume encodes sound (subst (SetsSameValue volume) c.in-Set.is lies)) c.set_value.ensures.stays

pub set_value-requires-clause-known : goal.set_value-requires-clause-known
set_value-requires-clause-known g c = c.known_of-known.ensures (g.R.Look.page_state c.args.room.now) (g.R.Look.words c.args.room.now) c.args.version.now.catalog c.requires.asked

pub unset_value-requires-clause-known : goal.unset_value-requires-clause-known
unset_value-requires-clause-known g c = c.known_of-known-in-Unset.ensures (g.R.Look.page_state c.args.room.now) (g.R.Look.words c.args.room.now) c.args.version.now.catalog c.requires.asked

pub returns-in-New-clause-refused : goal.returns-in-New-clause-refused
returns-in-New-clause-refused g c = (
  c.add_node.ensures.refused.0,
  c.add_node.ensures.refused.1,
  result_stops g.R.Look.kept g.R.Look.page_state g.R.Look.words 0 1 (contents c.args.version.now) c.args.room.now c.add_node.new.room c.add_node.result (omega arith) c.add_node.ensures.refused.2,
)

pub returns-in-Drop-clause-refused : goal.returns-in-Drop-clause-refused
returns-in-Drop-clause-refused g c = (
  c.drop_node.ensures.refused.0,
  c.drop_node.ensures.refused.1,
  result_stops g.R.Look.kept g.R.Look.page_state g.R.Look.words 0 1 (contents c.args.version.now) c.args.room.now c.drop_node.new.room c.drop_node.result (omega arith) c.drop_node.ensures.refused.2,
)

pub returns-in-Unset-clause-refused : goal.returns-in-Unset-clause-refused
returns-in-Unset-clause-refused g c = (
  c.unset_value.ensures.refused.0,
  c.unset_value.ensures.refused.1,
  result_stops g.R.Look.kept g.R.Look.page_state g.R.Look.words 0 1 (contents c.args.version.now) c.args.room.now c.unset_value.new.room c.unset_value.result (omega arith) c.unset_value.ensures.refused.2,
)
