use Rattle.be_store.proofs.Applied.{upto_here}
use Rattle.be_store.proofs.Writes.{begins_locked, both_from, held_back_from, published_from}
use Rattle.be_store.proofs.writing.write.Goals as goal

pub scan_early-requires : goal.scan_early-requires
scan_early-requires c = record {
  begins = begins_locked c.requires.begun.0 c.args.writing.now.knows c.requires.begun.1;
  first = upto_here c.requires.begun.0 c.args.writing.now.knows c.requires.begun.1;
}

pub returns-clause-answer : goal.returns-clause-answer
returns-clause-answer c =
    both_from c.write_current.result _ _ _ _
    (λ r p. published_from c.args.writing.now c.scan_early.new.writing c.write_current.new.writing.knows c.args.ops.now r c.write_current.new.dones.items c.scan_early.ensures.kept p)
    (λ e p. held_back_from c.args.writing.now c.scan_early.new.writing c.write_current.new.writing.knows c.args.ops.now e c.scan_early.ensures.kept p)
    c.write_current.ensures.answer

pub returns-clause-early : goal.returns-clause-early
returns-clause-early c = (c.scan_early.new.writing, c.scan_early.ensures.early, c.write_current.ensures.answer)
