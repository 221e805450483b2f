use Rattle.std.proofs.Common.{◌+◌, ◌++◌, List, ℕ, drop, append_assoc, append-nil, sym, ap, ◌∙◌, arith}
use Rattle.be_volume.specs.declared.ops.Done.TheVariants.{Node}
use Rattle.be_entry_bytes.specs.Encoding.{steps_bytes}
use Rattle.be_entry_bytes.proofs.Loops.{stepped, none_left}
use Rattle.be_entry_bytes.proofs.writing.write_steps.Goals as goal

pub write_step-requires : goal.write_step-requires
write_step-requires c =
    let left = stepped c.args.ops.now c.args.dones.now c.loop-i.i c.index-ops-i.result (Node 0) c.loop-i-test.true c.requires.each c.index-ops-i.is in
    record { room = omega (arith, c.loop-i.invariant.room, left.len) }

pub loop-i-preserved : goal.loop-i-preserved
loop-i-preserved c =
    let left = stepped c.args.ops.now c.args.dones.now c.loop-i.i c.index-ops-i.result (Node 0) c.loop-i-test.true c.requires.each c.index-ops-i.is in
    let rest = steps_bytes (drop (c.loop-i.i + 1) c.args.ops.now) (drop (c.loop-i.i + 1) c.args.dones.now) in
    record {
      items = ap (λ (bs : List ℕ). bs ++ rest) c.write_step.ensures.appends
          ∙ append_assoc c.loop-i.bytes.items _ rest
          ∙ ap (λ (bs : List ℕ). c.loop-i.bytes.items ++ bs) (sym left.bytes)
          ∙ c.loop-i.invariant.items;
      room = omega (arith, c.loop-i.invariant.room, left.len, c.write_step.ensures.len, c.write_step.ensures.room);
      grows = omega (arith, c.loop-i.invariant.grows, c.write_step.ensures.room);
    }

pub returns-clause-appends : goal.returns-clause-appends
returns-clause-appends c =
    let none = none_left c.args.ops.now c.args.dones.now c.loop-i.i c.loop-i-test.false in
    sym (append-nil c.loop-i.bytes.items) ∙ ap (λ (bs : List ℕ). c.loop-i.bytes.items ++ bs) (sym none) ∙ c.loop-i.invariant.items
