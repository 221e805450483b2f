use Rattle.std.proofs.Common.{ap, length, arith}
use Rattle.be_journal.specs.Journal.{Log}
use Rattle.be_script_tests.proofs.StoreLemmas.{length-outcomes}
use Rattle.be_script_tests.proofs.tests.plain.PlainStore.write.Goals as goal

pub push_reserved-requires-clause-dones : goal.push_reserved-requires-clause-dones
push_reserved-requires-clause-dones c =
    let dones = length-outcomes c.self.inside.volume c.apply.new.self c.args.ops.now c.in_ok-dones.dones.items c.in_ok-dones.ensures.writes in
    let room = ap (λ (l : Log). l.reserved) c.in_ok-reserve.ensures.0 in
    omega (arith, dones, room, ap length c.as_slice.ensures.value)
