use Rattle.std.proofs.Common.{refl}
use Rattle.bestore_c.proofs.Stated.{reported_none, reported_ready}
use Rattle.bestore_c.proofs.states.report_ready.Goals as goal

pub returns-in-Ok-clause-reported : goal.returns-in-Ok-clause-reported
returns-in-Ok-clause-reported c = λ volume few ends.
    let put = c.put_encoding.ensures in
    reported_ready volume c.args.place.now c.report.new.self c.put_encoding.new.counts c.args.operations.now c.put_encoding.new.operations c.args.bytes.now
    c.put_encoding.new.bytes _ c.in-Ok.encoding.operations.items c.in-Ok.encoding.bytes.items few ends (c.in-Ok.ensures.unread volume) c.in-Ok.ensures.ok
    c.in-Ok.ensures.beyond refl put.operations.0 put.operations.1 put.bytes.0 put.bytes.1

pub returns-in-Err-clause-reported : goal.returns-in-Err-clause-reported
returns-in-Err-clause-reported c = λ volume few ends.
    reported_none volume c.args.place.now c.report.new.self c.args.counts.now c.args.operations.now c.args.operations.now c.args.bytes.now c.args.bytes.now _
    c.in-Err.fault c.code.ensures c.in-Err.ensures.err.0 (c.in-Err.ensures.unread volume) c.in-Err.ensures.err.1
