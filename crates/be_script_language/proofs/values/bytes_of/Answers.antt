use Rattle.std.proofs.Common.{sym}
use Rattle.be_script_language.proofs.ValueLemmas.{more_bytes}
use Rattle.be_script_language.proofs.values.bytes_of.Goals as goal

pub loop-byte-preserved : goal.loop-byte-preserved
loop-byte-preserved c =
    more_bytes c.args.word.now c.loop-byte.rest.now c.in-Some.beyond.now c.loop-byte.bytes.items c.push.new.self.items
    c.in-Some.byte c.loop-byte.invariant (sym c.in-Some.ensures) c.in_ok-push.ensures.items
