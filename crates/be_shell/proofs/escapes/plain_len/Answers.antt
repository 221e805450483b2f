use Rattle.std.proofs.Common.{List, ℕ, drop, subst, arith}
use Rattle.be_shell.specs.Escape.{KeepsFirst}
use Rattle.be_shell.proofs.EscapeLemmas.{first_plain, one_more}
use Rattle.be_shell.proofs.escapes.plain_len.Goals as goal

pub loop-len-init : goal.loop-len-init
loop-len-init c = (omega arith, omega arith, first_plain c.args.bytes.now c.requires.some c.requires.first)

pub loop-len-preserved : goal.loop-len-preserved
loop-len-preserved c =
    let keeps : KeepsFirst (drop c.loop-len.len c.args.bytes.now) = subst (λ (z : List ℕ). KeepsFirst z) c.split_at.ensures.back c.in-None.ensures.none in
    (omega arith, omega arith, one_more c.args.bytes.now c.loop-len.len c.loop-len-test.true c.loop-len.invariant.2 keeps)
