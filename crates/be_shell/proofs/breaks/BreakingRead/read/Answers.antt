use Rattle.std.proofs.Common.{◌≤◌, ℕ, ◌∷◌, [], length, subst, arith, Option}
use Rattle.std.specs.Io.KnownBytes.{Consumes}
use Rattle.be_shell.specs.Bytes.{TakesByte}
use Rattle.be_shell.proofs.BreakLemmas.{byte_put, lf_put}
use Rattle.be_shell.proofs.breaks.BreakingRead.read.Goals as goal

pub returns-then-self-clause-bytes : goal.returns-then-self-clause-bytes
returns-then-self-clause-bytes g c =
    let some : 1 ≤ length c.args.buf.now = omega arith in
    lf_put (g.R.Read.remaining c.args.self.now.reader) c.args.self.now.owes_lf c.args.buf.now some c.if-self.true

pub returns-clause-bytes : goal.returns-clause-bytes
returns-clause-bytes g c =
    let some : 1 ≤ length c.args.buf.now = omega arith in
    let old = g.R.Read.remaining c.args.self.now.reader in
    let new = g.R.Read.remaining c.next_byte.new.reader in
    let took : Consumes old new (c.in-Some.byte ∷ []) = subst (λ (z : Option ℕ). TakesByte old new z) c.in-Some.is c.in_ok-byte.ensures.byte in
    byte_put old new c.args.self.now.owes_lf c.in-Some.byte c.args.buf.now some c.if-self.false took
