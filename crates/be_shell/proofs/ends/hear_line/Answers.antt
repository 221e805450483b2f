use Rattle.std.proofs.Common.{◌≡◌, false, List, ℕ, [], ◌∷◌, ap, sym, subst, arith}
use Rattle.std.proofs.lemmas.Bool.Decides.{nat_tests}
use Rattle.std.specs.Io.KnownBytes.{Consumes}
use Rattle.be_script_runner.specs.Run.{is_line_end}
use Rattle.be_shell.specs.Bytes.{HasTaken}
use Rattle.be_shell.specs.Conversation.{hearing, hears, line_heard}
use Rattle.be_shell.proofs.LineLemmas.{byte_taken, line_ended, line_left, none_taken}
use Rattle.be_shell.proofs.ends.hear_line.Goals as goal

pub loop-bytes-init : goal.loop-bytes-init
loop-bytes-init g c =
    let known = g.R.Read.remaining c.args.reader.now in
    subst (λ (z : List ℕ). HasTaken known known z) (sym c.new-kept.ensures.items) (none_taken known)

pub returns-in-Ok-None-clause-heard : goal.returns-in-Ok-None-clause-heard
returns-in-Ok-None-clause-heard g c =
    let kept = c.loop-bytes.kept in
    let took = rw c.in-Ok-None.field-0-is at c.in-Ok-None.ensures.byte in
    line_left (g.R.Read.remaining c.args.reader.now) (g.R.Read.remaining c.loop-bytes.reader) (g.R.Read.remaining c.read_byte.new.reader) kept.items (hearing c.last_line.result)
    c.loop-bytes.invariant took.0 took.1 (λ none. c.last_line.ensures.none (omega (arith, none, kept.ok.0)))
    (λ some few. c.last_line.ensures.short (omega (arith, some, kept.ok.0)) (omega (arith, few, kept.ok.0)))
    (λ many. c.last_line.ensures.long (omega (arith, many, kept.ok.0)))

pub returns-then-byte-eq10-clause-heard : goal.returns-then-byte-eq10-clause-heard
returns-then-byte-eq10-clause-heard g c =
    let kept = c.loop-bytes.kept in
    let old = g.R.Read.remaining c.loop-bytes.reader in
    let new = g.R.Read.remaining c.read_byte.new.reader in
    let took = rw c.in-Ok-Some.field-0-is at c.in-Ok-Some.ensures.byte in
    line_ended (g.R.Read.remaining c.args.reader.now) old new kept.items (hears (line_heard c.line_of.result)) c.loop-bytes.invariant
    (subst (λ (z : ℕ). Consumes old new (z ∷ [])) c.if-byte-eq10.true took)
    (λ few. ap hears (c.line_of.ensures.short (omega (arith, few, kept.ok.0)))) (λ many. ap hears (c.line_of.ensures.long (omega (arith, many, kept.ok.0))))

pub loop-bytes-preserved : goal.loop-bytes-preserved
loop-bytes-preserved g c =
    let kept = c.loop-bytes.kept in
    let took = rw c.in-Ok-Some.field-0-is at c.in-Ok-Some.ensures.byte in
    let within : is_line_end c.in-Ok-Some.byte ≡ false = grind (arith, nat_tests) in
    byte_taken (g.R.Read.remaining c.args.reader.now) (g.R.Read.remaining c.loop-bytes.reader) (g.R.Read.remaining c.read_byte.new.reader) kept.items c.keep.new.line.items c.in-Ok-Some.byte
    c.loop-bytes.invariant took within (λ few. c.in-Ok.ensures.more (omega (arith, few, kept.ok.0))) (λ many. c.in-Ok.ensures.full (omega (arith, many, kept.ok.0)))
