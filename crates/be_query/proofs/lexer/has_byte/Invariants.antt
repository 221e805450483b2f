use Rattle.std.proofs.Common.{◌≡◌, take}
use Rattle.std.specs.Bool.{◌==◌}
use Rattle.std.specs.List.{list_any}
use Rattle.be_query.proofs.lexer.has_byte.Given as goal

abbrev pub invariant-bytes : goal.invariant-bytes
invariant-bytes l = l.found ≡ list_any (λ b. b == l.fn.byte) (take l.b-index l.block)
