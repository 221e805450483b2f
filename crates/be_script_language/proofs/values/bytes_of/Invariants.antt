use Rattle.std.proofs.Common.{◌≡◌, ◌++◌, length}
use Rattle.std.specs.Option.{option_map}
use Rattle.be_script_language.specs.Values.{hex_in}
use Rattle.be_script_language.proofs.values.bytes_of.Given as goal

abbrev pub invariant-loop-byte : goal.invariant-loop-byte
invariant-loop-byte l = hex_in l.fn.word ≡ option_map (λ more. l.bytes.items ++ more) (hex_in l.rest)

abbrev pub decreases-loop-byte : goal.decreases-loop-byte
decreases-loop-byte l = length l.rest
