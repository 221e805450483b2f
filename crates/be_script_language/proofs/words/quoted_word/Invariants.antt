use Rattle.std.proofs.Common.{◌≡◌, length}
use Rattle.std.specs.String.{string_bytes}
use Rattle.be_script_language.specs.Words.{quoted_in, beyond}
use Rattle.be_script_language.proofs.words.quoted_word.Given as goal

abbrev pub invariant-loop-c : goal.invariant-loop-c
invariant-loop-c l = quoted_in l.fn.text ≡ beyond (string_bytes l.meant) (quoted_in l.rest)

abbrev pub decreases-loop-c : goal.decreases-loop-c
decreases-loop-c l = length l.rest
