use Rattle.std.proofs.Common.{◌≡◌, take}
use Rattle.std.specs.String.{string_bytes}
use Rattle.be_script_language.specs.Words.{bytes_of}
use Rattle.be_script_language.proofs.words.text_of.Given as goal

abbrev pub invariant-loop-c : goal.invariant-loop-c
invariant-loop-c l = string_bytes l.bytes ≡ bytes_of (take l.c-index l.text)
