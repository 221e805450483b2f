use Rattle.std.proofs.Common.{◌≡◌, ◌++◌, take}
use Rattle.std.specs.String.{string_bytes}
use Rattle.be_script_language.specs.Reply.{numbers}
use Rattle.be_script_language.proofs.replies.numbers_line.Given as goal

abbrev pub invariant-loop-number : goal.invariant-loop-number
invariant-loop-number l = string_bytes l.text ≡ l.word ++ numbers (take l.number-index l.numbers)
