use Rattle.std.proofs.Common.{◌≡◌, ◌++◌, take, codes, flat_map}
use Rattle.std.specs.String.{string_bytes}
use Rattle.be_journal.specs.Text.{done_text}
use Rattle.be_journal.proofs.texts.push_outcomes.Given as goal

abbrev pub invariant-loop-done : goal.invariant-loop-done
invariant-loop-done l = string_bytes l.text ≡ string_bytes l.initial.text ++ flat_map (λ y. codes "; " ++ done_text y) (take l.done-index l.dones)
