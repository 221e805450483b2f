use Rattle.std.proofs.Common.{◌≡◌, ◌++◌, take, codes, flat_map}
use Rattle.std.specs.Fmt.{decimal}
use Rattle.std.specs.String.{string_bytes}
use Rattle.be_script_language.specs.Reply.{done_line}
use Rattle.be_script_language.proofs.replies.commit_text.Given as goal

abbrev pub invariant-loop-done : goal.invariant-loop-done
invariant-loop-done l = string_bytes l.text ≡ (codes "commit " ++ (decimal l.fn.number ++ codes "\n")) ++ flat_map done_line (take l.done-index l.dones)
