use Rattle.std.proofs.Common.{◌≡◌, ◌++◌, take, codes, flat_map, length}
use Rattle.std.specs.Fmt.{decimal}
use Rattle.std.specs.String.{string_bytes}
use Rattle.be_script_language.specs.Reply.{attribute_line}
use Rattle.be_script_language.proofs.replies.attributes_text.Given as goal

abbrev pub invariant-loop-name : goal.invariant-loop-name
invariant-loop-name l = string_bytes l.text ≡ (codes "attrs " ++ (decimal (length l.list) ++ codes "\n")) ++ flat_map attribute_line (take l.name-index l.list)
