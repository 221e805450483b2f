use Rattle.std.proofs.Common.{◌≡◌, ◌++◌, take, codes, flat_map, length}
use Rattle.std.specs.Fmt.{decimal}
use Rattle.std.specs.String.{string_bytes}
use Rattle.be_script_language.specs.Reply.{kind_line}
use Rattle.be_script_language.proofs.replies.kinds_text.Given as goal

abbrev pub invariant-loop-name : goal.invariant-loop-name
invariant-loop-name l = string_bytes l.text ≡ (codes "indices " ++ (decimal (length l.list) ++ codes "\n")) ++ flat_map kind_line (take l.name-index l.list)
