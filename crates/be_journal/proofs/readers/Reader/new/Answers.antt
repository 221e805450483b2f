use Rattle.std.proofs.Common.{◌++◌, List, ap, ◌∙◌}
use Rattle.be_journal.specs.Blocks.{entries_of}
use Rattle.be_journal.specs.declared.entries.Entry.{Entry}
use Rattle.be_journal.proofs.NextLemmas.{none_at, are_none}
use Rattle.be_journal.proofs.readers.Reader.new.Goals as goal

pub new-requires : goal.new-requires
new-requires c = are_none

pub returns : goal.returns
returns c = ap (λ (es : List Entry). es ++ entries_of c.args.blocks.now) (c.new.ensures ∙ none_at)
