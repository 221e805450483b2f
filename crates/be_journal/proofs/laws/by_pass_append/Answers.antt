use Rattle.std.proofs.lemmas.List.Elements.{filter-append}
use Rattle.std.proofs.Common.{nat_eq}
use Rattle.be_journal.proofs.laws.by_pass_append.Goals as goal

pub returns : goal.returns
returns c = λ pass front rest. filter-append (λ entry. nat_eq entry.by pass) front rest
