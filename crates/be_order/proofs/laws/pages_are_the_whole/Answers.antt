use Rattle.std.proofs.Common.{None, arith, length}
use Rattle.be_order.specs.Ordered.{after}
use Rattle.be_order.proofs.Wholes.{list_once, pages_end, whole_is}
use Rattle.be_order.proofs.laws.pages_are_the_whole.Goals as goal

pub returns-clause-whole : goal.returns-clause-whole
returns-clause-whole c = λ s f by descending most list pages is are. whole_is s f by descending list is most pages are

pub returns-clause-once : goal.returns-clause-once
returns-clause-once c = λ s f by kind descending list sound there is. list_once s f by descending list is sound kind there

pub returns-clause-end : goal.returns-clause-end
returns-clause-end c = λ s f by descending most list is some. pages_end s f by descending list is most some (length (after descending None list)) None (omega arith)
