use Rattle.std.proofs.Common.{◌≡◌, ◌∷◌, List, drop, subst}
use Rattle.be_journal.specs.declared.entries.Entry.{Entry}
use Rattle.be_journal.proofs.ViewLemmas.{view_of, viewed, never_viewed}
use Rattle.be_journal.proofs.block_readers.BlockReader.view.Goals as goal

pub unreachable-requires : goal.unreachable-requires
unreachable-requires c = never_viewed c.self.inside.left c.self.inside.bytes.now c.self.invariant (rw c.self.view_is c.requires) c.in_default.ensures

pub new-requires : goal.new-requires
new-requires c = (view_of c.self.inside.left c.self.inside.bytes.now c.in-Some.by c.in-Some.count c.in-Some.bytes.now c.self.invariant (rw c.self.view_is c.requires) c.in-Some.ensures).some

pub returns : goal.returns
returns c =
    rw c.new.ensures
    (subst (λ (es : List Entry). es ≡ viewed c.in-Some.by c.in-Some.count c.in-Some.bytes.now ∷ drop 1 es) c.self.view_is
    (view_of c.self.inside.left c.self.inside.bytes.now c.in-Some.by c.in-Some.count c.in-Some.bytes.now c.self.invariant (rw c.self.view_is c.requires) c.in-Some.ensures).first)
