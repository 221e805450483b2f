use Rattle.std.proofs.Common.{arith, subst}
use Rattle.be_store.specs.Named.{NamesAmong}
use Rattle.be_store.proofs.Applied.{learns_only}
use Rattle.be_store.proofs.Caught.{same_entry_at}
use Rattle.be_store.proofs.store.Store.add_named_between.Goals as goal

pub returns-clause-learns : goal.returns-clause-learns
returns-clause-learns c =
    learns_only c.args.pass.now.knows c.in-Ok.held.knows c.in-Ok.ensures.held.2 c.unlock.result.knows c.unlock.ensures.pass c.is_pass.ensures c.unlock.ensures.moves

pub returns-clause-named : goal.returns-clause-named
returns-clause-named c h i d low high =
    subst (NamesAmong c.add_between-named.new.nodes.items) (same_entry_at c.in-Ok.held.knows.seen c.args.pass.now.knows.seen i d c.in-Ok.ensures.held.2.more (omega (arith, high, c.requires.end)))
    (c.add_between-named.ensures.named h i d low high)
