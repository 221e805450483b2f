use Rattle.std.proofs.Common.{arith}
use Rattle.std.proofs.lemmas.List.{length-map}
use Rattle.be_table.specs.Rule.{entries}
use Rattle.be_table.specs.declared.pass.Commit.{Commit}
use Rattle.be_store.proofs.Caught.{named_entry}
use Rattle.be_store.proofs.named.add_entry.Goals as goal

pub returns-clause-named : goal.returns-clause-named
returns-clause-named c h =
    let seen = c.args.held.now.knows.seen in
    named_entry c.add_named.new.nodes.items c.as_slice.result.now c.as_slice-2.result.now c.in-Ok.entry (entries seen) c.args.i c.as_slice.ensures c.as_slice-2.ensures c.in-Ok.ensures.ok
    (let long = length-map seen (λ (x : Commit). x.entry) in omega (arith, long, c.requires.inside)) (c.add_named.ensures.named h)
