use Rattle.std.proofs.Common.{◌++◌, ◌<◌, [], ◌∷◌, length, sym, ap, ◌∙◌, arith}
use Rattle.std.proofs.lemmas.List.{length-map}
use Rattle.be_table.specs.declared.pass.Commit.{Commit}
use Rattle.be_table.specs.Rule.{entries}
use Rattle.be_store.proofs.Fronts.{front_more}
use Rattle.be_store.proofs.entries.entries_from.Goals as goal

pub loop-i-preserved : goal.loop-i-preserved
loop-i-preserved c =
    let log = entries c.args.held.now.knows.seen in
    let long = length-map c.args.held.now.knows.seen (λ (x : Commit). x.entry) in
    let inside : c.loop-i.i < length log = omega (arith, c.loop-i-test.true, c.min-end.ensures, c.current-length.ensures.version.0, long) in
    c.in_ok-push.ensures.items
    ∙ (ap (λ l. l ++ c.in_ok-entry.field-0 ∷ []) c.loop-i.invariant ∙ sym (front_more log c.args.from c.loop-i.i c.in_ok-entry.field-0 c.loop-i.auto.i inside c.in_ok-entry.ensures.ok))
