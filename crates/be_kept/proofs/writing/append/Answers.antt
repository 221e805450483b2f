use Rattle.std.proofs.Common.{arith, ◌≡◌, ◌++◌, ap, ◌∙◌}
use Rattle.std.proofs.lemmas.List.{length-map}
use Rattle.sqlite_trees.specs.View.{View}
use Rattle.be_kept.proofs.Histories.{history_after}
use Rattle.be_kept.proofs.Rows.{ends_after, written_one}
use Rattle.be_kept.specs.Rows.{after, entry_rows, entry_tree, written}
use Rattle.be_kept.proofs.writing.append.Goals as goal

pub returns-in-Ok-clause-ends : goal.returns-in-Ok-clause-ends
returns-in-Ok-clause-ends g c clean later above =
    let old = g.S.Store.view c.args.store.now in
    let new = g.S.Store.view c.commit.new.self in
    let added = written c.args.entries.now in
    let adds = c.in_default.ensures.ok (omega (arith, c.in-Ok.ensures.clean, clean)) in
    let before = c.requires.ends (omega (arith, c.in-Ok.ensures.clean, c.in_default.ensures.quiet.clean, clean)) in
    let rows : new.trees entry_tree ≡ old.trees entry_tree ++ entry_rows c.args.number added =
    ap (λ (v : View). v.trees entry_tree) (c.in-Ok.ensures.ok clean).is ∙ ap (λ (v : View). v.trees entry_tree) adds.is in
    rw rows (ends_after c.args.number added (old.trees entry_tree) before later (omega (arith, length-map c.args.entries.now written_one, above)))

pub returns-in-Ok-clause-history : goal.returns-in-Ok-clause-history
returns-in-Ok-clause-history g c clean past more has count are =
    let old = g.S.Store.view c.args.store.now in
    let new = g.S.Store.view c.commit.new.self in
    let added = written c.args.entries.now in
    let adds = c.in_default.ensures.ok (omega (arith, c.in-Ok.ensures.clean, clean)) in
    let rest = c.requires.rest (omega (arith, c.in-Ok.ensures.clean, c.in_default.ensures.quiet.clean, clean)) in
    let kept : new.committed ≡ after c.args.number added old.committed =
    ap (λ (v : View). v.committed) (c.in-Ok.ensures.ok clean).is ∙ ap (λ (v : View). v.trees) adds.is ∙ ap (after c.args.number added) rest.same in
    rw kept (history_after past more c.args.number added old.committed has count are)
