use Rattle.std.proofs.Common.{refl, sym, ap, ◌∙◌, inl, inr}
use Rattle.be_query.specs.View.{formula}
use Rattle.be_volume.specs.Query.{scan}
use Rattle.be_plan.proofs.Answering.{covered_by, covers_parts, found_all}
use Rattle.be_plan.proofs.Marked.{nothing_in}
use Rattle.be_plan.proofs.running.run.Goals as goal

pub returns-clause-answer : goal.returns-clause-answer
returns-clause-answer g c =
    let f = formula c.tree.result.now in
    let picks = c.args.cover.now.picks in
    let parts = covers_parts g.volume picks picks _ f refl (sym c.tree.ensures.tree) c.requires.1.1 in
    ap (scan g.volume) (sym c.tree.ensures.tree)
    ∙ found_all g.volume f c.put_in_order.new.numbers.items (g.met.S.Source.sound c.args.source.now g.volume c.requires.1.0) (covered_by g.volume f picks parts.0 parts.1) c.in_ok-put_in_order.ensures.rising
    (λ n h. elim (c.walk_picks.ensures.collects.only n (c.in_ok-put_in_order.ensures.only n h)) [ inl old ↦ absurd (nothing_in _ n c.in_ok-found.ensures.items old) | inr is ↦ is ])
    (λ n h. c.in_ok-put_in_order.ensures.keeps n (c.in_ok-walk_picks.ensures.has n h))
