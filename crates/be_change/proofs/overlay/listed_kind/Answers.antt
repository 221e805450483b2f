use Rattle.std.proofs.Common.{sym, ap, ◌∙◌}
use Rattle.be_change.proofs.Left.{kind_listed, listed_after, listed_further, listed_here, listed_is}
use Rattle.be_change.proofs.overlay.listed_kind.Goals as goal

pub loop-listed-preserved : goal.loop-listed-preserved
loop-listed-preserved c = c.loop-listed.invariant
    ∙ listed_further c.args.indices.now c.loop-listed.listed-index c.loop-listed-item.result c.args.name.now c.loop-listed-test.true c.loop-listed-item.is (sym c.eq.ensures ∙ c.if-eq.false)

pub returns-then-eq : goal.returns-then-eq
returns-then-eq c = λ base is.
    sym (c.loop-listed.invariant
    ∙ listed_here c.args.indices.now c.loop-listed.listed-index c.loop-listed-item.result c.args.name.now c.loop-listed-test.true c.loop-listed-item.is (sym c.eq.ensures ∙ c.if-eq.true))
    ∙ ap (λ l. kind_listed l c.args.name.now) is ∙ listed_is base c.args.name.now

pub returns : goal.returns
returns c = λ base is.
    sym (c.loop-listed.invariant ∙ listed_after c.args.indices.now c.loop-listed.listed-index c.args.name.now c.loop-listed-test.false)
    ∙ ap (λ l. kind_listed l c.args.name.now) is ∙ listed_is base c.args.name.now
