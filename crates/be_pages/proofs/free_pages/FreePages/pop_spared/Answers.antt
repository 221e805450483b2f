use Rattle.std.proofs.Common.{◌∙◌, sym, arith}
use Rattle.be_pages.proofs.PageSets.{flagged_below}
use Rattle.be_pages.proofs.free_pages.FreePages.pop_spared.Goals as goal

pub returns-clause-inside : goal.returns-clause-inside
returns-clause-inside c =
    let pages = c.args.self.now in
    omega (arith, flagged_below pages.spare.places.items c.args.page (sym c.has.ensures ∙ c.if-not-has.false), pages.spare_pages)
