use Rattle.std.proofs.Common.{◌∙◌, subst}
use Rattle.be_query.specs.Grammar.{Formula}
use Rattle.be_volume.specs.Query.{scan}
use Rattle.be_order.specs.Firsts.{IsAnyOf}
use Rattle.be_order.proofs.Some.{some_of}
use Rattle.be_order.proofs.firsts.any_prepared_into.Goals as goal

pub returns-clause-any : goal.returns-clause-any
returns-clause-any g c =
    let P : Formula → Type 0 = λ f. IsAnyOf (scan g.volume f) c.args.most c.truncate.new.self.items in
    subst P (c.query-query.ensures ∙ c.meet_own.ensures.same)
    (some_of (scan g.volume c.query-query.result.now) c.args.most c.answer_into.new.found.items c.truncate.new.self.items c.in_ok-answer_into.ensures.answer c.in_ok-answer_into.ensures.rising
    c.truncate.ensures.items)

pub returns-then-branch-clause-any : goal.returns-then-branch-clause-any
returns-then-branch-clause-any g c =
    let P : Formula → Type 0 = λ f. IsAnyOf (scan g.volume f) c.args.most c.some_of.new.found.items in
    subst P (c.tree.ensures.tree ∙ c.query-query.ensures ∙ c.meet_own.ensures.same) (c.in_ok-some_of.ensures.any c.if-branch.true)
