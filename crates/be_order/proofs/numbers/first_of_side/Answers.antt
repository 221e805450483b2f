use Rattle.std.proofs.Common.{◌∙◌, Bor, IfSome, ap, filter, nat_le, rules, subst, sym, take}
use Rattle.std.proofs.lemmas.Fn.{filter_same}
use Rattle.std.specs.Option.{option_copied}
use Rattle.std.specs.declared.option.Option.{Option}
use Rattle.be_query.specs.View.{formula}
use Rattle.be_query.specs.declared.tree.Tree.{Tree}
use Rattle.be_volume.specs.Query.{sat}
use Rattle.be_plan.proofs.Rising.{rises_increasing}
use Rattle.be_order.specs.Firsts.{IsNeeded}
use Rattle.be_order.proofs.Numbered.{listed_from}
use Rattle.be_order.proofs.numbers.first_of_side.Goals as goal

pub returns-clause-first : goal.returns-clause-first
returns-clause-first g c = λ _.
    let s = g.volume in
    let f = formula c.args.tree.now in
    let nodes = c.in-Some-list_true.nodes.items in
    let lists = c.in-Some-list_true.ensures.lists in
    let needed = subst (λ (o : Option (Bor Tree)). IfSome (option_copied o) (λ part. IsNeeded f (formula part))) c.in-Some.is c.requires.1.1.1 in
    c.in_ok-first_listed.ensures.first
    ∙ ap (λ l. take c.args.most (filter (sat s f) l))
    (c.as_slice.ensures.value ∙ filter_same _ (nat_le c.args.first) _ (λ x b f h. search rules) nodes c.retain.new.self.items c.retain.ensures.filtered)
    ∙ ap (take c.args.most)
    (sym (listed_from s (g.met.S.Source.sound c.args.source.now s c.requires.1.0) f nodes (rises_increasing nodes lists.rising) (λ m h. lists.all m (needed.needed s m h)) c.args.first))
