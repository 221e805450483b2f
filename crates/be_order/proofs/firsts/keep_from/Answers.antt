use Rattle.std.proofs.Common.{◌∙◌, ap, nat_le, rules, take}
use Rattle.std.proofs.lemmas.Fn.{filter_same}
use Rattle.be_order.proofs.firsts.keep_from.Goals as goal

pub returns : goal.returns
returns c =
    c.truncate.ensures.items
    ∙ ap (take c.args.most) (filter_same _ (nat_le c.args.first) _ (λ x b f h. search rules) c.args.numbers.now.items c.retain.new.self.items c.retain.ensures.filtered)
