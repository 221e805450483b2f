use Rattle.std.proofs.Common.{◌∙◌, ap, sym}
use Rattle.be_volume.specs.Reading.{index_kind}
use Rattle.be_order.proofs.Anys.{one_name}
use Rattle.be_order.proofs.firsts.meet_own.Goals as goal

pub returns-clause-kind : goal.returns-clause-kind
returns-clause-kind g c = λ name on. ap (index_kind g.volume) (one_name _ name _ on c.in-Some.ensures) ∙ sym (c.in-Some-kind_of.ensures.answer g.volume c.requires.1)
