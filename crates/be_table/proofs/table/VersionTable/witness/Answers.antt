use Rattle.std.proofs.Common.{sym, ap, ◌∙◌, arith}
use Rattle.be_table.proofs.Witnesses.{attests_as, reported_attested}
use Rattle.be_table.proofs.table.VersionTable.witness.Goals as goal

pub split_seat-front-requires : goal.split_seat-front-requires
split_seat-front-requires c =
    let p = c.into_base-base.ensures.pass in
    (p.0 ∙ ap (λ s. s.table) c.move_out.ensures.0 ∙ c.requires.1 ∙ sym (ap (λ t. t.id) c.self.view_is), omega (arith, c.self.invariant.0), attests_as _ _ _ _ (ap (λ m. m.0) p.1))

pub of-requires-clause-reported : goal.of-requires-clause-reported
of-requires-clause-reported c =
    let p = c.into_base-base.ensures in
    reported_attested c.move_out.result.knows _ c.split_seat-front.new.seat.me _ _ p.pass.1 c.split_seat-front.ensures.2 p.reported.1
