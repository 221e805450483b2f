use Rattle.std.proofs.Common.{◌≡◌, ◌+◌, ◌*◌, sym, ap, ◌∙◌, arith}
use Rattle.be_table.proofs.Moves.{unpins_as}
use Rattle.be_table.proofs.Reported.{unpinned_reported}
use Rattle.be_table.proofs.table.VersionTable.unpin.Goals as goal

pub store-requires : goal.store-requires
store-requires c =
    let p = c.into_base-base.ensures.pass in let t = c.into_base-base.ensures.reported in let i = c.self.invariant in
    let e : c.move_out.result.knows.limits.passes ≡ c.self.inside.limits.passes = ap (λ s. s.knows.limits.passes) c.move_out.ensures.0 ∙ ap (λ l. l.passes) c.requires.seat.2 ∙ sym (ap (λ t. t.limits.passes) c.self.view_is) ∙ sym (ap (λ l. l.passes) i.2) in
    let lt = t.1.pass.number_below in (
      p.0 ∙ ap (λ s. s.table) c.move_out.ensures.0 ∙ c.requires.seat.1 ∙ sym (ap (λ t. t.id) c.self.view_is),
      omega (arith, i.0, t.1.number_is, i.3.limits.some_pages, t.0),
      unpins_as _ _ _ c.move_out.result.knows _ _ p.1 c.requires.pinned.0 c.requires.pinned.1 _ (ap (λ s. s.knows.phase) c.move_out.ensures.0 ∙ c.requires.pinned.2) (ap (λ n. 16 + 8 * n) (sym t.1.number_is)),
    )

pub of-requires-clause-reported : goal.of-requires-clause-reported
of-requires-clause-reported c = unpinned_reported _ _ c.move_out.result.knows _ _ c.into_base-base.ensures.pass.1 c.store.ensures.2 c.into_base-base.ensures.reported.1
