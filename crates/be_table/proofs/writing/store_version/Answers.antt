use Rattle.std.proofs.Common.{[], ◌∷◌, ◌+◌, length, sym, ap, ◌∙◌, subst, arith, ℕ}
use Rattle.be_table.specs.Setting.{Setting as Limits}
use Rattle.be_table.specs.Rule.{alone, pass_of, current_word}
use Rattle.be_table.specs.declared.pass.Move.TheVariants.{Publish}
use Rattle.be_table.specs.Steps.{MayPublish, given_of, publishes, with_history}
use Rattle.be_table.specs.Works.{Moves}
use Rattle.be_table.proofs.Moved.{publish_makes}
use Rattle.be_table.proofs.Publishing.{publishes_as}
use Rattle.be_table.proofs.writing.store_version.Goals as goal

pub store-requires : goal.store-requires
store-requires g c =
    let t = c.table.view_is in let r = c.requires.pass in let m = c.args.base.now.me in let i = c.table.invariant in (
      c.requires.seat ∙ sym (ap (λ t. t.id) t),
      omega (arith, i.0),
      publishes_as _ _ _ (pass_of m.0) m.1 m (λ k. (r.0 k, m.1)) g.E.NextVersion.entry g.E.NextVersion.page c.args.word
          (subst (λ (p : Limits × ℕ). MayPublish p.0 (pass_of m.0) g.E.NextVersion.entry p.1) (λ k. (sym (ap (λ t. t.limits) t) k, c.requires.reported.1 k)) r.1)
          (c.requires.word ∙ ap (current_word (length (pass_of m.0).seen + 1)) c.requires.reported.1),
    )

pub returns-clause-me : goal.returns-clause-me
returns-clause-me g c =
    let m = c.args.base.now.me in let r = c.store.new.seat.me in
    (publish_makes g.E.NextVersion.entry g.E.NextVersion.page m r c.store.ensures.2).0
    ∙ ap (λ p. (alone (publishes (with_history (pass_of m.0) (pass_of r.0).history) g.E.NextVersion.entry p), m.1)) (sym c.requires.reported.1)

pub returns-clause-moves : goal.returns-clause-moves
returns-clause-moves g c =
    let m = c.args.base.now.me in let r = c.store.new.seat.me in
    subst (λ p. Moves (pass_of m.0) (Publish (pass_of m.0).number p (given_of (pass_of m.0)) ∷ []) (pass_of r.0)) (sym c.requires.reported.1)
    (publish_makes g.E.NextVersion.entry g.E.NextVersion.page m r c.store.ensures.2).1

pub returns-clause-pass : goal.returns-clause-pass
returns-clause-pass g c =
    let m = c.args.base.now.me in
    (publish_makes g.E.NextVersion.entry g.E.NextVersion.page m c.store.new.seat.me c.store.ensures.2).2

pub returns-clause-newest : goal.returns-clause-newest
returns-clause-newest g c =
    let m = c.args.base.now.me in
    (publish_makes g.E.NextVersion.entry g.E.NextVersion.page m c.store.new.seat.me c.store.ensures.2).3
