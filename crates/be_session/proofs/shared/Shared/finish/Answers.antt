use Rattle.std.proofs.Common.{ℕ, List, ◌<◌, [], ◌∷◌, ◌∙◌, arith, length, map, refl, subst, sym}
use Rattle.be_table.specs.Place.{Opened, SeatFacts}
use Rattle.be_table.specs.Steps.{Has}
use Rattle.be_table.specs.Works.{AllAt, knows_of}
use Rattle.be_table.specs.declared.pass.Knowledge.{Knowledge}
use Rattle.be_session.specs.Finishing.{IsClosedWith}
use Rattle.be_session.proofs.Collected.{all_here, has_last, has_more, known_with, new_have}
use Rattle.be_session.proofs.shared.Shared.finish.Goals as goal

pub collect_all-requires-clause-here : goal.collect_all-requires-clause-here
collect_all-requires-clause-here c =
    subst (AllAt c.self.inside.store.id) (sym c.push_reserved.ensures.items)
    (all_here c.args.self c.self.inside.store c.args.passes.items c.args.pass c.self.view_is c.requires.new c.requires.pass)

pub collect_all-requires-clause-own : goal.collect_all-requires-clause-own
collect_all-requires-clause-own c =
    subst (λ (ss : List SeatFacts). Has (map knows_of ss) c.number-own.result) (sym c.push_reserved.ensures.items)
    (has_last c.args.passes.items c.args.pass c.number-own.result (sym c.number-own.ensures))

pub collect_all-requires-clause-first : goal.collect_all-requires-clause-first
collect_all-requires-clause-first c = λ k low.
    let below : k < length c.args.passes.items = omega (arith, low, c.len-first.ensures, c.args.passes.ok.0) in
    subst (λ (ss : List SeatFacts). Has (map knows_of ss) k) (sym c.push_reserved.ensures.items)
    (has_more c.args.passes.items (c.args.pass ∷ []) k (new_have c.args.self 0 k k c.args.passes.items (omega arith) below c.requires.new))

pub returns : goal.returns
returns c =
    let all = c.collect_all.new.passes.items in
    let rest = c.collect_all.ensures.more.0 in
    let known = known_with c.args.passes.items c.args.pass c.push_reserved.new.self.items rest all c.push_reserved.ensures.items c.collect_all.ensures.more.1 in
    let closed : IsClosedWith c.collect_all.new.store.limits (map knows_of all) c.close.result = record {
      all = subst (λ (o : Opened). (k : ℕ) → k < o.limits.passes → Has (map knows_of all) k) (sym c.collect_all.ensures.store)
          (c.if-not-collect_all.ensures.all refl);
      legal = c.close.ensures.legal;
      by = c.close.ensures.by;
      seen = c.close.ensures.passes;
      writes = c.close.ensures.writes;
      reads = c.close.ensures.reads;
      volumes = c.close.ensures.volumes;
      limit = c.close.ensures.limit;
      moves = c.close.ensures.moves;
    } in (
      map knows_of c.args.passes.items,
      map knows_of rest,
      subst (λ (ks : List Knowledge). IsClosedWith c.args.self.limits ks c.close.result) known
          (subst (λ (o : Opened). IsClosedWith o.limits (map knows_of all) c.close.result) (c.collect_all.ensures.store ∙ c.self.view_is) closed),
    )
