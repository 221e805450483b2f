use Rattle.std.proofs.Common.{◌≡◌, false, arith, refl, sym, subst, inl, inr}
use Rattle.be_table.specs.Place.{Work}
use Rattle.be_table.specs.Steps.{IsOwnLowest}
use Rattle.be_table.specs.Works.{HasNoFree, MakesScan, FindsNone}
use Rattle.be_table.proofs.Announced.{held_still, was_announced}
use Rattle.be_table.proofs.Opened.{all_held}
use Rattle.be_table.proofs.writing.Writing.take.Goals as goal

pub returns-in-Some-clause-ok : goal.returns-in-Some-clause-ok
returns-in-Some-clause-ok c =
    let e = c.in-Some.ensures in record { between = c.args.self.now; scan = inl refl; because = inl refl; inside = e.taken.0; small = e.taken.1; free = e.taken.2; taken = e.taken.3; moves = e.taken.4 }

pub returns-in-Some-take_free-clause-ok : goal.returns-in-Some-take_free-clause-ok
returns-in-Some-take_free-clause-ok c =
    let e = c.in-Some-take_free.ensures in
    let h = subst (λ (w : Work). MakesScan w c.scan-least.new.self c.scan-least.result) c.in_default.ensures.same c.scan-least.ensures in
    record { between = c.scan-least.new.self; scan = inr (c.scan-least.result, h); because = inr c.in_default.ensures.none; inside = e.taken.0; small = e.taken.1; free = e.taken.2; taken = e.taken.3; moves = e.taken.4 }

pub returns-in-None-clause-full : goal.returns-in-None-clause-full
returns-in-None-clause-full c =
    let e = c.in-None.ensures in
    let h = subst (λ (w : Work). MakesScan w c.scan-least.new.self c.scan-least.result) c.in_default.ensures.same c.scan-least.ensures in (
      c.scan-least.result,
      refl,
      subst (λ (w : Work). FindsNone c.args.self.now w c.scan-least.result) (sym e.same) (record {
        before = c.in_default.ensures.none;
        scan = h;
        none = e.none;
        full = (
          (
            sym h.lowest_is,
            λ p lt. all_held c.args.self.now c.scan-least.new.self c.scan-least.result h e.none p (let count = e.count in omega arith),
            subst (λ (w : Work). IsOwnLowest w.knows c.scan-least.result) (sym h.same) h.own,
            was_announced c.args.self.now c.scan-least.new.self c.scan-least.result h,
          ),
          held_still c.args.self.now c.scan-least.new.self c.scan-least.result h,
        );
      }),
    )

pub scan-least-requires : goal.scan-least-requires
scan-least-requires c = record {
  «open» = subst (λ (w : Work). w.knows.published ≡ false) (sym c.in_default.ensures.same) c.requires.«open»;
  reason = inl (subst HasNoFree (sym c.in_default.ensures.same) c.in_default.ensures.none);
}
