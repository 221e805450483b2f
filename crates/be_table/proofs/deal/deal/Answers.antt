use Rattle.std.proofs.Common.{◌≡◌, [], ◌∷◌, length, suc, ◌+◌, ◌-◌, sym, ap, ◌∙◌, subst, arith, length-append, refl, None}
use Rattle.be_table.specs.declared.pass.View.{View}
use Rattle.be_table.specs.Rule.{alone, newcomer, undealt, pass_of}
use Rattle.be_table.specs.Seats.{IsReported, pin_of}
use Rattle.be_table.specs.Works.{AreNewAt}
use Rattle.be_table.proofs.Deals.{Me2, newcomers-deal, newcomer_reported, AreNewAt-push, dealt, left_over, newcomers-none}
use Rattle.be_table.proofs.deal.deal.Goals as goal

pub split_seat-base-requires : goal.split_seat-base-requires
split_seat-base-requires c =
    let i = c.loop-number.invariant in
    let more : c.args.passes - c.loop-number.number ≡ suc (c.args.passes - suc c.loop-number.number) = omega arith in
    (i.table, omega (arith, c.requires.table.0), newcomers-deal _ c.args.table.now.shared.key _ _ _ _ _ (ap (λ m. m.0) i.rest ∙ ap (undealt c.args.table.now.shared.key c.loop-number.number c.loop-number.number) more))

pub of-requires-clause-pass : goal.of-requires-clause-pass
of-requires-clause-pass c =
    let i = c.loop-number.invariant in let k = c.loop-number.number in
    let more : c.args.passes - k ≡ suc (c.args.passes - suc k) = omega arith in
    let d = dealt c.args.table.now.shared.key k (c.args.passes - suc k) _ _ (i.rest ∙ ap (λ n. (undealt c.args.table.now.shared.key k k n, [])) more) c.split_seat-base.ensures.4 in
    d ∙ ap (λ (m : Me2). (alone (pass_of m.0), [])) (sym d)

pub of-requires-clause-reported : goal.of-requires-clause-reported
of-requires-clause-reported c =
    let i = c.loop-number.invariant in let k = c.loop-number.number in
    let more : c.args.passes - k ≡ suc (c.args.passes - suc k) = omega arith in
    let d = dealt c.args.table.now.shared.key k (c.args.passes - suc k) _ _ (i.rest ∙ ap (λ n. (undealt c.args.table.now.shared.key k k n, [])) more) c.split_seat-base.ensures.4 in
    subst (λ (m : Me2). IsReported (pass_of m.0) k 0) (sym d) (newcomer_reported c.args.table.now.shared.key (k + 1) k c.requires.table.1 (omega arith))

pub of-requires-clause-pin : goal.of-requires-clause-pin
of-requires-clause-pin c =
    let i = c.loop-number.invariant in let k = c.loop-number.number in
    let more : c.args.passes - k ≡ suc (c.args.passes - suc k) = omega arith in
    let d = dealt c.args.table.now.shared.key k (c.args.passes - suc k) _ _ (i.rest ∙ ap (λ n. (undealt c.args.table.now.shared.key k k n, [])) more) c.split_seat-base.ensures.4 in
    subst (λ (m : Me2). None ≡ pin_of (pass_of m.0).phase (pass_of m.0).seen) (sym d) refl

pub loop-number-preserved : goal.loop-number-preserved
loop-number-preserved c =
    let i = c.loop-number.invariant in let k = c.loop-number.number in let s = c.split_seat-base.ensures in
    let more : c.args.passes - k ≡ suc (c.args.passes - suc k) = omega arith in
    let was = i.rest ∙ ap (λ n. (undealt c.args.table.now.shared.key k k n, [])) more in
    let d = dealt c.args.table.now.shared.key k (c.args.passes - suc k) _ _ was s.4 in
    let l = left_over c.args.table.now.shared.key k (c.args.passes - suc k) _ _ was s.2 in
    let at : suc k ≡ k + 1 = omega arith in
    let p = c.push_reserved.ensures in let o = c.of.ensures in
    let knows = o.2 ∙ ap (λ (m : Me2). pass_of m.0) d in
    let place : k ≡ 0 + length c.loop-number.seats.items = omega (arith, i.count) in
    record {
      table = s.0 ∙ i.table;
      rest = l ∙ ap (λ n. (undealt c.args.table.now.shared.key (k + 1) n (c.args.passes - n), [])) at;
      seats = subst (AreNewAt c.args.table.now.shared.table_id c.args.table.now.shared.key 0) (sym p.items)
          (AreNewAt-push _ c.args.table.now.shared.key 0 c.loop-number.seats.items c.of.result i.seats
          (o.0, o.1 ∙ s.3 ∙ i.table, knows ∙ ap (λ n. newcomer c.args.table.now.shared.key (n + 1) n) place));
      count = ap length p.items ∙ length-append c.loop-number.seats.items (c.of.result ∷ []) ∙ ap (λ n. n + 1) i.count;
      room = omega (arith, p.capacity, i.room);
    }

pub returns-clause-rest : goal.returns-clause-rest
returns-clause-rest c =
    let i = c.loop-number.invariant in
    (i.table, i.rest ∙ ap (λ (v : View). (v, [])) (newcomers-none c.args.table.now.shared.key c.loop-number.number c.loop-number.number _ (omega arith)))
