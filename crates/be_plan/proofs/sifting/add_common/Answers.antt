use Rattle.std.proofs.Common.{◌<◌, ℕ, length, slice_index, subst, inl, inr, arith}
use Rattle.std.specs.List.{Contains}
use Rattle.std.proofs.lemmas.Bool.{cases_lt}
use Rattle.std.proofs.lemmas.List.Elements.{Contains-get_or}
use borrow.Author.Count.{below_more}
use Rattle.be_plan.proofs.Marked.{each_contained}
use Rattle.be_plan.proofs.Meeting.{less_before, meets}
use Rattle.be_plan.proofs.sifting.add_common.Goals as goal

pub returns-in_err-add_if_at-clause-only : goal.returns-in_err-add_if_at-clause-only
returns-in_err-add_if_at-clause-only c = λ n h.
    let numbers = c.args.numbers.now in
    let here : c.loop-i.i < length numbers = omega (arith, c.loop-i-test.true) in
    let P : ℕ → Type 0 = λ m. Contains numbers m in
    elim (c.add_if_at.ensures.only n h) [
      | inl old ↦ c.loop-i.invariant.only n old
      | inr is ↦ inr (subst P is.0 (Contains-get_or numbers c.loop-i.i 0 here), is.1)
    ]

pub loop-i-preserved : goal.loop-i-preserved
loop-i-preserved c =
    let numbers = c.args.numbers.now in
    let others = c.args.others.now in
    let i = c.loop-i.i in
    let at = c.pass_below-at.result in
    let inv = c.loop-i.invariant in
    let passed = c.pass_below-at.ensures in
    let here : i < length numbers = omega (arith, c.loop-i-test.true) in
    let lower : (k : ℕ) → k < at → slice_index others k < slice_index numbers i = λ k lt.
    elim (cases_lt k c.loop-i.at) [
      | inl old ↦ inv.below k i old (omega arith) here
      | inr from ↦ passed.below k from lt
    ] in
    let P : ℕ → Type 0 = λ m. Contains numbers m in
    let Q : ℕ → Type 0 = λ k. Contains others (slice_index numbers k) → Contains c.add_if_at.new.found.items (slice_index numbers k) in
    record {
      end = passed.end;
      below = λ k m lt from within. omega (arith, lower k lt, less_before numbers c.requires.rising i m (omega (arith, from)) within);
      keeps = λ n h. c.add_if_at.ensures.keeps n (inv.keeps n h);
      only = λ n h. elim (c.add_if_at.ensures.only n h) [
        | inl old ↦ inv.only n old
        | inr is ↦ inr (subst P is.0 (Contains-get_or numbers i 0 here), is.1)
      ];
      has = below_more Q i (λ k lt there. c.add_if_at.ensures.keeps (slice_index numbers k) (inv.has k lt there))
          (λ there.
          let met = meets others at (slice_index numbers i) c.requires.others lower passed.stops there in
          c.in_ok-add_if_at.ensures.has met.0 met.1);
    }

pub returns-clause-has : goal.returns-clause-has
returns-clause-has c = λ n there also.
    each_contained (λ m. Contains c.args.others.now m → Contains c.loop-i.found.items m) c.args.numbers.now
    (λ k lt. c.loop-i.invariant.has k (omega (arith, lt, c.loop-i-test.false))) n there also
