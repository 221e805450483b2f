use Rattle.std.proofs.Common.{◌≡◌, ◌∙◌, ◌++◌, [], ◌∷◌, ◌==◌, length, refl, List, ℕ, true, false, sym, ap, arith}
use Rattle.std.specs.Ordering.{is_lt}
use Rattle.be_volume.specs.Maps.{name_cmp}
use Rattle.be_plan.proofs.Bounds.{not_true, not_false, not_below_empty}
use Rattle.be_plan.proofs.Ends.{not_below, started}
use Rattle.be_plan.proofs.Ways.{nat_is}
use Rattle.be_plan.proofs.ranges.Range.starts_at.Goals as goal

without_bytes : (l : List ℕ) → (length l == 0) ≡ true → l ≡ []
without_bytes [] e = refl
without_bytes (x ∷ l) e = let none : length (x ∷ l) ≡ 0 = nat_is (length (x ∷ l)) 0 e in absurd (omega arith)

pub returns-then-not-is_empty-clause-starts : goal.returns-then-not-is_empty-clause-starts
returns-then-not-is_empty-clause-starts c = λ e k h.
    let low = c.args.self.now.low.items in
    let bound = c.args.front.now ++ c.args.end.now in
    let least : is_lt (name_cmp low bound) ≡ false =
    ap is_lt (sym (ap (λ l. name_cmp l bound) c.as_slice-low.ensures.value) ∙ sym c.order.ensures) ∙ sym c.is_lt.ensures ∙ not_true c.is_lt.result e in
    not_below k low bound least h

pub returns-then-not-is_empty-clause-reaches : goal.returns-then-not-is_empty-clause-reaches
returns-then-not-is_empty-clause-reaches c = λ e k h.
    let low = c.args.self.now.low.items in
    let bound = c.args.front.now ++ c.args.end.now in
    let up : is_lt (name_cmp low bound) ≡ true =
    ap is_lt (sym (ap (λ l. name_cmp l bound) c.as_slice-low.ensures.value) ∙ sym c.order.ensures) ∙ sym c.is_lt.ensures ∙ not_false c.is_lt.result e in
    started k low bound up h

pub returns-else-not-is_empty-clause-reaches : goal.returns-else-not-is_empty-clause-reaches
returns-else-not-is_empty-clause-reaches c = λ e k h.
    let low = c.args.self.now.low.items in
    let none : low ≡ [] = sym c.as_slice-low.ensures.value ∙ without_bytes c.as_slice-low.result.now (sym c.is_empty.ensures ∙ c.if-not-is_empty.false) in
    ap (λ l. is_lt (name_cmp k l)) none ∙ not_below_empty k
