use Rattle.std.proofs.Common.{◌≡◌, ◌<◌, ◌≤◌, length, take, sym, ap, ◌∙◌, arith}
use Rattle.std.proofs.lemmas.List.{length-take-le}
use Rattle.std.specs.Ordering.{is_lt, is_le}
use Rattle.be_volume.specs.Maps.{name_cmp}
use Rattle.be_volume.specs.PairKeys.{is_at_or_after}
use Rattle.be_volume.proofs.KeyLemmas.{starts_at, starts_after, starts_long}
use Rattle.be_volume.proofs.keys.start_of.Goals as goal

pub slice_bounds-new-end : goal.slice_bounds-new-end
slice_bounds-new-end c =
    let long : 264 < length c.args.from.now = c.if-from-gt-MAX_KEY.true in
    let fits : 264 ≤ length c.args.from.now = omega arith in
    sym (length-take-le 264 c.args.from.now fits)

pub new-requires : goal.new-requires
new-requires c =
    let long : 264 < length c.args.from.now = c.if-from-gt-MAX_KEY.true in
    let fits : 264 ≤ length c.args.from.now = omega arith in
    let same : length (take 264 c.args.from.now) ≡ 264 = length-take-le 264 c.args.from.now fits in
    omega arith

pub returns-then-from-gt-MAX_KEY : goal.returns-then-from-gt-MAX_KEY
returns-then-from-gt-MAX_KEY c = λ k h.
    ap (λ b. is_lt (name_cmp b k)) c.new.ensures ∙ starts_long 264 c.args.from.now c.args.after k c.if-from-gt-MAX_KEY.true h

pub returns-then-after : goal.returns-then-after
returns-then-after c = λ k h.
    ap (λ b. is_lt (name_cmp b k)) c.new-key.ensures ∙ starts_after c.args.from.now k ∙ ap (λ t. is_at_or_after c.args.from.now t k) (sym c.if-after.true)

pub returns-else-after : goal.returns-else-after
returns-else-after c = λ k h.
    ap (λ b. is_le (name_cmp b k)) c.new-key.ensures ∙ starts_at c.args.from.now k ∙ ap (λ t. is_at_or_after c.args.from.now t k) (sym c.if-after.false)
