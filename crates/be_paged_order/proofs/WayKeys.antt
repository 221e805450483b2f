-- The keys on a way.
use Rattle.std.proofs.Common.{◌≡◌, ℕ, Bool, true, false, ◌&&◌, List, Some, None, refl, sym, ap, ◌∙◌}
use Rattle.std.specs.declared.cmp.Ordering.{Ordering}
use Rattle.std.specs.declared.cmp.Ordering.TheVariants.{Less, Equal, Greater}
use Rattle.std.specs.declared.option.Option.{Option}
use Rattle.std.specs.Ordering.{is_ge, is_gt, is_le, is_lt, ordering_reverse}
use Rattle.std.proofs.lemmas.Cmp.{nat_list_cmp_total}
use Rattle.be_tree_reading.specs.Key.{key_cmp}
use Rattle.be_tree_reading.specs.Range.{is_from}
use Rattle.be_tree_reading.specs.Way.{is_until}
use Rattle.be_volume.specs.Maps.{name_cmp}
use Rattle.be_plan.specs.Narrow.{Within, is_above}
use Rattle.be_plan.proofs.Ways.{and_first, and_second}
use Rattle.be_order.specs.Ordered.{is_after}
use Rattle.be_order.proofs.KeyLists.{key_apart}
use Rattle.be_paged_order.specs.Ways.{is_up_to, lies_on}

less : (o : Ordering) → is_lt o ≡ true → o ≡ Less
less Less e = refl
less Equal e = cc
less Greater e = cc

greater : (o : Ordering) → is_gt o ≡ true → o ≡ Greater
greater Less e = cc
greater Equal e = cc
greater Greater e = refl

lt_ge : (o : Ordering) → is_ge o ≡ true → is_lt o ≡ false
lt_ge Less e = cc
lt_ge Equal e = refl
lt_ge Greater e = refl

ge_lt : (o : Ordering) → is_lt o ≡ false → is_ge o ≡ true
ge_lt Less e = cc
ge_lt Equal e = refl
ge_lt Greater e = refl

lt_not_ge : (o : Ordering) → is_ge o ≡ false → is_lt o ≡ true
lt_not_ge Less e = refl
lt_not_ge Equal e = cc
lt_not_ge Greater e = cc

gt_le : (o : Ordering) → is_le o ≡ true → is_gt o ≡ false
gt_le Less e = refl
gt_le Equal e = refl
gt_le Greater e = cc

le_gt : (o : Ordering) → is_gt o ≡ false → is_le o ≡ true
le_gt Less e = refl
le_gt Equal e = refl
le_gt Greater e = cc

flip : (a b : List ℕ) (o : Ordering) → name_cmp a b ≡ o → name_cmp b a ≡ ordering_reverse o
flip a b o e = nat_list_cmp_total.antisymm b a ∙ ap ordering_reverse e

-- If a < b and b ≤ c, then a < c.
below : (a b c : List ℕ) → name_cmp a b ≡ Less → is_le (name_cmp b c) ≡ true → name_cmp a c ≡ Less
below a b c lt le = by (name_cmp b c) refl le
  where
    by : (o : Ordering) → name_cmp b c ≡ o → is_le o ≡ true → name_cmp a c ≡ Less
    by Less e h = nat_list_cmp_total.trans a b c lt e
    by Equal e h = ap (name_cmp a) (sym (key_apart false b c e)) ∙ lt
    by Greater e h = cc

-- If a ≤ b and b < c, then a < c.
at_most : (a b c : List ℕ) → is_le (name_cmp a b) ≡ true → name_cmp b c ≡ Less → name_cmp a c ≡ Less
at_most a b c le lt = by (name_cmp a b) refl le
  where
    by : (o : Ordering) → name_cmp a b ≡ o → is_le o ≡ true → name_cmp a c ≡ Less
    by Less e h = nat_list_cmp_total.trans a b c e lt
    by Equal e h = ap (λ x. name_cmp x c) (key_apart false a b e) ∙ lt
    by Greater e h = cc

le_flip : (a b : List ℕ) → is_ge (name_cmp a b) ≡ true → is_le (name_cmp b a) ≡ true
le_flip a b h = ap is_le (flip a b (name_cmp a b) refl) ∙ by (name_cmp a b) h
  where
    by : (o : Ordering) → is_ge o ≡ true → is_le (ordering_reverse o) ≡ true
    by Less e = cc
    by Equal e = refl
    by Greater e = refl

both : (a b : Bool) → a ≡ true → b ≡ true → (a && b) ≡ true
both true b h k = k
both false b h k = cc

-- The bounds mean the same in both crates.
until_above : (high : Option (List ℕ)) (k : List ℕ) → is_until high false k ≡ true → is_above high k ≡ false
unfolding key_cmp
until_above None k h = refl
until_above (Some x) k h = gt_le (name_cmp k x) h

above_until : (high : Option (List ℕ)) (k : List ℕ) → is_above high k ≡ false → is_until high false k ≡ true
unfolding key_cmp
above_until None k h = refl
above_until (Some x) k h = le_gt (name_cmp k x) h

from_low : (low k : List ℕ) → is_from low false k ≡ true → is_lt (name_cmp k low) ≡ false
unfolding key_cmp
from_low low k h = lt_ge (name_cmp k low) h

low_from : (low k : List ℕ) → is_lt (name_cmp k low) ≡ false → is_from low false k ≡ true
unfolding key_cmp
low_from low k h = ge_lt (name_cmp k low) h

-- Without a cursor, the keys of the range are on the way.
pub plain_only : (back : Bool) (low : List ℕ) (high : Option (List ℕ)) (k : List ℕ) → lies_on back false low high k ≡ true → Within low high k
plain_only false low high k h = record { from_low = from_low low k (and_first _ _ h); to_high = until_above high k (and_second _ _ h) }
plain_only true low high k h = record { from_low = from_low low k (and_second _ _ h); to_high = until_above high k (and_first _ _ h) }

pub plain_all : (back : Bool) (low : List ℕ) (high : Option (List ℕ)) (k : List ℕ) → Within low high k → lies_on back false low high k ≡ true
plain_all false low high k w = both _ _ (low_from low k w.from_low) (above_until high k w.to_high)
plain_all true low high k w = both _ _ (above_until high k w.to_high) (low_from low k w.from_low)

-- Up from the cursor, or from the low end if that is above the cursor.
module _ (low : List ℕ) (high : Option (List ℕ)) (cursor k : List ℕ) where
  pub up_only : is_ge (name_cmp cursor low) ≡ true → lies_on false true cursor high k ≡ true → Within low high k × (is_after false (Some cursor) k ≡ true)
  unfolding key_cmp
  up_only e h =
      let over : name_cmp k cursor ≡ Greater = greater _ (and_first _ _ h) in
      let after : name_cmp cursor k ≡ Less = flip k cursor Greater over in
      let lt : name_cmp low k ≡ Less = at_most low cursor k (le_flip cursor low e) after in
      (record { from_low = ap is_lt (flip low k Less lt); to_high = until_above high k (and_second _ _ h) }, ap is_lt after)

  pub up_all : Within low high k → is_after false (Some cursor) k ≡ true → lies_on false true cursor high k ≡ true
  unfolding key_cmp
  up_all w h =
      let over : name_cmp k cursor ≡ Greater = flip cursor k Less (less _ h) in
      both _ _ (ap is_gt over) (above_until high k w.to_high)

  pub up_whole : is_ge (name_cmp cursor low) ≡ false → lies_on false false low high k ≡ true → Within low high k × (is_after false (Some cursor) k ≡ true)
  up_whole e h =
      let w = plain_only false low high k h in
      let le : is_le (name_cmp low k) ≡ true = le_flip k low (ge_lt _ w.from_low) in
      (w, ap is_lt (below cursor low k (less _ (lt_not_ge _ e)) le))

-- Down from the cursor, or from the high end if that is below the cursor.
module _ (low cursor k : List ℕ) where
  pub down_only : (high : Option (List ℕ)) → is_up_to high cursor ≡ true → lies_on true true low (Some cursor) k ≡ true → Within low high k × (is_after true (Some cursor) k ≡ true)
  unfolding key_cmp
  down_only None e h = (record { from_low = from_low low k (and_second _ _ h); to_high = refl }, and_first _ _ h)
  down_only (Some x) e h =
      let lt : name_cmp k x ≡ Less = below k cursor x (less _ (and_first _ _ h)) (le_flip x cursor e) in
      (record { from_low = from_low low k (and_second _ _ h); to_high = ap is_gt lt }, and_first _ _ h)

  pub down_all : (high : Option (List ℕ)) → Within low high k → is_after true (Some cursor) k ≡ true → lies_on true true low (Some cursor) k ≡ true
  unfolding key_cmp
  down_all high w h = both _ _ h (low_from low k w.from_low)

  pub down_whole : (high : Option (List ℕ)) → is_up_to high cursor ≡ false → lies_on true false low high k ≡ true → Within low high k × (is_after true (Some cursor) k ≡ true)
  unfolding key_cmp
  down_whole None e h = cc
  down_whole (Some x) e h =
      let w = plain_only true low (Some x) k h in
      let lt : name_cmp x cursor ≡ Less = less _ (lt_not_ge _ e) in
      (w, ap is_lt (at_most k x cursor (le_gt _ w.to_high) lt))
