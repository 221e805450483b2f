-- What the ends of a range imply about its keys.
use Rattle.std.proofs.Common.{◌≡◌, ◌<◌, ◌^◌, ℕ, Bool, true, false, not, List, Some, None, if◌then◌else◌, refl, sym, ap, ◌∙◌}
use Rattle.std.specs.List.{Contains}
use Rattle.std.specs.Ordering.{is_lt, is_gt, ordering_reverse}
use Rattle.std.specs.declared.option.Option.{Option}
use Rattle.std.specs.declared.cmp.Ordering.{Ordering}
use Rattle.std.specs.declared.cmp.Ordering.TheVariants.{Less, Equal, Greater}
use Rattle.std.specs.Cmp.{tied_itself}
use Rattle.be_volume.specs.Maps.{name_cmp}
use Rattle.be_volume.specs.PairKeys.{is_at_or_after}
use Rattle.be_plan.proofs.Bounds.{not_true}
use Rattle.be_volume.specs.Keys.{IsNextKey}
use Rattle.be_volume.specs.Sound.{IsSound}
use Rattle.be_volume.specs.Volume.{State}
use Rattle.be_value.specs.Key.{key as key_bytes}
use Rattle.be_value.specs.declared.values.Value.{Value}
use Rattle.be_plan.specs.Narrow.{is_above, high_of}
use Rattle.be_plan.specs.declared.ranges.Range.{Range}
use Rattle.be_plan.specs.Walk.{HasCome, HasWanted, Keeps}
use Rattle.be_plan.proofs.Passing.{total, reversed, greater_trans, above_too, ends_above, passes}

-- If a key isn't below the low end and the low end isn't below a bound, the key isn't below the
-- bound.
pub not_below : (k low bound : List ℕ) → is_lt (name_cmp low bound) ≡ false → is_lt (name_cmp k low) ≡ false → is_lt (name_cmp k bound) ≡ false
not_below k low bound least h = by (name_cmp k bound) refl
  where
    by : (r : Ordering) → name_cmp k bound ≡ r → is_lt r ≡ false
    by Less e =
        let up : name_cmp bound k ≡ Greater = total.antisymm bound k ∙ ap ordering_reverse e in
        let down : name_cmp k low ≡ Less = reversed low k (above_too low bound k _ refl least up) in
        let no : true ≡ false = sym (ap is_lt down) ∙ h in
        absurd (cc no)
    by Equal e = refl
    by Greater e = refl

-- If a key isn't above the high end and the bound isn't below the high end, the key isn't above the
-- bound.
pub not_above : (k high bound : List ℕ) → is_lt (name_cmp bound high) ≡ false → is_gt (name_cmp k high) ≡ false → is_gt (name_cmp k bound) ≡ false
not_above k high bound greatest h = by (name_cmp k bound) refl
  where
    beyond : name_cmp k bound ≡ Greater → (r : Ordering) → name_cmp bound high ≡ r → is_lt r ≡ false → name_cmp k high ≡ Greater
    beyond e Less f g = cc
    beyond e Equal f g = total.antisymm k high ∙ ap ordering_reverse (sym (total.congr bound high k f) ∙ reversed k bound e)
    beyond e Greater f g = greater_trans k bound high e f

    by : (r : Ordering) → name_cmp k bound ≡ r → is_gt r ≡ false
    by Less e = refl
    by Equal e = refl
    by Greater e = let no : true ≡ false = sym (ap is_gt (beyond e _ refl greatest)) ∙ h in absurd (cc no)

-- If a key isn't above the high end and the high end isn't above a bound, the key isn't above the
-- bound.
pub not_past : (k high bound : List ℕ) → is_gt (name_cmp high bound) ≡ false → is_gt (name_cmp k high) ≡ false → is_gt (name_cmp k bound) ≡ false
not_past k high bound least h = not_above k high bound (turned (name_cmp high bound) refl least) h
  where
    turned : (o : Ordering) → name_cmp high bound ≡ o → is_gt o ≡ false → is_lt (name_cmp bound high) ≡ false
    turned Less e g = ap is_lt (total.antisymm bound high ∙ ap ordering_reverse e)
    turned Equal e g = ap is_lt (total.antisymm bound high ∙ ap ordering_reverse e)
    turned Greater e g = cc

-- A bound above another one isn't below it.
pub up_not_below : (low bound : List ℕ) → is_lt (name_cmp low bound) ≡ true → is_lt (name_cmp bound low) ≡ false
up_not_below low bound up = by (name_cmp low bound) refl up
  where
    by : (o : Ordering) → name_cmp low bound ≡ o → is_lt o ≡ true → is_lt (name_cmp bound low) ≡ false
    by Less e g = ap is_lt (total.antisymm bound low ∙ ap ordering_reverse e)
    by Equal e g = cc
    by Greater e g = cc

-- If a key isn't above a bound and the bound is below the high end, the key isn't above the high
-- end.
pub reached : (k high bound : List ℕ) → is_gt (name_cmp high bound) ≡ true → is_gt (name_cmp k bound) ≡ false → is_gt (name_cmp k high) ≡ false
reached k high bound over h = not_above k bound high (by (name_cmp high bound) over) h
  where
    by : (o : Ordering) → is_gt o ≡ true → is_lt o ≡ false
    by Less g = cc
    by Equal g = refl
    by Greater g = refl

-- If a key isn't below a bound and the bound is above the low end, the key isn't below the low end.
pub started : (k low bound : List ℕ) → is_lt (name_cmp low bound) ≡ true → is_lt (name_cmp k bound) ≡ false → is_lt (name_cmp k low) ≡ false
started k low bound up h = not_below k bound low (up_not_below low bound up) h

pub bounded_high : (r : Range) → r.bounded ≡ true → high_of r ≡ Some r.high.items
bounded_high r e = ap (λ b. if b then Some r.high.items else None) e

is_greater : (r : Ordering) → is_gt r ≡ true → r ≡ Greater
is_greater Less h = cc
is_greater Equal h = cc
is_greater Greater h = refl

-- If a key isn't below the low end and the low end is above a bound, the key is above the bound.
pub beyond : (k low bound : List ℕ) → is_gt (name_cmp low bound) ≡ true → is_lt (name_cmp k low) ≡ false → is_gt (name_cmp k bound) ≡ true
beyond k low bound up h = ap is_gt (above_too k low bound _ refl h (is_greater _ up))

-- If a key isn't above the high end and the high end is below a bound, the key is below the bound.
pub before : (k high bound : List ℕ) → is_gt (name_cmp bound high) ≡ true → is_gt (name_cmp k high) ≡ false → is_lt (name_cmp k bound) ≡ true
before k high bound up h = by (name_cmp k bound) refl
  where
    greater : name_cmp bound high ≡ Greater
    greater = is_greater _ up

    by : (r : Ordering) → name_cmp k bound ≡ r → is_lt r ≡ true
    by Less e = refl
    by Equal e = let no : true ≡ false = sym (ap is_gt (total.congr k bound high e ∙ greater)) ∙ h in absurd (cc no)
    by Greater e = let no : true ≡ false = sym (ap is_gt (greater_trans k bound high e greater)) ∙ h in absurd (cc no)

greater_not_less : (r : Ordering) → is_gt r ≡ true → is_lt r ≡ false
greater_not_less Less h = cc
greater_not_less Equal h = cc
greater_not_less Greater h = refl

-- The next key of a walk that began at the low end isn't below the low end.
from_low : (from : List ℕ) (after : Bool) (next low : List ℕ) → is_at_or_after from after next ≡ true → is_lt (name_cmp from low) ≡ false → is_lt (name_cmp next low) ≡ false
from_low from true next low h g = not_below next from low g (greater_not_less _ h)
from_low from false next low h g = not_below next from low g (not_true _ h)

-- The low end isn't below itself.
at_low : (low : List ℕ) → is_lt (name_cmp low low) ≡ false
at_low low = ap is_lt (tied_itself total low)

module _ (s : State) (Wanted : ℕ → Type 0) (name low : List ℕ) (high : Option (List ℕ)) where
  -- A walk begins at the low end.
  pub comes_first : (next : Option (List ℕ)) (found : List ℕ) → IsNextKey s name low false next → HasCome s Wanted name low high next found
  comes_first next found is = record {
    from = low;
    after = false;
    is_next = is;
    start = at_low low;
    passed = λ k h w no holds. let yes : true ≡ false = sym (ap not w.from_low) ∙ no in cc;
  }

  -- A walk continues from a key whose node was visited.
  pub comes_next : (key : List ℕ) (next : Option (List ℕ)) (before now : List ℕ) → IsSound s → HasCome s Wanted name low high (Some key) before → Keeps before now →
      ((v : Value) (n : ℕ) → n < 2 ^ 64 → key ≡ key_bytes v n → Wanted n → Contains now n) → IsNextKey s name key true next → HasCome s Wanted name low high next now
  comes_next key next before now sound come keeps has is = record {
    from = key;
    after = true;
    is_next = is;
    start = from_low come.from come.after key low come.is_next.1 come.start;
    passed = passes s Wanted name low high come.from come.after key before now sound come.is_next come.passed keeps has;
  }

  -- If the next key is above the range, the walk has visited the whole range.
  pub came_above : (key found : List ℕ) → is_above high key ≡ true → HasCome s Wanted name low high (Some key) found → HasWanted s Wanted name low high found
  came_above key found up come = ends_above s Wanted name low high come.from come.after key found come.is_next up come.passed

  -- The next key isn't below the low end.
  pub came_from_low : (key found : List ℕ) → HasCome s Wanted name low high (Some key) found → is_lt (name_cmp key low) ≡ false
  came_from_low key found come = from_low come.from come.after key low come.is_next.1 come.start
