-- A pick is in the part that is found for it.
use Rattle.std.proofs.Common.{◌≡◌, ◌<◌, ◌≤◌, ◌+◌, ◌-◌, ℕ, Bool, true, false, ◌||◌, List, refl, sym, ap, ◌∙◌, arith}
use Rattle.std.specs.Prelude.{slice_get}
use Rattle.std.specs.Option.{option_map_or}
use Rattle.std.specs.declared.option.Option.{Option}
use Rattle.std.specs.declared.option.Option.TheVariants.{None}
use Rattle.be_value.specs.declared.values.Value.{Value}
use Rattle.be_query.specs.Grammar.{Formula, Or, comparisons}
use Rattle.be_volume.specs.Query.{sat}
use Rattle.be_volume.specs.Volume.{State}
use Rattle.be_plan.specs.Cover.{Comparison, leaves, rests_on}
use Rattle.be_plan.specs.Narrow.{Allows, rest_true}
use Rattle.be_plan.specs.Spine.{IsUnderOr, LiesIn, is_or}
use Rattle.be_plan.proofs.Ways.{left_part, right_part}

or_true : (a b : Bool) → b ≡ true → (a || b) ≡ true
or_true true b h = refl
or_true false b h = h

pub whole_under : (f : Formula) → IsUnderOr f 0 f
whole_under f = record {
  places = λ i h. let e : 0 + i ≡ i = omega arith in ap (slice_get (leaves f)) e;
  allows = λ pick name v lo hi h. h;
  means = λ s node h. h;
  alone = λ none. refl;
}

-- What an "or" allows, given its sides.
by_sides : (pick from : ℕ) (a b : Formula) (name : List ℕ) (v : Value) → Allows pick from (Or a b) name v →
    (from ≤ pick → pick < from + comparisons a → Allows pick from a name v)
    × (from + comparisons a ≤ pick → pick < from + comparisons a + comparisons b → Allows pick (from + comparisons a) b name v)
by_sides pick from a b name v h = h

-- A part of an "or" isn't a whole other than an "or".
side_alone : (whole a b part : Formula) → (is_or whole ≡ false → Or a b ≡ whole) → is_or whole ≡ false → part ≡ whole
side_alone whole a b part alone none = let e : true ≡ false = ap is_or (alone none) ∙ none in cc

pub left_under : (whole : Formula) (from : ℕ) (a b : Formula) → IsUnderOr whole from (Or a b) → IsUnderOr whole from a
left_under whole from a b u = record {
  places = left_part whole from a b u.places;
  allows = λ pick name v lo hi h. (by_sides pick from a b name v (u.allows pick name v lo (omega (arith, hi)) h)).0 lo hi;
  means = λ s node h. u.means s node (ap (λ t. t || sat s b node) h);
  alone = side_alone whole a b a u.alone;
}

pub right_under : (whole : Formula) (from : ℕ) (a b : Formula) → IsUnderOr whole from (Or a b) → IsUnderOr whole (from + comparisons a) b
right_under whole from a b u = record {
  places = right_part whole from a b u.places;
  allows = λ pick name v lo hi h. (by_sides pick from a b name v (u.allows pick name v (omega (arith, lo)) (omega (arith, hi)) h)).1 lo hi;
  means = λ s node h. u.means s node (or_true (sat s a node) _ h);
  alone = side_alone whole a b b u.alone;
}

-- The comparison at the position of the pick, counted from the first comparison of the part.
pub there_in : (whole part : Formula) (pick from : ℕ) → LiesIn whole pick from part → slice_get (leaves whole) pick ≡ slice_get (leaves part) (pick - from)
there_in whole part pick from s =
    let e : pick ≡ from + (pick - from) = omega (arith, s.first) in
    let lt : pick - from < comparisons part = omega (arith, s.first, s.last) in
    ap (slice_get (leaves whole)) e ∙ s.under.places (pick - from) lt

-- If the pick is on an indexed name in the whole, it is so in the part.
pub rests_in : (indexed : List ℕ → Bool) (whole part : Formula) (pick from : ℕ) → LiesIn whole pick from part → rests_on indexed whole pick ≡ true → rests_on indexed part (pick - from) ≡ true
rests_in indexed whole part pick from s h = sym (ap (λ o. option_map_or (λ (d : Comparison). indexed d.name) o false) (there_in whole part pick from s)) ∙ h

-- If nothing remains of a part that is only under "or", the whole is true.
pub whole_true : (whole : Formula) (from : ℕ) (part : Formula) (s : State) (node : ℕ) (rest : Option Formula) → IsUnderOr whole from part →
    sat s part node ≡ rest_true s rest node → rest ≡ None → sat s whole node ≡ true
whole_true whole from part s node rest u e none = u.means s node (e ∙ ap (λ r. rest_true s r node) none)

-- The remaining condition of the whole, if the whole isn't an "or".
pub rest_of_same : (whole : Formula) (from : ℕ) (part : Formula) (s : State) (node : ℕ) (rest : Option Formula) → is_or whole ≡ false → IsUnderOr whole from part →
    sat s part node ≡ rest_true s rest node → sat s whole node ≡ rest_true s rest node
rest_of_same whole from part s node rest is u e = ap (λ f. sat s f node) (sym (u.alone is)) ∙ e
