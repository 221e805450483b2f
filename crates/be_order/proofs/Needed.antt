-- Sides of a formula that every node needs to satisfy.
use Rattle.std.proofs.Common.{◌≡◌, Bool, true, false, ◌&&◌, arith, refl}
use Rattle.be_query.specs.Grammar.{And, Formula}
use Rattle.be_volume.specs.Query.{sat}
use Rattle.be_order.specs.Firsts.{IsNeeded}

left_true : (a b : Bool) → (a && b) ≡ true → a ≡ true
left_true true b h = refl
left_true false b h = h

right_true : (a b : Bool) → (a && b) ≡ true → b ≡ true
right_true true b h = h
right_true false b h = cc

pub needs_itself : (f : Formula) → IsNeeded f f
needs_itself f = record { needed = λ s n h. h; few = omega arith }

pub needs_left : (a b part : Formula) → IsNeeded a part → IsNeeded (And a b) part
needs_left a b part is = record {
  needed = λ s n h. is.needed s n (left_true (sat s a n) (sat s b n) h);
  few = omega (arith, is.few);
}

pub needs_right : (a b part : Formula) → IsNeeded b part → IsNeeded (And a b) part
needs_right a b part is = record {
  needed = λ s n h. is.needed s n (right_true (sat s a n) (sat s b n) h);
  few = omega (arith, is.few);
}
