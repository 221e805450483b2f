-- Operations of the right kinds, up to a place.
use Rattle.std.proofs.Common.{◌≡◌, ◌<◌, ◌≤◌, ◌+◌, ℕ, Bool, true, false, List, Some, refl, sym, ap, subst, ◌∙◌, arith, get_or, length, take}
use Rattle.std.proofs.lemmas.Bool.Decides.{nat_tests}
use Rattle.std.proofs.lemmas.Option.{same_Some, slice_get_read}
use Rattle.std.specs.Prelude.{nat_lt, slice_get}
use Rattle.std.specs.declared.option.Option.{Option}
use Rattle.be_table.specs.declared.pass.Knowledge.{Knowledge}
use Rattle.be_value.specs.declared.values.Kind.{Kind}
use Rattle.be_volume.specs.Volume.{State}
use Rattle.be_volume.specs.declared.ops.Op.{Op}
use Rattle.be_store.specs.Passes.{HasRead, volume_pinned}
use Rattle.be_change.specs.Comparing.{ComparesKinds, HasRightKind, HaveRightKinds}

pub none_compared : (base : State) (ops : List Op) (i : ℕ) (op : Op) → i < 0 → slice_get ops i ≡ Some op → HasRightKind base (take i ops) op
none_compared base ops i op below at = absurd (omega (arith, below))

-- One more operation has the right kind.
pub one_compared : (base : State) (ops : List Op) (i : ℕ) (op : Op) → i < length ops → op ≡ get_or ops i op → HaveRightKinds base ops i → HasRightKind base (take i ops) op
    → (j : ℕ) (other : Op) → j < i + 1 → slice_get ops j ≡ Some other → HasRightKind base (take j ops) other
one_compared base ops i op short at right is j other below there = by (nat_lt j i) refl
  where
    by : (lower : Bool) → nat_lt j i ≡ lower → HasRightKind base (take j ops) other
    by true t = right j other (grind (arith, nat_tests)) there
    by false t =
        let same : i ≡ j = grind (arith, nat_tests) in
        let mine : slice_get ops i ≡ Some op = slice_get_read ops (length ops) i op refl short at in
        let equal : op ≡ other = same_Some op other (sym mine ∙ ap (slice_get ops) same ∙ there) in
        subst (λ (n : ℕ). HasRightKind base (take n ops) other) same (subst (λ (x : Op). HasRightKind base (take i ops) x) equal is)

pub all_compared : (base : State) (ops : List Op) (i : ℕ) → length ops ≤ i → HaveRightKinds base ops i
    → (j : ℕ) (other : Op) → j < length ops → slice_get ops j ≡ Some other → HasRightKind base (take j ops) other
all_compared base ops i past right j other below there = right j other (omega (arith, below, past)) there

-- What a pass compares after it has read, it would also have compared before.
pub compared_before : (a b : Knowledge) (before : List Op) (op : Op) (found answer : Option Kind) → HasRead a b → found ≡ answer → ComparesKinds (volume_pinned b) before op found
    → ComparesKinds (volume_pinned a) before op answer
compared_before a b before op found answer read is h =
    subst (λ (k : Option Kind). ComparesKinds (volume_pinned a) before op k) is (subst (λ (s : State). ComparesKinds s before op found) (ap volume_pinned read) h)
