-- Numbers begin at 1 in every volume that operations have created.
use Rattle.std.proofs.Common.{◌≡◌, ◌≤◌, ◌++◌, ℕ, Bool, true, false, ◌||◌, nat_eq, List, [], ◌∷◌, refl, sym, ap, ◌∙◌, subst, arith, IsOk, fold}
use Rattle.std.proofs.lemmas.Bool.{and_right}
use Rattle.std.proofs.lemmas.Bool.Decides.{nat_tests}
use Rattle.std.specs.Prelude.{Ok, Err, Result, ⊤, is_some}
use Rattle.std.specs.Result.{result_map_both}
use Rattle.std.specs.Ordering.{nat_cmp}
use Rattle.std.specs.FinMap as fin
use Rattle.be_value.specs.declared.refusals.Refusal.{Refusal}
use Rattle.be_volume.specs.Ahead.{next_after, node_after, reached, state_after}
use Rattle.be_volume.specs.Volume.{State, empty, step, advance}
use Rattle.be_volume.specs.declared.ops.Done.{Done}
use Rattle.be_volume.specs.declared.ops.Op.{Op}
use Rattle.be_volume.specs.declared.ops.Op.TheVariants.{New, Drop, Set, Unset, MkIndex, RmIndex}
use Rattle.be_volume.proofs.FactLemmas.{next_is, node_is}
use Rattle.be_volume_state.specs.Rebuilding.{IsNumbered}

next_stays : (op : Op) (n : ℕ) → 1 ≤ n → 1 ≤ next_after op n
next_stays New n h = omega arith
next_stays (Drop node) n h = h
next_stays (Set node name value) n h = h
next_stays (Unset node name) n h = h
next_stays (MkIndex name kind) n h = h
next_stays (RmIndex name) n h = h

other : (n : ℕ) → 1 ≤ n → nat_eq 0 n ≡ false
other n h = grind (arith, nat_tests)

zero_stays : (op : Op) (n : ℕ) (there : Bool) → 1 ≤ n → there ≡ false → node_after op n there 0 ≡ false
zero_stays New n true h absent = cc
zero_stays New n false h absent = ap (λ b. b || false) (other n h)
zero_stays (Drop node) n there h absent = and_right _ _ absent
zero_stays (Set node name value) n there h absent = absent
zero_stays (Unset node name) n there h absent = absent
zero_stays (MkIndex name kind) n there h absent = absent
zero_stays (RmIndex name) n there h absent = absent

pub reached_numbered : (s : State) (op : Op) → IsNumbered s → IsOk (step s op) → IsNumbered (reached s (step s op))
reached_numbered s op is ok = record {
  begins = subst (λ n. 1 ≤ n) (sym (next_is s op ok)) (next_stays op s.next is.begins);
  no_zero = node_is s op 0 ok ∙ zero_stays op s.next (fin.contains_key s.nodes 0) is.begins is.no_zero;
}

abbrev Numbers : Result (State × List Done) Refusal → Type 0
Numbers (Ok x) = IsNumbered x.0
Numbers (Err e) = ⊤

one_more : (s : State) (old : List Done) (r : Result (State × Done) Refusal) → (IsOk r → IsNumbered (reached s r)) →
    Numbers (result_map_both (λ answer. (answer.0, old ++ answer.1 ∷ [])) (λ (e : Refusal). e) r)
one_more s old (Ok x) h = h refl
one_more s old (Err e) h = tt

advanced : (r : Result (State × List Done) Refusal) (op : Op) → Numbers r → Numbers (advance r op)
advanced (Err e) op is = tt
advanced (Ok x) op is = one_more x.0 x.1 (step x.0 op) (λ ok. reached_numbered x.0 op is ok)

all_advanced : (r : Result (State × List Done) Refusal) (ops : List Op) → Numbers r → Numbers (fold advance r ops)
all_advanced r [] is = is
all_advanced r (op ∷ ops) is = all_advanced (advance r op) ops (advanced r op is)

left : (s : State) (r : Result (State × List Done) Refusal) → IsNumbered s → Numbers r → IsNumbered (reached s r)
left s (Ok x) h is = is
left s (Err e) h is = h

pub empty_numbered : IsNumbered empty
empty_numbered = record { begins = omega arith; no_zero = ap is_some (fin.get-empty nat_cmp 0) }

pub stays_numbered : (s : State) (ops : List Op) → IsNumbered s → IsNumbered (state_after s ops)
stays_numbered s ops is = left s (fold advance (Ok (s, [])) ops) is (all_advanced (Ok (s, [])) ops is)
