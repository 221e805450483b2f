-- How C gets the answer of a query.
use Rattle.std.proofs.Common.{◌≡◌, ◌⊎◌, ℕ, List, length, Option, Some, None, Result, Ok, Err, inl, inr, ap, sym, subst}
use Rattle.be_session.specs.Sitting.{AtPin, ReadAnswers}
use Rattle.be_session.specs.declared.faults.Fault.{Fault}
use Rattle.be_session.specs.declared.faults.Fault.TheVariants.{NotPinned, Refused}
use Rattle.be_value.specs.declared.refusals.Refusal.{Refusal}
use Rattle.be_value.specs.declared.refusals.Refusal.TheVariants.{OutOfMemory}
use Rattle.bestore_c.specs.Calls.{PutsOutAtPin, PutsOutAnswer, Refuses}
use Rattle.bestore_c.specs.Places.{over}

-- The call returned an answer.
pub found_nodes : {X : Type 0} (view : X → List ℕ) (pin : Option ℕ) (x : X) (meant : Result (List ℕ) Refusal) (places filled : List ℕ) (count code : ℕ)
    → AtPin pin (Ok x) (ReadAnswers view (Ok x) meant) → code ≡ 0 → count ≡ length (view x) → filled ≡ over (view x) places
    → PutsOutAtPin pin meant places filled count code
found_nodes view None x meant places filled count code pinned done counted put = cc
found_nodes view (Some n) x meant places filled count code pinned done counted put =
    inr (subst (λ m. PutsOutAnswer m places filled count code) (sym pinned) (done, counted, put))

-- The error of the result, if it has one.
abbrev pub fault_in : {X : Type 0} → Result X Fault → Fault
fault_in (Ok x) = NotPinned
fault_in (Err e) = e

-- The call returned an error.
pub found_fault : {X : Type 0} (view : X → List ℕ) (pin : Option ℕ) (e : Fault) (meant : Result (List ℕ) Refusal) (places filled : List ℕ) (count code : ℕ)
    → AtPin {X = X} pin (Err e) (ReadAnswers view (Err e) meant) → Refuses e count code
    → PutsOutAtPin pin meant places filled count code
found_fault {X} view None e meant places filled count code pinned is =
    let same : e ≡ NotPinned = ap (λ (r : Result X Fault). fault_in r) pinned in
    subst (λ f. Refuses f count code) same is
found_fault {X} view (Some n) e meant places filled count code pinned is =
    let refused : Refuses (Refused pinned.0) count code = subst (λ f. Refuses f count code) pinned.1 is in
    let known : (pinned.0 ≡ OutOfMemory) ⊎ (meant ≡ Err pinned.0) = pinned.2 in
    elim known [
      | inl none ↦ inl (subst (λ why. Refuses (Refused why) count code) none refused)
      | inr reported ↦ inr (subst (λ m. PutsOutAnswer m places filled count code) (sym reported) refused)
    ]

-- The call returned a result that is known to be an answer.
pub found_ok : {X : Type 0} (view : X → List ℕ) (pin : Option ℕ) (answer : Result X Fault) (x : X) (meant : Result (List ℕ) Refusal) (places filled : List ℕ)
    (count code : ℕ)
    → answer ≡ Ok x → AtPin pin answer (ReadAnswers view answer meant) → code ≡ 0 → count ≡ length (view x) → filled ≡ over (view x) places
    → PutsOutAtPin pin meant places filled count code
found_ok {X} view pin answer x meant places filled count code is pinned =
    found_nodes view pin x meant places filled count code (subst (λ (a : Result X Fault). AtPin pin a (ReadAnswers view a meant)) is pinned)

pub found_err : {X : Type 0} (view : X → List ℕ) (pin : Option ℕ) (answer : Result X Fault) (e : Fault) (meant : Result (List ℕ) Refusal)
    (places filled : List ℕ) (count code : ℕ)
    → answer ≡ Err e → AtPin pin answer (ReadAnswers view answer meant) → Refuses e count code → PutsOutAtPin pin meant places filled count code
found_err {X} view pin answer e meant places filled count code is pinned =
    found_fault view pin e meant places filled count code (subst (λ (a : Result X Fault). AtPin pin a (ReadAnswers view a meant)) is pinned)
