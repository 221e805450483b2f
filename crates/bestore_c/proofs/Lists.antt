-- How C gets a list.
use Rattle.std.proofs.Common.{◌≡◌, ◌⊎◌, ℕ, List, length, map, Option, Some, None, Result, Ok, Err, IfOk, IfErr, inl, inr, ap, sym, subst, ◌∙◌}
use Rattle.be_session.specs.Fault.{fault_code}
use Rattle.be_session.specs.Operations.{AreEncoded}
use Rattle.be_session.specs.Sitting.{AtPin, ReadAnswers}
use Rattle.be_session.specs.declared.faults.Fault.{Fault}
use Rattle.be_session.specs.declared.lists.Operation.{Operation}
use Rattle.be_value.specs.Refusal.{refusal_number}
use Rattle.be_value.specs.declared.refusals.Refusal.{Refusal}
use Rattle.be_value.specs.declared.refusals.Refusal.TheVariants.{OutOfMemory}
use Rattle.be_volume.specs.declared.ops.Op.{Op}
use Rattle.bestore_c.proofs.Finding.{fault_in}
use Rattle.bestore_c.specs.Calls.{IsPutOut, Listed}
use Rattle.bestore_c.specs.Places.{over}
use Rattle.bestore_c.specs.declared.handle.Counts.{Counts}

-- What holds for a result that is an answer holds for that answer.
pub at_ok : {X E : Type 0} (P : X → Type 0) (r : Result X E) (x : X) → r ≡ Ok x → IfOk r P → P x
at_ok P r x is all = subst (λ a. IfOk a P) is all

pub at_err : {X E : Type 0} (P : E → Type 0) (r : Result X E) (e : E) → r ≡ Err e → IfErr r P → P e
at_err P r e is all = subst (λ a. IfErr a P) is all

-- Encoded operations that a call wrote for C.
pub put_out : (ops : List Op) (counts : Counts) (places filled : List Operation) (byte_places bytes : List ℕ) (code : ℕ) (os : List Operation) (bs : List ℕ)
    → AreEncoded os bs ops → code ≡ 0 → counts.operations ≡ length os → filled ≡ over os places → counts.bytes ≡ length bs → bytes ≡ over bs byte_places
    → IsPutOut ops counts places filled byte_places bytes code
put_out ops counts places filled byte_places bytes code os bs are done so put many texts = inr (done, os, bs, are, so, put, many, texts)

module _ {A X : Type 0} (makes : A → Op) (view : X → List A) (counts : Counts) (places filled : List Operation) (byte_places bytes : List ℕ) (code : ℕ) where
  abbrev pub Reported : Option ℕ → Result (List A) Refusal → Type 0
  Reported pin meant = Listed makes pin meant counts places filled byte_places bytes code

  -- Memory ran out.
  spent : (n : ℕ) (meant : Result (List A) Refusal) → code ≡ 10 → Reported (Some n) meant
  spent n (Ok list) ten = inl ten
  spent n (Err why) ten = inl ten

  reported_as : (pin : Option ℕ) (x : X) (meant : Result (List A) Refusal) → AtPin pin (Ok x) (ReadAnswers view (Ok x) meant)
      → IsPutOut (map makes (view x)) counts places filled byte_places bytes code → Reported pin meant
  reported_as None x meant pinned out = cc
  reported_as (Some n) x meant pinned out = subst (λ m. Reported (Some n) m) (sym pinned) out

  fault_as : (pin : Option ℕ) (e : Fault) (meant : Result (List A) Refusal) → AtPin {X = X} pin (Err e) (ReadAnswers view (Err e) meant) → code ≡ fault_code e
      → Reported pin meant
  fault_as None e meant pinned is = is ∙ ap (λ (r : Result X Fault). fault_code (fault_in r)) pinned
  fault_as (Some n) e meant pinned is =
      let coded : code ≡ refusal_number pinned.0 = is ∙ ap fault_code pinned.1 in
      let known : (pinned.0 ≡ OutOfMemory) ⊎ (meant ≡ Err pinned.0) = pinned.2 in
      elim known [
        | inl none ↦ spent n meant (coded ∙ ap refusal_number none)
        | inr reported ↦ subst (λ m. Reported (Some n) m) (sym reported) (inr coded)
      ]

  -- The call returned a result that is known to be a list.
  pub listed_ok : (pin : Option ℕ) (answer : Result X Fault) (x : X) (meant : Result (List A) Refusal) (list : List A) → answer ≡ Ok x
      → AtPin pin answer (ReadAnswers view answer meant) → list ≡ view x → IsPutOut (map makes list) counts places filled byte_places bytes code → Reported pin meant
  listed_ok pin answer x meant list is pinned same out =
      reported_as pin x meant (subst (λ (a : Result X Fault). AtPin pin a (ReadAnswers view a meant)) is pinned)
      (subst (λ (l : List A). IsPutOut (map makes l) counts places filled byte_places bytes code) same out)

  pub listed_err : (pin : Option ℕ) (answer : Result X Fault) (e : Fault) (meant : Result (List A) Refusal) → answer ≡ Err e
      → AtPin pin answer (ReadAnswers view answer meant)
      → code ≡ fault_code e → Reported pin meant
  listed_err pin answer e meant is pinned =
      fault_as pin e meant (subst (λ (a : Result X Fault). AtPin pin a (ReadAnswers view a meant)) is pinned)
