-- Operations that were or weren't written as a change.
use Rattle.std.proofs.Common.{◌≡◌, ◌⊎◌, Bool, ℕ, List, Result, ap, false, inl, inr, length, subst, sym, true, ◌∙◌}
use Rattle.be_change.specs.Changing.{Changing, outcomes}
use Rattle.be_change.specs.Comparing.{HaveRightKinds}
use Rattle.be_change.specs.Ending.{Begins, EndsOnce, IsNotBegun, Releases}
use Rattle.be_change.specs.declared.ending.Ended.{Ended}
use Rattle.be_change.proofs.Written.{read_pin, wrote_at}
use Rattle.be_store.specs.Conditional.{AcceptsAt, IsUnapplied}
use Rattle.be_store.specs.History.{Pins}
use Rattle.be_store.specs.Passes.{HasRead, IsPinnedTo, volume_pinned}
use Rattle.be_store.specs.declared.conditional.ApplyIfError.{ApplyIfError}
use Rattle.be_table.specs.declared.pass.Knowledge.{Knowledge}
use Rattle.be_value.specs.declared.refusals.Refusal.{Refusal}
use Rattle.be_volume.specs.declared.ops.Done.{Done}
use Rattle.be_volume.specs.declared.ops.Op.{Op}
use Rattle.be_session.specs.Changes.{EndsChange, IsOwnChange, IsUnwrittenChange, WritesChange, as_answer}
use Rattle.be_session.specs.Fault.{fault_carried, fault_of}
use Rattle.be_session.specs.declared.faults.Fault.{Fault}

pub written : (a c d : Knowledge) (number n : ℕ) (ops : List Op) (dones : List Done) → IsPinnedTo a number → HasRead a c
    → HaveRightKinds (volume_pinned a) ops (length ops) → AcceptsAt c d number ops n dones → WritesChange a d ops n
written a c d number n ops dones pin read right at =
    let given = wrote_at c d number n ops dones (read_pin a c number read pin) at in
    (number, pin, right, c, read, dones, at, given ∙ ap (λ (k : Knowledge). outcomes (volume_pinned k).next ops) read)

-- A conditional write that wasn't made.
pub unmade : (a c d : Knowledge) (number place : ℕ) (ops : List Op) (why : ApplyIfError) (e : Fault) → IsPinnedTo a number → HasRead a c
    → HaveRightKinds (volume_pinned a) ops (length ops) → IsUnapplied c d number ops why → e ≡ fault_of why → place ≡ fault_carried e → IsUnwrittenChange a d ops e place
unmade a c d number place ops why e pin read right not is carried = inr (inr (number, pin, inr (right, c, read, why, is, not, carried)))

-- A change that was begun and given up at once.
pub not_begun : (change : Changing) (checks : Bool) (a c d : Knowledge) → Begins change checks a c → Releases change.pins c d → IsNotBegun a d
not_begun change checks a c d begins released = by begins.pass
  where
    by : ((change.pins ≡ false) × HasRead a c) ⊎ ((change.pins ≡ true) × (b : Knowledge) × Pins a b change.number × HasRead b c) → IsNotBegun a d
    by (inl kept) = inl (subst (HasRead a) (sym (subst (λ (p : Bool). Releases p c d) kept.0 released)) kept.1)
    by (inr made) = inr (change.number, made.1, c, made.2, made.3, subst (λ (p : Bool). Releases p c d) made.0 released)

-- How a change of the pinned snapshot ended.
pub ended : (change : Changing) (a d : Knowledge) (how : Result Ended Refusal) (result : Result ℕ Fault) → IsOwnChange change a → result ≡ as_answer how
    → ((c : Knowledge) × EndsOnce change a c how × Releases change.pins c d) → EndsChange change a d result
ended change a d how result own is ends = inr (own, how, is, ends.0, ends.1, ends.2)
