-- What a seat says about its pass after the pass has taken a step.
use Rattle.std.proofs.Common.{◌≡◌, ℕ, ◌+◌, ◌-◌, ◌≤◌, [], length, sym, ap, ◌∙◌, subst}
use Rattle.be_core.specs.declared.event.Phase.{Phase}
use Rattle.be_core.specs.declared.event.Phase.TheVariants.{Idle, Looked, Announced, Pinned}
use Rattle.be_core.specs.Machine.{InTime}
use Rattle.be_table.specs.declared.pass.Knowledge.{Knowledge}
use Rattle.be_table.specs.Rule.{alone, pass_of}
use Rattle.be_table.specs.Seats.{IsReported}
use Rattle.be_table.proofs.PinMarks.{any}
use Rattle.be_table.specs.Steps.{IsPass, announces, finds_held, unpins, without_lock, AnnounceMoves, UnpinMoves, with_history}
use Rattle.be_table.proofs.Traces.{reported_history}
use Rattle.be_table.proofs.Frames.{Me1}

-- the phase changes
pub phased : (a : Knowledge) (q : Phase) (steps : ℕ) → IsPass a → InTime (length a.seen) q → ((x n : ℕ) → q ≡ Pinned x n → ⊥) → IsPass (record a { phase = q; steps = steps })
phased a q steps h t none = record { within = h.within; legal = h.legal; number_below = h.number_below; by_passes = h.by_passes; room = h.room; inside = h.inside; own_pages = h.own_pages; volumes = h.volumes; pin = t; mine = h.mine; encoded = λ x n e. absurd (none x n e) }

-- steps are counted, the lock is found held, or the lock is released
pub stepped_pass : (a : Knowledge) (steps : ℕ) → IsPass a → IsPass (record a { steps = steps })
stepped_pass a steps h = record { within = h.within; legal = h.legal; number_below = h.number_below; by_passes = h.by_passes; room = h.room; inside = h.inside; own_pages = h.own_pages; volumes = h.volumes; pin = h.pin; mine = h.mine; encoded = h.encoded }

pub late_pass : (a : Knowledge) (n : ℕ) → IsPass a → IsPass (finds_held a n)
late_pass a n h = record { within = h.within; legal = h.legal; number_below = h.number_below; by_passes = h.by_passes; room = h.room; inside = h.inside; own_pages = h.own_pages; volumes = h.volumes; pin = h.pin; mine = h.mine; encoded = h.encoded }

pub left_pass : (a : Knowledge) → IsPass a → IsPass (without_lock a)
left_pass a h = record { within = h.within; legal = h.legal; number_below = h.number_below; by_passes = h.by_passes; room = h.room; inside = h.inside; own_pages = h.own_pages; volumes = h.volumes; pin = h.pin; mine = h.mine; encoded = h.encoded }

-- the seat has one pass, about which this is known
pub reported_as : (c : Knowledge) (r : Me1) (number seen : ℕ) → pass_of r.0 ≡ c → IsReported c number seen → IsReported (pass_of r.0) number seen
reported_as c r number seen e t = subst (λ x. IsReported x number seen) (sym e) t

-- after the store to the reader slot
pub announced_reported : (me r : Me1) (a : Knowledge) (n x number seen : ℕ) → me ≡ (alone a, []) → a.phase ≡ Looked x → n - 1 ≡ x → AnnounceMoves any me n r → IsReported a number seen → IsReported (pass_of r.0) number seen
announced_reported me r a0 n x number seen e phase back moves before =
    let h = moves.0 in let a = with_history a0 h in let t = reported_history a0 h number seen before in
    let low : InTime (length a.seen) (Looked x) = subst (InTime (length a.seen)) phase t.pass.pin in
    reported_as (announces a (n - 1)) r number seen (ap (λ (m : Me1). pass_of m.0) moves.3 ∙ ap (λ (m : Me1). announces (with_history (pass_of m.0) h) (n - 1)) e)
    (record { number_is = t.number_is; seen_is = t.seen_is; writes = t.writes; pass = phased a (Announced (n - 1)) (a.steps + 1) t.pass (subst (λ k. k ≤ length a.seen) (sym back) low) (λ y m z. cc) })

-- after the reader slot was cleared
pub unpinned_reported : (me r : Me1) (a : Knowledge) (number seen : ℕ) → me ≡ (alone a, []) → UnpinMoves any me 0 r → IsReported a number seen → IsReported (pass_of r.0) number seen
unpinned_reported me r a0 number seen e moves before =
    let h = moves.0 in let a = with_history a0 h in let t = reported_history a0 h number seen before in
    reported_as (unpins a) r number seen (ap (λ (m : Me1). pass_of m.0) moves.3 ∙ ap (λ (m : Me1). unpins (with_history (pass_of m.0) h)) e)
    (record { number_is = t.number_is; seen_is = t.seen_is; writes = t.writes; pass = phased a Idle (a.steps + 1) t.pass tt (λ y m z. cc) })
