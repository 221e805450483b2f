-- What a change reads, and what it has written.
use Rattle.std.proofs.Common.{inr, [], ◌∷◌, ◌++◌, append_assoc, ◌≡◌, ◌<◌, ◌≤◌, ◌+◌, ◌^◌, ℕ, List, take, drop, length, sym, ap, ◌∙◌, subst, arith, take-append-drop}
use Rattle.std.proofs.lemmas.List.{length-map, length-take, take-append-le}
use Rattle.be_core.specs.Machine.{InTime}
use Rattle.be_core.specs.declared.event.Phase.TheVariants.{Pinned}
use Rattle.be_journal.specs.Journal.{replay_from}
use Rattle.be_table.specs.declared.pass.Commit.{Commit}
use Rattle.be_table.specs.declared.pass.Knowledge.{Knowledge}
use Rattle.be_table.specs.History.{StartsWith}
use Rattle.be_table.specs.Rule.{entries}
use Rattle.be_table.specs.Seats.{pinned_number}
use Rattle.be_table.specs.Setting.{Setting as Limits}
use Rattle.be_table.specs.Steps.{IsPass}
use Rattle.be_table.proofs.Answers.{next_fits}
use Rattle.be_table.proofs.Histories.{legal-front}
use Rattle.be_volume.specs.Volume.{State}
use Rattle.be_volume.specs.declared.ops.Done.{Done}
use Rattle.be_volume.specs.declared.ops.Op.{Op}
use Rattle.be_store.specs.Conditional.{AcceptsAt}
use Rattle.be_store.specs.History.{Accepts, Learns}
use Rattle.be_store.specs.Passes.{HasRead, IsPinnedTo, volume_pinned}
use Rattle.be_store.proofs.Applied.{entries_append}
use Rattle.be_store.proofs.Passes.{pinned_phase}
use Rattle.be_store.proofs.Remade.{volume_is}
use Rattle.be_change.specs.Changing.{Changing, Reads, outcomes}
use Rattle.be_change.specs.Ending.{IsChangeOf, Wrote}
use Rattle.be_change.proofs.Outcomes.{outcomes_are}

-- A pinned volume has enough numbers left for all nodes that a change can create.
pub first_fits : (a : Knowledge) (n : ℕ) → IsPass a → IsPinnedTo a n → (volume_pinned a).next + 64 < 2 ^ 64
first_fits a n pass pin =
    let few : a.limits.commits < 4294967296 = pass.within.limits.short in
    let room : length a.seen ≤ a.limits.commits = pass.room in
    let long : length (entries a.seen) ≡ length a.seen = length-map a.seen (λ (c : Commit). c.entry) in
    let cut = length-take n (entries a.seen) in
    subst (λ (s : State). s.next + 64 < 2 ^ 64) (sym (volume_is a n pin))
    (next_fits a.limits.volume (take n (entries a.seen)) pass.within.next (legal-front a.limits.volume (entries a.seen) (take n (entries a.seen)) (drop n (entries a.seen), sym (take-append-drop n (entries a.seen))) pass.legal)
    (omega (arith, few, room, long, cut)))

pub first_is : (a : Knowledge) (n first : ℕ) → IsPass a → IsPinnedTo a n → first ≡ (volume_pinned a).next → first + 64 < 2 ^ 64
first_is a n first pass pin e = subst (λ m. m + 64 < 2 ^ 64) (sym e) (first_fits a n pass pin)

-- A read leaves the pin in place.
pub read_pin : (a c : Knowledge) (n : ℕ) → HasRead a c → IsPinnedTo a n → IsPinnedTo c n
read_pin a c n h pin = subst (λ (k : Knowledge). IsPinnedTo k n) (sym h) pin

-- Two consecutive reads.
pub read_on : (a b c : Knowledge) → HasRead a b → HasRead b c → HasRead a c
read_on a b c h k = k ∙ ap (λ (x : Knowledge). record x { steps = c.steps }) h

-- A change still belongs to its pass after a read.
pub read_change : (change : Changing) (a c : Knowledge) → HasRead a c → IsChangeOf change a → IsChangeOf change c
read_change change a c h of = subst (IsChangeOf change) (sym h) of

pub wrote_at : (a c : Knowledge) (number n : ℕ) (ops : List Op) (dones : List Done) → IsPinnedTo a number → AcceptsAt a c number ops n dones → dones ≡ outcomes (volume_pinned a).next ops
wrote_at a c number n ops dones pin h = let agrees = h.read pin in outcomes_are (volume_pinned a) agrees.0 ops dones agrees.1

pub wrote : (change : Changing) (a c : Knowledge) (n : ℕ) (dones : List Done) → AcceptsAt a c change.number change.ops n dones → IsChangeOf change a → dones ≡ outcomes change.first change.ops
wrote change a c n dones h of = wrote_at a c change.number n change.ops dones of.0 h ∙ ap (λ m. outcomes m change.ops) (sym of.1.first)

pub wrote_all : (change : Changing) (a c : Knowledge) (ops : List Op) (number n : ℕ) (dones : List Done) → ops ≡ change.ops → number ≡ change.number → 1 ≤ length ops → AcceptsAt a c number ops n dones → Wrote change a c n
wrote_all change a c ops number n dones e f some h =
    let on : AcceptsAt a c change.number change.ops n dones = subst (λ (x : List Op × ℕ). AcceptsAt a c x.1 x.0 n dones) (λ i. (e i, f i)) h in
    inr (subst (λ (l : List Op). 1 ≤ length l) e some, dones, on, wrote change a c n dones on)

-- A pass whose pin is unchanged reads the same volume, whatever it has seen since.
same_volume : (a c : Knowledge) (n : ℕ) → IsPass a → c.limits ≡ a.limits → c.phase ≡ a.phase → StartsWith c.seen a.seen → IsPinnedTo a n → volume_pinned c ≡ volume_pinned a
same_volume a c n pass limits same more pin =
    let at = pinned_phase a.phase n pin in
    let inside : InTime (length a.seen) (Pinned at.0 n) = subst (InTime (length a.seen)) at.1 pass.pin in
    let counted = length-map a.seen (λ (x : Commit). x.entry) in
    let below : n ≤ length (entries a.seen) = omega (arith, inside.1, counted) in
    let whole : entries c.seen ≡ entries a.seen ++ entries more.0 = ap entries more.1 ∙ entries_append a.seen more.0 in
    volume_is c n (ap pinned_number same ∙ pin)
    ∙ ap (λ (l : Limits). replay_from l.volume (take n (entries c.seen))) limits
    ∙ ap (replay_from a.limits.volume) (ap (take n) whole ∙ take-append-le n (entries a.seen) (entries more.0) below)
    ∙ sym (volume_is a n pin)

pub pin_stays : (change : Changing) (a c : Knowledge) → IsPass a → c.limits ≡ a.limits → c.phase ≡ a.phase → StartsWith c.seen a.seen → IsChangeOf change a → IsChangeOf change c
pin_stays change a c pass limits same more of =
    (ap pinned_number same ∙ of.0, subst (Reads change) (sym (same_volume a c change.number pass limits same more of.0)) of.1)

pub stays_learning : (change : Changing) (a c : Knowledge) → IsPass a → Learns a c → IsChangeOf change a → IsChangeOf change c
stays_learning change a c pass h of = pin_stays change a c pass h.limits h.pin h.more of

pub stays_writing : (change : Changing) (a c : Knowledge) (ops : List Op) (n : ℕ) (dones : List Done) → IsPass a → Accepts a c ops n dones → IsChangeOf change a → IsChangeOf change c
stays_writing change a c ops n dones pass h of = pin_stays change a c pass h.limits h.pin (h.others ++ h.commit ∷ [], h.seen ∙ append_assoc a.seen h.others (h.commit ∷ [])) of
