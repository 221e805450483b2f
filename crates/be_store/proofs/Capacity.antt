-- Why a write finds no page, and when that can't happen.
use Rattle.std.proofs.Common.{◌≡◌, ℕ, suc, zero, ◌<◌, ◌≤◌, Bool, true, false, inl, inr, List, [], ◌∷◌, length, refl, sym, ap, ◌∙◌, subst, arith}
use Rattle.std.specs.Prelude.{IsOk, OnErr, Result, Err}
use Rattle.be_core.specs.Machine.{has}
use Rattle.be_core.specs.declared.event.Phase.{Phase}
use Rattle.be_core.specs.declared.event.Phase.TheVariants.{Idle, Looked, Announced, Pinned}
use Rattle.be_journal.specs.Journal.{replay_from}
use Rattle.be_paged.specs.Changes.{IsRefusedList}
use Rattle.be_paged.specs.Stops.{TakesFew}
use Rattle.be_paged.proofs.Sizes.Items.{version_size}
use Rattle.be_pages.specs.Pages.{is_taken}
use Rattle.be_tree.specs.Counting.{HasInHand}
use Rattle.be_table.specs.Counts.{count_below}
use Rattle.be_table.specs.Place.{Work}
use Rattle.be_table.specs.Reading.{open_of, page_state_among, page_state_in_work, word_of_page, words_of, StaysOpen}
use Rattle.be_table.specs.Seats.{pinned_number}
use Rattle.be_table.specs.Rule.{largest_pool, announce_word, entries, page_at, reach_at}
use Rattle.be_table.specs.Steps.{lowest_found, own_lowest, with_history, without_lock}
use Rattle.be_table.specs.Versions.{at_start}
use Rattle.be_table.specs.Works.{HasNoRoom, IsFull, IsSpent, Moves}
use Rattle.be_table.specs.Setting.{Setting as Limits}
use Rattle.be_table.specs.declared.pass.Commit.{Commit}
use Rattle.be_table.specs.declared.pass.Knowledge.{Knowledge}
use Rattle.be_table.specs.declared.pass.Move.TheVariants.{Unlock}
use Rattle.be_table.proofs.Announced.{spent_unlocked}
use Rattle.be_table.proofs.Shares.{shared_now, encoded_counted, still_counted}
use Rattle.be_value.specs.declared.refusals.Refusal.{Refusal}
use Rattle.be_value.specs.declared.refusals.Refusal.TheVariants.{Full}
use Rattle.be_volume.specs.Items.{StaysWithin}
use Rattle.be_volume.specs.Volume.{State, steps}
use Rattle.be_volume.specs.declared.ops.Op.{Op}
use Rattle.be_store.specs.Alone.{IsAlone}
use Rattle.be_store.specs.Capacity.{AreFewFor, AreFewToHold, HasLargePool, IsAtCurrent, IsShort, NoneIsEarlier, current_pages, held_pages}
use Rattle.be_store.specs.History.{IsRefusedAt}
use Rattle.be_store.specs.Passes.{IsBetweenCalls, IsPinnedTo, volume_seen}
use Rattle.be_store.specs.Writing.{Begins, IsHeldBack}
use Rattle.be_store.proofs.Refusals.{steps_refuse}

-- A write that is just beginning holds no page.
none_taken : (b : Bool) → is_taken (at_start b) ≡ true → ⊥
none_taken true h = cc
none_taken false h = cc

pub none_in_hand : (k : Knowledge) → Begins k → HasInHand (page_state_among k.places) []
none_in_hand k b q h = absurd (none_taken (has (reach_at k.limits k.seen (length k.seen)) q) (ap is_taken (sym (b.begun q)) ∙ h))

-- The number of pages of the current version is bounded.
few_current : (k : Knowledge) → Begins k → AreFewFor (volume_seen k) (current_pages k)
few_current k b =
    let pages = reach_at k.limits k.seen (length k.seen) in
    let words = word_of_page k.words in
    let page = page_at k.seen (length k.seen) in
    let volume = volume_seen k in
    encoded_counted pages words page k.limits.pages _ volume b.encoded (version_size (λ q. at_start (has pages q)) words page volume b.encoded.version)

-- What a write holds, carried from before a call that changes nothing to after another such call.
pub few_between : {T E : Type 0} (r : Result T E) (volume : State) (ops : List Op) (w v : Work) (old new : Work) → v ≡ w → new ≡ old
    → OnErr r (TakesFew volume ops (page_state_in_work v) (page_state_in_work old)) → OnErr r (TakesFew volume ops (page_state_in_work w) (page_state_in_work new))
few_between r volume ops w v old new before after few =
    subst (λ (x : Work × Work). OnErr r (TakesFew volume ops (page_state_in_work x.0) (page_state_in_work x.1))) (λ i. (before i, sym after i)) few

-- Why a write that has begun finds no page.
pub is_short : (w v : Work) (ops : List Op) (least : ℕ) → Begins w.knows → open_of v ≡ open_of w → IsFull v least
    → TakesFew (volume_seen w.knows) ops (page_state_in_work w) (page_state_in_work v) → IsShort v.knows ops least
is_short w v ops least b kept full few =
    let seen : v.knows.seen ≡ w.knows.seen = ap (λ (o : StaysOpen). o.seen) kept in
    let limits : v.knows.limits ≡ w.knows.limits = ap (λ (o : StaysOpen). o.limits) kept in
    let small : v.knows.limits.pages ≤ largest_pool = subst (λ (l : Limits). l.pages ≤ largest_pool) (sym limits) b.small in record {
      spent = full.0;
      current = subst (λ (x : List Commit × Limits). AreFewFor (replay_from x.1.volume (entries x.0)) (count_below (has (reach_at x.1 x.0 (length x.0))) x.1.pages)) (λ i. (sym seen i, sym limits i)) (few_current w.knows b);
      few = λ most indices high within tall.
          let held = still_counted v.knows v.knows.limits.pages full.1 small in
          let taken = few most indices high (subst (λ (x : List Commit × Limits). StaysWithin most indices (replay_from x.1.volume (entries x.0)) ops) (λ i. (seen i, limits i)) within) tall (none_in_hand w.knows b) v.knows.limits.pages in
          omega (arith, held, taken);
    }

-- A write that finds no page although the journal has room.
pub full_held_back : (w v r : Work) (ops : List Op) (least : ℕ) (f : Refusal) → Begins w.knows → f ≡ Full least
    → IsRefusedList open_of page_state_in_work words_of IsFull (volume_seen w.knows) ops f w v → TakesFew (volume_seen w.knows) ops (page_state_in_work w) (page_state_in_work v)
    → r.knows ≡ v.knows → length v.knows.seen < v.knows.limits.commits → IsHeldBack w.knows r.knows ops (Full least)
full_held_back w v r ops least f b is (inl h) few same room = absurd (let low = (steps_refuse (volume_seen w.knows) ops (Full least) (h.0 ∙ ap Err is)).1 in omega (arith, low))
full_held_back w v r ops least f b is (inr h) few same room =
    let kept : open_of v ≡ open_of w = h.2.kept in
    let accepted = subst (λ (o : StaysOpen). IsOk (steps (replay_from o.limits.volume (entries o.seen)) ops)) (sym kept) h.1 in
    subst (λ (k : Knowledge). IsHeldBack w.knows k ops (Full least)) (sym same) (record {
      same = record { pass = ap (λ (o : StaysOpen). o.number) kept; limits = ap (λ (o : StaysOpen). o.limits) kept; pin = ap (λ (o : StaysOpen). o.phase) kept };
      seen = ap (λ (o : StaysOpen). o.seen) kept;
      reason = inr (inr (accepted, room, (h.0.0, sym is ∙ h.0.1, is_short w v ops h.0.0 b kept h.0.2 few)));
      unpublished = ap (λ (o : StaysOpen). o.published) kept ∙ b.unpublished;
      begun = ap (λ (o : StaysOpen). o.begun) kept;
    })

-- The same still holds after the unlock.
pub short_unlocked : (v c : Knowledge) (ops : List Op) (least : ℕ) → c ≡ without_lock (with_history v c.history) → Moves v (Unlock v.number ∷ []) c → IsShort v ops least → IsShort c ops least
short_unlocked v c ops least is unlocked s = record {
  spent = spent_unlocked v c least is unlocked.made s.spent;
  current = subst (λ (k : Knowledge). AreFewFor (volume_seen k) (current_pages k)) (sym is) s.current;
  few = subst (λ (k : Knowledge). AreFewToHold (volume_seen k) ops (held_pages k)) (sym is) s.few;
}

-- The current version and the write can't fill a large pool by themselves.
never_short : (c : Knowledge) (ops : List Op) (least : ℕ) → IsShort c ops least → least ≡ length c.seen → HasLargePool c ops → ⊥
never_short c ops least s now p =
    let whole = shared_now c (subst (IsSpent c) now s.spent) in
    let held = s.few p.most p.indices p.high p.within p.height in
    let start = p.within 0 (omega arith) in
    absurd (omega (arith, whole, held, start.0, start.1, s.current, p.pages))

full_is_short : (c : Knowledge) (ops : List Op) (least : ℕ) → IsRefusedAt c ops (Full least) → (n : ℕ) × IsShort c ops n
full_is_short c ops least (inl h) = absurd (let low = (steps_refuse (volume_seen c) ops (Full least) h).1 in omega (arith, low))
full_is_short c ops least (inr (inl h)) = absurd (by h.1)
  where
    by : HasNoRoom (Full least) c → ⊥
    by (inl none) = absurd (let e = none.0 in cc)
    by (inr none) = absurd (let e = none.0 in cc)
full_is_short c ops least (inr (inr h)) = (h.2.0, h.2.2)

lowest_below : (most word : ℕ) → lowest_found most word ≤ most
lowest_below most zero = omega arith
lowest_below most (suc n) = omega arith

-- The reported number is the current one if no pass had published an earlier one.
reported_current : (c : Knowledge) (least : ℕ) → NoneIsEarlier c → IsSpent c least → least ≡ length c.seen
reported_current c least none s =
    let below = s.2.0 in
    let own = lowest_below (length c.seen) (announce_word c.phase) in
    elim s.3 [
      | inl e ↦ e
      | inr h ↦ let reached = none h.0 least h.1 h.2 in omega (arith, below, own, reached)
    ]

pub large : (c : Knowledge) (ops : List Op) (least : ℕ) → NoneIsEarlier c → HasLargePool c ops → IsRefusedAt c ops (Full least) → ⊥
large c ops least none pool refused =
    let s = full_is_short c ops least refused in
    never_short c ops s.0 s.1 (reported_current c s.0 none s.1.spent) pool

own_current : (passes now : ℕ) (p : Phase) → passes ≡ 1 → IsBetweenCalls passes p → ((x n : ℕ) → p ≡ Pinned x n → n ≡ now) → lowest_found now (announce_word p) ≡ now
own_current passes now Idle one rests at = refl
own_current passes now (Looked x) one rests at = absurd rests
own_current passes now (Announced x) one rests at = absurd rests
own_current passes now (Pinned x n) one rests at = let same = rests one in let current = at x n refl in omega (arith, same, current)

pub alone_large : (c : Knowledge) (ops : List Op) (least : ℕ) → IsAlone c → IsAtCurrent c → HasLargePool c ops → IsRefusedAt c ops (Full least) → ⊥
alone_large c ops least alone at pool refused =
    let s = full_is_short c ops least refused in
    let own : s.0 ≡ own_lowest c = s.1.spent.2.1 alone.one in
    let current = own_current c.limits.passes (length c.seen) c.phase alone.one at.0 (λ x n e. at.1 n (pinned_to c x n e)) in
    never_short c ops s.0 s.1 (own ∙ current) pool
  where
    pinned_to : (c : Knowledge) (x n : ℕ) → c.phase ≡ Pinned x n → IsPinnedTo c n
    pinned_to c x n e = ap (λ (p : Phase). pinned_number p) e
