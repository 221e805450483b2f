-- What a pass knows before and after a call, and the store that it then shows.
use Rattle.std.proofs.Common.{◌≡◌, ◌≢◌, ◌⊎◌, ◌<◌, ◌≤◌, ◌+◌, ℕ, Bool, true, false, cond, eqb, nat_lt, List, [], ◌∷◌, ◌++◌, All, length, take, Option, Some, None, IsOk, inl, inr, refl, sym, ap, ◌∙◌, subst, append_assoc, arith, length-append}
use Rattle.std.specs.Prelude.{Result, Ok, Err, IfOk, IfErr, IsSome}
use Rattle.std.specs.Option.{option_map, option_map_or}
use Rattle.std.proofs.lemmas.Bool.Decides.{nat_tests}
use Rattle.std.proofs.lemmas.List.{length-map, take-append-le}
use Rattle.std.proofs.lemmas.List.Elements.{All-nil, All-cons}
use Rattle.std.proofs.lemmas.List.Sums.{fold-append}
use Rattle.std.proofs.Math.Seq.{take-length}
use Rattle.be_core.specs.declared.event.Phase.{Phase}
use Rattle.be_core.specs.declared.event.Phase.TheVariants.{Idle, Looked, Announced, Pinned}
use Rattle.be_core.specs.Machine.{InTime}
use Rattle.be_journal.specs.declared.entries.Entry.{Entry}
use Rattle.be_journal.specs.Journal.{by_pass, replay_from}
use Rattle.be_journal.proofs.LegalLemmas.{replay_push}
use Rattle.be_table.specs.declared.pass.Commit.{Commit}
use Rattle.be_table.specs.declared.pass.Knowledge.{Knowledge}
use Rattle.be_table.specs.History.{AreOfPasses}
use Rattle.be_table.specs.Rule.{announce_word, entries}
use Rattle.be_table.specs.Setting.{Setting}
use Rattle.be_table.specs.Seats.{pinned_number}
use Rattle.be_table.specs.Steps.{IsPass, entry_by, lowest_found}
use Rattle.be_table.specs.Works.{HasNoRoom}
use Rattle.be_table.proofs.Histories.{by_pass-append, below-front}
use Rattle.be_value.specs.declared.refusals.Refusal.{Refusal}
use Rattle.be_value.specs.declared.refusals.Refusal.TheVariants.{CommitsSpent}
use Rattle.be_volume.specs.Ahead.{state_after, reached}
use Rattle.be_volume.specs.Volume.{State, steps}
use Rattle.be_volume.specs.declared.ops.Done.{Done}
use Rattle.be_volume.specs.declared.ops.Op.{Op}
use Rattle.be_store.specs.History.{Accepts, Learns, IsLastReason, Pins}
use Rattle.be_store.specs.Passes.{IsPinnedTo, IsBetweenCalls, volume_seen}
use Rattle.be_store.proofs.Applied.{entries_append, nothing_more}
use Rattle.be_script_runner.specs.Served.{known, pin_at}
use Rattle.be_script_runner.specs.Store.{PinnedVolume, Store, Joins, Meanwhile, IsBusy, IsWant, MayWrite, pinned, entered, written, written_by}

-- a pass's pin, given the first volume, the entries that it has seen, and its phase
abbrev pin_of : State → List Entry → Phase → Option PinnedVolume
pin_of base es phase = option_map {T = ℕ} {U = PinnedVolume} (λ n. record { number = n; volume = replay_from base (take n es) }) (pinned_number phase)

abbrev some_pin : PinnedVolume → Option PinnedVolume
some_pin p = Some p

-- a pin is unchanged when the pass sees more
pin_stays : (base : State) (es more : List Entry) (phase : Phase) → InTime (length es) phase → pin_of base (es ++ more) phase ≡ pin_of base es phase
pin_stays base es more Idle h = refl
pin_stays base es more (Looked x) h = refl
pin_stays base es more (Announced x) h = refl
pin_stays base es more (Pinned x n) h = ap (λ (l : List Entry). some_pin (record { number = n; volume = replay_from base l })) (take-append-le n es more h.1)

seen_count : (seen : List Commit) → length (entries seen) ≡ length seen
seen_count seen = length-map seen (λ (c : Commit). c.entry)

-- what pass a shows, with its pin, once it has seen this journal
abbrev seen_by : Knowledge → List Entry → Store
seen_by a log = record (known a) { journal = log; volume = replay_from a.limits.volume log }

below_after : (passes : ℕ) (log more : List Entry) → AreOfPasses passes (log ++ more) → AreOfPasses passes more
unfolding AreOfPasses
below_after passes [] more b = b
below_after passes (e ∷ log) more b = below_after passes log more b.1

-- if all entries were made by passes of the store, and none by pass k, they were made by others
all_theirs : (passes k : ℕ) (es : List Entry) → AreOfPasses passes es → by_pass k es ≡ [] → All (λ (e : Entry). (e.by < passes) × (e.by ≢ k)) es
unfolding AreOfPasses
all_theirs passes k [] b none = All-nil (λ (e : Entry). (e.by < passes) × (e.by ≢ k))
all_theirs passes k (e ∷ es) b none = by (eqb e.by k) refl none (all_theirs passes k es b.1)
  where
    by : (t : Bool) → eqb e.by k ≡ t → cond t (e ∷ by_pass k es) (by_pass k es) ≡ [] →
        (by_pass k es ≡ [] → All (λ (e : Entry). (e.by < passes) × (e.by ≢ k)) es) → All (λ (e : Entry). (e.by < passes) × (e.by ≢ k)) (e ∷ es)
    by true h n rest = cc
    by false h n rest = All-cons (λ (e : Entry). (e.by < passes) × (e.by ≢ k)) e es (b.0, differs h) (rest n)
      where
        differs : eqb e.by k ≡ false → e.by ≢ k
        differs h = λ same. absurd (let t : eqb e.by k ≡ true = grind (arith, nat_tests, same) in cc)

-- if the pass has seen more, and none of it is its own, others have written
joins_more : (a : Knowledge) (more : List Entry) → by_pass a.number more ≡ [] → AreOfPasses a.limits.passes (entries a.seen ++ more) → Joins (known a) (seen_by a (entries a.seen ++ more))
joins_more a more none below = record {
  others = more;
  theirs = all_theirs a.limits.passes a.number more (below_after a.limits.passes (entries a.seen) more below) none;
  store = λ i. record (known a) {
    journal = entries a.seen ++ more;
    volume = fold-append (λ v (e : Entry). state_after v e.ops) a.limits.volume (entries a.seen) more i;
  };
}

-- a pass that shows a pin is pinned
pub is_pinned_to : (a b : Knowledge) → a ≡ b → IsSome (known b).pin → (n : ℕ) × IsPinnedTo a n
is_pinned_to a b e h = by (pinned_number a.phase) refl (subst (λ (k : Knowledge). IsSome (known k).pin) (sym e) h)
  where
    by : (o : Option ℕ) → pinned_number a.phase ≡ o → IsSome (option_map (pin_at a) o) → (n : ℕ) × IsPinnedTo a n
    by None g k = absurd (never k)
      where
        never : false ≡ true → ⊥
        never e = cc
    by (Some n) g k = (n, g)

-- operations that the volume accepts are written if the journal has room, and refused if it has
-- none
accepted_with_room : (s : Store) (ops : List Op) (r : Result (State × List Done) Refusal) → IsOk r → length s.journal < s.limit → IsOk (written_by s ops r)
accepted_with_room s ops (Ok answer) ok h = let t : nat_lt (length s.journal) s.limit ≡ true = grind (arith, nat_tests) in rw t refl
accepted_with_room s ops (Err e) ok h = cc

refused_at_limit : (s : Store) (ops : List Op) (r : Result (State × List Done) Refusal) → IsOk r → length s.journal ≡ s.limit → written_by s ops r ≡ Err CommitsSpent
refused_at_limit s ops (Ok answer) ok h = let t : nat_lt (length s.journal) s.limit ≡ false = grind (arith, nat_tests) in rw t refl
refused_at_limit s ops (Err e) ok h = cc

written_with_room : (s : Store) (ops : List Op) (volume : State) (dones : List Done) → length s.journal < s.limit → written_by s ops (Ok (volume, dones)) ≡ Ok (entered s ops volume dones, dones)
written_with_room s ops volume dones h = let t : nat_lt (length s.journal) s.limit ≡ true = grind (arith, nat_tests) in rw t refl

-- the lowest version that a pass finds is at most the version that reads see, and equals it if
-- there is only one pass
lowest_shown : (base : State) (passes : ℕ) (seen : List Commit) (phase : Phase) (least : ℕ) → IsBetweenCalls passes phase → InTime (length seen) phase
    → (least ≤ lowest_found (length seen) (announce_word phase)) × (passes ≡ 1 → least ≡ lowest_found (length seen) (announce_word phase))
    → let shown = option_map_or (λ (p : PinnedVolume). p.number) (pin_of base (entries seen) phase) (length (entries seen)) in (least ≤ shown) × (passes ≡ 1 → least ≡ shown)
lowest_shown base passes seen Idle least settled time own = (omega (arith, seen_count seen, own.0), λ one. own.1 one ∙ sym (seen_count seen))
lowest_shown base passes seen (Looked x) least settled time own = absurd settled
lowest_shown base passes seen (Announced x) least settled time own = absurd settled
lowest_shown base passes seen (Pinned x n) least settled time own = (omega (arith, time.0, own.0), λ one. let same = settled one in let found = own.1 one in omega (arith, time.1, same, found))

-- a call of a pass
module _ (a c : Knowledge) (before : IsPass a) (beyond : IsPass c) (limits : c.limits ≡ a.limits) where
  in_time : InTime (length (entries a.seen)) a.phase
  in_time = subst (λ m. InTime m a.phase) (sym (seen_count a.seen)) before.pin

  -- the store began with the same volume
  begun : (log : List Entry) → pin_of c.limits.volume log c.phase ≡ pin_of a.limits.volume log c.phase
  begun log = ap (λ (l : Setting). pin_of l.volume log c.phase) limits

  -- none of the entries that it newly sees is its own
  none_new : (more : List Commit) → c.seen ≡ a.seen ++ more → c.mine ≡ a.mine → c.number ≡ a.number → by_pass a.number (entries more) ≡ []
  none_new more seen mine number = nothing_more a.mine (by_pass a.number (entries more))
      (ap (λ l. l ++ by_pass a.number (entries more)) (sym before.mine)
      ∙ (sym (by_pass-append a.number (entries a.seen) (entries more))
      ∙ (ap (by_pass a.number) (sym (ap entries seen ∙ entries_append a.seen more))
      ∙ (ap (λ k. by_pass k (entries c.seen)) (sym number) ∙ (beyond.mine ∙ mine)))))

  -- only others have written what it newly sees, if its pin is unchanged
  joins_seen : (more : List Commit) → c.seen ≡ a.seen ++ more → c.mine ≡ a.mine → c.number ≡ a.number → Joins (known a) (seen_by a (entries c.seen))
  joins_seen more seen mine number =
      let log : entries c.seen ≡ entries a.seen ++ entries more = ap entries seen ∙ entries_append a.seen more in
      subst (λ l. Joins (known a) (seen_by a l)) (sym log) (joins_more a (entries more) (none_new more seen mine number)
      (subst (λ l. AreOfPasses a.limits.passes l) log (subst (λ k. AreOfPasses k (entries c.seen)) (ap (λ l. l.passes) limits) beyond.by_passes)))

  -- what the pass shows depends only on its journal, if its phase is unchanged
  shown : (more : List Entry) → entries c.seen ≡ entries a.seen ++ more → c.number ≡ a.number → c.phase ≡ a.phase → known c ≡ seen_by a (entries c.seen)
  shown more log number phase =
      let base : State = a.limits.volume in
      let pin : pin_of c.limits.volume (entries c.seen) c.phase ≡ pin_of base (entries a.seen) a.phase =
      begun (entries c.seen) ∙ (ap (pin_of base (entries c.seen)) phase ∙ (ap (λ l. pin_of base l a.phase) log ∙ pin_stays base (entries a.seen) more a.phase in_time)) in
      λ i. record {
        journal = entries c.seen;
        volume = replay_from (limits i).volume (entries c.seen);
        limit = (limits i).commits;
        passes = (limits i).passes;
        pass = number i;
        pin = pin i;
      }

  pub learns_joins : Learns a c → Joins (known a) (known c)
  learns_joins h =
      let log : entries c.seen ≡ entries a.seen ++ entries h.more.0 = ap entries h.more.1 ∙ entries_append a.seen h.more.0 in
      subst (Joins (known a)) (sym (shown (entries h.more.0) log h.pass h.pin)) (joins_seen h.more.0 h.more.1 h.mine h.pass)

  pub pins_meanwhile : (n : ℕ) → (known a).pin ≡ None → Pins a c n → Meanwhile (known a) (λ s. (known c ≡ pinned s) × (n ≡ length s.journal))
  pins_meanwhile n idle h =
      let mine : c.mine ≡ a.mine = ap (λ (k : Knowledge). k.mine) h.same in
      let number : c.number ≡ a.number = ap (λ (k : Knowledge). k.number) h.same in
      let count : n ≡ length (entries c.seen) = h.number ∙ sym (seen_count c.seen) in
      let all : take n (entries c.seen) ≡ entries c.seen = ap (λ m. take m (entries c.seen)) count ∙ take-length (entries c.seen) in
      let pin : option_map (pin_at c) (pinned_number c.phase) ≡ some_pin (record { number = length (entries c.seen); volume = replay_from a.limits.volume (entries c.seen) }) =
      ap (option_map (pin_at c)) h.pin ∙ (λ i. some_pin (record { number = count i; volume = replay_from (limits i).volume (all i) })) in
      record {
        now = seen_by a (entries c.seen);
        joins = joins_seen h.more.0 h.more.1 mine number;
        is = (
          (λ i. record {
            journal = entries c.seen;
            volume = replay_from (limits i).volume (entries c.seen);
            limit = (limits i).commits;
            passes = (limits i).passes;
            pass = number i;
            pin = pin i;
          }),
          count,
        );
      }

  accepts_meanwhile : {X : Type 0} (outcomes_of : X → List Done) (ops : List Op) (n : ℕ) (x : X) → Accepts a c ops n (outcomes_of x) →
      Meanwhile (known a) (λ s. MayWrite outcomes_of s ops (Ok (n, x)) (known c))
  accepts_meanwhile outcomes_of ops n x h =
      let dones : List Done = outcomes_of x in
      let e : Entry = entry_by a ops dones in
      let log : List Entry = entries (a.seen ++ h.others) in
      let now : Store = seen_by a log in
      let front : log ≡ entries a.seen ++ entries h.others = entries_append a.seen h.others in
      let whole : entries c.seen ≡ log ++ e ∷ [] = ap entries h.seen ∙ (entries_append (a.seen ++ h.others) (h.commit ∷ []) ∙ ap (λ x. log ++ x ∷ []) h.entry) in
      let below : AreOfPasses a.limits.passes log =
      below-front a.limits.passes (entries c.seen) log (e ∷ [], whole) (subst (λ k. AreOfPasses k (entries c.seen)) (ap (λ l. l.passes) limits) beyond.by_passes) in
      let long : length (entries c.seen) ≡ length log + 1 = ap length whole ∙ length-append log (e ∷ []) in
      let room : length log < a.limits.commits = omega (arith, long, seen_count c.seen, beyond.room, ap (λ l. l.commits) limits) in
      let base : State = a.limits.volume in
      let volume : h.answered.0 ≡ volume_seen c =
      sym (ap (λ (l : Setting). replay_from l.volume (entries c.seen)) limits ∙ (ap (replay_from base) whole ∙ (replay_push base log e ∙ ap (reached (replay_from base log)) h.answered.1))) in
      let pin : pin_of c.limits.volume (entries c.seen) c.phase ≡ (known a).pin =
      begun (entries c.seen) ∙ (ap (pin_of base (entries c.seen)) h.pin
      ∙ (ap (λ l. pin_of base l a.phase) (whole ∙ (ap (λ l. l ++ e ∷ []) front ∙ append_assoc (entries a.seen) (entries h.others) (e ∷ [])))
      ∙ pin_stays base (entries a.seen) (entries h.others ++ e ∷ []) a.phase in_time)) in
      let made : entered now ops h.answered.0 dones ≡ known c = λ i. record {
        journal = sym whole i;
        volume = volume i;
        limit = (sym limits i).commits;
        passes = (sym limits i).passes;
        pass = sym h.pass i;
        pin = sym pin i;
      } in
      record {
        now = now;
        joins = subst (λ l. Joins (known a) (seen_by a l)) (sym front) (joins_more a (entries h.others) h.apart (subst (λ l. AreOfPasses a.limits.passes l) front below));
        is = (
          ap (written_by now ops) h.answered.1 ∙ (written_with_room now ops h.answered.0 dones room ∙ ap (λ (s : Store). Ok (s, dones)) made),
          h.number ∙ sym (seen_count c.seen),
        );
      }

  refused_as : (tries : ℕ) (ops : List Op) (e : Refusal) → IsBetweenCalls c.limits.passes c.phase → c.number ≡ a.number → IsLastReason tries a c ops e →
      (written (known c) ops ≡ Err e) ⊎ (IsWant (known c) e × IsOk (written (known c) ops)) ⊎ IsBusy (known c) e
  refused_as tries ops e settled number (inl late) = inr (inr (late.0, late.2, (subst (λ l. late.0 < l.passes) (sym limits) late.3, subst (λ k. late.0 ≢ k) (sym number) late.4)))
  refused_as tries ops e settled number (inr (inl h, locks)) = inl (ap (written_by (known c) ops) h)
  refused_as tries ops e settled number (inr (inr (inl h), locks)) = unroomed h.1
    where
      unroomed : HasNoRoom e c → (written (known c) ops ≡ Err e) ⊎ (IsWant (known c) e × IsOk (written (known c) ops)) ⊎ IsBusy (known c) e
      unroomed (inl spent) = inl (refused_at_limit (known c) ops (steps (volume_seen c) ops) h.0 (seen_count c.seen ∙ spent.1) ∙ ap Err (sym spent.0))
      unroomed (inr want) = inr (inl (inl want.0, accepted_with_room (known c) ops (steps (volume_seen c) ops) h.0 (omega (arith, seen_count c.seen, want.1))))
  refused_as tries ops e settled number (inr (inr (inr h), locks)) =
      inr (inl (inr (h.2.0, h.2.1, lowest_shown c.limits.volume c.limits.passes c.seen c.phase h.2.0 settled beyond.pin h.2.2.spent.2), accepted_with_room (known c) ops (steps (volume_seen c) ops) h.0 (omega (arith, seen_count c.seen, h.1))))

  pub writes_meanwhile : {X : Type 0} (tries : ℕ) (outcomes_of : X → List Done) (ops : List Op) (r : Result (ℕ × X) Refusal) → IsBetweenCalls c.limits.passes c.phase → IfOk r (λ x. Accepts a c ops x.0 (outcomes_of x.1)) →
      IfErr r (λ e. Learns a c × IsLastReason tries a c ops e) → Meanwhile (known a) (λ s. MayWrite outcomes_of s ops r (known c))
  writes_meanwhile tries outcomes_of ops (Ok x) settled ok err = accepts_meanwhile outcomes_of ops x.0 x.1 ok
  writes_meanwhile tries outcomes_of ops (Err e) settled ok err = record { now = known c; joins = learns_joins err.0; is = (refl, refused_as tries ops e settled err.0.pass err.1) }

-- after a write, the pass has the same number, and an error has a reason
pub same_number : {X : Type 0} (a c : Knowledge) (tries : ℕ) (outcomes_of : X → List Done) (ops : List Op) (r : Result (ℕ × X) Refusal) → IfOk r (λ x. Accepts a c ops x.0 (outcomes_of x.1)) →
    IfErr r (λ e. Learns a c × IsLastReason tries a c ops e) → c.number ≡ a.number
same_number a c tries outcomes_of ops (Ok x) ok err = ok.pass
same_number a c tries outcomes_of ops (Err e) ok err = err.0.pass

pub last_reason : {X : Type 0} (a c : Knowledge) (tries : ℕ) (ops : List Op) (r : Result X Refusal) → IfErr r (λ e. Learns a c × IsLastReason tries a c ops e) → IfErr r (λ e. IsLastReason tries a c ops e)
last_reason a c tries ops (Ok x) err = tt
last_reason a c tries ops (Err e) err = err.1
