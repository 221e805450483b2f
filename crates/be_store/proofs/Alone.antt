-- A store's only pass has written everything that it has seen.
use Rattle.std.proofs.Common.{◌≡◌, inl, inr, ℕ, ◌+◌, List, [], ◌∷◌, ◌++◌, length, Ok, Some, append_assoc, refl, sym, ap, ◌∙◌, subst, arith, length-append}
use Rattle.std.proofs.lemmas.List.{append-nil, length-map}
use Rattle.be_core.specs.declared.event.Phase.{Phase}
use Rattle.be_core.specs.declared.event.Phase.TheVariants.{Idle, Looked, Announced, Pinned}
use Rattle.be_journal.specs.declared.entries.Entry.{Entry}
use Rattle.be_journal.specs.Journal.{by_pass, replay_from, Agrees}
use Rattle.be_table.specs.declared.pass.Commit.{Commit}
use Rattle.be_table.specs.declared.pass.Knowledge.{Knowledge}
use Rattle.be_table.specs.History.{AreOfPasses, StartsWith}
use Rattle.be_table.specs.Rule.{entries}
use Rattle.be_table.specs.Steps.{IsPass, announces, pins, entry_by, with_history}
use Rattle.be_table.specs.Trace.{Makes}
use Rattle.be_table.specs.Works.{Moves, PinsCurrent, SeesMore}
use Rattle.be_table.proofs.Traces.{makes_more}
use Rattle.be_table.specs.declared.pass.Move.TheVariants.{Look, Announce, LookAgain}
use Rattle.be_table.specs.Seats.{pinned_number}
use Rattle.be_table.proofs.Histories.{by_pass-append, by_pass-own}
use Rattle.be_volume.specs.Ahead.{state_after, reached}
use Rattle.be_volume.specs.Volume.{State}
use Rattle.be_table.specs.Setting.{Setting as Limits}
use Rattle.be_volume.specs.declared.ops.Done.{Done}
use Rattle.be_volume.specs.declared.ops.Op.{Op}
use Rattle.be_store.specs.Alone.{IsAlone, WritesNext}
use Rattle.be_value.specs.declared.refusals.Refusal.{Refusal}
use Rattle.be_store.specs.History.{Accepts, IsReason, IsRefusedAt, Pins}
use Rattle.be_store.specs.Passes.{IsBetweenCalls, volume_seen}
use Rattle.be_store.proofs.Applied.{entries_append, nothing_more}

-- If all entries are by passes below 1, they are by the pass 0.
pub by_one : (log : List Entry) → AreOfPasses 1 log → by_pass 0 log ≡ log
unfolding AreOfPasses
by_one [] b = refl
by_one (e ∷ log) b =
    let zero : e.by ≡ 0 = omega (arith, b.0) in
    by_pass-append 0 (e ∷ []) log ∙ (ap (λ l. l ++ by_pass 0 log) (by_pass-own 0 [] e zero) ∙ ap (λ l. e ∷ l) (by_one log b.1))

pub number_zero : (a : Knowledge) → IsAlone a → a.number ≡ 0
number_zero a h = omega (arith, h.pass.number_below, h.one)

pub written : (a : Knowledge) → IsAlone a → entries a.seen ≡ a.mine
written a h =
    sym (by_one (entries a.seen) (subst (λ n. AreOfPasses n (entries a.seen)) h.one h.pass.by_passes))
    ∙ (ap (λ k. by_pass k (entries a.seen)) (sym (number_zero a h)) ∙ h.pass.mine)

none_of : (log : List Commit) → entries log ≡ [] → log ≡ []
none_of [] e = refl
none_of (c ∷ log) e = absurd (let l : length (entries (c ∷ log)) ≡ 0 = ap length e in omega (arith, l))

-- If the pass has written nothing, it has seen nothing more.
pub same_seen : (a c : Knowledge) → IsAlone a → IsAlone c → StartsWith c.seen a.seen → c.mine ≡ a.mine → c.seen ≡ a.seen
same_seen a c alone state_after more mine =
    let same : entries a.seen ++ entries more.0 ≡ entries a.seen = sym (entries_append a.seen more.0) ∙ (ap entries (sym more.1) ∙ (written c state_after ∙ (mine ∙ sym (written a alone)))) in
    more.1 ∙ (ap (λ l. a.seen ++ l) (none_of more.0 (nothing_more (entries a.seen) (entries more.0) same)) ∙ append-nil a.seen)

-- No other pass holds the lock, so a refusal comes from an attempt that got the lock.
pub refused_alone : (a c : Knowledge) (ops : List Op) (e : Refusal) → IsAlone a → IsReason a c ops e → IsRefusedAt c ops e
refused_alone a c ops e alone (inl h) =
    let below = alone.pass.number_below in
    absurd (h.0.3 (omega (arith, alone.one, below, h.0.2)))
refused_alone a c ops e alone (inr h) = h.0

abbrev announced_in : Phase → ℕ
announced_in Idle = 0
announced_in (Looked x) = 0
announced_in (Announced x) = x
announced_in (Pinned x n) = 0

-- The pass looks, announces what it found, and looks again. If it is the only pass, it is then pinned to what it announced.
pub settled_pin : (passes n : ℕ) (b p c : Knowledge) → IsPass b → b.limits.passes ≡ passes → c.limits.passes ≡ passes → n ≡ length b.seen → p ≡ announces (with_history b p.history) n → PinsCurrent p c → IsBetweenCalls passes c.phase
settled_pin passes n b p c pass limits limits_then number announced h =
    let x : ℕ = h.same.0 in
    let found : x ≡ n = sym (ap announced_in h.same.1) ∙ ap (λ (k : Knowledge). announced_in k.phase) announced in
    let seen : p.seen ≡ b.seen = ap (λ (k : Knowledge). k.seen) announced in
    let mine : c.mine ≡ b.mine = ap (λ (k : Knowledge). k.mine) h.same.2 ∙ ap (λ (k : Knowledge). k.mine) announced in
    let phase : c.phase ≡ Pinned x (length c.seen) = ap (λ (k : Knowledge). k.phase) h.same.2 in
    subst (IsBetweenCalls passes) (sym phase) (λ one.
    let same : c.seen ≡ b.seen = same_seen b c (record { pass = pass; one = limits ∙ one }) (record { pass = h.pass; one = limits_then ∙ one }) (subst (StartsWith c.seen) seen h.more) mine in
    found ∙ (number ∙ ap length (sym same)))

-- The same steps pin the pass to what it has then seen.
pub pins_seen : (n m : ℕ) (a b p c : Knowledge) → SeesMore a b → p ≡ announces (with_history b p.history) m → Moves b (Announce b.number ∷ []) p → PinsCurrent p c → n ≡ length c.seen → Pins a c n
pins_seen n m a b p c looked announced reported h number =
    let number_b : b.number ≡ a.number = ap (λ (k : Knowledge). k.number) looked.same in
    let number_p : p.number ≡ a.number = ap (λ (k : Knowledge). k.number) announced ∙ number_b in
    let seen : p.seen ≡ b.seen = ap (λ (k : Knowledge). k.seen) announced in
    let more : StartsWith c.seen b.seen = subst (StartsWith c.seen) seen h.more in
    let x : ℕ = h.same.0 in
    let phase : c.phase ≡ Pinned x (length c.seen) = ap (λ (k : Knowledge). k.phase) h.same.2 in
    let steps : a.steps + 1 + 1 + 1 ≡ a.steps + 3 = omega arith in
    let first : Makes a.number a.history (Look a.number ∷ []) b.history = looked.moves.made in
    let second : Makes a.number b.history (Announce a.number ∷ []) p.history = subst (λ k. Makes k b.history (Announce k ∷ []) p.history) number_b reported.made in
    let third : Makes a.number p.history (LookAgain a.number ∷ []) c.history = subst (λ k. Makes k p.history (LookAgain k ∷ []) c.history) number_p h.moves.made in record {
      more = (looked.more.0 ++ more.0, more.1 ∙ ap (λ l. l ++ more.0) looked.more.1 ∙ append_assoc a.seen looked.more.0 more.0);
      number = number;
      pin = ap pinned_number phase ∙ ap Some (sym number);
      moves = record {
        made = makes_more a.number a.history (Look a.number ∷ []) b.history (Announce a.number ∷ LookAgain a.number ∷ []) c.history first
            (makes_more a.number b.history (Announce a.number ∷ []) p.history (LookAgain a.number ∷ []) c.history second third);
        at = h.moves.at;
      };
      same = h.same.2 ∙ ap (λ (k : Knowledge). pins (with_history k c.history) x c.seen c.image) (announced ∙ ap (λ (k : Knowledge). announces (with_history k p.history) m) looked.same)
          ∙ (λ j. record a { seen = c.seen; phase = sym phase j; image = c.image; steps = steps j; history = c.history });
    }

none_between : (xs ys : List Entry) (d e : Entry) → (xs ++ ys) ++ d ∷ [] ≡ xs ++ e ∷ [] → ys ≡ []
none_between xs [] d e same = refl
none_between xs (y ∷ ys) d e same = absurd (
    let l : length ((xs ++ y ∷ ys) ++ d ∷ []) ≡ length (xs ++ e ∷ []) = ap length same in
    let m = length-append (xs ++ y ∷ ys) (d ∷ []) in let n = length-append xs (y ∷ ys) in let o = length-append xs (e ∷ []) in omega arith)

-- By be_journal's law, one more entry is one more write.
pub writes_next : ((base : State) (log : List Entry) (entry : Entry) → replay_from base (log ++ entry ∷ []) ≡ state_after (replay_from base log) entry.ops) → (a c : Knowledge) (ops : List Op) (n : ℕ) (dones : List Done) → IsAlone a → IsAlone c → Accepts a c ops n dones → WritesNext a c ops n dones
writes_next pushed a c ops n dones alone then h =
    let e = entry_by a ops dones in
    let seen : entries c.seen ≡ entries a.seen ++ e ∷ [] = written c then ∙ (h.mine ∙ ap (λ l. l ++ e ∷ []) (sym (written a alone))) in
    let shown : entries c.seen ≡ (entries a.seen ++ entries h.others) ++ h.commit.entry ∷ [] =
    ap entries h.seen ∙ (entries_append (a.seen ++ h.others) (h.commit ∷ []) ∙ ap (λ l. l ++ h.commit.entry ∷ []) (entries_append a.seen h.others)) in
    let none : entries h.others ≡ [] = none_between (entries a.seen) (entries h.others) h.commit.entry e (sym shown ∙ seen) in
    let before : entries (a.seen ++ h.others) ≡ entries a.seen = entries_append a.seen h.others ∙ (ap (λ l. entries a.seen ++ l) none ∙ append-nil (entries a.seen)) in
    let agrees : Agrees (volume_seen a) e = subst (λ l. Agrees (replay_from a.limits.volume l) e) before h.answered in
    let made : volume_seen c ≡ agrees.0 = ap (λ (l : Limits). replay_from l.volume (entries c.seen)) h.limits ∙ ap (replay_from a.limits.volume) seen ∙ (pushed a.limits.volume (entries a.seen) e ∙ ap (reached (volume_seen a)) agrees.1) in
    let long : length (entries c.seen) ≡ length (entries a.seen ++ e ∷ []) = ap length seen in
    let ended = length-append (entries a.seen) (e ∷ []) in
    let there = length-map c.seen (λ (x : Commit). x.entry) in
    let here = length-map a.seen (λ (x : Commit). x.entry) in record {
      seen = seen;
      step = agrees.1 ∙ ap (λ s. Ok (s, dones)) (sym made);
      number = omega (arith, h.number, long, ended, there, here);
    }
