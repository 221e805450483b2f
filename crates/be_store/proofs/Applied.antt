-- A whole write, in which the lock is taken, the write is published or not, and the lock is
-- released.
use Rattle.std.proofs.Common.{◌≡◌, ◌<◌, false, inl, inr, ℕ, List, [], ◌∷◌, ◌++◌, length, refl, sym, ap, ◌∙◌, subst, arith, length-append}
use Rattle.std.specs.Prelude.{Result, Ok, Err, MatchResult, IfOk, IfErr, IsOk}
use Rattle.std.proofs.lemmas.List.{map-append}
use Rattle.be_journal.specs.declared.entries.Entry.{Entry}
use Rattle.be_journal.specs.Journal.{by_pass, replay_from}
use Rattle.be_table.specs.Setting.{Setting as Limits}
use Rattle.be_table.specs.declared.pass.Commit.{Commit}
use Rattle.be_table.specs.declared.pass.Knowledge.{Knowledge}
use Rattle.be_table.specs.declared.pass.Move.{Move}
use Rattle.be_table.specs.declared.pass.Move.TheVariants.{Lock, Publish, Unlock}
use Rattle.be_table.specs.Rule.{entries}
use Rattle.be_table.specs.Steps.{IsPass, entry_by, without_lock, with_history}
use Rattle.be_table.specs.Trace.{Makes, upto_lock}
use Rattle.be_table.specs.Working.{HasWorked, WorksOn}
use Rattle.be_table.specs.Works.{HasNoRoom, Moves, TakesLock}
use Rattle.be_table.proofs.Histories.{by_pass-append, by_pass-own}
use Rattle.be_table.proofs.Traces.{makes_more}
use Rattle.be_table.proofs.Worked.{upto_now, works_none}
use Rattle.be_value.specs.declared.refusals.Refusal.{Refusal}
use Rattle.be_volume.specs.Volume.{steps}
use Rattle.be_volume.specs.declared.ops.Done.{Done}
use Rattle.be_volume.specs.declared.ops.Op.{Op}
use Rattle.be_store.specs.History.{Accepts, Learns, LocksAndUnlocks, LocksOnly, IsReason, IsRefusedAt, text_seen}
use Rattle.be_store.specs.Passes.{volume_seen}
use Rattle.be_store.specs.Writing.{Publishes, IsHeldBack, IsSame}
use Rattle.be_store.proofs.Capacity.{short_unlocked}

pub entries_append : (log more : List Commit) → entries (log ++ more) ≡ entries log ++ entries more
entries_append log more = map-append (λ (c : Commit). c.entry) log more

pub nothing_more : {A : Type 0} (xs ys : List A) → xs ++ ys ≡ xs → ys ≡ []
nothing_more xs [] e = refl
nothing_more xs (y ∷ ys) e = absurd (let l : length (xs ++ y ∷ ys) ≡ length xs = ap length e in let m = length-append xs (y ∷ ys) in omega arith)

module _ (a w : Knowledge) (t : TakesLock a w) where
  same_number : w.number ≡ a.number
  same_number = ap (λ (k : Knowledge). k.number) t.same

  same_limits : w.limits ≡ a.limits
  same_limits = ap (λ (k : Knowledge). k.limits) t.same

  same_mine : w.mine ≡ a.mine
  same_mine = ap (λ (k : Knowledge). k.mine) t.same

  same_phase : w.phase ≡ a.phase
  same_phase = ap (λ (k : Knowledge). k.phase) t.same

  -- The pass's own entries, among those that it has seen while holding the lock.
  own : by_pass a.number (entries w.seen) ≡ a.mine
  own = ap (λ k. by_pass k (entries w.seen)) (sym same_number) ∙ (t.pass.mine ∙ same_mine)

  -- The additional entries that the pass sees are by other passes.
  others_apart : by_pass a.number (entries t.more.0) ≡ []
  others_apart = nothing_more a.mine (by_pass a.number (entries t.more.0))
      (ap (λ l. l ++ by_pass a.number (entries t.more.0)) (sym t.before.mine)
      ∙ (sym (by_pass-append a.number (entries a.seen) (entries t.more.0))
      ∙ (ap (by_pass a.number) (sym (entries_append a.seen t.more.0))
      ∙ (ap (λ l. by_pass a.number (entries l)) (sym t.more.1) ∙ own))))

  -- When the lock was taken, the history up to the lock is the whole history.
  pub upto_here : upto_lock w.number w.history ≡ w.history
  upto_here = ap (λ k. upto_lock k w.history) same_number ∙ upto_now a.number a.history w.history t.moves.made

  -- The lock is released immediately.
  pub locks_and_unlocks : (c : Knowledge) → Moves w (Unlock w.number ∷ []) c → LocksAndUnlocks a c
  locks_and_unlocks c unlocked =
      makes_more a.number a.history (Lock a.number ∷ []) w.history (Unlock a.number ∷ []) c.history t.moves.made
      (subst (λ k. Makes k w.history (Unlock k ∷ []) c.history) same_number unlocked.made)

  -- From the lock to the unlock.
  locks_only : (v c : Knowledge) → v.number ≡ w.number → WorksOn w.limits w.number w.history v.history → Moves v (Unlock v.number ∷ []) c → LocksOnly a c
  locks_only v c same work unlocked = record {
    locked = w.history;
    lock = t.moves.made;
    worked = v.history;
    work = subst (λ (x : Limits × ℕ). WorksOn x.0 x.1 w.history v.history) (λ i. (same_limits i, same_number i)) work;
    unlock = subst (λ k. Makes k v.history (Unlock k ∷ []) c.history) (same ∙ same_number) unlocked.made;
  }

  pub accepts : (v c : Knowledge) (ops : List Op) (n : ℕ) (dones : List Done) → Publishes w v ops n dones → c ≡ without_lock (with_history v c.history) → IsPass c → Moves v (Unlock v.number ∷ []) c → Accepts a c ops n dones
  accepts v c ops n dones p is pass unlocked =
      let seen : c.seen ≡ w.seen ++ p.commit ∷ [] = ap (λ (k : Knowledge). k.seen) is ∙ p.seen in
      let number : c.number ≡ a.number = ap (λ (k : Knowledge). k.number) is ∙ (p.same.pass ∙ same_number) in
      let entry : p.commit.entry ≡ entry_by a ops dones = p.entry ∙ ap (λ k. record { by = k; ops = ops; dones = dones }) same_number in record {
        others = t.more.0;
        commit = p.commit;
        seen = seen ∙ ap (λ l. l ++ p.commit ∷ []) t.more.1;
        entry = entry;
        apart = others_apart;
        answered = (p.answered.0, ap (λ (x : Limits × List Commit). steps (replay_from x.0.volume (entries x.1)) ops) (λ i. (sym same_limits i, sym t.more.1 i)) ∙ p.answered.1);
        number = p.number ∙ ap (λ (k : Knowledge). length k.seen) (sym is);
        mine = sym pass.mine
            ∙ (ap (λ k. by_pass k (entries c.seen)) number
            ∙ (ap (λ l. by_pass a.number (entries l)) seen
            ∙ (ap (by_pass a.number) (entries_append w.seen (p.commit ∷ []))
            ∙ (by_pass-own a.number (entries w.seen) p.commit.entry (ap (λ (e : Entry). e.by) entry)
            ∙ (ap (λ l. l ++ p.commit.entry ∷ []) own ∙ ap (λ e. a.mine ++ e ∷ []) entry)))));
        pass = number;
        limits = ap (λ (k : Knowledge). k.limits) is ∙ (p.same.limits ∙ same_limits);
        pin = ap (λ (k : Knowledge). k.phase) is ∙ (p.same.pin ∙ same_phase);
        moves = record {
          locked = w.history;
          lock = t.moves.made;
          worked = p.worked;
          work = subst (λ (x : Limits × ℕ × List Move). WorksOn x.0 x.1 x.2 p.worked) (λ i. (same_limits i, same_number i, upto_here i)) p.work;
          given = p.given;
          publish = makes_more a.number p.worked (Publish a.number p.commit.page p.given ∷ []) v.history (Unlock a.number ∷ []) c.history
              (subst (λ k. Makes k p.worked (Publish k p.commit.page p.given ∷ []) v.history) same_number p.made)
              (subst (λ k. Makes k v.history (Unlock k ∷ []) c.history) (p.same.pass ∙ same_number) unlocked.made);
          at = unlocked.at;
        };
      }

  -- The lock is released as it was taken, and the pass learns.
  pub learns_only : (c : Knowledge) → c ≡ without_lock (with_history w c.history) → IsPass c → Moves w (Unlock w.number ∷ []) c → Learns a c
  learns_only c is pass unlocked =
      let seen : c.seen ≡ w.seen = ap (λ (k : Knowledge). k.seen) is in
      let number : c.number ≡ a.number = ap (λ (k : Knowledge). k.number) is ∙ same_number in record {
        more = (t.more.0, seen ∙ t.more.1);
        mine = sym pass.mine ∙ (ap (λ k. by_pass k (entries c.seen)) number ∙ (ap (λ l. by_pass a.number (entries l)) seen ∙ own));
        pass = number;
        limits = ap (λ (k : Knowledge). k.limits) is ∙ same_limits;
        pin = ap (λ (k : Knowledge). k.phase) is ∙ same_phase;
        moves = inr (locks_only w c refl (works_none w.limits w.number w.history) unlocked);
      }

  -- A pass that has only worked also learns.
  pub learns_same : (v c : Knowledge) → v.seen ≡ w.seen → IsSame w v → c ≡ without_lock (with_history v c.history) → IsPass c
      → WorksOn w.limits w.number w.history v.history → Moves v (Unlock v.number ∷ []) c → Learns a c
  learns_same v c unseen same is pass work unlocked =
      let seen : c.seen ≡ w.seen = ap (λ (k : Knowledge). k.seen) is ∙ unseen in
      let number : c.number ≡ a.number = ap (λ (k : Knowledge). k.number) is ∙ (same.pass ∙ same_number) in record {
        more = (t.more.0, seen ∙ t.more.1);
        mine = sym pass.mine ∙ (ap (λ k. by_pass k (entries c.seen)) number ∙ (ap (λ l. by_pass a.number (entries l)) seen ∙ own));
        pass = number;
        limits = ap (λ (k : Knowledge). k.limits) is ∙ (same.limits ∙ same_limits);
        pin = ap (λ (k : Knowledge). k.phase) is ∙ (same.pin ∙ same_phase);
        moves = inr (locks_only v c same.pass work unlocked);
      }

  -- The work of a refused write.
  works : (v : Knowledge) (ops : List Op) (e : Refusal) → IsHeldBack w v ops e → (v.published ≡ false → HasWorked v.limits v.number v.history) → WorksOn w.limits w.number w.history v.history
  works v ops e p worked =
      subst (λ (x : Limits × ℕ × List Move). WorksOn x.0 x.1 x.2 v.history) (λ i. (p.same.limits i, p.same.pass i, (p.begun ∙ upto_here) i)) (worked p.unpublished)

  pub learns : (v c : Knowledge) (ops : List Op) (e : Refusal) → IsHeldBack w v ops e → c ≡ without_lock (with_history v c.history) → IsPass c
      → (v.published ≡ false → HasWorked v.limits v.number v.history) → Moves v (Unlock v.number ∷ []) c → Learns a c
  learns v c ops e p is pass worked unlocked = learns_same v c p.seen p.same is pass (works v ops e p worked) unlocked

  pub held_locks : (v c : Knowledge) (ops : List Op) (e : Refusal) → IsHeldBack w v ops e → (v.published ≡ false → HasWorked v.limits v.number v.history) → Moves v (Unlock v.number ∷ []) c → LocksOnly a c
  held_locks v c ops e p worked unlocked = locks_only v c p.same.pass (works v ops e p worked) unlocked

-- The reason of a refusal still holds after the unlock.
pub refused_unlocked : (v c : Knowledge) (ops : List Op) (e : Refusal) → c ≡ without_lock (with_history v c.history) → Moves v (Unlock v.number ∷ []) c → IsRefusedAt v ops e → IsRefusedAt c ops e
refused_unlocked v c ops e is unlocked (inl h) = inl (subst (λ (k : Knowledge). steps (volume_seen k) ops ≡ Err e) (sym is) h)
refused_unlocked v c ops e is unlocked (inr (inl h)) = inr (inl (subst (λ (k : Knowledge). IsOk (steps (volume_seen k) ops) × HasNoRoom e k) (sym is) h))
refused_unlocked v c ops e is unlocked (inr (inr h)) = inr (inr (
  subst (λ (k : Knowledge). IsOk (steps (volume_seen k) ops)) (sym is) h.0,
  subst (λ (k : Knowledge). length k.seen < k.limits.commits) (sym is) h.1,
  (h.2.0, h.2.1, short_unlocked v c ops h.2.0 is unlocked h.2.2),
))

pub reasons : (a w : Knowledge) (t : TakesLock a w) (v c : Knowledge) (ops : List Op) (e : Refusal) → IsHeldBack w v ops e → c ≡ without_lock (with_history v c.history)
    → (v.published ≡ false → HasWorked v.limits v.number v.history) → Moves v (Unlock v.number ∷ []) c → IsReason a c ops e
reasons a w t v c ops e p is worked unlocked = inr (refused_unlocked v c ops e is unlocked p.reason, held_locks a w t v c ops e p worked unlocked)

pub accepted_if : {T E : Type 0} (r : Result T E) (P R : T → Type 0) (Q : E → Type 0) → MatchResult r P Q → ((x : T) → P x → R x) → IfOk r R
accepted_if (Ok x) P R Q m f = f x m
accepted_if (Err e) P R Q m f = tt

pub refused_if : {T E : Type 0} (r : Result T E) (P : T → Type 0) (Q R : E → Type 0) → MatchResult r P Q → ((e : E) → Q e → R e) → IfErr r R
refused_if (Ok x) P Q R m f = tt
refused_if (Err e) P Q R m f = f e m

-- The text of an Ok.
abbrev text_or : List ℕ → Result (List ℕ) Refusal → List ℕ
text_or d (Ok x) = x
text_or d (Err e) = d

-- The text that was written under the lock is the text of what the pass has seen after it.
pub reported : (w c : Knowledge) (text : List ℕ) (made : Result (List ℕ) Refusal) → c ≡ without_lock (with_history w c.history) → made ≡ Ok (text_seen w) → made ≡ Ok text → text ≡ text_seen c
reported w c text made is all one = ap (text_or text) (sym one ∙ all) ∙ ap text_seen (sym is)
