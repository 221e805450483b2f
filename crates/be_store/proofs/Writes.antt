-- What a write does to the pass that holds the lock.
use Rattle.std.proofs.Common.{arith, false, ◌≡◌, ◌≤◌, inl, inr, ℕ, List, [], ◌∷◌, ◌++◌, length, Ok, Err, sym, ap, ◌∙◌, subst}
use Rattle.std.specs.Prelude.{IfErr, IsOk, Result, MatchResult}
use Rattle.std.specs.Result.{IsErrAnd}
use Rattle.be_journal.specs.Journal.{replay_from}
use Rattle.be_core.specs.Machine.{has}
use Rattle.be_table.specs.Setting.{Setting as Limits}
use Rattle.be_table.specs.declared.pass.Commit.{Commit}
use Rattle.be_table.specs.declared.pass.Knowledge.{Knowledge}
use Rattle.be_table.specs.declared.pass.Move.{Move}
use Rattle.be_table.specs.declared.pass.Move.TheVariants.{Publish}
use Rattle.be_table.specs.Place.{Work}
use Rattle.be_table.specs.Reading.{open_of, page_state_among, page_state_in_work, word_of_page, words_of, StaysOpen}
use Rattle.be_table.specs.Rule.{largest_pool, entries, page_at, reach_at}
use Rattle.be_table.specs.Steps.{commit_of, entry_by, given_of, publishes, with_history}
use Rattle.be_table.specs.Trace.{Makes, upto_lock}
use Rattle.be_table.specs.Working.{HasWorked, WorksOn}
use Rattle.be_table.specs.Versions.{at_start, EncodesVolume}
use Rattle.be_table.specs.Works.{HasNoRoom, MakesScan, Moves, TakesLock}
use Rattle.be_table.proofs.PageStates.{swept_in}
use Rattle.be_volume.specs.Volume.{State, steps}
use Rattle.be_volume.specs.declared.ops.Done.{Done}
use Rattle.be_volume.specs.declared.ops.Op.{Op}
use Rattle.be_value.specs.declared.refusals.Refusal.{Refusal}
use Rattle.be_value.specs.declared.refusals.Refusal.TheVariants.{CommitsSpent, Full, OutOfMemory}
use Rattle.be_pages.specs.declared.room.PageState.{PageState}
use Rattle.be_pages.specs.Pages.{KeepsStart}
use Rattle.be_paged.specs.Changes.{IsRefusedList}
use Rattle.be_store.specs.Writing.{Begins, HasRoomAtFull, Publishes, IsHeldBack}
use Rattle.be_store.proofs.Refusals.{steps_refuse}

-- The version at the writer state's page is that of the whole journal.
pub current_encoded : (k : Knowledge) (page : ℕ) → Begins k → page ≡ page_at k.seen (length k.seen) → EncodesVolume (reach_at k.limits k.seen (length k.seen)) (word_of_page k.words) page (replay_from k.limits.volume (entries k.seen))
current_encoded k page t is = subst (λ p. EncodesVolume (reach_at k.limits k.seen (length k.seen)) (word_of_page k.words) p (replay_from k.limits.volume (entries k.seen))) (sym is) t.encoded

-- A pass that has just taken the lock begins a write.
pub begins_locked : (a k : Knowledge) → TakesLock a k → Begins k
begins_locked a k t = record { small = t.pass.within.limits.few_pages; unpublished = ap (λ (x : Knowledge). x.published) t.same; begun = t.begun; encoded = t.encoded }

-- A scan frees only pages that no version has.
pub begins_scanned : (old new : Work) (least : ℕ) → MakesScan old new least → Begins old.knows → Begins new.knows
begins_scanned old new least h b =
    let k : Knowledge = old.knows in
    let begun : (q : ℕ) → page_state_among new.knows.places q ≡ at_start (has (reach_at k.limits k.seen (length k.seen)) q) = λ q. ap (λ ps. page_state_among ps q) h.places ∙ swept_in least k.places q ∙ b.begun q in
    let same : new.knows ≡ record k { scanned = 0; least = least; places = new.knows.places; held = new.knows.held; steps = new.knows.steps; history = new.knows.history } = ap (λ (w : Work). w.knows) h.same in record {
      small = subst (λ (x : Knowledge). x.limits.pages ≤ largest_pool) (sym same) b.small;
      unpublished = ap (λ (x : Knowledge). x.published) same ∙ b.unpublished;
      begun = λ q. begun q ∙ ap (λ (x : Knowledge). at_start (has (reach_at x.limits x.seen (length x.seen)) q)) (sym same);
      encoded = subst (λ (x : Knowledge). EncodesVolume (reach_at x.limits x.seen (length x.seen)) (word_of_page x.words) (page_at x.seen (length x.seen)) (replay_from x.limits.volume (entries x.seen))) (sym same) b.encoded;
    }

-- What a write does to the pass, stated relative to the state before the scan that came first.
pub published_from : (w v : Work) (c : Knowledge) (ops : List Op) (n : ℕ) (dones : List Done) → open_of v ≡ open_of w → Publishes v.knows c ops n dones → Publishes w.knows c ops n dones
published_from w v c ops n dones kept p =
    let number : v.knows.number ≡ w.knows.number = ap (λ (o : StaysOpen). o.number) kept in
    let limits : v.knows.limits ≡ w.knows.limits = ap (λ (o : StaysOpen). o.limits) kept in
    let seen : v.knows.seen ≡ w.knows.seen = ap (λ (o : StaysOpen). o.seen) kept in
    let begun : upto_lock v.knows.number v.knows.history ≡ upto_lock w.knows.number w.knows.history = ap (λ (o : StaysOpen). o.begun) kept in record {
      same = record { pass = p.same.pass ∙ number; limits = p.same.limits ∙ limits; pin = p.same.pin ∙ ap (λ (o : StaysOpen). o.phase) kept };
      commit = p.commit;
      entry = p.entry ∙ ap (λ k. record { by = k; ops = ops; dones = dones }) number;
      seen = p.seen ∙ ap (λ l. l ++ p.commit ∷ []) seen;
      answered = (p.answered.0, ap (λ (x : Limits × List Commit). steps (replay_from x.0.volume (entries x.1)) ops) (λ i. (sym limits i, sym seen i)) ∙ p.answered.1);
      number = p.number;
      worked = p.worked;
      work = subst (λ (x : Limits × ℕ × List Move). WorksOn x.0 x.1 x.2 p.worked) (λ i. (limits i, number i, begun i)) p.work;
      given = p.given;
      made = subst (λ k. Makes k p.worked (Publish k p.commit.page p.given ∷ []) c.history) number p.made;
    }

pub held_back_from : (w v : Work) (c : Knowledge) (ops : List Op) (e : Refusal) → open_of v ≡ open_of w → IsHeldBack v.knows c ops e → IsHeldBack w.knows c ops e
held_back_from w v c ops e kept p = record {
  same = record { pass = p.same.pass ∙ ap (λ (o : StaysOpen). o.number) kept; limits = p.same.limits ∙ ap (λ (o : StaysOpen). o.limits) kept; pin = p.same.pin ∙ ap (λ (o : StaysOpen). o.phase) kept };
  seen = p.seen ∙ ap (λ (o : StaysOpen). o.seen) kept;
  reason = p.reason;
  unpublished = p.unpublished;
  begun = p.begun ∙ ap (λ (o : StaysOpen). o.begun) kept;
}

pub both_from : {T E : Type 0} (r : Result T E) (P R : T → Type 0) (Q S : E → Type 0) → ((x : T) → P x → R x) → ((e : E) → Q e → S e) → MatchResult r P Q → MatchResult r R S
both_from (Ok x) P R Q S f g m = f x m
both_from (Err e) P R Q S f g m = g e m

pub published : (w v r p : Work) (ops : List Op) (page n : ℕ) (dones shown : List Done) (made : State)
    → open_of v ≡ open_of w → r.knows ≡ v.knows → p.knows ≡ publishes (with_history r.knows p.knows.history) (entry_by r.knows ops shown) page → shown ≡ dones
    → steps (replay_from w.knows.limits.volume (entries w.knows.seen)) ops ≡ Ok (made, dones) → n ≡ length p.knows.seen
    → HasWorked r.knows.limits r.knows.number r.knows.history → Moves r.knows (Publish r.knows.number page (given_of r.knows) ∷ []) p.knows → Publishes w.knows p.knows ops n dones
published w v r p ops page n dones shown made kept same is lent stepped number worked moves =
    let pass : r.knows.number ≡ w.knows.number = ap (λ (k : Knowledge). k.number) same ∙ ap (λ (o : StaysOpen). o.number) kept in
    let limits : r.knows.limits ≡ w.knows.limits = ap (λ (k : Knowledge). k.limits) same ∙ ap (λ (o : StaysOpen). o.limits) kept in
    let pin : r.knows.phase ≡ w.knows.phase = ap (λ (k : Knowledge). k.phase) same ∙ ap (λ (o : StaysOpen). o.phase) kept in
    let seen : r.knows.seen ≡ w.knows.seen = ap (λ (k : Knowledge). k.seen) same ∙ ap (λ (o : StaysOpen). o.seen) kept in
    let begun : upto_lock r.knows.number r.knows.history ≡ upto_lock w.knows.number w.knows.history = ap (λ (k : Knowledge). upto_lock k.number k.history) same ∙ ap (λ (o : StaysOpen). o.begun) kept in
    let commit = commit_of r.knows (entry_by r.knows ops shown) page in record {
      same = record { pass = ap (λ (k : Knowledge). k.number) is ∙ pass; limits = ap (λ (k : Knowledge). k.limits) is ∙ limits; pin = ap (λ (k : Knowledge). k.phase) is ∙ pin };
      commit = commit;
      entry = cc;
      seen = ap (λ (k : Knowledge). k.seen) is ∙ ap (λ s. s ++ commit ∷ []) seen;
      answered = (made, stepped);
      number = number;
      worked = r.knows.history;
      work = subst (λ (x : Limits × ℕ × List Move). WorksOn x.0 x.1 x.2 r.knows.history) (λ i. (limits i, pass i, begun i)) worked;
      given = given_of r.knows;
      made = subst (λ k. Makes k r.knows.history (Publish k page (given_of r.knows) ∷ []) p.knows.history) pass moves.made;
    }

-- A list that is refused because no page is free is accepted by the volume.
pub full_accepts : {S K : Type 0} (kept_of : S → K) (page_state_of : S → ℕ → PageState) (words_of : S → ℕ → ℕ → ℕ) (full_of : S → ℕ → Type 0) (volume : State) (ops : List Op) (least : ℕ) (old new : S)
    → IsRefusedList kept_of page_state_of words_of full_of volume ops (Full least) old new → IsOk (steps volume ops) × KeepsStart kept_of page_state_of words_of old new
full_accepts _ _ _ _ volume ops least old new (inl h) = absurd (let few = (steps_refuse volume ops (Full least) h.0).1 in omega (arith, few))
full_accepts _ _ _ _ volume ops least old new (inr h) = (h.1, h.2)

-- A lack of room in the journal is reported before a lack of pages.
pub full_unroomed : (w v r : Work) (full_of : Work → ℕ → Type 0) (ops : List Op) (least : ℕ) (f e : Refusal) → w.knows.published ≡ false → f ≡ Full least
    → IsRefusedList open_of page_state_in_work words_of full_of (replay_from w.knows.limits.volume (entries w.knows.seen)) ops f w v → r ≡ v → HasNoRoom e v.knows → IsHeldBack w.knows r.knows ops e
full_unroomed w v r full_of ops least f e unpublished is refused same none =
    let h = full_accepts open_of page_state_in_work words_of full_of (replay_from w.knows.limits.volume (entries w.knows.seen)) ops least w v (subst (λ g. IsRefusedList open_of page_state_in_work words_of full_of (replay_from w.knows.limits.volume (entries w.knows.seen)) ops g w v) is refused) in
    let k : open_of r ≡ open_of w = ap open_of same ∙ h.1.kept in record {
      same = record { pass = ap (λ (o : StaysOpen). o.number) k; limits = ap (λ (o : StaysOpen). o.limits) k; pin = ap (λ (o : StaysOpen). o.phase) k };
      seen = ap (λ (o : StaysOpen). o.seen) k;
      reason = inr (inl (subst (λ (o : StaysOpen). IsOk (steps (replay_from o.limits.volume (entries o.seen)) ops)) (sym k) h.0, subst (λ (x : Work). HasNoRoom e x.knows) (sym same) none));
      unpublished = ap (λ (o : StaysOpen). o.published) k ∙ unpublished;
      begun = ap (λ (o : StaysOpen). o.begun) k;
    }

-- A refusal that is passed on unchanged.
pub passed_up : {T E : Type 0} (r : Result T E) (e : E) (P : T → Type 0) (Q : E → Type 0) → IsErrAnd r (λ y. y ≡ e) → Q e → MatchResult r P Q
passed_up (Ok x) e P Q is q = absurd is
passed_up (Err y) e P Q is q = subst Q (sym is) q

-- If the journal has no room, the error isn't Full.
unroomed_at_full : (k : Knowledge) (w : Work) (count : ℕ) (e : Refusal) → HasNoRoom e k → HasRoomAtFull w count e
unroomed_at_full k w count e (inl none) least full = absurd (let spent : CommitsSpent ≡ Full least = sym none.0 ∙ full in cc)
unroomed_at_full k w count e (inr none) least full = absurd (let refused : OutOfMemory ≡ Full least = sym none.0 ∙ full in cc)

pub unroomed_passed_up : {T : Type 0} (r : Result T Refusal) (k : Knowledge) (w : Work) (count : ℕ) (e : Refusal) → HasNoRoom e k → IsErrAnd r (λ y. y ≡ e) → IfErr r (HasRoomAtFull w count)
unroomed_passed_up (Ok x) k w count e none is = absurd is
unroomed_passed_up (Err y) k w count e none is = subst (HasRoomAtFull w count) (sym is) (unroomed_at_full k w count e none)
