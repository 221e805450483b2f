-- The replies to writes and commits.
use Rattle.std.proofs.Common.{◌≡◌, ◌⊎◌, ◌≤◌, ℕ, true, false, is_some, List, [], ◌∷◌, length, Option, Some, None, IsOk, inl, inr, refl, sym, ap, ◌∙◌, subst, arith}
use Rattle.std.specs.Prelude.{Ok, Err}
use Rattle.be_store.specs.Live.{LiveQuery}
use Rattle.be_value.specs.declared.refusals.Refusal.{Refusal}
use Rattle.be_value.specs.declared.refusals.Refusal.TheVariants.{OutOfMemory}
use Rattle.be_volume.specs.declared.ops.Done.{Done}
use Rattle.be_volume.specs.declared.ops.Op.{Op}
use Rattle.be_script_runner.specs.Output.{Session, IsHeldUp, Replies, Serves, commit_reply, done_reply, pinning, with_store, write_reply}
use Rattle.be_script_language.specs.Reply.{Reply, already_pinned, committed, empty_batch, pinned_at, refused}
use Rattle.be_script_language.specs.Request.{Request, write, pin, commit}
use Rattle.be_script_runner.specs.Store.{PinnedVolume, Store, Joins, Meanwhile, IsBusy, IsWant, MayWrite, pinned, written}
use Rattle.be_script_runner.specs.View.{unbatched, batched}
use Rattle.be_script_runner.proofs.JoinLemmas.{joins_itself}

-- a reply about the store as it was
pub serves_at_once : (s after : Session) (request : Request) (reply : Reply) → Replies s request reply after → Serves s request reply after
serves_at_once s after request reply r = record { now = s.store; joins = joins_itself s.store; is = r }

-- a reply about the store as others left it
pub serves_joined : (s after : Session) (new : Store) (request : Request) (reply : Reply) → Joins s.store new → Replies (with_store s new) request reply after → Serves s request reply after
serves_joined s after new request reply j r = record { now = new; joins = j; is = r }

-- a relation that holds for two values holds for values equal to them
pub of_both : {B : Type 0} (P : B → B → Type 0) (b b' c c' : B) → b ≡ c → b' ≡ c' → P c c' → P b b'
of_both P b b' c c' e e' h = subst (λ x. P x b') (sym e) (subst (λ y. P c y) (sym e') h)

-- a pin while a version is pinned
pub pinned_already : (s : Session) → true ≡ is_some s.store.pin → Replies s pin already_pinned s
pinned_already s h = by s.store.pin h
  where
    by : (p : Option PinnedVolume) → true ≡ is_some p → pinning s p ≡ (already_pinned, s)
    by None g = cc
    by (Some p) g = refl

-- a pin while no version is pinned
pub pinned_now : (old new : Store) (batch : Option (List Op)) (l : Option LiveQuery) (n : ℕ) → old.pin ≡ None → Meanwhile old (λ s. (new ≡ pinned s) × (n ≡ length s.journal)) →
    Serves (record { store = old; batch = batch; live = l }) pin (pinned_at n) (record { store = new; batch = batch; live = l })
pinned_now old new batch l n none m = record {
  now = m.now;
  joins = m.joins;
  is = ap (pinning (record { store = m.now; batch = batch; live = l })) (ap (λ (s : Store). s.pin) m.joins.store ∙ none)
      ∙ (λ i. (pinned_at (sym m.is.1 i), record { store = sym m.is.0 i; batch = batch; live = l }));
}

pub no_pin : (p : Option PinnedVolume) → false ≡ is_some p → p ≡ None
no_pin None h = refl
no_pin (Some p) h = cc

-- a commit of an empty batch
pub commit_empty : (store : Store) (ops : List Op) (l : Option LiveQuery) → length ops ≡ 0 → Replies (batched store ops l) commit empty_batch (batched store ops l)
commit_empty store [] l h = inl refl
commit_empty store (op ∷ ops) l h = absurd (omega (arith, h))

-- an error although the volume accepts the write: memory ran out, or the write was held up
held_up : (s : Store) (ops : List Op) (e : Refusal) → (IsWant s e × IsOk (written s ops)) ⊎ IsBusy s e →
    ((refused e ≡ refused OutOfMemory) × IsOk (written s ops)) ⊎ IsHeldUp s ops (refused e)
held_up s ops e (inl h) = by h.0
  where
    by : IsWant s e → ((refused e ≡ refused OutOfMemory) × IsOk (written s ops)) ⊎ IsHeldUp s ops (refused e)
    by (inl none) = inl (ap refused none, h.1)
    by (inr full) = inr (inl (full.0, ap refused full.1, full.2, h.1))
held_up s ops e (inr h) = inr (inr (h.0, ap refused h.1, h.2))

module _ {X : Type 0} (outcomes_of : X → List Done) (old new : Store) (live : Option LiveQuery) where
  pub write_accepted : (op : Op) (n : ℕ) (x : X) (reply : Reply) → reply ≡ done_reply (outcomes_of x) → Meanwhile old (λ s. MayWrite outcomes_of s (op ∷ []) (Ok (n, x)) new) →
      Serves (unbatched old live) (write (Ok op)) reply (unbatched new live)
  write_accepted op n x reply e m = record {
    now = m.now;
    joins = m.joins;
    is = inl (ap (write_reply (unbatched m.now live)) m.is.0 ∙ (λ i. (sym e i, unbatched new live)));
  }

  pub write_refused : (op : Op) (e : Refusal) → Meanwhile old (λ s. MayWrite outcomes_of s (op ∷ []) (Err e) new) → Serves (unbatched old live) (write (Ok op)) (refused e) (unbatched new live)
  write_refused op e m = record { now = m.now; joins = m.joins; is = by m.is.1 }
    where
      same : unbatched new live ≡ unbatched m.now live
      same = ap (λ (s : Store). unbatched s live) m.is.0

      by : (written m.now (op ∷ []) ≡ Err e) ⊎ (IsWant m.now e × IsOk (written m.now (op ∷ []))) ⊎ IsBusy m.now e →
          Replies (unbatched m.now live) (write (Ok op)) (refused e) (unbatched new live)
      by (inl h) = inl (ap (write_reply (unbatched m.now live)) h ∙ (λ i. (refused e, sym same i)))
      by (inr h) = inr (same, held_up m.now (op ∷ []) e h)

  pub commit_accepted : (ops : List Op) (n : ℕ) (x : X) → 1 ≤ length ops → Meanwhile old (λ s. MayWrite outcomes_of s ops (Ok (n, x)) new) →
      Serves (batched old ops live) commit (committed n (outcomes_of x)) (unbatched new live)
  commit_accepted [] n x some m = absurd (omega (arith, some))
  commit_accepted (op ∷ ops) n x some m = record {
    now = m.now;
    joins = m.joins;
    is = inl (ap (commit_reply (batched m.now (op ∷ ops) live)) m.is.0 ∙ (λ i. (committed (sym m.is.1 i) (outcomes_of x), unbatched new live)));
  }

  pub commit_refused : (ops : List Op) (e : Refusal) → 1 ≤ length ops → Meanwhile old (λ s. MayWrite outcomes_of s ops (Err e) new) →
      Serves (batched old ops live) commit (refused e) (unbatched new live)
  commit_refused [] e some m = absurd (omega (arith, some))
  commit_refused (op ∷ ops) e some m = record { now = m.now; joins = m.joins; is = by m.is.1 }
    where
      same : unbatched new live ≡ unbatched m.now live
      same = ap (λ (s : Store). unbatched s live) m.is.0

      by : (written m.now (op ∷ ops) ≡ Err e) ⊎ (IsWant m.now e × IsOk (written m.now (op ∷ ops))) ⊎ IsBusy m.now e →
          Replies (batched m.now (op ∷ ops) live) commit (refused e) (unbatched new live)
      by (inl h) = inl (ap (commit_reply (batched m.now (op ∷ ops) live)) h ∙ (λ i. (refused e, sym same i)))
      by (inr h) = inr (same, held_up m.now (op ∷ ops) e h)
