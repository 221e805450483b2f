-- What other passes have done to a store.
use Rattle.std.proofs.Common.{◌≡◌, ◌≢◌, ℕ, Bool, cond, ne_eqb, List, [], ◌∷◌, ◌++◌, All, fold, refl, sym, ap, ◌∙◌, arith}
use Rattle.std.proofs.lemmas.List.{append-nil}
use Rattle.std.proofs.lemmas.List.Elements.{All-nil, All-head, All-tail}
use Rattle.be_journal.specs.declared.entries.Entry.{Entry}
use Rattle.be_journal.specs.Journal.{by_pass}
use Rattle.be_volume.specs.Ahead.{state_after}
use Rattle.be_volume.specs.Volume.{State}
use Rattle.be_script_runner.specs.Store.{Store, Joins, Meanwhile, IsOther}

abbrev after_entries : State → List Entry → State
after_entries v es = fold (λ v (e : Entry). state_after v e.ops) v es

abbrev joined : Store → List Entry → Store
joined s es = record s { journal = s.journal ++ es; volume = after_entries s.volume es }

-- the other passes may have done nothing
pub joins_itself : (s : Store) → Joins s s
joins_itself s = record { others = []; theirs = All-nil (λ (e : Entry). IsOther s e.by); store = λ i. record s { journal = sym (append-nil s.journal) i } }

pub at_once : (s : Store) (P : Store → Type 0) → P s → Meanwhile s P
at_once s P h = record { now = s; joins = joins_itself s; is = h }

-- a store with one pass has no other passes
pub nobody_joins : (old new : Store) → old.passes ≡ 1 → old.pass ≡ 0 → Joins old new → new ≡ old
nobody_joins old new one first h = by h.others h.theirs h.store
  where
    by : (es : List Entry) → All (λ (e : Entry). IsOther old e.by) es → new ≡ joined old es → new ≡ old
    by [] t e = e ∙ (λ i. record old { journal = append-nil old.journal i })
    by (x ∷ es) t e = absurd (let other = All-head (λ (e : Entry). IsOther old e.by) x es t in other.1 (omega (arith, other.0, one, first)))

-- none of the entries that others made is this pass's
pub none_own : (k : ℕ) (es : List Entry) → All (λ (e : Entry). e.by ≢ k) es → by_pass k es ≡ []
none_own k [] t = refl
none_own k (e ∷ es) t =
    ap (λ (b : Bool). cond b (e ∷ by_pass k es) (by_pass k es)) (ne_eqb e.by k (All-head (λ (x : Entry). x.by ≢ k) e es t))
    ∙ none_own k es (All-tail (λ (x : Entry). x.by ≢ k) e es t)
