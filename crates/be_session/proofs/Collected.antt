-- The passes that a session collects to close its store.
use Rattle.std.proofs.Common.{◌≡◌, ◌<◌, ◌+◌, ◌∙◌, ℕ, List, [], ◌∷◌, ◌++◌, length, map, arith, ap, sym, subst, false, inl, inr, ⊎_elim}
use Rattle.std.proofs.lemmas.Bool.{cases_lt}
use Rattle.std.proofs.lemmas.List.{append_assoc, append-nil, map-append}
use Rattle.std.specs.Prelude.{zero, suc}
use Rattle.atomic_table.specs.Seated.{TableId}
use Rattle.be_store.specs.Passes.{IsPassOf}
use Rattle.be_table.specs.History.{StartsWith}
use Rattle.be_table.specs.Place.{Opened, SeatFacts}
use Rattle.be_table.specs.Steps.{Has}
use Rattle.be_table.specs.Works.{AllAt, AreNew, knows_of}

-- Passes that have never been used are passes of their table.
pub new_are_at : (t : Opened) (k : ℕ) (ss : List SeatFacts) → AreNew t k ss → AllAt t.id ss
new_are_at t k [] h = tt
new_are_at t k (s ∷ ss) h = ((h.0.0, h.0.1), new_are_at t (k + 1) ss h.1)

-- One more pass of the table.
pub at_more : (id : TableId) (ss : List SeatFacts) (s : SeatFacts) → AllAt id ss → s.blank ≡ false → s.table ≡ id → AllAt id (ss ++ s ∷ [])
at_more id [] s h live at = ((live, at), tt)
at_more id (x ∷ ss) s h live at = (h.0, at_more id ss s h.1 live at)

-- Among the passes that have never been used, there is one for each number.
pub new_have : (t : Opened) (k j n : ℕ) (ss : List SeatFacts) → n ≡ k + j → j < length ss → AreNew t k ss → Has (map knows_of ss) n
new_have t k j n [] is low h =
    let none : ⊥ = omega (arith, low) in
    absurd none
new_have t k zero n (s ∷ ss) is low h =
    let same : k ≡ n = omega (arith, is) in
    inl (ap (λ a. a.number) h.0.2 ∙ same)
new_have t k (suc j) n (s ∷ ss) is low h =
    let rest : j < length ss = omega (arith, low) in
    inr (new_have t (k + 1) j n ss (omega (arith, is)) rest h.1)

-- A number is still there when more passes are added.
pub has_more : (ss more : List SeatFacts) (k : ℕ) → Has (map knows_of ss) k → Has (map knows_of (ss ++ more)) k
has_more [] more k h = absurd h
has_more (s ∷ ss) more k h = ⊎_elim inl (λ m. inr (has_more ss more k m)) h

-- The number of the last pass.
pub has_last : (ss : List SeatFacts) (s : SeatFacts) (k : ℕ) → s.knows.number ≡ k → Has (map knows_of (ss ++ s ∷ [])) k
has_last [] s k is = inl is
has_last (x ∷ ss) s k is = inr (has_last ss s k is)

-- A list begins with itself, and with whatever its prefix begins with.
pub starts_same : {A : Type 0} (xs ys : List A) → ys ≡ xs → StartsWith ys xs
starts_same xs ys is = ([], is ∙ sym (append-nil xs))

pub starts_more : {A : Type 0} (xs ys zs : List A) → StartsWith ys xs → StartsWith zs ys → StartsWith zs xs
starts_more xs ys zs first more = (first.0 ++ more.0, more.1 ∙ (ap (λ l. l ++ more.0) first.1 ∙ append_assoc xs first.0 more.0))

-- What a prefix contains, the list contains.
pub starts_have : (ss ts : List SeatFacts) (k : ℕ) → StartsWith ts ss → Has (map knows_of ss) k → Has (map knows_of ts) k
starts_have ss ts k more h = subst (λ l. Has (map knows_of l) k) (sym more.1) (has_more ss more.0 k h)

-- Each number below k + 1 is there.
pub have_next : (ss ts : List SeatFacts) (k : ℕ) → StartsWith ts ss → ((n : ℕ) → n < k → Has (map knows_of ss) n) → Has (map knows_of ts) k
    → (n : ℕ) → n < k + 1 → Has (map knows_of ts) n
have_next ss ts k more have last n low =
    elim (cases_lt n k) [
      | inl less ↦ starts_have ss ts n more (have n less)
      | inr above ↦
          let same : k ≡ n = omega (arith, above, low) in
          subst (λ m. Has (map knows_of ts) m) same last
    ]

-- With one pass that was used, they are still passes of the store.
pub all_here : (t u : Opened) (ss : List SeatFacts) (s : SeatFacts) → u ≡ t → AreNew t 0 ss → IsPassOf t s → AllAt u.id (ss ++ s ∷ [])
all_here t u ss s same new pass =
    subst (λ (o : Opened). AllAt o.id (ss ++ s ∷ [])) (sym same) (at_more t.id ss s (new_are_at t 0 ss new) pass.0.0 pass.0.1)

-- What these passes and the collected ones know.
pub known_with : (ss : List SeatFacts) (s : SeatFacts) (some rest all : List SeatFacts) → some ≡ ss ++ s ∷ [] → all ≡ some ++ rest
    → map knows_of all ≡ map knows_of ss ++ s.knows ∷ map knows_of rest
known_with ss s some rest all first more =
    ap (map knows_of) (more ∙ (ap (λ l. l ++ rest) first ∙ append_assoc ss (s ∷ []) rest)) ∙ map-append knows_of ss (s ∷ rest)
