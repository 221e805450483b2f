-- The oldest announced number that a scan found, and the places of the pages after the scan.
use Rattle.std.proofs.Common.{◌≡◌, ℕ, zero, suc, ◌<◌, ◌≤◌, List, [], ◌∷◌, ◌++◌, length, slice_index, true, Some, None, refl, sym, ap, ◌∙◌, subst, arith, length-append}
use Rattle.std.specs.declared.option.Option.{Option}
use mathlib.Core.Logic.{dite}
use native.Mathlib.Decide.{ℕ_discrete}
use Rattle.be_core.specs.Machine.{World}
use Rattle.be_table.specs.declared.pass.Knowledge.{Knowledge}
use Rattle.be_table.specs.declared.status.Announcement.{Announcement}
use Rattle.be_table.specs.Rule.{Reaches}
use Rattle.be_table.specs.Statuses.{IsOldest, LieAt}
use Rattle.be_table.specs.Steps.{scans, scans_on, scans_out}
use Rattle.std.proofs.Common.{Bool, false, ◌==◌, if◌then◌else◌}

pub oldest_none : IsOldest [] None
oldest_none = λ k lt. absurd (omega (arith, lt))

at_end : (ns : List ℕ) (n : ℕ) → slice_index (ns ++ n ∷ []) (length ns) ≡ n
at_end [] n = refl
at_end (x ∷ xs) n = at_end xs n

in_front : (ns : List ℕ) (n i : ℕ) → i < length ns → slice_index (ns ++ n ∷ []) i ≡ slice_index ns i
in_front [] n i lt = absurd (omega (arith, lt))
in_front (x ∷ xs) n zero lt = refl
in_front (x ∷ xs) n (suc i) lt = in_front xs n i (omega (arith, lt))

-- one more word: what holds for each word by its position
each_word : (P : ℕ → ℕ → Type 0) (words : List ℕ) (n : ℕ) → ((k : ℕ) → k < length words → P k (slice_index words k)) → P (length words) n
    → (k : ℕ) → k < length (words ++ n ∷ []) → P k (slice_index (words ++ n ∷ []) k)
each_word P words n front last k lt =
    dite (ℕ_discrete k (length words))
    (λ e. subst (λ (p : ℕ × ℕ). P p.0 p.1) (λ q. (sym e q, sym (ap (slice_index (words ++ n ∷ [])) e ∙ at_end words n) q)) last)
    (λ ne. let long = length-append words (n ∷ []) in let low : k < length words = omega (arith, lt, long) in
    subst (P k) (sym (in_front words n k low)) (front k low))

-- the pass has announced nothing
pub oldest_same : (words : List ℕ) (o : Option Announcement) (n : ℕ) → n ≡ 0 → IsOldest words o → IsOldest (words ++ n ∷ []) o
oldest_same words None n is h = each_word (λ k word. word ≡ 0) words n h is
oldest_same words (Some o) n is h =
    let long = length-append words (n ∷ []) in
    let low = h.0 in (
      omega (arith, long, low),
      in_front words n o.pass low ∙ h.1,
      λ k a lt word. each_word (λ k word. (a : ℕ) → word ≡ suc a → (o.number ≤ a) × (k < o.pass → o.number < a)) words n (λ k lt a. h.2 k a lt) (λ a e. absurd (omega (arith, e, is))) k lt a word,
    )

-- no pass before it has announced anything
pub oldest_first : (words : List ℕ) (n a pass : ℕ) → n ≡ suc a → length words ≡ pass → IsOldest words None → IsOldest (words ++ n ∷ []) (Some record { number = a; pass = pass })
oldest_first words n a pass is long h =
    let more = length-append words (n ∷ []) in (
      omega (arith, long, more),
      ap (slice_index (words ++ n ∷ [])) (sym long) ∙ at_end words n ∙ is,
      λ k b lt word. each_word (λ k word. (b : ℕ) → word ≡ suc b → (a ≤ b) × (k < pass → a < b)) words n
          (λ k lt b e. absurd (let none = h k lt in omega (arith, none, e)))
          (λ b e. (omega (arith, e, is), λ low. absurd (omega (arith, low, long)))) k lt b word,
    )

-- it has announced a lower number
pub oldest_new : (words : List ℕ) (o : Announcement) (n a pass : ℕ) → n ≡ suc a → length words ≡ pass → a < o.number → IsOldest words (Some o) → IsOldest (words ++ n ∷ []) (Some record { number = a; pass = pass })
oldest_new words o n a pass is long less h =
    let more = length-append words (n ∷ []) in (
      omega (arith, long, more),
      ap (slice_index (words ++ n ∷ [])) (sym long) ∙ at_end words n ∙ is,
      λ k b lt word. each_word (λ k word. (b : ℕ) → word ≡ suc b → (a ≤ b) × (k < pass → a < b)) words n
          (λ k lt b e. let le = (h.2 k b lt e).0 in (omega (arith, le, less), λ low. omega (arith, le, less)))
          (λ b e. (omega (arith, e, is), λ low. absurd (omega (arith, low, long)))) k lt b word,
    )

-- it hasn't announced a lower number
pub oldest_stays : (words : List ℕ) (o : Announcement) (n a : ℕ) → n ≡ suc a → o.number ≤ a → IsOldest words (Some o) → IsOldest (words ++ n ∷ []) (Some o)
oldest_stays words o n a is le h =
    let more = length-append words (n ∷ []) in
    let low = h.0 in (
      omega (arith, more, low),
      in_front words n o.pass low ∙ h.1,
      λ k b lt word. each_word (λ k word. (b : ℕ) → word ≡ suc b → (o.number ≤ b) × (k < o.pass → o.number < b)) words n
          (λ k lt b. h.2 k b lt)
          (λ b e. (omega (arith, e, is, le), λ before. absurd (omega (arith, before, low)))) k lt b word,
    )

-- a pass that holds the lock knows the places of the pages after its history
pub lies_at : (c : Knowledge) (P : World → Type 0) → c.writes ≡ true → Reaches c P → LieAt c.limits c.history c.places
lies_at c P writes r = record { words = r.words; world = r.world; runs = r.runs; shown = r.known.shown writes }

pub scans_writes : (a : Knowledge) (n : ℕ) → (scans a n).writes ≡ a.writes
scans_writes a n = by (suc a.scanned == a.limits.passes)
  where
    by : (z : Bool) → (if z then scans_out a n else scans_on a n).writes ≡ a.writes
    by true = refl
    by false = refl
