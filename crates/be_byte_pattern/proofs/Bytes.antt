-- A pattern matches the bytes of characters if and only if it matches the characters.
use Rattle.std.proofs.Common.{◌≡◌, ℕ, ◌+◌, ◌/◌, ◌%◌, ◌<◌, ◌≤◌, Bool, true, false, List, [], ◌∷◌, ◌++◌, map, length, ◌&&◌, ◌||◌, refl, sym, ap, ◌∙◌, subst, arith}
use Rattle.std.specs.Cmp.{both_ways}
use Rattle.std.specs.Char.{encode_utf8}
use Rattle.std.specs.Prelude.{nat_eq, nat_lt, IsUtf8, encode_utf8_all}
use Rattle.std.specs.Str.{chars}
use Rattle.std.proofs.Math.Logic.{⊎_elim}
use Rattle.std.proofs.Math.Seq.{drop-append_seam}
use Rattle.std.proofs.lemmas.Bool.{true≢false, or_cases, and_parts, eqb-true, cases_Bool, cond-true, cond-false, ltb-true, eqb-false, false_from_ne_true}
use Rattle.std.proofs.lemmas.Str.{encode_same, encodes-chars}
use Rattle.be_pattern.specs.Match.{Part, Run, One, Among, Only, matches, some_tail}
use Rattle.be_byte_pattern.specs.Runs.{byte_parts, has_runs_alone, IsOfRuns, parts_of_runs}
use Rattle.be_byte_pattern.specs.declared.runs.Runs.{Runs}
use Rattle.be_byte_pattern.proofs.LiteralRuns.{tail_further, tail_whole, run_taken, takes_run}

-- a byte inside a character, after its first byte
abbrev pub IsInside : ℕ → Type 0
IsInside b = (128 ≤ b) × (b < 192)

abbrev pub AreInside : List ℕ → Type 0
AreInside [] = Unit {0}
AreInside (b ∷ bs) = IsInside b × AreInside bs

-- a character's bytes: the first byte, which never occurs inside a character, and the others
record Encoded (c : ℕ) : Type 0 where
  pub lead : ℕ
  pub more : List ℕ
  pub bytes : encode_utf8 c ≡ lead ∷ more
  pub begins : IsInside lead → ⊥
  pub inside : AreInside more

next_inside : (n : ℕ) → IsInside (128 + n % 64)
next_inside n = (omega arith, omega arith)

encoded : (c : ℕ) → Encoded c
unfolding encode_utf8
encoded c = ⊎_elim
    (λ one. record { lead = c; more = []; bytes = cond-true _ _ _ one; begins = λ h. let k = ltb-true c 128 one in omega (arith, k, h.0); inside = tt })
    (λ more. ⊎_elim
    (λ two. record { lead = 192 + c / 64; more = (128 + c % 64) ∷ []; bytes = cond-false _ _ _ more ∙ cond-true _ _ _ two; begins = λ h. omega (arith, h.1); inside = (next_inside c, tt) })
    (λ three. ⊎_elim
    (λ is. record { lead = 224 + c / 4096; more = (128 + (c / 64) % 64) ∷ (128 + c % 64) ∷ []; bytes = cond-false _ _ _ more ∙ cond-false _ _ _ three ∙ cond-true _ _ _ is; begins = λ h. omega (arith, h.1); inside = (next_inside (c / 64), (next_inside c, tt)) })
    (λ not. record { lead = 240 + c / 262144; more = (128 + (c / 4096) % 64) ∷ (128 + (c / 64) % 64) ∷ (128 + c % 64) ∷ []; bytes = cond-false _ _ _ more ∙ cond-false _ _ _ three ∙ cond-false _ _ _ not; begins = λ h. omega (arith, h.1); inside = (next_inside (c / 4096), (next_inside (c / 64), (next_inside c, tt))) })
    (cases_Bool (nat_lt c 65536)))
    (cases_Bool (nat_lt c 2048)))
    (cases_Bool (nat_lt c 128))

-- Anything that matches from inside a character also matches from its end.

tails_in : (p : List ℕ → Bool) → ((b : ℕ) (k ds : List ℕ) → AreInside (b ∷ k) → p (b ∷ (k ++ ds)) ≡ true → p ds ≡ true)
    → (k ds : List ℕ) → AreInside k → some_tail p (k ++ ds) ≡ true → some_tail p ds ≡ true
tails_in p cut [] ds inside h = h
tails_in p cut (b ∷ k) ds inside h =
    ⊎_elim (λ here. tail_whole p ds (cut b k ds inside here)) (λ later. tails_in p cut k ds inside.1 later) (or_cases _ _ h)

from_inside : (ps : List Part) → has_runs_alone ps ≡ true → (b : ℕ) (k ds : List ℕ) → AreInside (b ∷ k)
    → matches (byte_parts ps) (b ∷ (k ++ ds)) ≡ true → matches (byte_parts ps) ds ≡ true
from_inside [] alone b k ds inside h = absurd (true≢false (sym h))
from_inside (Run ∷ ps) alone b k ds inside h = tails_in (matches (byte_parts ps)) (from_inside ps alone) (b ∷ k) ds inside h
from_inside (One ∷ ps) alone b k ds inside h = absurd (true≢false (sym alone))
from_inside (Among n ms ∷ ps) alone b k ds inside h = absurd (true≢false (sym alone))
from_inside (Only d ∷ ps) alone b k ds inside h =
    let s = encoded d in
    let first : matches (map Only (s.lead ∷ s.more) ++ byte_parts ps) (b ∷ (k ++ ds)) ≡ true = ap (λ l. matches (map Only l ++ byte_parts ps) (b ∷ (k ++ ds))) (sym s.bytes) ∙ h in
    let same : b ≡ s.lead = eqb-true b s.lead (and_parts _ _ first).0 in
    absurd (s.begins (subst IsInside same inside.0))

-- The parts one by one.

none_left : (cs : List ℕ) → matches [] (encode_utf8_all cs) ≡ matches [] cs
none_left [] = refl
none_left (c ∷ cs) = let s = encoded c in ap (λ l. matches [] (l ++ encode_utf8_all cs)) s.bytes

literal_ended : (d : ℕ) (ps : List Part) → matches (map Only (encode_utf8 d) ++ ps) [] ≡ false
literal_ended d ps = let s = encoded d in ap (λ l. matches (map Only l ++ ps) []) s.bytes

other_literal : (c d : ℕ) (rest : List ℕ) (ps : List Part) → (c ≡ d → ⊥) → matches (map Only (encode_utf8 d) ++ ps) (encode_utf8 c ++ rest) ≡ false
other_literal c d rest ps other = false_from_ne_true _ (λ h. let t = takes_run (encode_utf8 d) (encode_utf8 c ++ rest) ps h in other (encode_same c d rest t.0 t.1.0).0)

run_bytes : (ps : List Part) → has_runs_alone ps ≡ true → ((cs : List ℕ) → matches (byte_parts ps) (encode_utf8_all cs) ≡ matches ps cs)
    → (cs : List ℕ) → some_tail (matches (byte_parts ps)) (encode_utf8_all cs) ≡ some_tail (matches ps) cs
run_bytes ps alone same [] = same []
run_bytes ps alone same (c ∷ cs) =
    let s = encoded c in
    let p = matches (byte_parts ps) in
    let rest = encode_utf8_all cs in
    let whole : encode_utf8 c ++ rest ≡ s.lead ∷ (s.more ++ rest) = ap (λ l. l ++ rest) s.bytes in
    let here : p (s.lead ∷ (s.more ++ rest)) ≡ matches ps (c ∷ cs) = ap p (sym whole) ∙ same (c ∷ cs) in
    let later : some_tail p (s.more ++ rest) ≡ some_tail (matches ps) cs =
    both_ways _ _ (tails_in p (from_inside ps alone) s.more rest s.inside)
    (λ h. tail_further p (s.more ++ rest) (length s.more) (ap (some_tail p) (drop-append_seam s.more rest) ∙ h))
    ∙ run_bytes ps alone same cs in
    ap (some_tail p) whole ∙ (λ i. here i || later i)

literal_bytes : (d : ℕ) (ps : List Part) → ((cs : List ℕ) → matches (byte_parts ps) (encode_utf8_all cs) ≡ matches ps cs)
    → (cs : List ℕ) → matches (map Only (encode_utf8 d) ++ byte_parts ps) (encode_utf8_all cs) ≡ matches (Only d ∷ ps) cs
literal_bytes d ps same [] = literal_ended d (byte_parts ps)
literal_bytes d ps same (c ∷ cs) = ⊎_elim
    (λ is. let e : c ≡ d = eqb-true c d is in
    ap (λ x. matches (map Only (encode_utf8 d) ++ byte_parts ps) (encode_utf8 x ++ encode_utf8_all cs)) e
    ∙ run_taken (encode_utf8 d) (encode_utf8_all cs) (byte_parts ps) ∙ same cs ∙ sym (ap (λ b. b && matches ps cs) is))
    (λ not. other_literal c d (encode_utf8_all cs) (byte_parts ps) (eqb-false c d not) ∙ sym (ap (λ b. b && matches ps cs) not))
    (cases_Bool (nat_eq c d))

pub matches_bytes : (ps : List Part) → has_runs_alone ps ≡ true → (cs : List ℕ) → matches (byte_parts ps) (encode_utf8_all cs) ≡ matches ps cs
matches_bytes [] alone cs = none_left cs
matches_bytes (Run ∷ ps) alone cs = run_bytes ps alone (matches_bytes ps alone) cs
matches_bytes (One ∷ ps) alone cs = absurd (true≢false (sym alone))
matches_bytes (Among n ms ∷ ps) alone cs = absurd (true≢false (sym alone))
matches_bytes (Only d ∷ ps) alone cs = literal_bytes d ps (matches_bytes ps alone) cs

-- A pattern's runs match a text if and only if the pattern does.
pub runs_match : (ps : List Part) (runs : Runs) (text : List ℕ) → IsOfRuns ps runs → IsUtf8 text → matches (parts_of_runs runs) text ≡ matches ps (chars text)
runs_match ps runs text of utf8 =
    ap (λ l. matches l text) (sym of.bytes) ∙ ap (matches (byte_parts ps)) (sym (encodes-chars text utf8)) ∙ matches_bytes ps of.alone (chars text)
