-- What is left in a reader that adds an LF after each byte 3.
use Rattle.std.proofs.Common.{◌≡◌, ◌≤◌, ◌<◌, ℕ, Bool, true, false, nat_eq, List, [], ◌∷◌, length, take, slice_set, Some, None, option_map, refl, sym, ap, ◌∙◌, subst, arith, if◌then◌else◌}
use Rattle.std.proofs.lemmas.Bool.Decides.{nat_tests}
use Rattle.std.specs.Io.KnownBytes.{Consumes, IsAtEnd}
use Rattle.std.specs.declared.option.Option.{Option}
use Rattle.be_shell.specs.Break.{broken, owed}

-- The first byte of a buffer is written.
first_set : (buf : List ℕ) (x : ℕ) → 1 ≤ length buf → take 1 (slice_set buf 0 x) ≡ x ∷ []
first_set [] x h = absurd (omega (arith, h))
first_set (b ∷ buf) x h = refl

-- The LF that was owed.
lf_read : (known : Option (List ℕ)) (owes : Bool) → owes ≡ true → Consumes (option_map (owed owes) known) (option_map (owed false) known) (10 ∷ [])
lf_read None owes e = tt
lf_read (Some xs) true e = refl
lf_read (Some xs) false e = cc

-- A byte of the underlying reader.
byte_read : (old new : Option (List ℕ)) (owes : Bool) (b : ℕ) → owes ≡ false → Consumes old new (b ∷ []) →
    Consumes (option_map (owed owes) old) (option_map (owed (nat_eq b 3)) new) (b ∷ [])
byte_read None new owes b e h = tt
byte_read (Some xs) None owes b e h = absurd h
byte_read (Some xs) (Some ys) true b e h = cc
byte_read (Some xs) (Some ys) false b e h = ap broken h ∙ by (nat_eq b 3) refl
  where
    by : (t : Bool) → nat_eq b 3 ≡ t → (if t then 3 ∷ 10 ∷ broken ys else b ∷ broken ys) ≡ b ∷ owed t ys
    by true is = let three : 3 ≡ b = grind (arith, nat_tests) in ap (λ (z : ℕ). z ∷ 10 ∷ broken ys) three
    by false is = refl

-- The LF that was owed, written to the start of a buffer.
pub lf_put : (known : Option (List ℕ)) (owes : Bool) (buf : List ℕ) → 1 ≤ length buf → owes ≡ true →
    Consumes (option_map (owed owes) known) (option_map (owed false) known) (take 1 (slice_set buf 0 10))
    × (◌≡◌ {A = ℕ} 1 0 → 0 < length (slice_set buf 0 10) → IsAtEnd (option_map (owed false) known))
lf_put known owes buf some e = (
  subst (λ (z : List ℕ). Consumes (option_map (owed owes) known) (option_map (owed false) known) z) (sym (first_set buf 10 some)) (lf_read known owes e),
  λ none h. absurd (omega (arith, none)),
)

pub byte_put : (old new : Option (List ℕ)) (owes : Bool) (b : ℕ) (buf : List ℕ) → 1 ≤ length buf → owes ≡ false → Consumes old new (b ∷ []) →
    Consumes (option_map (owed owes) old) (option_map (owed (nat_eq b 3)) new) (take 1 (slice_set buf 0 b))
    × (◌≡◌ {A = ℕ} 1 0 → 0 < length (slice_set buf 0 b) → IsAtEnd (option_map (owed (nat_eq b 3)) new))
byte_put old new owes b buf some e h = (
  subst (λ (z : List ℕ). Consumes (option_map (owed owes) old) (option_map (owed (nat_eq b 3)) new) z) (sym (first_set buf b some)) (byte_read old new owes b e h),
  λ none h. absurd (omega (arith, none)),
)
