-- A text whose first part is shown unchanged.
use Rattle.std.proofs.Common.{◌≡◌, ◌≤◌, ◌<◌, ℕ, suc, ◌+◌, List, [], ◌∷◌, ◌++◌, length, take, drop, get_or, add-one, append_assoc, refl, sym, ap, ◌∙◌, arith}
use Rattle.std.proofs.Math.Seq.{take-suc, drop-cons}
use Rattle.be_shell.specs.Escape.{shown, KeepsFirst}

-- The first n bytes of a text are shown unchanged.
abbrev pub IsPlainTo : List ℕ → ℕ → Type 0
IsPlainTo bytes n = shown bytes ≡ take n bytes ++ shown (drop n bytes)

-- One more byte.
pub one_more : (bytes : List ℕ) (n : ℕ) → n < length bytes → IsPlainTo bytes n → KeepsFirst (drop n bytes) → IsPlainTo bytes (n + 1)
one_more bytes n h front keeps =
    let x = get_or bytes n 0 in
    let rest = drop (suc n) bytes in
    let more : shown (drop n bytes) ≡ x ∷ shown rest = keeps x rest (drop-cons bytes n 0 h) in
    let taken : take (suc n) bytes ≡ take n bytes ++ (x ∷ []) = take-suc bytes n 0 h in
    let whole : shown bytes ≡ take (suc n) bytes ++ shown rest =
    front ∙ (ap (λ (z : List ℕ). take n bytes ++ z) more ∙ (sym (append_assoc (take n bytes) (x ∷ []) (shown rest)) ∙ ap (λ (z : List ℕ). z ++ shown rest) (sym taken))) in
    rw add-one whole

-- The first byte.
pub first_plain : (bytes : List ℕ) → 1 ≤ length bytes → KeepsFirst bytes → IsPlainTo bytes 1
first_plain bytes h keeps = one_more bytes 0 (omega (arith, h)) refl keeps
