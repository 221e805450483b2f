-- Lists of slots after some were removed.
use Rattle.std.proofs.Common.{◌≡◌, ℕ, suc, ◌+◌, ◌<◌, List, [], ◌∷◌, set, ◌++◌, length, take, drop, ap, sym, ◌∙◌, arith}
use Rattle.std.specs.List.{refill}
use Rattle.std.proofs.lemmas.List.{take_at, take-set, drop-set, append_assoc}

both_same : {A : Type 0} {a b c d : List A} → a ≡ b → c ≡ d → a ++ c ≡ b ++ d
both_same p q = cc

-- a list that is overwritten completely
pub refilled : {A : Type 0} (xs ws : List A) → length ws ≡ length xs → refill (length xs) xs ws ≡ ws
refilled xs ws len = take_at ws (drop (length ws) xs) (length xs) len

-- one slot is replaced by others, the last of which takes its place
pub replaced : {A : Type 0} (slots front more : List A) (at : ℕ) (last : A) → at < length slots → more ≡ front ++ last ∷ []
    → take at (set slots at last) ++ (front ++ drop at (set slots at last)) ≡ take at slots ++ (more ++ drop (suc at) slots)
replaced slots front more at last lt is =
    let e : at + 1 ≡ suc at = omega arith in
    both_same (take-set slots at last)
    (ap (λ xs. front ++ xs) (drop-set slots at last lt ∙ ap (λ n. last ∷ drop n slots) e) ∙ sym (append_assoc front (last ∷ []) (drop (suc at) slots)) ∙ ap (λ xs. xs ++ drop (suc at) slots) (sym is))
