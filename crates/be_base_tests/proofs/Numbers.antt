-- The order of numbers as keys.
use Rattle.std.proofs.Common.{◌≡◌, ℕ, ◌<◌, ◌^◌, ◌%◌, [], ◌++◌, ap, sym, ◌∙◌, arith}
use Rattle.std.specs.Int.{to_be_bytes, w64}
use Rattle.std.specs.Ordering.{nat_cmp, ordering_then}
use Rattle.std.specs.declared.cmp.Ordering.TheVariants.{Less, Equal}
use Rattle.std.proofs.lemmas.List.{append-nil}
use Rattle.be_value.proofs.KeyOrder.{bytes_order}
use Rattle.be_tree_reading.specs.Key.{key_cmp}
use Rattle.be_tree_reading.proofs.Bytes.Words.{less_cmp}

pub number_below : (m n : ℕ) → m < n → n < 2 ^ 64 → key_cmp (to_be_bytes w64 m) (to_be_bytes w64 n) ≡ Less
unfolding key_cmp
number_below m n lt fits =
    let low : m % 256 ^ 8 ≡ m = omega (arith, lt, fits) in
    let high : n % 256 ^ 8 ≡ n = omega (arith, fits) in
    ap (λ xs. key_cmp xs (to_be_bytes w64 n)) (sym (append-nil (to_be_bytes w64 m)))
    ∙ ap (λ ys. key_cmp (to_be_bytes w64 m ++ []) ys) (sym (append-nil (to_be_bytes w64 n)))
    ∙ bytes_order 8 m n [] []
    ∙ ap (λ a. ordering_then (nat_cmp a (n % 256 ^ 8)) Equal) low
    ∙ ap (λ b. ordering_then (nat_cmp m b) Equal) high
    ∙ ap (λ o. ordering_then o Equal) (less_cmp m n lt)
