-- A key that a lookup finds in a list of pairs.
use Rattle.std.proofs.Common.{◌≡◌, ℕ, suc, zero, true, false, cond, List, [], ◌∷◌, All, Some, refl, arith, is_some}
use Rattle.std.specs.Ordering.{is_eq}
use Rattle.std.specs.declared.cmp.Ordering.{Ordering}
use Rattle.std.specs.declared.cmp.Ordering.TheVariants.{Less, Equal, Greater}
use Rattle.be_tree_reading.specs.Pair.{Pair}
use Rattle.be_tree_reading.specs.Key.{key_cmp, payload_at}
use Rattle.be_tree_reading.proofs.Order.{key_exact}

-- A key that is found is the key of a pair.
pub found_pair : (P : Pair → Type 0) (k : List ℕ) (xs : List Pair) → All P xs → is_some (payload_at xs k) ≡ true → (x : Pair) × P x × (x.key ≡ k)
found_pair P k [] all h = absurd (never h)
  where
    never : false ≡ true → ⊥
    never e = cc
found_pair P k (x ∷ xs) all h = by (key_cmp x.key k) refl (found_pair P k xs (λ i d lt. all (suc i) d (omega (arith, lt)))) h
  where
    by : (o : Ordering) → key_cmp x.key k ≡ o → (is_some (payload_at xs k) ≡ true → (x : Pair) × P x × (x.key ≡ k)) → is_some (cond (is_eq o) (Some x.payload) (payload_at xs k)) ≡ true → (x : Pair) × P x × (x.key ≡ k)
    by Less t rest h = rest h
    by Equal t rest h = (x, all zero x (omega arith), key_exact x.key k t)
    by Greater t rest h = rest h
