-- The order of keys, and lists of pairs with ascending keys.
use Rattle.std.specs.Prelude.{◌≡◌, ◌≢◌, ◌-◌, ℕ, suc, List, [], ◌∷◌, ◌<◌, ◌≤◌, length}
use Rattle.std.specs.Prelude.{slice_index_or, Option, Some, None, if◌then◌else◌}
use Rattle.std.specs.List.{AllByRecursion}
use Rattle.std.specs.declared.cmp.Ordering.{Ordering}
use Rattle.std.specs.declared.cmp.Ordering.TheVariants.{Less, Equal, Greater}
use Rattle.std.specs.Ordering.{nat_cmp, is_eq}
use Rattle.std.specs.Cmp.Lexicographic.{slice_cmp}
use Rattle.be_tree_reading.specs.Pair.{Pair}

-- keys are compared byte by byte
unfoldable pub key_cmp : List ℕ → List ℕ → Ordering
key_cmp = slice_cmp nat_cmp

-- each key is lower, or higher, than k
abbrev pub AllBelow : List ℕ → List Pair → Type 0
AllBelow k xs = AllByRecursion (λ x. key_cmp x.key k ≡ Less) xs

abbrev pub AllAbove : List ℕ → List Pair → Type 0
AllAbove k xs = AllByRecursion (λ x. key_cmp x.key k ≡ Greater) xs

-- the keys ascend strictly
abbrev pub IsRising : List Pair → Type 0
IsRising [] = Unit {0}
IsRising (x ∷ xs) = AllAbove x.key xs × IsRising xs

-- the payload at a key
abbrev pub payload_at : List Pair → List ℕ → Option (List ℕ)
payload_at [] k = None
payload_at (x ∷ xs) k = if is_eq (key_cmp x.key k) then Some x.payload else payload_at xs k

-- the list with the pair in its place, replacing any pair with the same key
abbrev pub put_before : Ordering → Pair → Pair → List Pair → List Pair → List Pair
put_before Less pair x xs put_in_xs = x ∷ put_in_xs
put_before Equal pair x xs put_in_xs = pair ∷ xs
put_before Greater pair x xs put_in_xs = pair ∷ x ∷ xs

abbrev pub put : Pair → List Pair → List Pair
put pair [] = pair ∷ []
put pair (x ∷ xs) = put_before (key_cmp x.key pair.key) pair x xs (put pair xs)

-- the list without the key
abbrev pub without : List ℕ → List Pair → List Pair
without k [] = []
without k (x ∷ xs) = if is_eq (key_cmp x.key k) then without k xs else x ∷ without k xs

-- the first pair has this key
abbrev pub StartsAt : List ℕ → List Pair → Type 0
StartsAt k [] = ⊥
StartsAt k (x ∷ xs) = x.key ≡ k

-- the item before number r has a key that isn't higher than k, and the item at r has a higher one
pub record IsRank (k : List ℕ) (items : List Pair) (r : ℕ) : Type 0 where
  pub in_range : r ≤ length items
  pub not_above : (j : ℕ) (d : Pair) → suc j ≡ r → key_cmp (slice_index_or items j d).key k
      ≢ Greater
  pub above : (d : Pair) → r < length items → key_cmp (slice_index_or items r d).key k ≡ Greater

-- the item before number r has a lower key than k, and the item at r has a higher one
pub record IsGap (k : List ℕ) (items : List Pair) (r : ℕ) : Type 0 where
  pub in_range : r ≤ length items
  pub below : (j : ℕ) (d : Pair) → suc j ≡ r → key_cmp (slice_index_or items j d).key k ≡ Less
  pub above : (d : Pair) → r < length items → key_cmp (slice_index_or items r d).key k ≡ Greater

-- item `at` is the last one whose key isn't higher than k, or the first one
pub record IsBranchFor (k : List ℕ) (items : List Pair) (at : ℕ) : Type 0 where
  pub rank : ℕ
  pub is_rank : IsRank k items rank
  pub before : at ≡ rank - 1
