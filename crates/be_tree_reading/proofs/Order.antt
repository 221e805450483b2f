-- Lists of pairs with ascending keys.
use Rattle.std.proofs.Common.{◌≡◌, ◌≢◌, ℕ, true, false, List, [], ◌∷◌, ◌++◌, Some, None, ap, sym, ◌∙◌, refl, if◌then◌else◌}
use Rattle.std.specs.declared.cmp.Ordering.{Ordering}
use Rattle.std.specs.declared.cmp.Ordering.TheVariants.{Less, Equal, Greater}
use Rattle.std.specs.Ordering.{is_eq, ordering_reverse}
use Rattle.std.specs.Cmp.{IsTotalOrder}
use Rattle.std.proofs.lemmas.Cmp.{nat_list_cmp_total, alike_right}
use Rattle.std.proofs.lemmas.Map.Lookups.{exact_bytes}
use Rattle.be_tree_reading.specs.Pair.{Pair}
use Rattle.be_tree_reading.specs.Key.{key_cmp, AllBelow, AllAbove, IsRising, payload_at, put, put_before}

pub key_total : IsTotalOrder key_cmp
unfolding key_cmp
key_total = nat_list_cmp_total

pub key_exact : (a b : List ℕ) → key_cmp a b ≡ Equal → a ≡ b
unfolding key_cmp
key_exact a b e = exact_bytes a b e

pub key_same : (a b : List ℕ) → is_eq (key_cmp a b) ≡ true → a ≡ b
key_same a b e = by (key_cmp a b) refl e
  where
    never : {A : Type 0} → false ≡ true → A
    never e = cc

    by : (o : Ordering) → key_cmp a b ≡ o → is_eq o ≡ true → a ≡ b
    by Less f g = never g
    by Equal f g = key_exact a b f
    by Greater f g = never g

pub key_cmp_flip : (a b : List ℕ) → key_cmp a b ≡ Greater → key_cmp b a ≡ Less
key_cmp_flip a b e = key_total.antisymm b a ∙ ap ordering_reverse e

pub key_cmp_flip_less : (a b : List ℕ) → key_cmp a b ≡ Less → key_cmp b a ≡ Greater
key_cmp_flip_less a b e = key_total.antisymm b a ∙ ap ordering_reverse e

-- if a is below b and b isn't above k, a is below k
pub less_to_at_most : (a b k : List ℕ) → key_cmp a b ≡ Less → key_cmp b k ≢ Greater → key_cmp a k ≡ Less
less_to_at_most a b k lt le =
    elim (key_cmp b k) as (λ r. key_cmp b k ≡ r → key_cmp a k ≡ Less) [
      | Less ↦ λ e. key_total.trans a b k lt e
      | Equal ↦ λ e. sym (alike_right key_total b k a e) ∙ lt
      | Greater ↦ λ e. absurd (le e)
    ] refl

pub greater_than_above : (a b k : List ℕ) → key_cmp a b ≡ Greater → key_cmp b k ≡ Greater → key_cmp a k ≡ Greater
greater_than_above a b k gt gk = key_cmp_flip_less k a (key_total.trans k b a (key_cmp_flip b k gk) (key_cmp_flip a b gt))

-- what is above b is above every k that is below b
pub AllAbove_trans : (b k : List ℕ) (xs : List Pair) → key_cmp b k ≡ Greater → AllAbove b xs → AllAbove k xs
AllAbove_trans b k [] gt above = tt
AllAbove_trans b k (x ∷ xs) gt above = (greater_than_above x.key b k above.0 gt, AllAbove_trans b k xs gt above.1)

-- parts of a list
pub AllAbove_left : (k : List ℕ) (xs ys : List Pair) → AllAbove k (xs ++ ys) → AllAbove k xs
AllAbove_left k [] ys h = tt
AllAbove_left k (x ∷ xs) ys h = (h.0, AllAbove_left k xs ys h.1)

pub AllAbove_right : (k : List ℕ) (xs ys : List Pair) → AllAbove k (xs ++ ys) → AllAbove k ys
AllAbove_right k [] ys h = h
AllAbove_right k (x ∷ xs) ys h = AllAbove_right k xs ys h.1

pub IsRising_left : (xs ys : List Pair) → IsRising (xs ++ ys) → IsRising xs
IsRising_left [] ys h = tt
IsRising_left (x ∷ xs) ys h = (AllAbove_left x.key xs ys h.0, IsRising_left xs ys h.1)

pub IsRising_right : (xs ys : List Pair) → IsRising (xs ++ ys) → IsRising ys
IsRising_right [] ys h = h
IsRising_right (x ∷ xs) ys h = IsRising_right xs ys h.1

-- what comes before a pair that isn't above k is below k
pub AllBelow_before : (k : List ℕ) (xs : List Pair) (y : Pair) (ys : List Pair) → IsRising (xs ++ y ∷ ys) → key_cmp y.key k ≢ Greater → AllBelow k xs
AllBelow_before k [] y ys rising le = tt
AllBelow_before k (x ∷ xs) y ys rising le =
    let at_y = AllAbove_right x.key xs (y ∷ ys) rising.0 in
    (less_to_at_most x.key y.key k (key_cmp_flip y.key x.key at_y.0) le, AllBelow_before k xs y ys rising.1 le)

-- if a pair is above k, so are all pairs after it
pub AllAbove_from : (k : List ℕ) (y : Pair) (ys : List Pair) → IsRising (y ∷ ys) → key_cmp y.key k ≡ Greater → AllAbove k (y ∷ ys)
AllAbove_from k y ys rising gt = (gt, AllAbove_trans y.key k ys gt rising.0)

-- a look-up in three parts, the first below the key and the last above it
pub payload_at_above : (k : List ℕ) (xs : List Pair) → AllAbove k xs → payload_at xs k ≡ None
payload_at_above k [] h = refl
payload_at_above k (x ∷ xs) h = rw h.0 (payload_at_above k xs h.1)

pub payload_at_left : (k : List ℕ) (xs ys : List Pair) → AllAbove k ys → payload_at (xs ++ ys) k ≡ payload_at xs k
payload_at_left k [] ys h = payload_at_above k ys h
payload_at_left k (x ∷ xs) ys h = ap (λ r. if is_eq (key_cmp x.key k) then Some x.payload else r) (payload_at_left k xs ys h)

pub payload_at_right : (k : List ℕ) (xs ys : List Pair) → AllBelow k xs → payload_at (xs ++ ys) k ≡ payload_at ys k
payload_at_right k [] ys h = refl
payload_at_right k (x ∷ xs) ys h = rw h.0 (payload_at_right k xs ys h.1)

-- a put in three parts
pub put_right : (pair : Pair) (xs ys : List Pair) → AllBelow pair.key xs → put pair (xs ++ ys) ≡ xs ++ put pair ys
put_right pair [] ys h = refl
put_right pair (x ∷ xs) ys h = rw h.0 (ap (λ zs. x ∷ zs) (put_right pair xs ys h.1))

pub put_left : (pair : Pair) (xs ys : List Pair) → AllAbove pair.key ys → put pair (xs ++ ys) ≡ put pair xs ++ ys
put_left pair [] [] h = refl
put_left pair [] (y ∷ ys) h = rw h.0 refl
put_left pair (x ∷ xs) ys h =
    elim (key_cmp x.key pair.key) as (λ r. put_before r pair x (xs ++ ys) (put pair (xs ++ ys)) ≡ put_before r pair x xs (put pair xs) ++ ys) [
      | Less ↦ ap (λ zs. x ∷ zs) (put_left pair xs ys h)
      | Equal ↦ refl
      | Greater ↦ refl
    ]
