-- The keys of strings that match a pattern.
use Rattle.std.proofs.Common.{◌≡◌, ◌<◌, ◌≤◌, ◌+◌, ◌/◌, ℕ, Bool, true, false, cond, ◌==◌, List, [], ◌∷◌, ◌++◌, length, length-append, nat_lt, append_assoc, refl, sym, ap, ◌∙◌, arith, inl, inr, suc}
use Rattle.std.proofs.lemmas.Bool.Decides.{nat_tests}
use borrow.Author.Tests.{ltb-true}
use lib.Dec.{ltb}
use lib.Utf8.{scalar, scalars, encode, encodes, scalar_cases}
use Rattle.std.proofs.lemmas.Str.{encodes-chars, scalars-chars}
use Rattle.std.specs.Str.{chars, IsUtf8}
use Rattle.std.specs.Int.{to_be_bytes, w64}
use Rattle.std.specs.Ordering.{nat_cmp, is_lt, is_gt, ordering_then}
use Rattle.std.specs.Cmp.{nat_cmp_is}
use Rattle.std.specs.declared.cmp.Ordering.TheVariants.{Less, Equal}
use Rattle.be_value.specs.Key.{key}
use Rattle.be_value.specs.declared.values.Value.TheVariants.{Cstr}
use Rattle.be_pattern.specs.Match.{Part, Run, One, Among, Only, matches}
use Rattle.be_pattern.specs.Canonical.{is_plain, literal_prefix}
use Rattle.std.specs.Prelude.{encode_utf8_all}
use Rattle.be_volume.specs.Maps.{name_cmp}
use Rattle.be_plan.specs.Cover.{begins_literally}
use Rattle.be_plan.specs.Narrow.{limit}
use Rattle.be_plan.proofs.Bounds.{not_below_empty}
use Rattle.be_plan.proofs.Ways.{and_first, and_second, nat_is}

-- The bytes of the literal characters before the first wildcard.
abbrev pub front_bytes : List Part → List ℕ
front_bytes parts = encode_utf8_all (literal_prefix parts)

-- The list begins with a byte below this limit.
record Begins (xs : List ℕ) (end : ℕ) : Type 0 where
  pub first : ℕ
  pub later : List ℕ
  pub is : xs ≡ first ∷ later
  pub below : first < end

first_of : (c : ℕ) (xs ys zs : List ℕ) → c < 1114112 → (a b d : Bool) → ltb c 128 ≡ a → ltb c 2048 ≡ b → ltb c 65536 ≡ d →
    Begins (cond a (c ∷ []) (cond b ((192 + c / 64) ∷ xs) (cond d ((224 + c / 4096) ∷ ys) ((240 + c / 262144) ∷ zs)))) 255
first_of c xs ys zs h true b d p q r = let lt : c < 128 = ltb-true c 128 p in record { first = c; later = []; is = refl; below = omega arith }
first_of c xs ys zs h false true d p q r = let lt : c < 2048 = ltb-true c 2048 q in record { first = 192 + c / 64; later = xs; is = refl; below = omega arith }
first_of c xs ys zs h false false true p q r = let lt : c < 65536 = ltb-true c 65536 r in record { first = 224 + c / 4096; later = ys; is = refl; below = omega arith }
first_of c xs ys zs h false false false p q r = record { first = 240 + c / 262144; later = zs; is = refl; below = omega arith }

scalar_below : (c : ℕ) → scalar c ≡ true → c < 1114112
scalar_below c h = elim (scalar_cases c h) [ inl lt ↦ omega arith | inr lts ↦ lts.1 ]

some_cond : (xs ys zs ws : List ℕ) (a b d : Bool) → 0 < length xs → 0 < length ys → 0 < length zs → 0 < length ws → 0 < length (cond a xs (cond b ys (cond d zs ws)))
some_cond xs ys zs ws true b d p q r s = p
some_cond xs ys zs ws false true d p q r s = q
some_cond xs ys zs ws false false true p q r s = r
some_cond xs ys zs ws false false false p q r s = s

some_encode : (c : ℕ) → 0 < length (encode c)
unfolding encode
some_encode c = some_cond _ _ _ _ (ltb c 128) (ltb c 2048) (ltb c 65536) (omega arith) (omega arith) (omega arith) (omega arith)

begins_encode : (c : ℕ) → scalar c ≡ true → Begins (encode c) 255
unfolding encode
begins_encode c h = first_of c _ _ _ (scalar_below c h) (ltb c 128) (ltb c 2048) (ltb c 65536) refl refl refl

-- A pattern has a literal prefix if and only if it begins with a literal character.
pub shows_front : (parts : List Part) → nat_lt 0 (length (encode_utf8_all (literal_prefix parts))) ≡ begins_literally parts
shows_front [] = refl
shows_front (Run ∷ ps) = refl
shows_front (One ∷ ps) = refl
shows_front (Among n ms ∷ ps) = refl
shows_front (Only c ∷ ps) = shown (encode c) (front_bytes ps) (some_encode c)
  where
    positive : (n : ℕ) → nat_lt 0 (suc n) ≡ true
    positive n = grind (arith, nat_tests)

    shown : (xs ys : List ℕ) → 0 < length xs → nat_lt 0 (length (xs ++ ys)) ≡ true
    shown [] ys h = absurd (omega arith)
    shown (x ∷ xs) ys h = positive (length (xs ++ ys))

-- Whatever a pattern matches begins with its literal prefix, and ends there if the pattern has no
-- wildcard.
record Prefixed (parts : List Part) (cs : List ℕ) : Type 0 where
  pub rest : List ℕ
  pub characters : scalars rest ≡ true
  pub is : encodes cs ≡ front_bytes parts ++ encodes rest
  pub whole : is_plain parts ≡ true → rest ≡ []

prefixed : (parts : List Part) (cs : List ℕ) → scalars cs ≡ true → matches parts cs ≡ true → Prefixed parts cs
prefixed [] [] s h = record { rest = []; characters = refl; is = refl; whole = λ _. refl }
prefixed [] (c ∷ cs) s h = cc
prefixed (Run ∷ ps) cs s h = record { rest = cs; characters = s; is = refl; whole = λ e. cc }
prefixed (One ∷ ps) cs s h = record { rest = cs; characters = s; is = refl; whole = λ e. cc }
prefixed (Among n ms ∷ ps) cs s h = record { rest = cs; characters = s; is = refl; whole = λ e. cc }
prefixed (Only d ∷ ps) [] s h = cc
prefixed (Only d ∷ ps) (c ∷ cs) s h =
    let more : Prefixed ps cs = prefixed ps cs (and_second (scalar c) (scalars cs) s) (and_second (c == d) (matches ps cs) h) in
    let same : c ≡ d = nat_is c d (and_first (c == d) (matches ps cs) h) in
    record {
      rest = more.rest;
      characters = more.characters;
      is = ap (λ e. encode e ++ encodes cs) same ∙ ap (λ t. encode d ++ t) more.is ∙ sym (append_assoc (encode d) (front_bytes ps) (encodes more.rest));
      whole = more.whole;
    }

-- The byte after the literal prefix.
begins_tail : (rest after : List ℕ) (plain : Bool) → scalars rest ≡ true → (plain ≡ true → rest ≡ []) → Begins ((encodes rest ++ 0 ∷ []) ++ after) (limit plain)
begins_tail [] after true s h = record { first = 0; later = after; is = refl; below = omega arith }
begins_tail [] after false s h = record { first = 0; later = after; is = refl; below = omega arith }
begins_tail (c ∷ cs) after true s h = let no : c ∷ cs ≡ [] = h refl in cc
begins_tail (c ∷ cs) after false s h =
    let b : Begins (encode c) 255 = begins_encode c (and_first (scalar c) (scalars cs) s) in
    record { first = b.first; later = ((b.later ++ encodes cs) ++ 0 ∷ []) ++ after; is = ap (λ e. ((e ++ encodes cs) ++ 0 ∷ []) ++ after) b.is; below = b.below }

tied : (x : ℕ) → nat_cmp x x ≡ Equal
tied x = sym (nat_cmp_is x x Equal refl)

not_below_front : (p t : List ℕ) → is_lt (name_cmp (p ++ t) (p ++ [])) ≡ false
not_below_front [] t = not_below_empty t
not_below_front (x ∷ p) t = ap (λ o. is_lt (ordering_then o (name_cmp (p ++ t) (p ++ [])))) (tied x) ∙ not_below_front p t

not_above_front : (p : List ℕ) (b end : ℕ) (m : List ℕ) → b < end → is_gt (name_cmp (p ++ b ∷ m) (p ++ end ∷ [])) ≡ false
not_above_front [] b end m lt = let less : nat_cmp b end ≡ Less = sym (nat_cmp_is b end Less lt) in ap (λ o. is_gt (ordering_then o (name_cmp m []))) less
not_above_front (x ∷ p) b end m lt = ap (λ o. is_gt (ordering_then o (name_cmp (p ++ b ∷ m) (p ++ end ∷ [])))) (tied x) ∙ not_above_front p b end m lt

module _ (parts : List Part) (text : List ℕ) (n : ℕ) (utf8 : IsUtf8 text) (matched : matches parts (chars text) ≡ true) where
  front : Prefixed parts (chars text)
  front = prefixed parts (chars text) (scalars-chars text utf8) matched

  tail : List ℕ
  tail = (encodes front.rest ++ 0 ∷ []) ++ to_be_bytes w64 n

  key_is : key (Cstr text) n ≡ front_bytes parts ++ ((encodes front.rest ++ 0 ∷ []) ++ to_be_bytes w64 n)
  key_is =
      ap (λ t. (t ++ 0 ∷ []) ++ to_be_bytes w64 n) (sym (encodes-chars text utf8) ∙ front.is)
      ∙ ap (λ t. t ++ to_be_bytes w64 n) (append_assoc (front_bytes parts) (encodes front.rest) (0 ∷ []))
      ∙ append_assoc (front_bytes parts) (encodes front.rest ++ 0 ∷ []) (to_be_bytes w64 n)

  pub not_shorter : length (front_bytes parts) ≤ length text
  not_shorter = omega (arith, ap length (sym (encodes-chars text utf8) ∙ front.is), length-append (front_bytes parts) (encodes front.rest))

  pub key_not_below : (low : List ℕ) → low ≡ front_bytes parts ++ [] → is_lt (name_cmp (key (Cstr text) n) low) ≡ false
  key_not_below low e = ap (λ l. is_lt (name_cmp (key (Cstr text) n) l)) e ∙ ap (λ k. is_lt (name_cmp k (front_bytes parts ++ []))) key_is
      ∙ not_below_front (front_bytes parts) ((encodes front.rest ++ 0 ∷ []) ++ to_be_bytes w64 n)

  pub key_not_above : (high : List ℕ) → high ≡ front_bytes parts ++ limit (is_plain parts) ∷ [] → is_gt (name_cmp (key (Cstr text) n) high) ≡ false
  key_not_above high e =
      let b : Begins ((encodes front.rest ++ 0 ∷ []) ++ to_be_bytes w64 n) (limit (is_plain parts)) = begins_tail front.rest (to_be_bytes w64 n) (is_plain parts) front.characters front.whole in
      ap (λ l. is_gt (name_cmp (key (Cstr text) n) l)) e
      ∙ ap (λ k. is_gt (name_cmp k (front_bytes parts ++ limit (is_plain parts) ∷ []))) (key_is ∙ ap (λ t. front_bytes parts ++ t) b.is)
      ∙ not_above_front (front_bytes parts) b.first (limit (is_plain parts)) b.later b.below
