-- Strings whose keys are between a pattern's front and that front with its limit appended.
use Rattle.std.proofs.Common.{◌≡◌, ◌<◌, ℕ, true, false, List, [], ◌∷◌, ◌++◌, append_assoc, refl, sym, ap, ◌∙◌, arith}
use Rattle.std.specs.Int.{to_be_bytes, w64}
use Rattle.std.specs.Str.{chars, IsUtf8}
use Rattle.std.specs.Ordering.{nat_cmp, is_lt, is_gt, ordering_then, MatchOrdering}
use Rattle.std.specs.Cmp.{nat_cmp_is, ranked}
use Rattle.std.specs.FinMap.{nat_cmp-IsAntisymmetric}
use Rattle.std.specs.declared.cmp.Ordering.{Ordering}
use Rattle.std.specs.declared.cmp.Ordering.TheVariants.{Less, Equal, Greater}
use Rattle.std.proofs.lemmas.Str.{chars-append, chars_from_encodes}
use Rattle.be_value.specs.Key.{key}
use Rattle.be_value.specs.Name.{has_nul}
use Rattle.be_value.specs.declared.values.Value.TheVariants.{Cstr}
use Rattle.be_pattern.specs.Match.{Part, matches}
use Rattle.be_pattern.specs.Canonical.{is_plain, literal_prefix}
use Rattle.be_volume.specs.Maps.{name_cmp}
use Rattle.be_plan.specs.Narrow.{limit}
use Rattle.be_plan.proofs.LongTexts.{some_byte}
use Rattle.be_plan.proofs.Prefixes.{front_bytes}

-- The string begins with the front, and equals the front if the limit is 1.
record Begun (front text : List ℕ) (end : ℕ) : Type 0 where
  pub rest : List ℕ
  pub is : text ≡ front ++ rest
  pub whole : end ≡ 1 → rest ≡ []

module _ (end : ℕ) (s : List ℕ) where
  ends_there : (text : List ℕ) → has_nul text ≡ false → is_gt (name_cmp (text ++ 0 ∷ s) (end ∷ [])) ≡ false → end ≡ 1 → text ≡ []
  ends_there [] clean h e = refl
  ends_there (c ∷ cs) clean h e = by (nat_cmp c end) (ranked c end _ refl) (some_byte c cs clean).0 cs h
    where
      by : (o : Ordering) → MatchOrdering o (c < end) (c ≡ end) (end < c) → 0 < c → (t : List ℕ) → is_gt (ordering_then o (name_cmp (t ++ 0 ∷ s) [])) ≡ false → c ∷ cs ≡ []
      by Less lt some t h = absurd (omega (arith, e))
      by Equal eq some [] h = cc
      by Equal eq some (x ∷ t) h = cc
      by Greater gt some t h = cc

  begun : (front text : List ℕ) → has_nul front ≡ false → has_nul text ≡ false → is_lt (name_cmp (text ++ 0 ∷ s) front) ≡ false →
      is_gt (name_cmp (text ++ 0 ∷ s) (front ++ end ∷ [])) ≡ false → Begun front text end
  begun [] text bare clean low high = record { rest = text; is = refl; whole = ends_there text clean high }
  begun (f ∷ front) [] bare clean low high =
      let less : nat_cmp 0 f ≡ Less = sym (nat_cmp_is 0 f Less (some_byte f front bare).0) in
      let below : is_lt (name_cmp (0 ∷ s) (f ∷ front)) ≡ true = ap (λ o. is_lt (ordering_then o (name_cmp s front))) less in
      let wrong : true ≡ false = sym below ∙ low in
      absurd (cc wrong)
  begun (f ∷ front) (c ∷ text) bare clean low high = by (nat_cmp c f) refl low high (begun front text (some_byte f front bare).1 (some_byte c text clean).1)
    where
      by : (o : Ordering) → nat_cmp c f ≡ o → is_lt (ordering_then o (name_cmp (text ++ 0 ∷ s) front)) ≡ false →
          is_gt (ordering_then o (name_cmp (text ++ 0 ∷ s) (front ++ end ∷ []))) ≡ false →
          (is_lt (name_cmp (text ++ 0 ∷ s) front) ≡ false → is_gt (name_cmp (text ++ 0 ∷ s) (front ++ end ∷ [])) ≡ false → Begun front text end) →
          Begun (f ∷ front) (c ∷ text) end
      by Less e low high more = cc
      by Equal e low high more =
          let b : Begun front text end = more low high in
          let same : c ≡ f = nat_cmp-IsAntisymmetric c f e in
          record { rest = b.rest; is = ap (λ x. x ∷ text) same ∙ ap (λ t. f ∷ t) b.is; whole = b.whole }
      by Greater e low high more = cc

-- If its front decides a pattern, the pattern matches every string whose key is in that range.
pub front_decides : (parts : List Part) (text : List ℕ) (n : ℕ) → IsUtf8 (front_bytes parts) → has_nul (front_bytes parts) ≡ false → has_nul text ≡ false →
    is_lt (name_cmp (key (Cstr text) n) (front_bytes parts)) ≡ false →
    is_gt (name_cmp (key (Cstr text) n) (front_bytes parts ++ limit (is_plain parts) ∷ [])) ≡ false →
    ((beyond : List ℕ) → (is_plain parts ≡ true → beyond ≡ []) → matches parts (literal_prefix parts ++ beyond) ≡ true) →
    matches parts (chars text) ≡ true
unfolding chars
front_decides parts text n utf8 bare clean low high decides =
    let s = to_be_bytes w64 n in
    let key_is : key (Cstr text) n ≡ text ++ 0 ∷ s = append_assoc text (0 ∷ []) s in
    let b : Begun (front_bytes parts) text (limit (is_plain parts)) =
    begun (limit (is_plain parts)) s (front_bytes parts) text bare clean
    (sym (ap (λ k. is_lt (name_cmp k (front_bytes parts))) key_is) ∙ low)
    (sym (ap (λ k. is_gt (name_cmp k (front_bytes parts ++ limit (is_plain parts) ∷ []))) key_is) ∙ high) in
    let encoded : chars text ≡ literal_prefix parts ++ chars b.rest =
    ap chars b.is ∙ chars-append (front_bytes parts) b.rest utf8 ∙ ap (λ cs. cs ++ chars b.rest) (sym (chars_from_encodes (literal_prefix parts) (front_bytes parts) utf8 refl)) in
    ap (matches parts) encoded ∙ decides (chars b.rest) (λ plain. ap chars (b.whole (ap limit plain)))
