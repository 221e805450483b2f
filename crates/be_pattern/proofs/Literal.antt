-- A text without special characters encodes its characters.
use Rattle.std.proofs.Common.{◌≡◌, ℕ, ◌<◌, true, false, List, [], ◌∷◌, ◌++◌, ◌||◌, ◌&&◌, map, Ok, refl, sym, ap, ◌∙◌, arith, IsUtf8}
use Rattle.std.specs.Prelude.{encode_utf8, encode_utf8_all, nat_eq}
use Rattle.std.specs.Cmp.Lexicographic.{pointwise}
use Rattle.std.specs.List.{list_any}
use Rattle.std.specs.Str.{chars}
use Rattle.std.proofs.Math.Logic.{⊎_elim}
use Rattle.std.proofs.lemmas.Bool.{cond-false, cases_Bool, or_parts, or_cases, eqb-true}
use Rattle.std.proofs.lemmas.Bool.Decides.{same_from_decides, Decides-like, Decides-eqb}
use Rattle.std.proofs.lemmas.List.Folds.{list_any-append}
use Rattle.std.proofs.lemmas.Slice.Eq.{slice_eq-Decides}
use Rattle.std.proofs.lemmas.Str.{encode_ascii, encodes-chars}
use Rattle.be_pattern.specs.Match.{Only, matches}
use Rattle.be_pattern.specs.Parse.{pattern}
use Rattle.be_pattern.specs.Canonical.{is_special, is_plain, is_prefix, literal_prefix, canonical, are_formed}
use Rattle.be_pattern.proofs.Back.{canonical_read}

special_ascii : (c : ℕ) → is_special c ≡ true → c < 128
special_ascii c h =
    ⊎_elim (λ h3. ⊎_elim (λ h2. ⊎_elim (λ h1. ⊎_elim
    (λ k. let e = eqb-true c 34 k in omega arith) (λ k. let e = eqb-true c 92 k in omega arith) (or_cases _ _ h1))
    (λ k. let e = eqb-true c 42 k in omega arith) (or_cases _ _ h2))
    (λ k. let e = eqb-true c 63 k in omega arith) (or_cases _ _ h3))
    (λ k. let e = eqb-true c 91 k in omega arith) (or_cases _ _ h)

char_plain : (c : ℕ) → list_any is_special (encode_utf8 c) ≡ false → is_special c ≡ false
char_plain c h = ⊎_elim
    (λ w. (or_parts (is_special c) false (sym (ap (list_any is_special) (encode_ascii c (special_ascii c w))) ∙ h)).0)
    (λ w. w)
    (cases_Bool (is_special c))

chars_plain : (cs : List ℕ) → list_any is_special (encode_utf8_all cs) ≡ false → list_any is_special cs ≡ false
chars_plain [] h = refl
chars_plain (c ∷ cs) h =
    let k = or_parts _ _ (sym (list_any-append is_special (encode_utf8 c) (encode_utf8_all cs)) ∙ h) in
    (λ i. char_plain c k.0 i || chars_plain cs k.1 i)

own_text : (cs : List ℕ) → list_any is_special cs ≡ false → canonical (map Only cs) ≡ cs
own_text [] h = refl
own_text (c ∷ cs) h =
    let k = or_parts _ _ h in
    ap (λ l. l ++ canonical (map Only cs)) (cond-false (is_special c) (92 ∷ c ∷ []) (c ∷ []) k.0) ∙ ap (λ l. c ∷ l) (own_text cs k.1)

all_formed : (cs : List ℕ) → are_formed (map Only cs) ≡ true
all_formed [] = refl
all_formed (c ∷ cs) = all_formed cs

pub literal_read : (text : List ℕ) → IsUtf8 text → list_any is_special text ≡ false → pattern (chars text) ≡ Ok (map Only (chars text))
literal_read text u h =
    let k = chars_plain (chars text) (ap (list_any is_special) (encodes-chars text u) ∙ h) in
    ap pattern (sym (own_text (chars text) k)) ∙ canonical_read (map Only (chars text)) (all_formed (chars text))

pub all_literal : (cs : List ℕ) → is_plain (map Only cs) ≡ true
all_literal [] = refl
all_literal (c ∷ cs) = all_literal cs

pub all_front : (cs : List ℕ) → is_prefix (map Only cs) ≡ true
all_front [] = refl
all_front (c ∷ cs) = all_front cs

own_front : (cs : List ℕ) → literal_prefix (map Only cs) ≡ cs
own_front [] = refl
own_front (c ∷ cs) = ap (λ l. c ∷ l) (own_front cs)

pub front_text : (text : List ℕ) → IsUtf8 text → encode_utf8_all (literal_prefix (map Only (chars text))) ≡ text
front_text text u = ap encode_utf8_all (own_front (chars text)) ∙ encodes-chars text u

-- A literal text matches only itself.

own_matches : (cs ds : List ℕ) → matches (map Only cs) ds ≡ pointwise nat_eq ds cs
own_matches [] [] = refl
own_matches [] (d ∷ ds) = refl
own_matches (c ∷ cs) [] = refl
own_matches (c ∷ cs) (d ∷ ds) = ap (λ b. nat_eq d c && b) (own_matches cs ds)

pub text_matches : (text other : List ℕ) → IsUtf8 text → IsUtf8 other → pointwise nat_eq other text ≡ matches (map Only (chars text)) (chars other)
text_matches text other u v =
    let bytes = slice_eq-Decides Decides-eqb other text (pointwise nat_eq other text) refl in
    let same = slice_eq-Decides Decides-eqb (chars other) (chars text) (pointwise nat_eq (chars other) (chars text)) refl in
    let read = Decides-like (pointwise nat_eq (chars other) (chars text)) (λ e. sym (encodes-chars other v) ∙ ap encode_utf8_all e ∙ encodes-chars text u) (λ e. ap chars e) same in
    same_from_decides _ _ bytes read ∙ sym (own_matches (chars text) (chars other))
