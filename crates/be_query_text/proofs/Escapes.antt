-- An escaped string is read back.
use Rattle.std.proofs.Common.{◌≡◌, ℕ, ◌+◌, ◌<◌, Bool, true, false, suc, None, Ok, List, [], ◌∷◌, ◌++◌, length, map, get_or, ◌||◌, refl, sym, ap, ◌∙◌, subst, arith, append-nil, IsUtf8}
use Rattle.std.specs.Prelude.{encode_utf8, encode_utf8_all, not}
use Rattle.std.specs.Bool.{◌==◌}
use Rattle.std.specs.Char.{len_utf8}
use Rattle.std.specs.Str.{chars, all_scalars}
use Rattle.std.proofs.Math.Logic.{⊎_elim}
use Rattle.std.proofs.lemmas.Bool.{true≢false, cond-true, cond-false, cond_both, cases_Bool, and_left, and_right, and_parts, and_from, or_parts, or_from, or_cases, eqb-true, eq-eqb}
use Rattle.std.proofs.lemmas.Str.{inside_one, encode_ascii, encodes-append, encodes-chars, chars-encodes, scalars-chars}
use Rattle.be_pattern.specs.Match.{Only}
use Rattle.be_pattern.specs.Parse.{Letter, letters, ending_backslash, is_bare, and_then, parts_after, pattern}
use Rattle.be_pattern.proofs.Tokens.{one_token, pattern_read, token_only}
use Rattle.be_query.specs.Lexing.{is_separator, is_quote, is_sign}
use Rattle.be_query.specs.Tokens.{plain}
use Rattle.be_query.proofs.Fronts.{word_ascii}
use Rattle.be_query.proofs.Plain.{plain_one}
use Rattle.be_value.specs.Name.{has_nul}
use Rattle.be_query_text.specs.Encoded.{Encodes, escaped, escaped_char, is_special}
use Rattle.be_query_text.proofs.Passing.{Passes, none_passes, both_pass, byte_passes, taken_passes, passed_token, IsBare}

-- Special characters.

is_at : (b n : ℕ) → n < 128 → (b == n) ≡ true → b < 128
is_at b n l h = let e = eqb-true b n h in omega arith

pub special_ascii : (b : ℕ) → is_special b ≡ true → b < 128
special_ascii b h =
    ⊎_elim (λ h3. ⊎_elim (λ h2. ⊎_elim (λ h1. ⊎_elim
    (λ k. word_ascii b (ap (λ x. not (x || (b == 0))) k))
    (is_at b 92 (omega arith)) (or_cases _ _ h1))
    (is_at b 42 (omega arith)) (or_cases _ _ h2))
    (is_at b 63 (omega arith)) (or_cases _ _ h3))
    (is_at b 91 (omega arith)) (or_cases _ _ h)

-- What holds for a character that needs no backslash.
pub plain_parts : (c : ℕ) → is_special c ≡ false → (((is_separator c || is_quote c) || is_sign c) ≡ false) × ((c == 92) ≡ false) × ((c == 42) ≡ false) × ((c == 63) ≡ false) × ((c == 91) ≡ false)
plain_parts c h =
    let p3 = or_parts _ _ h in
    let p2 = or_parts _ _ p3.0 in
    let p1 = or_parts _ _ p2.0 in
    let p0 = or_parts _ _ p1.0 in
    (p0.0, p0.1, p1.1, p2.1, p3.1)

pub plain_bare : (c : ℕ) → is_special c ≡ false → (c == 0) ≡ false → IsBare c
plain_bare c h z =
    let p = plain_parts c h in
    (ap not (or_from _ _ p.0 z), p.1)

-- Bytes and characters.

escaped_none : (xs bs : List ℕ) → ((k : ℕ) → k < length xs → is_special (get_or xs k 0) ≡ false) → escaped (xs ++ bs) ≡ xs ++ escaped bs
escaped_none [] bs h = refl
escaped_none (x ∷ xs) bs h = ap (λ l. l ++ escaped (xs ++ bs)) (cond-false (is_special x) (92 ∷ x ∷ []) (x ∷ []) (h 0 (omega arith))) ∙ ap (λ l. x ∷ l) (escaped_none xs bs (λ k l. h (suc k) (omega arith)))

byte_special : (c k : ℕ) → k < length (encode_utf8 c) → is_special c ≡ false → is_special (get_or (encode_utf8 c) k 0) ≡ false
byte_special c k l h = ⊎_elim
    (λ w. let same = inside_one c [] (encode_utf8 c) k (sym (append-nil (encode_utf8 c))) l (special_ascii _ w) in absurd (true≢false (sym (ap is_special same ∙ w) ∙ h)))
    (λ w. w)
    (cases_Bool (is_special (get_or (encode_utf8 c) k 0)))

char_escaped : (c : ℕ) (after : List ℕ) → escaped (encode_utf8 c ++ after) ≡ encode_utf8_all (escaped_char c) ++ escaped after
char_escaped c after = ⊎_elim
    (λ w.
    let one = encode_ascii c (special_ascii c w) in
    let slash = encode_ascii 92 (omega arith) in
    let mark = cond-true (is_special c) (92 ∷ c ∷ []) (c ∷ []) w in
    let two : encode_utf8_all (escaped_char c) ≡ 92 ∷ c ∷ [] = ap encode_utf8_all mark ∙ (λ i. slash i ++ (one i ++ [])) in
    ap (λ l. escaped (l ++ after)) one ∙ ap (λ l. l ++ escaped after) (mark ∙ sym two))
    (λ w.
    let mark = cond-false (is_special c) (92 ∷ c ∷ []) (c ∷ []) w in
    let own : encode_utf8_all (escaped_char c) ≡ encode_utf8 c = ap encode_utf8_all mark ∙ append-nil (encode_utf8 c) in
    escaped_none (encode_utf8 c) after (λ k l. byte_special c k l w) ∙ ap (λ l. l ++ escaped after) (sym own))
    (cases_Bool (is_special c))

pub bytes_escaped : (cs : List ℕ) → escaped (encode_utf8_all cs) ≡ encode_utf8_all (escaped cs)
bytes_escaped [] = refl
bytes_escaped (c ∷ cs) = char_escaped c (encode_utf8_all cs) ∙ ap (λ l. encode_utf8_all (escaped_char c) ++ l) (bytes_escaped cs) ∙ sym (encodes-append (escaped_char c) (escaped cs))

-- The bytes are a token, and reading them yields the string.

pub byte_escapes : (b : ℕ) → (b == 0) ≡ false → Passes (escaped_char b)
byte_escapes b z = cond_both (is_special b) (92 ∷ b ∷ []) (b ∷ []) Passes (λ w. taken_passes b z) (λ w. byte_passes b (plain_bare b w z))

pub escaped_passes : (bs : List ℕ) → has_nul bs ≡ false → Passes (escaped bs)
escaped_passes [] h = none_passes
escaped_passes (b ∷ bs) h =
    let p = or_parts (b == 0) (has_nul bs) h in
    both_pass (escaped_char b) (escaped bs) (byte_escapes b p.0) (escaped_passes bs p.1)

escaped_plain : (bs : List ℕ) → plain (escaped bs) ≡ bs
escaped_plain [] = refl
escaped_plain (b ∷ bs) = ⊎_elim
    (λ w. ap (λ l. plain (l ++ escaped bs)) (cond-true (is_special b) (92 ∷ b ∷ []) (b ∷ []) w) ∙ ap (λ l. b ∷ l) (escaped_plain bs))
    (λ w. ap (λ l. plain (l ++ escaped bs)) (cond-false (is_special b) (92 ∷ b ∷ []) (b ∷ []) w)
    ∙ plain_one b (escaped bs) (λ e. true≢false (sym (eq-eqb b 92 e) ∙ (plain_parts b w).1))
    ∙ ap (λ l. b ∷ l) (escaped_plain bs))
    (cases_Bool (is_special b))

-- The characters are literal tokens of a pattern.

pub char_letter : (c at : ℕ) (cs : List ℕ) → (next : ℕ) × (letters false at (escaped_char c ++ cs) ≡ record { at = at; escaped = is_special c; char = c } ∷ letters false next cs)
char_letter c at cs = ⊎_elim
    (λ w. (
      at + 1 + len_utf8 c,
      ap (λ l. letters false at (l ++ cs)) (cond-true (is_special c) (92 ∷ c ∷ []) (c ∷ []) w) ∙ ap (λ b. record { at = at; escaped = b; char = c } ∷ letters false (at + 1 + len_utf8 c) cs) (sym w),
    ))
    (λ w. (
      at + len_utf8 c,
      ap (λ l. letters false at (l ++ cs)) (cond-false (is_special c) (92 ∷ c ∷ []) (c ∷ []) w) ∙ cond-false _ _ _ (plain_parts c w).1 ∙ ap (λ b. record { at = at; escaped = b; char = c } ∷ letters false (at + len_utf8 c) cs) (sym w),
    ))
    (cases_Bool (is_special c))

not_bare : (d c at : ℕ) (mark : Bool) → (mark ≡ false → (c == d) ≡ false) → is_bare d (record { at = at; escaped = mark; char = c }) ≡ false
not_bare d c at true h = and_right _ _ refl
not_bare d c at false h = and_left _ _ (h refl)

pub char_read : (c at : ℕ) (cs : List ℕ) → (next : ℕ) × (parts_after 0 (letters false at (escaped_char c ++ cs)) ≡ and_then (Only c) (parts_after 0 (letters false next cs)))
char_read c at cs =
    let w = char_letter c at cs in
    let l : Letter = record { at = at; escaped = is_special c; char = c } in (
      w.0,
      ap (parts_after 0) w.1
          ∙ one_token l (letters false w.0 cs) (letters false w.0 cs) (Only c)
          (token_only l (letters false w.0 cs)
          (not_bare 42 c at (is_special c) (λ k. (plain_parts c k).2))
          (not_bare 63 c at (is_special c) (λ k. (plain_parts c k).3))
          (not_bare 91 c at (is_special c) (λ k. (plain_parts c k).4))),
    )

pub char_ends : (c at : ℕ) (cs : List ℕ) → (next : ℕ) × (ending_backslash false at (escaped_char c ++ cs) ≡ ending_backslash false next cs)
char_ends c at cs = ⊎_elim
    (λ w. (at + 1 + len_utf8 c, ap (λ l. ending_backslash false at (l ++ cs)) (cond-true (is_special c) (92 ∷ c ∷ []) (c ∷ []) w)))
    (λ w. (at + len_utf8 c, ap (λ l. ending_backslash false at (l ++ cs)) (cond-false (is_special c) (92 ∷ c ∷ []) (c ∷ []) w) ∙ cond-false _ _ _ (plain_parts c w).1))
    (cases_Bool (is_special c))

chars_read : (cs : List ℕ) (at : ℕ) → parts_after 0 (letters false at (escaped cs)) ≡ Ok (map Only cs)
chars_read [] at = refl
chars_read (c ∷ cs) at = let w = char_read c at (escaped cs) in w.1 ∙ ap (and_then (Only c)) (chars_read cs w.0)

chars_end : (cs : List ℕ) (at : ℕ) → ending_backslash false at (escaped cs) ≡ None
chars_end [] at = refl
chars_end (c ∷ cs) at = let w = char_ends c at (escaped cs) in w.1 ∙ chars_end cs w.0

escaped_pattern : (cs : List ℕ) → pattern (escaped cs) ≡ Ok (map Only cs)
escaped_pattern cs = pattern_read (escaped cs) (chars_end cs 0) ∙ chars_read cs 0

pub char_scalars : (c : ℕ) (cs : List ℕ) → all_scalars (c ∷ []) ≡ true → all_scalars cs ≡ true → all_scalars (escaped_char c ++ cs) ≡ true
char_scalars c cs h k =
    let s = and_parts _ _ h in
    cond_both (is_special c) (92 ∷ c ∷ []) (c ∷ []) (λ l. all_scalars (l ++ cs) ≡ true) (λ w. and_from _ _ s.0 k) (λ w. and_from _ _ s.0 k)

escaped_scalars : (cs : List ℕ) → all_scalars cs ≡ true → all_scalars (escaped cs) ≡ true
escaped_scalars [] h = refl
escaped_scalars (c ∷ cs) h = let p = and_parts _ _ h in char_scalars c (escaped cs) (and_from _ _ p.0 refl) (escaped_scalars cs p.1)

-- The bytes encode the string.
pub encoded : (bytes text : List ℕ) → IsUtf8 text → bytes ≡ encode_utf8_all (escaped (chars text)) → has_nul text ≡ false → Encodes bytes text
encoded bytes text u e z =
    let same : bytes ≡ escaped text = e ∙ sym (bytes_escaped (chars text)) ∙ ap escaped (encodes-chars text u) in
    let read : chars bytes ≡ escaped (chars text) = ap chars e ∙ chars-encodes (escaped (chars text)) (escaped_scalars (chars text) (scalars-chars text u)) in
    record {
      token = passed_token bytes (subst Passes (sym same) (escaped_passes text z));
      exact = ap plain same ∙ escaped_plain text;
      literal = ap pattern read ∙ escaped_pattern (chars text);
    }
