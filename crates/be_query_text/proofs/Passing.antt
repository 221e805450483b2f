-- Bytes that are one token, in quotes or not. If a word or a quoted string ends after n bytes, this
-- is written as `shifted n` of the end of an empty word.
use Rattle.std.proofs.Common.{◌≡◌, ℕ, ◌+◌, ◌<◌, ◌≤◌, Bool, true, false, suc, List, [], ◌∷◌, ◌++◌, length, take, get_or, ◌||◌, refl, sym, ap, ◌∙◌, subst, arith, append_assoc, append-nil, length-append}
use Rattle.std.specs.Prelude.{encode_utf8, not}
use Rattle.std.specs.Bool.{◌==◌}
use Rattle.std.proofs.Math.Logic.{⊎_elim}
use Rattle.std.proofs.lemmas.Bool.{true≢false, cond-true, cond-false, cases_Bool, or_parts, eqb-true, eq-eqb, ne_eqb, cases_lt, or_cases}
use Rattle.std.proofs.lemmas.Str.{inside_one}
use Rattle.be_query.specs.Lexing.{Takes, Whole, further, front, is_separator, is_quote, is_sign, is_word, quoted_span, word_span}
use Rattle.be_query.specs.Tokens.{Text}
use Rattle.be_query.proofs.Spans.{shifted}
use Rattle.be_query.proofs.Fronts.{front_quoted, word_ascii, front_word}
use Rattle.be_query_text.specs.Encoded.{EndsWord, IsOneToken}

moved : (m n : ℕ) → m ≡ n → shifted m (word_span false []) ≡ shifted n (word_span false [])
moved m n e = ap (λ k. shifted k (word_span false [])) e

one_more : (n : ℕ) → further (shifted n (word_span false [])) ≡ shifted (1 + n) (word_span false [])
one_more n = let same : n + 0 + 1 ≡ 1 + n + 0 = omega arith in cc

-- The bytes are passed as a whole, both in quotes and in a word, and can begin a word.
pub record Passes (xs : List ℕ) : Type 0 where
  pub quoted : (q : ℕ) (bs : List ℕ) (n : ℕ) → is_quote q ≡ true → quoted_span q false bs ≡ shifted n (word_span false []) → quoted_span q false (xs ++ bs) ≡ shifted (length xs + n) (word_span false [])
  pub word : (bs : List ℕ) (n : ℕ) → word_span false bs ≡ shifted n (word_span false []) → word_span false (xs ++ bs) ≡ shifted (length xs + n) (word_span false [])
  pub first : (b : ℕ) (bs : List ℕ) → xs ≡ b ∷ bs → is_word b ≡ true

pub none_passes : Passes []
none_passes = record {
  quoted = λ q bs n h e. e ∙ moved n (0 + n) (omega arith);
  word = λ bs n e. e ∙ moved n (0 + n) (omega arith);
  first = λ b bs e. cc;
}

first_of : (xs ys : List ℕ) → Passes xs → Passes ys → (b : ℕ) (bs : List ℕ) → xs ++ ys ≡ b ∷ bs → is_word b ≡ true
first_of [] ys h k b bs e = k.first b bs e
first_of (x ∷ xs) ys h k b bs e = let same : b ≡ x = cc in ap is_word same ∙ h.first x xs refl

pub both_pass : (xs ys : List ℕ) → Passes xs → Passes ys → Passes (xs ++ ys)
both_pass xs ys h k = record {
  quoted = λ q bs n e f.
      let both : length xs + (length ys + n) ≡ length (xs ++ ys) + n = omega (arith, length-append xs ys) in
      ap (quoted_span q false) (append_assoc xs ys bs) ∙ h.quoted q (ys ++ bs) (length ys + n) e (k.quoted q bs n e f) ∙ moved (length xs + (length ys + n)) (length (xs ++ ys) + n) both;
  word = λ bs n f.
      let both : length xs + (length ys + n) ≡ length (xs ++ ys) + n = omega (arith, length-append xs ys) in
      ap (word_span false) (append_assoc xs ys bs) ∙ h.word (ys ++ bs) (length ys + n) (k.word bs n f) ∙ moved (length xs + (length ys + n)) (length (xs ++ ys) + n) both;
  first = λ b bs e. first_of xs ys h k b bs e;
}

-- The byte can be in a word, and isn't a backslash.
abbrev pub IsBare : ℕ → Type 0
IsBare b = (is_word b ≡ true) × ((b == 92) ≡ false)

not_true : (x : Bool) → not x ≡ true → x ≡ false
not_true true h = absurd (true≢false (sym h))
not_true false h = refl

-- What a byte of a word can't be.
pub record IsOfWord (b : ℕ) : Type 0 where
  pub separator : is_separator b ≡ false
  pub quote : is_quote b ≡ false
  pub sign : is_sign b ≡ false
  pub nul : (b == 0) ≡ false

pub word_byte : (b : ℕ) → is_word b ≡ true → IsOfWord b
word_byte b h =
    let p = or_parts ((is_separator b || is_quote b) || is_sign b) (b == 0) (not_true _ h) in
    let q = or_parts (is_separator b || is_quote b) (is_sign b) p.0 in
    let r = or_parts (is_separator b) (is_quote b) q.0 in
    record { separator = r.0; quote = r.1; sign = q.1; nul = p.1 }

not_the_quote : (b q : ℕ) → is_quote b ≡ false → is_quote q ≡ true → (b == q) ≡ false
not_the_quote b q h k = ne_eqb b q (λ e. true≢false (sym k ∙ ap is_quote (sym e) ∙ h))

lone_first : (b c : ℕ) (bs : List ℕ) → b ∷ [] ≡ c ∷ bs → is_word b ≡ true → is_word c ≡ true
lone_first b c bs e h = let same : c ≡ b = cc in ap is_word same ∙ h

pub byte_passes : (b : ℕ) → IsBare b → Passes (b ∷ [])
byte_passes b h =
    let w = word_byte b h.0 in
    record {
      quoted = λ q bs n e f. cond-false _ _ _ (not_the_quote b q w.quote e) ∙ cond-false _ _ _ w.nul ∙ cond-false _ _ _ h.1 ∙ ap further f ∙ one_more n;
      word = λ bs n f. cond-false _ _ _ h.1 ∙ cond-true _ _ _ h.0 ∙ ap further f ∙ one_more n;
      first = λ c bs e. lone_first b c bs e h.0;
    }

pub bare_pass : (xs : List ℕ) → ((k : ℕ) → k < length xs → IsBare (get_or xs k 0)) → Passes xs
bare_pass [] h = none_passes
bare_pass (x ∷ xs) h = both_pass (x ∷ []) xs (byte_passes x (h 0 (omega arith))) (bare_pass xs (λ k l. h (suc k) (omega arith)))

pair_first : (b c : ℕ) (bs : List ℕ) → 92 ∷ b ∷ [] ≡ c ∷ bs → is_word c ≡ true
pair_first b c bs e = let same : c ≡ 92 = cc in ap is_word same

-- A backslash and the byte that it escapes.
pub taken_passes : (b : ℕ) → (b == 0) ≡ false → Passes (92 ∷ b ∷ [])
taken_passes b h = record {
  quoted = λ q bs n e f. cond-false _ _ _ (not_the_quote 92 q refl e) ∙ ap further (cond-false _ _ _ h ∙ ap further f ∙ one_more n) ∙ one_more (1 + n) ∙ moved (1 + (1 + n)) (2 + n) (omega arith);
  word = λ bs n f. ap further (cond-false _ _ _ h ∙ ap further f ∙ one_more n) ∙ one_more (1 + n) ∙ moved (1 + (1 + n)) (2 + n) (omega arith);
  first = λ c bs e. pair_first b c bs e;
}

pub wide_bare : (b : ℕ) → 128 ≤ b → IsBare b
wide_bare b h = (⊎_elim (λ w. w) (λ w. let l = word_ascii b w in absurd (omega arith)) (cases_Bool (is_word b)), ne_eqb b 92 (λ e. omega arith))

byte_same : (c k : ℕ) → k < length (encode_utf8 c) → get_or (encode_utf8 c) k 0 < 128 → c ≡ get_or (encode_utf8 c) k 0
byte_same c k l w = inside_one c [] (encode_utf8 c) k (sym (append-nil (encode_utf8 c))) l w

-- The bytes of a character that can be in a word.
pub char_passes : (c : ℕ) → IsBare c → Passes (encode_utf8 c)
char_passes c h = bare_pass (encode_utf8 c) (λ k l. ⊎_elim (λ w. subst IsBare (byte_same c k l w) h) (wide_bare _) (cases_lt (get_or (encode_utf8 c) k 0) 128))

-- Whatever is passed is one token.

take_front : (xs ys : List ℕ) → take (length xs) (xs ++ ys) ≡ xs
take_front [] ys = refl
take_front (x ∷ xs) ys = ap (λ l. x ∷ l) (take_front xs ys)

quote_no_separator : (q : ℕ) → is_quote q ≡ true → is_separator q ≡ false
quote_no_separator q h = ⊎_elim (λ w. ap is_separator (eqb-true q 34 w)) (λ w. ap is_separator (eqb-true q 39 w)) (or_cases (q == 34) (q == 39) h)

ends_word : (rest : List ℕ) → EndsWord rest → word_span false rest ≡ shifted 0 (word_span false [])
ends_word [] h = refl
ends_word (b ∷ bs) h = cond-false _ _ _ (ne_eqb b 92 (λ e. true≢false (ap is_word (sym e) ∙ h))) ∙ cond-false _ _ _ h

quoted_token : (xs rest : List ℕ) (q : ℕ) → Passes xs → is_quote q ≡ true → front q (xs ++ q ∷ rest) ≡ Takes (Whole (Text xs)) (length xs + 2) 1
quoted_token xs rest q h e =
    let s = h.quoted q (q ∷ rest) 0 e (cond-true _ _ _ (eq-eqb q q refl)) in
    let n : length xs + 0 + 0 ≡ length xs = omega arith in
    front_quoted q (xs ++ q ∷ rest) (shifted (length xs + 0) (word_span false [])) (quote_no_separator q e) e (sym s)
    ∙ ap (λ k. Takes (Whole (Text (take k (xs ++ q ∷ rest)))) (k + 2) 1) n
    ∙ ap (λ l. Takes (Whole (Text l)) (length xs + 2) 1) (take_front xs (q ∷ rest))

word_token : (xs : List ℕ) (b : ℕ) (bs rest : List ℕ) → Passes xs → xs ≡ b ∷ bs → EndsWord rest → front b (bs ++ rest) ≡ Takes (Whole (Text xs)) (length xs) 0
word_token xs b bs rest h e k =
    let w = word_byte b (h.first b bs e) in
    let s = h.word rest 0 (ends_word rest k) in
    let whole : xs ++ rest ≡ b ∷ (bs ++ rest) = ap (λ l. l ++ rest) e in
    let n : length xs + 0 + 0 ≡ length xs = omega arith in
    front_word b (bs ++ rest) (shifted (length xs + 0) (word_span false [])) w.separator w.quote w.sign w.nul (sym s ∙ ap (word_span false) whole)
    ∙ ap (λ i. Takes (Whole (Text (take i (b ∷ (bs ++ rest))))) i 0) n
    ∙ ap (λ l. Takes (Whole (Text (take (length xs) l))) (length xs) 0) (sym whole)
    ∙ ap (λ l. Takes (Whole (Text l)) (length xs) 0) (take_front xs rest)

pub passed_token : (xs : List ℕ) → Passes xs → IsOneToken xs
passed_token xs h = record { quoted = λ q rest e. quoted_token xs rest q h e; word = λ b bs rest e k. word_token xs b bs rest h e k }
