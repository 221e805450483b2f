-- What a text begins with.
use Rattle.std.proofs.Common.{◌≡◌, ℕ, ◌+◌, ◌-◌, ◌<◌, ◌≤◌, Bool, true, false, zero, suc, Option, List, [], ◌∷◌, length, take, drop, get_or, ◌||◌, refl, sym, ap, ◌∙◌, subst, arith, cond, not}
use Rattle.std.specs.Bool.{◌==◌}
use Rattle.std.proofs.lemmas.Bool.{true≢false, cond-true, cond-false, cond_both, or_cases, or_parts, eqb-true}
use Rattle.std.proofs.Math.Logic.{⊎_elim}
use Rattle.std.proofs.Math.ListN.{length-drop}
use Rattle.std.proofs.Common.{length-take-le}
use Rattle.std.proofs.lemmas.List.{drop-drop}
use Rattle.std.specs.Str.{IsCharBoundary, IsUtf8}
use Rattle.std.proofs.lemmas.Str.{IsUtf8-drop, IsCharBoundary-after_ascii}
use Rattle.std.proofs.Common.{get_or-drop}
use Rattle.be_query.specs.declared.lexer.Span.{Span}
use Rattle.be_query.specs.declared.lexer.Span.TheVariants.{Ends, Breaks}
use Rattle.be_query.specs.Lexing.{further, is_separator, is_quote, is_sign, is_word, word_span, quoted_span, Lexeme, Whole, Broken, Takes, front, word_front, quoted_front}
use Rattle.be_query.specs.Tokens.{Token, Text}
use Rattle.be_query.specs.View.{HasLexeme, BeginsSeparated, text_len, second_of}
use Rattle.std.specs.Prelude.{slice_get}

is_at : (b n : ℕ) → n < 128 → (b == n) ≡ true → b < 128
is_at b n l h = let e = eqb-true b n h in omega arith

pub separator_ascii : (b : ℕ) → is_separator b ≡ true → b < 128
separator_ascii b h = ⊎_elim (λ k. ⊎_elim (λ l. ⊎_elim (is_at b 32 (omega arith)) (is_at b 9 (omega arith)) (or_cases _ _ l)) (is_at b 10 (omega arith)) (or_cases _ _ k)) (is_at b 13 (omega arith)) (or_cases _ _ h)

pub quote_ascii : (b : ℕ) → is_quote b ≡ true → b < 128
quote_ascii b h = ⊎_elim (is_at b 34 (omega arith)) (is_at b 39 (omega arith)) (or_cases _ _ h)

-- A quoted string ends at its closing quote.
abbrev pub IsQuotedSpan : ℕ → List ℕ → Span → Type 0
IsQuotedSpan q bs (Ends n) = (n < length bs) × (get_or bs n 0 ≡ q)
IsQuotedSpan q bs (Breaks n) = n ≤ length bs

further_quoted : (q b : ℕ) (bs : List ℕ) (s : Span) → IsQuotedSpan q bs s → IsQuotedSpan q (b ∷ bs) (further s)
further_quoted q b bs (Ends n) h = let one : n + 1 ≡ suc n = omega arith in (omega (arith, h.0), ap (λ k. get_or (b ∷ bs) k 0) one ∙ h.1)
further_quoted q b bs (Breaks n) h = omega (arith, h)

pub quoted_within : (q : ℕ) (escaped : Bool) (bs : List ℕ) → IsQuotedSpan q bs (quoted_span q escaped bs)
quoted_within q true [] = omega arith
quoted_within q false [] = omega arith
quoted_within q true (b ∷ bs) = cond_both (b == 0) (Breaks 0) (further (quoted_span q false bs)) (IsQuotedSpan q (b ∷ bs)) (λ e. omega arith) (λ e. further_quoted q b bs _ (quoted_within q false bs))
quoted_within q false (b ∷ bs) =
    cond_both (b == q) _ _ (IsQuotedSpan q (b ∷ bs)) (λ e. (omega arith, eqb-true b q e))
    (λ e. cond_both (b == 0) _ _ (IsQuotedSpan q (b ∷ bs)) (λ k. omega arith)
    (λ k. cond_both (b == 92) _ _ (IsQuotedSpan q (b ∷ bs)) (λ l. further_quoted q b bs _ (quoted_within q true bs)) (λ l. further_quoted q b bs _ (quoted_within q false bs))))

-- A word ends at the end of the text or before an ASCII character.
abbrev pub IsWordSpan : List ℕ → Span → Type 0
IsWordSpan bs (Ends n) = (n ≤ length bs) × (n < length bs → get_or bs n 0 < 128)
IsWordSpan bs (Breaks n) = n ≤ length bs

further_word : (b : ℕ) (bs : List ℕ) (s : Span) → IsWordSpan bs s → IsWordSpan (b ∷ bs) (further s)
further_word b bs (Ends n) h = let one : n + 1 ≡ suc n = omega arith in (omega (arith, h.0), λ k. subst (λ m. get_or (b ∷ bs) m 0 < 128) (sym one) (h.1 (omega arith)))
further_word b bs (Breaks n) h = omega (arith, h)

sign_ascii : (b : ℕ) → is_sign b ≡ true → b < 128
sign_ascii b h =
    ⊎_elim (λ h. ⊎_elim (λ h. ⊎_elim (λ h. ⊎_elim (λ h. ⊎_elim (λ h. ⊎_elim (λ h. ⊎_elim (is_at b 61 (omega arith)) (is_at b 33 (omega arith)) (or_cases _ _ h)) (is_at b 60 (omega arith)) (or_cases _ _ h)) (is_at b 62 (omega arith)) (or_cases _ _ h)) (is_at b 38 (omega arith)) (or_cases _ _ h)) (is_at b 124 (omega arith)) (or_cases _ _ h)) (is_at b 40 (omega arith)) (or_cases _ _ h)) (is_at b 41 (omega arith)) (or_cases _ _ h)

not_word : (x : Bool) → not x ≡ false → x ≡ true
not_word true h = refl
not_word false h = absurd (true≢false h)

pub word_ascii : (b : ℕ) → is_word b ≡ false → b < 128
word_ascii b h =
    ⊎_elim (λ k. ⊎_elim (λ l. ⊎_elim (separator_ascii b) (quote_ascii b) (or_cases _ _ l)) (sign_ascii b) (or_cases _ _ k)) (is_at b 0 (omega arith)) (or_cases _ _ (not_word _ h))

pub word_within : (escaped : Bool) (bs : List ℕ) → IsWordSpan bs (word_span escaped bs)
word_within true [] = omega arith
word_within false [] = (omega arith, λ h. absurd (omega arith))
word_within true (b ∷ bs) = cond_both (b == 0) (Breaks 0) (further (word_span false bs)) (IsWordSpan (b ∷ bs)) (λ e. omega arith) (λ e. further_word b bs _ (word_within false bs))
word_within false (b ∷ bs) =
    cond_both (b == 92) _ _ (IsWordSpan (b ∷ bs)) (λ e. further_word b bs _ (word_within true bs))
    (λ e. cond_both (is_word b) _ _ (IsWordSpan (b ∷ bs)) (λ k. further_word b bs _ (word_within false bs)) (λ k. (omega arith, λ l. word_ascii b k)))

abbrev pub IsSome1 : Span → Type 0
IsSome1 (Ends n) = 1 ≤ n
IsSome1 (Breaks n) = Unit {0}

further_some : (s : Span) → IsSome1 (further s)
further_some (Ends n) = omega arith
further_some (Breaks n) = tt

pub word_some : (b : ℕ) (bs : List ℕ) → is_word b ≡ true → IsSome1 (word_span false (b ∷ bs))
word_some b bs w = cond_both (b == 92) _ _ IsSome1 (λ e. further_some _) (λ e. subst IsSome1 (sym (cond-true _ _ _ w)) (further_some _))

pub front_at : (text : List ℕ) (x : Lexeme) (width shift : ℕ) → 0 < length text → front (get_or text 0 0) (drop 1 text) ≡ Takes x width shift → HasLexeme text x width shift
front_at [] x width shift l h = absurd (omega arith)
front_at (b ∷ bs) x width shift l h = h

pub begins_separated : (text rest : List ℕ) → 0 < length text → is_separator (get_or text 0 0) ≡ true → rest ≡ drop 1 text → BeginsSeparated text rest
begins_separated [] rest l h r = absurd (omega arith)
begins_separated (b ∷ bs) rest l h r = (cond-true _ _ _ h, r)

pub front_quoted : (b : ℕ) (bs : List ℕ) (s : Span) → is_separator b ≡ false → is_quote b ≡ true → s ≡ quoted_span b false bs → front b bs ≡ quoted_front bs s
front_quoted b bs s h q e = cond-false _ _ _ h ∙ cond-true _ _ _ q ∙ ap (quoted_front bs) (sym e)

pick : {X : Type 0} (a40 a41 a61 a33 a60 a62 a38 a124 a0 : Bool) (x1 x2 x3 x4 x5 x6 x7 x8 x9 z w : X) → ((((((((a61 || a33) || a60) || a62) || a38) || a124) || a40) || a41) || a0) ≡ true
    → cond a40 x1 (cond a41 x2 (cond a61 x3 (cond a33 x4 (cond a60 x5 (cond a62 x6 (cond a38 x7 (cond a124 x8 (cond a0 x9 z)))))))) ≡ cond a40 x1 (cond a41 x2 (cond a61 x3 (cond a33 x4 (cond a60 x5 (cond a62 x6 (cond a38 x7 (cond a124 x8 (cond a0 x9 w))))))))
pick true a41 a61 a33 a60 a62 a38 a124 a0 x1 x2 x3 x4 x5 x6 x7 x8 x9 z w h = refl
pick false true a61 a33 a60 a62 a38 a124 a0 x1 x2 x3 x4 x5 x6 x7 x8 x9 z w h = refl
pick false false true a33 a60 a62 a38 a124 a0 x1 x2 x3 x4 x5 x6 x7 x8 x9 z w h = refl
pick false false false true a60 a62 a38 a124 a0 x1 x2 x3 x4 x5 x6 x7 x8 x9 z w h = refl
pick false false false false true a62 a38 a124 a0 x1 x2 x3 x4 x5 x6 x7 x8 x9 z w h = refl
pick false false false false false true a38 a124 a0 x1 x2 x3 x4 x5 x6 x7 x8 x9 z w h = refl
pick false false false false false false true a124 a0 x1 x2 x3 x4 x5 x6 x7 x8 x9 z w h = refl
pick false false false false false false false true a0 x1 x2 x3 x4 x5 x6 x7 x8 x9 z w h = refl
pick false false false false false false false false true x1 x2 x3 x4 x5 x6 x7 x8 x9 z w h = refl
pick false false false false false false false false false x1 x2 x3 x4 x5 x6 x7 x8 x9 z w h = absurd (true≢false (sym h))

-- The meaning of a sign depends only on the byte after it.
pub front_sign : (b : ℕ) (bs : List ℕ) → is_separator b ≡ false → is_quote b ≡ false → (is_sign b || (b == 0)) ≡ true → front b bs ≡ front b (take 1 bs)
front_sign b [] h q s = refl
front_sign b (c ∷ cs) h q s =
    cond-false _ _ _ h ∙ cond-false _ _ _ q
    ∙ pick (b == 40) (b == 41) (b == 61) (b == 33) (b == 60) (b == 62) (b == 38) (b == 124) (b == 0) _ _ _ _ _ _ _ _ _ (word_front (b ∷ c ∷ cs) (word_span false (b ∷ c ∷ cs))) (word_front (b ∷ c ∷ []) (word_span false (b ∷ c ∷ []))) s
    ∙ sym (cond-false _ _ _ h ∙ cond-false _ _ _ q)

no_sign : (b : ℕ) → is_sign b ≡ false → ((b == 61) ≡ false) × ((b == 33) ≡ false) × ((b == 60) ≡ false) × ((b == 62) ≡ false) × ((b == 38) ≡ false) × ((b == 124) ≡ false) × ((b == 40) ≡ false) × ((b == 41) ≡ false)
no_sign b h =
    let p7 = or_parts _ _ h in
    let p6 = or_parts _ _ p7.0 in
    let p5 = or_parts _ _ p6.0 in
    let p4 = or_parts _ _ p5.0 in
    let p3 = or_parts _ _ p4.0 in
    let p2 = or_parts _ _ p3.0 in
    let p1 = or_parts _ _ p2.0 in
    (p1.0, p1.1, p2.1, p3.1, p4.1, p5.1, p6.1, p7.1)

pub front_word : (b : ℕ) (bs : List ℕ) (s : Span) → is_separator b ≡ false → is_quote b ≡ false → is_sign b ≡ false → (b == 0) ≡ false → s ≡ word_span false (b ∷ bs) → front b bs ≡ word_front (b ∷ bs) s
front_word b bs s h q g z e =
    let n = no_sign b g in
    cond-false _ _ _ h ∙ cond-false _ _ _ q ∙ cond-false _ _ _ n.6 ∙ cond-false _ _ _ n.7 ∙ cond-false _ _ _ n.0 ∙ cond-false _ _ _ n.1 ∙ cond-false _ _ _ n.2 ∙ cond-false _ _ _ n.3 ∙ cond-false _ _ _ n.4 ∙ cond-false _ _ _ n.5 ∙ cond-false _ _ _ z ∙ ap (word_front (b ∷ bs)) (sym e)

pub word_first : (b : ℕ) → is_separator b ≡ false → is_quote b ≡ false → is_sign b ≡ false → (b == 0) ≡ false → is_word b ≡ true
word_first b h q g z = ap not (ap (λ x. ((x || is_quote b) || is_sign b) || (b == 0)) h ∙ ap (λ x. (x || is_sign b) || (b == 0)) q ∙ ap (λ x. x || (b == 0)) g ∙ z)

pub split_first : (text : List ℕ) → 0 < length text → text ≡ get_or text 0 0 ∷ drop 1 text
split_first [] l = absurd (omega arith)
split_first (b ∷ bs) l = refl

pub word_span_some : (text : List ℕ) (n : ℕ) → 0 < length text → is_word (get_or text 0 0) ≡ true → Ends n ≡ word_span false text → 1 ≤ n
word_span_some [] n l w e = absurd (omega arith)
word_span_some (b ∷ bs) n l w e = subst IsSome1 (sym e) (word_some b bs w)

pub word_ends : (text : List ℕ) (n : ℕ) → Ends n ≡ word_span false text → (n ≤ length text) × (n < length text → get_or text n 0 < 128)
word_ends text n e = subst (IsWordSpan text) (sym e) (word_within false text)

pub word_breaks : (text : List ℕ) (n : ℕ) → Breaks n ≡ word_span false text → n ≤ length text
word_breaks text n e = subst (IsWordSpan text) (sym e) (word_within false text)

pub quoted_ends : (q : ℕ) (text : List ℕ) (n : ℕ) → Ends n ≡ quoted_span q false text → (n < length text) × (get_or text n 0 ≡ q)
quoted_ends q text n e = subst (IsQuotedSpan q text) (sym e) (quoted_within q false text)

pub quoted_breaks : (q : ℕ) (text : List ℕ) (n : ℕ) → Breaks n ≡ quoted_span q false text → n ≤ length text
quoted_breaks q text n e = subst (IsQuotedSpan q text) (sym e) (quoted_within q false text)

pub before_ascii : (text : List ℕ) (n : ℕ) → n ≤ length text → (n < length text → get_or text n 0 < 128) → IsCharBoundary text n
before_ascii text n w a = (w, λ l h. let k = a l in absurd (omega arith))

abbrev pub TokenAt : List ℕ → Token → ℕ → List ℕ → Type 0
TokenAt text t shift rest = (width : ℕ) × HasLexeme text (Whole t) width shift × (rest ≡ drop width text) × (1 ≤ width) × (width ≤ length text) × (shift + text_len t ≤ width)

module _ (text : List ℕ) (l : 0 < length text) (h : is_separator (get_or text 0 0) ≡ false) where
  word_at : (s : Span) → is_quote (get_or text 0 0) ≡ false → is_sign (get_or text 0 0) ≡ false → (get_or text 0 0 == 0) ≡ false → s ≡ word_span false text → front (get_or text 0 0) (drop 1 text) ≡ word_front text s
  word_at s q g z e = front_word (get_or text 0 0) (drop 1 text) s h q g z (e ∙ ap (word_span false) (split_first text l)) ∙ ap (λ v. word_front v s) (sym (split_first text l))

  pub word_token : (raw rest : List ℕ) (n : ℕ) → is_quote (get_or text 0 0) ≡ false → is_sign (get_or text 0 0) ≡ false → (get_or text 0 0 == 0) ≡ false → Ends n ≡ word_span false text → raw ≡ take n text → rest ≡ drop n text → TokenAt text (Text raw) 0 rest
  word_token raw rest n q g z e r d =
      let w = word_ends text n e in
      let len = ap length r ∙ length-take-le n text w.0 in
      (n, front_at text _ n 0 l (word_at (Ends n) q g z e ∙ ap (λ t. Takes (Whole (Text t)) n 0) (sym r)), d, word_span_some text n l (word_first _ h q g z) e, w.0, omega arith)

  pub word_broken : (n : ℕ) → is_quote (get_or text 0 0) ≡ false → is_sign (get_or text 0 0) ≡ false → (get_or text 0 0 == 0) ≡ false → Breaks n ≡ word_span false text → (width : ℕ) × HasLexeme text (Broken n) width 0 × (n ≤ length text)
  word_broken n q g z e = (1, front_at text _ 1 0 l (word_at (Breaks n) q g z e), word_breaks text n e)

  pub quoted_token : (q : ℕ) (beyond raw tail rest : List ℕ) (n : ℕ) → get_or text 0 0 ≡ q → is_quote (get_or text 0 0) ≡ true → beyond ≡ drop 1 text → Ends n ≡ quoted_span q false beyond → raw ≡ take n beyond → tail ≡ drop n beyond → rest ≡ drop 1 tail → TokenAt text (Text raw) 1 rest
  quoted_token q beyond raw tail rest n f k b e r d t =
      let w = quoted_ends q beyond n e in
      let lens : length beyond ≡ length text - 1 = ap length b ∙ length-drop 1 text in
      let len = ap length r ∙ length-take-le n beyond (omega arith) in
      let span : Ends n ≡ quoted_span (get_or text 0 0) false (drop 1 text) = e ∙ ap (quoted_span q false) b ∙ ap (λ v. quoted_span v false (drop 1 text)) (sym f) in
      let order : 1 + n + 1 ≡ n + 2 = omega arith in (
        n + 2,
        front_at text _ (n + 2) 1 l (front_quoted (get_or text 0 0) (drop 1 text) (Ends n) h k span ∙ ap (λ v. Takes (Whole (Text v)) (n + 2) 1) (ap (take n) (sym b) ∙ sym r)),
        t ∙ ap (drop 1) (d ∙ ap (drop n) b ∙ drop-drop n 1 text) ∙ drop-drop 1 (1 + n) text ∙ ap (λ m. drop m text) order,
        omega arith,
        omega arith,
        omega arith,
      )

  pub quoted_broken : (q : ℕ) (beyond : List ℕ) (n : ℕ) → get_or text 0 0 ≡ q → is_quote (get_or text 0 0) ≡ true → beyond ≡ drop 1 text → Breaks n ≡ quoted_span q false beyond → (width : ℕ) × HasLexeme text (Broken (n + 1)) width 0 × (n + 1 ≤ length text)
  quoted_broken q beyond n f k b e =
      let w = quoted_breaks q beyond n e in
      let lens : length beyond ≡ length text - 1 = ap length b ∙ length-drop 1 text in
      let span : Breaks n ≡ quoted_span (get_or text 0 0) false (drop 1 text) = e ∙ ap (quoted_span q false) b ∙ ap (λ v. quoted_span v false (drop 1 text)) (sym f) in
      (1, front_at text _ 1 0 l (front_quoted (get_or text 0 0) (drop 1 text) (Breaks n) h k span), omega arith)

pub tail_boundary : (q : ℕ) (beyond tail : List ℕ) (n : ℕ) → IsUtf8 beyond → q < 128 → Ends n ≡ quoted_span q false beyond → tail ≡ drop n beyond → IsCharBoundary tail 1
tail_boundary q beyond tail n u a e t =
    let w = quoted_ends q beyond n e in
    let ut = subst IsUtf8 (sym t) (IsUtf8-drop beyond n u (before_ascii beyond n (omega arith) (λ l. omega (arith, w.1)))) in
    let zero_more : n + 0 ≡ n = omega arith in
    let first : get_or tail 0 0 ≡ q = ap (λ l. get_or l 0 0) t ∙ get_or-drop n beyond 0 0 ∙ ap (λ k. get_or beyond k 0) zero_more ∙ w.1 in
    let len : length tail ≡ length beyond - n = ap length t ∙ length-drop n beyond in
    IsCharBoundary-after_ascii tail 0 ut (omega arith) (omega arith)

pub second_byte : (text : List ℕ) → second_of (slice_get text 1) ≡ take 1 (drop 1 text)
second_byte [] = refl
second_byte (b ∷ []) = refl
second_byte (b ∷ c ∷ cs) = refl

front_bytes : (text : List ℕ) (k : ℕ) → 0 < length text → k < 1 + length (take 1 (drop 1 text)) → get_or (get_or text 0 0 ∷ take 1 (drop 1 text)) k 0 ≡ get_or text k 0
front_bytes [] k l h = absurd (omega arith)
front_bytes (b ∷ bs) zero l h = refl
front_bytes (b ∷ []) (suc k) l h = absurd (omega arith)
front_bytes (b ∷ c ∷ cs) (suc zero) l h = refl
front_bytes (b ∷ c ∷ cs) (suc (suc k)) l h = absurd (omega arith)

take_one_le : (xs : List ℕ) → length (take 1 xs) ≤ length xs
take_one_le [] = omega arith
take_one_le (x ∷ xs) = omega arith

-- Where a sign ends.
pub sign_boundary : (text : List ℕ) (first width : ℕ) (second : Option ℕ) → IsUtf8 text → 0 < length text → get_or text 0 0 ≡ first → second ≡ slice_get text 1 → 1 ≤ width → width ≤ 1 + length (second_of second) → get_or (first ∷ second_of second) (width - 1) 0 < 128 → (width ≤ length text) × IsCharBoundary text width
sign_boundary text first width second u l f s p w a =
    let two : second_of second ≡ take 1 (drop 1 text) = ap second_of s ∙ second_byte text in
    let lens : length (second_of second) ≡ length (take 1 (drop 1 text)) = ap length two in
    let cut = take_one_le (drop 1 text) in
    let rest = length-drop 1 text in
    let within : width ≤ length text = omega arith in
    let byte : get_or (first ∷ second_of second) (width - 1) 0 ≡ get_or text (width - 1) 0 =
    ap (λ v. get_or (v ∷ second_of second) (width - 1) 0) (sym f) ∙ ap (λ v. get_or (get_or text 0 0 ∷ v) (width - 1) 0) two ∙ front_bytes text (width - 1) l (omega arith) in
    let back : width - 1 + 1 ≡ width = omega arith in
    (within, subst (IsCharBoundary text) back (IsCharBoundary-after_ascii text (width - 1) u (omega arith) (omega arith)))

pub sign_at : (text : List ℕ) (first : ℕ) (second : Option ℕ) (x : Lexeme) (width : ℕ) → 0 < length text → get_or text 0 0 ≡ first → second ≡ slice_get text 1 → is_separator first ≡ false → is_quote first ≡ false → (is_sign first || (first == 0)) ≡ true → front first (second_of second) ≡ Takes x width 0 → HasLexeme text x width 0
sign_at text first second x width l f s h q g e = front_at text x width 0 l
    (ap (λ b. front b (drop 1 text)) f ∙ front_sign first (drop 1 text) h q g ∙ ap (front first) (sym (ap second_of s ∙ second_byte text)) ∙ e)
