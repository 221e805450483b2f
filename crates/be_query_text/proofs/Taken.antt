-- What one step takes from the front of a text.
use Rattle.std.proofs.Common.{◌≡◌, ℕ, ◌+◌, ◌-◌, ◌<◌, ◌≤◌, true, false, Option, Some, None, List, [], ◌∷◌, ◌++◌, length, take, drop, get_or, ◌||◌, refl, sym, ap, ◌∙◌, arith, length-take-le, length-drop}
use Rattle.std.specs.Bool.{◌==◌}
use Rattle.std.specs.Prelude.{slice_get}
use Rattle.std.proofs.lemmas.List.{drop-drop}
use Rattle.be_query.specs.Lexing.{Lexeme, Whole, Broken, Odd, Takes, is_separator, is_quote, is_sign, all_whole, word_span, quoted_span, word_front, quoted_front}
use Rattle.be_query.specs.Tokens.{Token, Text}
use Rattle.be_query.specs.View.{HasLexeme, second_of}
use Rattle.be_query.proofs.Loop.{taken, taken_shorter, separated, separated_shorter, is_there}
use Rattle.be_query.proofs.Fronts.{sign_at, second_byte, begins_separated, split_first, front_at, front_word, front_quoted}
use Rattle.be_query_text.specs.Places.{pieces, pieces_of}
use Rattle.be_query_text.specs.Steps.{SignIs, left, GoesOn, token_of}
use Rattle.be_query_text.specs.declared.places.Piece as code
use Rattle.be_query_text.specs.declared.places.Sign.{Sign}

-- The pieces of the rest are these, followed by the pieces of `beyond`.
abbrev pub Leaves : ℕ → List ℕ → List code.Piece → List ℕ → Type 0
Leaves total rest taken beyond = (pieces (left total rest) ≡ taken ++ pieces (left total beyond)) × GoesOn total rest beyond

-- A token was taken.
pub token_taken : (total : ℕ) (rest beyond : List ℕ) (t : Token) (width shift : ℕ) → HasLexeme rest (Whole t) width shift → beyond ≡ drop width rest → 1 ≤ width → width ≤ length rest → length rest ≤ total
    → Leaves total rest (pieces_of (total - length rest) (total - length rest + shift) t) beyond
token_taken total rest beyond t width shift h r p w k =
    let e = taken rest beyond total width shift (Whole t) h r p w k in
    (ap pieces e, (ap all_whole e, taken_shorter rest beyond width r p w))

-- A separator was passed.
pub separator_passed : (total : ℕ) (rest beyond : List ℕ) → 0 < length rest → is_separator (get_or rest 0 0) ≡ true → beyond ≡ drop 1 rest → length rest ≤ total → Leaves total rest [] beyond
separator_passed total rest beyond l s d k =
    let b = begins_separated rest beyond l s d in
    let e = separated rest beyond total b k in
    (ap pieces e, (ap all_whole e, separated_shorter rest beyond b))

-- A query contains no name or value that is cut off, and nothing that isn't a token.
pub breaks_off : (total : ℕ) (rest : List ℕ) (n width : ℕ) → HasLexeme rest (Broken n) width 0 → all_whole (left total rest) ≡ false
breaks_off total rest n width h = ap all_whole (is_there rest (total - length rest) width 0 (Broken n) h).1

pub is_odd : (total : ℕ) (rest : List ℕ) (width : ℕ) → HasLexeme rest Odd width 0 → all_whole (left total rest) ≡ false
is_odd total rest width h = ap all_whole (is_there rest (total - length rest) width 0 Odd h).1

take_one_le : (xs : List ℕ) → length (take 1 xs) ≤ length xs
take_one_le [] = omega arith
take_one_le (x ∷ xs) = omega arith

drop_one : (xs : List ℕ) → 0 < length xs → length (drop 1 xs) + 1 ≡ length xs
drop_one [] h = absurd (omega arith)
drop_one (x ∷ xs) h = omega arith

pub sign_within : (rest : List ℕ) (second : Option ℕ) (width : ℕ) → 0 < length rest → second ≡ slice_get rest 1 → width ≤ 1 + length (second_of second) → width ≤ length rest
sign_within rest second width l e w =
    let two : length (second_of second) ≡ length (take 1 (drop 1 rest)) = ap (λ o. length (second_of o)) e ∙ ap length (second_byte rest) in
    let cut = take_one_le (drop 1 rest) in
    let one = drop_one rest l in
    omega arith

pub sign_taken : (total : ℕ) (rest beyond : List ℕ) (first : ℕ) (second : Option ℕ) (s : Sign) (width : ℕ) → 0 < length rest → get_or rest 0 0 ≡ first → second ≡ slice_get rest 1
    → is_separator first ≡ false → is_quote first ≡ false → (is_sign first || (first == 0)) ≡ true → SignIs first second (Some (s, width)) → beyond ≡ drop width rest → length rest ≤ total
    → Leaves total rest (pieces_of (total - length rest) (total - length rest + 0) (token_of s)) beyond
sign_taken total rest beyond first second s width l f e h q g p d k =
    token_taken total rest beyond (token_of s) width 0 (sign_at rest first second (Whole (token_of s)) width l f e h q g p.0) d p.1 (sign_within rest second width l e p.2) k

pub no_sign_taken : (total : ℕ) (rest : List ℕ) (first : ℕ) (second : Option ℕ) → 0 < length rest → get_or rest 0 0 ≡ first → second ≡ slice_get rest 1
    → is_separator first ≡ false → is_quote first ≡ false → (is_sign first || (first == 0)) ≡ true → SignIs first second None → all_whole (left total rest) ≡ false
no_sign_taken total rest first second l f e h q g p = is_odd total rest 1 (sign_at rest first second Odd 1 l f e h q g (p g))

-- A piece that is a name or a value.
abbrev pub text_piece : ℕ → ℕ → ℕ → ℕ → code.Piece
text_piece at start stop end = code.TheVariants.Text (record { at = at; start = start; stop = stop; end = end })

same_piece : (at start begin stop last end beyond : ℕ) → start ≡ begin → stop ≡ last → end ≡ beyond → text_piece at start stop end ≡ text_piece at begin last beyond
same_piece at start begin stop last end beyond e k h = λ i. code.TheVariants.Text (record { at = at; start = e i; stop = k i; end = h i })

retaken : (total : ℕ) (rest beyond : List ℕ) (p q : code.Piece) → p ≡ q → Leaves total rest (p ∷ []) beyond → Leaves total rest (q ∷ []) beyond
retaken total rest beyond p q e h = (h.0 ∙ ap (λ x. x ∷ pieces (left total beyond)) e, h.1)

word_lexeme : (rest : List ℕ) (x : Lexeme) (width : ℕ) → 0 < length rest → is_separator (get_or rest 0 0) ≡ false → is_quote (get_or rest 0 0) ≡ false → is_sign (get_or rest 0 0) ≡ false → (get_or rest 0 0 == 0) ≡ false
    → word_front rest (word_span false rest) ≡ Takes x width 0 → HasLexeme rest x width 0
word_lexeme rest x width l h q g z f =
    let whole = split_first rest l in
    front_at rest x width 0 l (front_word (get_or rest 0 0) (drop 1 rest) (word_span false rest) h q g z (ap (word_span false) whole) ∙ ap (λ v. word_front v (word_span false rest)) (sym whole) ∙ f)

pub word_taken : (total : ℕ) (rest beyond : List ℕ) (n : ℕ) → length rest ≤ total → 0 < length rest → is_separator (get_or rest 0 0) ≡ false → is_quote (get_or rest 0 0) ≡ false → is_sign (get_or rest 0 0) ≡ false → (get_or rest 0 0 == 0) ≡ false
    → word_front rest (word_span false rest) ≡ Takes (Whole (Text (take n rest))) n 0 → 1 ≤ n → n ≤ length rest → beyond ≡ drop n rest → Leaves total rest (text_piece (total - length rest) (total - length rest) (total - length beyond) (total - length beyond) ∷ []) beyond
word_taken total rest beyond n k l h q g z f o w d =
    let at = total - length rest in
    let cut : length (take n rest) ≡ n = length-take-le n rest w in
    let back : length beyond ≡ length rest - n = ap length d ∙ length-drop n rest in
    let stop : at + 0 + length (take n rest) ≡ total - length beyond = omega arith in
    let end : at + 0 + length (take n rest) + (at + 0 - at) ≡ total - length beyond = omega arith in
    retaken total rest beyond _ _ (same_piece at (at + 0) at (at + 0 + length (take n rest)) (total - length beyond) (at + 0 + length (take n rest) + (at + 0 - at)) (total - length beyond) (omega arith) stop end)
    (token_taken total rest beyond (Text (take n rest)) n 0 (word_lexeme rest _ n l h q g z f) d o w k)

pub word_stuck : (total : ℕ) (rest : List ℕ) (n : ℕ) → 0 < length rest → is_separator (get_or rest 0 0) ≡ false → is_quote (get_or rest 0 0) ≡ false → is_sign (get_or rest 0 0) ≡ false → (get_or rest 0 0 == 0) ≡ false
    → word_front rest (word_span false rest) ≡ Takes (Broken n) 1 0 → all_whole (left total rest) ≡ false
word_stuck total rest n l h q g z f = breaks_off total rest n 1 (word_lexeme rest (Broken n) 1 l h q g z f)

quoted_lexeme : (rest inside : List ℕ) (quote : ℕ) (x : Lexeme) (width shift : ℕ) → 0 < length rest → is_separator (get_or rest 0 0) ≡ false → is_quote (get_or rest 0 0) ≡ true → get_or rest 0 0 ≡ quote → inside ≡ drop 1 rest
    → quoted_front inside (quoted_span quote false inside) ≡ Takes x width shift → HasLexeme rest x width shift
quoted_lexeme rest inside quote x width shift l h q e i f =
    let span : quoted_span quote false inside ≡ quoted_span (get_or rest 0 0) false (drop 1 rest) = ap (quoted_span quote false) i ∙ ap (λ v. quoted_span v false (drop 1 rest)) (sym e) in
    front_at rest x width shift l (front_quoted (get_or rest 0 0) (drop 1 rest) (quoted_span quote false inside) h q span ∙ ap (λ v. quoted_front v (quoted_span quote false inside)) (sym i) ∙ f)

pub quoted_taken : (total : ℕ) (rest inside tail beyond : List ℕ) (quote n : ℕ) → length rest ≤ total → 0 < length rest → is_separator (get_or rest 0 0) ≡ false → is_quote (get_or rest 0 0) ≡ true → get_or rest 0 0 ≡ quote
    → inside ≡ drop 1 rest → quoted_front inside (quoted_span quote false inside) ≡ Takes (Whole (Text (take n inside))) (n + 2) 1 → n < length inside → tail ≡ drop n inside → beyond ≡ drop 1 tail
    → Leaves total rest (text_piece (total - length rest) (total - length rest + 1) (total - length tail) (total - length beyond) ∷ []) beyond
quoted_taken total rest inside tail beyond quote n k l h q e i f w d t =
    let at = total - length rest in
    let cut : length (take n inside) ≡ n = length-take-le n inside (omega arith) in
    let one : length inside ≡ length rest - 1 = ap length i ∙ length-drop 1 rest in
    let two : length tail ≡ length inside - n = ap length d ∙ length-drop n inside in
    let three : length beyond ≡ length tail - 1 = ap length t ∙ length-drop 1 tail in
    let stop : at + 1 + length (take n inside) ≡ total - length tail = omega arith in
    let end : at + 1 + length (take n inside) + (at + 1 - at) ≡ total - length beyond = omega arith in
    let order : 1 + n + 1 ≡ n + 2 = omega arith in
    let cut_off : beyond ≡ drop (n + 2) rest = t ∙ ap (drop 1) (d ∙ ap (drop n) i ∙ drop-drop n 1 rest) ∙ drop-drop 1 (1 + n) rest ∙ ap (λ m. drop m rest) order in
    retaken total rest beyond _ _ (same_piece at (at + 1) (at + 1) (at + 1 + length (take n inside)) (total - length tail) (at + 1 + length (take n inside) + (at + 1 - at)) (total - length beyond) refl stop end)
    (token_taken total rest beyond (Text (take n inside)) (n + 2) 1 (quoted_lexeme rest inside quote _ (n + 2) 1 l h q e i f) cut_off (omega arith) (omega arith) k)

pub quoted_stuck : (total : ℕ) (rest inside : List ℕ) (quote n : ℕ) → 0 < length rest → is_separator (get_or rest 0 0) ≡ false → is_quote (get_or rest 0 0) ≡ true → get_or rest 0 0 ≡ quote → inside ≡ drop 1 rest
    → quoted_front inside (quoted_span quote false inside) ≡ Takes (Broken n) 1 0 → all_whole (left total rest) ≡ false
quoted_stuck total rest inside quote n l h q e i f = breaks_off total rest n 1 (quoted_lexeme rest inside quote (Broken n) 1 0 l h q e i f)
