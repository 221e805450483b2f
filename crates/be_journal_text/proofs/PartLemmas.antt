-- The end of each part of a printed line.
use Rattle.std.proofs.Common.{◌≡◌, ◌≢◌, ◌↔◌, ℕ, suc, ◌+◌, ◌<◌, Bool, true, false, not, ◌&&◌, All, List, [], ◌∷◌, ◌++◌, length, get_or, nat_eq, nat_le, if◌then◌else◌, refl, sym, ap, ◌∙◌, subst, arith, zero-add}
use Rattle.std.proofs.lemmas.Bool.Decides.{nat_tests}
use Rattle.std.proofs.lemmas.Bool.{true≢false, and_parts}
use Rattle.std.proofs.lemmas.List.{append-nil}
use Rattle.std.proofs.lemmas.Grind.{flat_map-append}
use Rattle.std.proofs.lemmas.List.Concat.{flat_map-cons}
use Rattle.std.proofs.lemmas.List.Elements.{All-append, All-cons, All-head, All-nil, All-tail}
use Rattle.std.proofs.lemmas.List.Folds.{list_all-append}
use Rattle.std.proofs.lemmas.Str.{encode_ascii, inside_one}
use Rattle.std.specs.Char.{encode_utf8}
use Rattle.std.specs.List.{list_all, flat_map}
use Rattle.std.specs.Str.{chars}
use Rattle.be_journal.specs.Text.{escaped, quoted}
use Rattle.be_journal_text.specs.Parts.{IsApart, IsLinePart, Piece, byte, in_quotes, piece_text}
use Rattle.be_journal_text.specs.declared.parts.Quoting.{Quoting}
use Rattle.be_journal_text.specs.declared.parts.Quoting.TheVariants.{Outside, Inside, Escaped}
use Rattle.be_journal_text.proofs.Cuts.{beyond, is_end, length_to}

-- whether the byte after these bytes is inside quotes
abbrev pub walk : Quoting → List ℕ → Quoting
walk q [] = q
walk q (c ∷ text) = walk (beyond q c) text

-- none of these bytes is an end
abbrev pub IsQuiet : ℕ → Quoting → List ℕ → Type 0
IsQuiet end q [] = Unit {0}
IsQuiet end q (c ∷ text) = (is_end end q c ≡ false) × IsQuiet end (beyond q c) text

-- no LF
abbrev pub in_line : ℕ → Bool
in_line c = not (nat_eq c 10)

-- bytes without an end, in which every quote is closed
record IsClosed (end : ℕ) (text : List ℕ) : Type 0 where
  pub quiet : IsQuiet end Outside text
  pub back : walk Outside text ≡ Outside

pub same_byte : (c d : ℕ) → nat_eq c d ≡ true → c ≡ d
same_byte c d h = grind (arith, nat_tests)

differ : (c d : ℕ) → c ≢ d → nat_eq c d ≡ false
differ c d h = by (nat_eq c d) refl
  where
    by : (b : Bool) → nat_eq c d ≡ b → nat_eq c d ≡ false
    by false e = e
    by true e = absurd (h (same_byte c d e))

pub other_byte : (c d : ℕ) → nat_eq c d ≡ false → c ≢ d
other_byte c d h e = let same : nat_eq c d ≡ true = grind (arith, nat_tests, e) in true≢false (sym same ∙ h)

both_in_line : (xs ys : List ℕ) → list_all in_line xs ≡ true → list_all in_line ys ≡ true → list_all in_line (xs ++ ys) ≡ true
both_in_line xs ys h g = list_all-append in_line xs ys ∙ rw h g

pub walk-append : (q : Quoting) (xs ys : List ℕ) → walk q (xs ++ ys) ≡ walk (walk q xs) ys
walk-append q [] ys = refl
walk-append q (x ∷ xs) ys = walk-append (beyond q x) xs ys

pub quiet_append : (end : ℕ) (q : Quoting) (xs ys : List ℕ) → IsQuiet end q xs → IsQuiet end (walk q xs) ys → IsQuiet end q (xs ++ ys)
quiet_append end q [] ys h g = g
quiet_append end q (x ∷ xs) ys h g = (h.0, quiet_append end (beyond q x) xs ys h.1 g)

pub length_through : (end : ℕ) (q : Quoting) (xs ys : List ℕ) → IsQuiet end q xs → length_to end q (xs ++ ys) ≡ length xs + length_to end (walk q xs) ys
length_through end q [] ys h = sym (zero-add (length_to end q ys))
length_through end q (x ∷ xs) ys h =
    let more = length_through end (beyond q x) xs ys h.1 in
    let sum : 1 + (length xs + length_to end (walk (beyond q x) xs) ys) ≡ length (x ∷ xs) + length_to end (walk (beyond q x) xs) ys = omega arith in
    rw h.0 (ap (λ n. 1 + n) more ∙ sum)

both_closed : (end : ℕ) (xs ys : List ℕ) → IsClosed end xs → IsClosed end ys → IsClosed end (xs ++ ys)
both_closed end xs ys h g = record {
  quiet = quiet_append end Outside xs ys h.quiet (subst (λ (q : Quoting). IsQuiet end q ys) (sym h.back) g.quiet);
  back = walk-append Outside xs ys ∙ (ap (λ (q : Quoting). walk q ys) h.back ∙ g.back);
}

-- a space, a '-', a letter or a digit
abbrev pub is_word_byte : ℕ → Bool
is_word_byte c =
    if nat_le c 33 then nat_eq c 32
    else if nat_le c 47 then nat_eq c 45
    else if nat_le c 57 then true
    else if nat_le c 64 then false
    else if nat_le c 90 then true
    else if nat_le c 96 then false
    else nat_le c 122

-- two bytes differ if a test passes for only one of them
pub unlike : (test : ℕ → Bool) (c d : ℕ) → test c ≡ true → test d ≡ false → nat_eq c d ≡ false
unlike test c d h g = by (nat_eq c d) refl
  where
    by : (b : Bool) → nat_eq c d ≡ b → b ≡ false
    by false e = refl
    by true e = absurd (true≢false (sym h ∙ (ap test (same_byte c d e) ∙ g)))

-- a byte that can be in a word differs from a byte that can't
pub is_other : (c d : ℕ) → is_word_byte c ≡ true → is_word_byte d ≡ false → nat_eq c d ≡ false
is_other c d h g = unlike is_word_byte c d h g

-- No part ends inside quotes. Only a `"` closes the quotes, and a `\` escapes a byte.

-- No byte inside quotes is an end. This holds for each escaped byte and each byte after which the
-- text is still inside quotes.
pub record IsInside (end : ℕ) (text : List ℕ) : Type 0 where
  pub quiet : IsQuiet end Inside text
  pub back : walk Inside text ≡ Inside
  pub line : list_all in_line text ≡ true

no_inside : (end : ℕ) → IsInside end []
no_inside end = record { quiet = tt; back = refl; line = refl }

both_inside : (end : ℕ) (xs ys : List ℕ) → IsInside end xs → IsInside end ys → IsInside end (xs ++ ys)
both_inside end xs ys h g = record {
  quiet = quiet_append end Inside xs ys h.quiet (subst (λ (q : Quoting). IsQuiet end q ys) (sym h.back) g.quiet);
  back = walk-append Inside xs ys ∙ (ap (λ (q : Quoting). walk q ys) h.back ∙ g.back);
  line = both_in_line xs ys h.line g.line;
}

abbrev IsInner : List ℕ → Type 0
IsInner text =
    (k : ℕ) → k < length text → (nat_eq (get_or text k 0) 34 ≡ false) × (nat_eq (get_or text k 0) 92 ≡ false) × (nat_eq (get_or text k 0) 10 ≡ false)

inner_inside : (end : ℕ) (text : List ℕ) → IsInner text → IsInside end text
inner_inside end [] h = no_inside end
inner_inside end (c ∷ text) h =
    let first = h 0 (omega arith) in
    let more = inner_inside end text (λ k l. h (suc k) (omega (arith, l))) in
    let inside : beyond Inside c ≡ Inside = rw first.1 (rw first.0 refl) in
    record {
      quiet = (refl, subst (λ (q : Quoting). IsQuiet end q text) (sym inside) more.quiet);
      back = ap (λ (q : Quoting). walk q text) inside ∙ more.back;
      line = rw first.2 more.line;
    }

-- if a character's UTF-8 has a byte below 128, the character is that byte
ascii_byte : (c d k : ℕ) → d < 128 → k < length (encode_utf8 c) → nat_eq c d ≡ false → nat_eq (get_or (encode_utf8 c) k 0) d ≡ false
ascii_byte c d k small l other = by (nat_eq (get_or (encode_utf8 c) k 0) d) refl
  where
    by : (b : Bool) → nat_eq (get_or (encode_utf8 c) k 0) d ≡ b → b ≡ false
    by false e = refl
    by true e =
        let is : get_or (encode_utf8 c) k 0 ≡ d = same_byte _ d e in
        let same = inside_one c [] (encode_utf8 c) k (sym (append-nil (encode_utf8 c))) l (omega (arith, is, small)) in
        absurd (true≢false (sym e ∙ (ap (λ b. nat_eq b d) (sym same) ∙ other)))

-- a character, as it is printed inside quotes
inside_char : (end c : ℕ) → IsInside end (escaped c)
inside_char end c = by34 (nat_eq c 34) refl
  where
    by13 : (b : Bool) → nat_eq c 13 ≡ b → nat_eq c 34 ≡ false → nat_eq c 92 ≡ false → nat_eq c 10 ≡ false → IsInside end (escaped c)
    by13 true e q s n = rw q (rw s (rw n (rw e (record { quiet = (refl, (refl, tt)); back = refl; line = refl }))))
    by13 false e q s n = rw q
        (rw s (rw n (rw e (inner_inside end (encode_utf8 c)
        (λ k l. (ascii_byte c 34 k (omega arith) l q, ascii_byte c 92 k (omega arith) l s, ascii_byte c 10 k (omega arith) l n))))))

    by10 : (b : Bool) → nat_eq c 10 ≡ b → nat_eq c 34 ≡ false → nat_eq c 92 ≡ false → IsInside end (escaped c)
    by10 true e q s = rw q (rw s (rw e (record { quiet = (refl, (refl, tt)); back = refl; line = refl })))
    by10 false e q s = by13 (nat_eq c 13) refl q s e

    by92 : (b : Bool) → nat_eq c 92 ≡ b → nat_eq c 34 ≡ false → IsInside end (escaped c)
    by92 true e q = rw q (rw e (record { quiet = (refl, (refl, tt)); back = refl; line = refl }))
    by92 false e q = by10 (nat_eq c 10) refl q e

    by34 : (b : Bool) → nat_eq c 34 ≡ b → IsInside end (escaped c)
    by34 true e = rw e (record { quiet = (refl, (refl, tt)); back = refl; line = refl })
    by34 false e = by92 (nat_eq c 92) refl e

inside_chars : (end : ℕ) (cs : List ℕ) → IsInside end (flat_map escaped cs)
inside_chars end [] = no_inside end
inside_chars end (c ∷ cs) =
    subst (λ (l : List ℕ). IsInside end l) (sym (flat_map-cons escaped c cs))
    (both_inside end (escaped c) (flat_map escaped cs) (inside_char end c) (inside_chars end cs))

-- a quote, the text inside, and the closing quote
quotes_closed : (end : ℕ) (text : List ℕ) → nat_eq 34 end ≡ false → IsInside end text → IsClosed end (34 ∷ (text ++ 34 ∷ []))
quotes_closed end text other h = record {
  quiet = (other, quiet_append end Inside text (34 ∷ []) h.quiet (subst (λ (q : Quoting). IsQuiet end q (34 ∷ [])) (sym h.back) (refl, tt)));
  back = walk-append Inside text (34 ∷ []) ∙ ap (λ (q : Quoting). walk q (34 ∷ [])) h.back;
}

piece_closed : (end : ℕ) (piece : Piece) → IsApart end piece → IsClosed end (piece_text piece)
piece_closed end (byte c) h = record { quiet = (differ c end h.0, tt); back = rw (differ c 34 h.1) refl }
piece_closed end (in_quotes characters) h = quotes_closed end (flat_map escaped characters) (differ 34 end h) (inside_chars end characters)

pieces_closed : (end : ℕ) (pieces : List Piece) → All (IsApart end) pieces → IsClosed end (flat_map piece_text pieces)
pieces_closed end [] h = record { quiet = tt; back = refl }
pieces_closed end (piece ∷ pieces) h =
    subst (λ (l : List ℕ). IsClosed end l) (sym (flat_map-cons piece_text piece pieces))
    (both_closed end (piece_text piece) (flat_map piece_text pieces) (piece_closed end piece (All-head (IsApart end) piece pieces h))
    (pieces_closed end pieces (All-tail (IsApart end) piece pieces h)))

part_closed : (end : ℕ) (text : List ℕ) → IsLinePart end text → IsClosed end text
part_closed end text h = subst (λ (l : List ℕ). IsClosed end l) (sym h.is) (pieces_closed end h.pieces h.apart)

-- a part ends before the end that follows it
pub part_before : (end : ℕ) (xs ys : List ℕ) → IsLinePart end xs → length_to end Outside (xs ++ end ∷ ys) ≡ length xs
part_before end xs ys part =
    let h = part_closed end xs part in
    let here : nat_eq end end ≡ true = grind (arith, nat_tests) in
    let stops : length_to end Outside (end ∷ ys) ≡ 0 = rw here refl in
    let sum : length xs + 0 ≡ length xs = omega arith in
    length_through end Outside xs (end ∷ ys) h.quiet ∙ (ap (λ (q : Quoting). length xs + length_to end q (end ∷ ys)) h.back
    ∙ (ap (λ n. length xs + n) stops ∙ sum))

-- a part without an end after it extends to the end of the text
pub part_whole : (end : ℕ) (xs : List ℕ) → IsLinePart end xs → length_to end Outside xs ≡ length xs
part_whole end xs part =
    let h = part_closed end xs part in
    let sum : length xs + 0 ≡ length xs = omega arith in
    ap (length_to end Outside) (sym (append-nil xs)) ∙ (length_through end Outside xs [] h.quiet ∙ sum)

-- The parts of lines.

pub no_part : (end : ℕ) → IsLinePart end []
no_part end = record { pieces = []; apart = All-nil (IsApart end); is = refl }

pub both_parts : (end : ℕ) (xs ys : List ℕ) → IsLinePart end xs → IsLinePart end ys → IsLinePart end (xs ++ ys)
both_parts end xs ys h g = record {
  pieces = h.pieces ++ g.pieces;
  apart = All-append (IsApart end) h.pieces g.pieces h.apart g.apart;
  is = ap (λ l. l ++ ys) h.is ∙ (ap (λ l. flat_map piece_text h.pieces ++ l) g.is ∙ sym (flat_map-append piece_text h.pieces g.pieces));
}

one_piece : (end : ℕ) (piece : Piece) → IsApart end piece → IsLinePart end (piece_text piece)
one_piece end piece h = record {
  pieces = piece ∷ [];
  apart = All-cons (IsApart end) piece [] h (All-nil (IsApart end));
  is = sym (flat_map-cons piece_text piece [] ∙ append-nil (piece_text piece));
}

abbrev is_apart_byte : ℕ → ℕ → Bool
is_apart_byte end c = not (nat_eq c end) && not (nat_eq c 34)

not_so : (b : Bool) → not b ≡ true → b ≡ false
not_so false h = refl
not_so true h = cc

-- bytes without quotes
pub bytes_part : (end : ℕ) (xs : List ℕ) → list_all (is_apart_byte end) xs ≡ true → IsLinePart end xs
bytes_part end [] h = no_part end
bytes_part end (x ∷ xs) h =
    let p = and_parts (is_apart_byte end x) (list_all (is_apart_byte end) xs) h in
    let q = and_parts (not (nat_eq x end)) (not (nat_eq x 34)) p.0 in
    both_parts end (x ∷ []) xs
    (one_piece end (byte x) (other_byte x end (not_so (nat_eq x end) q.0), other_byte x 34 (not_so (nat_eq x 34) q.1))) (bytes_part end xs p.1)

-- words without quotes
pub words_part : (end : ℕ) (xs : List ℕ) → is_word_byte end ≡ false → list_all is_word_byte xs ≡ true → IsLinePart end xs
words_part end [] g h = no_part end
words_part end (x ∷ xs) g h =
    let p = and_parts (is_word_byte x) (list_all is_word_byte xs) h in
    both_parts end (x ∷ []) xs
    (one_piece end (byte x) (other_byte x end (is_other x end p.0 g), other_byte x 34 (is_other x 34 p.0 refl))) (words_part end xs g p.1)

-- a quoted name or string
pub quoted_part : (end : ℕ) (text : List ℕ) → nat_eq 34 end ≡ false → IsLinePart end (quoted text)
quoted_part end text other = one_piece end (in_quotes (chars text)) (other_byte 34 end other)

-- letters and digits are printed in quotes unchanged
ascii_word : (c : ℕ) → is_word_byte c ≡ true → c < 128
ascii_word c h = grind (arith, nat_tests, h)

word_escaped : (c : ℕ) → is_word_byte c ≡ true → escaped c ≡ c ∷ []
word_escaped c h =
    rw (is_other c 34 h refl) (rw (is_other c 92 h refl) (rw (is_other c 10 h refl) (rw (is_other c 13 h refl) (encode_ascii c (ascii_word c h)))))

words_escaped : (xs : List ℕ) → list_all is_word_byte xs ≡ true → flat_map escaped xs ≡ xs
words_escaped [] h = refl
words_escaped (x ∷ xs) h =
    let p = and_parts (is_word_byte x) (list_all is_word_byte xs) h in
    flat_map-cons escaped x xs ∙ (ap (λ l. l ++ flat_map escaped xs) (word_escaped x p.0) ∙ ap (λ l. x ∷ l) (words_escaped xs p.1))

-- raw bytes in quotes
pub hex_part : (end : ℕ) (digits : List ℕ) → nat_eq 34 end ≡ false → list_all is_word_byte digits ≡ true → IsLinePart end (34 ∷ (digits ++ 34 ∷ []))
hex_part end digits other h =
    subst (λ (l : List ℕ). IsLinePart end (34 ∷ (l ++ 34 ∷ []))) (words_escaped digits h) (one_piece end (in_quotes digits) (other_byte 34 end other))

-- A part that ends at an LF contains no LF itself.

piece_line : (piece : Piece) → IsApart 10 piece → list_all in_line (piece_text piece) ≡ true
piece_line (byte c) h = rw (differ c 10 h.0) refl
piece_line (in_quotes characters) h = both_in_line (flat_map escaped characters) (34 ∷ []) (inside_chars 10 characters).line refl

pieces_line : (pieces : List Piece) → All (IsApart 10) pieces → list_all in_line (flat_map piece_text pieces) ≡ true
pieces_line [] h = refl
pieces_line (piece ∷ pieces) h =
    ap (list_all in_line) (flat_map-cons piece_text piece pieces)
    ∙ both_in_line (piece_text piece) (flat_map piece_text pieces) (piece_line piece (All-head (IsApart 10) piece pieces h))
    (pieces_line pieces (All-tail (IsApart 10) piece pieces h))

pub part_line : (text : List ℕ) → IsLinePart 10 text → list_all in_line text ≡ true
part_line text h = ap (list_all in_line) h.is ∙ pieces_line h.pieces h.apart

-- How the code steps over a text.

pub none_of_length : (text : List ℕ) → length text ≡ 0 → text ≡ []
none_of_length [] h = refl
none_of_length (c ∷ text) h = absurd (omega (arith, h))

pub beyond_is : (quoting next : Quoting) (c : ℕ) → (quoting ≡ Outside → next ≡ (if nat_eq c 34 then Inside else Outside)) →
    (quoting ≡ Inside → next ≡ (if nat_eq c 92 then Escaped else if nat_eq c 34 then Outside else Inside)) → (quoting ≡ Escaped → next ≡ Inside) →
    next ≡ beyond quoting c
beyond_is Outside next c outside inside escaped_is = outside refl
beyond_is Inside next c outside inside escaped_is = inside refl
beyond_is Escaped next c outside inside escaped_is = escaped_is refl

pub is_end_is : (end : ℕ) (quoting : Quoting) (c : ℕ) (answer : Bool) → (answer ≡ true) ↔ ((quoting ≡ Outside) × (c ≡ end)) → answer ≡ is_end end quoting c
is_end_is end Outside c true h = let is = (h.0 refl).1 in grind (arith, nat_tests, is)
is_end_is end Outside c false h = sym (differ c end (λ e. true≢false (sym (h.1 (refl, e)))))
is_end_is end Inside c true h = let never = (h.0 refl).0 in cc
is_end_is end Inside c false h = refl
is_end_is end Escaped c true h = let never = (h.0 refl).0 in cc
is_end_is end Escaped c false h = refl

pub counted_here : (end count : ℕ) (quoting : Quoting) (text rest more : List ℕ) (c : ℕ) → length_to end Outside text ≡ count + length_to end quoting rest →
    rest ≡ c ∷ more → is_end end quoting c ≡ true → count ≡ length_to end Outside text
counted_here end count quoting text rest more c so_far is here =
    let none : length_to end quoting (c ∷ more) ≡ 0 = rw here refl in
    let sum : count + 0 ≡ count = omega arith in
    sym (so_far ∙ (ap (λ l. count + length_to end quoting l) is ∙ (ap (λ n. count + n) none ∙ sum)))

pub counted_all : (end count : ℕ) (quoting : Quoting) (text rest : List ℕ) → length_to end Outside text ≡ count + length_to end quoting rest → rest ≡ [] →
    count ≡ length_to end Outside text
counted_all end count quoting text rest so_far is =
    let sum : count + 0 ≡ count = omega arith in
    sym (so_far ∙ (ap (λ l. count + length_to end quoting l) is ∙ sum))

pub counted_on : (end : ℕ) (quoting : Quoting) (rest more : List ℕ) (c : ℕ) → rest ≡ c ∷ more → is_end end quoting c ≡ false →
    length_to end quoting rest ≡ 1 + length_to end (beyond quoting c) more
counted_on end quoting rest more c is here = ap (length_to end quoting) is ∙ rw here refl

-- the number of bytes before the first end
pub counted_ends : (end count : ℕ) (text : List ℕ) → count ≡ length_to end Outside text → (part more : List ℕ) → IsLinePart end part → text ≡ part ++ end ∷ more →
    count ≡ length part
counted_ends end count text is part more h e = is ∙ (ap (length_to end Outside) e ∙ part_before end part more h)

pub counted_alone : (end count : ℕ) (text : List ℕ) → count ≡ length_to end Outside text → IsLinePart end text → count ≡ length text
counted_alone end count text is h = is ∙ part_whole end text h
