-- A printed operation, read as a script's line, requests that operation.
use Rattle.std.proofs.Common.{◌≡◌, ℕ, suc, ◌-◌, ◌^◌, ◌<◌, ◌≤◌, Bool, true, false, ◌&&◌, ◌||◌, List, [], ◌∷◌, ◌++◌, length, length-append, get_or, take, drop, nat_eq, nat_lt, cond, Some, None, Ok, codes, if◌then◌else◌, refl, sym, ap, ◌∙◌, subst, append_assoc, arith, pos, negsuc}
use Rattle.std.proofs.Math.Seq.{get_or-append_seam}
use Rattle.std.proofs.lemmas.Bool.Decides.{nat_tests}
use Rattle.std.proofs.lemmas.Bool.{and_parts}
use Rattle.std.proofs.lemmas.Fmt.{decimal_nonempty}
use Rattle.std.proofs.lemmas.List.{append-nil}
use Rattle.std.proofs.lemmas.List.Concat.{flat_map-cons}
use Rattle.std.proofs.lemmas.Str.{IsUtf8-append, IsUtf8-encode, IsUtf8-from_ascii, IsUtf8-nil, chars-IsAscii, chars-append, chars-nil, chars_past_char, encode_ascii, encodes-chars, is_utf8-from_IsUtf8, scalars-chars}
use Rattle.std.proofs.lemmas.Str.Ascii.{IsAscii-cons, IsAscii-nil}
use Rattle.std.proofs.Math.Utf8.{scalar}
use Rattle.std.specs.Char.{IsScalar, encode_utf8, is_ascii_digit}
use Rattle.std.specs.Fmt.{decimal}
use Rattle.std.specs.List.{flat_map, list_all, position_or_len}
use Rattle.std.specs.Option.{option_and_then, option_map, unwrap_or}
use Rattle.std.specs.Result.{result_map_both}
use Rattle.std.specs.Str.{IsAscii, IsUtf8, all_ascii_digits, all_scalars, chars, encode_utf8_all}
use Rattle.std.specs.Str.Lines.{strip_carriage_return}
use Rattle.std.specs.declared.option.Option.{Option}
use Rattle.std.specs.declared.result.Result.{Result}
use Rattle.be_journal.specs.Text.{escaped, hex, op_text, quoted, value_text}
use Rattle.be_script_language.specs.Request.{Request, asked, command_in, command_named, command_of, is_comment, malformed, request_in, named, set_from, set_in, set_op, write}
use Rattle.be_script_language.specs.Values.{kind_in, value_in}
use Rattle.be_script_language.specs.Words.{beyond, bytes_of, end_of_word, ends_word, first_word, if_ended, is_blank, is_empty, one_word, quoted_in, skip, two_words}
use Rattle.be_script_language.specs.declared.commands.Command.{Command}
use Rattle.be_script_language.specs.declared.commands.Command.TheVariants as commands
use Rattle.be_script_language.proofs.WordLemmas.{quoted-end, quoted-plain}
use Rattle.be_value.specs.Key.{IsValue}
use Rattle.be_value.specs.Name.{name_from}
use Rattle.be_value.specs.Number.{word_in}
use Rattle.be_value.specs.Value.{kind_name, kind_of}
use Rattle.be_value.specs.declared.refusals.Refusal.{Refusal}
use Rattle.be_value.specs.declared.values.Kind.{Kind}
use Rattle.be_value.specs.declared.values.Kind.TheVariants as kinds
use Rattle.be_value.specs.declared.values.Value.{Value}
use Rattle.be_value.specs.declared.values.Value.TheVariants.{Cstr, Long, Llng, Mims, Rawt, Ulng, Ullg}
use Rattle.be_volume.specs.declared.ops.Op.{Op}
use Rattle.be_volume.specs.declared.ops.Op.TheVariants.{New, Drop, Set, Unset, MkIndex, RmIndex}
use Rattle.be_journal_text.specs.History.{CanBeOp, HasBytes}
use Rattle.be_journal_text.proofs.LineLemmas.{drop_front, hex_words, take_front}
use Rattle.be_journal_text.proofs.NumberLemmas.{decimal_digits, word_of_decimal}
use Rattle.be_journal_text.proofs.PartLemmas.{is_other, is_word_byte, same_byte, unlike}
use Rattle.be_journal_text.proofs.ValueLemmas.{kind_read, value_read, value_word}

-- the characters that stand for a character inside quotes
abbrev pub escaped_chars : ℕ → List ℕ
escaped_chars c =
    if nat_eq c 34 then 92 ∷ 34 ∷ []
    else if nat_eq c 92 then 92 ∷ 92 ∷ []
    else if nat_eq c 10 then 92 ∷ 110 ∷ []
    else if nat_eq c 13 then 92 ∷ 114 ∷ []
    else c ∷ []

abbrev IsRead : List ℕ → ℕ → Type 0
IsRead text d = quoted_in (escaped_chars d ++ text) ≡ beyond (encode_utf8 d) (quoted_in text)

-- one more character is read
char_read : (c : ℕ) (text : List ℕ) → quoted_in (escaped_chars c ++ text) ≡ beyond (encode_utf8 c) (quoted_in text)
char_read c text = by34 (nat_eq c 34) refl
  where
    by13 : (b : Bool) → nat_eq c 13 ≡ b → nat_eq c 34 ≡ false → nat_eq c 92 ≡ false → nat_eq c 10 ≡ false → IsRead text c
    by13 true e q s n = subst (IsRead text) (sym (same_byte c 13 e)) refl
    by13 false e q s n = rw q (rw s (rw n (rw e (quoted-plain c text q s))))

    by10 : (b : Bool) → nat_eq c 10 ≡ b → nat_eq c 34 ≡ false → nat_eq c 92 ≡ false → IsRead text c
    by10 true e q s = subst (IsRead text) (sym (same_byte c 10 e)) refl
    by10 false e q s = by13 (nat_eq c 13) refl q s e

    by92 : (b : Bool) → nat_eq c 92 ≡ b → nat_eq c 34 ≡ false → IsRead text c
    by92 true e q = subst (IsRead text) (sym (same_byte c 92 e)) refl
    by92 false e q = by10 (nat_eq c 10) refl q e

    by34 : (b : Bool) → nat_eq c 34 ≡ b → IsRead text c
    by34 true e = subst (IsRead text) (sym (same_byte c 34 e)) refl
    by34 false e = by92 (nat_eq c 92) refl e

-- all the characters, followed by the closing quote
pub quoted_read : (cs rest : List ℕ) → quoted_in (flat_map escaped_chars cs ++ 34 ∷ rest) ≡ Some (bytes_of cs, rest)
quoted_read [] rest = quoted-end rest
quoted_read (c ∷ cs) rest =
    ap (λ l. quoted_in (l ++ 34 ∷ rest)) (flat_map-cons escaped_chars c cs)
    ∙ (ap quoted_in (append_assoc (escaped_chars c) (flat_map escaped_chars cs) (34 ∷ rest))
    ∙ (char_read c (flat_map escaped_chars cs ++ 34 ∷ rest)
    ∙ (ap (beyond (encode_utf8 c)) (quoted_read cs rest)
    ∙ ap (λ l. Some (l, rest)) (sym (flat_map-cons encode_utf8 c cs)))))

-- The bytes and the characters of a text.

abbrev is_low : ℕ → Bool
is_low c = nat_lt c 128

low_byte : (c : ℕ) → is_low c ≡ true → c < 128
low_byte c h = grind (arith, nat_tests, h)

low_ascii : (xs : List ℕ) → list_all is_low xs ≡ true → IsAscii xs
low_ascii [] h = IsAscii-nil
low_ascii (x ∷ xs) h =
    let p = and_parts (is_low x) (list_all is_low xs) h in
    IsAscii-cons x xs (low_byte x p.0) (low_ascii xs p.1)

low_bytes : (xs : List ℕ) → list_all is_low xs ≡ true → bytes_of xs ≡ xs
low_bytes [] h = refl
low_bytes (x ∷ xs) h =
    let p = and_parts (is_low x) (list_all is_low xs) h in
    ap (λ l. l ++ bytes_of xs) (encode_ascii x (low_byte x p.0)) ∙ ap (λ l. x ∷ l) (low_bytes xs p.1)

bytes_encoded : (cs : List ℕ) → bytes_of cs ≡ encode_utf8_all cs
bytes_encoded [] = refl
bytes_encoded (c ∷ cs) = ap (λ l. encode_utf8 c ++ l) (bytes_encoded cs)

bytes_chars : (text : List ℕ) → IsUtf8 text → bytes_of (chars text) ≡ text
bytes_chars text u = bytes_encoded (chars text) ∙ encodes-chars text u

-- the text has these characters
record Encodes (cs text : List ℕ) : Type 0 where
  utf8 : IsUtf8 text
  are : chars text ≡ cs

encoded_low : (xs : List ℕ) → list_all is_low xs ≡ true → Encodes xs xs
encoded_low xs h = let a = low_ascii xs h in record { utf8 = IsUtf8-from_ascii xs a; are = chars-IsAscii xs a }

encoded_both : (cs text ds more : List ℕ) → Encodes cs text → Encodes ds more → Encodes (cs ++ ds) (text ++ more)
encoded_both cs text ds more h g = record {
  utf8 = IsUtf8-append text more h.utf8 g.utf8;
  are = chars-append text more h.utf8 ∙ (ap (λ l. l ++ chars more) h.are ∙ ap (λ l. cs ++ l) g.are);
}

encoded_char : (c : ℕ) → IsScalar c → Encodes (c ∷ []) (encode_utf8 c)
encoded_char c h =
    let u = IsUtf8-encode c h in
    record { utf8 = u; are = chars_past_char (encode_utf8 c) [] c u (sym (append-nil (encode_utf8 c))) ∙ ap (λ l. c ∷ l) chars-nil }

encoded_escaped : (c : ℕ) → IsScalar c → Encodes (escaped_chars c) (escaped c)
encoded_escaped c h = by34 (nat_eq c 34) refl
  where
    by13 : (b : Bool) → nat_eq c 13 ≡ b → nat_eq c 34 ≡ false → nat_eq c 92 ≡ false → nat_eq c 10 ≡ false → Encodes (escaped_chars c) (escaped c)
    by13 true e q s n = rw q (rw s (rw n (rw e (encoded_low (92 ∷ 114 ∷ []) refl))))
    by13 false e q s n = rw q (rw s (rw n (rw e (encoded_char c h))))

    by10 : (b : Bool) → nat_eq c 10 ≡ b → nat_eq c 34 ≡ false → nat_eq c 92 ≡ false → Encodes (escaped_chars c) (escaped c)
    by10 true e q s = rw q (rw s (rw e (encoded_low (92 ∷ 110 ∷ []) refl)))
    by10 false e q s = by13 (nat_eq c 13) refl q s e

    by92 : (b : Bool) → nat_eq c 92 ≡ b → nat_eq c 34 ≡ false → Encodes (escaped_chars c) (escaped c)
    by92 true e q = rw q (rw e (encoded_low (92 ∷ 92 ∷ []) refl))
    by92 false e q = by10 (nat_eq c 10) refl q e

    by34 : (b : Bool) → nat_eq c 34 ≡ b → Encodes (escaped_chars c) (escaped c)
    by34 true e = rw e (encoded_low (92 ∷ 34 ∷ []) refl)
    by34 false e = by92 (nat_eq c 92) refl e

encoded_inside : (cs : List ℕ) → all_scalars cs ≡ true → Encodes (flat_map escaped_chars cs) (flat_map escaped cs)
encoded_inside [] h = record { utf8 = IsUtf8-nil; are = chars-nil }
encoded_inside (c ∷ cs) h =
    let p = and_parts (scalar c) (all_scalars cs) h in
    encoded_both (escaped_chars c) (escaped c) (flat_map escaped_chars cs) (flat_map escaped cs) (encoded_escaped c p.0) (encoded_inside cs p.1)

-- the characters of a quoted text
abbrev quoted_chars : List ℕ → List ℕ
quoted_chars text = 34 ∷ (flat_map escaped_chars (chars text) ++ 34 ∷ [])

encoded_in_quotes : (cs text : List ℕ) → Encodes cs text → Encodes (34 ∷ (cs ++ 34 ∷ [])) (34 ∷ (text ++ 34 ∷ []))
encoded_in_quotes cs text h =
    let quote = encoded_low (34 ∷ []) refl in
    encoded_both (34 ∷ []) (34 ∷ []) (cs ++ 34 ∷ []) (text ++ 34 ∷ []) quote (encoded_both cs text (34 ∷ []) (34 ∷ []) h quote)

encoded_quoted : (text : List ℕ) → IsUtf8 text → Encodes (quoted_chars text) (quoted text)
encoded_quoted text u = encoded_in_quotes (flat_map escaped_chars (chars text)) (flat_map escaped (chars text))
    (encoded_inside (chars text) (scalars-chars text u))

-- ASCII characters, followed by others
encoded_then : {cs text : List ℕ} (head : List ℕ) → list_all is_low head ≡ true → Encodes cs text → Encodes (head ++ cs) (head ++ text)
encoded_then {cs} {text} head low h = encoded_both head head cs text (encoded_low head low) h

-- the last byte isn't a CR
abbrev Ends : List ℕ → Type 0
Ends text = (front : List ℕ) × (c : ℕ) × (text ≡ front ++ c ∷ []) × (nat_eq c 13 ≡ false)

ends_after : (xs ys : List ℕ) → Ends ys → Ends (xs ++ ys)
ends_after xs ys h = (xs ++ h.0, h.1, ap (λ l. xs ++ l) h.2 ∙ sym (append_assoc xs h.0 (h.1 ∷ [])), h.3)

-- if the last byte isn't a CR, nothing is removed
kept : (text : List ℕ) → Ends text → strip_carriage_return text ≡ text
kept text h = by h.0 h.1 h.2 h.3
  where
    by : (front : List ℕ) (c : ℕ) → text ≡ front ++ c ∷ [] → nat_eq c 13 ≡ false → strip_carriage_return text ≡ text
    by front c is other =
        let place : length (front ++ c ∷ []) - 1 ≡ length front = omega (arith, length-append front (c ∷ [])) in
        let last : get_or text (length text - 1) 0 ≡ c =
        ap (λ l. get_or l (length l - 1) 0) is ∙ (ap (λ n. get_or (front ++ c ∷ []) n 0) place ∙ get_or-append_seam front c [] 0) in
        rw last (rw other refl)

-- the request of a line with these characters
asked_of : (text cs : List ℕ) → Encodes cs text → Ends text → (list_all is_blank text || is_comment text) ≡ false → asked text ≡ command_of (skip cs)
asked_of text cs h ends some = ap request_in (kept text ends) ∙ rw (is_utf8-from_IsUtf8 text h.utf8) (rw some (ap (λ l. command_of (skip l)) h.are))

-- A word without quotes.

abbrev is_plain : ℕ → Bool
is_plain c = nat_lt 34 c && is_low c

digit_plain : (c : ℕ) → is_ascii_digit c ≡ true → is_plain c ≡ true
digit_plain c h = grind (arith, nat_tests, h)

digits_plain : (ds : List ℕ) → all_ascii_digits ds ≡ true → list_all is_plain ds ≡ true
digits_plain [] h = refl
digits_plain (d ∷ ds) h =
    let p = and_parts (is_ascii_digit d) (all_ascii_digits ds) h in
    rw (digit_plain d p.0) (digits_plain ds p.1)

plain_low : (w : List ℕ) → list_all is_plain w ≡ true → list_all is_low w ≡ true
plain_low [] h = refl
plain_low (c ∷ w) h =
    let p = and_parts (is_plain c) (list_all is_plain w) h in
    rw (and_parts (nat_lt 34 c) (is_low c) p.0).1 (plain_low w p.1)

plain_is_not_blank : (c : ℕ) → is_plain c ≡ true → is_blank c ≡ false
plain_is_not_blank c h = rw (unlike is_plain c 32 h refl) (rw (unlike is_plain c 9 h refl) refl)

ends_plain : (w : List ℕ) → list_all is_plain w ≡ true → 1 ≤ length w → Ends w
ends_plain [] h some = absurd (omega (arith, some))
ends_plain (c ∷ []) h some = ([], c, refl, unlike is_plain c 13 (and_parts (is_plain c) true h).0 refl)
ends_plain (c ∷ d ∷ w) h some = ends_after (c ∷ []) (d ∷ w) (ends_plain (d ∷ w) (and_parts (is_plain c) (list_all is_plain (d ∷ w)) h).1 (omega arith))

first_blank : (w rest : List ℕ) → list_all is_plain w ≡ true → ends_word rest ≡ true → position_or_len is_blank (w ++ rest) ≡ length w
first_blank [] [] h e = refl
first_blank [] (c ∷ rest) h e = rw e refl
first_blank (c ∷ w) rest h e =
    let p = and_parts (is_plain c) (list_all is_plain w) h in
    let more = first_blank w rest p.1 e in
    rw (plain_is_not_blank c p.0) (omega (arith, more))

either : (p n : ℕ) → p ≤ n → unwrap_or (cond (nat_lt p n) (Some p) None) n ≡ p
either p n h = by (nat_lt p n) refl
  where
    by : (b : Bool) → nat_lt p n ≡ b → unwrap_or (cond (nat_lt p n) (Some p) None) n ≡ p
    by true e = rw e refl
    by false e = let same : n ≡ p = grind (arith, nat_tests, h, e) in rw e same

word_end : (w rest : List ℕ) → list_all is_plain w ≡ true → ends_word rest ≡ true → end_of_word (w ++ rest) ≡ length w
word_end w rest h e =
    let place = first_blank w rest h e in
    either (position_or_len is_blank (w ++ rest)) (length (w ++ rest)) (omega (arith, place, length-append w rest)) ∙ place

-- a plain word at the start of a text
abbrev split_at : ℕ → List ℕ → Option (List ℕ × List ℕ)
split_at n text = Some (bytes_of (take n text), drop n text)

plain_split : (w rest : List ℕ) → list_all is_plain w ≡ true → ends_word rest ≡ true → split_at (end_of_word (w ++ rest)) (w ++ rest) ≡ Some (w, rest)
plain_split w rest h e =
    ap (λ n. split_at n (w ++ rest)) (word_end w rest h e)
    ∙ (ap (λ (l : List ℕ). Some (bytes_of l, drop (length w) (w ++ rest))) (take_front w rest)
    ∙ (ap (λ (l : List ℕ). Some (bytes_of w, l)) (drop_front w rest) ∙ ap (λ (l : List ℕ). Some (l, rest)) (low_bytes w (plain_low w h))))

plain_read : (w rest : List ℕ) → list_all is_plain w ≡ true → 1 ≤ length w → ends_word rest ≡ true → first_word (32 ∷ (w ++ rest)) ≡ Some (w, rest)
plain_read [] rest h some e = absurd (omega (arith, some))
plain_read (c ∷ w) rest h some e =
    let p = and_parts (is_plain c) (list_all is_plain w) h in
    rw (plain_is_not_blank c p.0) (rw (unlike is_plain c 34 p.0 refl) (plain_split (c ∷ w) rest h e))

-- A word in quotes.
quotes_read : (cs word rest : List ℕ) → quoted_in (cs ++ 34 ∷ rest) ≡ Some (word, rest) → ends_word rest ≡ true →
    first_word (32 ∷ (34 ∷ (cs ++ 34 ∷ [])) ++ rest) ≡ Some (word, rest)
quotes_read cs word rest is e = ap (λ l. option_and_then if_ended (quoted_in l)) (append_assoc cs (34 ∷ []) rest)
    ∙ (ap (option_and_then if_ended) is ∙ rw e refl)

name_read : (name rest : List ℕ) → IsUtf8 name → ends_word rest ≡ true → first_word (32 ∷ quoted_chars name ++ rest) ≡ Some (name, rest)
name_read name rest u e =
    quotes_read (flat_map escaped_chars (chars name)) name rest (quoted_read (chars name) rest ∙ ap (λ (l : List ℕ). Some (l, rest)) (bytes_chars name u)) e

word_low : (c : ℕ) → is_word_byte c ≡ true → is_low c ≡ true
word_low c h = grind (arith, nat_tests, h)

words_low : (ws : List ℕ) → list_all is_word_byte ws ≡ true → list_all is_low ws ≡ true
words_low [] h = refl
words_low (c ∷ ws) h =
    let p = and_parts (is_word_byte c) (list_all is_word_byte ws) h in
    rw (word_low c p.0) (words_low ws p.1)

words_read : (ws rest : List ℕ) → list_all is_word_byte ws ≡ true → quoted_in (ws ++ 34 ∷ rest) ≡ Some (ws, rest)
words_read [] rest h = quoted-end rest
words_read (c ∷ ws) rest h =
    let p = and_parts (is_word_byte c) (list_all is_word_byte ws) h in
    quoted-plain c (ws ++ 34 ∷ rest) (is_other c 34 p.0 refl) (is_other c 92 p.0 refl)
    ∙ (ap (λ (l : List ℕ). beyond l (quoted_in (ws ++ 34 ∷ rest))) (encode_ascii c (low_byte c (word_low c p.0)))
    ∙ ap (beyond (c ∷ [])) (words_read ws rest p.1))

-- The words of a line.

one_read : (text word : List ℕ) → first_word text ≡ Some (word, []) → one_word text ≡ Some word
one_read text word h = ap (option_and_then (λ (first : List ℕ × List ℕ). if is_empty first.1 then Some first.0 else None)) h

two_read : (text first rest second : List ℕ) → first_word text ≡ Some (first, rest) → first_word rest ≡ Some (second, []) →
    two_words text ≡ Some (first, second)
two_read text first rest second h g =
    ap (option_and_then (λ (one : List ℕ × List ℕ). option_map {U = List ℕ × List ℕ} (λ two. (one.0, two)) (one_word one.1))) h
    ∙ ap (option_map {U = List ℕ × List ℕ} (λ two. (first, two))) (one_read rest second g)

last_plain : (w : List ℕ) → list_all is_plain w ≡ true → 1 ≤ length w → first_word (32 ∷ w) ≡ Some (w, [])
last_plain w h some = ap (λ l. first_word (32 ∷ l)) (sym (append-nil w)) ∙ plain_read w [] h some refl

last_name : (name : List ℕ) → IsUtf8 name → first_word (32 ∷ quoted_chars name) ≡ Some (name, [])
last_name name u = ap (λ l. first_word (32 ∷ l)) (sym (append-nil (quoted_chars name))) ∙ name_read name [] u refl

abbrev run : List ℕ → List ℕ → Request
run word more = unwrap_or (option_and_then (λ command. command_in command more) (command_named word)) malformed

-- a command's word, and the text after it
command_read : (w rest : List ℕ) (command : Command) → list_all is_plain w ≡ true → ends_word rest ≡ true → command_named w ≡ Some command →
    command_of (w ++ rest) ≡ unwrap_or (command_in command rest) malformed
command_read w rest command h e named =
    ap (λ n. run (bytes_of (take n (w ++ rest))) (drop n (w ++ rest))) (word_end w rest h e)
    ∙ (ap (λ l. run (bytes_of l) (drop (length w) (w ++ rest))) (take_front w rest)
    ∙ (ap (λ l. run (bytes_of w) l) (drop_front w rest)
    ∙ (ap (λ l. run l rest) (low_bytes w (plain_low w h)) ∙ ap (λ o. unwrap_or (option_and_then (λ command. command_in command rest) o) malformed) named)))

-- Numbers and kinds are plain words.

decimal_plain : (n : ℕ) → n < 2 ^ 64 → list_all is_plain (decimal n) ≡ true
decimal_plain n h = digits_plain (decimal n) (decimal_digits n h)

number_read : (n : ℕ) (rest : List ℕ) → n < 2 ^ 64 → ends_word rest ≡ true → first_word (32 ∷ (decimal n ++ rest)) ≡ Some (decimal n, rest)
number_read n rest h e = plain_read (decimal n) rest (decimal_plain n h) (decimal_nonempty n h) e

encoded_plain : (w : List ℕ) → list_all is_plain w ≡ true → Encodes w w
encoded_plain w h = encoded_low w (plain_low w h)

kind_plain : (k : Kind) → list_all is_plain (kind_name k) ≡ true
kind_plain kinds.Cstr = refl
kind_plain kinds.Long = refl
kind_plain kinds.Llng = refl
kind_plain kinds.Mims = refl
kind_plain kinds.Rawt = refl
kind_plain kinds.Ulng = refl
kind_plain kinds.Ullg = refl

kind_long : (k : Kind) → 1 ≤ length (kind_name k)
kind_long kinds.Cstr = omega arith
kind_long kinds.Long = omega arith
kind_long kinds.Llng = omega arith
kind_long kinds.Mims = omega arith
kind_long kinds.Rawt = omega arith
kind_long kinds.Ulng = omega arith
kind_long kinds.Ullg = omega arith

-- A printed value: its characters, its last byte, and the word that is read from it.
record IsValueText (text word : List ℕ) : Type 0 where
  characters : List ℕ
  encoded : Encodes characters text
  ends : Ends text
  read : first_word (32 ∷ characters) ≡ Some (word, [])

quoted_value : (text : List ℕ) → IsUtf8 text → IsValueText (quoted text) text
quoted_value text u = record {
  characters = quoted_chars text;
  encoded = encoded_quoted text u;
  ends = (34 ∷ flat_map escaped (chars text), 34, refl, refl);
  read = last_name text u;
}

plain_value : (w : List ℕ) → list_all is_plain w ≡ true → 1 ≤ length w → IsValueText w w
plain_value w h some = record { characters = w; encoded = encoded_plain w h; ends = ends_plain w h some; read = last_plain w h some }

number_value : (n : ℕ) → n < 2 ^ 64 → IsValueText (decimal n) (decimal n)
number_value n h = plain_value (decimal n) (decimal_plain n h) (decimal_nonempty n h)

raw_value : (ws : List ℕ) → list_all is_word_byte ws ≡ true → IsValueText (34 ∷ (ws ++ 34 ∷ [])) ws
raw_value ws h = record {
  characters = 34 ∷ (ws ++ 34 ∷ []);
  encoded = encoded_in_quotes ws ws (encoded_low ws (words_low ws h));
  ends = (34 ∷ ws, 34, refl, refl);
  read = ap (λ l. first_word (32 ∷ l)) (sym (append-nil (34 ∷ (ws ++ 34 ∷ [])))) ∙ quotes_read ws ws [] (words_read ws [] h) refl;
}

value_printed : (v : Value) → IsValue v → HasBytes v → IsValueText (value_text v) (value_word v)
value_printed (Cstr text) is bytes = quoted_value text is.1
value_printed (Long (pos n)) is bytes = number_value n (omega (arith, is))
value_printed (Long (negsuc n)) is bytes = plain_value (45 ∷ decimal (suc n)) (decimal_plain (suc n) (omega (arith, is))) (omega arith)
value_printed (Llng (pos n)) is bytes = number_value n (omega (arith, is))
value_printed (Llng (negsuc n)) is bytes = plain_value (45 ∷ decimal (suc n)) (decimal_plain (suc n) (omega (arith, is))) (omega arith)
value_printed (Mims text) is bytes = quoted_value text is.1
value_printed (Rawt raw) is bytes = raw_value (hex raw) (hex_words raw bytes)
value_printed (Ulng n) is bytes = number_value n (omega (arith, is))
value_printed (Ullg n) is bytes = number_value n is

-- The operation that each line requests.

abbrev answer : Option Request → Request
answer o = unwrap_or o malformed

new_asked : asked (op_text New) ≡ write (Ok New)
new_asked = asked_of (codes "new") (codes "new") (encoded_low (codes "new") refl) (ends_plain (codes "new") refl (omega arith)) refl
    ∙ command_read (codes "new") [] commands.New refl refl refl

drop_asked : (node : ℕ) → node < 2 ^ 64 → asked (op_text (Drop node)) ≡ write (Ok (Drop node))
drop_asked node h =
    let number = number_value node h in
    asked_of (codes "drop " ++ decimal node) (codes "drop " ++ decimal node)
    (encoded_then (codes "drop ") refl (encoded_plain (decimal node) (decimal_plain node h)))
    (ends_after (codes "drop ") (decimal node) number.ends) refl
    ∙ (command_read (codes "drop") (32 ∷ decimal node) commands.Drop refl refl refl
    ∙ (ap (λ (o : Option (List ℕ)). answer (option_map (λ n. write (Ok (Drop n))) (option_and_then word_in o)))
    (one_read (32 ∷ decimal node) (decimal node) (last_plain (decimal node) (decimal_plain node h) (decimal_nonempty node h)))
    ∙ ap (λ (o : Option ℕ). answer (option_map (λ n. write (Ok (Drop n))) o)) (word_of_decimal node h)))

unset_asked : (node : ℕ) (name : List ℕ) → node < 2 ^ 64 → name_from name ≡ Ok name → IsUtf8 name →
    asked (op_text (Unset node name)) ≡ write (Ok (Unset node name))
unset_asked node name h is u =
    let word = quoted_value name u in
    let text = codes " " ++ quoted name in
    let rest = codes " " ++ quoted_chars name in
    asked_of (codes "unset " ++ (decimal node ++ text)) (codes "unset " ++ (decimal node ++ rest))
    (encoded_then (codes "unset ") refl
    (encoded_then (decimal node) (plain_low (decimal node) (decimal_plain node h)) (encoded_then (codes " ") refl (encoded_quoted name u))))
    (ends_after (codes "unset ") (decimal node ++ text) (ends_after (decimal node) text (ends_after (codes " ") (quoted name) word.ends))) refl
    ∙ (command_read (codes "unset") (32 ∷ (decimal node ++ rest)) commands.Unset refl refl refl
    ∙ (ap (λ (o : Option (List ℕ × List ℕ)). answer
    (option_map (λ (words : ℕ × List ℕ). write (named (λ m. Unset words.0 m) words.1))
    (option_and_then (λ (words : List ℕ × List ℕ). option_map (λ (n : ℕ). (n, words.1)) (word_in words.0)) o)))
    (two_read (32 ∷ (decimal node ++ rest)) (decimal node) rest name (number_read node rest h refl) (last_name name u))
    ∙ (ap (λ (o : Option ℕ). answer (option_map (λ (words : ℕ × List ℕ). write (named (λ m. Unset words.0 m) words.1)) (option_map (λ (n : ℕ). (n, name)) o)))
    (word_of_decimal node h)
    ∙ ap (λ r. write (result_map_both (λ m. Unset node m) (λ e. e) r)) is)))

mkindex_asked : (name : List ℕ) (kind : Kind) → name_from name ≡ Ok name → IsUtf8 name → asked (op_text (MkIndex name kind)) ≡ write (Ok (MkIndex name kind))
mkindex_asked name kind is u =
    let plain = kind_plain kind in
    let text = codes " " ++ kind_name kind in
    asked_of (codes "mkindex " ++ (quoted name ++ text)) (codes "mkindex " ++ (quoted_chars name ++ text))
    (encoded_then (codes "mkindex ") refl
    (encoded_both (quoted_chars name) (quoted name) text text (encoded_quoted name u)
    (encoded_then (codes " ") refl (encoded_plain (kind_name kind) plain))))
    (ends_after (codes "mkindex ") (quoted name ++ text)
    (ends_after (quoted name) text (ends_after (codes " ") (kind_name kind) (ends_plain (kind_name kind) plain (kind_long kind))))) refl
    ∙ (command_read (codes "mkindex") (32 ∷ (quoted_chars name ++ text)) commands.MkIndex refl refl refl
    ∙ (ap (λ (o : Option (List ℕ × List ℕ)). answer
    (option_and_then (λ (words : List ℕ × List ℕ). option_map (λ k. write (named (λ m. MkIndex m k) words.0)) (kind_in words.1)) o))
    (two_read (32 ∷ (quoted_chars name ++ text)) name text (kind_name kind) (name_read name text u refl) (last_plain (kind_name kind) plain (kind_long kind)))
    ∙ (ap (λ (o : Option Kind). answer (option_map (λ k. write (named (λ m. MkIndex m k) name)) o)) (kind_read kind)
    ∙ ap (λ r. write (result_map_both (λ m. MkIndex m kind) (λ e. e) r)) is)))

rmindex_asked : (name : List ℕ) → name_from name ≡ Ok name → IsUtf8 name → asked (op_text (RmIndex name)) ≡ write (Ok (RmIndex name))
rmindex_asked name is u =
    let word = quoted_value name u in
    asked_of (codes "rmindex " ++ quoted name) (codes "rmindex " ++ quoted_chars name) (encoded_then (codes "rmindex ") refl (encoded_quoted name u))
    (ends_after (codes "rmindex ") (quoted name) word.ends) refl
    ∙ (command_read (codes "rmindex") (32 ∷ quoted_chars name) commands.RmIndex refl refl refl
    ∙ (ap (λ (o : Option (List ℕ)). answer (option_map (λ m. write (named RmIndex m)) o)) (one_read (32 ∷ quoted_chars name) name (last_name name u))
    ∙ ap (λ r. write (result_map_both RmIndex (λ e. e) r)) is))

-- the request that the words of `set` make
set_made : (node : ℕ) (name : List ℕ) (v : Value) → node < 2 ^ 64 → name_from name ≡ Ok name → IsValue v → HasBytes v →
    answer (set_from (decimal node) name (kind_name (kind_of v)) (value_word v)) ≡ write (Ok (Set node name v))
set_made node name v h named_is is bytes =
    ap (λ (o : Option ℕ). answer
    (option_and_then (λ n. option_and_then (λ k. option_map (λ w. write (set_op n (name_from name) w)) (value_in k (value_word v)))
    (kind_in (kind_name (kind_of v)))) o))
    (word_of_decimal node h)
    ∙ (ap (λ (o : Option Kind). answer (option_and_then (λ k. option_map (λ w. write (set_op node (name_from name) w)) (value_in k (value_word v))) o))
    (kind_read (kind_of v))
    ∙ (ap (λ (o : Option (Result Value Refusal)). answer (option_map (λ w. write (set_op node (name_from name) w)) o)) (value_read v is bytes)
    ∙ ap (λ r. write (set_op node r (Ok v))) named_is))

set_read : (node : ℕ) (name : List ℕ) (v : Value) (last : List ℕ) → node < 2 ^ 64 → IsUtf8 name → first_word (32 ∷ last) ≡ Some (value_word v, []) →
    set_in (32 ∷ (decimal node ++ 32 ∷ (quoted_chars name ++ 32 ∷ (kind_name (kind_of v) ++ 32 ∷ last)))) ≡ set_from (decimal node) name
    (kind_name (kind_of v)) (value_word v)
set_read node name v last h u read =
    let k = kind_of v in
    let value = 32 ∷ last in
    let kind = 32 ∷ (kind_name k ++ value) in
    let words = 32 ∷ (quoted_chars name ++ kind) in
    ap (option_and_then (λ (a : List ℕ × List ℕ). option_and_then
    (λ (b : List ℕ × List ℕ). option_and_then (λ (c : List ℕ × List ℕ). set_from a.0 b.0 c.0 c.1) (two_words b.1)) (first_word a.1)))
    (number_read node words h refl)
    ∙ (ap (option_and_then (λ (b : List ℕ × List ℕ). option_and_then (λ (c : List ℕ × List ℕ). set_from (decimal node) b.0 c.0 c.1) (two_words b.1)))
    (name_read name kind u refl)
    ∙ ap (option_and_then (λ (c : List ℕ × List ℕ). set_from (decimal node) name c.0 c.1))
    (two_read kind (kind_name k) value (value_word v) (plain_read (kind_name k) value (kind_plain k) (kind_long k) refl) read))

set_asked : (node : ℕ) (name : List ℕ) (v : Value) → node < 2 ^ 64 → name_from name ≡ Ok name → IsUtf8 name → IsValue v → HasBytes v →
    asked (op_text (Set node name v)) ≡ write (Ok (Set node name v))
set_asked node name v h named_is u is bytes =
    let p = value_printed v is bytes in
    let k = kind_name (kind_of v) in
    let low = plain_low k (kind_plain (kind_of v)) in
    let value = codes " " ++ value_text v in
    let kind = codes " " ++ (k ++ value) in
    let words = codes " " ++ (quoted name ++ kind) in
    let rest = 32 ∷ (decimal node ++ 32 ∷ (quoted_chars name ++ 32 ∷ (k ++ 32 ∷ p.characters))) in
    let encoded_kind : Encodes (codes " " ++ (k ++ 32 ∷ p.characters)) kind =
    encoded_then (codes " ") refl (encoded_then k low (encoded_then (codes " ") refl p.encoded)) in
    let encoded_words : Encodes (codes " " ++ (quoted_chars name ++ 32 ∷ (k ++ 32 ∷ p.characters))) words =
    encoded_then (codes " ") refl (encoded_both (quoted_chars name) (quoted name) (32 ∷ (k ++ 32 ∷ p.characters)) kind (encoded_quoted name u) encoded_kind) in
    let ends_kind : Ends kind = ends_after (codes " ") (k ++ value) (ends_after k value (ends_after (codes " ") (value_text v) p.ends)) in
    let ends_words : Ends words = ends_after (codes " ") (quoted name ++ kind) (ends_after (quoted name) kind ends_kind) in
    asked_of (codes "set " ++ (decimal node ++ words)) (codes "set" ++ rest)
    (encoded_then (codes "set ") refl (encoded_then (decimal node) (plain_low (decimal node) (decimal_plain node h)) encoded_words))
    (ends_after (codes "set ") (decimal node ++ words) (ends_after (decimal node) words ends_words)) refl
    ∙ (command_read (codes "set") rest commands.Set refl refl refl
    ∙ (ap answer (set_read node name v p.characters h u p.read) ∙ set_made node name v h named_is is bytes))

-- a printed operation, read as a script's line, requests that operation
pub op_asked : (op : Op) → CanBeOp op → asked (op_text op) ≡ write (Ok op)
op_asked New h = new_asked
op_asked (Drop node) h = drop_asked node h.1
op_asked (Set node name value) h = set_asked node name value h.1.0 h.0.0.0 h.0.0.1 h.0.1 h.1.1
op_asked (Unset node name) h = unset_asked node name h.1 h.0.0 h.0.1
op_asked (MkIndex name kind) h = mkindex_asked name kind h.0.0 h.0.1
op_asked (RmIndex name) h = rmindex_asked name h.0.0 h.0.1
