-- The words of a line. Here a line is a list of characters, and a word is a list of bytes.
use Rattle.std.specs.Prelude.{ℕ, Bool, true, List, [], ◌∷◌, ◌++◌, length, nat_eq, take, drop}
use Rattle.std.specs.Prelude.{position, unwrap_or, ◌||◌, if◌then◌else◌, Some, None}
use Rattle.std.specs.List.{list_all, flat_map}
use Rattle.std.specs.Option.{option_and_then, option_map}
use Rattle.std.specs.Char.{encode_utf8}
use Rattle.std.specs.declared.option.Option.{Option}

-- a space or a tab
abbrev pub is_blank : ℕ → Bool
is_blank c = nat_eq c 32 || nat_eq c 9

-- the text consists of only blanks
abbrev pub is_empty : List ℕ → Bool
is_empty text = list_all is_blank text

-- a text without the blanks at its start
abbrev pub skip : List ℕ → List ℕ
skip [] = []
skip (c ∷ text) = if is_blank c then skip text else c ∷ text

-- the position of the first blank, or the length if there is no blank
abbrev pub end_of_word : List ℕ → ℕ
end_of_word text = unwrap_or (position is_blank text) (length text)

-- the UTF-8 bytes of a text
abbrev pub bytes_of : List ℕ → List ℕ
bytes_of text = flat_map encode_utf8 text

-- the text after the blanks, up to the line's end
abbrev pub text_in : List ℕ → List ℕ
text_in rest = bytes_of (skip rest)

-- the character that a backslash and this character stand for in a quoted word
abbrev pub meaning_of : ℕ → Option ℕ
meaning_of c =
    if nat_eq c 34 then Some 34
    else if nat_eq c 92 then Some 92
    else if nat_eq c 110 then Some 10
    else if nat_eq c 114 then Some 13
    else None

-- a word with these bytes added at its start, and the text after it
abbrev pub beyond : List ℕ → Option (List ℕ × List ℕ) → Option (List ℕ × List ℕ)
beyond bytes parts = option_map (λ p. (bytes ++ p.0, p.1)) parts

-- after an opening quote: the text that the quoted word stands for, and the text after the closing
-- quote
abbrev pub quoted_in : List ℕ → Option (List ℕ × List ℕ)
quoted_in [] = None
quoted_in (c ∷ []) = if nat_eq c 34 then Some ([], []) else None
quoted_in (c ∷ d ∷ text) =
    if nat_eq c 34 then Some ([], d ∷ text)
    else if nat_eq c 92 then option_and_then (λ meant. beyond (encode_utf8 meant) (quoted_in text))
    (meaning_of d)
    else beyond (encode_utf8 c) (quoted_in (d ∷ text))

-- a word may end before this text
abbrev pub ends_word : List ℕ → Bool
ends_word [] = true
ends_word (c ∷ text) = is_blank c

abbrev pub if_ended : List ℕ × List ℕ → Option (List ℕ × List ℕ)
if_ended parts = if ends_word parts.1 then Some parts else None

-- the word at the start of a text, and the text after it; None if there is no word, or if it is
-- malformed
abbrev pub word_at : List ℕ → Option (List ℕ × List ℕ)
word_at [] = None
word_at (c ∷ text) =
    if nat_eq c 34 then option_and_then if_ended (quoted_in text)
    else Some (
      bytes_of (take (end_of_word (c ∷ text)) (c ∷ text)),
      drop (end_of_word (c ∷ text)) (c ∷ text),
    )

-- the first word of a text, and the text after it
abbrev pub first_word : List ℕ → Option (List ℕ × List ℕ)
first_word text = word_at (skip text)

-- the word of a text that has exactly one word
abbrev pub one_word : List ℕ → Option (List ℕ)
one_word text = option_and_then (λ first. if is_empty first.1 then Some first.0 else None)
    (first_word text)

-- the words of a text that has exactly two words
abbrev pub two_words : List ℕ → Option (List ℕ × List ℕ)
two_words text = option_and_then (λ first. option_map (λ second. (first.0, second))
    (one_word first.1)) (first_word text)
