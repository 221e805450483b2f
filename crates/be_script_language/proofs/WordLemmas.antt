-- Reads a quoted word, one character at a time.
use Rattle.std.proofs.Common.{◌≡◌, ℕ, false, List, [], ◌∷◌, ◌++◌, nat_eq, refl, sym, ap, ◌∙◌, append_assoc, Some, None}
use Rattle.std.specs.declared.option.Option.{Option}
use Rattle.std.specs.Char.{encode_utf8}
use Rattle.std.specs.Option.{option_and_then}
use Rattle.be_script_language.specs.Words.{quoted_in, beyond, meaning_of}

-- two parts of a word that have been read
pub after_both : (xs ys : List ℕ) (parts : Option (List ℕ × List ℕ)) → beyond xs (beyond ys parts) ≡ beyond (xs ++ ys) parts
after_both xs ys None = refl
after_both xs ys (Some p) = ap (λ z. Some (z, p.1)) (sym (append_assoc xs ys p.0))

-- a character other than a quote or a backslash stands for itself
pub quoted-plain : (c : ℕ) (text : List ℕ) → nat_eq c 34 ≡ false → nat_eq c 92 ≡ false → quoted_in (c ∷ text) ≡ beyond (encode_utf8 c) (quoted_in text)
quoted-plain c [] h g = rw h refl
quoted-plain c (d ∷ text) h g = rw h (rw g refl)

-- a quote ends the word
pub quoted-end : (text : List ℕ) → quoted_in (34 ∷ text) ≡ Some ([], text)
quoted-end [] = refl
quoted-end (d ∷ text) = refl

pub beyond_none : (parts : Option (List ℕ × List ℕ)) → parts ≡ beyond [] parts
beyond_none None = refl
beyond_none (Some p) = refl

-- one more character that stands for itself
pub more_plain : (text rest rest' bytes bytes' : List ℕ) (c : ℕ) → quoted_in text ≡ beyond bytes (quoted_in rest) → rest ≡ c ∷ rest' →
    nat_eq c 34 ≡ false → nat_eq c 92 ≡ false → bytes' ≡ bytes ++ encode_utf8 c → quoted_in text ≡ beyond bytes' (quoted_in rest')
more_plain text rest rest' bytes bytes' c h e quote backslash b =
    h ∙ ap (λ (z : List ℕ). beyond bytes (quoted_in z)) e ∙ ap (beyond bytes) (quoted-plain c rest' quote backslash)
    ∙ after_both bytes (encode_utf8 c) (quoted_in rest') ∙ ap (λ (z : List ℕ). beyond z (quoted_in rest')) (sym b)

-- one more character after a backslash
pub more_escaped : (text rest rest' bytes bytes' : List ℕ) (d meant : ℕ) → quoted_in text ≡ beyond bytes (quoted_in rest) → rest ≡ 92 ∷ d ∷ rest' →
    meaning_of d ≡ Some meant → bytes' ≡ bytes ++ encode_utf8 meant → quoted_in text ≡ beyond bytes' (quoted_in rest')
more_escaped text rest rest' bytes bytes' d meant h e m b =
    h ∙ ap (λ (z : List ℕ). beyond bytes (quoted_in z)) e
    ∙ ap (λ (o : Option ℕ). beyond bytes (option_and_then (λ meant. beyond (encode_utf8 meant) (quoted_in rest')) o)) m
    ∙ after_both bytes (encode_utf8 meant) (quoted_in rest') ∙ ap (λ (z : List ℕ). beyond z (quoted_in rest')) (sym b)
