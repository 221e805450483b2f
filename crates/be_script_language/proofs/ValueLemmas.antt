-- Reads hexadecimal digits, one byte at a time.
use Rattle.std.proofs.Common.{◌≡◌, ℕ, List, [], ◌∷◌, ◌++◌, refl, sym, ap, ◌∙◌, append_assoc, Some, None}
use Rattle.std.specs.declared.option.Option.{Option}
use Rattle.std.specs.Option.{option_map, option_and_then}
use Rattle.be_script_language.specs.Values.{hex_in, first_byte_in, byte_in}

same_inside : (p q : ℕ × List ℕ) → Some p ≡ Some q → p ≡ q
same_inside p q h = cc

-- the first byte, and the bytes after it
hex-first : (rest rest' : List ℕ) (byte : ℕ) → first_byte_in rest ≡ Some (byte, rest') → hex_in rest ≡ option_map (λ bytes. byte ∷ bytes) (hex_in rest')
hex-first [] rest' byte h = cc
hex-first (c ∷ []) rest' byte h = cc
hex-first (c ∷ d ∷ word) rest' byte h = by (byte_in c d) h
  where
    by : (o : Option ℕ) → option_map {U = ℕ × List ℕ} (λ b. (b, word)) o ≡ Some (byte, rest') →
        option_and_then (λ byte. option_map (λ bytes. byte ∷ bytes) (hex_in word)) o ≡ option_map (λ bytes. byte ∷ bytes) (hex_in rest')
    by None g = cc
    by (Some b) g = ap (λ (p : ℕ × List ℕ). option_map (λ bytes. p.0 ∷ bytes) (hex_in p.1)) (same_inside (b, word) (byte, rest') g)

-- bytes, followed by a byte and then by more bytes
before_both : (bytes : List ℕ) (byte : ℕ) (more : Option (List ℕ)) →
    option_map (λ ys. bytes ++ ys) (option_map (λ ys. byte ∷ ys) more) ≡ option_map (λ ys. (bytes ++ byte ∷ []) ++ ys) more
before_both bytes byte None = refl
before_both bytes byte (Some ys) = ap Some (sym (append_assoc bytes (byte ∷ []) ys))

-- one more byte
pub more_bytes : (word rest rest' bytes bytes' : List ℕ) (byte : ℕ) → hex_in word ≡ option_map (λ more. bytes ++ more) (hex_in rest) →
    first_byte_in rest ≡ Some (byte, rest') → bytes' ≡ bytes ++ byte ∷ [] → hex_in word ≡ option_map (λ more. bytes' ++ more) (hex_in rest')
more_bytes word rest rest' bytes bytes' byte h e b =
    h ∙ ap (option_map (λ more. bytes ++ more)) (hex-first rest rest' byte e) ∙ before_both bytes byte (hex_in rest')
    ∙ ap (λ (z : List ℕ). option_map (λ more. z ++ more) (hex_in rest')) (sym b)
