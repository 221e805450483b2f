-- Kinds and values, as the words of a line encode them.
use Rattle.std.specs.Prelude.{ℕ, ◌+◌, ◌*◌, ◌-◌, ◌^◌, Bool, List, [], ◌∷◌, length, nat_eq, nat_lt}
use Rattle.std.specs.Prelude.{nat_le, ◌&&◌, if◌then◌else◌, Some, None, Ok, codes, pos, negsuc}
use Rattle.std.specs.Option.{option_and_then, option_map}
use Rattle.std.specs.Cmp.Lexicographic.{pointwise}
use Rattle.std.specs.Result.{result_map_both}
use Rattle.std.specs.declared.option.Option.{Option}
use Rattle.std.specs.declared.result.Result.{Result}
use lib.IntN.{ℤ}
use Rattle.be_value.specs.Name.{text_from, bytes_from}
use Rattle.be_value.specs.Number.{number_in, word_in}
use Rattle.be_value.specs.declared.refusals.Refusal.{Refusal}
use Rattle.be_value.specs.declared.values.Kind.{Kind}
use Rattle.be_value.specs.declared.values.Kind.TheVariants as kinds
use Rattle.be_value.specs.declared.values.Value.{Value}
use Rattle.be_value.specs.declared.values.Value.TheVariants.{Cstr, Long, Llng, Mims, Rawt, Ulng}
use Rattle.be_value.specs.declared.values.Value.TheVariants.{Ullg}

abbrev pub same : List ℕ → List ℕ → Bool
same a b = pointwise nat_eq a b

-- the kind with this name
abbrev pub kind_in : List ℕ → Option Kind
kind_in word =
    if same word (codes "CSTR") then Some kinds.Cstr
    else if same word (codes "LONG") then Some kinds.Long
    else if same word (codes "LLNG") then Some kinds.Llng
    else if same word (codes "MIMS") then Some kinds.Mims
    else if same word (codes "RAWT") then Some kinds.Rawt
    else if same word (codes "ULNG") then Some kinds.Ulng
    else if same word (codes "ULLG") then Some kinds.Ullg
    else None

-- the digits of a number, without its sign
abbrev pub unsigned_part : List ℕ → List ℕ
unsigned_part [] = []
unsigned_part (c ∷ word) = if nat_eq c 45 then word else c ∷ word

-- an optional '-' followed by 1 to 19 digits
abbrev pub signed_in : List ℕ → Option ℤ
signed_in word = if nat_le (length (unsigned_part word)) 19 then number_in word else None

-- a signed number, if it fits; with w bits, `half` is 2 to the power of w - 1
abbrev pub within : ℕ → ℤ → Option ℤ
within half (pos n) = if nat_lt n half then Some (pos n) else None
within half (negsuc n) = if nat_lt n half then Some (negsuc n) else None

abbrev pub int32_in : List ℕ → Option ℤ
int32_in word = option_and_then (within (2 ^ 31)) (signed_in word)

abbrev pub int64_in : List ℕ → Option ℤ
int64_in word = option_and_then (within (2 ^ 63)) (signed_in word)

-- the number below 2 to the power of 32 that 1 to 20 digits encode
abbrev pub uint32_in : List ℕ → Option ℕ
uint32_in word = option_and_then (λ n. if nat_lt n (2 ^ 32) then Some n else None) (word_in word)

-- the number that a hexadecimal digit of either case stands for
abbrev pub hex_digit_in : ℕ → Option ℕ
hex_digit_in c =
    if nat_le 48 c && nat_le c 57 then Some (c - 48)
    else if nat_le 97 c && nat_le c 102 then Some (c - 87)
    else if nat_le 65 c && nat_le c 70 then Some (c - 55)
    else None

-- the byte that two hexadecimal digits encode
abbrev pub byte_in : ℕ → ℕ → Option ℕ
byte_in c d = option_and_then (λ high. option_map (λ low. 16 * high + low) (hex_digit_in d))
    (hex_digit_in c)

-- the byte that the first two digits encode, and the rest of the word
abbrev pub first_byte_in : List ℕ → Option (ℕ × List ℕ)
first_byte_in [] = None
first_byte_in (c ∷ []) = None
first_byte_in (c ∷ d ∷ word) = option_map (λ byte. (byte, word)) (byte_in c d)

-- the bytes that an even number of hexadecimal digits encode
abbrev pub hex_in : List ℕ → Option (List ℕ)
hex_in [] = Some []
hex_in (c ∷ []) = None
hex_in (c ∷ d ∷ word) = option_and_then (λ byte. option_map (λ bytes. byte ∷ bytes) (hex_in word))
    (byte_in c d)

-- The value of this kind that a word encodes, or the error if no store accepts that value. None if
-- the word encodes no value of this kind.
abbrev pub value_in : Kind → List ℕ → Option (Result Value Refusal)
value_in kinds.Cstr word = Some (result_map_both Cstr (λ e. e) (text_from word))
value_in kinds.Long word = option_map (λ n. Ok (Long n)) (int32_in word)
value_in kinds.Llng word = option_map (λ n. Ok (Llng n)) (int64_in word)
value_in kinds.Mims word = Some (result_map_both Mims (λ e. e) (text_from word))
value_in kinds.Rawt word = option_map (λ bytes. result_map_both Rawt (λ e. e) (bytes_from bytes))
    (hex_in word)
value_in kinds.Ulng word = option_map (λ n. Ok (Ulng n)) (uint32_in word)
value_in kinds.Ullg word = option_map (λ n. Ok (Ullg n)) (word_in word)
