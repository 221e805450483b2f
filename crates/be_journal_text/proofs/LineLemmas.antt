-- Printed lines, and how they are taken apart.
use Rattle.std.proofs.Common.{◌≡◌, ℕ, suc, ◌+◌, ◌-◌, ◌^◌, ◌<◌, ◌/◌, ◌%◌, true, false, List, [], ◌∷◌, ◌++◌, length, length-append, take, drop, nat_eq, All, codes, refl, sym, ap, ◌∙◌, subst, arith, append_assoc, pos, negsuc}
use Rattle.std.proofs.lemmas.Bool.Decides.{nat_tests}
use Rattle.std.proofs.lemmas.Bool.{and_parts}
use Rattle.std.proofs.lemmas.List.{append-nil, take-append-le, take_all}
use Rattle.std.proofs.lemmas.List.Concat.{flat_map-cons}
use Rattle.std.proofs.lemmas.List.Elements.{All-head, All-tail}
use Rattle.std.specs.Char.{is_ascii_digit}
use Rattle.std.specs.Fmt.{decimal}
use Rattle.std.specs.List.{list_all, flat_map, join_by}
use Rattle.std.specs.Str.{all_ascii_digits}
use Rattle.be_value.specs.Key.{IsValue}
use Rattle.be_value.specs.Value.{kind_of, kind_name}
use Rattle.be_value.specs.declared.values.Kind.{Kind}
use Rattle.be_value.specs.declared.values.Kind.TheVariants as kinds
use Rattle.be_value.specs.declared.values.Value.{Value}
use Rattle.be_value.specs.declared.values.Value.TheVariants.{Cstr, Long, Llng, Mims, Rawt, Ulng, Ullg}
use Rattle.be_volume.specs.declared.ops.Done.{Done}
use Rattle.be_volume.specs.declared.ops.Done.TheVariants.{Node, Unit as Nothing}
use Rattle.be_volume.specs.declared.ops.Op.{Op}
use Rattle.be_volume.specs.declared.ops.Op.TheVariants.{New, Drop, Set, Unset, MkIndex, RmIndex}
use Rattle.be_journal.specs.declared.entries.Entry.{Entry}
use Rattle.be_journal.specs.Text.{done_text, entry_line, hex, hex_digit, op_text, quoted, value_text}
use Rattle.be_entry_bytes.specs.Encoding.{CanBeDone}
use Rattle.be_journal_text.specs.History.{CanBeOp, HasBytes, CanBeEntry}
use Rattle.be_journal_text.specs.Parts.{IsLinePart}
use Rattle.be_journal_text.proofs.Cuts.{after, before, after_by, after_line, after_number, by_part, done_in, outcomes_part, first_line, ops_part, without_last_two}
use Rattle.be_journal_text.proofs.NumberLemmas.{decimal_digits, word_of_decimal}
use Rattle.be_journal_text.proofs.PartLemmas.{both_parts, bytes_part, hex_part, is_word_byte, no_part, part_before, part_whole, quoted_part, unlike, words_part}

digit_word : (c : ℕ) → is_ascii_digit c ≡ true → is_word_byte c ≡ true
digit_word c h = grind (arith, nat_tests, h)

digits_words : (ds : List ℕ) → all_ascii_digits ds ≡ true → list_all is_word_byte ds ≡ true
digits_words [] h = refl
digits_words (d ∷ ds) h =
    let p = and_parts (is_ascii_digit d) (all_ascii_digits ds) h in
    rw (digit_word d p.0) (digits_words ds p.1)

hex_digit_word : (n : ℕ) → n < 16 → is_word_byte (hex_digit n) ≡ true
hex_digit_word n h = grind (arith, nat_tests, h)

pub hex_words : (bytes : List ℕ) → All (λ b. b < 2 ^ 8) bytes → list_all is_word_byte (hex bytes) ≡ true
hex_words [] h = refl
hex_words (b ∷ bytes) h =
    let small : b < 256 = All-head (λ b. b < 2 ^ 8) b bytes h in
    let more = hex_words bytes (All-tail (λ b. b < 2 ^ 8) b bytes h) in
    let high : b / 16 < 16 = omega (arith, small) in
    let low : b % 16 < 16 = omega arith in
    ap (list_all is_word_byte) (flat_map-cons (λ b. hex_digit (b / 16) ∷ hex_digit (b % 16) ∷ []) b bytes)
    ∙ rw (hex_digit_word (b / 16) high) (rw (hex_digit_word (b % 16) low) more)

-- a digit differs from any byte that isn't a digit
pub differs : (d end : ℕ) → is_ascii_digit d ≡ true → is_ascii_digit end ≡ false → nat_eq d end ≡ false
differs d end h g = unlike is_ascii_digit d end h g

-- Parts of a line, for an `end` that is neither a byte of words nor a quote.
module _ (end : ℕ) (g : is_word_byte end ≡ false) (other : nat_eq 34 end ≡ false) where
  decimal_part : (n : ℕ) → n < 2 ^ 64 → IsLinePart end (decimal n)
  decimal_part n h = words_part end (decimal n) g (digits_words (decimal n) (decimal_digits n h))

  kind_part : (k : Kind) → IsLinePart end (kind_name k)
  kind_part kinds.Cstr = words_part end (kind_name kinds.Cstr) g refl
  kind_part kinds.Long = words_part end (kind_name kinds.Long) g refl
  kind_part kinds.Llng = words_part end (kind_name kinds.Llng) g refl
  kind_part kinds.Mims = words_part end (kind_name kinds.Mims) g refl
  kind_part kinds.Rawt = words_part end (kind_name kinds.Rawt) g refl
  kind_part kinds.Ulng = words_part end (kind_name kinds.Ulng) g refl
  kind_part kinds.Ullg = words_part end (kind_name kinds.Ullg) g refl

  blank_part : (text : List ℕ) → IsLinePart end text → IsLinePart end (codes " " ++ text)
  blank_part text h = both_parts end (codes " ") text (words_part end (codes " ") g refl) h

  value_part : (v : Value) → IsValue v → HasBytes v → IsLinePart end (value_text v)
  value_part (Cstr text) is bytes = quoted_part end text other
  value_part (Long (pos n)) is bytes = decimal_part n (omega (arith, is))
  value_part (Long (negsuc n)) is bytes = both_parts end (45 ∷ []) (decimal (suc n)) (words_part end (45 ∷ []) g refl)
      (decimal_part (suc n) (omega (arith, is)))
  value_part (Llng (pos n)) is bytes = decimal_part n (omega (arith, is))
  value_part (Llng (negsuc n)) is bytes = both_parts end (45 ∷ []) (decimal (suc n)) (words_part end (45 ∷ []) g refl)
      (decimal_part (suc n) (omega (arith, is)))
  value_part (Mims text) is bytes = quoted_part end text other
  value_part (Rawt raw) is bytes = hex_part end (hex raw) other (hex_words raw bytes)
  value_part (Ulng n) is bytes = decimal_part n (omega (arith, is))
  value_part (Ullg n) is bytes = decimal_part n is

  pub op_part : (op : Op) → CanBeOp op → IsLinePart end (op_text op)
  op_part New h = words_part end (codes "new") g refl
  op_part (Drop node) h = both_parts end (codes "drop ") (decimal node) (words_part end (codes "drop ") g refl) (decimal_part node h.1)
  op_part (Set node name value) h =
      both_parts end (codes "set ") _ (words_part end (codes "set ") g refl) (both_parts end (decimal node) _ (decimal_part node h.1.0)
      (blank_part _ (both_parts end (quoted name) _ (quoted_part end name other)
      (blank_part _ (both_parts end (kind_name (kind_of value)) _ (kind_part (kind_of value))
      (blank_part (value_text value) (value_part value h.0.1 h.1.1)))))))
  op_part (Unset node name) h =
      both_parts end (codes "unset ") _ (words_part end (codes "unset ") g refl)
      (both_parts end (decimal node) _ (decimal_part node h.1) (blank_part (quoted name) (quoted_part end name other)))
  op_part (MkIndex name kind) h =
      both_parts end (codes "mkindex ") _ (words_part end (codes "mkindex ") g refl)
      (both_parts end (quoted name) _ (quoted_part end name other) (blank_part (kind_name kind) (kind_part kind)))
  op_part (RmIndex name) h = both_parts end (codes "rmindex ") (quoted name) (words_part end (codes "rmindex ") g refl) (quoted_part end name other)

  pub done_part : (done : Done) → CanBeDone done → IsLinePart end (done_text done)
  done_part (Node node) h = both_parts end (codes "node ") (decimal node) (words_part end (codes "node ") g refl) (decimal_part node h)
  done_part Nothing h = words_part end (codes "ok") g refl

  -- Strings joined by `; ` are a part if another byte ends it.
  pub joined_part : {X : Type 0} (P : X → Type 0) (text_of : X → List ℕ) → ((x : X) → P x → IsLinePart end (text_of x)) → IsLinePart end (codes "; ") →
      (xs : List X) → All P xs →
      IsLinePart end (flat_map (λ y. codes "; " ++ text_of y) xs)
  joined_part P text_of each parted [] h = no_part end
  joined_part P text_of each parted (x ∷ xs) h =
      subst (λ (l : List ℕ). IsLinePart end l) (sym (flat_map-cons (λ y. codes "; " ++ text_of y) x xs))
      (both_parts end (codes "; " ++ text_of x) _ (both_parts end (codes "; ") (text_of x) parted (each x (All-head P x xs h)))
      (joined_part P text_of each parted xs (All-tail P x xs h)))

-- a printed outcome is read back unchanged
pub done_read : (done : Done) → CanBeDone done → done_in (done_text done) ≡ done
done_read (Node node) h = rw (word_of_decimal node h) refl
done_read Nothing h = refl

pub take_length : (xs : List ℕ) → take (length xs) xs ≡ xs
take_length xs = take_all (length xs) xs (omega arith)

drop_length : (xs : List ℕ) → drop (length xs) xs ≡ []
drop_length [] = refl
drop_length (x ∷ xs) = drop_length xs

pub take_front : (xs ys : List ℕ) → take (length xs) (xs ++ ys) ≡ xs
take_front xs ys = take-append-le (length xs) xs ys (omega arith) ∙ take_length xs

pub drop_front : (xs ys : List ℕ) → drop (length xs) (xs ++ ys) ≡ ys
drop_front [] ys = refl
drop_front (x ∷ xs) ys = drop_front xs ys

pub drop_one_more : (xs ys : List ℕ) (c : ℕ) → drop (length xs + 1) (xs ++ c ∷ ys) ≡ ys
drop_one_more [] ys c = refl
drop_one_more (x ∷ xs) ys c =
    let one : length (x ∷ xs) + 1 ≡ suc (length xs + 1) = omega arith in
    ap (λ n. drop n (x ∷ (xs ++ c ∷ ys))) one ∙ drop_one_more xs ys c

pub take_one_more : (xs ys : List ℕ) (c : ℕ) → take (length xs + 1) (xs ++ c ∷ ys) ≡ xs ++ c ∷ []
take_one_more [] ys c = refl
take_one_more (x ∷ xs) ys c =
    let one : length (x ∷ xs) + 1 ≡ suc (length xs + 1) = omega arith in
    ap (λ n. take n (x ∷ (xs ++ c ∷ ys))) one ∙ ap (λ l. x ∷ l) (take_one_more xs ys c)

pub drop_past : (xs : List ℕ) → drop (length xs + 1) xs ≡ []
drop_past [] = refl
drop_past (x ∷ xs) =
    let one : length (x ∷ xs) + 1 ≡ suc (length xs + 1) = omega arith in
    ap (λ n. drop n (x ∷ xs)) one ∙ drop_past xs

-- the text before an end that follows a part, and the text after it
pub before_end : (end : ℕ) (xs ys : List ℕ) → IsLinePart end xs → before end (xs ++ end ∷ ys) ≡ xs
before_end end xs ys h = ap (λ n. take n (xs ++ end ∷ ys)) (part_before end xs ys h) ∙ take_front xs (end ∷ ys)

pub after_end : (end : ℕ) (xs ys : List ℕ) → IsLinePart end xs → after end (xs ++ end ∷ ys) ≡ ys
after_end end xs ys h = ap (λ n. drop (n + 1) (xs ++ end ∷ ys)) (part_before end xs ys h) ∙ drop_one_more xs ys end

-- `before_end` for a part without an end after it
pub before_none : (end : ℕ) (xs : List ℕ) → IsLinePart end xs → before end xs ≡ xs
before_none end xs h = ap (λ n. take n xs) (part_whole end xs h) ∙ take_length xs

pub after_none : (end : ℕ) (xs : List ℕ) → IsLinePart end xs → after end xs ≡ []
after_none end xs h = ap (λ n. drop (n + 1) xs) (part_whole end xs h) ∙ drop_past xs

-- the first of several strings joined by `; `
pub first_joined : {X : Type 0} (text_of : X → List ℕ) (x : X) (xs : List X) → IsLinePart 59 (text_of x) →
    before 59 (join_by text_of (codes "; ") (x ∷ xs)) ≡ text_of x
first_joined text_of x [] h = ap (before 59) (append-nil (text_of x)) ∙ before_none 59 (text_of x) h
first_joined text_of x (y ∷ ys) h =
    let more = flat_map (λ z. codes "; " ++ text_of z) ys in
    ap (λ l. before 59 (text_of x ++ l)) (flat_map-cons (λ z. codes "; " ++ text_of z) y ys) ∙ before_end 59 (text_of x) (32 ∷ (text_of y ++ more)) h

-- the other texts
pub rest_joined : {X : Type 0} (text_of : X → List ℕ) (x : X) (xs : List X) → IsLinePart 59 (text_of x) →
    drop 1 (after 59 (join_by text_of (codes "; ") (x ∷ xs))) ≡ join_by text_of (codes "; ") xs
rest_joined text_of x [] h = ap (λ l. drop 1 (after 59 l)) (append-nil (text_of x)) ∙ ap (drop 1) (after_none 59 (text_of x) h)
rest_joined text_of x (y ∷ ys) h =
    let more = flat_map (λ z. codes "; " ++ text_of z) ys in
    ap (λ l. drop 1 (after 59 (text_of x ++ l))) (flat_map-cons (λ z. codes "; " ++ text_of z) y ys)
    ∙ ap (drop 1) (after_end 59 (text_of x) (32 ∷ (text_of y ++ more)) h)

-- strings joined by `; ` are a part if another byte ends it
pub list_part : {X : Type 0} (end : ℕ) (P : X → Type 0) (text_of : X → List ℕ) → is_word_byte end ≡ false → nat_eq 34 end ≡ false →
    ((x : X) → P x → IsLinePart end (text_of x)) → IsLinePart end (codes "; ") → (xs : List X) → All P xs →
    IsLinePart end (join_by text_of (codes "; ") xs)
list_part end P text_of g other each parted [] h = no_part end
list_part end P text_of g other each parted (x ∷ xs) h =
    both_parts end (text_of x) _ (each x (All-head P x xs h)) (joined_part end g other P text_of each parted xs (All-tail P x xs h))

-- digits are a part, even before a space
pub digits_part : (end : ℕ) (ds : List ℕ) → is_ascii_digit end ≡ false → all_ascii_digits ds ≡ true → IsLinePart end ds
digits_part end [] g h = no_part end
digits_part end (d ∷ ds) g h =
    let p = and_parts (is_ascii_digit d) (all_ascii_digits ds) h in
    both_parts end (d ∷ []) ds (bytes_part end (d ∷ []) (rw (differs d end p.0 g) (rw (differs d 34 p.0 refl) refl))) (digits_part end ds g p.1)

-- the first line of a text
pub first_taken : (xs ys : List ℕ) → IsLinePart 10 xs → first_line (xs ++ 10 ∷ ys) ≡ xs ++ 10 ∷ []
first_taken xs ys h = ap (λ n. take (n + 1) (xs ++ 10 ∷ ys)) (part_before 10 xs ys h) ∙ take_one_more xs ys 10

-- The parts of an entry's line.
module _ (number : ℕ) (entry : Entry) (w : CanBeEntry entry) where
  abbrev pub ops_of : List ℕ
  ops_of = join_by op_text (codes "; ") entry.ops

  abbrev pub outcomes_of : List ℕ
  outcomes_of = join_by done_text (codes "; ") entry.dones

  abbrev pub after_arrow : List ℕ
  after_arrow = outcomes_of ++ codes "\n"

  abbrev pub after_pass : List ℕ
  after_pass = ops_of ++ (codes " -> " ++ after_arrow)

  number_taken : after_number number (entry_line number entry) ≡ decimal entry.by ++ 32 ∷ after_pass
  number_taken =
      ap (drop (length (decimal number ++ codes " by "))) (sym (append_assoc (decimal number) (codes " by ") (decimal entry.by ++ 32 ∷ after_pass)))
      ∙ drop_front (decimal number ++ codes " by ") (decimal entry.by ++ 32 ∷ after_pass)

  pub pass_part : IsLinePart 32 (decimal entry.by)
  pass_part = digits_part 32 (decimal entry.by) refl (decimal_digits entry.by w.by)

  pub by_read : by_part number (entry_line number entry) ≡ decimal entry.by
  by_read = ap (before 32) number_taken ∙ before_end 32 (decimal entry.by) after_pass pass_part

  by_taken : after_by number (entry_line number entry) ≡ after_pass
  by_taken = ap (after 32) number_taken ∙ after_end 32 (decimal entry.by) after_pass pass_part

  pub before_arrow : IsLinePart 62 (ops_of ++ codes " -")
  before_arrow = both_parts 62 ops_of (codes " -")
      (list_part 62 CanBeOp op_text refl refl (λ op h. op_part 62 refl refl op h) (bytes_part 62 (codes "; ") refl)
      entry.ops w.ops)
      (words_part 62 (codes " -") refl refl)

  pub arrow_split : after_pass ≡ (ops_of ++ codes " -") ++ 62 ∷ 32 ∷ after_arrow
  arrow_split = sym (append_assoc ops_of (codes " -") (62 ∷ 32 ∷ after_arrow))

  pub less_two : (xs : List ℕ) → without_last_two (xs ++ codes " -") ≡ xs
  less_two xs =
      let exact : length (xs ++ codes " -") - 2 ≡ length xs = omega (arith, length-append xs (codes " -")) in
      ap (λ n. take n (xs ++ codes " -")) exact ∙ take_front xs (codes " -")

  pub ops_read : ops_part number (entry_line number entry) ≡ join_by op_text (codes "; ") entry.ops
  ops_read = ap (λ l. without_last_two (before 62 l)) (by_taken ∙ arrow_split)
      ∙ (ap without_last_two (before_end 62 (ops_of ++ codes " -") (32 ∷ after_arrow) before_arrow) ∙ less_two ops_of)

  pub answers_part : IsLinePart 10 outcomes_of
  answers_part = list_part 10 CanBeDone done_text refl refl (λ done h. done_part 10 refl refl done h)
      (bytes_part 10 (codes "; ") refl) entry.dones w.dones

  pub outcomes_read : outcomes_part number (entry_line number entry) ≡ join_by done_text (codes "; ") entry.dones
  outcomes_read = ap (λ l. before 10 (drop 1 (after 62 l))) (by_taken ∙ arrow_split)
      ∙ (ap (λ l. before 10 (drop 1 l)) (after_end 62 (ops_of ++ codes " -") (32 ∷ after_arrow) before_arrow) ∙ before_end 10 outcomes_of [] answers_part)

  -- the line is a part that its LF ends
  abbrev pub body : List ℕ
  body = decimal number ++ (codes " by " ++ (decimal entry.by ++ (codes " " ++ (ops_of ++ (codes " -> " ++ outcomes_of)))))

  pub body_line : entry_line number entry ≡ body ++ 10 ∷ []
  body_line =
      let a = append_assoc (codes " -> ") outcomes_of (10 ∷ []) in
      sym (append_assoc (decimal number) _ (10 ∷ []) ∙ ap (λ l. decimal number ++ (codes " by " ++ l)) (append_assoc (decimal entry.by) _ (10 ∷ [])
      ∙ ap (λ l. decimal entry.by ++ (codes " " ++ l)) (append_assoc ops_of _ (10 ∷ []) ∙ ap (λ l. ops_of ++ l) a)))

  pub body_part : number < 2 ^ 64 → IsLinePart 10 body
  body_part h =
      both_parts 10 (decimal number) _ (digits_part 10 (decimal number) refl (decimal_digits number h))
      (both_parts 10 (codes " by ") _ (words_part 10 (codes " by ") refl refl)
      (both_parts 10 (decimal entry.by) _ (digits_part 10 (decimal entry.by) refl (decimal_digits entry.by w.by))
      (both_parts 10 (codes " ") _ (words_part 10 (codes " ") refl refl)
      (both_parts 10 ops_of _
      (list_part 10 CanBeOp op_text refl refl (λ op k. op_part 10 refl refl op k) (bytes_part 10 (codes "; ") refl)
      entry.ops w.ops)
      (both_parts 10 (codes " -> ") outcomes_of (bytes_part 10 (codes " -> ") refl) answers_part)))))

  -- the first line of a text that begins with this line, and the text after it
  pub line_first : number < 2 ^ 64 → (more : List ℕ) → first_line (entry_line number entry ++ more) ≡ entry_line number entry
  line_first h more =
      let whole : entry_line number entry ++ more ≡ body ++ 10 ∷ more = ap (λ l. l ++ more) body_line ∙ append_assoc body (10 ∷ []) more in
      ap first_line whole ∙ (first_taken body more (body_part h) ∙ sym body_line)

  pub line_after : number < 2 ^ 64 → (more : List ℕ) → after_line (entry_line number entry ++ more) ≡ more
  line_after h more =
      let whole : entry_line number entry ++ more ≡ body ++ 10 ∷ more = ap (λ l. l ++ more) body_line ∙ append_assoc body (10 ∷ []) more in
      ap after_line whole ∙ after_end 10 body more (body_part h)
