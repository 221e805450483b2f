-- The position of the journal in an output.
use Rattle.std.proofs.Common.{◌≡◌, ◌⊎◌, inl, inr, ⊎_elim, ℕ, ◌+◌, ◌-◌, ◌^◌, ◌<◌, ◌≤◌, Bool, true, false, not, ◌&&◌, List, [], ◌∷◌, ◌++◌, length, length-append, take, drop, nat_eq, All, IfOk, IfSome, Some, None, if◌then◌else◌, codes, refl, sym, ap, ◌∙◌, append_assoc, arith}
use Rattle.std.proofs.lemmas.Bool.{and_parts}
use Rattle.std.proofs.lemmas.Fmt.{decimal_nonempty}
use Rattle.std.proofs.lemmas.List.{append-nil}
use Rattle.std.proofs.lemmas.List.Elements.{All-head, All-tail}
use Rattle.std.proofs.lemmas.Option.{IfSome_then}
use Rattle.std.proofs.lemmas.Result.{IfOk-weaker}
use Rattle.std.specs.Char.{is_ascii_digit}
use Rattle.std.specs.Fmt.{decimal}
use Rattle.std.specs.List.{list_all}
use Rattle.std.specs.Option.{option_map}
use Rattle.std.specs.Str.{all_ascii_digits}
use Rattle.std.specs.declared.option.Option.{Option}
use Rattle.std.specs.declared.result.Result.{Result}
use Rattle.be_journal.specs.Text.{entry_line, lines_from, result_text}
use Rattle.be_journal.specs.declared.entries.Entry.{Entry}
use Rattle.be_journal_text.specs.Finding.{AreLines, IsFromJ, IsFromLastJ, TextReports, head}
use Rattle.be_journal_text.specs.History.{CanBeJournal, CanBeEntry}
use Rattle.be_journal_text.specs.Parts.{IsLinePart}
use Rattle.be_journal_text.proofs.Cuts.{after_line, first_line}
use Rattle.be_journal_text.proofs.LineLemmas.{after_end, body, body_line, body_part, differs, digits_part, drop_front, first_taken, take_front}
use Rattle.be_journal_text.proofs.NumberLemmas.{decimal_digits}
use Rattle.be_journal_text.proofs.PartLemmas.{both_parts, in_line, part_line, same_byte, words_part}
use Rattle.be_journal_text.proofs.ReadLemmas.{inside, never_some}
use Rattle.be_journal_text.proofs.SameLemmas.{same_lines}

-- the first of the two that isn't None
abbrev pub or_else : Option (List ℕ) → Option (List ℕ) → Option (List ℕ)
or_else (Some text) other = Some text
or_else None other = other

-- the text from its last line that begins with `j`; the flag says whether the text begins at the
-- start of a line
abbrev pub from_last_j : Bool → List ℕ → Option (List ℕ)
from_last_j start [] = None
from_last_j start (c ∷ text) = or_else (from_last_j (nat_eq c 10) text) (if start && nat_eq c 106 then Some (c ∷ text) else None)

none_else : (o : Option (List ℕ)) → or_else o None ≡ o
none_else None = refl
none_else (Some text) = refl

not_so : (b : Bool) → not b ≡ true → b ≡ false
not_so false h = refl
not_so true h = cc

-- no line begins inside a line
along : (w rest : List ℕ) → list_all in_line w ≡ true → from_last_j false (w ++ rest) ≡ from_last_j false rest
along [] rest h = refl
along (c ∷ w) rest h =
    let p = and_parts (in_line c) (list_all in_line w) h in
    none_else (from_last_j (nat_eq c 10) (w ++ rest)) ∙ (ap (λ b. from_last_j b (w ++ rest)) (not_so (nat_eq c 10) p.0) ∙ along w rest p.1)

line_passed : (d : ℕ) (w rest : List ℕ) → nat_eq d 106 ≡ false → list_all in_line (d ∷ w) ≡ true →
    from_last_j true (d ∷ (w ++ 10 ∷ rest)) ≡ from_last_j true rest
line_passed d w rest other h =
    let p = and_parts (in_line d) (list_all in_line w) h in
    let text = w ++ 10 ∷ rest in
    ap (λ b. or_else (from_last_j (nat_eq d 10) text) (if b then Some (d ∷ text) else None)) other
    ∙ (none_else (from_last_j (nat_eq d 10) text)
    ∙ (ap (λ b. from_last_j b text) (not_so (nat_eq d 10) p.0) ∙ (along w (10 ∷ rest) p.1 ∙ none_else (from_last_j true rest))))

-- a line that begins with a number
numbered_passed : (ds more rest : List ℕ) → all_ascii_digits ds ≡ true → 1 ≤ length ds → list_all in_line (ds ++ more) ≡ true →
    from_last_j true ((ds ++ more) ++ 10 ∷ rest) ≡ from_last_j true rest
numbered_passed [] more rest digits some h = absurd (omega (arith, some))
numbered_passed (d ∷ ds) more rest digits some h = line_passed d (ds ++ more) rest
    (differs d 106 (and_parts (is_ascii_digit d) (all_ascii_digits ds) digits).0 refl) h

lines_passed : (n : ℕ) (es : List Entry) (rest : List ℕ) → All CanBeEntry es → n + length es ≤ 2 ^ 64 →
    from_last_j true (lines_from n es ++ rest) ≡ from_last_j true rest
lines_passed n [] rest h few = refl
lines_passed n (e ∷ es) rest h few =
    let w = All-head CanBeEntry e es h in
    let small : n < 2 ^ 64 = omega (arith, few) in
    let fewer : n + 1 + length es ≤ 2 ^ 64 = omega (arith, few) in
    let more = lines_from (n + 1) es ++ rest in
    let split : lines_from n (e ∷ es) ++ rest ≡ body n e w ++ 10 ∷ more =
    append_assoc (entry_line n e) (lines_from (n + 1) es) rest ∙ (ap (λ l. l ++ more) (body_line n e w) ∙ append_assoc (body n e w) (10 ∷ []) more) in
    let part = body_part n e w small in
    ap (from_last_j true) split
    ∙ (numbered_passed (decimal n) _ more (decimal_digits n small) (decimal_nonempty n small) (part_line _ part)
    ∙ lines_passed (n + 1) es rest (All-tail CanBeEntry e es h) fewer)

-- no line of a journal's text begins with `j`
pub none_in_lines : (es : List Entry) → CanBeJournal es → from_last_j true (lines_from 1 es) ≡ None
none_in_lines es are = ap (from_last_j true) (sym (append-nil (lines_from 1 es))) ∙ lines_passed 1 es [] are.0 (omega (arith, are.1))

-- a race's result begins with the last line that begins with `j`
result_is_last : (es : List Entry) → CanBeJournal es → from_last_j true (result_text es) ≡ Some (result_text es)
result_is_last es are =
    let n = length es in
    let small : n < 2 ^ 64 = omega (arith, are.1) in
    let lines = lines_from 1 es ++ codes "replay ok\n" in
    let digits = digits_part 10 (decimal n) refl (decimal_digits n small) in
    let none : from_last_j false ((codes "ournal " ++ (decimal n ++ 10 ∷ [])) ++ lines) ≡ None =
    along (codes "ournal ") ((decimal n ++ 10 ∷ []) ++ lines) refl
    ∙ (ap (from_last_j false) (append_assoc (decimal n) (10 ∷ []) lines)
    ∙ (along (decimal n) (10 ∷ lines) (part_line (decimal n) digits) ∙ (none_else (from_last_j true lines)
    ∙ lines_passed 1 es (codes "replay ok\n") are.0 (omega (arith, are.1))))) in
    ap (λ o. or_else o (Some (result_text es))) none

-- whether a line begins after these bytes
abbrev start_beyond : Bool → List ℕ → Bool
start_beyond start [] = start
start_beyond start (c ∷ text) = start_beyond (nat_eq c 10) text

beyond_front : (start : Bool) (front text result : List ℕ) → from_last_j (start_beyond start front) text ≡ Some result →
    from_last_j start (front ++ text) ≡ Some result
beyond_front start [] text result h = h
beyond_front start (c ∷ front) text result h =
    ap (λ o. or_else o (if start && nat_eq c 106 then Some (c ∷ (front ++ text)) else None)) (beyond_front (nat_eq c 10) front text result h)

starts_beyond : (start : Bool) (front : List ℕ) → start_beyond start (front ++ 10 ∷ []) ≡ true
starts_beyond start [] = refl
starts_beyond start (c ∷ front) = starts_beyond (nat_eq c 10) front

starts_after_lines : (front : List ℕ) → AreLines front → start_beyond true front ≡ true
starts_after_lines front (inl none) = ap (start_beyond true) none
starts_after_lines front (inr some) = ap (start_beyond true) some.1 ∙ starts_beyond true some.0

last_byte : (start : Bool) (c : ℕ) (text : List ℕ) → start_beyond start (c ∷ text) ≡ true → (front : List ℕ) × (c ∷ text ≡ front ++ 10 ∷ [])
last_byte start c [] h = ([], ap (λ d. d ∷ []) (same_byte c 10 h))
last_byte start c (d ∷ text) h = let more = last_byte (nat_eq c 10) d text h in (c ∷ more.0, ap (λ l. c ∷ l) more.1)

are_lines : (front : List ℕ) → start_beyond true front ≡ true → AreLines front
are_lines [] h = inl refl
are_lines (c ∷ text) h = inr (last_byte true c text h)

-- the position at which the line was found
abbrev IsBeyond : Bool → List ℕ → List ℕ → Type 0
IsBeyond start text result = (front : List ℕ) × (more : List ℕ) × (start_beyond start front ≡ true) × (text ≡ front ++ result) × (result ≡ 106 ∷ more)

found_here : (start : Bool) (c : ℕ) (text result : List ℕ) → (b : Bool) → (start && nat_eq c 106) ≡ b →
    (if b then Some (c ∷ text) else None) ≡ Some result → IsBeyond start (c ∷ text) result
found_here start c text result true e h =
    let p = and_parts start (nat_eq c 106) e in
    let is = inside (c ∷ text) result h in
    ([], text, p.0, is, sym is ∙ ap (λ d. d ∷ text) (same_byte c 106 p.1))
found_here start c text result false e h = never_some result h

found_in : (start : Bool) (c : ℕ) (text result : List ℕ) (o : Option (List ℕ)) → o ≡ from_last_j (nat_eq c 10) text →
    (from_last_j (nat_eq c 10) text ≡ Some result → IsBeyond (nat_eq c 10) text result) →
    or_else o (if start && nat_eq c 106 then Some (c ∷ text) else None) ≡ Some result → IsBeyond start (c ∷ text) result
found_in start c text result None e again h = found_here start c text result (start && nat_eq c 106) refl h
found_in start c text result (Some later) e again h = let more = again (sym e ∙ h) in (c ∷ more.0, more.1, more.2, ap (λ l. c ∷ l) more.3, more.4)

found_after : (start : Bool) (text result : List ℕ) → from_last_j start text ≡ Some result → IsBeyond start text result
found_after start [] result h = never_some result h
found_after start (c ∷ text) result h = found_in start c text result (from_last_j (nat_eq c 10) text) refl (found_after (nat_eq c 10) text result) h

found_from_j : (text result : List ℕ) → from_last_j true text ≡ Some result → IsFromJ text result
found_from_j text result h = let found = found_after true text result h in (found.0, found.1, are_lines found.0 found.2, found.3, found.4)

-- if a line begins with `j`, that line or a later one is found
found_from : (more : List ℕ) → (result : List ℕ) × (from_last_j true (106 ∷ more) ≡ Some result) × (length result ≤ length (106 ∷ more))
found_from more = by (from_last_j false more) refl
  where
    by : (o : Option (List ℕ)) → from_last_j false more ≡ o →
        (result : List ℕ) × (from_last_j true (106 ∷ more) ≡ Some result) × (length result ≤ length (106 ∷ more))
    by None e = (106 ∷ more, ap (λ o. or_else o (Some (106 ∷ more))) e, omega arith)
    by (Some later) e =
        let found = found_after false more later e in
        (later, ap (λ o. or_else o (Some (106 ∷ more))) e, omega (arith, ap length found.3, length-append found.0 later))

found_at : (text rest : List ℕ) → IsFromJ text rest → (result : List ℕ) × (from_last_j true text ≡ Some result) × (length result ≤ length rest)
found_at text rest h =
    let found = found_from h.1 in
    let is : text ≡ h.0 ++ 106 ∷ h.1 = h.3 ∙ ap (λ l. h.0 ++ l) h.4 in
    let begins : from_last_j (start_beyond true h.0) (106 ∷ h.1) ≡ Some found.0 =
    ap (λ b. from_last_j b (106 ∷ h.1)) (starts_after_lines h.0 h.2) ∙ found.1 in (
      found.0,
      ap (from_last_j true) is ∙ beyond_front true h.0 (106 ∷ h.1) found.0 begins,
      omega (arith, found.2, ap length h.4),
    )

-- the result is exactly the text from the last such line to the end
pub is_from_last_j : (text : List ℕ) (o : Option (List ℕ)) → from_last_j true text ≡ o → IsFromLastJ text o
is_from_last_j text None e = λ rest h. let found = found_at text rest h in never_some found.0 (sym e ∙ found.1)
is_from_last_j text (Some last) e = (
  found_from_j text last e,
  λ rest h. let found = found_at text rest h in
      let same : last ≡ found.0 = inside last found.0 (sym e ∙ found.1) in omega (arith, found.2, ap length same),
)

-- two ends of a text that have the same length are equal
same_ends : (f g r s : List ℕ) → f ++ r ≡ g ++ s → length r ≡ length s → r ≡ s
same_ends f g r s h long =
    let place : length f ≡ length g = omega (arith, long, ap length h, length-append f r, length-append g s) in
    sym (drop_front f r) ∙ (ap (λ n. drop n (f ++ r)) place ∙ (ap (λ l. drop (length g) l) h ∙ drop_front g s))

pub one_from_last_j : (text : List ℕ) (o : Option (List ℕ)) → IsFromLastJ text o → from_last_j true text ≡ o
one_from_last_j text None h = by (from_last_j true text) refl
  where
    by : (o : Option (List ℕ)) → from_last_j true text ≡ o → from_last_j true text ≡ None
    by None e = e
    by (Some last) e = absurd (h last (found_from_j text last e))
one_from_last_j text (Some last) h =
    let found = found_at text last h.0 in
    let other = found_from_j text found.0 found.1 in
    let long : length last ≡ length found.0 = omega (arith, found.2, h.1 found.0 other) in
    found.1 ∙ ap (λ l. Some l) (same_ends other.0 h.0.0 found.0 last (sym other.3 ∙ h.0.3) (sym long))

-- if the text from the last such line is a result, it is the end of the text
pub reports_result : (text result : List ℕ) (es : List Entry) → from_last_j true text ≡ Some result → result ≡ result_text es → TextReports text es
reports_result text result es h is =
    let found = found_from_j text result h in
    inr (found.0, found.2, found.3 ∙ ap (λ l. found.0 ++ l) is)

-- a text that has these entries either ends with their result or, if it has no such line, is their
-- text
reports_last : (text : List ℕ) (es : List Entry) → CanBeJournal es → TextReports text es →
    ((from_last_j true text ≡ None) × (text ≡ lines_from 1 es)) ⊎ (from_last_j true text ≡ Some (result_text es))
reports_last text es are (inl is) = inl (ap (from_last_j true) is ∙ none_in_lines es are, is)
reports_last text es are (inr reported) =
    inr (ap (from_last_j true) reported.2
    ∙ beyond_front true reported.0 (result_text es) (result_text es)
    (ap (λ b. from_last_j b (result_text es)) (starts_after_lines reported.0 reported.1) ∙ result_is_last es are))

pub some_reported : (text result : List ℕ) (es : List Entry) → CanBeJournal es → TextReports text es → from_last_j true text ≡ Some result → result ≡ result_text es
some_reported text result es are reports h =
    ⊎_elim (λ none. never_some result (sym none.0 ∙ h)) (λ is. inside result (result_text es) (sym h ∙ is)) (reports_last text es are reports)

pub none_reported : (text : List ℕ) (es : List Entry) → CanBeJournal es → TextReports text es → from_last_j true text ≡ None → text ≡ lines_from 1 es
none_reported text es are reports h = ⊎_elim (λ none. none.1) (λ is. never_some (result_text es) (sym h ∙ is)) (reports_last text es are reports)

-- What is read from a text's last such line, or from a text without one, is the entries that the
-- text has.
module _ {X E : Type 0} (r : Result (Option X) E) (items : X → List Entry) (text : List ℕ) where
  pub some_reads : (last : List ℕ) → from_last_j true text ≡ Some last →
      IfOk r (λ read. IfSome read (λ x. CanBeJournal (items x) × (last ≡ result_text (items x)))) →
      IfOk r (λ read. IfSome read (λ x. CanBeJournal (items x) × TextReports text (items x)))
  some_reads last h k =
      IfOk-weaker r (λ read. IfSome read (λ x. CanBeJournal (items x) × (last ≡ result_text (items x))))
      (λ read. IfSome read (λ x. CanBeJournal (items x) × TextReports text (items x)))
      (λ read are. IfSome_then read are (λ x is. (is.0, reports_result text last (items x) h is.1))) k

  pub some_whole : (last : List ℕ) → from_last_j true text ≡ Some last →
      IfOk r (λ read. (es : List Entry) → CanBeJournal es → last ≡ result_text es → option_map items read ≡ Some es) →
      IfOk r (λ read. (es : List Entry) → CanBeJournal es → TextReports text es → option_map items read ≡ Some es)
  some_whole last h k =
      IfOk-weaker r (λ read. (es : List Entry) → CanBeJournal es → last ≡ result_text es → option_map items read ≡ Some es)
      (λ read. (es : List Entry) → CanBeJournal es → TextReports text es → option_map items read ≡ Some es)
      (λ read whole es are reports. whole es are (some_reported text last es are reports h)) k

  pub none_reads : IfOk r (λ read. IfSome read (λ x. CanBeJournal (items x) × (text ≡ lines_from 1 (items x)))) →
      IfOk r (λ read. IfSome read (λ x. CanBeJournal (items x) × TextReports text (items x)))
  none_reads k =
      IfOk-weaker r (λ read. IfSome read (λ x. CanBeJournal (items x) × (text ≡ lines_from 1 (items x))))
      (λ read. IfSome read (λ x. CanBeJournal (items x) × TextReports text (items x)))
      (λ read are. IfSome_then read are (λ x is. (is.0, inl is.1))) k

  pub none_whole : from_last_j true text ≡ None → IfOk r (λ read. (es : List Entry) → CanBeJournal es → text ≡ lines_from 1 es →
      option_map items read ≡ Some es) →
      IfOk r (λ read. (es : List Entry) → CanBeJournal es → TextReports text es → option_map items read ≡ Some es)
  none_whole h k =
      IfOk-weaker r (λ read. (es : List Entry) → CanBeJournal es → text ≡ lines_from 1 es → option_map items read ≡ Some es)
      (λ read. (es : List Entry) → CanBeJournal es → TextReports text es → option_map items read ≡ Some es)
      (λ read whole es are reports. whole es are (none_reported text es are reports h)) k

-- The lines of a race's result.

-- the result's first line and the text after it, if the text is cut at its first LF
pub result_cut : (text first beyond : List ℕ) →
    ((line more : List ℕ) → IsLinePart 10 line → text ≡ line ++ 10 ∷ more → (first ≡ line ++ 10 ∷ []) × (beyond ≡ more)) → (es : List Entry) → CanBeJournal es →
    text ≡ result_text es → (first ≡ head (length es)) × (beyond ≡ lines_from 1 es ++ codes "replay ok\n")
result_cut text first beyond cut es are is =
    let n = length es in
    let small : n < 2 ^ 64 = omega (arith, are.1) in
    let lines = lines_from 1 es ++ codes "replay ok\n" in
    let front = codes "journal " ++ decimal n in
    let part : IsLinePart 10 front = both_parts 10 (codes "journal ") (decimal n) (words_part 10 (codes "journal ") refl refl)
    (digits_part 10 (decimal n) refl (decimal_digits n small)) in
    let split : text ≡ front ++ 10 ∷ lines = is ∙ ap (λ l. codes "journal " ++ l) (append_assoc (decimal n) (10 ∷ []) lines) in
    let parted = cut front lines part split in
    (parted.0, parted.1)

pub result_made : (text first beyond lines : List ℕ) (es : List Entry) → first ++ beyond ≡ text → first ≡ head (length es) →
    beyond ≡ lines ++ codes "replay ok\n" → lines ≡ lines_from 1 es → text ≡ result_text es
result_made text first beyond lines es whole of_first of_after is =
    sym whole
    ∙ (ap (λ l. l ++ beyond) of_first ∙ (ap (λ l. head (length es) ++ l) of_after ∙ ap (λ l. head (length es) ++ (l ++ codes "replay ok\n")) is))

same_front : (rest lines : List ℕ) → rest ≡ lines ++ codes "replay ok\n" → take (length rest - 10) rest ≡ lines
same_front rest lines is =
    let long : length rest ≡ length lines + 10 = ap length is ∙ length-append lines (codes "replay ok\n") in
    let place : length rest - 10 ≡ length lines = omega (arith, long) in
    ap (λ n. take n rest) place ∙ (ap (take (length lines)) is ∙ take_front lines (codes "replay ok\n"))

-- the text before the last line is determined
pub one_front : (rest lines others : List ℕ) → rest ≡ lines ++ codes "replay ok\n" → rest ≡ others ++ codes "replay ok\n" → lines ≡ others
one_front rest lines others h g = sym (same_front rest lines h) ∙ same_front rest others g

-- No text has two journals.

one_text : (es os : List Entry) → CanBeJournal es → CanBeJournal os → lines_from 1 es ≡ lines_from 1 os → es ≡ os
one_text es os are were same = same_lines 1 es os are.0 were.0 (omega (arith, are.1)) same

abbrev result_after : List Entry → List ℕ
result_after es = lines_from 1 es ++ codes "replay ok\n"

one_result : (es os : List Entry) → CanBeJournal es → CanBeJournal os → result_text es ≡ result_text os → es ≡ os
one_result es os are were same =
    let text = result_text es in
    let cut : (line more : List ℕ) → IsLinePart 10 line → text ≡ line ++ 10 ∷ more → (first_line text ≡ line ++ 10 ∷ []) × (after_line text ≡ more) =
    λ line more part h. (ap first_line h ∙ first_taken line more part, ap after_line h ∙ after_end 10 line more part) in
    let here = result_cut text (first_line text) (after_line text) cut es are refl in
    let there = result_cut text (first_line text) (after_line text) cut os were same in
    one_text es os are were (one_front (after_line text) (lines_from 1 es) (lines_from 1 os) here.1 there.1)

pub one_journal : (text : List ℕ) (es os : List Entry) → CanBeJournal es → CanBeJournal os → TextReports text es → TextReports text os → es ≡ os
one_journal text es os are were reports reported = by (reports_last text es are reports) (reports_last text os were reported)
  where
    by : ((from_last_j true text ≡ None) × (text ≡ lines_from 1 es)) ⊎ (from_last_j true text ≡ Some (result_text es)) →
        ((from_last_j true text ≡ None) × (text ≡ lines_from 1 os)) ⊎ (from_last_j true text ≡ Some (result_text os)) → es ≡ os
    by (inl h) (inl g) = one_text es os are were (sym h.1 ∙ g.1)
    by (inl h) (inr g) = never_some (result_text os) (sym h.0 ∙ g)
    by (inr h) (inl g) = never_some (result_text es) (sym g.0 ∙ h)
    by (inr h) (inr g) = one_result es os are were (inside (result_text es) (result_text os) (sym h ∙ g))
