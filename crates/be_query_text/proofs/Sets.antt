-- A pattern of sets matches the strings with the same foldings.
use Rattle.std.proofs.Common.{◌≡◌, ℕ, ◌+◌, Bool, true, false, Some, None, Ok, List, [], ◌∷◌, ◌++◌, length, map, ◌||◌, ◌&&◌, refl, sym, ap, ◌∙◌, subst, arith, append_assoc, append-nil, length-append, IsUtf8}
use Rattle.std.specs.Prelude.{encode_utf8, encode_utf8_all, not}
use Rattle.std.specs.Bool.{◌==◌}
use Rattle.std.specs.Char.{len_utf8}
use Rattle.std.specs.List.{list_all}
use Rattle.std.specs.Str.{chars, all_scalars}
use Rattle.std.proofs.Math.Logic.{⊎_elim}
use Rattle.std.proofs.lemmas.Bool.{true≢false, cond-true, cond-false, cases_Bool, and_left, and_parts, and_from, or_parts, eqb-true, le-ltb}
use Rattle.std.proofs.lemmas.Str.{encodes-append, encodes-chars, chars-encodes, scalars-chars, encode_ascii, length-encode, len_utf8_bounds}
use Rattle.be_pattern.specs.Canonical.{is_special_in_set}
use Rattle.be_pattern.specs.Letters.{dashed, end_or, members_after, with_members, set_after}
use Rattle.be_pattern.specs.Match.{Part, Among, Only, admits, matches}
use Rattle.be_pattern.specs.Parse.{Letter, letters, ending_backslash, is_bare, falls, are_members, and_then, parts_after, pattern}
use Rattle.be_pattern.proofs.Tokens.{ahead, closes, member_step, no_range, no_caret, set_taken, token_set, one_token, pattern_read}
use Rattle.be_value.specs.Name.{has_nul}
use Rattle.ucd_case.specs.CaseFolding.{simple_fold, fold_pairs, IsFoldPairs}
use Rattle.ucd_case.proofs.BoundLemmas.{simple_fold_idem}
use Rattle.ucd_case.proofs.FoldPairsLemmas.{IsFoldPairs-fold_pairs}
use Rattle.be_query.proofs.Kept.{nul_parts}
use Rattle.be_query_text.specs.Encoded.{IsOneToken, escaped_char, is_special}
use Rattle.be_query_text.specs.Cases.{MatchesAnyCase, others, set_text, any_case_char, any_case}
use Rattle.be_query_text.proofs.Passing.{Passes, none_passes, both_pass, char_passes, taken_passes, passed_token}
use Rattle.be_query_text.proofs.Escapes.{special_ascii, plain_bare, char_read, char_ends, char_scalars}
use Rattle.be_query_text.proofs.Folds.{single, is_member, fold_member, member_fold, is_plain_char, pairs_plain, others_plain, first_plain, folded_plain}

-- What a plain character can't be.

record IsPlain (c : ℕ) : Type 0 where
  special : is_special c ≡ false
  bar : (c == 92) ≡ false
  closing : (c == 93) ≡ false
  hat : (c == 94) ≡ false
  dash : (c == 45) ≡ false
  nul : (c == 0) ≡ false
  scalar : all_scalars (c ∷ []) ≡ true

not_true : (x : Bool) → not x ≡ true → x ≡ false
not_true true h = absurd (true≢false (sym h))
not_true false h = refl

plain_char : (c : ℕ) → is_plain_char c ≡ true → IsPlain c
plain_char c h =
    let a = and_parts (not (is_special c)) (not (is_special_in_set c) && (not (c == 0) && all_scalars (c ∷ []))) h in
    let b = and_parts (not (is_special_in_set c)) (not (c == 0) && all_scalars (c ∷ [])) a.1 in
    let d = and_parts (not (c == 0)) (all_scalars (c ∷ [])) b.1 in
    let p5 = or_parts _ _ (not_true (is_special_in_set c) b.0) in
    let p4 = or_parts _ _ p5.0 in
    let p3 = or_parts _ _ p4.0 in
    let p2 = or_parts _ _ p3.0 in
    let p1 = or_parts _ _ p2.0 in
    record {
      special = not_true (is_special c) a.0;
      bar = p1.1;
      closing = p3.1;
      hat = p4.1;
      dash = p5.1;
      nul = not_true (c == 0) d.0;
      scalar = d.1;
    }

-- Reading a set of plain characters.

bare_letter : (c at : ℕ) (cs : List ℕ) → IsPlain c → letters false at (c ∷ cs) ≡ record { at = at; escaped = false; char = c } ∷ letters false (at + len_utf8 c) cs
bare_letter c at cs h = cond-false _ _ _ h.bar

-- The characters before a `]`.
inside : List ℕ → List ℕ → List ℕ
inside ms more = ms ++ 93 ∷ more

front_letter : (ms : List ℕ) (at : ℕ) (more : List ℕ) → list_all is_plain_char ms ≡ true → (l : Letter) × (ls : List Letter) × (letters false at (inside ms more) ≡ l ∷ ls) × (is_bare 45 l ≡ false)
unfolding inside
front_letter [] at more h = (record { at = at; escaped = false; char = 93 }, letters false (at + len_utf8 93) more, refl, refl)
front_letter (m ∷ ms) at more h =
    let p = plain_char m (and_parts (is_plain_char m) (list_all is_plain_char ms) h).0 in
    (record { at = at; escaped = false; char = m }, letters false (at + len_utf8 m) (ms ++ 93 ∷ more), bare_letter m at (ms ++ 93 ∷ more) p, and_left _ _ p.dash)

members_read : (ms : List ℕ) (at : ℕ) (more : List ℕ) → list_all is_plain_char ms ≡ true → (next : ℕ) × (members_after (letters false at (inside ms more)) ≡ Some (map single ms, letters false next more))
unfolding inside
members_read [] at more h = (at + len_utf8 93, closes (record { at = at; escaped = false; char = 93 }) (letters false (at + len_utf8 93) more) refl)
members_read (m ∷ ms) at more h =
    let k = and_parts (is_plain_char m) (list_all is_plain_char ms) h in
    let p = plain_char m k.0 in
    let body = letters false (at + len_utf8 m) (ms ++ 93 ∷ more) in
    let r = members_read ms (at + len_utf8 m) more k.1 in
    let f = front_letter ms (at + len_utf8 m) more k.1 in
    let none : dashed body ≡ None = ap dashed f.2 ∙ no_range f.0 f.1 f.3 in (
      r.0,
      ap members_after (bare_letter m at (ms ++ 93 ∷ more) p)
          ∙ member_step (record { at = at; escaped = false; char = m }) body (m, body) (and_left _ _ p.closing) (ap (end_or (m, body)) none)
          ∙ ap (ahead ((m, m) ∷ [])) r.1,
    )

none_falls : (ds : List ℕ) → falls (map single ds) ≡ false
none_falls [] = refl
none_falls (d ∷ ds) = ap (λ b. b || falls (map single ds)) (le-ltb d d (omega arith)) ∙ none_falls ds

singles_are_members : (d : ℕ) (ds : List ℕ) → are_members (map single (d ∷ ds)) ≡ true
singles_are_members d ds = ap not (none_falls (d ∷ ds))

-- The token of a set, or of a single character.
abbrev case_part : ℕ → List ℕ → Part
case_part f [] = Only f
case_part f (d ∷ ds) = Among false (map single (f ∷ d ∷ ds))

set_read : (f d : ℕ) (ds : List ℕ) (at : ℕ) (more : List ℕ) → list_all is_plain_char (f ∷ d ∷ ds) ≡ true → (next : ℕ) × (parts_after 0 (letters false at (set_text f (d ∷ ds) ++ more)) ≡ and_then (case_part f (d ∷ ds)) (parts_after 0 (letters false next more)))
unfolding inside
set_read f d ds at more h =
    let p = plain_char f (and_parts (is_plain_char f) (list_all is_plain_char (d ∷ ds)) h).0 in
    let head : Letter = record { at = at; escaped = false; char = 91 } in
    let front : Letter = record { at = at + len_utf8 91; escaped = false; char = f } in
    let a = at + len_utf8 91 in
    let r = members_read (f ∷ d ∷ ds) a more h in
    let text = f ∷ d ∷ (ds ++ 93 ∷ more) in
    let first = bare_letter f a (d ∷ (ds ++ 93 ∷ more)) p in (
      r.0,
      ap (λ l. parts_after 0 (letters false at (91 ∷ f ∷ d ∷ l))) (append_assoc ds (93 ∷ []) more)
          ∙ one_token head (letters false a text) (letters false r.0 more) (case_part f (d ∷ ds))
          (token_set head (letters false a text) refl refl refl ∙ ap set_after first ∙ no_caret front (letters false (a + len_utf8 f) (d ∷ (ds ++ 93 ∷ more))) (and_left _ _ p.hat) ∙ ap (λ ls. with_members false (members_after ls)) (sym first) ∙ ap (with_members false) r.1
          ∙ set_taken false (map single (f ∷ d ∷ ds)) (letters false r.0 more) (singles_are_members f (d ∷ ds))),
    )

plain_ends : (ms : List ℕ) (at : ℕ) (more : List ℕ) → list_all is_plain_char ms ≡ true → (next : ℕ) × (ending_backslash false at (ms ++ more) ≡ ending_backslash false next more)
plain_ends [] at more h = (at, refl)
plain_ends (m ∷ ms) at more h =
    let k = and_parts (is_plain_char m) (list_all is_plain_char ms) h in
    let r = plain_ends ms (at + len_utf8 m) more k.1 in
    (r.0, cond-false _ _ _ (plain_char m k.0).bar ∙ r.1)

set_ends : (f d : ℕ) (ds : List ℕ) (at : ℕ) (more : List ℕ) → list_all is_plain_char (f ∷ d ∷ ds) ≡ true → (next : ℕ) × (ending_backslash false at (set_text f (d ∷ ds) ++ more) ≡ ending_backslash false next more)
set_ends f d ds at more h =
    let r = plain_ends (f ∷ d ∷ ds) (at + len_utf8 91) (93 ∷ more) h in
    (r.0 + len_utf8 93, ap (λ l. ending_backslash false at (91 ∷ f ∷ d ∷ l)) (append_assoc ds (93 ∷ []) more) ∙ r.1)

plain_scalars : (ms : List ℕ) (more : List ℕ) → list_all is_plain_char ms ≡ true → all_scalars more ≡ true → all_scalars (ms ++ more) ≡ true
plain_scalars [] more h k = k
plain_scalars (m ∷ ms) more h k =
    let q = and_parts (is_plain_char m) (list_all is_plain_char ms) h in
    let s = and_parts _ _ (plain_char m q.0).scalar in
    and_from _ _ s.0 (plain_scalars ms more q.1 k)

set_scalars : (f d : ℕ) (ds more : List ℕ) → list_all is_plain_char (f ∷ d ∷ ds) ≡ true → all_scalars more ≡ true → all_scalars (set_text f (d ∷ ds) ++ more) ≡ true
set_scalars f d ds more h k = ap (λ l. all_scalars (91 ∷ f ∷ d ∷ l)) (append_assoc ds (93 ∷ []) more) ∙ plain_scalars (f ∷ d ∷ ds) (93 ∷ more) h k

-- What a set matches.

case_none : (f : ℕ) (ds : List ℕ) (ps : List Part) → matches (case_part f ds ∷ ps) [] ≡ false
case_none f [] ps = refl
case_none f (d ∷ ds) ps = refl

case_one : (f : ℕ) (ds : List ℕ) (ps : List Part) (o : ℕ) (os : List ℕ) → matches (case_part f ds ∷ ps) (o ∷ os) ≡ (admits (case_part f ds) o && matches ps os)
case_one f [] ps o os = refl
case_one f (d ∷ ds) ps o os = refl

-- A set admits a character if and only if the character folds to f.
admitted : (f : ℕ) (ds : List ℕ) (o : ℕ) → others f ≡ ds → IsFoldPairs fold_pairs → simple_fold f ≡ f → admits (case_part f ds) o ≡ true → simple_fold o ≡ f
admitted f [] o e pairs idem h = ap simple_fold (eqb-true o f h) ∙ idem
admitted f (d ∷ ds) o e pairs idem h = fold_member f o pairs idem (ap (λ l. is_member o (f ∷ l)) e ∙ h)

admits_fold : (f : ℕ) (ds : List ℕ) (o : ℕ) → others f ≡ ds → IsFoldPairs fold_pairs → simple_fold f ≡ f → simple_fold o ≡ f → admits (case_part f ds) o ≡ true
admits_fold f [] o e pairs idem h = alone (sym (ap (λ l. is_member o (f ∷ l)) e) ∙ member_fold f o pairs idem h)
  where
    alone : is_member o (f ∷ []) ≡ true → (o == f) ≡ true
    alone k = grind arith
admits_fold f (d ∷ ds) o e pairs idem h = sym (ap (λ l. is_member o (f ∷ l)) e) ∙ member_fold f o pairs idem h

abbrev case_parts : List ℕ → List Part
case_parts cs = map (λ c. case_part (simple_fold c) (others (simple_fold c))) cs

folds_to : (cs os : List ℕ) → IsFoldPairs fold_pairs → matches (case_parts cs) os ≡ true → map simple_fold os ≡ map simple_fold cs
folds_to [] [] pairs h = refl
folds_to [] (o ∷ os) pairs h = absurd (true≢false (sym h))
folds_to (c ∷ cs) [] pairs h = absurd (true≢false (sym h ∙ case_none (simple_fold c) (others (simple_fold c)) (case_parts cs)))
folds_to (c ∷ cs) (o ∷ os) pairs h =
    let f = simple_fold c in
    let k = and_parts (admits (case_part f (others f)) o) (matches (case_parts cs) os) (sym (case_one f (others f) (case_parts cs) o os) ∙ h) in
    λ i. admitted f (others f) o refl pairs (simple_fold_idem c) k.0 i ∷ folds_to cs os pairs k.1 i

folds_from : (cs os : List ℕ) → IsFoldPairs fold_pairs → map simple_fold os ≡ map simple_fold cs → matches (case_parts cs) os ≡ true
folds_from [] [] pairs h = refl
folds_from [] (o ∷ os) pairs h = cc
folds_from (c ∷ cs) [] pairs h = cc
folds_from (c ∷ cs) (o ∷ os) pairs h =
    let f = simple_fold c in
    let one : simple_fold o ≡ simple_fold c = cc in
    let rest : map simple_fold os ≡ map simple_fold cs = cc in
    case_one f (others f) (case_parts cs) o os ∙ and_from _ _ (admits_fold f (others f) o refl pairs (simple_fold_idem c) one) (folds_from cs os pairs rest)

-- The text of all characters.

-- The text of one character, in a form that allows for what comes after it.
record Represents (f : ℕ) (ds : List ℕ) : Type 0 where
  read : (at : ℕ) (more : List ℕ) → (next : ℕ) × (parts_after 0 (letters false at (set_text f ds ++ more)) ≡ and_then (case_part f ds) (parts_after 0 (letters false next more)))
  ends : (at : ℕ) (more : List ℕ) → (next : ℕ) × (ending_backslash false at (set_text f ds ++ more) ≡ ending_backslash false next more)
  scalars : (more : List ℕ) → all_scalars (f ∷ []) ≡ true → all_scalars more ≡ true → all_scalars (set_text f ds ++ more) ≡ true

all_plain : (f d : ℕ) (ds : List ℕ) → others f ≡ d ∷ ds → list_all is_plain_char (f ∷ d ∷ ds) ≡ true
all_plain f d ds e = and_from _ _ (first_plain f d ds fold_pairs pairs_plain e) (ap (list_all is_plain_char) (sym e) ∙ others_plain f fold_pairs pairs_plain)

is_there : (f : ℕ) (ds : List ℕ) → others f ≡ ds → Represents f ds
is_there f [] e = record { read = λ at more. char_read f at more; ends = λ at more. char_ends f at more; scalars = λ more h k. char_scalars f more h k }
is_there f (d ∷ ds) e =
    let p = all_plain f d ds e in
    record { read = λ at more. set_read f d ds at more p; ends = λ at more. set_ends f d ds at more p; scalars = λ more h k. set_scalars f d ds more p k }

each_read : (cs : List ℕ) (at : ℕ) → parts_after 0 (letters false at (any_case cs)) ≡ Ok (case_parts cs)
each_read [] at = refl
each_read (c ∷ cs) at =
    let f = simple_fold c in
    let w = (is_there f (others f) refl).read at (any_case cs) in
    w.1 ∙ ap (and_then (case_part f (others f))) (each_read cs w.0)

each_ends : (cs : List ℕ) (at : ℕ) → ending_backslash false at (any_case cs) ≡ None
each_ends [] at = refl
each_ends (c ∷ cs) at =
    let f = simple_fold c in
    let w = (is_there f (others f) refl).ends at (any_case cs) in
    w.1 ∙ each_ends cs w.0

any_case_pattern : (cs : List ℕ) → pattern (any_case cs) ≡ Ok (case_parts cs)
any_case_pattern cs = pattern_read (any_case cs) (each_ends cs 0) ∙ each_read cs 0

-- The foldings of characters are characters, and none of them is a NUL.

folded_scalar : (c : ℕ) → all_scalars (c ∷ []) ≡ true → all_scalars (simple_fold c ∷ []) ≡ true
folded_scalar c h = ⊎_elim (λ e. ap (λ x. all_scalars (x ∷ [])) e ∙ h) (λ e. (plain_char (simple_fold c) e).scalar) (folded_plain c IsFoldPairs-fold_pairs (simple_fold_idem c))

folded_nul : (c : ℕ) → (c == 0) ≡ false → (simple_fold c == 0) ≡ false
folded_nul c h = ⊎_elim (λ e. ap (λ x. x == 0) e ∙ h) (λ e. (plain_char (simple_fold c) e).nul) (folded_plain c IsFoldPairs-fold_pairs (simple_fold_idem c))

each_scalars : (cs : List ℕ) → all_scalars cs ≡ true → all_scalars (any_case cs) ≡ true
each_scalars [] h = refl
each_scalars (c ∷ cs) h =
    let f = simple_fold c in
    let p = and_parts _ _ h in
    (is_there f (others f) refl).scalars (any_case cs) (folded_scalar c (and_from _ _ p.0 refl)) (each_scalars cs p.1)

pub matches_any_case : (bytes text : List ℕ) → IsUtf8 text → bytes ≡ encode_utf8_all (any_case (chars text)) → MatchesAnyCase bytes text
matches_any_case bytes text u e =
    let read : chars bytes ≡ any_case (chars text) = ap chars e ∙ chars-encodes (any_case (chars text)) (each_scalars (chars text) (scalars-chars text u)) in (
      case_parts (chars text),
      ap pattern read ∙ any_case_pattern (chars text),
      (λ os. ((λ h. folds_to (chars text) os IsFoldPairs-fold_pairs h), (λ h. folds_from (chars text) os IsFoldPairs-fold_pairs h))),
    )

-- The bytes are one token.

char_escapes : (c : ℕ) → (c == 0) ≡ false → Passes (encode_utf8_all (escaped_char c))
char_escapes c z = ⊎_elim
    (λ w.
    let one = encode_ascii c (special_ascii c w) in
    let slash = encode_ascii 92 (omega arith) in
    let two : encode_utf8_all (escaped_char c) ≡ 92 ∷ c ∷ [] = ap encode_utf8_all (cond-true (is_special c) (92 ∷ c ∷ []) (c ∷ []) w) ∙ (λ i. slash i ++ (one i ++ [])) in
    subst Passes (sym two) (taken_passes c z))
    (λ w.
    let own : encode_utf8_all (escaped_char c) ≡ encode_utf8 c = ap encode_utf8_all (cond-false (is_special c) (92 ∷ c ∷ []) (c ∷ []) w) ∙ append-nil (encode_utf8 c) in
    subst Passes (sym own) (char_passes c (plain_bare c w z)))
    (cases_Bool (is_special c))

bare_chars : (cs rest : List ℕ) → list_all is_plain_char cs ≡ true → Passes (encode_utf8_all rest) → Passes (encode_utf8_all (cs ++ rest))
bare_chars [] rest h k = k
bare_chars (c ∷ cs) rest h k =
    let q = and_parts (is_plain_char c) (list_all is_plain_char cs) h in
    let p = plain_char c q.0 in
    both_pass (encode_utf8 c) (encode_utf8_all (cs ++ rest)) (char_passes c (plain_bare c p.special p.nul)) (bare_chars cs rest q.1 k)

set_passes : (f : ℕ) (ds : List ℕ) → others f ≡ ds → (f == 0) ≡ false → Passes (encode_utf8_all (set_text f ds))
set_passes f [] e z = char_escapes f z
set_passes f (d ∷ ds) e z =
    let end = both_pass (encode_utf8 93) [] (char_passes 93 (refl, refl)) none_passes in
    both_pass (encode_utf8 91) (encode_utf8_all ((f ∷ d ∷ ds) ++ 93 ∷ [])) (char_passes 91 (refl, refl)) (bare_chars (f ∷ d ∷ ds) (93 ∷ []) (all_plain f d ds e) end)

no_nul_char : (c : ℕ) → has_nul (encode_utf8 c) ≡ false → (c == 0) ≡ false
no_nul_char c h = ⊎_elim
    (λ w.
    let zero_char : c ≡ 0 = eqb-true c 0 w in
    absurd (true≢false (sym (ap (λ x. has_nul (encode_utf8 x)) zero_char ∙ ap has_nul (encode_ascii 0 (omega arith))) ∙ h)))
    (λ w. w)
    (cases_Bool (c == 0))

each_passes : (cs : List ℕ) → has_nul (encode_utf8_all cs) ≡ false → Passes (encode_utf8_all (any_case cs))
each_passes [] h = none_passes
each_passes (c ∷ cs) h =
    let q = nul_parts (encode_utf8 c) (encode_utf8_all cs) h in
    let one = set_passes (simple_fold c) (others (simple_fold c)) refl (folded_nul c (no_nul_char c q.0)) in
    subst Passes (sym (encodes-append (any_case_char c) (any_case cs))) (both_pass (encode_utf8_all (any_case_char c)) (encode_utf8_all (any_case cs)) one (each_passes cs q.1))

pub any_case_token : (bytes text : List ℕ) → IsUtf8 text → bytes ≡ encode_utf8_all (any_case (chars text)) → has_nul text ≡ false → IsOneToken bytes
any_case_token bytes text u e z = passed_token bytes (subst Passes (sym e) (each_passes (chars text) (ap has_nul (encodes-chars text u) ∙ z)))

-- Writing the set of a character.

pub set_written : (old opened first middle last : List ℕ) (f : ℕ) (ds text : List ℕ) → text ≡ encode_utf8_all ds → (length text ≡ 0 → ⊥) → opened ≡ old ++ encode_utf8 91 → first ≡ opened ++ encode_utf8 f → middle ≡ first ++ text → last ≡ middle ++ encode_utf8 93
    → last ≡ old ++ encode_utf8_all (set_text f ds)
set_written old opened first middle last f [] text e n a b c d = absurd (n (ap length e))
set_written old opened first middle last f (x ∷ xs) text e n a b c d =
    d ∙ ap (λ l. l ++ encode_utf8 93) (c ∙ ap (λ l. l ++ text) (b ∙ ap (λ l. l ++ encode_utf8 f) a))
    ∙ append_assoc ((old ++ encode_utf8 91) ++ encode_utf8 f) text (encode_utf8 93) ∙ append_assoc (old ++ encode_utf8 91) (encode_utf8 f) (text ++ encode_utf8 93) ∙ append_assoc old (encode_utf8 91) (encode_utf8 f ++ (text ++ encode_utf8 93))
    ∙ ap (λ l. old ++ (encode_utf8 91 ++ (encode_utf8 f ++ l))) (ap (λ l. l ++ encode_utf8 93) e ∙ ap (λ l. encode_utf8_all (x ∷ xs) ++ l) (sym (append-nil (encode_utf8 93))) ∙ sym (encodes-append (x ∷ xs) (93 ∷ [])))

pub no_others : (f : ℕ) (ds text : List ℕ) → text ≡ encode_utf8_all ds → length text ≡ 0 → set_text f ds ≡ escaped_char f
no_others f [] text e n = refl
no_others f (x ∷ xs) text e n = absurd (omega (arith, ap length e, length-append (encode_utf8 x) (encode_utf8_all xs), length-encode x, (len_utf8_bounds x).0))
