-- What a printed tree needs so that its text encodes it.
use Rattle.std.proofs.Common.{◌≡◌, ℕ, ◌+◌, ◌<◌, ◌≤◌, Bool, true, false, suc, Ok, List, [], ◌∷◌, ◌++◌, length, get_or, ◌||◌, refl, sym, ap, ◌∙◌, subst, arith, append_assoc, append-nil, length-append}
use Rattle.std.specs.Prelude.{encode_utf8, encode_utf8_all}
use Rattle.std.specs.Str.{chars}
use Rattle.std.specs.List.{flat_map}
use Rattle.std.specs.Bool.{◌==◌}
use Rattle.std.proofs.Math.Logic.{⊎_elim}
use Rattle.std.proofs.lemmas.Bool.{true≢false, cond-false, cond_both, or_parts, or_from, cases_lt, ne_eqb}
use Rattle.std.proofs.lemmas.Str.{inside_one, length-encode, len_utf8_bounds, len_utf8_ascii, encode_ascii, encodes-append, chars-encodes}
use Rattle.be_pattern.specs.Match.{Part, Run, One, Among, Only}
use Rattle.be_pattern.specs.Parse.{pattern}
use Rattle.be_pattern.specs.Canonical.{marked, is_special, is_special_in_set, member_char, member, class_opening, part_text, canonical}
use Rattle.be_query.specs.declared.lexer.Span.{Span}
use Rattle.be_query.specs.declared.lexer.Span.TheVariants.{Ends, Breaks}
use Rattle.be_query.specs.declared.tree.Cmp.{Cmp}
use Rattle.be_query.specs.declared.tree.Cmp.TheVariants.{Eq, Ne, Lt, Le, Gt, Ge}
use Rattle.be_query.specs.Tokens.{is_name}
use Rattle.be_value.specs.Name.{name_from, has_nul}
use Rattle.std.specs.Result.{is_ok}
use Rattle.be_query.specs.Grammar.{Formula, Leaf, And, Or, Literal, Wild, Exact, IsTextOf, wild_or_none, literal_of}
use Rattle.be_query.specs.Faults.{takes_pattern}
use Rattle.be_query.specs.Lexing.{further, quoted_span, tokens}
use Rattle.be_query.specs.Printing.{with_backslashes, literal_text, or_text, IsPrintable, IsWhole, IsQuotable, IsKept, IsKeptBy}
use Rattle.be_query.proofs.Spans.{shifted, shifted_none}
use Rattle.be_query.proofs.Parsed.{plain-escaped}
use Rattle.be_query.proofs.Printed.{text_whole, text_parses, escaped_whole}
use Rattle.be_query.proofs.Trees.{one_tree}
use Rattle.be_query.proofs.Names.{no_nul}

-- Spans over characters.

further_shifted : (n : ℕ) (s : Span) → further (shifted n s) ≡ shifted (suc n) s
further_shifted n (Ends k) = ap Ends (omega arith)
further_shifted n (Breaks k) = ap Breaks (omega arith)

shifted_more : (n m : ℕ) (s : Span) → shifted n (shifted m s) ≡ shifted (n + m) s
shifted_more n m (Ends k) = ap Ends (omega arith)
shifted_more n m (Breaks k) = ap Breaks (omega arith)

abbrev IsBare : ℕ → Type 0
IsBare b = ((b == 34) ≡ false) × ((b == 0) ≡ false) × ((b == 92) ≡ false)

span_bare : (xs bs : List ℕ) → ((k : ℕ) → k < length xs → IsBare (get_or xs k 0)) → quoted_span 34 false (xs ++ bs) ≡ shifted (length xs) (quoted_span 34 false bs)
span_bare [] bs h = sym (shifted_none _)
span_bare (x ∷ xs) bs h =
    let b = h 0 (omega arith) in
    cond-false _ _ _ b.0 ∙ cond-false _ _ _ b.1 ∙ cond-false _ _ _ b.2 ∙ ap further (span_bare xs bs (λ k l. h (suc k) (omega arith))) ∙ further_shifted (length xs) (quoted_span 34 false bs)

wide_bare : (b : ℕ) → 128 ≤ b → IsBare b
wide_bare b h = (ne_eqb b 34 (λ e. omega arith), ne_eqb b 0 (λ e. omega arith), ne_eqb b 92 (λ e. omega arith))

byte_same : (c k : ℕ) → k < length (encode_utf8 c) → get_or (encode_utf8 c) k 0 < 128 → c ≡ get_or (encode_utf8 c) k 0
byte_same c k l w = inside_one c [] (encode_utf8 c) k (sym (append-nil (encode_utf8 c))) l w

bytes_bare : (c k : ℕ) → IsBare c → k < length (encode_utf8 c) → IsBare (get_or (encode_utf8 c) k 0)
bytes_bare c k h l = ⊎_elim (λ w. subst IsBare (byte_same c k l w) h) (wide_bare _) (cases_lt (get_or (encode_utf8 c) k 0) 128)

later_bare : (c k : ℕ) → suc k < length (encode_utf8 c) → IsBare (get_or (encode_utf8 c) (suc k) 0)
later_bare c k l = ⊎_elim (λ w. let same = byte_same c (suc k) l w in absurd (omega (arith, length-encode c, len_utf8_ascii c (omega arith)))) (wide_bare _) (cases_lt (get_or (encode_utf8 c) (suc k) 0) 128)

bare_char : (c : ℕ) (bs : List ℕ) → IsBare c → quoted_span 34 false (encode_utf8 c ++ bs) ≡ shifted (length (encode_utf8 c)) (quoted_span 34 false bs)
bare_char c bs h = span_bare (encode_utf8 c) bs (λ k l. bytes_bare c k h l)

span_taken : (xs bs : List ℕ) → 0 < length xs → (get_or xs 0 0 == 0) ≡ false → ((k : ℕ) → suc k < length xs → IsBare (get_or xs (suc k) 0)) → quoted_span 34 true (xs ++ bs) ≡ shifted (length xs) (quoted_span 34 false bs)
span_taken [] bs l z h = absurd (omega arith)
span_taken (x ∷ xs) bs l z h = cond-false _ _ _ z ∙ ap further (span_bare xs bs (λ k m. h k (omega arith))) ∙ further_shifted (length xs) (quoted_span 34 false bs)

first_nonzero : (c : ℕ) → (c == 0) ≡ false → 0 < length (encode_utf8 c) → (get_or (encode_utf8 c) 0 0 == 0) ≡ false
first_nonzero c h l = ⊎_elim (λ w. subst (λ b. (b == 0) ≡ false) (byte_same c 0 l w) h) (λ w. (wide_bare _ w).1) (cases_lt (get_or (encode_utf8 c) 0 0) 128)

taken_char : (c : ℕ) (bs : List ℕ) → (c == 0) ≡ false → quoted_span 34 true (encode_utf8 c ++ bs) ≡ shifted (length (encode_utf8 c)) (quoted_span 34 false bs)
taken_char c bs h =
    let some : 0 < length (encode_utf8 c) = omega (arith, length-encode c, (len_utf8_bounds c).0) in
    span_taken (encode_utf8 c) bs some (first_nonzero c h some) (λ k l. later_bare c k l)

-- The characters are skipped as a whole.
Passes : List ℕ → Type 0
Passes cs = (bs : List ℕ) → quoted_span 34 false (encode_utf8_all cs ++ bs) ≡ shifted (length (encode_utf8_all cs)) (quoted_span 34 false bs)

none_passes : Passes []
unfolding Passes
none_passes bs = sym (shifted_none _)

both_pass : (xs ys : List ℕ) → Passes xs → Passes ys → Passes (xs ++ ys)
unfolding Passes
both_pass xs ys h k bs =
    let a = encode_utf8_all xs in
    let b = encode_utf8_all ys in
    ap (λ x. quoted_span 34 false (x ++ bs)) (encodes-append xs ys) ∙ ap (quoted_span 34 false) (append_assoc a b bs)
    ∙ h (b ++ bs) ∙ ap (shifted (length a)) (k bs) ∙ shifted_more (length a) (length b) (quoted_span 34 false bs)
    ∙ ap (λ n. shifted n (quoted_span 34 false bs)) (sym (ap length (encodes-append xs ys) ∙ length-append a b))

char_passes : (c : ℕ) → IsBare c → Passes (c ∷ [])
unfolding Passes
char_passes c h bs = ap (λ x. quoted_span 34 false (x ++ bs)) (append-nil (encode_utf8 c)) ∙ bare_char c bs h ∙ ap (λ x. shifted (length x) (quoted_span 34 false bs)) (sym (append-nil (encode_utf8 c)))

escaped_passes : (c : ℕ) → (c == 0) ≡ false → Passes (92 ∷ c ∷ [])
unfolding Passes
escaped_passes c z bs =
    let one = encode_ascii 92 (omega arith) in
    let all = ap (λ x. x ++ (encode_utf8 c ++ [])) one ∙ ap (λ x. 92 ∷ x) (append-nil (encode_utf8 c)) in
    ap (λ x. quoted_span 34 false (x ++ bs)) all ∙ ap further (taken_char c bs z) ∙ further_shifted (length (encode_utf8 c)) (quoted_span 34 false bs)
    ∙ ap (λ x. shifted (length x) (quoted_span 34 false bs)) (sym all)

marked_passes : (b : Bool) (c : ℕ) → has_nul (marked b c) ≡ false → (b ≡ false → ((c == 34) ≡ false) × ((c == 92) ≡ false)) → Passes (marked b c)
marked_passes false c z h = char_passes c ((h refl).0, (or_parts (c == 0) false z).0, (h refl).1)
marked_passes true c z h = escaped_passes c (or_parts (c == 0) false z).0

pub nul_parts : (xs ys : List ℕ) → has_nul (xs ++ ys) ≡ false → (has_nul xs ≡ false) × (has_nul ys ≡ false)
nul_parts [] ys h = (refl, h)
nul_parts (x ∷ xs) ys h =
    let p = or_parts (x == 0) (has_nul (xs ++ ys)) h in
    let q = nul_parts xs ys p.1 in
    (or_from (x == 0) (has_nul xs) p.0 q.0, q.1)

special_quote : (c : ℕ) → is_special c ≡ false → ((c == 34) ≡ false) × ((c == 92) ≡ false)
special_quote c h =
    let p3 = or_parts ((((c == 34) || (c == 92)) || (c == 42)) || (c == 63)) (c == 91) h in
    let p2 = or_parts (((c == 34) || (c == 92)) || (c == 42)) (c == 63) p3.0 in
    let p1 = or_parts ((c == 34) || (c == 92)) (c == 42) p2.0 in
    or_parts (c == 34) (c == 92) p1.0

set_quote : (c : ℕ) → is_special_in_set c ≡ false → ((c == 34) ≡ false) × ((c == 92) ≡ false)
set_quote c h =
    let p4 = or_parts (((((c == 34) || (c == 92)) || (c == 91)) || (c == 93)) || (c == 94)) (c == 45) h in
    let p3 = or_parts ((((c == 34) || (c == 92)) || (c == 91)) || (c == 93)) (c == 94) p4.0 in
    let p2 = or_parts (((c == 34) || (c == 92)) || (c == 91)) (c == 93) p3.0 in
    let p1 = or_parts ((c == 34) || (c == 92)) (c == 91) p2.0 in
    or_parts (c == 34) (c == 92) p1.0

two_pass : (xs ys : List ℕ) → (has_nul xs ≡ false → Passes xs) → (has_nul ys ≡ false → Passes ys) → has_nul (xs ++ ys) ≡ false → Passes (xs ++ ys)
two_pass xs ys h k z = let p = nul_parts xs ys z in both_pass xs ys (h p.0) (k p.1)

member_char_passes : (c : ℕ) → has_nul (member_char c) ≡ false → Passes (member_char c)
member_char_passes c z = marked_passes (is_special_in_set c) c z (set_quote c)

member_passes : (m : ℕ × ℕ) → has_nul (member m) ≡ false → Passes (member m)
member_passes m = cond_both (m.0 == m.1) (member_char m.0) (member_char m.0 ++ 45 ∷ member_char m.1) (λ t. has_nul t ≡ false → Passes t)
    (λ h. member_char_passes m.0)
    (λ h. two_pass (member_char m.0) (45 ∷ member_char m.1) (member_char_passes m.0) (two_pass (45 ∷ []) (member_char m.1) (λ z. char_passes 45 (refl, refl, refl)) (member_char_passes m.1)))

members_pass : (ms : List (ℕ × ℕ)) → has_nul (flat_map member ms) ≡ false → Passes (flat_map member ms)
members_pass [] z = none_passes
members_pass (m ∷ ms) z = two_pass (member m) (flat_map member ms) (member_passes m) (members_pass ms) z

opening_passes : (negated : Bool) → Passes (class_opening negated)
opening_passes true = both_pass (91 ∷ []) (94 ∷ []) (char_passes 91 (refl, refl, refl)) (char_passes 94 (refl, refl, refl))
opening_passes false = char_passes 91 (refl, refl, refl)

part_passes : (p : Part) → has_nul (part_text p) ≡ false → Passes (part_text p)
part_passes Run z = char_passes 42 (refl, refl, refl)
part_passes One z = char_passes 63 (refl, refl, refl)
part_passes (Only c) z = marked_passes (is_special c) c z (special_quote c)
part_passes (Among negated ms) z = two_pass (class_opening negated) (flat_map member ms ++ 93 ∷ []) (λ w. opening_passes negated)
    (two_pass (flat_map member ms) (93 ∷ []) (members_pass ms) (λ w. char_passes 93 (refl, refl, refl))) z

canonical_passes : (ps : List Part) → has_nul (canonical ps) ≡ false → Passes (canonical ps)
canonical_passes [] z = none_passes
canonical_passes (p ∷ ps) z = two_pass (part_text p) (canonical ps) (part_passes p) (canonical_passes ps) z

pub canonical_whole : (ps : List Part) → has_nul (canonical ps) ≡ false → IsWhole (encode_utf8_all (canonical ps))
unfolding Passes
canonical_whole ps z rest = canonical_passes ps z (34 ∷ rest) ∙ ap Ends (omega arith)

-- What printing preserves.

pub kept_name : (n : List ℕ) → name_from n ≡ Ok n → is_name (with_backslashes n) ≡ true
kept_name n h = ap (λ x. is_ok (name_from x)) (plain-escaped n) ∙ ap is_ok h

kept_literal : (op : Cmp) (v : Literal) → IsKeptBy op v → (literal_of op (literal_text v) ≡ v) × IsWhole (literal_text v)
kept_literal op (Exact bs) h = (go op h.0, escaped_whole bs h.1)
  where
    go : (o : Cmp) → takes_pattern o ≡ false → literal_of o (with_backslashes bs) ≡ Exact bs
    go Eq e = absurd (true≢false e)
    go Ne e = absurd (true≢false e)
    go Lt e = ap Exact (plain-escaped bs)
    go Le e = ap Exact (plain-escaped bs)
    go Gt e = ap Exact (plain-escaped bs)
    go Ge e = ap Exact (plain-escaped bs)
kept_literal op (Wild ps) h = (go op h.0, canonical_whole ps h.2)
  where
    read : wild_or_none (pattern (chars (encode_utf8_all (canonical ps)))) ≡ Wild ps
    read = ap wild_or_none (ap pattern (chars-encodes (canonical ps) h.3) ∙ h.1)

    go : (o : Cmp) → takes_pattern o ≡ true → literal_of o (encode_utf8_all (canonical ps)) ≡ Wild ps
    go Eq e = read
    go Ne e = read
    go Lt e = absurd (true≢false (sym e))
    go Le e = absurd (true≢false (sym e))
    go Gt e = absurd (true≢false (sym e))
    go Ge e = absurd (true≢false (sym e))

kept_printable : (t : Formula) → IsKept t → IsPrintable t
kept_printable (Leaf n op v) h = (kept_name n h.0, plain-escaped n, (kept_literal op v h.1).0)
kept_printable (And l r) h = (kept_printable l h.0, kept_printable r h.1)
kept_printable (Or l r) h = (kept_printable l h.0, kept_printable r h.1)

pub kept_quotable : (t : Formula) → IsKept t → IsQuotable t
kept_quotable (Leaf n op v) h = (escaped_whole n (no_nul n h.0), (kept_literal op v h.1).1)
kept_quotable (And l r) h = (kept_quotable l h.0, kept_quotable r h.1)
kept_quotable (Or l r) h = (kept_quotable l h.0, kept_quotable r h.1)

-- If printing preserves a tree, the canonical text of the tree encodes it.
pub kept_parses : (t : Formula) → IsKept t → IsTextOf (or_text t) t
kept_parses t h = (text_whole t (kept_quotable t h), text_parses t (kept_quotable t h) (kept_printable t h))

-- A text encodes at most one tree.
pub one_text : (text : List ℕ) (s t : Formula) → IsTextOf text s → IsTextOf text t → s ≡ t
one_text text s t h k = one_tree (tokens text) s t h.1 k.1
