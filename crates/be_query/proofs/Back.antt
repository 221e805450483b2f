-- A canonical text has no error other than exceeding a limit.
use Rattle.std.proofs.Common.{◌≡◌, ℕ, ◌+◌, ◌-◌, ◌<◌, ◌≤◌, ◌⊎◌, inl, inr, zero, suc, max, true, false, Some, None, List, [], ◌∷◌, ◌++◌, length, refl, sym, ap, ◌∙◌, cond, arith, append_assoc, append-nil}
use Rattle.std.specs.Prelude.{nat_le, nat_lt}
use Rattle.std.proofs.Math.Logic.{⊎_elim}
use Rattle.std.proofs.Math.Nat.{le-max_left, le-max_right, max-le}
use Rattle.std.proofs.lemmas.Bool.{cond-true, cond-false, cases_Bool, leb-true, leb-false, lt-ltb, le-ltb, false≢true}
use Rattle.std.proofs.lemmas.Str.{chars-encodes}
use Rattle.be_value.specs.declared.refusals.Refusal.TheVariants.{TooLong, TooDeep}
use Rattle.be_pattern.specs.Canonical.{canonical}
use Rattle.be_pattern.specs.Parse.{pattern}
use Rattle.be_query.specs.declared.tree.Cmp.{Cmp}
use Rattle.be_query.specs.Tokens.{Token, Open, Close, Both, Either, Compares, Text}
use Rattle.be_query.specs.Grammar.{Formula, Leaf, And, Or, Literal, Wild, Exact, comparisons}
use Rattle.be_query.specs.Reading.{Operand, Operator, Value, Joint, Mark, Paren, ended, next}
use Rattle.be_query.specs.Lexing.{Placed, Lexeme, Whole, Broken, Odd, lexemes, whole, all_whole}
use Rattle.be_query.specs.Faults.{first_fault, own_fault, error_of, bad_pattern, fault}
use Rattle.be_query.specs.Printing.{with_backslashes, literal_text, or_text, leaf_tokens, or_printed, and_printed, operand_printed, or_depth, and_depth, operand_depth, limit_of, IsKept, IsKeptBy}
use Rattle.be_query.proofs.Kept.{kept_name, kept_quotable}
use Rattle.be_query.proofs.Printed.{text_lexes, text_whole}
use Rattle.be_query.proofs.Steps.{goes_on, own_stops, good_value}

parens : ℕ → List Mark
parens zero = []
parens (suc d) = Paren ∷ parens d

ended_parens : (d : ℕ) → ended (parens d) ≡ parens d
unfolding parens
ended_parens zero = refl
ended_parens (suc d) = refl

length_parens : (d : ℕ) → length (parens d) ≡ d
unfolding parens
length_parens zero = refl
length_parens (suc d) = ap suc (length_parens d)

-- The first of several whole lexemes.
first_whole : (xs : List Placed) (t : Token) (ts : List Token) → all_whole xs ≡ true → whole xs ≡ t ∷ ts
    → (x : Placed) × (ys : List Placed) × (xs ≡ x ∷ ys) × (x.lexeme ≡ Whole t) × (all_whole ys ≡ true) × (whole ys ≡ ts)
first_whole [] t ts a e = cc
first_whole (x ∷ ys) t ts a e = go x.lexeme refl
  where
    go : (l : Lexeme) → x.lexeme ≡ l → (z : Placed) × (zs : List Placed) × (x ∷ ys ≡ z ∷ zs) × (z.lexeme ≡ Whole t) × (all_whole zs ≡ true) × (whole zs ≡ ts)
    go (Whole u) k =
        let more : u ∷ whole ys ≡ t ∷ ts = sym (ap (λ l. elim l [ Whole t ↦ t ∷ whole ys | Broken n ↦ whole ys | Odd ↦ whole ys ]) k) ∙ e in
        let same : u ≡ t = cc in
        let rest : whole ys ≡ ts = cc in
        (x, ys, refl, k ∙ ap Whole same, sym (ap (λ l. elim l [ Whole t ↦ all_whole ys | Broken n ↦ false | Odd ↦ false ]) k) ∙ a, rest)
    go (Broken n) k = absurd (false≢true (sym (ap (λ l. elim l [ Whole t ↦ all_whole ys | Broken n ↦ false | Odd ↦ false ]) k) ∙ a))
    go Odd k = absurd (false≢true (sym (ap (λ l. elim l [ Whole t ↦ all_whole ys | Broken n ↦ false | Odd ↦ false ]) k) ∙ a))

none_left : (xs : List Placed) → all_whole xs ≡ true → whole xs ≡ [] → xs ≡ []
none_left [] a e = refl
none_left (x ∷ ys) a e = go x.lexeme refl
  where
    go : (l : Lexeme) → x.lexeme ≡ l → x ∷ ys ≡ []
    go (Whole u) k = let more : u ∷ whole ys ≡ [] = sym (ap (λ l. elim l [ Whole t ↦ t ∷ whole ys | Broken n ↦ whole ys | Odd ↦ whole ys ]) k) ∙ e in cc
    go (Broken n) k = absurd (false≢true (sym (ap (λ l. elim l [ Whole t ↦ all_whole ys | Broken n ↦ false | Odd ↦ false ]) k) ∙ a))
    go Odd k = absurd (false≢true (sym (ap (λ l. elim l [ Whole t ↦ all_whole ys | Broken n ↦ false | Odd ↦ false ]) k) ∙ a))

-- After d open parentheses and n comparisons, the tokens of an operand are read to its end, at
-- which point m comparisons have been read. This holds if at most 64 parentheses are open at any
-- time. Otherwise the error is that there are more.
Reads : ℕ → ℕ → ℕ → List Token → ℕ → Type 0
Reads d n deepest ts m = (len : ℕ) (xs : List Placed) (more : List Token) → d ≤ 64 → all_whole xs ≡ true → whole xs ≡ ts ++ more
    → ((first_fault Operand (parens d) n len xs ≡ Some TooDeep) × (64 < deepest))
    ⊎ ((ys : List Placed) × (all_whole ys ≡ true) × (whole ys ≡ more) × (first_fault Operand (parens d) n len xs ≡ first_fault Joint (parens d) m len ys) × (deepest ≤ 64))

good_literal : (op : Cmp) (v : Literal) → IsKeptBy op v → bad_pattern op (literal_text v) ≡ None
good_literal op (Exact bs) h = cond-false _ _ _ h.0
good_literal op (Wild ps) h = cond-true _ _ _ h.0 ∙ ap error_of (ap pattern (chars-encodes (canonical ps) h.3) ∙ h.1)

leaf_reads : (name : List ℕ) (op : Cmp) (v : Literal) (d n : ℕ) → IsKept (Leaf name op v) → n < 256 → Reads d n (d + 0) (leaf_tokens name op v) (n + 1)
unfolding Reads
leaf_reads name op v d n h few len xs more o al e =
    let a = first_whole xs (Text (with_backslashes name)) (Compares op ∷ Text (literal_text v) ∷ more) al e in
    let b = first_whole a.1 (Compares op) (Text (literal_text v) ∷ more) a.4 a.5 in
    let c = first_whole b.1 (Text (literal_text v)) more b.4 b.5 in
    let named = ap (first_fault Operand (parens d) n len) a.2 ∙ goes_on Operand (parens d) n len a.0 (Text (with_backslashes name)) a.1 (Operator, parens d) a.3 (ap (λ w. cond w (Some (Operator, parens d)) None) (kept_name name h.0)) refl in
    let signed = ap (first_fault Operator (parens d) n len) b.2 ∙ goes_on Operator (parens d) n len b.0 (Compares op) b.1 (Value op, parens d) b.3 refl refl in
    let valued = ap (first_fault (Value op) (parens d) n len) c.2 ∙ goes_on (Value op) (parens d) n len c.0 (Text (literal_text v)) c.1 (Joint, ended (parens d)) c.3 refl (good_value op (literal_text v) (Text (literal_text v)) (parens d) n c.0.start refl (good_literal op v h.1) few) in
    inr (c.1, c.4, c.5, named ∙ signed ∙ valued ∙ ap (λ l. first_fault Joint l (n + 1) len c.1) (ended_parens d), omega arith)

-- An operand, followed by `&&` or `||` and another operand.
joined_reads : (j : Token) (ts us : List Token) (d n a b x y : ℕ) → next Joint (parens d) j ≡ Some (Operand, parens d) → ((start : ℕ) → own_fault Joint (parens d) (n + x) start j ≡ None)
    → Reads d n (d + a) ts (n + x) → Reads d (n + x) (d + b) us (n + x + y) → Reads d n (d + max a b) (ts ++ j ∷ us) (n + (x + y))
unfolding Reads
joined_reads j ts us d n a b x y k own h g len xs more o al e = ⊎_elim
    (λ w. inl (w.0, (let m = le-max_left a b in omega (arith, w.1))))
    (λ w.
    let v = first_whole w.0 j (us ++ more) w.1 w.2 in
    let s : first_fault Operand (parens d) n len xs ≡ first_fault Operand (parens d) (n + x) len v.1 =
    w.3 ∙ ap (first_fault Joint (parens d) (n + x) len) v.2 ∙ goes_on Joint (parens d) (n + x) len v.0 j v.1 (Operand, parens d) v.3 k (own v.0.start) in
    ⊎_elim
    (λ u. inl (s ∙ u.0, (let m = le-max_right a b in omega (arith, u.1))))
    (λ u.
    let count : n + x + y ≡ n + (x + y) = omega arith in
    let low : max a b ≤ 64 - d = max-le (omega (arith, w.4)) (omega (arith, u.4)) in
    inr (u.0, u.1, u.2, s ∙ u.3 ∙ ap (λ m. first_fault Joint (parens d) m len u.0) count, omega (arith, low)))
    (g len v.1 more o v.4 v.5))
    (h len xs (j ∷ us ++ more) o al (e ∙ append_assoc ts (j ∷ us) more))

-- An operand in parentheses.
grouped_reads : (ts : List Token) (d n a m : ℕ) → Reads (suc d) n (suc d + a) ts m → Reads d n (d + (1 + a)) (Open ∷ (ts ++ Close ∷ [])) m
unfolding Reads parens
grouped_reads ts d n a m h len xs more o al e =
    let w = first_whole xs Open ((ts ++ Close ∷ []) ++ more) al e in
    let here = ap (first_fault Operand (parens d) n len) w.2 in
    ⊎_elim
    (λ b.
    let deep : 64 ≤ length (parens d) = leb-true 64 (length (parens d)) b in
    inl (here ∙ own_stops Operand (parens d) n len w.0 Open w.1 (Operand, Paren ∷ parens d) TooDeep w.3 refl (cond-true _ _ _ b), (let l = length_parens d in omega (arith, deep))))
    (λ b.
    let low : length (parens d) < 64 = leb-false 64 (length (parens d)) b in
    let l = length_parens d in
    let s = here ∙ goes_on Operand (parens d) n len w.0 Open w.1 (Operand, Paren ∷ parens d) w.3 refl (cond-false _ _ _ b) in
    ⊎_elim
    (λ u. inl (s ∙ u.0, omega (arith, u.1)))
    (λ u.
    let v = first_whole u.0 Close more u.1 u.2 in
    inr (
      v.1,
      v.4,
      v.5,
      s ∙ u.3 ∙ ap (first_fault Joint (Paren ∷ parens d) m len) v.2
          ∙ goes_on Joint (Paren ∷ parens d) m len v.0 Close v.1 (Joint, ended (parens d)) v.3 refl refl
          ∙ ap (λ l. first_fault Joint l m len v.1) (ended_parens d),
      omega (arith, u.4),
    ))
    (h len w.1 (Close ∷ more) (omega (arith, low)) w.4 (w.5 ∙ append_assoc ts (Close ∷ []) more)))
    (cases_Bool (nat_le 64 (length (parens d))))

both_reads : (l r : Formula) (d n a b : ℕ) → Reads d n (d + a) (and_printed l) (n + comparisons l) → Reads d (n + comparisons l) (d + b) (operand_printed r) (n + comparisons l + comparisons r)
    → Reads d n (d + max a b) (and_printed l ++ Both ∷ operand_printed r) (n + (comparisons l + comparisons r))
both_reads l r d n a b = joined_reads Both (and_printed l) (operand_printed r) d n a b (comparisons l) (comparisons r) refl (λ _. refl)

either_reads : (l r : Formula) (d n a b : ℕ) → Reads d n (d + a) (or_printed l) (n + comparisons l) → Reads d (n + comparisons l) (d + b) (and_printed r) (n + comparisons l + comparisons r)
    → Reads d n (d + max a b) (or_printed l ++ Either ∷ and_printed r) (n + (comparisons l + comparisons r))
either_reads l r d n a b = joined_reads Either (or_printed l) (and_printed r) d n a b (comparisons l) (comparisons r) refl (λ _. refl)

mutual
  or_reads : (t : Formula) (d n : ℕ) → IsKept t → n + comparisons t ≤ 256 → Reads d n (d + or_depth t) (or_printed t) (n + comparisons t)
  or_reads (Leaf name op v) d n h k = leaf_reads name op v d n h (omega arith)
  or_reads (And l r) d n h k = both_reads l r d n (and_depth l) (operand_depth r) (and_reads l d n h.0 (omega arith)) (operand_reads r d (n + comparisons l) h.1 (omega arith))
  or_reads (Or l r) d n h k = either_reads l r d n (or_depth l) (and_depth r) (or_reads l d n h.0 (omega arith)) (and_reads r d (n + comparisons l) h.1 (omega arith))

  and_reads : (t : Formula) (d n : ℕ) → IsKept t → n + comparisons t ≤ 256 → Reads d n (d + and_depth t) (and_printed t) (n + comparisons t)
  and_reads (Leaf name op v) d n h k = leaf_reads name op v d n h (omega arith)
  and_reads (And l r) d n h k = both_reads l r d n (and_depth l) (operand_depth r) (and_reads l d n h.0 (omega arith)) (operand_reads r d (n + comparisons l) h.1 (omega arith))
  and_reads (Or l r) d n h k = grouped_reads (or_printed l ++ Either ∷ and_printed r) d n (max (or_depth l) (and_depth r)) (n + (comparisons l + comparisons r))
      (either_reads l r (suc d) n (or_depth l) (and_depth r) (or_reads l (suc d) n h.0 (omega arith)) (and_reads r (suc d) (n + comparisons l) h.1 (omega arith)))

  operand_reads : (t : Formula) (d n : ℕ) → IsKept t → n + comparisons t ≤ 256 → Reads d n (d + operand_depth t) (operand_printed t) (n + comparisons t)
  operand_reads (Leaf name op v) d n h k = leaf_reads name op v d n h (omega arith)
  operand_reads (And l r) d n h k = grouped_reads (and_printed l ++ Both ∷ operand_printed r) d n (max (and_depth l) (operand_depth r)) (n + (comparisons l + comparisons r))
      (both_reads l r (suc d) n (and_depth l) (operand_depth r) (and_reads l (suc d) n h.0 (omega arith)) (operand_reads r (suc d) (n + comparisons l) h.1 (omega arith)))
  operand_reads (Or l r) d n h k = grouped_reads (or_printed l ++ Either ∷ and_printed r) d n (max (or_depth l) (and_depth r)) (n + (comparisons l + comparisons r))
      (either_reads l r (suc d) n (or_depth l) (and_depth r) (or_reads l (suc d) n h.0 (omega arith)) (and_reads r (suc d) (n + comparisons l) h.1 (omega arith)))

at_depth : (t : Formula) (len : ℕ) → IsKept t → comparisons t ≤ 256 → first_fault Operand [] 0 len (lexemes 0 0 (or_text t)) ≡ cond (nat_lt 64 (or_depth t)) (Some TooDeep) None
unfolding Reads parens
at_depth t len h k =
    let q = kept_quotable t h in
    ⊎_elim
    (λ w. w.0 ∙ sym (cond-true _ _ _ (lt-ltb 64 (or_depth t) (omega (arith, w.1)))))
    (λ w. w.3 ∙ ap (first_fault Joint [] (0 + comparisons t) len) (none_left w.0 w.1 w.2) ∙ sym (cond-false _ _ _ (le-ltb 64 (or_depth t) (omega (arith, w.4)))))
    (or_reads t 0 0 h (omega (arith, k)) len (lexemes 0 0 (or_text t)) [] (omega arith) (text_whole t q) (text_lexes t q ∙ sym (append-nil (or_printed t))))

-- The error of the text is the limit that it exceeds.
pub only_limits : (t : Formula) → IsKept t → comparisons t ≤ 256 → fault (or_text t) ≡ limit_of t
only_limits t h k = ap (λ f. cond (nat_lt 4096 (length (or_text t))) (Some TooLong) f) (at_depth t (length (or_text t)) h k)
