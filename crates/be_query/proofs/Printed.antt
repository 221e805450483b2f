-- A canonical text is split into the tokens of its tree.
use Rattle.std.proofs.Common.{◌≡◌, ℕ, ◌+◌, ◌-◌, true, false, suc, List, [], ◌∷◌, ◌++◌, length, take, drop, refl, sym, ap, ◌∙◌, subst, arith, append_assoc, append-nil}
use Rattle.std.specs.Prelude.{codes}
use Rattle.std.specs.List.{list_any}
use Rattle.std.specs.Bool.{◌==◌}
use Rattle.std.proofs.Math.Logic.{⊎_elim}
use Rattle.std.proofs.lemmas.Bool.{cond-true, cond-false, cases_Bool, or_parts}
use Rattle.be_query.specs.declared.lexer.Span.{Span}
use Rattle.be_query.specs.declared.lexer.Span.TheVariants.{Ends}
use Rattle.be_query.specs.declared.tree.Cmp.{Cmp}
use Rattle.be_query.specs.declared.tree.Cmp.TheVariants.{Eq, Ne, Lt, Le, Gt, Ge}
use Rattle.be_query.specs.Tokens.{Token, Open, Close, Both, Either, Compares, Text}
use Rattle.be_query.specs.Grammar.{Formula, Leaf, And, Or, Literal, ParsesTo}
use Rattle.be_query.specs.Lexing.{further, quoted_span, quoted_front, lexemes, whole, all_whole, tokens, Whole}
use Rattle.be_query.specs.Printing.{wants_backslash, with_backslashes, literal_text, cmp_text, leaf_text, or_text, and_text, operand_text, leaf_tokens, or_printed, and_printed, operand_printed, IsPrintable, IsWhole, IsQuotable}
use Rattle.be_query.proofs.Sentences.{lexemes_after}
use Rattle.be_query.proofs.Loop.{taken_at}
use Rattle.be_query.proofs.Parsed.{printed_parses}

-- The text begins with these tokens, whatever comes after it.
Lexes : List ℕ → List Token → Type 0
Lexes text ts = (at : ℕ) (rest : List ℕ) → (next : ℕ) × (whole (lexemes 0 at (text ++ rest)) ≡ ts ++ whole (lexemes 0 next rest)) × (all_whole (lexemes 0 at (text ++ rest)) ≡ all_whole (lexemes 0 next rest))

both_lex : (xs ys : List ℕ) (ts us : List Token) → Lexes xs ts → Lexes ys us → Lexes (xs ++ ys) (ts ++ us)
unfolding Lexes
both_lex xs ys ts us h k at rest =
    let a = h at (ys ++ rest) in
    let b = k a.0 rest in (
      b.0,
      ap (λ x. whole (lexemes 0 at x)) (append_assoc xs ys rest) ∙ a.1 ∙ ap (λ x. ts ++ x) b.1 ∙ sym (append_assoc ts us (whole (lexemes 0 b.0 rest))),
      ap (λ x. all_whole (lexemes 0 at x)) (append_assoc xs ys rest) ∙ a.2 ∙ b.2,
    )

and_lexes : Lexes (codes " && ") (Both ∷ [])
unfolding Lexes
and_lexes at rest = (at + 1 + 1 + 1 + 1, refl, refl)

or_lexes : Lexes (codes " || ") (Either ∷ [])
unfolding Lexes
or_lexes at rest = (at + 1 + 1 + 1 + 1, refl, refl)

opened : Lexes (codes "(") (Open ∷ [])
unfolding Lexes
opened at rest = (at + 1, refl, refl)

closed : Lexes (codes ")") (Close ∷ [])
unfolding Lexes
closed at rest = (at + 1, refl, refl)

take_front : (xs ys : List ℕ) → take (length xs) (xs ++ ys) ≡ xs
take_front [] ys = refl
take_front (x ∷ xs) ys = ap (λ l. x ∷ l) (take_front xs ys)

drop_front : (xs rest : List ℕ) (b n : ℕ) → n ≡ suc (length xs) → drop n (xs ++ b ∷ rest) ≡ rest
drop_front xs rest b n e = ap (λ k. drop k (xs ++ b ∷ rest)) e ∙ go xs
  where
    go : (ys : List ℕ) → drop (suc (length ys)) (ys ++ b ∷ rest) ≡ rest
    go [] = refl
    go (y ∷ ys) = go ys

quoted : (xs : List ℕ) → IsWhole xs → Lexes (34 ∷ (xs ++ 34 ∷ [])) (Text xs ∷ [])
unfolding Lexes
quoted xs h at rest =
    let bs = xs ++ 34 ∷ rest in
    let n = length xs + 2 - 1 in
    let more : n ≡ suc (length xs) = omega arith in (
      at + 1 + n,
      ap (λ x. whole (lexemes 0 at (34 ∷ x))) (append_assoc xs (34 ∷ []) rest)
          ∙ ap whole (taken_at at 34 bs (Whole (Text (take (length xs) bs))) (length xs + 2) 1 (ap (quoted_front bs) (h rest)))
          ∙ ap (λ x. Text x ∷ whole (lexemes n (at + 1) bs)) (take_front xs (34 ∷ rest))
          ∙ ap (λ l. Text xs ∷ whole l) (lexemes_after n (at + 1) bs ∙ ap (lexemes 0 (at + 1 + n)) (drop_front xs rest 34 n more)),
      ap (λ x. all_whole (lexemes 0 at (34 ∷ x))) (append_assoc xs (34 ∷ []) rest)
          ∙ ap all_whole (taken_at at 34 bs (Whole (Text (take (length xs) bs))) (length xs + 2) 1 (ap (quoted_front bs) (h rest)))
          ∙ ap all_whole (lexemes_after n (at + 1) bs ∙ ap (lexemes 0 (at + 1 + n)) (drop_front xs rest 34 n more)),
    )

-- An operator before a quote.
op_lexes : (op : Cmp) (ys : List ℕ) (ts : List Token) → Lexes (34 ∷ ys) ts → Lexes (cmp_text op ++ 34 ∷ ys) (Compares op ∷ ts)
unfolding Lexes
op_lexes Eq ys ts h at rest = let w = h (at + 1 + 1) rest in (w.0, ap (λ l. Compares Eq ∷ l) w.1, w.2)
op_lexes Ne ys ts h at rest = let w = h (at + 1 + 1) rest in (w.0, ap (λ l. Compares Ne ∷ l) w.1, w.2)
op_lexes Lt ys ts h at rest = let w = h (at + 1) rest in (w.0, ap (λ l. Compares Lt ∷ l) w.1, w.2)
op_lexes Le ys ts h at rest = let w = h (at + 1 + 1) rest in (w.0, ap (λ l. Compares Le ∷ l) w.1, w.2)
op_lexes Gt ys ts h at rest = let w = h (at + 1) rest in (w.0, ap (λ l. Compares Gt ∷ l) w.1, w.2)
op_lexes Ge ys ts h at rest = let w = h (at + 1 + 1) rest in (w.0, ap (λ l. Compares Ge ∷ l) w.1, w.2)

leaf_lexes : (n : List ℕ) (op : Cmp) (v : Literal) → IsQuotable (Leaf n op v) → Lexes (leaf_text n op v) (leaf_tokens n op v)
leaf_lexes n op v h =
    let value = op_lexes op (literal_text v ++ 34 ∷ []) (Text (literal_text v) ∷ []) (quoted (literal_text v) h.1) in
    let name = with_backslashes n ++ 34 ∷ [] in
    let tail = literal_text v ++ 34 ∷ [] in
    let regroup = append_assoc ((name ++ cmp_text op) ++ 34 ∷ []) (literal_text v) (34 ∷ []) ∙ append_assoc (name ++ cmp_text op) (34 ∷ []) tail ∙ append_assoc name (cmp_text op) (34 ∷ tail) in
    subst (λ x. Lexes x (leaf_tokens n op v)) (ap (λ x. 34 ∷ x) (sym regroup))
    (both_lex (34 ∷ name) (cmp_text op ++ 34 ∷ tail) (Text (with_backslashes n) ∷ []) (Compares op ∷ Text (literal_text v) ∷ []) (quoted (with_backslashes n) h.0) value)

both_of : (l r : Formula) → Lexes (and_text l) (and_printed l) → Lexes (operand_text r) (operand_printed r) → Lexes (and_text l ++ codes " && " ++ operand_text r) (and_printed l ++ Both ∷ operand_printed r)
both_of l r h k = subst (λ x. Lexes x (and_printed l ++ Both ∷ operand_printed r)) (sym (append_assoc (and_text l) (codes " && ") (operand_text r))) (both_lex (and_text l) (codes " && " ++ operand_text r) (and_printed l) (Both ∷ operand_printed r) h (both_lex (codes " && ") (operand_text r) (Both ∷ []) (operand_printed r) and_lexes k))

either_of : (l r : Formula) → Lexes (or_text l) (or_printed l) → Lexes (and_text r) (and_printed r) → Lexes (or_text l ++ codes " || " ++ and_text r) (or_printed l ++ Either ∷ and_printed r)
either_of l r h k = subst (λ x. Lexes x (or_printed l ++ Either ∷ and_printed r)) (sym (append_assoc (or_text l) (codes " || ") (and_text r))) (both_lex (or_text l) (codes " || " ++ and_text r) (or_printed l) (Either ∷ and_printed r) h (both_lex (codes " || ") (and_text r) (Either ∷ []) (and_printed r) or_lexes k))

grouped : (xs : List ℕ) (ts : List Token) → Lexes xs ts → Lexes (40 ∷ (xs ++ codes ")")) (Open ∷ (ts ++ Close ∷ []))
grouped xs ts h = both_lex (codes "(") (xs ++ codes ")") (Open ∷ []) (ts ++ Close ∷ []) opened (both_lex xs (codes ")") ts (Close ∷ []) h closed)

mutual
  or_lex : (t : Formula) → IsQuotable t → Lexes (or_text t) (or_printed t)
  or_lex (Leaf n op v) h = leaf_lexes n op v h
  or_lex (And l r) h = both_of l r (and_lex l h.0) (operand_lex r h.1)
  or_lex (Or l r) h = either_of l r (or_lex l h.0) (and_lex r h.1)

  and_lex : (t : Formula) → IsQuotable t → Lexes (and_text t) (and_printed t)
  and_lex (Leaf n op v) h = leaf_lexes n op v h
  and_lex (And l r) h = both_of l r (and_lex l h.0) (operand_lex r h.1)
  and_lex (Or l r) h = grouped (or_text l ++ codes " || " ++ and_text r) (or_printed l ++ Either ∷ and_printed r) (either_of l r (or_lex l h.0) (and_lex r h.1))

  operand_lex : (t : Formula) → IsQuotable t → Lexes (operand_text t) (operand_printed t)
  operand_lex (Leaf n op v) h = leaf_lexes n op v h
  operand_lex (And l r) h = grouped (and_text l ++ codes " && " ++ operand_text r) (and_printed l ++ Both ∷ operand_printed r) (both_of l r (and_lex l h.0) (operand_lex r h.1))
  operand_lex (Or l r) h = grouped (or_text l ++ codes " || " ++ and_text r) (or_printed l ++ Either ∷ and_printed r) (either_of l r (or_lex l h.0) (and_lex r h.1))

pub text_lexes : (t : Formula) → IsQuotable t → tokens (or_text t) ≡ or_printed t
unfolding Lexes
text_lexes t h = let w = or_lex t h 0 [] in ap tokens (sym (append-nil (or_text t))) ∙ w.1 ∙ append-nil (or_printed t)

pub text_whole : (t : Formula) → IsQuotable t → all_whole (lexemes 0 0 (or_text t)) ≡ true
unfolding Lexes
text_whole t h = let w = or_lex t h 0 [] in ap (λ x. all_whole (lexemes 0 0 x)) (sym (append-nil (or_text t))) ∙ w.2

pub text_parses : (t : Formula) → IsQuotable t → IsPrintable t → ParsesTo (tokens (or_text t)) t
text_parses t h k = subst (λ ts. ParsesTo ts t) (sym (text_lexes t h)) (printed_parses t k)

-- Once its backslashes are inserted, a string without a NUL is a single token between quotes.
further_ends : (n m : ℕ) (s : Span) → s ≡ Ends n → m ≡ n + 1 → further s ≡ Ends m
further_ends n m s e k = ap further e ∙ ap Ends (sym k)

pub escaped_whole : (bs : List ℕ) → list_any (λ b. b == 0) bs ≡ false → IsWhole (with_backslashes bs)
escaped_whole [] h rest = refl
escaped_whole (b ∷ bs) h rest = ⊎_elim
    (λ w.
    let p : ((b == 0) ≡ false) × (list_any (λ c. c == 0) bs ≡ false) = or_parts (b == 0) (list_any (λ c. c == 0) bs) h in
    let len : length (92 ∷ b ∷ with_backslashes bs) ≡ length (with_backslashes bs) + 1 + 1 = omega arith in
    ap (λ x. quoted_span 34 false (x ++ 34 ∷ rest)) (cond-true _ _ _ w)
    ∙ further_ends (length (with_backslashes bs) + 1) (length (92 ∷ b ∷ with_backslashes bs)) _ (cond-false _ _ _ p.0 ∙ further_ends (length (with_backslashes bs)) (length (with_backslashes bs) + 1) _ (escaped_whole bs p.1 rest) refl) len
    ∙ ap (λ x. Ends (length x)) (sym (cond-true (wants_backslash b) _ _ w)))
    (λ w.
    let p : ((b == 0) ≡ false) × (list_any (λ c. c == 0) bs ≡ false) = or_parts (b == 0) (list_any (λ c. c == 0) bs) h in
    let q : ((b == 34) ≡ false) × ((b == 92) ≡ false) = or_parts (b == 34) (b == 92) w in
    let len : length (b ∷ with_backslashes bs) ≡ length (with_backslashes bs) + 1 = omega arith in
    ap (λ x. quoted_span 34 false (x ++ 34 ∷ rest)) (cond-false _ _ _ w)
    ∙ rw q.0 (rw p.0 (rw q.1 refl))
    ∙ further_ends (length (with_backslashes bs)) (length (b ∷ with_backslashes bs)) _ (escaped_whole bs p.1 rest) len
    ∙ ap (λ x. Ends (length x)) (sym (cond-false (wants_backslash b) _ _ w)))
    (cases_Bool (wants_backslash b))
