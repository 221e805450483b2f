-- The text of a query has as many places as its tree has comparisons.
use Rattle.std.proofs.Common.{◌≡◌, ℕ, ◌+◌, suc, Bool, true, false, List, [], ◌∷◌, ◌++◌, length, map, refl, sym, ap, ◌∙◌, arith, append_assoc, append-nil}
use Rattle.be_query.specs.Grammar.{OrPhrase, or_one, or_more, AndPhrase, and_one, and_more, NotPhrase, negation, group, comparison, or_tokens, and_tokens, not_tokens, or_tree, and_tree, not_tree, Formula, Leaf, And, Or, complement, comparisons, IsTextOf}
use Rattle.be_query.specs.Lexing.{Placed, Lexeme, Whole, Broken, Odd, lexemes, whole}
use Rattle.be_query.specs.Tokens.{Token, Open, Close, Bang, Both, Either, Compares, Text}
use Rattle.be_query_text.specs.Places.{pieces, pieces_of, three_by_three, places}
use Rattle.be_query_text.specs.declared.places.Piece as code

-- Whether a piece is a name or a value rather than an operator.
abbrev is_text : code.Piece → Bool
is_text (code.TheVariants.Text p) = true
is_text (code.TheVariants.Operator op) = false

abbrev marks : List Token → List Bool
marks [] = []
marks (Open ∷ ts) = marks ts
marks (Close ∷ ts) = marks ts
marks (Bang ∷ ts) = marks ts
marks (Both ∷ ts) = marks ts
marks (Either ∷ ts) = marks ts
marks (Compares op ∷ ts) = false ∷ marks ts
marks (Text raw ∷ ts) = true ∷ marks ts

abbrev threes : List Bool → ℕ
threes (true ∷ false ∷ true ∷ more) = suc (threes more)
threes _ = 0

length_threes : (ps : List code.Piece) → length (three_by_three ps) ≡ threes (map is_text ps)
length_threes [] = refl
length_threes (code.TheVariants.Operator op ∷ ps) = refl
length_threes (code.TheVariants.Text n ∷ []) = refl
length_threes (code.TheVariants.Text n ∷ code.TheVariants.Text v ∷ ps) = refl
length_threes (code.TheVariants.Text n ∷ code.TheVariants.Operator op ∷ []) = refl
length_threes (code.TheVariants.Text n ∷ code.TheVariants.Operator op ∷ code.TheVariants.Operator o ∷ ps) = refl
length_threes (code.TheVariants.Text n ∷ code.TheVariants.Operator op ∷ code.TheVariants.Text v ∷ ps) = ap suc (length_threes ps)

token_marks : (at start : ℕ) (t : Token) (ps : List code.Piece) (ts : List Token) → map is_text ps ≡ marks ts → map is_text (pieces_of at start t ++ ps) ≡ marks (t ∷ ts)
token_marks at start Open ps ts h = h
token_marks at start Close ps ts h = h
token_marks at start Bang ps ts h = h
token_marks at start Both ps ts h = h
token_marks at start Either ps ts h = h
token_marks at start (Compares op) ps ts h = ap (λ l. false ∷ l) h
token_marks at start (Text raw) ps ts h = ap (λ l. true ∷ l) h

lexeme_marks : (at start : ℕ) (l : Lexeme) (xs : List Placed) → map is_text (pieces xs) ≡ marks (whole xs) → map is_text (pieces (record { at = at; start = start; lexeme = l } ∷ xs)) ≡ marks (whole (record { at = at; start = start; lexeme = l } ∷ xs))
lexeme_marks at start (Whole t) xs h = token_marks at start t (pieces xs) (whole xs) h
lexeme_marks at start (Broken n) xs h = h
lexeme_marks at start Odd xs h = h

piece_marks : (xs : List Placed) → map is_text (pieces xs) ≡ marks (whole xs)
piece_marks [] = refl
piece_marks (x ∷ xs) = lexeme_marks x.at x.start x.lexeme xs (piece_marks xs)

marks_append : (ts us : List Token) → marks (ts ++ us) ≡ marks ts ++ marks us
marks_append [] us = refl
marks_append (Open ∷ ts) us = marks_append ts us
marks_append (Close ∷ ts) us = marks_append ts us
marks_append (Bang ∷ ts) us = marks_append ts us
marks_append (Both ∷ ts) us = marks_append ts us
marks_append (Either ∷ ts) us = marks_append ts us
marks_append (Compares op ∷ ts) us = ap (λ l. false ∷ l) (marks_append ts us)
marks_append (Text raw ∷ ts) us = ap (λ l. true ∷ l) (marks_append ts us)

complement_counts : (t : Formula) → comparisons (complement t) ≡ comparisons t
complement_counts (Leaf name op value) = refl
complement_counts (And l r) = λ i. complement_counts l i + complement_counts r i
complement_counts (Or l r) = λ i. complement_counts l i + complement_counts r i

-- The two sides of a connective.
joined_counts : (xs ys : List Bool) (m n : ℕ) (ms : List Bool) → ((more : List Bool) → threes (xs ++ more) ≡ m + threes more) → ((more : List Bool) → threes (ys ++ more) ≡ n + threes more) → threes ((xs ++ ys) ++ ms) ≡ (m + n) + threes ms
joined_counts xs ys m n ms h k = ap threes (append_assoc xs ys ms) ∙ h (ys ++ ms) ∙ ap (λ c. m + c) (k ms) ∙ omega arith

mutual
  or_counts : (o : OrPhrase) (ms : List Bool) → threes (marks (or_tokens o) ++ ms) ≡ comparisons (or_tree o) + threes ms
  or_counts (or_one a) ms = and_counts a ms
  or_counts (or_more o a) ms = ap (λ l. threes (l ++ ms)) (marks_append (or_tokens o) (Either ∷ and_tokens a)) ∙ joined_counts (marks (or_tokens o)) (marks (and_tokens a)) (comparisons (or_tree o)) (comparisons (and_tree a)) ms (λ more. or_counts o more) (λ more. and_counts a more)

  and_counts : (a : AndPhrase) (ms : List Bool) → threes (marks (and_tokens a) ++ ms) ≡ comparisons (and_tree a) + threes ms
  and_counts (and_one n) ms = not_counts n ms
  and_counts (and_more a n) ms = ap (λ l. threes (l ++ ms)) (marks_append (and_tokens a) (Both ∷ not_tokens n)) ∙ joined_counts (marks (and_tokens a)) (marks (not_tokens n)) (comparisons (and_tree a)) (comparisons (not_tree n)) ms (λ more. and_counts a more) (λ more. not_counts n more)

  not_counts : (n : NotPhrase) (ms : List Bool) → threes (marks (not_tokens n) ++ ms) ≡ comparisons (not_tree n) + threes ms
  not_counts (negation n) ms = not_counts n ms ∙ ap (λ k. k + threes ms) (sym (complement_counts (not_tree n)))
  not_counts (group o) ms = ap (λ l. threes (l ++ ms)) (marks_append (or_tokens o) (Close ∷ []) ∙ append-nil (marks (or_tokens o))) ∙ or_counts o ms
  not_counts (comparison name valid op value) ms = omega arith

pub places_counted : (text : List ℕ) (t : Formula) → IsTextOf text t → length (places text) ≡ comparisons t
places_counted text t h =
    let o = h.1 in
    let none : comparisons (or_tree o.0) + 0 ≡ comparisons (or_tree o.0) = omega arith in
    length_threes (pieces (lexemes 0 0 text)) ∙ ap threes (piece_marks (lexemes 0 0 text) ∙ ap marks (sym o.1) ∙ sym (append-nil (marks (or_tokens o.0))))
    ∙ or_counts o.0 [] ∙ none ∙ ap comparisons o.2
