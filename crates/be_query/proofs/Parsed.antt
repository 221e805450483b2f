-- A printed text encodes its tree.
use Rattle.std.proofs.Common.{◌≡◌, ℕ, List, [], ◌∷◌, ◌++◌, refl, sym, ap, ◌∙◌, ◌||◌}
use Rattle.std.specs.Bool.{◌==◌}
use Rattle.std.proofs.lemmas.Bool.{cond_both, eq-eqb, true≢false, or_parts}
use Rattle.be_query.proofs.Plain.{plain_one}
use Rattle.be_query.specs.declared.tree.Cmp.{Cmp}
use Rattle.be_query.specs.Tokens.{Open, Close, Both, Either, plain}
use Rattle.be_query.specs.Grammar.{OrPhrase, or_one, or_more, AndPhrase, and_one, and_more, NotPhrase, group, comparison, or_tokens, and_tokens, not_tokens, or_tree, and_tree, not_tree, Formula, Leaf, And, Or, Literal, ParsesTo}
use Rattle.be_query.specs.Printing.{with_backslashes, literal_text, or_printed, and_printed, operand_printed, IsPrintable}

abbrev OrParses : Formula → Type 0
OrParses t = (o : OrPhrase) × (or_tokens o ≡ or_printed t) × (or_tree o ≡ t)

abbrev AndParses : Formula → Type 0
AndParses t = (a : AndPhrase) × (and_tokens a ≡ and_printed t) × (and_tree a ≡ t)

abbrev OperandParses : Formula → Type 0
OperandParses t = (n : NotPhrase) × (not_tokens n ≡ operand_printed t) × (not_tree n ≡ t)

leaf : (n : List ℕ) (op : Cmp) (v : Literal) → IsPrintable (Leaf n op v) → OperandParses (Leaf n op v)
leaf n op v h = (comparison (with_backslashes n) h.0 op (literal_text v), refl, (λ i. Leaf (h.1 i) op (h.2 i)))

and_of : (l r : Formula) → AndParses l → OperandParses r → (a : AndPhrase) × (and_tokens a ≡ and_printed l ++ Both ∷ operand_printed r) × (and_tree a ≡ And l r)
and_of l r a n = (and_more a.0 n.0, (λ i. a.1 i ++ Both ∷ n.1 i), (λ i. And (a.2 i) (n.2 i)))

or_of : (l r : Formula) → OrParses l → AndParses r → (o : OrPhrase) × (or_tokens o ≡ or_printed l ++ Either ∷ and_printed r) × (or_tree o ≡ Or l r)
or_of l r o a = (or_more o.0 a.0, (λ i. o.1 i ++ Either ∷ a.1 i), (λ i. Or (o.2 i) (a.2 i)))

mutual
  pub or_parses : (t : Formula) → IsPrintable t → OrParses t
  or_parses (Leaf n op v) h = let w = leaf n op v h in (or_one (and_one w.0), w.1, w.2)
  or_parses (And l r) h = let w = and_of l r (and_parses l h.0) (operand_parses r h.1) in (or_one w.0, w.1, w.2)
  or_parses (Or l r) h = or_of l r (or_parses l h.0) (and_parses r h.1)

  pub and_parses : (t : Formula) → IsPrintable t → AndParses t
  and_parses (Leaf n op v) h = let w = leaf n op v h in (and_one w.0, w.1, w.2)
  and_parses (And l r) h = and_of l r (and_parses l h.0) (operand_parses r h.1)
  and_parses (Or l r) h = let w = or_of l r (or_parses l h.0) (and_parses r h.1) in (and_one (group w.0), ap (λ ts. Open ∷ (ts ++ Close ∷ [])) w.1, w.2)

  pub operand_parses : (t : Formula) → IsPrintable t → OperandParses t
  operand_parses (Leaf n op v) h = leaf n op v h
  operand_parses (And l r) h = let w = and_of l r (and_parses l h.0) (operand_parses r h.1) in (group (or_one w.0), ap (λ ts. Open ∷ (ts ++ Close ∷ [])) w.1, w.2)
  operand_parses (Or l r) h = let w = or_of l r (or_parses l h.0) (and_parses r h.1) in (group w.0, ap (λ ts. Open ∷ (ts ++ Close ∷ [])) w.1, w.2)

-- The tokens of a printed tree encode the tree.
pub printed_parses : (t : Formula) → IsPrintable t → ParsesTo (or_printed t) t
printed_parses t h = or_parses t h

-- A name, or the value of an order operator, is read back.
pub plain-escaped : (bs : List ℕ) → plain (with_backslashes bs) ≡ bs
plain-escaped [] = refl
plain-escaped (b ∷ bs) = cond_both ((b == 34) || (b == 92)) (92 ∷ b ∷ with_backslashes bs) (b ∷ with_backslashes bs) (λ l. plain l ≡ b ∷ bs)
    (λ e. ap (λ l. b ∷ l) (plain-escaped bs))
    (λ e. plain_one b (with_backslashes bs) (λ k. true≢false (sym (eq-eqb b 92 k) ∙ (or_parts _ _ e).1)) ∙ ap (λ l. b ∷ l) (plain-escaped bs))
