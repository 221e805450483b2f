-- Encodes formulas so that they can be the value of a model.
-- The code is a list of symbols in reverse Polish order.
use Rattle.std.specs.Prelude.{◌≡◌, ◌⊎◌, ℕ, Bool, true, false, List, [], ◌∷◌, refl}
use Rattle.std.specs.Coded.{Coded, code_by, coded_ℕ, coded_bool, coded_list, coded×, coded⊎}
use Rattle.std.proofs.Common.{inl, inr, zero, suc, ◌∙◌}
use Rattle.be_pattern.specs.Match.{Part, Run, One, Among, Only}
use Rattle.be_query.specs.declared.tree.Cmp.{Cmp}
use Rattle.be_query.specs.declared.tree.Cmp.TheVariants.{Eq, Ne, Lt, Le, Gt, Ge}
use Rattle.be_query.specs.Grammar.{Formula, Leaf, And, Or, Literal, Wild, Exact}

abbrev pub to_place : Cmp → ℕ
to_place Eq = 0
to_place Ne = 1
to_place Lt = 2
to_place Le = 3
to_place Gt = 4
to_place Ge = 5

abbrev pub from_place : ℕ → Cmp
from_place zero = Eq
from_place (suc zero) = Ne
from_place (suc (suc zero)) = Lt
from_place (suc (suc (suc zero))) = Le
from_place (suc (suc (suc (suc zero)))) = Gt
from_place (suc (suc (suc (suc (suc n))))) = Ge

pub same_place : (op : Cmp) → from_place (to_place op) ≡ op
same_place Eq = refl
same_place Ne = refl
same_place Lt = refl
same_place Le = refl
same_place Gt = refl
same_place Ge = refl

abbrev pub coded_cmp : Coded Cmp
coded_cmp = code_by ℕ coded_ℕ to_place from_place same_place

abbrev pub PartSum : Type 0
PartSum = Bool ⊎ ((Bool × List (ℕ × ℕ)) ⊎ ℕ)

abbrev pub to_part : Part → PartSum
to_part Run = inl true
to_part One = inl false
to_part (Among negated members) = inr (inl (negated, members))
to_part (Only c) = inr (inr c)

abbrev pub from_part : PartSum → Part
from_part (inl true) = Run
from_part (inl false) = One
from_part (inr (inl set)) = Among set.0 set.1
from_part (inr (inr c)) = Only c

pub same_part : (p : Part) → from_part (to_part p) ≡ p
same_part Run = refl
same_part One = refl
same_part (Among negated members) = refl
same_part (Only c) = refl

abbrev pub coded_part : Coded Part
coded_part = code_by PartSum (coded⊎ coded_bool
    (coded⊎ (coded× coded_bool (coded_list (coded× coded_ℕ coded_ℕ))) coded_ℕ)) to_part from_part
    same_part

abbrev pub to_literal : Literal → List Part ⊎ List ℕ
to_literal (Wild parts) = inl parts
to_literal (Exact bytes) = inr bytes

abbrev pub from_literal : List Part ⊎ List ℕ → Literal
from_literal (inl parts) = Wild parts
from_literal (inr bytes) = Exact bytes

pub same_literal : (v : Literal) → from_literal (to_literal v) ≡ v
same_literal (Wild parts) = refl
same_literal (Exact bytes) = refl

abbrev pub coded_literal : Coded Literal
coded_literal = code_by (List Part ⊎ List ℕ) (coded⊎ (coded_list coded_part) (coded_list coded_ℕ))
    to_literal from_literal same_literal

-- Either a comparison or a connective: true for `&&`, false for `||`.
abbrev pub Symbol : Type 0
Symbol = (List ℕ × (Cmp × Literal)) ⊎ Bool

abbrev pub symbols : Formula → List Symbol → List Symbol
symbols (Leaf name op value) beyond = inl (name, (op, value)) ∷ beyond
symbols (And l r) beyond = symbols l (symbols r (inr true ∷ beyond))
symbols (Or l r) beyond = symbols l (symbols r (inr false ∷ beyond))

abbrev pub join : Bool → List Formula → List Formula
join both [] = []
join both (r ∷ []) = []
join true (r ∷ l ∷ stack) = And l r ∷ stack
join false (r ∷ l ∷ stack) = Or l r ∷ stack

abbrev pub top : List Formula → Formula
top [] = Leaf [] Eq (Exact [])
top (t ∷ stack) = t

abbrev pub build : List Symbol → List Formula → Formula
build [] stack = top stack
build (inl c ∷ beyond) stack = build beyond (Leaf c.0 c.1.0 c.1.1 ∷ stack)
build (inr both ∷ beyond) stack = build beyond (join both stack)

pub same_build : (t : Formula) (beyond : List Symbol) (stack : List Formula)
    → build (symbols t beyond) stack ≡ build beyond (t ∷ stack)
same_build (Leaf name op value) beyond stack = refl
same_build (And l r) beyond stack = same_build l (symbols r (inr true ∷ beyond)) stack ∙ same_build
    r (inr true ∷ beyond) (l ∷ stack)
same_build (Or l r) beyond stack = same_build l (symbols r (inr false ∷ beyond)) stack ∙ same_build
    r (inr false ∷ beyond) (l ∷ stack)

abbrev pub to_symbols : Formula → List Symbol
to_symbols t = symbols t []

abbrev pub from_symbols : List Symbol → Formula
from_symbols us = build us []

pub same_formula : (t : Formula) → from_symbols (to_symbols t) ≡ t
same_formula t = same_build t [] []

abbrev pub coded_formula : Coded Formula
coded_formula = code_by (List Symbol)
    (coded_list (coded⊎ (coded× (coded_list coded_ℕ) (coded× coded_cmp coded_literal)) coded_bool))
    to_symbols from_symbols same_formula
