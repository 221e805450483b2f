-- What items do to the stack.
use Rattle.std.proofs.Common.{◌≡◌, ℕ, Option, Some, None, Result, Err, List, [], ◌∷◌, ◌++◌, length, map, reverse, refl, sym, ap, ◌∙◌}
use Rattle.be_value.specs.declared.refusals.Refusal.{Refusal}
use Rattle.be_value.specs.declared.refusals.Refusal.TheVariants.{BadPattern, BadRpn}
use Rattle.be_query.specs.declared.tree.Cmp.{Cmp}
use Rattle.be_query.specs.Grammar.{Formula, Leaf}
use Rattle.be_query.specs.Faults.{bad_pattern}
use Rattle.be_query.specs.Rpn.{Thing, Attribute, Value, Whole, given_literal, compares, counts, top_tree, one_tree, thing_of, things_of}
use Rattle.be_query.specs.declared.rpn.Thing as code_thing
use Rattle.std.proofs.lemmas.List.{length-map, length-reverse, map-append, reverse-append}

-- A value that is a bad pattern.
pub value_refused : (at n place : ℕ) (op : Cmp) (c : List ℕ × List ℕ × List Thing) → bad_pattern op c.1 ≡ Some place → compares at n op (Some c) ≡ Err (BadPattern at)
value_refused at n place op c h = ap reported h
  where
    reported : Option ℕ → Result (ℕ × List Thing) Refusal
    reported o = elim o [ Some _ ↦ Err (BadPattern at) | None ↦ counts n (Leaf c.0 op (given_literal op c.1)) c.2 ]

-- More than one thing is left.
pub many_things : (at : ℕ) (things rest : List Thing) (t : Formula) → top_tree things ≡ Some (t, rest) → (length rest ≡ 0 → ⊥) → one_tree at things ≡ Err (BadRpn at)
many_things at [] rest t e h = refl
many_things at (Attribute n ∷ things) rest t e h = refl
many_things at (Value v ∷ things) rest t e h = refl
many_things at (Whole u ∷ []) rest t e h = absurd (h (ap left (sym e)))
  where
    left : Option (Formula × List Thing) → ℕ
    left None = 0
    left (Some s) = length s.1
many_things at (Whole u ∷ x ∷ things) rest t e h = refl

pub some_things : (things : List code_thing.Thing) → (length things ≡ 0 → ⊥) → length (things_of things) ≡ 0 → ⊥
some_things things h e = h (sym (length-map things thing_of) ∙ sym (length-reverse (map thing_of things)) ∙ e)

-- A pushed thing is on top.
pub one_more : (things : List code_thing.Thing) (thing : code_thing.Thing) → things_of (things ++ thing ∷ []) ≡ thing_of thing ∷ things_of things
one_more things thing = ap reverse (map-append thing_of things (thing ∷ [])) ∙ reverse-append (map thing_of things) (thing_of thing ∷ [])
