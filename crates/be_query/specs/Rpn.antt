-- The tree that items in reverse Polish notation build, or the error if they don't build one.
use Rattle.std.specs.Prelude.{◌≡◌, ℕ, ◌+◌, Bool, true, false, Option, Some, None, Result, Ok, Err}
use Rattle.std.specs.Prelude.{List, [], ◌∷◌, length, map, reverse, nat_le, nat_lt, if◌then◌else◌}
use Rattle.std.specs.Prelude.{string_bytes, IsUtf8}
use Rattle.std.specs.Str.{chars}
use Rattle.std.specs.Fmt.{decimal, signed_decimal}
use Rattle.be_pattern.specs.Canonical.{around}
use Rattle.be_value.specs.declared.refusals.Refusal.{Refusal}
use Rattle.be_value.specs.declared.refusals.Refusal.TheVariants.{BadPattern, TooDeep, TooMany}
use Rattle.be_value.specs.declared.refusals.Refusal.TheVariants.{BadRpn}
use Rattle.be_query.specs.declared.tree.Cmp.{Cmp}
use Rattle.be_query.specs.declared.tree.Cmp.TheVariants.{Eq, Ne, Lt, Le, Gt, Ge}
use Rattle.be_query.specs.declared.rpn.Item as code_item
use Rattle.be_query.specs.declared.rpn.Thing as code_thing
use Rattle.be_query.specs.declared.rpn.Stack as code_stack
use Rattle.be_value.specs.Name.{name_from, has_nul}
use Rattle.be_query.specs.Grammar.{Formula, Leaf, And, Or, complement, Literal, Wild, Exact}
use Rattle.be_query.specs.Grammar.{literal_of}
use Rattle.be_query.specs.Faults.{takes_pattern, bad_pattern}
use Rattle.be_query.specs.View.{formula}

pub data Thing : Type 0 where
  Attribute : List ℕ → Thing
  Value : List ℕ → Thing
  Whole : Formula → Thing

pub data Item : Type 0 where
  Attr : List ℕ → Item
  Given : List ℕ → Item
  -- A number in decimal.
  Number : List ℕ → Item
  Compare : Cmp → Item
  -- `==` with a literal string, and whether a `*` precedes it and follows it.
  Around : Bool → Bool → Item
  Both : Item
  Either : Item
  Complement : Item

abbrev pub top_value : List Thing → Option (List ℕ × List Thing)
top_value (Value text ∷ stack) = Some (text, stack)
top_value _ = None

abbrev pub top_attribute : List Thing → Option (List ℕ × List Thing)
top_attribute (Attribute name ∷ stack) = Some (name, stack)
top_attribute _ = None

abbrev pub top_tree : List Thing → Option (Formula × List Thing)
top_tree (Whole t ∷ stack) = Some (t, stack)
top_tree _ = None

-- An attribute and the value above it.
abbrev pub comparison_below : Option (List ℕ × List Thing) → Option (List ℕ × List ℕ × List Thing)
comparison_below None = None
comparison_below (Some v) = elim (top_attribute v.1) [ None ↦ None | Some a ↦ Some (a.0, v.0, a.1) ]

abbrev pub top_comparison : List Thing → Option (List ℕ × List ℕ × List Thing)
top_comparison stack = comparison_below (top_value stack)

-- Two trees, the lower one first.
abbrev pub tree_below : Option (Formula × List Thing) → Option (Formula × Formula × List Thing)
tree_below None = None
tree_below (Some r) = elim (top_tree r.1) [ None ↦ None | Some l ↦ Some (l.0, r.0, l.1) ]

abbrev pub top_trees : List Thing → Option (Formula × Formula × List Thing)
top_trees stack = tree_below (top_tree stack)

-- Pushes one more comparison.
abbrev pub counts : ℕ → Formula → List Thing → Result (ℕ × List Thing) Refusal
counts n leaf stack = if nat_le 256 n then Err TooMany else Ok (n + 1, Whole leaf ∷ stack)

-- The literal that a string is compared as: a pattern, or for an order operator the string as it
-- is.
abbrev pub given_literal : Cmp → List ℕ → Literal
given_literal op text = if takes_pattern op then literal_of op text else Exact text

abbrev pub compares : ℕ → ℕ → Cmp → Option (List ℕ × List ℕ × List Thing)
    → Result (ℕ × List Thing) Refusal
compares at n op None = Err (BadRpn at)
compares at n op (Some c) = elim (bad_pattern op c.1)
    [ Some _ ↦ Err (BadPattern at) | None ↦ counts n (Leaf c.0 op (given_literal op c.1)) c.2 ]

abbrev pub surrounds : ℕ → ℕ → Bool → Bool → Option (List ℕ × List ℕ × List Thing)
    → Result (ℕ × List Thing) Refusal
surrounds at n before beyond None = Err (BadRpn at)
surrounds at n before beyond (Some c) = counts n
    (Leaf c.0 Eq (Wild (around before (chars c.1) beyond))) c.2

abbrev pub joins : ℕ → ℕ → (Formula → Formula → Formula) → Option (Formula × Formula × List Thing)
    → Result (ℕ × List Thing) Refusal
joins at n join None = Err (BadRpn at)
joins at n join (Some s) = Ok (n, Whole (join s.0 s.1) ∷ s.2)

abbrev pub complements : ℕ → ℕ → Option (Formula × List Thing) → Result (ℕ × List Thing) Refusal
complements at n None = Err (BadRpn at)
complements at n (Some s) = Ok (n, Whole (complement s.0) ∷ s.1)

-- The stack after the item at position `at` has been applied to it, following `n` comparisons.
abbrev pub work : ℕ → ℕ → List Thing → Item → Result (ℕ × List Thing) Refusal
work at n stack (Attr name) = Ok (n, Attribute name ∷ stack)
work at n stack (Given text) = if has_nul text then Err (BadRpn at) else Ok (n, Value text ∷ stack)
work at n stack (Number text) = Ok (n, Value text ∷ stack)
work at n stack (Compare op) = compares at n op (top_comparison stack)
work at n stack (Around before beyond) = surrounds at n before beyond (top_comparison stack)
work at n stack Both = joins at n And (top_trees stack)
work at n stack Either = joins at n Or (top_trees stack)
work at n stack Complement = complements at n (top_tree stack)

-- The stack may contain at most 64 things.
abbrev pub shallow : Result (ℕ × List Thing) Refusal → Result (ℕ × List Thing) Refusal
shallow (Err e) = Err e
shallow (Ok s) = if nat_lt 64 (length s.1) then Err TooDeep else Ok s

-- Exactly one tree must be left at the end.
abbrev pub one_tree : ℕ → List Thing → Result Formula Refusal
one_tree at (Whole t ∷ []) = Ok t
one_tree at _ = Err (BadRpn at)

abbrev pub rpn_from : ℕ → Result (ℕ × List Thing) Refusal → List Item → Result Formula Refusal
rpn_from at (Err e) items = Err e
rpn_from at (Ok s) [] = one_tree at s.1
rpn_from at (Ok s) (i ∷ items) = rpn_from (at + 1) (shallow (work at s.0 s.1 i)) items

abbrev pub rpn : List Item → Result Formula Refusal
rpn = rpn_from 0 (Ok (0, []))

-- The program's things, stack and items in terms of these definitions.
abbrev pub thing_of : code_thing.Thing → Thing
thing_of (code_thing.TheVariants.Attribute name) = Attribute name
thing_of (code_thing.TheVariants.Value text) = Value (string_bytes text)
thing_of (code_thing.TheVariants.Whole tree) = Whole (formula tree)

-- The things on the stack, from top to bottom.
abbrev pub things_of : List code_thing.Thing → List Thing
things_of things = reverse (map thing_of things)

abbrev pub stack_of : code_stack.Stack → ℕ × List Thing
stack_of s = (s.comparisons, things_of s.things.items)

abbrev pub item_of : code_item.Item → Item
item_of (code_item.TheVariants.Attr name) = Attr name
item_of (code_item.TheVariants.Text text) = Given (string_bytes text)
item_of (code_item.TheVariants.Int n) = Number (signed_decimal n)
item_of (code_item.TheVariants.Uint n) = Number (decimal n)
item_of code_item.TheVariants.Eq = Compare Eq
item_of code_item.TheVariants.Ne = Compare Ne
item_of code_item.TheVariants.Lt = Compare Lt
item_of code_item.TheVariants.Le = Compare Le
item_of code_item.TheVariants.Gt = Compare Gt
item_of code_item.TheVariants.Ge = Compare Ge
item_of code_item.TheVariants.Contains = Around true true
item_of code_item.TheVariants.BeginsWith = Around false true
item_of code_item.TheVariants.EndsWith = Around true false
item_of code_item.TheVariants.And = Both
item_of code_item.TheVariants.Or = Either
item_of code_item.TheVariants.Not = Complement

-- The name of an item is valid, and its string is valid UTF-8.
abbrev pub ItemClean : Item → Type 0
ItemClean (Attr name) = name_from name ≡ Ok name
ItemClean (Given text) = IsUtf8 text
ItemClean (Number text) = (has_nul text ≡ false) × IsUtf8 text
ItemClean (Compare op) = Unit {0}
ItemClean (Around before beyond) = Unit {0}
ItemClean Both = Unit {0}
ItemClean Either = Unit {0}
ItemClean Complement = Unit {0}
