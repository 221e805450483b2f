-- Printing preserves whatever clean items build.
use Rattle.std.proofs.Common.{◌≡◌, ℕ, ◌+◌, ◌<◌, ◌^◌, zero, suc, arith, Bool, true, false, Option, Some, None, Result, Ok, Err, List, [], ◌∷◌, ◌++◌, length, map, refl, sym, ap, ◌∙◌, subst}
use Rattle.std.specs.Prelude.{IsUtf8, nat_le, nat_lt}
use Rattle.std.specs.List.{list_all}
use Rattle.std.specs.Str.{chars}
use Rattle.std.proofs.Math.Utf8.{scalar}
use Rattle.std.proofs.lemmas.Bool.{cond_both, and_parts, and_from, or_from, ne_eqb}
use Rattle.std.proofs.lemmas.Str.{scalars-chars}
use Rattle.std.specs.Prelude.{pos, negsuc}
use Rattle.std.specs.Fmt.{decimal, signed_decimal}
use Rattle.std.specs.Int.Digits.{digits_of}
use Rattle.std.specs.Int.Signed.{mag}
use lib.IntN.{ℤ}
use Rattle.std.proofs.lemmas.Fmt.{IsAscii-decimal, IsAscii-signed, decimal_digit, decimal-digits_of}
use Rattle.std.proofs.lemmas.Str.{IsUtf8-from_ascii}
use Rattle.be_value.specs.Name.{name_from, has_nul}
use Rattle.be_value.specs.declared.refusals.Refusal.{Refusal}
use Rattle.be_value.specs.declared.refusals.Refusal.TheVariants.{BadPattern}
use Rattle.be_pattern.specs.Match.{Part, Run, Only}
use Rattle.be_pattern.specs.Canonical.{around, run_if, is_formed, has_only}
use Rattle.be_pattern.proofs.Back.{canonical_read}
use Rattle.be_query.specs.declared.tree.Cmp.{Cmp}
use Rattle.be_query.specs.declared.tree.Cmp.TheVariants.{Eq, Ne, Lt, Le, Gt, Ge}
use Rattle.be_query.specs.Grammar.{Formula, Leaf, And, Or, Wild}
use Rattle.be_query.specs.Faults.{bad_pattern}
use Rattle.be_query.specs.Printing.{IsKept, IsKeptBy}
use Rattle.be_query.specs.Rpn.{Thing, Attribute, Value, Whole, Item, Attr, Given, Number, Compare, Around, Both, Either, Complement, top_tree, comparison_below, top_comparison, tree_below, top_trees, counts, given_literal, compares, surrounds, joins, complements, work, shallow, one_tree, ItemClean}
use Rattle.be_query.proofs.Held.{some, all_some, scalars_all, chars_clean, parts_kept, literal_kept, complement_kept}

abbrev pub ThingKept : Thing → Type 0
ThingKept (Attribute n) = name_from n ≡ Ok n
ThingKept (Value v) = (has_nul v ≡ false) × IsUtf8 v
ThingKept (Whole t) = IsKept t

abbrev pub StackKept : List Thing → Type 0
StackKept [] = Unit {0}
StackKept (x ∷ things) = ThingKept x × StackKept things

abbrev pub WorkKept : Result (ℕ × List Thing) Refusal → Type 0
WorkKept (Err e) = Unit {0}
WorkKept (Ok s) = StackKept s.1

ComparisonKept : Option (List ℕ × List ℕ × List Thing) → Type 0
ComparisonKept None = Unit {0}
ComparisonKept (Some c) = (name_from c.0 ≡ Ok c.0) × ((has_nul c.1 ≡ false) × IsUtf8 c.1) × StackKept c.2

TreesKept : Option (Formula × Formula × List Thing) → Type 0
TreesKept None = Unit {0}
TreesKept (Some s) = IsKept s.0 × IsKept s.1 × StackKept s.2

below_kept : (v : List ℕ) (things : List Thing) → (has_nul v ≡ false) × IsUtf8 v → StackKept things → ComparisonKept (comparison_below (Some (v, things)))
unfolding ComparisonKept
below_kept v [] h k = tt
below_kept v (Attribute n ∷ things) h k = (k.0, h, k.1)
below_kept v (Value w ∷ things) h k = tt
below_kept v (Whole t ∷ things) h k = tt

comparison_kept : (things : List Thing) → StackKept things → ComparisonKept (top_comparison things)
unfolding ComparisonKept
comparison_kept [] k = tt
comparison_kept (Attribute n ∷ things) k = tt
comparison_kept (Value v ∷ things) k = below_kept v things k.0 k.1
comparison_kept (Whole t ∷ things) k = tt

right_kept : (r : Formula) (things : List Thing) → IsKept r → StackKept things → TreesKept (tree_below (Some (r, things)))
unfolding TreesKept
right_kept r [] h k = tt
right_kept r (Attribute n ∷ things) h k = tt
right_kept r (Value w ∷ things) h k = tt
right_kept r (Whole t ∷ things) h k = (k.0, h, k.1)

trees_kept : (things : List Thing) → StackKept things → TreesKept (top_trees things)
unfolding TreesKept
trees_kept [] k = tt
trees_kept (Attribute n ∷ things) k = tt
trees_kept (Value v ∷ things) k = tt
trees_kept (Whole t ∷ things) k = right_kept t things k.0 k.1

-- Patterns around a literal string.

only_all : (test : Part → Bool) (cs : List ℕ) (rest : List Part) → list_all (λ c. test (Only c)) cs ≡ true → list_all test rest ≡ true → list_all test (map Only cs ++ rest) ≡ true
only_all test [] rest h k = k
only_all test (c ∷ cs) rest h k = let a = and_parts _ _ h in and_from _ _ a.0 (only_all test cs rest a.1 k)

run_all : (test : Part → Bool) (is_there : Bool) (rest : List Part) → test Run ≡ true → list_all test rest ≡ true → list_all test (run_if is_there ++ rest) ≡ true
run_all test true rest h k = and_from _ _ h k
run_all test false rest h k = k

end_all : (test : Part → Bool) (is_there : Bool) → test Run ≡ true → list_all test (run_if is_there) ≡ true
end_all test true h = and_from _ _ h refl
end_all test false h = refl

around_all : (test : Part → Bool) (before beyond : Bool) (cs : List ℕ) → test Run ≡ true → list_all (λ c. test (Only c)) cs ≡ true → list_all test (around before cs beyond) ≡ true
around_all test before beyond cs r h = run_all test before (map Only cs ++ run_if beyond) r (only_all test cs (run_if beyond) h (end_all test beyond r))

all_true : (cs : List ℕ) → list_all (λ c. is_formed (Only c)) cs ≡ true
all_true [] = refl
all_true (c ∷ cs) = all_true cs

around_kept : (before beyond : Bool) (text : List ℕ) → has_nul text ≡ false → IsUtf8 text → IsKeptBy Eq (Wild (around before (chars text) beyond))
around_kept before beyond text h u =
    let cs = chars text in
    let ps = around before cs beyond in
    let k = parts_kept ps (canonical_read ps (around_all is_formed before beyond cs refl (all_true cs)))
    (around_all (has_only some) before beyond cs refl (all_some cs (chars_clean text u h)))
    (around_all (has_only scalar) before beyond cs refl (sym (scalars_all cs) ∙ scalars-chars text u)) in
    (refl, k.0, k.1, k.2)

-- Items.

counts_kept : (n : ℕ) (leaf : Formula) (things : List Thing) → IsKept leaf → StackKept things → WorkKept (counts n leaf things)
counts_kept n leaf things h k = cond_both (nat_le 256 n) _ _ WorkKept (λ e. tt) (λ e. (h, k))

given_kept : (op : Cmp) (text : List ℕ) → has_nul text ≡ false → IsUtf8 text → IsKeptBy op (given_literal op text)
given_kept Eq text h u = literal_kept Eq text h u
given_kept Ne text h u = literal_kept Ne text h u
given_kept Lt text h u = (refl, h)
given_kept Le text h u = (refl, h)
given_kept Gt text h u = (refl, h)
given_kept Ge text h u = (refl, h)

compares_kept : (at n : ℕ) (op : Cmp) (o : Option (List ℕ × List ℕ × List Thing)) → ComparisonKept o → WorkKept (compares at n op o)
unfolding ComparisonKept
compares_kept at n op None h = tt
compares_kept at n op (Some c) h = go (bad_pattern op c.1)
  where
    go : (o : Option ℕ) → WorkKept (elim o [ Some _ ↦ Err (BadPattern at) | None ↦ counts n (Leaf c.0 op (given_literal op c.1)) c.2 ])
    go (Some x) = tt
    go None = counts_kept n (Leaf c.0 op (given_literal op c.1)) c.2 (h.0, given_kept op c.1 h.1.0 h.1.1) h.2

surrounds_kept : (at n : ℕ) (before beyond : Bool) (o : Option (List ℕ × List ℕ × List Thing)) → ComparisonKept o → WorkKept (surrounds at n before beyond o)
unfolding ComparisonKept
surrounds_kept at n before beyond None h = tt
surrounds_kept at n before beyond (Some c) h = counts_kept n (Leaf c.0 Eq (Wild (around before (chars c.1) beyond))) c.2 (h.0, around_kept before beyond c.1 h.1.0 h.1.1) h.2

both_kept : (at n : ℕ) (o : Option (Formula × Formula × List Thing)) → TreesKept o → WorkKept (joins at n And o)
unfolding TreesKept
both_kept at n None h = tt
both_kept at n (Some s) h = ((h.0, h.1), h.2)

either_kept : (at n : ℕ) (o : Option (Formula × Formula × List Thing)) → TreesKept o → WorkKept (joins at n Or o)
unfolding TreesKept
either_kept at n None h = tt
either_kept at n (Some s) h = ((h.0, h.1), h.2)

other_kept : (at n : ℕ) (things : List Thing) → StackKept things → WorkKept (complements at n (top_tree things))
other_kept at n [] k = tt
other_kept at n (Attribute a ∷ things) k = tt
other_kept at n (Value v ∷ things) k = tt
other_kept at n (Whole t ∷ things) k = (complement_kept t k.0, k.1)

work_kept : (at n : ℕ) (things : List Thing) (i : Item) → StackKept things → ItemClean i → WorkKept (work at n things i)
work_kept at n things (Attr name) k c = (c, k)
work_kept at n things (Given text) k c = cond_both (has_nul text) _ _ WorkKept (λ e. tt) (λ e. ((e, c), k))
work_kept at n things (Number text) k c = (c, k)
work_kept at n things (Compare op) k c = compares_kept at n op _ (comparison_kept things k)
work_kept at n things (Around before beyond) k c = surrounds_kept at n before beyond _ (comparison_kept things k)
work_kept at n things Both k c = both_kept at n _ (trees_kept things k)
work_kept at n things Either k c = either_kept at n _ (trees_kept things k)
work_kept at n things Complement k c = other_kept at n things k

shallow_kept : (r : Result (ℕ × List Thing) Refusal) → WorkKept r → WorkKept (shallow r)
shallow_kept (Err e) h = tt
shallow_kept (Ok s) h = cond_both (nat_lt 64 (length s.1)) _ _ WorkKept (λ e. tt) (λ e. h)

-- Applying a clean item adds only what printing preserves.
pub item_kept : (at n : ℕ) (things : List Thing) (i : Item) (s : ℕ × List Thing) → StackKept things → ItemClean i → shallow (work at n things i) ≡ Ok s → StackKept s.1
item_kept at n things i s k c e = subst WorkKept e (shallow_kept _ (work_kept at n things i k c))

pub one_kept : (at : ℕ) (things : List Thing) (t : Formula) → StackKept things → one_tree at things ≡ Ok t → IsKept t
one_kept at [] t k e = cc
one_kept at (Attribute a ∷ things) t k e = cc
one_kept at (Value v ∷ things) t k e = cc
one_kept at (Whole u ∷ []) t k e = subst IsKept (let same : u ≡ t = cc in same) k.0
one_kept at (Whole u ∷ x ∷ things) t k e = cc

-- Numbers.

digits_free : (ds : List ℕ) → has_nul (map (λ d. 48 + d) ds) ≡ false
digits_free [] = refl
digits_free (d ∷ ds) = or_from _ _ (ne_eqb (48 + d) 0 (λ e. omega arith)) (digits_free ds)

decimal_free : (n : ℕ) → n < 2 ^ 64 → has_nul (decimal n) ≡ false
decimal_free zero h = ap has_nul (decimal_digit 0 (omega arith))
decimal_free (suc n) h = ap has_nul (decimal-digits_of (suc n) (omega arith) h) ∙ digits_free (digits_of 10 (suc n))

pub number_clean : (n : ℕ) → n < 2 ^ 64 → ItemClean (Number (decimal n))
number_clean n h = (decimal_free n h, IsUtf8-from_ascii (decimal n) (IsAscii-decimal n h))

pub signed_clean : (z : ℤ) → mag z < 2 ^ 63 → ItemClean (Number (signed_decimal z))
signed_clean z h = (go z h, IsUtf8-from_ascii (signed_decimal z) (IsAscii-signed z h))
  where
    go : (z : ℤ) → mag z < 2 ^ 63 → has_nul (signed_decimal z) ≡ false
    go (pos n) h = decimal_free n (omega arith)
    go (negsuc n) h = decimal_free (suc n) (omega arith)
