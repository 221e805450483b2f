-- A comparison by `!=` is true of what is below its literal and of what is above it.
use Rattle.std.proofs.Common.{◌≡◌, ◌⊎◌, ℕ, ℤ, pos, true, false, List, refl, ap, ◌∙◌, Some, None, inl, inr, not}
use Rattle.std.specs.Option.{option_map_or}
use Rattle.std.specs.Ordering.{int_cmp, is_eq, is_lt, is_gt}
use Rattle.std.specs.declared.cmp.Ordering.{Ordering}
use Rattle.std.specs.declared.cmp.Ordering.TheVariants.{Less, Equal, Greater}
use Rattle.std.specs.declared.option.Option.{Option}
use Rattle.be_value.specs.Key.{key}
use Rattle.be_value.specs.declared.values.Kind.{Kind}
use Rattle.be_value.specs.declared.values.Value.{Value}
use Rattle.be_value.specs.declared.values.Value.TheVariants.{Cstr, Long, Llng, Mims, Rawt, Ulng, Ullg}
use Rattle.be_query.specs.Grammar.{Exact, Formula, Leaf, Literal, Wild}
use Rattle.be_query.specs.declared.tree.Cmp.TheVariants.{Ne, Lt, Gt}
use Rattle.be_volume.specs.Maps.{name_cmp}
use Rattle.be_volume.specs.Query.{holds, holds_of_number, holds_of_text, literal_number, sat}
use Rattle.be_plan.specs.Narrow.{IsPair, LeavesRest, Within}

less_unequal : (o : Ordering) → is_lt o ≡ true → not (is_eq o) ≡ true
less_unequal Less h = refl
less_unequal Equal h = cc
less_unequal Greater h = refl

greater_unequal : (o : Ordering) → is_gt o ≡ true → not (is_eq o) ≡ true
greater_unequal Less h = refl
greater_unequal Equal h = cc
greater_unequal Greater h = refl

either_order : (o : Ordering) → not (is_eq o) ≡ true → (is_lt o ≡ true) ⊎ (is_gt o ≡ true)
either_order Less h = inl refl
either_order Equal h = cc
either_order Greater h = inr refl

number_less : (n : ℤ) (m : Option ℤ) → holds_of_number Lt n m ≡ true → holds_of_number Ne n m ≡ true
number_less n None h = cc
number_less n (Some m) h = less_unequal (int_cmp n m) h

number_greater : (n : ℤ) (m : Option ℤ) → holds_of_number Gt n m ≡ true → holds_of_number Ne n m ≡ true
number_greater n None h = cc
number_greater n (Some m) h = greater_unequal (int_cmp n m) h

number_either : (n : ℤ) (m : Option ℤ) → holds_of_number Ne n m ≡ true → (holds_of_number Lt n m ≡ true) ⊎ (holds_of_number Gt n m ≡ true)
number_either n None h = cc
number_either n (Some m) h = either_order (int_cmp n m) h

text_less : (t : List ℕ) (l : Literal) → holds_of_text Lt t l ≡ true → holds_of_text Ne t l ≡ true
text_less t (Wild parts) h = h
text_less t (Exact words) h = less_unequal (name_cmp t words) h

text_greater : (t : List ℕ) (l : Literal) → holds_of_text Gt t l ≡ true → holds_of_text Ne t l ≡ true
text_greater t (Wild parts) h = h
text_greater t (Exact words) h = greater_unequal (name_cmp t words) h

text_either : (t : List ℕ) (l : Literal) → holds_of_text Ne t l ≡ true → (holds_of_text Lt t l ≡ true) ⊎ (holds_of_text Gt t l ≡ true)
text_either t (Wild parts) h = inl h
text_either t (Exact words) h = either_order (name_cmp t words) h

-- A value below the literal is unequal to it.
pub below_unequal : (v : Value) (l : Literal) → holds Lt v l ≡ true → holds Ne v l ≡ true
below_unequal (Cstr t) l h = text_less t l h
below_unequal (Long n) l h = number_less _ (literal_number l) h
below_unequal (Llng n) l h = number_less _ (literal_number l) h
below_unequal (Mims t) l h = text_less t l h
below_unequal (Rawt bytes) l h = h
below_unequal (Ulng n) l h = number_less (pos n) (literal_number l) h
below_unequal (Ullg n) l h = number_less (pos n) (literal_number l) h

-- A value above the literal is unequal to it.
pub above_unequal : (v : Value) (l : Literal) → holds Gt v l ≡ true → holds Ne v l ≡ true
above_unequal (Cstr t) l h = text_greater t l h
above_unequal (Long n) l h = number_greater _ (literal_number l) h
above_unequal (Llng n) l h = number_greater _ (literal_number l) h
above_unequal (Mims t) l h = text_greater t l h
above_unequal (Rawt bytes) l h = h
above_unequal (Ulng n) l h = number_greater (pos n) (literal_number l) h
above_unequal (Ullg n) l h = number_greater (pos n) (literal_number l) h

-- A value that is unequal to the literal is below it or above it.
pub unequal_either : (v : Value) (l : Literal) → holds Ne v l ≡ true → (holds Lt v l ≡ true) ⊎ (holds Gt v l ≡ true)
unequal_either (Cstr t) l h = text_either t l h
unequal_either (Long n) l h = number_either _ (literal_number l) h
unequal_either (Llng n) l h = number_either _ (literal_number l) h
unequal_either (Mims t) l h = text_either t l h
unequal_either (Rawt bytes) l h = cc
unequal_either (Ulng n) l h = number_either (pos n) (literal_number l) h
unequal_either (Ullg n) l h = number_either (pos n) (literal_number l) h

-- If a range leaves only a `!=` to be tested, a part of it whose values are all unequal to the
-- literal leaves nothing.
pub part_leaves : (f rest : Formula) (name : List ℕ) (l : Literal) (kind : Kind) (low inner_low : List ℕ) (high inner_high : Option (List ℕ)) → LeavesRest f name kind low high (Some rest) →
    rest ≡ Leaf name Ne l → ((k : List ℕ) → Within inner_low inner_high k → Within low high k) →
    ((v : Value) (n : ℕ) → IsPair kind v n → Within inner_low inner_high (key v n) → holds Ne v l ≡ true) → LeavesRest f name kind inner_low inner_high None
part_leaves f rest name l kind low inner_low high inner_high leaves is inside unequal = λ s v n pair within seen.
    leaves s v n pair (inside (key v n) within) seen ∙ ap (λ g. sat s g n) is
    ∙ ap (λ (o : Option Value). option_map_or (λ value. holds Ne value l) o false) seen ∙ unequal v n pair within
