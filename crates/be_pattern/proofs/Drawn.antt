-- A canonical text contains only the pattern's own characters and those of the notation.
use Rattle.std.proofs.Common.{◌≡◌, ℕ, ◌+◌, Bool, true, false, zero, suc, Option, Some, None, Result, Ok, Err, List, [], ◌∷◌, ◌++◌, take, ◌&&◌, refl, subst}
use Rattle.std.specs.Char.{len_utf8}
use Rattle.std.specs.List.{list_any, list_all, before_first, position_or_len, flat_map}
use Rattle.std.specs.Bool.{◌==◌}
use Rattle.std.proofs.lemmas.Bool.{cond_both, and_parts, and_from}
use Rattle.be_pattern.specs.Match.{Part, Run, One, Among, Only}
use Rattle.be_pattern.specs.Parse.{Letter, letters, ending_backslash, is_bare, are_members, members, set_with, set_of, with_length, set_at, and_then, parts_after, pattern}
use Rattle.be_pattern.specs.Canonical.{marked, is_special, is_special_in_set, member_char, member, class_opening, part_text, canonical, has_only, notation}

-- Characters of a text that is read

On : (ℕ → Bool) → List Letter → Type 0
On p ls = list_all (λ l. p l.char) ls ≡ true

-- both characters of each pair pass the test
Pairs : (ℕ → Bool) → List (ℕ × ℕ) → Type 0
Pairs p ms = list_all (λ m. p m.0 && p m.1) ms ≡ true

OnIf : (ℕ → Bool) → Option Part → Type 0
OnIf p None = Unit {0}
OnIf p (Some part) = has_only p part ≡ true

OnSet : (ℕ → Bool) → Option (Part × ℕ) → Type 0
OnSet p None = Unit {0}
OnSet p (Some s) = has_only p s.0 ≡ true

OnParts : (ℕ → Bool) → Result (List Part) ℕ → Type 0
OnParts p (Ok ps) = list_all (has_only p) ps ≡ true
OnParts p (Err at) = Unit {0}

letters_on : (p : ℕ → Bool) (escaped : Bool) (at : ℕ) (cs : List ℕ) → list_all p cs ≡ true → On p (letters escaped at cs)
unfolding On
letters_on p true at [] h = refl
letters_on p false at [] h = refl
letters_on p true at (c ∷ cs) h = let k = and_parts _ _ h in and_from _ _ k.0 (letters_on p false (at + 1 + len_utf8 c) cs k.1)
letters_on p false at (c ∷ cs) h =
    let k = and_parts _ _ h in
    cond_both (c == 92) (letters true at cs) (record { at = at; escaped = false; char = c } ∷ letters false (at + len_utf8 c) cs) (On p)
    (λ e. letters_on p true at cs k.1)
    (λ e. and_from _ _ k.0 (letters_on p false (at + len_utf8 c) cs k.1))

single : (p : ℕ → Bool) (c : ℕ) (ms : List (ℕ × ℕ)) → p c ≡ true → Pairs p ms → Pairs p ((c, c) ∷ ms)
unfolding Pairs
single p c ms h k = and_from _ _ (and_from _ _ h h) k

members_on : (p : ℕ → Bool) (ls : List Letter) → On p ls → Pairs p (members ls)
unfolding On Pairs
members_on p [] h = refl
members_on p (c ∷ []) h = let k = and_parts (p c.char) true h in single p c.char [] k.0 refl
members_on p (c ∷ d ∷ []) h =
    let k = and_parts (p c.char) (p d.char && true) h in
    let l : p d.char ≡ true = (and_parts (p d.char) true k.1).0 in
    single p c.char ((d.char, d.char) ∷ []) k.0 (single p d.char [] l refl)
members_on p (c ∷ d ∷ e ∷ ls) h =
    let k = and_parts _ _ h in
    let l = and_parts _ _ k.1 in
    let m = and_parts _ _ l.1 in
    cond_both (is_bare 45 d) ((c.char, e.char) ∷ members ls) ((c.char, c.char) ∷ members (d ∷ e ∷ ls)) (Pairs p)
    (λ w. and_from _ _ (and_from _ _ k.0 m.0) (members_on p ls m.1))
    (λ w. single p c.char (members (d ∷ e ∷ ls)) k.0 (members_on p (d ∷ e ∷ ls) k.1))

take_on : (p : ℕ → Bool) (n : ℕ) (ls : List Letter) → On p ls → On p (take n ls)
unfolding On
take_on p zero ls h = refl
take_on p (suc n) [] h = refl
take_on p (suc n) (l ∷ ls) h = let k = and_parts _ _ h in and_from _ _ k.0 (take_on p n ls k.1)

with_on : (p : ℕ → Bool) (negated : Bool) (ms : List (ℕ × ℕ)) → Pairs p ms → OnIf p (set_with negated ms)
unfolding Pairs OnIf
with_on p negated ms h = cond_both (are_members ms) _ _ (OnIf p) (λ w. h) (λ w. tt)

of_on : (p : ℕ → Bool) (ls : List Letter) → On p ls → OnIf p (set_of ls)
unfolding On OnIf
of_on p [] h = tt
of_on p (l ∷ ls) h =
    let k = and_parts _ _ h in
    cond_both (is_bare 94 l) _ _ (OnIf p) (λ w. with_on p true (members ls) (members_on p ls k.1)) (λ w. with_on p false (members (l ∷ ls)) (members_on p (l ∷ ls) h))

length_on : (p : ℕ → Bool) (n : ℕ) (o : Option Part) → OnIf p o → OnSet p (with_length n o)
unfolding OnIf OnSet
length_on p n None h = tt
length_on p n (Some part) h = h

at_on : (p : ℕ → Bool) (ls : List Letter) → On p ls → OnSet p (set_at ls)
unfolding OnSet
at_on p ls h = cond_both (list_any (is_bare 93) ls) _ _ (OnSet p)
    (λ w. length_on p _ _ (of_on p (before_first (is_bare 93) ls) (take_on p (position_or_len (is_bare 93) ls) ls h)))
    (λ w. tt)

then_on : (p : ℕ → Bool) (part : Part) (r : Result (List Part) ℕ) → has_only p part ≡ true → OnParts p r → OnParts p (and_then part r)
unfolding OnParts
then_on p part (Ok ps) h k = and_from _ _ h k
then_on p part (Err at) h k = tt

parts_on : (p : ℕ → Bool) (n : ℕ) (ls : List Letter) → On p ls → OnParts p (parts_after n ls)
unfolding On OnParts OnSet
parts_on p zero [] h = refl
parts_on p (suc n) [] h = refl
parts_on p (suc n) (l ∷ ls) h = parts_on p n ls (and_parts _ _ h).1
parts_on p zero (l ∷ ls) h =
    let k = and_parts _ _ h in
    cond_both (is_bare 42 l) _ _ (OnParts p) (λ w. then_on p Run _ refl (parts_on p 0 ls k.1))
    (λ w. cond_both (is_bare 63 l) _ _ (OnParts p) (λ w. then_on p One _ refl (parts_on p 0 ls k.1))
    (λ w. cond_both (is_bare 91 l) _ _ (OnParts p) (λ w. go (set_at ls) (at_on p ls k.1) (λ n. parts_on p n ls k.1)) (λ w. then_on p (Only l.char) _ k.0 (parts_on p 0 ls k.1))))
  where
    go : (o : Option (Part × ℕ)) → OnSet p o → ((n : ℕ) → OnParts p (parts_after n ls)) → OnParts p (elim o [ None ↦ Err l.at | Some s ↦ and_then s.0 (parts_after s.1 ls) ])
    go None h k = tt
    go (Some s) h k = then_on p s.0 (parts_after s.1 ls) h (k s.1)

read_on : (p : ℕ → Bool) (o : Option ℕ) (r : Result (List Part) ℕ) → OnParts p r → OnParts p (elim o [ Some at ↦ Err at | None ↦ r ])
unfolding OnParts
read_on p None r h = h
read_on p (Some at) r h = tt

-- the tokens that a text encodes contain only its characters
pub pattern_on : (p : ℕ → Bool) (cs : List ℕ) (ps : List Part) → pattern cs ≡ Ok ps → list_all p cs ≡ true → list_all (has_only p) ps ≡ true
unfolding OnParts
pattern_on p cs ps e h = subst (OnParts p) e (read_on p (ending_backslash false 0 cs) _ (parts_on p 0 (letters false 0 cs) (letters_on p false 0 cs h)))

-- Characters of a text that is printed

both_on : (p : ℕ → Bool) (xs ys : List ℕ) → list_all p xs ≡ true → list_all p ys ≡ true → list_all p (xs ++ ys) ≡ true
both_on p [] ys h k = k
both_on p (x ∷ xs) ys h k = let a = and_parts _ _ h in and_from _ _ a.0 (both_on p xs ys a.1 k)

one_on : (p : ℕ → Bool) (c : ℕ) → p c ≡ true → list_all p (c ∷ []) ≡ true
one_on p c h = and_from _ _ h refl

marked_on : (p : ℕ → Bool) (b : Bool) (c : ℕ) → p 92 ≡ true → p c ≡ true → list_all p (marked b c) ≡ true
marked_on p true c h k = and_from _ _ h (one_on p c k)
marked_on p false c h k = one_on p c k

-- the test holds for each character of the notation
record Noted (p : ℕ → Bool) : Type 0 where
  backslash : p 92 ≡ true
  star : p 42 ≡ true
  mark : p 63 ≡ true
  opens : p 91 ≡ true
  closes : p 93 ≡ true
  caret : p 94 ≡ true
  dash : p 45 ≡ true

noted : (p : ℕ → Bool) → list_all p notation ≡ true → Noted p
noted p h =
    let a = and_parts _ _ h in
    let b = and_parts _ _ a.1 in
    let c = and_parts _ _ b.1 in
    let d = and_parts _ _ c.1 in
    let e = and_parts _ _ d.1 in
    let f = and_parts _ _ e.1 in
    let g = and_parts _ _ f.1 in
    record { backslash = a.0; star = b.0; mark = c.0; opens = d.0; closes = e.0; caret = f.0; dash = g.0 }

member_on : (p : ℕ → Bool) (m : ℕ × ℕ) → Noted p → (p m.0 && p m.1) ≡ true → list_all p (member m) ≡ true
member_on p m n h =
    let k = and_parts _ _ h in
    let first = marked_on p (is_special_in_set m.0) m.0 n.backslash k.0 in
    cond_both (m.0 == m.1) (member_char m.0) (member_char m.0 ++ 45 ∷ member_char m.1) (λ t. list_all p t ≡ true)
    (λ w. first)
    (λ w. both_on p (member_char m.0) (45 ∷ member_char m.1) first (and_from _ _ n.dash (marked_on p (is_special_in_set m.1) m.1 n.backslash k.1)))

flat_members_on : (p : ℕ → Bool) (ms : List (ℕ × ℕ)) → Noted p → list_all (λ m. p m.0 && p m.1) ms ≡ true → list_all p (flat_map member ms) ≡ true
flat_members_on p [] n h = refl
flat_members_on p (m ∷ ms) n h = let k = and_parts _ _ h in both_on p (member m) (flat_map member ms) (member_on p m n k.0) (flat_members_on p ms n k.1)

opening_on : (p : ℕ → Bool) (negated : Bool) → Noted p → list_all p (class_opening negated) ≡ true
opening_on p true n = and_from _ _ n.opens (one_on p 94 n.caret)
opening_on p false n = one_on p 91 n.opens

part_on : (p : ℕ → Bool) (part : Part) → Noted p → has_only p part ≡ true → list_all p (part_text part) ≡ true
part_on p Run n h = one_on p 42 n.star
part_on p One n h = one_on p 63 n.mark
part_on p (Only c) n h = marked_on p (is_special c) c n.backslash h
part_on p (Among negated ms) n h = both_on p (class_opening negated) (flat_map member ms ++ 93 ∷ []) (opening_on p negated n)
    (both_on p (flat_map member ms) (93 ∷ []) (flat_members_on p ms n h) (one_on p 93 n.closes))

parts_noted : (p : ℕ → Bool) (ps : List Part) → Noted p → list_all (has_only p) ps ≡ true → list_all p (canonical ps) ≡ true
parts_noted p [] n h = refl
parts_noted p (part ∷ ps) n h = let k = and_parts _ _ h in both_on p (part_text part) (canonical ps) (part_on p part n k.0) (parts_noted p ps n k.1)

-- a canonical text contains only its tokens' characters and those of the notation
pub canonical_on : (p : ℕ → Bool) (ps : List Part) → list_all p notation ≡ true → list_all (has_only p) ps ≡ true → list_all p (canonical ps) ≡ true
canonical_on p ps h k = parts_noted p ps (noted p h) k
