-- What accepted operations leave of an attribute, and of an index.
use Rattle.std.proofs.Common.{◌≡◌, ◌<◌, ◌≤◌, ℕ, ◌+◌, ◌-◌, Bool, true, false, cond, ◌&&◌, if◌then◌else◌, nat_eq, List, [], ◌∷◌, ◌++◌, length, refl, sym, ap, ◌∙◌, Some, None, IsOk, IfOk, is_ok, arith, subst, suc, zero, unwrap_or, get_or, take, drop, map as each, count_by}
use Rattle.std.proofs.lemmas.Bool.Decides.{nat_tests}
use Rattle.std.proofs.Math.ListN.{drop_of_length-le}
use Rattle.std.proofs.lemmas.Grind.{fold-append}
use Rattle.std.proofs.lemmas.List.{drop_more, get_or_default, take_all, take_more}
use Rattle.std.proofs.lemmas.List.Sums.{count_by_more_no, count_by_more_yes}
use Rattle.std.specs.Cmp.{nat_cmp_total, unsigned_tied}
use Rattle.std.specs.Cmp.Lexicographic.{pointwise, texts_ties}
use Rattle.std.specs.Option.{option_and_then, option_map}
use Rattle.std.specs.Ordering.{is_eq, eq_by_cmp}
use Rattle.std.specs.declared.cmp.Ordering.{Ordering}
use Rattle.std.specs.declared.cmp.Ordering.TheVariants.{Less, Equal, Greater}
use Rattle.std.specs.declared.option.Option.{Option}
use Rattle.std.specs.declared.result.Result.{Result}
use Rattle.std.specs.declared.result.Result.TheVariants.{Ok, Err}
use Rattle.std.specs.FinMap as fin
use Rattle.std.specs.FinMap.{get-insert, get-remove, get-empty, get-entries, get_tied}
use Rattle.std.specs.FinMap.Entries.{find}
use Rattle.be_value.specs.Value.{kind_of}
use Rattle.be_value.specs.declared.values.Kind.{Kind}
use Rattle.be_value.specs.declared.values.Value.{Value}
use Rattle.be_value.specs.declared.refusals.Refusal.{Refusal}
use Rattle.be_volume.specs.Ahead.{next_after, reached, state_after}
use Rattle.be_volume.specs.Indices.{Indices, paired, paired_at, same_kind, unpaired, unpaired_at, with_pair, without_pair}
use Rattle.be_volume.specs.Maps.{Attributes, Nodes, attributes_of, name_cmp}
use Rattle.be_volume.specs.Reading.{attribute, index_kind, index_kinds}
use Rattle.be_volume.specs.Volume.{State, steps}
use Rattle.be_volume.specs.declared.maps.Index.{Index}
use Rattle.be_volume.specs.declared.ops.Done.{Done}
use Rattle.be_volume.specs.declared.ops.Op.{Op}
use Rattle.be_volume.specs.declared.ops.Op.TheVariants.{New, Drop, Set, Unset, MkIndex, RmIndex}
use Rattle.be_volume.proofs.FactLemmas.{get_changed}
use Rattle.be_volume.proofs.MapLemmas.{names_total, exact_names}
use Rattle.be_volume.proofs.StepLemmas.{accepted, made, take_ok, turn}
use Rattle.be_change.specs.Left.{index_kind_left, index_left_by, is_new, left_by}
use Rattle.be_change.proofs.Outcomes.{next_front}

-- ## One attribute

attribute_of : (s : State) (q : ℕ) (name : List ℕ) → attribute s q name ≡ fin.get (attributes_of s.nodes q) name
attribute_of s q name = by (fin.get s.nodes q)
  where
    by : (found : Option Attributes) → option_and_then (λ a. fin.get a name) found ≡ fin.get (unwrap_or found fin.empty) name
    by None = sym (get-empty name_cmp name)
    by (Some a) = refl

put : (b : Bool) (x d : Attributes) (o : Option Attributes) → unwrap_or (cond b (Some x) o) d ≡ cond b x (unwrap_or o d)
put true x d o = refl
put false x d o = refl

taken : (b : Bool) (d : Attributes) (o : Option Attributes) → unwrap_or (cond b None o) d ≡ cond b d (unwrap_or o d)
taken true d o = refl
taken false d o = refl

-- The attributes of a node after some node was given attributes.
own : (m : Nodes) (node : ℕ) (a : Attributes) (q : ℕ) → attributes_of (fin.insert m node a) q ≡ cond (nat_eq q node) a (attributes_of m q)
own m node a q = ap (λ found. unwrap_or found fin.empty) (get-insert nat_cmp_total m node a q ∙ ap (λ b. cond b (Some a) (fin.get m q)) (unsigned_tied q node)) ∙ put (nat_eq q node) a fin.empty (fin.get m q)

gone : (m : Nodes) (node q : ℕ) → attributes_of (fin.remove m node) q ≡ cond (nat_eq q node) fin.empty (attributes_of m q)
gone m node q = ap (λ found. unwrap_or found fin.empty) (get-remove nat_cmp_total m node q ∙ ap (λ b. cond b None (fin.get m q)) (unsigned_tied q node)) ∙ taken (nat_eq q node) fin.empty (fin.get m q)

emptied : (b : Bool) (a : Attributes) (name : List ℕ) → fin.get (cond b fin.empty a) name ≡ unwrap_or (if b then Some None else None) (fin.get a name)
emptied true a name = get-empty name_cmp name
emptied false a name = refl

set_to : (b : Bool) (v : Value) (o : Option Value) → cond b (Some v) o ≡ unwrap_or (if b then Some (Some v) else None) o
set_to true v o = refl
set_to false v o = refl

unset_from : (b : Bool) (o : Option Value) → cond b None o ≡ unwrap_or (if b then Some None else None) o
unset_from true o = refl
unset_from false o = refl

same_number : (q n : ℕ) → nat_eq q n ≡ true → q ≡ n
same_number q n h = grind (arith, nat_tests)

set_in : (m : Nodes) (n q : ℕ) (set : List ℕ) (v : Value) (name : List ℕ) (b : Bool) → nat_eq q n ≡ b →
    fin.get (cond b (fin.insert (attributes_of m n) set v) (attributes_of m q)) name ≡ unwrap_or (if b && pointwise nat_eq name set then Some (Some v) else None) (fin.get (attributes_of m q) name)
set_in m n q set v name true e = get-insert names_total (attributes_of m n) set v name
    ∙ ap (λ b. cond b (Some v) (fin.get (attributes_of m n) name)) (sym (texts_ties name set))
    ∙ set_to (pointwise nat_eq name set) v (fin.get (attributes_of m n) name)
    ∙ ap (λ x. unwrap_or (if pointwise nat_eq name set then Some (Some v) else None) (fin.get (attributes_of m x) name)) (sym (same_number q n e))
set_in m n q set v name false e = refl

unset_in : (m : Nodes) (n q : ℕ) (set : List ℕ) (name : List ℕ) (b : Bool) → nat_eq q n ≡ b →
    fin.get (cond b (fin.remove (attributes_of m n) set) (attributes_of m q)) name ≡ unwrap_or (if b && pointwise nat_eq name set then Some None else None) (fin.get (attributes_of m q) name)
unset_in m n q set name true e = get-remove names_total (attributes_of m n) set name
    ∙ ap (λ b. cond b None (fin.get (attributes_of m n) name)) (sym (texts_ties name set))
    ∙ unset_from (pointwise nat_eq name set) (fin.get (attributes_of m n) name)
    ∙ ap (λ x. unwrap_or (if pointwise nat_eq name set then Some None else None) (fin.get (attributes_of m x) name)) (sym (same_number q n e))
unset_in m n q set name false e = refl

left_in : (s : State) (op : Op) (q : ℕ) (name : List ℕ) → fin.get (attributes_of (made s op).nodes q) name ≡ unwrap_or (left_by op s.next q name) (fin.get (attributes_of s.nodes q) name)
left_in s New q name = ap (λ a. fin.get a name) (own s.nodes s.next fin.empty q) ∙ emptied (nat_eq q s.next) (attributes_of s.nodes q) name
left_in s (Drop node) q name = ap (λ a. fin.get a name) (gone s.nodes node q) ∙ emptied (nat_eq q node) (attributes_of s.nodes q) name
left_in s (Set node set value) q name = ap (λ a. fin.get a name) (own s.nodes node _ q) ∙ set_in s.nodes node q set value name (nat_eq q node) refl
left_in s (Unset node unset) q name = ap (λ a. fin.get a name) (own s.nodes node _ q) ∙ unset_in s.nodes node q unset name (nat_eq q node) refl
left_in s (MkIndex made kind) q name = refl
left_in s (RmIndex removed) q name = refl

pub attribute_made : (s : State) (op : Op) (q : ℕ) (name : List ℕ) → attribute (made s op) q name ≡ unwrap_or (left_by op s.next q name) (attribute s q name)
attribute_made s op q name = attribute_of (made s op) q name ∙ left_in s op q name ∙ ap (unwrap_or (left_by op s.next q name)) (sym (attribute_of s q name))

-- ## One index

abbrev kind_in : Option Index → Option Kind
kind_in found = option_map (λ index. index.kind) found

either : (b : Bool) (x y : Index) (found : Option Kind) → kind_in (Some x) ≡ found → kind_in (Some y) ≡ found → kind_in (Some (if b then x else y)) ≡ found
either true x y found h k = h
either false x y found h k = k

paired_kind : (index : Index) (node : ℕ) (v : Value) → kind_in (Some (paired index node v)) ≡ kind_in (Some index)
paired_kind index node v = either (same_kind index.kind (kind_of v)) _ _ (kind_in (Some index)) refl refl

is_tied : (r : Ordering) → is_eq r ≡ true → r ≡ Equal
is_tied Less h = cc
is_tied Equal h = refl
is_tied Greater h = cc

-- An index is replaced by one of the same kind.
replaced : (m : Indices) (name : List ℕ) (old new : Index) (q : List ℕ) → fin.get m name ≡ Some old → kind_in (Some new) ≡ kind_in (Some old) → kind_in (fin.get (fin.insert m name new) q) ≡ kind_in (fin.get m q)
replaced m name old new q h e = ap kind_in (get-insert names_total m name new q) ∙ by (eq_by_cmp name_cmp q name) refl
  where
    by : (b : Bool) → eq_by_cmp name_cmp q name ≡ b → kind_in (cond b (Some new) (fin.get m q)) ≡ kind_in (fin.get m q)
    by true t = e ∙ ap kind_in (sym h ∙ get_tied names_total m q name (is_tied _ t))
    by false t = refl

paired_in : (m : Indices) (name : List ℕ) (node : ℕ) (v : Value) (q : List ℕ) → kind_in (fin.get (with_pair m name node v) q) ≡ kind_in (fin.get m q)
paired_in m name node v q = by (fin.get m name) refl
  where
    by : (found : Option Index) → fin.get m name ≡ found → kind_in (fin.get (paired_at m name found node v) q) ≡ kind_in (fin.get m q)
    by None e = refl
    by (Some index) e = replaced m name index (paired index node v) q e (paired_kind index node v)

unpaired_in : (m : Indices) (name : List ℕ) (node : ℕ) (q : List ℕ) → kind_in (fin.get (without_pair m name node) q) ≡ kind_in (fin.get m q)
unpaired_in m name node q = by (fin.get m name) refl
  where
    by : (found : Option Index) → fin.get m name ≡ found → kind_in (fin.get (unpaired_at m name found node) q) ≡ kind_in (fin.get m q)
    by None e = refl
    by (Some index) e = replaced m name index (unpaired index node) q e refl

kept : (found : Option Index) (node : ℕ) → kind_in (option_map (λ index. unpaired index node) found) ≡ kind_in found
kept None node = refl
kept (Some index) node = refl

made_in : (b : Bool) (kind : Kind) (pairs : _) (found : Option Index) → kind_in (cond b (Some record { kind = kind; pairs = pairs }) found) ≡ unwrap_or (if b then Some (Some kind) else None) (kind_in found)
made_in true kind pairs found = refl
made_in false kind pairs found = refl

removed_in : (b : Bool) (found : Option Index) → kind_in (cond b None found) ≡ unwrap_or (if b then Some None else None) (kind_in found)
removed_in true found = refl
removed_in false found = refl

pub kind_made : (s : State) (op : Op) (q : List ℕ) → index_kind (made s op) q ≡ unwrap_or (index_left_by op q) (index_kind s q)
kind_made s New q = refl
kind_made s (Drop node) q = ap kind_in (get_changed names_total exact_names (λ index. unpaired index node) s.indices q) ∙ kept (fin.get s.indices q) node
kind_made s (Set node name value) q = paired_in s.indices name node value q
kind_made s (Unset node name) q = unpaired_in s.indices name node q
kind_made s (MkIndex name kind) q = ap kind_in (get-insert names_total s.indices name _ q)
    ∙ ap (λ b. kind_in (cond b (Some record { kind = kind; pairs = fin.empty }) (fin.get s.indices q))) (sym (texts_ties q name))
    ∙ made_in (pointwise nat_eq q name) kind fin.empty (fin.get s.indices q)
kind_made s (RmIndex name) q = ap kind_in (get-remove names_total s.indices name q)
    ∙ ap (λ b. kind_in (cond b None (fin.get s.indices q))) (sym (texts_ties q name))
    ∙ removed_in (pointwise nat_eq q name) (fin.get s.indices q)

-- ## Lists of operations, from last to first

module _ (s : State) (ops : List Op) (i : ℕ) (op : Op) (short : i < length ops) (at : op ≡ get_or ops i op) (ok : IsOk (steps s ops)) where
  after_is : state_after s (take (i + 1) ops) ≡ made (state_after s (take i ops)) op
  after_is = let t = turn s ops i op short at ok in t.is ∙ (accepted (state_after s (take i ops)) op t.accepted).is

  pub attribute_turn : (q : ℕ) (name : List ℕ) → attribute (state_after s (take (i + 1) ops)) q name ≡ unwrap_or (left_by op (state_after s (take i ops)).next q name) (attribute (state_after s (take i ops)) q name)
  attribute_turn q name = ap (λ t. attribute t q name) after_is ∙ attribute_made (state_after s (take i ops)) op q name

  pub kind_turn : (q : List ℕ) → index_kind (state_after s (take (i + 1) ops)) q ≡ unwrap_or (index_left_by op q) (index_kind (state_after s (take i ops)) q)
  kind_turn q = ap (λ t. index_kind t q) after_is ∙ kind_made (state_after s (take i ops)) op q

-- How many nodes a prefix of the operations creates.
pub news_turn : (ops : List Op) (i : ℕ) (op : Op) → i < length ops → op ≡ get_or ops i op → count_by is_new (take (i + 1) ops) ≡ next_after op (count_by is_new (take i ops))
news_turn ops i op short at = by op at
  where
    by : (x : Op) → x ≡ get_or ops i op → count_by is_new (take (i + 1) ops) ≡ next_after x (count_by is_new (take i ops))
    by New e = count_by_more_yes is_new ops i op short (sym (ap is_new e))
    by (Drop node) e = count_by_more_no is_new ops i op short (sym (ap is_new e))
    by (Set node name value) e = count_by_more_no is_new ops i op short (sym (ap is_new e))
    by (Unset node name) e = count_by_more_no is_new ops i op short (sym (ap is_new e))
    by (MkIndex name kind) e = count_by_more_no is_new ops i op short (sym (ap is_new e))
    by (RmIndex name) e = count_by_more_no is_new ops i op short (sym (ap is_new e))

-- The numbers add up before an operation as they do after it.
pub news_before : (op : Op) (number before all next made : ℕ) → number ≡ next_after op before → number + all ≡ next + next_after op made → before + all ≡ next + made
news_before New number before all next made e h = omega (arith, e, h)
news_before (Drop node) number before all next made e h = omega (arith, e, h)
news_before (Set node name value) number before all next made e h = omega (arith, e, h)
news_before (Unset node name) number before all next made e h = omega (arith, e, h)
news_before (MkIndex name kind) number before all next made e h = omega (arith, e, h)
news_before (RmIndex name) number before all next made e h = omega (arith, e, h)

-- There is a number for the node that an operation creates.
pub new_fits : (op : Op) (number all next made : ℕ) → all ≤ next → number + all ≡ next + next_after op made → is_new op ≡ true → 1 ≤ number
new_fits New number all next made few h is = omega (arith, few, h)
new_fits (Drop node) number all next made few h is = cc
new_fits (Set node name value) number all next made few h is = cc
new_fits (Unset node name) number all next made few h is = cc
new_fits (MkIndex name kind) number all next made few h is = cc
new_fits (RmIndex name) number all next made few h is = cc

back : (i : ℕ) → 0 < i → i ≡ (i - 1) + 1
back i h = omega (arith, h)

-- One more operation.
kind_more : (s : State) (ops : List Op) (i : ℕ) (op : Op) (q : List ℕ) → i < length ops → op ≡ get_or ops i op → index_kind_left s (take (i + 1) ops) q ≡ unwrap_or (index_left_by op q) (index_kind_left s (take i ops) q)
kind_more s ops i op q short at = ap (λ xs. index_kind_left s xs q) (take_more ops i op short ∙ ap (λ x. take i ops ++ x ∷ []) (sym at))
    ∙ fold-append (λ (kind : Option Kind) (x : Op). unwrap_or (index_left_by x q) kind) (index_kind s q) (take i ops) (op ∷ [])

pub kind_back : (s : State) (ops : List Op) (i : ℕ) (op : Op) (q : List ℕ) (found left : Option (Option Kind)) → found ≡ index_left_by op q → found ≡ left → 0 < i → i ≤ length ops → op ≡ get_or ops (i - 1) op
    → index_kind_left s ops q ≡ index_kind_left s (take i ops) q
    → index_kind_left s ops q ≡ unwrap_or left (index_kind_left s (take (i - 1) ops) q)
kind_back s ops i op q found left by is some within at h = h ∙ ap (λ n. index_kind_left s (take n ops) q) (back i some) ∙ kind_more s ops (i - 1) op q (omega (arith, some, within)) at
    ∙ ap (λ l. unwrap_or l (index_kind_left s (take (i - 1) ops) q)) (sym by ∙ is)

-- What a prefix of accepted operations leaves of an index is the kind of the index after them.
kind_front : (s : State) (ops : List Op) (i : ℕ) → i ≤ length ops → IsOk (steps s ops) → (q : List ℕ) → index_kind (state_after s (take i ops)) q ≡ index_kind_left s (take i ops) q
kind_front s ops zero within ok q = refl
kind_front s ops (suc i) within ok q =
    let short : i < length ops = omega (arith, within) in
    let op = get_or ops i New in
    let at : op ≡ get_or ops i op = get_or_default ops i New op short in
    let on : i + 1 ≡ suc i = omega arith in
    subst (λ n. index_kind (state_after s (take n ops)) q ≡ index_kind_left s (take n ops) q) on
    (kind_turn s ops i op short at ok q ∙ ap (unwrap_or (index_left_by op q)) (kind_front s ops i (omega (arith, within)) ok q) ∙ sym (kind_more s ops i op q short at))

pub kind_accepted : (s : State) (ops : List Op) (q : List ℕ) → IsOk (steps s ops) → index_kind (state_after s ops) q ≡ index_kind_left s ops q
kind_accepted s ops q ok = subst (λ xs. index_kind (state_after s xs) q ≡ index_kind_left s xs q) (take_all (length ops) ops (omega arith)) (kind_front s ops (length ops) (omega arith) ok q)

-- If this is the kind that the operations leave, it is the kind after them in every volume that
-- accepts them.
pub kind_after : (s : State) (ops : List Op) (q : List ℕ) (kind : Option Kind) → kind ≡ index_kind_left s ops q → IfOk (steps s ops) (λ r. kind ≡ index_kind r.0 q)
kind_after s ops q kind is = by (steps s ops) refl
  where
    by : (r : Result (State × List Done) Refusal) → steps s ops ≡ r → IfOk r (λ x. kind ≡ index_kind x.0 q)
    by (Ok x) e = is ∙ sym (kind_accepted s ops q (ap is_ok e)) ∙ ap (λ r. index_kind (reached s r) q) e
    by (Err refusal) e = tt

-- The next node has this number before the last operations, which leave these numbers.
pub numbered : (s : State) (ops : List Op) (i next number : ℕ) → IsOk (steps s ops) → next ≡ s.next + count_by is_new ops → number + count_by is_new ops ≡ next + count_by is_new (take i ops)
    → number ≡ (state_after s (take i ops)).next
numbered s ops i next number ok first h = let e = next_front s (take i ops) (take_ok s ops i ok) in omega (arith, e, first, h)

pub attribute_back : (s : State) (ops : List Op) (i next number : ℕ) (op : Op) (q : ℕ) (name : List ℕ) (found left : Option (Option Value)) → found ≡ left_by op number q name → found ≡ left → 0 < i → i ≤ length ops → op ≡ get_or ops (i - 1) op → IsOk (steps s ops)
    → next ≡ s.next + count_by is_new ops → number + count_by is_new ops ≡ next + count_by is_new (take (i - 1) ops)
    → attribute (state_after s ops) q name ≡ attribute (state_after s (take i ops)) q name
    → attribute (state_after s ops) q name ≡ unwrap_or left (attribute (state_after s (take (i - 1) ops)) q name)
attribute_back s ops i next number op q name found left by is some within at ok first numbers h =
    h ∙ ap (λ n. attribute (state_after s (take n ops)) q name) (back i some) ∙ attribute_turn s ops (i - 1) op (omega (arith, some, within)) at ok q name
    ∙ ap (λ n. unwrap_or (left_by op n q name) (attribute (state_after s (take (i - 1) ops)) q name)) (sym (numbered s ops (i - 1) next number ok first numbers))
    ∙ ap (λ l. unwrap_or l (attribute (state_after s (take (i - 1) ops)) q name)) (sym by ∙ is)

-- The numbers before the operation at `i - 1`.
pub numbers_back : (ops : List Op) (i next number before : ℕ) (op : Op) → 0 < i → i ≤ length ops → op ≡ get_or ops (i - 1) op → number ≡ next_after op before
    → number + count_by is_new ops ≡ next + count_by is_new (take i ops) → before + count_by is_new ops ≡ next + count_by is_new (take (i - 1) ops)
numbers_back ops i next number before op some within at e h =
    let turned : count_by is_new (take i ops) ≡ next_after op (count_by is_new (take (i - 1) ops)) = ap (λ n. count_by is_new (take n ops)) (back i some) ∙ news_turn ops (i - 1) op (omega (arith, some, within)) at in
    news_before op number before (count_by is_new ops) next (count_by is_new (take (i - 1) ops)) e (h ∙ ap (λ n. next + n) turned)

pub new_back : (ops : List Op) (i next number : ℕ) (op : Op) → 0 < i → i ≤ length ops → op ≡ get_or ops (i - 1) op → count_by is_new ops ≤ next
    → number + count_by is_new ops ≡ next + count_by is_new (take i ops) → is_new op ≡ true → 1 ≤ number
new_back ops i next number op some within at few h is =
    let turned : count_by is_new (take i ops) ≡ next_after op (count_by is_new (take (i - 1) ops)) = ap (λ n. count_by is_new (take n ops)) (back i some) ∙ news_turn ops (i - 1) op (omega (arith, some, within)) at in
    new_fits op number (count_by is_new ops) next (count_by is_new (take (i - 1) ops)) few (h ∙ ap (λ n. next + n) turned) is

-- ## An index's kind in the list of all indices

abbrev pub kind_listed : List (List ℕ × Kind) → List ℕ → Option Kind
kind_listed [] name = None
kind_listed (e ∷ list) name = if pointwise nat_eq name e.0 then Some e.1 else kind_listed list name

listed_entries : (es : List (List ℕ × Index)) (name : List ℕ) → kind_listed (each (λ e. (e.0, e.1.kind)) es) name ≡ kind_in (find name_cmp name es)
listed_entries [] name = refl
listed_entries (e ∷ es) name =
    ap (λ rest. if pointwise nat_eq name e.0 then Some e.1.kind else rest) (listed_entries es name)
    ∙ ap (λ b. if b then Some e.1.kind else kind_in (find name_cmp name es)) (texts_ties name e.0)
    ∙ by (eq_by_cmp name_cmp name e.0)
  where
    by : (b : Bool) → (if b then Some e.1.kind else kind_in (find name_cmp name es)) ≡ kind_in (cond b (Some e.1) (find name_cmp name es))
    by true = refl
    by false = refl

pub listed_is : (s : State) (name : List ℕ) → kind_listed (index_kinds s) name ≡ index_kind s name
listed_is s name = listed_entries (fin.entries s.indices) name ∙ ap kind_in (sym (get-entries s.indices name))

-- The rest of the list, starting at a place.
listed_drop : (list : List (List ℕ × Kind)) (i : ℕ) (e : List ℕ × Kind) (name : List ℕ) → i < length list → e ≡ get_or list i e
    → kind_listed (drop i list) name ≡ (if pointwise nat_eq name e.0 then Some e.1 else kind_listed (drop (i + 1) list) name)
listed_drop list i e name short at = ap (λ l. kind_listed l name) (drop_more list i e short)
    ∙ ap (λ (x : List ℕ × Kind). if pointwise nat_eq name x.0 then Some x.1 else kind_listed (drop (i + 1) list) name) (sym at)

chosen : (b : Bool) (list : List (List ℕ × Kind)) (i : ℕ) (e : List ℕ × Kind) (name : List ℕ) → i < length list → e ≡ get_or list i e → pointwise nat_eq name e.0 ≡ b
    → kind_listed (drop i list) name ≡ (if b then Some e.1 else kind_listed (drop (i + 1) list) name)
chosen b list i e name short at is = listed_drop list i e name short at ∙ ap (λ c. if c then Some e.1 else kind_listed (drop (i + 1) list) name) is

pub listed_here : (list : List (List ℕ × Kind)) (i : ℕ) (e : List ℕ × Kind) (name : List ℕ) → i < length list → e ≡ get_or list i e → pointwise nat_eq name e.0 ≡ true → kind_listed (drop i list) name ≡ Some e.1
listed_here list i e name short at is = chosen true list i e name short at is

pub listed_further : (list : List (List ℕ × Kind)) (i : ℕ) (e : List ℕ × Kind) (name : List ℕ) → i < length list → e ≡ get_or list i e → pointwise nat_eq name e.0 ≡ false → kind_listed (drop i list) name ≡ kind_listed (drop (i + 1) list) name
listed_further list i e name short at is = chosen false list i e name short at is

pub listed_after : (list : List (List ℕ × Kind)) (i : ℕ) (name : List ℕ) → length list ≤ i → kind_listed (drop i list) name ≡ None
listed_after list i name past = ap (λ l. kind_listed l name) (drop_of_length-le list past)
