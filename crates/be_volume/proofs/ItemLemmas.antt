-- How many items an operation adds to a volume.
use Rattle.std.proofs.Common.{◌≡◌, ◌≤◌, ℕ, suc, ◌+◌, ◌-◌, ◌*◌, ◌++◌, Bool, true, false, cond, ◌&&◌, if◌then◌else◌, T, List, [], ◌∷◌, length, take, refl, sym, ap, subst, ◌∙◌, Some, None, is_some, is_ok, arith, unwrap_or, map as each, fold}
use Rattle.std.specs.Prelude.{Ok, Err, Result}
use Rattle.std.specs.List.{sum_by}
use Rattle.std.specs.Result.{result_map_both}
use Rattle.std.specs.Ordering.{is_eq, eq_by_cmp, nat_cmp}
use Rattle.std.specs.Cmp.{IsTotalOrder, nat_cmp_total, tied_itself}
use Rattle.std.specs.declared.cmp.Ordering.{Ordering}
use Rattle.std.specs.declared.cmp.Ordering.TheVariants.{Less, Equal, Greater}
use Rattle.std.specs.declared.option.Option.{Option}
use Rattle.std.specs.FinMap as fin
use Rattle.std.specs.FinMap.{FinMap, IsAntisymmetric, nat_cmp-IsAntisymmetric, from_entries, find, put, is_sorted, entries_sorted, get-entries, get-insert, get-remove, get_tied, entries-insert, len-entries, len-insert, len-remove, len-empty, same_map}
use Rattle.std.specs.FinMap.Entries.{by_order, length-put}
use Rattle.std.proofs.lemmas.List.Sums.{sum_by-cons, sum_by-take-le}
use Rattle.be_value.specs.Value.{kind_of}
use Rattle.be_value.specs.declared.refusals.Refusal.{Refusal}
use Rattle.be_value.specs.declared.values.Value.{Value}
use Rattle.be_volume.specs.Ahead.{reached, state_after, indices_after}
use Rattle.be_volume.specs.Indices.{Indices, paired, paired_at, with_pair, unpaired, unpaired_at, without_pair, without_node, same_kind}
use Rattle.be_volume.specs.Items.{items, most_items, most_indices, StaysWithin}
use Rattle.be_volume.specs.Maps.{name_cmp, Attributes, Nodes, attributes_of}
use Rattle.be_volume.specs.Volume.{State, step, steps, advance}
use Rattle.be_volume.specs.declared.maps.Index.{Index}
use Rattle.be_volume.specs.declared.ops.Done.{Done}
use Rattle.be_volume.specs.declared.ops.Op.{Op}
use Rattle.be_volume.specs.declared.ops.Op.TheVariants.{New, Drop, Set, Unset, MkIndex, RmIndex}
use Rattle.be_volume.proofs.MapLemmas.{names_total, exact_names}
use Rattle.be_volume.proofs.StepLemmas.{made, Found, accepted, refused_stays, not_both}
use Rattle.be_volume.proofs.FactLemmas.{indices_is}

missing : {X : Type 0} (o : Option X) (n : ℕ) → suc n ≡ cond (is_some o) n (n + 1) → o ≡ None
missing None n h = refl
missing (Some x) n h = absurd (omega arith)

later : (a b : Bool) → T (a && b) → T b
later true b p = p
later false b p = absurd p

put_twice : {X : Type 0} (b : Bool) (x y : Option X) → cond b x (cond b None y) ≡ cond b x y
put_twice true x y = refl
put_twice false x y = refl

tied : (r : Ordering) → is_eq r ≡ true → r ≡ Equal
tied Less h = cc
tied Equal h = refl
tied Greater h = cc

-- the weight of an optional value
abbrev weight : {X : Type 0} → (X → ℕ) → Option X → ℕ
weight f None = 0
weight f (Some x) = f x

one_more : (b : Bool) (n : ℕ) → cond b n (n + 1) ≤ n + 1
one_more true n = omega arith
one_more false n = omega arith

one_less : (b : Bool) (n : ℕ) → cond b (n - 1) n ≤ n
one_less true n = omega arith
one_less false n = omega arith

-- how many entries there are after a change
module _ {K X : Type 0} {R : K → K → Ordering} (o : IsTotalOrder R) where
  len_more : (m : FinMap R X) (k : K) (v : X) → fin.len (fin.insert m k v) ≤ fin.len m + 1
  len_more m k v = subst (λ n. n ≤ fin.len m + 1) (sym (len-insert o m k v)) (one_more (fin.contains_key m k) (fin.len m))

  len_less : (m : FinMap R X) (k : K) → fin.len (fin.remove m k) ≤ fin.len m
  len_less m k = subst (λ n. n ≤ fin.len m) (sym (len-remove o m k)) (one_less (fin.contains_key m k) (fin.len m))

  len_again : (m : FinMap R X) (k : K) (v : X) → fin.contains_key m k ≡ true → fin.len (fin.insert m k v) ≡ fin.len m
  len_again m k v h = len-insert o m k v ∙ ap (λ b. cond b (fin.len m) (fin.len m + 1)) h

-- the total weight of a map's values
module _ {K X : Type 0} {R : K → K → Ordering} (o : IsTotalOrder R) (f : X → ℕ) where
  abbrev over : List (K × X) → ℕ
  over es = sum_by (λ e. f e.1) es

  over-cons : (e : K × X) (es : List (K × X)) → over (e ∷ es) ≡ f e.1 + over es
  over-cons e es = sum_by-cons (λ (e : K × X). f e.1) e es

  -- a key that is before the first one is missing
  before_none : (k : K) (v : X) (e : K × X) (es : List (K × X)) → T (is_sorted R (e ∷ es)) → R k e.0 ≡ Less → find R k es ≡ None
  before_none k v e es h p =
      missing (find R k es) (length (e ∷ es)) (subst (λ r. length (by_order r ((k, v) ∷ e ∷ es) ((e.0, v) ∷ es) (e ∷ put R k v es)) ≡ cond (is_some (cond (is_eq r) (Some e.1) (find R k es))) (length (e ∷ es)) (length (e ∷ es) + 1)) p (length-put R o k v (e ∷ es) h))

  over-put : (k : K) (v : X) (es : List (K × X)) → T (is_sorted R es) → over (put R k v es) + weight f (find R k es) ≡ over es + f v
  over-put k v [] h = omega (arith, over-cons (k, v) [])
  over-put k v (e ∷ es) h =
      elim (R k e.0) as (λ r. R k e.0 ≡ r → over (by_order r ((k, v) ∷ e ∷ es) ((e.0, v) ∷ es) (e ∷ put R k v es)) + weight f (cond (is_eq r) (Some e.1) (find R k es)) ≡ over (e ∷ es) + f v) [
        | Less ↦ λ p. let none : weight f (find R k es) ≡ 0 = ap (weight f) (before_none k v e es h p) in omega (arith, over-cons (k, v) (e ∷ es))
        | Equal ↦ λ p. omega (arith, over-cons (e.0, v) es, over-cons e es)
        | Greater ↦ λ p. omega (arith, over-put k v es (later _ _ h), over-cons e (put R k v es), over-cons e es)
      ] refl

  abbrev weigh : FinMap R X → ℕ
  weigh m = over (fin.entries m)

  weigh-insert : (m : FinMap R X) (k : K) (v : X) → weigh (fin.insert m k v) + weight f (fin.get m k) ≡ weigh m + f v
  weigh-insert m k v =
      ap (λ es. over es + weight f (fin.get m k)) (entries-insert o m k v)
      ∙ ap (λ found. over (put R k v (fin.entries m)) + weight f found) (get-entries m k)
      ∙ over-put k v (fin.entries m) (entries_sorted m)

  weigh-more : (m : FinMap R X) (k : K) (v : X) → weigh (fin.insert m k v) ≤ weigh m + f v
  weigh-more m k v = omega (arith, weigh-insert m k v)

  none_weigh : (es : List (K × X)) → length es ≡ 0 → over es ≡ 0
  none_weigh [] h = refl
  none_weigh (e ∷ es) h = absurd (omega arith)

  weigh-empty : weigh fin.empty ≡ 0
  weigh-empty = none_weigh _ (sym (len-entries (fin.empty {R = R})) ∙ len-empty R X)

  -- changed values that don't weigh more
  weigh-changed : (g : X → X) → ((x : X) → f (g x) ≤ f x) → (es : List (K × X)) → weigh (from_entries {R = R} (each (λ e. (e.0, g e.1)) es)) ≤ over es
  weigh-changed g less [] = omega (arith, weigh-empty)
  weigh-changed g less (e ∷ es) =
      omega (arith, weigh-more (from_entries (each (λ e. (e.0, g e.1)) es)) e.0 (g e.1), weigh-changed g less es, less e.1, over-cons e es)

  module _ (exact : IsAntisymmetric R) where
    put_back : (m : FinMap R X) (k : K) (x : X) → fin.get m k ≡ Some x → fin.insert (fin.remove m k) k x ≡ m
    put_back m k x h = same_map o exact _ _ (λ q.
        get-insert o (fin.remove m k) k x q ∙ ap (cond (eq_by_cmp R q k) (Some x)) (get-remove o m k q)
        ∙ put_twice (eq_by_cmp R q k) (Some x) (fin.get m q) ∙ by q (eq_by_cmp R q k) refl)
      where
        by : (q : K) (b : Bool) → eq_by_cmp R q k ≡ b → cond b (Some x) (fin.get m q) ≡ fin.get m q
        by q true e = sym h ∙ get_tied o m q k (tied _ e)
        by q false e = refl

    weigh-less : (m : FinMap R X) (k : K) → weigh (fin.remove m k) ≤ weigh m
    weigh-less m k = by (fin.get m k) refl
      where
        by : (found : Option X) → fin.get m k ≡ found → weigh (fin.remove m k) ≤ weigh m
        by (Some x) h =
            let gone : weight f (fin.get (fin.remove m k) k) ≡ 0 =
            ap (weight f) (get-remove o m k k ∙ ap (λ r. cond (is_eq r) None (fin.get m k)) (tied_itself o k)) in
            let back : weigh (fin.insert (fin.remove m k) k x) ≡ weigh m = ap weigh (put_back m k x h) in
            omega (arith, weigh-insert (fin.remove m k) k x)
        by None h =
            let same : fin.remove m k ≡ m = same_map o exact _ _ (λ q. get-remove o m k q ∙ at q (eq_by_cmp R q k) refl) in
            omega (arith, ap weigh same)
          where
            at : (q : K) (b : Bool) → eq_by_cmp R q k ≡ b → cond b None (fin.get m q) ≡ fin.get m q
            at q true e = sym h ∙ get_tied o m q k (tied _ e)
            at q false e = refl

-- the attributes of a node that was given new ones
attributes_weigh : (found : Option Attributes) → weight fin.len found ≡ fin.len (unwrap_or found fin.empty)
attributes_weigh None = sym (len-empty name_cmp Value)
attributes_weigh (Some a) = refl

put_attributes : (nodes : Nodes) (node : ℕ) (a : Attributes) →
    weigh nat_cmp_total fin.len (fin.insert nodes node a) + fin.len (attributes_of nodes node) ≡ weigh nat_cmp_total fin.len nodes + fin.len a
put_attributes nodes node a = omega (arith, weigh-insert nat_cmp_total fin.len nodes node a, attributes_weigh (fin.get nodes node))

-- an index's pairs
abbrev pairs_len : Index → ℕ
pairs_len index = fin.len index.pairs

paired_more : (index : Index) (node : ℕ) (value : Value) → pairs_len (paired index node value) ≤ pairs_len index + 1
paired_more index node value = by (same_kind index.kind (kind_of value))
  where
    by : (b : Bool) → pairs_len (if b then record { kind = index.kind; pairs = fin.insert index.pairs node value } else record { kind = index.kind; pairs = fin.remove index.pairs node }) ≤ pairs_len index + 1
    by true = len_more nat_cmp_total index.pairs node value
    by false = omega (arith, len_less nat_cmp_total index.pairs node)

pair_more : (indices : Indices) (name : List ℕ) (node : ℕ) (value : Value) → weigh names_total pairs_len (with_pair indices name node value) ≤ weigh names_total pairs_len indices + 1
pair_more indices name node value = by (fin.get indices name) refl
  where
    by : (found : Option Index) → fin.get indices name ≡ found → weigh names_total pairs_len (paired_at indices name found node value) ≤ weigh names_total pairs_len indices + 1
    by None e = omega arith
    by (Some index) e = omega (arith, weigh-insert names_total pairs_len indices name (paired index node value), ap (weight pairs_len) e, paired_more index node value)

unpair_less : (indices : Indices) (name : List ℕ) (node : ℕ) → weigh names_total pairs_len (without_pair indices name node) ≤ weigh names_total pairs_len indices
unpair_less indices name node = by (fin.get indices name) refl
  where
    by : (found : Option Index) → fin.get indices name ≡ found → weigh names_total pairs_len (unpaired_at indices name found node) ≤ weigh names_total pairs_len indices
    by None e = omega arith
    by (Some index) e = omega (arith, weigh-insert names_total pairs_len indices name (unpaired index node), ap (weight pairs_len) e, len_less nat_cmp_total index.pairs node)

leave_less : (indices : Indices) (node : ℕ) → weigh names_total pairs_len (without_node indices node) ≤ weigh names_total pairs_len indices
leave_less indices node = weigh-changed names_total pairs_len (λ index. unpaired index node) (λ index. len_less nat_cmp_total index.pairs node) (fin.entries indices)

module _ (s : State) where
  abbrev marks : Nodes → ℕ
  marks nodes = fin.len nodes + weigh nat_cmp_total fin.len nodes

  -- the nodes after an existing one was given other attributes
  set_marks : (node : ℕ) (a : Attributes) → fin.contains_key s.nodes node ≡ true → marks (fin.insert s.nodes node a) + fin.len (attributes_of s.nodes node) ≡ marks s.nodes + fin.len a
  set_marks node a h = omega (arith, len_again nat_cmp_total s.nodes node a h, put_attributes s.nodes node a)

  made_items : (op : Op) → Found s op → items (made s op) ≤ items s + most_items op
  made_items New h =
      omega (arith, len_more nat_cmp_total s.nodes s.next fin.empty, weigh-more nat_cmp_total fin.len s.nodes s.next fin.empty, len-empty name_cmp Value)
  made_items (Drop node) h =
      omega (arith, len_less nat_cmp_total s.nodes node, weigh-less nat_cmp_total fin.len nat_cmp-IsAntisymmetric s.nodes node, leave_less s.indices node)
  made_items (Set node name value) h =
      omega (arith, set_marks node (fin.insert (attributes_of s.nodes node) name value) h.0, len_more names_total (attributes_of s.nodes node) name value, pair_more s.indices name node value)
  made_items (Unset node name) h =
      omega (arith, set_marks node (fin.remove (attributes_of s.nodes node) name) h.0, len_less names_total (attributes_of s.nodes node) name, unpair_less s.indices name node)
  made_items (MkIndex name kind) h =
      omega (arith, weigh-more names_total pairs_len s.indices name (record { kind = kind; pairs = fin.empty }), len-empty nat_cmp Value)
  made_items (RmIndex name) h = omega (arith, weigh-less names_total pairs_len exact_names s.indices name)

more_indices : (op : Op) (n : ℕ) → indices_after op n ≤ n + most_indices op
more_indices New n = omega arith
more_indices (Drop node) n = omega arith
more_indices (Set node name value) n = omega arith
more_indices (Unset node name) n = omega arith
more_indices (MkIndex name kind) n = omega arith
more_indices (RmIndex name) n = omega arith

-- an accepted operation
pub step_items : (s t : State) (op : Op) (done : Done) → step s op ≡ Ok (t, done) → items t ≤ items s + most_items op
step_items s t op done e =
    let a = accepted s op (ap is_ok e) in
    subst (λ u. items u ≤ items s + most_items op) (sym a.is ∙ ap (reached s) e) (made_items s op a.found)

pub step_indices : (s t : State) (op : Op) (done : Done) → step s op ≡ Ok (t, done) → fin.len t.indices ≤ fin.len s.indices + most_indices op
step_indices s t op done e =
    let is : fin.len (reached s (step s op)).indices ≡ indices_after op (fin.len s.indices) = indices_is s op (ap is_ok e) in
    let at : fin.len (reached s (step s op)).indices ≡ fin.len t.indices = ap (λ r. fin.len (reached s r).indices) e in
    omega (arith, more_indices op (fin.len s.indices))

pub few_items : (op : Op) → most_items op ≤ 2
few_items New = omega arith
few_items (Drop node) = omega arith
few_items (Set node name value) = omega arith
few_items (Unset node name) = omega arith
few_items (MkIndex name kind) = omega arith
few_items (RmIndex name) = omega arith

pub few_indices : (op : Op) → most_indices op ≤ 1
few_indices New = omega arith
few_indices (Drop node) = omega arith
few_indices (Set node name value) = omega arith
few_indices (Unset node name) = omega arith
few_indices (MkIndex name kind) = omega arith
few_indices (RmIndex name) = omega arith

-- what a list of operations adds in total
record Grows (s t : State) (ops : List Op) : Type 0 where
  few : items t ≤ items s + sum_by most_items ops
  indices : fin.len t.indices ≤ fin.len s.indices + sum_by most_indices ops

grows_none : (s t : State) → s ≡ t → Grows s t []
grows_none s t e = record { few = omega (arith, ap items e); indices = omega (arith, ap (λ (u : State). fin.len u.indices) e) }

grows : (s t : State) (old dones : List Done) (ops : List Op) → fold advance (Ok (s, old)) ops ≡ Ok (t, dones) → Grows s t ops
grows s t old dones [] e = grows_none s t (ap (reached s) e)
grows s t old dones (op ∷ ops) e =
    by (step s op) refl e (λ x now. grows x.0 t (old ++ x.1 ∷ []) dones ops now)
  where
    by : (r : Result (State × Done) Refusal) → step s op ≡ r → fold advance (result_map_both (λ answer. (answer.0, old ++ answer.1 ∷ [])) (λ f. f) r) ops ≡ Ok (t, dones) →
        ((x : State × Done) → fold advance (Ok (x.0, old ++ x.1 ∷ [])) ops ≡ Ok (t, dones) → Grows x.0 t ops) → Grows s t (op ∷ ops)
    by (Err f) g h rest = absurd (not_both f (t, dones) (sym (refused_stays f ops) ∙ h))
    by (Ok x) g h rest =
        let more = rest x h in
        record {
          few = omega (arith, more.few, step_items s x.0 op x.1 g, sum_by-cons most_items op ops);
          indices = omega (arith, more.indices, step_indices s x.0 op x.1 g, sum_by-cons most_indices op ops);
        }

-- refused operations don't change the state
grown : (s : State) (ops : List Op) → Grows s (state_after s ops) ops
grown s ops = by (steps s ops) refl
  where
    by : (r : Result (State × List Done) Refusal) → steps s ops ≡ r → Grows s (reached s r) ops
    by (Ok x) e = grows s x.0 [] x.1 ops e
    by (Err f) e = record { few = omega arith; indices = omega arith }

pub stays : (s : State) (ops : List Op) (most indices : ℕ) → items s + sum_by most_items ops ≤ most → fin.len s.indices + sum_by most_indices ops ≤ indices → StaysWithin most indices s ops
stays s ops most indices h k i inside =
    let g = grown s (take i ops) in
    (omega (arith, g.few, sum_by-take-le most_items ops i), omega (arith, g.indices, sum_by-take-le most_indices ops i))

few_sum : (f : Op → ℕ) (n : ℕ) → ((op : Op) → f op ≤ n) → (ops : List Op) → sum_by f ops ≤ n * length ops
few_sum f n few [] = omega arith
few_sum f n few (op ∷ ops) = grind (arith, few op, few_sum f n few ops, sum_by-cons f op ops)

pub stays_by_length : (s : State) (ops : List Op) (most indices : ℕ) → items s + 2 * length ops ≤ most → fin.len s.indices + length ops ≤ indices → StaysWithin most indices s ops
stays_by_length s ops most indices h k =
    stays s ops most indices (omega (arith, few_sum most_items 2 few_items ops)) (omega (arith, few_sum most_indices 1 few_indices ops))
