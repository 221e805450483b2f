-- How an accepted operation changes the facts that decide whether operations are refused.
use Rattle.std.proofs.Common.{◌≡◌, ◌<◌, ◌≤◌, ◌^◌, ℕ, ◌+◌, ◌-◌, Bool, true, false, cond, not, ◌&&◌, ◌||◌, if◌then◌else◌, nat_le, nat_eq, List, [], ◌∷◌, length, refl, sym, ap, subst, ◌∙◌, Some, None, is_some, IsOk, is_ok, arith, unwrap_or, get_or, take, map as each, fold, ◌++◌}
use Rattle.std.specs.Prelude.{Ok, Err, Result}
use Rattle.std.specs.Result.{result_map_both}
use Rattle.be_value.specs.declared.refusals.Refusal.{Refusal}
use Rattle.be_volume.specs.declared.ops.Done.{Done}
use Rattle.std.proofs.lemmas.Bool.Decides.{nat_tests}
use Rattle.std.specs.Cmp.{IsTotalOrder, nat_cmp_total, unsigned_tied}
use Rattle.std.specs.Cmp.Lexicographic.{pointwise, texts_ties}
use Rattle.std.specs.Option.{option_map}
use Rattle.std.specs.Ordering.{is_eq, eq_by_cmp}
use Rattle.std.specs.declared.cmp.Ordering.{Ordering}
use Rattle.std.specs.declared.cmp.Ordering.TheVariants.{Less, Equal, Greater}
use Rattle.std.specs.declared.option.Option.{Option}
use Rattle.std.specs.FinMap as fin
use Rattle.std.specs.FinMap.{FinMap, from_entries, get-from_entries, get-insert, get-remove, get-empty, get-entries, get_tied, len-insert, len-remove, len-empty, same_map}
use Rattle.std.specs.FinMap.Entries.{find}
use Rattle.be_value.specs.declared.values.Value.{Value}
use Rattle.be_volume.specs.Maps.{name_cmp, Nodes, Attributes, attributes_of}
use Rattle.be_volume.specs.Indices.{Indices, paired, paired_at, unpaired, unpaired_at, with_pair, without_pair}
use Rattle.be_volume.specs.declared.maps.Index.{Index}
use Rattle.be_volume.specs.declared.ops.Op.{Op}
use Rattle.be_volume.specs.declared.ops.Op.TheVariants.{New, Drop, Set, Unset, MkIndex, RmIndex}
use Rattle.be_volume.specs.Volume.{State, step, steps, advance}
use Rattle.be_volume.specs.Ahead.{reached, state_after, next_after, node_after, attribute_after, count_after, sets_after, index_after, indices_after, IsThere}
use Rattle.be_volume.proofs.MapLemmas.{names_total, exact_names}
use Rattle.be_volume.proofs.StepLemmas.{made, Found, accepted, Turn, turn, refused_stays, not_both}

tied : (r : Ordering) → is_eq r ≡ true → r ≡ Equal
tied Less h = cc
tied Equal h = refl
tied Greater h = cc

is_put : {A : Type 0} (b : Bool) (x : A) (o : Option A) → is_some (cond b (Some x) o) ≡ (b || is_some o)
is_put true x o = refl
is_put false x o = refl

is_taken : {A : Type 0} (b : Bool) (o : Option A) → is_some (cond b None o) ≡ (not b && is_some o)
is_taken true o = refl
is_taken false o = refl

got : {A : Type 0} (b : Bool) (x d : A) (o : Option A) → unwrap_or (cond b (Some x) o) d ≡ cond b x (unwrap_or o d)
got true x d o = refl
got false x d o = refl

lost : {A : Type 0} (b : Bool) (d : A) (o : Option A) → unwrap_or (cond b None o) d ≡ cond b d (unwrap_or o d)
lost true d o = refl
lost false d o = refl

module _ {K X : Type 0} {R : K → K → Ordering} (o : IsTotalOrder R) where
  has_put : (m : FinMap R X) (k : K) (v : X) (q : K) → fin.contains_key (fin.insert m k v) q ≡ (eq_by_cmp R q k || fin.contains_key m q)
  has_put m k v q = ap is_some (get-insert o m k v q) ∙ is_put (eq_by_cmp R q k) v (fin.get m q)

  has_removed : (m : FinMap R X) (k q : K) → fin.contains_key (fin.remove m k) q ≡ (not (eq_by_cmp R q k) && fin.contains_key m q)
  has_removed m k q = ap is_some (get-remove o m k q) ∙ is_taken (eq_by_cmp R q k) (fin.get m q)

  -- a new value at an existing key
  has_again : (m : FinMap R X) (k : K) (v : X) (q : K) → fin.contains_key m k ≡ true → fin.contains_key (fin.insert m k v) q ≡ fin.contains_key m q
  has_again m k v q h = has_put m k v q ∙ by (eq_by_cmp R q k) refl
    where
      by : (b : Bool) → eq_by_cmp R q k ≡ b → (b || fin.contains_key m q) ≡ fin.contains_key m q
      by true e = sym h ∙ ap is_some (get_tied o m q k (tied _ e))
      by false e = refl

  len_again : (m : FinMap R X) (k : K) (v : X) → fin.contains_key m k ≡ true → fin.len (fin.insert m k v) ≡ fin.len m
  len_again m k v h = len-insert o m k v ∙ ap (λ b. cond b (fin.len m) (fin.len m + 1)) h

  -- entries after a change of their values
  find_changed : (f : X → X) (es : List (K × X)) (q : K) → find R q (each (λ e. (e.0, f e.1)) es) ≡ option_map f (find R q es)
  find_changed f [] q = refl
  find_changed f (e ∷ es) q = by (eq_by_cmp R q e.0) (find_changed f es q)
    where
      by : (b : Bool) → find R q (each (λ e. (e.0, f e.1)) es) ≡ option_map f (find R q es) →
          cond b (Some (f e.1)) (find R q (each (λ e. (e.0, f e.1)) es)) ≡ option_map f (cond b (Some e.1) (find R q es))
      by true h = refl
      by false h = h

  is_mapped : (f : X → X) (found : Option X) → is_some (option_map f found) ≡ is_some found
  is_mapped f None = refl
  is_mapped f (Some x) = refl

  has_changed_list : (f : X → X) (es : List (K × X)) (q : K) → fin.contains_key (from_entries {R = R} (each (λ e. (e.0, f e.1)) es)) q ≡ fin.contains_key (from_entries {R = R} es) q
  has_changed_list f es q = ap is_some (get-from_entries o (each (λ e. (e.0, f e.1)) es) q ∙ find_changed f es q) ∙ is_mapped f (find R q es) ∙ sym (ap is_some (get-from_entries o es q))

  len_changed_list : (f : X → X) (es : List (K × X)) → fin.len (from_entries {R = R} (each (λ e. (e.0, f e.1)) es)) ≡ fin.len (from_entries {R = R} es)
  len_changed_list f [] = refl
  len_changed_list f (e ∷ es) = len-insert o (from_entries (each (λ e. (e.0, f e.1)) es)) e.0 (f e.1)
      ∙ ap (λ b. cond b (fin.len (from_entries {R = R} (each (λ e. (e.0, f e.1)) es))) (fin.len (from_entries {R = R} (each (λ e. (e.0, f e.1)) es)) + 1)) (has_changed_list f es e.0)
      ∙ ap (λ n. cond (fin.contains_key (from_entries {R = R} es) e.0) n (n + 1)) (len_changed_list f es)
      ∙ sym (len-insert o (from_entries es) e.0 e.1)

  module _ (exact : fin.IsAntisymmetric R) where
    own_entries : (m : FinMap R X) → from_entries (fin.entries m) ≡ m
    own_entries m = same_map o exact _ _ (λ q. get-from_entries o (fin.entries m) q ∙ sym (get-entries m q))

    -- a look-up in a map after a change of its values
    pub get_changed : (f : X → X) (m : FinMap R X) (q : K) → fin.get (from_entries {R = R} (each (λ e. (e.0, f e.1)) (fin.entries m))) q ≡ option_map f (fin.get m q)
    get_changed f m q = get-from_entries o (each (λ e. (e.0, f e.1)) (fin.entries m)) q ∙ find_changed f (fin.entries m) q ∙ ap (option_map f) (sym (get-entries m q))

    has_changed : (f : X → X) (m : FinMap R X) (q : K) → fin.contains_key (from_entries {R = R} (each (λ e. (e.0, f e.1)) (fin.entries m))) q ≡ fin.contains_key m q
    has_changed f m q = has_changed_list f (fin.entries m) q ∙ ap (λ n. fin.contains_key n q) (own_entries m)

    len_changed : (f : X → X) (m : FinMap R X) → fin.len (from_entries {R = R} (each (λ e. (e.0, f e.1)) (fin.entries m))) ≡ fin.len m
    len_changed f m = len_changed_list f (fin.entries m) ∙ ap fin.len (own_entries m)

-- the indices keep their names
pair_has : (m : Indices) (name : List ℕ) (node : ℕ) (v : Value) (q : List ℕ) → fin.contains_key (with_pair m name node v) q ≡ fin.contains_key m q
pair_has m name node v q = by (fin.get m name) refl
  where
    by : (found : Option Index) → fin.get m name ≡ found → fin.contains_key (paired_at m name found node v) q ≡ fin.contains_key m q
    by None e = refl
    by (Some index) e = has_again names_total m name (paired index node v) q (ap is_some e)

unpair_has : (m : Indices) (name : List ℕ) (node : ℕ) (q : List ℕ) → fin.contains_key (without_pair m name node) q ≡ fin.contains_key m q
unpair_has m name node q = by (fin.get m name) refl
  where
    by : (found : Option Index) → fin.get m name ≡ found → fin.contains_key (unpaired_at m name found node) q ≡ fin.contains_key m q
    by None e = refl
    by (Some index) e = has_again names_total m name (unpaired index node) q (ap is_some e)

pair_len : (m : Indices) (name : List ℕ) (node : ℕ) (v : Value) → fin.len (with_pair m name node v) ≡ fin.len m
pair_len m name node v = by (fin.get m name) refl
  where
    by : (found : Option Index) → fin.get m name ≡ found → fin.len (paired_at m name found node v) ≡ fin.len m
    by None e = refl
    by (Some index) e = len_again names_total m name (paired index node v) (ap is_some e)

unpair_len : (m : Indices) (name : List ℕ) (node : ℕ) → fin.len (without_pair m name node) ≡ fin.len m
unpair_len m name node = by (fin.get m name) refl
  where
    by : (found : Option Index) → fin.get m name ≡ found → fin.len (unpaired_at m name found node) ≡ fin.len m
    by None e = refl
    by (Some index) e = len_again names_total m name (unpaired index node) (ap is_some e)

-- a node's attributes after another node got some
own : (m : Nodes) (node : ℕ) (a : Attributes) (q : ℕ) → attributes_of (fin.insert m node a) q ≡ cond (nat_eq q node) a (attributes_of m q)
own m node a q = ap (λ found. unwrap_or found fin.empty) (get-insert nat_cmp_total m node a q ∙ ap (λ b. cond b (Some a) (fin.get m q)) (unsigned_tied q node)) ∙ got (nat_eq q node) a fin.empty (fin.get m q)

gone : (m : Nodes) (node q : ℕ) → attributes_of (fin.remove m node) q ≡ cond (nat_eq q node) fin.empty (attributes_of m q)
gone m node q = ap (λ found. unwrap_or found fin.empty) (get-remove nat_cmp_total m node q ∙ ap (λ b. cond b None (fin.get m q)) (unsigned_tied q node)) ∙ lost (nat_eq q node) fin.empty (fin.get m q)

same_number : (q n : ℕ) → nat_eq q n ≡ true → q ≡ n
same_number q n h = grind (arith, nat_tests)

-- the facts that one operation changes, in the state after it
made_next : (s : State) (op : Op) → (made s op).next ≡ next_after op s.next
made_next s New = refl
made_next s (Drop node) = refl
made_next s (Set node name value) = refl
made_next s (Unset node name) = refl
made_next s (MkIndex name kind) = refl
made_next s (RmIndex name) = refl

made_node : (s : State) (op : Op) (q : ℕ) → Found s op → fin.contains_key (made s op).nodes q ≡ node_after op s.next (fin.contains_key s.nodes q) q
made_node s New q h = has_put nat_cmp_total s.nodes s.next fin.empty q ∙ ap (λ b. b || fin.contains_key s.nodes q) (unsigned_tied q s.next)
made_node s (Drop node) q h = has_removed nat_cmp_total s.nodes node q ∙ ap (λ b. not b && fin.contains_key s.nodes q) (unsigned_tied q node)
made_node s (Set node name value) q h = has_again nat_cmp_total s.nodes node _ q h.0
made_node s (Unset node name) q h = has_again nat_cmp_total s.nodes node _ q h.0
made_node s (MkIndex name kind) q h = refl
made_node s (RmIndex name) q h = refl

none_there : (b : Bool) (a : Attributes) (name : List ℕ) → fin.contains_key (cond b fin.empty a) name ≡ (not b && fin.contains_key a name)
none_there true a name = ap is_some (get-empty name_cmp name)
none_there false a name = refl

set_there : (m : Nodes) (n q : ℕ) (set : List ℕ) (v : Value) (name : List ℕ) (b : Bool) → nat_eq q n ≡ b →
    fin.contains_key (cond b (fin.insert (attributes_of m n) set v) (attributes_of m q)) name ≡ ((b && pointwise nat_eq name set) || fin.contains_key (attributes_of m q) name)
set_there m n q set v name true e = has_put names_total (attributes_of m n) set v name
    ∙ ap (λ b. b || fin.contains_key (attributes_of m n) name) (sym (texts_ties name set))
    ∙ ap (λ x. pointwise nat_eq name set || fin.contains_key (attributes_of m x) name) (sym (same_number q n e))
set_there m n q set v name false e = refl

unset_there : (m : Nodes) (n q : ℕ) (set : List ℕ) (name : List ℕ) (b : Bool) → nat_eq q n ≡ b →
    fin.contains_key (cond b (fin.remove (attributes_of m n) set) (attributes_of m q)) name ≡ (not (b && pointwise nat_eq name set) && fin.contains_key (attributes_of m q) name)
unset_there m n q set name true e = has_removed names_total (attributes_of m n) set name
    ∙ ap (λ b. not b && fin.contains_key (attributes_of m n) name) (sym (texts_ties name set))
    ∙ ap (λ x. not (pointwise nat_eq name set) && fin.contains_key (attributes_of m x) name) (sym (same_number q n e))
unset_there m n q set name false e = refl

made_attribute : (s : State) (op : Op) (q : ℕ) (name : List ℕ) → Found s op →
    fin.contains_key (attributes_of (made s op).nodes q) name ≡ attribute_after op s.next (fin.contains_key (attributes_of s.nodes q) name) q name
made_attribute s New q name h = ap (λ a. fin.contains_key a name) (own s.nodes s.next fin.empty q) ∙ none_there (nat_eq q s.next) (attributes_of s.nodes q) name
made_attribute s (Drop node) q name h = ap (λ a. fin.contains_key a name) (gone s.nodes node q) ∙ none_there (nat_eq q node) (attributes_of s.nodes q) name
made_attribute s (Set node set value) q name h = ap (λ a. fin.contains_key a name) (own s.nodes node _ q) ∙ set_there s.nodes node q set value name (nat_eq q node) refl
made_attribute s (Unset node unset) q name h = ap (λ a. fin.contains_key a name) (own s.nodes node _ q) ∙ unset_there s.nodes node q unset name (nat_eq q node) refl
made_attribute s (MkIndex index kind) q name h = refl
made_attribute s (RmIndex index) q name h = refl

none_left : (b : Bool) (a : Attributes) → fin.len (cond b fin.empty a) ≡ (if b then 0 else fin.len a)
none_left true a = len-empty name_cmp Value
none_left false a = refl

one_more : (c : Bool) (n : ℕ) → cond c n (n + 1) ≡ (if not c then n + 1 else n)
one_more true n = refl
one_more false n = refl

set_count : (m : Nodes) (n q : ℕ) (set : List ℕ) (v : Value) (has b : Bool) → nat_eq q n ≡ b → has ≡ fin.contains_key (attributes_of m n) set →
    fin.len (cond b (fin.insert (attributes_of m n) set v) (attributes_of m q)) ≡ (if b && not has then fin.len (attributes_of m q) + 1 else fin.len (attributes_of m q))
set_count m n q set v has true e h = len-insert names_total (attributes_of m n) set v
    ∙ ap (λ c. cond c (fin.len (attributes_of m n)) (fin.len (attributes_of m n) + 1)) (sym h)
    ∙ one_more has (fin.len (attributes_of m n))
    ∙ ap (λ x. if not has then fin.len (attributes_of m x) + 1 else fin.len (attributes_of m x)) (sym (same_number q n e))
set_count m n q set v has false e h = refl

unset_count : (m : Nodes) (n q : ℕ) (set : List ℕ) (b : Bool) → nat_eq q n ≡ b → fin.contains_key (attributes_of m n) set ≡ true →
    fin.len (cond b (fin.remove (attributes_of m n) set) (attributes_of m q)) ≡ (if b then fin.len (attributes_of m q) - 1 else fin.len (attributes_of m q))
unset_count m n q set true e h = len-remove names_total (attributes_of m n) set
    ∙ ap (λ c. cond c (fin.len (attributes_of m n) - 1) (fin.len (attributes_of m n))) h
    ∙ ap (λ x. fin.len (attributes_of m x) - 1) (sym (same_number q n e))
unset_count m n q set false e h = refl

made_count : (s : State) (op : Op) (q : ℕ) (has : Bool) → Found s op → IsThere s op has →
    fin.len (attributes_of (made s op).nodes q) ≡ count_after op s.next (fin.len (attributes_of s.nodes q)) q has
made_count s New q has h t = ap fin.len (own s.nodes s.next fin.empty q) ∙ none_left (nat_eq q s.next) (attributes_of s.nodes q)
made_count s (Drop node) q has h t = ap fin.len (gone s.nodes node q) ∙ none_left (nat_eq q node) (attributes_of s.nodes q)
made_count s (Set node set value) q has h t = ap fin.len (own s.nodes node _ q) ∙ set_count s.nodes node q set value has (nat_eq q node) refl t
made_count s (Unset node unset) q has h t = ap fin.len (own s.nodes node _ q) ∙ unset_count s.nodes node q unset (nat_eq q node) refl h.1
made_count s (MkIndex name kind) q has h t = refl
made_count s (RmIndex name) q has h t = refl

-- a count that fits
fits_if : (b : Bool) (n m top : ℕ) → m < top → n < top → (if b then m else n) < top
fits_if true n m top h k = h
fits_if false n m top h k = k

set_fits : (m : Nodes) (n q : ℕ) (set : List ℕ) (has b : Bool) → nat_eq q n ≡ b → has ≡ fin.contains_key (attributes_of m n) set →
    (not (fin.contains_key (attributes_of m n) set) && nat_le 64 (fin.len (attributes_of m n))) ≡ false → fin.len (attributes_of m q) < 2 ^ 64 →
    (if b && not has then fin.len (attributes_of m q) + 1 else fin.len (attributes_of m q)) < 2 ^ 64
set_fits m n q set has false e t h k = k
set_fits m n q set true true e t h k = k
set_fits m n q set false true e t h k =
    let few : (nat_le 64 (fin.len (attributes_of m n))) ≡ false = ap (λ b. not b && nat_le 64 (fin.len (attributes_of m n))) t ∙ h in
    let here : fin.len (attributes_of m q) ≡ fin.len (attributes_of m n) = ap (λ x. fin.len (attributes_of m x)) (same_number q n e) in
    grind (arith, nat_tests)

made_fits : (s : State) (op : Op) (q : ℕ) (has : Bool) → Found s op → IsThere s op has → fin.len (attributes_of s.nodes q) < 2 ^ 64 →
    count_after op s.next (fin.len (attributes_of s.nodes q)) q has < 2 ^ 64
made_fits s New q has h t k = fits_if (nat_eq q s.next) _ 0 _ (omega arith) k
made_fits s (Drop node) q has h t k = fits_if (nat_eq q node) _ 0 _ (omega arith) k
made_fits s (Set node set value) q has h t k = set_fits s.nodes node q set has (nat_eq q node) refl t h.1 k
made_fits s (Unset node unset) q has h t k = fits_if (nat_eq q node) _ _ _ (omega arith) k
made_fits s (MkIndex name kind) q has h t k = k
made_fits s (RmIndex name) q has h t k = k

made_index : (s : State) (op : Op) (q : List ℕ) → fin.contains_key (made s op).indices q ≡ index_after op (fin.contains_key s.indices q) q
made_index s New q = refl
made_index s (Drop node) q = has_changed names_total exact_names (λ x. unpaired x node) s.indices q
made_index s (Set node name value) q = pair_has s.indices name node value q
made_index s (Unset node name) q = unpair_has s.indices name node q
made_index s (MkIndex name kind) q = has_put names_total s.indices name _ q ∙ ap (λ b. b || fin.contains_key s.indices q) (sym (texts_ties q name))
made_index s (RmIndex name) q = has_removed names_total s.indices name q ∙ ap (λ b. not b && fin.contains_key s.indices q) (sym (texts_ties q name))

made_indices : (s : State) (op : Op) → Found s op → fin.len (made s op).indices ≡ indices_after op (fin.len s.indices)
made_indices s New h = refl
made_indices s (Drop node) h = len_changed names_total exact_names (λ x. unpaired x node) s.indices
made_indices s (Set node name value) h = pair_len s.indices name node value
made_indices s (Unset node name) h = unpair_len s.indices name node
made_indices s (MkIndex name kind) h = len-insert names_total s.indices name _ ∙ ap (λ b. cond b (fin.len s.indices) (fin.len s.indices + 1)) h.0
made_indices s (RmIndex name) h = len-remove names_total s.indices name ∙ ap (λ b. cond b (fin.len s.indices - 1) (fin.len s.indices)) h

made_indices_fits : (s : State) (op : Op) → Found s op → fin.len s.indices < 2 ^ 64 → indices_after op (fin.len s.indices) < 2 ^ 64
made_indices_fits s New h k = k
made_indices_fits s (Drop node) h k = k
made_indices_fits s (Set node name value) h k = k
made_indices_fits s (Unset node name) h k = k
made_indices_fits s (MkIndex name kind) h k = let few : nat_le 32 (fin.len s.indices) ≡ false = h.1 in grind (arith, nat_tests)
made_indices_fits s (RmIndex name) h k = omega arith

-- an accepted operation stays within the limits
counted : (has full : Bool) (n : ℕ) → not has && full ≡ false → nat_le 64 n ≡ full → n ≤ 64 → (if not has then n + 1 else n) ≤ 64
counted true full n h e k = k
counted false true n h e k = cc
counted false false n h e k = grind (arith, nat_tests)

few_if : (b : Bool) (n m : ℕ) → m ≤ 64 → n ≤ 64 → (if b then m else n) ≤ 64
few_if true n m h k = h
few_if false n m h k = k

set_few : (m : Nodes) (n q : ℕ) (has b : Bool) → nat_eq q n ≡ b →
    (not has && nat_le 64 (fin.len (attributes_of m n))) ≡ false → fin.len (attributes_of m q) ≤ 64 →
    (if b && not has then fin.len (attributes_of m q) + 1 else fin.len (attributes_of m q)) ≤ 64
set_few m n q has false e h k = k
set_few m n q has true e h k =
    counted has _ (fin.len (attributes_of m q)) h (ap (λ x. nat_le 64 (fin.len (attributes_of m x))) (same_number q n e)) k

few_counted : (s : State) (op : Op) (q : ℕ) (has : Bool) → Found s op → IsThere s op has → fin.len (attributes_of s.nodes q) ≤ 64 →
    count_after op s.next (fin.len (attributes_of s.nodes q)) q has ≤ 64
few_counted s New q has h t k = few_if (nat_eq q s.next) _ 0 (omega arith) k
few_counted s (Drop node) q has h t k = few_if (nat_eq q node) _ 0 (omega arith) k
few_counted s (Set node set value) q has h t k =
    set_few s.nodes node q has (nat_eq q node) refl (ap (λ b. not b && nat_le 64 (fin.len (attributes_of s.nodes node))) t ∙ h.1) k
few_counted s (Unset node unset) q has h t k = few_if (nat_eq q node) _ _ (omega arith) k
few_counted s (MkIndex name kind) q has h t k = k
few_counted s (RmIndex name) q has h t k = k

is_there : (s : State) (op : Op) → (has : Bool) × IsThere s op has
is_there s New = (false, tt)
is_there s (Drop node) = (false, tt)
is_there s (Set node name value) = (fin.contains_key (attributes_of s.nodes node) name, refl)
is_there s (Unset node name) = (false, tt)
is_there s (MkIndex name kind) = (false, tt)
is_there s (RmIndex name) = (false, tt)

pub few_attributes_stay : (s : State) (op : Op) → Found s op → ((node : ℕ) → fin.len (attributes_of s.nodes node) ≤ 64) →
    (node : ℕ) → fin.len (attributes_of (made s op).nodes node) ≤ 64
few_attributes_stay s op h few node =
    let there = is_there s op in
    subst (λ n. n ≤ 64) (sym (made_count s op node there.0 h there.1)) (few_counted s op node there.0 h there.1 (few node))

few_indexed : (s : State) (op : Op) → Found s op → fin.len s.indices ≤ 32 → indices_after op (fin.len s.indices) ≤ 32
few_indexed s New h k = k
few_indexed s (Drop node) h k = k
few_indexed s (Set node name value) h k = k
few_indexed s (Unset node name) h k = k
few_indexed s (MkIndex name kind) h k = let few : nat_le 32 (fin.len s.indices) ≡ false = h.1 in grind (arith, nat_tests)
few_indexed s (RmIndex name) h k = omega arith

pub few_indices_stay : (s : State) (op : Op) → Found s op → fin.len s.indices ≤ 32 → fin.len (made s op).indices ≤ 32
few_indices_stay s op h few = subst (λ n. n ≤ 32) (sym (made_indices s op h)) (few_indexed s op h few)

-- a set adds at most one attribute, and nothing else adds any
most_if : (b : Bool) (n m top : ℕ) → m ≤ top → n ≤ top → (if b then m else n) ≤ top
most_if true n m top h k = h
most_if false n m top h k = k

most_set : (b has : Bool) (n old sets : ℕ) → n ≤ old + sets → (if b && not has then n + 1 else n) ≤ old + (if b then sets + 1 else sets)
most_set true true n old sets h = omega (arith, h)
most_set true false n old sets h = omega (arith, h)
most_set false has n old sets h = h

most_counted : (op : Op) (next n q : ℕ) (has : Bool) (old sets : ℕ) → n ≤ old + sets → count_after op next n q has ≤ old + sets_after op sets q
most_counted New next n q has old sets h = most_if (nat_eq q next) n 0 _ (omega arith) h
most_counted (Drop node) next n q has old sets h = most_if (nat_eq q node) n 0 _ (omega arith) h
most_counted (Set node name value) next n q has old sets h = most_set (nat_eq q node) has n old sets h
most_counted (Unset node name) next n q has old sets h = most_if (nat_eq q node) n (n - 1) _ (omega (arith, h)) h
most_counted (MkIndex name kind) next n q has old sets h = h
most_counted (RmIndex name) next n q has old sets h = h

pub sets_grow : (op : Op) (sets q : ℕ) → sets_after op sets q ≤ sets + 1
sets_grow New sets q = omega arith
sets_grow (Drop node) sets q = omega arith
sets_grow (Set node name value) sets q = most_if (nat_eq q node) sets (sets + 1) _ (omega arith) (omega arith)
sets_grow (Unset node name) sets q = omega arith
sets_grow (MkIndex name kind) sets q = omega arith
sets_grow (RmIndex name) sets q = omega arith

-- and in the state that an accepted operation reaches
pub next_is : (s : State) (op : Op) → IsOk (step s op) → (reached s (step s op)).next ≡ next_after op s.next
next_is s op h = ap (λ t. t.next) (accepted s op h).is ∙ made_next s op

pub node_is : (s : State) (op : Op) (q : ℕ) → IsOk (step s op) → fin.contains_key (reached s (step s op)).nodes q ≡ node_after op s.next (fin.contains_key s.nodes q) q
node_is s op q h = ap (λ t. fin.contains_key t.nodes q) (accepted s op h).is ∙ made_node s op q (accepted s op h).found

pub attribute_is : (s : State) (op : Op) (q : ℕ) (name : List ℕ) → IsOk (step s op) →
    fin.contains_key (attributes_of (reached s (step s op)).nodes q) name ≡ attribute_after op s.next (fin.contains_key (attributes_of s.nodes q) name) q name
attribute_is s op q name h = ap (λ t. fin.contains_key (attributes_of t.nodes q) name) (accepted s op h).is ∙ made_attribute s op q name (accepted s op h).found

pub count_is : (s : State) (op : Op) (q : ℕ) (has : Bool) → IsThere s op has → IsOk (step s op) →
    fin.len (attributes_of (reached s (step s op)).nodes q) ≡ count_after op s.next (fin.len (attributes_of s.nodes q)) q has
count_is s op q has t h = ap (λ t. fin.len (attributes_of t.nodes q)) (accepted s op h).is ∙ made_count s op q has (accepted s op h).found t

pub count_fits : (s : State) (op : Op) (q : ℕ) (has : Bool) → IsThere s op has → IsOk (step s op) → fin.len (attributes_of s.nodes q) < 2 ^ 64 →
    count_after op s.next (fin.len (attributes_of s.nodes q)) q has < 2 ^ 64
count_fits s op q has t h k = made_fits s op q has (accepted s op h).found t k

pub index_is : (s : State) (op : Op) (q : List ℕ) → IsOk (step s op) → fin.contains_key (reached s (step s op)).indices q ≡ index_after op (fin.contains_key s.indices q) q
index_is s op q h = ap (λ t. fin.contains_key t.indices q) (accepted s op h).is ∙ made_index s op q

pub indices_is : (s : State) (op : Op) → IsOk (step s op) → fin.len (reached s (step s op)).indices ≡ indices_after op (fin.len s.indices)
indices_is s op h = ap (λ t. fin.len t.indices) (accepted s op h).is ∙ made_indices s op (accepted s op h).found

pub indices_fits : (s : State) (op : Op) → IsOk (step s op) → fin.len s.indices < 2 ^ 64 → indices_after op (fin.len s.indices) < 2 ^ 64
indices_fits s op h k = made_indices_fits s op (accepted s op h).found k

pub next_grows : (op : Op) (next : ℕ) → next_after op next ≤ next + 1
next_grows New next = omega arith
next_grows (Drop node) next = omega arith
next_grows (Set node name value) next = omega arith
next_grows (Unset node name) next = omega arith
next_grows (MkIndex name kind) next = omega arith
next_grows (RmIndex name) next = omega arith

pub next_bound : (s t : State) (op : Op) (done : Done) → step s op ≡ Ok (t, done) → t.next ≤ s.next + 1
next_bound s t op done e =
    let is : t.next ≡ next_after op s.next = sym (ap (λ r. (reached s r).next) e) ∙ next_is s op (ap is_ok e) in
    let g : next_after op s.next ≤ s.next + 1 = next_grows op s.next in
    omega arith

-- each accepted operation takes at most one number
steps_grow : (s t : State) (old dones : List Done) (ops : List Op) → fold advance (Ok (s, old)) ops ≡ Ok (t, dones) → t.next ≤ s.next + length ops
steps_grow s t old dones [] e = let same : s.next ≡ t.next = ap (λ r. (reached s r).next) e in omega arith
steps_grow s t old dones (op ∷ ops) e = by (step s op) refl e (λ x. steps_grow x.0 t (old ++ x.1 ∷ []) dones ops)
  where
    by : (r : Result (State × Done) Refusal) → step s op ≡ r → fold advance (result_map_both (λ answer. (answer.0, old ++ answer.1 ∷ [])) (λ f. f) r) ops ≡ Ok (t, dones) →
        ((x : State × Done) → fold advance (Ok (x.0, old ++ x.1 ∷ [])) ops ≡ Ok (t, dones) → t.next ≤ x.0.next + length ops) → t.next ≤ s.next + length (op ∷ ops)
    by (Err f) g h rest = absurd (not_both f (t, dones) (sym (refused_stays f ops) ∙ h))
    by (Ok x) g h rest =
        let grew : x.0.next ≤ s.next + 1 = next_bound s x.0 op x.1 g in
        let after : t.next ≤ x.0.next + length ops = rest x h in
        omega arith

pub steps_bound : (s t : State) (dones : List Done) (ops : List Op) → steps s ops ≡ Ok (t, dones) → t.next ≤ s.next + length ops
steps_bound s t dones ops e = steps_grow s t [] dones ops e

-- the facts after one more operation of an accepted list
module _ (s : State) (ops : List Op) (i : ℕ) (op : Op) (short : i < length ops) (at : op ≡ get_or ops i op) (ok : IsOk (steps s ops)) where
  now : Turn s ops i op
  now = turn s ops i op short at ok

  pub next_turn : (next : ℕ) → next ≡ (state_after s (take i ops)).next → next_after op next ≡ (state_after s (take (i + 1) ops)).next
  next_turn next e = ap (next_after op) e ∙ sym (ap (λ t. t.next) now.is ∙ next_is (state_after s (take i ops)) op now.accepted)

  pub bound_turn : (next : ℕ) → next ≤ s.next + i → next_after op next ≤ s.next + (i + 1)
  bound_turn next e = let g : next_after op next ≤ next + 1 = next_grows op next in omega arith

  pub node_turn : (q next : ℕ) (there : Bool) → next ≡ (state_after s (take i ops)).next → there ≡ fin.contains_key (state_after s (take i ops)).nodes q →
      node_after op next there q ≡ fin.contains_key (state_after s (take (i + 1) ops)).nodes q
  node_turn q next there e f = ap (λ n. node_after op n there q) e ∙ ap (λ b. node_after op (state_after s (take i ops)).next b q) f
      ∙ sym (ap (λ t. fin.contains_key t.nodes q) now.is ∙ node_is (state_after s (take i ops)) op q now.accepted)

  pub attribute_turn : (q next : ℕ) (name : List ℕ) (there : Bool) → next ≡ (state_after s (take i ops)).next → there ≡ fin.contains_key (attributes_of (state_after s (take i ops)).nodes q) name →
      attribute_after op next there q name ≡ fin.contains_key (attributes_of (state_after s (take (i + 1) ops)).nodes q) name
  attribute_turn q next name there e f = ap (λ n. attribute_after op n there q name) e ∙ ap (λ b. attribute_after op (state_after s (take i ops)).next b q name) f
      ∙ sym (ap (λ t. fin.contains_key (attributes_of t.nodes q) name) now.is ∙ attribute_is (state_after s (take i ops)) op q name now.accepted)

  pub count_turn : (q next count : ℕ) (has : Bool) → next ≡ (state_after s (take i ops)).next → count ≡ fin.len (attributes_of (state_after s (take i ops)).nodes q) → IsThere (state_after s (take i ops)) op has →
      count_after op next count q has ≡ fin.len (attributes_of (state_after s (take (i + 1) ops)).nodes q)
  count_turn q next count has e f t = ap (λ n. count_after op n count q has) e ∙ ap (λ n. count_after op (state_after s (take i ops)).next n q has) f
      ∙ sym (ap (λ t. fin.len (attributes_of t.nodes q)) now.is ∙ count_is (state_after s (take i ops)) op q has t now.accepted)

  pub count_turn_fits : (q next count : ℕ) (has : Bool) → next ≡ (state_after s (take i ops)).next → count ≡ fin.len (attributes_of (state_after s (take i ops)).nodes q) → IsThere (state_after s (take i ops)) op has →
      count < 2 ^ 64 → count_after op next count q has < 2 ^ 64
  count_turn_fits q next count has e f t k = subst (λ n. n < 2 ^ 64) (sym (ap (λ n. count_after op n count q has) e ∙ ap (λ n. count_after op (state_after s (take i ops)).next n q has) f))
      (count_fits (state_after s (take i ops)) op q has t now.accepted (subst (λ n. n < 2 ^ 64) f k))

  pub sets_turn : (q old sets : ℕ) → fin.len (attributes_of (state_after s (take i ops)).nodes q) ≤ old + sets →
      fin.len (attributes_of (state_after s (take (i + 1) ops)).nodes q) ≤ old + sets_after op sets q
  sets_turn q old sets h =
      let before : State = state_after s (take i ops) in
      let there = is_there before op in
      let counted : fin.len (attributes_of (state_after s (take (i + 1) ops)).nodes q) ≡ count_after op before.next (fin.len (attributes_of before.nodes q)) q there.0 =
      ap (λ t. fin.len (attributes_of t.nodes q)) now.is ∙ count_is before op q there.0 there.1 now.accepted in
      subst (λ n. n ≤ old + sets_after op sets q) (sym counted) (most_counted op before.next (fin.len (attributes_of before.nodes q)) q there.0 old sets h)

  pub index_turn : (q : List ℕ) (there : Bool) → there ≡ fin.contains_key (state_after s (take i ops)).indices q → index_after op there q ≡ fin.contains_key (state_after s (take (i + 1) ops)).indices q
  index_turn q there f = ap (λ b. index_after op b q) f ∙ sym (ap (λ t. fin.contains_key t.indices q) now.is ∙ index_is (state_after s (take i ops)) op q now.accepted)

  pub indices_turn : (count : ℕ) → count ≡ fin.len (state_after s (take i ops)).indices → indices_after op count ≡ fin.len (state_after s (take (i + 1) ops)).indices
  indices_turn count f = ap (indices_after op) f ∙ sym (ap (λ t. fin.len t.indices) now.is ∙ indices_is (state_after s (take i ops)) op now.accepted)

  pub indices_turn_fits : (count : ℕ) → count ≡ fin.len (state_after s (take i ops)).indices → count < 2 ^ 64 → indices_after op count < 2 ^ 64
  indices_turn_fits count f k = subst (λ n. n < 2 ^ 64) (sym (ap (indices_after op) f)) (indices_fits (state_after s (take i ops)) op now.accepted (subst (λ n. n < 2 ^ 64) f k))
