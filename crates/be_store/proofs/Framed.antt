-- An operation that creates or removes no index changes what a query sees at only one node.
use Rattle.std.proofs.Common.{◌≡◌, ◌<◌, ◌≤◌, ◌+◌, ◌&&◌, ◌||◌, ℕ, zero, suc, Bool, true, false, if◌then◌else◌, List, [], ◌∷◌, ◌++◌, fold, get_or, length, map, refl, sym, ap, subst, take, ◌∙◌, inl, inr, arith, Some, None, Ok, Err, is_some, is_ok, option_map, append_assoc}
use Rattle.std.proofs.lemmas.Grind.{fold-append}
use Rattle.std.proofs.lemmas.List.{append-nil, append_cancel_left, get_or_default, take_more}
use Rattle.std.specs.Cmp.{nat_cmp_total}
use Rattle.std.specs.FinMap as fin
use Rattle.std.specs.FinMap.{get-entries, get-from_entries, nat_cmp-IsAntisymmetric}
use Rattle.std.specs.FinMap.Entries.{find}
use Rattle.std.specs.Option.{option_and_then, option_map_or}
use Rattle.std.specs.Ordering.{eq_by_cmp}
use Rattle.std.specs.Prelude.{Result, cond}
use Rattle.std.specs.Result.{result_map_both}
use Rattle.std.specs.declared.option.Option.{Option}
use Rattle.be_journal.specs.Journal.{Agrees, IsLegalFrom, replay_from}
use Rattle.be_journal.specs.declared.entries.Entry.{Entry}
use Rattle.be_paged_reading.proofs.CatalogPairs.Items.{get_other, get_here, gone_other, keys_decided}
use Rattle.be_query.specs.Grammar.{Formula, Leaf, And, Or}
use Rattle.be_value.specs.declared.refusals.Refusal.{Refusal}
use Rattle.be_value.specs.declared.values.Value.{Value}
use Rattle.be_value.specs.Value.{kind_of}
use Rattle.be_volume.proofs.MapLemmas.{exact_names, names_total}
use Rattle.be_volume.proofs.StepLemmas.{accepted, made, not_both, refused_stays}
use Rattle.be_volume.specs.Ahead.{reached, state_after}
use Rattle.be_volume.specs.Indices.{Indices, paired, paired_at, same_kind, unpaired, unpaired_at, with_pair, without_node, without_pair}
use Rattle.be_volume.specs.Maps.{Attributes, attributes_of, name_cmp}
use Rattle.be_volume.specs.Query.{covered, has_index, holds, sat, seen_in, sees}
use Rattle.be_volume.specs.Volume.{State, advance, step}
use Rattle.be_volume.specs.declared.maps.Index.{Index}
use Rattle.be_volume.specs.declared.ops.Done.{Done}
use Rattle.be_volume.specs.declared.ops.Done.TheVariants.{Node}
use Rattle.be_volume.specs.declared.ops.Op.{Op}
use Rattle.be_volume.specs.declared.ops.Op.TheVariants.{New, Drop, Set, Unset, MkIndex, RmIndex}
use Rattle.be_store.specs.Live.{IsAnswer, IsAnswerBut, is_among}
use Rattle.be_store.specs.Named.{AreNamedAmong, IsNamedAmong, NamesAmong, node_made}

-- The indices of two volumes have the same names, and comparisons see the same in both volumes, except at these nodes.
pub record AreSame (nodes : List ℕ) (s t : State) : Type 0 where
  pub indexed : (name : List ℕ) → has_index t name ≡ has_index s name
  pub seen : (n : ℕ) (name : List ℕ) → is_among nodes n ≡ false → sees t n name ≡ sees s n name

pub are_same : (nodes : List ℕ) (s : State) → AreSame nodes s s
are_same nodes s = record { indexed = λ name. refl; seen = λ n name other. refl }

pub and_then_same : (nodes : List ℕ) (s t u : State) → AreSame nodes s t → AreSame nodes t u → AreSame nodes s u
and_then_same nodes s t u a b = record {
  indexed = λ name. b.indexed name ∙ a.indexed name;
  seen = λ n name other. b.seen n name other ∙ a.seen n name other;
}

same_covered : (nodes : List ℕ) (s t : State) → AreSame nodes s t → (f : Formula) → covered t f ≡ covered s f
same_covered nodes s t a (Leaf name op literal) = a.indexed name
same_covered nodes s t a (And f g) = ap (λ b. b || covered t g) (same_covered nodes s t a f) ∙ ap (λ b. covered s f || b) (same_covered nodes s t a g)
same_covered nodes s t a (Or f g) = ap (λ b. b && covered t g) (same_covered nodes s t a f) ∙ ap (λ b. covered s f && b) (same_covered nodes s t a g)

same_sat : (nodes : List ℕ) (s t : State) → AreSame nodes s t → (n : ℕ) → is_among nodes n ≡ false → (f : Formula) → sat t f n ≡ sat s f n
same_sat nodes s t a n other (Leaf name op literal) = ap (λ o. option_map_or (λ value. holds op value literal) o false) (a.seen n name other)
same_sat nodes s t a n other (And f g) = ap (λ b. b && sat t g n) (same_sat nodes s t a n other f) ∙ ap (λ b. sat s f n && b) (same_sat nodes s t a n other g)
same_sat nodes s t a n other (Or f g) = ap (λ b. b || sat t g n) (same_sat nodes s t a n other f) ∙ ap (λ b. sat s f n || b) (same_sat nodes s t a n other g)

-- An answer for one volume is an answer for the other, except at these nodes.
pub same_answer : (nodes : List ℕ) (s t : State) (f : Formula) (list : List ℕ) → AreSame nodes s t → IsAnswer s f list → IsAnswerBut nodes t f list
same_answer nodes s t f list a answer = (same_covered nodes s t a f ∙ answer.0, λ n other. answer.1 n ∙ sym (same_sat nodes s t a n other f))

-- A node that isn't among these nodes differs from each of them.
apart : (nodes : List ℕ) (n k : ℕ) → is_among nodes n ≡ false → is_among nodes k ≡ true → n ≡ k → ⊥
apart nodes n k other this same = let no : false ≡ true = sym other ∙ ap (is_among nodes) same ∙ this in cc

-- An attribute of a node, given the attributes of the node.
abbrev attribute_in : List ℕ → Option Attributes → Option Value
attribute_in name found = option_and_then (λ attributes. fin.get attributes name) found

find_unpaired : (node : ℕ) (q : List ℕ) (es : List (List ℕ × Index)) → find name_cmp q (map (λ e. (e.0, unpaired e.1 node)) es) ≡ option_map (λ (i : Index). unpaired i node) (find name_cmp q es)
find_unpaired node q [] = refl
find_unpaired node q (e ∷ es) = ap (cond (eq_by_cmp name_cmp q e.0) (Some (unpaired e.1 node))) (find_unpaired node q es) ∙ by (eq_by_cmp name_cmp q e.0)
  where
    by : (b : Bool) → cond b (Some (unpaired e.1 node)) (option_map (λ (i : Index). unpaired i node) (find name_cmp q es)) ≡ option_map (λ (i : Index). unpaired i node) (cond b (Some e.1) (find name_cmp q es))
    by true = refl
    by false = refl

get_without : (indices : Indices) (node : ℕ) (q : List ℕ) → fin.get (without_node indices node) q ≡ option_map (λ (i : Index). unpaired i node) (fin.get indices q)
get_without indices node q =
    get-from_entries names_total (map (λ e. (e.0, unpaired e.1 node)) (fin.entries indices)) q
    ∙ (find_unpaired node q (fin.entries indices) ∙ ap (option_map (λ (i : Index). unpaired i node)) (sym (get-entries indices q)))

-- An index that loses the pair of another node.
unpaired_other : (index : Index) (k n : ℕ) → (n ≡ k → ⊥) → fin.get (unpaired index k).pairs n ≡ fin.get index.pairs n
unpaired_other index k n ne = gone_other nat_cmp_total nat_cmp-IsAntisymmetric index.pairs k n ne

one_of_two : (b : Bool) (index i j k : Index) (n : ℕ) → i ≡ (if b then j else k) → fin.get j.pairs n ≡ fin.get index.pairs n → fin.get k.pairs n ≡ fin.get index.pairs n → fin.get i.pairs n ≡ fin.get index.pairs n
one_of_two true index i j k n e f g = ap (λ (x : Index). fin.get x.pairs n) e ∙ f
one_of_two false index i j k n e f g = ap (λ (x : Index). fin.get x.pairs n) e ∙ g

-- An index that gains the pair of another node.
paired_other : (index : Index) (k : ℕ) (value : Value) (n : ℕ) → (n ≡ k → ⊥) → fin.get (paired index k value).pairs n ≡ fin.get index.pairs n
paired_other index k value n ne =
    one_of_two (same_kind index.kind (kind_of value)) index (paired index k value) (record { kind = index.kind; pairs = fin.insert index.pairs k value }) (record { kind = index.kind; pairs = fin.remove index.pairs k }) n refl
    (get_other nat_cmp_total nat_cmp-IsAntisymmetric index.pairs k value n ne) (gone_other nat_cmp_total nat_cmp-IsAntisymmetric index.pairs k n ne)

-- The index of one name is changed, but not at this node.
module _ (indices : Indices) (at : List ℕ) (old new : Index) (n : ℕ) (was : fin.get indices at ≡ Some old) (same : fin.get new.pairs n ≡ fin.get old.pairs n) where
  changed_has : (name : List ℕ) → fin.contains_key (fin.insert indices at new) name ≡ fin.contains_key indices name
  changed_has name = elim (keys_decided name at) [
    | inl s ↦ subst (λ m. fin.contains_key (fin.insert indices at new) m ≡ fin.contains_key indices m) (sym s)
        (ap is_some (get_here names_total exact_names indices at new) ∙ sym (ap is_some was))
    | inr ne ↦ ap is_some (get_other names_total exact_names indices at new name ne)
  ]

  changed_seen : (name : List ℕ) (v : Option Value) → seen_in (fin.get (fin.insert indices at new) name) v n ≡ seen_in (fin.get indices name) v n
  changed_seen name v = elim (keys_decided name at) [
    | inl s ↦ subst (λ m. seen_in (fin.get (fin.insert indices at new) m) v n ≡ seen_in (fin.get indices m) v n) (sym s)
        (ap (λ o. seen_in o v n) (get_here names_total exact_names indices at new) ∙ (same ∙ sym (ap (λ o. seen_in o v n) was)))
    | inr ne ↦ ap (λ o. seen_in o v n) (get_other names_total exact_names indices at new name ne)
  ]

paired_has : (indices : Indices) (at name : List ℕ) (k : ℕ) (value : Value) → fin.contains_key (with_pair indices at k value) name ≡ fin.contains_key indices name
paired_has indices at name k value = by (fin.get indices at) refl
  where
    by : (found : Option Index) → fin.get indices at ≡ found → fin.contains_key (paired_at indices at found k value) name ≡ fin.contains_key indices name
    by None e = refl
    by (Some index) e = elim (keys_decided name at) [
      | inl s ↦ subst (λ m. fin.contains_key (fin.insert indices at (paired index k value)) m ≡ fin.contains_key indices m) (sym s)
          (ap is_some (get_here names_total exact_names indices at (paired index k value)) ∙ sym (ap is_some e))
      | inr ne ↦ ap is_some (get_other names_total exact_names indices at (paired index k value) name ne)
    ]

paired_seen : (indices : Indices) (at name : List ℕ) (k : ℕ) (value : Value) (n : ℕ) (v : Option Value) → (n ≡ k → ⊥) → seen_in (fin.get (with_pair indices at k value) name) v n ≡ seen_in (fin.get indices name) v n
paired_seen indices at name k value n v ne = by (fin.get indices at) refl
  where
    by : (found : Option Index) → fin.get indices at ≡ found → seen_in (fin.get (paired_at indices at found k value) name) v n ≡ seen_in (fin.get indices name) v n
    by None e = refl
    by (Some index) e = changed_seen indices at index (paired index k value) n e (paired_other index k value n ne) name v

lost_has : (indices : Indices) (at name : List ℕ) (k : ℕ) → fin.contains_key (without_pair indices at k) name ≡ fin.contains_key indices name
lost_has indices at name k = by (fin.get indices at) refl
  where
    by : (found : Option Index) → fin.get indices at ≡ found → fin.contains_key (unpaired_at indices at found k) name ≡ fin.contains_key indices name
    by None e = refl
    by (Some index) e = elim (keys_decided name at) [
      | inl s ↦ subst (λ m. fin.contains_key (fin.insert indices at (unpaired index k)) m ≡ fin.contains_key indices m) (sym s)
          (ap is_some (get_here names_total exact_names indices at (unpaired index k)) ∙ sym (ap is_some e))
      | inr ne ↦ ap is_some (get_other names_total exact_names indices at (unpaired index k) name ne)
    ]

lost_seen : (indices : Indices) (at name : List ℕ) (k n : ℕ) (v : Option Value) → (n ≡ k → ⊥) → seen_in (fin.get (without_pair indices at k) name) v n ≡ seen_in (fin.get indices name) v n
lost_seen indices at name k n v ne = by (fin.get indices at) refl
  where
    by : (found : Option Index) → fin.get indices at ≡ found → seen_in (fin.get (unpaired_at indices at found k) name) v n ≡ seen_in (fin.get indices name) v n
    by None e = refl
    by (Some index) e = changed_seen indices at index (unpaired index k) n e (unpaired_other index k n ne) name v

dropped_has : (indices : Indices) (name : List ℕ) (k : ℕ) → fin.contains_key (without_node indices k) name ≡ fin.contains_key indices name
dropped_has indices name k = ap is_some (get_without indices k name) ∙ by (fin.get indices name)
  where
    by : (found : Option Index) → is_some (option_map (λ (i : Index). unpaired i k) found) ≡ is_some found
    by None = refl
    by (Some index) = refl

dropped_seen : (indices : Indices) (name : List ℕ) (k n : ℕ) (v : Option Value) → (n ≡ k → ⊥) → seen_in (fin.get (without_node indices k) name) v n ≡ seen_in (fin.get indices name) v n
dropped_seen indices name k n v ne = ap (λ o. seen_in o v n) (get_without indices k name) ∙ by (fin.get indices name)
  where
    by : (found : Option Index) → seen_in (option_map (λ (i : Index). unpaired i k) found) v n ≡ seen_in found v n
    by None = refl
    by (Some index) = unpaired_other index k n ne

-- The volume after an operation, given the node that it names.
made_same : (nodes : List ℕ) (s : State) (op : Op) (done : Done) → (op ≡ New → done ≡ Node s.next) → IsNamedAmong nodes op done → AreSame nodes s (made s op)
made_same nodes s New done by_new named =
    let this : is_among nodes s.next ≡ true = sym (ap (λ d. option_map_or (is_among nodes) (node_made d) false) (by_new refl)) ∙ named in record {
      indexed = λ name. refl;
      seen = λ n name other. ap (λ o. seen_in (fin.get s.indices name) (attribute_in name o) n) (get_other nat_cmp_total nat_cmp-IsAntisymmetric s.nodes s.next fin.empty n (apart nodes n s.next other this));
    }
made_same nodes s (Drop k) done by_new named = record {
  indexed = λ name. dropped_has s.indices name k;
  seen = λ n name other.
      let ne = apart nodes n k other named in
      dropped_seen s.indices name k n (attribute_in name (fin.get (fin.remove s.nodes k) n)) ne
      ∙ ap (λ o. seen_in (fin.get s.indices name) (attribute_in name o) n) (gone_other nat_cmp_total nat_cmp-IsAntisymmetric s.nodes k n ne);
}
made_same nodes s (Set k at value) done by_new named =
    let attributes : Attributes = fin.insert (attributes_of s.nodes k) at value in record {
      indexed = λ name. paired_has s.indices at name k value;
      seen = λ n name other.
          let ne = apart nodes n k other named in
          paired_seen s.indices at name k value n (attribute_in name (fin.get (fin.insert s.nodes k attributes) n)) ne
          ∙ ap (λ o. seen_in (fin.get s.indices name) (attribute_in name o) n) (get_other nat_cmp_total nat_cmp-IsAntisymmetric s.nodes k attributes n ne);
    }
made_same nodes s (Unset k at) done by_new named =
    let attributes : Attributes = fin.remove (attributes_of s.nodes k) at in record {
      indexed = λ name. lost_has s.indices at name k;
      seen = λ n name other.
          let ne = apart nodes n k other named in
          lost_seen s.indices at name k n (attribute_in name (fin.get (fin.insert s.nodes k attributes) n)) ne
          ∙ ap (λ o. seen_in (fin.get s.indices name) (attribute_in name o) n) (get_other nat_cmp_total nat_cmp-IsAntisymmetric s.nodes k attributes n ne);
    }
made_same nodes s (MkIndex at kind) done by_new named = let no : false ≡ true = named in cc
made_same nodes s (RmIndex at) done by_new named = let no : false ≡ true = named in cc

-- The outcome of an operation that creates a node is the number of the node.
answers_new : (s t : State) (op : Op) (done : Done) → step s op ≡ Ok (t, done) → op ≡ New → done ≡ Node s.next
answers_new s t op done e is =
    let both : step s New ≡ Ok (t, done) = ap (step s) (sym is) ∙ e in
    sym (ap (done_of (Node s.next)) both)
  where
    done_of : Done → Result (State × Done) Refusal → Done
    done_of d (Ok x) = x.1
    done_of d (Err r) = d

step_same : (nodes : List ℕ) (s t : State) (op : Op) (done : Done) → step s op ≡ Ok (t, done) → IsNamedAmong nodes op done → AreSame nodes s t
step_same nodes s t op done e named =
    let is : made s op ≡ t = sym (accepted s op (ap is_ok e)).is ∙ ap (reached s) e in
    subst (AreSame nodes s) is (made_same nodes s op done (answers_new s t op done e) named)

-- Operations append their outcomes to the earlier ones.
answered_after : (ops : List Op) (u t : State) (es fs : List Done) → fold advance (Ok (u, es)) ops ≡ Ok (t, fs) → (rest : List Done) × (fs ≡ es ++ rest)
answered_after [] u t es fs h = ([], sym (ap (outcomes_in es) h) ∙ sym (append-nil es))
  where
    outcomes_in : List Done → Result (State × List Done) Refusal → List Done
    outcomes_in d (Ok x) = x.1
    outcomes_in d (Err r) = d
answered_after (op ∷ ops) u t es fs h = by (λ v ds g. answered_after ops v t ds fs g) (step u op) h
  where
    by : ((v : State) (ds : List Done) → fold advance (Ok (v, ds)) ops ≡ Ok (t, fs) → (rest : List Done) × (fs ≡ ds ++ rest)) → (x : Result (State × Done) Refusal) →
        fold advance (result_map_both (λ (answer : State × Done). (answer.0, es ++ answer.1 ∷ [])) (λ (e : Refusal). e) x) ops ≡ Ok (t, fs) → (rest : List Done) × (fs ≡ es ++ rest)
    by again (Err r) g = absurd (not_both r (t, fs) (sym (refused_stays r ops) ∙ g))
    by again (Ok x) g =
        let more = again x.0 (es ++ x.1 ∷ []) g in
        (x.1 ∷ more.0, more.1 ∙ append_assoc es (x.1 ∷ []) more.0)

fold_same : (nodes : List ℕ) (ops : List Op) (s t : State) (ds es : List Done) → fold advance (Ok (s, ds)) ops ≡ Ok (t, ds ++ es) → AreNamedAmong nodes ops es → AreSame nodes s t
fold_same nodes [] s t ds es h named = subst (AreSame nodes s) (ap (reached s) h) (are_same nodes s)
fold_same nodes (op ∷ ops) s t ds es h named = by (λ v fs gs g. fold_same nodes ops v t fs gs g) (step s op) refl h
  where
    by : ((v : State) (fs gs : List Done) → fold advance (Ok (v, fs)) ops ≡ Ok (t, fs ++ gs) → AreNamedAmong nodes ops gs → AreSame nodes v t) → (x : Result (State × Done) Refusal) → step s op ≡ x →
        fold advance (result_map_both (λ (answer : State × Done). (answer.0, ds ++ answer.1 ∷ [])) (λ (e : Refusal). e) x) ops ≡ Ok (t, ds ++ es) → AreSame nodes s t
    by again (Err r) e g = absurd (not_both r (t, ds ++ es) (sym (refused_stays r ops) ∙ g))
    by again (Ok x) e g =
        let more = answered_after ops x.0 t (ds ++ x.1 ∷ []) (ds ++ es) g in
        let both : es ≡ x.1 ∷ more.0 = append_cancel_left ds es (x.1 ∷ more.0) (more.1 ∙ append_assoc ds (x.1 ∷ []) more.0) in
        let there : fold advance (Ok (x.0, ds ++ x.1 ∷ [])) ops ≡ Ok (t, (ds ++ x.1 ∷ []) ++ more.0) = g ∙ ap (λ l. Ok (t, l)) more.1 in
        let each : AreNamedAmong nodes (op ∷ ops) (x.1 ∷ more.0) = subst (AreNamedAmong nodes (op ∷ ops)) both named in
        and_then_same nodes s x.0 t
        (step_same nodes s x.0 op x.1 e (each 0 op x.1 (omega arith) refl refl))
        (again x.0 (ds ++ x.1 ∷ []) more.0 there (λ k o d lt this its. each (suc k) o d (omega (arith, lt)) this its))

-- The volume after an entry that agrees with it.
entry_same : (nodes : List ℕ) (s : State) (entry : Entry) → Agrees s entry → NamesAmong nodes entry → AreSame nodes s (state_after s entry.ops)
entry_same nodes s entry agrees named =
    let is : state_after s entry.ops ≡ agrees.0 = ap (reached s) agrees.1 in
    subst (AreSame nodes s) (sym is) (fold_same nodes entry.ops s agrees.0 [] entry.dones agrees.1 named)

replay_more : (base : State) (log : List Entry) (i : ℕ) (d : Entry) → i < length log → replay_from base (take (i + 1) log) ≡ state_after (replay_from base (take i log)) (get_or log i d).ops
replay_more base log i d lt = ap (replay_from base) (take_more log i d lt) ∙ fold-append (λ s (entry : Entry). state_after s entry.ops) base (take i log) (get_or log i d ∷ [])

-- The volumes after two prefixes of a legal journal, if the entries between them name no other nodes.
pub replay_same : (nodes : List ℕ) (base : State) (log : List Entry) (from more : ℕ) → IsLegalFrom base log → from + more ≤ length log →
    ((i : ℕ) (d : Entry) → from ≤ i → i < from + more → NamesAmong nodes (get_or log i d)) → AreSame nodes (replay_from base (take from log)) (replay_from base (take (from + more) log))
replay_same nodes base log from zero legal short named =
    let e : from ≡ from + 0 = omega arith in
    subst (λ k. AreSame nodes (replay_from base (take from log)) (replay_from base (take k log))) e (are_same nodes (replay_from base (take from log)))
replay_same nodes base log from (suc more) legal short named =
    let i : ℕ = from + more in
    let before : AreSame nodes (replay_from base (take from log)) (replay_from base (take i log)) =
    replay_same nodes base log from more legal (omega arith) (λ j d low high. named j d low (omega (arith, high))) in
    let inside : i < length log = omega arith in
    let d : Entry = record { by = 0; ops = []; dones = [] } in
    let entry : Entry = get_or log i d in
    let is : entry ≡ get_or log i entry = get_or_default log i d entry inside in
    let one = entry_same nodes (replay_from base (take i log)) entry (legal i entry inside is) (named i d (omega arith) (omega arith)) in
    let next : i + 1 ≡ from + suc more = omega arith in
    and_then_same nodes (replay_from base (take from log)) (replay_from base (take i log)) (replay_from base (take (from + suc more) log)) before
    (subst (AreSame nodes (replay_from base (take i log))) (sym (replay_more base log i d inside) ∙ ap (λ k. replay_from base (take k log)) next) one)
