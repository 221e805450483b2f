-- Lists of operations that a volume accepts, and the volumes to which they lead.
use Rattle.std.proofs.Common.{◌≡◌, ◌≤◌, ◌+◌, ℕ, Bool, true, false, cond, List, [], ◌∷◌, ◌++◌, length, refl, sym, ap, ◌∙◌, subst, arith, Some, None, is_some, fold, map as each}
use Rattle.std.proofs.lemmas.Grind.{fold-append}
use Rattle.std.specs.Prelude.{Ok, Result, ⊤}
use Rattle.std.specs.Option.{option_and_then, option_or, option_map}
use Rattle.std.specs.Result.{result_map_both}
use Rattle.std.specs.Ordering.{nat_cmp, eq_by_cmp}
use Rattle.std.specs.declared.option.Option.{Option}
use Rattle.std.specs.FinMap as fin
use Rattle.std.specs.FinMap.{find}
use Rattle.be_value.specs.Value.{is_indexable}
use Rattle.be_value.specs.declared.refusals.Refusal.{Refusal}
use Rattle.be_value.specs.declared.values.Kind.{Kind}
use Rattle.be_value.specs.declared.values.Value.{Value}
use Rattle.be_volume.specs.Maps.{name_cmp, attributes_of}
use Rattle.be_volume.specs.Reading.{attribute, index_kind}
use Rattle.be_volume.specs.Volume.{State, step, advance}
use Rattle.be_volume.specs.declared.maps.Index.{Index}
use Rattle.be_volume.specs.declared.ops.Done.{Done}
use Rattle.be_volume.specs.declared.ops.Done.TheVariants.{Unit as Nothing}
use Rattle.be_volume.specs.declared.ops.Op.{Op}
use Rattle.be_volume.specs.declared.ops.Op.TheVariants.{Set, MkIndex}
use Rattle.be_volume.proofs.MapLemmas.{names_total}
use Rattle.be_volume.proofs.StepLemmas.{made}
use Rattle.be_volume_state.specs.Rebuilding.{pair_at, set_all}
use Rattle.be_volume_state.proofs.Observed.{by_name, same_name, own_name, set_there, set_here, set_away, set_kind, set_pair, set_apart, set_count, set_accepted, index_accepted, pair_set, got_away, kind_here, pair_here}

-- the operations are accepted one after another and lead to u
pub record Goes (t : State) (ops : List Op) (u : State) : Type 0 where
  pub dones : List Done → List Done
  pub is : (old : List Done) → fold advance (Ok (t, old)) ops ≡ Ok (u, dones old)

pub stays : (t : State) → Goes t [] t
stays t = record { dones = λ d. d; is = λ old. refl }

pub joined : (t u v : State) (xs ys : List Op) → Goes t xs u → Goes u ys v → Goes t (xs ++ ys) v
joined t u v xs ys a b = record {
  dones = λ d. b.dones (a.dones d);
  is = λ old. fold-append advance (Ok (t, old)) xs ys ∙ ap (λ (r : Result (State × List Done) Refusal). fold advance r ys) (a.is old) ∙ b.is (a.dones old);
}

pub first : (t u v : State) (op : Op) (done : Done) (ops : List Op) → step t op ≡ Ok (u, done) → Goes u ops v → Goes t (op ∷ ops) v
first t u v op done ops e rest = record {
  dones = λ d. rest.dones (d ++ done ∷ []);
  is = λ old. ap (λ (r : Result (State × Done) Refusal). fold advance (result_map_both (λ (answer : State × Done). (answer.0, old ++ answer.1 ∷ [])) (λ (f : Refusal). f) r) ops) e ∙ rest.is (old ++ done ∷ []);
}

-- they lead to some volume for which P holds
pub record Reaches (t : State) (ops : List Op) (P : State → Type 0) : Type 0 where
  pub u : State
  pub goes : Goes t ops u
  pub is : P u

-- no key occurs twice
abbrev pub Distinct : {X : Type 0} → List (List ℕ × X) → Type 0
Distinct [] = ⊤
Distinct (e ∷ es) = (find name_cmp e.0 es ≡ None) × Distinct es

-- the node's pair once it has been given the value, if it was
abbrev pub pair_after : Option Value → Option Kind → Option Value → Option Value
pair_after None kind old = old
pair_after (Some value) kind old = pair_set kind value old

-- how setting these attributes of a node changes a volume
pub record IsSet (t : State) (n : ℕ) (es : List (List ℕ × Value)) (u : State) : Type 0 where
  pub next : u.next ≡ t.next
  pub there : (m : ℕ) → fin.contains_key u.nodes m ≡ fin.contains_key t.nodes m
  pub here : (q : List ℕ) → attribute u n q ≡ option_or (find name_cmp q es) (attribute t n q)
  pub away : (m : ℕ) (q : List ℕ) → eq_by_cmp nat_cmp m n ≡ false → attribute u m q ≡ attribute t m q
  pub kind_is : (q : List ℕ) → index_kind u q ≡ index_kind t q
  pub pair_is : (q : List ℕ) → pair_at u q n ≡ pair_after (find name_cmp q es) (index_kind t q) (pair_at t q n)
  pub apart : (q : List ℕ) (m : ℕ) → eq_by_cmp nat_cmp m n ≡ false → pair_at u q m ≡ pair_at t q m

value_last : (b : Bool) (v : Value) (f a : Option Value) → (b ≡ true → f ≡ None) → option_or f (cond b (Some v) a) ≡ option_or (cond b (Some v) f) a
value_last true v f a h = ap (λ x. option_or x (Some v)) (h refl)
value_last false v f a h = refl

pair_last : (b : Bool) (v : Value) (f : Option Value) (k : Option Kind) (a : Option Value) → (b ≡ true → f ≡ None) →
    pair_after f k (cond b (pair_set k v a) a) ≡ pair_after (cond b (Some v) f) k a
pair_last true v f k a h = ap (λ x. pair_after x k (pair_set k v a)) (h refl)
pair_last false v f k a h = refl

pub missed : {X : Type 0} (e : List ℕ × X) (es : List (List ℕ × X)) (q : List ℕ) → find name_cmp e.0 es ≡ None → eq_by_cmp name_cmp q e.0 ≡ true → find name_cmp q es ≡ None
missed e es q h is = subst (λ (x : List ℕ). find name_cmp x es ≡ None) (sym (same_name q e.0 is)) h

pub sets : (t : State) (n : ℕ) (es : List (List ℕ × Value)) → Distinct es → fin.contains_key t.nodes n ≡ true → fin.len (attributes_of t.nodes n) + length es ≤ 64 →
    Reaches t (set_all n es) (IsSet t n es)
sets t n [] d there few = record {
  u = t;
  goes = stays t;
  is = record { next = refl; there = λ m. refl; here = λ q. refl; away = λ m q e. refl; kind_is = λ q. refl; pair_is = λ q. refl; apart = λ q m e. refl };
}
sets t n (e ∷ es) d there few =
    let t1 : State = made t (Set n e.0 e.1) in
    let count : fin.len (attributes_of t1.nodes n) ≤ fin.len (attributes_of t.nodes n) + 1 = set_count t n e.0 e.1 in
    let long : fin.len (attributes_of t.nodes n) + length (e ∷ es) ≤ 64 = few in
    let r : Reaches t1 (set_all n es) (IsSet t1 n es) = sets t1 n es d.1 (set_there t n e.0 e.1 n there ∙ there) (omega arith) in
    record {
      u = r.u;
      goes = first t t1 r.u (Set n e.0 e.1) Nothing (set_all n es) (set_accepted t n e.0 e.1 there (omega arith)) r.goes;
      is = record {
        next = r.is.next;
        there = λ m. r.is.there m ∙ set_there t n e.0 e.1 m there;
        here = λ q. r.is.here q ∙ ap (option_or (find name_cmp q es)) (set_here t n e.0 e.1 q)
            ∙ value_last (eq_by_cmp name_cmp q e.0) e.1 (find name_cmp q es) (attribute t n q) (missed e es q d.0);
        away = λ m q f. r.is.away m q f ∙ set_away t n e.0 e.1 m q f;
        kind_is = λ q. r.is.kind_is q ∙ set_kind t n e.0 e.1 q;
        pair_is = λ q. r.is.pair_is q ∙ ap (λ k. pair_after (find name_cmp q es) k (pair_at t1 q n)) (set_kind t n e.0 e.1 q)
            ∙ ap (pair_after (find name_cmp q es) (index_kind t q)) (set_pair t n e.0 e.1 q)
            ∙ pair_last (eq_by_cmp name_cmp q e.0) e.1 (find name_cmp q es) (index_kind t q) (pair_at t q n) (missed e es q d.0);
        apart = λ q m f. r.is.apart q m f ∙ set_apart t n e.0 e.1 q m f;
      };
    }

-- how creating these indices changes a volume, where no index has a pair
pub record IsMade (t : State) (es : List (List ℕ × Kind)) (u : State) : Type 0 where
  pub next : u.next ≡ t.next
  pub nodes : u.nodes ≡ t.nodes
  pub kind_is : (q : List ℕ) → index_kind u q ≡ option_or (find name_cmp q es) (index_kind t q)
  pub none : (q : List ℕ) (m : ℕ) → pair_at u q m ≡ None

kind_last : (b : Bool) (k : Kind) (f a : Option Kind) → (b ≡ true → f ≡ None) → option_or f (cond b (Some k) a) ≡ option_or (cond b (Some k) f) a
kind_last true k f a h = ap (λ x. option_or x (Some k)) (h refl)
kind_last false k f a h = refl

module _ (t : State) (name : List ℕ) (kind : Kind) where
  made_kind : (q : List ℕ) → index_kind (made t (MkIndex name kind)) q ≡ cond (eq_by_cmp name_cmp q name) (Some kind) (index_kind t q)
  made_kind q =
      let P : List ℕ → Type 0 = λ x. index_kind (made t (MkIndex name kind)) x ≡ cond (eq_by_cmp name_cmp x name) (Some kind) (index_kind t x) in
      by_name name q P (kind_here t.indices name (record { kind = kind; pairs = fin.empty }) ∙ sym (ap (λ b. cond b (Some kind) (index_kind t name)) (own_name name)))
      (λ e. ap (option_map (λ (i : Index). i.kind)) (got_away t.indices name (record { kind = kind; pairs = fin.empty }) q e) ∙ sym (ap (λ b. cond b (Some kind) (index_kind t q)) e))

  made_none : ((q : List ℕ) (m : ℕ) → pair_at t q m ≡ None) → (q : List ℕ) (m : ℕ) → pair_at (made t (MkIndex name kind)) q m ≡ None
  made_none none q m =
      let P : List ℕ → Type 0 = λ x. pair_at (made t (MkIndex name kind)) x m ≡ None in
      by_name name q P (pair_here t.indices name (record { kind = kind; pairs = fin.empty }) m ∙ fin.get-empty nat_cmp m)
      (λ e. ap (option_and_then (λ (i : Index). fin.get i.pairs m)) (got_away t.indices name (record { kind = kind; pairs = fin.empty }) q e) ∙ none q m)

  made_count : fin.len (made t (MkIndex name kind)).indices ≤ fin.len t.indices + 1
  made_count = subst (λ k. k ≤ fin.len t.indices + 1) (sym (fin.len-insert names_total t.indices name (record { kind = kind; pairs = fin.empty }))) (by (fin.contains_key t.indices name))
    where
      by : (b : Bool) → cond b (fin.len t.indices) (fin.len t.indices + 1) ≤ fin.len t.indices + 1
      by true = omega arith
      by false = omega arith

has_kind : (t : State) (q : List ℕ) → fin.contains_key t.indices q ≡ is_some (index_kind t q)
has_kind t q = by (fin.get t.indices q)
  where
    by : (found : Option Index) → is_some found ≡ is_some (option_map (λ (i : Index). i.kind) found)
    by None = refl
    by (Some i) = refl

-- the volume has none of these indices yet
abbrev pub AreNew : State → List (List ℕ × Kind) → Type 0
AreNew t es = (q : List ℕ) → is_some (find name_cmp q es) ≡ true → index_kind t q ≡ None

found_first : (b : Bool) (k : Kind) (f : Option Kind) → b ≡ true → is_some (cond b (Some k) f) ≡ true
found_first true k f h = refl
found_first false k f h = cc

found_later : (b : Bool) (k : Kind) (f : Option Kind) → is_some f ≡ true → is_some (cond b (Some k) f) ≡ true
found_later true k f h = refl
found_later false k f h = h

still_new : (t : State) (e : List ℕ × Kind) (es : List (List ℕ × Kind)) → find name_cmp e.0 es ≡ None → AreNew t (e ∷ es) → AreNew (made t (MkIndex e.0 e.1)) es
still_new t e es d new q h =
    made_kind t e.0 e.1 q ∙ by (eq_by_cmp name_cmp q e.0) refl
  where
    by : (b : Bool) → eq_by_cmp name_cmp q e.0 ≡ b → cond b (Some e.1) (index_kind t q) ≡ None
    by true is = let no : false ≡ true = sym (ap is_some (missed e es q d is)) ∙ h in cc
    by false is = new q (found_later (eq_by_cmp name_cmp q e.0) e.1 (find name_cmp q es) h)

abbrev pub AreIndexable : List (List ℕ × Kind) → Type 0
AreIndexable [] = ⊤
AreIndexable (e ∷ es) = (is_indexable e.1 ≡ true) × AreIndexable es

pub makes : (t : State) (es : List (List ℕ × Kind)) → Distinct es → AreIndexable es → AreNew t es → fin.len t.indices + length es ≤ 32 → ((q : List ℕ) (m : ℕ) → pair_at t q m ≡ None) →
    Reaches t (each (λ e. MkIndex e.0 e.1) es) (IsMade t es)
makes t [] d ix new few none = record { u = t; goes = stays t; is = record { next = refl; nodes = refl; kind_is = λ q. refl; none = none } }
makes t (e ∷ es) d ix new few none =
    let t1 : State = made t (MkIndex e.0 e.1) in
    let count : fin.len t1.indices ≤ fin.len t.indices + 1 = made_count t e.0 e.1 in
    let long : fin.len t.indices + length (e ∷ es) ≤ 32 = few in
    let absent : fin.contains_key t.indices e.0 ≡ false = has_kind t e.0 ∙ ap is_some (new e.0 (found_first (eq_by_cmp name_cmp e.0 e.0) e.1 (find name_cmp e.0 es) (own_name e.0))) in
    let r : Reaches t1 (each (λ e. MkIndex e.0 e.1) es) (IsMade t1 es) = makes t1 es d.1 ix.1 (still_new t e es d.0 new) (omega arith) (made_none t e.0 e.1 none) in
    record {
      u = r.u;
      goes = first t t1 r.u (MkIndex e.0 e.1) Nothing (each (λ e. MkIndex e.0 e.1) es) (index_accepted t e.0 e.1 absent (omega arith) ix.0) r.goes;
      is = record {
        next = r.is.next;
        nodes = r.is.nodes;
        kind_is = λ q. r.is.kind_is q ∙ ap (option_or (find name_cmp q es)) (made_kind t e.0 e.1 q)
            ∙ kind_last (eq_by_cmp name_cmp q e.0) e.1 (find name_cmp q es) (index_kind t q) (missed e es q d.0);
        none = r.is.none;
      };
    }
