-- What accepted operations found and left, and lists of operations read from the front.
use Rattle.std.proofs.Common.{◌≡◌, ◌<◌, ℕ, ◌+◌, Bool, true, false, not, ◌&&◌, if◌then◌else◌, nat_le, List, [], ◌∷◌, ◌++◌, length, take, drop, get_or, take-append-drop, refl, sym, ap, ◌∙◌, Some, None, IsOk, is_ok, fold}
use Rattle.std.proofs.lemmas.List.{take_more}
use Rattle.std.proofs.lemmas.Grind.{fold-append}
use Rattle.std.specs.declared.result.Result.{Result}
use Rattle.std.specs.declared.result.Result.TheVariants.{Ok, Err}
use Rattle.std.specs.Result.{result_map_both, result_err}
use Rattle.std.specs.Prelude.{⊤}
use Rattle.be_value.specs.Value.{is_indexable}
use Rattle.be_value.specs.declared.refusals.Refusal.{Refusal}
use Rattle.be_value.specs.declared.refusals.Refusal.TheVariants.{NoNode, NoAttr, NoSuchIndex, TooManyAttrs, IndexExists, TooManyIndices, NotIndexable}
use Rattle.std.specs.FinMap as map
use Rattle.be_volume.specs.Maps.{attributes_of, with_attribute}
use Rattle.be_volume.specs.Indices.{with_pair, without_pair, without_node}
use Rattle.be_volume.specs.declared.ops.Done.{Done}
use Rattle.be_volume.specs.declared.ops.Op.{Op}
use Rattle.be_volume.specs.declared.ops.Op.TheVariants.{New, Drop, Set, Unset, MkIndex, RmIndex}
use Rattle.be_volume.specs.Volume.{State, step, steps, advance}
use Rattle.be_volume.specs.Ahead.{reached, state_after}

-- after an error, the result remains that error
pub refused_stays : (e : Refusal) (ops : List Op) → fold advance (Err e) ops ≡ Err e
refused_stays e [] = refl
refused_stays e (op ∷ ops) = refused_stays e ops

pub not_both : {A : Type 0} (e : Refusal) (x : A) → ◌≡◌ {A = Result A Refusal} (Err e) (Ok x) → ⊥
not_both e x h = cc

ok_before : (r : Result (State × List Done) Refusal) (ops : List Op) → IsOk (fold advance r ops) → IsOk r
ok_before (Ok x) ops h = refl
ok_before (Err e) ops h = absurd (no_err (sym (ap is_ok (refused_stays e ops)) ∙ h))
  where
    no_err : false ≡ true → ⊥
    no_err h = cc

-- a prefix of accepted operations is accepted
pub front_ok : (s : State) (ops more : List Op) → IsOk (steps s (ops ++ more)) → IsOk (steps s ops)
front_ok s ops more h = ok_before (steps s ops) more (sym (ap is_ok (fold-append advance (Ok (s, [])) ops more)) ∙ h)

pub take_ok : (s : State) (ops : List Op) (i : ℕ) → IsOk (steps s ops) → IsOk (steps s (take i ops))
take_ok s ops i h = front_ok s (take i ops) (drop i ops) (ap (λ xs. is_ok (steps s xs)) (take-append-drop i ops) ∙ h)

-- one operation after those that were accepted
record Taken (s : State) (r : Result (State × List Done) Refusal) (op : Op) : Type 0 where
  pub accepted : IsOk (step (reached s r) op)
  pub is : reached s (advance r op) ≡ reached (reached s r) (step (reached s r) op)

joined : List Done → State × Done → State × List Done
joined dones answer = (answer.0, dones ++ answer.1 ∷ [])

one_ok : (dones : List Done) (q : Result (State × Done) Refusal) → IsOk (result_map_both (joined dones) (λ (e : Refusal). e) q) → IsOk q
one_ok dones (Ok x) h = refl
one_ok dones (Err e) h = cc

one_is : (s t : State) (dones : List Done) (q : Result (State × Done) Refusal) → IsOk q →
    reached s (result_map_both (joined dones) (λ (e : Refusal). e) q) ≡ reached t q
unfolding joined
one_is s t dones (Ok x) h = refl
one_is s t dones (Err e) h = cc

taken : (s : State) (r : Result (State × List Done) Refusal) (op : Op) → IsOk (advance r op) → Taken s r op
unfolding joined
taken s (Err e) op h = cc
taken s (Ok x) op h = let ok = one_ok x.1 (step x.0 op) h in record { accepted = ok; is = one_is s x.0 x.1 (step x.0 op) ok }

-- the next operation of an accepted list
pub record Turn (s : State) (ops : List Op) (i : ℕ) (op : Op) : Type 0 where
  pub accepted : IsOk (step (state_after s (take i ops)) op)
  pub is : state_after s (take (i + 1) ops) ≡ reached (state_after s (take i ops)) (step (state_after s (take i ops)) op)

pub more_is : (s : State) (ops : List Op) (i : ℕ) (op : Op) → i < length ops → op ≡ get_or ops i op → steps s (take (i + 1) ops) ≡ advance (steps s (take i ops)) op
more_is s ops i op h e = ap (steps s) (take_more ops i op h ∙ ap (λ x. take i ops ++ x ∷ []) (sym e)) ∙ fold-append advance (Ok (s, [])) (take i ops) (op ∷ [])

pub turn : (s : State) (ops : List Op) (i : ℕ) (op : Op) → i < length ops → op ≡ get_or ops i op → IsOk (steps s ops) → Turn s ops i op
turn s ops i op h e ok =
    let is = more_is s ops i op h e in
    let t = taken s (steps s (take i ops)) op (sym (ap is_ok is) ∙ take_ok s ops (i + 1) ok) in
    record { accepted = t.accepted; is = ap (reached s) is ∙ t.is }

-- the other branch of a test that didn't refuse
passed : {A : Type 0} (b : Bool) (e : Refusal) (r : Result A Refusal) → IsOk (if b then Err e else r) → (b ≡ false) × ((if b then Err e else r) ≡ r)
passed true e r h = cc
passed false e r h = (refl, refl)

-- the state after an accepted operation
abbrev pub made : State → Op → State
made s New = record { next = s.next + 1; nodes = map.insert s.nodes s.next map.empty; indices = s.indices }
made s (Drop node) = record { next = s.next; nodes = map.remove s.nodes node; indices = without_node s.indices node }
made s (Set node name value) = record { next = s.next; nodes = with_attribute s.nodes node name value; indices = with_pair s.indices name node value }
made s (Unset node name) = record { next = s.next; nodes = map.insert s.nodes node (map.remove (attributes_of s.nodes node) name); indices = without_pair s.indices name node }
made s (MkIndex name kind) = record { next = s.next; nodes = s.nodes; indices = map.insert s.indices name (record { kind = kind; pairs = map.empty }) }
made s (RmIndex name) = record { next = s.next; nodes = s.nodes; indices = map.remove s.indices name }

-- what an accepted operation found
abbrev pub Found : State → Op → Type 0
Found s New = ⊤
Found s (Drop node) = map.contains_key s.nodes node ≡ true
Found s (Set node name value) = (map.contains_key s.nodes node ≡ true) × (not (map.contains_key (attributes_of s.nodes node) name) && nat_le 64 (map.len (attributes_of s.nodes node)) ≡ false)
Found s (Unset node name) = (map.contains_key s.nodes node ≡ true) × (map.contains_key (attributes_of s.nodes node) name ≡ true)
Found s (MkIndex name kind) = (map.contains_key s.indices name ≡ false) × (nat_le 32 (map.len s.indices) ≡ false) × (is_indexable kind ≡ true)
Found s (RmIndex name) = map.contains_key s.indices name ≡ true

sure : (b : Bool) → not b ≡ false → b ≡ true
sure true h = refl
sure false h = cc

pub record Accepted (s : State) (op : Op) : Type 0 where
  pub is : reached s (step s op) ≡ made s op
  pub found : Found s op

pub accepted : (s : State) (op : Op) → IsOk (step s op) → Accepted s op
accepted s New h = record { is = refl; found = tt }
accepted s (Drop node) h =
    let p = passed (not (map.contains_key s.nodes node)) NoNode _ h in
    record { is = ap (reached s) p.1; found = sure _ p.0 }
accepted s (Set node name value) h =
    let p = passed (not (map.contains_key s.nodes node)) NoNode _ h in
    let q = passed (not (map.contains_key (attributes_of s.nodes node) name) && nat_le 64 (map.len (attributes_of s.nodes node))) TooManyAttrs _ (sym (ap is_ok p.1) ∙ h) in
    record { is = ap (reached s) (p.1 ∙ q.1); found = (sure _ p.0, q.0) }
accepted s (Unset node name) h =
    let p = passed (not (map.contains_key s.nodes node)) NoNode _ h in
    let q = passed (not (map.contains_key (attributes_of s.nodes node) name)) NoAttr _ (sym (ap is_ok p.1) ∙ h) in
    record { is = ap (reached s) (p.1 ∙ q.1); found = (sure _ p.0, sure _ q.0) }
accepted s (MkIndex name kind) h =
    let p = passed (map.contains_key s.indices name) IndexExists _ h in
    let q = passed (nat_le 32 (map.len s.indices)) TooManyIndices _ (sym (ap is_ok p.1) ∙ h) in
    let r = passed (not (is_indexable kind)) NotIndexable _ (sym (ap is_ok q.1) ∙ sym (ap is_ok p.1) ∙ h) in
    record { is = ap (reached s) (p.1 ∙ q.1 ∙ r.1); found = (p.0, q.0, sure _ r.0) }
accepted s (RmIndex name) h =
    let p = passed (not (map.contains_key s.indices name)) NoSuchIndex _ h in
    record { is = ap (reached s) p.1; found = sure _ p.0 }

-- the first refused operation refuses the list
refused_on : (dones : List Done) (q : Result (State × Done) Refusal) (ops : List Op) (e : Refusal) → result_err q ≡ Some e → result_err (fold advance (result_map_both (joined dones) (λ (f : Refusal). f) q) ops) ≡ Some e
refused_on dones (Ok x) ops e h = cc
refused_on dones (Err f) ops e h = ap result_err (refused_stays f ops) ∙ h

refused_after : (s : State) (r : Result (State × List Done) Refusal) (op : Op) (ops : List Op) (e : Refusal) → IsOk r → result_err (step (reached s r) op) ≡ Some e → result_err (fold advance (advance r op) ops) ≡ Some e
unfolding joined
refused_after s (Ok x) op ops e ok h = refused_on x.1 (step x.0 op) ops e h
refused_after s (Err f) op ops e ok h = cc

pub refused_at : (s : State) (ops : List Op) (i : ℕ) (op : Op) (e : Refusal) → i < length ops → op ≡ get_or ops i op → IsOk (steps s (take i ops)) →
    result_err (step (state_after s (take i ops)) op) ≡ Some e → result_err (steps s ops) ≡ Some e
refused_at s ops i op e short at ok h =
    ap (λ xs. result_err (steps s xs)) (sym (take-append-drop (i + 1) ops))
    ∙ ap result_err (fold-append advance (Ok (s, [])) (take (i + 1) ops) (drop (i + 1) ops))
    ∙ ap (λ r. result_err (fold advance r (drop (i + 1) ops))) (more_is s ops i op short at)
    ∙ refused_after s (steps s (take i ops)) op (drop (i + 1) ops) e ok h

accepted_on : (dones : List Done) (q : Result (State × Done) Refusal) → result_err q ≡ None → IsOk (result_map_both (joined dones) (λ (f : Refusal). f) q)
accepted_on dones (Ok x) h = refl
accepted_on dones (Err f) h = cc

accepted_after : (s : State) (r : Result (State × List Done) Refusal) (op : Op) → IsOk r → result_err (step (reached s r) op) ≡ None → IsOk (advance r op)
unfolding joined
accepted_after s (Ok x) op ok h = accepted_on x.1 (step x.0 op) h
accepted_after s (Err f) op ok h = cc

pub accepted_at : (s : State) (ops : List Op) (i : ℕ) (op : Op) → i < length ops → op ≡ get_or ops i op → IsOk (steps s (take i ops)) →
    result_err (step (state_after s (take i ops)) op) ≡ None → IsOk (steps s (take (i + 1) ops))
accepted_at s ops i op short at ok h = ap is_ok (more_is s ops i op short at) ∙ accepted_after s (steps s (take i ops)) op ok h

-- what is accepted has no error
pub no_refusal : {A : Type 0} (r : Result A Refusal) → IsOk r → result_err r ≡ None
no_refusal (Ok x) h = refl
no_refusal (Err e) h = cc

-- and what has no error is accepted
pub is_accepted : {A : Type 0} (r : Result A Refusal) → result_err r ≡ None → IsOk r
is_accepted (Ok x) h = refl
is_accepted (Err e) h = cc

-- one more operation was performed
pub performed : (s t u : State) (dones : List Done) (ops : List Op) (i : ℕ) (op : Op) (done : Done) → i < length ops → op ≡ get_or ops i op →
    steps s (take i ops) ≡ Ok (t, dones) → step t op ≡ Ok (u, done) → steps s (take (i + 1) ops) ≡ Ok (u, dones ++ done ∷ [])
performed s t u dones ops i op done short at e h =
    more_is s ops i op short at ∙ ap (λ r. advance r op) e
    ∙ ap (result_map_both (λ (answer : State × Done). (answer.0, dones ++ answer.1 ∷ [])) (λ (f : Refusal). f)) h
