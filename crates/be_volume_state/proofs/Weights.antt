-- No shorter list of operations creates the volume.
use Rattle.std.proofs.Common.{◌≡◌, ◌<◌, ◌≤◌, ◌+◌, ◌-◌, ◌++◌, ℕ, zero, suc, Bool, true, false, cond, if◌then◌else◌, List, [], ◌∷◌, length, refl, sym, ap, ◌∙◌, subst, arith, is_ok, IsOk, fold}
use Rattle.std.proofs.lemmas.List.{length-append, length-map}
use Rattle.std.specs.Prelude.{Ok, Err, Result, is_some, unwrap_or, None, Some}
use Rattle.std.specs.List.{flat_map, range_with_len}
use Rattle.std.specs.Result.{result_map_both}
use Rattle.std.specs.Cmp.{nat_cmp_is}
use Rattle.std.specs.Ordering.{is_eq, nat_cmp, eq_by_cmp}
use Rattle.std.specs.declared.cmp.Ordering.TheVariants.{Less, Greater}
use Rattle.std.specs.declared.option.Option.{Option}
use Rattle.std.specs.FinMap as fin
use Rattle.be_value.specs.declared.refusals.Refusal.{Refusal}
use Rattle.be_value.specs.declared.values.Value.{Value}
use Rattle.be_volume.specs.Ahead.{indices_after, reached}
use Rattle.be_volume.specs.Maps.{name_cmp, Attributes, Nodes, attributes_of}
use Rattle.be_volume.specs.Reading.{index_kinds}
use Rattle.be_volume.specs.Volume.{State, empty, step, steps, advance}
use Rattle.be_volume.specs.declared.maps.Index.{Index}
use Rattle.be_volume.specs.declared.ops.Done.{Done}
use Rattle.be_volume.specs.declared.ops.Op.{Op}
use Rattle.be_volume.specs.declared.ops.Op.TheVariants.{New, Drop, Set, Unset, MkIndex, RmIndex}
use Rattle.be_volume.proofs.FactLemmas.{indices_is}
use Rattle.be_volume.proofs.MapLemmas.{names_total}
use Rattle.be_volume.proofs.StepLemmas.{Found, accepted, made, not_both, refused_stays}
use Rattle.be_volume_state.specs.Rebuilding.{IsNumbered, held, held_ops, index_ops, is_held, number_ops, numbers_from, outside, set_all, state_ops}
use Rattle.be_volume_state.proofs.Parts.{parted}
use Rattle.be_volume_state.proofs.Numbering.{empty_numbered, reached_numbered}
use Rattle.be_volume_state.proofs.Observed.{attributes_away, attributes_here, attributes_left, by_number, dropped_away, dropped_here, has_away, has_here}

-- the sum of f over k numbers starting at a
total : (ℕ → ℕ) → ℕ → ℕ → ℕ
total f a zero = 0
total f a (suc k) = f a + total f (a + 1) k

total_push : (f : ℕ → ℕ) (a k : ℕ) → total f a (suc k) ≡ total f a k + f (a + k)
unfolding total
total_push f a zero = omega (arith, ap f (at_end a))
  where
    at_end : (n : ℕ) → n ≡ n + 0
    at_end n = omega arith
total_push f a (suc k) = let e = total_push f (a + 1) k in let s = ap f (shift a k) in omega arith
  where
    shift : (n m : ℕ) → (n + 1) + m ≡ n + suc m
    shift n m = omega arith

-- sums of functions when no value grows
total_stays : (f g : ℕ → ℕ) (a k : ℕ) → ((m : ℕ) → a ≤ m → m < a + k → g m ≤ f m) → total g a k ≤ total f a k
unfolding total
total_stays f g a zero h = omega arith
total_stays f g a (suc k) h =
    let one = h a (omega arith) (omega arith) in
    let rest = total_stays f g (a + 1) k (λ m p q. h m (omega (arith, p)) (omega (arith, q))) in
    omega arith

-- sums of functions when one value grows by at most one
total_grows : (f g : ℕ → ℕ) (n : ℕ) → g n ≤ f n + 1 → ((m : ℕ) → eq_by_cmp nat_cmp m n ≡ false → g m ≤ f m) → (a k : ℕ) → total g a k ≤ total f a k + 1
unfolding total
total_grows f g n here away a zero = omega arith
total_grows f g n here away a (suc k) = by_number n a (λ x. g x + total g (x + 1) k ≤ (f x + total f (x + 1) k) + 1)
    (let rest = total_stays f g (n + 1) k (λ m p q. away m (ap is_eq (sym (nat_cmp_is m n Greater (omega (arith, p)))))) in omega (arith, here))
    (λ e _. let one = away a e in let rest = total_grows f g n here away (a + 1) k in omega arith)

total_length : (h : ℕ → List Op) (a k : ℕ) → length (flat_map h (range_with_len a k)) ≡ total (λ m. length (h m)) a k
unfolding total
total_length h a zero = refl
total_length h a (suc k) = length-append (h a) (flat_map h (range_with_len (a + 1) k)) ∙ ap (λ n. length (h a) + n) (total_length h (a + 1) k)

total_both : (f g : ℕ → ℕ) (a k : ℕ) → total f a k + total g a k ≡ total (λ m. f m + g m) a k
unfolding total
total_both f g a zero = refl
total_both f g a (suc k) = let rest = total_both f g (a + 1) k in omega arith

total_same : (f g : ℕ → ℕ) → ((m : ℕ) → f m ≡ g m) → (a k : ℕ) → total f a k ≡ total g a k
unfolding total
total_same f g h a zero = refl
total_same f g h a (suc k) = let one = h a in let rest = total_same f g h (a + 1) k in omega arith

-- the number of operations for a number
weigh_in : Bool → ℕ → ℕ
weigh_in there count = 1 + (if there then count else 1)

abbrev weigh : Nodes → ℕ → ℕ
weigh nodes m = weigh_in (fin.contains_key nodes m) (fin.len (attributes_of nodes m))

-- the number of operations for a volume
abbrev weight : State → ℕ
weight t = total (weigh t.nodes) 1 (t.next - 1) + fin.len t.indices

no_attributes : (nodes : Nodes) (m : ℕ) → fin.contains_key nodes m ≡ false → fin.len (attributes_of nodes m) ≡ 0
no_attributes nodes m h = by (fin.get nodes m) h
  where
    by : (found : Option Attributes) → is_some found ≡ false → fin.len (unwrap_or found fin.empty) ≡ 0
    by None e = fin.len-empty name_cmp Value
    by (Some a) e = cc

weigh_is : (s : State) (m : ℕ) → length (number_ops s m) + length (held_ops s m) ≡ weigh s.nodes m
unfolding weigh_in
weigh_is s m = by (fin.contains_key s.nodes m) refl
  where
    parts : length (outside s m) + length (held s m) ≡ fin.len (attributes_of s.nodes m)
    parts = parted (is_held s m) (fin.entries (attributes_of s.nodes m)) ∙ sym (fin.len-entries (attributes_of s.nodes m))

    sets : (es : List (List ℕ × Value)) → length (set_all m es) ≡ length es
    sets es = length-map es (λ e. Set m e.0 e.1)

    by : (b : Bool) → fin.contains_key s.nodes m ≡ b →
        length (New ∷ (if b then set_all m (outside s m) else Drop m ∷ [])) + length (held_ops s m) ≡ 1 + (if b then fin.len (attributes_of s.nodes m) else 1)
    by true h = omega (arith, parts, sets (outside s m), sets (held s m))
    by false h = omega (arith, parts, sets (held s m), no_attributes s.nodes m h)

weight_is : (s : State) → length (state_ops s) ≡ weight s
weight_is s =
    let numbers = flat_map (number_ops s) (numbers_from s 1) in
    let rest = flat_map (held_ops s) (numbers_from s 1) in
    let all = length-append numbers (index_ops s ++ rest) in
    let beyond = length-append (index_ops s) rest in
    let a = total_length (number_ops s) 1 (s.next - 1) in
    let b = total_length (held_ops s) 1 (s.next - 1) in
    let both = total_both (λ m. length (number_ops s m)) (λ m. length (held_ops s m)) 1 (s.next - 1) in
    let same = total_same (λ m. length (number_ops s m) + length (held_ops s m)) (weigh s.nodes) (weigh_is s) 1 (s.next - 1) in
    let indices : length (index_ops s) ≡ fin.len s.indices = length-map (index_kinds s) (λ e. MkIndex e.0 e.1) ∙ length-map (fin.entries s.indices) (λ e. (e.0, e.1.kind)) ∙ sym (fin.len-entries s.indices) in
    omega arith

weigh_more : (b : Bool) (n m : ℕ) → n ≤ m + 1 → weigh_in b n ≤ weigh_in b m + 1
unfolding weigh_in
weigh_more true n m h = omega (arith, h)
weigh_more false n m h = omega arith

weigh_gone : (n : ℕ) (b : Bool) (m : ℕ) → weigh_in false n ≤ weigh_in b m + 1
unfolding weigh_in
weigh_gone n true m = omega arith
weigh_gone n false m = omega arith

weigh_same : (b c : Bool) (n m : ℕ) → b ≡ c → n ≡ m → weigh_in b n ≤ weigh_in c m
weigh_same b c n m h e = subst (λ x. weigh_in b n ≤ weigh_in x m) h (subst (λ x. weigh_in b n ≤ weigh_in b x) e (omega arith))

-- a node is given other attributes, at most one more
changed : (t : State) (n : ℕ) (a : Attributes) → fin.contains_key t.nodes n ≡ true → fin.len a ≤ fin.len (attributes_of t.nodes n) + 1 → (k : ℕ) →
    total (weigh (fin.insert t.nodes n a)) 1 k ≤ total (weigh t.nodes) 1 k + 1
changed t n a there few k = total_grows (weigh t.nodes) (weigh (fin.insert t.nodes n a)) n
    (subst (λ b. weigh_in b (fin.len (attributes_of (fin.insert t.nodes n a) n)) ≤ weigh t.nodes n + 1) (there ∙ sym (has_here t.nodes n a))
    (weigh_more (fin.contains_key t.nodes n) _ _ (subst (λ (x : Attributes). fin.len x ≤ fin.len (attributes_of t.nodes n) + 1) (sym (attributes_here t.nodes n a)) few)))
    (λ m e. weigh_same _ _ _ _ (has_away t.nodes n a m e) (ap fin.len (attributes_away t.nodes n a m e))) 1 k

insert_few : {X : Type 0} (a : fin.FinMap name_cmp X) (q : List ℕ) (v : X) → fin.len (fin.insert a q v) ≤ fin.len a + 1
insert_few a q v = subst (λ n. n ≤ fin.len a + 1) (sym (fin.len-insert names_total a q v)) (by (fin.contains_key a q))
  where
    by : (b : Bool) → cond b (fin.len a) (fin.len a + 1) ≤ fin.len a + 1
    by true = omega arith
    by false = omega arith

remove_few : {X : Type 0} (a : fin.FinMap name_cmp X) (q : List ℕ) → fin.len (fin.remove a q) ≤ fin.len a + 1
remove_few a q = subst (λ n. n ≤ fin.len a + 1) (sym (fin.len-remove names_total a q)) (by (fin.contains_key a q))
  where
    by : (b : Bool) → cond b (fin.len a - 1) (fin.len a) ≤ fin.len a + 1
    by true = omega arith
    by false = omega arith

new_weight : (t : State) → IsNumbered t → weight (made t New) ≤ weight t + 1
unfolding weigh_in
new_weight t numbered =
    let nodes : Nodes = fin.insert t.nodes t.next fin.empty in
    let begins : 1 ≤ t.next = numbered.begins in
    let push = total_push (weigh nodes) 1 (t.next - 1) in
    let last : 1 + (t.next - 1) ≡ t.next = omega arith in
    let own : weigh nodes (1 + (t.next - 1)) ≡ 1 =
    ap (weigh nodes) last ∙ ap (λ b. weigh_in b (fin.len (attributes_of nodes t.next))) (has_here t.nodes t.next fin.empty)
    ∙ ap (λ n. 1 + n) (ap fin.len (attributes_here t.nodes t.next fin.empty) ∙ fin.len-empty name_cmp Value) in
    let others = total_stays (weigh t.nodes) (weigh nodes) 1 (t.next - 1) (λ m p q.
    let e : eq_by_cmp nat_cmp m t.next ≡ false = ap is_eq (sym (nat_cmp_is m t.next Less (omega (arith, q, last)))) in
    weigh_same _ _ _ _ (has_away t.nodes t.next fin.empty m e) (ap fin.len (attributes_away t.nodes t.next fin.empty m e))) in
    let all : total (weigh nodes) 1 ((t.next + 1) - 1) ≡ total (weigh nodes) 1 (suc (t.next - 1)) = ap (total (weigh nodes) 1) (omega arith) in
    omega arith

drop_weight : (t : State) (n : ℕ) (k : ℕ) → total (weigh (fin.remove t.nodes n)) 1 k ≤ total (weigh t.nodes) 1 k + 1
drop_weight t n k = total_grows (weigh t.nodes) (weigh (fin.remove t.nodes n)) n
    (subst (λ b. weigh_in b (fin.len (attributes_of (fin.remove t.nodes n) n)) ≤ weigh t.nodes n + 1) (sym (dropped_here t.nodes n))
    (weigh_gone _ (fin.contains_key t.nodes n) (fin.len (attributes_of t.nodes n))))
    (λ m e. weigh_same _ _ _ _ (dropped_away t.nodes n m e) (ap fin.len (attributes_left t.nodes n m e))) 1 k

-- an operation adds at most one
made_weight : (t : State) (op : Op) → IsNumbered t → Found t op → fin.len (made t op).indices ≡ indices_after op (fin.len t.indices) → weight (made t op) ≤ weight t + 1
made_weight t New numbered found few = new_weight t numbered
made_weight t (Drop n) numbered found few = let w = drop_weight t n (t.next - 1) in omega (arith, few)
made_weight t (Set n name value) numbered found few =
    let w = changed t n (fin.insert (attributes_of t.nodes n) name value) found.0 (insert_few (attributes_of t.nodes n) name value) (t.next - 1) in
    omega (arith, few)
made_weight t (Unset n name) numbered found few =
    let w = changed t n (fin.remove (attributes_of t.nodes n) name) found.0 (remove_few (attributes_of t.nodes n) name) (t.next - 1) in
    omega (arith, few)
made_weight t (MkIndex name kind) numbered found few = omega (arith, few)
made_weight t (RmIndex name) numbered found few = omega (arith, few)

step_weight : (t u : State) (op : Op) (done : Done) → IsNumbered t → step t op ≡ Ok (u, done) → weight u ≤ weight t + 1
step_weight t u op done numbered e =
    let ok : IsOk (step t op) = ap is_ok e in
    let a = accepted t op ok in
    let P : State → Type 0 = λ x. weight x ≤ weight t + 1 in
    let few : fin.len (made t op).indices ≡ indices_after op (fin.len t.indices) = ap (λ (x : State). fin.len x.indices) (sym a.is) ∙ indices_is t op ok in
    subst P (sym a.is ∙ ap (reached t) e) (made_weight t op numbered a.found few)

step_numbered : (t u : State) (op : Op) (done : Done) → IsNumbered t → step t op ≡ Ok (u, done) → IsNumbered u
step_numbered t u op done numbered e = subst IsNumbered (ap (reached t) e) (reached_numbered t op numbered (ap is_ok e))

grown : (s t : State) (old dones : List Done) (ops : List Op) → IsNumbered t → fold advance (Ok (t, old)) ops ≡ Ok (s, dones) → weight s ≤ weight t + length ops
grown s t old dones [] numbered e = let P : State → Type 0 = λ x. weight x ≤ weight t + 0 in subst P (ap (λ r. reached t r) e) (omega arith)
grown s t old dones (op ∷ ops) numbered e =
    by (step t op) refl e (λ x is now. grown s x.0 (old ++ x.1 ∷ []) dones ops is now)
  where
    by : (r : Result (State × Done) Refusal) → step t op ≡ r → fold advance (result_map_both (λ answer. (answer.0, old ++ answer.1 ∷ [])) (λ f. f) r) ops ≡ Ok (s, dones) →
        ((x : State × Done) → IsNumbered x.0 → fold advance (Ok (x.0, old ++ x.1 ∷ [])) ops ≡ Ok (s, dones) → weight s ≤ weight x.0 + length ops) → weight s ≤ weight t + length (op ∷ ops)
    by (Err f) g h rest = absurd (not_both f (s, dones) (sym (refused_stays f ops) ∙ h))
    by (Ok x) g h rest =
        let more : weight s ≤ weight x.0 + length ops = rest x (step_numbered t x.0 op x.1 numbered g) h in
        let one : weight x.0 ≤ weight t + 1 = step_weight t x.0 op x.1 numbered g in
        omega arith

pub fewest : (s : State) (dones : List Done) (ops : List Op) → steps empty ops ≡ Ok (s, dones) → length (state_ops s) ≤ length ops
unfolding total
fewest s dones ops e =
    let most : weight s ≤ weight empty + length ops = grown s empty [] dones ops empty_numbered e in
    let none : fin.len empty.indices ≡ 0 = fin.len-empty name_cmp Index in
    let is = weight_is s in
    omega arith
