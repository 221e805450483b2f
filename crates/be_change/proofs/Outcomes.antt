-- What accepted operations return, and the number of the next node after them.
use Rattle.std.proofs.Common.{◌≡◌, ℕ, ◌+◌, Bool, true, false, not, ◌&&◌, if◌then◌else◌, nat_le, List, [], ◌∷◌, ◌++◌, refl, sym, ap, ◌∙◌, IsOk, IfOk, is_ok, arith, fold, count_by, append_assoc}
use Rattle.std.proofs.lemmas.Grind.{common_steps}
use Rattle.std.specs.declared.result.Result.{Result}
use Rattle.std.specs.declared.result.Result.TheVariants.{Ok, Err}
use Rattle.std.specs.Result.{result_map_both}
use Rattle.std.specs.FinMap as map
use Rattle.be_value.specs.Value.{is_indexable}
use Rattle.be_value.specs.declared.refusals.Refusal.{Refusal}
use Rattle.be_value.specs.declared.refusals.Refusal.TheVariants.{NoNode, NoAttr, NoSuchIndex, TooManyAttrs, IndexExists, TooManyIndices, NotIndexable}
use Rattle.be_volume.specs.Ahead.{next_after, reached, state_after}
use Rattle.be_volume.specs.Maps.{attributes_of}
use Rattle.be_volume.specs.Volume.{State, step, steps, advance}
use Rattle.be_volume.specs.declared.ops.Done.{Done}
use Rattle.be_volume.specs.declared.ops.Done.TheVariants.{Node}
use Rattle.be_volume.specs.declared.ops.Op.{Op}
use Rattle.be_volume.specs.declared.ops.Op.TheVariants.{New, Drop, Set, Unset, MkIndex, RmIndex}
use Rattle.be_volume.proofs.StepLemmas.{made, not_both, refused_stays}
use Rattle.be_change.specs.Changing.{After, Changing, Reads, outcome, outcomes, with_op}
use Rattle.be_change.specs.Left.{is_new}

-- A test that didn't refuse.
passed : {A : Type 0} (b : Bool) (e : Refusal) (r : Result A Refusal) → IsOk (if b then Err e else r) → (if b then Err e else r) ≡ r
passed true e r h = cc
passed false e r h = refl

-- An accepted operation returns its outcome.
stepped : (s : State) (op : Op) → IsOk (step s op) → step s op ≡ Ok (made s op, outcome op s.next)
stepped s New h = refl
stepped s (Drop node) h = passed (not (map.contains_key s.nodes node)) NoNode _ h
stepped s (Set node name value) h =
    let p = passed (not (map.contains_key s.nodes node)) NoNode _ h in
    p ∙ passed (not (map.contains_key (attributes_of s.nodes node) name) && nat_le 64 (map.len (attributes_of s.nodes node))) TooManyAttrs _ (sym (ap is_ok p) ∙ h)
stepped s (Unset node name) h =
    let p = passed (not (map.contains_key s.nodes node)) NoNode _ h in
    p ∙ passed (not (map.contains_key (attributes_of s.nodes node) name)) NoAttr _ (sym (ap is_ok p) ∙ h)
stepped s (MkIndex name kind) h =
    let p = passed (map.contains_key s.indices name) IndexExists _ h in
    let q = passed (nat_le 32 (map.len s.indices)) TooManyIndices _ (sym (ap is_ok p) ∙ h) in
    p ∙ q ∙ passed (not (is_indexable kind)) NotIndexable _ (sym (ap is_ok q) ∙ sym (ap is_ok p) ∙ h)
stepped s (RmIndex name) h = passed (not (map.contains_key s.indices name)) NoSuchIndex _ h

made_next : (s : State) (op : Op) → (made s op).next ≡ next_after op s.next
made_next s New = refl
made_next s (Drop node) = refl
made_next s (Set node name value) = refl
made_next s (Unset node name) = refl
made_next s (MkIndex name kind) = refl
made_next s (RmIndex name) = refl

news_first : (op : Op) (next : ℕ) (ops : List Op) → next_after op next + count_by is_new ops ≡ next + count_by is_new (op ∷ ops)
news_first New next ops = grind (arith, common_steps)
news_first (Drop node) next ops = refl
news_first (Set node name value) next ops = refl
news_first (Unset node name) next ops = refl
news_first (MkIndex name kind) next ops = refl
news_first (RmIndex name) next ops = refl

or_in : {A : Type 0} → A → Result A Refusal → A
or_in x (Ok y) = y
or_in x (Err e) = x

outcomes_in : Result (State × List Done) Refusal → List Done
outcomes_in (Ok x) = x.1
outcomes_in (Err e) = []

record Returned (s t : State) (old dones : List Done) (ops : List Op) : Type 0 where
  pub next : t.next ≡ s.next + count_by is_new ops
  pub each : dones ≡ old ++ outcomes s.next ops

returned : (s t : State) (old dones : List Done) (ops : List Op) → fold advance (Ok (s, old)) ops ≡ Ok (t, dones) → Returned s t old dones ops
unfolding outcomes_in or_in
returned s t old dones [] e = record {
  next = let same : s.next ≡ t.next = ap (λ r. (reached s r).next) e in omega arith;
  each = ap outcomes_in (sym e) ∙ sym (append_nil old);
}
  where
    append_nil : (xs : List Done) → xs ++ [] ≡ xs
    append_nil [] = refl
    append_nil (x ∷ xs) = ap (λ l. x ∷ l) (append_nil xs)
returned s t old dones (op ∷ ops) e = by (step s op) refl e (λ x. returned x.0 t (old ++ x.1 ∷ []) dones ops)
  where
    by : (r : Result (State × Done) Refusal) → step s op ≡ r → fold advance (result_map_both (λ answer. (answer.0, old ++ answer.1 ∷ [])) (λ f. f) r) ops ≡ Ok (t, dones) →
        ((x : State × Done) → fold advance (Ok (x.0, old ++ x.1 ∷ [])) ops ≡ Ok (t, dones) → Returned x.0 t (old ++ x.1 ∷ []) dones ops) → Returned s t old dones (op ∷ ops)
    by (Err f) g h rest = absurd (not_both f (t, dones) (sym (refused_stays f ops) ∙ h))
    by (Ok x) g h rest =
        let is : x ≡ (made s op, outcome op s.next) = ap (or_in x) (sym g ∙ stepped s op (ap is_ok g)) in
        let next : x.0.next ≡ next_after op s.next = ap (λ (y : State × Done). y.0.next) is ∙ made_next s op in
        let done : x.1 ≡ outcome op s.next = ap (λ (y : State × Done). y.1) is in
        let more = rest x h in record {
          next = more.next ∙ ap (λ n. n + count_by is_new ops) next ∙ news_first op s.next ops;
          each = more.each ∙ append_assoc old (x.1 ∷ []) (outcomes x.0.next ops)
              ∙ ap (λ d. old ++ d ∷ outcomes x.0.next ops) done ∙ ap (λ n. old ++ outcome op s.next ∷ outcomes n ops) next;
        }

pub outcomes_are : (s t : State) (ops : List Op) (dones : List Done) → steps s ops ≡ Ok (t, dones) → dones ≡ outcomes s.next ops
outcomes_are s t ops dones e = (returned s t [] dones ops e).each

pub next_front : (s : State) (ops : List Op) → IsOk (steps s ops) → (state_after s ops).next ≡ s.next + count_by is_new ops
next_front s ops h = by (steps s ops) refl h
  where
    by : (r : Result (State × List Done) Refusal) → steps s ops ≡ r → IsOk r → (reached s r).next ≡ s.next + count_by is_new ops
    by (Ok x) e h = (returned s x.0 [] x.1 ops e).next
    by (Err f) e h = cc

-- The outcomes of a list end with the outcomes of its last part.
pub outcomes_append : (next : ℕ) (ops more : List Op) → outcomes next (ops ++ more) ≡ outcomes next ops ++ outcomes (next + count_by is_new ops) more
outcomes_append next [] more = ap (λ n. outcomes n more) (omega arith)
outcomes_append next (op ∷ ops) more = ap (λ l. outcome op next ∷ l)
    (outcomes_append (next_after op next) ops more
    ∙ ap (λ n. outcomes (next_after op next) ops ++ outcomes n more) (news_first op next ops))

-- What holds for the state that accepted operations reach.
pub after_ok : (base : State) (ops : List Op) (P : State → Type 0) → (IsOk (steps base ops) → P (state_after base ops)) → IfOk (steps base ops) (λ r. P r.0)
after_ok base ops P h = by (steps base ops) h
  where
    by : (r : Result (State × List Done) Refusal) → (IsOk r → P (reached base r)) → IfOk r (λ x. P x.0)
    by (Ok x) h = h refl
    by (Err e) h = tt

pub next_given : (c : Changing) (first made : ℕ) → first ≡ c.first → made ≡ count_by is_new c.ops → (base : State) → Reads c base → After c base (λ s. first + made ≡ s.next)
next_given c first made e f base reads = after_ok base c.ops (λ s. first + made ≡ s.next) (λ ok.
    ap (λ n. n + made) (e ∙ reads.first) ∙ ap (λ n. base.next + n) f ∙ sym (next_front base c.ops ok))

pub given : (c d : Changing) (first made : ℕ) → first ≡ c.first → made ≡ count_by is_new c.ops → d ≡ with_op c New → outcomes d.first d.ops ≡ outcomes c.first c.ops ++ Node (first + made) ∷ []
given c d first made e f h = ap (λ (x : Changing). outcomes x.first x.ops) h ∙ outcomes_append c.first c.ops (New ∷ [])
    ∙ ap (λ n. outcomes c.first c.ops ++ Node n ∷ []) (sym (ap (λ n. n + made) e ∙ ap (λ n. c.first + n) f))
