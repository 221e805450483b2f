-- The operations of an entry that created nodes are encoded with these nodes.
use Rattle.std.proofs.Common.{◌≡◌, ℕ, inl, inr, List, [], ◌∷◌, ◌++◌, length, get_or, Option, Some, None, sym, ap, ◌∙◌, subst, arith, length-append}
use Rattle.std.specs.Borrow.{Bor}
use Rattle.std.specs.Prelude.{IfSome, slice_get}
use Rattle.std.specs.Slice.{IsItemAt}
use Rattle.std.proofs.Math.Seq.{get_or-append_seam}
use Rattle.std.proofs.lemmas.Bool.{cases_lt, false≢true}
use Rattle.std.proofs.lemmas.List.{get_or_append_left}
use Rattle.std.proofs.lemmas.Option.{get_or_from_slice_get, slice_get-get_or, slice_get_within}
use Rattle.be_volume.specs.declared.ops.Done.{Done}
use Rattle.be_volume.specs.declared.ops.Op.{Op}
use Rattle.be_session.specs.Operations.{ReportNodes, ReportsNode}
use Rattle.be_session.specs.declared.lists.Operation.{Operation}

value_in : {A : Type 0} → A → Option A → A
value_in d None = d
value_in d (Some x) = x

-- One more operation.
pub nodes_more : (os more : List Operation) (o : Operation) (ops : List Op) (dones : List Done) (next : Op) → ReportNodes os ops dones → more ≡ os ++ o ∷ []
    → slice_get ops (length os) ≡ Some next → ((done : Done) → slice_get dones (length os) ≡ Some done → ReportsNode o next done) → ReportNodes more ops dones
unfolding value_in
nodes_more os more o ops dones next were is op reported i p q done at op_at done_at =
    let here : slice_get (os ++ o ∷ []) i ≡ Some p = ap (λ l. slice_get l i) (sym is) ∙ at in
    let inside = slice_get_within (os ++ o ∷ []) i p here in
    let parts = length-append os (o ∷ []) in
    elim (cases_lt i (length os)) [
      | inl early ↦
          (let old : slice_get os i ≡ Some p = slice_get-get_or os i p early ∙ ap Some (sym (get_or_append_left os (o ∷ []) p i early) ∙ get_or_from_slice_get (os ++ o ∷ []) i p p here) in
          were i p q done old op_at done_at)
      | inr late ↦
          (let end : i ≡ length os = omega (arith, inside, parts, late) in
          let same : o ≡ p = sym (get_or-append_seam os o [] p) ∙ (ap (λ n. get_or (os ++ o ∷ []) n p) (sym end) ∙ get_or_from_slice_get (os ++ o ∷ []) i p p here) in
          let done_here : slice_get dones (length os) ≡ Some done = ap (slice_get dones) (sym end) ∙ done_at in
          let op_is : next ≡ q = ap (value_in next) (sym op ∙ (ap (slice_get ops) (sym end) ∙ op_at)) in
          subst (λ (x : Operation). ReportsNode x q done) same (subst (λ (y : Op). ReportsNode o y done) op_is (reported done done_here)))
    ]

-- What was looked up in the outcomes.
pub reported_by_look : (r : Option (Bor Done)) (dones : List Done) (k : ℕ) (o : Operation) (op : Op) → IsItemAt dones k r → IfSome r (λ d. ReportsNode o op d.now)
    → (done : Done) → slice_get dones k ≡ Some done → ReportsNode o op done
reported_by_look (Some d) dones k o op is reported done at = subst (λ (x : Done). ReportsNode o op x) (is.1 ∙ get_or_from_slice_get dones k done d.now at) reported
reported_by_look None dones k o op is reported done at = absurd (false≢true (is.2 (slice_get_within dones k done at)))
