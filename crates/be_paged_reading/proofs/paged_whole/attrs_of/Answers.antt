use Rattle.std.proofs.Common.{◌≡◌, ◌⊎◌, ℕ, List, Some, None, Ok, inl, inr, sym, ◌∙◌, refl}
use Rattle.std.proofs.lemmas.Result.{IfOk-weaker}
use Rattle.std.specs.FinMap as fin
use Rattle.std.specs.Option.{option_map, option_map_or}
use Rattle.std.specs.declared.option.Option.{Option}
use Rattle.std.specs.declared.result.Result.{Result}
use Rattle.std.specs.declared.result.Result.TheVariants.{Err}
use Rattle.be_value.specs.declared.refusals.Refusal.{Refusal}
use Rattle.be_value.specs.declared.refusals.Refusal.TheVariants.{NoNode, OutOfMemory}
use Rattle.be_value.specs.declared.values.Value.{Value}
use Rattle.be_volume.specs.Maps.{Attributes}
use Rattle.be_paged_reading.proofs.paged_whole.attrs_of.Goals as goal

abbrev answer : Option Attributes → Result (List (List ℕ × Value)) Refusal
answer found = option_map_or (λ (a : Attributes). Ok (fin.entries a)) found (Err NoNode)

listed : (found : Option Attributes) (list : List (List ℕ × Value)) → answer found ≡ Ok list → Some list ≡ option_map fin.entries found
listed None list e = cc
listed (Some a) list e = cc

unlisted : (found : Option Attributes) (refusal : Refusal) → refusal ≡ NoNode → (refusal ≡ OutOfMemory) ⊎ (answer found ≡ Err refusal) → None ≡ option_map fin.entries found
unlisted None refusal is reported = refl
unlisted (Some a) refusal is (inl wanted) = let never : NoNode ≡ OutOfMemory = sym is ∙ wanted in cc
unlisted (Some a) refusal is (inr same) = cc

pub returns-in-Ok-clause-attrs : goal.returns-in-Ok-clause-attrs
returns-in-Ok-clause-attrs g c = λ volume version. listed (fin.get volume.nodes c.args.node) c.in-Ok.list.items (c.in-Ok.ensures.answer volume version)

pub returns-in-Err-clause-attrs : goal.returns-in-Err-clause-attrs
returns-in-Err-clause-attrs g c = λ volume version.
    IfOk-weaker c.none_for.result (λ list. (option_map (λ l. l.items) list ≡ None) × (c.in-Err.refusal ≡ NoNode))
    (λ list. option_map (λ l. l.items) list ≡ option_map fin.entries (fin.get volume.nodes c.args.node))
    (λ list h. h.0 ∙ unlisted (fin.get volume.nodes c.args.node) c.in-Err.refusal h.1 (c.in-Err.ensures.answer volume version)) c.none_for.ensures
