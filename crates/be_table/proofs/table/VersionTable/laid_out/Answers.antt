use Rattle.std.proofs.Common.{◌≡◌, ◌+◌, ◌≤◌, ◌^◌, length, ap, sym, subst, ◌∙◌, arith, IfOk}
use Rattle.std.specs.Prelude.{slice_index}
use Rattle.std.proofs.lemmas.List.{get_or-replicate}
use Rattle.be_volume.specs.Volume.{State}
use Rattle.be_volume_state.specs.Rebuilding.{IsNumbered}
use Rattle.be_volume_state.proofs.Numbering.{empty_numbered}
use Rattle.be_table.specs.Reading.{word_of_page}
use Rattle.be_table.specs.Setting.{begins_with, pages_below}
use Rattle.be_table.specs.Versions.{EncodesVolume}
use Rattle.be_table.specs.Works.{AreNew}
use Rattle.be_table.proofs.Versions.{first_encoded}
use Rattle.be_table.proofs.table.VersionTable.laid_out.Goals as goal

pub open_with-requires-clause-used : goal.open_with-requires-clause-used
open_with-requires-clause-used c = let some = c.requires.limits.some_pages in omega (arith, some)

pub open_with-requires-clause-numbers : goal.open_with-requires-clause-numbers
open_with-requires-clause-numbers c = subst (λ (v : State). IsNumbered v × (v.next ≤ 2 ^ 63)) (sym c.empty_volume-volume.ensures) (empty_numbered, omega arith)

pub open_with-requires-clause-size : goal.open_with-requires-clause-size
open_with-requires-clause-size c =
    let v = ap length c.as_slice.ensures.value in let l = c.in-Ok.ensures.len in let o = c.in-Ok.words.ok.0 in let z = c.lay_first.ensures in omega (arith, z.0)

pub open_with-requires-clause-blank : goal.open_with-requires-clause-blank
open_with-requires-clause-blank c = λ k lt.
    ap (λ ws. slice_index ws k) c.as_slice.ensures.value ∙ c.lay_first.ensures.1 k lt ∙ ap (λ ws. slice_index ws k) (c.in-Ok.ensures.items_if_clones_equal (λ a b. b)) ∙ get_or-replicate _ k 0 0 (omega arith)

pub open_with-requires-clause-encoded : goal.open_with-requires-clause-encoded
open_with-requires-clause-encoded c =
    subst (λ (v : State). EncodesVolume (pages_below 1) (word_of_page c.as_slice.result.now) 0 v) (sym c.empty_volume-volume.ensures)
    (first_encoded c.args.first.now c.as_slice.result.now (omega arith) (λ i lt. ap (λ ws. slice_index ws (528 + i)) c.as_slice.ensures.value ∙ c.lay_first.ensures.2 i lt) c.requires.first)

pub returns-clause-ok : goal.returns-clause-ok
returns-clause-ok c =
    subst (λ (v : State). IfOk c.open_with.result (λ r. (r.0.limits ≡ begins_with c.args.limits 1 v) × (length r.1.items ≡ c.args.limits.passes) × AreNew r.0 0 r.1.items)) c.empty_volume-volume.ensures c.open_with.ensures.ok
