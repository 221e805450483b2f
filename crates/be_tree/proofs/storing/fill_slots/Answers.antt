use Rattle.std.proofs.Common.{ℕ, ◌++◌, ◌∷◌, [], ◌∙◌, List, ap, sym, arith}
use Rattle.std.proofs.lemmas.List.FromFn.{map-range_with_len_more}
use Rattle.be_tree.specs.declared.slot.Slot.{Slot}
use Rattle.be_tree.specs.declared.slot.Slot.TheVariants.{At}
use Rattle.be_tree_reading.specs.Page.{item_place}
use Rattle.be_tree.proofs.storing.fill_slots.Goals as goal

pub loop-j-preserved : goal.loop-j-preserved
loop-j-preserved g c =
    let slot : ℕ → Slot = λ k. At (item_place k) c.args.page in
    record {
      slots = c.push.ensures.items
          ∙ ap (λ (xs : List Slot). xs ++ slot c.loop-j.j ∷ []) c.loop-j.invariant.slots
          ∙ sym (map-range_with_len_more slot 0 c.loop-j.j c.loop-j.j (omega arith));
      len = omega (arith, c.push.ensures.len, c.loop-j.invariant.len);
      unchanged = c.loop-j.invariant.unchanged;
    }
