use Rattle.std.proofs.Common.{◌≡◌, List, ◌++◌, length, set, take, drop, ap, ◌∙◌}
use Rattle.std.specs.List.{refill}
use Rattle.std.proofs.lemmas.List.{length-set}
use Rattle.be_tree.specs.declared.slot.Slot.{Slot}
use Rattle.be_tree.proofs.Nodes.SlotLists.{refilled, replaced}
use Rattle.be_tree.proofs.settling.replace_at.Goals as goal

pub returns-in-Some : goal.returns-in-Some
returns-in-Some c =
    let slots = c.args.slots.now.items in
    let lent = c.deref_mut.result.now in
    let at = c.args.at in
    let last = c.in-Some.last in
    let is : refill (length slots) slots (set lent at last) ≡ set slots at last =
    refilled slots (set lent at last) (length-set lent at last ∙ ap length c.deref_mut.ensures.value) ∙ ap (λ xs. set xs at last) c.deref_mut.ensures.value in
    c.insert_all.ensures
    ∙ ap (λ (xs : List Slot). take at xs ++ (c.pop.new.self.items ++ drop at xs)) is
    ∙ replaced slots c.pop.new.self.items c.args.more.items at last c.requires.in_range c.in-Some.ensures.items
