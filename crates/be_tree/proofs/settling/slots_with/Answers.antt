use Rattle.std.proofs.Common.{◌≡◌, ◌∙◌, ℕ, suc, ◌+◌, ◌-◌, ◌<◌, ◌≤◌, List, ◌++◌, length, take, drop, sym, ap, arith, length-append, length-drop}
use Rattle.std.proofs.Math.Seq.{drop-append_seam, take-append_seam}
use Rattle.std.proofs.lemmas.List.{drop-drop, length-take-le}
use Rattle.be_tree.specs.declared.slot.Slot.{Slot}
use Rattle.be_tree.proofs.settling.slots_with.Goals as goal

-- one element of a cut is removed, and then others replace what is left of it
both_steps : {A : Type 0} (xs more : List A) (at gone : ℕ) → at + gone ≤ length xs → 0 < gone
    → take at (take at xs ++ drop (at + gone - 1) xs) ++ (more ++ drop (suc at) (take at xs ++ drop (at + gone - 1) xs)) ≡ take at xs ++ (more ++ drop (at + gone) xs)
both_steps xs more at gone in_range some =
    let front = take at xs in
    let back = drop (at + gone - 1) xs in
    let len : length front ≡ at = length-take-le at xs (omega (arith, in_range)) in
    let one : take at (front ++ back) ≡ front = ap (λ n. take n (front ++ back)) (sym len) ∙ take-append_seam front back in
    let e : suc at ≡ at + 1 = omega arith in
    let f : at + gone - 1 + 1 ≡ at + gone = omega (arith, some) in
    let two : drop (suc at) (front ++ back) ≡ drop (at + gone) xs =
    ap (λ n. drop n (front ++ back)) e ∙ sym (drop-drop 1 at (front ++ back)) ∙ ap (λ n. drop 1 (drop n (front ++ back))) (sym len) ∙ ap (drop 1) (drop-append_seam front back) ∙ drop-drop 1 (at + gone - 1) xs ∙ ap (λ n. drop n xs) f in
    ap (λ ys. ys ++ (more ++ drop (suc at) (front ++ back))) one ∙ ap (λ ys. front ++ (more ++ ys)) two

pub replace_at-requires-clause-in_range : goal.replace_at-requires-clause-in_range
replace_at-requires-clause-in_range g c =
    let xs = c.fill_slots.new.slots.items in
    let cut = c.args.settled.cut in
    omega (
      arith,
      ap length c.leave_one.ensures,
      length-append (take cut.at xs) (drop (cut.at + cut.gone - 1) xs),
      length-take-le cut.at xs (omega (arith, c.requires.in_range, c.fill_slots.ensures.len)),
      length-drop (cut.at + cut.gone - 1) xs,
      c.requires.in_range,
      c.requires.gone,
      c.fill_slots.ensures.len,
    )

pub returns-clause-slots : goal.returns-clause-slots
returns-clause-slots g c =
    let xs = c.fill_slots.new.slots.items in
    let cut = c.args.settled.cut in
    let more = c.args.settled.branches.items in
    c.replace_at.ensures
    ∙ ap (λ (ys : List Slot). take cut.at ys ++ (more ++ drop (suc cut.at) ys)) c.leave_one.ensures
    ∙ both_steps xs more cut.at cut.gone (omega (arith, c.requires.in_range, c.fill_slots.ensures.len)) c.requires.gone.0
    ∙ ap (λ (ys : List Slot). take cut.at ys ++ (more ++ drop (cut.at + cut.gone) ys)) c.fill_slots.ensures.slots
