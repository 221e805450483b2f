use Rattle.std.proofs.Common.{◌≡◌, ◌<◌, ◌++◌, ◌∙◌, ℕ, List, [], All, length, refl, sym, ap, subst}
use Rattle.std.proofs.lemmas.List.{append-nil}
use Rattle.std.proofs.lemmas.List.Elements.{All-nil}
use Rattle.std.specs.String.{string_bytes}
use Rattle.be_volume_state.specs.Places.{left}
use Rattle.be_store.specs.Passes.{volume_pinned}
use Rattle.be_volume.specs.Volume.{State}
use Rattle.be_volume.specs.declared.ops.Op.{Op}
use Rattle.be_journal_text.specs.Dump.{cut_lines}
use Rattle.be_journal_text.specs.History.{CanBeOp}
use Rattle.be_script_runner.proofs.StateTextLemmas.{read_none, read_twice, same_pinned, stays_pinned}
use Rattle.be_script_runner.proofs.states.pinned_text.Goals as goal

pub lists-init : goal.lists-init
lists-init c =
    let volume = volume_pinned c.args.pass.now.knows in
    record {
      pass = c.requires.pass;
      read = read_none c.args.pass.now.knows;
      pinned = c.requires.pinned;
      text = ap (λ (l : List ℕ). l ++ cut_lines (left volume c.new-place.result)) c.new-text.ensures.bytes ∙ ap cut_lines (c.new-place.ensures volume);
      can = λ can. subst (All CanBeOp) (c.new-place.ensures volume) can;
    }

pub lists-smaller : goal.lists-smaller
lists-smaller c =
    let before = c.lists.place in
    let after = c.push_next.new.place in
    subst (λ (v : State). length (left v after) < length (left v before)) (same_pinned c.args.pass.now.knows c.lists.pass.knows c.lists.invariant.read)
    (c.in_ok-push_next.ensures.fewer c.if-branch.true)

pub lists-preserved : goal.lists-preserved
lists-preserved c =
    let before = c.lists.place in
    let after = c.push_next.new.place in
    let i = c.lists.invariant in
    let next = c.in_ok-push_next.ensures in
    let same = same_pinned c.args.pass.now.knows c.lists.pass.knows i.read in
    record {
      pass = next.pass.0;
      read = read_twice c.args.pass.now.knows c.lists.pass.knows c.push_next.new.pass.knows i.read next.pass.1;
      pinned = stays_pinned c.lists.pass.knows c.push_next.new.pass.knows next.pass.1 i.pinned;
      text = subst (λ (v : State). string_bytes c.push_next.new.text ++ cut_lines (left v after) ≡ string_bytes c.lists.text ++ cut_lines (left v before))
          same next.text ∙ i.text;
      can = λ can. i.can (subst (λ (v : State). All CanBeOp (left v after) → All CanBeOp (left v before)) same next.can can);
    }

pub returns-clause-pass : goal.returns-clause-pass
returns-clause-pass c =
    let next = c.in_ok-push_next.ensures in
    (next.pass.0, read_twice c.args.pass.now.knows c.lists.pass.knows c.push_next.new.pass.knows c.lists.invariant.read next.pass.1)

pub returns-in_err-push_next-clause-pass : goal.returns-in_err-push_next-clause-pass
returns-in_err-push_next-clause-pass c =
    let next = c.in_err-push_next.ensures in
    (next.pass.0, read_twice c.args.pass.now.knows c.lists.pass.knows c.push_next.new.pass.knows c.lists.invariant.read next.pass.1)

pub returns-clause-text : goal.returns-clause-text
returns-clause-text c =
    let before = c.lists.place in
    let after = c.push_next.new.place in
    let text = string_bytes c.push_next.new.text in
    let i = c.lists.invariant in
    let next = c.in_ok-push_next.ensures in
    let same = same_pinned c.args.pass.now.knows c.lists.pass.knows i.read in
    let volume = volume_pinned c.args.pass.now.knows in
    let none : left volume after ≡ [] = subst (λ (v : State). left v after ≡ []) same (next.ends c.if-branch.false) in
    sym (append-nil text) ∙ ap (λ (ops : List Op). text ++ cut_lines ops) (sym none)
    ∙ subst (λ (v : State). text ++ cut_lines (left v after) ≡ string_bytes c.lists.text ++ cut_lines (left v before)) same next.text ∙ i.text

pub returns-clause-can : goal.returns-clause-can
returns-clause-can c =
    let before = c.lists.place in
    let after = c.push_next.new.place in
    let i = c.lists.invariant in
    let next = c.in_ok-push_next.ensures in
    let same = same_pinned c.args.pass.now.knows c.lists.pass.knows i.read in
    let volume = volume_pinned c.args.pass.now.knows in
    let none : left volume after ≡ [] = subst (λ (v : State). left v after ≡ []) same (next.ends c.if-branch.false) in
    i.can (subst (λ (v : State). All CanBeOp (left v after) → All CanBeOp (left v before)) same next.can (subst (All CanBeOp) (sym none) (All-nil CanBeOp)))
