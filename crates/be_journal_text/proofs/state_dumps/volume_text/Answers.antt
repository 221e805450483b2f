use Rattle.std.proofs.Common.{◌≡◌, ◌<◌, ◌++◌, ◌∙◌, ℕ, List, [], All, length, sym, ap, subst}
use Rattle.std.proofs.lemmas.List.{append-nil}
use Rattle.std.proofs.lemmas.List.Elements.{All-nil}
use Rattle.std.specs.String.{string_bytes}
use Rattle.be_volume_state.specs.Places.{left}
use Rattle.be_volume.specs.Volume.{State}
use Rattle.be_volume.specs.declared.ops.Op.{Op}
use Rattle.be_journal_text.specs.Dump.{cut_lines}
use Rattle.be_journal_text.specs.History.{CanBeOp}
use Rattle.be_journal_text.proofs.state_dumps.volume_text.Goals as goal

pub lists-init : goal.lists-init
lists-init c =
    let volume = c.args.volume.now in
    record {
      whole = c.whole_volume-whole.ensures;
      text = ap (λ (l : List ℕ). l ++ cut_lines (left volume c.new-place.result)) c.new-text.ensures.bytes ∙ ap cut_lines (c.new-place.ensures volume);
      can = λ can. subst (All CanBeOp) (c.new-place.ensures volume) can;
    }

pub lists-smaller : goal.lists-smaller
lists-smaller c =
    subst (λ (v : State). length (left v c.push_next.new.place) < length (left v c.lists.place)) c.lists.invariant.whole
    (c.in_ok-push_next.ensures.fewer c.if-branch.true)

pub lists-preserved : goal.lists-preserved
lists-preserved c =
    let before = c.lists.place in
    let after = c.push_next.new.place in
    let i = c.lists.invariant in
    let next = c.in_ok-push_next.ensures in
    record {
      whole = next.whole ∙ i.whole;
      text = subst (λ (v : State). string_bytes c.push_next.new.text ++ cut_lines (left v after) ≡ string_bytes c.lists.text ++ cut_lines (left v before))
          i.whole next.text ∙ i.text;
      can = λ can. i.can (subst (λ (v : State). All CanBeOp (left v after) → All CanBeOp (left v before)) i.whole next.can can);
    }

pub returns-clause-text : goal.returns-clause-text
returns-clause-text c =
    let before = c.lists.place in
    let after = c.push_next.new.place in
    let text = string_bytes c.push_next.new.text in
    let i = c.lists.invariant in
    let next = c.in_ok-push_next.ensures in
    let none : left c.args.volume.now after ≡ [] = subst (λ (v : State). left v after ≡ []) i.whole (next.ends c.if-branch.false) in
    sym (append-nil text) ∙ ap (λ (ops : List Op). text ++ cut_lines ops) (sym none)
    ∙ subst (λ (v : State). text ++ cut_lines (left v after) ≡ string_bytes c.lists.text ++ cut_lines (left v before)) i.whole next.text ∙ i.text

pub returns-clause-can : goal.returns-clause-can
returns-clause-can c =
    let before = c.lists.place in
    let after = c.push_next.new.place in
    let i = c.lists.invariant in
    let next = c.in_ok-push_next.ensures in
    let none : left c.args.volume.now after ≡ [] = subst (λ (v : State). left v after ≡ []) i.whole (next.ends c.if-branch.false) in
    i.can (subst (λ (v : State). All CanBeOp (left v after) → All CanBeOp (left v before)) i.whole next.can (subst (All CanBeOp) (sym none) (All-nil CanBeOp)))
