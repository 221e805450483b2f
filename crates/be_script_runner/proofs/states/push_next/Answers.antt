use Rattle.std.proofs.Common.{◌≡◌, ◌<◌, ◌≤◌, ◌++◌, ◌∙◌, List, [], length, sym, ap, subst, All}
use Rattle.std.specs.String.{string_bytes}
use Rattle.be_volume_state.specs.Places.{left}
use Rattle.be_store.specs.Passes.{volume_pinned}
use Rattle.be_volume.specs.declared.ops.Op.{Op}
use Rattle.be_journal_text.specs.Dump.{cut_lines, write_lines}
use Rattle.be_journal_text.specs.History.{CanBeOp}
use Rattle.be_journal_text.proofs.CutLemmas.{can_step, fewer_left, lines_step}
use Rattle.be_script_runner.proofs.states.push_next.Goals as goal

pub returns-in_default-list-clause-text : goal.returns-in_default-list-clause-text
returns-in_default-list-clause-text c =
    let w = volume_pinned c.args.pass.now.knows in
    let is : left w c.args.place.now ≡ left w c.state.new.place = rw c.in_default-list.is at c.in-Ok.ensures.list in
    ap (λ (ops : List Op). string_bytes c.args.text.now ++ cut_lines ops) (sym is)

pub returns-clause-text : goal.returns-clause-text
returns-clause-text c =
    let w = volume_pinned c.args.pass.now.knows in
    let ops = c.in-Some.ops.items in
    let rest = left w c.state.new.place in
    let is : left w c.args.place.now ≡ ops ++ rest = rw c.in-Some.is at c.in-Ok.ensures.list in
    let sizes : (1 ≤ length ops) × (length ops ≤ 64) = rw c.in-Some.is at c.in-Ok.ensures.length in
    let full : length ops < 64 → rest ≡ [] = rw c.in-Some.is at c.in-Ok.ensures.full in
    let pushed : string_bytes c.push_write.new.text ≡ string_bytes c.args.text.now ++ write_lines ops =
    c.in_ok-push_write.ensures.text ∙ ap (λ (l : List Op). string_bytes c.args.text.now ++ write_lines l) c.as_slice.ensures.value in
    lines_step ops rest sizes.1 full (left w c.args.place.now) (string_bytes c.args.text.now) (string_bytes c.push_write.new.text) is sizes.0 pushed

pub returns-clause-can : goal.returns-clause-can
returns-clause-can c = λ beyond.
    let w = volume_pinned c.args.pass.now.knows in
    let ops = c.in-Some.ops.items in
    let rest = left w c.state.new.place in
    let is : left w c.args.place.now ≡ ops ++ rest = rw c.in-Some.is at c.in-Ok.ensures.list in
    let can : All CanBeOp ops = subst (All CanBeOp) c.as_slice.ensures.value c.in_ok-push_write.ensures.can in
    can_step (left w c.args.place.now) ops rest is can beyond

pub returns-clause-fewer : goal.returns-clause-fewer
returns-clause-fewer c = λ more.
    let w = volume_pinned c.args.pass.now.knows in
    let ops = c.in-Some.ops.items in
    let rest = left w c.state.new.place in
    let is : left w c.args.place.now ≡ ops ++ rest = rw c.in-Some.is at c.in-Ok.ensures.list in
    let sizes : (1 ≤ length ops) × (length ops ≤ 64) = rw c.in-Some.is at c.in-Ok.ensures.length in
    fewer_left (left w c.args.place.now) ops rest is sizes.0
