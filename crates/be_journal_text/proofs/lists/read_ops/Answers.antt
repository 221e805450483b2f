use Rattle.std.proofs.Common.{◌≡◌, ◌<◌, ◌≤◌, List, length, Some, refl, sym, ap, ◌∙◌, subst, arith}
use Rattle.std.proofs.lemmas.Bool.Decides.{nat_tests}
use Rattle.std.proofs.lemmas.List.{length-drop}
use Rattle.be_journal.specs.Text.{op_text}
use Rattle.be_volume.specs.declared.ops.Op.{Op}
use Rattle.be_journal_text.specs.History.{CanBeOp}
use Rattle.be_journal_text.specs.Parts.{op_in, op_of}
use Rattle.be_journal_text.proofs.LineLemmas.{op_part}
use Rattle.be_journal_text.proofs.ReadLemmas.{IsLeft, all_left, first_left, inside, joined_cut, less_left, never_some, none_left, op_long}
use Rattle.be_journal_text.proofs.lists.read_ops.Goals as goal

pub loop-rest-init : goal.loop-rest-init
loop-rest-init c = subst (λ (read : List Op). IsLeft CanBeOp op_text c.args.text.now read c.args.text.now) (sym c.new-ops.ensures.items)
    (all_left CanBeOp op_text c.args.text.now)

pub loop-rest-preserved : goal.loop-rest-preserved
loop-rest-preserved c =
    let some : 1 ≤ length c.loop-rest.rest.now = grind (arith, nat_tests, c.loop-rest-test.true, c.is_empty.ensures) in
    let rest = c.loop-rest.rest.now in
    let cut = joined_cut CanBeOp op_text rest c.split_around.result.0.now c.split_around.result.1.now (λ y h. op_part 59 refl refl y h)
    c.split_around.ensures.ends c.split_around.ensures.alone in
    less_left CanBeOp op_text c.args.text.now rest c.split_around.result.0.now c.skip-rest.result.now c.loop-rest.ops.items c.push.new.self.items c.in-Some.op
    some c.loop-rest.invariant
    (λ y more can now. let parted = cut y more can now in (parted.0, c.skip-rest.ensures ∙ parted.1))
    (λ y h e. inside c.in-Some.op y (sym c.in-Some.is ∙ (c.in_ok-op.ensures ∙ (ap op_in e ∙ ap op_of (c.printed_op_asks_for_it.ensures y h)))))
    c.in_ok-push.ensures.items

pub returns-in_default : goal.returns-in_default
returns-in_default c = λ ops are is.
    let some : 1 ≤ length c.loop-rest.rest.now = grind (arith, nat_tests, c.loop-rest-test.true, c.is_empty.ensures) in
    let rest = c.loop-rest.rest.now in
    let cut = joined_cut CanBeOp op_text rest c.split_around.result.0.now c.split_around.result.1.now (λ y h. op_part 59 refl refl y h)
    c.split_around.ensures.ends c.split_around.ensures.alone in
    let first = first_left CanBeOp op_text c.args.text.now rest c.split_around.result.0.now _ c.loop-rest.ops.items some c.loop-rest.invariant cut ops are is in
    let read : op_in c.split_around.result.0.now ≡ Some first.0 = ap op_in first.2 ∙ ap op_of (c.printed_op_asks_for_it.ensures first.0 first.1) in
    never_some first.0 (sym c.in_default.is ∙ (c.in_ok-op.ensures ∙ read))

pub returns : goal.returns
returns c = λ xs are is. ap Some (none_left CanBeOp op_text c.args.text.now c.loop-rest.rest.now c.loop-rest.ops.items op_long
    (grind (arith, nat_tests, c.loop-rest-test.false, c.is_empty.ensures)) c.loop-rest.invariant xs are is)

pub loop-rest-smaller : goal.loop-rest-smaller
loop-rest-smaller c =
    let some : 1 ≤ length c.loop-rest.rest.now = grind (arith, nat_tests, c.loop-rest-test.true, c.is_empty.ensures) in
    let less : length c.skip-rest.result.now < length c.loop-rest.rest.now =
    omega (arith, ap length c.skip-rest.ensures, length-drop 1 c.split_around.result.1.now, c.split_around.ensures.shorter some) in less
