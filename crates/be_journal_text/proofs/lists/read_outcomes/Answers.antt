use Rattle.std.proofs.Common.{◌≡◌, ◌<◌, ◌≤◌, List, length, refl, sym, ap, ◌∙◌, subst, arith}
use Rattle.std.proofs.lemmas.Bool.Decides.{nat_tests}
use Rattle.std.proofs.lemmas.List.{length-drop}
use Rattle.be_journal.specs.Text.{done_text}
use Rattle.be_volume.specs.declared.ops.Done.{Done}
use Rattle.be_entry_bytes.specs.Encoding.{CanBeDone}
use Rattle.be_journal_text.proofs.LineLemmas.{done_part}
use Rattle.be_journal_text.proofs.ReadLemmas.{IsLeft, all_left, done_long, joined_cut, less_left, none_left}
use Rattle.be_journal_text.proofs.lists.read_outcomes.Goals as goal

pub loop-rest-init : goal.loop-rest-init
loop-rest-init c = subst (λ (read : List Done). IsLeft CanBeDone done_text c.args.text.now read c.args.text.now) (sym c.new-dones.ensures.items)
    (all_left CanBeDone done_text c.args.text.now)

pub loop-rest-preserved : goal.loop-rest-preserved
loop-rest-preserved c =
    let some : 1 ≤ length c.loop-rest.rest.now = grind (arith, nat_tests, c.loop-rest-test.true, c.is_empty.ensures) in
    let rest = c.loop-rest.rest.now in
    let cut = joined_cut CanBeDone done_text rest c.split_around.result.0.now c.split_around.result.1.now (λ y h. done_part 59 refl refl y h)
    c.split_around.ensures.ends c.split_around.ensures.alone in
    less_left CanBeDone done_text c.args.text.now rest c.split_around.result.0.now c.skip-rest.result.now c.loop-rest.dones.items c.push.new.self.items
    c.read_done.result some c.loop-rest.invariant
    (λ y more can now. let parted = cut y more can now in (parted.0, c.skip-rest.ensures ∙ parted.1))
    (λ y h e. c.read_done.ensures y h e)
    c.in_ok-push.ensures.items

pub returns : goal.returns
returns c = λ xs are is. none_left CanBeDone done_text c.args.text.now c.loop-rest.rest.now c.loop-rest.dones.items done_long
    (grind (arith, nat_tests, c.loop-rest-test.false, c.is_empty.ensures)) c.loop-rest.invariant xs are is

pub loop-rest-smaller : goal.loop-rest-smaller
loop-rest-smaller c =
    let some : 1 ≤ length c.loop-rest.rest.now = grind (arith, nat_tests, c.loop-rest-test.true, c.is_empty.ensures) in
    let less : length c.skip-rest.result.now < length c.loop-rest.rest.now =
    omega (arith, ap length c.skip-rest.ensures, length-drop 1 c.split_around.result.1.now, c.split_around.ensures.shorter some) in less
