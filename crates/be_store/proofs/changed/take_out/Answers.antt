use Rattle.std.proofs.Common.{◌&&◌, not, sym, ap, take, ◌∙◌, ◌==◌, arith, get_or}
use Rattle.std.proofs.lemmas.List.{take_all}
use Rattle.be_store.specs.Live.{is_among}
use Rattle.be_store.proofs.Among.{among_more, both_gone}
use Rattle.be_store.proofs.changed.take_out.Goals as goal

pub loop-number-preserved : goal.loop-number-preserved
loop-number-preserved c =
    let numbers = c.args.numbers.now in
    let old = c.args.list.now.items in
    let k = c.loop-number.number-index in record {
      rising = c.take_one.ensures.rising;
      left = λ n. c.take_one.ensures.left n
          ∙ (ap (λ b. b && not (get_or numbers k 0 == n)) (c.loop-number.invariant.left n)
          ∙ (both_gone (is_among old n) (is_among (take k numbers) n) (get_or numbers k 0 == n)
          ∙ ap (λ b. is_among old n && not b) (sym (among_more numbers k n c.loop-number-test.true))));
      room = (omega (arith, c.take_one.ensures.room.0, c.loop-number.invariant.room.0), c.take_one.ensures.room.1 ∙ c.loop-number.invariant.room.1);
    }

pub returns-clause-left : goal.returns-clause-left
returns-clause-left c n =
    let numbers = c.args.numbers.now in
    c.loop-number.invariant.left n ∙ ap (λ l. is_among c.args.list.now.items n && not (is_among l n)) (take_all c.loop-number.number-index numbers (omega (arith, c.loop-number-test.false)))
