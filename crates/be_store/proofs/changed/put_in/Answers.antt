use Rattle.std.proofs.Common.{◌||◌, ◌==◌, sym, ap, take, ◌∙◌, arith, get_or}
use Rattle.std.proofs.lemmas.List.{take_all}
use Rattle.be_store.specs.Live.{is_among}
use Rattle.be_store.proofs.Among.{among_more, both_there}
use Rattle.be_store.proofs.changed.put_in.Goals as goal

pub put_one-requires-clause-room : goal.put_one-requires-clause-room
put_one-requires-clause-room c = omega (arith, c.loop-number.invariant.room, c.loop-number-test.true)

pub loop-number-preserved : goal.loop-number-preserved
loop-number-preserved c =
    let numbers = c.args.numbers.now in
    let old = c.args.list.now.items in
    let k = c.loop-number.number-index in record {
      rising = c.put_one.ensures.rising;
      both = λ n. c.put_one.ensures.both n
          ∙ (ap (λ b. b || (get_or numbers k 0 == n)) (c.loop-number.invariant.both n)
          ∙ (both_there (is_among old n) (is_among (take k numbers) n) (get_or numbers k 0 == n)
          ∙ ap (λ b. is_among old n || b) (sym (among_more numbers k n c.loop-number-test.true))));
      room = omega (arith, c.loop-number.invariant.room, c.loop-number-test.true, c.put_one.ensures.room.0, c.put_one.ensures.room.1);
    }

pub returns-clause-both : goal.returns-clause-both
returns-clause-both c n =
    let numbers = c.args.numbers.now in
    c.loop-number.invariant.both n ∙ ap (λ l. is_among c.args.list.now.items n || is_among l n) (take_all c.loop-number.number-index numbers (omega (arith, c.loop-number-test.false)))
