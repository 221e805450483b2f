use Rattle.std.proofs.Common.{ap, arith, sym}
use Rattle.be_query.specs.Lexing.{word_front}
use Rattle.be_query.proofs.Spans.{shifted_none}
use Rattle.be_query.proofs.Blocks.{word_broken, word_ended, word_on}
use Rattle.be_query_text.proofs.places.word_len.Goals as goal

pub word-init : goal.word-init
word-init c = record { within = omega arith; so_far = shifted_none _ }

pub word-preserved : goal.word-preserved
word-preserved c = record {
  within = c.in-Some.ensures.within.1;
  so_far = word_on c.args.bytes.now c.word.at c.word-test.true _ c.in-Some.next c.in-Some.ensures.next (sym c.if-not-is_word.ensures) c.word.invariant.so_far;
}

pub returns-then-not-is_word-clause-ends : goal.returns-then-not-is_word-clause-ends
returns-then-not-is_word-clause-ends c = ap (word_front c.args.bytes.now) (sym (word_ended c.args.bytes.now c.word.at c.word-test.true _ (sym c.if-not-is_word.ensures) c.word.invariant.so_far))

pub returns-in_default-clause-breaks : goal.returns-in_default-clause-breaks
returns-in_default-clause-breaks c = (_, ap (word_front c.args.bytes.now) (sym (word_broken c.args.bytes.now c.word.at c.word-test.true _ c.in_default.ensures.lone c.word.invariant.so_far)))
