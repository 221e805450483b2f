use Rattle.std.proofs.Common.{arith, sym}
use Rattle.be_query.proofs.Blocks.{quoted_broken, quoted_on, skipped}
use Rattle.be_query.proofs.lexer.span_after.Goals as goal

pub quoted-init : goal.quoted-init
quoted-init c = record { within = c.requires.within; so_far = sym (skipped c.args.quote c.args.front c.args.bytes.now c.requires.within c.requires.unmarked) }

pub quoted-preserved : goal.quoted-preserved
quoted-preserved c = record {
  within = c.in-Some.ensures.within.1;
  so_far = quoted_on c.args.bytes.now c.quoted.at c.quoted-test.true _ c.args.quote c.in-Some.next c.if-b-quote.false c.if-b-eq0.false c.in-Some.ensures.next c.quoted.invariant.so_far;
}

pub returns-in_default : goal.returns-in_default
returns-in_default c =
    quoted_broken c.args.bytes.now c.quoted.at c.quoted-test.true _ c.args.quote c.if-b-quote.false c.if-b-eq0.false c.in_default.ensures.lone c.quoted.invariant.so_far
