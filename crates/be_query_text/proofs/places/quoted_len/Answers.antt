use Rattle.std.proofs.Common.{◌∙◌, ap, arith, false, refl, sym}
use Rattle.be_query.specs.Lexing.{quoted_front, quoted_span}
use Rattle.be_query.proofs.Spans.{shifted_none, stops, stops_at_end}
use Rattle.be_query.proofs.Blocks.{quoted_broken, quoted_on}
use Rattle.std.proofs.lemmas.Bool.{cond-false, cond-true, eq-eqb, ne_eqb}
use Rattle.be_query_text.proofs.places.quoted_len.Goals as goal

pub quoted-init : goal.quoted-init
quoted-init c = record { within = omega arith; so_far = shifted_none _ }

pub quoted-preserved : goal.quoted-preserved
quoted-preserved c = record {
  within = c.in-Some.ensures.within.1;
  so_far = quoted_on c.args.bytes.now c.quoted.at c.quoted-test.true _ c.args.quote c.in-Some.next c.if-b-quote.false c.if-b-eq0.false c.in-Some.ensures.next c.quoted.invariant.so_far;
}

pub returns-then-b-eq0-clause-breaks : goal.returns-then-b-eq0-clause-breaks
returns-then-b-eq0-clause-breaks c =
    let here = cond-false _ _ _ (ne_eqb _ _ c.if-b-quote.false) ∙ cond-true _ _ _ (eq-eqb _ 0 c.if-b-eq0.true) in
    (_, ap (quoted_front c.args.bytes.now) (sym (stops (quoted_span c.args.quote) false c.args.bytes.now c.quoted.at _ _ c.quoted-test.true here c.quoted.invariant.so_far)))

pub returns-clause-breaks : goal.returns-clause-breaks
returns-clause-breaks c = (_, ap (quoted_front c.args.bytes.now) (sym (stops_at_end (quoted_span c.args.quote) false c.args.bytes.now c.quoted.at _ _ c.quoted-test.false refl c.quoted.invariant.so_far)))

pub returns-in_default-clause-breaks : goal.returns-in_default-clause-breaks
returns-in_default-clause-breaks c = (_, ap (quoted_front c.args.bytes.now) (sym (quoted_broken c.args.bytes.now c.quoted.at c.quoted-test.true _ c.args.quote c.if-b-quote.false c.if-b-eq0.false c.in_default.ensures.lone c.quoted.invariant.so_far)))
