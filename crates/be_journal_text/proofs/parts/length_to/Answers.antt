use Rattle.std.proofs.Common.{◌≡◌, ◌+◌, length, true, false, sym, ap, ◌∙◌, arith, zero-add}
use Rattle.be_journal_text.proofs.Cuts.{beyond, is_end, length_to}
use Rattle.be_journal_text.proofs.PartLemmas.{beyond_is, counted_all, counted_alone, counted_ends, counted_here, counted_on, is_end_is, none_of_length}
use Rattle.be_journal_text.proofs.parts.length_to.Goals as goal

pub loop-byte-init : goal.loop-byte-init
loop-byte-init c = record { is = sym (zero-add _); within = zero-add _ }

pub returns-then-is_end-clause-ends : goal.returns-then-is_end-clause-ends
returns-then-is_end-clause-ends c =
    let here : is_end c.args.end c.loop-byte.quoting c.in-Some.byte.now ≡ true =
    sym (is_end_is c.args.end c.loop-byte.quoting c.in-Some.byte.now c.is_end.result c.is_end.ensures) ∙ c.if-is_end.true in
    counted_ends c.args.end c.loop-byte.count c.args.text.now
    (counted_here c.args.end c.loop-byte.count c.loop-byte.quoting c.args.text.now c.loop-byte.rest.now c.in-Some.more.now c.in-Some.byte.now
    c.loop-byte.invariant.is c.in-Some.ensures.cases.0 here)

pub returns-then-is_end-clause-alone : goal.returns-then-is_end-clause-alone
returns-then-is_end-clause-alone c =
    let here : is_end c.args.end c.loop-byte.quoting c.in-Some.byte.now ≡ true =
    sym (is_end_is c.args.end c.loop-byte.quoting c.in-Some.byte.now c.is_end.result c.is_end.ensures) ∙ c.if-is_end.true in
    counted_alone c.args.end c.loop-byte.count c.args.text.now
    (counted_here c.args.end c.loop-byte.count c.loop-byte.quoting c.args.text.now c.loop-byte.rest.now c.in-Some.more.now c.in-Some.byte.now
    c.loop-byte.invariant.is c.in-Some.ensures.cases.0 here)

pub loop-byte-preserved : goal.loop-byte-preserved
loop-byte-preserved c =
    let i = c.loop-byte.invariant in
    let first = c.in-Some.ensures.cases.0 in
    let here : is_end c.args.end c.loop-byte.quoting c.in-Some.byte.now ≡ false =
    sym (is_end_is c.args.end c.loop-byte.quoting c.in-Some.byte.now c.is_end.result c.is_end.ensures) ∙ c.if-is_end.false in
    let next : c.beyond-quoting.result ≡ beyond c.loop-byte.quoting c.in-Some.byte.now =
    beyond_is c.loop-byte.quoting c.beyond-quoting.result c.in-Some.byte.now c.beyond-quoting.ensures.outside c.beyond-quoting.ensures.inside
    c.beyond-quoting.ensures.escaped in
    let more : length_to c.args.end c.loop-byte.quoting c.loop-byte.rest.now ≡ 1 + length_to c.args.end c.beyond-quoting.result c.in-Some.more.now =
    counted_on c.args.end c.loop-byte.quoting c.loop-byte.rest.now c.in-Some.more.now c.in-Some.byte.now first here
    ∙ ap (λ q. 1 + length_to c.args.end q c.in-Some.more.now) (sym next) in
    record {
      is = i.is ∙ (ap (λ n. c.loop-byte.count + n) more ∙ omega arith);
      within = omega (arith, i.within, ap length first);
    }

pub returns-clause-ends : goal.returns-clause-ends
returns-clause-ends c =
    counted_ends c.args.end c.loop-byte.count c.args.text.now
    (counted_all c.args.end c.loop-byte.count c.loop-byte.quoting c.args.text.now c.loop-byte.rest.now c.loop-byte.invariant.is
    (none_of_length c.loop-byte.rest.now c.in_default.ensures.cases))

pub returns-clause-alone : goal.returns-clause-alone
returns-clause-alone c =
    counted_alone c.args.end c.loop-byte.count c.args.text.now
    (counted_all c.args.end c.loop-byte.count c.loop-byte.quoting c.args.text.now c.loop-byte.rest.now c.loop-byte.invariant.is
    (none_of_length c.loop-byte.rest.now c.in_default.ensures.cases))
