use Rattle.std.proofs.Common.{◌∙◌, arith}
use Rattle.std.proofs.lemmas.Bool.Decides.{nat_tests}
use Rattle.be_value.proofs.Digits.{encodes, too_large}
use Rattle.be_value.proofs.numbers.word_of.Goals as goal

pub returns-in_err-value : goal.returns-in_err-value
returns-in_err-value c =
    c.from_residual.ensures ∙ too_large c.args.text.now c.loop-c.c-index (omega arith) (omega (arith, c.in_err-value.ensures.large, c.loop-c.invariant.value))

pub returns : goal.returns
returns c =
    encodes c.args.text.now c.loop-c.value c.loop-c.c-index c.loop-c.invariant.value c.loop-c.invariant.digits (omega arith) (grind (arith, nat_tests, c.is_empty.ensures, c.if-is_empty.false)) (omega arith) (omega arith)
