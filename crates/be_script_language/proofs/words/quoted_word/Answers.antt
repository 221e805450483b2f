use Rattle.std.proofs.Common.{◌∷◌, ◌∙◌, ap, sym, arith}
use Rattle.std.proofs.lemmas.Bool.Decides.{nat_tests}
use Rattle.std.specs.String.{string_bytes}
use Rattle.be_script_language.specs.Words.{quoted_in}
use Rattle.be_script_language.proofs.WordLemmas.{beyond_none, more_plain, more_escaped}
use Rattle.be_script_language.proofs.words.quoted_word.Goals as goal

pub loop-c-init : goal.loop-c-init
loop-c-init c = rw c.new-meant.ensures.bytes (beyond_none (quoted_in c.args.text.now))

pub loop-c-preserved-then-c-eq92 : goal.loop-c-preserved-then-c-eq92
loop-c-preserved-then-c-eq92 c =
    more_escaped c.args.text.now c.loop-c.rest.now c.in-Some-split_first.beyond.now (string_bytes c.loop-c.meant) (string_bytes c.push.new.self)
    c.in-Some-split_first.escaped.now c.in-Some-meaning_of.c c.loop-c.invariant
    (c.in-Some.ensures.cases.0 ∙ ap (λ z. z ∷ c.in-Some.beyond.now) c.if-c-eq92.true ∙ ap (λ z. 92 ∷ z) c.in-Some-split_first.ensures.cases.0)
    (sym c.meaning_of.ensures ∙ c.in-Some-meaning_of.is) c.in_ok-push.ensures.bytes

pub loop-c-preserved : goal.loop-c-preserved
loop-c-preserved c =
    more_plain c.args.text.now c.loop-c.rest.now c.in-Some.beyond.now (string_bytes c.loop-c.meant) (string_bytes c.push-else-c-eq92.new.self)
    c.in-Some.c.now c.loop-c.invariant c.in-Some.ensures.cases.0
    (grind (arith, nat_tests, c.if-c-eq34.false)) (grind (arith, nat_tests, c.if-c-eq92.false)) c.in_ok-push-2.ensures.bytes
