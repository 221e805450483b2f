use Rattle.std.proofs.Common.{◌++◌, ap, sym, ◌∙◌, get_or, ◌∷◌, [], arith}
use Rattle.std.proofs.lemmas.List.{append_assoc}
use Rattle.be_store.proofs.Answering.{part_more}
use Rattle.be_store.proofs.live.push_part.Goals as goal

pub loop-i-preserved : goal.loop-i-preserved
loop-i-preserved c =
    let i = c.loop-i.i in
    let from = c.args.from in
    let numbers = c.args.numbers.now in
    let more = part_more numbers from i c.loop-i.auto.i (omega (arith, c.requires.range.1, c.loop-i-test.true)) in
    c.in_ok-push.ensures.items ∙ (ap (λ l. l ++ get_or numbers i 0 ∷ []) c.loop-i.invariant
    ∙ (append_assoc c.args.list.now.items _ (get_or numbers i 0 ∷ []) ∙ ap (λ l. c.args.list.now.items ++ l) (sym more)))
