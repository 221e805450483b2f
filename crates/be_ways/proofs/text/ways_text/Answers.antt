use Rattle.std.proofs.Common.{◌≡◌, ◌∙◌, ◌+◌, ◌++◌, ◌∷◌, [], ap, subst, sym, take}
use Rattle.std.proofs.lemmas.List.{take_more}
use Rattle.std.specs.String.{string_bytes}
use Rattle.be_ways.specs.Text.{line_with, AreLines}
use Rattle.be_ways.proofs.Lines.{lines_push}
use Rattle.be_ways.proofs.text.ways_text.Goals as goal

pub loop-way-preserved : goal.loop-way-preserved
loop-way-preserved c =
    let ways = c.args.ways.now in
    let i = c.loop-way.way-index in
    let way = c.way-item.result in
    let text = string_bytes c.loop-way.text in
    let range = c.in_ok-line.ensures.0 in
    let front = take i ways ++ way ∷ [] in
    let more : take (i + 1) ways ≡ front = take_more ways i way c.loop-way-test.true ∙ ap (λ x. take i ways ++ x ∷ []) (sym c.way-item.is) in
    let pushed : string_bytes c.push_str.new.self ≡ text ++ line_with range way = c.in_ok-push_str.ensures.bytes ∙ ap (λ line. text ++ line) (c.as_str.ensures.value ∙ c.in_ok-line.ensures.1) in
    subst (λ ws. AreLines ws (string_bytes c.push_str.new.self)) (sym more) (subst (AreLines front) (sym pushed) (lines_push (take i ways) text way range c.loop-way.invariant))
