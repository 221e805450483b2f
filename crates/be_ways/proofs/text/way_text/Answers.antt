use Rattle.std.proofs.Common.{◌≡◌, ◌∙◌, ◌++◌, ℕ, List, ap, codes}
use Rattle.std.specs.Fmt.{decimal}
use Rattle.std.specs.String.{string_bytes}
use Rattle.std.proofs.lemmas.Result.{IfOk-weaker}
use Rattle.be_journal.specs.Text.{quoted}
use Rattle.be_ways.specs.Text.{line_with}
use Rattle.be_ways.proofs.text.way_text.Goals as goal

pub returns : goal.returns
returns c =
    let way = c.args.way.now in
    let range = string_bytes c.in_ok-range.range in
    let rest = λ (keys : List ℕ). codes "  " ++ (range ++ (codes "  about " ++ (decimal way.about ++ (codes " " ++ (keys ++ (codes ", " ++ (decimal way.walked ++ codes " walked\n"))))))) in
    IfOk-weaker c.format.result _ (λ text. (range : List ℕ) × (string_bytes text ≡ line_with range way))
    (λ text e. (
      range,
      e ∙ ap (λ name. name ++ rest c.keys_of-keys.result.now) (c.in_ok-name.ensures ∙ ap quoted c.as_str.ensures.text)
          ∙ ap (λ keys. quoted way.name ++ rest keys) c.keys_of-keys.ensures,
    )) c.format.ensures.ok
