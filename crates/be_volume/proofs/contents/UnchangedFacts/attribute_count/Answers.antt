use Rattle.std.proofs.Common.{◌≡◌, ap, sym, ◌∙◌, unwrap_or, None}
use Rattle.std.specs.Option.{option_copied}
use Rattle.std.specs.FinMap as map
use Rattle.std.specs.FinMap.{len-empty}
use Rattle.be_value.specs.declared.values.Value.{Value}
use Rattle.be_volume.specs.Maps.{name_cmp, attributes_of}
use Rattle.be_volume.proofs.contents.UnchangedFacts.attribute_count.Goals as goal

pub returns-in-None-clause-answer : goal.returns-in-None-clause-answer
returns-in-None-clause-answer c =
    λ volume e. let missing : map.get c.args.self.now.contents.now.nodes c.args.node ≡ None = sym (ap (λ s. map.get s.nodes c.args.node) c.contents.view_is) ∙ sym c.get.ensures ∙ ap option_copied c.in-None.is in
    sym (ap (λ found. map.len (unwrap_or found map.empty)) missing ∙ len-empty name_cmp Value) ∙ ap (λ s. map.len (attributes_of s.nodes c.args.node)) (sym e)
