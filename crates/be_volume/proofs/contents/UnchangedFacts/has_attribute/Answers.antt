use Rattle.std.proofs.Common.{◌≡◌, ap, sym, ◌∙◌, unwrap_or, is_some, None}
use Rattle.std.specs.Option.{option_copied}
use Rattle.std.specs.FinMap as map
use Rattle.std.specs.FinMap.{get-empty}
use Rattle.be_volume.specs.Maps.{name_cmp, attributes_of}
use Rattle.be_volume.proofs.contents.UnchangedFacts.has_attribute.Goals as goal

pub returns-in-None-clause-answer : goal.returns-in-None-clause-answer
returns-in-None-clause-answer c =
    λ volume e. let missing : map.get c.args.self.now.contents.now.nodes c.args.node ≡ None = sym (ap (λ s. map.get s.nodes c.args.node) c.contents.view_is) ∙ sym c.get.ensures ∙ ap option_copied c.in-None.is in
    sym (ap (λ found. map.contains_key (unwrap_or found map.empty) c.args.name.now) missing ∙ ap is_some (get-empty name_cmp c.args.name.now)) ∙ ap (λ s. map.contains_key (attributes_of s.nodes c.args.node) c.args.name.now) (sym e)
