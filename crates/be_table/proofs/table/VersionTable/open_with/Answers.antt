use Rattle.std.proofs.Common.{ap, sym, subst, refl, ◌+◌, ◌*◌, ◌∙◌, length}
use Rattle.atomic_table.specs.Table.{opening}
use Rattle.be_table.specs.Rule.{Shows, everyone}
use Rattle.be_table.specs.Setting.{Setting, IsSetting, begins_with}
use Rattle.be_table.proofs.Deals.{begins_as, only_one, used_of}
use Rattle.be_table.proofs.table.VersionTable.open_with.Goals as goal

pub new-requires-3 : goal.new-requires-3
new-requires-3 c =
    let d : Setting = begins_with c.args.limits c.args.used c.args.volume.value in
    let one = only_one _ _ _ c.push_reserved.ensures.items c.in-Ok-with_capacity.ensures.items in
    subst (λ (x : Setting). Shows x (opening c.args.words.now c.push_reserved.new.self.items (everyone x))) (sym c.of-limits.ensures)
    (begins_as d c.args.words.now c.push_reserved.new.self.items _ one
    (record { limits = c.requires.limits; some_used = used_of c.args.used _ _ c.requires.encoded; used_inside = c.requires.used; sound = c.requires.encoded.version.sound; numbered = c.requires.numbers.0; next = c.requires.numbers.1 })
    c.requires.size c.requires.blank (ap (λ j. j.entries) c.new-2.ensures) (ap (λ j. j.limit) c.new-2.ensures) refl c.in-Ok-new.ensures.pages c.in-Ok-new.ensures.used c.in-Ok-new.ensures.free refl c.requires.encoded)

pub invariant_of-result : goal.invariant_of-result
invariant_of-result c =
    let s : IsSetting (begins_with c.args.limits c.args.used c.args.volume.value) = record { limits = c.requires.limits; some_used = used_of c.args.used _ _ c.requires.encoded; used_inside = c.requires.used; sound = c.requires.encoded.version.sound; numbered = c.requires.numbers.0; next = c.requires.numbers.1 } in
    let new = c.in-Ok-new-2.ensures.ok in
    let one = only_one _ _ _ c.push_reserved.ensures.items c.in-Ok-with_capacity.ensures.items in
    (new.0 ∙ c.requires.size ∙ ap (λ x. 528 + 512 * x.pages) (sym c.of-limits.ensures), new.1 ∙ ap length one, sym new.5, subst IsSetting (sym c.of-limits.ensures) s)
