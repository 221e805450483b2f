use Rattle.std.proofs.Common.{◌≡◌, sym, ap, subst, ◌∙◌, Some}
use Rattle.std.specs.FinMap as map
use Rattle.std.specs.Option.{option_map}
use Rattle.be_volume.specs.Sound.{IsSound}
use Rattle.be_volume.proofs.KeyLemmas.{next_is}
use Rattle.be_volume.proofs.volumes.Volume.next_key.Goals as goal

pub returns : goal.returns
returns c =
    let sound : IsSound c.args.self.now = subst IsSound c.self.view_is c.self.invariant.0 in
    let there : map.get c.args.self.now.indices c.args.name.now ≡ Some c.in_ok-index.index.now =
    ap (λ s. map.get s.indices c.args.name.now) (sym c.self.view_is) ∙ ap (λ m. map.get m c.args.name.now) (sym c.indices.ensures) ∙ sym c.in_ok-index.ensures in
    next_is c.args.self.now sound c.args.name.now c.in_ok-index.index.now there c.args.from.now c.args.after (option_map (λ k. k.items) c.next_key.result) c.next_key.ensures
