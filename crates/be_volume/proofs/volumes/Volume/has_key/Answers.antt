use Rattle.std.proofs.Common.{◌≡◌, sym, ap, subst, ◌∙◌, Some}
use Rattle.std.specs.FinMap as map
use Rattle.be_volume.specs.Sound.{IsSound}
use Rattle.be_volume.proofs.KeyLemmas.{is_key, is_key_of}
use Rattle.be_volume.proofs.volumes.Volume.has_key.Goals as goal

pub returns-clause-found : goal.returns-clause-found
returns-clause-found c =
    let sound : IsSound c.args.self.now = subst IsSound c.self.view_is c.self.invariant.0 in
    let there : map.get c.args.self.now.indices c.args.name.now ≡ Some c.in-Some.index.now =
    ap (λ s. map.get s.indices c.args.name.now) (sym c.self.view_is) ∙ ap (λ m. map.get m c.args.name.now) (sym c.indices.ensures) ∙ sym c.in-Some.ensures in
    λ e. is_key c.args.self.now sound c.args.name.now c.in-Some.index.now there c.args.key.now (c.has_key.ensures.found e)

pub returns-clause-finds : goal.returns-clause-finds
returns-clause-finds c =
    let sound : IsSound c.args.self.now = subst IsSound c.self.view_is c.self.invariant.0 in
    let there : map.get c.args.self.now.indices c.args.name.now ≡ Some c.in-Some.index.now =
    ap (λ s. map.get s.indices c.args.name.now) (sym c.self.view_is) ∙ ap (λ m. map.get m c.args.name.now) (sym c.indices.ensures) ∙ sym c.in-Some.ensures in
    λ h. c.has_key.ensures.finds (is_key_of c.args.self.now sound c.args.name.now c.in-Some.index.now there c.args.key.now h)
