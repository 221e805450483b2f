use Rattle.std.proofs.Common.{◌∙◌, IsTrue, sym, subst}
use Rattle.std.proofs.lemmas.Option.{same_Some}
use Rattle.be_value.specs.Value.{is_indexable, kind_of}
use Rattle.be_value.specs.declared.values.Value.{Value}
use Rattle.be_order.proofs.Walked.{held_value}
use Rattle.be_order.proofs.keys.key_held.Goals as goal

pub key_of-requires : goal.key_of-requires
key_of-requires g c =
    let s = g.volume in
    let held = held_value s (g.met.S.Source.sound c.args.source.now s c.requires.1.0) c.args.name.now c.args.node c.requires.1.1 in
    let P : Value → Type 0 = λ v. IsTrue (is_indexable (kind_of v)) in
    subst P (same_Some _ _ (sym held.1 ∙ sym (c.in_ok-value.ensures.answer s c.requires.1.0))) held.3
