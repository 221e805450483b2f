use Rattle.std.proofs.Common.{◌∙◌, List, ℕ, None, ap, subst, sym}
use Rattle.std.specs.Option.{option_copied, option_map}
use Rattle.std.specs.declared.option.Option.{Option}
use Rattle.be_query.specs.Grammar.{Formula}
use Rattle.be_query.specs.View.{formula}
use Rattle.be_volume.specs.Reading.{index_kind}
use Rattle.be_plan.specs.Narrow.{LeavesRest}
use Rattle.be_plan.proofs.Seen.{left_key}
use Rattle.be_order.specs.Walks.{HasAllWithin}
use Rattle.be_order.proofs.sides.some_of_part.Goals as goal

pub fewest_name-requires : goal.fewest_name-requires
fewest_name-requires g c = (g.volume, c.requires.1.0)

pub kind_of-requires : goal.kind_of-requires
kind_of-requires g c = (g.volume, c.fewest_name.ensures.answers g.volume c.requires.1.0)

pub some_within-requires : goal.some_within-requires
some_within-requires g c κs within =
    let s = g.volume in
    let f = formula c.args.tree.now in
    let since = c.fewest_name.ensures.answers s c.requires.1.0 in
    let name = c.in-Some.fewest.name.now in
    let kind = c.in-Some-kind_of.kind in
    let kind_is = sym (c.in-Some-kind_of.ensures.answer s since) in
    let low = c.narrow.new.self.0 in
    let high = c.narrow.new.self.1 in
    let R : Option Formula → Type 0 = λ r. LeavesRest f name kind low high r in
    let leaves : LeavesRest f name kind low high None = subst R (ap (λ r. option_map formula (option_copied r)) c.in-None.is) c.narrow.ensures.bounds.leaves in
    let all : HasAllWithin s f name low high = λ k h w. left_key s (g.met.S.Source.sound c.args.source.now s c.requires.1.0) name k h kind kind_is f low high None leaves w in
    let H : Option (List ℕ) → Type 0 = λ b. HasAllWithin s f name low b in
    let L : List ℕ → Type 0 = λ l. HasAllWithin s f name l (option_copied c.keys.result.high) in
    let N : List ℕ → Type 0 = λ m. HasAllWithin s f m c.keys.result.low.now (option_copied c.keys.result.high) in (
      within,
      (
        c.kind_of.ensures.answers s since,
        (
          ap (index_kind s) c.keys.ensures.name ∙ kind_is,
          subst N (sym c.keys.ensures.name) (subst L (sym c.keys.ensures.low) (subst H (sym c.keys.ensures.high) all)),
        ),
      ),
    )

pub some_on_page-requires : goal.some_on_page-requires
some_on_page-requires g c κs within =
    let since = c.fewest_name.ensures.answers g.volume c.requires.1.0 in (
      within,
      (c.kind_of.ensures.answers g.volume since, (c.requires.1.1, sym (c.in-Some-kind_of.ensures.answer g.volume since))),
    )
