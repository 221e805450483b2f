use Rattle.std.proofs.Common.{ap, subst}
use Rattle.std.specs.Option.{option_copied, option_map}
use Rattle.std.specs.declared.option.Option.{Option}
use Rattle.be_query.specs.Grammar.{Formula}
use Rattle.be_query.specs.View.{formula}
use Rattle.be_plan.specs.Narrow.{LeavesRest, high_of}
use Rattle.be_plan.proofs.Collecting.{collects_on}
use Rattle.be_plan.proofs.walks.walk_alone.Goals as goal

pub walk_decided-requires : goal.walk_decided-requires
walk_decided-requires g c κs within =
    let R : Option Formula → Type 0 = λ r. LeavesRest (formula c.args.walk.tree.now) c.args.walk.index.name.now c.args.walk.index.kind c.args.walk.range.now.low.items (high_of c.args.walk.range.now) r in (
      within,
      (
        c.requires.1.0,
        record {
          kind_is = c.requires.1.1.kind_is;
          leaves = subst R (ap (λ r. option_map formula (option_copied r)) c.in_default.is) c.requires.1.1.leaves;
        },
      ),
    )

pub pass_unequal-requires : goal.pass_unequal-requires
pass_unequal-requires g c κs within =
    let R : Option Formula → Type 0 = λ r. LeavesRest (formula c.args.walk.tree.now) c.args.walk.index.name.now c.args.walk.index.kind c.args.walk.range.now.low.items (high_of c.args.walk.range.now) r in (
      within,
      (
        c.requires.1.0,
        record {
          kind_is = c.requires.1.1.kind_is;
          leaves = subst R (ap (λ r. option_map formula (option_copied r)) c.in-Some.is) c.requires.1.1.leaves;
        },
      ),
    )

pub pass_texts-requires : goal.pass_texts-requires
pass_texts-requires g c κs within =
    let R : Option Formula → Type 0 = λ r. LeavesRest (formula c.args.walk.tree.now) c.args.walk.index.name.now c.args.walk.index.kind c.args.walk.range.now.low.items (high_of c.args.walk.range.now) r in (
      within,
      (
        c.pass_unequal.ensures.answers,
        record {
          kind_is = c.requires.1.1.kind_is;
          leaves = subst R (ap (λ r. option_map formula (option_copied r)) c.in-Some.is) c.requires.1.1.leaves;
        },
      ),
    )

pub visit_all-requires : goal.visit_all-requires
visit_all-requires g c κs within = (within, (c.pass_texts.ensures.answers, c.requires.1.1.kind_is))

pub returns-in_err-pass_texts-clause-collects : goal.returns-in_err-pass_texts-clause-collects
returns-in_err-pass_texts-clause-collects g c =
    collects_on g.volume (formula c.args.walk.tree.now) c.args.found.now.items c.pass_unequal.new.found.items c.pass_texts.new.found.items c.pass_unequal.ensures.collects c.pass_texts.ensures.collects

pub returns-then-branch-2-clause-collects : goal.returns-then-branch-2-clause-collects
returns-then-branch-2-clause-collects g c =
    collects_on g.volume (formula c.args.walk.tree.now) c.args.found.now.items c.pass_unequal.new.found.items c.pass_texts.new.found.items c.pass_unequal.ensures.collects c.pass_texts.ensures.collects

pub returns-clause-collects : goal.returns-clause-collects
returns-clause-collects g c =
    let f = formula c.args.walk.tree.now in
    collects_on g.volume f c.args.found.now.items c.pass_unequal.new.found.items c.visit_all.new.found.items c.pass_unequal.ensures.collects
    (collects_on g.volume f c.pass_unequal.new.found.items c.pass_texts.new.found.items c.visit_all.new.found.items c.pass_texts.ensures.collects c.visit_all.ensures.collects)
