use Rattle.std.proofs.Common.{◌∙◌, ◌++◌, sym, ap}
use Rattle.std.specs.Ordering.{is_gt}
use Rattle.be_value.specs.Key.{key}
use Rattle.be_query.specs.View.{literal}
use Rattle.be_volume.specs.Maps.{name_cmp}
use Rattle.be_volume.specs.Query.{holds}
use Rattle.be_plan.proofs.Represented.{equal_keeps_low, equal_keeps_high, lower_keeps, at_most_keeps, higher_keeps, not_lower_keeps, equal_reported, lower_reported, at_most_reported, higher_reported, not_lower_reported}
use Rattle.be_plan.proofs.narrowing.narrow_by.Goals as goal

pub returns-then-raise_to-clause-keeps : goal.returns-then-raise_to-clause-keeps
returns-then-raise_to-clause-keeps g c = λ v n p h w.
    let l = literal c.args.comparison.now.literal in
    let front = c.args.front.now in
    let first = c.args.first.now in
    let after = c.args.after.now in
    let e = c.requires.1 in
    let reported = sym (ap (λ op. holds op v l) c.in-Eq.is) ∙ h in
    let last = c.without_last.ensures e.last e.after_is in
    c.lower_to.ensures.keeps (key v n) (ap (λ end. is_gt (name_cmp (key v n) (front ++ end))) last ∙ equal_keeps_high l c.args.kind g.bound c.requires.0 front first after e v n p reported)
    (c.raise_to.ensures.keeps (key v n) (equal_keeps_low l c.args.kind g.bound c.requires.0 front first after e v n p reported) w)

pub returns-then-raise_to-clause-decides : goal.returns-then-raise_to-clause-decides
returns-then-raise_to-clause-decides g c = λ yes v n p w.
    let l = literal c.args.comparison.now.literal in
    let front = c.args.front.now in
    let e = c.requires.1 in
    let last = c.without_last.ensures e.last e.after_is in
    ap (λ op. holds op v l) c.in-Eq.is ∙ equal_reported l c.args.kind g.bound c.requires.0 front c.args.first.now c.args.after.now e v n p
    (c.raise_to.ensures.leaves c.if-raise_to.true (key v n) (c.lower_to.ensures.within (key v n) w))
    (sym (ap (λ end. is_gt (name_cmp (key v n) (front ++ end))) last) ∙ c.lower_to.ensures.leaves yes (key v n) w)

pub returns-else-raise_to-clause-keeps : goal.returns-else-raise_to-clause-keeps
returns-else-raise_to-clause-keeps g c = λ v n p h w.
    let l = literal c.args.comparison.now.literal in
    c.raise_to.ensures.keeps (key v n) (equal_keeps_low l c.args.kind g.bound c.requires.0 c.args.front.now c.args.first.now c.args.after.now c.requires.1 v n p
    (sym (ap (λ op. holds op v l) c.in-Eq.is) ∙ h)) w

pub returns-in-Lt-clause-keeps : goal.returns-in-Lt-clause-keeps
returns-in-Lt-clause-keeps g c = λ v n p h w.
    let l = literal c.args.comparison.now.literal in
    let front = c.args.front.now in
    let e = c.requires.1 in
    let below = c.without_last-in-Lt.ensures e.below e.first_is in
    c.lower_to-in-Lt.ensures.keeps (key v n) (ap (λ end. is_gt (name_cmp (key v n) (front ++ end))) below
    ∙ lower_keeps l c.args.kind g.bound c.requires.0 front c.args.first.now c.args.after.now e v n p (sym (ap (λ op. holds op v l) c.in-Lt.is) ∙ h)) w

pub returns-in-Lt-clause-decides : goal.returns-in-Lt-clause-decides
returns-in-Lt-clause-decides g c = λ yes v n p w.
    let l = literal c.args.comparison.now.literal in
    let front = c.args.front.now in
    let e = c.requires.1 in
    let below = c.without_last-in-Lt.ensures e.below e.first_is in
    ap (λ op. holds op v l) c.in-Lt.is ∙ lower_reported l c.args.kind g.bound c.requires.0 front c.args.first.now c.args.after.now e v n p
    (sym (ap (λ end. is_gt (name_cmp (key v n) (front ++ end))) below) ∙ c.lower_to-in-Lt.ensures.leaves yes (key v n) w)

pub returns-in-Le-clause-keeps : goal.returns-in-Le-clause-keeps
returns-in-Le-clause-keeps g c = λ v n p h w.
    let l = literal c.args.comparison.now.literal in
    let front = c.args.front.now in
    let e = c.requires.1 in
    let last = c.without_last-in-Le.ensures e.last e.after_is in
    c.lower_to-in-Le.ensures.keeps (key v n) (ap (λ end. is_gt (name_cmp (key v n) (front ++ end))) last
    ∙ at_most_keeps l c.args.kind g.bound c.requires.0 front c.args.first.now c.args.after.now e v n p (sym (ap (λ op. holds op v l) c.in-Le.is) ∙ h)) w

pub returns-in-Le-clause-decides : goal.returns-in-Le-clause-decides
returns-in-Le-clause-decides g c = λ yes v n p w.
    let l = literal c.args.comparison.now.literal in
    let front = c.args.front.now in
    let e = c.requires.1 in
    let last = c.without_last-in-Le.ensures e.last e.after_is in
    ap (λ op. holds op v l) c.in-Le.is ∙ at_most_reported l c.args.kind g.bound c.requires.0 front c.args.first.now c.args.after.now e v n p
    (sym (ap (λ end. is_gt (name_cmp (key v n) (front ++ end))) last) ∙ c.lower_to-in-Le.ensures.leaves yes (key v n) w)

pub returns-in-Gt-clause-keeps : goal.returns-in-Gt-clause-keeps
returns-in-Gt-clause-keeps g c = λ v n p h w.
    let l = literal c.args.comparison.now.literal in
    c.raise_to-in-Gt.ensures.keeps (key v n) (higher_keeps l c.args.kind g.bound c.requires.0 c.args.front.now c.args.first.now c.args.after.now c.requires.1 v n p
    (sym (ap (λ op. holds op v l) c.in-Gt.is) ∙ h)) w

pub returns-in-Gt-clause-decides : goal.returns-in-Gt-clause-decides
returns-in-Gt-clause-decides g c = λ yes v n p w.
    let l = literal c.args.comparison.now.literal in
    ap (λ op. holds op v l) c.in-Gt.is ∙ higher_reported l c.args.kind g.bound c.requires.0 c.args.front.now c.args.first.now c.args.after.now c.requires.1 v n p
    (c.raise_to-in-Gt.ensures.leaves yes (key v n) w)

pub returns-in-Ge-clause-keeps : goal.returns-in-Ge-clause-keeps
returns-in-Ge-clause-keeps g c = λ v n p h w.
    let l = literal c.args.comparison.now.literal in
    c.raise_to-in-Ge.ensures.keeps (key v n) (not_lower_keeps l c.args.kind g.bound c.requires.0 c.args.front.now c.args.first.now c.args.after.now c.requires.1 v n p
    (sym (ap (λ op. holds op v l) c.in-Ge.is) ∙ h)) w

pub returns-in-Ge-clause-decides : goal.returns-in-Ge-clause-decides
returns-in-Ge-clause-decides g c = λ yes v n p w.
    let l = literal c.args.comparison.now.literal in
    ap (λ op. holds op v l) c.in-Ge.is ∙ not_lower_reported l c.args.kind g.bound c.requires.0 c.args.front.now c.args.first.now c.args.after.now c.requires.1 v n p
    (c.raise_to-in-Ge.ensures.leaves yes (key v n) w)
