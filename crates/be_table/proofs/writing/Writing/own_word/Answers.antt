use Rattle.std.proofs.Common.{refl, ◌≡◌, ◌<◌, length, sym, ap, ◌∙◌, subst, arith}
use Rattle.be_table.specs.declared.pass.Knowledge.{Knowledge}
use Rattle.be_table.specs.Rule.{alone, one_step_on, pass_of}
use Rattle.be_table.proofs.Holding.{owns_as}
use Rattle.be_table.proofs.Opened.{reopened}
use Rattle.be_table.proofs.writing.Writing.own_word.Goals as goal

pub overflow_mul-word : goal.overflow_mul-word
overflow_mul-word c =
    let i = c.self.invariant in let w = c.self.inside in let a = pass_of w.base.me.0 in
    let k = ap (λ (w : Rattle.be_table.specs.Place.Work). w.knows) c.self.view_is in
    let few = i.pass.within.limits.few_pages in
    let low : c.args.page < a.limits.pages = let lp : c.args.page < length a.places = subst (λ (n : Knowledge). c.args.page < length n.places) (sym k) c.requires.place.0 in let z = ap length i.places in let y = i.count in let u = ap (λ l. l.pages) i.limits_are in omega (arith, lp) in
    omega (arith, low, few)

pub overflow_add-word : goal.overflow_add-word
overflow_add-word c =
    let i = c.self.invariant in let w = c.self.inside in let a = pass_of w.base.me.0 in
    let k = ap (λ (w : Rattle.be_table.specs.Place.Work). w.knows) c.self.view_is in
    let few = i.pass.within.limits.few_pages in
    let low : c.args.page < a.limits.pages = let lp : c.args.page < length a.places = subst (λ (n : Knowledge). c.args.page < length n.places) (sym k) c.requires.place.0 in let z = ap length i.places in let y = i.count in let u = ap (λ l. l.pages) i.limits_are in omega (arith, lp) in
    omega (arith, low, few)

pub overflow_add-word-2 : goal.overflow_add-word-2
overflow_add-word-2 c =
    let i = c.self.invariant in let w = c.self.inside in let a = pass_of w.base.me.0 in
    let k = ap (λ (w : Rattle.be_table.specs.Place.Work). w.knows) c.self.view_is in
    let few = i.pass.within.limits.few_pages in
    let low : c.args.page < a.limits.pages = let lp : c.args.page < length a.places = subst (λ (n : Knowledge). c.args.page < length n.places) (sym k) c.requires.place.0 in let z = ap length i.places in let y = i.count in let u = ap (λ l. l.pages) i.limits_are in omega (arith, lp) in
    omega (arith, low, few, c.requires.place.1)

pub load-requires : goal.load-requires
load-requires c =
    let i = c.self.invariant in let w = c.self.inside in let a = pass_of w.base.me.0 in
    let k = ap (λ (w : Rattle.be_table.specs.Place.Work). w.knows) c.self.view_is in
    let e : c.table.inside.limits.pages ≡ a.limits.pages = ap (λ l. l.pages) c.table.invariant.2 ∙ ap (λ t. t.limits.pages) c.table.view_is ∙ sym (ap (λ l. l.pages) i.limits_are) in
    let few = i.pass.within.limits.few_pages in
    let low : c.args.page < a.limits.pages = let lp : c.args.page < length a.places = subst (λ (n : Knowledge). c.args.page < length n.places) (sym k) c.requires.place.0 in let z = ap length i.places in let y = i.count in let u = ap (λ l. l.pages) i.limits_are in omega (arith, lp) in (
      i.table_is ∙ sym (ap (λ t. t.id) c.table.view_is),
      omega (arith, c.table.invariant.0, low, e, few, c.requires.place.1),
      owns_as _ _ _ a _ _ i.me_is c.args.page c.args.i _ i.writes low c.requires.place.1 (omega arith),
    )

pub invariant_of-self : goal.invariant_of-self
invariant_of-self c =
    let i = c.self.invariant in let w = c.self.inside in let a = pass_of w.base.me.0 in
    let s = c.load.ensures in
    reopened w _ (one_step_on a) i refl refl refl refl refl s.0 (s.2.0 ∙ ap (λ l. (alone (one_step_on a), l)) (ap (λ m. m.1) i.me_is)) refl i.turn refl refl i.places i.left i.worked
