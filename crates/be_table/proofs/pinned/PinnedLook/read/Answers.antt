use Rattle.std.proofs.Common.{◌≡◌, ◌<◌, IsTrue, refl, sym, ap, ◌∙◌, subst, arith}
use Rattle.be_pages.specs.Pages.{is_readable}
use Rattle.be_table.specs.declared.pass.Knowledge.{Knowledge}
use Rattle.be_table.specs.Place.{Pin}
use Rattle.be_table.specs.Reading.{pinned_page_state}
use Rattle.be_table.specs.Rule.{alone, one_step_on, pass_of}
use Rattle.be_table.proofs.Moves.{pinned_as}
use Rattle.be_table.proofs.Pins.{readable_pin}
use Rattle.be_table.proofs.Readers.{read_on, readable_inside}
use Rattle.be_table.proofs.pinned.PinnedLook.read.Goals as goal

pub overflow_mul-word : goal.overflow_mul-word
overflow_mul-word c =
    let i = c.self.invariant in let a : Knowledge = pass_of c.self.inside.base.me.0 in
    let low : c.args.page < a.limits.pages = readable_inside a c.args.page i.reported.pass (subst (λ (p : Pin). IsTrue (is_readable (pinned_page_state p.knows c.args.page))) (sym c.self.view_is) c.requires.page) in
    let few = i.reported.pass.within.limits.few_pages in
    omega (arith, low, few)

pub overflow_add-word : goal.overflow_add-word
overflow_add-word c =
    let i = c.self.invariant in let a : Knowledge = pass_of c.self.inside.base.me.0 in
    let low : c.args.page < a.limits.pages = readable_inside a c.args.page i.reported.pass (subst (λ (p : Pin). IsTrue (is_readable (pinned_page_state p.knows c.args.page))) (sym c.self.view_is) c.requires.page) in
    let few = i.reported.pass.within.limits.few_pages in
    omega (arith, low, few)

pub overflow_add-word-2 : goal.overflow_add-word-2
overflow_add-word-2 c =
    let i = c.self.invariant in let a : Knowledge = pass_of c.self.inside.base.me.0 in
    let low : c.args.page < a.limits.pages = readable_inside a c.args.page i.reported.pass (subst (λ (p : Pin). IsTrue (is_readable (pinned_page_state p.knows c.args.page))) (sym c.self.view_is) c.requires.page) in
    let few = i.reported.pass.within.limits.few_pages in
    omega (arith, low, few, c.requires.place)

pub load-requires : goal.load-requires
load-requires c =
    let i = c.self.invariant in let a : Knowledge = pass_of c.self.inside.base.me.0 in
    let can : IsTrue (is_readable (pinned_page_state a c.args.page)) = subst (λ (p : Pin). IsTrue (is_readable (pinned_page_state p.knows c.args.page))) (sym c.self.view_is) c.requires.page in
    let low : c.args.page < a.limits.pages = readable_inside a c.args.page i.reported.pass can in
    let few = i.reported.pass.within.limits.few_pages in
    let r = readable_pin a c.args.page can in
    let e : c.table.inside.limits.pages ≡ a.limits.pages = ap (λ l. l.pages) c.table.invariant.2 ∙ ap (λ t. t.limits.pages) c.table.view_is ∙ sym (ap (λ l. l.pages) i.limits_are) in (
      i.table_is ∙ sym (ap (λ t. t.id) c.table.view_is),
      omega (arith, c.table.invariant.0, low, e, few, c.requires.place),
      pinned_as _ _ _ a _ _ i.me_is r.0 r.1 c.args.page c.args.i _ r.2 r.3 c.requires.place (omega arith),
    )

pub invariant_of-self : goal.invariant_of-self
invariant_of-self c =
    let i = c.self.invariant in let w = c.self.inside in let a : Knowledge = pass_of w.base.me.0 in
    let s = c.load.ensures in
    read_on w _ i refl refl s.0 (s.2.0 ∙ ap (λ l. (alone (one_step_on a), l)) (ap (λ m. m.1) i.me_is))
