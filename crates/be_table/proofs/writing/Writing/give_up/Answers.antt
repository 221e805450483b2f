use Rattle.std.proofs.Common.{refl, ◌≡◌, ◌<◌, length, IsTrue, sym, ap, ◌∙◌, subst, arith, length-set, slice_set}
use Rattle.be_table.specs.declared.pass.Knowledge.{Knowledge}
use Rattle.be_pages.specs.Place.{given_place, is_held_page, place_of}
use Rattle.be_table.specs.Rule.{alone, writer_state_places, pass_of}
use Rattle.be_table.specs.Place.{Work}
use Rattle.be_table.specs.Steps.{gives_up, given_moves, with_history}
use Rattle.be_table.specs.Trace.{Makes}
use Rattle.be_table.specs.Writes.{work_of}
use Rattle.be_table.proofs.Holding.{gives_as}
use Rattle.be_table.proofs.WriterStates.{left-give}
use Rattle.be_table.proofs.Opened.{reopened}
use Rattle.be_table.proofs.Worked.{given_needs, given_work, reasons_none, worked_more}
use Rattle.be_table.proofs.writing.Writing.give_up.Goals as goal

pub load-requires : goal.load-requires
load-requires c =
    let i = c.self.invariant in let w = c.self.inside in let a = pass_of w.base.me.0 in
    let k = ap (λ (w : Rattle.be_table.specs.Place.Work). w.knows) c.self.view_is in
    let e : c.table.inside.limits.pages ≡ a.limits.pages = ap (λ l. l.pages) c.table.invariant.2 ∙ ap (λ t. t.limits.pages) c.table.view_is ∙ sym (ap (λ l. l.pages) i.limits_are) in
    let few = i.pass.within.limits.few_pages in
    let low : c.args.page < a.limits.pages = let lp : c.args.page < length a.places = subst (λ (n : Knowledge). c.args.page < length n.places) (sym k) c.requires.held.0 in let z = ap length i.places in let y = i.count in let u = ap (λ l. l.pages) i.limits_are in omega (arith, lp) in
    let lp : c.args.page < length a.places = subst (λ (n : Knowledge). c.args.page < length n.places) (sym k) c.requires.held.0 in (
      i.table_is ∙ sym (ap (λ t. t.id) c.table.view_is),
      omega (arith, c.table.invariant.0, low, e, few),
      gives_as _ _ _ a _ _ i.me_is c.args.page _ i.writes lp (subst (λ (n : Knowledge). IsTrue (is_held_page (place_of n.places c.args.page))) (sym k) c.requires.held.1) (omega arith),
    )

pub invariant_of-self : goal.invariant_of-self
invariant_of-self c =
    let i = c.self.invariant in let w = c.self.inside in let a = pass_of w.base.me.0 in
    let s = c.load.ensures in
    let g = s.2 c.args.page (omega arith) in
    let b = gives_up (with_history a g.0) c.args.page in
    let m = g.2 in
    reopened w _ b i refl refl refl refl refl s.0 (m ∙ ap (λ l. (alone b, l)) (ap (λ m. m.1) i.me_is)) refl i.turn refl (length-set a.places c.args.page (given_place (place_of a.places c.args.page)))
    (c.give_up.ensures ∙ ap (λ l. slice_set l c.args.page (given_place (place_of l c.args.page))) i.places)
    (left-give w.writer_state.left (writer_state_places w.writer_state) c.args.self.now.knows.places _ c.args.page _ (i.places ∙ ap (λ (x : Rattle.be_table.specs.Place.Work). x.knows.places) c.self.view_is) c.give_up.ensures c.requires.held.0 c.requires.held.1 i.left)
    (λ unpublished. worked_more a.limits a.number a.history (given_moves a c.args.page) g.0 (given_work a c.args.page)
    (reasons_none a.limits a.number a.history (given_moves a c.args.page) g.0 (given_needs a.limits a c.args.page) g.1) (i.worked unpublished))

pub returns-clause-write : goal.returns-clause-write
returns-clause-write c =
    let w = c.self.inside in let a = pass_of w.base.me.0 in let n = pass_of c.load.new.seat.me.0 in
    let g = c.load.ensures.2 c.args.page (omega arith) in
    let k : n ≡ gives_up (with_history a g.0) c.args.page = ap (λ m. pass_of m.0) g.2 in
    let h : n.history ≡ g.0 = ap (λ (x : Knowledge). x.history) k in
    ap (λ (x : Knowledge). record (work_of w) { knows = x }) (k ∙ ap (λ l. gives_up (with_history a l) c.args.page) (sym h))
    ∙ ap (λ (x : Work). record x { knows = gives_up (with_history x.knows n.history) c.args.page }) c.self.view_is

pub returns-clause-moves : goal.returns-clause-moves
returns-clause-moves c =
    let w = c.self.inside in let a = pass_of w.base.me.0 in let n = pass_of c.load.new.seat.me.0 in
    let g = c.load.ensures.2 c.args.page (omega arith) in
    let h : n.history ≡ g.0 = ap (λ m. (pass_of m.0).history) g.2 in
    subst (λ (x : Knowledge). Makes x.number x.history (given_moves x c.args.page) n.history) (ap (λ (x : Work). x.knows) c.self.view_is) (subst (Makes a.number a.history (given_moves a c.args.page)) (sym h) g.1)
