use Rattle.std.proofs.Common.{◌≡◌, ◌+◌, ◌*◌, ℕ, List, [], ◌∷◌, slice_index, subst, sym, ap, ◌∙◌, arith}
use Rattle.be_table.specs.declared.pass.Move.{Move}
use Rattle.be_table.specs.declared.pass.Move.TheVariants.{Fill}
use Rattle.be_table.specs.Rule.{alone, pass_of, word_place}
use Rattle.be_table.specs.Steps.{takes_page, with_history}
use Rattle.be_table.specs.Trace.{Makes}
use Rattle.be_table.proofs.Frames.{Me1}
use Rattle.be_table.proofs.Holding.{takes_as}
use Rattle.be_table.proofs.writing.report_taken.Goals as goal

pub load-requires : goal.load-requires
load-requires c =
    let r = c.requires in let m = c.args.base.now.me in let i = c.table.invariant in
    let e : c.table.inside.limits.pages ≡ c.args.table.now.limits.pages = ap (λ l. l.pages) i.2 ∙ ap (λ t. t.limits.pages) c.table.view_is in let few = i.3.limits.few_pages in (
      r.seat ∙ sym (ap (λ t. t.id) c.table.view_is),
      omega (arith, i.0, r.page.0, e, few),
      takes_as _ _ _ (pass_of m.0) m.1 m (λ k. (r.pass.0 k, m.1)) c.args.page _ r.pass.1 r.pass.2 r.page.1 r.page.2 (omega arith),
    )

pub returns-clause-me : goal.returns-clause-me
returns-clause-me c =
    let m = c.args.base.now.me in let t = c.load.ensures.2.0 c.args.page (omega arith) in
    let h : (pass_of c.load.new.seat.me.0).history ≡ t.0 = ap (λ (x : Me1). (pass_of x.0).history) t.2 in
    t.2 ∙ ap (λ (l : List Move). (alone (takes_page (with_history (pass_of m.0) l) c.args.page), m.1)) (sym h)

pub returns-clause-moves : goal.returns-clause-moves
returns-clause-moves c =
    let a = pass_of c.args.base.now.me.0 in let t = c.load.ensures.2.0 c.args.page (omega arith) in
    let h : (pass_of c.load.new.seat.me.0).history ≡ t.0 = ap (λ (x : Me1). (pass_of x.0).history) t.2 in
    let at : word_place c.args.page 0 ≡ 528 + 512 * c.args.page = omega arith in
    subst (λ (q : ℕ × List Move). Makes a.number a.history (Fill a.number c.args.page 0 q.0 ∷ []) q.1) (λ k. ((c.load.ensures.2.1 ∙ ap (slice_index a.words) (sym at)) k, sym h k)) t.1
