use Rattle.std.proofs.Common.{◌≡◌, sym, ap, ◌∙◌, arith}
use Rattle.be_table.specs.Rule.{pass_of}
use Rattle.be_table.specs.Steps.{fills, with_history}
use Rattle.be_table.proofs.Fills.{may_again, there_as, stored_as, there_makes, stored_makes}
use Rattle.be_table.proofs.Frames.{Me1}
use Rattle.be_table.proofs.Holding.{fills_as, found_as}
use Rattle.be_table.proofs.writing.fill_word.Goals as goal

pub load-found-requires : goal.load-found-requires
load-found-requires c =
    let r = c.requires in let m = c.args.base.now.me in let i = c.table.invariant in
    let e : c.table.inside.limits.pages ≡ c.args.table.now.limits.pages = ap (λ l. l.pages) i.2 ∙ ap (λ t. t.limits.pages) c.table.view_is in let few = i.3.limits.few_pages in (
      r.seat ∙ sym (ap (λ t. t.id) c.table.view_is),
      omega (arith, i.0, r.page.0, e, few, r.place),
      found_as _ _ _ (pass_of m.0) m.1 m (λ k. (r.pass.0 k, m.1)) c.args.page c.args.i _ r.pass.1 r.pass.2 r.page.1 r.place (omega arith),
    )

pub store-requires : goal.store-requires
store-requires c =
    let r = c.requires in let m = c.args.base.now.me in let i = c.table.invariant in
    let e : c.table.inside.limits.pages ≡ c.args.table.now.limits.pages = ap (λ l. l.pages) i.2 ∙ ap (λ t. t.limits.pages) c.table.view_is in let few = i.3.limits.few_pages in
    let l = c.load-found.ensures in let f = l.2.0 c.args.page c.args.i (omega arith) r.place in (
      l.0 ∙ r.seat ∙ sym (ap (λ t. t.id) c.table.view_is),
      omega (arith, i.0, r.page.0, e, few, r.place),
      fills_as _ _ _ (fills (with_history (pass_of m.0) f.0) c.args.page c.args.i c.load-found.result) m.1 c.load-found.new.seat.me f.2 c.args.page c.args.i c.args.word _
          r.pass.1 r.pass.2 (may_again (pass_of m.0).places c.args.page r.page.1.0) r.place (omega arith),
    )

pub returns-then-found-word-clause-me : goal.returns-then-found-word-clause-me
returns-then-found-word-clause-me c =
    let m : Me1 = c.args.base.now.me in let l = c.load-found.ensures in
    let f = l.2.0 c.args.page c.args.i (omega arith) c.requires.place in let g = c.store.ensures.2 c.args.page c.args.i (omega arith) c.requires.place in
    stored_as m c.load-found.new.seat.me c.store.new.seat.me c.args.page c.args.i c.load-found.result c.args.word f.0 g.0 f.2 g.2 l.2.1 c.if-found-word.true

pub returns-then-found-word-clause-moves : goal.returns-then-found-word-clause-moves
returns-then-found-word-clause-moves c =
    let m : Me1 = c.args.base.now.me in let l = c.load-found.ensures in
    let f = l.2.0 c.args.page c.args.i (omega arith) c.requires.place in let g = c.store.ensures.2 c.args.page c.args.i (omega arith) c.requires.place in
    stored_makes m c.load-found.new.seat.me c.store.new.seat.me c.args.page c.args.i c.load-found.result c.args.word f.0 g.0 f.2 g.2 l.2.1 c.if-found-word.true f.1 g.1

pub returns-else-found-word-clause-me : goal.returns-else-found-word-clause-me
returns-else-found-word-clause-me c =
    let m : Me1 = c.args.base.now.me in let l = c.load-found.ensures in
    let f = l.2.0 c.args.page c.args.i (omega arith) c.requires.place in
    there_as m c.load-found.new.seat.me c.args.page c.args.i c.load-found.result c.args.word f.0 f.2 l.2.1 c.if-found-word.false

pub returns-else-found-word-clause-moves : goal.returns-else-found-word-clause-moves
returns-else-found-word-clause-moves c =
    let m : Me1 = c.args.base.now.me in let l = c.load-found.ensures in
    let f = l.2.0 c.args.page c.args.i (omega arith) c.requires.place in
    there_makes m c.load-found.new.seat.me c.args.page c.args.i c.load-found.result c.args.word f.0 f.2 l.2.1 c.if-found-word.false f.1
