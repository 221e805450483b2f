use Rattle.std.proofs.Common.{◌≡◌, ◌<◌, length, IsTrue, refl, sym, ap, ◌∙◌, subst, arith, length-set, slice_set}
use Rattle.be_table.specs.declared.pass.Knowledge.{Knowledge}
use Rattle.be_pages.specs.declared.page_pool.Place.TheVariants.{Filled}
use Rattle.be_pages.specs.Place.{is_in_hand, place_of}
use Rattle.be_table.specs.Rule.{alone, writer_state_places, pass_of, word_place}
use Rattle.be_table.specs.Steps.{fills_word, fill_moves, with_history}
use Rattle.be_table.proofs.WriterStates.{left-fill}
use Rattle.be_table.proofs.Opened.{may_fill, reopened}
use Rattle.be_table.proofs.Worked.{fill_needs, fill_work, reasons_none, worked_more}
use Rattle.be_table.proofs.writing.Writing.fill.Goals as goal

pub fill_word-requires : goal.fill_word-requires
fill_word-requires c =
    let i = c.self.invariant in let w = c.self.inside in let a = pass_of w.base.me.0 in
    let k = ap (λ (w : Rattle.be_table.specs.Place.Work). w.knows) c.self.view_is in
    let lp : c.args.page < length a.places = subst (λ (n : Knowledge). c.args.page < length n.places) (sym k) c.requires.taken.0 in
    let count : length a.places ≡ w.table.now.limits.pages = sym (ap length i.places) ∙ i.count in
    let few = i.pass.within.limits.few_pages in let u = ap (λ l. l.pages) i.limits_are in
    record {
      seat = i.table_is;
      pass = (ap (λ m. m.0) i.me_is, i.writes, ap (λ n. n.published) k ∙ c.requires.open);
      small = omega (arith, lp, count, few, u);
      page = (omega (arith, lp, count), (lp, may_fill _ (subst (λ (n : Knowledge). IsTrue (is_in_hand (place_of n.places c.args.page))) (sym k) c.requires.taken.1)));
      place = c.requires.place;
    }

pub invariant_of-self : goal.invariant_of-self
invariant_of-self c =
    let i = c.self.invariant in let w = c.self.inside in let a = pass_of w.base.me.0 in
    let b = fills_word (with_history a (pass_of c.fill_word.new.base.me.0).history) c.args.page c.args.i c.args.word in
    reopened w _ b i refl refl refl refl refl c.fill_word.ensures.seat.0 (c.fill_word.ensures.me ∙ ap (λ l. (alone b, l)) (ap (λ m. m.1) i.me_is)) refl i.turn
    (length-set a.words (word_place c.args.page c.args.i) c.args.word) (length-set a.places c.args.page Filled) (c.fill.ensures ∙ ap (λ l. slice_set l c.args.page Filled) i.places)
    (left-fill w.writer_state.left (writer_state_places w.writer_state) c.args.self.now.knows.places _ c.args.page Filled (i.places ∙ ap (λ (x : Rattle.be_table.specs.Place.Work). x.knows.places) c.self.view_is) c.fill.ensures c.requires.taken.0 c.requires.taken.1 i.left)
    (λ unpublished. worked_more a.limits a.number a.history (fill_moves a c.args.page c.args.i c.args.word) (pass_of c.fill_word.new.base.me.0).history (fill_work a c.args.page c.args.i c.args.word)
    (reasons_none a.limits a.number a.history (fill_moves a c.args.page c.args.i c.args.word) (pass_of c.fill_word.new.base.me.0).history (fill_needs a.limits a c.args.page c.args.i c.args.word) c.fill_word.ensures.moves) (i.worked unpublished))

pub returns-clause-inside : goal.returns-clause-inside
returns-clause-inside c =
    let i = c.self.invariant in let w = c.self.inside in let a = pass_of w.base.me.0 in
    let k = ap (λ (w : Rattle.be_table.specs.Place.Work). w.knows) c.self.view_is in
    let few = i.pass.within.limits.few_pages in
    let low : c.args.page < a.limits.pages = let lp : c.args.page < length a.places = subst (λ (n : Knowledge). c.args.page < length n.places) (sym k) c.requires.taken.0 in let z = ap length i.places in let y = i.count in let u = ap (λ l. l.pages) i.limits_are in omega (arith, lp) in
    let z : length a.words ≡ length c.args.self.now.knows.words = ap (λ (n : Knowledge). length n.words) k in
    let y = i.size in let x = ap (λ l. l.pages) i.limits_are in
    omega (arith, low, c.requires.place)
