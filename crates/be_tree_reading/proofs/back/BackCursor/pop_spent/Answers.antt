use Rattle.std.proofs.Common.{◌++◌, ap, subst, ◌∙◌, arith}
use Rattle.std.proofs.lemmas.List.{append-nil}
use Rattle.be_tree_reading.specs.Back.{pairs_up_to}
use Rattle.be_tree_reading.specs.Cursor.{IsPath}
use Rattle.be_tree_reading.proofs.Reading.Backward.{before_start, path_last, up_push}
use Rattle.be_tree_reading.proofs.Reading.Cursors.{path_front}
use Rattle.be_tree_reading.proofs.back.BackCursor.pop_spent.Goals as goal

pub returns-then-place-gt0-clause-place : goal.returns-then-place-gt0-clause-place
returns-then-place-gt0-clause-place c = λ page_state words is.
    (path_last page_state words c.pop.new.self.items c.in-Some.place (subst (IsPath page_state words) c.in-Some.ensures.items (c.loop-place.invariant.path page_state words is))).0

pub returns-then-place-gt0-clause-short : goal.returns-then-place-gt0-clause-short
returns-then-place-gt0-clause-short c = λ page_state words is.
    (path_last page_state words c.pop.new.self.items c.in-Some.place (subst (IsPath page_state words) c.in-Some.ensures.items (c.loop-place.invariant.path page_state words is))).1

pub returns-then-place-gt0-clause-parts : goal.returns-then-place-gt0-clause-parts
returns-then-place-gt0-clause-parts c = λ words.
    c.loop-place.invariant.same words ∙ ap (pairs_up_to words) c.in-Some.ensures.items ∙ up_push words c.pop.new.self.items c.in-Some.place

pub returns-then-place-gt0-clause-cursor : goal.returns-then-place-gt0-clause-cursor
returns-then-place-gt0-clause-cursor c = λ page_state words is.
    path_front page_state words c.pop.new.self.items c.in-Some.place (subst (IsPath page_state words) c.in-Some.ensures.items (c.loop-place.invariant.path page_state words is))

pub loop-place-preserved : goal.loop-place-preserved
loop-place-preserved c =
    let place = c.in-Some.place in
    let path = c.pop.new.self.items in
    record {
      path = λ page_state words is. path_front page_state words path place (subst (IsPath page_state words) c.in-Some.ensures.items (c.loop-place.invariant.path page_state words is));
      same = λ words.
          c.loop-place.invariant.same words ∙ ap (pairs_up_to words) c.in-Some.ensures.items ∙ up_push words path place
          ∙ ap (λ xs. pairs_up_to words path ++ xs) (before_start words place (omega (arith, c.if-place-gt0.false)))
          ∙ append-nil (pairs_up_to words path);
    }
