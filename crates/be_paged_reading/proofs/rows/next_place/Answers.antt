use Rattle.std.proofs.Common.{◌≡◌, ℕ, false, inr, ap, sym, subst, ◌∙◌}
use Rattle.be_tree_reading.specs.Cursor.{remaining}
use Rattle.be_tree_reading.specs.Key.{IsRising}
use Rattle.be_tree_reading.specs.Range.{pairs_from}
use Rattle.be_tree_reading.specs.Tree.{pairs}
use Rattle.be_tree_reading.proofs.Trees.{tree_rising}
use Rattle.be_paged_reading.proofs.Reported.{among_next, place_sought, walks_since}
use Rattle.be_paged_reading.proofs.rows.next_place.Goals as goal

pub returns-in-Some-clause-found : goal.returns-in-Some-clause-found
returns-in-Some-clause-found g c = c.in-Some.ensures.found c.args.catalog c.requires.tree c.requires.cursor.among

pub returns-in-Some-clause-cursor : goal.returns-in-Some-clause-cursor
returns-in-Some-clause-cursor g c = record {
  walks = c.place_near.ensures.cursor;
  among = c.place_near.ensures.among c.args.catalog c.requires.tree c.requires.cursor.among;
}

pub returns-clause-found : goal.returns-clause-found
returns-clause-found g c =
    let root = c.args.catalog in
    let u = g.L.Look.words c.place_near.new.look in
    let v = g.L.Look.words c.seek.new.look in
    let moved = c.seek.ensures.unchanged.words in
    let rising : IsRising (pairs v root) = subst (λ (w : ℕ → ℕ → ℕ). IsRising (pairs w root)) (sym (moved ∙ c.place_near.ensures.unchanged.words))
    (tree_rising (g.L.Look.page_state c.args.look.now) (g.L.Look.words c.args.look.now) root c.requires.tree) in
    let rest : remaining v c.seek.new.self ≡ pairs_from (pairs v root) c.args.key.now false =
    ap (λ (w : ℕ → ℕ → ℕ). remaining w c.seek.new.self) moved ∙ c.seek.ensures.remaining ∙ ap (λ (w : ℕ → ℕ → ℕ). pairs_from (pairs w root) c.args.key.now false) (sym moved) in
    place_sought (g.L.Look.page_state c.seek.new.look) (g.L.Look.page_state c.step_to.new.look) v (g.L.Look.words c.step_to.new.look) root c.args.key.now c.seek.new.self c.step_to.result
    c.step_to.ensures.unchanged.page_state c.step_to.ensures.unchanged.words rising rest c.step_to.ensures.item c.step_to.ensures.found c.step_to.ensures.same c.step_to.ensures.none

pub returns-clause-cursor : goal.returns-clause-cursor
returns-clause-cursor g c =
    let root = c.args.catalog in
    let u = g.L.Look.words c.place_near.new.look in
    let v = g.L.Look.words c.seek.new.look in
    let moved = c.seek.ensures.unchanged.words in
    let rising : IsRising (pairs v root) = subst (λ (w : ℕ → ℕ → ℕ). IsRising (pairs w root)) (sym (moved ∙ c.place_near.ensures.unchanged.words))
    (tree_rising (g.L.Look.page_state c.args.look.now) (g.L.Look.words c.args.look.now) root c.requires.tree) in
    let rest : remaining v c.seek.new.self ≡ pairs_from (pairs v root) c.args.key.now false =
    ap (λ (w : ℕ → ℕ → ℕ). remaining w c.seek.new.self) moved ∙ c.seek.ensures.remaining ∙ ap (λ (w : ℕ → ℕ → ℕ). pairs_from (pairs w root) c.args.key.now false) (sym moved) in
    walks_since (g.L.Look.page_state c.seek.new.look) (g.L.Look.page_state c.step_to.new.look) v (g.L.Look.words c.step_to.new.look) root c.step_to.new.cursor
    c.step_to.ensures.unchanged.page_state c.step_to.ensures.unchanged.words (record {
      walks = c.step_to.ensures.cursor;
      among = among_next v root c.seek.new.self c.step_to.new.cursor rising c.step_to.ensures.rest (inr (c.args.key.now, false, rest));
    })
