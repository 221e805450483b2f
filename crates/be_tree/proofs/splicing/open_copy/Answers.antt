use Rattle.std.proofs.Common.{◌≡◌, ◌≢◌, ◌+◌, ◌-◌, ◌∙◌, ap, sym, subst, inr, arith}
use Rattle.be_tree_reading.specs.Page.{item_place}
use Rattle.be_tree.specs.Splicing.{AreCopies, IsCopy}
use Rattle.be_tree.proofs.Nodes.Writes.{free_other}
use Rattle.be_tree.proofs.Nodes.PageStates.{other_states}
use Rattle.be_tree.proofs.Splices.{filled_word, gap_of, other_word, there}
use Rattle.be_tree.proofs.Sizes.InHand.{takes_one}
use Rattle.be_pages.specs.declared.room.PageState.TheVariants.{Filled, Taken}
use Rattle.be_tree.proofs.splicing.open_copy.Given.{Over}
use Rattle.be_tree.proofs.splicing.open_copy.Goals as goal
use Rattle.be_tree.proofs.splicing.open_copy.Goals.{After-copy_down-2}

-- the page isn't its own copy, and keeps its words
apart : (g : Over) (c : After-copy_down-2 g) → c.args.page ≢ c.in_ok-copy.copy
apart g c = λ e. free_other (g.R.Look.page_state c.args.room.now) c.in_ok-copy.copy c.args.page (sym (ap (λ s. s c.in_ok-copy.copy) c.word-level.ensures.page_state) ∙ c.in_ok-copy.ensures.page.1) c.requires.in_use (sym e)

headed : (g : Over) (c : After-copy_down-2 g) → g.R.Look.words c.fill-2.new.self c.args.page ≡ g.R.Look.words c.args.room.now c.args.page
headed g c =
    c.fill-2.ensures.others c.args.page (apart g c) ∙ c.fill.ensures.others c.args.page (apart g c)
    ∙ ap (λ w. w c.args.page) (c.word-count.ensures.words ∙ c.in_ok-copy.ensures.words ∙ c.word-level.ensures.words)

pub returns-clause-gap : goal.returns-clause-gap
returns-clause-gap g c =
    let u = g.R.Look.words c.args.room.now c.args.page in
    let copy = c.in_ok-copy.copy in
    let v = g.R.Look.words c.copy_down-2.new.room copy in
    let cut = c.args.cut in
    let first = c.copy_down.ensures.only in
    let last = c.copy_down-2.ensures.only in
    let here = item_place (cut.at + c.args.more) in
    let value = c.word-count.ensures.value ∙ ap (λ w. w c.args.page 1) (c.in_ok-copy.ensures.words ∙ c.word-level.ensures.words) in
    let rest = c.word-count.result - (cut.at + cut.gone) in
    let front : AreCopies u v 0 0 cut.at = λ k lt.
    let was = subst (λ x. IsCopy x (g.R.Look.words c.copy_down.new.room copy) (0 + k) (0 + k)) (headed g c) (c.copy_down.ensures.copied k lt) in
    let now = there g.R.Look.kept g.R.Look.page_state g.R.Look.words copy here (item_place (cut.at + c.args.more + rest)) c.copy_down.new.room c.copy_down-2.new.room last
    copy (item_place (0 + k)) (λ e. inr (omega (arith, lt))) was.1 in
    (now.0 ∙ was.0, now.1) in
    let back : AreCopies u v (cut.at + cut.gone) (cut.at + c.args.more) rest = λ k lt.
    subst (λ x. IsCopy x v (cut.at + cut.gone + k) (cut.at + c.args.more + k)) (first.others c.args.page (apart g c) ∙ headed g c) (c.copy_down-2.ensures.copied k lt) in
    gap_of u v cut c.args.more rest c.requires.in_range (ap (λ n. n - (cut.at + cut.gone)) value)
    (last.before 0 (omega arith) ∙ first.before 0 (omega arith) ∙ c.fill-2.ensures.place 0 ∙ other_word 0 1 (λ e. absurd (omega (arith, e))) (cut.at + c.args.more + rest) (g.R.Look.words c.fill.new.self copy 0) ∙ c.fill.ensures.place 0 ∙ filled_word 0 c.word-level.result (g.R.Look.words c.word-count.new.self copy 0) ∙ c.word-level.ensures.value)
    (last.before 1 (omega arith) ∙ first.before 1 (omega arith) ∙ c.fill-2.ensures.place 1 ∙ filled_word 1 (cut.at + c.args.more + rest) (g.R.Look.words c.fill.new.self copy 1)) front back

pub returns-clause-refused : goal.returns-clause-refused
returns-clause-refused g c = (
  tt,
  tt,
  (
    takes_one (g.R.Look.page_state c.args.room.now) (g.R.Look.page_state c.copy_down-2.new.room) c.in_ok-copy.copy (λ q ne.
        c.copy_down-2.ensures.only.page_state q ∙ c.copy_down.ensures.only.page_state q
        ∙ other_states (g.R.Look.page_state c.fill.new.self) (g.R.Look.page_state c.fill-2.new.self) c.in_ok-copy.copy Filled c.fill-2.ensures.page_state q ne
        ∙ other_states (g.R.Look.page_state c.word-count.new.self) (g.R.Look.page_state c.fill.new.self) c.in_ok-copy.copy Filled c.fill.ensures.page_state q ne
        ∙ ap (λ s. s q) c.word-count.ensures.page_state
        ∙ other_states (g.R.Look.page_state c.word-level.new.self) (g.R.Look.page_state c.take_copy.new.room) c.in_ok-copy.copy Taken c.in_ok-copy.ensures.ok q ne
        ∙ ap (λ s. s q) c.word-level.ensures.page_state),
    tt,
  ),
)
