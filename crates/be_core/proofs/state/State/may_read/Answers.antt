use Rattle.std.proofs.Common.{◌≡◌, ℕ, IsTrue, sym, ◌∙◌, arith, subst, slice_index_or}
use Rattle.std.proofs.lemmas.Grind.{elements}
use Rattle.std.specs.List.{slice_get}
use Rattle.be_core.specs.Shown.{is_marked}
use Rattle.be_core.specs.declared.event.Phase.TheVariants.{Idle, Pinned}
use Rattle.be_core.proofs.Shows.{is_in-inside}
use Rattle.be_core.proofs.state.State.may_read.Goals as goal

pub returns-in-Pinned : goal.returns-in-Pinned
returns-in-Pinned c =
    let s = c.args.self.now in
    let is : slice_index_or s.phases.items c.args.k Idle ≡ Pinned c.in-Pinned.field-0 c.in-Pinned.n = grind (arith, elements) in (
      (λ t. (omega arith, omega (arith, is_in-inside s.reach.items c.in-Pinned.n c.args.page _ s.rows (sym c.reaches.ensures ∙ t), s.words.ok.0), omega arith, (_, _, is, sym c.reaches.ensures ∙ t))),
      (λ m. let same : m.3.1 ≡ c.in-Pinned.n = cc in
          c.reaches.ensures ∙ subst (λ (v : ℕ). IsTrue (is_marked (slice_get s.reach.items v) c.args.page)) same m.3.3),
    )
