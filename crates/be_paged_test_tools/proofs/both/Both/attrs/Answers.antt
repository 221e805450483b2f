use Rattle.std.proofs.Common.{◌∙◌, sym, subst}
use Rattle.be_paged_reading.proofs.Versions.{version_since}
use Rattle.be_paged_test_tools.proofs.Since.{stays_since}
use Rattle.be_paged_test_tools.specs.contracts.both.Both.{the_invariant}
use Rattle.be_paged_test_tools.proofs.both.Both.attrs.Goals as goal
use Rattle.be_paged_test_tools.proofs.both.Both.attrs.Goals.{in-Err-OutOfMemory-again, in_default, in_default-2}

pub attrs-list-requires : goal.attrs-list-requires
attrs-list-requires c = record { version = (c.self.inside.plain, version_since _ _ _ _ c.self.inside.page c.self.inside.plain c.attrs.ensures.unchanged.page_state c.attrs.ensures.unchanged.words c.self.invariant.0) }

pub invariant_of-self : goal.invariant_of-self
invariant_of-self c =
    let page = c.self.inside.page in
    let plain = c.self.inside.plain in
    let first = c.attrs.ensures.unchanged in
    elim c.match-again.branch [
      | in-Err-OutOfMemory-again w ↦ subst the_invariant (sym w.self-inside-is)
          (stays_since _ _ _ _ page plain (w.attrs-list.ensures.unchanged.page_state ∙ first.page_state) (w.attrs-list.ensures.unchanged.words ∙ first.words) c.self.invariant)
      | in_default w ↦ subst the_invariant (sym w.self-inside-is) (stays_since _ _ _ _ page plain first.page_state first.words c.self.invariant)
      | in_default-2 w ↦ subst the_invariant (sym w.self-inside-is) (stays_since _ _ _ _ page plain first.page_state first.words c.self.invariant)
    ]
