-- The pin in a seat is unchanged while its pass sees more.
use Rattle.std.proofs.Common.{◌≡◌, ℕ, List, [], length, Option, Some, refl, sym, ap, ◌∙◌, subst}
use mathlib.Core.Option.{none}
use Rattle.atomic_table.specs.Table.{Step, step}
use Rattle.be_core.specs.declared.event.Phase.{Phase}
use Rattle.be_core.specs.declared.event.Phase.TheVariants.{Idle, Looked, Announced, Pinned}
use Rattle.be_core.specs.Machine.{InTime, phase_after_look}
use Rattle.be_table.specs.declared.writer_state.WriterState.{WriterState}
use Rattle.be_table.specs.declared.marks.PinnedVersion.{PinnedVersion}
use Rattle.be_table.specs.declared.pass.Commit.{Commit}
use Rattle.be_table.specs.declared.pass.Knowledge.{Knowledge}
use Rattle.be_table.specs.History.{StartsWith}
use Rattle.be_table.specs.Rule.{alone, pass_of}
use Rattle.be_table.specs.Seats.{pin_of}
use Rattle.be_table.specs.Steps.{IsPass, Gets, Moving, LookMoves}
use Rattle.be_table.specs.declared.pass.Move.TheVariants.{Lock}
use Rattle.be_table.proofs.Frames.{Me1, page-front}

-- what a step says depends only on the step's word
abbrev pub any : Step (Option WriterState)
any = step 0 0 0 0 none

abbrev pub pinned : ℕ → ℕ → Option PinnedVersion
pinned n page = Some record { number = n; page = page }

pub pin_stays : (p : Phase) (seen log : List Commit) → InTime (length seen) p → StartsWith log seen → pin_of p log ≡ pin_of p seen
pin_stays Idle seen log t s = refl
pin_stays (Looked a) seen log t s = refl
pin_stays (Announced a) seen log t s = refl
pin_stays (Pinned a n) seen log t s = ap (λ q. pinned n q) (page-front log seen s n t.1)

pin_looks : (p : Phase) (seen log : List Commit) (c : ℕ) → InTime (length seen) p → StartsWith log seen → pin_of (phase_after_look p c) log ≡ pin_of p seen
pin_looks Idle seen log c t s = refl
pin_looks (Looked a) seen log c t s = refl
pin_looks (Announced a) seen log c t s = refl
pin_looks (Pinned a n) seen log c t s = ap (λ q. pinned n q) (page-front log seen s n t.1)

-- the pin of a seat's pass
abbrev pub pin_in : Me1 → Option PinnedVersion
pin_in m = pin_of (pass_of m.0).phase (pass_of m.0).seen

module _ (me r : Me1) (a : Knowledge) (pin : Option PinnedVersion) (e : me ≡ (alone a, [])) (pass : IsPass a) (is : pin ≡ pin_of a.phase a.seen) where
  pub looked_pin : (n : ℕ) → LookMoves any me n r → pin ≡ pin_in r
  looked_pin n reported =
      let t : LookMoves any (alone a, []) n r = subst (λ (m : Me1). LookMoves any m n r) e reported in
      is ∙ sym (pin_looks a.phase a.seen t.3.0 (length t.3.0) pass.pin t.3.1.1) ∙ ap pin_in (sym t.3.1.0)

  pub locked_pin : (k : ℕ) → Moving (Lock k) (λ w. Unit {0}) Gets me r → pin ≡ pin_in r
  locked_pin k reported =
      let t : Moving (Lock k) (λ w. Unit {0}) Gets (alone a, []) r = subst (λ (m : Me1). Moving (Lock k) (λ w. Unit {0}) Gets m r) e reported in
      is ∙ sym (pin_stays a.phase a.seen t.3.1 pass.pin t.3.3.1) ∙ ap pin_in (sym t.3.3.0)
