use Rattle.std.proofs.Common.{◌≡◌, ◌-◌, ◌<◌, length, refl, subst, rules, arith}
use Rattle.be_tree.specs.Building.{HoldsFewer, IsShort, Writes, pages_taken, pairs_given}
use Rattle.be_tree_reading.proofs.Frame.{start_trans, swaps_start}
use Rattle.be_tree.proofs.Builds.Leaves.{rest_two, short_leaf}
use Rattle.be_tree.proofs.Builds.Levels.{as_refused, err_as, ok_as}
use Rattle.be_tree.proofs.Shape.Parts.{on_err}
use Rattle.be_tree.proofs.Sizes.InHand.{takes_same}
use Rattle.be_tree.proofs.building.TreeBuilder.write_rest.Goals as goal

pub returns-then-held-le-MOST_ITEMS-clause-refused : goal.returns-then-held-le-MOST_ITEMS-clause-refused
returns-then-held-le-MOST_ITEMS-clause-refused g c =
    let builder = c.args.self.now in
    let had = length builder.leaves.items in
    let n = length (pairs_given (g.R.Look.words c.args.room.now) builder) in
    let s = g.R.Look.page_state c.args.room.now in
    let u = g.R.Look.page_state c.write_first.new.room in
    let full = c.requires.builds.full in (
      c.write_first.ensures.refused.0,
      as_refused c.write_first.result (g.R.Room.full c.write_first.new.room) (HoldsFewer 0 1 s u) (IsShort had n s u)
          (λ fewer. short_leaf had 0 n s s u c.requires.many (omega (arith, full)) (takes_same s s refl) fewer) c.write_first.ensures.refused.1,
    )

pub returns-in_err-write_first-clause-refused : goal.returns-in_err-write_first-clause-refused
returns-in_err-write_first-clause-refused g c =
    let builder = c.args.self.now in
    let had = length builder.leaves.items in
    let n = length (pairs_given (g.R.Look.words c.args.room.now) builder) in
    let s = g.R.Look.page_state c.args.room.now in
    let u = g.R.Look.page_state c.write_first-2.new.room in
    let full = c.requires.builds.full in (
      on_err _ c.in_err-write_first.ensures.refused.0,
      as_refused c.from_residual.result (g.R.Room.full c.write_first-2.new.room) (HoldsFewer 0 1 s u) (IsShort had n s u)
          (λ fewer. short_leaf had 0 n s s u c.requires.many (omega (arith, full)) (takes_same s s refl) fewer) (search rules),
    )

pub returns-clause-ok : goal.returns-clause-ok
returns-clause-ok g c =
    let builder = c.args.self.now in
    let held : c.len-held.result ≡ length builder.items.items = omega (arith, c.len-held.ensures) in
    let first = subst (λ m. Writes g.R.Look.kept g.R.Look.page_state g.R.Look.words (m - 6) builder c.write_first-2.new.self c.args.room.now c.write_first-2.new.room) held c.in_ok-write_first.ensures.ok in
    ok_as c.write_first-3.result
    (λ last. rest_two g.R.Look.kept g.R.Look.page_state g.R.Look.words builder c.write_first-2.new.self c.write_first-3.new.self c.args.room.now c.write_first-2.new.room c.write_first-3.new.room
    c.requires.builds (omega (arith, c.if-held-le-MOST_ITEMS.false, held)) first last) c.write_first-3.ensures.ok

pub returns-clause-refused : goal.returns-clause-refused
returns-clause-refused g c =
    let builder = c.args.self.now in
    let held : c.len-held.result ≡ length builder.items.items = omega (arith, c.len-held.ensures) in
    let had = length builder.leaves.items in
    let n = length (pairs_given (g.R.Look.words c.args.room.now) builder) in
    let s = g.R.Look.page_state c.args.room.now in
    let t = g.R.Look.page_state c.write_first-2.new.room in
    let u = g.R.Look.page_state c.write_first-3.new.room in
    let first = c.in_ok-write_first.ensures.ok in
    let full = c.requires.builds.full in
    let fits : 12 < length builder.items.items = omega (arith, c.if-held-le-MOST_ITEMS.false, held) in (
      err_as c.write_first-3.result
          (λ keeps. start_trans g.R.Look.kept g.R.Look.page_state g.R.Look.words c.args.room.now c.write_first-2.new.room c.write_first-3.new.room
          (swaps_start g.R.Look.kept g.R.Look.page_state g.R.Look.words (pages_taken (g.R.Look.words c.args.room.now) builder) (pages_taken (g.R.Look.words c.write_first-2.new.room) c.write_first-2.new.self) c.args.room.now c.write_first-2.new.room first.gains.swaps) keeps)
          c.write_first-3.ensures.refused.0,
      as_refused c.write_first-3.result (g.R.Room.full c.write_first-3.new.room) (HoldsFewer 0 1 t u) (IsShort had n s u)
          (λ fewer. short_leaf had 1 n s t u c.requires.many (omega (arith, full, fits)) first.takes fewer) c.write_first-3.ensures.refused.1,
    )
