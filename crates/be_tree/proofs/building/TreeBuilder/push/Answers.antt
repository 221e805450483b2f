use Rattle.std.proofs.Common.{◌+◌, ◌≤◌, [], ◌∷◌, ◌++◌, length, ap, sym, ◌∙◌, refl, arith}
use Rattle.std.proofs.lemmas.List.{append_assoc, length-append}
use Rattle.be_tree_reading.specs.Tree.{pairs_below}
use Rattle.be_tree.specs.Building.{branches_of, pairs_given, pages_taken, IsShort, HoldsFewer}
use Rattle.be_tree.proofs.Builds.Leaves.{short_leaf, taken_count}
use Rattle.be_tree.proofs.Builds.Levels.{as_refused}
use Rattle.be_tree.proofs.Builds.Parts.{same_pair}
use Rattle.be_tree.proofs.Shape.Parts.{becomes_same}
use Rattle.be_tree.proofs.Sizes.InHand.{takes_same}
use Rattle.be_tree.proofs.building.TreeBuilder.push.Goals as goal

pub returns-then-len-clause-gains : goal.returns-then-len-clause-gains
returns-then-len-clause-gains g c =
    let builder = c.args.self.now in
    let leaves = branches_of (g.R.Look.words c.args.room.now) builder.leaves.items in
    let pairs = pairs_below 1 (g.R.Look.words c.args.room.now) leaves in
    let same = same_pair c.new.result c.args.key.now c.args.payload.now c.new.ensures.key c.new.ensures.payload in
    record {
      has_pairs = ap (λ xs. pairs ++ xs) (c.in_ok-push.ensures.items ∙ ap (λ x. builder.items.items ++ x ∷ []) same)
          ∙ sym (append_assoc pairs builder.items.items (record { key = c.args.key.now; payload = c.args.payload.now } ∷ []));
      swaps = (becomes_same g.R.Look.kept g.R.Look.page_state g.R.Look.words 1 leaves c.args.room.now c.requires.builds.begun.leaves).swaps;
    }

pub returns-clause-refused : goal.returns-clause-refused
returns-clause-refused g c =
    let builder = c.args.self.now in
    let s = g.R.Look.page_state c.args.room.now in
    let u = g.R.Look.page_state c.write_first.new.room in
    let had = length (pages_taken (g.R.Look.words c.args.room.now) builder) in
    let n = length (pairs_given (g.R.Look.words c.args.room.now) builder) + 1 in
    let full = c.requires.builds.full in
    let held : 17 ≤ length builder.items.items = omega (arith, c.if-len.false, c.len.ensures, ap length c.in_ok-push.ensures.items, length-append builder.items.items (c.new.result ∷ [])) in (
      c.write_first.ensures.refused.0,
      as_refused c.write_first.result (g.R.Room.full c.write_first.new.room) (HoldsFewer 0 1 s u) (IsShort had n s u)
          (λ fewer. short_leaf had 0 n s s u (omega (arith, full, held)) (omega (arith, taken_count g.R.Look.kept g.R.Look.page_state g.R.Look.words builder c.args.room.now, full, held)) (takes_same s s refl) fewer)
          c.write_first.ensures.refused.1,
    )
