use Rattle.std.proofs.Common.{[]}
use Rattle.be_pages.specs.Pages.{Swaps}
use Rattle.be_paged_building.proofs.Lists.{HaveFirst}
use Rattle.be_tree.specs.Building.{IsBuilder, pages_taken, pairs_given}
use Rattle.be_paged_building.proofs.keys.Keys.build.Given as goal

-- the tree has the keys of the places before this one
abbrev pub invariant-loop-i : goal.invariant-loop-i
invariant-loop-i g l = record {
  builds : IsBuilder (g.R.Look.page_state l.room) (g.R.Look.words l.room) l.tree;
  puts : HaveFirst l.bytes l.places l.i (pairs_given (g.R.Look.words l.room) l.tree);
  swaps : Swaps g.R.Look.kept g.R.Look.page_state g.R.Look.words [] (pages_taken (g.R.Look.words l.room) l.tree) l.fn.room l.room;
}
