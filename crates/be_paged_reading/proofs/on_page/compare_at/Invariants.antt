use Rattle.be_pages.specs.Pages.{IsUnchanged}
use Rattle.be_paged_reading.specs.Page.{entry_at}
use Rattle.be_tree_reading.proofs.Padded.{AreAlike}
use Rattle.be_paged_reading.proofs.on_page.compare_at.Given as goal

-- The words compared so far are equal.
abbrev pub invariant-loop-j : goal.invariant-loop-j
invariant-loop-j g l = record {
  alike : AreAlike (entry_at (g.L.Look.words l.fn.look l.page) l.at).name l.name l.j;
  unchanged : IsUnchanged g.L.Look.kept g.L.Look.page_state g.L.Look.words l.fn.look l.look;
}
