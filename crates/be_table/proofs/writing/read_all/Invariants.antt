use Rattle.std.proofs.Common.{◌≡◌, ◌≢◌, ◌<◌, length, ℕ, List}
use Rattle.be_pages.specs.Place.{place_of}
use Rattle.be_pages.specs.declared.page_pool.Place.TheVariants.{Free}
use Rattle.be_table.specs.Rule.{alone, pass_of}
use Rattle.be_table.specs.Statuses.{IsOldest, LieAt}
use Rattle.be_table.specs.Steps.{scans_all, scans_of, AreFound, IsLowestAnnounced, IsPart, with_history}
use Rattle.be_table.specs.Trace.{Makes}
use Rattle.be_table.specs.Working.{MakesForReason}
use Rattle.be_table.proofs.Scans.{IsOwnPart}
use Rattle.be_table.proofs.writing.read_all.Given as goal

abbrev pub invariant-loop-pass : goal.invariant-loop-pass
invariant-loop-pass l = record {
  table : l.base.table_id ≡ l.fn.base.table_id;
  id : l.base.id ≡ l.fn.base.id;
  me : (found : List ℕ) × (length found ≡ l.pass) × (l.base.me ≡ (alone (with_history (scans_all (pass_of l.fn.base.me.0) found) (pass_of l.base.me.0).history), l.fn.base.me.1)) × IsLowestAnnounced l.current found l.least
      × AreFound (pass_of l.fn.base.me.0).limits (pass_of l.fn.base.me.0).number (pass_of l.fn.base.me.0).history (pass_of l.base.me.0).history found
      × IsOldest found l.oldest;
  moves : Makes (pass_of l.fn.base.me.0).number (pass_of l.fn.base.me.0).history (scans_of (pass_of l.fn.base.me.0).number l.pass) (pass_of l.base.me.0).history;
  reasons : ((p : ℕ) → place_of (pass_of l.fn.base.me.0).places p ≢ Free)
      → MakesForReason (pass_of l.fn.base.me.0).limits (pass_of l.fn.base.me.0).number (pass_of l.fn.base.me.0).history (scans_of (pass_of l.fn.base.me.0).number l.pass) (pass_of l.base.me.0).history;
  part : IsPart l.table.limits.passes (pass_of l.fn.base.me.0) (pass_of l.base.me.0) l.pass l.least;
  own : IsOwnPart (pass_of l.fn.base.me.0) l.pass l.least;
  places : 0 < l.pass → LieAt (pass_of l.fn.base.me.0).limits (pass_of l.base.me.0).history (pass_of l.base.me.0).places;
}
