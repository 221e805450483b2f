-- A prepared query, which is parsed once and kept for repeated use.
use Rattle.std.specs.Prelude.{◌≡◌, ℕ, List, [], None, refl}
use Rattle.std.specs.Coded.{Coded, code_by, coded_ℕ, coded_list, coded×}
use Rattle.be_query.specs.Grammar.{Formula}
use Rattle.be_store.specs.Live.{LiveQuery, Refreshes, coded_live}
use Rattle.be_store.specs.Passes.{IsPinnedTo, volume_pinned}
use Rattle.be_store.specs.declared.answers.Updates.{Updates}
use Rattle.be_table.specs.Seats.{pinned_number}
use Rattle.be_table.specs.declared.pass.Knowledge.{Knowledge}
use Rattle.be_volume.specs.Query.{scan}
use Rattle.be_session.specs.Sitting.{IsUnrefreshed}
use Rattle.be_session.specs.declared.faults.Fault.{Fault}

-- The query with its answer at the last refresh, the nodes that the refresh added and removed, and
-- the nodes that it found when it was last run.
pub record PreparedQuery : Type 0 where
  pub live : LiveQuery
  pub found : List ℕ
  pub came : List ℕ
  pub went : List ℕ

abbrev pub coded_prepared : Coded PreparedQuery
coded_prepared =
    code_by _ (coded× coded_live (coded× (coded_list coded_ℕ)
    (coded× (coded_list coded_ℕ) (coded_list coded_ℕ))))
    (λ p. (p.live, (p.found, (p.came, p.went))))
    (λ c. record { live = c.0; found = c.1.0; came = c.1.1.0; went = c.1.1.1 }) (λ _. refl)

-- This query before it was first run or refreshed. Nothing has been found, its last answer is
-- empty, and no nodes have been added or removed.
abbrev pub IsUnasked : Formula → PreparedQuery → Type 0
IsUnasked query p = (p.live ≡ record { query = query; last = []; table = None })
    × (p.found ≡ []) × (p.came ≡ []) × (p.went ≡ [])

-- The same query after it found these nodes when it was last run.
abbrev pub with_found : PreparedQuery → List ℕ → PreparedQuery
with_found p nodes = record p { found = nodes }

-- The pass that knows this refreshed a live query at its pin. These nodes were added to the answer
-- and removed from it.
abbrev pub RefreshesAtPin : Knowledge → LiveQuery → LiveQuery → List ℕ → List ℕ → Type 0
RefreshesAtPin a old new came went = ((n : ℕ) × IsPinnedTo a n)
    × Refreshes (volume_pinned a) old new came went

-- The same for a call that returns these nodes.
abbrev pub ReturnsRefresh : Knowledge → LiveQuery → LiveQuery → Updates → Type 0
ReturnsRefresh a old new updates =
    RefreshesAtPin a old new updates.created.items updates.removed.items

-- The reason why the pass that knows this couldn't refresh a live query, which is unchanged.
abbrev pub StaysUnrefreshed : Knowledge → LiveQuery → LiveQuery → Fault → Type 0
StaysUnrefreshed a old new e = (new ≡ old)
    × IsUnrefreshed (pinned_number a.phase) (scan (volume_pinned a) old.query) e

-- The reason why the pass that knows this couldn't refresh a prepared query, which is unchanged.
abbrev pub KeepsUnrefreshed : Knowledge → PreparedQuery → PreparedQuery → Fault → Type 0
KeepsUnrefreshed a old new e = (new ≡ old)
    × IsUnrefreshed (pinned_number a.phase) (scan (volume_pinned a) old.live.query) e
