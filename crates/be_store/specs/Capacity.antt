-- A write that finds no free page: what fills the pool in this case, and which pools are large
-- enough.
use Rattle.std.specs.FinMap as map
use Rattle.std.specs.Prelude.{◌≡◌, ◌≢◌, ℕ, suc, ◌+◌, ◌*◌, ◌^◌, ◌<◌, ◌≤◌, List, [], ◌∷◌, length}
use Rattle.be_core.specs.Machine.{World, has}
use Rattle.be_core.specs.declared.event.Phase.TheVariants.{Idle}
use Rattle.be_table.specs.Counts.{count_below}
use Rattle.be_table.specs.History.{StartsWith}
use Rattle.be_table.specs.Rule.{reach_at}
use Rattle.be_table.specs.Trace.{HasTrace, RunsTo}
use Rattle.be_table.specs.Works.{HadAnnounced, IsSpent}
use Rattle.be_table.specs.Setting.{Setting as Limits}
use Rattle.be_table.specs.declared.pass.Knowledge.{Knowledge}
use Rattle.be_volume.specs.Items.{StaysWithin, items}
use Rattle.be_volume.specs.Volume.{State}
use Rattle.be_volume.specs.declared.ops.Op.{Op}
use Rattle.be_store.specs.Passes.{IsBetweenCalls, IsPinnedTo, volume_seen}

-- How many of the pool's pages the current version has.
abbrev pub current_pages : Knowledge → ℕ
current_pages c = count_below (has (reach_at c.limits c.seen (length c.seen)))
    c.limits.pages

-- How many of the pool's pages the write itself held when it found no free page.
abbrev pub held_pages : Knowledge → ℕ
held_pages c = count_below (has c.held) c.limits.pages

-- The number of pages is within the bound for a version of this volume: one page for every five
-- items, one for each index, and one more.
abbrev pub AreFewFor : State → (pages : ℕ) → Type 0
AreFewFor volume pages = 5 * pages ≤ items volume + 4 * map.len volume.indices + 9

-- The number of pages is within what a write may hold: one page for every five items, one for each
-- index, two for each level of a tree with that many items, and three more. The numbers of items
-- and indices can be any bounds within which the operations keep the volume.
abbrev pub AreFewToHold : State → List Op → (pages : ℕ) → Type 0
AreFewToHold volume ops pages = (most indices high : ℕ) → StaysWithin most indices volume ops
    → most + 1 < 2 * 6 ^ suc high → 5 * pages ≤ most + 4 * indices + 10 * high + 15

-- The reason why no page was left for this write, and the number in the refusal, which is the
-- oldest active reader in the write's last whole scan. The write held every page that no version
-- from that one on has. Both the current version and the write are within their bounds of pages.
pub record IsShort (c : Knowledge) (ops : List Op) (least : ℕ) : Type 0 where
  pub spent : IsSpent c least
  pub current : AreFewFor (volume_seen c) (current_pages c)
  pub few : AreFewToHold (volume_seen c) ops (held_pages c)

-- While the pass held the lock, no pass had published a version earlier than the current one in its
-- reader slot. So no pass was pinned to an earlier version or about to pin one.
abbrev pub NoneIsEarlier : Knowledge → Type 0
NoneIsEarlier c = (j n : ℕ) → j < c.limits.passes → HadAnnounced c j n → length c.seen ≤ n

-- The pass is either unpinned or pinned to the current version.
abbrev pub IsAtCurrent : Knowledge → Type 0
IsAtCurrent c = IsBetweenCalls c.limits.passes c.phase
    × ((n : ℕ) → IsPinnedTo c n → n ≡ length c.seen)

-- The pool is large enough for these operations. Before, between and after them, the volume has at
-- most `most` items and `indices` indices, and a tree with that many items has at most this height.
-- The pool has more than two pages for every five items, two for each index, two for each level,
-- and five more.
pub record HasLargePool (c : Knowledge) (ops : List Op) : Type 0 where
  pub most : ℕ
  pub indices : ℕ
  pub high : ℕ
  pub within : StaysWithin most indices (volume_seen c) ops
  pub height : most + 1 < 2 * 6 ^ suc high
  pub pages : 2 * most + 8 * indices + 10 * high + 24 < 5 * c.limits.pages

-- In the machine, the pass is unpinned and not about to pin after its last move.
abbrev pub IsOut : Limits → Knowledge → Type 0
IsOut limits b = (words : ℕ → ℕ → ℕ) (world : World) → RunsTo limits words b.history world
    → world.phases b.number ≡ Idle

-- The pass that knows b did nothing and was unpinned during a write whose pass knew w before it and
-- c after it. The two passes met before the write and after it, and b's pass was at rest both
-- times.
pub record RestsThrough (limits : Limits) (w c b : Knowledge) : Type 0 where
  pub out : IsOut limits b
  pub met : Knowledge
  pub same : met.number ≡ w.number
  pub early : StartsWith w.history met.history
  pub before : HasTrace limits (met ∷ b ∷ [])
  pub after : HasTrace limits (c ∷ b ∷ [])

-- Every other pass of the store rested during the write.
abbrev pub OthersRest : Limits → Knowledge → Knowledge → Type 0
OthersRest limits w c = (j : ℕ) → j < limits.passes → j ≢ w.number
    → (b : Knowledge) × (b.number ≡ j) × RestsThrough limits w c b
