-- What one write does to the pass that holds the lock.
use Rattle.std.specs.Prelude.{◌≡◌, ◌⊎◌, ◌≤◌, ◌<◌, ◌+◌, ℕ, false, List, [], ◌∷◌, ◌++◌, MatchResult}
use Rattle.std.specs.Prelude.{count_by, length}
use Rattle.std.specs.declared.result.Result.{Result}
use Rattle.be_core.specs.Machine.{has}
use Rattle.be_journal.specs.Journal.{Agrees}
use Rattle.be_pages.specs.Place.{is_retired}
use Rattle.be_table.specs.declared.pass.Knowledge.{Knowledge}
use Rattle.be_table.specs.declared.pass.Commit.{Commit}
use Rattle.be_table.specs.declared.pass.Move.{Move}
use Rattle.be_table.specs.declared.pass.Move.TheVariants.{Publish}
use Rattle.be_table.specs.Place.{Work}
use Rattle.be_table.specs.Reading.{page_state_among, word_of_page}
use Rattle.be_table.specs.Rule.{largest_pool, page_at, reach_at}
use Rattle.be_table.specs.Steps.{entry_by}
use Rattle.be_table.specs.Trace.{Makes, upto_lock}
use Rattle.be_table.specs.Versions.{at_start, EncodesVolume}
use Rattle.be_table.specs.Working.{WorksOn}
use Rattle.be_table.specs.Works.{due_after, MakesScan}
use Rattle.be_value.specs.declared.refusals.Refusal.{Refusal}
use Rattle.be_value.specs.declared.refusals.Refusal.TheVariants.{Full}
use Rattle.be_volume.specs.declared.ops.Done.{Done}
use Rattle.be_volume.specs.declared.ops.Op.{Op}
use Rattle.be_store.specs.History.{IsRefusedAt}
use Rattle.be_store.specs.Passes.{volume_seen}

-- An open write that hasn't taken any page yet. The states and words of its pages are those of the
-- current version.
pub record Begins (k : Knowledge) : Type 0 where
  pub small : k.limits.pages ≤ largest_pool
  pub unpublished : k.published ≡ false
  pub begun : (q : ℕ) → page_state_among k.places q
      ≡ at_start (has (reach_at k.limits k.seen (length k.seen)) q)
  pub encoded : EncodesVolume (reach_at k.limits k.seen (length k.seen)) (word_of_page k.words)
      (page_at k.seen (length k.seen)) (volume_seen k)

-- An early scan, which is a whole scan if enough pages were retired since the last scan to make one
-- due, and otherwise does nothing.
abbrev pub ScansEarly : Work → Work → Type 0
ScansEarly old new =
    ((count_by is_retired old.knows.places < old.left + due_after old.left) × (new ≡ old))
    ⊎ ((old.left + due_after old.left ≤ count_by is_retired old.knows.places)
    × ((least : ℕ) × MakesScan old new least))

-- The pass has kept its number, its limits and its pin.
pub record IsSame (a c : Knowledge) : Type 0 where
  pub pass : c.number ≡ a.number
  pub limits : c.limits ≡ a.limits
  pub pin : c.phase ≡ a.phase

-- The write is the last entry that the pass has seen. Since it took the lock, the pass has worked
-- on pages and then published the write.
pub record Publishes (a c : Knowledge) (ops : List Op) (n : ℕ) (dones : List Done) : Type 0 where
  pub same : IsSame a c
  pub commit : Commit
  pub entry : commit.entry ≡ entry_by a ops dones
  pub seen : c.seen ≡ a.seen ++ commit ∷ []
  pub answered : Agrees (volume_seen a) (entry_by a ops dones)
  pub number : n ≡ length c.seen
  pub worked : List Move
  pub work : WorksOn a.limits a.number (upto_lock a.number a.history) worked
  pub given : List ℕ
  pub made : Makes a.number worked (Publish a.number commit.page given ∷ []) c.history

-- The reason why a write that has the lock is refused.
pub record IsHeldBack (a c : Knowledge) (ops : List Op) (e : Refusal) : Type 0 where
  pub same : IsSame a c
  pub seen : c.seen ≡ a.seen
  pub reason : IsRefusedAt c ops e
  pub unpublished : c.published ≡ false
  pub begun : upto_lock c.number c.history ≡ upto_lock a.number a.history

-- A write that has the lock either is published or is refused.
abbrev pub Writes : Knowledge → Knowledge → List Op → List Done → Result ℕ Refusal → Type 0
Writes a c ops dones result = MatchResult result (λ n. Publishes a c ops n dones)
    (λ e. IsHeldBack a c ops e)

-- If the error is `Full`, the journal has reserved room for an entry with this many operations.
abbrev pub HasRoomAtFull : Work → ℕ → Refusal → Type 0
HasRoomAtFull w count e = (least : ℕ) → e ≡ Full least → w.reserved ≡ count
