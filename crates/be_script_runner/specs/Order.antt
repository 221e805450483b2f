-- The order in which the passes of a race made their calls.
use Rattle.std.specs.Prelude.{◌≡◌, ◌⊎◌, ◌≤◌, ◌+◌, ◌-◌, ℕ, All, List, [], ◌∷◌, Some, slice_get}
use Rattle.std.specs.Prelude.{take}
use Rattle.be_journal.specs.Journal.{replay}
use Rattle.be_journal.specs.declared.entries.Entry.{Entry}
use Rattle.be_store.specs.Calls.{AreInOneTrace, HasWrites}
use Rattle.be_store.specs.History.{Accepts, Pins}
use Rattle.be_store.specs.Passes.{volume_pinned}
use Rattle.be_store.specs.Learned.{EndedBefore}
use Rattle.be_table.specs.History.{StartsWith}
use Rattle.be_table.specs.Rule.{entries, newcomer}
use Rattle.be_table.specs.Setting.{Setting}
use Rattle.be_table.specs.Steps.{KeepsSeen, entry_by}
use Rattle.be_table.specs.declared.pass.Knowledge.{Knowledge}
use Rattle.be_volume.specs.declared.ops.Done.{Done}
use Rattle.be_volume.specs.declared.ops.Op.{Op}
use Rattle.be_script_runner.specs.Lines.{IsServedBy, LeadTo}
use Rattle.be_script_runner.specs.Served.{known}
use Rattle.be_script_runner.specs.Store.{viewed}

-- The scripts got these replies from the passes with numbers from k upward, and this is what each
-- pass knows at the end. At first, each pass had seen and written nothing.
abbrev pub AreServedBy : Setting → ℕ → List (List ℕ) → List Knowledge → List (List ℕ) → Type 0
AreServedBy setting k [] [] [] = Unit {0}
AreServedBy setting k (script ∷ scripts) (z ∷ passes) (text ∷ texts) =
    IsServedBy (newcomer setting (k + 1) k) script z text
    × AreServedBy setting (k + 1) scripts passes texts
AreServedBy setting k scripts passes texts = ⊥

-- The journal contains what the passes have seen and written, with each write at the number in its
-- reply. All the passes' moves are in one list.
pub record AreInOneOrder (setting : Setting) (journal : List Entry) (passes : List Knowledge) :
    Type 0 where
  pub kept : KeepsSeen journal passes
  pub writes : All (HasWrites journal) passes
  pub moves : AreInOneTrace setting passes

-- `c` is what one of these passes knew after some of its calls: further calls led from there to
-- what it knows at the end
abbrev pub IsMoment : List Knowledge → Knowledge → Type 0
IsMoment [] c = ⊥
IsMoment (z ∷ passes) c = LeadTo c z ⊎ IsMoment passes c

-- What holds if the calls of passes follow one order. Of any two moments, one comes before the
-- other. At each moment, a pass has seen a prefix of the journal and shows a script the volume
-- after a prefix. An accepted write is the journal's entry with its number. A pin reads the volume
-- after the number of entries that it reports, and sees each write that comes before it.
pub record FollowOneOrder (journal : List Entry) (passes : List Knowledge) : Type 0 where
  pub total : (c d : Knowledge) → IsMoment passes c → IsMoment passes d
      → EndedBefore c d ⊎ EndedBefore d c
  pub seen : (c : Knowledge) → IsMoment passes c → StartsWith journal (entries c.seen)
  pub shows : (c : Knowledge) → IsMoment passes c
      → (n : ℕ) × (viewed (known c) ≡ replay (take n journal))
  pub writes : (a c : Knowledge) (ops : List Op) (n : ℕ) (dones : List Done) → IsMoment passes c
      → Accepts a c ops n dones → slice_get journal (n - 1) ≡ Some (entry_by a ops dones)
  pub reads : (b d : Knowledge) (m : ℕ) → IsMoment passes d → Pins b d m
      → volume_pinned d ≡ replay (take m journal)
  pub later : (a c b d : Knowledge) (ops : List Op) (n m : ℕ) (dones : List Done)
      → Accepts a c ops n dones → Pins b d m → EndedBefore c d → n ≤ m
