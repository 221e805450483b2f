-- What a pass shows to a script, given what the pass knows.
use Rattle.std.specs.Prelude.{ℕ, List, take}
use Rattle.std.specs.Option.{option_map}
use Rattle.be_journal.specs.Journal.{replay_from}
use Rattle.be_table.specs.declared.pass.Knowledge.{Knowledge}
use Rattle.be_table.specs.Place.{Opened}
use Rattle.be_table.specs.Rule.{entries}
use Rattle.be_table.specs.Seats.{pinned_number}
use Rattle.be_store.specs.History.{IsLastReason}
use Rattle.be_store.specs.Passes.{volume_seen}
use Rattle.be_script_runner.specs.Store.{PinnedVolume, Store}
use Rattle.be_value.specs.declared.refusals.Refusal.{Refusal}
use Rattle.be_volume.specs.declared.ops.Op.{Op}

-- a store, what one of its passes knows now, and what this pass knew at first
pub record Seated : Type 0 where
  pub store : Opened
  pub knows : Knowledge
  pub first : Knowledge

-- the part that no call changes: the store, the pass's number, and what that pass knew at first
abbrev pub seat_of : Seated → Opened × ℕ × Knowledge
seat_of s = (s.store, s.knows.number, s.first)

-- the version after the first n writes that the pass has seen
abbrev pub pin_at : Knowledge → ℕ → PinnedVolume
pin_at a n = record {
  number = n;
  volume = replay_from a.limits.volume (take n (entries a.seen));
}

-- the store as the pass sees it: the writes that it has seen are the only ones
abbrev pub known : Knowledge → Store
known a = record {
  journal = entries a.seen;
  volume = volume_seen a;
  limit = a.limits.commits;
  passes = a.limits.passes;
  pass = a.number;
  pin = option_map (pin_at a) (pinned_number a.phase);
}

-- Why a server refuses a write. The error is Busy after 10,000,000 tries that each found another
-- pass holding the lock, and names the pass that the last try found. Otherwise it is the error that
-- the store returns.
abbrev pub IsRefusedBy : Knowledge → List Op → Refusal → Knowledge → Type 0
IsRefusedBy a ops e c = IsLastReason 10000000 a c ops e
