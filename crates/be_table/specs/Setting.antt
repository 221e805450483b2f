-- What a table is opened with: its limits, and the volume that it begins with.
use Rattle.std.specs.Prelude.{ℕ, zero, suc, ◌<◌, ◌≤◌, ◌^◌, List, [], ◌∷◌, refl}
use Rattle.std.specs.Coded.{Coded, code_by, coded_ℕ, coded×}
use Rattle.be_core.specs.Machine.{AreLimits, most_pages}
use Rattle.be_volume.specs.Sound.{IsSound}
use Rattle.be_volume.specs.Volume.{State, empty, coded_state}
use Rattle.be_volume_state.specs.Rebuilding.{IsNumbered}
use Rattle.be_table.specs.declared.limits.Limits.{Limits}

-- The limits of a table, the number of its version 0's pages, and the volume that version 0
-- encodes.
pub record Setting : Type 0 where
  pub pages : ℕ
  pub passes : ℕ
  pub commits : ℕ
  pub used : ℕ
  pub volume : State

abbrev pub coded_setting : Coded Setting
coded_setting = code_by _
    (coded× coded_ℕ (coded× coded_ℕ (coded× coded_ℕ (coded× coded_ℕ coded_state))))
    (λ s. (s.pages, (s.passes, (s.commits, (s.used, s.volume)))))
    (λ p. record {
      pages = p.0;
      passes = p.1.0;
      commits = p.1.1.0;
      used = p.1.1.1.0;
      volume = p.1.1.1.1;
    }) (λ _. refl)

-- a table with these limits begins with a volume that the pages below `used` encode
abbrev pub begins_with : Limits → (used : ℕ) → State → Setting
begins_with limits used volume = record {
  pages = limits.pages;
  passes = limits.passes;
  commits = limits.commits;
  used = used;
  volume = volume;
}

-- a table with these limits begins with the empty volume, on page 0
abbrev pub begins_empty : Limits → Setting
begins_empty limits = begins_with limits 1 empty

abbrev pub limits_of : Setting → Limits
limits_of s = record { pages = s.pages; passes = s.passes; commits = s.commits }

-- the pages below n
abbrev pub pages_below : ℕ → List ℕ
pages_below zero = []
pages_below (suc n) = n ∷ pages_below n

-- the maximum number of pages of any table
abbrev pub largest_pool : ℕ
largest_pool = 16777216

-- limits that a table may have
abbrev pub IsPossible : Limits → Type 0
IsPossible limits = AreLimits 8 largest_pool limits.pages limits.passes limits.commits

-- limits with which `open` opens a table
abbrev pub IsWithin : Limits → Type 0
IsWithin limits = AreLimits 8 most_pages limits.pages limits.passes limits.commits

-- limits that `open` refuses as out of range
abbrev pub AreBad : Limits → Type 0
AreBad limits = ¬ (IsWithin limits)

-- Limits that a table may have, some of its pages for version 0, and a volume that operations can
-- create. Its next number leaves room for the nodes of the longest journal.
pub record IsSetting (s : Setting) : Type 0 where
  pub limits : IsPossible (limits_of s)
  pub some_used : 0 < s.used
  pub used_inside : s.used ≤ s.pages
  pub sound : IsSound s.volume
  pub numbered : IsNumbered s.volume
  pub next : s.volume.next ≤ 2 ^ 63
