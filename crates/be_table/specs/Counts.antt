-- How many of a pool's pages belong to versions and to an open write.
use Rattle.std.specs.Prelude.{ℕ, zero, suc, ◌+◌, ◌-◌, ◌||◌, Bool, false, List, length}
use Rattle.be_core.specs.Machine.{bit, has}
use Rattle.be_table.specs.declared.pass.Commit.{Commit}
use Rattle.be_table.specs.Rule.{reach_at}
use Rattle.be_table.specs.Setting.{Setting as Limits}

-- one of the `count` versions from `first` on has the page
abbrev pub is_reached : Limits → List Commit → (first count : ℕ) → ℕ → Bool
is_reached limits seen first zero p = false
is_reached limits seen first (suc k) p = has (reach_at limits seen (first + k)) p
    || is_reached limits seen first k p

-- how many of the first n pages pass a test
abbrev pub count_below : (ℕ → Bool) → ℕ → ℕ
count_below test zero = 0
count_below test (suc n) = bit (test n) + count_below test n

-- how many of the first n pages are in some version from `least` to the current one
abbrev pub reached : Limits → List Commit → (least n : ℕ) → ℕ
reached limits seen least n = count_below
    (is_reached limits seen least (suc (length seen) - least)) n
