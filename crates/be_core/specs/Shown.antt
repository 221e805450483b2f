-- The machine's state that a `State` represents, and what a step on it returns.
use Rattle.std.specs.Prelude.{◌≡◌, ℕ, Bool, true, false, Option, Some, None, slice_get, slice_index}
use Rattle.std.specs.Prelude.{slice_index_or, vec_len, Vec, []}
use Rattle.std.specs.declared.alloc.Global.{Global}
use Rattle.be_core.specs.declared.event.Phase.TheVariants.{Idle}
use Rattle.be_core.specs.declared.state.Writer.{Writer}
use Rattle.be_core.specs.declared.state.State.{State}
use Rattle.be_core.specs.Machine.{World, Sound}
use Rattle.be_core.specs.Machine as machine

-- the words of each version, which a `State` doesn't keep
abbrev pub Images : Type 0
Images = ℕ → ℕ → ℕ → ℕ

-- whether an event is allowed doesn't depend on the images, so these images suffice to decide it
abbrev pub blank : Images
blank n p i = 0

abbrev pub is_marked : Option (Vec Bool Global) → ℕ → Bool
is_marked None p = false
is_marked (Some row) p = slice_index_or row.items p false

abbrev pub as_writer : Writer → machine.Writer
as_writer h = record {
  pass = h.pass;
  scanned = h.scanned;
  least = h.least;
  published = h.published;
}

abbrev pub writer_of : Option Writer → Option machine.Writer
writer_of None = None
writer_of (Some h) = Some (as_writer h)

abbrev pub shown : State → Images → World
shown s image =
    record {
      pages = vec_len s.words;
      passes = vec_len s.phases;
      commits = s.commits;
      current = s.current;
      reach = λ n p. is_marked (slice_get s.reach.items n) p;
      image = image;
      words = λ p i. slice_index (slice_index_or s.words.items p []) i;
      free = λ p. slice_index_or s.free.items p false;
      taken = λ p. slice_index_or s.taken.items p false;
      retired = λ p. slice_index_or s.retired.items p None;
      writer = writer_of s.writer;
      phases = λ k. slice_index_or s.phases.items k Idle;
    }

-- The result says whether the event is allowed. If it is, the new state represents the result of
-- the event; otherwise nothing changes
abbrev pub MakesStep : State → (World → Type 0) → (World → World) → Bool → State → Type 0
MakesStep old may next true new = (image : Images) → may (shown old image)
    × (shown new (next (shown old image)).image ≡ next (shown old image))
MakesStep old may next false new = (image : Images) → (¬ (may (shown old image)))
    × (shown new image ≡ shown old image)

abbrev pub IsUnchanged : State → State → Type 0
IsUnchanged old new = (image : Images) → shown new image ≡ shown old image

abbrev pub page_count : State → ℕ
page_count s = vec_len s.words

-- with some words for its versions, the state represents one in which the invariant holds
abbrev pub ShowsSound : State → Type 0
ShowsSound s = (image : Images) × Sound (shown s image)
