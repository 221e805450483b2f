-- Pinned passes, and what they read.
use Rattle.std.proofs.Common.{◌≡◌, ℕ, take, Option, Some, None, sym, ap, ◌∙◌, subst}
use Rattle.std.specs.Option.{option_map_or}
use Rattle.be_core.specs.declared.event.Phase.{Phase}
use Rattle.be_core.specs.declared.event.Phase.TheVariants.{Idle, Looked, Announced, Pinned}
use Rattle.be_journal.specs.Journal.{replay_from}
use Rattle.be_paged_reading.specs.Version.{IsVersion}
use Rattle.be_table.specs.declared.pass.Knowledge.{Knowledge}
use Rattle.be_table.specs.Reading.{pinned_page_state, word_of_page}
use Rattle.be_table.specs.Rule.{entries, page_at}
use Rattle.be_table.specs.Seats.{pinned_number}
use Rattle.be_table.proofs.Pins.{looked_version}
use Rattle.be_volume.specs.Volume.{empty}
use Rattle.be_store.specs.Passes.{IsPinnedTo, volume_pinned}

abbrev number_in : ℕ → Option ℕ → ℕ
number_in d None = d
number_in d (Some n) = n

-- If the number of a pin is n, the phase is that of a pin at n.
pub pinned_phase : (p : Phase) (n : ℕ) → pinned_number p ≡ Some n → (x : ℕ) × (p ≡ Pinned x n)
pinned_phase Idle n e = absurd cc
pinned_phase (Looked a) n e = absurd cc
pinned_phase (Announced a) n e = absurd cc
pinned_phase (Pinned a m) n e = (a, ap (λ k. Pinned a k) (ap (number_in m) e))

-- What a look at the pinned version reads, starting from the page that the pass reported before.
pub looked_volume : (a c : Knowledge) (n page : ℕ) → IsPinnedTo a n → c ≡ a → page ≡ page_at a.seen n → IsVersion (pinned_page_state c) (word_of_page c.image) (page_at c.seen n) (replay_from c.limits.volume (take n (entries c.seen)))
    → IsVersion (pinned_page_state c) (word_of_page c.image) page (volume_pinned a)
looked_volume a c n page pin same is h =
    let volume : replay_from c.limits.volume (take n (entries c.seen)) ≡ volume_pinned a =
    ap (λ (k : Knowledge). replay_from k.limits.volume (take n (entries k.seen))) same ∙ sym (ap (λ o. option_map_or (λ m. replay_from a.limits.volume (take m (entries a.seen))) o empty) pin) in
    subst (IsVersion (pinned_page_state c) (word_of_page c.image) page) volume (looked_version a c n page same is h)

-- A look at the pinned version reads the volume that its own pass is pinned to.
pub read_version : (a c : Knowledge) (page : ℕ) → c ≡ a → IsVersion (pinned_page_state c) (word_of_page c.image) page (volume_pinned a)
    → IsVersion (pinned_page_state c) (word_of_page c.image) page (volume_pinned c)
read_version a c page same = subst (λ (k : Knowledge). IsVersion (pinned_page_state c) (word_of_page c.image) page (volume_pinned k)) (sym same)
