-- What reads preserve about versions.
use Rattle.std.proofs.Common.{◌≡◌, ℕ, sym, subst}
use Rattle.be_pages.specs.declared.room.PageState.{PageState}
use Rattle.be_volume.specs.Volume.{State}
use Rattle.be_paged_reading.specs.Version.{IsVersion}

-- A page is still a version after pages were only read.
pub version_since : (s t : ℕ → PageState) (v w : ℕ → ℕ → ℕ) (page : ℕ) (volume : State) → t ≡ s → w ≡ v → IsVersion s v page volume → IsVersion t w page volume
version_since s t v w page volume same_page_state same_words h =
    subst (λ (x : ℕ → PageState). IsVersion x w page volume) (sym same_page_state) (subst (λ (x : ℕ → ℕ → ℕ). IsVersion s x page volume) (sym same_words) h)
