-- What the calls on the texts of queries write.
use Rattle.std.specs.Prelude.{◌≡◌, ◌⊎◌, ℕ, IsUtf8, List, None, length}
use Rattle.be_query.specs.Faults.{fault}
use Rattle.be_query.specs.Grammar.{Formula, IsTextOf}
use Rattle.be_query_text.specs.Described.{Description, described, leaves}
use Rattle.be_query_text.specs.Places.{places}
use Rattle.be_query_text.specs.EncodedComparisons.{bytes_of, encoded_from}
use Rattle.be_query_text.specs.declared.encoding.EncodedComparison.{EncodedComparison}
use Rattle.bestore_c.specs.Places.{over}
use Rattle.bestore_c.specs.declared.handle.Counts.{Counts}

-- How many comparisons there are, how many bytes these take, and as many of both as fit.
pub record Lists (ds : List Description) (counts : Counts) (rows listed : List EncodedComparison)
    (places filled : List ℕ) : Type 0 where
  pub comparisons : counts.operations ≡ length (encoded_from 0 ds)
  pub list : listed ≡ over (encoded_from 0 ds) rows
  pub bytes : counts.bytes ≡ length (bytes_of ds)
  pub text : filled ≡ over (bytes_of ds) places

-- The comparisons of the tree that a text encodes, each with its place in the text.
abbrev pub ListsComparisons : List ℕ → Counts → List EncodedComparison → List EncodedComparison
    → List ℕ → List ℕ → Type 0
ListsComparisons text counts rows listed bytes filled = (fault text ≡ None) × (tree : Formula)
    × IsTextOf text tree
    × Lists (described (leaves tree) (places text)) counts rows listed bytes filled

-- A text that a call makes from another text, as far as there is room. The call returns 70 if the
-- other text isn't valid UTF-8, and 10 if memory runs out.
abbrev pub MakesText : (List ℕ → Type 0) → List ℕ → List ℕ → List ℕ → ℕ → ℕ → Type 0
MakesText is_made text bytes filled count code =
    ((made : List ℕ) × is_made made × (code ≡ 0) × (count ≡ length made)
    × (filled ≡ over made bytes))
    ⊎ ((code ≡ 70) × (¬ (IsUtf8 text)) × (count ≡ 0))
    ⊎ ((code ≡ 10) × (count ≡ 0))
