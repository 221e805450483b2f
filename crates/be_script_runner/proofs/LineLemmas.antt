-- Lines that end with an LF, and what the batch commands request.
use Rattle.std.proofs.Common.{◌≡◌, ℕ, Bool, true, false, not, List, [], ◌∷◌, ◌++◌, nat_eq, codes, refl, ap, ◌∙◌}
use Rattle.std.proofs.lemmas.Bool.{and_parts}
use Rattle.std.proofs.lemmas.List.Splits.{slice_split-cons_no}
use Rattle.std.specs.List.{list_all, onto_first}
use Rattle.std.specs.Str.{is_utf8, chars}
use Rattle.be_journal_text.proofs.PartLemmas.{in_line}
use Rattle.be_script_language.specs.Request.{asked, begin, commit, lines_of}
use Rattle.be_script_runner.specs.Run.{is_line_end}

no_end : (c : ℕ) → in_line c ≡ true → is_line_end c ≡ false
no_end c h = by (nat_eq c 10) h
  where
    by : (b : Bool) → not b ≡ true → b ≡ false
    by true g = cc
    by false g = refl

-- a line without an LF, and the text after the LF that follows it
pub line_before : (line more : List ℕ) → list_all in_line line ≡ true → lines_of (line ++ 10 ∷ more) ≡ line ∷ lines_of more
line_before [] more h = refl
line_before (c ∷ line) more h =
    let p = and_parts (in_line c) (list_all in_line line) h in
    slice_split-cons_no is_line_end c (line ++ 10 ∷ more) (no_end c p.0) ∙ ap (onto_first c) (line_before line more p.1)

pub begin_asked : asked (codes "begin") ≡ begin
unfolding is_utf8 chars lib.Utf8.encode
begin_asked = refl

pub commit_asked : asked (codes "commit") ≡ commit
unfolding is_utf8 chars lib.Utf8.encode
commit_asked = refl
