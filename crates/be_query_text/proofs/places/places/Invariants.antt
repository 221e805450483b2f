use Rattle.std.proofs.Common.{◌≡◌, ◌++◌, ◌≤◌, true, length}
use Rattle.be_query.specs.Lexing.{all_whole}
use Rattle.be_query_text.specs.Places.{pieces, places, three_by_three}
use Rattle.be_query_text.specs.Steps.{left}
use Rattle.be_query_text.proofs.places.places.Given as goal

abbrev pub invariant-comparisons : goal.invariant-comparisons
invariant-comparisons l = record {
  within : length l.rest ≤ length l.bytes;
  whole : all_whole (left (length l.bytes) l.rest) ≡ true;
  so_far : l.places.items ++ three_by_three (pieces (left (length l.bytes) l.rest)) ≡ places l.text;
}

abbrev pub decreases-comparisons : goal.decreases-comparisons
decreases-comparisons l = length l.rest
