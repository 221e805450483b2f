use Rattle.std.proofs.Common.{◌≡◌, ◌≤◌, length}
use Rattle.be_query.specs.Lexing.{all_whole}
use Rattle.be_query_text.specs.Places.{pieces}
use Rattle.be_query_text.specs.Steps.{left}
use Rattle.be_query_text.proofs.places.next_piece.Given as goal

abbrev pub invariant-steps : goal.invariant-steps
invariant-steps l = record {
  within : length l.rest ≤ length l.bytes;
  same : pieces (left l.total l.rest) ≡ pieces (left l.total l.bytes);
  whole : all_whole (left l.total l.rest) ≡ all_whole (left l.total l.bytes);
}

abbrev pub decreases-steps : goal.decreases-steps
decreases-steps l = length l.rest
