use Rattle.std.proofs.Common.{◌≡◌, ◌-◌, ◌≤◌, false, drop, length}
use Rattle.be_query.specs.Lexing.{word_span}
use Rattle.be_query.proofs.Spans.{shifted}
use Rattle.be_query_text.proofs.places.word_len.Given as goal

abbrev pub invariant-word : goal.invariant-word
invariant-word l = record {
  within : l.at ≤ length l.bytes;
  so_far : shifted l.at (word_span false (drop l.at l.bytes)) ≡ word_span false l.bytes;
}

abbrev pub decreases-word : goal.decreases-word
decreases-word l = length l.bytes - l.at
