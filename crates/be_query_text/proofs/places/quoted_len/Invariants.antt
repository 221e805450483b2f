use Rattle.std.proofs.Common.{◌≡◌, ◌-◌, ◌≤◌, false, drop, length}
use Rattle.be_query.specs.Lexing.{quoted_span}
use Rattle.be_query.proofs.Spans.{shifted}
use Rattle.be_query_text.proofs.places.quoted_len.Given as goal

abbrev pub invariant-quoted : goal.invariant-quoted
invariant-quoted l = record {
  within : l.at ≤ length l.bytes;
  so_far : shifted l.at (quoted_span l.quote false (drop l.at l.bytes)) ≡ quoted_span l.quote false l.bytes;
}

abbrev pub decreases-quoted : goal.decreases-quoted
decreases-quoted l = length l.bytes - l.at
