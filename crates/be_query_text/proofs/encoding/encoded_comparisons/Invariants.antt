use Rattle.std.proofs.Common.{◌≡◌, ◌++◌, length, map}
use Rattle.be_query_text.specs.Described.{reported}
use Rattle.be_query_text.specs.EncodedComparisons.{bytes_of, encoded_from}
use Rattle.be_query_text.proofs.encoding.encoded_comparisons.Given as goal

abbrev pub invariant-comparisons : goal.invariant-comparisons
invariant-comparisons l = record {
  encoded_comparisons : l.comparisons.items ++ encoded_from (length l.bytes.items) (map reported l.rest) ≡ encoded_from 0 (map reported l.compared);
  joined : l.bytes.items ++ bytes_of (map reported l.rest) ≡ bytes_of (map reported l.compared);
}

abbrev pub decreases-comparisons : goal.decreases-comparisons
decreases-comparisons l = length l.rest
