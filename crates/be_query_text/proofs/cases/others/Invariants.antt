use Rattle.std.proofs.Common.{◌≡◌, ◌++◌, true, length}
use Rattle.std.specs.Prelude.{encode_utf8_all, string_bytes}
use Rattle.be_query_text.specs.Cases.{others}
use Rattle.be_query_text.proofs.Folds.{are_plain_pairs, others_among}
use Rattle.be_query_text.proofs.cases.others.Given as goal

abbrev pub invariant-pairs : goal.invariant-pairs
invariant-pairs l = record {
  plain : are_plain_pairs l.rest ≡ true;
  so_far : string_bytes l.others ++ encode_utf8_all (others_among l.folded l.rest) ≡ encode_utf8_all (others l.folded);
}

abbrev pub decreases-pairs : goal.decreases-pairs
decreases-pairs l = length l.rest
