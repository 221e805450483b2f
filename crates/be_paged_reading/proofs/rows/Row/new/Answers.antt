use Rattle.std.proofs.Common.{inl}
use Rattle.be_paged_reading.proofs.rows.Row.new.Goals as goal

pub returns-clause-row : goal.returns-clause-row
returns-clause-row c = λ page_state words tree. record {
  tree = tree;
  cursor = record { walks = c.new.ensures.cursor page_state words; among = inl (c.new.ensures.remaining words) };
  is_known = λ nodes catalog valid. tt;
}
