use Rattle.std.specs.FinMap as fin
use Rattle.std.specs.FinMap.Entries.{is_sorted-where_key}
use Rattle.std.specs.List.{flat_map}
use Rattle.be_order.specs.Ordered.{in_order, is_after, key_cmp, keyed}
use Rattle.be_order.proofs.Cursors.{after_part}
use Rattle.be_order.proofs.laws.next_page_goes_on.Goals as goal

pub returns : goal.returns
returns c = λ s by nodes descending cursor most.
    after_part descending most cursor (in_order s by descending nodes)
    (is_sorted-where_key (key_cmp descending) (is_after descending cursor) _ (fin.entries_sorted (fin.from_entries {R = key_cmp descending} (flat_map (keyed s by) nodes))))
