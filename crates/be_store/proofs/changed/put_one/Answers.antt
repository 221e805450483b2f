use Rattle.std.proofs.Common.{ℕ, List, sym, ap, subst, ◌∙◌}
use Rattle.std.specs.List.Sorted.{IsStrictlyIncreasing}
use Rattle.be_store.specs.Live.{is_among}
use Rattle.be_store.proofs.Among.{among_insert, found_here, lacking_here, of_slice, rising_in_gap, there_already}
use Rattle.be_store.proofs.Answering.{held_at}
use Rattle.be_store.proofs.changed.put_one.Goals as goal

pub returns-in-Ok-clause-both : goal.returns-in-Ok-clause-both
returns-in-Ok-clause-both c n =
    let old = c.args.list.now.items in
    let at = found_here old c.args.number c.in-Ok._there c.binary_search.result (of_slice c.as_slice.result.now old c.args.number c.binary_search.result c.as_slice.ensures.value c.binary_search.ensures.position) c.requires.rising c.in-Ok.is in
    there_already old c.args.number n (held_at old c.args.number c.in-Ok._there at.0 at.1)

pub returns-clause-rising : goal.returns-clause-rising
returns-clause-rising c =
    let old = c.args.list.now.items in
    let gap = lacking_here old c.args.number c.in-Err.at c.binary_search.result (of_slice c.as_slice.result.now old c.args.number c.binary_search.result c.as_slice.ensures.value c.binary_search.ensures.position) c.requires.rising c.in-Err.is in
    subst IsStrictlyIncreasing (sym c.in-Ok-insert.ensures.items) (rising_in_gap old c.args.number c.in-Err.at c.requires.rising gap)

pub returns-clause-both : goal.returns-clause-both
returns-clause-both c n =
    ap (λ (l : List ℕ). is_among l n) c.in-Ok-insert.ensures.items ∙ among_insert c.args.list.now.items c.in-Err.at c.args.number n
