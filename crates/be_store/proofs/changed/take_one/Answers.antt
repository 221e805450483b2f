use Rattle.std.proofs.Common.{◌&&◌, ◌==◌, not, ℕ, List, sym, ap, subst, ◌∙◌}
use Rattle.std.specs.List.Sorted.{IsStrictlyIncreasing}
use Rattle.be_store.specs.Live.{is_among}
use Rattle.be_store.proofs.Among.{of_slice, among_remove, found_here, gap_lacks, gone_already, lacking_here, rising_remove}
use Rattle.be_store.proofs.changed.take_one.Goals as goal

pub returns-clause-rising : goal.returns-clause-rising
returns-clause-rising c =
    let old = c.args.list.now.items in
    let at = found_here old c.args.number c.in-Ok.at c.binary_search.result (of_slice c.as_slice.result.now c.args.list.now.items c.args.number c.binary_search.result c.as_slice.ensures.value c.binary_search.ensures.position) c.requires c.in-Ok.is in
    subst IsStrictlyIncreasing (sym c.remove.ensures.items) (rising_remove old c.in-Ok.at c.requires at.0)

pub returns-clause-left : goal.returns-clause-left
returns-clause-left c n =
    let old = c.args.list.now.items in
    let at = found_here old c.args.number c.in-Ok.at c.binary_search.result (of_slice c.as_slice.result.now c.args.list.now.items c.args.number c.binary_search.result c.as_slice.ensures.value c.binary_search.ensures.position) c.requires c.in-Ok.is in
    ap (λ (l : List ℕ). is_among l n) c.remove.ensures.items ∙ (among_remove old c.in-Ok.at n c.requires at.0 ∙ ap (λ x. is_among old n && not (x == n)) at.1)

pub returns-in-Err-clause-left : goal.returns-in-Err-clause-left
returns-in-Err-clause-left c n =
    let old = c.args.list.now.items in
    gone_already old c.args.number n (gap_lacks old c.args.number c.in-Err._gap
    (lacking_here old c.args.number c.in-Err._gap c.binary_search.result (of_slice c.as_slice.result.now old c.args.number c.binary_search.result c.as_slice.ensures.value c.binary_search.ensures.position) c.requires c.in-Err.is))
