use Rattle.std.proofs.Common.{◌≡◌, true, sym, subst}
use Rattle.std.specs.List.{insert}
use Rattle.std.specs.List.Sorted.{IsStrictlyIncreasing}
use Rattle.be_store.specs.Live.{is_among}
use Rattle.be_store.proofs.Among.{of_slice, found_here, kept_insert, lacking_here, on_either, rising_in_gap}
use Rattle.be_store.proofs.Answering.{held_at}
use Rattle.be_store.proofs.named.add_node.Goals as goal

pub returns-in-Ok-clause-has : goal.returns-in-Ok-clause-has
returns-in-Ok-clause-has c h =
    let at = found_here c.args.nodes.now.items c.args.node c.in-Ok.field-0 c.binary_search.result (of_slice c.as_slice.result.now c.args.nodes.now.items c.args.node c.binary_search.result c.as_slice.ensures.value c.binary_search.ensures.position) c.requires.rising c.in-Ok.is in
    held_at c.args.nodes.now.items c.args.node c.in-Ok.field-0 at.0 at.1

pub returns-in-Err-clause-rising : goal.returns-in-Err-clause-rising
returns-in-Err-clause-rising c =
    let old = c.args.nodes.now.items in
    let gap = lacking_here old c.args.node c.in-Err.at c.binary_search.result (of_slice c.as_slice.result.now c.args.nodes.now.items c.args.node c.binary_search.result c.as_slice.ensures.value c.binary_search.ensures.position) c.requires.rising c.in-Err.is in
    on_either c.try_insert.result (c.try_insert.new.self.items ≡ insert old c.in-Err.at c.args.node) (c.try_insert.new.self ≡ c.args.nodes.now) (IsStrictlyIncreasing c.try_insert.new.self.items)
    c.try_insert.ensures.ok c.try_insert.ensures.err
    (λ is. subst IsStrictlyIncreasing (sym is) (rising_in_gap old c.args.node c.in-Err.at c.requires.rising gap))
    (λ same. subst (λ v. IsStrictlyIncreasing v.items) (sym same) c.requires.rising)

pub returns-in-Err-clause-keeps : goal.returns-in-Err-clause-keeps
returns-in-Err-clause-keeps c n has =
    let old = c.args.nodes.now.items in
    on_either c.try_insert.result (c.try_insert.new.self.items ≡ insert old c.in-Err.at c.args.node) (c.try_insert.new.self ≡ c.args.nodes.now) (is_among c.try_insert.new.self.items n ≡ true)
    c.try_insert.ensures.ok c.try_insert.ensures.err
    (λ is. subst (λ l. is_among l n ≡ true) (sym is) (kept_insert old c.in-Err.at c.args.node n has))
    (λ same. subst (λ v. is_among v.items n ≡ true) (sym same) has)
