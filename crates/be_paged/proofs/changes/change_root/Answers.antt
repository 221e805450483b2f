use Rattle.std.proofs.Common.{◌≡◌, ℕ, List, true, false, ap, sym, subst, ◌∙◌, rules, arith, length}
use Rattle.be_value.specs.Key.{key}
use Rattle.std.specs.Option.{option_map, option_copied}
use Rattle.be_pages.specs.Pages.{Swaps}
use Rattle.be_tree_reading.specs.Pair.{Pair}
use Rattle.be_tree_reading.specs.Tree.{pairs, pages}
use Rattle.be_tree_reading.proofs.Frame.{swaps_trans, swaps_since, swaps_start, start_trans}
use Rattle.be_volume.specs.Indices.{unpaired}
use Rattle.be_paged_reading.specs.Catalog.{IsIndexOf}
use Rattle.be_paged.specs.Changes.{repaired, key_taken, key_put}
use Rattle.be_paged.proofs.Applying.Composing.{tree_read, start_since}
use Rattle.be_paged.proofs.IndexEntries.Repairs.{taken, entered, lies, Leaves, HasNone, key_there, seen_some, seen_none, seen_at}
use Rattle.be_paged.proofs.IndexEntries.Settled.{no_key}
use Rattle.be_paged.proofs.Sizes.Stopping.{taken_size, entered_size}
use Rattle.be_tree.proofs.Shape.Parts.{on_err}
use Rattle.be_paged.specs.Stops.{StopsTree}
use Rattle.be_paged.proofs.changes.change_root.Goals as goal

pub returns-then-holds_both-clause-grows : goal.returns-then-holds_both-clause-grows
returns-then-holds_both-clause-grows g c =
    let read = tree_read g.R.Look.kept g.R.Look.page_state g.R.Look.words c.args.root c.args.room.now c.holds_both.new.look c.holds_both.ensures.unchanged c.requires.tree in
    (read.tree, read.swaps, omega (arith, ap (λ (w : ℕ → ℕ → ℕ). length (pairs w c.args.root)) c.holds_both.ensures.unchanged.words))

pub returns-then-holds_both-clause-keys : goal.returns-then-holds_both-clause-keys
returns-then-holds_both-clause-keys g c = λ index h ready.
    let found = c.holds_both.ensures.found c.if-holds_both.true in
    let leaves = seen_at (Leaves c.args.kind c.args.node (option_copied c.args.new)) _ found.0 (seen_some (λ k. k.items) (Leaves c.args.kind c.args.node (option_copied c.args.new)) c.key_in-enters.result c.key_in-enters.ensures.some) found.1 in
    subst (λ (w : ℕ → ℕ → ℕ). IsIndexOf (pairs w c.args.root) (repaired index c.args.node (option_copied c.args.new))) (sym c.holds_both.ensures.unchanged.words)
    (lies index c.args.kind c.args.node (option_copied c.args.old) c.ranges.node.fits ready (pairs (g.R.Look.words c.args.room.now) c.args.root) found.0 (option_copied c.args.new) leaves ready.indexable found.2 h)

pub returns-clause-grows : goal.returns-clause-grows
returns-clause-grows g c =
    let w = g.R.Look.words in
    let read = c.holds_both.new.look in
    let mid = c.turn_key.new.room in
    let new = c.turn_key-2.new.room in
    let first = swaps_since g.R.Look.kept g.R.Look.page_state g.R.Look.words (pages (w read) c.args.root) (pages (w mid) c.in_ok-rest.rest) c.args.room.now read mid c.holds_both.ensures.unchanged c.in_ok-rest.ensures.ok.swaps in
    let leaves = option_map (λ k. k.items) c.key_in-leaves.result in
    let enters = option_map (λ k. k.items) c.key_in-enters.result in
    let out : pairs (w mid) c.in_ok-rest.rest ≡ key_taken leaves (pairs (w read) c.args.root) = c.in_ok-rest.ensures.ok.has_pairs in
    let back : pairs (w new) c.in_ok-last.last ≡ key_put enters (pairs (w mid) c.in_ok-rest.rest) = c.in_ok-last.ensures.ok.has_pairs in (
      c.in_ok-last.ensures.ok.tree,
      swaps_trans g.R.Look.kept g.R.Look.page_state g.R.Look.words (pages (w c.args.room.now) c.args.root) (pages (w mid) c.in_ok-rest.rest) (pages (w new) c.in_ok-last.last) c.args.room.now mid new
          (subst (λ (v : ℕ → ℕ → ℕ). Swaps g.R.Look.kept g.R.Look.page_state g.R.Look.words (pages v c.args.root) (pages (w mid) c.in_ok-rest.rest) c.args.room.now mid) c.holds_both.ensures.unchanged.words first)
          c.in_ok-last.ensures.ok.swaps,
      omega (
        arith,
        ap (λ (v : ℕ → ℕ → ℕ). length (pairs v c.args.root)) c.holds_both.ensures.unchanged.words,
        ap (length {A = Pair}) out,
        taken_size leaves (pairs (w read) c.args.root),
        ap (length {A = Pair}) back,
        entered_size c.args.kind c.args.node (option_copied c.args.new) enters (pairs (w mid) c.in_ok-rest.rest)
            (seen_some (λ k. k.items) (Leaves c.args.kind c.args.node (option_copied c.args.new)) c.key_in-enters.result c.key_in-enters.ensures.some),
      ),
    )

pub returns-clause-keys : goal.returns-clause-keys
returns-clause-keys g c = λ index h ready.
    let w = g.R.Look.words in
    let node = c.args.node in
    let kind = c.args.kind in
    let items = pairs (w c.args.room.now) c.args.root in
    let leaves = option_map (λ k. k.items) c.key_in-leaves.result in
    let enters = option_map (λ k. k.items) c.key_in-enters.result in
    let out = taken index kind node (option_copied c.args.old) c.ranges.node.fits ready items leaves (seen_some (λ k. k.items) (Leaves kind node (option_copied c.args.old)) c.key_in-leaves.result c.key_in-leaves.ensures.some)
    (seen_none (λ k. k.items) (HasNone kind (option_copied c.args.old)) c.key_in-leaves.result c.key_in-leaves.ensures.none) h in
    let mid = c.in_ok-rest.ensures.ok.has_pairs ∙ ap (λ (v : ℕ → ℕ → ℕ). key_taken leaves (pairs v c.args.root)) c.holds_both.ensures.unchanged.words in
    let rest = subst (λ (xs : List Pair). IsIndexOf xs (unpaired index node)) (sym mid) out in
    subst (λ (xs : List Pair). IsIndexOf xs (repaired index node (option_copied c.args.new))) (sym c.in_ok-last.ensures.ok.has_pairs)
    (entered index kind node (option_copied c.args.old) c.ranges.node.fits ready (pairs (w c.turn_key.new.room) c.in_ok-rest.rest) enters (option_copied c.args.new)
    (seen_some (λ k. k.items) (Leaves kind node (option_copied c.args.new)) c.key_in-enters.result c.key_in-enters.ensures.some)
    (seen_none (λ k. k.items) (HasNone kind (option_copied c.args.new)) c.key_in-enters.result c.key_in-enters.ensures.none) rest)

clash : false ≡ true → ⊥
clash e = cc

pub returns-clause-stays : goal.returns-clause-stays
returns-clause-stays g c = λ v of_kind indexable was is found.
    let kind = c.args.kind in
    let node = c.args.node in
    let leaves = key_there kind node (option_copied c.args.old) (option_map (λ k. k.items) c.key_in-leaves.result)
    (seen_some (λ k. k.items) (Leaves kind node (option_copied c.args.old)) c.key_in-leaves.result c.key_in-leaves.ensures.some)
    (seen_none (λ k. k.items) (HasNone kind (option_copied c.args.old)) c.key_in-leaves.result c.key_in-leaves.ensures.none) v was of_kind indexable in
    let enters = key_there kind node (option_copied c.args.new) (option_map (λ k. k.items) c.key_in-enters.result)
    (seen_some (λ k. k.items) (Leaves kind node (option_copied c.args.new)) c.key_in-enters.result c.key_in-enters.ensures.some)
    (seen_none (λ k. k.items) (HasNone kind (option_copied c.args.new)) c.key_in-enters.result c.key_in-enters.ensures.none) v is of_kind indexable in
    absurd (clash (sym c.if-holds_both.false ∙ c.holds_both.ensures.finds (key v node) leaves enters found))

pub returns-clause-apart : goal.returns-clause-apart
returns-clause-apart g c = λ v ne was is.
    let kind = c.args.kind in
    let node = c.args.node in
    let leaves = no_key kind node (option_copied c.args.old) (option_map (λ k. k.items) c.key_in-leaves.result)
    (seen_some (λ k. k.items) (Leaves kind node (option_copied c.args.old)) c.key_in-leaves.result c.key_in-leaves.ensures.some) v was ne in
    let enters = no_key kind node (option_copied c.args.new) (option_map (λ k. k.items) c.key_in-enters.result)
    (seen_some (λ k. k.items) (Leaves kind node (option_copied c.args.new)) c.key_in-enters.result c.key_in-enters.ensures.some) v is ne in
    c.in_ok-last.ensures.none enters ∙ c.in_ok-rest.ensures.none leaves

pub returns-in_err-rest-clause-refused : goal.returns-in_err-rest-clause-refused
returns-in_err-rest-clause-refused g c =
    let back = start_since g.R.Look.kept g.R.Look.page_state g.R.Look.words c.args.room.now c.holds_both.new.look c.turn_key.new.room c.holds_both.ensures.unchanged c.in_err-rest.ensures.err in
    let read = tree_read g.R.Look.kept g.R.Look.page_state g.R.Look.words c.args.root c.args.room.now c.holds_both.new.look c.holds_both.ensures.unchanged c.requires.tree in
    let k : StopsTree g.R.Look.kept g.R.Look.page_state g.R.Look.words c.args.root c.args.room.now c.turn_key.new.room = record {
      between = c.holds_both.new.look;
      now = c.args.root;
      tree = read.tree;
      swaps = read.swaps;
      few = omega (arith, ap (length {A = Pair}) read.has_pairs);
      takes = c.in_err-rest.ensures.takes;
    } in
    (on_err _ back, search rules, on_err _ k)

pub returns-in_err-last-clause-refused : goal.returns-in_err-last-clause-refused
returns-in_err-last-clause-refused g c =
    let mid = c.turn_key.new.room in
    let more = start_trans g.R.Look.kept g.R.Look.page_state g.R.Look.words c.holds_both.new.look mid c.turn_key-2.new.room
    (swaps_start g.R.Look.kept g.R.Look.page_state g.R.Look.words _ _ c.holds_both.new.look mid c.in_ok-rest.ensures.ok.swaps) c.in_err-last.ensures.err in
    let back = start_since g.R.Look.kept g.R.Look.page_state g.R.Look.words c.args.room.now c.holds_both.new.look c.turn_key-2.new.room c.holds_both.ensures.unchanged more in
    let w = g.R.Look.words in
    let read = c.holds_both.new.look in
    let leaves = option_map (λ k. k.items) c.key_in-leaves.result in
    let first = swaps_since g.R.Look.kept g.R.Look.page_state g.R.Look.words (pages (w read) c.args.root) (pages (w mid) c.in_ok-rest.rest) c.args.room.now read mid c.holds_both.ensures.unchanged c.in_ok-rest.ensures.ok.swaps in
    let out : pairs (w mid) c.in_ok-rest.rest ≡ key_taken leaves (pairs (w read) c.args.root) = c.in_ok-rest.ensures.ok.has_pairs in
    let k : StopsTree g.R.Look.kept g.R.Look.page_state g.R.Look.words c.args.root c.args.room.now c.turn_key-2.new.room = record {
      between = mid;
      now = c.in_ok-rest.rest;
      tree = c.in_ok-rest.ensures.ok.tree;
      swaps = subst (λ (v : ℕ → ℕ → ℕ). Swaps g.R.Look.kept g.R.Look.page_state g.R.Look.words (pages v c.args.root) (pages (w mid) c.in_ok-rest.rest) c.args.room.now mid) c.holds_both.ensures.unchanged.words first;
      few = omega (
        arith,
        ap (λ (v : ℕ → ℕ → ℕ). length (pairs v c.args.root)) c.holds_both.ensures.unchanged.words,
        ap (length {A = Pair}) out,
        taken_size leaves (pairs (w read) c.args.root),
      );
      takes = c.in_err-last.ensures.takes;
    } in
    (on_err _ back, search rules, on_err _ k)
