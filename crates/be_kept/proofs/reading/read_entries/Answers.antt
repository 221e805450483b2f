use Rattle.std.proofs.Common.{rules, arith, ◌≡◌, ◌∷◌, [], ◌++◌, ◌+◌, length, unwrap_or, refl, sym, ◌∙◌, ap}
use Rattle.std.proofs.lemmas.List.{append-nil, length-map, length_push}
use Rattle.be_kept.proofs.Rows.{ends_after, read_next, written_one}
use Rattle.be_kept.proofs.Scanning.{from_first, had_left, has_left}
use Rattle.sqlite_trees.specs.View.{IsClean, View}
use Rattle.be_kept.specs.Rows.{entry_row, entry_rows, entry_tree, written}
use Rattle.be_kept.proofs.reading.read_entries.Goals as goal

pub rows-init : goal.rows-init
rows-init g c = (
  rw (c.new-entries.ensures.items) (search rules),
  c.in_ok-seek.ensures.live,
  λ clean. (
    (g.S.Store.view c.args.store.now).trees entry_tree,
    rw (c.in_ok-seek.ensures.ok clean, c.new-row.ensures, from_first _ ((g.S.Store.view c.args.store.now).trees entry_tree)) refl,
    rw c.new-entries.ensures.items refl,
  ),
  λ clean.
      let ok = c.in_ok-seek.ensures.ok clean in
      ok ∙ ap (λ cursors. record (g.S.Store.view c.args.store.now) { cursors = cursors }) (sym (ap (λ (v : View). v.cursors) ok)),
  omega (arith, c.seek.ensures.quiet.clean),
)

pub rows-preserved : goal.rows-preserved
rows-preserved g c = (
  rw c.in_ok-push.ensures.items (omega (arith, c.rows.invariant.0, length_push c.rows.entries.items c.in-Some-2.entry)),
  c.in_ok-next.ensures.stay 0 c.rows.invariant.1,
  λ clean.
      let old = g.S.Store.view c.rows.store in
      let new = g.S.Store.view c.next.new.self in
      let was = c.rows.invariant.2 (omega (arith, c.next.ensures.quiet.clean)) in
      let step = rw c.if-not-branch.false at (c.in_ok-next.ensures.ok clean) in
      let split = had_left old new c.next.new.row was.0 was.1 step in
      let e = c.in-Some-2.entry in
      let found : c.next.new.row ≡ entry_row c.rows.next (written_one e) = search rules in
      let number : c.rows.next ≡ c.args.number + length c.rows.entries.items + 1 = omega (arith, c.rows.invariant.0) in
      let rows = entry_rows c.args.number (written c.rows.entries.items) in
      let all : (g.S.Store.view c.args.store.now).trees entry_tree ≡ entry_rows c.args.number (written c.push.new.self.items) ++ step.0 =
      was.2 ∙ ap (λ l. rows ++ l) split ∙ ap (λ row. rows ++ row ∷ step.0) (found ∙ ap (λ n. entry_row n (written_one e)) number)
      ∙ rw c.in_ok-push.ensures.items (read_next c.args.number c.rows.entries.items e step.0) in
      (step.0, has_left old new c.next.new.row step, all),
  λ clean.
      let was = c.rows.invariant.3 (omega (arith, c.next.ensures.quiet.clean)) in
      (c.in_ok-next.ensures.moves clean).same
      ∙ ap (λ (m : View). record m { cursors = (g.S.Store.view c.next.new.self).cursors }) was,
  omega (arith, c.next.ensures.quiet.clean, c.rows.invariant.4),
)

pub returns-then-not-branch-clause-ends : goal.returns-then-not-branch-clause-ends
returns-then-not-branch-clause-ends g c clean later above =
    let before : IsClean (g.S.Store.view c.rows.store) = omega (arith, c.next.ensures.quiet.clean, clean) in
    let was = c.rows.invariant.2 before in
    let step = rw c.if-not-branch.true at (c.in_ok-next.ensures.ok clean) in
    let none : was.0 ≡ [] = ap (λ o. unwrap_or o []) (sym was.1 ∙ step.0) in
    let read = entry_rows c.args.number (written c.rows.entries.items) in
    let rows : (g.S.Store.view c.next.new.self).trees entry_tree ≡ read =
    ap (λ (v : View). v.trees entry_tree) step.1 ∙ ap (λ (v : View). v.trees entry_tree) (c.rows.invariant.3 before)
    ∙ was.2 ∙ ap (λ l. read ++ l) none ∙ append-nil read in
    rw rows (ends_after c.args.number (written c.rows.entries.items) [] (λ n less. tt) later (omega (arith, length-map c.rows.entries.items written_one, above)))
