-- A file's history after entries were added.
use Rattle.std.proofs.Common.{arith, ◌≡◌, ℕ, ◌+◌, List, [], ◌∷◌, ◌++◌, drop, length, map, sym, ◌∙◌, ap, subst, take}
use Rattle.std.proofs.lemmas.List.{drop-append-le, length-append, length-drop, length-map, map-append, take-append-le}
use Rattle.sqlite_trees.specs.Tree.{Trees}
use Rattle.be_journal.specs.Journal.{replay}
use Rattle.be_journal.specs.declared.entries.Entry.{Entry as Transaction}
use Rattle.be_kept.specs.Batches.{written_of}
use Rattle.be_kept.specs.History.{HasHistory, HasState}
use Rattle.be_kept.specs.Rows.{Written, after, entry_row, entry_rows}

rows_of_both : (number : ℕ) (xs ys : List Written)
    → entry_rows number (xs ++ ys) ≡ entry_rows number xs ++ entry_rows (number + length xs) ys
rows_of_both number [] ys =
    let same : number ≡ number + length {A = Written} [] = omega (arith) in
    ap (λ n. entry_rows n ys) same
rows_of_both number (x ∷ xs) ys =
    let same : number + 1 + length xs ≡ number + length (x ∷ xs) = omega (arith) in
    ap (λ rows. entry_row (number + 1) x ∷ rows)
    (rows_of_both (number + 1) xs ys ∙ ap (λ n. entry_rows (number + 1) xs ++ entry_rows n ys) same)

pub history_after : (past more : List Transaction) (number : ℕ) (added : List Written) (trees : Trees)
    → HasHistory past trees → length past ≡ number → added ≡ map written_of more
    → HasHistory (past ++ more) (after number added trees)
history_after past more number added trees has count are =
    let first = has.first in
    let rest = map written_of (drop first past) in
    let kept : replay (take first past) ≡ replay (take first (past ++ more)) =
    ap replay (sym (take-append-le first past more has.within)) in
    let split : map written_of (drop first (past ++ more)) ≡ rest ++ added =
    ap (map written_of) (drop-append-le first past more has.within)
    ∙ map-append written_of (drop first past) more ∙ ap (λ x. rest ++ x) (sym are) in
    let last : first + length rest ≡ number =
    omega (arith, has.within, count, length-map (drop first past) written_of, length-drop first past) in
    record {
      first = first;
      within = omega (arith, has.within, length-append past more);
      about = has.about;
      state = subst (HasState (after number added trees)) kept (record {
        batches = has.state.batches;
        rows = has.state.rows;
        listing = has.state.listing;
        next = has.state.next;
      });
      entries = ap (λ rows. rows ++ entry_rows number added) has.entries
          ∙ sym (ap (entry_rows first) split ∙ rows_of_both first rest added
          ∙ ap (λ n. entry_rows first rest ++ entry_rows n added) last);
    }
