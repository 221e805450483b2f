-- Rows that are put after the last one.
use native.Mathlib.Numerals.{unary_clauses}
use mathlib.Core.Path.{fun_ext}
use Rattle.std.proofs.Common.{arith, inl, inr, ◌==◌, get_or, take, ◌≡◌, ◌<◌, ℕ, ◌+◌, pos, List, [], ◌∷◌, ◌++◌, length, refl, sym, ◌∙◌, ap, subst}
use Rattle.std.proofs.lemmas.Bool.{cases_Bool}
use Rattle.std.proofs.lemmas.Bool.Decides.{nat_tests}
use Rattle.std.proofs.Math.Seq.{take-suc}
use Rattle.std.proofs.lemmas.Int.{ints}
use Rattle.std.proofs.lemmas.List.{append_assoc, length-map, map_push}
use Rattle.std.specs.List.{AllByRecursion}
use Rattle.std.specs.declared.cmp.Ordering.TheVariants.{Less}
use Rattle.sqlite_value.proofs.OrderLemmas.{value_cmp-Int}
use Rattle.sqlite_value.specs.Order.{Row, value_cmp}
use Rattle.sqlite_value.specs.declared.value.Value.TheVariants.{Int}
use Rattle.sqlite_trees.specs.Tree.{Trees, put_row, rowid, with_tree}
use Rattle.be_kept.specs.Rows.{EndsAt, Written, entry_row, entry_rows, entry_tree, written}
use Rattle.be_kept.specs.declared.entry.Entry.{Entry}

pub lower : (m n : ℕ) → m < n → value_cmp (Int (pos m)) (Int (pos n)) ≡ Less
lower m n less = value_cmp-Int (pos m) (pos n) ∙ grind (arith, ints, nat_tests)

-- each row with a lower number stays before the new one
put_last : (new : Row) (rows : List Row)
    → AllByRecursion (λ row. value_cmp (rowid row) (rowid new) ≡ Less) rows
    → put_row new rows ≡ rows ++ new ∷ []
put_last new [] below = refl
put_last new (row ∷ rows) below = rw (below.0) (ap (λ x. row ∷ x) (put_last new rows below.1))

all_append : (P : Row → Type 0) (rows more : List Row) → AllByRecursion P rows
    → AllByRecursion P more → AllByRecursion P (rows ++ more)
all_append P [] more all also = also
all_append P (row ∷ rows) more all also = (all.0, all_append P rows more all.1 also)

-- the entries end at the last one's number
pub ends_after : (number : ℕ) (added : List Written) (rows : List Row) → EndsAt number rows
    → EndsAt (number + length added) (rows ++ entry_rows number added)
ends_after number [] rows ends later above =
    all_append _ rows [] (ends later (omega (arith))) tt
ends_after number (it ∷ more) rows ends later above =
    subst (λ all. AllByRecursion (λ row. value_cmp (rowid row) (Int (pos later)) ≡ Less) all)
    (append_assoc rows (entry_row (number + 1) it ∷ []) (entry_rows (number + 1) more))
    (ends_after (number + 1) more (rows ++ entry_row (number + 1) it ∷ [])
    (λ next less. all_append _ rows (entry_row (number + 1) it ∷ []) (ends next (omega (arith)))
    (lower (number + 1) next less, tt)) later (omega (arith)))

pub one_more : (number : ℕ) (added : List Written) (it : Written)
    → entry_rows number (added ++ it ∷ [])
    ≡ entry_rows number added ++ entry_row (number + length added + 1) it ∷ []
one_more number [] it =
    let same : number + 1 ≡ number + length {A = Written} [] + 1 = omega (arith) in
    ap (λ n. entry_row n it ∷ []) same
one_more number (first ∷ more) it =
    let same : number + 1 + length more + 1 ≡ number + length (first ∷ more) + 1 = omega (arith) in
    ap (λ rows. entry_row (number + 1) first ∷ rows)
    (one_more (number + 1) more it ∙ ap (λ n. entry_rows (number + 1) more ++ entry_row n it ∷ []) same)

-- the next entry's row is put at the end
pub put_next : (number : ℕ) (added : List Written) (it : Written) (rows : List Row)
    → EndsAt number rows
    → put_row (entry_row (number + length added + 1) it) (rows ++ entry_rows number added)
    ≡ rows ++ entry_rows number (added ++ it ∷ [])
put_next number added it rows ends =
    put_last (entry_row (number + length added + 1) it) (rows ++ entry_rows number added)
    (ends_after number added rows ends (number + length added + 1) (omega (arith)))
    ∙ append_assoc rows (entry_rows number added) _
    ∙ ap (λ more. rows ++ more) (sym (one_more number added it))

abbrev pub written_one : Entry → Written
written_one e = (e.pass, e.batch.items)

-- one entry more was read
pub read_next : (number : ℕ) (done : List Entry) (e : Entry) (rest : List Row)
    → entry_rows number (written done) ++ entry_row (number + length done + 1) (written_one e) ∷ rest
    ≡ entry_rows number (written (done ++ e ∷ [])) ++ rest
read_next number done e rest =
    let it = written_one e in
    let rows = entry_rows number (written done) in
    let all : entry_rows number (written (done ++ e ∷ [])) ≡ rows ++ entry_row (number + length done + 1) it ∷ [] =
    ap (entry_rows number) (map_push written_one done e) ∙ one_more number (written done) it
    ∙ ap (λ n. rows ++ entry_row (number + n + 1) it ∷ []) (length-map done written_one) in
    sym (ap (λ found. found ++ rest) all ∙ append_assoc rows (entry_row (number + length done + 1) it ∷ []) rest)

-- one entry more was put
pub put_written : (number : ℕ) (done : List Entry) (e : Entry) (rows : List Row) → EndsAt number rows
    → put_row (entry_row (number + length done + 1) (written_one e)) (rows ++ entry_rows number (written done))
    ≡ rows ++ entry_rows number (written (done ++ e ∷ []))
put_written number done e rows ends =
    let it = written_one e in
    ap (λ n. put_row (entry_row (number + n + 1) it) (rows ++ entry_rows number (written done))) (sym (length-map done written_one))
    ∙ put_next number (written done) it rows ends
    ∙ ap (λ all. rows ++ entry_rows number all) (sym (map_push written_one done e))

-- of two changes of one tree, the later one stays
pub rewritten : (trees : Trees) (first second : List Row)
    → with_tree (with_tree trees entry_tree first) entry_tree second ≡ with_tree trees entry_tree second
rewritten trees first second = fun_ext (λ tree.
    elim (cases_Bool (tree == entry_tree)) [ inl same ↦ rw (same) refl | inr other ↦ rw (other) refl ])

-- the entries up to the one after this place
pub take_next : (entries : List Entry) (at : ℕ) (e : Entry) → at < length entries → e ≡ get_or entries at e
    → take (at + 1) entries ≡ take at entries ++ e ∷ []
take_next entries at e inside is =
    simp unary_clauses (take-suc entries at e inside ∙ ap (λ x. take at entries ++ x ∷ []) (sym is))
