-- If two values are printed as the same text, they are equal.
use Rattle.std.proofs.Common.{◌≡◌, ℕ, ◌+◌, ◌^◌, ◌<◌, ◌≤◌, List, [], ◌∷◌, ◌++◌, length, length-append, drop, All, Ok, codes, refl, sym, ap, ◌∙◌, arith}
use Rattle.std.proofs.lemmas.Fmt.{decimal_injective}
use Rattle.std.proofs.lemmas.List.Elements.{All-head, All-tail}
use Rattle.std.specs.List.{flat_map, join_by}
use Rattle.be_journal.specs.Text.{done_text, entry_line, lines_from, op_text}
use Rattle.be_journal.specs.declared.entries.Entry.{Entry}
use Rattle.be_script_language.specs.Request.{asked, write}
use Rattle.be_volume.specs.declared.ops.Done.{Done}
use Rattle.be_volume.specs.declared.ops.Op.{Op}
use Rattle.be_entry_bytes.specs.Encoding.{CanBeDone}
use Rattle.be_journal_text.specs.History.{CanBeOp, CanBeEntry, entry_of}
use Rattle.be_journal_text.specs.Parts.{IsLinePart}
use Rattle.be_journal_text.proofs.Cuts.{after, before, after_line, by_part, done_in, outcomes_part, first_line, ops_part}
use Rattle.be_journal_text.proofs.LineLemmas.{by_read, done_part, done_read, outcomes_read, first_joined, line_after, line_first, op_part, ops_read, rest_joined}
use Rattle.be_journal_text.proofs.OpLemmas.{op_asked}
use Rattle.be_journal_text.proofs.ReadLemmas.{done_long, entry_line_long, entry_made, inside, op_long}

written : (x y : Op) → write (Ok x) ≡ write (Ok y) → x ≡ y
written x y h = cc

same_op : (x y : Op) → CanBeOp x → CanBeOp y → op_text x ≡ op_text y → x ≡ y
same_op x y h g e = written x y (sym (op_asked x h) ∙ (ap asked e ∙ op_asked y g))

same_done : (x y : Done) → CanBeDone x → CanBeDone y → done_text x ≡ done_text y → x ≡ y
same_done x y h g e = sym (done_read x h) ∙ (ap done_in e ∙ done_read y g)

-- strings joined by `; `
same_lists : {X : Type 0} (P : X → Type 0) (text_of : X → List ℕ) → ((x : X) → P x → IsLinePart 59 (text_of x)) → ((x : X) → P x → 1 ≤ length (text_of x)) →
    ((x y : X) → P x → P y → text_of x ≡ text_of y → x ≡ y) → (xs ys : List X) → All P xs → All P ys →
    join_by text_of (codes "; ") xs ≡ join_by text_of (codes "; ") ys → xs ≡ ys
same_lists P text_of each long same [] [] h g e = refl
same_lists P text_of each long same [] (y ∷ ys) h g e = absurd
    (omega (arith, long y (All-head P y ys g), ap length e, length-append (text_of y) (flat_map (λ z. codes "; " ++ text_of z) ys)))
same_lists P text_of each long same (x ∷ xs) [] h g e = absurd
    (omega (arith, long x (All-head P x xs h), ap length e, length-append (text_of x) (flat_map (λ z. codes "; " ++ text_of z) xs)))
same_lists P text_of each long same (x ∷ xs) (y ∷ ys) h g e =
    let can = All-head P x xs h in
    let may = All-head P y ys g in
    let first : text_of x ≡ text_of y = sym (first_joined text_of x xs (each x can)) ∙ (ap (before 59) e ∙ first_joined text_of y ys (each y may)) in
    let rest : join_by text_of (codes "; ") xs ≡ join_by text_of (codes "; ") ys =
    sym (rest_joined text_of x xs (each x can)) ∙ (ap (λ l. drop 1 (after 59 l)) e ∙ rest_joined text_of y ys (each y may)) in
    ap (λ z. z ∷ xs) (same x y can may first) ∙ ap (λ l. y ∷ l) (same_lists P text_of each long same xs ys (All-tail P x xs h) (All-tail P y ys g) rest)

-- the line of an entry
same_entry : (n : ℕ) (e o : Entry) → CanBeEntry e → CanBeEntry o → entry_line n e ≡ entry_line n o → e ≡ o
same_entry n e o w v h =
    let by : e.by ≡ o.by = decimal_injective e.by o.by w.by v.by (sym (by_read n e w) ∙ (ap (by_part n) h ∙ by_read n o v)) in
    let ops : e.ops ≡ o.ops =
    same_lists CanBeOp op_text (λ y k. op_part 59 refl refl y k) op_long same_op e.ops o.ops w.ops v.ops
    (sym (ops_read n e w) ∙ (ap (ops_part n) h ∙ ops_read n o v)) in
    let dones : e.dones ≡ o.dones =
    same_lists CanBeDone done_text (λ y k. done_part 59 refl refl y k) done_long same_done e.dones o.dones w.dones v.dones
    (sym (outcomes_read n e w) ∙ (ap (outcomes_part n) h ∙ outcomes_read n o v)) in
    inside e o (sym (entry_made e w) ∙ (ap (λ b. entry_of b e.ops e.dones) by ∙ (ap (λ l. entry_of o.by l e.dones) ops
    ∙ (ap (λ l. entry_of o.by o.ops l) dones ∙ entry_made o v))))

-- the text of a journal
pub same_lines : (n : ℕ) (es os : List Entry) → All CanBeEntry es → All CanBeEntry os → n + length es ≤ 2 ^ 64 → lines_from n es ≡ lines_from n os → es ≡ os
same_lines n [] [] h g few e = refl
same_lines n [] (o ∷ os) h g few e = absurd (omega (arith, entry_line_long n o, ap length e, length-append (entry_line n o) (lines_from (n + 1) os)))
same_lines n (i ∷ es) [] h g few e = absurd (omega (arith, entry_line_long n i, ap length e, length-append (entry_line n i) (lines_from (n + 1) es)))
same_lines n (i ∷ es) (o ∷ os) h g few e =
    let w = All-head CanBeEntry i es h in
    let v = All-head CanBeEntry o os g in
    let small : n < 2 ^ 64 = omega (arith, few) in
    let fewer : n + 1 + length es ≤ 2 ^ 64 = omega (arith, few) in
    let first : entry_line n i ≡ entry_line n o = sym (line_first n i w small (lines_from (n + 1) es))
    ∙ (ap first_line e ∙ line_first n o v small (lines_from (n + 1) os)) in
    let rest : lines_from (n + 1) es ≡ lines_from (n + 1) os = sym (line_after n i w small (lines_from (n + 1) es))
    ∙ (ap after_line e ∙ line_after n o v small (lines_from (n + 1) os)) in
    ap (λ z. z ∷ es) (same_entry n i o w v first) ∙ ap (λ l. o ∷ l)
    (same_lines (n + 1) es os (All-tail CanBeEntry i es h) (All-tail CanBeEntry o os g) fewer rest)
