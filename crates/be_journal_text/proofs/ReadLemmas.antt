-- Reads printed lists and journals, one element at a time.
use Rattle.std.proofs.Common.{◌≡◌, ℕ, ◌+◌, ◌^◌, ◌<◌, ◌≤◌, true, nat_eq, nat_le, List, [], ◌∷◌, ◌++◌, length, length-append, drop, All, Some, None, codes, refl, sym, ap, ◌∙◌, subst, append_assoc, arith}
use Rattle.std.proofs.lemmas.Bool.Decides.{nat_tests}
use Rattle.std.proofs.lemmas.List.{append-nil}
use Rattle.std.proofs.lemmas.List.Concat.{flat_map-cons}
use Rattle.std.proofs.lemmas.List.Elements.{All-head, All-tail}
use Rattle.std.specs.Fmt.{decimal}
use Rattle.std.specs.List.{flat_map, join_by}
use Rattle.be_journal.specs.Text.{done_text, entry_line, lines_from, op_text}
use Rattle.be_journal.specs.declared.entries.Entry.{Entry}
use Rattle.be_journal.proofs.TextLemmas.{lines_push}
use Rattle.be_volume.specs.declared.ops.Done.{Done}
use Rattle.be_volume.specs.declared.ops.Done.TheVariants.{Node, Unit as Nothing}
use Rattle.be_volume.specs.declared.ops.Op.{Op}
use Rattle.be_volume.specs.declared.ops.Op.TheVariants.{New, Drop, Set, Unset, MkIndex, RmIndex}
use Rattle.be_entry_bytes.specs.Encoding.{CanBeDone}
use Rattle.be_journal_text.specs.History.{CanBeJournal, CanBeOp, CanBeEntry, entry_of}
use Rattle.be_journal_text.specs.Parts.{IsLinePart}
use Rattle.be_journal_text.proofs.LineLemmas.{body, body_line, body_part}

pub inside : {X : Type 0} (x y : X) → Some x ≡ Some y → x ≡ y
inside x y h = cc

pub never_some : {X A : Type 0} (x : X) → None ≡ Some x → A
never_some x h = cc

all_right : {X : Type 0} (P : X → Type 0) (xs ys : List X) → All P (xs ++ ys) → All P ys
all_right P [] ys h = h
all_right P (x ∷ xs) ys h = all_right P xs ys (All-tail P x (xs ++ ys) h)

-- What remains of a list while its text is being read. For any list that was printed as this text,
-- these elements were read, and `rest` is the text of the others.
abbrev pub IsLeft : {X : Type 0} → (X → Type 0) → (X → List ℕ) → List ℕ → List X → List ℕ → Type 0
IsLeft {X} P text_of text read rest =
    (xs : List X) → All P xs → text ≡ join_by text_of (codes "; ") xs → (more : List X) × (xs ≡ read ++ more) × (rest ≡ join_by text_of (codes "; ") more)

-- before anything has been read
pub all_left : {X : Type 0} (P : X → Type 0) (text_of : X → List ℕ) (text : List ℕ) → IsLeft P text_of text [] text
all_left P text_of text xs are is = (xs, refl, is)

-- The text of the first element and the text of the others, if a text joined by `; ` is cut at its
-- first end.
pub joined_cut : {X : Type 0} (P : X → Type 0) (text_of : X → List ℕ) (rest part beyond : List ℕ) → ((y : X) → P y → IsLinePart 59 (text_of y)) →
    ((xs more : List ℕ) → IsLinePart 59 xs → rest ≡ xs ++ 59 ∷ more → (part ≡ xs) × (beyond ≡ more)) → (IsLinePart 59 rest → (part ≡ rest) × (beyond ≡ [])) →
    (y : X) (more : List X) → P y → rest ≡ join_by text_of (codes "; ") (y ∷ more) → (part ≡ text_of y) × (drop 1 beyond ≡ join_by text_of (codes "; ") more)
joined_cut P text_of rest part beyond each ends alone y [] can now =
    let is : rest ≡ text_of y = now ∙ append-nil (text_of y) in
    let cut = alone (subst (λ (l : List ℕ). IsLinePart 59 l) (sym is) (each y can)) in
    (cut.0 ∙ is, ap (λ l. drop 1 l) cut.1)
joined_cut P text_of rest part beyond each ends alone y (z ∷ zs) can now =
    let more = flat_map (λ x. codes "; " ++ text_of x) zs in
    let is : rest ≡ text_of y ++ 59 ∷ 32 ∷ (text_of z ++ more) = now ∙ ap (λ l. text_of y ++ l) (flat_map-cons (λ x. codes "; " ++ text_of x) z zs) in
    let cut = ends (text_of y) (32 ∷ (text_of z ++ more)) (each y can) is in
    (cut.0, ap (λ l. drop 1 l) cut.1)

-- the text of the first element is `part`, and the text of the others is `rest'`
abbrev pub IsCut : {X : Type 0} → (X → Type 0) → (X → List ℕ) → List ℕ → List ℕ → List ℕ → Type 0
IsCut {X} P text_of rest part rest' =
    (y : X) (more : List X) → P y → rest ≡ join_by text_of (codes "; ") (y ∷ more) → (part ≡ text_of y) × (rest' ≡ join_by text_of (codes "; ") more)

-- one more element
pub less_left : {X : Type 0} (P : X → Type 0) (text_of : X → List ℕ) (text rest part rest' : List ℕ) (read read' : List X) (x : X) → 1 ≤ length rest →
    IsLeft P text_of text read rest → IsCut P text_of rest part rest' → ((y : X) → P y → part ≡ text_of y → x ≡ y) → read' ≡ read ++ x ∷ [] →
    IsLeft P text_of text read' rest'
less_left {X} P text_of text rest part rest' read read' x some left cut exact read_is xs are is = let h = left xs are is in by h.0 h.1 h.2
  where
    by : (more : List X) → xs ≡ read ++ more → rest ≡ join_by text_of (codes "; ") more →
        (more : List X) × (xs ≡ read' ++ more) × (rest' ≡ join_by text_of (codes "; ") more)
    by [] same last = absurd (omega (arith, some, ap length last))
    by (y ∷ more) same now =
        let can : P y = All-head P y more (all_right P read (y ∷ more) (subst (All P) same are)) in
        let parted = cut y more can now in
        let here : x ≡ y = exact y can parted.0 in (
          more,
          same ∙ (ap (λ z. read ++ z ∷ more) (sym here) ∙ (sym (append_assoc read (x ∷ []) more) ∙ ap (λ l. l ++ more) (sym read_is))),
          parted.1,
        )

-- the remaining text begins with the text of such an element
pub first_left : {X : Type 0} (P : X → Type 0) (text_of : X → List ℕ) (text rest part rest' : List ℕ) (read : List X) → 1 ≤ length rest →
    IsLeft P text_of text read rest → IsCut P text_of rest part rest' → (xs : List X) → All P xs → text ≡ join_by text_of (codes "; ") xs →
    (y : X) × P y × (part ≡ text_of y)
first_left {X} P text_of text rest part rest' read some left cut xs are is = let h = left xs are is in by h.0 h.1 h.2
  where
    by : (more : List X) → xs ≡ read ++ more → rest ≡ join_by text_of (codes "; ") more → (y : X) × P y × (part ≡ text_of y)
    by [] same last = absurd (omega (arith, some, ap length last))
    by (y ∷ more) same now =
        let can : P y = All-head P y more (all_right P read (y ∷ more) (subst (All P) same are)) in
        (y, can, (cut y more can now).0)

-- nothing remains
pub none_left : {X : Type 0} (P : X → Type 0) (text_of : X → List ℕ) (text rest : List ℕ) (read : List X) → ((y : X) → P y → 1 ≤ length (text_of y)) →
    length rest ≡ 0 → IsLeft P text_of text read rest →
    (xs : List X) → All P xs → text ≡ join_by text_of (codes "; ") xs → read ≡ xs
none_left {X} P text_of text rest read long none left xs are is = let h = left xs are is in by h.0 h.1 h.2
  where
    by : (more : List X) → xs ≡ read ++ more → rest ≡ join_by text_of (codes "; ") more → read ≡ xs
    by [] same last = sym (same ∙ append-nil read)
    by (y ∷ more) same now =
        let can : P y = All-head P y more (all_right P read (y ∷ more) (subst (All P) same are)) in
        absurd (omega (arith, long y can, none, ap length now, length-append (text_of y) (flat_map (λ z. codes "; " ++ text_of z) more)))

-- `IsLeft` for a journal: these entries were read, and `rest` is the text of the others.
abbrev pub AreLeft : List ℕ → List Entry → List ℕ → Type 0
AreLeft text read rest =
    (entries : List Entry) → CanBeJournal entries → text ≡ lines_from 1 entries →
    (more : List Entry) × (entries ≡ read ++ more) × (rest ≡ lines_from (1 + length read) more)

pub all_lines_left : (text : List ℕ) → AreLeft text [] text
all_lines_left text entries are is = (entries, refl, is)

-- the line of the first entry is `first`, and the text of the others is `rest'`
abbrev pub IsLineCut : ℕ → List ℕ → List ℕ → List ℕ → Type 0
IsLineCut number rest first rest' =
    (e : Entry) (more : List ℕ) → CanBeEntry e → rest ≡ entry_line number e ++ more → (first ≡ entry_line number e) × (rest' ≡ more)

-- `IsLineCut` holds if the text is cut at its first LF
pub line_cut : (number : ℕ) (rest first rest' : List ℕ) → number < 2 ^ 64 →
    ((line more : List ℕ) → IsLinePart 10 line → rest ≡ line ++ 10 ∷ more → (first ≡ line ++ 10 ∷ []) × (rest' ≡ more)) → IsLineCut number rest first rest'
line_cut number rest first rest' small cut e more w now =
    let whole : rest ≡ body number e w ++ 10 ∷ more = now ∙ (ap (λ l. l ++ more) (body_line number e w) ∙ append_assoc (body number e w) (10 ∷ []) more) in
    let parted = cut (body number e w) more (body_part number e w small) whole in
    (parted.0 ∙ sym (body_line number e w), parted.1)

-- one more entry
pub less_lines_left : (text rest first rest' : List ℕ) (read read' : List Entry) (entry : Entry) → 1 ≤ length rest → AreLeft text read rest →
    IsLineCut (1 + length read) rest first rest' → ((e : Entry) → CanBeEntry e → first ≡ entry_line (1 + length read) e → entry ≡ e) →
    read' ≡ read ++ entry ∷ [] → AreLeft text read' rest'
less_lines_left text rest first rest' read read' entry some left cut exact read_is entries are is = let h = left entries are is in by h.0 h.1 h.2
  where
    n : ℕ
    n = 1 + length read

    counted : 1 + length read' ≡ n + 1
    counted = ap (λ l. 1 + length l) read_is ∙ (let long = length-append read (entry ∷ []) in omega arith)

    by : (more : List Entry) → entries ≡ read ++ more → rest ≡ lines_from n more →
        (more : List Entry) × (entries ≡ read' ++ more) × (rest' ≡ lines_from (1 + length read') more)
    by [] same last = absurd (omega (arith, some, ap length last))
    by (e ∷ more) same now =
        let can : CanBeEntry e = All-head CanBeEntry e more (all_right CanBeEntry read (e ∷ more) (subst (All CanBeEntry) same are.0)) in
        let parted = cut e (lines_from (n + 1) more) can now in
        let here : entry ≡ e = exact e can parted.0 in (
          more,
          same ∙ (ap (λ z. read ++ z ∷ more) (sym here) ∙ (sym (append_assoc read (entry ∷ []) more) ∙ ap (λ l. l ++ more) (sym read_is))),
          parted.1 ∙ ap (λ k. lines_from k more) (sym counted),
        )

-- the remaining text begins with the line of such an entry
pub first_line_left : (text rest first rest' : List ℕ) (read : List Entry) → 1 ≤ length rest → AreLeft text read rest →
    IsLineCut (1 + length read) rest first rest' → (entries : List Entry) → CanBeJournal entries → text ≡ lines_from 1 entries →
    (entry : Entry) × CanBeEntry entry × (first ≡ entry_line (1 + length read) entry)
first_line_left text rest first rest' read some left cut entries are is = let h = left entries are is in by h.0 h.1 h.2
  where
    n : ℕ
    n = 1 + length read

    by : (more : List Entry) → entries ≡ read ++ more → rest ≡ lines_from n more → (entry : Entry) × CanBeEntry entry × (first ≡ entry_line n entry)
    by [] same last = absurd (omega (arith, some, ap length last))
    by (e ∷ more) same now =
        let can : CanBeEntry e = All-head CanBeEntry e more (all_right CanBeEntry read (e ∷ more) (subst (All CanBeEntry) same are.0)) in
        (e, can, (cut e (lines_from (n + 1) more) can now).0)

-- a line has at least its LF
pub entry_line_long : (n : ℕ) (e : Entry) → 1 ≤ length (entry_line n e)
entry_line_long n e = let long = length-append (decimal n) (codes " by " ++ after_by) in omega (arith, long)
  where
    after_by : List ℕ
    after_by = decimal e.by ++ (codes " " ++ (join_by op_text (codes "; ") e.ops ++ (codes " -> " ++ (join_by done_text (codes "; ") e.dones ++ codes "\n"))))

-- no line remains
pub no_lines_left : (text rest : List ℕ) (read : List Entry) → length rest ≡ 0 → AreLeft text read rest → (entries : List Entry) → CanBeJournal entries →
    text ≡ lines_from 1 entries → read ≡ entries
no_lines_left text rest read none left entries are is = let h = left entries are is in by h.0 h.1 h.2
  where
    by : (more : List Entry) → entries ≡ read ++ more → rest ≡ lines_from (1 + length read) more → read ≡ entries
    by [] same last = sym (same ∙ append-nil read)
    by (e ∷ more) same now =
        let long = length-append (entry_line (1 + length read) e) (lines_from (1 + length read + 1) more) in
        absurd (omega (arith, long, none, ap length now, entry_line_long (1 + length read) e))

-- the text of the entries that were read grows by the line that is read
pub lines_read : (text rest first rest' : List ℕ) (read read' : List Entry) (entry : Entry) → lines_from 1 read ++ rest ≡ text → first ++ rest' ≡ rest →
    first ≡ entry_line (1 + length read) entry → read' ≡ read ++ entry ∷ [] → lines_from 1 read' ++ rest' ≡ text
lines_read text rest first rest' read read' entry was whole line read_is =
    ap (λ l. lines_from 1 l ++ rest') read_is
    ∙ (ap (λ l. l ++ rest') (lines_push 1 read entry)
    ∙ (append_assoc (lines_from 1 read) (entry_line (1 + length read) entry) rest'
    ∙ (ap (λ l. lines_from 1 read ++ (l ++ rest')) (sym line)
    ∙ (ap (λ l. lines_from 1 read ++ l) whole ∙ was))))

-- the text of an operation isn't empty, nor is that of an outcome
pub op_long : (op : Op) → CanBeOp op → 1 ≤ length (op_text op)
op_long New h = omega arith
op_long (Drop node) h = omega arith
op_long (Set node name value) h = omega arith
op_long (Unset node name) h = omega arith
op_long (MkIndex name kind) h = omega arith
op_long (RmIndex name) h = omega arith

pub done_long : (done : Done) → CanBeDone done → 1 ≤ length (done_text done)
done_long (Node node) h = omega arith
done_long Nothing h = omega arith

-- the lists of an entry form an entry
pub entry_made : (entry : Entry) → CanBeEntry entry → entry_of entry.by entry.ops entry.dones ≡ Some entry
entry_made entry w =
    let some : nat_le 1 (length entry.ops) ≡ true = grind (arith, nat_tests, w.is.0) in
    let few : nat_le (length entry.ops) 64 ≡ true = grind (arith, nat_tests, w.is.1) in
    let same : nat_eq (length entry.dones) (length entry.ops) ≡ true = grind (arith, nat_tests, w.is.2) in
    rw some (rw few (rw same refl))
