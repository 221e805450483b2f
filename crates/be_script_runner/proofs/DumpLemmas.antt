-- The replies to a journal's script, and the store that it leaves.
use Rattle.std.proofs.Common.{◌≡◌, ◌≤◌, ◌<◌, ◌+◌, ℕ, Bool, true, false, cond, nat_lt, List, [], ◌∷◌, ◌++◌, All, map, length, codes, refl, sym, ap, subst, ◌∙◌, append_assoc, length-append, arith, inl, None, Ok, Err}
use Rattle.std.proofs.lemmas.Bool.Decides.{nat_tests}
use Rattle.std.proofs.lemmas.List.{append-nil, length-map, length_push, map-append}
use Rattle.std.proofs.lemmas.List.Concat.{flat_map-cons}
use Rattle.std.proofs.lemmas.List.Elements.{All-head, All-tail, All-weaker}
use Rattle.std.specs.List.{flat_map, list_all}
use Rattle.be_journal_text.specs.Dump.{by_only_pass, dump, op_line, write_lines}
use Rattle.be_journal_text.specs.History.{CanBeJournal, CanBeOp, CanBeEntry}
use Rattle.be_journal_text.proofs.LineLemmas.{op_part}
use Rattle.be_journal_text.proofs.OpLemmas.{op_asked}
use Rattle.be_journal_text.proofs.PartLemmas.{in_line, part_line}
use Rattle.be_journal.specs.Journal.{Agrees, IsEntry, IsLegal, replay}
use Rattle.be_journal.specs.Text.{op_text}
use Rattle.be_journal.specs.declared.entries.Entry.{Entry}
use Rattle.be_volume.specs.Volume.{empty}
use Rattle.be_journal.proofs.LegalLemmas.{legal_front, legal_last, replay_push}
use Rattle.be_script_language.specs.Reply.{Reply, committed, none, ok, queued, text_of}
use Rattle.be_script_language.specs.Request.{Request, asked, begin, commit, lines_of, silent, write}
use Rattle.be_value.specs.declared.refusals.Refusal.TheVariants.{CommitsSpent}
use Rattle.be_volume.specs.Ahead.{reached}
use Rattle.be_volume.specs.declared.ops.Done.{Done}
use Rattle.be_volume.specs.declared.ops.Op.{Op}
use Rattle.be_script_runner.specs.Output.{IsOutputTo, Outputs, Serves, Session, done_reply, opening}
use Rattle.be_script_runner.specs.Store.{MayWrite, Store, entered, start, written, written_by}
use Rattle.be_script_runner.specs.JournalRuns.{dump_output, made, write_output}
use Rattle.be_script_runner.specs.View.{batched}
use Rattle.be_script_runner.proofs.EndLemmas.{nothing_asked}
use Rattle.be_script_runner.proofs.JoinLemmas.{at_once}
use Rattle.be_script_runner.proofs.LineLemmas.{begin_asked, commit_asked, line_before}
use Rattle.be_script_runner.proofs.ReplyLemmas.{commit_accepted, serves_at_once, write_accepted}

-- one more line, with its reply
one_more : (s after last : Session) (line more out : List ℕ) (request : Request) (reply : Reply) → list_all in_line line ≡ true → asked line ≡ request →
    Serves s request reply after → Outputs after (lines_of more) last out → Outputs s (lines_of (line ++ 10 ∷ more)) last (text_of reply ++ out)
one_more s after last line more out request reply inside is serves next =
    subst (λ (lines : List (List ℕ)). Outputs s lines last (text_of reply ++ out)) (sym (line_before line more inside))
    (after, text_of reply, out, (reply, subst (λ (q : Request). Serves s q reply after) (sym is) serves, refl), next, refl)

-- an operation's text has no LF
op_inside : (op : Op) → CanBeOp op → list_all in_line (op_text op) ≡ true
op_inside op can = part_line (op_text op) (op_part 10 refl refl op can)

-- the line of the first of several operations
op_first : (op : Op) (ops : List Op) (more : List ℕ) → flat_map op_line (op ∷ ops) ++ more ≡ op_text op ++ 10 ∷ (flat_map op_line ops ++ more)
op_first op ops more =
    ap (λ (l : List ℕ). l ++ more) (flat_map-cons op_line op ops)
    ∙ (append_assoc (op_line op) (flat_map op_line ops) more ∙ append_assoc (op_text op) (codes "\n") (flat_map op_line ops ++ more))

abbrev queued_text : Op → List ℕ
queued_text op = text_of queued

queued_first : (op : Op) (ops : List Op) (out : List ℕ) → flat_map queued_text (op ∷ ops) ++ out ≡ text_of queued ++ (flat_map queued_text ops ++ out)
queued_first op ops out =
    ap (λ (l : List ℕ). l ++ out) (flat_map-cons queued_text op ops) ∙ append_assoc (text_of queued) (flat_map queued_text ops) out

-- an operation is queued if the batch has room for it
queues : (store : Store) (ops : List Op) (op : Op) → length ops < 64 → Serves (batched store ops None) (write (Ok op)) queued (batched store (ops ++ op ∷ []) None)
queues store ops op few =
    let room : nat_lt (length ops) 64 ≡ true = grind (arith, nat_tests, few) in
    serves_at_once (batched store ops None) (batched store (ops ++ op ∷ []) None) (write (Ok op)) queued (inl (rw room refl))

-- the lines of several operations, which are queued one after another
all_queued : (store : Store) (ops todo : List Op) (more out : List ℕ) (last : Session) → All CanBeOp todo → length ops + length todo ≤ 64 →
    Outputs (batched store (ops ++ todo) None) (lines_of more) last out →
    Outputs (batched store ops None) (lines_of (flat_map op_line todo ++ more)) last (flat_map queued_text todo ++ out)
all_queued store ops [] more out last can few next = subst (λ (z : List Op). Outputs (batched store z None) (lines_of more) last out) (append-nil ops) next
all_queued store ops (op ∷ todo) more out last can few next =
    let op_can = All-head CanBeOp op todo can in
    let after = batched store (ops ++ op ∷ []) None in
    let beyond : Outputs after (lines_of (flat_map op_line todo ++ more)) last (flat_map queued_text todo ++ out) =
    all_queued store (ops ++ op ∷ []) todo more out last (All-tail CanBeOp op todo can) (omega (arith, length_push ops op, few))
    (subst (λ (z : List Op). Outputs (batched store z None) (lines_of more) last out) (sym (append_assoc ops (op ∷ []) todo)) next) in
    subst (λ (text : List ℕ). Outputs (batched store ops None) (lines_of text) last (flat_map queued_text (op ∷ todo) ++ out)) (sym (op_first op todo more))
    (subst (λ (text : List ℕ). Outputs (batched store ops None) (lines_of (op_text op ++ 10 ∷ (flat_map op_line todo ++ more))) last text) (sym (queued_first op todo out))
    (one_more (batched store ops None) after last (op_text op) (flat_map op_line todo ++ more) (flat_map queued_text todo ++ out) (write (Ok op)) queued (op_inside op op_can) (op_asked op op_can)
    (queues store ops op (omega (arith, few))) beyond))

-- A write that turns the old store into the new one; the lines after it are answered from the new
-- store.
module _ (old new : Store) (last : Session) (dones : List Done) (more out : List ℕ) (next : Outputs (opening new) (lines_of more) last out) where
  abbrev number : ℕ
  number = length new.journal

  abbrev same_outcomes : List Done → List Done
  same_outcomes d = d

  -- a write of one operation
  single : (ops : List Op) → 1 ≤ length ops → length ops ≤ 1 → All CanBeOp ops → written old ops ≡ Ok (new, dones) →
      Outputs (opening old) (lines_of (flat_map op_line ops ++ more)) last (text_of (done_reply dones) ++ out)
  single [] some few can w = absurd (omega (arith, some))
  single (op ∷ []) some few can w =
      let op_can = All-head CanBeOp op [] can in
      subst (λ (text : List ℕ). Outputs (opening old) (lines_of text) last (text_of (done_reply dones) ++ out)) (sym (op_first op [] more))
      (one_more (opening old) (opening new) last (op_text op) more out (write (Ok op)) (done_reply dones) (op_inside op op_can) (op_asked op op_can)
      (write_accepted same_outcomes old new None op number dones (done_reply dones) refl (at_once old (λ s. MayWrite same_outcomes s (op ∷ []) (Ok (number, dones)) new) (w, refl))) next)
  single (op ∷ other ∷ ops) some few can w = absurd (omega (arith, few))

  abbrev batch_lines : List Op → List ℕ
  batch_lines ops = codes "begin\n" ++ (flat_map op_line ops ++ codes "commit\n")

  abbrev batch_text : List Op → List ℕ
  batch_text ops = text_of ok ++ (flat_map queued_text ops ++ text_of (committed number dones))

  -- a batch of operations
  batch : (ops : List Op) → 1 ≤ length ops → length ops ≤ 64 → All CanBeOp ops → written old ops ≡ Ok (new, dones) →
      Outputs (opening old) (lines_of (batch_lines ops ++ more)) last (batch_text ops ++ out)
  batch ops some few can w =
      let lines = flat_map op_line ops in
      let replies = flat_map queued_text ops in
      let end = text_of (committed number dones) in
      let ended : Outputs (batched old ops None) (lines_of (codes "commit" ++ 10 ∷ more)) last (end ++ out) =
      one_more (batched old ops None) (opening new) last (codes "commit") more out commit (committed number dones) refl commit_asked
      (commit_accepted same_outcomes old new None ops number dones some (at_once old (λ s. MayWrite same_outcomes s ops (Ok (number, dones)) new) (w, refl))) next in
      let filled : Outputs (batched old [] None) (lines_of (lines ++ (codes "commit" ++ 10 ∷ more))) last (replies ++ (end ++ out)) =
      all_queued old [] ops (codes "commit" ++ 10 ∷ more) (end ++ out) last can (omega (arith, few)) ended in
      let begun : Outputs (opening old) (lines_of (codes "begin" ++ 10 ∷ (lines ++ (codes "commit" ++ 10 ∷ more)))) last (text_of ok ++ (replies ++ (end ++ out))) =
      one_more (opening old) (batched old [] None) last (codes "begin") (lines ++ (codes "commit" ++ 10 ∷ more)) (replies ++ (end ++ out)) begin ok refl begin_asked
      (serves_at_once (opening old) (batched old [] None) begin ok (inl refl)) filled in
      let text_is : batch_lines ops ++ more ≡ codes "begin" ++ 10 ∷ (lines ++ (codes "commit" ++ 10 ∷ more)) =
      append_assoc (codes "begin\n") (lines ++ codes "commit\n") more ∙ ap (λ (l : List ℕ). codes "begin\n" ++ l) (append_assoc lines (codes "commit\n") more) in
      let out_is : batch_text ops ++ out ≡ text_of ok ++ (replies ++ (end ++ out)) =
      append_assoc (text_of ok) (replies ++ end) out ∙ ap (λ (l : List ℕ). text_of ok ++ l) (append_assoc replies end out) in
      subst (λ (text : List ℕ). Outputs (opening old) (lines_of text) last (batch_text ops ++ out)) (sym text_is)
      (subst (λ (text : List ℕ). Outputs (opening old) (lines_of (codes "begin" ++ 10 ∷ (lines ++ (codes "commit" ++ 10 ∷ more)))) last text) (sym out_is) begun)

  -- a write of one or more operations
  one_write : (ops : List Op) → 1 ≤ length ops → length ops ≤ 64 → All CanBeOp ops → written old ops ≡ Ok (new, dones) →
      Outputs (opening old) (lines_of (write_lines ops ++ more)) last (cond (nat_lt 1 (length ops)) (batch_text ops) (text_of (done_reply dones)) ++ out)
  one_write ops some few can w = by (nat_lt 1 (length ops)) refl
    where
      by : (b : Bool) → nat_lt 1 (length ops) ≡ b →
          Outputs (opening old) (lines_of (cond b (batch_lines ops) (flat_map op_line ops) ++ more)) last (cond b (batch_text ops) (text_of (done_reply dones)) ++ out)
      by true e = batch ops some few can w
      by false e = single ops some (grind (arith, nat_tests, e)) can w

-- the volume accepts an entry of a legal journal, and the journal takes it if there is room
entry_written : (limit : ℕ) (front : List Entry) (entry : Entry) → Agrees (replay front) entry → length front < limit →
    written (made limit front) entry.ops ≡ Ok (made limit (front ++ entry ∷ []), entry.dones)
entry_written limit front entry agrees room =
    let short : nat_lt (length (map by_only_pass front)) limit ≡ true = grind (arith, nat_tests, length-map front by_only_pass, room) in
    let volume : replay (front ++ entry ∷ []) ≡ agrees.0 = replay_push empty front entry ∙ ap (reached (replay front)) agrees.1 in
    let journal : map by_only_pass (front ++ entry ∷ []) ≡ map by_only_pass front ++ by_only_pass entry ∷ [] = map-append by_only_pass front (entry ∷ []) in
    let same : entered (made limit front) entry.ops agrees.0 entry.dones ≡ made limit (front ++ entry ∷ []) =
    (λ i. record { journal = sym journal i; volume = sym volume i; limit = limit; passes = 1; pass = 0; pin = None }) in
    ap (written_by (made limit front) entry.ops) agrees.1
    ∙ (ap (λ (b : Bool). cond b (Ok (entered (made limit front) entry.ops agrees.0 entry.dones, entry.dones)) (Err CommitsSpent)) short
    ∙ ap (λ (s : Store). Ok (s, entry.dones)) same)

-- the entry has 1 to 64 valid operations
abbrev pub HasWrite : Entry → Type 0
HasWrite entry = IsEntry entry × All CanBeOp entry.ops

-- the lines of further entries, run on the store that the first entries left
entries_made : (limit : ℕ) (front rest : List Entry) → All HasWrite rest → IsLegal (front ++ rest) → length (front ++ rest) ≤ limit →
    Outputs (opening (made limit front)) (lines_of (dump rest)) (opening (made limit (front ++ rest))) (dump_output (length front + 1) rest)
entries_made limit front [] are legal short =
    let s = opening (made limit front) in (
      s,
      [],
      [],
      (none, subst (λ (q : Request). Serves s q none s) (sym nothing_asked) (serves_at_once s s silent none refl), refl),
      (ap (λ (es : List Entry). opening (made limit es)) (append-nil front), refl),
      refl,
    )
entries_made limit front (entry ∷ rest) are legal short =
    let w = All-head HasWrite entry rest are in
    let old = made limit front in
    let new = made limit (front ++ entry ∷ []) in
    let last = opening (made limit (front ++ entry ∷ rest)) in
    let parted : (front ++ entry ∷ []) ++ rest ≡ front ++ entry ∷ rest = append_assoc front (entry ∷ []) rest in
    let joined : IsLegal ((front ++ entry ∷ []) ++ rest) = subst IsLegal (sym parted) legal in
    let long : length (front ++ entry ∷ []) ≡ length front + 1 = length_push front entry in
    let fits : length ((front ++ entry ∷ []) ++ rest) ≤ limit = subst (λ (es : List Entry). length es ≤ limit) (sym parted) short in
    let numbered : length front + 1 ≡ length new.journal = sym (length-map (front ++ entry ∷ []) by_only_pass ∙ long) in
    let agrees : Agrees (replay front) entry = legal_last empty front entry (legal_front empty (front ++ entry ∷ []) rest joined) in
    let accepted : written old entry.ops ≡ Ok (new, entry.dones) = entry_written limit front entry agrees (omega (arith, length-append (front ++ entry ∷ []) rest, long, fits)) in
    let beyond : Outputs (opening new) (lines_of (dump rest)) last (dump_output (length front + 1 + 1) rest) =
    subst (λ (n : ℕ). Outputs (opening new) (lines_of (dump rest)) last (dump_output (n + 1) rest)) long
    (subst (λ (es : List Entry). Outputs (opening new) (lines_of (dump rest)) (opening (made limit es)) (dump_output (length (front ++ entry ∷ []) + 1) rest)) parted
    (entries_made limit (front ++ entry ∷ []) rest (All-tail HasWrite entry rest are) joined fits)) in
    subst (λ (text : List ℕ). Outputs (opening old) (lines_of text) last (dump_output (length front + 1) (entry ∷ rest)))
    (sym (flat_map-cons (λ (e : Entry). write_lines e.ops) entry rest))
    (subst (λ (n : ℕ). Outputs (opening old) (lines_of (write_lines entry.ops ++ dump rest)) last (write_output n entry ++ dump_output (length front + 1 + 1) rest)) (sym numbered)
    (one_write old new last entry.dones (dump rest) (dump_output (length front + 1 + 1) rest) beyond entry.ops w.0.0 w.0.1 w.1 accepted))

-- the lines of a journal's writes rebuild the journal
pub writes_made : (limit : ℕ) (entries : List Entry) → All HasWrite entries → IsLegal entries → length entries ≤ limit →
    IsOutputTo (start limit) (dump entries) (made limit entries) (dump_output 1 entries)
writes_made limit entries are legal short = (opening (made limit entries), entries_made limit [] entries are legal short, refl)

-- a journal's script rebuilds it
pub dump_made : (limit : ℕ) (entries : List Entry) → CanBeJournal entries → IsLegal entries → length entries ≤ limit →
    IsOutputTo (start limit) (dump entries) (made limit entries) (dump_output 1 entries)
dump_made limit entries are legal short =
    writes_made limit entries (All-weaker CanBeEntry HasWrite (λ entry w. (w.is, w.ops)) entries are.0) legal short
