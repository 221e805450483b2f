-- A pass's writes are some of its script's write lines.
use Rattle.std.proofs.Common.{◌≡◌, ℕ, Bool, true, false, nat_lt, List, [], ◌∷◌, ◌++◌, Some, None, inl, inr, refl, sym, ap, ◌∙◌, subst, append_assoc, length}
use Rattle.std.specs.Prelude.{Option, Result, Ok, Err, if◌then◌else◌}
use Rattle.std.specs.List.{flat_map}
use Rattle.std.proofs.lemmas.List.{append-nil}
use Rattle.std.proofs.lemmas.Grind.{flat_map-append}
use Rattle.std.proofs.lemmas.List.Concat.{flat_map-cons}
use Rattle.be_journal.specs.declared.entries.Entry.{Entry}
use Rattle.be_journal.specs.Journal.{by_pass}
use Rattle.be_table.proofs.Histories.{by_pass-append, by_pass-own}
use Rattle.be_table.specs.declared.pass.Commit.{Commit}
use Rattle.be_table.specs.declared.pass.Knowledge.{Knowledge}
use Rattle.be_table.specs.Rule.{entries}
use Rattle.be_table.specs.Steps.{IsPass}
use Rattle.be_value.specs.declared.refusals.Refusal.{Refusal}
use Rattle.be_value.specs.declared.refusals.Refusal.TheVariants.{CommitsSpent}
use Rattle.be_query.specs.Grammar.{Formula}
use Rattle.be_store.specs.Live.{LiveQuery}
use Rattle.be_volume.specs.Query.{scan}
use Rattle.be_volume.specs.Volume.{State, steps}
use Rattle.be_volume.specs.declared.ops.Done.{Done}
use Rattle.be_volume.specs.declared.ops.Op.{Op}
use Rattle.be_script_runner.specs.Output.{Session, Replies, Serves, Outputs, IsOutputTo, Gives, MayReply, MayReplyTo, opening, unwritten, write_reply, taken, commit_reply, committing, beginning, aborting, pinning, unpinning, watching, updating, refreshing, with_store, with_batch}
use Rattle.be_script_runner.specs.Lines.{IsServedBy}
use Rattle.be_script_runner.proofs.CallLemmas.{served_output}
use Rattle.be_script_runner.specs.Own.{IsPartOf, operations, write_op, write_ops}
use Rattle.be_script_language.specs.Reply.{Reply, queued as queued_word, full_batch}
use Rattle.be_script_language.specs.Request.{Request, silent, malformed, write, query, page, explain, get, attrs, indices, pin, unpin, live, refresh, begin, commit, abort, asked, lines_of}
use Rattle.be_script_runner.specs.Run.{Wrote}
use Rattle.be_script_runner.specs.Served.{known}
use Rattle.be_script_runner.specs.Store.{PinnedVolume, Store, Joins, entered, viewed, written, written_by}
use Rattle.be_script_runner.proofs.JoinLemmas.{nobody_joins, none_own}
use Rattle.be_script_runner.proofs.PartLemmas.{part_itself, part_both, part_front, part_on}

-- the operations of the pass's entries
abbrev pub own_ops : Store → List Op
own_ops s = operations (by_pass s.pass s.journal)

abbrev queued : Option (List Op) → List Op
queued None = []
queued (Some ops) = ops

-- what the pass has written, followed by what it has queued
abbrev mine : Session → List Op
mine s = own_ops s.store ++ queued s.batch

-- the pass and the number of passes are unchanged, and the pass's operations are now part of its
-- earlier ones and these
record Adds (s after : Session) (ops : List Op) : Type 0 where
  pub pass : after.store.pass ≡ s.store.pass
  pub passes : after.store.passes ≡ s.store.passes
  pub part : IsPartOf (mine after) (mine s ++ ops)

nothing_added : (s : Session) (ops : List Op) → Adds s s ops
nothing_added s ops = record { pass = refl; passes = refl; part = part_front (mine s) ops }

-- the queue is dropped
queue_lost : (s : Session) (ops : List Op) → Adds s (with_batch s None) ops
queue_lost s ops = record {
  pass = refl;
  passes = refl;
  part = subst (λ l. IsPartOf (own_ops s.store ++ []) l) (sym (append_assoc (own_ops s.store) (queued s.batch) ops))
      (subst (λ l. IsPartOf l (own_ops s.store ++ (queued s.batch ++ ops))) (sym (append-nil (own_ops s.store))) (part_front (own_ops s.store) (queued s.batch ++ ops)));
}

same_left : (answer : Reply × Session) (reply : Reply) (after s : Session) (ops : List Op) → Gives answer reply after → Adds s answer.1 ops → Adds s after ops
same_left answer reply after s ops e h = subst (λ (z : Session). Adds s z ops) (ap (λ (p : Reply × Session). p.1) e) h

-- the store after a write
abbrev store_in : Store → Result (Store × List Done) Refusal → Store
store_in d (Ok x) = x.0
store_in d (Err e) = d

-- the operations of a pass's write are added to the pass's operations
own_entered : (s : Store) (ops : List Op) (volume : State) (dones : List Done) → own_ops (entered s ops volume dones) ≡ own_ops s ++ ops
own_entered s ops volume dones =
    let e : Entry = record { by = s.pass; ops = ops; dones = dones } in
    ap operations (by_pass-own s.pass s.journal e refl) ∙ (flat_map-append (λ (e : Entry). e.ops) (by_pass s.pass s.journal) (e ∷ []) ∙ ap (λ l. own_ops s ++ l) (flat_map-cons (λ (e : Entry). e.ops) e [] ∙ append-nil ops))

-- the store after an accepted write
record IsWritten (s t : Store) (ops : List Op) : Type 0 where
  pub pass : t.pass ≡ s.pass
  pub passes : t.passes ≡ s.passes
  pub own : own_ops t ≡ own_ops s ++ ops

abbrev ok_with : Store → List Done → Result (Store × List Done) Refusal
ok_with s dones = Ok (s, dones)

write_written : (s t : Store) (ops : List Op) (dones : List Done) → written s ops ≡ Ok (t, dones) → IsWritten s t ops
write_written s t ops dones e = by (steps s.volume ops) e
  where
    by : (r : Result (State × List Done) Refusal) → written_by s ops r ≡ Ok (t, dones) → IsWritten s t ops
    by (Err f) g = cc
    by (Ok x) g = roomed (nat_lt (length s.journal) s.limit) g
      where
        roomed : (b : Bool) → (if b then ok_with (entered s ops x.0 x.1) x.1 else Err CommitsSpent) ≡ Ok (t, dones) → IsWritten s t ops
        roomed true g = subst (λ (z : Store). IsWritten s z ops) (ap (store_in s) g) (record { pass = refl; passes = refl; own = own_entered s ops x.0 x.1 })
        roomed false g = cc

-- a write of one operation, with no batch open
written_adds : (s : Session) (op : Op) → s.batch ≡ None → (r : Result (Store × List Done) Refusal) → written s.store (op ∷ []) ≡ r → Adds s (write_reply s r).1 (op ∷ [])
written_adds s op closed (Ok x) e =
    let w : IsWritten s.store x.0 (op ∷ []) = write_written s.store x.0 (op ∷ []) x.1 e in
    let none : queued s.batch ≡ [] = ap queued closed in record {
      pass = w.pass;
      passes = w.passes;
      part = subst (λ l. IsPartOf l (mine s ++ op ∷ [])) (ap (λ q. (own_ops s.store ++ q) ++ op ∷ []) none ∙ (ap (λ l. l ++ op ∷ []) (append-nil (own_ops s.store))
          ∙ (sym w.own ∙ (sym (append-nil (own_ops x.0)) ∙ ap (λ q. own_ops x.0 ++ q) (sym none))))) (part_itself (mine s ++ op ∷ []));
    }
written_adds s op closed (Err f) e = nothing_added s (op ∷ [])

abbrev queued_if : Session → List Op → Op → Bool → Reply × Session
queued_if s ops op b = if b then (queued_word, with_batch s (Some (ops ++ op ∷ []))) else (full_batch, s)

-- a write line, whose operation is queued if a batch is open
taken_adds : (s : Session) (op : Op) (b : Option (List Op)) → s.batch ≡ b → Adds s (taken s b op).1 (op ∷ [])
taken_adds s op None e = written_adds s op e (written s.store (op ∷ [])) refl
taken_adds s op (Some ops) e = by (nat_lt (length ops) 64)
  where
    longer : Adds s (with_batch s (Some (ops ++ op ∷ []))) (op ∷ [])
    longer = record {
      pass = refl;
      passes = refl;
      part = subst (λ l. IsPartOf l (mine s ++ op ∷ [])) (ap (λ q. (own_ops s.store ++ queued q) ++ op ∷ []) e ∙ append_assoc (own_ops s.store) ops (op ∷ [])) (part_itself (mine s ++ op ∷ []));
    }

    by : (t : Bool) → Adds s (queued_if s ops op t).1 (op ∷ [])
    by true = longer
    by false = nothing_added s (op ∷ [])

-- a commit, whose batch is written as one transaction
committed_adds : (s : Session) (ops : List Op) → s.batch ≡ Some ops → (r : Result (Store × List Done) Refusal) → written s.store ops ≡ r → Adds s (commit_reply s r).1 []
committed_adds s ops batch (Ok x) e =
    let w : IsWritten s.store x.0 ops = write_written s.store x.0 ops x.1 e in record {
      pass = w.pass;
      passes = w.passes;
      part = subst (λ l. IsPartOf l (mine s ++ [])) (append-nil (mine s) ∙ (ap (λ q. own_ops s.store ++ queued q) batch ∙ (sym w.own ∙ sym (append-nil (own_ops x.0))))) (part_itself (mine s ++ []));
    }
committed_adds s ops batch (Err f) e = queue_lost s []

committing_adds : (s : Session) (b : Option (List Op)) → s.batch ≡ b → Adds s (committing s b).1 []
committing_adds s None e = nothing_added s []
committing_adds s (Some []) e = nothing_added s []
committing_adds s (Some (op ∷ ops)) e = committed_adds s (op ∷ ops) e (written s.store (op ∷ ops)) refl

beginning_adds : (s : Session) (b : Option (List Op)) → Adds s (beginning s b).1 []
beginning_adds s None = record {
  pass = refl;
  passes = refl;
  part = (queue_lost s []).part;
}
beginning_adds s (Some ops) = nothing_added s []

aborting_adds : (s : Session) (b : Option (List Op)) → Adds s (aborting s b).1 []
aborting_adds s None = nothing_added s []
aborting_adds s (Some ops) = queue_lost s []

pinning_adds : (s : Session) (p : Option PinnedVolume) → Adds s (pinning s p).1 []
pinning_adds s None = record { pass = refl; passes = refl; part = part_front (mine s) [] }
pinning_adds s (Some p) = nothing_added s []

unpinning_adds : (s : Session) (p : Option PinnedVolume) → Adds s (unpinning s p).1 []
unpinning_adds s None = nothing_added s []
unpinning_adds s (Some p) = record { pass = refl; passes = refl; part = part_front (mine s) [] }

watching_adds : (s : Session) (r : Result Formula Refusal) → Adds s (watching s r).1 []
watching_adds s (Ok f) = record { pass = refl; passes = refl; part = part_front (mine s) [] }
watching_adds s (Err e) = nothing_added s []

refreshing_adds : (s : Session) (l : Option LiveQuery) → Adds s (refreshing s l).1 []
refreshing_adds s None = nothing_added s []
refreshing_adds s (Some l) = by (scan (viewed s.store) l.query)
  where
    by : (r : Result (List ℕ) Refusal) → Adds s (updating s l r).1 []
    by (Ok now) = record { pass = refl; passes = refl; part = part_front (mine s) [] }
    by (Err e) = nothing_added s []

unwritten_adds : (s : Session) (request : Request) (ops : List Op) → Adds s (unwritten s request) ops
unwritten_adds s silent ops = nothing_added s ops
unwritten_adds s malformed ops = nothing_added s ops
unwritten_adds s (write op) ops = nothing_added s ops
unwritten_adds s (query text) ops = nothing_added s ops
unwritten_adds s (page paging text) ops = nothing_added s ops
unwritten_adds s (explain text) ops = nothing_added s ops
unwritten_adds s (get n name) ops = nothing_added s ops
unwritten_adds s (attrs n) ops = nothing_added s ops
unwritten_adds s indices ops = nothing_added s ops
unwritten_adds s pin ops = nothing_added s ops
unwritten_adds s unpin ops = nothing_added s ops
unwritten_adds s (live text) ops = nothing_added s ops
unwritten_adds s refresh ops = nothing_added s ops
unwritten_adds s begin ops = nothing_added s ops
unwritten_adds s commit ops = queue_lost s ops
unwritten_adds s abort ops = nothing_added s ops

may_reply_adds : (s : Session) (request : Request) (answer : Reply × Session) (reply : Reply) (after : Session) (ops : List Op) → Adds s answer.1 ops → MayReply s request answer reply after → Adds s after ops
may_reply_adds s request answer reply after ops h (inl e) = same_left answer reply after s ops e h
may_reply_adds s request answer reply after ops h (inr w) = subst (λ (z : Session). Adds s z ops) (sym w.0) (unwritten_adds s request ops)

may_reply_to_adds : (s : Session) (request : Request) (text : List ℕ) (answer : Result Formula Refusal → Reply × Session) (reply : Reply) (after : Session) (ops : List Op) →
    ((parsed : Result Formula Refusal) → Adds s (answer parsed).1 ops) → MayReplyTo s request text answer reply after → Adds s after ops
may_reply_to_adds s request text answer reply after ops h (inl e) = same_left (answer e.0) reply after s ops e.2 (h e.0)
may_reply_to_adds s request text answer reply after ops h (inr w) = subst (λ (z : Session). Adds s z ops) (sym w.0) (unwritten_adds s request ops)

-- a line adds to the pass's operations at most those that it writes
replies_add : (s : Session) (request : Request) (reply : Reply) (after : Session) → Replies s request reply after → Adds s after (write_op request)
replies_add s silent reply after h = same_left _ reply after s [] h (nothing_added s [])
replies_add s malformed reply after h = may_reply_adds s malformed _ reply after [] (nothing_added s []) h
replies_add s (write (Ok op)) reply after h = may_reply_adds s (write (Ok op)) _ reply after (op ∷ []) (taken_adds s op s.batch refl) h
replies_add s (write (Err e)) reply after h = may_reply_adds s (write (Err e)) _ reply after [] (nothing_added s []) h
replies_add s (query text) reply after h = may_reply_to_adds s (query text) text _ reply after [] (λ parsed. nothing_added s []) h
replies_add s (page (Ok paging) text) reply after h = may_reply_to_adds s (page (Ok paging) text) text _ reply after [] (λ parsed. nothing_added s []) h
replies_add s (page (Err e) text) reply after h = may_reply_adds s (page (Err e) text) _ reply after [] (nothing_added s []) h
replies_add s (explain text) reply after h = may_reply_to_adds s (explain text) text _ reply after [] (λ parsed. nothing_added s []) h
replies_add s (get n name) reply after h = may_reply_adds s (get n name) _ reply after [] (nothing_added s []) h
replies_add s (attrs n) reply after h = may_reply_adds s (attrs n) _ reply after [] (nothing_added s []) h
replies_add s indices reply after h = may_reply_adds s indices _ reply after [] (nothing_added s []) h
replies_add s pin reply after h = same_left _ reply after s [] h (pinning_adds s s.store.pin)
replies_add s unpin reply after h = may_reply_adds s unpin _ reply after [] (unpinning_adds s s.store.pin) h
replies_add s (live text) reply after h = may_reply_to_adds s (live text) text _ reply after [] (watching_adds s) h
replies_add s refresh reply after h = may_reply_adds s refresh _ reply after [] (refreshing_adds s s.live) h
replies_add s begin reply after h = may_reply_adds s begin _ reply after [] (beginning_adds s s.batch) h
replies_add s commit reply after h = may_reply_adds s commit _ reply after [] (committing_adds s s.batch refl) h
replies_add s abort reply after h = may_reply_adds s abort _ reply after [] (aborting_adds s s.batch) h

-- the writes of other passes aren't among this pass's
joined_own : (a b : Store) → Joins a b → (b.pass ≡ a.pass) × (own_ops b ≡ own_ops a)
joined_own a b h =
    let theirs : by_pass a.pass h.others ≡ [] = none_own a.pass h.others (λ k d lt. (h.theirs k d lt).1) in (
      ap (λ (s : Store). s.pass) h.store,
      ap own_ops h.store ∙ ap operations (by_pass-append a.pass a.journal h.others ∙ (ap (λ l. by_pass a.pass a.journal ++ l) theirs ∙ append-nil (by_pass a.pass a.journal))),
    )

serves_add : (s : Session) (request : Request) (reply : Reply) (after : Session) → Serves s request reply after → Adds s after (write_op request)
serves_add s request reply after h =
    let adds = replies_add (with_store s h.now) request reply after h.is in
    let joined = joined_own s.store h.now h.joins in
    record {
      pass = adds.pass ∙ joined.0;
      passes = adds.passes ∙ ap (λ (t : Store). t.passes) h.joins.store;
      part = subst (λ l. IsPartOf (mine after) ((l ++ queued s.batch) ++ write_op request)) joined.1 adds.part;
    }

-- in a store with one pass, a line is answered from the store as it is, and leaves a store with one
-- pass
pub answered_alone : (s after : Session) (request : Request) (reply : Reply) → s.store.passes ≡ 1 → s.store.pass ≡ 0 → Serves s request reply after →
    Replies s request reply after × (after.store.passes ≡ 1) × (after.store.pass ≡ 0)
answered_alone s after request reply one first h =
    let adds = serves_add s request reply after h in (
      subst (λ (t : Store). Replies (with_store s t) request reply after) (nobody_joins s.store h.now one first h.joins) h.is,
      adds.passes ∙ one,
      adds.pass ∙ first,
    )

abbrev line_ops : List ℕ → List Op
line_ops line = write_op (asked line)

-- `replies_add` for several lines, one after another
outputs_add : (s : Session) (lines : List (List ℕ)) (last : Session) (out : List ℕ) → Outputs s lines last out → Adds s last (flat_map line_ops lines)
outputs_add s [] last out h = subst (λ (z : Session). Adds s z []) (sym h.0) (nothing_added s [])
outputs_add s (line ∷ lines) last out h = by h.0 h.3.1 (outputs_add h.0 lines last h.2 h.4)
  where
    by : (after : Session) → Serves s (asked line) h.3.0 after → Adds after last (flat_map line_ops lines) → Adds s last (flat_map line_ops (line ∷ lines))
    by after first rest =
        let one = serves_add s (asked line) h.3.0 after first in record {
          pass = rest.pass ∙ one.pass;
          passes = rest.passes ∙ one.passes;
          part = subst (IsPartOf (mine last)) (append_assoc (mine s) (line_ops line) (flat_map line_ops lines) ∙ ap (λ l. mine s ++ l) (sym (flat_map-cons line_ops line lines)))
              (part_on (mine last) (mine after ++ flat_map line_ops lines) ((mine s ++ line_ops line) ++ flat_map line_ops lines) rest.part
              (part_both (mine after) (flat_map line_ops lines) (mine s ++ line_ops line) (flat_map line_ops lines) one.part (part_itself (flat_map line_ops lines))));
        }

-- the pass's writes while it ran a script are part of the script's writes
pub own_writes : (store new : Store) (script out : List ℕ) → IsOutputTo store script new out → (new.pass ≡ store.pass) × IsPartOf (own_ops new) (own_ops store ++ write_ops script)
own_writes store new script out h =
    let adds = outputs_add (opening store) (lines_of script) h.0 out h.1 in
    let same : h.0.store ≡ new = h.2 in (
      ap (λ (s : Store). s.pass) (sym same) ∙ adds.pass,
      subst (λ (s : Store). IsPartOf (own_ops s) (own_ops store ++ write_ops script)) same
          (part_on (own_ops h.0.store) (mine h.0) (own_ops store ++ write_ops script) (part_front (own_ops h.0.store) (queued h.0.batch))
          (subst (λ l. IsPartOf (mine h.0) (l ++ write_ops script)) (append-nil (own_ops store)) adds.part)),
    )

-- the writes of a pass that had seen nothing before
pub pass_writes : (a c : Knowledge) (script out : List ℕ) → a.seen ≡ [] → IsPass c → IsOutputTo (known a) script (known c) out → IsPartOf (operations c.mine) (write_ops script)
pass_writes a c script out fresh beyond h =
    let part : IsPartOf (own_ops (known c)) (own_ops (known a) ++ write_ops script) = (own_writes (known a) (known c) script out h).1 in
    subst (λ l. IsPartOf (operations l) (write_ops script)) beyond.mine
    (subst (λ (seen : List Commit). IsPartOf (own_ops (known c)) (operations (by_pass a.number (entries seen)) ++ write_ops script)) fresh part)

-- the replies to a script that such a pass served, and the pass's writes
pub pass_served : (a c : Knowledge) (script old text : List ℕ) → a.seen ≡ [] → IsPass c → old ≡ [] → Wrote (Some old) (Some text) (IsServedBy a script c) →
    IsServedBy a script c text × IsPartOf (operations c.mine) (write_ops script)
pass_served a c script old text fresh beyond empty w =
    let served : IsServedBy a script c text = subst (IsServedBy a script c) (sym (w.appended ∙ ap (λ l. l ++ w.out) empty)) w.is in
    (served, pass_writes a c script text fresh beyond (served_output a c script text served))
