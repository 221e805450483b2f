-- How the parts of a run fit together.
use Rattle.std.proofs.Common.{◌≡◌, ℕ, IfErr, ◌<◌, ◌≤◌, ◌+◌, ◌^◌, Bool, true, false, cond, not, nat_lt, take, drop, position, IfSome, OnOk, OnErr, length-append, List, [], ◌∷◌, ◌++◌, length, refl, sym, ap, ◌∙◌, subst, append_assoc, arith, inl, inr, Some, None}
use Rattle.std.specs.declared.option.Option.{Option}
use Rattle.std.specs.Io.KnownBytes.{Appends, Consumes, Keeps}
use Rattle.std.specs.List.{position_or_len, onto_first}
use Rattle.std.specs.Result.{IsErrAnd}
use Rattle.std.proofs.lemmas.List.Splits.{slice_split_first}
use Rattle.std.proofs.lemmas.Bool.Decides.{nat_tests}
use Rattle.std.specs.declared.result.Result.{Result}
use Rattle.std.specs.declared.result.Result.TheVariants.{Ok, Err}
use Rattle.be_value.specs.declared.refusals.Refusal.TheVariants.{OutOfMemory}
use Rattle.be_script_runner.specs.declared.faults.RunFault.{RunFault}
use Rattle.be_script_runner.specs.declared.faults.RunFault.TheVariants.{Limits, Read, TooLong, Write, Memory}
use Rattle.be_script_runner.specs.Store.{Store, start, viewed}
use Rattle.be_script_language.specs.Request.{Request, silent, malformed, write, query, page, explain, get, attrs, indices, pin, unpin, live, refresh, begin, commit, abort, asked, lines_of}
use Rattle.be_script_language.specs.Reply.{Reply, bad_line, none, refused, text_of}
use Rattle.be_script_runner.specs.Output.{Session, Replies, Serves, Answered, Outputs, IsOutputTo, IsFrontOfOutput, aborting, beginning, committing, got, opening, pinning, refreshing, taken, unpinning}
use Rattle.be_script_runner.proofs.ReplyLemmas.{serves_at_once}
use Rattle.be_table.specs.Versions.{CanEncodeEach}
use Rattle.be_table.specs.declared.limits.Limits.{Limits as StoreLimits}
use Rattle.be_volume.specs.Volume.{empty}
use Rattle.be_script_runner.specs.Run.{Wrote, IsRun, IsFrontOf, IsFrontOfAnswer, AreFirstReplies, HasReplied, RunLeaves, ReadFault, ReadsAll, IsLate, IsNotLimits, is_line_end}

append_nothing : {A : Type 0} (xs : List A) → xs ++ [] ≡ xs
append_nothing [] = refl
append_nothing (x ∷ xs) = ap (λ ys. x ∷ ys) (append_nothing xs)

pub none_written : (known : Option (List ℕ)) → Appends known known []
none_written None = tt
none_written (Some xs) = sym (append_nothing xs)

-- two writes, one after the other
pub written_both : (a b c : Option (List ℕ)) (xs ys : List ℕ) → Appends a b xs → Appends b c ys → Appends a c (xs ++ ys)
written_both None b c xs ys h g = tt
written_both (Some a) None c xs ys h g = absurd h
written_both (Some a) (Some b) None xs ys h g = absurd g
written_both (Some a) (Some b) (Some c) xs ys h g = g ∙ ap (λ z. z ++ ys) h ∙ append_assoc a xs ys

-- two reads, one after the other
pub read_both : (a b c : Option (List ℕ)) (xs ys : List ℕ) → Consumes a b xs → Consumes b c ys → Consumes a c (xs ++ ys)
read_both None b c xs ys h g = tt
read_both (Some a) None c xs ys h g = absurd h
read_both (Some a) (Some b) None xs ys h g = absurd g
read_both (Some a) (Some b) (Some c) xs ys h g = h ∙ ap (λ z. xs ++ z) g ∙ sym (append_assoc xs ys c)

-- more of the bytes were written
pub more_written : (old mid new : Option (List ℕ)) (bytes left front left' : List ℕ) → Wrote old mid (λ out. bytes ≡ out ++ left) → Appends mid new front → left ≡ front ++ left' →
    Wrote old new (λ out. bytes ≡ out ++ left')
more_written old mid new bytes left front left' w a e = record {
  out = w.out ++ front;
  appended = written_both old mid new w.out front w.appended a;
  is = w.is ∙ ap (λ z. w.out ++ z) e ∙ sym (append_assoc w.out front left');
}

-- a possible reply to any request, and the session after it
abbrev some_reply : Session → Request → Reply × Session
some_reply s silent = (none, s)
some_reply s malformed = (bad_line, s)
some_reply s (write (Ok op)) = taken s s.batch op
some_reply s (write (Err e)) = (refused e, s)
some_reply s (query text) = (refused OutOfMemory, s)
some_reply s (page (Ok paging) text) = (refused OutOfMemory, s)
some_reply s (page (Err e) text) = (refused e, s)
some_reply s (explain text) = (refused OutOfMemory, s)
some_reply s (get n name) = (got (viewed s.store) n name, s)
some_reply s (attrs n) = (refused OutOfMemory, s)
some_reply s indices = (refused OutOfMemory, s)
some_reply s pin = pinning s s.store.pin
some_reply s unpin = unpinning s s.store.pin
some_reply s (live text) = (refused OutOfMemory, s)
some_reply s refresh = refreshing s s.live
some_reply s begin = beginning s s.batch
some_reply s commit = committing s s.batch
some_reply s abort = aborting s s.batch

may_reply : (s : Session) (request : Request) → Replies s request (some_reply s request).0 (some_reply s request).1
may_reply s silent = refl
may_reply s malformed = inl refl
may_reply s (write (Ok op)) = inl refl
may_reply s (write (Err e)) = inl refl
may_reply s (query text) = inr (refl, inl (refl, tt))
may_reply s (page (Ok paging) text) = inr (refl, inl (refl, tt))
may_reply s (page (Err e) text) = inl refl
may_reply s (explain text) = inr (refl, inl (refl, tt))
may_reply s (get n name) = inl refl
may_reply s (attrs n) = inr (refl, inl (refl, tt))
may_reply s indices = inr (refl, inl (refl, tt))
may_reply s pin = refl
may_reply s unpin = inl refl
may_reply s (live text) = inr (refl, inl (refl, tt))
may_reply s refresh = inl refl
may_reply s begin = inl refl
may_reply s commit = inl refl
may_reply s abort = inl refl

-- the session and the text after a possible answer to a line
abbrev after_some : Session → List ℕ → Session
after_some s line = (some_reply s (asked line)).1

abbrev some_text : Session → List ℕ → List ℕ
some_text s line = text_of (some_reply s (asked line)).0

-- each line has a possible answer
some_answer : (s : Session) (line : List ℕ) → Answered s line (after_some s line) (some_text s line)
some_answer s line = ((some_reply s (asked line)).0, serves_at_once s (after_some s line) (asked line) (some_reply s (asked line)).0 (may_reply s (asked line)), refl)

-- every list of lines has a possible output, and leaves a session
some_output : (s : Session) (lines : List (List ℕ)) → (last : Session) × (out : List ℕ) × Outputs s lines last out
some_output s [] = (s, [], (refl, refl))
some_output s (line ∷ lines) =
    let after = after_some s line in
    let next = some_output after lines in
    let text = some_text s line in
    (next.0, text ++ next.1, (after, text, next.1, some_answer s line, next.2, refl))

-- several lines, followed by further lines
outputs_both : (s mid last : Session) (lines beyond : List (List ℕ)) (out more : List ℕ) → Outputs s lines mid out → Outputs mid beyond last more → Outputs s (lines ++ beyond) last (out ++ more)
outputs_both s mid last [] beyond out more h g =
    subst (λ (text : List ℕ). Outputs s beyond last (text ++ more)) (sym h.1) (subst (λ (z : Session). Outputs z beyond last more) h.0 g)
outputs_both s mid last (line ∷ lines) beyond out more h g =
    (h.0, h.1, h.2 ++ more, h.3, outputs_both h.0 mid last lines beyond h.2 more h.4 g, ap (λ text. text ++ more) h.5 ∙ append_assoc h.1 h.2 more)

-- the replies so far, followed by an output of the remaining lines, are an output of the script
completed : (store : Store) (script left : List ℕ) (s last : Session) (out more : List ℕ) → HasReplied store script s left out → Outputs s (lines_of left) last more →
    Outputs (opening store) (lines_of script) last (out ++ more)
completed store script left s last out more r h =
    subst (λ (lines : List (List ℕ)). Outputs (opening store) lines last (out ++ more)) (sym r.is) (outputs_both (opening store) s last r.lines (lines_of left) out more r.output h)

-- the replies so far are those to the first lines
pub first_replies : (store : Store) (script left : List ℕ) (s : Session) (old new : Option (List ℕ)) → Wrote old new (HasReplied store script s left) → Wrote old new (AreFirstReplies store script)
first_replies store script left s old new w = record {
  out = w.out;
  appended = w.appended;
  is = record { lines = w.is.lines; rest = lines_of left; is = w.is.is; last = s; output = w.is.output };
}

-- one more line is answered
pub advance : (store : Store) (script left line left' : List ℕ) (s s' : Session) (old mid new : Option (List ℕ)) → lines_of left ≡ line ∷ lines_of left' →
    Wrote old mid (HasReplied store script s left) → Wrote mid new (Answered s line s') → Wrote old new (HasReplied store script s' left')
advance store script left line left' s s' old mid new e w r = record {
  out = w.out ++ r.out;
  appended = written_both old mid new w.out r.out w.appended r.appended;
  is = record {
    lines = w.is.lines ++ line ∷ [];
    is = w.is.is ∙ (ap (λ beyond. w.is.lines ++ beyond) e ∙ sym (append_assoc w.is.lines (line ∷ []) (lines_of left')));
    output = outputs_both (opening store) s s' w.is.lines (line ∷ []) w.out r.out w.is.output (s', r.out, [], r.is, (refl, refl), sym (append_nothing r.out));
  };
}

-- the last line is answered
pub finish : (store : Store) (script left : List ℕ) (s s' : Session) (old mid new : Option (List ℕ)) → lines_of left ≡ left ∷ [] →
    Wrote old mid (HasReplied store script s left) → Wrote mid new (Answered s left s') → Wrote old new (IsOutputTo store script s'.store)
finish store script left s s' old mid new e w r = record {
  out = w.out ++ r.out;
  appended = written_both old mid new w.out r.out w.appended r.appended;
  is = (
    s',
    completed store script left s s' w.out r.out w.is (subst (λ (lines : List (List ℕ)). Outputs s lines s' r.out) (sym e) (s', r.out, [], r.is, (refl, refl), sym (append_nothing r.out))),
    refl,
  );
}

-- an error in the middle of a reply
pub stop : (store : Store) (script left line : List ℕ) (lines : List (List ℕ)) (s : Session) (old mid new : Option (List ℕ)) → lines_of left ≡ line ∷ lines →
    Wrote old mid (HasReplied store script s left) → Wrote mid new (IsFrontOfAnswer s line) → Wrote old new (IsFrontOfOutput store script)
stop store script left line lines s old mid new e w r =
    let next = some_output r.is.0 lines in
    let rest = r.is.1 ++ next.1 in
    let whole : Outputs s (line ∷ lines) next.0 ((r.out ++ r.is.1) ++ next.1) = (r.is.0, r.out ++ r.is.1, next.1, r.is.2, next.2, refl) in
    let output : Outputs (opening store) (lines_of script) next.0 (w.out ++ (r.out ++ rest)) =
    completed store script left s next.0 w.out (r.out ++ rest) w.is (subst (λ (ls : List (List ℕ)). Outputs s ls next.0 (r.out ++ rest)) (sym e)
    (subst (Outputs s (line ∷ lines) next.0) (append_assoc r.out r.is.1 next.1) whole)) in
    record {
      out = w.out ++ r.out;
      appended = written_both old mid new w.out r.out w.appended r.appended;
      is = (rest, (next.0.store, (next.0, subst (Outputs (opening store) (lines_of script) next.0) (sym (append_assoc w.out r.out rest)) output, refl)));
    }

-- nothing of a script was answered
pub none_answered : (store : Store) (script : List ℕ) (known : Option (List ℕ)) → Wrote known known (IsFrontOfOutput store script)
none_answered store script known =
    let some = some_output (opening store) (lines_of script) in
    record { out = []; appended = none_written known; is = (some.1, (some.0.store, (some.0, some.2, refl))) }

-- a line that wasn't run
pub none_of_line : (s : Session) (line : List ℕ) (known : Option (List ℕ)) → Wrote known known (IsFrontOfAnswer s line)
none_of_line s line known = record { out = []; appended = none_written known; is = (after_some s line, some_text s line, some_answer s line) }

-- a reply that wasn't written at all
pub none_of_reply : (s s' : Session) (line : List ℕ) (request : Request) (reply : Reply) (known : Option (List ℕ)) → request ≡ asked line → Serves s request reply s' →
    Wrote known known (IsFrontOfAnswer s line)
none_of_reply s s' line request reply known e r = record {
  out = [];
  appended = none_written known;
  is = (s', text_of reply, (reply, subst (λ (q : Request). Serves s q reply s') e r, refl));
}

-- a prefix of a reply's text was written
pub front_of_reply : (s s' : Session) (line text : List ℕ) (request : Request) (reply : Reply) (old new : Option (List ℕ)) → request ≡ asked line → Serves s request reply s' →
    text ≡ text_of reply → Wrote old new (IsFrontOf text) → Wrote old new (IsFrontOfAnswer s line)
front_of_reply s s' line text request reply old new e r t w = record {
  out = w.out;
  appended = w.appended;
  is = (s', w.is.0, (reply, subst (λ (q : Request). Serves s q reply s') e r, sym w.is.1 ∙ t));
}

-- nothing of a script has been answered yet
pub nothing_yet : (store : Store) (script : List ℕ) (s : Session) (known : Option (List ℕ)) → s ≡ opening store → Wrote known known (HasReplied store script s script)
nothing_yet store script s known e = record {
  out = [];
  appended = none_written known;
  is = record { lines = []; is = refl; output = (e, refl) };
}

pub on_ok : {T E P Q : Type 0} (r : Result T E) → (P → Q) → OnOk r P → OnOk r Q
on_ok (Ok x) f p = f p
on_ok (Err e) f p = tt

pub on_err : {T E P Q : Type 0} (r : Result T E) → (P → Q) → OnErr r P → OnErr r Q
on_err (Ok x) f p = tt
on_err (Err e) f p = f p

pub always_ok : {T E P : Type 0} (r : Result T E) → P → OnOk r P
always_ok (Ok x) p = p
always_ok (Err e) p = tt

pub always_err : {T E P : Type 0} (r : Result T E) → P → OnErr r P
always_err (Ok x) p = tt
always_err (Err e) p = p

keeps : (known : Option (List ℕ)) → Keeps known known
keeps None = tt
keeps (Some xs) = refl

too_long : (old new : Option (List ℕ)) (bytes : List ℕ) → Consumes old new bytes → 2 ^ 20 < length bytes → IfSome old (λ script. 2 ^ 20 < length script)
too_long None new bytes h l = tt
too_long (Some xs) None bytes h l = absurd h
too_long (Some xs) (Some ys) bytes h l = omega (arith, ap length h, length-append bytes ys, l)

pub none_answered_if : (store : Store) (input known : Option (List ℕ)) → IfSome input (λ script. Wrote known known (AreFirstReplies store script))
none_answered_if store None known = tt
none_answered_if store (Some script) known = record {
  out = [];
  appended = none_written known;
  is = record { lines = []; rest = lines_of script; is = refl; last = opening store; output = (refl, refl) };
}

-- what an error during reading leaves
pub left_by : (e : RunFault) (store : Store) (old new known : Option (List ℕ)) → ReadFault e old new → RunLeaves e store old known known
left_by Limits store old new known h = absurd h
left_by Read store old new known h = keeps known
left_by TooLong store old new known h = (keeps known, too_long old new h.0 h.1 h.2)
left_by Write store old new known h = absurd h
left_by Memory store old new known h = none_answered_if store old known

pub all_read : (input left : Option (List ℕ)) (bytes : List ℕ) (P : List ℕ → Type 0) → ReadsAll input left bytes → P bytes → IfSome input P
all_read None left bytes P h p = tt
all_read (Some xs) None bytes P h p = absurd h.0
all_read (Some xs) (Some ys) bytes P h p = subst P (sym (h.0 ∙ ap (λ z. bytes ++ z) h.1 ∙ append_nothing bytes)) p

-- what an error after reading leaves
pub left_late : {T : Type 0} (r : Result T RunFault) (store : Store) (input left old new : Option (List ℕ)) (bytes : List ℕ) → IfErr r IsLate → ReadsAll input left bytes →
    OnErr r (Wrote old new (IsFrontOfOutput store bytes)) → IfErr r (λ e. e ≡ Memory → Wrote old new (AreFirstReplies store bytes)) → IfErr r (λ e. RunLeaves e store input old new)
left_late (Ok x) store input left old new bytes l h w whole = tt
left_late (Err Limits) store input left old new bytes l h w whole = absurd l
left_late (Err Read) store input left old new bytes l h w whole = absurd l
left_late (Err TooLong) store input left old new bytes l h w whole = absurd l
left_late (Err Write) store input left old new bytes l h w whole = all_read input left bytes (λ script. Wrote old new (IsFrontOfOutput store script)) h w
left_late (Err Memory) store input left old new bytes l h w whole = all_read input left bytes (λ script. Wrote old new (AreFirstReplies store script)) h (whole refl)

-- Write is a different error from Memory
pub is_not_memory : {T : Type 0} (r : Result T RunFault) (P : Type 0) → IfErr r (λ e. e ≡ Write) → IfErr r (λ e. e ≡ Memory → P)
is_not_memory (Ok x) P h = tt
is_not_memory (Err e) P h = λ is. absurd (let both : Write ≡ Memory = sym h ∙ is in cc)

-- if a line ran out of memory, nothing more was written
pub none_further : (e : RunFault) (store : Store) (script left : List ℕ) (s : Session) (old mid new : Option (List ℕ)) → Wrote old mid (HasReplied store script s left) →
    (e ≡ Memory → new ≡ mid) → e ≡ Memory → Wrote old new (AreFirstReplies store script)
none_further e store script left s old mid new w same is = subst (λ (held : Option (List ℕ)). Wrote old held (AreFirstReplies store script)) (sym (same is)) (first_replies store script left s old mid w)

pub each_err : {T E : Type 0} {P Q : E → Type 0} (r : Result T E) → ((e : E) → P e → Q e) → IfErr r P → IfErr r Q
each_err (Ok x) f p = tt
each_err (Err e) f p = f e p

-- what holds after memory ran out, given what held before
pub on_memory : {A B : Type 0} (e : RunFault) → (A → B) → (e ≡ Memory → A) → e ≡ Memory → B
on_memory e f left is = f (left is)

-- an error that is passed on to the caller
pub passed_up : {T E : Type 0} (r : Result T E) (e : E) (P : E → Type 0) → IsErrAnd r (λ y. y ≡ e) → P e → IfErr r P
passed_up (Ok x) e P is p = tt
passed_up (Err y) e P is p = subst P (sym is) p

pub whole_output : (store store' : Store) (input left old new : Option (List ℕ)) (bytes : List ℕ) → ReadsAll input left bytes → Wrote old new (IsOutputTo store bytes store') →
    IfSome input (λ script. Wrote old new (IsOutputTo store script store'))
whole_output store store' input left old new bytes h w = all_read input left bytes (λ script. Wrote old new (IsOutputTo store script store')) h w

-- an output that leaves a store whose volumes fit into its pages is the output of a run
pub run_output : (limits : StoreLimits) (input old new : Option (List ℕ)) (first last : Store) → first ≡ start limits.commits → CanEncodeEach limits.pages empty last.journal →
    IfSome input (λ script. Wrote old new (IsOutputTo first script last)) → IfSome input (λ script. Wrote old new (IsRun limits script))
run_output limits None old new first last is volumes w = tt
run_output limits (Some script) old new first last is volumes w = record {
  out = w.out;
  appended = w.appended;
  is = record { last = last; output = subst (λ (s : Store). IsOutputTo s script last w.out) is w.is; volumes = volumes };
}

pub late_is_other : (e : RunFault) → IsLate e → IsNotLimits e
late_is_other Limits h = absurd h
late_is_other Read h = tt
late_is_other TooLong h = tt
late_is_other Write h = tt
late_is_other Memory h = tt

pub read_is_other : (e : RunFault) (old new : Option (List ℕ)) → ReadFault e old new → IsNotLimits e
read_is_other Limits old new h = absurd h
read_is_other Read old new h = tt
read_is_other TooLong old new h = tt
read_is_other Write old new h = tt
read_is_other Memory old new h = tt

-- the first line ends at the first LF
pub first_line : (xs : List ℕ) (i : ℕ) → position is_line_end xs ≡ Some i → lines_of xs ≡ take i xs ∷ lines_of (drop (i + 1) xs)
first_line xs i h = by (nat_lt (position_or_len is_line_end xs) (length xs)) refl h
  where
    by : (b : Bool) → nat_lt (position_or_len is_line_end xs) (length xs) ≡ b → cond b (Some (position_or_len is_line_end xs)) None ≡ Some i →
        lines_of xs ≡ take i xs ∷ lines_of (drop (i + 1) xs)
    by false e h = cc
    by true e h =
        let at : position_or_len is_line_end xs ≡ i = cc in
        slice_split_first is_line_end xs 0 (grind (arith, nat_tests)) ∙ ap (λ n. take n xs ∷ lines_of (drop (n + 1) xs)) at

-- a text without an LF is one line
one_line : (xs : List ℕ) → length xs ≤ position_or_len is_line_end xs → lines_of xs ≡ xs ∷ []
one_line [] h = refl
one_line (x ∷ xs) h = by (is_line_end x) h (λ g. one_line xs g)
  where
    by : (b : Bool) → length (x ∷ xs) ≤ cond (not b) (1 + position_or_len is_line_end xs) 0 → (length xs ≤ position_or_len is_line_end xs → lines_of xs ≡ xs ∷ []) → cond b ([] ∷ lines_of xs) (onto_first x (lines_of xs)) ≡ (x ∷ xs) ∷ []
    by true h rest = absurd (omega arith)
    by false h rest = ap (onto_first x) (rest (omega arith))

pub last_line : (xs : List ℕ) → position is_line_end xs ≡ None → lines_of xs ≡ xs ∷ []
last_line xs h = by (nat_lt (position_or_len is_line_end xs) (length xs)) refl h
  where
    by : (b : Bool) → nat_lt (position_or_len is_line_end xs) (length xs) ≡ b → cond b (Some (position_or_len is_line_end xs)) None ≡ None → lines_of xs ≡ xs ∷ []
    by true e h = cc
    by false e h = one_line xs (grind (arith, nat_tests))
