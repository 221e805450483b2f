-- How the parts of a strict run fit together.
use Rattle.std.proofs.Common.{◌≡◌, ℕ, ◌+◌, Bool, true, false, IfOk, IfSome, List, [], ◌∷◌, ◌++◌, length, refl, sym, ap, ◌∙◌, subst, append_assoc, append-nil, length-append, arith, Some, None}
use Rattle.std.specs.Prelude.{if◌then◌else◌}
use Rattle.std.specs.declared.option.Option.{Option}
use Rattle.std.specs.declared.result.Result.{Result}
use Rattle.std.specs.declared.result.Result.TheVariants.{Ok, Err}
use Rattle.be_journal.specs.declared.entries.Entry.{Entry}
use Rattle.be_script_language.specs.Reply.{Reply, none, text_of}
use Rattle.be_script_language.specs.Request.{Request, silent, asked, lines_of}
use Rattle.be_table.specs.Rule.{entries}
use Rattle.be_table.specs.Versions.{CanEncodeEach}
use Rattle.be_table.specs.declared.limits.Limits.{Limits as StoreLimits}
use Rattle.be_volume.specs.Volume.{empty}
use Rattle.be_table.specs.declared.pass.Knowledge.{Knowledge}
use Rattle.be_script_runner.specs.Output.{Session, Serves, Answered, Outputs, IsFrontOfOutput, IsOutputTo, opening}
use Rattle.be_script_runner.specs.Run.{Wrote, AreFirstReplies, HasReplied, IsFrontOfAnswer, ReadsAll}
use Rattle.be_script_runner.specs.Served.{known}
use Rattle.be_script_runner.specs.Store.{Store, start}
use Rattle.be_script_runner.specs.Strict.{Accepts, HasAccepted, IsStrictOutput, IsStrictRun, Judged, StopsAt, is_refusal, numbered}
use Rattle.be_script_runner.proofs.EndLemmas.{nothing_asked}
use Rattle.be_script_runner.proofs.ReplyLemmas.{serves_at_once}
use Rattle.be_script_runner.proofs.RunLemmas.{all_read, none_written, stop, written_both}

-- the reply to a line is a possible answer
pub judged_answered : (s after : Session) (line : List ℕ) (found : Option (List ℕ)) (out : List ℕ) → Judged s line after found out → Answered s line after out
judged_answered s after line found out j = (j.0, j.1, j.2)

-- replies are possible replies if none of them is a refusal
pub accepts_outputs : (s last : Session) (lines : List (List ℕ)) (out : List ℕ) → Accepts s lines last out → Outputs s lines last out
accepts_outputs s last [] out h = h
accepts_outputs s last (line ∷ lines) out h =
    (h.0, h.1, h.2, judged_answered s h.0 line None h.1 h.3, accepts_outputs h.0 last lines h.2 h.4, h.5)

-- several lines, followed by further lines
pub accepts_both : (s mid last : Session) (lines beyond : List (List ℕ)) (out more : List ℕ) → Accepts s lines mid out → Accepts mid beyond last more → Accepts s (lines ++ beyond) last (out ++ more)
accepts_both s mid last [] beyond out more h g =
    subst (λ (text : List ℕ). Accepts s beyond last (text ++ more)) (sym h.1) (subst (λ (z : Session). Accepts z beyond last more) h.0 g)
accepts_both s mid last (line ∷ lines) beyond out more h g =
    (h.0, h.1, h.2 ++ more, h.3, accepts_both h.0 mid last lines beyond h.2 more h.4 g, ap (λ text. text ++ more) h.5 ∙ append_assoc h.1 h.2 more)

-- `accepts_both` for outputs
outputs_both : (s mid last : Session) (lines beyond : List (List ℕ)) (out more : List ℕ) → Outputs s lines mid out → Outputs mid beyond last more → Outputs s (lines ++ beyond) last (out ++ more)
outputs_both s mid last [] beyond out more h g =
    subst (λ (text : List ℕ). Outputs s beyond last (text ++ more)) (sym h.1) (subst (λ (z : Session). Outputs z beyond last more) h.0 g)
outputs_both s mid last (line ∷ lines) beyond out more h g =
    (h.0, h.1, h.2 ++ more, h.3, outputs_both h.0 mid last lines beyond h.2 more h.4 g, ap (λ text. text ++ more) h.5 ∙ append_assoc h.1 h.2 more)

-- one line that is accepted
accepts_one : (s after : Session) (line reply : List ℕ) → Judged s line after None reply → Accepts s (line ∷ []) after reply
accepts_one s after line reply j = (after, reply, [], j, (refl, refl), sym (append-nil reply))

-- a refused line's text is its reply
refusal_is_reply : (b : Bool) (text out : List ℕ) → Some text ≡ (if b then Some out else None) → text ≡ out
refusal_is_reply true text out e = cc
refusal_is_reply false text out e = cc

-- nothing has been accepted yet
pub nothing_yet : (store : Store) (script : List ℕ) (s : Session) (known : Option (List ℕ)) → s ≡ opening store → Wrote known known (HasAccepted store script s script 1)
nothing_yet store script s known e = record {
  out = [];
  appended = none_written known;
  is = record { lines = []; is = refl; number_is = refl; output = (e, refl) };
}

-- the replies to the accepted lines were written
pub accepted_replied : (store : Store) (script left : List ℕ) (s : Session) (number : ℕ) (old new : Option (List ℕ)) → Wrote old new (HasAccepted store script s left number) →
    Wrote old new (HasReplied store script s left)
accepted_replied store script left s number old new w = record {
  out = w.out;
  appended = w.appended;
  is = record { lines = w.is.lines; is = w.is.is; output = accepts_outputs (opening store) s w.is.lines w.out w.is.output };
}

-- a whole answer is a prefix of an answer
pub whole_answer : (s after : Session) (line : List ℕ) (found : Option (List ℕ)) (old new : Option (List ℕ)) → Wrote old new (Judged s line after found) → Wrote old new (IsFrontOfAnswer s line)
whole_answer s after line found old new w = record {
  out = w.out;
  appended = w.appended;
  is = (after, [], subst (Answered s line after) (sym (append-nil w.out)) (judged_answered s after line found w.out w.is));
}

-- one more line is accepted
pub accept_more : (store : Store) (script left line left' : List ℕ) (s s' : Session) (number : ℕ) (old mid new : Option (List ℕ)) → lines_of left ≡ line ∷ lines_of left' →
    Wrote old mid (HasAccepted store script s left number) → Wrote mid new (Judged s line s' None) → Wrote old new (HasAccepted store script s' left' (number + 1))
accept_more store script left line left' s s' number old mid new e w r = record {
  out = w.out ++ r.out;
  appended = written_both old mid new w.out r.out w.appended r.appended;
  is = record {
    lines = w.is.lines ++ line ∷ [];
    is = w.is.is ∙ (ap (λ beyond. w.is.lines ++ beyond) e ∙ sym (append_assoc w.is.lines (line ∷ []) (lines_of left')));
    number_is = let long = length-append w.is.lines (line ∷ []) in omega (arith, long, w.is.number_is);
    output = accepts_both (opening store) s s' w.is.lines (line ∷ []) w.out r.out w.is.output (accepts_one s s' line r.out r.is);
  };
}

-- a line is refused
pub stop_at : (store : Store) (script left line : List ℕ) (beyond : List (List ℕ)) (s s' : Session) (number : ℕ) (text : List ℕ) (old mid new : Option (List ℕ)) → lines_of left ≡ line ∷ beyond →
    Wrote old mid (HasAccepted store script s left number) → Wrote mid new (Judged s line s' (Some text)) → Wrote old new (IsStrictOutput store script (Some (number, text)) s'.store)
stop_at store script left line beyond s s' number text old mid new e w r =
    let same : text ≡ r.out = refusal_is_reply (is_refusal r.is.0) text r.out r.is.3 in
    record {
      out = w.out ++ r.out;
      appended = written_both old mid new w.out r.out w.appended r.appended;
      is = record {
        lines = w.is.lines;
        line = line;
        rest = beyond;
        is = w.is.is ∙ ap (λ ls. w.is.lines ++ ls) e;
        number_is = w.is.number_is;
        before = s;
        front = w.out;
        accepted = w.is.output;
        after = s';
        judged = subst (Judged s line s' (Some text)) (sym same) r.is;
        out_is = ap (λ l. w.out ++ l) (sym same);
        leaves = refl;
      };
    }

-- the last line is accepted
pub accept_last : (store : Store) (script left : List ℕ) (s s' : Session) (number : ℕ) (old mid new : Option (List ℕ)) → lines_of left ≡ left ∷ [] →
    Wrote old mid (HasAccepted store script s left number) → Wrote mid new (Judged s left s' None) → Wrote old new (IsStrictOutput store script None s'.store)
accept_last store script left s s' number old mid new e w r =
    let lines : lines_of script ≡ w.is.lines ++ (left ∷ []) = w.is.is ∙ ap (λ ls. w.is.lines ++ ls) e in
    record {
      out = w.out ++ r.out;
      appended = written_both old mid new w.out r.out w.appended r.appended;
      is = (
        s',
        subst (λ (ls : List (List ℕ)). Accepts (opening store) ls s' (w.out ++ r.out)) (sym lines)
            (accepts_both (opening store) s s' w.is.lines (left ∷ []) w.out r.out w.is.output (accepts_one s s' left r.out r.is)),
        refl,
      );
    }

-- an empty line is accepted
empty_judged : (s : Session) → Judged s [] s None []
empty_judged s = (none, subst (λ (q : Request). Serves s q none s) (sym nothing_asked) (serves_at_once s s silent none refl), refl, refl)

-- no text follows the last LF
pub accept_empty : (store : Store) (script left : List ℕ) (s : Session) (number : ℕ) (old new : Option (List ℕ)) → length left ≡ 0 → Wrote old new (HasAccepted store script s left number) →
    Wrote old new (IsStrictOutput store script None s.store)
accept_empty store script [] s number old new empty w =
    accept_last store script [] s s number old new new refl w (record { out = []; appended = none_written new; is = empty_judged s })
accept_empty store script (c ∷ left) s number old new empty w = absurd (omega (arith, empty))

-- the last line is accepted or refused
pub judge_last : (store : Store) (script left : List ℕ) (s s' : Session) (number : ℕ) (reply : Option (List ℕ)) (found : Option (ℕ × List ℕ)) (old mid new : Option (List ℕ)) →
    lines_of left ≡ left ∷ [] → Wrote old mid (HasAccepted store script s left number) → Wrote mid new (Judged s left s' reply) → found ≡ numbered number reply →
    Wrote old new (IsStrictOutput store script found s'.store)
judge_last store script left s s' number None found old mid new e w r is =
    subst (λ (f : Option (ℕ × List ℕ)). Wrote old new (IsStrictOutput store script f s'.store)) (sym is) (accept_last store script left s s' number old mid new e w r)
judge_last store script left s s' number (Some text) found old mid new e w r is =
    subst (λ (f : Option (ℕ × List ℕ)). Wrote old new (IsStrictOutput store script f s'.store)) (sym is) (stop_at store script left left [] s s' number text old mid new e w r)

-- the replies up to and including a refused line are an output of those lines
stopped_output : (store new : Store) (script text out : List ℕ) (number : ℕ) (h : StopsAt store script number text new out) → Outputs (opening store) (h.lines ++ (h.line ∷ [])) h.after out
stopped_output store new script text out number h =
    let answered : Answered h.before h.line h.after text = judged_answered h.before h.after h.line (Some text) text h.judged in
    let whole : Outputs (opening store) (h.lines ++ (h.line ∷ [])) h.after (h.front ++ text) =
    outputs_both (opening store) h.before h.after h.lines (h.line ∷ []) h.front text (accepts_outputs (opening store) h.before h.lines h.front h.accepted)
    (h.after, text, [], answered, (refl, refl), sym (append-nil text)) in
    subst (Outputs (opening store) (h.lines ++ (h.line ∷ [])) h.after) (sym h.out_is) whole

pub strict_whole : (store new : Store) (script out : List ℕ) → IsStrictOutput store script None new out → IsOutputTo store script new out
strict_whole store new script out h = (h.0, accepts_outputs (opening store) h.0 (lines_of script) out h.1, h.2)

pub strict_part : (store new : Store) (script text out : List ℕ) (number : ℕ) → IsStrictOutput store script (Some (number, text)) new out →
    (lines : List (List ℕ)) × (rest : List (List ℕ)) × (last : Session) × (lines_of script ≡ lines ++ rest) × (number ≡ length lines) × Outputs (opening store) lines last out × (last.store ≡ new)
strict_part store new script text out number h =
    let long = length-append h.lines (h.line ∷ []) in
    let count : number ≡ length (h.lines ++ (h.line ∷ [])) = omega (arith, long, h.number_is) in (
      h.lines ++ (h.line ∷ []),
      h.rest,
      h.after,
      h.is ∙ sym (append_assoc h.lines (h.line ∷ []) h.rest),
      count,
      stopped_output store new script text out number h,
      h.leaves,
    )

-- the replies of a strict run are those to the first lines
strict_first : (store new : Store) (script : List ℕ) (found : Option (ℕ × List ℕ)) (out : List ℕ) → IsStrictOutput store script found new out → AreFirstReplies store script out
strict_first store new script None out h = record {
  lines = lines_of script;
  rest = [];
  is = sym (append-nil (lines_of script));
  last = h.0;
  output = accepts_outputs (opening store) h.0 (lines_of script) out h.1;
}
strict_first store new script (Some found) out h = record {
  lines = h.lines ++ (h.line ∷ []);
  rest = h.rest;
  is = h.is ∙ sym (append_assoc h.lines (h.line ∷ []) h.rest);
  last = h.after;
  output = stopped_output store new script found.1 out found.0 h;
}

pub strict_replies : (store new : Store) (script : List ℕ) (found : Option (ℕ × List ℕ)) (old held : Option (List ℕ)) → Wrote old held (IsStrictOutput store script found new) →
    Wrote old held (AreFirstReplies store script)
strict_replies store new script found old held w = record { out = w.out; appended = w.appended; is = strict_first store new script found w.out w.is }

-- an output is a prefix of an output
pub output_front : (store new : Store) (script : List ℕ) (old held : Option (List ℕ)) → Wrote old held (IsOutputTo store script new) → Wrote old held (IsFrontOfOutput store script)
output_front store new script old held w =
    record { out = w.out; appended = w.appended; is = ([], (new, subst (IsOutputTo store script new) (sym (append-nil w.out)) w.is)) }

pub strict_front : (store new : Store) (script : List ℕ) (old held : Option (List ℕ)) → Wrote old held (IsStrictOutput store script None new) → Wrote old held (IsFrontOfOutput store script)
strict_front store new script old held w = output_front store new script old held (record { out = w.out; appended = w.appended; is = strict_whole store new script w.out w.is })

-- a strict run whose store is then closed
pub strict_run : (limits : StoreLimits) (script : List ℕ) (found : Option (ℕ × List ℕ)) (first after c : Knowledge) (log : List Entry) (old new : Option (List ℕ)) → known first ≡ start limits.commits →
    c ≡ after → log ≡ entries c.seen → CanEncodeEach limits.pages empty log → Wrote old new (IsStrictOutput (known first) script found (known after)) → Wrote old new (IsStrictRun limits script found log)
strict_run limits script found first after c log old new begun ended all volumes w = record {
  out = w.out;
  appended = w.appended;
  is = record {
    last = known after;
    output = subst (λ (s : Store). IsStrictOutput s script found (known after) w.out) begun w.is;
    journal_is = all ∙ ap (λ (k : Knowledge). entries k.seen) ended;
    volumes = volumes;
  };
}

-- a statement about the script that was read holds for the reader's bytes
pub strict_of_reader : {T E : Type 0} (r : Result T E) (found : T → Option (ℕ × List ℕ)) (log : T → List Entry) (limits : StoreLimits) (input left old new : Option (List ℕ)) (bytes : List ℕ) →
    ReadsAll input left bytes → IfOk r (λ t. Wrote old new (IsStrictRun limits bytes (found t) (log t))) →
    IfOk r (λ t. IfSome input (λ script. Wrote old new (IsStrictRun limits script (found t) (log t))))
strict_of_reader (Ok t) found log limits input left old new bytes h w = all_read input left bytes (λ script. Wrote old new (IsStrictRun limits script (found t) (log t))) h w
strict_of_reader (Err e) found log limits input left old new bytes h w = tt
