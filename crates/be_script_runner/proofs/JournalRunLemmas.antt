-- Runs that also write their journal.
use Rattle.std.proofs.Common.{◌≡◌, ℕ, Bool, true, List, [], ◌++◌, IfOk, IfErr, IfSome, OnErr, Some, None, inl, inr, refl, sym, ap, ◌∙◌, subst, append_assoc, append-nil}
use Rattle.std.specs.declared.option.Option.{Option}
use Rattle.std.specs.declared.result.Result.{Result}
use Rattle.std.specs.declared.result.Result.TheVariants.{Ok, Err}
use Rattle.std.specs.Io.KnownBytes.{Appends}
use Rattle.be_journal.specs.Journal.{IsLegal}
use Rattle.be_journal.specs.Text.{result_text}
use Rattle.be_journal.specs.declared.entries.Entry.{Entry}
use Rattle.be_table.specs.Rule.{entries}
use Rattle.be_table.specs.Versions.{CanEncodeEach}
use Rattle.be_table.specs.declared.limits.Limits.{Limits as StoreLimits}
use Rattle.be_volume.specs.Volume.{empty}
use Rattle.be_table.specs.declared.pass.Knowledge.{Knowledge}
use Rattle.be_script_language.specs.Request.{lines_of}
use Rattle.be_script_runner.specs.Output.{IsFrontOfOutput, IsOutputTo}
use Rattle.be_script_runner.specs.Run.{AreFirstReplies, Wrote, IsFrontOf, IsLate, ReadFault, ReadsAll}
use Rattle.be_script_runner.specs.Served.{known}
use Rattle.be_script_runner.specs.Store.{Store, start}
use Rattle.be_script_runner.specs.JournalRuns.{IsReportedInPart, IsReportedRun, JournalRunLeaves}
use Rattle.be_script_runner.specs.declared.faults.RunFault.{RunFault}
use Rattle.be_script_runner.specs.declared.faults.RunFault.TheVariants.{Limits, Read, TooLong, Write, Memory}
use Rattle.be_script_runner.proofs.RunLemmas.{all_read, left_by, none_answered, none_answered_if, written_both}

-- the replies, followed by the journal that they leave
pub reported_run : (limits : StoreLimits) (script : List ℕ) (first after c : Knowledge) (log : List Entry) (old mid new : Option (List ℕ)) → known first ≡ start limits.commits → c ≡ after →
    log ≡ entries c.seen → IsLegal log → CanEncodeEach limits.pages empty log → Wrote old mid (IsOutputTo (known first) script (known after)) → Appends mid new (result_text log) →
    Wrote old new (IsReportedRun limits script)
reported_run limits script first after c log old mid new begun ended all legal volumes w more =
    let same : log ≡ entries after.seen = all ∙ ap (λ (k : Knowledge). entries k.seen) ended in
    record {
      out = w.out ++ result_text log;
      appended = written_both old mid new w.out (result_text log) w.appended more;
      is = record {
        last = known after;
        replies = w.out;
        output = subst (λ (s : Store). IsOutputTo s script (known after) w.out) begun w.is;
        legal = subst IsLegal same legal;
        volumes = subst (CanEncodeEach limits.pages empty) same volumes;
        is = ap (λ l. w.out ++ result_text l) same;
      };
    }

-- a statement about the script that was read holds for the reader's bytes
pub reported_of_reader : {E : Type 0} (r : Result Bool E) (limits : StoreLimits) (input left old new : Option (List ℕ)) (bytes : List ℕ) → ReadsAll input left bytes →
    IfOk r (λ legal. (legal ≡ true) × Wrote old new (IsReportedRun limits bytes)) → IfOk r (λ legal. (legal ≡ true) × IfSome input (λ script. Wrote old new (IsReportedRun limits script)))
reported_of_reader (Ok legal) limits input left old new bytes h w = (w.0, all_read input left bytes (λ script. Wrote old new (IsReportedRun limits script)) h w.1)
reported_of_reader (Err e) limits input left old new bytes h w = tt

-- a prefix of the replies was written
pub reported_replies : (limits : StoreLimits) (script : List ℕ) (store : Store) (old new : Option (List ℕ)) → store ≡ start limits.commits → Wrote old new (IsFrontOfOutput store script) →
    Wrote old new (IsReportedInPart limits script)
reported_replies limits script store old new begun w = record {
  out = w.out;
  appended = w.appended;
  is = inl (subst (λ (s : Store). IsFrontOfOutput s script w.out) begun w.is);
}

-- all the replies were written
pub all_replies_reported : (limits : StoreLimits) (script : List ℕ) (store last : Store) (old new : Option (List ℕ)) → store ≡ start limits.commits → Wrote old new (IsOutputTo store script last) →
    Wrote old new (IsReportedInPart limits script)
all_replies_reported limits script store last old new begun w = reported_replies limits script store old new begun (record {
  out = w.out;
  appended = w.appended;
  is = ([], (last, subst (IsOutputTo store script last) (sym (append-nil w.out)) w.is));
})

-- nothing was written
pub nothing_reported : (limits : StoreLimits) (script : List ℕ) (held : Option (List ℕ)) → Wrote held held (IsReportedInPart limits script)
nothing_reported limits script held = reported_replies limits script (start limits.commits) held held refl (none_answered (start limits.commits) script held)

-- no line was answered
pub no_line_reported : (limits : StoreLimits) (script : List ℕ) (held : Option (List ℕ)) → Wrote held held (AreFirstReplies (start limits.commits) script)
no_line_reported limits script held = none_answered_if (start limits.commits) (Some script) held

-- the first lines were answered
pub first_lines_reported : (limits : StoreLimits) (script : List ℕ) (store : Store) (old new : Option (List ℕ)) → store ≡ start limits.commits → Wrote old new (AreFirstReplies store script) →
    Wrote old new (AreFirstReplies (start limits.commits) script)
first_lines_reported limits script store old new begun w = subst (λ (s : Store). Wrote old new (AreFirstReplies s script)) begun w

-- all lines were answered, and nothing was written after the replies
pub all_lines_reported : (limits : StoreLimits) (script : List ℕ) (store last : Store) (old mid new : Option (List ℕ)) → store ≡ start limits.commits → Wrote old mid (IsOutputTo store script last) →
    new ≡ mid → Wrote old new (AreFirstReplies (start limits.commits) script)
all_lines_reported limits script store last old mid new begun w same = first_lines_reported limits script store old new begun (record {
  out = w.out;
  appended = subst (λ held. Appends old held w.out) (sym same) w.appended;
  is = record { lines = lines_of script; rest = []; is = sym (append-nil (lines_of script)); last = w.is.0; output = w.is.1 };
})

-- all the replies were written, followed by a prefix of the journal that they leave
pub reported_in_part : (limits : StoreLimits) (script : List ℕ) (first after c : Knowledge) (log : List Entry) (old mid new : Option (List ℕ)) → known first ≡ start limits.commits → c ≡ after →
    log ≡ entries c.seen → IsLegal log → CanEncodeEach limits.pages empty log → Wrote old mid (IsOutputTo (known first) script (known after)) → Wrote mid new (IsFrontOf (result_text log)) →
    Wrote old new (IsReportedInPart limits script)
reported_in_part limits script first after c log old mid new begun ended all legal volumes w more =
    let same : log ≡ entries after.seen = all ∙ ap (λ (k : Knowledge). entries k.seen) ended in
    record {
      out = w.out ++ more.out;
      appended = written_both old mid new w.out more.out w.appended more.appended;
      is = inr (
        more.is.0,
        record {
          last = known after;
          replies = w.out;
          output = subst (λ (s : Store). IsOutputTo s script (known after) w.out) begun w.is;
          legal = subst IsLegal same legal;
          volumes = subst (CanEncodeEach limits.pages empty) same volumes;
          is = append_assoc w.out more.out more.is.0 ∙ (ap (λ l. w.out ++ l) (sym more.is.1) ∙ ap (λ l. w.out ++ result_text l) same);
        },
      );
    }

-- a late error leaves a prefix of the whole text or, if memory ran out, whole replies
pub stops_late : {A : Type 0} (r : Result A RunFault) (limits : StoreLimits) (input left old new : Option (List ℕ)) (bytes : List ℕ) → IfErr r IsLate → ReadsAll input left bytes →
    OnErr r (Wrote old new (IsReportedInPart limits bytes)) → IfErr r (λ e. e ≡ Memory → Wrote old new (AreFirstReplies (start limits.commits) bytes)) →
    IfErr r (λ e. JournalRunLeaves limits e input old new)
stops_late (Ok x) limits input left old new bytes l h w whole = tt
stops_late (Err Limits) limits input left old new bytes l h w whole = absurd l
stops_late (Err Read) limits input left old new bytes l h w whole = absurd l
stops_late (Err TooLong) limits input left old new bytes l h w whole = absurd l
stops_late (Err Write) limits input left old new bytes l h w whole = all_read input left bytes (λ script. Wrote old new (IsReportedInPart limits script)) h w
stops_late (Err Memory) limits input left old new bytes l h w whole =
    all_read input left bytes (λ script. Wrote old new (AreFirstReplies (start limits.commits) script)) h (whole refl)

-- after an error while reading, nothing was written
pub stops_early : (e : RunFault) (limits : StoreLimits) (input left held : Option (List ℕ)) → ReadFault e input left → JournalRunLeaves limits e input held held
stops_early Limits limits input left held h = absurd h
stops_early Read limits input left held h = left_by Read (start limits.commits) input left held h
stops_early TooLong limits input left held h = left_by TooLong (start limits.commits) input left held h
stops_early Write limits input left held h = absurd h
stops_early Memory limits input left held h = left_by Memory (start limits.commits) input left held h
