use Rattle.std.proofs.Common.{◌≡◌, List, All, sym, ap, subst, ◌∙◌}
use Rattle.std.specs.Option.{option_map}
use Rattle.std.specs.String.{string_bytes}
use Rattle.be_journal.specs.Journal.{replay}
use Rattle.be_journal.specs.declared.entries.Entry.{Entry}
use Rattle.be_volume_state.specs.Rebuilding.{state_ops}
use Rattle.be_journal_text.specs.Dump.{state_dump}
use Rattle.be_journal_text.specs.Finding.{AreChecked}
use Rattle.be_journal_text.specs.History.{CanBeOp}
use Rattle.be_journal_text.proofs.CheckLemmas.{written_checked}
use Rattle.be_journal_text.proofs.ReadLemmas.{never_some}
use Rattle.be_journal_text.proofs.state_dumps.dump_state.Goals as goal

pub returns-in_default : goal.returns-in_default
returns-in_default c = λ entries are reports.
    never_some entries (ap (option_map (λ v. v.items)) (sym c.in_default.is) ∙ c.in_ok-entries.ensures.whole entries are reports)

pub entries_text-requires : goal.entries_text-requires
entries_text-requires c =
    let reported = rw c.in-Some.is at c.in_ok-entries.ensures.reads in
    subst (λ (es : List Entry). AreChecked es) (sym c.deref.ensures.value) (written_checked c.in-Some.entries.items reported.0)

pub returns : goal.returns
returns c =
    let reported = rw c.in-Some.is at c.in_ok-entries.ensures.reads in (
      c.in-Some.entries.items,
      reported.0,
      reported.1,
      subst (λ (es : List Entry). All CanBeOp (state_ops (replay es))) c.deref.ensures.value c.in_ok-script.ensures.can,
      subst (λ (es : List Entry). string_bytes c.in_ok-script.script ≡ state_dump (replay es)) c.deref.ensures.value c.in_ok-script.ensures.text,
    )
