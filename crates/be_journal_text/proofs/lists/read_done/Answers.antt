use Rattle.std.proofs.Common.{sym, ap, ◌∙◌}
use Rattle.be_value.specs.Number.{word_in}
use Rattle.be_journal_text.proofs.Cuts.{done_in, done_of}
use Rattle.be_journal_text.proofs.LineLemmas.{done_read}
use Rattle.be_journal_text.proofs.lists.read_done.Goals as goal

pub returns-in-Some : goal.returns-in-Some
returns-in-Some c = λ done can is.
    ap done_of (sym c.in-Some.is ∙ (c.word_of.ensures ∙ (ap word_in c.skip.ensures))) ∙ (ap done_in is ∙ done_read done can)

pub returns-in-None : goal.returns-in-None
returns-in-None c = λ done can is.
    ap done_of (sym c.in-None.is ∙ (c.word_of.ensures ∙ (ap word_in c.skip.ensures))) ∙ (ap done_in is ∙ done_read done can)
