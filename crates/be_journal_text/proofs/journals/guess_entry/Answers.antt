use Rattle.std.proofs.Common.{◌≡◌, sym, ap, ◌∙◌}
use Rattle.std.specs.Option.{option_map}
use Rattle.be_value.specs.Number.{word_in}
use Rattle.be_journal_text.specs.History.{entry_of}
use Rattle.be_journal_text.proofs.NumberLemmas.{word_of_decimal}
use Rattle.be_journal_text.proofs.ReadLemmas.{entry_made, inside, never_some}
use Rattle.be_journal_text.proofs.journals.guess_entry.Goals as goal

pub returns-clause-whole : goal.returns-clause-whole
returns-clause-whole c = λ entry w is.
    let parts = c.in_ok-by.ensures entry w is in
    let by : c.in-Some.by ≡ entry.by =
    inside c.in-Some.by entry.by (sym c.in-Some.is ∙ (c.word_of.ensures ∙ (ap word_in parts.0 ∙ word_of_decimal entry.by w.by))) in
    let ops = inside c.in-Some-2.ops.items entry.ops (ap (option_map (λ v. v.items)) (sym c.in-Some-2.is) ∙ c.in_ok-ops.ensures entry.ops w.ops parts.1) in
    let dones = c.in_ok-dones.ensures entry.dones w.dones parts.2 in
    c.entry_of.ensures ∙ (ap (λ b. entry_of b c.in-Some-2.ops.items c.in_ok-dones.dones.items) by
    ∙ (ap (λ o. entry_of entry.by o c.in_ok-dones.dones.items) ops ∙ (ap (λ d. entry_of entry.by entry.ops d) dones ∙ entry_made entry w)))

pub returns-in_default-clause-whole : goal.returns-in_default-clause-whole
returns-in_default-clause-whole c = λ entry w is.
    never_some entry.by (sym c.in_default.is ∙ (c.word_of.ensures ∙ (ap word_in (c.in_ok-by.ensures entry w is).0 ∙ word_of_decimal entry.by w.by)))

pub returns-in_default-2-clause-whole : goal.returns-in_default-2-clause-whole
returns-in_default-2-clause-whole c = λ entry w is.
    never_some entry.ops (ap (option_map (λ v. v.items)) (sym c.in_default-2.is) ∙ c.in_ok-ops.ensures entry.ops w.ops (c.in_ok-by.ensures entry w is).1)
