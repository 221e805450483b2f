use Rattle.std.proofs.Common.{rules}
use Rattle.be_store.proofs.ordered.ask_page.Goals as goal

pub ordered_source-source-requires : goal.ordered_source-source-requires
ordered_source-source-requires g c = record { version = (g.volume, c.requires.1) }

pub ordered_prepared_into-answer-requires : goal.ordered_prepared_into-answer-requires
ordered_prepared_into-answer-requires g c = λ κs within.
    let h = c.ordered_source-source.ensures.answers g.volume c.requires.1 in
    (search rules, h)
