use Rattle.std.proofs.Common.{rules}
use Rattle.be_store.proofs.ordered.ask_any.Goals as goal

pub ordered_source-source-requires : goal.ordered_source-source-requires
ordered_source-source-requires g c = record { version = (g.volume, c.requires.1) }

pub any_prepared_into-answer-requires : goal.any_prepared_into-answer-requires
any_prepared_into-answer-requires g c = λ κs within.
    let h = c.ordered_source-source.ensures.answers g.volume c.requires.1 in
    (search rules, h)
