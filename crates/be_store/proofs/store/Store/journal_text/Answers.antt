use Rattle.std.proofs.Common.{Ok, inr, refl}
use Rattle.be_store.specs.History.{text_seen}
use Rattle.be_store.proofs.Applied.{learns_only, locks_and_unlocks, reported}
use Rattle.be_store.proofs.store.Store.journal_text.Goals as goal

pub returns-in-Ok-clause-learns : goal.returns-in-Ok-clause-learns
returns-in-Ok-clause-learns c =
    learns_only c.args.pass.now.knows c.in_ok-held.held.knows c.in_ok-held.ensures.held.2 c.unlock.result.knows c.unlock.ensures.pass c.is_pass.ensures c.unlock.ensures.moves

pub returns-in-Err-clause-learns : goal.returns-in-Err-clause-learns
returns-in-Err-clause-learns c =
    learns_only c.args.pass.now.knows c.in_ok-held.held.knows c.in_ok-held.ensures.held.2 c.unlock.result.knows c.unlock.ensures.pass c.is_pass.ensures c.unlock.ensures.moves

pub returns-in-Ok-clause-text : goal.returns-in-Ok-clause-text
returns-in-Ok-clause-text c =
    reported c.in_ok-held.held.knows c.unlock.result.knows _ (Ok (text_seen c.in_ok-held.held.knows)) c.unlock.ensures.pass refl c.in-Ok.ensures

pub returns-in-Ok-clause-moves : goal.returns-in-Ok-clause-moves
returns-in-Ok-clause-moves c =
    locks_and_unlocks c.args.pass.now.knows c.in_ok-held.held.knows c.in_ok-held.ensures.held.2 c.unlock.result.knows c.unlock.ensures.moves

pub returns-in-Err-clause-err : goal.returns-in-Err-clause-err
returns-in-Err-clause-err c =
    inr (refl, locks_and_unlocks c.args.pass.now.knows c.in_ok-held.held.knows c.in_ok-held.ensures.held.2 c.unlock.result.knows c.unlock.ensures.moves)
