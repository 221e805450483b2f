use Rattle.std.proofs.Common.{Some, ap, sym, ◌∙◌}
use Rattle.bestore_c.proofs.Ended.{finishes}
use Rattle.bestore_c.proofs.bes_finish.Goals as goal

pub returns-in-Ok-clause-pass : goal.returns-in-Ok-clause-pass
returns-in-Ok-clause-pass c =
    finishes c.args.pass.now.owned.value c.take-session.new.self.value c.lent.result.now c.last_text.new.session c.into_inner.result
    c.args.bytes.now c.end.new.bytes c.end.new.count c.end.result (c.typed.ensures.value ∙ c.lent.ensures.value) c.take-session.ensures.left
    (c.typed-in-Ok.ensures.value ∙ c.take-session.ensures.taken ∙ ap Some (sym c.into_inner.ensures)) c.in-Ok.ensures.store.0
    c.in-Ok.ensures.seen.0 c.in-Ok.ensures.seen.1 c.end.ensures.end
