use Rattle.std.proofs.Common.{[], ◌∷◌, inl, inr, refl}
use Rattle.be_shell.specs.Conversation.{says, fails}
use Rattle.be_shell.proofs.TalkLemmas.{passed_up}
use Rattle.be_shell.proofs.conversations.send.Goals as goal

pub returns-clause-reported : goal.returns-clause-reported
returns-clause-reported g c = (c.say.new.self, c.in_ok-say.ensures.said, (c.flush.new.self, c.in_ok-flush.ensures.sent, refl))

pub returns-in_err-flush-clause-cut : goal.returns-in_err-flush-clause-cut
returns-in_err-flush-clause-cut g c = passed_up c.from_residual-in_err-flush.result c.in_err-flush.field-0.0 _ c.from_residual-in_err-flush.ensures.1 (
  c.in_err-flush.ensures.fault,
  says c.args.reply.now ∷ fails ∷ [],
  inr refl,
  (c.say.new.self, c.in_ok-say.ensures.said, (c.flush.new.self, c.in_err-flush.ensures.unsent, refl)),
)

pub returns-in_err-say-clause-cut : goal.returns-in_err-say-clause-cut
returns-in_err-say-clause-cut g c =
    let cut = c.in_err-say.ensures.cut in
    passed_up c.from_residual.result c.in_err-say.field-0.0 _ c.from_residual.ensures.1
    (c.in_err-say.ensures.fault, says cut.0 ∷ [], inl (cut.0, cut.1, refl), (c.say.new.self, cut.2, refl))
