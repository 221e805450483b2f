use denote.Param.Send.{sendable}
use Rattle.be_session.proofs.Crosses.{session}
use Rattle.be_session.proofs.session.may_move.Goals as goal

pub sent-requires-send-T : goal.sent-requires-send-T
sent-requires-send-T c κs = search (sendable, session) depth 20
