use Rattle.std.proofs.Common.{string_bytes}
use Rattle.be_session.proofs.Covers.{said_of}
use Rattle.be_session.proofs.explaining.cover_text.Goals as goal

pub returns : goal.returns
returns c = λ indexed is.
    said_of string_bytes indexed c.args.query.now c.args.cover.now c.explain.result is c.explain.ensures.text c.explain.ensures.memory
