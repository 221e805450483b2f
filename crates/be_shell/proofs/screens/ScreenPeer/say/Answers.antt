use Rattle.std.proofs.Common.{refl, inl, inr}
use Rattle.be_shell.proofs.ScreenLemmas.{front_of_whole}
use Rattle.be_shell.proofs.screens.ScreenPeer.say.Goals as goal

pub returns-in-Ok-clause-said : goal.returns-in-Ok-clause-said
returns-in-Ok-clause-said g c = inl (c.in-Ok.ensures.said, refl)

pub returns-in-Err-clause-cut : goal.returns-in-Err-clause-cut
returns-in-Err-clause-cut g c =
    let cut = c.in-Err.ensures.cut in (c.args.reply.now, front_of_whole c.args.reply.now, inr (cut.0, cut.1, cut.2, refl))
