use Rattle.std.proofs.Common.{◌≡◌, length, arith}
use Rattle.be_shell.proofs.ScreenLemmas.{all_said, cut_said, none_said, said_more}
use Rattle.be_shell.proofs.screens.say_shown.Goals as goal

pub loop-rest-init : goal.loop-rest-init
loop-rest-init g c = none_said g.P.Peer.does c.args.peer.now c.args.bytes.now

pub loop-rest-preserved : goal.loop-rest-preserved
loop-rest-preserved g c =
    said_more g.P.Peer.does c.args.peer.now c.loop-rest.peer c.say_front.new.peer c.args.bytes.now c.loop-rest.rest.now c.in-Ok.next.now c.loop-rest.invariant c.in-Ok.ensures.said

pub returns-clause-said : goal.returns-clause-said
returns-clause-said g c =
    let none : length c.loop-rest.rest.now ≡ 0 = omega arith in
    all_said g.P.Peer.does c.args.peer.now c.loop-rest.peer c.args.bytes.now c.loop-rest.rest.now c.loop-rest.invariant none

pub returns-in-Err-clause-cut : goal.returns-in-Err-clause-cut
returns-in-Err-clause-cut g c =
    cut_said g.P.Peer.does c.args.peer.now c.loop-rest.peer c.say_front.new.peer c.args.bytes.now c.loop-rest.rest.now c.loop-rest.invariant c.in-Err.ensures.cut
