use Rattle.std.proofs.Common.{◌≡◌, ◌≤◌, length}
use Rattle.be_script_runner.specs.View.{session, queued_ops}
use Rattle.be_shell.specs.Conversation.{SoFar}
use Rattle.be_shell.proofs.conversations.converse.Given as goal

abbrev pub invariant-loop-lines : goal.invariant-loop-lines
invariant-loop-lines g l = record {
  few : length (queued_ops l.client) ≤ 64;
  stays : g.S.Server.kept l.server ≡ g.S.Server.kept l.fn.server;
  so_far : SoFar g.P.Peer.does (session (g.S.Server.shows l.fn.server) l.fn.client) l.fn.peer l._lines (session (g.S.Server.shows l.server) l.client) l.peer;
}
