use Rattle.std.proofs.Common.{◌≡◌, ◌++◌, map, drop}
use Rattle.be_script_runner.specs.Race.{replies_text}
use Rattle.be_script_runner.specs.Run.{Wrote}
use Rattle.be_script_runner.proofs.races.put_replies.Given as goal

-- the text written so far, followed by the rest, is the whole text
abbrev pub invariant-loop-pass : goal.invariant-loop-pass
invariant-loop-pass g l = Wrote (g.W.Write.contents l.fn.writer) (g.W.Write.contents l.writer)
    (λ out. replies_text 0 (map (λ t. t.items) l.replies) ≡ out ++ replies_text l.pass (drop l.pass (map (λ t. t.items) l.replies)))
