use Rattle.std.proofs.Common.{◌≡◌, ◌++◌, map, Ok}
use Rattle.std.specs.Vec.Iter.{into_iter_items}
use Rattle.be_script_runner.proofs.races.part.Given as goal

abbrev pub invariant-loop-pass : goal.invariant-loop-pass
invariant-loop-pass l = record {
  passes : l.passes.items ++ map (λ o. o.0) (into_iter_items l.pass-iterator) ≡ map (λ o. o.0) l.fn.outcomes.items;
  replies : map Ok l.replies.items ++ map (λ o. o.1) (into_iter_items l.pass-iterator) ≡ map (λ o. o.1) l.fn.outcomes.items;
}
