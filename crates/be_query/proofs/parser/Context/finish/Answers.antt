use Rattle.std.proofs.Common.{◌≡◌, ap, ◌∙◌, length, arith, inr}
use Rattle.be_query.specs.Building.{awaited_at, marks_of}
use Rattle.be_query.specs.Faults.{ends}
use Rattle.be_query.specs.View.{stage_of, level_seen, outer_of}
use Rattle.be_query.proofs.Steps.{not_ended, some_outer}
use Rattle.be_query.proofs.parser.Context.finish.Goals as goal

pub returns-then-not-is_empty-clause-err : goal.returns-then-not-is_empty-clause-err
returns-then-not-is_empty-clause-err c =
    let some : length c.args.self.now.outer.items ≡ 0 → ⊥ = grind (arith, c.if-not-is_empty.ensures) in
    inr (ap (λ s. ends (awaited_at (stage_of s)) (marks_of (level_seen c.args.self.now.level) (outer_of c.args.self.now)) c.args.len) c.in-Joint.is
    ∙ not_ended (level_seen c.args.self.now.level) (outer_of c.args.self.now) c.args.len (some_outer _ some))
