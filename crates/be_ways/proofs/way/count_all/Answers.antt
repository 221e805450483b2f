use Rattle.std.proofs.Common.{◌∙◌, IfSome, subst, sym}
use Rattle.std.specs.Prelude.{All}
use Rattle.std.proofs.lemmas.List.Elements.{All-push}
use Rattle.be_ways.specs.Ways.{IsWay}
use Rattle.be_ways.proofs.way.count_all.Goals as goal

pub loop-walk-preserved-in-Continue-branch-4 : goal.loop-walk-preserved-in-Continue-branch-4
loop-walk-preserved-in-Continue-branch-4 g c =
    let own = subst (λ way. IfSome way (IsWay g.volume)) c.in-Some-2.is c.in_ok-way.ensures.way in
    let ways = All-push (IsWay g.volume) c.loop-walk.ways.items c.in-Some-2.way c.loop-walk.invariant.ways own in
    record {
      can = tt;
      ends = tt;
      ways = subst (All (IsWay g.volume)) (sym c.in_ok-push.ensures.items) ways;
      stays = c.counted.ensures.stays ∙ c.loop-walk.invariant.stays;
      answers = c.counted.ensures.answers;
    }
