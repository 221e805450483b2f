use Rattle.std.proofs.Common.{refl, inl}
use Rattle.be_table.proofs.writing.Writing.take_like.Goals as goal

pub returns-in-Some-clause-ok : goal.returns-in-Some-clause-ok
returns-in-Some-clause-ok c =
    let e = c.in-Some.ensures in record { between = c.args.self.now; scan = inl refl; because = inl refl; inside = e.taken.0; small = e.taken.1; free = e.taken.2; taken = e.taken.3; moves = e.taken.4 }
