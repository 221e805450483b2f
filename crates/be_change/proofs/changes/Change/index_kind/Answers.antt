use Rattle.std.proofs.Common.{rules, ◌≡◌}
use Rattle.be_change.specs.Left.{index_kind_left}
use Rattle.be_change.proofs.Left.{kind_after}
use Rattle.be_change.proofs.changes.Change.index_kind.Goals as goal

pub returns-in-Some-clause-accepted : goal.returns-in-Some-clause-accepted
returns-in-Some-clause-accepted c = λ base reads.
    let is : c.in-Some.kind ≡ index_kind_left base c.args.self.now.ops c.args.name.now = search rules in
    kind_after base c.args.self.now.ops c.args.name.now c.in-Some.kind is

pub returns-in-None-clause-accepted : goal.returns-in-None-clause-accepted
returns-in-None-clause-accepted c = λ base reads.
    let is : c.listed_kind.result ≡ index_kind_left base c.args.self.now.ops c.args.name.now = search rules in
    kind_after base c.args.self.now.ops c.args.name.now c.listed_kind.result is
