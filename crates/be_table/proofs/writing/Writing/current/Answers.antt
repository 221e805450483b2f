use Rattle.std.proofs.Common.{◌+◌, ◌^◌, ◌<◌, ap, arith, subst}
use Rattle.be_journal.specs.Journal.{replay_from}
use Rattle.be_table.specs.declared.pass.Knowledge.{Knowledge}
use Rattle.be_table.specs.Place.{Work}
use Rattle.be_table.specs.Rule.{entries, pass_of}
use Rattle.be_table.proofs.Answers.{next_fits}
use Rattle.be_table.proofs.Opened.{seen_length}
use Rattle.be_table.proofs.writing.Writing.current.Goals as goal

pub returns-clause-next : goal.returns-clause-next
returns-clause-next c =
    let p = c.self.invariant.pass in let a = pass_of c.self.inside.base.me.0 in
    subst (λ (k : Knowledge). (replay_from k.limits.volume (entries k.seen)).next + 64 < 2 ^ 64) (ap (λ (w : Work). w.knows) c.self.view_is)
    (next_fits a.limits.volume (entries a.seen) p.within.next p.legal (let room = p.room in let short = p.within.limits.short in let long = seen_length a.seen in omega arith))
