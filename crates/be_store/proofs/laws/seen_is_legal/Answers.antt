use Rattle.std.proofs.Common.{subst}
use Rattle.be_journal.specs.Journal.{IsLegalFrom}
use Rattle.be_table.proofs.Histories.{is_legal}
use Rattle.be_table.specs.Rule.{entries}
use Rattle.be_table.specs.Versions.{CanEncodeEach}
use Rattle.be_table.specs.Setting.{Setting as Limits}
use Rattle.be_store.proofs.laws.seen_is_legal.Goals as goal

pub returns-clause-legal : goal.returns-clause-legal
returns-clause-legal c = subst (λ (l : Limits). IsLegalFrom l.volume (entries c.args.pass.now.knows.seen)) c.requires.0.2
    (is_legal c.args.pass.now.knows.limits.volume (entries c.args.pass.now.knows.seen) c.is_pass.ensures.legal)

pub returns-clause-volumes : goal.returns-clause-volumes
returns-clause-volumes c = subst (λ (l : Limits). CanEncodeEach l.pages l.volume (entries c.args.pass.now.knows.seen)) c.requires.0.2 c.is_pass.ensures.volumes
