use Rattle.be_core.proofs.Schedules.{always, sound-protected, sound-fills_no_pinned, sound-scan_leaves_none}
use Rattle.be_core.specs.Machine.{Protected, Partition}
use Rattle.be_core.specs.Laws.{FillsNoPinned, ScanLeavesNone}
use Rattle.be_core.proofs.Decided.{each_schedule_runs}
use Rattle.be_core.proofs.law.Goals as goal

pub returns-clause-protected : goal.returns-clause-protected
returns-clause-protected c = always Protected sound-protected

pub returns-clause-partition : goal.returns-clause-partition
returns-clause-partition c = always Partition (λ w s. s.partition)

pub returns-clause-fills_no_pinned : goal.returns-clause-fills_no_pinned
returns-clause-fills_no_pinned c = always FillsNoPinned sound-fills_no_pinned

pub returns-clause-runs : goal.returns-clause-runs
returns-clause-runs c = each_schedule_runs

pub returns-clause-leaves_none : goal.returns-clause-leaves_none
returns-clause-leaves_none c = always ScanLeavesNone sound-scan_leaves_none
