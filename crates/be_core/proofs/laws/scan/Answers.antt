use Rattle.be_core.specs.Machine.{lowest_after}
use Rattle.be_core.proofs.Scans.{after_scan-sound, part-sound, whole-sound, all_swept, left_late}
use Rattle.be_core.proofs.Schedules.{sound-scan_leaves_none}
use Rattle.be_core.proofs.WholeScans.{finds_lowest}
use Rattle.be_core.proofs.laws.scan.Goals as goal

pub returns-clause-kept : goal.returns-clause-kept
returns-clause-kept c = λ w k j s may. after_scan-sound w s k j may

pub returns-clause-leaves_none : goal.returns-clause-leaves_none
returns-clause-leaves_none c = sound-scan_leaves_none

pub returns-clause-on : goal.returns-clause-on
returns-clause-on c = λ w k j h s writes at. part-sound w s h k j writes at

pub returns-clause-out : goal.returns-clause-out
returns-clause-out c = λ w k j h s writes at last. whole-sound w s h k j writes at last

pub returns-clause-gone : goal.returns-clause-gone
returns-clause-gone c = λ w j p r h. left_late (w.retired p) (lowest_after w h j) r

pub returns-clause-leaves : goal.returns-clause-leaves
returns-clause-leaves c = λ w k j p h s writes at last inside un. all_swept w s h k j writes at last p inside un

pub returns-clause-least : goal.returns-clause-least
returns-clause-least c = finds_lowest
