use Rattle.be_core.proofs.Steps.{step-sound, step-leaves_none}
use Rattle.be_core.proofs.state.State.step.Goals as goal

pub returns-clause-sound : goal.returns-clause-sound
returns-clause-sound c = step-sound c.args.self.now _ c.args.event.now c.happen.result c.happen.ensures.done c.happen.ensures.err

pub returns-clause-leaves_none : goal.returns-clause-leaves_none
returns-clause-leaves_none c = step-leaves_none c.args.self.now _ c.args.event.now c.happen.result c.happen.ensures.done
