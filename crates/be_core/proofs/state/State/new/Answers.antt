use Rattle.std.proofs.Common.{refl, sym, subst, arith}
use Rattle.be_core.proofs.Shows.{shows-first, one-row}
use Rattle.be_core.specs.Machine.{Sound, zeros}
use Rattle.be_core.specs.Shown.{blank}
use Rattle.be_core.proofs.Schedules.{first-sound}
use Rattle.be_core.proofs.state.State.new.Goals as goal

pub returns-clause-first : goal.returns-clause-first
returns-clause-first c =
    shows-first _ c.args.pages c.args.passes c.args.commits refl c.in_ok-zero_pages.ensures.len c.in_ok-all_idle.ensures.len refl refl refl
    (one-row _ c.in_ok-first_row.field-0 c.in_ok-vec.ensures.items c.in_ok-first_row.ensures.first)
    c.in_ok-zero_pages.ensures.zero c.in_ok-first_free.ensures.others c.in_ok-empty_set.ensures.empty c.in_ok-none_retired.ensures.none c.in_ok-all_idle.ensures.idle

pub returns-clause-sound : goal.returns-clause-sound
returns-clause-sound c = (blank, subst Sound (sym (returns-clause-first c)) (first-sound c.args.pages 1 c.args.passes c.args.commits zeros (omega arith)))
