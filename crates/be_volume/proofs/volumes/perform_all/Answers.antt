use Rattle.std.proofs.Common.{◌≡◌, ◌≤◌, ◌<◌, ◌+◌, ◌^◌, IsOk, Ok, length, subst, sym, ap, ◌∙◌, arith, length-append}
use Rattle.be_volume.specs.Volume.{step}
use Rattle.be_volume.specs.Ahead.{reached}
use Rattle.be_volume.proofs.StepLemmas.{turn, performed}
use Rattle.be_volume.proofs.FactLemmas.{next_bound}
use Rattle.be_volume.proofs.Soundness.{step_sound}
use Rattle.be_volume.proofs.volumes.perform_all.Goals as goal

pub perform-requires-clause-accepted : goal.perform-requires-clause-accepted
perform-requires-clause-accepted c =
    let now = turn c.args.contents.now c.args.ops.now c.loop-op.op-index c.op-item.result c.loop-op-test.true c.op-item.is c.requires.accepted in
    subst (λ op. IsOk (step c.loop-op.contents op)) (sym c.copy.ensures)
    (subst (λ s. IsOk (step s c.op-item.result)) (ap (reached c.args.contents.now) c.loop-op.invariant.done) now.accepted)

pub push-requires : goal.push-requires
push-requires c =
    let count : length c.loop-op.dones.items ≡ c.loop-op.op-index = c.loop-op.invariant.count in
    let more : c.loop-op.op-index < length c.args.ops.now = c.loop-op-test.true in
    let few : length c.args.ops.now ≤ 64 = c.requires.few in
    let fits : length c.loop-op.dones.items < 64 = omega arith in
    (omega arith, fits)

pub loop-op-preserved : goal.loop-op-preserved
loop-op-preserved c =
    let stepped = ap (step c.loop-op.contents) (sym c.copy.ensures) ∙ c.in_ok-perform.ensures in
    let grew : c.perform.new.self.next ≤ c.loop-op.contents.next + 1 = next_bound _ _ c.op-item.result _ stepped in
    let old : c.loop-op.contents.next ≤ c.args.contents.now.next + c.loop-op.op-index = c.loop-op.invariant.bound in
    let more : c.loop-op.op-index < length c.args.ops.now = c.loop-op-test.true in
    let few : length c.args.ops.now ≤ 64 = c.requires.few in
    let all : c.args.contents.now.next + 64 < 2 ^ 64 = c.requires.fits in
    let fits : c.loop-op.contents.next + 1 < 2 ^ 64 = omega arith in
    record {
      done = performed _ _ _ _ _ _ c.op-item.result _ c.loop-op-test.true c.op-item.is c.loop-op.invariant.done stepped
          ∙ ap (λ xs. Ok (c.perform.new.self, xs)) (sym c.push.ensures.items);
      count = ap length c.push.ensures.items ∙ length-append _ _ ∙ ap (λ n. n + 1) c.loop-op.invariant.count;
      sound = step_sound _ _ c.op-item.result _ c.loop-op.invariant.sound fits c.valid.ensures stepped;
      bound = omega arith;
    }
