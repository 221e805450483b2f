use Rattle.std.proofs.Common.{◌≡◌, ◌+◌, ◌<◌, ◌++◌, ◌∷◌, [], true, get_or, length, length-append, ap, sym, ◌∙◌, subst, arith, is_ok, not, if◌then◌else◌, rules}
use denote.Exit.{no}
use denote.Param.{param}
use denote.Param.Send.{IsSync, arg_send, param_send, sendable}
use Rattle.be_script_runner.proofs.races.start.Lts.{arg-8-2}
use Rattle.std.proofs.lemmas.List.{get_or_read}
use Rattle.be_table.specs.Works.{AreNewAt}
use Rattle.be_script_runner.specs.Gates.{AreReported, line_count}
use Rattle.be_script_runner.proofs.CrossLemmas.{thread_send}
use Rattle.be_script_runner.proofs.RaceLemmas.{each_promised, same_end}
use Rattle.be_script_runner.proofs.races.start.Goals as goal

pub index-script-requires : goal.index-script-requires
index-script-requires g c =
    let i = c.loop-pass.invariant in
    let step = c.in-Some.ensures.steps in
    let first = subst (AreNewAt c.args.store.now.id c.args.store.now.limits (length c.loop-pass.threads.items)) step.0 i.new in
    let number : c.number-number.result ≡ length c.loop-pass.threads.items = c.number-number.ensures ∙ ap (λ k. k.number) first.0.2 in
    let left : length c.loop-pass.pass-iterator.rest.items ≡ length c.next.new.self.rest.items + 1 = ap length step.0 ∙ omega arith in
    omega (arith, number, left, i.count, c.args.scripts.now.ok.0)

pub loop-pass-preserved : goal.loop-pass-preserved
loop-pass-preserved g c =
    let i = c.loop-pass.invariant in
    let step = c.in-Some.ensures.steps in
    let threads = c.loop-pass.threads in
    let first = subst (AreNewAt c.args.store.now.id c.args.store.now.limits (length threads.items)) step.0 i.new in
    let ok : is_ok c.push.result ≡ true = c.is_err.ensures.negation ∙ ap not c.if-is_err.false in
    let items : c.push.new.self.items ≡ threads.items ++ c.in-Ok.thread ∷ [] = c.push.ensures.items ∙ ap (λ b. if b then threads.items ++ c.in-Ok.thread ∷ [] else threads.items) ok in
    let len : length c.push.new.self.items ≡ length threads.items + 1 = ap length items ∙ length-append threads.items (c.in-Ok.thread ∷ []) in
    let left : length c.loop-pass.pass-iterator.rest.items ≡ length c.next.new.self.rest.items + 1 = ap length step.0 ∙ omega arith in
    let number : c.number-number.result ≡ length threads.items = c.number-number.ensures ∙ ap (λ k. k.number) first.0.2 in
    let promise = c.in-Ok.ensures.ok in
    let inside : length threads.items < length c.args.scripts.now.items = omega (arith, left, i.count) in
    record {
      can = tt;
      ends = tt;
      new = subst (λ n. AreNewAt c.args.store.now.id c.args.store.now.limits n c.next.new.self.rest.items) (sym len) first.1;
      count = omega (arith, len, left, i.count);
      each = each_promised (λ h. h.promise.store.value) (λ h. h.promise.number) (λ h. h.promise.script.value) (λ h. h.promise.gate.value)
          c.args.store.now c.args.scripts.now.items c.args.gate.now threads.items c.in-Ok.thread c.push.new.self.items
          i.each (ap (λ p. p.store.value) promise ∙ c.of.ensures) (ap (λ p. p.number) promise ∙ number)
          (λ s. ap (λ p. p.script.value) promise ∙ (c.of-in-loop-pass.ensures ∙ subst (λ n. c.index-script.result.now ≡ get_or c.args.scripts.now.items n s) number (get_or_read c.args.scripts.now.items c.number-number.result c.index-script.result.now (omega (arith, number)) c.index-script.ensures s)))
          (ap (λ p. p.gate.value) promise ∙ c.of-in-loop-pass-2.ensures) items;
    }

pub returns-clause-each : goal.returns-clause-each
returns-clause-each g c k t s below = c.loop-pass.invariant.each k t s (omega (arith, c.loop-pass.invariant.count, c.in-None.ensures.steps.0))

pub spawn_with-thread-requires-clause-keeps : goal.spawn_with-thread-requires-clause-keeps
spawn_with-thread-requires-clause-keeps g c κs within = λ r reported. same_end (λ v. v.items) (λ gate n script. AreReported (g.G.Gate.begun gate n) (g.G.Gate.ended gate n) (line_count script))
    c.args.store.now c.of.result.value c.in-Some.pass.knows.number c.number-number.result c.index-script.result.now c.of-in-loop-pass.result.value c.args.gate.now c.of-in-loop-pass-2.result.value
    r (sym c.of.ensures) (sym c.number-number.ensures) (sym c.of-in-loop-pass.ensures) (sym c.of-in-loop-pass-2.ensures) (search rules)

pub spawn_with-thread-requires-send-F : goal.spawn_with-thread-requires-send-F
spawn_with-thread-requires-send-F g c κs within =
    let gate : IsSync (param 1 g.row.G) = search (sendable, c.type_bounds.sync-G) depth 20 in
    param_send 2 (arg-8-2 g.row.E g.row.G g.E.laws g.G.laws g.G.Gate g.G.Gate-dict κs) (arg_send _ no _ (thread_send _ _ _ _ _ _ _ g.row.G gate))
