use Rattle.std.proofs.Common.{◌≡◌, ℕ, ◌+◌, List, [], Vec, Global, length, map, get_or, slice_index_or, IfOk, ap, sym, ◌∙◌, subst, arith, zero-add}
use Rattle.be_script_runner.specs.Gates.{AreAllReported, AreReported, line_count}
use Rattle.be_script_runner.specs.Order.{AreServedBy}
use Rattle.be_script_runner.specs.Race.{HaveServed, AreRepliesOf}
use Rattle.be_table.specs.Place.{SeatFacts}
use Rattle.be_table.specs.Works.{knows_of}
use Rattle.be_script_runner.proofs.RaceLemmas.{same_end, served_from, on_both}
use Rattle.be_script_runner.proofs.races.serve_in.Goals as goal

abbrev items_of : Vec ℕ Global → List ℕ
items_of v = v.items

pub returns-in-Ok : goal.returns-in-Ok
returns-in-Ok g c =
    let store = c.args.store.now in
    let scripts = c.args.scripts.now.items in
    let threads = c.in_ok-threads.threads in
    let outcomes = c.in-Ok.outcomes in
    let count : length outcomes.items ≡ length scripts = omega (arith, c.in-Ok.ensures.len, c.in_ok-threads.ensures.len, outcomes.ok.0, threads.ok.0) in
    let begun = g.G.Gate.begun c.args.gate.now in
    let ended = g.G.Gate.ended c.args.gate.now in
    let Reported : ℕ → List ℕ → Type 0 = λ n script. AreReported (begun n) (ended n) (line_count script) in
    let both : IfOk c.part.result (λ r. HaveServed store 0 (map items_of scripts) r.0.items × AreRepliesOf store.limits 0 (map items_of scripts) r.0.items (map items_of r.1.items)
    × AreServedBy store.limits 0 (map items_of scripts) (map knows_of r.0.items) (map items_of r.1.items) × AreAllReported begun ended (map items_of scripts)) =
    on_both c.part.result c.part.ensures.passes c.part.ensures.replies (λ r passes replies.
    let all = served_from store items_of Reported 0 scripts outcomes.items r.1.items count
    (λ i o s below.
    let kept = (c.in-Ok.ensures.each i o (omega (arith, c.in_ok-threads.ensures.len, threads.ok.0))).1 in
    let each = c.in_ok-threads.ensures.each i kept.handle s below in
    let of_store = ap (λ h. h.promise.store.value) kept.handle_is ∙ each.0 in
    let of_number = ap (λ h. h.promise.number) kept.handle_is ∙ (each.1 ∙ sym (zero-add i)) in
    let of_script = ap (λ h. h.promise.script.value) kept.handle_is ∙ each.2 in
    let of_gate = ap (λ h. h.promise.gate.value) kept.handle_is ∙ each.3 in
    let promise = kept.handle.promise in
    same_end items_of (λ gate n script. AreReported (g.G.Gate.begun gate n) (g.G.Gate.ended gate n) (line_count script)) promise.store.value store promise.number (0 + i)
    promise.script.value (get_or scripts i s) promise.gate.value c.args.gate.now (get_or outcomes.items i o) of_store of_number of_script of_gate kept.kept)
    replies in (
      subst (HaveServed store 0 (map items_of scripts)) (sym passes) all.0,
      subst (λ ps. AreRepliesOf store.limits 0 (map items_of scripts) ps (map items_of r.1.items)) (sym passes) all.1,
      subst (λ (ps : List SeatFacts). AreServedBy store.limits 0 (map items_of scripts) (map knows_of ps) (map items_of r.1.items)) (sym passes) all.2,
      λ k below. subst (λ n. Reported n (slice_index_or (map items_of scripts) k [])) (zero-add k) (all.3 k below),
    )) in
    record {
      served = on_both c.part.result both both (λ r h _. ((h.0, h.1, h.2), h.3));
      fault = c.part.ensures.fault;
    }
