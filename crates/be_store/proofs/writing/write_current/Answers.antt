use Rattle.std.proofs.Common.{◌≡◌, ℕ, Ok, sym, ap, ◌∙◌, subst}
use Rattle.be_core.specs.Machine.{bit}
use Rattle.be_journal.specs.Journal.{replay_from}
use Rattle.be_pages.specs.Pages.{is_kept, times}
use Rattle.be_paged_reading.specs.Page.{reach}
use Rattle.be_paged_reading.specs.Version.{IsVersion}
use Rattle.be_volume.specs.Ahead.{state_after, reached}
use Rattle.be_volume.specs.Volume.{State, steps}
use Rattle.be_table.specs.declared.pass.Knowledge.{Knowledge}
use Rattle.be_table.specs.Place.{Work}
use Rattle.be_table.specs.Reading.{page_state_among, word_of_page, StaysOpen}
use Rattle.be_table.specs.Rule.{entries}
use Rattle.be_table.specs.Works.{IsFull}
use Rattle.be_table.proofs.Keeping.{begun_version, keeps_exactly}
use Rattle.be_store.proofs.Capacity.{full_held_back}
use Rattle.be_store.proofs.Writes.{current_encoded, full_unroomed, passed_up, published, unroomed_passed_up}
use Rattle.be_store.proofs.writing.write_current.Goals as goal

pub apply_to-requires : goal.apply_to-requires
apply_to-requires c =
    let t = c.requires.begins in let k = c.args.writing.now.knows in (
      begun_version k t.begun c.current-version_page.result.1 (replay_from k.limits.volume (entries k.seen)) (current_encoded k c.current-version_page.result.1 t c.current-version_page.ensures.version.1),
      (c.requires.count, (c.current-version_page.ensures.next, (t.unpublished, c.requires.empty))),
    )

pub publish-number-requires-clause-entry : goal.publish-number-requires-clause-entry
publish-number-requires-clause-entry c =
    let ok = c.in-Ok.ensures.ok in
    let same = ap (λ (o : StaysOpen). steps (replay_from o.limits.volume (entries o.seen)) c.args.ops.now) ok.swaps.kept in
    (ok.made, ap (λ (w : Work). steps (replay_from w.knows.limits.volume (entries w.knows.seen)) c.args.ops.now) c.in_ok-reserve-in-Ok.ensures.0 ∙ same ∙ ok.stepped ∙ ap (λ d. Ok (ok.made, d)) (sym c.as_slice.ensures.value))

pub publish-number-requires-clause-filled : goal.publish-number-requires-clause-filled
publish-number-requires-clause-filled c =
    let t = c.requires.begins in let ok = c.in-Ok.ensures.ok in let old = c.args.writing.now in
    let first = current_encoded old.knows c.current-version_page.result.1 t c.current-version_page.ensures.version.1 in
    λ q e. (keeps_exactly old c.apply_to.new.writing c.current-version_page.result.1 c.in-Ok.page _ ok.made t.begun first ok.version ok.swaps q).1 (ap (λ (w : Work). page_state_among w.knows.places q) (sym c.in_ok-reserve-in-Ok.ensures.0) ∙ e)

pub publish-number-requires-clause-volume : goal.publish-number-requires-clause-volume
publish-number-requires-clause-volume c =
    let ok = c.in-Ok.ensures.ok in let old = c.args.writing.now in let same = ap (λ (w : Work). w.knows) c.in_ok-reserve-in-Ok.ensures.0 in
    let made : state_after (replay_from c.reserve.new.self.knows.limits.volume (entries c.reserve.new.self.knows.seen)) c.args.ops.now ≡ ok.made =
    ap (λ (k : Knowledge). state_after (replay_from k.limits.volume (entries k.seen)) c.args.ops.now) same
    ∙ ap (λ (o : StaysOpen). state_after (replay_from o.limits.volume (entries o.seen)) c.args.ops.now) ok.swaps.kept
    ∙ ap (reached (replay_from old.knows.limits.volume (entries old.knows.seen))) ok.stepped in
    subst (λ (x : Knowledge × State). IsVersion (page_state_among x.0.places) (word_of_page x.0.words) c.in-Ok.page x.1) (λ i. (sym same i, sym made i)) ok.version

pub publish-number-requires-clause-exact : goal.publish-number-requires-clause-exact
publish-number-requires-clause-exact c =
    let t = c.requires.begins in let ok = c.in-Ok.ensures.ok in let old = c.args.writing.now in
    let first = current_encoded old.knows c.current-version_page.result.1 t c.current-version_page.ensures.version.1 in
    subst (λ (w : Work). (q : ℕ) → times q (reach (word_of_page w.knows.words) c.in-Ok.page) ≡ bit (is_kept (page_state_among w.knows.places q))) (sym c.in_ok-reserve-in-Ok.ensures.0)
    (λ q. (keeps_exactly old c.apply_to.new.writing c.current-version_page.result.1 c.in-Ok.page _ ok.made t.begun first ok.version ok.swaps q).0)

pub returns-in_ok-reserve-in-Ok-clause-answer : goal.returns-in_ok-reserve-in-Ok-clause-answer
returns-in_ok-reserve-in-Ok-clause-answer c =
    let ok = c.in-Ok.ensures.ok in
    published c.args.writing.now c.apply_to.new.writing c.reserve.new.self c.publish-number.new.self c.args.ops.now c.in-Ok.page c.publish-number.result c.apply_to.new.dones.items c.as_slice.result.now ok.made
    ok.swaps.kept (ap (λ (w : Work). w.knows) c.in_ok-reserve-in-Ok.ensures.0) (ap (λ (w : Work). w.knows) c.publish-number.ensures.write) c.as_slice.ensures.value ok.stepped c.publish-number.ensures.result c.publish-number.ensures.worked c.publish-number.ensures.moves

pub returns-in_err-reserve-in-Err-Full-clause-answer : goal.returns-in_err-reserve-in-Err-Full-clause-answer
returns-in_err-reserve-in-Err-Full-clause-answer c =
    let none = c.in_err-reserve-in-Err-Full.ensures in
    let refused = c.in-Err-Full.ensures.err in
    passed_up c.from_residual-in_err-reserve-in-Err-Full.result c.in_err-reserve-in-Err-Full.field-0.0 _ _ c.from_residual-in_err-reserve-in-Err-Full.ensures.1
    (full_unroomed c.args.writing.now c.apply_to.new.writing c.reserve-in-Err-Full.new.self IsFull c.args.ops.now c.in-Err-Full.least c.in-Err-Full.field-0 _ c.requires.begins.unpublished c.in-Err-Full.field-0-is refused none.0 none.1)

pub returns-in_err-reserve-in-Err-Full-clause-room : goal.returns-in_err-reserve-in-Err-Full-clause-room
returns-in_err-reserve-in-Err-Full-clause-room c =
    unroomed_passed_up c.from_residual-in_err-reserve-in-Err-Full.result c.apply_to.new.writing.knows c.reserve-in-Err-Full.new.self _ c.in_err-reserve-in-Err-Full.field-0.0 c.in_err-reserve-in-Err-Full.ensures.1
    c.from_residual-in_err-reserve-in-Err-Full.ensures.1

pub returns-in_ok-reserve-in-Err-Full-clause-answer : goal.returns-in_ok-reserve-in-Err-Full-clause-answer
returns-in_ok-reserve-in-Err-Full-clause-answer c =
    let none = c.in_ok-reserve-in-Err-Full.ensures in
    full_held_back c.args.writing.now c.apply_to.new.writing c.reserve-in-Err-Full.new.self c.args.ops.now c.in-Err-Full.least c.in-Err-Full.field-0 c.requires.begins c.in-Err-Full.field-0-is c.in-Err-Full.ensures.err c.in-Err-Full.ensures.few (ap (λ (w : Work). w.knows) none.0) none.1
