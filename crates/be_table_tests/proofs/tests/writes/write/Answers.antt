use Rattle.std.proofs.Common.{◌≡◌, ℕ, length, Ok, sym, ap, ◌∙◌, subst}
use Rattle.be_core.specs.Machine.{bit}
use Rattle.be_journal.specs.Journal.{replay_from}
use Rattle.be_pages.specs.Pages.{is_kept, times}
use Rattle.be_paged_reading.specs.Page.{reach}
use Rattle.be_paged_reading.specs.Version.{IsVersion}
use Rattle.be_volume.specs.Ahead.{state_after, reached}
use Rattle.be_volume.specs.Volume.{State, steps}
use Rattle.be_table.specs.declared.pass.Knowledge.{Knowledge}
use Rattle.be_table.specs.Reading.{page_state_among, word_of_page, StaysOpen}
use Rattle.be_table.specs.Rule.{entries, reach_at}
use Rattle.be_table.specs.Versions.{EncodesVolume}
use Rattle.be_table.proofs.Keeping.{begun_version, keeps_exactly}
use Rattle.be_table_tests.proofs.tests.writes.write.Goals as goal

pub apply_to-requires : goal.apply_to-requires
apply_to-requires c =
    let t = c.requires.begun.1 in let k = c.args.writing.now.knows in (
      begun_version k t.begun c.current-old.result.1 (replay_from k.limits.volume (entries k.seen))
          (subst (λ p. EncodesVolume (reach_at k.limits k.seen (length k.seen)) (word_of_page k.words) p (replay_from k.limits.volume (entries k.seen))) (sym c.current-old.ensures.version.1) t.encoded),
      (c.requires.count, (c.current-old.ensures.next, ap (λ (x : Knowledge). x.published) t.same)),
    )

pub publish-requires-clause-entry : goal.publish-requires-clause-entry
publish-requires-clause-entry c =
    let ok = c.in_ok-page.ensures.ok in
    let same = ap (λ (o : StaysOpen). steps (replay_from o.limits.volume (entries o.seen)) c.args.ops.now) ok.swaps.kept in
    (ok.made, ap (λ (k : Knowledge). steps (replay_from k.limits.volume (entries k.seen)) c.args.ops.now) c.make_room.ensures.knows ∙ same ∙ ok.stepped ∙ ap (λ d. Ok (ok.made, d)) (sym c.as_slice.ensures.value))

pub publish-requires-clause-filled : goal.publish-requires-clause-filled
publish-requires-clause-filled c =
    let t = c.requires.begun.1 in let ok = c.in_ok-page.ensures.ok in let old = c.args.writing.now in
    let first = subst (λ p. EncodesVolume (reach_at old.knows.limits old.knows.seen (length old.knows.seen)) (word_of_page old.knows.words) p (replay_from old.knows.limits.volume (entries old.knows.seen))) (sym c.current-old.ensures.version.1) t.encoded in
    λ q e. (keeps_exactly old c.apply_to.new.writing c.current-old.result.1 c.in_ok-page.page _ ok.made t.begun first ok.version ok.swaps q).1 (ap (λ (k : Knowledge). page_state_among k.places q) (sym c.make_room.ensures.knows) ∙ e)

pub publish-requires-clause-volume : goal.publish-requires-clause-volume
publish-requires-clause-volume c =
    let ok = c.in_ok-page.ensures.ok in let old = c.args.writing.now in
    let made : state_after (replay_from c.make_room.new.writing.knows.limits.volume (entries c.make_room.new.writing.knows.seen)) c.args.ops.now ≡ ok.made =
    ap (λ (k : Knowledge). state_after (replay_from k.limits.volume (entries k.seen)) c.args.ops.now) c.make_room.ensures.knows
    ∙ ap (λ (o : StaysOpen). state_after (replay_from o.limits.volume (entries o.seen)) c.args.ops.now) ok.swaps.kept
    ∙ ap (reached (replay_from old.knows.limits.volume (entries old.knows.seen))) ok.stepped in
    subst (λ (x : Knowledge × State). IsVersion (page_state_among x.0.places) (word_of_page x.0.words) c.in_ok-page.page x.1) (λ i. (sym c.make_room.ensures.knows i, sym made i)) ok.version

pub publish-requires-clause-exact : goal.publish-requires-clause-exact
publish-requires-clause-exact c =
    let t = c.requires.begun.1 in let ok = c.in_ok-page.ensures.ok in let old = c.args.writing.now in
    let first = subst (λ p. EncodesVolume (reach_at old.knows.limits old.knows.seen (length old.knows.seen)) (word_of_page old.knows.words) p (replay_from old.knows.limits.volume (entries old.knows.seen))) (sym c.current-old.ensures.version.1) t.encoded in
    subst (λ (k : Knowledge). (q : ℕ) → times q (reach (word_of_page k.words) c.in_ok-page.page) ≡ bit (is_kept (page_state_among k.places q))) (sym c.make_room.ensures.knows)
    (λ q. (keeps_exactly old c.apply_to.new.writing c.current-old.result.1 c.in_ok-page.page _ ok.made t.begun first ok.version ok.swaps q).0)
