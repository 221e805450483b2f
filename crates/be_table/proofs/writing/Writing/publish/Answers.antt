use Rattle.std.proofs.Common.{◌≡◌, ◌≢◌, true≢false, ◌≤◌, ◌<◌, [], ◌∷◌, ◌++◌, None, length, map, count_by, refl, sym, ap, ◌∙◌, subst, arith}
use Rattle.std.proofs.lemmas.List.{length-map}
use Rattle.be_journal.specs.declared.entries.Entry.{Entry}
use Rattle.be_journal.specs.Journal.{Agrees, replay_from}
use Rattle.be_pages.specs.Place.{is_retired, retired_at, place_of, published_place}
use Rattle.be_table.specs.declared.pass.Knowledge.{Knowledge}
use Rattle.be_table.specs.Place.{Work}
use Rattle.be_table.specs.Rule.{largest_pool, alone, entries, writer_state_places, page_at, pass_of}
use Rattle.be_table.specs.Seats.{pin_of}
use Rattle.be_table.specs.WriterState.{is_of_next}
use Rattle.be_pages.specs.declared.room.PageState.TheVariants.{Taken}
use Rattle.be_table.specs.Reading.{page_state_among, word_of_page}
use Rattle.be_table.specs.Steps.{commit_of, pages_from, publishes, with_history}
use Rattle.be_table.specs.Working.{HasWorked}
use Rattle.be_table.specs.Versions.{EncodesVolume}
use Rattle.be_table.proofs.Keeping.{encodes_kept}
use Rattle.be_table.proofs.WriterStates.{left-publish}
use Rattle.be_table.proofs.Frames.{entries-append}
use Rattle.be_table.proofs.Answers.{answers_each}
use Rattle.be_table.proofs.Opened.{seen_length}
use Rattle.be_table.proofs.PinMarks.{pin_stays}
use Rattle.be_table.proofs.Publishing.{last_page}
use Rattle.be_table.proofs.PageStates.{unreserved}
use Rattle.be_table.proofs.writing.Writing.publish.Goals as goal

pub store_version-requires-clause-pass : goal.store_version-requires-clause-pass
store_version-requires-clause-pass c =
    let i = c.self.invariant in let w = c.self.inside in let a = pass_of w.base.me.0 in
    let k : a ≡ c.args.self.now.knows = ap (λ (x : Work). x.knows) c.self.view_is in
    let e : Entry = record { by = w.marks.number; ops = c.args.ops.now; dones = c.args.dones.now } in
    let n0 : Knowledge = c.args.self.now.knows in
    let few : length n0.places ≤ largest_pool = (let p = ap length i.places in let pages = i.pass.within.limits.few_pages in let l = ap (λ x. x.pages) i.limits_are in let n = ap (λ (x : Knowledge). length x.places) k in let count = i.count in omega arith) in
    let reserved : w.reserved ≡ c.args.self.now.reserved = ap (λ (x : Work). x.reserved) c.self.view_is in (
      ap (λ m. m.0) i.me_is,
      record {
        writes = i.writes;
        unpublished = ap (λ (n : Knowledge). n.published) k ∙ c.requires.open;
        by = sym i.number_is;
        agrees = subst (λ (n : Knowledge). Agrees (replay_from n.limits.volume (entries n.seen)) e) (sym k) c.requires.entry;
        operations = (c.requires.count.1, c.all_valid.ensures);
        room = (i.room (let n = c.requires.count.0 in let r = c.requires.reserved in omega arith)).1;
        inside = subst (λ (n : Knowledge). c.args.page < length n.places) (sym k) c.is_filled.ensures.0;
        filled = ap (λ (n : Knowledge). place_of n.places c.args.page) k ∙ c.is_filled.ensures.1;
        none_reserved = λ q. unreserved a.places q (subst (λ (n : Knowledge). page_state_among n.places q ≢ Taken) (sym k) (c.requires.filled q)) (omega (arith, few, ap (λ (x : Knowledge). length x.places) k));
        encoded = subst (λ (n : Knowledge). EncodesVolume (pages_from is_of_next 0 n.places) (word_of_page n.words) c.args.page (replay_from n.limits.volume (entries n.seen ++ e ∷ []))) (sym k)
            (subst (λ s. EncodesVolume (pages_from is_of_next 0 n0.places) (word_of_page n0.words) c.args.page s) (sym (c.replay_push.ensures n0.limits.volume (entries n0.seen) e))
            (encodes_kept n0.places few c.requires.filled (word_of_page n0.words) c.args.page _ c.requires.volume c.requires.exact));
      },
    )

pub invariant_of-self : goal.invariant_of-self
invariant_of-self c =
    let i = c.self.invariant in let w = c.self.inside in let a = pass_of w.base.me.0 in
    let e : Entry = record { by = w.marks.number; ops = c.args.ops.now; dones = c.args.dones.now } in
    let b = publishes (with_history a (pass_of c.store_version.new.base.me.0).history) e c.args.page in
    let commit = commit_of a e c.args.page in
    let m : c.store_version.new.base.me ≡ (alone b, (0, None) ∷ []) = c.store_version.ensures.me ∙ ap (λ l. (alone b, l)) (ap (λ m. m.1) i.me_is) in
    let k : pass_of c.store_version.new.base.me.0 ≡ b = ap (λ m. pass_of m.0) m in
    let long : length w.writer_state.journal.entries ≡ length a.seen = ap length i.journal ∙ seen_length a.seen in
    let places = c.append.ensures.places in
    record {
      table_is = c.store_version.ensures.seat.0 ∙ i.table_is;
      me_is = m ∙ sym (ap (λ (x : Knowledge). (alone x, (0, None) ∷ [])) k);
      number_is = ap (λ (x : Knowledge). x.number) k ∙ i.number_is;
      limits_are = ap (λ (x : Knowledge). x.limits) k ∙ i.limits_are;
      small = i.small;
      writes = ap (λ (x : Knowledge). x.writes) k ∙ i.writes;
      journal = ap (λ j. j.entries) c.append.ensures.journal ∙ ap (λ l. l ++ e ∷ []) i.journal ∙ sym (entries-append a.seen (commit ∷ [])) ∙ sym (ap (λ (x : Knowledge). entries x.seen) k);
      page = c.append.ensures.page ∙ sym (last_page a.seen commit) ∙ sym (ap (λ (x : Knowledge). page_at x.seen (length x.seen)) k);
      places = places ∙ (λ n. map (published_place (long n)) (i.places n)) ∙ sym (ap (λ (x : Knowledge). x.places) k);
      count = ap length places ∙ length-map (writer_state_places w.writer_state) (published_place (length w.writer_state.journal.entries)) ∙ i.count;
      size = ap (λ (x : Knowledge). length x.words) k ∙ i.size;
      turn = ap (λ (x : Knowledge). x.scanned) k ∙ i.turn;
      pin = i.pin ∙ sym (pin_stays a.phase a.seen b.seen i.pass.pin (commit ∷ [], refl)) ∙ sym (ap (λ (x : Knowledge). pin_of x.phase x.seen) k);
      pass = c.store_version.ensures.pass;
      limit = ap (λ j. j.limit) c.append.ensures.journal ∙ i.limit;
      left = subst (λ n. n ≤ count_by is_retired (writer_state_places c.append.new.self)) (sym c.append.ensures.left)
          (left-publish w.writer_state.left (length w.writer_state.journal.entries) (writer_state_places w.writer_state) (writer_state_places c.append.new.self) places i.left);
      room = λ some. absurd (omega (arith, some));
      worked = λ unpublished. absurd (true≢false (sym (ap (λ (x : Knowledge). x.published) k) ∙ unpublished));
    }

pub append-requires-clause-room : goal.append-requires-clause-room
append-requires-clause-room c =
    let reserved : c.self.inside.reserved ≡ c.args.self.now.reserved = ap (λ (x : Work). x.reserved) c.self.view_is in
    let room = (c.self.invariant.room (let n = c.requires.count.0 in let r = c.requires.reserved in omega arith)).0 in
    let each = answers_each (replay_from c.args.self.now.knows.limits.volume (entries c.args.self.now.knows.seen)) (record { by = c.args.self.now.knows.number; ops = c.args.ops.now; dones = c.args.dones.now }) c.requires.entry in
    (c.requires.reserved ∙ sym reserved ∙ sym room, each ∙ c.requires.reserved ∙ sym reserved ∙ sym room)

pub append-requires-clause-newest : goal.append-requires-clause-newest
append-requires-clause-newest c =
    let i = c.self.invariant in let a = pass_of c.self.inside.base.me.0 in
    λ q. let n = c.store_version.ensures.newest q in let places = ap (λ l. retired_at l q) i.places in let long = ap length i.journal ∙ seen_length a.seen in omega arith

pub returns-clause-worked : goal.returns-clause-worked
returns-clause-worked c =
    let w = c.self.inside in let k : pass_of w.base.me.0 ≡ c.args.self.now.knows = ap (λ (x : Work). x.knows) c.self.view_is in
    subst (λ (x : Knowledge). HasWorked x.limits x.number x.history) k (c.self.invariant.worked (ap (λ (x : Knowledge). x.published) k ∙ c.requires.open))
