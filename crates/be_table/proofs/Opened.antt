-- Open writes.
use Rattle.std.proofs.Common.{◌≡◌, ◌≢◌, ℕ, ◌<◌, IsTrue, ◌||◌, refl, Bool, true, false, nat_lt, if◌then◌else◌, length, ap, ◌∙◌, subst, arith}
use Rattle.std.proofs.lemmas.List.{length-map}
use Rattle.std.proofs.Common.{List, [], ◌∷◌, ◌+◌, ◌*◌, None, sym, ⊎_elim, inl, inr}
use Rattle.be_value.specs.declared.refusals.Refusal.{Refusal}
use Rattle.be_journal.specs.Journal.{Log, IsRefused}
use Rattle.be_table.specs.declared.pass.Commit.{Commit}
use Rattle.be_table.specs.declared.writing.Writing.TheInside.{Inside}
use Rattle.be_table.specs.Rule.{alone, entries, writer_state_places, LeftAreRetired, page_at, pass_of}
use Rattle.be_table.specs.Seats.{pin_of}
use Rattle.be_table.specs.Working.{HasWorked}
use Rattle.be_table.specs.Writes.{IsOpen}
use Rattle.be_core.specs.Machine.{has}
use Rattle.be_table.specs.Place.{Work}
use Rattle.be_table.specs.Works.{MakesScan, HasNoRoom}
use Rattle.be_table.proofs.WriterStates.{place-map}
use Rattle.be_table.proofs.Traces.{pass_history}
use Rattle.be_table.proofs.Listed.{listed, tested}
use Rattle.be_pages.specs.declared.page_pool.Place.{Place}
use Rattle.be_pages.specs.declared.page_pool.Place.TheVariants.{Free, Reserved, Filled, Current, GivenUp, Retired}
use Rattle.be_table.specs.declared.pass.Knowledge.{Knowledge}
use Rattle.be_table.specs.Steps.{IsPass, NoCommitReaches}
use Rattle.be_pages.specs.Place.{is_in_hand, place_of, swept_place}
use Rattle.be_table.specs.WriterState.{shows_taken, shows_free}

pub may_fill : (x : Place) → IsTrue (is_in_hand x) → IsTrue (shows_taken x || shows_free x)
may_fill Free h = refl
may_fill Reserved h = refl
may_fill Filled h = refl
may_fill Current h = h
may_fill GivenUp h = h
may_fill (Retired r) h = h

in_hand_of : (x : Place) → IsTrue (shows_free x || shows_taken x) → x ≢ Free → IsTrue (is_in_hand x)
in_hand_of Free h ne = absurd (ne refl)
in_hand_of Reserved h ne = refl
in_hand_of Filled h ne = refl
in_hand_of Current h ne = h
in_hand_of GivenUp h ne = h
in_hand_of (Retired r) h ne = h

unswept : (l : ℕ) (x : Place) → IsTrue (is_in_hand (swept_place l x)) → IsTrue (is_in_hand x)
unswept l Free h = h
unswept l Reserved h = h
unswept l Filled h = h
unswept l Current h = h
unswept l GivenUp h = h
unswept l (Retired r) h = retired (nat_lt r l) h
  where
    retired : (b : Bool) → IsTrue (is_in_hand (if b then Free else Retired r)) → false ≡ true
    retired true z = z
    retired false z = z

-- if a whole scan leaves no page free, the write holds each page that belongs to no version from
-- the lowest number on
pub all_held : (old new : Work) (least : ℕ) → MakesScan old new least → ((p : ℕ) → p < length new.knows.places → place_of new.knows.places p ≢ Free)
    → (p : ℕ) → p < length new.knows.places → NoCommitReaches new.knows.limits new.knows.seen least p → IsTrue (has new.knows.held p)
all_held old new least h none p lp un =
    let x = in_hand_of (place_of new.knows.places p) (h.leaves p lp (λ n lo hi. un n (let e = h.lowest_is in omega arith) hi)) (none p lp) in
    let same : place_of new.knows.places p ≡ swept_place least (place_of old.knows.places p) = ap (λ l. place_of l p) h.places ∙ place-map (swept_place least) refl old.knows.places p in
    let inside : p < length old.knows.places = (let e = ap length h.places in let f = length-map old.knows.places (swept_place least) in omega arith) in
    let y = unswept least (place_of old.knows.places p) (subst (λ z. IsTrue (is_in_hand z)) same x) in
    ap (λ l. has l p) h.held ∙ listed is_in_hand old.knows.places p ∙ tested is_in_hand old.knows.places p inside ∙ y

-- what a write does to the pages doesn't change anything else that holds for the pass
pub going_pass : (a : Knowledge) (scanned least : ℕ) (places : List Place) (words held : List ℕ) (steps : ℕ) → IsPass a → IsPass (record a { scanned = scanned; least = least; places = places; words = words; held = held; steps = steps })
going_pass a scanned least places words held steps h = record { within = h.within; legal = h.legal; number_below = h.number_below; by_passes = h.by_passes; room = h.room; inside = h.inside; own_pages = h.own_pages; volumes = h.volumes; pin = h.pin; mine = h.mine; encoded = h.encoded }

-- the journal in the writer state is as long as what the pass has seen
pub seen_length : (log : List Commit) → length (entries log) ≡ length log
seen_length log = length-map log (λ c. c.entry)

-- the journal's limit is the table's
pub no_room : (a : Knowledge) (log : Log) (r : Refusal) → log.entries ≡ entries a.seen → log.limit ≡ a.limits.commits → IsRefused log r → HasNoRoom r a
no_room a log r e l h =
    let long : length log.entries ≡ length a.seen = ap length e ∙ seen_length a.seen in
    ⊎_elim (λ s. inl (s.0, (let t = s.1 in omega arith))) (λ m. inr (m.0, (let t = m.1 in omega arith))) h

pub has_room : (a : Knowledge) (log : Log) → log.entries ≡ entries a.seen → log.limit ≡ a.limits.commits → length log.entries < log.limit → length a.seen < a.limits.commits
has_room a log e l lt = let long : length log.entries ≡ length a.seen = ap length e ∙ seen_length a.seen in omega arith

-- a write continues: the pass, the places and the page words change, while the journal and the
-- version page don't
pub reopened : (w v : Inside) (c : Knowledge) → let a = pass_of w.base.me.0 in IsOpen w → v.table.now ≡ w.table.now → v.marks ≡ w.marks → v.reserved ≡ w.reserved → v.writer_state.journal ≡ w.writer_state.journal → v.writer_state.page ≡ w.writer_state.page
    → v.base.table_id ≡ w.base.table_id → v.base.me ≡ (alone c, (0, None) ∷ []) → c ≡ record a { scanned = c.scanned; least = c.least; places = c.places; words = c.words; held = c.held; steps = c.steps; history = c.history }
    → c.scanned ≡ 0 → length c.words ≡ length a.words → length c.places ≡ length a.places → writer_state_places v.writer_state ≡ c.places → LeftAreRetired v.writer_state
    → (c.published ≡ false → HasWorked c.limits c.number c.history) → IsOpen v
reopened w v c i table marks reserved journal page id me same turn size count places left worked =
    let a = pass_of w.base.me.0 in
    let k : pass_of v.base.me.0 ≡ c = ap (λ m. pass_of m.0) me in
    let seen : (pass_of v.base.me.0).seen ≡ a.seen = ap (λ (x : Knowledge). x.seen) k ∙ ap (λ (x : Knowledge). x.seen) same in
    let phase : (pass_of v.base.me.0).phase ≡ a.phase = ap (λ (x : Knowledge). x.phase) k ∙ ap (λ (x : Knowledge). x.phase) same in
    let limits = ap (λ t. t.limits) table in
    record {
      table_is = id ∙ i.table_is ∙ sym (ap (λ t. t.id) table);
      me_is = me ∙ ap (λ (x : Knowledge). (alone x, (0, None) ∷ [])) (sym k);
      number_is = ap (λ (x : Knowledge). x.number) k ∙ ap (λ (x : Knowledge). x.number) same ∙ i.number_is ∙ sym (ap (λ m. m.number) marks);
      limits_are = ap (λ (x : Knowledge). x.limits) k ∙ ap (λ (x : Knowledge). x.limits) same ∙ i.limits_are ∙ sym limits;
      small = subst (λ m. m.number < 64) (sym marks) i.small;
      writes = ap (λ (x : Knowledge). x.writes) k ∙ ap (λ (x : Knowledge). x.writes) same ∙ i.writes;
      journal = ap (λ j. j.entries) journal ∙ i.journal ∙ ap entries (sym seen);
      page = page ∙ i.page ∙ ap (λ l. page_at l (length l)) (sym seen);
      places = places ∙ ap (λ (x : Knowledge). x.places) (sym k);
      count = ap length places ∙ count ∙ ap length (sym i.places) ∙ i.count ∙ ap (λ l. l.pages) (sym limits);
      size = ap (λ (x : Knowledge). length x.words) k ∙ size ∙ i.size ∙ ap (λ l. 528 + 512 * l.pages) (sym limits);
      turn = ap (λ (x : Knowledge). x.scanned) k ∙ turn;
      pin = ap (λ m. m.pin) marks ∙ i.pin ∙ (λ n. pin_of (sym phase n) (sym seen n));
      pass = subst IsPass (sym (k ∙ same)) (pass_history (record a { scanned = c.scanned; least = c.least; places = c.places; words = c.words; held = c.held; steps = c.steps }) c.history (going_pass a c.scanned c.least c.places c.words c.held c.steps i.pass));
      limit = ap (λ j. j.limit) journal ∙ i.limit ∙ ap (λ l. l.commits) (sym limits);
      left = left;
      room = λ some. let r = i.room (subst (λ n. 0 < n) reserved some) in
          (ap (λ j. j.reserved) journal ∙ r.0 ∙ sym reserved, subst (λ (q : ℕ × ℕ). q.0 < q.1) (λ n. (ap length (sym seen) n, ap (λ l. l.commits) (sym limits) n)) r.1);
      worked = subst (λ (x : Knowledge). x.published ≡ false → HasWorked x.limits x.number x.history) (sym k) worked;
    }
