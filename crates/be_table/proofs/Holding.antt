-- Each step of the writer is its event of the machine, and preserves the rule.
use Rattle.std.proofs.Common.{◌≡◌, ℕ, suc, MatchBool, ◌+◌, ◌*◌, ◌<◌, ◌≤◌, ◌==◌, if◌then◌else◌, List, [], ◌∷◌, length, set, slice_set, Bool, true, false, ◌||◌, Option, Some, None, refl, sym, ap, ◌∙◌, subst, inl, inr, arith, slice_index, map, length-set, IsTrue}
use Rattle.std.proofs.lemmas.Bool.Decides.{eqb_tells}
use Rattle.std.proofs.lemmas.List.{length-map, set-get_or}
use mathlib.Core.Option.{some, none}
use lib.ListN.{get_elem?}
use Rattle.atomic_table.specs.Table.{Step, keeps, step, stepped, Allows}
use Rattle.be_core.specs.declared.event.Phase.{Phase}
use Rattle.be_core.specs.declared.event.Phase.TheVariants.{Idle, Looked, Announced, Pinned}
use Rattle.be_core.specs.Machine.{World, Writer, Sound, after_fill, after_return, after_scan, scanned_by, scanned_on, scanned_out, lowest_after, lowest_with, swept, is_below, has}
use Rattle.be_core.proofs.Writers.{after_fill-sound, after_return-sound}
use Rattle.be_core.proofs.Scans.{part-sound, whole-sound, all_swept}
use Rattle.be_table.specs.declared.writer_state.WriterState.{WriterState}
use Rattle.be_pages.specs.declared.page_pool.Place.{Place}
use Rattle.be_pages.specs.declared.page_pool.Place.TheVariants.{Free, Reserved, Filled, Current, GivenUp, Retired}
use Rattle.be_table.specs.Setting.{Setting as Limits}
use Rattle.be_table.specs.declared.pass.Knowledge.{Knowledge}
use Rattle.be_table.specs.declared.pass.Move.{Move}
use Rattle.be_table.specs.declared.pass.Move.TheVariants.{Scan, Fill, Return}
use Rattle.be_table.specs.Laws.{AllowsBy, NoEvent, IsFill, IsReturn, IsScan}
use Rattle.be_pages.specs.Place.{place_of, is_in_hand, is_held_page, given_place, swept_place}
use Rattle.be_table.specs.WriterState.{shows_taken, shows_free, retired_with}
use Rattle.be_table.specs.Rule.{alone, Board, page_at, reach_at, announce_word, word_place, known_writer, WordsAgree, PagesAgree, Holds, Fits, FitsBoard, Shows, Reaches, pass_of, one_step_on}
use Rattle.be_table.specs.Steps.{fills, takes_page, gives_up, lowest_found, lowest_then, pages_from, scans_on, scans_out, scans, MayBeFilled, OwnRead, FilledAt, FilledFound, PageTaken, PageGivenUp, Scanned, FillMoves, FoundFillMoves, TakeMoves, GiveUpMoves, ScanMoves, given_moves, with_history}
use Rattle.be_table.proofs.Histories.{starts_itself}
use Rattle.be_table.proofs.Frames.{Table, Me1, views_step, fits_counted, words_load, words_fill, pages_fill, same_place, not_writer, fits_world, sound_world}
use Rattle.be_table.specs.Trace.{Makes, AllRest}
use Rattle.be_table.proofs.Traces.{IsOne, moving, moving_from, resting, retold, one_of}
use Rattle.be_table.proofs.Locks.{at_work, held_by, same_some, unheld_by}
use Rattle.be_table.proofs.WriterStates.{shows-fill, shows-take, shows-return, shows-place, shows-sweep}

-- the writer, with other numbers, places and words
abbrev works : Knowledge → ℕ → ℕ → List Place → List ℕ → List ℕ → Knowledge
works a scanned least places words held = record a { scanned = scanned; least = least; places = places; words = words; held = held; steps = a.steps + 1 }

module _ (limits : Limits) (s : Table) (b0 : Board) (i : ℕ) (a : Knowledge) where
  abbrev b : Board
  b = held_by b0 (Some (known_writer a))

  -- the machine's writer, sets and words change
  pub fits_board_held : FitsBoard limits s b → get_elem? s.views i ≡ some (alone a) → (scanned least : ℕ) (places : List Place) (known held : List ℕ) (free taken : ℕ → Bool) (retired : ℕ → Option ℕ) (words : ℕ → ℕ → ℕ) (ws : List ℕ)
      → let c = works a scanned least places known held in let w : World = record b.world { writer = Some (known_writer c); free = free; taken = taken; retired = retired; words = words } in
      WordsAgree w (page_at b.log (length b.log)) ws → Sound w → Holds (record b { world = w }) c
      → FitsBoard limits (record { words = ws; homes = s.homes; views = set s.views i (alone c) }) (record b { world = w })
  fits_board_held h at scanned least places known held free taken retired words ws agree sound holds =
      let c = works a scanned least places known held in
      let w : World = record b.world { writer = Some (known_writer c); free = free; taken = taken; retired = retired; words = words } in
      let fa = (h.views i (alone a) at).0.0 in
      let fc : Fits limits (record b { world = w }) i c = record { number = fa.number; limits_are = fa.limits_are; seat_is = fa.seat_is; seen = fa.seen; mine = fa.mine; own = fa.own; writes = fa.writes; whole = λ _. holds; phase = fa.phase; pin = fa.pin; image = fa.image } in
      record {
        table = record { words = agree; home = h.table.home; version = h.table.version };
        sound = sound_world limits b w h.sound refl refl refl refl (λ g e. subst (λ (g : Writer). g.pass < limits.passes) (same_some _ _ e) fa.number) h.sound.reaches sound;
        views = views_step limits b (record b { world = w }) s.views i a c h.views at (starts_itself b.log) (λ j y ne f. fits_world limits b w j y refl refl (λ z. absurd (not_writer b a y ne refl z)) (λ g. g) f) fc;
      }

-- a scan leaves the phases unchanged
scan_phases : (v : World) (o : Option Writer) (j : ℕ) → (scanned_by v o j).phases ≡ v.phases
scan_phases v None j = refl
scan_phases v (Some h) j = by (suc j == v.passes)
  where
    by : (z : Bool) → (if z then scanned_out v h j else scanned_on v h j).phases ≡ v.phases
    by true = refl
    by false = refl

fillable : (x : Place) → IsTrue (shows_taken x || shows_free x) → retired_with x ≡ None
fillable Free h = refl
fillable Reserved h = refl
fillable Filled h = refl
fillable Current h = absurd (cc)
fillable GivenUp h = absurd (cc)
fillable (Retired r) h = absurd (cc)

lowest-found : (b : ℕ) (phase : Phase) → lowest_with b phase ≡ lowest_found b (announce_word phase)
lowest-found b Idle = refl
lowest-found b (Looked a) = refl
lowest-found b (Announced a) = refl
lowest-found b (Pinned a n) = refl

lowest-plain : (b : Bool) (c c' l m m' : ℕ) → c ≡ c' → m ≡ m' → lowest_found (if b then c else l) m ≡ lowest_found (if b then c' else l) m'
lowest-plain b c c' l m m' e g = cc

module _ (limits : Limits) (slots i : ℕ) (a : Knowledge) (carried : List (ℕ × Option WriterState)) where
  -- a load by the writer finds the word that the writer knows
  pub own_by : (p j : ℕ) → a.writes ≡ true → p < a.limits.pages → j < 512 → AllowsBy limits slots i (alone a, carried) (word_place p j) (λ n. n) NoEvent (OwnRead (step slots (word_place p j) 0 0 none) (alone a, carried))
  own_by p j writes lp lj s b h sized at fits =
      let t = h.table in
      let fa = (h.views i (alone a) at).0.0 in
      let m = fa.whole writes in
      let inside : p < b.world.pages = rw h.sound.pages (rw fa.limits_are at lp) in (
        alone (one_step_on a),
        keeps,
        tt,
        (
          b,
          record {
            table = record { words = words_load b.world (page_at b.log (length b.log)) s.words t.words (word_place p j); home = t.home; version = t.version };
            sound = h.sound;
            views = views_step limits b b s.views i a (one_step_on a) h.views at (starts_itself b.log) (λ j x _ f. f) (fits_counted limits b i a fa);
          },
          refl,
        ),
        (refl, t.words.pages p j inside lj ∙ sym (m.words p j inside lj)),
      )

  pub fill_by : (p j x : ℕ) → a.writes ≡ true → a.published ≡ false → MayBeFilled a.places p → j < 512
      → AllowsBy limits slots i (alone a, carried) (word_place p j) (λ _. x) (IsFill a.number p j x) (λ _. FilledAt (step slots (word_place p j) x 0 none) (alone a, carried) x)
  fill_by p j x writes unpublished may lj s b0 h0 sized at fits =
      let work = at_work limits s b0 i a h0 at writes in
      let b : Board = held_by b0 (Some (known_writer a)) in
      let h = work.0 in
      let m = work.1 in
      let v = b.world in
      let w : World = after_fill v p j x in
      let lp : p < v.pages = omega (arith, may.0, m.count) in
      let few : v.passes ≤ 64 = rw h.sound.passes h.sound.within.limits.few in
      let in_hand : IsTrue (v.taken p || v.free p) = rw (m.shown.free p, m.shown.taken p) may.1 in (
        alone (fills a p j x),
        keeps,
        tt,
        (
          record b { world = w },
          fits_board_held limits s b0 i a h at a.scanned a.least (slice_set a.places p Filled) (slice_set a.words (word_place p j) x) a.held w.free w.taken w.retired w.words (set s.words (word_place p j) x)
              (words_fill v (page_at b.log (length b.log)) s.words h.table.words p j x lp lj few)
              (after_fill-sound v h.sound.machine p in_hand j x (known_writer a, refl))
              (record {
                log = m.log;
                writer = refl;
                turn = m.turn;
                count = length-set a.places p Filled ∙ m.count;
                shown = shows-fill a.places v m.shown p j x may.0 (fillable (place_of a.places p) may.1);
                size = length-set a.words (word_place p j) x ∙ m.size;
                words = pages_fill v.pages v.words a.words p j x m.size lp lj m.words;
              }),
          unheld_by b0.world (known_writer a) (λ u. IsFill a.number p j x 0 u w) ((h0.views i (alone a) at).0.0.whole writes).writer ((lp, lj, (known_writer a, (refl, refl, unpublished)), in_hand), refl),
        ),
        (λ q k e lk. let z = same_place p j q k lj lk e in ap (λ (y : ℕ × ℕ). (alone (fills a y.0 y.1 x), carried)) (λ o. (z.0 o, z.1 o))),
      )

  -- a load that finds a word is a fill with that word
  pub found_by : (p j : ℕ) → a.writes ≡ true → a.published ≡ false → MayBeFilled a.places p → j < 512
      → AllowsBy limits slots i (alone a, carried) (word_place p j) (λ n. n) (λ n. IsFill a.number p j n n) (FilledFound (step slots (word_place p j) 0 0 none) (alone a, carried))
  found_by p j writes unpublished may lj s b0 h0 sized at fits =
      let y = fill_by p j (slice_index s.words (word_place p j)) writes unpublished may lj s b0 h0 sized at fits in
      let work = at_work limits s b0 i a h0 at writes in
      let b : Board = held_by b0 (Some (known_writer a)) in
      let m = work.1 in
      let lp : p < b.world.pages = omega (arith, may.0, m.count) in
      (y.0, y.1, y.2, y.3, (y.4, work.0.table.words.pages p j lp lj ∙ sym (m.words p j lp lj)))

  -- a load by the writer at which a page moves to another place that looks the same to the machine
  note_by : (p : ℕ) (x : Place) → a.writes ≡ true → p < length a.places → shows_free x ≡ shows_free (place_of a.places p) → shows_taken x ≡ shows_taken (place_of a.places p) → retired_with x ≡ retired_with (place_of a.places p)
      → let c : Knowledge = record a { places = slice_set a.places p x; steps = a.steps + 1 } in AllowsBy limits slots i (alone a, carried) (word_place p 0) (λ n. n) NoEvent (λ n r. r ≡ (alone c, carried))
  note_by p x writes lp free taken retired s b0 h0 sized at fits =
      let work = at_work limits s b0 i a h0 at writes in
      let b : Board = held_by b0 (Some (known_writer a)) in
      let h = work.0 in
      let m = work.1 in
      let v = b.world in
      let t = words_load v (page_at b.log (length b.log)) s.words h.table.words (word_place p 0) in (
        alone (record a { places = slice_set a.places p x; steps = a.steps + 1 }),
        keeps,
        tt,
        (
          b,
          fits_board_held limits s b0 i a h at a.scanned a.least (slice_set a.places p x) a.words a.held v.free v.taken v.retired v.words (set s.words (word_place p 0) (slice_index s.words (word_place p 0)))
              t h.sound.machine
              (record {
                log = m.log;
                writer = refl;
                turn = m.turn;
                count = length-set a.places p x ∙ m.count;
                shown = shows-place a.places v m.shown p x lp free taken retired;
                size = m.size;
                words = m.words;
              }),
          ap (λ o. record b0.world { writer = o }) (sym ((h0.views i (alone a) at).0.0.whole writes).writer),
        ),
        refl,
      )

  -- a load by the writer at which a page that it had taken returns to the free ones
  back_by : (p : ℕ) (y : Place) → a.writes ≡ true → p < length a.places → place_of a.places p ≡ y → shows_taken y ≡ true → retired_with y ≡ None
      → let c : Knowledge = record a { places = slice_set a.places p Free; steps = a.steps + 1 } in AllowsBy limits slots i (alone a, carried) (word_place p 0) (λ n. n) (IsReturn a.number p) (λ n r. r ≡ (alone c, carried))
  back_by p y writes lp is taken unretired s b0 h0 sized at fits =
      let work = at_work limits s b0 i a h0 at writes in
      let b : Board = held_by b0 (Some (known_writer a)) in
      let h = work.0 in
      let m = work.1 in
      let v = b.world in
      let w : World = after_return v p in
      let in_hand : IsTrue (v.taken p) = m.shown.taken p ∙ ap shows_taken is ∙ taken in
      let t = words_load v (page_at b.log (length b.log)) s.words h.table.words (word_place p 0) in (
        alone (record a { places = slice_set a.places p Free; steps = a.steps + 1 }),
        keeps,
        tt,
        (
          record b { world = w },
          fits_board_held limits s b0 i a h at a.scanned a.least (slice_set a.places p Free) a.words a.held w.free w.taken w.retired w.words (set s.words (word_place p 0) (slice_index s.words (word_place p 0)))
              (record { size = t.size; lock = t.lock; current = t.current; announced = t.announced; pages = t.pages; unused = t.unused })
              (after_return-sound v h.sound.machine p in_hand)
              (record {
                log = m.log;
                writer = refl;
                turn = m.turn;
                count = length-set a.places p Free ∙ m.count;
                shown = shows-return a.places v m.shown p lp (ap retired_with is ∙ unretired);
                size = m.size;
                words = m.words;
              }),
          unheld_by b0.world (known_writer a) (λ u. IsReturn a.number p 0 u w) ((h0.views i (alone a) at).0.0.whole writes).writer (((known_writer a, refl, refl), in_hand), refl),
        ),
        refl,
      )

  -- the page whose first word the step was on
  at_page : (p : ℕ) (x : Place) (c : ℕ → Knowledge) → c p ≡ record a { places = slice_set a.places p x; steps = a.steps + 1 } → (event : ℕ → World → World → Type 0)
      → AllowsBy limits slots i (alone a, carried) (word_place p 0) (λ n. n) event (λ n r. r ≡ (alone (record a { places = slice_set a.places p x; steps = a.steps + 1 }), carried))
      → AllowsBy limits slots i (alone a, carried) (word_place p 0) (λ n. n) event (λ n r. (q : ℕ) → word_place p 0 ≡ word_place q 0 → r ≡ (alone (c q), carried))
  at_page p x c is event by s b h sized at fits =
      let y = by s b h sized at fits in
      (y.0, y.1, y.2, y.3, λ q f. let z = same_place p 0 q 0 (omega arith) (omega arith) f in y.4 ∙ ap (λ (k : Knowledge). (alone k, carried)) (sym is ∙ ap c z.0))

  -- a load by the writer that takes a page is a fill with the word already there
  pub take_by : (p : ℕ) → a.writes ≡ true → a.published ≡ false → p < length a.places → place_of a.places p ≡ Free
      → AllowsBy limits slots i (alone a, carried) (word_place p 0) (λ n. n) (λ n. IsFill a.number p 0 n n) (PageTaken (step slots (word_place p 0) 0 0 none) (alone a, carried))
  take_by p writes unpublished lp is s b0 h0 sized at fits =
      let work = at_work limits s b0 i a h0 at writes in
      let b : Board = held_by b0 (Some (known_writer a)) in
      let h = work.0 in
      let m = work.1 in
      let v = b.world in
      let x = slice_index s.words (word_place p 0) in
      let w : World = after_fill v p 0 x in
      let lv : p < v.pages = omega (arith, lp, m.count) in
      let few : v.passes ≤ 64 = rw h.sound.passes h.sound.within.limits.few in
      let in_hand : IsTrue (v.taken p || v.free p) = rw (m.shown.free p, m.shown.taken p, is) refl in
      let found : x ≡ slice_index a.words (word_place p 0) = h.table.words.pages p 0 lv (omega arith) ∙ sym (m.words p 0 lv (omega arith)) in
      let stays : set a.words (word_place p 0) x ≡ a.words = ap (set a.words (word_place p 0)) found ∙ set-get_or a.words (word_place p 0) 0 in (
        alone (takes_page a p),
        keeps,
        tt,
        (
          record b { world = w },
          fits_board_held limits s b0 i a h at a.scanned a.least (slice_set a.places p Reserved) a.words a.held w.free w.taken w.retired w.words (set s.words (word_place p 0) x)
              (words_fill v (page_at b.log (length b.log)) s.words h.table.words p 0 x lv (omega arith) few)
              (after_fill-sound v h.sound.machine p in_hand 0 x (known_writer a, refl))
              (record {
                log = m.log;
                writer = refl;
                turn = m.turn;
                count = length-set a.places p Reserved ∙ m.count;
                shown = shows-take a.places v m.shown p 0 x lp (ap retired_with is);
                size = m.size;
                words = subst (PagesAgree v.pages w.words) stays (pages_fill v.pages v.words a.words p 0 x m.size lv (omega arith) m.words);
              }),
          unheld_by b0.world (known_writer a) (λ u. IsFill a.number p 0 x x u w) ((h0.views i (alone a) at).0.0.whole writes).writer ((lv, omega arith, (known_writer a, (refl, refl, unpublished)), in_hand), refl),
        ),
        ((λ q e. let z = same_place p 0 q 0 (omega arith) (omega arith) e in ap (λ (y : ℕ). (alone (takes_page a y), carried)) z.0), found),
      )

  pub give_up_by : (p : ℕ) → a.writes ≡ true → p < length a.places → IsTrue (is_held_page (place_of a.places p)) → AllowsBy limits slots i (alone a, carried) (word_place p 0) (λ n. n) (λ n v w. MatchBool (shows_taken (place_of a.places p)) (IsReturn a.number p n v w) (NoEvent n v w)) (PageGivenUp (step slots (word_place p 0) 0 0 none) (alone a, carried))
  give_up_by p writes lp held = at_page p (given_place (place_of a.places p)) (gives_up a) refl (Gives (place_of a.places p)) (by_place (place_of a.places p) refl held)
    where
      Gives : Place → ℕ → World → World → Type 0
      Gives y n v w = MatchBool (shows_taken y) (IsReturn a.number p n v w) (NoEvent n v w)

      noted : (x : Place) → shows_free x ≡ shows_free (place_of a.places p) → shows_taken x ≡ shows_taken (place_of a.places p) → retired_with x ≡ retired_with (place_of a.places p)
          → AllowsBy limits slots i (alone a, carried) (word_place p 0) (λ n. n) NoEvent (λ n r. r ≡ (alone (record a { places = slice_set a.places p x; steps = a.steps + 1 }), carried))
      noted x f t r = note_by p x writes lp f t r

      by_place : (y : Place) → place_of a.places p ≡ y → IsTrue (is_held_page y) → AllowsBy limits slots i (alone a, carried) (word_place p 0) (λ n. n) (Gives y) (λ n r. r ≡ (alone (record a { places = slice_set a.places p (given_place y); steps = a.steps + 1 }), carried))
      by_place Free e h = absurd (cc)
      by_place Reserved e h = back_by p Reserved writes lp e refl refl
      by_place Filled e h = back_by p Filled writes lp e refl refl
      by_place Current e h = noted GivenUp (ap shows_free (sym e)) (ap shows_taken (sym e)) (ap retired_with (sym e))
      by_place GivenUp e h = absurd (cc)
      by_place (Retired r) e h = absurd (cc)

  -- a load of the reader slot whose turn it is
  pub scan_by : a.writes ≡ true → a.published ≡ false → AllowsBy limits slots i (alone a, carried) (16 + 8 * a.scanned) (λ n. n) (IsScan a.number a.scanned) (Scanned (step slots (16 + 8 * a.scanned) 0 0 none) (alone a, carried))
  scan_by writes unpublished s b0 h0 sized at fits =
      let work = at_work limits s b0 i a h0 at writes in
      let b : Board = held_by b0 (Some (known_writer a)) in
      let h = work.0 in
      let m = work.1 in
      let v = b.world in
      let fa = (h.views i (alone a) at).0.0 in
      let j = a.scanned in
      let n = slice_index s.words (16 + 8 * j) in
      let t = words_load v (page_at b.log (length b.log)) s.words h.table.words (16 + 8 * j) in
      let passes : a.limits.passes ≡ v.passes = ap (λ (l : Limits). l.passes) fa.limits_are ∙ sym h.sound.passes in
      let least : lowest_after v (known_writer a) j ≡ lowest_then a n = lowest-found (if j == 0 then v.current else a.least) (v.phases j) ∙ lowest-plain (j == 0) v.current (length a.seen) a.least (announce_word (v.phases j)) n (h.table.version ∙ ap length (sym m.log)) (sym (h.table.words.announced j m.turn)) in
      let is = ((h0.views i (alone a) at).0.0.whole writes).writer in
      let mine = λ (own : j ≡ a.number). h.table.words.announced j m.turn ∙ (ap (λ k. announce_word (v.phases k)) own ∙ ap announce_word fa.phase) in
      elim (eqb_tells (suc j) v.passes) [
        | inl y ↦
            let c = scans_out a n in
            let w : World = swept (record v { writer = Some (known_writer c) }) (lowest_then a n) in
            let event : w ≡ after_scan v j = rw y.0 (ap (λ l. swept (record v { writer = Some record (known_writer a) { scanned = 0; least = l } }) l) (sym least)) in (
              alone (scans a n),
              keeps,
              tt,
              (
                record b { world = w },
                subst (λ x. FitsBoard limits (stepped s (16 + 8 * j) n i carried (alone x) keeps) (record b { world = w })) (sym (chosen_out passes y.0 n))
                    (fits_board_held limits s b0 i a h at 0 (lowest_then a n) (map (swept_place (lowest_then a n)) a.places) a.words (pages_from is_in_hand 0 a.places) w.free w.taken w.retired w.words (set s.words (16 + 8 * j) n)
                    (record { size = t.size; lock = t.lock; current = t.current; announced = t.announced; pages = t.pages; unused = t.unused })
                    (subst Sound (λ k. swept (record v { writer = Some record (known_writer a) { scanned = 0; least = least k } }) (least k)) (whole-sound v h.sound.machine (known_writer a) a.number j (refl, refl, unpublished) refl y.1))
                    (record {
                      log = m.log;
                      writer = refl;
                      turn = rw h.sound.passes h.sound.within.limits.some_pass;
                      count = length-map a.places (swept_place (lowest_then a n)) ∙ m.count;
                      shown = (let z = shows-sweep a.places v m.shown (lowest_then a n) in record { free = z.free; taken = z.taken; retired = z.retired });
                      size = m.size;
                      words = m.words;
                    })),
                unheld_by b0.world (known_writer a) (λ u. IsScan a.number j n u w) is ((m.turn, (known_writer a, (refl, refl, unpublished), refl)), event, h.table.words.announced j m.turn),
              ),
              (
                refl,
                λ _ p lp un.
                    let l = lowest_then a n in
                    let z = shows-sweep a.places v m.shown l in
                    let count = length-map a.places (swept_place l) in
                    let inside : p < v.pages = omega (arith, lp, count, m.count) in
                    let x = all_swept v h.sound.machine (known_writer a) a.number j (refl, refl, unpublished) refl y.1 p inside
                    (λ o lo hi. h.sound.reaches o p hi ∙ ap (λ g. has (reach_at limits g o) p) (sym m.log) ∙ ap (λ (l : Limits). has (reach_at l a.seen o) p) (sym fa.limits_are) ∙ un o (subst (λ q. q ≤ o) least lo) (let q = ap length m.log in let g = h.table.version in omega arith)) in
                    rw (z.free p, z.taken p) at (subst (λ l. IsTrue ((v.free p || is_below l (v.retired p)) || v.taken p)) least x),
                mine,
              ),
            )
        | inr y ↦
            let c = scans_on a n in
            let w : World = record v { writer = Some (known_writer c) } in
            let event : w ≡ after_scan v j = rw y.0 (ap (λ l. record v { writer = Some record (known_writer a) { scanned = suc j; least = l } }) (sym least)) in (
              alone (scans a n),
              keeps,
              tt,
              (
                record b { world = w },
                subst (λ x. FitsBoard limits (stepped s (16 + 8 * j) n i carried (alone x) keeps) (record b { world = w })) (sym (chosen_on passes y.0 n))
                    (fits_board_held limits s b0 i a h at (suc j) (lowest_then a n) a.places a.words a.held w.free w.taken w.retired w.words (set s.words (16 + 8 * j) n)
                    (record { size = t.size; lock = t.lock; current = t.current; announced = t.announced; pages = t.pages; unused = t.unused })
                    (subst Sound (λ k. record v { writer = Some record (known_writer a) { scanned = suc j; least = least k } }) (part-sound v h.sound.machine (known_writer a) a.number j (refl, refl, unpublished) refl))
                    (record {
                      log = m.log;
                      writer = refl;
                      turn = (let z = m.turn in let d = y.1 in omega arith);
                      count = m.count;
                      shown = record { free = m.shown.free; taken = m.shown.taken; retired = m.shown.retired };
                      size = m.size;
                      words = m.words;
                    })),
                unheld_by b0.world (known_writer a) (λ u. IsScan a.number j n u w) is ((m.turn, (known_writer a, (refl, refl, unpublished), refl)), event, h.table.words.announced j m.turn),
              ),
              (refl, λ last. absurd (y.1 (last ∙ passes)), mine),
            )
      ]
    where
      chosen_out : {passes : ℕ} → a.limits.passes ≡ passes → (suc a.scanned == passes) ≡ true → (n : ℕ) → scans a n ≡ scans_out a n
      chosen_out p e n = ap (λ (x : Bool). if x then scans_out a n else scans_on a n) (ap (λ q. suc a.scanned == q) p ∙ e)

      chosen_on : {passes : ℕ} → a.limits.passes ≡ passes → (suc a.scanned == passes) ≡ false → (n : ℕ) → scans a n ≡ scans_on a n
      chosen_on p e n = ap (λ (x : Bool). if x then scans_out a n else scans_on a n) (ap (λ q. suc a.scanned == q) p ∙ e)

module _ (limits : Limits) (slots i : ℕ) (a : Knowledge) (carried : List (ℕ × Option WriterState)) where
  -- the word that was filled is the step's word
  at_word : (p j x : ℕ) → j < 512 → (h : List Move) → Makes a.number a.history (Fill a.number p j x ∷ []) h → (r : Me1) → ((q k : ℕ) → word_place p j ≡ word_place q k → k < 512 → r ≡ (alone (fills (with_history a h) q k x), carried))
      → (q k : ℕ) → word_place p j ≡ word_place q k → k < 512 → (h : List Move) × Makes a.number a.history (Fill a.number q k x ∷ []) h × (r ≡ (alone (fills (with_history a h) q k x), carried))
  at_word p j x lj h makes r reported q k e lk =
      let z = same_place p j q k lj lk e in
      (h, subst (λ (y : ℕ × ℕ). Makes a.number a.history (Fill a.number y.0 y.1 x ∷ []) h) (λ o. (z.0 o, z.1 o)) makes, reported q k e lk)

  filling : (p j x : ℕ) → a.writes ≡ true → a.published ≡ false → MayBeFilled a.places p → j < 512 → Allows (Shows limits) slots i (alone a, carried) (word_place p j) (λ _. x) (λ _. FillMoves (step slots (word_place p j) x 0 none) (alone a, carried) x)
  filling p j x writes un may lj =
      retold limits slots i (alone a, carried) (word_place p j) (λ _. x)
      (λ n r. (h : List Move) × Makes a.number a.history (Fill a.number p j x ∷ []) h × Reaches (pass_of r.0) (λ w. Unit {0}) × FilledAt (step slots (word_place p j) x 0 none) (alone (with_history a h), carried) x r)
      (λ _. FillMoves (step slots (word_place p j) x 0 none) (alone a, carried) x)
      (λ n r g. at_word p j x lj g.0 g.1 r g.3)
      (moving limits slots i a carried (word_place p j) (λ _. x) (λ n. Fill a.number p j x) (IsFill a.number p j x) (λ h _. FilledAt (step slots (word_place p j) x 0 none) (alone (with_history a h), carried) x) (λ n w. Unit {0}) (λ n. refl)
      (λ h. fill_by limits slots i (with_history a h) carried p j x writes un may lj) (λ n v w g. (g, tt)) (λ h n r t. one_of a (fills (with_history a h) p j x) h carried r (t p j refl lj) refl refl))

  founding : (p j : ℕ) → a.writes ≡ true → a.published ≡ false → MayBeFilled a.places p → j < 512 → Allows (Shows limits) slots i (alone a, carried) (word_place p j) (λ n. n) (FoundFillMoves (step slots (word_place p j) 0 0 none) (alone a, carried))
  founding p j writes un may lj =
      retold limits slots i (alone a, carried) (word_place p j) (λ n. n)
      (λ n r. (h : List Move) × Makes a.number a.history (Fill a.number p j n ∷ []) h × Reaches (pass_of r.0) (λ w. Unit {0}) × FilledFound (step slots (word_place p j) 0 0 none) (alone (with_history a h), carried) n r)
      (FoundFillMoves (step slots (word_place p j) 0 0 none) (alone a, carried))
      (λ n r g. (at_word p j n lj g.0 g.1 r g.3.0, g.3.1))
      (moving limits slots i a carried (word_place p j) (λ n. n) (λ n. Fill a.number p j n) (λ n. IsFill a.number p j n n) (λ h. FilledFound (step slots (word_place p j) 0 0 none) (alone (with_history a h), carried)) (λ n w. Unit {0}) (λ n. refl)
      (λ h. found_by limits slots i (with_history a h) carried p j writes un may lj) (λ n v w g. (g, tt)) (λ h n r t. one_of a (fills (with_history a h) p j n) h carried r (t.0 p j refl lj) refl refl))

  -- the page that was taken is the step's page
  at_taken : (p n : ℕ) (h : List Move) → Makes a.number a.history (Fill a.number p 0 n ∷ []) h → (r : Me1) → ((q : ℕ) → word_place p 0 ≡ word_place q 0 → r ≡ (alone (takes_page (with_history a h) q), carried))
      → (q : ℕ) → word_place p 0 ≡ word_place q 0 → (h : List Move) × Makes a.number a.history (Fill a.number q 0 n ∷ []) h × (r ≡ (alone (takes_page (with_history a h) q), carried))
  at_taken p n h makes r reported q e = let z = same_place p 0 q 0 (omega arith) (omega arith) e in (h, subst (λ (y : ℕ). Makes a.number a.history (Fill a.number y 0 n ∷ []) h) z.0 makes, reported q e)

  taking : (p : ℕ) → a.writes ≡ true → a.published ≡ false → p < length a.places → place_of a.places p ≡ Free → Allows (Shows limits) slots i (alone a, carried) (word_place p 0) (λ n. n) (TakeMoves (step slots (word_place p 0) 0 0 none) (alone a, carried))
  taking p writes un lp is =
      retold limits slots i (alone a, carried) (word_place p 0) (λ n. n)
      (λ n r. (h : List Move) × Makes a.number a.history (Fill a.number p 0 n ∷ []) h × Reaches (pass_of r.0) (λ w. Unit {0}) × PageTaken (step slots (word_place p 0) 0 0 none) (alone (with_history a h), carried) n r)
      (TakeMoves (step slots (word_place p 0) 0 0 none) (alone a, carried))
      (λ n r g. (at_taken p n g.0 g.1 r g.3.0, g.3.1))
      (moving limits slots i a carried (word_place p 0) (λ n. n) (λ n. Fill a.number p 0 n) (λ n. IsFill a.number p 0 n n) (λ h. PageTaken (step slots (word_place p 0) 0 0 none) (alone (with_history a h), carried)) (λ n w. Unit {0}) (λ n. refl)
      (λ h. take_by limits slots i (with_history a h) carried p writes un lp is) (λ n v w g. (g, tt)) (λ h n r t. one_of a (takes_page (with_history a h) p) h carried r (t.0 p refl) refl refl))

  -- the page that was given up is the step's page
  at_given : (p : ℕ) (h : List Move) → Makes a.number a.history (given_moves a p) h → (r : Me1) → ((q : ℕ) → word_place p 0 ≡ word_place q 0 → r ≡ (alone (gives_up (with_history a h) q), carried))
      → (q : ℕ) → word_place p 0 ≡ word_place q 0 → (h : List Move) × Makes a.number a.history (given_moves a q) h × (r ≡ (alone (gives_up (with_history a h) q), carried))
  at_given p h makes r reported q e = let z = same_place p 0 q 0 (omega arith) (omega arith) e in (h, subst (λ y. Makes a.number a.history (given_moves a y) h) z.0 makes, reported q e)

  giving : (p : ℕ) → a.writes ≡ true → p < length a.places → IsTrue (is_held_page (place_of a.places p)) → Allows (Shows limits) slots i (alone a, carried) (word_place p 0) (λ n. n) (GiveUpMoves (step slots (word_place p 0) 0 0 none) (alone a, carried))
  giving p writes lp held = by (shows_taken (place_of a.places p)) refl
    where
      st : Step (Option WriterState)
      st = step slots (word_place p 0) 0 0 none

      Moves : Bool → List Move
      Moves z = if z then Return a.number p ∷ [] else []

      Gives : ℕ → World → World → Type 0
      Gives n v w = MatchBool (shows_taken (place_of a.places p)) (IsReturn a.number p n v w) (NoEvent n v w)

      by : (z : Bool) → shows_taken (place_of a.places p) ≡ z → Allows (Shows limits) slots i (alone a, carried) (word_place p 0) (λ n. n) (GiveUpMoves st (alone a, carried))
      by true is =
          retold limits slots i (alone a, carried) (word_place p 0) (λ n. n)
          (λ n r. (h : List Move) × Makes a.number a.history (Return a.number p ∷ []) h × Reaches (pass_of r.0) (λ w. Unit {0}) × PageGivenUp st (alone (with_history a h), carried) n r)
          (GiveUpMoves st (alone a, carried))
          (λ n r g. at_given p g.0 (subst (λ z. Makes a.number a.history (Moves z) g.0) (sym is) g.1) r g.3)
          (moving limits slots i a carried (word_place p 0) (λ n. n) (λ n. Return a.number p) Gives (λ h. PageGivenUp st (alone (with_history a h), carried)) (λ n w. Unit {0}) (λ n. refl)
          (λ h. give_up_by limits slots i (with_history a h) carried p writes lp held)
          (λ n v w g. (subst (λ z. MatchBool z (IsReturn a.number p n v w) (NoEvent n v w)) is g, tt))
          (λ h n r t. one_of a (gives_up (with_history a h) p) h carried r (t p refl) refl refl))
      by false is =
          retold limits slots i (alone a, carried) (word_place p 0) (λ n. n) (PageGivenUp st (alone a, carried)) (GiveUpMoves st (alone a, carried))
          (λ n r g. at_given p a.history (subst (λ z. Makes a.number a.history (Moves z) a.history) (sym is) refl) r g)
          (resting limits slots i (alone a) carried (word_place p 0) (λ n. n) Gives (PageGivenUp st (alone a, carried)) (give_up_by limits slots i a carried p writes lp held)
          (λ n v w g. subst (λ z. MatchBool z (IsReturn a.number p n v w) (NoEvent n v w)) is g)
          (λ n r t l rest. subst (AllRest l) (sym (ap (λ (m : Me1). m.0.passes) (t p refl))) rest))

  scanned_one : (h : List Move) (n : ℕ) (r : Me1) → r ≡ (alone (scans (with_history a h) n), carried) → IsOne a h r
  scanned_one h n r e = one_of a (scans (with_history a h) n) h carried r e (by (suc a.scanned == a.limits.passes)).0 (by (suc a.scanned == a.limits.passes)).1
    where
      by : (z : Bool) → let c : Knowledge = if z then scans_out (with_history a h) n else scans_on (with_history a h) n in (c.number ≡ a.number) × (c.history ≡ h)
      by true = (refl, refl)
      by false = (refl, refl)

  scanning : a.writes ≡ true → a.published ≡ false → Allows (Shows limits) slots i (alone a, carried) (16 + 8 * a.scanned) (λ n. n) (ScanMoves (step slots (16 + 8 * a.scanned) 0 0 none) (alone a, carried))
  scanning writes un =
      moving_from limits slots i a carried (16 + 8 * a.scanned) (λ n. n) (λ n. Scan a.number a.scanned) (IsScan a.number a.scanned) (λ h. Scanned (step slots (16 + 8 * a.scanned) 0 0 none) (alone (with_history a h), carried)) (λ n w. n ≡ announce_word (w.phases a.scanned)) (λ n. refl)
      (λ h. scan_by limits slots i (with_history a h) carried writes un)
      (λ n v w g. ((g.0, g.1), g.2 ∙ ap (λ f. announce_word (f a.scanned)) (sym (ap (λ (u : World). u.phases) g.1 ∙ scan_phases v v.writer a.scanned))))
      (λ h n r t. scanned_one h n r t.0)

module _ (limits : Limits) (slots i : ℕ) (a : Knowledge) (carried : List (ℕ × Option WriterState)) (me : Me1) (e : me ≡ (alone a, carried)) where
  pub owns_as : (p j word : ℕ) → a.writes ≡ true → p < a.limits.pages → j < 512 → word ≡ word_place p j → Allows (Shows limits) slots i me word (λ n. n) (OwnRead (step slots word 0 0 none) me)
  owns_as p j word writes lp lj at =
      subst (λ (q : Me1 × ℕ). Allows (Shows limits) slots i q.0 q.1 (λ n. n) (OwnRead (step slots q.1 0 0 none) q.0)) (λ k. (sym e k, sym at k))
      (resting limits slots i (alone a) carried (word_place p j) (λ n. n) NoEvent (OwnRead (step slots (word_place p j) 0 0 none) (alone a, carried)) (own_by limits slots i a carried p j writes lp lj)
      (λ n v w g. g) (λ n r t l rest. subst (AllRest l) (sym (ap (λ (m : Me1). m.0.passes) t.0)) rest))

  pub fills_as : (p j x word : ℕ) → a.writes ≡ true → a.published ≡ false → MayBeFilled a.places p → j < 512 → word ≡ word_place p j → Allows (Shows limits) slots i me word (λ _. x) (λ _. FillMoves (step slots word x 0 none) me x)
  fills_as p j x word writes un may lj at =
      subst (λ (q : Me1 × ℕ). Allows (Shows limits) slots i q.0 q.1 (λ _. x) (λ _. FillMoves (step slots q.1 x 0 none) q.0 x)) (λ k. (sym e k, sym at k)) (filling limits slots i a carried p j x writes un may lj)

  pub found_as : (p j word : ℕ) → a.writes ≡ true → a.published ≡ false → MayBeFilled a.places p → j < 512 → word ≡ word_place p j → Allows (Shows limits) slots i me word (λ n. n) (FoundFillMoves (step slots word 0 0 none) me)
  found_as p j word writes un may lj at =
      subst (λ (q : Me1 × ℕ). Allows (Shows limits) slots i q.0 q.1 (λ n. n) (FoundFillMoves (step slots q.1 0 0 none) q.0)) (λ k. (sym e k, sym at k)) (founding limits slots i a carried p j writes un may lj)

  pub takes_as : (p word : ℕ) → a.writes ≡ true → a.published ≡ false → p < length a.places → place_of a.places p ≡ Free → word ≡ word_place p 0 → Allows (Shows limits) slots i me word (λ n. n) (TakeMoves (step slots word 0 0 none) me)
  takes_as p word writes un lp is at =
      subst (λ (q : Me1 × ℕ). Allows (Shows limits) slots i q.0 q.1 (λ n. n) (TakeMoves (step slots q.1 0 0 none) q.0)) (λ k. (sym e k, sym at k)) (taking limits slots i a carried p writes un lp is)

  pub gives_as : (p word : ℕ) → a.writes ≡ true → p < length a.places → IsTrue (is_held_page (place_of a.places p)) → word ≡ word_place p 0 → Allows (Shows limits) slots i me word (λ n. n) (GiveUpMoves (step slots word 0 0 none) me)
  gives_as p word writes lp held at =
      subst (λ (q : Me1 × ℕ). Allows (Shows limits) slots i q.0 q.1 (λ n. n) (GiveUpMoves (step slots q.1 0 0 none) q.0)) (λ k. (sym e k, sym at k)) (giving limits slots i a carried p writes lp held)

  pub scans_as : (word : ℕ) → a.writes ≡ true → a.published ≡ false → word ≡ 16 + 8 * a.scanned → Allows (Shows limits) slots i me word (λ n. n) (ScanMoves (step slots word 0 0 none) me)
  scans_as word writes un at =
      subst (λ (q : Me1 × ℕ). Allows (Shows limits) slots i q.0 q.1 (λ n. n) (ScanMoves (step slots q.1 0 0 none) q.0)) (λ k. (sym e k, sym at k)) (scanning limits slots i a carried writes un)
