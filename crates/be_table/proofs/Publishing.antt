-- Publishing a version.
use Rattle.std.proofs.Common.{◌≡◌, ◌≢◌, ℕ, zero, suc, ◌+◌, ◌*◌, ◌<◌, ◌≤◌, List, [], ◌∷◌, ◌++◌, length, set, Bool, false, not, ◌&&◌, ◌||◌, Option, Some, refl, sym, ap, ◌∙◌, subst, inl, inr, arith, map, take, slice_index, get_or, IsTrue, length-append, if◌then◌else◌, get_or-set_same, get_or-set_other, length-set}
use Rattle.std.specs.Prelude.{slice_index_or}
use Rattle.std.proofs.lemmas.Bool.{cases_lt}
use Rattle.std.proofs.lemmas.List.{length-map}
use mathlib.Core.Option.{none}
use Rattle.atomic_table.specs.Table.{keeps, step, Allows}
use Rattle.be_core.specs.Machine.{World, Writer, Sound, InTime, has, MayPublish as MayPublishAt, after_publish}
use Rattle.be_core.proofs.Writers.{after_publish-sound}
use Rattle.be_core.proofs.Places.{update-same, test-other}
use Rattle.be_journal.specs.declared.entries.Entry.{Entry}
use Rattle.be_table.specs.declared.writer_state.WriterState.{WriterState}
use Rattle.be_pages.specs.declared.page_pool.Place.{Place}
use Rattle.be_pages.specs.declared.page_pool.Place.TheVariants.{Free, Reserved, Filled, Current, GivenUp, Retired}
use Rattle.be_table.specs.Setting.{Setting as Limits}
use Rattle.be_table.specs.declared.pass.Commit.{Commit}
use Rattle.be_table.specs.declared.pass.Knowledge.{Knowledge}
use Rattle.be_table.specs.declared.pass.Move.{Move}
use Rattle.be_table.specs.declared.pass.Move.TheVariants.{Publish}
use Rattle.be_journal.specs.Journal.{by_pass, replay_from, Agrees}
use Rattle.be_table.specs.History.{AreOfPasses, StartsWith, IsHistory}
use Rattle.be_table.specs.Laws.{AllowsBy, IsPublish}
use Rattle.be_pages.specs.Place.{retired_number, place_of, published_place}
use Rattle.be_table.specs.WriterState.{ShowsPlaces, shows_free, shows_taken, is_current, is_of_next, is_given, retired_with}
use Rattle.be_table.specs.Rule.{alone, Board, entries, nothing, reach_at, page_at, word_place, current_word, known_writer, WordsAgree, IsSoundBoard, ImageIs, Fits, Shows}
use Rattle.be_table.specs.Steps.{pages_from, commit_of, publishes, MayPublish, Published, PublishMoves, NoneRetiredLater, given_of, with_history}
use Rattle.be_table.specs.Reading.{word_of_page}
use Rattle.be_table.specs.Versions.{in_pages, EncodesVolume}
use Rattle.be_table.proofs.Versions.{encodes_same, clipped, take_front, take_all}
use Rattle.be_table.proofs.Histories.{starts_itself, starts_more, by_pass-own, by_pass-other, legal-push, below-push}
use Rattle.be_table.proofs.Frames.{Me1, views_step, entries-append, reach-append, page-append, is_pass, in_time_later, longer_seen, not_writer, pages_else}
use Rattle.be_table.proofs.Traces.{moving, as_me, one_of}
use Rattle.be_table.proofs.Locks.{at_work, held_by, same_some, unheld_by}
use Rattle.be_table.proofs.WriterStates.{place-map}
use Rattle.be_table.proofs.PageStates.{reach_shown, reach_past}
use Rattle.be_table.proofs.Listed.{listed, all_listed, distinct, tested, untested}

at_end : (log : List Commit) (c : Commit) → slice_index_or (log ++ c ∷ []) (length log) nothing ≡ c
at_end [] c = refl
at_end (x ∷ log) c = at_end log c

-- the version page of the newest version
pub last_page : (log : List Commit) (c : Commit) → page_at (log ++ c ∷ []) (length (log ++ c ∷ [])) ≡ c.page
last_page log c =
    let long : length (log ++ c ∷ []) ≡ suc (length log) = length-append log (c ∷ []) ∙ (omega arith) in
    ap (page_at (log ++ c ∷ [])) long ∙ ap (λ (x : Commit). x.page) (at_end log c)

module _ (xs : List Place) (w : World) (s : Sound w) (shown : ShowsPlaces xs w) (count : length xs ≡ w.pages) where
  abbrev given : List ℕ
  given = pages_from is_given 0 xs

  given_at : (q : ℕ) → has given q ≡ is_given (place_of xs q)
  given_at q = listed is_given xs q ∙ elim (cases_lt q (length xs)) [ inl lt ↦ tested is_given xs q lt | inr le ↦ untested is_given xs q le ∙ sym (ap is_given (past_current xs q le)) ]
    where
      past_current : (xs : List Place) (q : ℕ) → length xs ≤ q → place_of xs q ≡ Current
      past_current [] q le = refl
      past_current (x ∷ xs) zero le = absurd (omega arith)
      past_current (x ∷ xs) (suc q) le = past_current xs q (omega arith)

  past_place : (xs : List Place) (q : ℕ) → length xs ≤ q → place_of xs q ≡ Current
  past_place [] q le = refl
  past_place (x ∷ xs) zero le = absurd (omega arith)
  past_place (x ∷ xs) (suc q) le = past_place xs q (omega arith)

  pub shows-publish : ((q : ℕ) → place_of xs q ≢ Reserved) → ShowsPlaces (map (published_place w.current) xs) (after_publish w given)
  shows-publish unreserved = record {
    free = λ p. rw (place-map (published_place w.current) refl xs p) (shown.free p ∙ free (place_of xs p) (unreserved p));
    taken = λ p. rw (place-map (published_place w.current) refl xs p) (taken (place_of xs p));
    retired = λ p. rw (place-map (published_place w.current) refl xs p, given_at p, shown.retired p) (retired (place_of xs p));
  }
    where
      free : (x : Place) → x ≢ Reserved → shows_free x ≡ shows_free (published_place w.current x)
      free Free n = refl
      free Reserved n = absurd (n refl)
      free Filled n = refl
      free Current n = refl
      free GivenUp n = refl
      free (Retired r) n = refl

      taken : (x : Place) → false ≡ shows_taken (published_place w.current x)
      taken Free = refl
      taken Reserved = refl
      taken Filled = refl
      taken Current = refl
      taken GivenUp = refl
      taken (Retired r) = refl

      retired : (x : Place) → (if is_given x then Some w.current else retired_with x) ≡ retired_with (published_place w.current x)
      retired Free = refl
      retired Reserved = refl
      retired Filled = refl
      retired Current = refl
      retired GivenUp = refl
      retired (Retired r) = refl

  -- the pages of the new version
  pub reach_new : ((q : ℕ) → place_of xs q ≢ Reserved) → (q : ℕ) → ((w.reach w.current q && not (has given q)) || w.taken q) ≡ has (pages_from is_of_next 0 xs) q
  reach_new unreserved q = elim (cases_lt q (length xs)) [
    | inl lt ↦ rw (reach_shown xs w s shown count q lt, given_at q, shown.taken q, listed is_of_next xs q, tested is_of_next xs q lt) (kept (place_of xs q) (unreserved q))
    | inr le ↦ rw (reach_past xs w s shown count q le, shown.taken q, past_place xs q le, listed is_of_next xs q, untested is_of_next xs q le) refl
  ]
    where
      kept : (x : Place) → x ≢ Reserved → ((is_current x && not (is_given x)) || shows_taken x) ≡ is_of_next x
      kept Free n = refl
      kept Reserved n = absurd (n refl)
      kept Filled n = refl
      kept Current n = refl
      kept GivenUp n = refl
      kept (Retired r) n = refl

  given_current : (x : Place) → IsTrue (is_given x) → IsTrue (is_current x)
  given_current Free h = absurd (cc)
  given_current Reserved h = absurd (cc)
  given_current Filled h = absurd (cc)
  given_current Current h = absurd (cc)
  given_current GivenUp h = refl
  given_current (Retired r) h = absurd (cc)

  pub given_reached : (q : ℕ) → IsTrue (get_or (map is_given xs) q false) → IsTrue (w.reach w.current q)
  given_reached q h = elim (cases_lt q (length xs)) [
    | inl lt ↦ rw (reach_shown xs w s shown count q lt) (given_current (place_of xs q) (rw (tested is_given xs q lt) at h))
    | inr le ↦ absurd (let e = untested is_given xs q le in cc)
  ]

  pub kept_inside : (q : ℕ) → IsTrue (has (pages_from is_of_next 0 xs) q) → q < length xs
  kept_inside q h = elim (cases_lt q (length xs)) [
    | inl lt ↦ lt
    | inr le ↦ absurd (let e : has (pages_from is_of_next 0 xs) q ≡ false = listed is_of_next xs q ∙ untested is_of_next xs q le in cc)
  ]

-- what an older version encodes
older_encoded : (limits : Limits) (log : List Commit) (c : Commit) (words : ℕ → ℕ → ℕ) (n : ℕ) → n ≤ length log → EncodesVolume (reach_at limits log n) (in_pages words) (page_at log n) (replay_from limits.volume (take n (entries log)))
    → EncodesVolume (reach_at limits (log ++ c ∷ []) n) (in_pages words) (page_at (log ++ c ∷ []) n) (replay_from limits.volume (take n (entries (log ++ c ∷ []))))
older_encoded limits log c words n le h =
    let front : take n (entries (log ++ c ∷ [])) ≡ take n (entries log) = ap (take n) (entries-append log (c ∷ [])) ∙ take_front (entries log) (entries (c ∷ [])) n (let l = length-map log (λ (x : Commit). x.entry) in omega (arith, l, le)) in
    subst (λ (q : List ℕ × ℕ × List Entry). EncodesVolume q.0 (in_pages words) q.1 (replay_from limits.volume q.2)) (λ k. (sym (reach-append limits log (c ∷ []) n le) k, sym (page-append log (c ∷ []) n le) k, sym front k)) h

-- a filled page belongs to the new version
kept_filled : (xs : List Place) (v : ℕ) → v < length xs → place_of xs v ≡ Filled → IsTrue (has (pages_from is_of_next 0 xs) v)
kept_filled xs v lt is = listed is_of_next xs v ∙ tested is_of_next xs v lt ∙ ap is_of_next is

-- the current number is stored
words_publish : (w : World) (page v : ℕ) (ws : List ℕ) (given : List ℕ) (n : ℕ) (h : Writer) → w.writer ≡ Some h → w.passes ≤ 64 → n ≡ current_word (suc w.current) v → WordsAgree w page ws → WordsAgree (after_publish w given) v (set ws 8 n)
words_publish w page v ws given n g held few is h = record {
  size = length-set ws 8 n ∙ h.size;
  lock = get_or-set_other ws 8 0 n 0 (λ e. absurd (omega arith)) ∙ h.lock ∙ rw held refl;
  current = get_or-set_same ws 8 n 0 (let z = h.size in omega arith) ∙ is;
  announced = λ j below. get_or-set_other ws 8 (16 + 8 * j) n 0 (λ e. absurd (omega arith)) ∙ h.announced j below;
  pages = pages_else w.pages w.words ws 8 n (omega arith) h.pages;
  unused = λ j u. get_or-set_other ws 8 j n 0 (λ e. u.2 (omega arith)) ∙ h.unused j u;
}

-- the image of an older version
image_kept : (g : World) (given : List ℕ) (phase : Rattle.be_core.specs.declared.event.Phase.Phase) (image : List ℕ) (len : ℕ) → len ≤ g.current → InTime len phase → ImageIs g phase image → ImageIs (after_publish g given) phase image
image_kept g given phase image len le pin h x n p j e r lt =
    let low : (x ≤ n) × (n ≤ len) = subst (InTime len) e pin in
    let m = test-other n (suc g.current) (λ z. absurd (omega (arith, low.1))) in
    rw m (h x n p j e (rw m at r) lt)

-- no page was retired with a number above the current one
no_later : (a : Knowledge) (g : World) → Sound g → ShowsPlaces a.places g → g.current ≡ length a.seen → NoneRetiredLater a
no_later a g s shown now q = by_place (place_of a.places q) refl
  where
    by_place : (x : Place) → place_of a.places q ≡ x → retired_number x ≤ length a.seen
    by_place Free e = omega arith
    by_place Reserved e = omega arith
    by_place Filled e = omega arith
    by_place Current e = omega arith
    by_place GivenUp e = omega arith
    by_place (Retired r) e = let lt = (s.was_reached q r (shown.retired q ∙ ap retired_with e)).0 in omega arith

module _ (limits : Limits) (slots i : ℕ) (a : Knowledge) (carried : List (ℕ × Option WriterState)) where
  pub publish_by : (e : Entry) (v new : ℕ) → MayPublish limits a e v → new ≡ current_word (length a.seen + 1) v
      → AllowsBy limits slots i (alone a, carried) 8 (λ _. new) (IsPublish a.number v (pages_from is_given 0 a.places)) (λ _. Published e v (step slots 8 new 0 none) (alone a, carried) new)
  publish_by e v new may is s b0 h0 sized at fits =
      let work = at_work limits s b0 i a h0 at may.writes in
      let b : Board = held_by b0 (Some (known_writer a)) in
      let h = work.0 in
      let m = work.1 in
      let g = b.world in
      let given = pages_from is_given 0 a.places in
      let w : World = after_publish g given in
      let c = publishes a e v in
      let commit = commit_of a e v in
      let log = b.log ++ commit ∷ [] in
      let d : Board = record { log = log; world = w; seat_of = b.seat_of } in
      let fa = (h.views i (alone a) at).0.0 in
      let volume : a.limits.volume ≡ limits.volume = ap (λ (l : Limits). l.volume) fa.limits_are in
      let few : g.passes ≤ 64 = rw h.sound.passes h.sound.within.limits.few in
      let version : g.current ≡ length b.log = h.table.version in
      let seen_is : length a.seen ≡ length b.log = ap length m.log in
      let long : length log ≡ suc (length b.log) = length-append b.log (commit ∷ []) ∙ (omega arith) in
      let now : g.current ≡ length a.seen = version ∙ sym seen_is in
      let inside : v < g.pages = omega (arith, may.inside, m.count) in
      let allowed : MayPublishAt g a.number v given = (
        rw (h.sound.commits, now) may.room,
        inside,
        (known_writer a, (refl, refl, may.unpublished)),
        rw (m.shown.taken v) (ap shows_taken may.filled),
        distinct is_given a.places,
        all_listed is_given (λ q. IsTrue (g.reach g.current q)) a.places (given_reached a.places g h.sound.machine m.shown m.count),
      ) in
      let sound : Sound w = after_publish-sound g h.sound.machine a.number v given allowed in
      let page : page_at log (length log) ≡ v = ap (page_at log) long ∙ ap (λ (x : Commit). x.page) (at_end b.log commit) in
      let newest : reach_at limits log (suc (length b.log)) ≡ commit.reach = ap (λ (x : Commit). x.reach) (at_end b.log commit) in
      let journal : entries log ≡ entries a.seen ++ e ∷ [] = entries-append b.log (commit ∷ []) ∙ ap (λ l. entries l ++ e ∷ []) (sym m.log) in
      let whole : take (suc (length b.log)) (entries log) ≡ entries a.seen ++ e ∷ [] = ap (λ k. take k (entries log)) (sym (length-map log (λ (x : Commit). x.entry) ∙ long)) ∙ take_all (entries log) ∙ journal in
      let older = λ (n : ℕ) (le : n ≤ g.current). test-other n (suc g.current) (λ z. absurd (omega arith)) in
      let grown : by_pass a.number (entries log) ≡ a.mine ++ e ∷ [] = ap (by_pass a.number) journal ∙ by_pass-own a.number (entries a.seen) e may.by ∙ ap (λ l. l ++ e ∷ []) fa.own in
      let shown : ShowsPlaces c.places w = subst (λ n. ShowsPlaces (map (published_place n) a.places) w) now (shows-publish a.places g h.sound.machine m.shown m.count may.none_reserved) in
      let grows : c.seen ≡ log = ap (λ l. l ++ commit ∷ []) m.log in
      let fc : Fits limits d i c = record {
        number = fa.number;
        limits_are = fa.limits_are;
        seat_is = fa.seat_is;
        seen = subst (StartsWith log) (sym grows) (starts_itself log);
        mine = grown;
        own = ap (λ l. by_pass a.number (entries l)) grows ∙ grown;
        writes = fa.writes;
        whole = λ _. record { log = grows; writer = refl; turn = m.turn; count = length-map a.places (published_place (length a.seen)) ∙ m.count; shown = shown; size = m.size; words = m.words };
        phase = fa.phase;
        pin = in_time_later (length a.seen) (length c.seen) a.phase (let z = length-append a.seen (commit ∷ []) in omega arith) fa.pin;
        image = image_kept g given a.phase a.image (length a.seen) (omega arith) fa.pin fa.image;
      } in
      let below : e.by < limits.passes = subst (λ n. n < limits.passes) (sym may.by) fa.number in
      let sd : IsSoundBoard limits d = record {
        within = h.sound.within;
        legal = subst (IsHistory limits.volume) (sym journal) (legal-push limits.volume (entries a.seen) e (subst (λ l. IsHistory limits.volume (entries l)) (sym m.log) h.sound.legal) (subst (λ v. Agrees (replay_from v (entries a.seen)) e) volume may.agrees) may.operations);
        by_passes = subst (AreOfPasses limits.passes) (sym journal) (below-push limits.passes (entries a.seen) e (subst (λ l. AreOfPasses limits.passes (entries l)) (sym m.log) h.sound.by_passes) below);
        room = let z = may.room in omega arith;
        page = subst (λ n. n < 4294967296) (sym page) (let z = h.sound.within.limits.few_pages in let y = h.sound.pages in omega arith);
        inside = λ n p le r. elim (cases_lt n (suc (length b.log))) [
          | inl lt ↦ h.sound.inside n p (omega arith) (subst (λ l. IsTrue (has l p)) (reach-append limits b.log (commit ∷ []) n (omega arith)) r)
          | inr past ↦
              let at_new : n ≡ suc (length b.log) = omega arith in
              let z = kept_inside a.places g h.sound.machine m.shown m.count p (subst (λ l. IsTrue (has l p)) (ap (reach_at limits log) at_new ∙ newest) r) in
              let y = h.sound.pages in let x = m.count in omega arith
        ];
        own_pages = λ n le. elim (cases_lt n (suc (length b.log))) [
          | inl lt ↦ subst (λ (q : List ℕ × ℕ). IsTrue (has q.0 q.1)) (λ k. (sym (reach-append limits b.log (commit ∷ []) n (omega arith)) k, sym (page-append b.log (commit ∷ []) n (omega arith)) k)) (h.sound.own_pages n (omega arith))
          | inr past ↦
              let at_new : n ≡ suc (length b.log) = omega arith in
              subst (λ (q : List ℕ × ℕ). IsTrue (has q.0 q.1)) (λ k. (sym (ap (reach_at limits log) at_new ∙ newest) k, sym (ap (page_at log) (at_new ∙ sym long) ∙ page) k)) (kept_filled a.places v may.inside may.filled)
        ];
        pages = h.sound.pages;
        passes = h.sound.passes;
        commits = h.sound.commits;
        writer = λ k q. subst (λ (k : Writer). k.pass < limits.passes) (same_some _ _ q) fa.number;
        reaches = λ n p le. elim (cases_lt n (suc g.current)) [
          | inl lt ↦ rw (test-other n (suc g.current) (λ z. absurd (omega arith))) (h.sound.reaches n p (omega arith) ∙ ap (λ l. has l p) (sym (reach-append limits b.log (commit ∷ []) n (omega arith))))
          | inr past ↦
              let at_new : n ≡ suc g.current = omega arith in
              subst (λ n. w.reach n p ≡ has (reach_at limits log n) p) (sym at_new)
              (ap (λ (f : ℕ → Bool). f p) (update-same g.reach (suc g.current) (λ p. (g.reach g.current p && not (has given p)) || g.taken p)) ∙ reach_new a.places g h.sound.machine m.shown m.count may.none_reserved p ∙ ap (λ l. has l p) (sym (ap (λ k. reach_at limits log (suc k)) version ∙ newest)))
        ];
        machine = sound;
        encoded = λ n le. elim (cases_lt n (suc (length b.log))) [
          | inl lt ↦ rw (test-other n (suc g.current) (λ z. absurd (omega arith))) (older_encoded limits b.log commit (g.image n) n (omega arith) (h.sound.encoded n (omega arith)))
          | inr past ↦
              let at_new : n ≡ suc (length b.log) = omega arith in
              subst (λ n. EncodesVolume (reach_at limits log n) (in_pages (w.image n)) (page_at log n) (replay_from limits.volume (take n (entries log)))) (sym at_new)
              (subst (λ (q : List ℕ × (ℕ → ℕ → ℕ) × ℕ × List Entry). EncodesVolume q.0 (in_pages q.1) q.2 (replay_from limits.volume q.3))
              (λ k. (sym newest k, sym (ap w.image (ap suc (sym version)) ∙ update-same g.image (suc g.current) g.words) k, sym (ap (page_at log) (sym long) ∙ page) k, sym whole k))
              (encodes_same commit.reach (word_of_page a.words) (in_pages g.words) v (replay_from limits.volume (entries a.seen ++ e ∷ []))
              (λ q r.
              let z = kept_inside a.places g h.sound.machine m.shown m.count q r in
              clipped (g.words q) (λ j. slice_index a.words (word_place q j)) (λ j lt. sym (m.words q j (omega (arith, z, m.count)) lt)))
              (subst (λ x. EncodesVolume commit.reach (word_of_page a.words) v (replay_from x (entries a.seen ++ e ∷ []))) volume may.encoded)))
        ];
      } in (
        alone c,
        keeps,
        tt,
        (
          d,
          record {
            table = record {
              words = subst (λ p. WordsAgree w p (set s.words 8 new)) (sym page) (words_publish g (page_at b.log (length b.log)) v s.words given new (known_writer a) refl few (is ∙ ap (λ n. current_word n v) (omega arith)) h.table.words);
              home = h.table.home;
              version = ap suc version ∙ sym long;
            };
            sound = sd;
            views = views_step limits b d s.views i a c h.views at (commit ∷ [], refl)
                (λ j x ne f. record {
                  number = f.number;
                  limits_are = f.limits_are;
                  seat_is = f.seat_is;
                  seen = starts_more b.log x.seen (commit ∷ []) f.seen;
                  mine = ap (by_pass x.number) (entries-append b.log (commit ∷ [])) ∙ by_pass-other x.number (entries b.log) e (λ q. ne (sym q ∙ may.by)) ∙ f.mine;
                  own = f.own;
                  writes = f.writes;
                  whole = λ t. absurd (not_writer b a x ne refl (f.whole t));
                  phase = f.phase;
                  pin = f.pin;
                  image = image_kept g given x.phase x.image (length x.seen) (let z = longer_seen b.log x.seen f.seen in omega arith) f.pin f.image;
                })
                fc;
          },
          unheld_by b0.world (known_writer a) (λ u. IsPublish a.number v given 0 u w) ((h0.views i (alone a) at).0.0.whole may.writes).writer (allowed, refl),
        ),
        (refl, is_pass limits d i c sd fc, no_later a g h.sound.machine m.shown now),
      )

module _ (limits : Limits) (slots i : ℕ) (a : Knowledge) (carried : List (ℕ × Option WriterState)) (me : Me1) (m : me ≡ (alone a, carried)) where
  pub publishes_as : (e : Entry) (v new : ℕ) → MayPublish limits a e v → new ≡ current_word (length a.seen + 1) v → Allows (Shows limits) slots i me 8 (λ _. new) (λ _. PublishMoves e v (step slots 8 new 0 none) me new)
  publishes_as e v new may is =
      as_me limits slots i a carried me 8 (λ _. new) (λ m _. PublishMoves e v (step slots 8 new 0 none) m new) m
      (moving limits slots i a carried 8 (λ _. new) (λ n. Publish a.number v (given_of a)) (IsPublish a.number v (pages_from is_given 0 a.places)) (λ h _. Published e v (step slots 8 new 0 none) (alone (with_history a h), carried) new) (λ n w. Unit {0}) (λ n. refl)
      (λ h. publish_by limits slots i (with_history a h) carried e v new (dated_may h) is) (λ n u w g. (g, tt)) (λ h n r t. one_of a (publishes (with_history a h) e v) h carried r t.0 refl refl))
    where
      dated_may : (h : List Move) → MayPublish limits (with_history a h) e v
      dated_may h = record { writes = may.writes; unpublished = may.unpublished; by = may.by; agrees = may.agrees; operations = may.operations; room = may.room; inside = may.inside; filled = may.filled; none_reserved = may.none_reserved; encoded = may.encoded }
