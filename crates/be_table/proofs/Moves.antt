-- Each step of a reader is its event of the machine, and preserves the rule.
use Rattle.std.proofs.Common.{◌≡◌, ℕ, suc, ◌+◌, ◌-◌, ◌*◌, ◌<◌, ◌≤◌, List, length, set, Option, refl, sym, ap, ◌∙◌, subst, arith, IsTrue, slice_index}
use mathlib.Core.Option.{none}
use Rattle.atomic_table.specs.Table.{keeps, step, Allows}
use Rattle.be_core.specs.declared.event.Phase.{Phase}
use Rattle.be_core.specs.declared.event.Phase.TheVariants.{Idle, Looked, Announced, Pinned}
use Rattle.be_core.specs.Machine.{World, InTime, to, has, phase_after_look, phase_after_announce, phase_after_look_again, after_look, after_announce, after_look_again, after_unpin}
use Rattle.be_core.proofs.Readers.{after_look-sound, after_announce-sound, after_look_again-sound, after_unpin-sound}
use Rattle.be_table.specs.declared.writer_state.WriterState.{WriterState}
use Rattle.be_table.specs.Setting.{Setting as Limits}
use Rattle.be_table.specs.declared.pass.Knowledge.{Knowledge}
use Rattle.be_table.specs.Laws.{AllowsBy, IsLook, IsAnnounce, IsLookAgain, IsRead, IsUnpin}
use Rattle.be_table.specs.declared.pass.Move.TheVariants.{Look, Announce, LookAgain, Unpin}
use Rattle.be_table.specs.Rule.{alone, reach_at, page_at, current_word, HasCurrent, announce_word, word_place, Shows, one_step_on}
use Rattle.be_table.specs.Steps.{looks, announces, pins, unpins, LookReported, Reported, PinnedAt, Unpinned, PinnedRead, LookMoves, AnnounceMoves, LookAgainMoves, UnpinMoves, with_history}
use Rattle.be_table.specs.Trace.{AllRest}
use Rattle.be_table.proofs.Histories.{starts_itself}
use Rattle.be_table.proofs.Traces.{moving, resting, as_me, one_of}
use Rattle.be_table.proofs.Frames.{Me1, views_step, fits_counted, longer_seen, reach-front, is_pass, words_load, words_phase, words_announce, fits_board_phase}

look_pin : (p : Phase) (seen log : ℕ) → seen ≤ log → InTime seen p → InTime log (phase_after_look p log)
look_pin Idle seen log le h = omega arith
look_pin (Looked a) seen log le h = omega arith
look_pin (Announced a) seen log le h = omega arith
look_pin (Pinned a n) seen log le h = (h.0, omega (arith, h.1))

look_word : (p : Phase) (c : ℕ) → announce_word (phase_after_look p c) ≡ announce_word p
look_word Idle c = refl
look_word (Looked a) c = refl
look_word (Announced a) c = refl
look_word (Pinned a n) c = refl

same_pin : (phase : Phase) (c a n : ℕ) → phase_after_look phase c ≡ Pinned a n → phase ≡ Pinned a n
same_pin Idle c a n e = absurd (cc)
same_pin (Looked b) c a n e = absurd (cc)
same_pin (Announced b) c a n e = absurd (cc)
same_pin (Pinned b m) c a n e = e

pin_number : (a n x m : ℕ) → Pinned a n ≡ Pinned x m → n ≡ m
pin_number a n x m e = cc

module _ (limits : Limits) (slots i : ℕ) (a : Knowledge) (carried : List (ℕ × Option WriterState)) where
  pub look_by : AllowsBy limits slots i (alone a, carried) 8 (λ n. n) (IsLook a.number) (LookReported (step slots 8 0 0 none) (alone a, carried))
  look_by s b h sized at fits =
      let t = h.table in
      let fa = (h.views i (alone a) at).0.0 in
      let k = a.number in
      let q = phase_after_look a.phase (length b.log) in
      let below : k < b.world.passes = rw h.sound.passes fa.number in
      let pq : phase_after_look (b.world.phases k) b.world.current ≡ q = (λ j. phase_after_look (fa.phase j) (t.version j)) in
      let r = fits_board_phase limits s b i a (phase_after_look (b.world.phases k) b.world.current) q b.log a.image (set s.words 8 (slice_index s.words 8)) pq h at
      (after_look-sound b.world h.sound.machine k below)
      (words_phase b.world (page_at b.log (length b.log)) (set s.words 8 (slice_index s.words 8)) (words_load b.world (page_at b.log (length b.log)) s.words t.words 8) k (phase_after_look (b.world.phases k) b.world.current) (look_word (b.world.phases k) b.world.current))
      (look_pin a.phase (length a.seen) (length b.log) (longer_seen b.log a.seen fa.seen) fa.pin)
      (starts_itself b.log) fa.mine (λ _. refl) (λ x n p i e. fa.image x n p i (same_pin a.phase (length b.log) x n e)) in (
        alone (looks a b.log),
        keeps,
        tt,
        (record b { world = after_look b.world k }, r.0, (below, refl, (page_at b.log (length b.log), t.words.current, h.sound.page))),
        (b.log, (refl, fa.seen, is_pass limits _ i (looks a b.log) r.0.sound r.1, t.words.current ∙ ap (λ n. current_word n (page_at b.log (length b.log))) t.version, h.sound.page)),
      )

  pub announce_by : (x : ℕ) → a.phase ≡ Looked x → AllowsBy limits slots i (alone a, carried) (16 + 8 * a.number) (λ _. x + 1) (IsAnnounce a.number) (λ _. Reported (step slots (16 + 8 * a.number) (x + 1) 0 none) (alone a, carried) (x + 1))
  announce_by x is s b h sized at fits =
      let t = h.table in
      let fa = (h.views i (alone a) at).0.0 in
      let k = a.number in
      let low : x ≤ length a.seen = subst (InTime (length a.seen)) is fa.pin in
      let below : k < b.world.passes = rw h.sound.passes fa.number in
      let few : b.world.passes ≤ 64 = rw h.sound.passes h.sound.within.limits.few in
      let looked : b.world.phases k ≡ Looked x = fa.phase ∙ is in
      let pq : phase_after_announce (b.world.phases k) ≡ Announced x = ap phase_after_announce looked in
      let one : x + 1 ≡ suc x = omega arith in
      let r = fits_board_phase limits s b i a (phase_after_announce (b.world.phases k)) (Announced x) a.seen a.image (set s.words (16 + 8 * k) (x + 1)) pq h at
      (after_announce-sound b.world h.sound.machine k (below, (x, looked)))
      (words_announce b.world (page_at b.log (length b.log)) s.words t.words k (x + 1) (phase_after_announce (b.world.phases k)) below few (one ∙ ap announce_word (sym pq)))
      low fa.seen fa.own (λ w. (fa.whole w).log) (λ y n p i e. absurd (cc)) in
      let back : x + 1 - 1 ≡ x = omega arith in
      (alone (announces a x), keeps, tt, (record b { world = after_announce b.world k }, r.0, ((below, (x, looked)), refl)), ap (λ (y : ℕ). (alone (announces a y), carried)) (sym back))

  pub look_again_by : (x : ℕ) → a.phase ≡ Announced x → AllowsBy limits slots i (alone a, carried) 8 (λ n. n) (IsLookAgain a.number) (PinnedAt (step slots 8 0 0 none) (alone a, carried))
  look_again_by x is s b h sized at fits =
      let t = h.table in
      let fa = (h.views i (alone a) at).0.0 in
      let k = a.number in
      let low : x ≤ length a.seen = subst (InTime (length a.seen)) is fa.pin in
      let more = longer_seen b.log a.seen fa.seen in
      let below : k < b.world.passes = rw h.sound.passes fa.number in
      let announced : b.world.phases k ≡ Announced x = fa.phase ∙ is in
      let pq : phase_after_look_again (b.world.phases k) b.world.current ≡ Pinned x (length b.log) = (λ j. phase_after_look_again (announced j) (t.version j)) in
      let c = pins a x b.log s.words in
      let r = fits_board_phase limits s b i a (phase_after_look_again (b.world.phases k) b.world.current) (Pinned x (length b.log)) b.log s.words (set s.words 8 (slice_index s.words 8)) pq h at
      (after_look_again-sound b.world h.sound.machine k (below, (x, announced)))
      (words_phase b.world (page_at b.log (length b.log)) (set s.words 8 (slice_index s.words 8)) (words_load b.world (page_at b.log (length b.log)) s.words t.words 8) k (phase_after_look_again (b.world.phases k) b.world.current) (ap announce_word pq ∙ ap announce_word (sym announced)))
      (omega arith, omega arith) (starts_itself b.log) fa.mine (λ _. refl)
      (λ y n p j e r lt.
      let at_now : n ≡ b.world.current = sym (pin_number x (length b.log) y n e) ∙ sym t.version in
      let now : IsTrue (b.world.reach b.world.current p) = subst (λ m. IsTrue (b.world.reach m p)) at_now r in
      let inside : p < b.world.pages = rw h.sound.pages (h.sound.inside b.world.current p (omega (arith, t.version)) (subst IsTrue (h.sound.reaches b.world.current p (omega arith)) now)) in
      t.words.pages p j inside lt ∙ h.sound.machine.now p j now ∙ ap (λ m. b.world.image m p j) (sym at_now)) in (
        alone c,
        keeps,
        tt,
        (record b { world = after_look_again b.world k }, r.0, ((below, (x, announced)), refl, (page_at b.log (length b.log), t.words.current, h.sound.page))),
        (b.log, x, s.words, (is, refl, fa.seen, is_pass limits _ i c r.0.sound r.1, t.words.current ∙ ap (λ n. current_word n (page_at b.log (length b.log))) t.version, h.sound.page)),
      )

  pub unpin_by : (x n : ℕ) → a.phase ≡ Pinned x n → AllowsBy limits slots i (alone a, carried) (16 + 8 * a.number) (λ _. 0) (IsUnpin a.number) (λ _. Unpinned (step slots (16 + 8 * a.number) 0 0 none) (alone a, carried) 0)
  unpin_by x n is s b h sized at fits =
      let t = h.table in
      let fa = (h.views i (alone a) at).0.0 in
      let k = a.number in
      let below : k < b.world.passes = rw h.sound.passes fa.number in
      let few : b.world.passes ≤ 64 = rw h.sound.passes h.sound.within.limits.few in
      let r = fits_board_phase limits s b i a Idle Idle a.seen a.image (set s.words (16 + 8 * k) 0) refl h at
      (after_unpin-sound b.world h.sound.machine k (below, (x, n, fa.phase ∙ is)))
      (words_announce b.world (page_at b.log (length b.log)) s.words t.words k 0 Idle below few refl)
      tt fa.seen fa.own (λ w. (fa.whole w).log) (λ y n p i e. absurd (cc)) in
      (alone (unpins a), keeps, tt, (record b { world = after_unpin b.world k }, r.0, ((below, (x, n, fa.phase ∙ is)), refl)), refl)

module _ (limits : Limits) (slots i : ℕ) (a : Knowledge) (carried : List (ℕ × Option WriterState)) where
  -- a load of a word of a pinned version finds the word in its image
  pub pinned_by : (x n p j : ℕ) → a.phase ≡ Pinned x n → IsTrue (has (reach_at a.limits a.seen n) p) → j < 512 → AllowsBy limits slots i (alone a, carried) (word_place p j) (λ n. n) (IsRead a.number n p j) (PinnedRead (step slots (word_place p j) 0 0 none) (alone a, carried))
  pinned_by x n p j is reached lt s b h sized at fits =
      let t = h.table in
      let fa = (h.views i (alone a) at).0.0 in
      let low : (x ≤ n) × (n ≤ length a.seen) = subst (InTime (length a.seen)) is fa.pin in
      let more = longer_seen b.log a.seen fa.seen in
      let here : IsTrue (has (reach_at limits b.log n) p) = subst (λ l. IsTrue (has l p)) (sym (reach-front limits b.log a.seen fa.seen n low.1)) (subst (λ (l : Limits). IsTrue (has (reach_at l a.seen n) p)) fa.limits_are reached) in
      let inside : p < b.world.pages = rw h.sound.pages (h.sound.inside n p (omega (arith, low.1)) here) in
      let r : IsTrue (b.world.reach n p) = subst IsTrue (sym (h.sound.reaches n p (omega (arith, low.1, t.version)))) here in
      let found : slice_index s.words (word_place p j) ≡ b.world.image n p j = t.words.pages p j inside lt ∙ (h.sound.machine.pinned a.number x n p (fa.phase ∙ is) r).3 j in (
        alone (one_step_on a),
        keeps,
        tt,
        (
          b,
          record {
            table = record { words = words_load b.world (page_at b.log (length b.log)) s.words t.words (word_place p j); home = t.home; version = t.version };
            sound = h.sound;
            views = views_step limits b b s.views i a (one_step_on a) h.views at (starts_itself b.log) (λ j x _ f. f) (fits_counted limits b i a fa);
          },
          ((rw h.sound.passes fa.number, inside, lt, (x, n, fa.phase ∙ is, r)), refl, found),
        ),
        (refl, found ∙ sym (fa.image x n p j is r lt)),
      )

module _ (limits : Limits) (slots i : ℕ) (a : Knowledge) (carried : List (ℕ × Option WriterState)) (me : Me1) (e : me ≡ (alone a, carried)) where
  pub looks_as : Allows (Shows limits) slots i me 8 (λ n. n) (LookMoves (step slots 8 0 0 none) me)
  looks_as = as_me limits slots i a carried me 8 (λ n. n) (λ m. LookMoves (step slots 8 0 0 none) m) e
      (moving limits slots i a carried 8 (λ n. n) (λ n. Look a.number) (IsLook a.number) (λ h. LookReported (step slots 8 0 0 none) (alone (with_history a h), carried)) HasCurrent (λ n. refl)
      (λ h. look_by limits slots i (with_history a h) carried)
      (λ n v w x. ((x.0, x.1), (x.2.0, x.2.1 ∙ ap (λ (u : World). current_word u.current x.2.0) (sym x.1), x.2.2)))
      (λ h n r x. one_of a (looks (with_history a h) x.0) h carried r x.1.0 refl refl))

  pub announces_as : (x word new : ℕ) → a.phase ≡ Looked x → word ≡ 16 + 8 * a.number → new ≡ x + 1 → Allows (Shows limits) slots i me word (λ _. new) (λ _. AnnounceMoves (step slots word new 0 none) me new)
  announces_as x word new is at to =
      subst (λ (p : Me1 × ℕ × ℕ). Allows (Shows limits) slots i p.0 p.1 (λ _. p.2) (λ _. AnnounceMoves (step slots p.1 p.2 0 none) p.0 p.2)) (λ k. (sym e k, sym at k, sym to k))
      (moving limits slots i a carried (16 + 8 * a.number) (λ _. x + 1) (λ n. Announce a.number) (IsAnnounce a.number) (λ h _. Reported (step slots (16 + 8 * a.number) (x + 1) 0 none) (alone (with_history a h), carried) (x + 1)) (λ n w. Unit {0}) (λ n. refl)
      (λ h. announce_by limits slots i (with_history a h) carried x is) (λ n v w g. (g, tt)) (λ h n r t. one_of a (announces (with_history a h) (x + 1 - 1)) h carried r t refl refl))

  pub looks_again_as : (x : ℕ) → a.phase ≡ Announced x → Allows (Shows limits) slots i me 8 (λ n. n) (LookAgainMoves (step slots 8 0 0 none) me)
  looks_again_as x is = as_me limits slots i a carried me 8 (λ n. n) (λ m. LookAgainMoves (step slots 8 0 0 none) m) e
      (moving limits slots i a carried 8 (λ n. n) (λ n. LookAgain a.number) (IsLookAgain a.number) (λ h. PinnedAt (step slots 8 0 0 none) (alone (with_history a h), carried)) HasCurrent (λ n. refl)
      (λ h. look_again_by limits slots i (with_history a h) carried x is)
      (λ n v w x. ((x.0, x.1), (x.2.0, x.2.1 ∙ ap (λ (u : World). current_word u.current x.2.0) (sym x.1), x.2.2)))
      (λ h n r t. one_of a (pins (with_history a h) t.1 t.0 t.2) h carried r t.3.1 refl refl))

  pub unpins_as : (x n word : ℕ) → a.phase ≡ Pinned x n → word ≡ 16 + 8 * a.number → Allows (Shows limits) slots i me word (λ _. 0) (λ _. UnpinMoves (step slots word 0 0 none) me 0)
  unpins_as x n word is at =
      subst (λ (p : Me1 × ℕ). Allows (Shows limits) slots i p.0 p.1 (λ _. 0) (λ _. UnpinMoves (step slots p.1 0 0 none) p.0 0)) (λ k. (sym e k, sym at k))
      (moving limits slots i a carried (16 + 8 * a.number) (λ _. 0) (λ n. Unpin a.number) (IsUnpin a.number) (λ h _. Unpinned (step slots (16 + 8 * a.number) 0 0 none) (alone (with_history a h), carried) 0) (λ n w. Unit {0}) (λ n. refl)
      (λ h. unpin_by limits slots i (with_history a h) carried x n is) (λ n v w g. (g, tt)) (λ h n r t. one_of a (unpins (with_history a h)) h carried r t refl refl))

  pub pinned_as : (x n p j word : ℕ) → a.phase ≡ Pinned x n → IsTrue (has (reach_at a.limits a.seen n) p) → j < 512 → word ≡ word_place p j → Allows (Shows limits) slots i me word (λ n. n) (PinnedRead (step slots word 0 0 none) me)
  pinned_as x n p j word is r lt at =
      subst (λ (q : Me1 × ℕ). Allows (Shows limits) slots i q.0 q.1 (λ n. n) (PinnedRead (step slots q.1 0 0 none) q.0)) (λ k. (sym e k, sym at k))
      (resting limits slots i (alone a) carried (word_place p j) (λ n. n) (IsRead a.number n p j) (PinnedRead (step slots (word_place p j) 0 0 none) (alone a, carried)) (pinned_by limits slots i a carried x n p j is r lt)
      (λ m v w g. g.1) (λ m q t l rest. subst (AllRest l) (sym (ap (λ (m : Me1). m.0.passes) t.0)) rest))
