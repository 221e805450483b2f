-- What a step leaves unchanged: other seats, other words, other versions.
use Rattle.std.proofs.Common.{◌≡◌, ◌≢◌, ℕ, zero, suc, ◌+◌, ◌*◌, ◌<◌, ◌≤◌, eqb, ne_eqb, List, [], ◌∷◌, ◌++◌, length, set, true, false, Option, Some, None, refl, sym, ap, ◌∙◌, subst, ⊎_elim, inl, inr, arith, length-append, append_assoc, take, IsTrue, slice_index}
use Rattle.be_table.specs.declared.pass.View.{View}
use Rattle.std.specs.Prelude.{slice_index_or}
use Rattle.std.proofs.lemmas.Bool.Decides.{eqb_tells}
use Rattle.std.proofs.lemmas.List.{get_or-set_same, get_or-set_other, set-get_or, length-set, length-map}
use mathlib.Core.Option.{some}
use lib.ListN.{get_elem?}
use Rattle.atomic_table.specs.Table.{State, Me}
use Rattle.atomic_table.proofs.Lists.{at_set}
use Rattle.be_core.specs.declared.event.Phase.{Phase}
use Rattle.be_core.specs.declared.event.Phase.TheVariants.{Idle, Looked, Announced, Pinned}
use Rattle.be_core.specs.Machine.{World, Writer, Sound, InTime, update, to, has, after_fill}
use Rattle.be_core.proofs.Places.{update-same, test-other}
use Rattle.be_table.specs.declared.writer_state.WriterState.{WriterState}
use Rattle.be_table.specs.Setting.{Setting as Limits, IsSetting}
use Rattle.be_table.specs.declared.pass.Commit.{Commit}
use Rattle.be_table.specs.declared.pass.Knowledge.{Knowledge}
use Rattle.be_journal.specs.declared.entries.Entry.{Entry}
use Rattle.be_journal.specs.Journal.{by_pass, replay_from}
use Rattle.be_volume.specs.Volume.{State as Volume}
use Rattle.be_table.specs.History.{StartsWith, AreOfPasses, IsHistory}
use Rattle.be_table.specs.Rule.{alone, ViewFits, AreFronts, Board, entries, nothing, reach_at, page_at, lock_word, announce_word, word_place, PagesAgree, is_writer, known_writer, WordsAgree, IsHome, ReachesAgree, AreInside, OwnPages, IsSoundBoard, Holds, ImageIs, Fits, AllFit, ViewsFit, FitsBoard, one_step_on}
use Rattle.be_table.specs.Steps.{IsPass, finds_held}
use Rattle.be_table.specs.Reading.{word_of_page}
use Rattle.be_table.specs.Versions.{in_pages, CanEncode, CanEncodeEach, EncodesVolume}
use Rattle.be_table.proofs.Histories.{legal-front, below-front, starts_itself}
use Rattle.be_table.proofs.Versions.{encodes_same, clipped, take_front}

abbrev pub Table : Type 0
Table = State (Option WriterState) View

abbrev pub Me1 : Type 0
Me1 = Me (Option WriterState) View

pub all_fit : (limits : Limits) (b d : Board) (seat : ℕ) (v : List Knowledge) → ((x : Knowledge) → Fits limits b seat x → Fits limits d seat x) → AllFit limits b seat v → AllFit limits d seat v
all_fit limits b d seat [] f h = tt
all_fit limits b d seat (a ∷ v) f h = (f a h.0, h.1, all_fit limits b d seat v f h.2)

-- a journal that has grown begins with what it began with before it grew
pub starts_before : {A : Type 0} (log mid seen : List A) → StartsWith log mid → StartsWith mid seen → StartsWith log seen
starts_before log mid seen s t = (t.0 ++ s.0, s.1 ∙ ap (λ l. l ++ s.0) t.1 ∙ append_assoc seen t.0 s.0)

pub fronts_grow : (log more : List Commit) (fronts : List (List Commit)) → StartsWith more log → AreFronts log fronts → AreFronts more fronts
fronts_grow log more [] grows h = tt
fronts_grow log more (f ∷ fs) grows h = (starts_before more log f grows h.0, fronts_grow log more fs grows h.1)

-- two seats have different passes
pub apart : (limits : Limits) (b : Board) (i j : ℕ) (a x : Knowledge) → j ≢ i → Fits limits b i a → Fits limits b j x → x.number ≢ a.number
apart limits b i j a x ne fa fx e = ne (sym fx.seat_is ∙ (ap b.seat_of e ∙ fa.seat_is))

-- one seat's view changes from v to w, while the board changes from b to d
pub views_change : (limits : Limits) (b d : Board) (views : List View) (i : ℕ) (v w : View) → ViewsFit limits b views → get_elem? views i ≡ some v → StartsWith d.log b.log
    → ((j : ℕ) (x : Knowledge) → j ≢ i → Fits limits b j x → Fits limits d j x) → (ViewFits limits b i v → ViewFits limits d i w) → ViewsFit limits d (set views i w)
views_change limits b d views i v w h at grows others mine j u e =
    ⊎_elim
    (λ (t : (j ≡ i) × (w ≡ u)). subst (λ (p : ℕ × View). ViewFits limits d p.0 p.1) (λ k. (sym t.0 k, t.1 k)) (mine (h i v at)))
    (λ (t : (j ≢ i) × (get_elem? views j ≡ some u)). (all_fit limits b d j u.passes (λ x fx. others j x t.0 fx) (h j u t.1).0, fronts_grow b.log d.log u.fronts grows (h j u t.1).1))
    (at_set views i j w u e)

-- one seat's pass changes from a to c
pub views_step : (limits : Limits) (b d : Board) (views : List View) (i : ℕ) (a c : Knowledge) → ViewsFit limits b views → get_elem? views i ≡ some (alone a) → StartsWith d.log b.log
    → ((j : ℕ) (x : Knowledge) → x.number ≢ a.number → Fits limits b j x → Fits limits d j x) → Fits limits d i c → ViewsFit limits d (set views i (alone c))
views_step limits b d views i a c h at grows others mine =
    views_change limits b d views i (alone a) (alone c) h at grows (λ j x ne fx. others j x (apart limits b i j a x ne (h i (alone a) at).0.0 fx) fx) (λ f. ((mine, tt, tt), tt))

pub fits_counted : (limits : Limits) (b : Board) (i : ℕ) (a : Knowledge) → Fits limits b i a → Fits limits b i (one_step_on a)
fits_counted limits b i a f = record { number = f.number; limits_are = f.limits_are; seat_is = f.seat_is; seen = f.seen; mine = f.mine; own = f.own; writes = f.writes; whole = λ t. let h = f.whole t in record { log = h.log; writer = h.writer; turn = h.turn; count = h.count; shown = h.shown; size = h.size; words = h.words }; phase = f.phase; pin = f.pin; image = f.image }

pub fits_late : (limits : Limits) (b : Board) (i n : ℕ) (a : Knowledge) → Fits limits b i a → Fits limits b i (finds_held a n)
fits_late limits b i n a f = record { number = f.number; limits_are = f.limits_are; seat_is = f.seat_is; seen = f.seen; mine = f.mine; own = f.own; writes = f.writes; whole = λ t. let h = f.whole t in record { log = h.log; writer = h.writer; turn = h.turn; count = h.count; shown = h.shown; size = h.size; words = h.words }; phase = f.phase; pin = f.pin; image = f.image }

-- ## Journals with versions

pub longer_seen : {A : Type 0} (log seen : List A) → StartsWith log seen → length seen ≤ length log
longer_seen log seen s = let e = ap length s.1 in omega (arith, length-append seen s.0)

pub entries-append : (log more : List Commit) → entries (log ++ more) ≡ entries log ++ entries more
entries-append [] more = refl
entries-append (c ∷ log) more = ap (λ l. c.entry ∷ l) (entries-append log more)

pub entries-start : (log seen : List Commit) → StartsWith log seen → StartsWith (entries log) (entries seen)
entries-start log seen s = (entries s.0, ap entries s.1 ∙ entries-append seen s.0)

at_front : (seen more : List Commit) (n : ℕ) → n < length seen → slice_index_or (seen ++ more) n nothing ≡ slice_index_or seen n nothing
at_front [] more n lt = absurd (omega arith)
at_front (c ∷ seen) more zero lt = refl
at_front (c ∷ seen) more (suc n) lt = at_front seen more n (omega arith)

pub reach-append : (limits : Limits) (seen more : List Commit) (n : ℕ) → n ≤ length seen → reach_at limits (seen ++ more) n ≡ reach_at limits seen n
reach-append limits seen more zero le = refl
reach-append limits seen more (suc n) le = ap (λ (c : Commit). c.reach) (at_front seen more n (omega arith))

pub reach-front : (limits : Limits) (log seen : List Commit) → StartsWith log seen → (n : ℕ) → n ≤ length seen → reach_at limits log n ≡ reach_at limits seen n
reach-front limits log seen s n le = ap (λ l. reach_at limits l n) s.1 ∙ reach-append limits seen s.0 n le

pub page-append : (seen more : List Commit) (n : ℕ) → n ≤ length seen → page_at (seen ++ more) n ≡ page_at seen n
page-append seen more zero le = refl
page-append seen more (suc n) le = ap (λ (c : Commit). c.page) (at_front seen more n (omega arith))

pub page-front : (log seen : List Commit) → StartsWith log seen → (n : ℕ) → n ≤ length seen → page_at log n ≡ page_at seen n
page-front log seen s n le = ap (λ l. page_at l n) s.1 ∙ page-append seen s.0 n le

inside-front : (limits : Limits) (log seen : List Commit) → StartsWith log seen → AreInside limits log → AreInside limits seen
inside-front limits log seen s h n p le r = h n p (let l = longer_seen log seen s in omega arith) (subst (λ l. IsTrue (has l p)) (sym (reach-front limits log seen s n le)) r)

-- what holds for the journal also holds at each version that the pass has seen
encoded_front : (limits : Limits) (log seen : List Commit) (words : ℕ → ℕ → ℕ) → StartsWith log seen → (n : ℕ) → n ≤ length seen → EncodesVolume (reach_at limits log n) words (page_at log n) (replay_from limits.volume (take n (entries log)))
    → EncodesVolume (reach_at limits seen n) words (page_at seen n) (replay_from limits.volume (take n (entries seen)))
encoded_front limits log seen words s n le h =
    let more = entries-start log seen s in
    let front : take n (entries log) ≡ take n (entries seen) = ap (take n) more.1 ∙ take_front (entries seen) more.0 n (let l = length-map seen (λ (c : Commit). c.entry) in omega (arith, l, le)) in
    subst (λ (q : List ℕ × ℕ × List Entry). EncodesVolume q.0 words q.1 (replay_from limits.volume q.2)) (λ k. (reach-front limits log seen s n le k, page-front log seen s n le k, front k)) h

-- the image of a pinned version encodes the volume
pinned_encoded : (limits : Limits) (b : Board) (i : ℕ) (a : Knowledge) → IsSoundBoard limits b → Fits limits b i a → (x n : ℕ) → a.phase ≡ Pinned x n → EncodesVolume (reach_at limits a.seen n) (word_of_page a.image) (page_at a.seen n) (replay_from limits.volume (take n (entries a.seen)))
pinned_encoded limits b i a s f x n e =
    let low : (x ≤ n) × (n ≤ length a.seen) = subst (InTime (length a.seen)) e f.pin in
    let late : (x ≤ n) × (n ≤ b.world.current) = subst (InTime b.world.current) (f.phase ∙ e) (s.machine.in_time a.number) in
    let l = longer_seen b.log a.seen f.seen in
    encoded_front limits b.log a.seen (word_of_page a.image) f.seen n low.1
    (encodes_same (reach_at limits b.log n) (in_pages (b.world.image n)) (word_of_page a.image) (page_at b.log n) (replay_from limits.volume (take n (entries b.log)))
    (λ q r. clipped (λ j. slice_index a.image (word_place q j)) (b.world.image n q) (λ j lt. f.image x n q j e (subst IsTrue (sym (s.reaches n q late.1)) r) lt))
    (s.encoded n (omega (arith, low.1, l))))

-- the pages can encode the volume after each entry, and therefore after each entry of a prefix of
-- the journal
pub log_encoded : (limits : Limits) (b : Board) → IsSoundBoard limits b → CanEncodeEach limits.pages limits.volume (entries b.log)
unfolding CanEncodeEach
log_encoded limits b s = λ n lt.
    let low : suc n ≤ length b.log = (let l = length-map b.log (λ (c : Commit). c.entry) in omega (arith, l, lt)) in record {
      used = reach_at limits b.log (suc n);
      words = b.world.image (suc n);
      page = page_at b.log (suc n);
      encoded = s.encoded (suc n) low;
      inside = λ p r. s.inside (suc n) p low r;
    }

pub encoded_before : (pages : ℕ) (volume : Volume) (log seen : List Entry) → StartsWith log seen → CanEncodeEach pages volume log → CanEncodeEach pages volume seen
unfolding CanEncodeEach
encoded_before pages volume log seen s all = λ n lt.
    let front : take (suc n) log ≡ take (suc n) seen = ap (take (suc n)) s.1 ∙ take_front seen s.0 (suc n) (omega (arith, lt)) in
    subst (λ (es : List Entry). CanEncode pages (replay_from volume es)) front (all n (let l = longer_seen log seen s in omega (arith, l, lt)))

pub is_pass : (limits : Limits) (b : Board) (i : ℕ) (a : Knowledge) → IsSoundBoard limits b → Fits limits b i a → IsPass a
is_pass limits b i a s f = record {
  within = subst IsSetting (sym f.limits_are) s.within;
  legal = subst (λ (l : Limits). IsHistory l.volume (entries a.seen)) (sym f.limits_are) (legal-front limits.volume (entries b.log) (entries a.seen) (entries-start b.log a.seen f.seen) s.legal);
  number_below = subst (λ (l : Limits). a.number < l.passes) (sym f.limits_are) f.number;
  by_passes = subst (λ (l : Limits). AreOfPasses l.passes (entries a.seen)) (sym f.limits_are) (below-front limits.passes (entries b.log) (entries a.seen) (entries-start b.log a.seen f.seen) s.by_passes);
  room = subst (λ (l : Limits). length a.seen ≤ l.commits) (sym f.limits_are) (let w = s.room in let l = longer_seen b.log a.seen f.seen in omega arith);
  inside = subst (λ (l : Limits). AreInside l a.seen) (sym f.limits_are) (inside-front limits b.log a.seen f.seen s.inside);
  own_pages = subst (λ (l : Limits). OwnPages l a.seen) (sym f.limits_are)
      (λ n le. subst (λ (q : List ℕ × ℕ). IsTrue (has q.0 q.1)) (λ k. (reach-front limits b.log a.seen f.seen n le k, page-front b.log a.seen f.seen n le k)) (s.own_pages n (let l = longer_seen b.log a.seen f.seen in omega arith)));
  volumes = subst (λ (l : Limits). CanEncodeEach l.pages l.volume (entries a.seen)) (sym f.limits_are)
      (encoded_before limits.pages limits.volume (entries b.log) (entries a.seen) (entries-start b.log a.seen f.seen) (log_encoded limits b s));
  pin = f.pin;
  mine = f.own;
  encoded = λ x n e. subst (λ (l : Limits). EncodesVolume (reach_at l a.seen n) (word_of_page a.image) (page_at a.seen n) (replay_from l.volume (take n (entries a.seen)))) (sym f.limits_are) (pinned_encoded limits b i a s f x n e);
}

pub in_time_later : (c d : ℕ) (p : Phase) → c ≤ d → InTime c p → InTime d p
in_time_later c d Idle le h = tt
in_time_later c d (Looked a) le h = omega arith
in_time_later c d (Announced a) le h = omega arith
in_time_later c d (Pinned a n) le h = (h.0, omega (arith, h.1))

-- ## The words agree with the machine

pub pages_else : (pages : ℕ) (words : ℕ → ℕ → ℕ) (ws : List ℕ) (k n : ℕ) → k < 528 → PagesAgree pages words ws → PagesAgree pages words (set ws k n)
pages_else pages words ws k n low h p i a b = get_or-set_other ws k (word_place p i) n 0 (λ e. absurd (omega arith)) ∙ h p i a b

pub same_place : (p i q j : ℕ) → i < 512 → j < 512 → word_place p i ≡ word_place q j → (p ≡ q) × (i ≡ j)
same_place p i q j a b e = (omega arith, omega arith)

-- a word of a page is stored
pub pages_fill : (pages : ℕ) (words : ℕ → ℕ → ℕ) (ws : List ℕ) (p i x : ℕ) → length ws ≡ 528 + 512 * pages → p < pages → i < 512 → PagesAgree pages words ws → PagesAgree pages (update words p (update (words p) i x)) (set ws (word_place p i) x)
pages_fill pages words ws p i x size lp li h q j b c = elim (eqb_tells q p) [
  | inl y ↦ rw (y.0, y.1) (elim (eqb_tells j i) [
    | inl z ↦ rw (z.0, z.1) (get_or-set_same ws (word_place p i) x 0 (omega arith))
    | inr m ↦ rw m.0 (get_or-set_other ws (word_place p i) (word_place p j) x 0 (λ e. m.1 (sym (same_place p i p j li c (sym e)).1)) ∙ h p j lp c)
  ])
  | inr n ↦ rw n.0 (get_or-set_other ws (word_place p i) (word_place q j) x 0 (λ e. n.1 (sym (same_place p i q j li c (sym e)).0)) ∙ h q j b c)
]

module _ (w : World) (page : ℕ) (ws : List ℕ) (h : WordsAgree w page ws) where
  -- a load leaves the words unchanged
  pub words_load : (i : ℕ) → WordsAgree w page (set ws i (slice_index ws i))
  words_load i = subst (WordsAgree w page) (sym (set-get_or ws i 0)) h

  -- a phase changes, but no reader slot does
  pub words_phase : (k : ℕ) (p : Phase) → announce_word p ≡ announce_word (w.phases k) → WordsAgree (to w k p) page ws
  words_phase k p e = record {
    size = h.size;
    lock = h.lock;
    current = h.current;
    announced = λ j lt. elim (eqb_tells j k) [ inl y ↦ rw (y.0) (h.announced j lt ∙ ap (λ n. announce_word (w.phases n)) y.1 ∙ sym e) | inr n ↦ rw n.0 (h.announced j lt) ];
    pages = h.pages;
    unused = h.unused;
  }

  -- a reader slot is stored
  pub words_announce : (k n : ℕ) (p : Phase) → k < w.passes → w.passes ≤ 64 → n ≡ announce_word p → WordsAgree (to w k p) page (set ws (16 + 8 * k) n)
  words_announce k n p lt few is = record {
    size = length-set ws (16 + 8 * k) n ∙ h.size;
    lock = get_or-set_other ws (16 + 8 * k) 0 n 0 (λ e. absurd (omega arith)) ∙ h.lock;
    current = get_or-set_other ws (16 + 8 * k) 8 n 0 (λ e. absurd (omega arith)) ∙ h.current;
    announced = λ j below. elim (eqb_tells j k) [
      | inl y ↦ rw (y.0, y.1) (get_or-set_same ws (16 + 8 * k) n 0 (let z = h.size in omega arith) ∙ is)
      | inr m ↦ rw m.0 (get_or-set_other ws (16 + 8 * k) (16 + 8 * j) n 0 (λ e. m.1 (omega arith)) ∙ h.announced j below)
    ];
    pages = pages_else w.pages w.words ws (16 + 8 * k) n (omega arith) h.pages;
    unused = λ j u. get_or-set_other ws (16 + 8 * k) j n 0 (λ e. u.3 k lt (omega arith)) ∙ h.unused j u;
  }

  -- the lock word is stored
  pub words_lock : (n : ℕ) (o : Option Writer) → w.passes ≤ 64 → n ≡ lock_word o → WordsAgree (record w { writer = o }) page (set ws 0 n)
  words_lock n o few is = record {
    size = length-set ws 0 n ∙ h.size;
    lock = get_or-set_same ws 0 n 0 (let z = h.size in omega arith) ∙ is;
    current = get_or-set_other ws 0 8 n 0 (λ e. absurd (omega arith)) ∙ h.current;
    announced = λ j below. get_or-set_other ws 0 (16 + 8 * j) n 0 (λ e. absurd (omega arith)) ∙ h.announced j below;
    pages = pages_else w.pages w.words ws 0 n (omega arith) h.pages;
    unused = λ j u. get_or-set_other ws 0 j n 0 (λ e. u.1 (omega arith)) ∙ h.unused j u;
  }

  -- a word of a page is stored
  pub words_fill : (p i x : ℕ) → p < w.pages → i < 512 → w.passes ≤ 64 → WordsAgree (after_fill w p i x) page (set ws (word_place p i) x)
  words_fill p i x lp li few = record {
    size = length-set ws (word_place p i) x ∙ h.size;
    lock = get_or-set_other ws (word_place p i) 0 x 0 (λ e. absurd (omega arith)) ∙ h.lock;
    current = get_or-set_other ws (word_place p i) 8 x 0 (λ e. absurd (omega arith)) ∙ h.current;
    announced = λ j below. get_or-set_other ws (word_place p i) (16 + 8 * j) x 0 (λ e. absurd (omega arith)) ∙ h.announced j below;
    pages = pages_fill w.pages w.words ws p i x h.size lp li h.pages;
    unused = λ j u. get_or-set_other ws (word_place p i) j x 0 (λ e. absurd (let low = u.0 in omega arith)) ∙ h.unused j u;
  }

-- ## What the other passes know

-- a pass that isn't the writer doesn't hold the lock
pub not_writer : (b : Board) (a x : Knowledge) → x.number ≢ a.number → b.world.writer ≡ Some (known_writer a) → Holds b x → ⊥
not_writer b a x ne is h = let same : known_writer a ≡ known_writer x = (let e : Some (known_writer a) ≡ Some (known_writer x) = sym is ∙ h.writer in some_same (known_writer a) (known_writer x) e) in ne (sym (ap (λ (g : Writer). g.pass) same))
  where
    some_same : (g k : Writer) → Some g ≡ Some k → g ≡ k
    some_same g k e = cc

pub fits_world : (limits : Limits) (b : Board) (w : World) (j : ℕ) (x : Knowledge) → is_writer w.writer x.number ≡ is_writer b.world.writer x.number → w.phases x.number ≡ b.world.phases x.number
    → (Holds b x → Holds (record b { world = w }) x) → (ImageIs b.world x.phase x.image → ImageIs w x.phase x.image) → Fits limits b j x → Fits limits (record b { world = w }) j x
fits_world limits b w j x h p whole image f = record {
  number = f.number;
  limits_are = f.limits_are;
  seat_is = f.seat_is;
  seen = f.seen;
  mine = f.mine;
  own = f.own;
  writes = f.writes ∙ sym h;
  whole = λ t. whole (f.whole t);
  phase = p ∙ f.phase;
  pin = f.pin;
  image = image f.image;
}

pub not_other : (k j : ℕ) → j ≢ k → eqb k j ≡ false
not_other k j ne = ne_eqb k j (λ q. ne (sym q))

pub sound_world : (limits : Limits) (b : Board) (w : World) → IsSoundBoard limits b → w.pages ≡ b.world.pages → w.passes ≡ b.world.passes → w.commits ≡ b.world.commits → w.image ≡ b.world.image → ((h : Writer) → w.writer ≡ Some h → h.pass < limits.passes) → ReachesAgree limits w b.log → Sound w → IsSoundBoard limits (record b { world = w })
sound_world limits b w h pages passes commits image writer reaches sound = record { within = h.within; legal = h.legal; by_passes = h.by_passes; room = h.room; page = h.page; inside = h.inside; own_pages = h.own_pages; pages = pages ∙ h.pages; passes = passes ∙ h.passes; commits = commits ∙ h.commits; writer = writer; reaches = reaches; machine = sound; encoded = λ n le. subst (λ (f : ℕ → ℕ → ℕ → ℕ). EncodesVolume (reach_at limits b.log n) (in_pages (f n)) (page_at b.log n) (replay_from limits.volume (take n (entries b.log)))) (sym image) (h.encoded n le) }

home_phases : (o : Option Writer) (w : World) (phases : ℕ → Phase) (log : List Commit) (homes : List (mathlib.Core.Option.Option (Option WriterState))) → IsHome o w log homes → IsHome o (record w { phases = phases }) log homes
home_phases None w phases log homes h = let x = h.2 in (h.0, h.1, record { journal = x.journal; limit = x.limit; page = x.page; count = x.count; shown = record { free = x.shown.free; taken = x.shown.taken; retired = x.shown.retired }; idle = x.idle; left = x.left })
home_phases (Some x) w phases log homes h = h

pub holds_phases : (b : Board) (phases : ℕ → Phase) (x : Knowledge) → Holds b x → Holds (record b { world = record b.world { phases = phases } }) x
holds_phases b phases x h = record { log = h.log; writer = h.writer; turn = h.turn; count = h.count; shown = record { free = h.shown.free; taken = h.shown.taken; retired = h.shown.retired }; size = h.size; words = h.words }

-- ## A reader steps

-- the pass a changes to the phase q, and has then seen `seen`
pub fits_board_phase : (limits : Limits) (s : Table) (b : Board) (i : ℕ) (a : Knowledge) (p q : Phase) (seen : List Commit) (image : List ℕ) (ws : List ℕ) → p ≡ q → FitsBoard limits s b → get_elem? s.views i ≡ some (alone a)
    → Sound (to b.world a.number p) → WordsAgree (to b.world a.number p) (page_at b.log (length b.log)) ws → InTime (length seen) q
    → StartsWith b.log seen → by_pass a.number (entries seen) ≡ a.mine → (a.writes ≡ true → seen ≡ b.log) → ImageIs b.world q image
    → FitsBoard limits (record { words = ws; homes = s.homes; views = set s.views i (alone (record a { seen = seen; phase = q; image = image; steps = a.steps + 1 })) }) (record b { world = to b.world a.number p })
    × Fits limits (record b { world = to b.world a.number p }) i (record a { seen = seen; phase = q; image = image; steps = a.steps + 1 })
fits_board_phase limits s b i a p q seen image ws pq h at sound words pin starts own whole pictures =
    let fa = (h.views i (alone a) at).0.0 in
    let w = to b.world a.number p in
    let c : Knowledge = record a { seen = seen; phase = q; image = image; steps = a.steps + 1 } in
    let fc : Fits limits (record b { world = w }) i c = record {
      number = fa.number;
      limits_are = fa.limits_are;
      seat_is = fa.seat_is;
      seen = starts;
      mine = fa.mine;
      own = own;
      writes = fa.writes;
      whole = λ t. let x = holds_phases b w.phases a (fa.whole t) in record { log = whole t; writer = x.writer; turn = x.turn; count = x.count; shown = x.shown; size = x.size; words = x.words };
      phase = update-same b.world.phases a.number p ∙ pq;
      pin = pin;
      image = pictures;
    } in (
      record {
        table = record { words = words; home = home_phases b.world.writer b.world w.phases b.log s.homes h.table.home; version = h.table.version };
        sound = sound_world limits b w h.sound refl refl refl refl h.sound.writer h.sound.reaches sound;
        views = views_step limits b (record b { world = w }) s.views i a c h.views at (starts_itself b.log) (λ j x ne f. fits_world limits b w j x refl (rw (test-other x.number a.number ne) refl) (holds_phases b w.phases x) (λ g. g) f) fc;
      },
      fc,
    )
