-- All passes return to one seat, and the slot holds the journal.
use Rattle.std.proofs.Common.{◌≡◌, ℕ, ◌<◌, eq-eqb, List, [], ◌∷◌, ◌++◌, map, length, false, true≢false, Option, Some, None, refl, sym, ap, ◌∙◌, subst, inl, inr, ⊎_elim}
use Rattle.be_table.specs.declared.pass.View.{View}
use mathlib.Core.Option.{some, none, some-injective}
use lib.ListN.{get_elem?}
use Rattle.atomic_table.specs.Table.{step, Enters, Final, Seen}
use Rattle.atomic_table.specs.Seated.{TableId}
use Rattle.be_core.specs.Machine.{World, Writer}
use Rattle.be_table.specs.declared.pass.Move.{Move}
use Rattle.be_table.specs.Trace.{RunsTo, AllRest, HasTrace}
use Rattle.be_journal.specs.declared.entries.Entry.{Entry}
use Rattle.be_table.specs.declared.writer_state.WriterState.{WriterState}
use Rattle.be_table.specs.Setting.{Setting as Limits}
use Rattle.be_table.specs.declared.pass.Knowledge.{Knowledge}
use Rattle.be_journal.specs.Journal.{IsLegalFrom, Log}
use Rattle.be_table.specs.History.{AreOfPasses}
use Rattle.be_table.specs.Laws.{ArrivalIsNoEvent}
use Rattle.be_table.specs.Place.{SeatFacts}
use Rattle.be_table.specs.Rule.{ViewFits, empty_view, Board, entries, is_writer, IsHome, AllFit, IsTrace, Shows, everyone, one_step_on}
use Rattle.be_table.specs.Steps.{Arrived, Has, AllIdle, KeepsSeen}
use Rattle.be_table.specs.Versions.{CanEncodeEach}
use Rattle.be_table.specs.Works.{AllAt, Gathered}
use Rattle.be_table.proofs.Deals.{at_snoc_place}
use Rattle.be_table.proofs.Histories.{is_legal}
use Rattle.be_table.proofs.Frames.{entries-start, log_encoded}

-- one of these passes, which isn't the writer
not_held : (limits : Limits) (b : Board) (i : ℕ) (v : List Knowledge) (h : ℕ) → AllFit limits b i v → AllIdle v → Has v h → is_writer b.world.writer h ≡ false
not_held limits b i [] h f idle has = absurd has
not_held limits b i (a ∷ v) h f idle has = ⊎_elim (λ e. ap (is_writer b.world.writer) (sym e) ∙ (sym f.0.writes ∙ idle.0)) (λ more. not_held limits b i v h f.2 idle.1 more) has

nobody_holds : (o : Option Writer) (passes : ℕ) → ((h : Writer) → o ≡ Some h → h.pass < passes) → ((h : ℕ) → h < passes → is_writer o h ≡ false) → o ≡ None
nobody_holds None passes b f = refl
nobody_holds (Some h) passes b f = absurd (true≢false (sym (eq-eqb h.pass h.pass refl) ∙ f h.pass (b h refl)))

all_kept : (limits : Limits) (b : Board) (i : ℕ) (v : List Knowledge) → AllFit limits b i v → KeepsSeen (entries b.log) v
all_kept limits b i [] f = tt
all_kept limits b i (a ∷ v) f = (entries-start b.log a.seen f.0.seen, f.0.mine, all_kept limits b i v f.2)

-- once all passes are in one seat, the slot holds the journal
pub ends : (limits : Limits) (i : ℕ) (v : View) (words : List ℕ) (slots : List (Option WriterState)) → AllIdle v.passes → ((k : ℕ) → k < limits.passes → Has v.passes k) → Final (Seen (Shows limits) i v) words slots
    → (writer_state : WriterState) × (get_elem? slots 0 ≡ some (Some writer_state)) × IsLegalFrom limits.volume writer_state.journal.entries × AreOfPasses limits.passes writer_state.journal.entries × KeepsSeen writer_state.journal.entries v.passes
    × CanEncodeEach limits.pages limits.volume writer_state.journal.entries × (writer_state.journal.limit ≡ limits.commits) × HasTrace limits v.passes
ends limits i v words slots idle all f =
    let s = f.0 in let b = f.1.0.0 in let h = f.1.0.1 in let t = f.1.0.2 in
    let fit = (h.views i v f.1.1).0 in
    let none_is = nobody_holds b.world.writer limits.passes h.sound.writer (λ k lt. not_held limits b i v.passes k fit idle (all k lt)) in
    let home : IsHome None b.world b.log s.homes = subst (λ (o : Option Writer). IsHome o b.world b.log s.homes) none_is h.table.home in
    let is = sym home.2.journal in (
      home.0,
      f.4 0 (Some home.0) (ap (λ hs. get_elem? hs 0) home.1),
      subst (IsLegalFrom limits.volume) is (is_legal limits.volume (entries b.log) h.sound.legal),
      subst (AreOfPasses limits.passes) is h.sound.by_passes,
      subst (λ l. KeepsSeen l v.passes) is (all_kept limits b i v.passes fit),
      subst (CanEncodeEach limits.pages limits.volume) is (log_encoded limits b h.sound),
      home.2.limit ∙ h.sound.commits,
      record { trace = t.0; runs = (t.1.words, b.world, t.1.runs); rests = t.1.rests i v f.1.1 },
    )

-- what a joined seat gets from each seat
has_counted : (v : List Knowledge) (k : ℕ) → Has v k → Has (map one_step_on v) k
has_counted [] k h = h
has_counted (a ∷ v) k h = ⊎_elim inl (λ m. inr (has_counted v k m)) h

has_left : (v w : List Knowledge) (k : ℕ) → Has v k → Has (v ++ w) k
has_left [] w k h = absurd h
has_left (a ∷ v) w k h = ⊎_elim inl (λ m. inr (has_left v w k m)) h

has_right : (v w : List Knowledge) (k : ℕ) → Has w k → Has (v ++ w) k
has_right [] w k h = h
has_right (a ∷ v) w k h = inr (has_right v w k h)

idle_counted : (v : List Knowledge) → AllIdle v → AllIdle (map one_step_on v)
idle_counted [] h = tt
idle_counted (a ∷ v) h = (h.0, idle_counted v h.1)

idle_append : (v w : List Knowledge) → AllIdle v → AllIdle w → AllIdle (v ++ w)
idle_append [] w h g = g
idle_append (a ∷ v) w h g = (h.0, idle_append v w h.1 g)

keeps_counted : (log : List Entry) (v : List Knowledge) → KeepsSeen log (map one_step_on v) → KeepsSeen log v
keeps_counted log [] h = tt
keeps_counted log (a ∷ v) h = (h.0, h.1, keeps_counted log v h.2)

keeps_parts : (log : List Entry) (v w : List Knowledge) → KeepsSeen log (v ++ w) → KeepsSeen log v × KeepsSeen log w
keeps_parts log [] w h = (tt, h)
keeps_parts log (a ∷ v) w h = let r = keeps_parts log v w h.2 in ((h.0, h.1, r.0), r.1)

rests_counted : (trace : List Move) (v : List Knowledge) → AllRest trace (map one_step_on v) → AllRest trace v
rests_counted trace [] h = tt
rests_counted trace (a ∷ v) h = (h.0, rests_counted trace v h.1)

rests_parts : (trace : List Move) (v w : List Knowledge) → AllRest trace (v ++ w) → AllRest trace v × AllRest trace w
rests_parts trace [] w h = (tt, h)
rests_parts trace (a ∷ v) w h = let r = rests_parts trace v w h.1 in ((h.0, r.0), r.1)

pub gathered_none : Gathered [] []
gathered_none = record { idle = tt; all = λ k h. h; keeps = λ log h. tt; rests = λ trace h. tt }

pub gathered_more : (known v : List Knowledge) (a : Knowledge) → a.writes ≡ false → Gathered known v → Gathered (a ∷ known) (map one_step_on v ++ one_step_on a ∷ [])
gathered_more known v a idle g = record {
  idle = idle_append (map one_step_on v) (one_step_on a ∷ []) (idle_counted v g.idle) (idle, tt);
  all = λ k h. ⊎_elim (λ e. has_right (map one_step_on v) (one_step_on a ∷ []) k (inl e)) (λ m. has_left (map one_step_on v) (one_step_on a ∷ []) k (has_counted v k (g.all k m))) h;
  keeps = λ log h. let p = keeps_parts log (map one_step_on v) (one_step_on a ∷ []) h in (p.1.0, p.1.1, g.keeps log (keeps_counted log v p.0));
  rests = λ trace h. let p = rests_parts trace (map one_step_on v) (one_step_on a ∷ []) h in (p.1.0, g.rests trace (rests_counted trace v p.0));
}

pub AllAt-parts : (id : TableId) (ss : List SeatFacts) (s : SeatFacts) → AllAt id (ss ++ s ∷ []) → AllAt id ss × (s.blank ≡ false) × (s.table ≡ id)
AllAt-parts id [] s h = (tt, h.0.0, h.0.1)
AllAt-parts id (x ∷ ss) s h = let r = AllAt-parts id ss s h.1 in ((h.0, r.0), r.1, r.2)

pub record Closes (limits : Limits) (known : List Knowledge) (journal : Log) : Type 0 where
  pub legal : IsLegalFrom limits.volume journal.entries
  pub by_passes : AreOfPasses limits.passes journal.entries
  pub keeps : KeepsSeen journal.entries known
  pub volumes : CanEncodeEach limits.pages limits.volume journal.entries
  pub limit : journal.limit ≡ limits.commits
  pub traced : HasTrace limits known

-- the writer state found in the slot holds the journal
pub closes : (limits : Limits) (known : List Knowledge) (i : ℕ) (v : View) (words : List ℕ) (slots : List (Option WriterState)) (writer_state : WriterState) (journal : Log) → Gathered known v.passes → ((k : ℕ) → k < limits.passes → Has known k)
    → Final (Seen (Shows limits) i v) words slots → get_elem? slots 0 ≡ some (Some writer_state) → journal ≡ writer_state.journal → Closes limits known journal
closes limits known i v words slots writer_state journal g all f at is =
    let e = ends limits i v words slots g.idle (λ k lt. g.all k (all k lt)) f in
    let same : Some e.0 ≡ Some writer_state = some-injective (Some e.0) (Some writer_state) (sym e.1 ∙ at) in
    let it : e.0 ≡ writer_state = cc in
    subst (Closes limits known) (ap (λ (l : WriterState). l.journal) it ∙ sym is) record { legal = e.2; by_passes = e.3; keeps = g.keeps e.0.journal.entries e.4; volumes = e.5; limit = e.6; traced = record { trace = e.7.trace; runs = e.7.runs; rests = g.rests e.7.trace e.7.rests } }

-- a seat without a pass may arrive
pub arrive_by : (limits : Limits) → ArrivalIsNoEvent limits
arrive_by limits s b h = (
  b,
  record { table = record { words = h.table.words; home = h.table.home; version = h.table.version }; sound = h.sound; views = λ j u e. ⊎_elim (λ there. h.views j u there) (λ (p : (j ≡ length s.views) × (empty_view ≡ u)). subst (ViewFits limits b j) p.1 (tt, tt)) (at_snoc_place s.views empty_view u j e) },
  refl,
  refl,
)

pub arrives : (limits : Limits) (slots : ℕ) → Enters (Shows limits) slots 0 (λ n w. Arrived (step slots 0 0 0 none) (everyone limits, []) n (w, []))
arrives limits slots s h sized fits =
    let d = arrive_by limits s h.0 h.1 in let t = h.2.0 in let tr = h.2.1 in
    let trace : IsTrace limits d.0.world (s.views ++ empty_view ∷ []) t = record {
      words = tr.words;
      runs = subst (λ (w : World). RunsTo limits tr.words t w) (sym d.2) tr.runs;
      rests = λ j u e. ⊎_elim (λ there. tr.rests j u there) (λ (p : (j ≡ length s.views) × (empty_view ≡ u)). subst (λ (x : View). AllRest t x.passes) p.1 tt) (at_snoc_place s.views empty_view u j e);
    } in
    (empty_view, (d.0, d.1, (t, trace)), refl)
