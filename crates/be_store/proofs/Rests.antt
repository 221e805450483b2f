-- A pass that is unpinned stays unpinned until it looks, and so does a pass that rests during a write.
use Rattle.std.proofs.Common.{◌≡◌, ◌≢◌, ◌⊎◌, ℕ, suc, Bool, true, false, inl, inr, List, [], ◌∷◌, ◌++◌, length, refl, sym, ap, ◌∙◌, subst, append_assoc, arith}
use Rattle.std.proofs.lemmas.Bool.Decides.{eqb_tells}
use Rattle.std.proofs.lemmas.List.{append_cancel_left, append-nil}
use Rattle.std.specs.Prelude.{Option, Some, None, ◌<◌, ◌==◌, if◌then◌else◌}
use Rattle.be_core.specs.Machine.{Writer, World, phase_after_announce, phase_after_look, phase_after_look_again, scanned_by, scanned_on, scanned_out, to}
use Rattle.be_core.proofs.Places.{update-same}
use Rattle.be_core.specs.declared.event.Phase.{Phase}
use Rattle.be_core.specs.declared.event.Phase.TheVariants.{Idle}
use Rattle.be_table.specs.Setting.{Setting as Limits}
use Rattle.be_table.specs.declared.pass.Knowledge.{Knowledge}
use Rattle.be_table.specs.declared.pass.Move.{Move}
use Rattle.be_table.specs.declared.pass.Move.TheVariants.{Look, Announce, LookAgain, Unpin, Lock, Scan, Fill, Publish, Unlock, Return}
use Rattle.be_table.specs.History.{StartsWith}
use Rattle.be_table.specs.Rule.{announce_word, newcomer}
use Rattle.be_table.specs.Steps.{scans_of}
use Rattle.be_table.specs.Trace.{AreWork, HasTrace, IsWork, Makes, NoneBy, Run, RunsTo, after_move, mover, upto_lock}
use Rattle.be_table.specs.Working.{WorksOn}
use Rattle.be_table.specs.Works.{HadAnnounced}
use Rattle.be_table.proofs.Runs.{fronts_run}
use Rattle.be_table.proofs.Scans.{makes_starts}
use Rattle.be_table.proofs.Worked.{reasons_left, scans_work, upto_now, upto_one, upto_work, works_start}
use Rattle.be_value.specs.declared.refusals.Refusal.TheVariants.{Full}
use Rattle.be_volume.specs.declared.ops.Done.{Done}
use Rattle.be_volume.specs.declared.ops.Op.{Op}
use Rattle.be_store.specs.Capacity.{HasLargePool, IsOut, NoneIsEarlier, OthersRest, RestsThrough}
use Rattle.be_store.specs.History.{Accepts, IsLastReason, IsReason, Learns, LocksOnly, PublishesOnce, Unpins}
use Rattle.be_store.proofs.Calls.{starts_trans}
use Rattle.be_store.proofs.Capacity.{large}

-- ## A pass that doesn't look stays unpinned

-- The move isn't a look by the pass k.
abbrev pub IsQuiet : ℕ → Move → Type 0
IsQuiet k (Look j) = j ≢ k
IsQuiet k (Announce j) = Unit {0}
IsQuiet k (LookAgain j) = Unit {0}
IsQuiet k (Unpin j) = Unit {0}
IsQuiet k (Lock j) = Unit {0}
IsQuiet k (Scan j i) = Unit {0}
IsQuiet k (Fill j p i word) = Unit {0}
IsQuiet k (Publish j page given) = Unit {0}
IsQuiet k (Unlock j) = Unit {0}
IsQuiet k (Return j p) = Unit {0}

abbrev pub AreQuiet : ℕ → List Move → Type 0
AreQuiet k [] = Unit {0}
AreQuiet k (m ∷ ms) = IsQuiet k m × AreQuiet k ms

none_is_quiet : (k : ℕ) (m : Move) → mover m ≢ k → IsQuiet k m
none_is_quiet k (Look j) h = h
none_is_quiet k (Announce j) h = tt
none_is_quiet k (LookAgain j) h = tt
none_is_quiet k (Unpin j) h = tt
none_is_quiet k (Lock j) h = tt
none_is_quiet k (Scan j i) h = tt
none_is_quiet k (Fill j p i word) h = tt
none_is_quiet k (Publish j page given) h = tt
none_is_quiet k (Unlock j) h = tt
none_is_quiet k (Return j p) h = tt

pub none_are_quiet : (k : ℕ) (ms : List Move) → NoneBy k ms → AreQuiet k ms
none_are_quiet k [] h = tt
none_are_quiet k (m ∷ ms) h = (none_is_quiet k m h.0, none_are_quiet k ms h.1)

work_is_quiet : (k : ℕ) (m : Move) → IsWork k m → IsQuiet k m
work_is_quiet k (Look j) h = absurd h
work_is_quiet k (Announce j) h = tt
work_is_quiet k (LookAgain j) h = tt
work_is_quiet k (Unpin j) h = tt
work_is_quiet k (Lock j) h = tt
work_is_quiet k (Scan j i) h = tt
work_is_quiet k (Fill j p i word) h = tt
work_is_quiet k (Publish j page given) h = tt
work_is_quiet k (Unlock j) h = tt
work_is_quiet k (Return j p) h = tt

work_are_quiet : (k : ℕ) (ms : List Move) → AreWork k ms → AreQuiet k ms
work_are_quiet k [] h = tt
work_are_quiet k (m ∷ ms) h = (work_is_quiet k m h.0, work_are_quiet k ms h.1)

quiet_append : (k : ℕ) (ms ns : List Move) → AreQuiet k ms → AreQuiet k ns → AreQuiet k (ms ++ ns)
quiet_append k [] ns h g = g
quiet_append k (m ∷ ms) ns h g = (h.0, quiet_append k ms ns h.1 g)

quiet_front : (k : ℕ) (ms ns : List Move) → AreQuiet k (ms ++ ns) → AreQuiet k ms
quiet_front k [] ns h = tt
quiet_front k (m ∷ ms) ns h = (h.0, quiet_front k ms ns h.1)

abbrev IsIdleAt : ℕ → World → Type 0
IsIdleAt k w = w.phases k ≡ Idle

-- A pass gets the phase p, which is Idle if the pass is k.
idle_to : (k j : ℕ) (w : World) (p : Phase) → (j ≡ k → p ≡ Idle) → IsIdleAt k w → IsIdleAt k (to w j p)
idle_to k j w p mine idle = elim (eqb_tells k j) [ inl y ↦ rw y.0 (mine (sym y.1)) | inr n ↦ rw n.0 idle ]

idle_scan : (k j : ℕ) (w : World) (h : Option Writer) → IsIdleAt k w → IsIdleAt k (scanned_by w h j)
idle_scan k j w None idle = idle
idle_scan k j w (Some h) idle = by (suc j == w.passes)
  where
    by : (b : Bool) → IsIdleAt k (if b then scanned_out w h j else scanned_on w h j)
    by true = idle
    by false = idle

idle_after : (k : ℕ) (w : World) (m : Move) → IsQuiet k m → IsIdleAt k w → IsIdleAt k (after_move w m)
idle_after k w (Look j) quiet idle = idle_to k j w (phase_after_look (w.phases j) w.current) (λ same. absurd (quiet same)) idle
idle_after k w (Announce j) quiet idle =
    idle_to k j w (phase_after_announce (w.phases j)) (λ same. ap phase_after_announce (ap w.phases same ∙ idle)) idle
idle_after k w (LookAgain j) quiet idle =
    idle_to k j w (phase_after_look_again (w.phases j) w.current) (λ same. ap (λ (p : Phase). phase_after_look_again p w.current) (ap w.phases same ∙ idle)) idle
idle_after k w (Unpin j) quiet idle = idle_to k j w Idle (λ same. refl) idle
idle_after k w (Lock j) quiet idle = idle
idle_after k w (Scan j i) quiet idle = idle_scan k i w w.writer idle
idle_after k w (Fill j p i word) quiet idle = idle
idle_after k w (Publish j page given) quiet idle = idle
idle_after k w (Unlock j) quiet idle = idle
idle_after k w (Return j p) quiet idle = idle

idle_through : (k : ℕ) (w : World) (ms : List Move) (v : World) → AreQuiet k ms → Run w ms v → IsIdleAt k w → IsIdleAt k v
idle_through k w [] v quiet run idle = subst (IsIdleAt k) (sym run) idle
idle_through k w (m ∷ ms) v quiet run idle = idle_through k (after_move w m) ms v quiet.1 run.1 (idle_after k w m quiet.0 idle)

-- ## Extending a history without a look by the pass

abbrev pub GoesQuietly : ℕ → List Move → List Move → Type 0
GoesQuietly k old new = (rest : List Move) × AreQuiet k rest × (new ≡ old ++ rest)

quietly_same : (k : ℕ) (old new : List Move) → new ≡ old → GoesQuietly k old new
quietly_same k old new same = ([], tt, same ∙ sym (append-nil old))

quietly_both : (k : ℕ) (old mid new : List Move) → GoesQuietly k old mid → GoesQuietly k mid new → GoesQuietly k old new
quietly_both k old mid new a b =
    (a.0 ++ b.0, quiet_append k a.0 b.0 a.1 b.1, b.2 ∙ (ap (λ (l : List Move). l ++ b.0) a.2 ∙ append_assoc old a.0 b.0))

makes_quietly : (k : ℕ) (old own new : List Move) → AreQuiet k own → Makes k old own new → GoesQuietly k old new
makes_quietly k old [] new quiet m = quietly_same k old new m
makes_quietly k old (x ∷ own) new quiet m =
    quietly_both k old ((old ++ m.0) ++ x ∷ []) new
    (m.0 ++ x ∷ [], quiet_append k m.0 (x ∷ []) (none_are_quiet k m.0 m.1) (quiet.0, tt), append_assoc old m.0 (x ∷ []))
    (makes_quietly k ((old ++ m.0) ++ x ∷ []) own new quiet.1 m.2)

first_quiet : (limits : Limits) (k : ℕ) (first : List Move) → (first ≡ []) ⊎ (first ≡ scans_of k limits.passes) → AreQuiet k first
first_quiet limits k first (inl none) = subst (AreQuiet k) (sym none) tt
first_quiet limits k first (inr scans) = subst (AreQuiet k) (sym scans) (work_are_quiet k (scans_of k limits.passes) (scans_work k limits.passes))

works_quietly : (limits : Limits) (k : ℕ) (old new : List Move) → WorksOn limits k old new → GoesQuietly k old new
works_quietly limits k old new w =
    quietly_both k old w.begun new
    (makes_quietly k old w.first w.begun (first_quiet limits k w.first w.early) w.scanned)
    (makes_quietly k w.begun w.own new (work_are_quiet k w.own w.work) (reasons_left limits k w.begun w.own new w.made))

locks_quietly : (w c : Knowledge) → LocksOnly w c → GoesQuietly w.number w.history c.history
locks_quietly w c l =
    quietly_both w.number w.history l.locked c.history (makes_quietly w.number w.history (Lock w.number ∷ []) l.locked (tt, tt) l.lock)
    (quietly_both w.number l.locked l.worked c.history (works_quietly w.limits w.number l.locked l.worked l.work)
    (makes_quietly w.number l.worked (Unlock w.number ∷ []) c.history (tt, tt) l.unlock))

publishes_quietly : (w c : Knowledge) (page : ℕ) → PublishesOnce w c page → GoesQuietly w.number w.history c.history
publishes_quietly w c page l =
    quietly_both w.number w.history l.locked c.history (makes_quietly w.number w.history (Lock w.number ∷ []) l.locked (tt, tt) l.lock)
    (quietly_both w.number l.locked l.worked c.history (works_quietly w.limits w.number l.locked l.worked l.work)
    (makes_quietly w.number l.worked (Publish w.number page l.given ∷ Unlock w.number ∷ []) c.history (tt, (tt, tt)) l.publish))

-- ## Passes that are unpinned

-- If the pass is idle in the machine, it is still idle after more moves without a look.
idle_later : (limits : Limits) (b : Knowledge) (rest : List Move) (words : ℕ → ℕ → ℕ) (world : World) → IsOut limits b → AreQuiet b.number rest
    → RunsTo limits words (b.history ++ rest) world → IsIdleAt b.number world
idle_later limits b rest words world out quiet runs =
    let parts = fronts_run limits words b.history rest world runs in
    idle_through b.number parts.0 rest world quiet parts.2 (out words parts.0 parts.1)

out_later : (limits : Limits) (a c : Knowledge) → IsOut limits a → c.number ≡ a.number → GoesQuietly a.number a.history c.history → IsOut limits c
out_later limits a c out number more words world runs =
    subst (λ (k : ℕ). world.phases k ≡ Idle) (sym number)
    (idle_later limits a more.0 words world out more.1 (subst (λ (l : List Move). RunsTo limits words l world) more.2 runs))

pub new_is_out : (l limits : Limits) (steps k : ℕ) → IsOut l (newcomer limits steps k)
new_is_out l limits steps k words world runs = ap (λ (w : World). w.phases k) runs

pub unpin_is_out : (l : Limits) (a c : Knowledge) → Unpins a c → IsOut l c
unpin_is_out l a c h words world runs =
    let k = a.number in
    let number : c.number ≡ k = ap (λ (x : Knowledge). x.number) h.0 in
    let others = h.1.0 in
    let parts = fronts_run l words (a.history ++ others) (Unpin k ∷ []) world (subst (λ (ms : List Move). RunsTo l words ms world) h.1.2 runs) in
    let last : world ≡ after_move parts.0 (Unpin k) = parts.2.1 in
    let idle : IsIdleAt k (to parts.0 k Idle) = update-same parts.0.phases k Idle in
    subst (λ (n : ℕ). world.phases n ≡ Idle) (sym number) (subst (IsIdleAt k) (sym last) idle)

pub write_is_out : (l : Limits) (a c : Knowledge) (ops : List Op) (n : ℕ) (dones : List Done) → IsOut l a → Accepts a c ops n dones → IsOut l c
write_is_out l a c ops n dones out h = out_later l a c out h.pass (publishes_quietly a c h.commit.page h.moves)

pub learns_out : (l : Limits) (a c : Knowledge) → IsOut l a → Learns a c → IsOut l c
learns_out l a c out h = out_later l a c out h.pass (by h.moves)
  where
    by : (c.history ≡ a.history) ⊎ LocksOnly a c → GoesQuietly a.number a.history c.history
    by (inl none) = quietly_same a.number a.history c.history none
    by (inr locks) = locks_quietly a c locks

-- ## A write during which all other passes rest

abbrev first_or : Move → List Move → Move
first_or d [] = d
first_or d (m ∷ ms) = m

abbrev but_first : List Move → List Move
but_first [] = []
but_first (m ∷ ms) = ms

-- Of two prefixes of one list, one begins with the other.
either_first : (t xs ys : List Move) → StartsWith t xs → StartsWith t ys → StartsWith ys xs ⊎ StartsWith xs ys
either_first t [] ys hx hy = inl (ys, refl)
either_first t (x ∷ xs) [] hx hy = inr (x ∷ xs, refl)
either_first [] (x ∷ xs) (y ∷ ys) hx hy = absurd (let e = ap length hx.1 in omega (arith, e))
either_first (m ∷ t) (x ∷ xs) (y ∷ ys) hx hy =
    let first : x ≡ y = sym (ap (first_or m) hx.1) ∙ ap (first_or m) hy.1 in
    let rest_x : StartsWith t xs = (hx.0, ap but_first hx.1) in
    let rest_y : StartsWith t ys = (hy.0, ap but_first hy.1) in
    by first (either_first t xs ys rest_x rest_y)
  where
    by : x ≡ y → StartsWith ys xs ⊎ StartsWith xs ys → StartsWith (y ∷ ys) (x ∷ xs) ⊎ StartsWith (x ∷ xs) (y ∷ ys)
    by same (inl h) = inl (h.0, λ j. sym same j ∷ h.1 j)
    by same (inr h) = inr (h.0, λ j. same j ∷ h.1 j)

-- A list without moves of the pass k doesn't contain its lock.
no_lock_among : (k : ℕ) (xs ys : List Move) → NoneBy k (xs ++ Lock k ∷ ys) → ⊥
no_lock_among k [] ys h = h.0 refl
no_lock_among k (x ∷ xs) ys h = no_lock_among k xs ys h.1

-- The other pass was at rest before the lock. If its history continued past the lock, the first of the two lists of moves would
-- contain the lock.
before_lock : (a b : Knowledge) (limits : Limits) (more locked : List Move) → HasTrace limits (a ∷ b ∷ []) → locked ≡ (a.history ++ more) ++ Lock a.number ∷ []
    → StartsWith b.history locked → ⊥
before_lock a b limits more locked h is (rest, e) =
    let others = h.rests.0.0 in
    let tail = h.rests.1.0.0 in
    let whole : a.history ++ others ≡ a.history ++ (more ++ Lock a.number ∷ (rest ++ tail)) =
    sym h.rests.0.2 ∙ (h.rests.1.0.2 ∙ (ap (λ (l : List Move). l ++ tail) (e ∙ ap (λ (l : List Move). l ++ rest) is)
    ∙ regroup a.history more (Lock a.number) rest tail)) in
    let same : others ≡ more ++ Lock a.number ∷ (rest ++ tail) = append_cancel_left a.history others (more ++ Lock a.number ∷ (rest ++ tail)) whole in
    no_lock_among a.number more (rest ++ tail) (subst (NoneBy a.number) same h.rests.0.1)
  where
    regroup : (xs ys : List Move) (m : Move) (zs ws : List Move) → (((xs ++ ys) ++ m ∷ []) ++ zs) ++ ws ≡ xs ++ (ys ++ m ∷ (zs ++ ws))
    regroup xs ys m zs ws =
        append_assoc ((xs ++ ys) ++ m ∷ []) zs ws ∙ (append_assoc (xs ++ ys) (m ∷ []) (zs ++ ws) ∙ append_assoc xs ys (m ∷ (zs ++ ws)))

-- The lock lies between what the pass knew before and after the write, and it is the last lock of the pass.
lock_last : (w c : Knowledge) (l : LocksOnly w c) → upto_lock w.number c.history ≡ l.locked
lock_last w c l =
    let k = w.number in
    let work = l.work in
    upto_one k l.worked c.history (Unlock k) refl l.unlock
    ∙ (upto_work k work.begun work.own l.worked work.work (reasons_left w.limits k work.begun work.own l.worked work.made)
    ∙ (upto_work k l.locked work.first work.begun (first_work w.limits k work.first work.early) work.scanned ∙ upto_now k w.history l.locked l.lock))
  where
    first_work : (limits : Limits) (k : ℕ) (first : List Move) → (first ≡ []) ⊎ (first ≡ scans_of k limits.passes) → AreWork k first
    first_work limits k first (inl none) = subst (AreWork k) (sym none) tt
    first_work limits k first (inr scans) = subst (AreWork k) (sym scans) (scans_work k limits.passes)

locked_front : (w c : Knowledge) (l : LocksOnly w c) → StartsWith c.history l.locked
locked_front w c l =
    starts_trans l.locked l.worked c.history (makes_starts w.number l.worked (Unlock w.number ∷ []) c.history l.unlock)
    (works_start w.limits w.number l.locked l.worked l.work)

-- At a point of a run within the moves that an unpinned pass has seen, that pass has announced nothing.
no_word : (limits : Limits) (k n : ℕ) (b : Knowledge) (rest upto : List Move) (words : ℕ → ℕ → ℕ) (world : World) → IsOut limits b → b.number ≡ k → upto ≡ b.history ++ rest → AreQuiet k rest
    → RunsTo limits words upto world → announce_word (world.phases k) ≡ suc n → ⊥
no_word limits k n b rest upto words world out is same quiet runs reported =
    let idle : world.phases b.number ≡ Idle =
    idle_later limits b rest words world out (subst (λ (m : ℕ). AreQuiet m rest) (sym is) quiet) (subst (λ (l : List Move). RunsTo limits words l world) same runs) in
    let none : 0 ≡ suc n = sym (ap announce_word idle) ∙ (ap (λ (m : ℕ). announce_word (world.phases m)) is ∙ reported) in
    absurd (omega (arith, none))

-- The writer itself is unpinned.
module _ (limits : Limits) (w c : Knowledge) (l : LocksOnly w c) (number : c.number ≡ w.number) (same : c.limits ≡ limits) where
  upto_locked_front : (j n : ℕ) (h : HadAnnounced c j n) → StartsWith h.upto l.locked
  upto_locked_front j n h = subst (StartsWith h.upto) (ap (λ (k : ℕ). upto_lock k c.history) number ∙ lock_last w c l) h.since

  runs_here : (j n : ℕ) (h : HadAnnounced c j n) → RunsTo limits h.words h.upto h.world
  runs_here j n h = subst (λ (x : Limits). RunsTo x h.words h.upto h.world) same h.runs

  not_mine : (n : ℕ) → IsOut limits w → HadAnnounced c w.number n → ⊥
  not_mine n out h =
      let k = w.number in
      let quiet = locks_quietly w c l in
      let from = starts_trans w.history l.locked h.upto (upto_locked_front k n h) (makes_starts k w.history (Lock k ∷ []) l.locked l.lock) in
      let whole : w.history ++ quiet.0 ≡ w.history ++ (from.0 ++ h.front.0) =
      sym quiet.2 ∙ (h.front.1 ∙ (ap (λ (x : List Move). x ++ h.front.0) from.1 ∙ append_assoc w.history from.0 h.front.0)) in
      let rest : quiet.0 ≡ from.0 ++ h.front.0 = append_cancel_left w.history quiet.0 (from.0 ++ h.front.0) whole in
      no_word limits k n w from.0 h.upto h.words h.world out refl from.1 (quiet_front k from.0 h.front.0 (subst (AreQuiet k) rest quiet.1)) (runs_here k n h) h.reported

  -- The history of the other pass ends before the lock.
  rests_before : (b : Knowledge) → RestsThrough limits w c b → StartsWith l.locked b.history
  rests_before b r =
      let a = r.met in
      let t = r.after.trace in
      let in_c : StartsWith t c.history = (r.after.rests.0.0, r.after.rests.0.2) in
      let in_b : StartsWith t b.history = (r.after.rests.1.0.0, r.after.rests.1.0.2) in
      let in_locked : StartsWith t l.locked = starts_trans l.locked c.history t in_c (locked_front w c l) in
      let more = r.early.0 ++ l.lock.0 in
      let is : l.locked ≡ (a.history ++ more) ++ Lock a.number ∷ [] =
      l.lock.2 ∙ (ap (λ (x : List Move). (x ++ l.lock.0) ++ Lock w.number ∷ []) r.early.1
      ∙ (ap (λ (x : List Move). x ++ Lock w.number ∷ []) (append_assoc a.history r.early.0 l.lock.0)
      ∙ ap (λ (k : ℕ). (a.history ++ more) ++ Lock k ∷ []) (sym r.same))) in
      by (either_first t b.history l.locked in_b in_locked) (before_lock a b limits more l.locked r.before is)
    where
      by : {X Y : Type 0} → X ⊎ Y → (Y → ⊥) → X
      by (inl x) never = x
      by (inr y) never = absurd (never y)

  not_others : (j n : ℕ) (b : Knowledge) → b.number ≡ j → RestsThrough limits w c b → HadAnnounced c j n → ⊥
  not_others j n b is r h =
      let from = starts_trans b.history l.locked h.upto (upto_locked_front j n h) (rests_before b r) in
      let t = r.after.trace in
      let tail = h.front.0 ++ r.after.rests.0.0 in
      let whole : b.history ++ r.after.rests.1.0.0 ≡ b.history ++ (from.0 ++ tail) =
      sym r.after.rests.1.0.2 ∙ (r.after.rests.0.2 ∙ (ap (λ (x : List Move). x ++ r.after.rests.0.0) h.front.1
      ∙ (append_assoc h.upto h.front.0 r.after.rests.0.0 ∙ (ap (λ (x : List Move). x ++ tail) from.1 ∙ append_assoc b.history from.0 tail)))) in
      let rest : r.after.rests.1.0.0 ≡ from.0 ++ tail = append_cancel_left b.history r.after.rests.1.0.0 (from.0 ++ tail) whole in
      let quiet : AreQuiet j from.0 =
      quiet_front j from.0 tail (subst (AreQuiet j) rest (subst (λ (k : ℕ). AreQuiet k r.after.rests.1.0.0) is (none_are_quiet b.number r.after.rests.1.0.0 r.after.rests.1.0.1))) in
      no_word limits j n b from.0 h.upto h.words h.world r.out is from.1 quiet (runs_here j n h) h.reported

  none_earlier : IsOut limits w → OthersRest limits w c → NoneIsEarlier c
  none_earlier out rest j n lt h = elim (eqb_tells j w.number) [
    | inl y ↦ absurd (not_mine n out (subst (λ (k : ℕ). HadAnnounced c k n) y.1 h))
    | inr other ↦ (let r = rest j (subst (λ (x : Limits). j < x.passes) same lt) other.1 in absurd (not_others j n r.0 r.1 r.2 h))
  ]

pub others_large : (limits : Limits) (w c : Knowledge) (ops : List Op) (least : ℕ) → c.limits ≡ limits → c.number ≡ w.number → IsOut limits w → OthersRest limits w c → HasLargePool c ops
    → IsReason w c ops (Full least) → ⊥
others_large limits w c ops least same number out rest pool (inl held) = absurd (let e = held.0.1 in cc)
others_large limits w c ops least same number out rest pool (inr refused) =
    large c ops least (none_earlier limits w c refused.1 number same out rest) pool refused.0

pub others_large_at_last : (limits : Limits) (w c : Knowledge) (ops : List Op) (tries least : ℕ) → c.limits ≡ limits → c.number ≡ w.number → IsOut limits w → OthersRest limits w c → HasLargePool c ops
    → IsLastReason tries w c ops (Full least) → ⊥
others_large_at_last limits w c ops tries least same number out rest pool (inl held) = absurd (let e = held.2 in cc)
others_large_at_last limits w c ops tries least same number out rest pool (inr refused) =
    large c ops least (none_earlier limits w c refused.1 number same out rest) pool refused.0
