-- What a write does between taking and releasing the lock.
use Rattle.std.proofs.Common.{◌≡◌, ◌≢◌, ℕ, zero, suc, ◌||◌, Bool, true, false, if◌then◌else◌, List, [], ◌∷◌, ◌++◌, refl, sym, ap, ◌∙◌, subst, eq-eqb, ne_eqb, append_assoc}
use Rattle.std.proofs.Common.{◌⊎◌, inl, inr}
use Rattle.std.specs.List.{list_any}
use Rattle.std.specs.Prelude.{Result, Ok, Err, IfOk, IfErr}
use Rattle.be_table.specs.Setting.{Setting as Limits}
use Rattle.be_table.specs.declared.pass.Knowledge.{Knowledge}
use Rattle.be_table.specs.declared.pass.Move.{Move}
use Rattle.be_table.specs.declared.pass.Move.TheVariants.{Look, Announce, LookAgain, Unpin, Lock, Scan, Fill, Publish, Unlock, Return}
use Rattle.be_pages.specs.Refusal.{IsFullOf}
use Rattle.be_value.specs.declared.refusals.Refusal.{Refusal}
use Rattle.be_table.specs.Place.{Work}
use Rattle.be_table.specs.Reading.{open_of}
use Rattle.be_table.specs.Steps.{fill_moves, fills_word, given_moves, gives_up, take_moves, scans_of, with_history}
use Rattle.be_table.specs.Trace.{mover, NoneBy, Makes, is_lock_of, upto_lock, IsWork, AreWork}
use Rattle.be_table.specs.History.{StartsWith}
use Rattle.be_table.specs.Working.{HasReason, MakesForReason, HasWorked, WorksOn}
use Rattle.be_table.specs.Works.{FindsNone, MakesScan, TakesPage}
use Rattle.be_table.proofs.Scans.{makes_starts}

-- ## The moves up to the last lock

-- a move of another pass isn't a lock by pass k
other_locks : (k : ℕ) (m : Move) → mover m ≢ k → is_lock_of k m ≡ false
other_locks k (Look j) ne = refl
other_locks k (Announce j) ne = refl
other_locks k (LookAgain j) ne = refl
other_locks k (Unpin j) ne = refl
other_locks k (Lock j) ne = ne_eqb j k ne
other_locks k (Scan j i) ne = refl
other_locks k (Fill j p i word) ne = refl
other_locks k (Publish j page given) ne = refl
other_locks k (Unlock j) ne = refl
other_locks k (Return j p) ne = refl

work_locks : (k : ℕ) (m : Move) → IsWork k m → is_lock_of k m ≡ false
work_locks k (Look j) w = absurd w
work_locks k (Announce j) w = absurd w
work_locks k (LookAgain j) w = absurd w
work_locks k (Unpin j) w = absurd w
work_locks k (Lock j) w = absurd w
work_locks k (Scan j i) w = refl
work_locks k (Fill j p i word) w = refl
work_locks k (Publish j page given) w = absurd w
work_locks k (Unlock j) w = absurd w
work_locks k (Return j p) w = refl

none_locks : (k : ℕ) (ms : List Move) → NoneBy k ms → list_any (is_lock_of k) ms ≡ false
none_locks k [] h = refl
none_locks k (m ∷ ms) h = λ i. other_locks k m h.0 i || none_locks k ms h.1 i

any_more : (k : ℕ) (h ms : List Move) → list_any (is_lock_of k) ms ≡ false → list_any (is_lock_of k) (h ++ ms) ≡ list_any (is_lock_of k) h
any_more k [] ms none = none
any_more k (m ∷ h) ms none = λ i. is_lock_of k m || any_more k h ms none i

upto_none : (k : ℕ) (ms : List Move) → list_any (is_lock_of k) ms ≡ false → upto_lock k ms ≡ []
upto_none k [] none = refl
upto_none k (m ∷ ms) none = ap (λ (b : Bool). if b then m ∷ upto_lock k ms else []) none

upto_more : (k : ℕ) (h ms : List Move) → list_any (is_lock_of k) ms ≡ false → upto_lock k (h ++ ms) ≡ upto_lock k h
upto_more k [] ms none = upto_none k ms none
upto_more k (m ∷ h) ms none = λ i. if is_lock_of k m || any_more k h ms none i then m ∷ upto_more k h ms none i else []

true_after : (b : Bool) → (b || true) ≡ true
true_after true = refl
true_after false = refl

any_locked : (k : ℕ) (h : List Move) → list_any (is_lock_of k) (h ++ Lock k ∷ []) ≡ true
any_locked k [] = ap (λ (b : Bool). b || false) (eq-eqb k k refl)
any_locked k (m ∷ h) = ap (λ (b : Bool). is_lock_of k m || b) (any_locked k h) ∙ true_after (is_lock_of k m)

-- a history that ends with a lock is the history up to that lock
pub upto_locked : (k : ℕ) (h : List Move) → upto_lock k (h ++ Lock k ∷ []) ≡ h ++ Lock k ∷ []
upto_locked k [] = ap (λ (b : Bool). if b then Lock k ∷ [] else []) (any_locked k [])
upto_locked k (m ∷ h) =
    ap (λ (b : Bool). if b then m ∷ upto_lock k (h ++ Lock k ∷ []) else []) (any_locked k (m ∷ h)) ∙ ap (λ (l : List Move). m ∷ l) (upto_locked k h)

-- after this call's lock, the history is the one up to the lock
pub upto_now : (k : ℕ) (old new : List Move) → Makes k old (Lock k ∷ []) new → upto_lock k new ≡ new
upto_now k old new m = subst (λ (l : List Move). upto_lock k l ≡ l) (sym m.2) (upto_locked k (old ++ m.0))

-- a move that isn't a lock doesn't change that part
pub upto_one : (k : ℕ) (old new : List Move) (x : Move) → is_lock_of k x ≡ false → Makes k old (x ∷ []) new → upto_lock k new ≡ upto_lock k old
upto_one k old new x other m =
    ap (upto_lock k) m.2 ∙ upto_more k (old ++ m.0) (x ∷ []) (ap (λ (b : Bool). b || false) other) ∙ upto_more k old m.0 (none_locks k m.0 m.1)

-- nor does work
pub upto_work : (k : ℕ) (old own new : List Move) → AreWork k own → Makes k old own new → upto_lock k new ≡ upto_lock k old
upto_work k old [] new w m = ap (upto_lock k) m
upto_work k old (x ∷ own) new w m =
    upto_work k ((old ++ m.0) ++ x ∷ []) own new w.1 m.2 ∙ upto_one k old ((old ++ m.0) ++ x ∷ []) x (work_locks k x w.0) (m.0, m.1, refl)

-- ## Work

work_append : (k : ℕ) (ms ns : List Move) → AreWork k ms → AreWork k ns → AreWork k (ms ++ ns)
work_append k [] ns w v = v
work_append k (m ∷ ms) ns w v = (w.0, work_append k ms ns w.1 v)

pub scans_work : (k n : ℕ) → AreWork k (scans_of k n)
scans_work k zero = tt
scans_work k (suc j) = work_append k (scans_of k j) (Scan k j ∷ []) (scans_work k j) (refl, tt)

second_work : (k p i x : ℕ) (b : Bool) → AreWork k (if b then [] else Fill k p i x ∷ [])
second_work k p i x true = tt
second_work k p i x false = (refl, tt)

pub fill_work : (a : Knowledge) (p i x : ℕ) → AreWork a.number (fill_moves a p i x)
fill_work a p i x = (refl, second_work a.number p i x _)

return_work : (k p : ℕ) (b : Bool) → AreWork k (if b then Return k p ∷ [] else [])
return_work k p true = (refl, tt)
return_work k p false = tt

pub given_work : (a : Knowledge) (p : ℕ) → AreWork a.number (given_moves a p)
given_work a p = return_work a.number p _

pub take_work : (a : Knowledge) (p : ℕ) → AreWork a.number (take_moves a p)
take_work a p = (refl, tt)

-- ## Reasons

pub reasons_more : (limits : Limits) (k : ℕ) (old own mid more new : List Move) → MakesForReason limits k old own mid → MakesForReason limits k mid more new → MakesForReason limits k old (own ++ more) new
reasons_more limits k old [] mid more new a b = subst (λ (l : List Move). MakesForReason limits k l more new) a b
reasons_more limits k old (m ∷ own) mid more new a b = (a.0, a.1, a.2, reasons_more limits k ((old ++ a.0) ++ m ∷ []) own mid more new a.3 b)

-- the same moves without their reasons
pub reasons_left : (limits : Limits) (k : ℕ) (old own new : List Move) → MakesForReason limits k old own new → Makes k old own new
reasons_left limits k old [] new a = a
reasons_left limits k old (m ∷ own) new a = (a.0, a.1, reasons_left limits k ((old ++ a.0) ++ m ∷ []) own new a.3)

-- none of these moves ever needs a reason
abbrev NeedNone : Limits → List Move → Type 0
NeedNone limits [] = Unit {0}
NeedNone limits (m ∷ ms) = ((before : List Move) → HasReason limits before m) × NeedNone limits ms

pub reasons_none : (limits : Limits) (k : ℕ) (old own new : List Move) → NeedNone limits own → Makes k old own new → MakesForReason limits k old own new
reasons_none limits k old [] new n a = a
reasons_none limits k old (m ∷ own) new n a = (a.0, a.1, n.0 (old ++ a.0), reasons_none limits k ((old ++ a.0) ++ m ∷ []) own new n.1 a.2)

second_needs : (limits : Limits) (k p i x : ℕ) (b : Bool) → NeedNone limits (if b then [] else Fill k p i x ∷ [])
second_needs limits k p i x true = tt
second_needs limits k p i x false = ((λ before. tt), tt)

pub fill_needs : (limits : Limits) (a : Knowledge) (p i x : ℕ) → NeedNone limits (fill_moves a p i x)
fill_needs limits a p i x = ((λ before. tt), second_needs limits a.number p i x _)

return_needs : (limits : Limits) (k p : ℕ) (b : Bool) → NeedNone limits (if b then Return k p ∷ [] else [])
return_needs limits k p true = ((λ before. tt), tt)
return_needs limits k p false = tt

pub given_needs : (limits : Limits) (a : Knowledge) (p : ℕ) → NeedNone limits (given_moves a p)
given_needs limits a p = return_needs limits a.number p _

pub take_needs : (limits : Limits) (a : Knowledge) (p : ℕ) → NeedNone limits (take_moves a p)
take_needs limits a p = ((λ before. tt), tt)

-- ## A write that continues

-- a pass that has just taken the lock has done nothing with it yet
pub worked_none : (limits : Limits) (k : ℕ) (h : List Move) → upto_lock k h ≡ h → HasWorked limits k h
worked_none limits k h e = record { first = []; early = inl refl; begun = upto_lock k h; scanned = refl; own = []; work = tt; made = sym e }

-- nor has a pass that has only scanned once since
pub worked_first : (limits : Limits) (k : ℕ) (old new : List Move) → upto_lock k old ≡ old → Makes k old (scans_of k limits.passes) new → HasWorked limits k new
worked_first limits k old new e m =
    let upto : upto_lock k new ≡ old = upto_work k old (scans_of k limits.passes) new (scans_work k limits.passes) m ∙ e in
    record { first = scans_of k limits.passes; early = inr refl; begun = new; scanned = subst (λ (l : List Move). Makes k l (scans_of k limits.passes) new) (sym upto) m; own = []; work = tt; made = refl }

pub worked_more : (limits : Limits) (k : ℕ) (old own new : List Move) → AreWork k own → MakesForReason limits k old own new → HasWorked limits k old → HasWorked limits k new
worked_more limits k old own new w m h =
    let upto : upto_lock k new ≡ upto_lock k old = upto_work k old own new w (reasons_left limits k old own new m) in record {
      first = h.first;
      early = h.early;
      begun = h.begun;
      scanned = subst (λ (l : List Move). Makes k l h.first h.begun) (sym upto) h.scanned;
      own = h.own ++ own;
      work = work_append k h.own own h.work w;
      made = reasons_more limits k h.begun h.own old own new h.made m;
    }

-- a whole scan either has its reason or comes first
pub worked_scan : (limits : Limits) (k : ℕ) (old new : List Move) (none : Type 0) → none ⊎ (upto_lock k old ≡ old) → Makes k old (scans_of k limits.passes) new → (none → MakesForReason limits k old (scans_of k limits.passes) new)
    → HasWorked limits k old → HasWorked limits k new
worked_scan limits k old new none (inl n) m r h = worked_more limits k old (scans_of k limits.passes) new (scans_work k limits.passes) (r n) h
worked_scan limits k old new none (inr e) m r h = worked_first limits k old new e m

-- ## From the lock on

pub works_none : (limits : Limits) (k : ℕ) (h : List Move) → WorksOn limits k h h
works_none limits k h = record { first = []; early = inl refl; begun = h; scanned = refl; own = []; work = tt; made = refl }

pub works_scan : (limits : Limits) (k : ℕ) (old new : List Move) → Makes k old (scans_of k limits.passes) new → WorksOn limits k old new
works_scan limits k old new m = record { first = scans_of k limits.passes; early = inr refl; begun = new; scanned = m; own = []; work = tt; made = refl }

pub works_start : (limits : Limits) (k : ℕ) (old new : List Move) → WorksOn limits k old new → StartsWith new old
works_start limits k old new w =
    let f = makes_starts k old w.first w.begun w.scanned in
    let s = makes_starts k w.begun w.own new (reasons_left limits k w.begun w.own new w.made) in
    (f.0 ++ s.0, s.1 ∙ ap (λ (l : List Move). l ++ s.0) f.1 ∙ append_assoc old f.0 s.0)

-- ## What no call on an open write changes

pub scan_kept : (o n : Work) (least : ℕ) → MakesScan o n least → open_of n ≡ open_of o
scan_kept o n least s =
    let k = o.knows in
    ap open_of s.same ∙ ap (λ (b : List Move). record (open_of o) { begun = b })
    (upto_work k.number k.history (scans_of k.number k.limits.passes) n.knows.history (scans_work k.number k.limits.passes) s.moves)

scanned_kept : (o n : Work) → (n ≡ o) ⊎ ((least : ℕ) × MakesScan o n least) → open_of n ≡ open_of o
scanned_kept o n (inl same) = ap open_of same
scanned_kept o n (inr s) = scan_kept o n s.0 s.1

pub take_kept : (r : Result ℕ Refusal) (old new : Work) → IfOk r (TakesPage old new) → IfErr r (IsFullOf (FindsNone old new)) → open_of new ≡ open_of old
take_kept (Ok page) old new t f =
    let b = t.between in let k = b.knows in
    ap open_of t.taken ∙ ap (λ (l : List Move). record (open_of b) { begun = l })
    (upto_work k.number k.history (take_moves k page) new.knows.history (take_work k page) t.moves) ∙ scanned_kept old b t.scan
take_kept (Err e) old new t f = scan_kept old new f.0 f.2.scan

pub fill_kept : (old new : Work) (page i word : ℕ) → new ≡ record old { knows = fills_word (with_history old.knows new.knows.history) page i word }
    → Makes old.knows.number old.knows.history (fill_moves old.knows page i word) new.knows.history → open_of new ≡ open_of old
fill_kept old new page i word write moves =
    let k = old.knows in
    ap open_of write ∙ ap (λ (b : List Move). record (open_of old) { begun = b })
    (upto_work k.number k.history (fill_moves k page i word) new.knows.history (fill_work k page i word) moves)

pub give_kept : (old new : Work) (page : ℕ) → new ≡ record old { knows = gives_up (with_history old.knows new.knows.history) page }
    → Makes old.knows.number old.knows.history (given_moves old.knows page) new.knows.history → open_of new ≡ open_of old
give_kept old new page write moves =
    let k = old.knows in
    ap open_of write ∙ ap (λ (b : List Move). record (open_of old) { begun = b })
    (upto_work k.number k.history (given_moves k page) new.knows.history (given_work k page) moves)
