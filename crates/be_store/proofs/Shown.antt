-- The steps of a pass include everything that its moves show.
use Rattle.std.proofs.Common.{◌≡◌, ◌≢◌, ◌⊎◌, ℕ, Bool, inl, inr, List, [], ◌∷◌, ◌++◌, refl, sym, ap, ◌∙◌, subst, append_assoc}
use Rattle.std.specs.Prelude.{◌==◌, if◌then◌else◌}
use Rattle.std.proofs.lemmas.Bool.{eq-eqb, ne_eqb}
use Rattle.std.proofs.lemmas.List.{append-nil}
use Rattle.be_table.specs.Setting.{Setting as Limits}
use Rattle.be_table.specs.declared.pass.Knowledge.{Knowledge}
use Rattle.be_table.specs.declared.pass.Move.{Move}
use Rattle.be_table.specs.declared.pass.Move.TheVariants as move
use Rattle.be_table.specs.Steps.{scans_of}
use Rattle.be_table.specs.Trace.{AreWork, IsWork, Makes, NoneBy, mover}
use Rattle.be_table.specs.Working.{WorksOn}
use Rattle.be_table.proofs.Worked.{reasons_left, scans_work}
use Rattle.be_store.specs.Calls.{Call, Calls}
use Rattle.be_store.specs.History.{LocksOnly, PublishesOnce}
use Rattle.be_store.specs.Shown.{Shown, Wrote, Pinned, Unpinned, shown, shown_by, shown_in, shown_of}
use Rattle.be_store.specs.SmallMachine.{Step, Apply, Learn, Pin, Unpin, Read}
use Rattle.be_store.specs.Views.{volume}
use Rattle.be_store.proofs.Views.{calls_number}

one_of : (j k : ℕ) (s : Shown) → j ≡ k → (if j == k then s ∷ [] else []) ≡ s ∷ []
one_of j k s same = ap (λ (b : Bool). if b then s ∷ [] else []) (eq-eqb j k same)

none_of : (j k : ℕ) (s : Shown) → j ≢ k → (if j == k then s ∷ [] else []) ≡ []
none_of j k s other = ap (λ (b : Bool). if b then s ∷ [] else []) (ne_eqb j k other)

-- ## Moves

other_shown : (k : ℕ) (m : Move) → mover m ≢ k → shown k m ≡ []
other_shown k (move.Look j) h = refl
other_shown k (move.Announce j) h = refl
other_shown k (move.LookAgain j) h = none_of j k Pinned h
other_shown k (move.Unpin j) h = none_of j k Unpinned h
other_shown k (move.Lock j) h = refl
other_shown k (move.Scan j i) h = refl
other_shown k (move.Fill j p i word) h = refl
other_shown k (move.Publish j page given) h = none_of j k Wrote h
other_shown k (move.Unlock j) h = refl
other_shown k (move.Return j p) h = refl

others_shown : (k : ℕ) (ms : List Move) → NoneBy k ms → shown_by k ms ≡ []
others_shown k [] h = refl
others_shown k (m ∷ ms) h = λ j. other_shown k m h.0 j ++ others_shown k ms h.1 j

work_shown : (k : ℕ) (m : Move) → IsWork k m → shown k m ≡ []
work_shown k (move.Look j) h = absurd h
work_shown k (move.Announce j) h = absurd h
work_shown k (move.LookAgain j) h = absurd h
work_shown k (move.Unpin j) h = absurd h
work_shown k (move.Lock j) h = absurd h
work_shown k (move.Scan j i) h = refl
work_shown k (move.Fill j p i word) h = refl
work_shown k (move.Publish j page given) h = absurd h
work_shown k (move.Unlock j) h = absurd h
work_shown k (move.Return j p) h = refl

works_shown : (k : ℕ) (ms : List Move) → AreWork k ms → shown_by k ms ≡ []
works_shown k [] h = refl
works_shown k (m ∷ ms) h = λ j. work_shown k m h.0 j ++ works_shown k ms h.1 j

shown_append : (k : ℕ) (xs ys : List Move) → shown_by k (xs ++ ys) ≡ shown_by k xs ++ shown_by k ys
shown_append k [] ys = refl
shown_append k (x ∷ xs) ys = ap (λ (l : List Shown). shown k x ++ l) (shown_append k xs ys) ∙ sym (append_assoc (shown k x) (shown_by k xs) (shown_by k ys))

-- What the pass shows with its own moves. Moves of other passes show nothing about it.
makes_shown : (k : ℕ) (old own new : List Move) → Makes k old own new → shown_by k new ≡ shown_by k old ++ shown_by k own
makes_shown k old [] new m = ap (shown_by k) m ∙ sym (append-nil (shown_by k old))
makes_shown k old (x ∷ own) new m =
    let here : shown_by k ((old ++ m.0) ++ x ∷ []) ≡ shown_by k old ++ shown k x =
    shown_append k (old ++ m.0) (x ∷ [])
    ∙ (λ j. (shown_append k old m.0 ∙ (ap (λ (l : List Shown). shown_by k old ++ l) (others_shown k m.0 m.1) ∙ append-nil (shown_by k old))) j ++ append-nil (shown k x) j) in
    makes_shown k ((old ++ m.0) ++ x ∷ []) own new m.2
    ∙ (ap (λ (l : List Shown). l ++ shown_by k own) here ∙ append_assoc (shown_by k old) (shown k x) (shown_by k own))

-- Moves that show nothing.
still_shown : (k : ℕ) (old own new : List Move) → Makes k old own new → shown_by k own ≡ [] → shown_by k new ≡ shown_by k old
still_shown k old own new m none = makes_shown k old own new m ∙ (ap (λ (l : List Shown). shown_by k old ++ l) none ∙ append-nil (shown_by k old))

first_shown : (limits : Limits) (k : ℕ) (first : List Move) → (first ≡ []) ⊎ (first ≡ scans_of k limits.passes) → shown_by k first ≡ []
first_shown limits k first (inl none) = ap (shown_by k) none
first_shown limits k first (inr scans) = ap (shown_by k) scans ∙ works_shown k (scans_of k limits.passes) (scans_work k limits.passes)

-- From the lock to the end of the work.
held_shown : (limits : Limits) (k : ℕ) (old locked worked : List Move) → Makes k old (move.Lock k ∷ []) locked → WorksOn limits k locked worked → shown_by k worked ≡ shown_by k old
held_shown limits k old locked worked lock w =
    still_shown k w.begun w.own worked (reasons_left limits k w.begun w.own worked w.made) (works_shown k w.own w.work)
    ∙ (still_shown k locked w.first w.begun w.scanned (first_shown limits k w.first w.early) ∙ still_shown k old (move.Lock k ∷ []) locked lock refl)

-- ## Calls

write_shown : (a c : Knowledge) (page : ℕ) → PublishesOnce a c page → shown_by a.number c.history ≡ shown_by a.number a.history ++ Wrote ∷ []
write_shown a c page m =
    let k = a.number in
    makes_shown k m.worked (move.Publish k page m.given ∷ move.Unlock k ∷ []) c.history m.publish
    ∙ (λ j. held_shown a.limits k a.history m.locked m.worked m.lock m.work j ++ (one_of k k Wrote refl j ++ []))

learns_shown : (a c : Knowledge) → (c.history ≡ a.history) ⊎ LocksOnly a c → shown_by a.number c.history ≡ shown_by a.number a.history
learns_shown a c (inl none) = ap (shown_by a.number) none
learns_shown a c (inr l) =
    let k = a.number in
    still_shown k l.worked (move.Unlock k ∷ []) c.history l.unlock refl ∙ held_shown a.limits k a.history l.locked l.worked l.lock l.work

call_shown : (a : Knowledge) (s : Step volume) (c : Knowledge) → Call a s c → shown_by a.number c.history ≡ shown_by a.number a.history ++ shown_of s
call_shown a (Apply e n) c (ops, dones, is, h) = write_shown a c h.commit.page h.moves
call_shown a (Learn log) c h = learns_shown a c h.0.moves ∙ sym (append-nil (shown_by a.number a.history))
call_shown a (Pin n) c h =
    let k = a.number in
    makes_shown k a.history (move.Look k ∷ move.Announce k ∷ move.LookAgain k ∷ []) c.history h.moves.made
    ∙ (λ j. shown_by k a.history ++ (one_of k k Pinned refl j ++ []))
call_shown a Unpin c h =
    let k = a.number in
    makes_shown k a.history (move.Unpin k ∷ []) c.history h.1 ∙ (λ j. shown_by k a.history ++ (one_of k k Unpinned refl j ++ []))
call_shown a (Read q r) c (n, pin, is, h) =
    ap (λ (x : Knowledge). shown_by a.number x.history) h ∙ sym (append-nil (shown_by a.number a.history))

pub calls_shown : (a : Knowledge) (steps : List (Step volume)) (z : Knowledge) → Calls a steps z → shown_by a.number z.history ≡ shown_by a.number a.history ++ shown_in steps
calls_shown a [] z h = ap (λ (x : Knowledge). shown_by a.number x.history) (sym h) ∙ sym (append-nil (shown_by a.number a.history))
calls_shown a (s ∷ steps) z (c, h, more) =
    subst (λ (k : ℕ). shown_by k z.history ≡ shown_by k c.history ++ shown_in steps) (calls_number a (s ∷ []) c (c, h, refl)) (calls_shown c steps z more)
    ∙ (ap (λ (l : List Shown). l ++ shown_in steps) (call_shown a s c h) ∙ append_assoc (shown_by a.number a.history) (shown_of s) (shown_in steps))
