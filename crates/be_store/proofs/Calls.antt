-- What a pass has seen stays a prefix of the journal through all its calls.
use Rattle.std.proofs.Common.{◌≡◌, ◌≤◌, ◌-◌, ◌⊎◌, inl, inr, List, [], ◌∷◌, ◌++◌, length, take, Some, refl, sym, ap, ◌∙◌, subst, arith, length-append}
use Rattle.std.specs.Prelude.{All, slice_get}
use Rattle.std.proofs.Math.Seq.{get_or-append_seam}
use Rattle.std.proofs.lemmas.List.{append_assoc, append-nil, length-map, take-append-le}
use Rattle.std.proofs.lemmas.List.Elements.{All-cons, All-nil}
use Rattle.std.proofs.lemmas.Option.{slice_get-get_or}
use Rattle.std.specs.Option.{option_map_or}
use Rattle.be_core.specs.declared.event.Phase.TheVariants.{Pinned}
use Rattle.be_core.specs.Machine.{InTime}
use Rattle.be_journal.specs.declared.entries.Entry.{Entry}
use Rattle.be_journal.specs.Journal.{replay_from}
use Rattle.be_table.specs.declared.pass.Commit.{Commit}
use Rattle.be_table.specs.declared.pass.Knowledge.{Knowledge}
use Rattle.be_table.specs.History.{StartsWith}
use Rattle.be_table.specs.Rule.{entries}
use Rattle.be_table.specs.Steps.{KeepsSeen, entry_by}
use Rattle.be_volume.specs.Volume.{empty}
use Rattle.be_table.specs.Setting.{Setting as Limits}
use Rattle.be_table.specs.declared.pass.Move.{Move}
use Rattle.be_table.specs.declared.pass.Move.TheVariants as move
use Rattle.be_table.specs.declared.pass.Move.TheVariants.{Look, Announce, LookAgain, Lock, Publish, Unlock}
use Rattle.be_table.specs.Trace.{AllRest, HasTrace, Makes}
use Rattle.be_table.proofs.Scans.{makes_starts}
use Rattle.be_table.proofs.Worked.{works_start}
use Rattle.be_store.specs.Calls.{AreInOneTrace, Call, Calls, HasFronts, HasWrites, ReadsFronts}
use Rattle.be_store.specs.History.{Learns, LocksOnly}
use Rattle.be_store.specs.Passes.{HasRead, volume_pinned}
use Rattle.be_store.specs.SmallMachine.{Step, Apply, Learn, Pin, Unpin, Read}
use Rattle.be_store.specs.Views.{volume}
use Rattle.be_store.proofs.Applied.{entries_append}
use Rattle.be_store.proofs.Passes.{pinned_phase}

pub starts_refl : {A : Type 0} (xs : List A) → StartsWith xs xs
starts_refl xs = ([], sym (append-nil xs))

pub starts_trans : {A : Type 0} (xs ys zs : List A) → StartsWith zs ys → StartsWith ys xs → StartsWith zs xs
starts_trans xs ys zs more first = (first.0 ++ more.0, more.1 ∙ (ap (λ l. l ++ more.0) first.1 ∙ append_assoc xs first.0 more.0))

same_starts : (a c : Knowledge) → c.seen ≡ a.seen → StartsWith c.seen a.seen
same_starts a c same = subst (λ l. StartsWith l a.seen) (sym same) (starts_refl a.seen)

call_seen : (a : Knowledge) (s : Step volume) (c : Knowledge) → Call a s c → StartsWith c.seen a.seen
call_seen a (Apply e n) c (ops, dones, is, h) = (h.others ++ h.commit ∷ [], h.seen ∙ append_assoc a.seen h.others (h.commit ∷ []))
call_seen a (Learn log) c h = h.0.more
call_seen a (Pin n) c h = h.more
call_seen a Unpin c h = same_starts a c (ap (λ (k : Knowledge). k.seen) h.0)
call_seen a (Read q r) c (n, pin, is, h) = same_starts a c (ap (λ (k : Knowledge). k.seen) h)

pub calls_seen : (a : Knowledge) (steps : List (Step volume)) (z : Knowledge) → Calls a steps z → StartsWith z.seen a.seen
calls_seen a [] z h = same_starts a z (ap (λ (k : Knowledge). k.seen) (sym h))
calls_seen a (s ∷ steps) z (c, h, more) = starts_trans a.seen c.seen z.seen (calls_seen c steps z more) (call_seen a s c h)

-- One more call, and the calls after it.
pub calls_more : (a : Knowledge) (steps : List (Step volume)) (b : Knowledge) (s : Step volume) (c : Knowledge) → Calls a steps b → Call b s c → Calls a (steps ++ s ∷ []) c
calls_more a [] b s c h k = (c, subst (λ (x : Knowledge). Call x s c) (sym h) k, refl)
calls_more a (t ∷ steps) b s c (d, h, more) k = (d, h, calls_more d steps b s c more k)

pub calls_both : (a : Knowledge) (steps : List (Step volume)) (b : Knowledge) (later : List (Step volume)) (c : Knowledge) → Calls a steps b → Calls b later c → Calls a (steps ++ later) c
calls_both a [] b later c h k = subst (λ (x : Knowledge). Calls x later c) (sym h) k
calls_both a (s ∷ steps) b later c (d, h, more) k = (d, h, calls_both d steps b later c more k)

-- A read can be listed as a call that learns nothing, and so can making a witness.
pub read_learns : (a c : Knowledge) → HasRead a c → Call a (Learn (entries c.seen)) c
read_learns a c read = (
  subst (Learns a) (sym read) (record { more = starts_refl a.seen; mine = refl; pass = refl; limits = refl; pin = refl; moves = inl refl }),
  refl,
)

entries_start : (log seen : List Commit) → StartsWith log seen → StartsWith (entries log) (entries seen)
entries_start log seen h = (entries h.0, ap entries h.1 ∙ entries_append seen h.0)

-- The journal begins with what the pass had seen after any of its calls.
reaches : (log : List Entry) (a : Knowledge) (steps : List (Step volume)) (z : Knowledge) → StartsWith log (entries z.seen) → Calls a steps z → StartsWith log (entries a.seen)
reaches log a steps z more h = starts_trans (entries a.seen) (entries z.seen) log more (entries_start z.seen a.seen (calls_seen a steps z h))

pub lies_at_seam : {A : Type 0} (log xs : List A) (y : A) (rest : List A) → log ≡ xs ++ y ∷ rest → slice_get log (length xs) ≡ Some y
lies_at_seam log xs y rest is =
    let l = length-append xs (y ∷ rest) in
    ap (λ k. slice_get k (length xs)) is
    ∙ (slice_get-get_or (xs ++ y ∷ rest) (length xs) y (omega (arith, l)) ∙ ap Some (get_or-append_seam xs y rest y))

has_writes : (log : List Entry) (z : Knowledge) → StartsWith log (entries z.seen) → HasWrites log z
has_writes log z more a c cs ops n dones h calls =
    let front = entries (a.seen ++ h.others) in
    let own : entries c.seen ≡ front ++ entry_by a ops dones ∷ [] =
    ap entries h.seen ∙ (entries_append (a.seen ++ h.others) (h.commit ∷ []) ∙ ap (λ e. front ++ e ∷ []) h.entry) in
    let begun = reaches log c cs z more calls in
    let is : log ≡ front ++ entry_by a ops dones ∷ begun.0 =
    begun.1 ∙ (ap (λ l. l ++ begun.0) own ∙ append_assoc front (entry_by a ops dones ∷ []) begun.0) in
    let long = ap length h.seen in
    let parts = length-append (a.seen ++ h.others) (h.commit ∷ []) in
    let counted = length-map (a.seen ++ h.others) (λ (x : Commit). x.entry) in
    let at : n - 1 ≡ length front = omega (arith, h.number, long, parts, counted) in
    ap (slice_get log) at ∙ lies_at_seam log front (entry_by a ops dones) begun.0 is

reads_fronts : (log : List Entry) (z : Knowledge) → StartsWith log (entries z.seen) → ReadsFronts log z
reads_fronts log z more a cs n pass pin calls =
    let at = pinned_phase a.phase n pin in
    let inside : InTime (length a.seen) (Pinned at.0 n) = subst (InTime (length a.seen)) at.1 pass.pin in
    let counted = length-map a.seen (λ (x : Commit). x.entry) in
    let below : n ≤ length (entries a.seen) = omega (arith, inside.1, counted) in
    let begun = reaches log a cs z more calls in
    let read : volume_pinned a ≡ replay_from a.limits.volume (take n (entries a.seen)) = ap (λ o. option_map_or (λ m. replay_from a.limits.volume (take m (entries a.seen))) o empty) pin in
    read ∙ ap (replay_from a.limits.volume) (sym (take-append-le n (entries a.seen) begun.0 below) ∙ ap (take n) (sym begun.1))

pub all_writes : (log : List Entry) (passes : List Knowledge) → KeepsSeen log passes → All (HasWrites log) passes
all_writes log [] kept = All-nil (HasWrites log)
all_writes log (a ∷ passes) kept = All-cons (HasWrites log) a passes (has_writes log a kept.0) (all_writes log passes kept.2)

pub all_fronts : (log : List Entry) (passes : List Knowledge) → KeepsSeen log passes → All (ReadsFronts log) passes
all_fronts log [] kept = All-nil (ReadsFronts log)
all_fronts log (a ∷ passes) kept = All-cons (ReadsFronts log) a passes (reads_fronts log a kept.0) (all_fronts log passes kept.2)

-- ## Moves

same_history : (a c : Knowledge) → c.history ≡ a.history → StartsWith c.history a.history
same_history a c same = subst (λ (l : List Move). StartsWith l a.history) (sym same) (starts_refl a.history)

-- From the lock on.
worked_start : (a c : Knowledge) (locked worked own : List Move) → Makes a.number a.history (Lock a.number ∷ []) locked → StartsWith worked locked → Makes a.number worked own c.history → StartsWith c.history a.history
worked_start a c locked worked own lock work made =
    starts_trans a.history locked c.history (starts_trans locked worked c.history (makes_starts a.number worked own c.history made) work)
    (makes_starts a.number a.history (Lock a.number ∷ []) locked lock)

locks_start : (a c : Knowledge) → (c.history ≡ a.history) ⊎ LocksOnly a c → StartsWith c.history a.history
locks_start a c (inl none) = same_history a c none
locks_start a c (inr l) =
    worked_start a c l.locked l.worked (Unlock a.number ∷ []) l.lock (works_start a.limits a.number l.locked l.worked l.work) l.unlock

call_history : (a : Knowledge) (s : Step volume) (c : Knowledge) → Call a s c → StartsWith c.history a.history
call_history a (Apply e n) c (ops, dones, is, h) =
    let m = h.moves in
    worked_start a c m.locked m.worked (Publish a.number h.commit.page m.given ∷ Unlock a.number ∷ []) m.lock (works_start a.limits a.number m.locked m.worked m.work) m.publish
call_history a (Learn log) c h = locks_start a c h.0.moves
call_history a (Pin n) c h = makes_starts a.number a.history (Look a.number ∷ Announce a.number ∷ LookAgain a.number ∷ []) c.history h.moves.made
call_history a Unpin c h = makes_starts a.number a.history (move.Unpin a.number ∷ []) c.history h.1
call_history a (Read q r) c (n, pin, is, h) = same_history a c (ap (λ (k : Knowledge). k.history) h)

calls_history : (a : Knowledge) (steps : List (Step volume)) (z : Knowledge) → Calls a steps z → StartsWith z.history a.history
calls_history a [] z h = same_history a z (ap (λ (k : Knowledge). k.history) (sym h))
calls_history a (s ∷ steps) z (c, h, more) = starts_trans a.history c.history z.history (calls_history c steps z more) (call_history a s c h)

all_traced : (trace : List Move) (passes : List Knowledge) → AllRest trace passes → All (HasFronts trace) passes
all_traced trace [] rests = All-nil (HasFronts trace)
all_traced trace (z ∷ passes) rests = All-cons (HasFronts trace) z passes
    (λ c cs calls. starts_trans c.history z.history trace (rests.0.0, rests.0.2) (calls_history c cs z calls)) (all_traced trace passes rests.1)

pub in_one_trace : (limits : Limits) (passes : List Knowledge) → HasTrace limits passes → AreInOneTrace limits passes
in_one_trace limits passes h = record { has = h; fronts = all_traced h.trace passes h.rests }
