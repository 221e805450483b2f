-- Each call of a pass is a step of the small machine.
use Rattle.std.proofs.Common.{◌≡◌, ◌<◌, ◌+◌, ℕ, inl, inr, List, [], ◌∷◌, ◌++◌, length, take, Some, None, refl, sym, ap, ◌∙◌, subst}
use Rattle.std.specs.Prelude.{◌≢◌, All, AllPairs, map}
use Rattle.std.specs.Option.{option_map_or}
use Rattle.std.proofs.lemmas.List.{length-map}
use Rattle.std.proofs.lemmas.List.Elements.{All-cons, All-nil, All-head, All-tail}
use Rattle.be_journal.specs.declared.entries.Entry.{Entry}
use Rattle.be_journal.specs.Journal.{Agrees, by_pass, replay_from}
use Rattle.be_table.specs.declared.pass.Commit.{Commit}
use Rattle.be_table.specs.declared.pass.Knowledge.{Knowledge}
use Rattle.be_table.specs.History.{AreOfPasses, StartsWith}
use Rattle.be_table.specs.Rule.{entries, one_step_on}
use Rattle.be_table.specs.Seats.{pinned_number}
use Rattle.be_table.specs.Steps.{Has, KeepsSeen, entry_by, met}
use Rattle.be_volume.specs.Volume.{State, empty}
use Rattle.be_volume.specs.declared.ops.Done.{Done}
use Rattle.be_volume.specs.declared.ops.Op.{Op}
use Rattle.be_store.specs.Calls.{Call, Calls, PassCalls, known_after, views_known}
use Rattle.be_store.specs.Conditional.{AcceptsAt, IsUnapplied}
use Rattle.be_store.specs.declared.conditional.ApplyIfError.{ApplyIfError}
use Rattle.be_store.specs.declared.conditional.ApplyIfError.TheVariants.{Conflict, Refused}
use Rattle.be_store.specs.History.{Accepts, Learns, Pins, Unpins}
use Rattle.be_store.specs.SmallMachine.{PassView, Step, Apply, Learn, Pin, Unpin, Read, AreSteps, Closes, HasNumber, first_view, state_of}
use Rattle.be_store.specs.OneHistory.{PassRun, IsOneHistory, ReadsPrefix, steps_of, views_of}
use Rattle.be_store.specs.Passes.{HasRead, IsPinnedTo, volume_pinned}
use Rattle.be_store.specs.Views.{Answer, IsClosed, IsStep, view_of, volume}
use Rattle.be_store.proofs.Applied.{entries_append}
use Rattle.be_store.proofs.Calls.{starts_refl}
use Rattle.be_store.proofs.Legality.{run_number}
use Rattle.be_store.proofs.OneHistory.{one_history}

pub write_step : (a c : Knowledge) (ops : List Op) (n : ℕ) (dones : List Done) → Accepts a c ops n dones → IsStep a (Apply (entry_by a ops dones) n) c
write_step a c ops n dones h =
    let e = entry_by a ops dones in
    let front : entries (a.seen ++ h.others) ≡ entries a.seen ++ entries h.others = entries_append a.seen h.others in
    let seen : entries c.seen ≡ (entries a.seen ++ entries h.others) ++ e ∷ [] =
    ap entries h.seen
    ∙ (entries_append (a.seen ++ h.others) (h.commit ∷ [])
    ∙ (ap (λ x. entries (a.seen ++ h.others) ++ x ∷ []) h.entry ∙ ap (λ l. l ++ e ∷ []) front)) in
    let accepted : Agrees (replay_from a.limits.volume (entries a.seen ++ entries h.others)) e = subst (λ l. Agrees (replay_from a.limits.volume l) e) front h.answered in
    let number : n ≡ length (entries c.seen) = h.number ∙ sym (length-map c.seen (λ (x : Commit). x.entry)) in
    (entries h.others, refl, accepted, (λ j. record { number = h.pass j; first = (h.limits j).volume; seen = seen j; mine = h.mine j; pin = ap pinned_number h.pin j }), number)

longer_seen : (a c : Knowledge) (more : StartsWith c.seen a.seen) → entries c.seen ≡ entries a.seen ++ entries more.0
longer_seen a c more = ap entries more.1 ∙ entries_append a.seen more.0

pub learn_step : (a c : Knowledge) → Learns a c → IsStep a (Learn (entries c.seen)) c
learn_step a c h =
    let seen = longer_seen a c h.more in
    (entries h.more.0, (λ j. record { number = h.pass j; first = (h.limits j).volume; seen = seen j; mine = h.mine j; pin = ap pinned_number h.pin j }), refl)

pub pin_step : (a c : Knowledge) (n : ℕ) → Pins a c n → IsStep a (Pin n) c
pin_step a c n h =
    let seen = longer_seen a c h.more in
    let number : c.number ≡ a.number = ap (λ (k : Knowledge). k.number) h.same in
    let mine : c.mine ≡ a.mine = ap (λ (k : Knowledge). k.mine) h.same in
    let limits : c.limits.volume ≡ a.limits.volume = ap (λ (k : Knowledge). k.limits.volume) h.same in
    (entries h.more.0, (λ j. record { number = number j; first = limits j; seen = seen j; mine = mine j; pin = h.pin j }), h.number ∙ sym (length-map c.seen (λ (x : Commit). x.entry)))

pub unpin_step : (a c : Knowledge) → Unpins a c → IsStep a Unpin c
unpin_step a c h = ap view_of h.0

read_at : (a : Knowledge) (n : ℕ) → IsPinnedTo a n → volume_pinned a ≡ replay_from a.limits.volume (take n (entries a.seen))
read_at a n pin = ap (λ o. option_map_or (λ m. replay_from a.limits.volume (take m (entries a.seen))) o empty) pin

pub read_step : (a c : Knowledge) (n : ℕ) (ask : State → Answer) → IsPinnedTo a n → HasRead a c → IsStep a (Read ask (Some (ask (volume_pinned a)))) c
read_step a c n ask pin h = (n, pin, ap ask (read_at a n pin), ap view_of h)

-- A read that ran out of memory is a step, too.
pub vain_step : (a c : Knowledge) (n : ℕ) (ask : State → Answer) → IsPinnedTo a n → HasRead a c → IsStep a (Read ask None) c
vain_step a c n ask pin h = (n, pin, tt, ap view_of h)

-- A read that isn't among the steps.
pub any_read : (log : List Entry) (a : Knowledge) (n : ℕ) → ReadsPrefix volume log (view_of a) → IsPinnedTo a n → volume_pinned a ≡ state_of volume a.limits.volume (take n log)
any_read log a n h pin = read_at a n pin ∙ ap (replay_from a.limits.volume) (h n pin)

-- Refreshing a live query with `refresh_changed`. The pass learns, and then reads at the pin that
-- it had.
pub refresh_steps : (a c : Knowledge) (n : ℕ) (ask : State → Answer) → Learns a c → IsPinnedTo a n → volume_pinned c ≡ volume_pinned a
    → IsStep a (Learn (entries c.seen)) c × IsStep c (Read ask (Some (ask (volume_pinned a)))) c
refresh_steps a c n ask h pin same =
    let pinned : IsPinnedTo c n = ap pinned_number h.pin ∙ pin in
    (learn_step a c h, subst (λ (v : State). IsStep c (Read ask (Some (ask v))) c) same (read_step c c n ask pinned refl))

pub meeting_call : (a c : Knowledge) (log : List Commit) → StartsWith log a.seen → c ≡ met a log → Call a (Learn (entries log)) c
meeting_call a c log more h = (
  subst (Learns a) (sym h) (record { more = more; mine = refl; pass = refl; limits = refl; pin = refl; moves = inl refl }),
  ap (λ (k : Knowledge). entries k.seen) (sym h),
)

pub witness_call : (a c : Knowledge) → c ≡ one_step_on a → Call a (Learn (entries a.seen)) c
witness_call a c h = (
  subst (Learns a) (sym h) (record { more = starts_refl a.seen; mine = refl; pass = refl; limits = refl; pin = refl; moves = inl refl }),
  ap (λ (k : Knowledge). entries k.seen) (sym h),
)

pub write_if_step : (a c : Knowledge) (number : ℕ) (ops : List Op) (n : ℕ) (dones : List Done) → AcceptsAt a c number ops n dones
    → IsStep a (Apply (entry_by a ops dones) (number + 1)) c × (IsPinnedTo a number → Agrees (volume_pinned a) (entry_by a ops dones))
write_if_step a c number ops n dones h =
    (subst (λ m. IsStep a (Apply (entry_by a ops dones) m) c) h.next (write_step a c ops n dones h.accepts), h.read)

pub refused_if_step : (a c : Knowledge) (number : ℕ) (ops : List Op) (e : ApplyIfError) → IsUnapplied a c number ops e → IsStep a (Learn (entries c.seen)) c
refused_if_step a c number ops (Conflict found) h = learn_step a c h.learns
refused_if_step a c number ops (Refused e) h = learn_step a c h.0

-- What a Conflict and a meeting return.
pub seen_number : (log : List Commit) → length (entries log) ≡ length log
seen_number log = length-map log (λ (x : Commit). x.entry)

pub conflict_number : (a c : Knowledge) (number found : ℕ) (ops : List Op) → IsUnapplied a c number ops (Conflict found) → found ≡ length (entries c.seen)
conflict_number a c number found ops h = h.found_is ∙ sym (seen_number c.seen)

pub call_step : (a : Knowledge) (s : Step volume) (c : Knowledge) → Call a s c → IsStep a s c
call_step a (Apply e n) c (ops, dones, is, h) = subst (λ (x : Entry). IsStep a (Apply x n) c) (sym is) (write_step a c ops n dones h)
call_step a (Learn log) c h = subst (λ (l : List Entry). IsStep a (Learn l) c) (sym h.1) (learn_step a c h.0)
call_step a (Pin n) c h = pin_step a c n h
call_step a Unpin c h = unpin_step a c h
call_step a (Read ask None) c (n, pin, is, h) = vain_step a c n ask pin h
call_step a (Read ask (Some r)) c (n, pin, is, h) = subst (λ (x : Answer). IsStep a (Read ask (Some x)) c) (sym is) (read_step a c n ask pin h)

pub calls_run : (a : Knowledge) (steps : List (Step volume)) (z : Knowledge) (calls : Calls a steps z)
    → (run : List (Step volume × PassView volume)) × AreSteps volume (view_of a) run (view_of z) × (map (λ (x : Step volume × PassView volume). x.0) run ≡ steps)
    × (map (λ (x : Step volume × PassView volume). x.1) run ≡ map view_of (known_after a steps z calls))
calls_run a [] z h = ([], ap view_of h, refl, refl)
calls_run a (s ∷ steps) z h =
    let c = h.0 in
    let r = calls_run c steps z h.2 in ((s, view_of c) ∷ r.0, (call_step a s c h.1, r.1), ap (λ l. s ∷ l) r.2, ap (λ l. view_of c ∷ l) r.3)

-- Calls don't change the number of the pass.
pub calls_number : (a : Knowledge) (steps : List (Step volume)) (z : Knowledge) → Calls a steps z → z.number ≡ a.number
calls_number a steps z h = let r = calls_run a steps z h in run_number volume (view_of a) r.0 (view_of z) r.1

-- ## The journal at the end

abbrev SeenIn : List Entry → PassView volume → Type 0
SeenIn log z = StartsWith log z.seen

abbrev OwnIn : List Entry → PassView volume → Type 0
OwnIn log z = by_pass z.number log ≡ z.mine

all_seen : (log : List Entry) (passes : List Knowledge) → KeepsSeen log passes → All (SeenIn log) (map view_of passes)
all_seen log [] kept = All-nil (SeenIn log)
all_seen log (a ∷ passes) kept = All-cons (SeenIn log) (view_of a) (map view_of passes) kept.0 (all_seen log passes kept.2)

all_own : (log : List Entry) (passes : List Knowledge) → KeepsSeen log passes → All (OwnIn log) (map view_of passes)
all_own log [] kept = All-nil (OwnIn log)
all_own log (a ∷ passes) kept = All-cons (OwnIn log) (view_of a) (map view_of passes) kept.1 (all_own log passes kept.2)

has_number : (passes : List Knowledge) (k : ℕ) → Has passes k → HasNumber volume (map view_of passes) k
has_number [] k has = has
has_number (a ∷ passes) k (inl is) = inl is
has_number (a ∷ passes) k (inr has) = inr (has_number passes k has)

abbrev ByOneOf : List Knowledge → Entry → Type 0
ByOneOf passes e = HasNumber volume (map view_of passes) e.by

all_by : (count : ℕ) (log : List Entry) (passes : List Knowledge) → AreOfPasses count log → ((k : ℕ) → k < count → Has passes k) → All (ByOneOf passes) log
unfolding AreOfPasses
all_by count [] passes by all = All-nil (ByOneOf passes)
all_by count (e ∷ log) passes by all = All-cons (ByOneOf passes) e log (has_number passes e.by (all e.by by.0)) (all_by count log passes by.1 all)

view_numbers : (passes : List Knowledge) → map (λ (a : Knowledge). a.number) passes ≡ map (λ (z : PassView volume). z.number) (map view_of passes)
view_numbers [] = refl
view_numbers (a ∷ passes) = ap (λ l. a.number ∷ l) (view_numbers passes)

all_first : (first : State) (passes : List Knowledge) → All (λ (a : Knowledge). a.limits.volume ≡ first) passes → All (λ (z : PassView volume). z.first ≡ first) (map view_of passes)
all_first first [] begins = All-nil (λ (z : PassView volume). z.first ≡ first)
all_first first (a ∷ passes) begins =
    All-cons (λ (z : PassView volume). z.first ≡ first) (view_of a) (map view_of passes) (All-head (λ (k : Knowledge). k.limits.volume ≡ first) a passes begins)
    (all_first first passes (All-tail (λ (k : Knowledge). k.limits.volume ≡ first) a passes begins))

pub closing : (first : State) (count : ℕ) (log : List Entry) (passes : List Knowledge) → IsClosed first count log passes → Closes volume first log (map view_of passes)
closing first count log passes h = let kept = h.keeps in record { first = all_first first passes h.first; apart = subst (AllPairs ◌≢◌) (view_numbers passes) h.apart; authors = all_by count log passes h.by h.all; seen = all_seen log passes kept; mine = all_own log passes kept }

pub given_runs : (first : State) (count : ℕ) (log : List Entry) (passes : List Knowledge) (runs : List (PassRun volume)) → IsClosed first count log passes → map (λ (r : PassRun volume). r.last) runs ≡ map view_of passes → IsOneHistory volume first log runs
given_runs first count log passes runs h same = one_history volume first log runs (subst (Closes volume first log) (sym same) (closing first count log passes h))

-- The runs of these passes, in order.
pub record AreRunsOf (passes : List PassCalls) (runs : List (PassRun volume)) : Type 0 where
  pub numbers : map (λ (r : PassRun volume). r.number) runs ≡ map (λ (p : PassCalls). p.first.number) passes
  pub steps : map (steps_of volume) runs ≡ map (λ (p : PassCalls). p.steps) passes
  pub views : map (views_of volume) runs ≡ map views_known passes
  pub last : map (λ (r : PassRun volume). r.last) runs ≡ map view_of (map (λ (p : PassCalls). p.last) passes)

runs_of : (passes : List PassCalls) → (runs : List (PassRun volume)) × AreRunsOf passes runs
runs_of [] = ([], record { numbers = refl; steps = refl; views = refl; last = refl })
runs_of (p ∷ passes) =
    let made = calls_run p.first p.steps p.last p.made in
    let run : AreSteps volume (first_view volume p.first.limits.volume p.first.number) made.0 (view_of p.last) = subst (λ (v : PassView volume). AreSteps volume v made.0 (view_of p.last)) p.new made.1 in
    let more = runs_of passes in (
      record { number = p.first.number; first = p.first.limits.volume; steps = made.0; last = view_of p.last; run = run } ∷ more.0,
      record {
        numbers = ap (λ l. p.first.number ∷ l) more.1.numbers;
        steps = (λ j. made.2 j ∷ more.1.steps j);
        views = (λ j. made.3 j ∷ more.1.views j);
        last = ap (λ l. view_of p.last ∷ l) more.1.last;
      },
    )

pub some_runs : (first : State) (count : ℕ) (log : List Entry) (passes : List PassCalls) → IsClosed first count log (map (λ (p : PassCalls). p.last) passes) → (runs : List (PassRun volume))
    × (map (λ (r : PassRun volume). r.number) runs ≡ map (λ (p : PassCalls). p.first.number) passes) × (map (steps_of volume) runs ≡ map (λ (p : PassCalls). p.steps) passes)
    × (map (views_of volume) runs ≡ map views_known passes) × (map (λ (r : PassRun volume). r.last) runs ≡ map view_of (map (λ (p : PassCalls). p.last) passes))
    × IsOneHistory volume first log runs
some_runs first count log passes h =
    let r = runs_of passes in
    (r.0, r.1.numbers, r.1.steps, r.1.views, r.1.last, given_runs first count log (map (λ (p : PassCalls). p.last) passes) r.0 h r.1.last)
