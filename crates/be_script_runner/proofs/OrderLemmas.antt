-- The calls of several passes in one order.
use Rattle.std.proofs.Common.{◌≡◌, ◌⊎◌, ◌+◌, ◌-◌, ℕ, List, [], ◌∷◌, ◌++◌, All, drop, length, take, Option, Some, None, refl, sym, ap, ◌∙◌, arith, inl, inr}
use Rattle.std.specs.Prelude.{slice_get}
use Rattle.std.specs.Option.{option_map, option_map_or}
use Rattle.std.proofs.lemmas.List.{length-map, take-append-drop, take-append-le}
use Rattle.std.proofs.lemmas.List.Elements.{All-head, All-tail}
use Rattle.std.proofs.Math.Seq.{take-length}
use Rattle.be_journal.specs.Journal.{replay, replay_from}
use Rattle.be_journal.specs.declared.entries.Entry.{Entry}
use Rattle.be_store.specs.Calls.{Call, Calls, HasFronts, HasWrites}
use Rattle.be_store.specs.History.{Accepts, Pins}
use Rattle.be_store.specs.Passes.{volume_pinned, volume_seen}
use Rattle.be_store.specs.SmallMachine.{Step, Apply, Learn, Pin, Unpin, Read}
use Rattle.be_store.specs.Views.{volume}
use Rattle.be_store.proofs.Applied.{entries_append}
use Rattle.be_store.proofs.Calls.{calls_seen, starts_trans}
use Rattle.be_store.proofs.Learned.{current_later}
use Rattle.be_table.specs.History.{StartsWith}
use Rattle.be_table.specs.Rule.{entries, newcomer}
use Rattle.be_table.specs.Setting.{Setting}
use Rattle.be_table.specs.Steps.{KeepsSeen, entry_by}
use Rattle.be_table.specs.declared.pass.Commit.{Commit}
use Rattle.be_table.specs.declared.pass.Knowledge.{Knowledge}
use Rattle.be_table.specs.declared.pass.Move.{Move}
use Rattle.be_table.specs.Seats.{pinned_number}
use Rattle.be_volume.specs.Volume.{State, empty}
use Rattle.be_volume.specs.declared.ops.Done.{Done}
use Rattle.be_volume.specs.declared.ops.Op.{Op}
use Rattle.be_script_runner.specs.Lines.{AreAnsweredBy}
use Rattle.be_script_runner.specs.Output.{Session, opening}
use Rattle.be_script_language.specs.Request.{lines_of}
use Rattle.be_script_runner.specs.Served.{known, pin_at}
use Rattle.be_script_runner.specs.Store.{PinnedVolume, viewed}
use Rattle.be_script_runner.specs.Order.{AreInOneOrder, AreServedBy, FollowOneOrder, IsMoment}

grown : {A : Type 0} (x y : A) (xs ys rest : List A) → x ≡ y → ys ≡ xs ++ rest → y ∷ ys ≡ x ∷ (xs ++ rest)
grown x y xs ys rest heads is = cc

-- of two prefixes of a list, one is a prefix of the other
either_front : {A : Type 0} (xs ys more rest : List A) → xs ++ more ≡ ys ++ rest → StartsWith ys xs ⊎ StartsWith xs ys
either_front [] ys more rest same = inl (ys, refl)
either_front (x ∷ xs) [] more rest same = inr (x ∷ xs, refl)
either_front {A} (x ∷ xs) (y ∷ ys) more rest same = by (either_front xs ys more rest (let e : xs ++ more ≡ ys ++ rest = cc in e))
  where
    by : StartsWith ys xs ⊎ StartsWith xs ys → StartsWith (y ∷ ys) (x ∷ xs) ⊎ StartsWith (x ∷ xs) (y ∷ ys)
    by (inl h) = inl (h.0, grown x y xs ys h.0 (let e : x ≡ y = cc in e) h.1)
    by (inr h) = inr (h.0, grown y x ys xs h.0 (let e : y ≡ x = cc in e) h.1)

moment_front : (trace : List Move) (passes : List Knowledge) (c : Knowledge) → All (HasFronts trace) passes → IsMoment passes c → StartsWith trace c.history
moment_front trace [] c all m = absurd m
moment_front trace (z ∷ passes) c all (inl h) = All-head (HasFronts trace) z passes all c h.0 h.1
moment_front trace (z ∷ passes) c all (inr h) = moment_front trace passes c (All-tail (HasFronts trace) z passes all) h

entries_start : (log seen : List Commit) → StartsWith log seen → StartsWith (entries log) (entries seen)
entries_start log seen h = (entries h.0, ap entries h.1 ∙ entries_append seen h.0)

moment_seen : (journal : List Entry) (passes : List Knowledge) (c : Knowledge) → KeepsSeen journal passes → IsMoment passes c → StartsWith journal (entries c.seen)
moment_seen journal [] c kept m = absurd m
moment_seen journal (z ∷ passes) c kept (inl h) = starts_trans (entries c.seen) (entries z.seen) journal kept.0 (entries_start z.seen c.seen (calls_seen c h.0 z h.1))
moment_seen journal (z ∷ passes) c kept (inr h) = moment_seen journal passes c kept.2 h

moment_writes : (journal : List Entry) (passes : List Knowledge) (a c : Knowledge) (ops : List Op) (n : ℕ) (dones : List Done) → All (HasWrites journal) passes → IsMoment passes c →
    Accepts a c ops n dones → slice_get journal (n - 1) ≡ Some (entry_by a ops dones)
moment_writes journal [] a c ops n dones all m accepted = absurd m
moment_writes journal (z ∷ passes) a c ops n dones all (inl h) accepted = All-head (HasWrites journal) z passes all a c h.0 ops n dones accepted h.1
moment_writes journal (z ∷ passes) a c ops n dones all (inr h) accepted =
    moment_writes journal passes a c ops n dones (All-tail (HasWrites journal) z passes all) h accepted

-- a prefix consists of the list's first elements
first_elements : {A : Type 0} (log xs : List A) → StartsWith log xs → xs ≡ take (length xs) log
first_elements log xs h =
    sym (ap (take (length xs)) h.1 ∙ (take-append-le (length xs) xs h.0 (omega arith) ∙ take-length xs))

-- ## What a store begins with

call_begins : (a : Knowledge) (s : Step volume) (c : Knowledge) → Call a s c → c.limits ≡ a.limits
call_begins a (Apply e n) c (ops, dones, is, h) = h.limits
call_begins a (Learn log) c h = h.0.limits
call_begins a (Pin n) c h = ap (λ (k : Knowledge). k.limits) h.same
call_begins a Unpin c h = ap (λ (k : Knowledge). k.limits) h.0
call_begins a (Read q r) c (n, pin, is, h) = ap (λ (k : Knowledge). k.limits) h

calls_begin : (a : Knowledge) (steps : List (Step volume)) (z : Knowledge) → Calls a steps z → z.limits ≡ a.limits
calls_begin a [] z h = ap (λ (k : Knowledge). k.limits) (sym h)
calls_begin a (s ∷ steps) z (c, h, more) = calls_begin c steps z more ∙ call_begins a s c h

answers_begin : (a : Knowledge) (s : Session) (lines : List (List ℕ)) (z : Knowledge) (last : Session) (out : List ℕ) → AreAnsweredBy a s lines z last out → z.limits ≡ a.limits
answers_begin a s [] z last out h = ap (λ (k : Knowledge). k.limits) h.0
answers_begin a s (line ∷ lines) z last out (c, after, reply, rest, h, more, is) =
    answers_begin c after lines z last rest more ∙ calls_begin a h.calls.0 c h.calls.1

-- at each moment, a pass belongs to a store that began like this
moment_begins : (setting : Setting) (k : ℕ) (scripts : List (List ℕ)) (passes : List Knowledge) (texts : List (List ℕ)) (c : Knowledge) → AreServedBy setting k scripts passes texts → IsMoment passes c →
    c.limits ≡ setting
moment_begins setting k scripts [] texts c h m = absurd m
moment_begins setting k [] (z ∷ passes) texts c h m = absurd h
moment_begins setting k (script ∷ scripts) (z ∷ passes) [] c h m = absurd h
moment_begins setting k (script ∷ scripts) (z ∷ passes) (text ∷ texts) c h (inl m) =
    let first : Knowledge = newcomer setting (k + 1) k in
    sym (calls_begin c m.0 z m.1) ∙ answers_begin first (opening (known first)) (lines_of script) z h.0.last text h.0.lines
moment_begins setting k (script ∷ scripts) (z ∷ passes) (text ∷ texts) c h (inr m) = moment_begins setting (k + 1) scripts passes texts c h.1 m

-- what a pass shows is the volume after a prefix of what it has seen
shown_prefix : (c : Knowledge) (journal : List Entry) → StartsWith journal (entries c.seen) → (n : ℕ) × (viewed (known c) ≡ replay_from c.limits.volume (take n journal))
shown_prefix c journal front = by (pinned_number c.phase) refl
  where
    shown : Option ℕ → State
    shown o = option_map_or (λ (p : PinnedVolume). p.volume) (option_map (pin_at c) o) (volume_seen c)

    by : (o : Option ℕ) → pinned_number c.phase ≡ o → (n : ℕ) × (viewed (known c) ≡ replay_from c.limits.volume (take n journal))
    by None e = (length (entries c.seen), ap shown e ∙ ap (replay_from c.limits.volume) (first_elements journal (entries c.seen) front))
    by (Some n) e =
        let first = take n (entries c.seen) in
        let inside : StartsWith (entries c.seen) first = (drop n (entries c.seen), sym (take-append-drop n (entries c.seen))) in
        (length first, ap shown e ∙ ap (replay_from c.limits.volume) (first_elements journal first (starts_trans first (entries c.seen) journal front inside)))

pinned_read : (d : Knowledge) (m : ℕ) (journal : List Entry) (b : Knowledge) → Pins b d m → StartsWith journal (entries d.seen) → volume_pinned d ≡ replay_from d.limits.volume (take m journal)
pinned_read d m journal b p front =
    let count : m ≡ length (entries d.seen) = p.number ∙ sym (length-map d.seen (λ (x : Commit). x.entry)) in
    let all : take m (entries d.seen) ≡ take m journal =
    ap (λ k. take k (entries d.seen)) count ∙ (take-length (entries d.seen) ∙ (first_elements journal (entries d.seen) front ∙ ap (λ k. take k journal) (sym count))) in
    ap (λ o. option_map_or (λ k. replay_from d.limits.volume (take k (entries d.seen))) o empty) p.pin ∙ ap (replay_from d.limits.volume) all

shown_at : (c : Knowledge) (journal : List Entry) → c.limits.volume ≡ empty → StartsWith journal (entries c.seen) → (n : ℕ) × (viewed (known c) ≡ replay (take n journal))
shown_at c journal begun front =
    let shown = shown_prefix c journal front in
    (shown.0, shown.1 ∙ ap (λ v. replay_from v (take shown.0 journal)) begun)

pub follows_one_order : (setting : Setting) (scripts : List (List ℕ)) (journal : List Entry) (passes : List Knowledge) (texts : List (List ℕ)) → setting.volume ≡ empty →
    AreServedBy setting 0 scripts passes texts → AreInOneOrder setting journal passes → FollowOneOrder journal passes
follows_one_order setting scripts journal passes texts first served o = record {
  total = λ c d m n.
      let first = moment_front o.moves.has.trace passes c o.moves.fronts m in
      let second = moment_front o.moves.has.trace passes d o.moves.fronts n in
      either_front c.history d.history first.0 second.0 (sym first.1 ∙ second.1);
  seen = λ c m. moment_seen journal passes c o.kept m;
  shows = λ c m. shown_at c journal (begun c m) (moment_seen journal passes c o.kept m);
  writes = λ a c ops n dones m accepted. moment_writes journal passes a c ops n dones o.writes m accepted;
  reads = λ b d m moment p.
      pinned_read d m journal b p (moment_seen journal passes d o.kept moment) ∙ ap (λ v. replay_from v (take m journal)) (begun d moment);
  later = λ a c b d ops n m dones h p before.
      let l = current_later c d _ _ h.moves.at p.moves.at before in omega (arith, h.number, p.number, p.moves.at.so, l);
}
  where
    begun : (c : Knowledge) → IsMoment passes c → c.limits.volume ≡ empty
    begun c m = ap (λ (s : Setting). s.volume) (moment_begins setting 0 scripts passes texts c served m) ∙ first
