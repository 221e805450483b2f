-- What the script of a volume's state produces, and the number of writes that it takes.
use Rattle.std.proofs.Common.{◌≡◌, ◌<◌, ◌≤◌, ◌+◌, ◌*◌, ◌-◌, ◌^◌, ℕ, zero, suc, Bool, false, true, List, [], ◌∷◌, ◌++◌, All, fold, length, take, drop, take-append-drop, append_assoc, length-append, IsOk, refl, sym, ap, subst, ◌∙◌, arith}
use Rattle.std.proofs.lemmas.Grind.{fold-append}
use Rattle.std.proofs.lemmas.List.{append-nil, length-drop, length-map, length-take}
use Rattle.std.proofs.lemmas.List.Elements.{All-cons, All-drop, All-head, All-nil, All-tail, All-take, All-weaker}
use Rattle.std.specs.List.{flat_map}
use Rattle.std.specs.Prelude.{⊤}
use Rattle.std.specs.Result.{result_map_both}
use Rattle.std.specs.declared.result.Result.{Result}
use Rattle.std.specs.declared.result.Result.TheVariants.{Ok, Err}
use Rattle.be_journal_text.specs.Dump.{by_only_pass, cut, cut_lines, cut_within, dump, state_dump, write_lines}
use Rattle.be_journal_text.specs.History.{CanBeEntry, CanBeJournal, CanBeOp}
use Rattle.be_journal_text.proofs.CutLemmas.{few_lists}
use Rattle.be_journal.specs.Journal.{Agrees, HasOperations, IsLegal, replay}
use Rattle.be_journal.specs.declared.entries.Entry.{Entry}
use Rattle.be_journal.proofs.LegalLemmas.{legal_push, replay_push}
use Rattle.be_journal.proofs.SoundLemmas.{replay_sound}
use Rattle.be_volume_state.specs.Rebuilding.{IsNumbered, state_ops}
use Rattle.be_volume.proofs.Soundness.{empty_sound}
use Rattle.be_volume_state.proofs.Numbering.{empty_numbered, stays_numbered}
use Rattle.be_volume_state.proofs.Rebuilt.{is_accepted, is_same}
use Rattle.be_volume_state.proofs.Weights.{fewest}
use Rattle.be_table.proofs.Answers.{answers_each}
use Rattle.be_value.specs.declared.refusals.Refusal.{Refusal}
use Rattle.be_volume.specs.Ahead.{reached, state_after}
use Rattle.be_volume.specs.Sound.{IsOperation, IsSound}
use Rattle.be_volume.specs.Volume.{State, advance, empty, step, steps}
use Rattle.be_volume.specs.declared.ops.Done.{Done}
use Rattle.be_volume.specs.declared.ops.Op.{Op}
use Rattle.be_volume.proofs.StepLemmas.{refused_stays}
use Rattle.be_script_runner.specs.Output.{IsOutputTo}
use Rattle.be_script_runner.specs.Store.{start}
use Rattle.be_script_runner.specs.JournalRuns.{MakesVolume, dump_output, made}
use Rattle.be_script_runner.proofs.DumpLemmas.{HasWrite, writes_made}

abbrev Outcome : Type 0
Outcome = Result (State × List Done) Refusal

-- both are refused, or both reach the same state
abbrev Alike : Outcome → Outcome → Type 0
Alike (Ok a) (Ok b) = a.0 ≡ b.0
Alike (Ok a) (Err f) = ⊥
Alike (Err e) (Ok b) = ⊥
Alike (Err e) (Err f) = ⊤

step_alike : (old new : List Done) (r : Result (State × Done) Refusal) →
    Alike (result_map_both (λ (answer : State × Done). (answer.0, old ++ answer.1 ∷ [])) (λ (e : Refusal). e) r)
    (result_map_both (λ (answer : State × Done). (answer.0, new ++ answer.1 ∷ [])) (λ (e : Refusal). e) r)
step_alike old new (Ok x) = refl
step_alike old new (Err e) = tt

advanced_alike : (r q : Outcome) (op : Op) → Alike r q → Alike (advance r op) (advance q op)
advanced_alike (Ok a) (Ok b) op same = subst (λ (s : State). Alike (advance (Ok a) op) (advance (Ok (s, b.1)) op)) same (step_alike a.1 b.1 (step a.0 op))
advanced_alike (Ok a) (Err f) op same = absurd same
advanced_alike (Err e) (Ok b) op same = absurd same
advanced_alike (Err e) (Err f) op same = tt

all_alike : (r q : Outcome) (ops : List Op) → Alike r q → Alike (fold advance r ops) (fold advance q ops)
all_alike r q [] same = same
all_alike r q (op ∷ ops) same = all_alike (advance r op) (advance q op) ops (advanced_alike r q op same)

never_ok : {A : Type 0} (e : Refusal) → IsOk {T = State × List Done} (Err e) → A
never_ok e ok = absurd (no ok)
  where
    no : false ≡ true → ⊥
    no h = cc

-- the state that is reached doesn't depend on the earlier outcomes
reached_alike : (s t : State) (r q : Outcome) → Alike r q → IsOk r → IsOk q × (reached s r ≡ reached t q)
reached_alike s t (Ok a) (Ok b) same ok = (refl, same)
reached_alike s t (Ok a) (Err f) same ok = absurd same
reached_alike s t (Err e) q same ok = never_ok e ok

answered : (x : State × List Done) (q : Outcome) → Alike (Ok x) q → (dones : List Done) × (q ≡ Ok (x.0, dones))
answered x (Ok y) same = (y.1, ap (λ (u : State). Ok (u, y.1)) (sym same))
answered x (Err e) same = absurd same

-- operations in two parts, each of which is accepted
record InTwo (t : State) (xs ys : List Op) : Type 0 where
  dones : List Done
  front : steps t xs ≡ Ok (state_after t xs, dones)
  back : IsOk (steps (state_after t xs) ys)
  last : state_after t (xs ++ ys) ≡ state_after (state_after t xs) ys

in_two : (t : State) (xs ys : List Op) → IsOk (steps t (xs ++ ys)) → InTwo t xs ys
in_two t xs ys ok = by (steps t xs) refl
  where
    whole : steps t (xs ++ ys) ≡ fold advance (steps t xs) ys
    whole = fold-append advance (Ok (t, [])) xs ys

    by : (r : Outcome) → steps t xs ≡ r → InTwo t xs ys
    by (Err e) h = never_ok e (subst (λ (r : Outcome). IsOk r) (whole ∙ ap (λ (r : Outcome). fold advance r ys) h ∙ refused_stays e ys) ok)
    by (Ok x) h =
        let here : state_after t xs ≡ x.0 = ap (reached t) h in
        let there : steps t (xs ++ ys) ≡ fold advance (Ok x) ys = whole ∙ ap (λ (r : Outcome). fold advance r ys) h in
        let both = reached_alike t x.0 (fold advance (Ok x) ys) (steps x.0 ys) (all_alike (Ok x) (Ok (x.0, [])) ys refl) (subst (λ (r : Outcome). IsOk r) there ok) in
        record {
          dones = x.1;
          front = h ∙ ap (λ (u : State). Ok (u, x.1)) (sym here);
          back = subst (λ (u : State). IsOk (steps u ys)) (sym here) both.0;
          last = ap (reached t) there ∙ both.1 ∙ sym (ap (λ (u : State). state_after u ys) here);
        }

-- Entries that are appended to others, each with one list of operations, and the volume after them.
record Built (front : List Entry) (lists : List (List Op)) (last : State) : Type 0 where
  entries : List Entry
  legal : IsLegal (front ++ entries)
  volume : replay (front ++ entries) ≡ last
  can : All HasWrite entries
  lines : dump entries ≡ flat_map write_lines lists
  count : length entries ≡ length lists

nothing : (front : List Entry) → IsLegal front → Built front [] (replay front)
nothing front legal = record {
  entries = [];
  legal = subst IsLegal (sym (append-nil front)) legal;
  volume = ap replay (append-nil front);
  can = All-nil HasWrite;
  lines = refl;
  count = refl;
}

built : (most : ℕ) (front : List Entry) (ops : List Op) → length ops ≤ most → IsLegal front → IsOk (steps (replay front) ops) → All CanBeOp ops →
    Built front (cut_within most ops) (state_after (replay front) ops)
built zero front [] few legal ok can = nothing front legal
built zero front (op ∷ ops) few legal ok can = absurd (omega (arith, few))
built (suc most) front [] few legal ok can = nothing front legal
built (suc most) front (op ∷ ops) few legal ok can =
    let list : List Op = take 64 (op ∷ ops) in
    let rest : List Op = drop 64 (op ∷ ops) in
    let whole : list ++ rest ≡ op ∷ ops = take-append-drop 64 (op ∷ ops) in
    let two : InTwo (replay front) list rest = in_two (replay front) list rest (subst (λ (l : List Op). IsOk (steps (replay front) l)) (sym whole) ok) in
    let entry : Entry = record { by = 0; ops = list; dones = two.dones } in
    let agrees : Agrees (replay front) entry = (state_after (replay front) list, two.front) in
    let after : replay (front ++ entry ∷ []) ≡ state_after (replay front) list = replay_push empty front entry in
    let less : length (drop 64 (op ∷ ops)) ≡ length (op ∷ ops) - 64 = length-drop 64 (op ∷ ops) in
    let sizes = length-take 64 (op ∷ ops) in
    let some : 1 ≤ length (take 64 (op ∷ ops)) = omega (arith, sizes) in
    let most_64 : length (take 64 (op ∷ ops)) ≤ 64 = omega (arith, sizes) in
    let each : length two.dones ≡ length list = answers_each (replay front) entry agrees in
    let accepted : IsOk (steps (replay (front ++ entry ∷ [])) rest) = subst (λ (u : State). IsOk (steps u rest)) (sym after) two.back in
    let r : Built (front ++ entry ∷ []) (cut_within most rest) (state_after (replay (front ++ entry ∷ [])) rest) =
    built most (front ++ entry ∷ []) rest (omega (arith, less, few)) (legal_push empty front entry legal agrees) accepted (All-drop CanBeOp 64 (op ∷ ops) can) in
    let parted : (front ++ entry ∷ []) ++ r.entries ≡ front ++ entry ∷ r.entries = append_assoc front (entry ∷ []) r.entries in
    record {
      entries = entry ∷ r.entries;
      legal = subst IsLegal parted r.legal;
      volume = ap replay (sym parted) ∙ r.volume ∙ ap (λ (u : State). state_after u rest) after ∙ sym two.last
          ∙ ap (λ (l : List Op). state_after (replay front) l) whole;
      can = All-cons HasWrite entry r.entries ((some, most_64, each), All-take CanBeOp 64 (op ∷ ops) can) r.can;
      lines = ap (λ (l : List ℕ). write_lines list ++ l) r.lines;
      count = ap suc r.count;
    }

-- the operations of writes that the volume accepts
record Makes (s : State) (most : ℕ) : Type 0 where
  ops : List Op
  dones : List Done
  is : steps empty ops ≡ Ok (s, dones)
  few : length ops ≤ most

makes_more : (s : State) (most : ℕ) (ops : List Op) → length ops ≤ 64 → Makes s most → Makes (state_after s ops) (most + 64)
makes_more s most ops few m = by (steps s ops) refl
  where
    by : (r : Outcome) → steps s ops ≡ r → Makes (state_after s ops) (most + 64)
    by (Err e) h = let old : length m.ops ≤ most = m.few in record {
      ops = m.ops;
      dones = m.dones;
      is = m.is ∙ ap (λ (u : State). Ok (u, m.dones)) (sym (ap (reached s) h));
      few = omega (arith, old);
    }
    by (Ok x) h =
        let old : length m.ops ≤ most = m.few in
        let alike : Alike (Ok x) (fold advance (Ok (s, m.dones)) ops) = subst (λ (r : Outcome). Alike r (fold advance (Ok (s, m.dones)) ops)) h (all_alike (Ok (s, [])) (Ok (s, m.dones)) ops refl) in
        let a = answered x (fold advance (Ok (s, m.dones)) ops) alike in record {
          ops = m.ops ++ ops;
          dones = a.0;
          is = fold-append advance (Ok (empty, [])) m.ops ops ∙ ap (λ (r : Outcome). fold advance r ops) m.is ∙ a.1 ∙ ap (λ (u : State). Ok (u, a.0)) (sym (ap (reached s) h));
          few = omega (arith, old, few, length-append m.ops ops);
        }

makes_all : (s : State) (most : ℕ) (entries : List Entry) → All HasOperations entries → Makes s most → Makes (fold (λ t entry. state_after t entry.ops) s entries) (most + 64 * length entries)
makes_all s most [] are m = let old : length m.ops ≤ most = m.few in record { ops = m.ops; dones = m.dones; is = m.is; few = omega (arith, old) }
makes_all s most (entry ∷ entries) are m =
    let have : HasOperations entry = All-head HasOperations entry entries are in
    let r = makes_all (state_after s entry.ops) (most + 64) entries (All-tail HasOperations entry entries are) (makes_more s most entry.ops have.0 m) in
    let old : length r.ops ≤ (most + 64) + 64 * length entries = r.few in
    record { ops = r.ops; dones = r.dones; is = r.is; few = omega (arith, old) }

nothing_made : Makes empty 0
nothing_made = record { ops = []; dones = []; is = refl; few = omega arith }

-- there are no more operations than the entries can hold
few_ops : (entries : List Entry) → All HasOperations entries → length (state_ops (replay entries)) ≤ 64 * length entries
few_ops entries are =
    let m = makes_all empty 0 entries are nothing_made in
    let old : length m.ops ≤ 0 + 64 * length entries = m.few in
    let least : length (state_ops (replay entries)) ≤ length m.ops = fewest (replay entries) m.dones m.ops m.is in
    omega (arith, old, least)

numbered : (s : State) (entries : List Entry) → IsNumbered s → IsNumbered (fold (λ t entry. state_after t entry.ops) s entries)
numbered s [] is = is
numbered s (entry ∷ entries) is = numbered (state_after s entry.ops) entries (stays_numbered s entry.ops is)

has_operations : (entry : Entry) → CanBeEntry entry → HasOperations entry
has_operations entry w = (w.is.1, All-weaker CanBeOp IsOperation (λ op can. can.0) entry.ops w.ops)

none_legal : IsLegal []
none_legal i entry short is = absurd (omega (arith, short))

-- operations that the empty volume accepts rebuild the volume that they leave, if they are written
-- in lists of 64
list_made : (limit most : ℕ) (ops : List Op) (volume : State) → IsOk (steps empty ops) → state_after empty ops ≡ volume → All CanBeOp ops →
    length ops ≤ 64 * most → most ≤ limit → MakesVolume limit (cut_lines ops) volume most
list_made limit most ops volume accepted same can few short =
    let b : Built [] (cut ops) (state_after empty ops) = built (length ops) [] ops (omega arith) none_legal accepted can in
    let lists : length (cut ops) ≤ most = few_lists most ops few in
    let count : length b.entries ≡ length (cut ops) = b.count in
    record {
      last = made limit b.entries;
      replies = dump_output 1 b.entries;
      output = subst (λ (text : List ℕ). IsOutputTo (start limit) text (made limit b.entries) (dump_output 1 b.entries)) b.lines
          (writes_made limit b.entries b.can b.legal (omega (arith, lists, count, short)));
      volume_is = b.volume ∙ same;
      few = omega (arith, lists, count, length-map b.entries by_only_pass);
    }

-- the script of a volume's state rebuilds the volume
pub state_dump_made : (limit : ℕ) (entries : List Entry) → CanBeJournal entries → All CanBeOp (state_ops (replay entries)) → length entries ≤ limit →
    MakesVolume limit (state_dump (replay entries)) (replay entries) (length entries)
state_dump_made limit entries are can short =
    let operations : All HasOperations entries = All-weaker CanBeEntry HasOperations has_operations entries are.0 in
    let sound : IsSound (replay entries) = replay_sound empty entries empty_sound operations (omega (arith, are.1)) in
    let begins : IsNumbered (replay entries) = numbered empty entries empty_numbered in
    list_made limit (length entries) (state_ops (replay entries)) (replay entries) (is_accepted (replay entries) sound begins)
    (is_same (replay entries) sound begins) can (few_ops entries operations) short
