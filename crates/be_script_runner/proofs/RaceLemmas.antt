-- Threads and passes, each at its position.
use Rattle.std.proofs.Common.{◌≡◌, ℕ, zero, suc, ◌<◌, ◌+◌, List, [], ◌∷◌, ◌++◌, length, map, get_or, drop, take, IfOk, OnOk, add-zero, add-one, zero-add, append_assoc, append-nil, ◌≤◌, ap, sym, ◌∙◌, subst, arith, refl, slice_index_or, inl, inr}
use Rattle.std.proofs.lemmas.Result.{IfOk-at_ok}
use Rattle.std.proofs.lemmas.List.{append_cancel_right}
use Rattle.std.proofs.Math.Seq.{take-length}
use Rattle.std.specs.Prelude.{codes}
use Rattle.std.specs.Fmt.{decimal}
use Rattle.std.specs.declared.result.Result.{Result}
use Rattle.std.specs.declared.result.Result.TheVariants.{Ok, Err}
use Rattle.be_store.specs.Passes.{IsPassOf}
use Rattle.be_journal.specs.Journal.{by_pass}
use Rattle.be_journal.specs.Text.{lines_from, result_text}
use Rattle.be_journal.specs.declared.entries.Entry.{Entry}
use Rattle.be_table.specs.History.{StartsWith}
use Rattle.be_table.specs.Place.{Opened, SeatFacts}
use Rattle.be_table.specs.Rule.{entries, newcomer}
use Rattle.be_table.specs.Setting.{Setting}
use Rattle.be_table.specs.declared.limits.Limits.{Limits}
use Rattle.be_table.specs.declared.pass.Knowledge.{Knowledge}
use Rattle.be_table.specs.Steps.{Has, KeepsSeen}
use Rattle.be_table.specs.Works.{AllAt, knows_of}
use Rattle.be_script_runner.specs.Own.{IsPartOf, operations, write_ops}
use Rattle.std.specs.declared.option.Option.{Option}
use Rattle.std.specs.Io.KnownBytes.{Appends}
use Rattle.be_script_runner.specs.Output.{IsOutputTo}
use Rattle.be_script_runner.specs.Run.{IsFrontOf, Wrote}
use Rattle.be_script_runner.specs.Served.{known}
use Rattle.be_script_runner.specs.Lines.{IsServedBy}
use Rattle.be_script_runner.specs.Order.{AreServedBy}
use Rattle.be_script_runner.proofs.CallLemmas.{served_output}
use Rattle.be_script_runner.proofs.RunLemmas.{none_written, written_both}
use Rattle.be_script_runner.specs.Race.{HaveServed, AreRepliesOf, IsOutcome, IsRace, IsRaceInPart, IsReplied, AreFirstPasses, AreFirstTexts, pass_line, replies_text}

-- if a predicate holds for each element, and for one more at its position, it holds for each
-- element of the longer list
pub each_pushed : {X : Type 0} (P : ℕ → X → Type 0) (xs : List X) (x : X) → ((k : ℕ) (d : X) → k < length xs → P k (get_or xs k d)) → P (length xs) x →
    (k : ℕ) (d : X) → k < length (xs ++ x ∷ []) → P k (get_or (xs ++ x ∷ []) k d)
each_pushed P [] x each last zero d h = last
each_pushed P [] x each last (suc k) d h = absurd (omega arith)
each_pushed P (y ∷ ys) x each last zero d h = each zero d (omega arith)
each_pushed P (y ∷ ys) x each last (suc k) d h = each_pushed (λ n. P (suc n)) ys x (λ n e b. each (suc n) e (omega arith)) last k d (omega arith)

-- the promise of one more thread
pub each_promised : {H S X : Type 0} (store_of : H → Opened) (number_of : H → ℕ) (script_of : H → S) (gate_of : H → X) (store : Opened) (scripts : List S) (gate : X)
    (threads : List H) (thread : H) (more : List H) →
    ((k : ℕ) (t : H) (s : S) → k < length threads →
    (store_of (get_or threads k t) ≡ store) × (number_of (get_or threads k t) ≡ k) × (script_of (get_or threads k t) ≡ get_or scripts k s) × (gate_of (get_or threads k t) ≡ gate)) →
    store_of thread ≡ store → number_of thread ≡ length threads → ((s : S) → script_of thread ≡ get_or scripts (length threads) s) → gate_of thread ≡ gate →
    more ≡ threads ++ thread ∷ [] → (k : ℕ) (t : H) (s : S) → k < length more →
    (store_of (get_or more k t) ≡ store) × (number_of (get_or more k t) ≡ k) × (script_of (get_or more k t) ≡ get_or scripts k s) × (gate_of (get_or more k t) ≡ gate)
each_promised {H} {S} store_of number_of script_of gate_of store scripts gate threads thread more each of_store of_number of_script of_gate is k t s below =
    let P : ℕ → H → Type 0 = λ n h. (u : S) → (store_of h ≡ store) × (number_of h ≡ n) × (script_of h ≡ get_or scripts n u) × (gate_of h ≡ gate) in
    let all : (n : ℕ) (h : H) → n < length (threads ++ thread ∷ []) → P n (get_or (threads ++ thread ∷ []) n h) =
    each_pushed P threads thread (λ n h b u. each n h u b) (λ u. (of_store, of_number, of_script u, of_gate)) in
    let whole : (n : ℕ) (h : H) → n < length more → P n (get_or more n h) = subst (λ hs. (n : ℕ) (h : H) → n < length hs → P n (get_or hs n h)) (sym is) all in
    whole k t below s

-- two facts about a result imply a third
pub on_both : {X E : Type 0} {P Q R : X → Type 0} (r : Result X E) → IfOk r P → IfOk r Q → ((x : X) → P x → Q x → R x) → IfOk r R
on_both (Ok x) p q f = f x p q
on_both (Err e) p q f = tt

-- a statement that holds for every answer holds for this one
pub on_at_ok : {X E : Type 0} {r : Result X E} {x : X} (P : Type 0) → r ≡ Ok x → OnOk r P → P
on_at_ok P is h = subst (λ r. OnOk r P) is h

-- a new pass sees a store with no writes yet
pub from_new : {X E : Type 0} (text : X → List ℕ) (setting : Setting) (k : ℕ) (a c : Knowledge) (script : List ℕ) (r : Result X E) → a ≡ newcomer setting (k + 1) k → c.number ≡ k →
    OnOk r (by_pass c.number (entries c.seen) ≡ c.mine) → OnOk r (IsPartOf (operations c.mine) (write_ops script)) → IfOk r (λ x. IsServedBy a script c (text x)) →
    IfOk r (λ x. IsOutcome setting k script c (text x))
from_new text setting k a c script (Ok x) is number mine own replies = record {
  mine = subst (λ n. by_pass n (entries c.seen) ≡ c.mine) number mine;
  own = own;
  output = subst (λ (b : Knowledge). IsOutputTo (known b) script (known c) (text x)) is (served_output a c script (text x) replies);
  served = subst (λ (b : Knowledge). IsServedBy b script c (text x)) is replies;
}
from_new text setting k a c script (Err e) is number mine own replies = tt

-- a journal that contains what a pass has seen and written is the journal of its script's replies
replied_by : (setting : Setting) (journal : List Entry) (k : ℕ) (script text : List ℕ) (a : Knowledge) → a.number ≡ k → IsOutcome setting k script a text → StartsWith journal (entries a.seen) →
    by_pass a.number journal ≡ a.mine → IsReplied setting journal k script text
replied_by setting journal k script text a number o seen own = record {
  last = known a;
  output = o.output;
  seen = seen;
  own = subst (λ n. by_pass n journal ≡ a.mine) number own ∙ sym o.mine;
}

-- what is reported for one more script
reported_each : (Reported : ℕ → List ℕ → Type 0) (k : ℕ) (script : List ℕ) (scripts : List (List ℕ)) → Reported k script →
    ((i : ℕ) → i < length scripts → Reported ((k + 1) + i) (slice_index_or scripts i [])) →
    (i : ℕ) → i < length (script ∷ scripts) → Reported (k + i) (slice_index_or (script ∷ scripts) i [])
reported_each Reported k script scripts here beyond zero below = subst (λ n. Reported n script) (sym (add-zero k)) here
reported_each Reported k script scripts here beyond (suc i) below =
    let e : (k + 1) + i ≡ k + suc i = omega arith in subst (λ n. Reported n (slice_index_or scripts i [])) e (beyond i (omega (arith, below)))

module _ {V E : Type 0} (store : Opened) (items : V → List ℕ) (Reported : ℕ → List ℕ → Type 0) where
  -- what pass k's thread has promised
  abbrev pub EndsAs : ℕ → V → SeatFacts × Result V E → Type 0
  EndsAs k script o =
      IsPassOf store o.0 × (o.0.knows.number ≡ k) × IfOk o.1 (λ text. IsOutcome store.limits k (items script) o.0.knows (items text)) × OnOk o.1 (Reported k (items script))

  -- the outcomes from number k onward, if none of them is an error
  pub served_from : (k : ℕ) (scripts : List V) (outcomes : List (SeatFacts × Result V E)) (texts : List V) → length outcomes ≡ length scripts →
      ((i : ℕ) (o : SeatFacts × Result V E) (s : V) → i < length scripts → EndsAs (k + i) (get_or scripts i s) (get_or outcomes i o)) →
      map Ok texts ≡ map (λ (o : SeatFacts × Result V E). o.1) outcomes →
      HaveServed store k (map items scripts) (map (λ (o : SeatFacts × Result V E). o.0) outcomes)
      × AreRepliesOf store.limits k (map items scripts) (map (λ (o : SeatFacts × Result V E). o.0) outcomes) (map items texts)
      × AreServedBy store.limits k (map items scripts) (map knows_of (map (λ (o : SeatFacts × Result V E). o.0) outcomes)) (map items texts)
      × ((i : ℕ) → i < length (map items scripts) → Reported (k + i) (slice_index_or (map items scripts) i []))
  served_from k [] [] [] count each all = (tt, λ journal keeps. tt, tt, λ i below. absurd (omega (arith, below)))
  served_from k [] [] (t ∷ ts) count each all = cc
  served_from k [] (o ∷ os) texts count each all = absurd (omega (arith, count))
  served_from k (s ∷ ss) [] texts count each all = absurd (omega (arith, count))
  served_from k (s ∷ ss) (o ∷ os) [] count each all = cc
  served_from k (s ∷ ss) (o ∷ os) (t ∷ ts) count each all =
      let here = subst (λ n. EndsAs n s o) (add-zero k) (each 0 o s (omega arith)) in
      let first : Ok t ≡ o.1 = cc in
      let rest : map Ok ts ≡ map (λ (o : SeatFacts × Result V E). o.1) os = cc in
      let reported : IsOutcome store.limits k (items s) o.0.knows (items t) = IfOk-at_ok (λ text. IsOutcome store.limits k (items s) o.0.knows (items text)) (sym first) here.2 in
      let beyond = served_from (k + 1) ss os ts (omega (arith, count)) (λ i d u below.
      let e : k + suc i ≡ (k + 1) + i = omega arith in subst (λ n. EndsAs n (get_or ss i u) (get_or os i d)) e (each (suc i) d u (omega arith))) rest in (
        (record { pass = here.0; number = here.1; own = reported.own }, beyond.0),
        (λ journal keeps. (replied_by store.limits journal k (items s) (items t) o.0.knows here.1 reported keeps.0 keeps.1, beyond.1 journal keeps.2)),
        (reported.served, beyond.2),
        reported_each Reported k (items s) (map items ss) (on_at_ok (Reported k (items s)) (sym first) here.3) beyond.3,
      )

-- a thread's outcome satisfies an equal promise
pub same_end : {V E X : Type 0} (items : V → List ℕ) (Reported : X → ℕ → List ℕ → Type 0) (store store' : Opened) (k k' : ℕ) (script script' : V) (gate gate' : X)
    (o : SeatFacts × Result V E) → store ≡ store' → k ≡ k' → script ≡ script' → gate ≡ gate' →
    EndsAs store items (Reported gate) k script o → EndsAs store' items (Reported gate') k' script' o
same_end items Reported store store' k k' script script' gate gate' o of_store of_number of_script of_gate end =
    subst (λ g. EndsAs store' items (Reported g) k' script' o) of_gate
    (subst (λ s. EndsAs s items (Reported gate) k' script' o) of_store
    (subst (λ n. EndsAs store items (Reported gate) n script' o) of_number (subst (λ v. EndsAs store items (Reported gate) k v o) of_script end)))

-- nothing of the text was written
pub none_of_text : (bytes : List ℕ) (known : Option (List ℕ)) → Wrote known known (IsFrontOf bytes)
none_of_text bytes known = record { out = []; appended = none_written known; is = (bytes, refl) }

-- the first part of a text was written, and a prefix of the next part
pub next_in_part : (a b c : Option (List ℕ)) (first next rest whole : List ℕ) → whole ≡ first ++ (next ++ rest) → Appends a b first → Wrote b c (IsFrontOf next) → Wrote a c (IsFrontOf whole)
next_in_part a b c first next rest whole is written w = record {
  out = first ++ w.out;
  appended = written_both a b c first w.out written w.appended;
  is = (w.is.0 ++ rest, is ∙ (ap (λ l. first ++ (l ++ rest)) w.is.1 ∙ (ap (λ l. first ++ l) (append_assoc w.out w.is.0 rest) ∙ sym (append_assoc first w.out (w.is.0 ++ rest)))));
}

-- the text of the replies from a position onward is that of the reply there, followed by that of
-- the rest
next_at : {V : Type 0} (items : V → List ℕ) (n k : ℕ) (texts : List V) (t : V) → k < length texts → t ≡ get_or texts k t →
    replies_text n (drop k (map items texts)) ≡ (pass_line n ++ items t) ++ replies_text (n + 1) (drop (suc k) (map items texts))
next_at items n k [] t below is = absurd (omega (arith, below))
next_at items n zero (x ∷ xs) t below is = ap (λ y. (pass_line n ++ items y) ++ replies_text (n + 1) (map items xs)) (sym is)
next_at items n (suc k) (x ∷ xs) t below is = next_at items n k xs t (omega (arith, below)) is

done_at : {V : Type 0} (items : V → List ℕ) (n k : ℕ) (texts : List V) → length texts ≤ k → replies_text n (drop k (map items texts)) ≡ []
done_at items n zero [] past = refl
done_at items n (suc k) [] past = refl
done_at items n zero (x ∷ xs) past = absurd (omega (arith, past))
done_at items n (suc k) (x ∷ xs) past = done_at items n k xs (omega (arith, past))

-- the text of the replies is that of the first ones, followed by that of the rest
replies_split : (n k : ℕ) (texts : List (List ℕ)) → replies_text n texts ≡ replies_text n (take k texts) ++ replies_text (n + k) (drop k texts)
replies_split n zero [] = refl
replies_split n zero (t ∷ ts) = ap (λ m. replies_text m (t ∷ ts)) (sym (add-zero n))
replies_split n (suc k) [] = refl
replies_split n (suc k) (t ∷ ts) =
    let e : (n + 1) + k ≡ n + suc k = omega arith in
    let first = replies_text (n + 1) (take k ts) in
    ap (λ z. (pass_line n ++ t) ++ z) (replies_split (n + 1) k ts ∙ ap (λ m. first ++ replies_text m (drop k ts)) e)
    ∙ sym (append_assoc (pass_line n ++ t) first (replies_text (n + suc k) (drop k ts)))

-- all replies were written
pub all_texts : (replies : List (List ℕ)) (old mid new : Option (List ℕ)) → Appends old mid (replies_text 0 replies) → new ≡ mid → Wrote old new (AreFirstTexts replies)
all_texts replies old mid new written same = record {
  out = replies_text 0 replies;
  appended = subst (λ held. Appends old held (replies_text 0 replies)) (sym same) written;
  is = (length replies, ap (λ ts. replies_text 0 ts) (sym (take-length replies)));
}

module _ {V : Type 0} (items : V → List ℕ) (texts : List V) (k : ℕ) (old mid : Option (List ℕ))
    (w : Wrote old mid (λ out. replies_text 0 (map items texts) ≡ out ++ replies_text k (drop k (map items texts)))) where
  -- the replies of one more pass were written
  pub replies_more : (near new : Option (List ℕ)) (t : V) (line text : List ℕ) → k < length texts → t ≡ get_or texts k t → line ≡ pass_line k → text ≡ items t →
      Appends mid near line → Appends near new text → Wrote old new (λ out. replies_text 0 (map items texts) ≡ out ++ replies_text (k + 1) (drop (k + 1) (map items texts)))
  replies_more near new t line text below at of_line of_text first second =
      let rest = replies_text (k + 1) (drop (suc k) (map items texts)) in
      let both : line ++ text ≡ pass_line k ++ items t = ap (λ l. l ++ text) of_line ∙ ap (λ u. pass_line k ++ u) of_text in
      let next : replies_text 0 (map items texts) ≡ w.out ++ ((pass_line k ++ items t) ++ rest) = w.is ∙ ap (λ z. w.out ++ z) (next_at items k k texts t below at) in
      let split : w.out ++ ((pass_line k ++ items t) ++ rest) ≡ (w.out ++ (line ++ text)) ++ rest =
      ap (λ z. w.out ++ (z ++ rest)) (sym both) ∙ sym (append_assoc w.out (line ++ text) rest) in
      record {
        out = w.out ++ (line ++ text);
        appended = written_both old mid new w.out (line ++ text) w.appended (written_both mid near new line text first second);
        is = subst (λ m. replies_text 0 (map items texts) ≡ (w.out ++ (line ++ text)) ++ replies_text (k + 1) (drop m (map items texts))) (sym (add-one k)) (next ∙ split);
      }

  -- the written text is a prefix
  pub replies_before : Wrote old mid (IsFrontOf (replies_text 0 (map items texts)))
  replies_before = record { out = w.out; appended = w.appended; is = (replies_text k (drop k (map items texts)), w.is) }

  -- the written text consists of whole replies
  pub replies_whole : Wrote old mid (AreFirstTexts (map items texts))
  replies_whole =
      let all = map items texts in
      let beyond = replies_text k (drop k all) in
      let split : replies_text 0 all ≡ replies_text 0 (take k all) ++ beyond =
      subst (λ m. replies_text 0 all ≡ replies_text 0 (take k all) ++ replies_text m (drop k all)) (zero-add k) (replies_split 0 k all) in
      record {
        out = w.out;
        appended = w.appended;
        is = (k, append_cancel_right w.out (replies_text 0 (take k all)) beyond (sym w.is ∙ split));
      }

  -- the next pass's line, its replies, and the text after them
  next_parts : (t : V) (line text : List ℕ) → k < length texts → t ≡ get_or texts k t → line ≡ pass_line k → text ≡ items t →
      replies_text 0 (map items texts) ≡ w.out ++ (line ++ (text ++ replies_text (k + 1) (drop (suc k) (map items texts))))
  next_parts t line text below at of_line of_text =
      let rest = replies_text (k + 1) (drop (suc k) (map items texts)) in
      w.is
      ∙ (ap (λ z. w.out ++ z) (next_at items k k texts t below at)
      ∙ (ap (λ z. w.out ++ z) (append_assoc (pass_line k) (items t) rest)
      ∙ (ap (λ l. w.out ++ (l ++ (items t ++ rest))) (sym of_line) ∙ ap (λ u. w.out ++ (line ++ (u ++ rest))) (sym of_text))))

  -- a prefix of the next pass's line was also written
  pub line_in_part : (new : Option (List ℕ)) (t : V) (line : List ℕ) → k < length texts → t ≡ get_or texts k t → line ≡ pass_line k → Wrote mid new (IsFrontOf line) →
      Wrote old new (IsFrontOf (replies_text 0 (map items texts)))
  line_in_part new t line below at of_line front =
      next_in_part old mid new w.out line (items t ++ replies_text (k + 1) (drop (suc k) (map items texts))) (replies_text 0 (map items texts))
      (next_parts t line (items t) below at of_line refl) w.appended front

  -- the next pass's line was written, and a prefix of its replies
  pub text_in_part : (near new : Option (List ℕ)) (t : V) (line text : List ℕ) → k < length texts → t ≡ get_or texts k t → line ≡ pass_line k → text ≡ items t →
      Appends mid near line → Wrote near new (IsFrontOf text) → Wrote old new (IsFrontOf (replies_text 0 (map items texts)))
  text_in_part near new t line text below at of_line of_text first front =
      let rest = replies_text (k + 1) (drop (suc k) (map items texts)) in
      next_in_part old near new (w.out ++ line) text rest (replies_text 0 (map items texts))
      (next_parts t line text below at of_line of_text ∙ sym (append_assoc w.out line (text ++ rest))) (written_both old mid near w.out line w.appended first) front

  -- all replies were written
  pub replies_all : length texts ≤ k → Appends old mid (replies_text 0 (map items texts))
  replies_all past = subst (Appends old mid) (sym (w.is ∙ (ap (λ z. w.out ++ z) (done_at items k k texts past) ∙ append-nil w.out))) w.appended

-- the passes belong to the store
pub all_at : (store : Opened) (k : ℕ) (scripts : List (List ℕ)) (passes : List SeatFacts) → HaveServed store k scripts passes → AllAt store.id passes
all_at store k [] [] h = tt
all_at store k [] (p ∷ ps) h = absurd h
all_at store k (s ∷ ss) [] h = tt
all_at store k (s ∷ ss) (p ∷ ps) h = ((h.0.pass.0.0, h.0.pass.0.1), all_at store (k + 1) ss ps h.1)

-- there is a pass for each number
pub has_each : (store : Opened) (k : ℕ) (scripts : List (List ℕ)) (passes : List SeatFacts) → HaveServed store k scripts passes → (n : ℕ) → n < length scripts → Has (map knows_of passes) (k + n)
has_each store k [] passes h n below = absurd (omega (arith, below))
has_each store k (s ∷ ss) [] h n below = absurd h
has_each store k (s ∷ ss) (p ∷ ps) h zero below = inl (h.0.number ∙ omega arith)
has_each store k (s ∷ ss) (p ∷ ps) h (suc n) below =
    let e : (k + 1) + n ≡ k + suc n = omega arith in inr (subst (Has (map knows_of ps)) e (has_each store (k + 1) ss ps h.1 n (omega (arith, below))))

-- if a journal contains the passes' writes, its entries with each pass's number come from the
-- script with that number
pub own_of : (store : Opened) (k : ℕ) (scripts : List (List ℕ)) (passes : List SeatFacts) (log : List Entry) → HaveServed store k scripts passes → KeepsSeen log (map knows_of passes) →
    (n : ℕ) → n < length scripts → IsPartOf (operations (by_pass (k + n) log)) (write_ops (slice_index_or scripts n []))
own_of store k [] passes log h keeps n below = absurd (omega (arith, below))
own_of store k (s ∷ ss) [] log h keeps n below = absurd h
own_of store k (s ∷ ss) (p ∷ ps) log h keeps zero below =
    let e : p.knows.number ≡ k + 0 = h.0.number ∙ omega arith in
    subst (λ m. IsPartOf (operations (by_pass m log)) (write_ops s)) e (subst (λ es. IsPartOf (operations es) (write_ops s)) (sym keeps.1) h.0.own)
own_of store k (s ∷ ss) (p ∷ ps) log h keeps (suc n) below =
    let e : (k + 1) + n ≡ k + suc n = omega arith in
    subst (λ m. IsPartOf (operations (by_pass m log)) (write_ops (slice_index_or ss n []))) e (own_of store (k + 1) ss ps log h.1 keeps.2 n (omega (arith, below)))

-- the journal's length, its lines, and the result of its check, one after another
pub result_is : (log : List Entry) (head text last : List ℕ) → head ≡ codes "journal " ++ (decimal (length log) ++ codes "\n") → text ≡ lines_from 1 log →
    last ≡ codes "replay ok\n" → head ++ (text ++ last) ≡ result_text log
result_is log head text last of_head of_text of_last =
    ap (λ h. h ++ (text ++ last)) of_head
    ∙ ap (λ t. (codes "journal " ++ (decimal (length log) ++ codes "\n")) ++ t) (ap (λ t. t ++ last) of_text ∙ ap (λ l. lines_from 1 log ++ l) of_last)

-- a race that has written nothing
pub nothing_raced : (limits : Limits) (scripts : List (List ℕ)) (held : Option (List ℕ)) → Wrote held held (AreFirstPasses limits scripts)
nothing_raced limits scripts held = record { out = []; appended = none_written held; is = inl refl }

-- a race that has written a prefix
pub raced_in_part : (limits : Limits) (scripts : List (List ℕ)) (whole : List ℕ) (old new : Option (List ℕ)) → IsRace limits scripts whole → Wrote old new (IsFrontOf whole) →
    Wrote old new (IsRaceInPart limits scripts)
raced_in_part limits scripts whole old new race w = record {
  out = w.out;
  appended = w.appended;
  is = (w.is.0, subst (IsRace limits scripts) w.is.1 race);
}

-- a race that has written whole replies of its first passes
pub raced_to_pass : (limits : Limits) (scripts replies : List (List ℕ)) (whole : List ℕ) (old new : Option (List ℕ)) (race : IsRace limits scripts whole) →
    race.replies ≡ replies → Wrote old new (AreFirstTexts replies) → Wrote old new (AreFirstPasses limits scripts)
raced_to_pass limits scripts replies whole old new race same w = record {
  out = w.out;
  appended = w.appended;
  is = inr (whole, race, subst (λ texts. AreFirstTexts texts w.out) (sym same) w.is);
}
