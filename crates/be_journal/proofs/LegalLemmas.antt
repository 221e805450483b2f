-- Replays and legal journals, entry by entry.
use Rattle.std.proofs.Common.{◌≡◌, ◌<◌, ◌≤◌, ℕ, ◌+◌, ◌-◌, Bool, true, false, nat_lt, List, [], ◌∷◌, ◌++◌, length, length-append, length-take-le, take, drop, get_or, refl, sym, ap, subst, ◌∙◌, Ok, arith}
use Rattle.std.proofs.lemmas.List.{take-append-drop, take_more, get_or_default, take-append-le, take_all, get_or_append_left, get_or_push, get_or-append-add, length_push}
use Rattle.std.proofs.Math.Seq.{take-append-add}
use Rattle.std.proofs.lemmas.Bool.Decides.{nat_tests}
use Rattle.std.proofs.lemmas.Grind.{fold-append}
use Rattle.be_volume.specs.Ahead.{state_after, reached}
use Rattle.be_volume.specs.Volume.{State, steps}
use Rattle.be_journal.specs.Journal.{replay_from, Agrees, IsLegalFrom}
use Rattle.be_journal.specs.declared.entries.Entry.{Entry}

-- the replay of one more entry
pub replay_more : (base : State) (entries : List Entry) (i : ℕ) (entry : Entry) → i < length entries → entry ≡ get_or entries i entry →
    replay_from base (take (i + 1) entries) ≡ state_after (replay_from base (take i entries)) entry.ops
replay_more base entries i entry h e = ap (replay_from base) (take_more entries i entry h ∙ ap (λ x. take i entries ++ x ∷ []) (sym e))
    ∙ fold-append (λ s x. state_after s x.ops) base (take i entries) (entry ∷ [])

pub replay_agreed : (base : State) (entries : List Entry) (i : ℕ) (entry : Entry) (old new : State) → i < length entries → entry ≡ get_or entries i entry →
    old ≡ replay_from base (take i entries) → steps old entry.ops ≡ Ok (new, entry.dones) → new ≡ replay_from base (take (i + 1) entries)
replay_agreed base entries i entry old new h e is s = sym (replay_more base entries i entry h e ∙ ap (λ t. state_after t entry.ops) (sym is) ∙ ap (reached old) s)

-- the entries up to and including this one
pub agree_more : (base : State) (entries : List Entry) (n : ℕ) (now : Entry) → now ≡ get_or entries n now → Agrees (replay_from base (take n entries)) now →
    ((i : ℕ) (entry : Entry) → i < n → entry ≡ get_or entries i entry → Agrees (replay_from base (take i entries)) entry) → n < length entries →
    (i : ℕ) (entry : Entry) → i < n + 1 → entry ≡ get_or entries i entry → Agrees (replay_from base (take i entries)) entry
agree_more base entries n now is agrees before short i entry h e = by (nat_lt i n) refl
  where
    by : (b : Bool) → nat_lt i n ≡ b → Agrees (replay_from base (take i entries)) entry
    by true l = before i entry (grind (arith, nat_tests)) e
    by false l =
        let same : n ≡ i = grind (arith, nat_tests) in
        let one : now ≡ entry = is ∙ get_or_default entries n now entry short ∙ ap (λ k. get_or entries k entry) same ∙ sym e in
        subst (λ k. Agrees (replay_from base (take k entries)) entry) same (subst (λ x. Agrees (replay_from base (take n entries)) x) one agrees)

-- an entry without the outcomes that the volume gives
pub differs : (base : State) (entries : List Entry) (n : ℕ) (now : Entry) (old : State) (b : Bool) → n < length entries → now ≡ get_or entries n now → old ≡ replay_from base (take n entries) →
    (Agrees old now → b ≡ true) → b ≡ false → IsLegalFrom base entries → false ≡ true
differs base entries n now old b short is e so not_so legal = sym not_so ∙ so (subst (λ s. Agrees s now) (sym e) (legal n now short is))

pub never : {A : Type 0} → false ≡ true → A
never h = cc

-- the loop has passed every position
pub past : (i n len : ℕ) → len ≤ n → i < len → i < n
past i n len h k = omega arith

-- a legal journal, followed by an entry that has the outcomes that the volume gives after it
pub legal_push : (base : State) (entries : List Entry) (now : Entry) → IsLegalFrom base entries → Agrees (replay_from base entries) now → IsLegalFrom base (entries ++ now ∷ [])
legal_push base entries now legal agrees i entry h e =
    let long : length (entries ++ now ∷ []) ≡ length entries + 1 = length_push entries now in
    let whole : take (length entries) (entries ++ now ∷ []) ≡ entries = take-append-le (length entries) entries (now ∷ []) (omega arith) ∙ take_all (length entries) entries (omega arith) in
    agree_more base (entries ++ now ∷ []) (length entries) now (sym (get_or_push entries now now (length entries) refl))
    (subst (λ es. Agrees (replay_from base es) now) (sym whole) agrees)
    (λ k x short same. subst (λ es. Agrees (replay_from base es) x) (sym (take-append-le k entries (now ∷ []) (omega arith)))
    (legal k x short (same ∙ get_or_append_left entries (now ∷ []) x k short)))
    (omega arith) i entry (subst (λ n. i < n) long h) e

pub replay_push : (base : State) (entries : List Entry) (entry : Entry) → replay_from base (entries ++ entry ∷ []) ≡ state_after (replay_from base entries) entry.ops
replay_push base entries entry = fold-append (λ s x. state_after s x.ops) base entries (entry ∷ [])

-- the first entries of a legal journal are legal
pub legal_front : (base : State) (front rest : List Entry) → IsLegalFrom base (front ++ rest) → IsLegalFrom base front
legal_front base front rest legal i entry h e =
    let long : length (front ++ rest) ≡ length front + length rest = length-append front rest in
    subst (λ es. Agrees (replay_from base es) entry) (take-append-le i front rest (omega arith))
    (legal i entry (omega arith) (e ∙ sym (get_or_append_left front rest entry i h)))

-- the last entry of a legal journal has the outcomes that the volume gives
pub legal_last : (base : State) (entries : List Entry) (now : Entry) → IsLegalFrom base (entries ++ now ∷ []) → Agrees (replay_from base entries) now
legal_last base entries now legal =
    let long : length (entries ++ now ∷ []) ≡ length entries + 1 = length_push entries now in
    let whole : take (length entries) (entries ++ now ∷ []) ≡ entries = take-append-le (length entries) entries (now ∷ []) (omega arith) ∙ take_all (length entries) entries (omega arith) in
    subst (λ es. Agrees (replay_from base es) now) whole (legal (length entries) now (omega arith) (sym (get_or_push entries now now (length entries) refl)))

-- the first entries are legal if each of them has the outcomes that the volume gives
pub front_legal : (base : State) (entries : List Entry) (n : ℕ) → n < length entries → ((i : ℕ) (entry : Entry) → i < n → entry ≡ get_or entries i entry → Agrees (replay_from base (take i entries)) entry) →
    IsLegalFrom base (take n entries)
front_legal base entries n short agree i entry h e =
    let long : length (take n entries) ≡ n = length-take-le n entries (omega (arith, short)) in
    let whole : take n entries ++ drop n entries ≡ entries = take-append-drop n entries in
    let below : i < n = subst (λ k. i < k) long h in
    let same : take i (take n entries) ≡ take i entries =
    sym (take-append-le i (take n entries) (drop n entries) (omega (arith, below, long))) ∙ ap (take i) whole in
    subst (λ es. Agrees (replay_from base es) entry) (sym same)
    (agree i entry below (e ∙ sym (get_or_append_left (take n entries) (drop n entries) entry i h) ∙ ap (λ es. get_or es i entry) whole))

-- an entry without the outcomes that the volume gives, in whatever form it is read
pub not_agreed : (base : State) (entries : List Entry) (n : ℕ) (now : Entry) (old : State) (b : Bool) → n < length entries → now ≡ get_or entries n now → old ≡ replay_from base (take n entries) →
    (Agrees old now → b ≡ true) → b ≡ false → (entry : Entry) → entry ≡ get_or entries n entry → Agrees (replay_from base (take n entries)) entry → ⊥
not_agreed base entries n now old b short is e so not_so entry same agrees =
    let one : entry ≡ now = same ∙ get_or_default entries n entry now short ∙ sym is in
    never (sym not_so ∙ so (subst (λ s. Agrees s now) (sym e) (subst (λ x. Agrees (replay_from base (take n entries)) x) one agrees)))

-- ## A journal that is carried on: the second part begins with the volume after the first

pub replay_append : (base : State) (front rest : List Entry) → replay_from base (front ++ rest) ≡ replay_from (replay_from base front) rest
replay_append base front rest = fold-append (λ s x. state_after s x.ops) base front rest

-- an entry of the second part
carried : (base : State) (front rest : List Entry) (j : ℕ) (entry : Entry) → IsLegalFrom (replay_from base front) rest → j < length rest →
    entry ≡ get_or (front ++ rest) (length front + j) entry → Agrees (replay_from base (take (length front + j) (front ++ rest))) entry
carried base front rest j entry legal h e =
    subst (λ s. Agrees s entry) (sym (ap (replay_from base) (take-append-add front rest j) ∙ replay_append base front (take j rest)))
    (legal j entry h (e ∙ get_or-append-add front rest j entry))

pub legal_append : (base : State) (front rest : List Entry) → IsLegalFrom base front → IsLegalFrom (replay_from base front) rest → IsLegalFrom base (front ++ rest)
legal_append base front rest legal then i entry h e = by (nat_lt i (length front)) refl
  where
    by : (b : Bool) → nat_lt i (length front) ≡ b → Agrees (replay_from base (take i (front ++ rest))) entry
    by true l =
        let short : i < length front = grind (arith, nat_tests) in
        subst (λ es. Agrees (replay_from base es) entry) (sym (take-append-le i front rest (omega (arith, short))))
        (legal i entry short (e ∙ get_or_append_left front rest entry i short))
    by false l =
        let long : length (front ++ rest) ≡ length front + length rest = length-append front rest in
        let past : length front ≤ i = grind (arith, nat_tests) in
        let at : i ≡ length front + (i - length front) = omega (arith, past) in
        subst (λ k. Agrees (replay_from base (take k (front ++ rest))) entry) (sym at)
        (carried base front rest (i - length front) entry then (omega (arith, past, long, h)) (subst (λ k. entry ≡ get_or (front ++ rest) k entry) at e))
