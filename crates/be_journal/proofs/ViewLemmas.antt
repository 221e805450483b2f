-- Views of entries: operations with their outcomes as bytes, one after another.
use Rattle.std.proofs.Common.{◌≡◌, ◌<◌, ℕ, zero, suc, ◌-◌, List, [], ◌∷◌, length, drop, map, IfSome, IsSome, Some, None, refl, sym, ap, subst, ◌∙◌, arith}
use Rattle.std.specs.declared.option.Option.{Option}
use Rattle.be_volume.specs.declared.ops.Done.{Done}
use Rattle.be_volume.specs.declared.ops.Op.{Op}
use Rattle.be_entry_bytes.specs.Decoding.{◌>>=◌, step_at, steps_at, head_at, entry_at}
use Rattle.be_entry_bytes.proofs.Entries.{entry_of_head, entry_of_none}
use Rattle.be_journal.specs.Blocks.{entries_at, steps_in, AreEntries}
use Rattle.be_journal.specs.declared.entries.Entry.{Entry}
use Rattle.be_journal.proofs.NextLemmas.{read, never_read}

abbrev Found : Type 0
Found = List Op × List Done × List ℕ

-- reading all operations together gives what reading them one by one gives
abbrev IsReadAs : ℕ → List ℕ → Found → Type 0
IsReadAs count bytes x = (map (λ s. s.0) (steps_in count bytes) ≡ x.0) × (map (λ s. s.1) (steps_in count bytes) ≡ x.1) × (length (steps_in count bytes) ≡ count)

with_first : (count : ℕ) (bytes : List ℕ) (s : Op × Done × List ℕ) → Some s ≡ step_at bytes → (o : Option Found) → o ≡ steps_at count s.2 → IfSome o (IsReadAs count s.2) →
    IfSome (steps_at (suc count) bytes) (IsReadAs (suc count) bytes)
unfolding steps_at steps_in
with_first count bytes s is None same h = rw (sym is, sym same) tt
with_first count bytes s is (Some x) same h =
    let one : steps_in (suc count) bytes ≡ (s.0, s.1) ∷ steps_in count s.2 = rw (sym is) refl in
    let both : IsReadAs (suc count) bytes (s.0 ∷ x.0, s.1 ∷ x.1, x.2) = (
      ap (map (λ (p : Op × Done). p.0)) one ∙ ap (λ (ops : List Op). s.0 ∷ ops) h.0,
      ap (map (λ (p : Op × Done). p.1)) one ∙ ap (λ (dones : List Done). s.1 ∷ dones) h.1,
      ap length one ∙ ap suc h.2,
    ) in
    rw (sym is, sym same) both

with_step : (count : ℕ) (bytes : List ℕ) (o : Option (Op × Done × List ℕ)) → o ≡ step_at bytes → ((rest : List ℕ) → IfSome (steps_at count rest) (IsReadAs count rest)) →
    IfSome (steps_at (suc count) bytes) (IsReadAs (suc count) bytes)
unfolding steps_at
with_step count bytes None is others = rw (sym is) tt
with_step count bytes (Some s) is others = with_first count bytes s is (steps_at count s.2) refl (others s.2)

pub read_alike : (count : ℕ) (bytes : List ℕ) → IfSome (steps_at count bytes) (IsReadAs count bytes)
unfolding steps_at steps_in
read_alike zero bytes = (refl, refl, refl)
read_alike (suc count) bytes = with_step count bytes (step_at bytes) refl (read_alike count)

count_of : (count : ℕ) (bytes : List ℕ) (o : Option Found) → IsSome o → IfSome o (IsReadAs count bytes) → length (steps_in count bytes) ≡ count
count_of count bytes None some is = cc
count_of count bytes (Some x) some is = is.2

-- if the bytes have this many operations, this many are read
pub counted : (count : ℕ) (bytes : List ℕ) → IsSome (steps_at count bytes) → length (steps_in count bytes) ≡ count
counted count bytes some = count_of count bytes (steps_at count bytes) some (read_alike count bytes)

-- an entry as its view shows it
abbrev pub viewed : ℕ → ℕ → List ℕ → Entry
viewed by count bytes = record { by = by; ops = map (λ s. s.0) (steps_in count bytes); dones = map (λ s. s.1) (steps_in count bytes) }

-- the entry that was read is the entry that is viewed
pub same_entry : (by count : ℕ) (bytes : List ℕ) (ops : List Op) (dones : List Done) (rest : List ℕ) → Some (ops, dones, rest) ≡ steps_at count bytes →
    record { by = by; ops = ops; dones = dones } ≡ viewed by count bytes
same_entry by count bytes ops dones rest is =
    let h : IsReadAs count bytes (ops, dones, rest) = subst (λ (o : Option Found). IfSome o (IsReadAs count bytes)) (sym is) (read_alike count bytes) in
    ap (λ (xs : List Op). record { by = by; ops = xs; dones = dones }) (sym h.0) ∙ ap (λ (ys : List Done). record { by = by; ops = map (λ s. s.0) (steps_in count bytes); dones = ys }) (sym h.1)

-- a view of the next of several entries
pub record Viewed (left : ℕ) (bytes : List ℕ) (by count : ℕ) (rest : List ℕ) : Type 0 where
  pub some : IsSome (steps_at count rest)
  pub first : entries_at left bytes ≡ viewed by count rest ∷ drop 1 (entries_at left bytes)

view_at : (left : ℕ) (bytes : List ℕ) (by count : ℕ) (rest : List ℕ) (o : Option Found) → AreEntries left bytes → 0 < length (entries_at left bytes) → Some (by, count, rest) ≡ head_at bytes →
    o ≡ steps_at count rest → Viewed left bytes by count rest
view_at left bytes by count rest None are some is same =
    absurd (never_read left bytes are some (ap (λ (o : Option Found). o >>= λ x. Some (by, x.0, x.1, x.2)) same ∙ sym (entry_of_head bytes by count rest is)))
view_at left bytes by count rest (Some x) are some is same =
    let r = read left bytes by x.0 x.1 x.2 are some (ap (λ (o : Option Found). o >>= λ y. Some (by, y.0, y.1, y.2)) same ∙ sym (entry_of_head bytes by count rest is)) in
    let whole : viewed by count rest ≡ record { by = by; ops = x.0; dones = x.1 } = sym (same_entry by count rest x.0 x.1 x.2 same) in
    record {
      some = subst (λ (o : Option Found). IsSome o) same refl;
      first = r.first
          ∙ ap (λ (e : Entry). e ∷ entries_at (left - 1) x.2) (sym whole)
          ∙ ap (λ (es : List Entry). viewed by count rest ∷ es) (sym (ap (drop 1) r.first));
    }

pub view_of : (left : ℕ) (bytes : List ℕ) (by count : ℕ) (rest : List ℕ) → AreEntries left bytes → 0 < length (entries_at left bytes) → Some (by, count, rest) ≡ head_at bytes → Viewed left bytes by count rest
view_of left bytes by count rest are some is = view_at left bytes by count rest (steps_at count rest) are some is refl

pub never_viewed : (left : ℕ) (bytes : List ℕ) → AreEntries left bytes → 0 < length (entries_at left bytes) → None ≡ head_at bytes → ⊥
never_viewed left bytes are some is = never_read left bytes are some (entry_of_none bytes is)

-- the next of the remaining operations, with its outcome
pub next_step : (left : ℕ) (bytes : List ℕ) (op : Op) (done : Done) (rest : List ℕ) → length (steps_in left bytes) ≡ left → (left ≡ 0 → ⊥) → Some (op, done, rest) ≡ step_at bytes →
    (steps_in left bytes ≡ (op, done) ∷ steps_in (left - 1) rest) × (length (steps_in (left - 1) rest) ≡ left - 1)
unfolding steps_in
next_step zero bytes op done rest are some is = absurd (some refl)
next_step (suc count) bytes op done rest are some is =
    let first : steps_in (suc count) bytes ≡ (op, done) ∷ steps_in count rest = rw (sym is) refl in
    let len : suc (length (steps_in count rest)) ≡ suc count = sym (ap length first) ∙ are in
    let others : length (steps_in count rest) ≡ count = omega (arith, len) in
    let one : count ≡ suc count - 1 = omega arith in
    subst (λ n. (steps_in (suc count) bytes ≡ (op, done) ∷ steps_in n rest) × (length (steps_in n rest) ≡ n)) one (first, others)

pub never_next : (left : ℕ) (bytes : List ℕ) → length (steps_in left bytes) ≡ left → (left ≡ 0 → ⊥) → None ≡ step_at bytes → ⊥
unfolding steps_in
never_next zero bytes are some is = some refl
never_next (suc count) bytes are some is =
    let none : steps_in (suc count) bytes ≡ [] = rw (sym is) refl in
    absurd (omega (arith, sym (ap length none) ∙ are))
