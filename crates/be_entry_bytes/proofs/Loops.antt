-- Operations and their outcomes, one after another, as loops read and write them.
use Rattle.std.proofs.Common.{◌≡◌, ℕ, suc, ◌-◌, ◌+◌, ◌≤◌, ◌<◌, List, [], ◌∷◌, ◌++◌, length, drop, get_or, Some, None, refl, sym, ap, ◌∙◌, append_assoc, append-nil, add-one, drop-cons, length-append, arith}
use Rattle.std.proofs.lemmas.List.{at_drop_all}
use Rattle.std.specs.Option.{option_map}
use Rattle.std.specs.declared.option.Option.{Option}
use Rattle.be_volume.specs.declared.ops.Done.{Done}
use Rattle.be_volume.specs.declared.ops.Op.{Op}
use Rattle.be_entry_bytes.specs.Encoding.{step_bytes, steps_bytes}
use Rattle.be_entry_bytes.specs.Decoding.{◌>>=◌, step_at, steps_at, Found}

-- what was read before, followed by what is read after it
abbrev pub beyond : List Op → List Done → Option (List Op × List Done × List ℕ) → Option (List Op × List Done × List ℕ)
beyond ops dones read = read >>= λ x. Some (ops ++ x.0, dones ++ x.1, x.2)

-- at first, nothing has been read
pub nothing_after : (read : Option (List Op × List Done × List ℕ)) → beyond [] [] read ≡ read
nothing_after None = refl
nothing_after (Some x) = refl

pushed : {X : Type 0} (front : List X) (x : X) (rest : List X) → front ++ x ∷ rest ≡ (front ++ x ∷ []) ++ rest
pushed front x rest = sym (append_assoc front (x ∷ []) rest)

regrouped : (ops : List Op) (dones : List Done) (op : Op) (done : Done) (read : Option (List Op × List Done × List ℕ)) →
    beyond ops dones (read >>= λ x. Some (op ∷ x.0, done ∷ x.1, x.2)) ≡ beyond (ops ++ op ∷ []) (dones ++ done ∷ []) read
regrouped ops dones op done None = refl
regrouped ops dones op done (Some x) =
    ap (λ (xs : List Op). Some (xs, dones ++ done ∷ x.1, x.2)) (pushed ops op x.0)
    ∙ ap (λ (xs : List Done). Some ((ops ++ op ∷ []) ++ x.0, xs, x.2)) (pushed dones done x.1)

pub goes_on : (ops : List Op) (dones : List Done) (count i : ℕ) (bytes : List ℕ) (op : Op) (done : Done) (after : List ℕ) (all : Option (List Op × List Done × List ℕ)) →
    i < count → step_at bytes ≡ Some (op, done, after) → beyond ops dones (steps_at (count - i) bytes) ≡ all →
    beyond (ops ++ op ∷ []) (dones ++ done ∷ []) (steps_at (count - (i + 1)) after) ≡ all
unfolding steps_at
goes_on ops dones count i bytes op done after all short is so_far =
    let one : count - i ≡ suc (count - (i + 1)) = omega arith in
    let next : beyond ops dones (steps_at (count - i) bytes) ≡ beyond (ops ++ op ∷ []) (dones ++ done ∷ []) (steps_at (count - (i + 1)) after) =
    rw (one, is) (regrouped ops dones op done (steps_at (count - (i + 1)) after)) in
    sym next ∙ so_far

pub ends : (ops : List Op) (dones : List Done) (count i : ℕ) (bytes : List ℕ) (all : Option (List Op × List Done × List ℕ)) →
    i < count → step_at bytes ≡ None → beyond ops dones (steps_at (count - i) bytes) ≡ all → all ≡ None
unfolding steps_at
ends ops dones count i bytes all short is so_far =
    let one : count - i ≡ suc (count - (i + 1)) = omega arith in
    let none : beyond ops dones (steps_at (count - i) bytes) ≡ None = rw (one, is) refl in
    sym so_far ∙ none

pub is_done : (ops : List Op) (dones : List Done) (count i : ℕ) (bytes : List ℕ) (all : Option (List Op × List Done × List ℕ)) →
    count ≤ i → beyond ops dones (steps_at (count - i) bytes) ≡ all → all ≡ Some (ops, dones, bytes)
unfolding steps_at
is_done ops dones count i bytes all long so_far =
    let none : count - i ≡ 0 = omega arith in
    let last : beyond ops dones (steps_at (count - i) bytes) ≡ Some (ops, dones, bytes) =
    rw none (ap (λ (xs : List Op). Some (xs, dones ++ [], bytes)) (append-nil ops) ∙ ap (λ (xs : List Done). Some (ops, xs, bytes)) (append-nil dones)) in
    sym so_far ∙ last

-- the bytes after those that were read
abbrev pub bytes_left : Option (List Op × List Done × List ℕ) → Option (List ℕ)
bytes_left read = option_map (λ x. x.2) read

left_alike : (op : Op) (done : Done) (read : Option (List Op × List Done × List ℕ)) → bytes_left (read >>= λ x. Some (op ∷ x.0, done ∷ x.1, x.2)) ≡ bytes_left read
left_alike op done None = refl
left_alike op done (Some x) = refl

pub skip_goes_on : (count i : ℕ) (bytes : List ℕ) (op : Op) (done : Done) (after : List ℕ) (all : Option (List ℕ)) →
    i < count → step_at bytes ≡ Some (op, done, after) → bytes_left (steps_at (count - i) bytes) ≡ all → bytes_left (steps_at (count - (i + 1)) after) ≡ all
unfolding steps_at
skip_goes_on count i bytes op done after all short is so_far =
    let one : count - i ≡ suc (count - (i + 1)) = omega arith in
    let next : bytes_left (steps_at (count - i) bytes) ≡ bytes_left (steps_at (count - (i + 1)) after) = rw (one, is) (left_alike op done (steps_at (count - (i + 1)) after)) in
    sym next ∙ so_far

pub skip_ends : (count i : ℕ) (bytes : List ℕ) (all : Option (List ℕ)) → i < count → step_at bytes ≡ None → bytes_left (steps_at (count - i) bytes) ≡ all → all ≡ None
unfolding steps_at
skip_ends count i bytes all short is so_far =
    let one : count - i ≡ suc (count - (i + 1)) = omega arith in
    let none : bytes_left (steps_at (count - i) bytes) ≡ None = rw (one, is) refl in
    sym so_far ∙ none

pub skip_is_done : (count i : ℕ) (bytes : List ℕ) (all : Option (List ℕ)) → count ≤ i → bytes_left (steps_at (count - i) bytes) ≡ all → all ≡ Some bytes
unfolding steps_at
skip_is_done count i bytes all long so_far =
    let none : count - i ≡ 0 = omega arith in
    let last : bytes_left (steps_at (count - i) bytes) ≡ Some bytes = rw none refl in
    sym so_far ∙ last

-- the bytes after an entry are the bytes after its steps
pub left_of_entry : (by : ℕ) (read : Option (List Op × List Done × List ℕ)) → option_map (λ (x : Found). x.3) (read >>= λ x. Some (by, x.0, x.1, x.2)) ≡ bytes_left read
left_of_entry by None = refl
left_of_entry by (Some x) = refl

-- the rest of the operations and their outcomes, from index i onward
pub steps_left : (ops : List Op) (dones : List Done) (i : ℕ) (op : Op) (d : Done) → i < length ops → length dones ≡ length ops → op ≡ get_or ops i op →
    steps_bytes (drop i ops) (drop i dones) ≡ step_bytes op (get_or dones i d) ++ steps_bytes (drop (i + 1) ops) (drop (i + 1) dones)
unfolding steps_bytes
steps_left ops dones i op d short each is =
    let within : i < length dones = omega (arith, short, each) in
    let first : drop i ops ≡ op ∷ drop (i + 1) ops = drop-cons ops i op short ∙ ap (λ x. x ∷ drop (suc i) ops) (sym is) ∙ ap (λ k. op ∷ drop k ops) (sym (add-one i)) in
    let answer : drop i dones ≡ get_or dones i d ∷ drop (i + 1) dones = drop-cons dones i d within ∙ ap (λ k. get_or dones i d ∷ drop k dones) (sym (add-one i)) in
    rw (first, answer) refl

pub none_left : (ops : List Op) (dones : List Done) (i : ℕ) → length ops ≤ i → steps_bytes (drop i ops) (drop i dones) ≡ []
unfolding steps_bytes
none_left ops dones i past = at_drop_all (λ xs. steps_bytes xs (drop i dones)) ops i past

-- one step fewer remains, and its bytes use up part of the capacity
pub record Stepped (ops : List Op) (dones : List Done) (i : ℕ) (step : List ℕ) : Type 0 where
  pub bytes : steps_bytes (drop i ops) (drop i dones) ≡ step ++ steps_bytes (drop (i + 1) ops) (drop (i + 1) dones)
  pub len : length (steps_bytes (drop i ops) (drop i dones)) ≡ length step + length (steps_bytes (drop (i + 1) ops) (drop (i + 1) dones))

pub stepped : (ops : List Op) (dones : List Done) (i : ℕ) (op : Op) (d : Done) → i < length ops → length dones ≡ length ops → op ≡ get_or ops i op → Stepped ops dones i (step_bytes op (get_or dones i d))
stepped ops dones i op d short each is =
    let one = steps_left ops dones i op d short each is in
    record { bytes = one; len = ap length one ∙ length-append (step_bytes op (get_or dones i d)) (steps_bytes (drop (i + 1) ops) (drop (i + 1) dones)) }
