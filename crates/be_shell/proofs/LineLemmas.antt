-- How a line is taken byte by byte.
use Rattle.std.proofs.Common.{◌≡◌, ◌≤◌, ◌<◌, ℕ, Bool, true, false, nat_lt, List, [], ◌∷◌, ◌++◌, length, length-append, IfOk, Some, None, inl, inr, refl, sym, ap, ◌∙◌, subst, arith}
use Rattle.std.proofs.lemmas.Bool.Decides.{nat_tests}
use Rattle.std.proofs.lemmas.List.{append-nil}
use Rattle.std.proofs.lemmas.List.Elements.{All-nil, All-push}
use Rattle.std.specs.Io.KnownBytes.{Consumes, IsAtEnd, Keeps}
use Rattle.std.specs.declared.option.Option.{Option}
use Rattle.std.specs.declared.result.Result.{Result}
use Rattle.std.specs.declared.result.Result.TheVariants.{Ok, Err}
use Rattle.be_script_runner.specs.Run.{is_line_end}
use Rattle.be_script_runner.proofs.RunLemmas.{read_both}
use Rattle.be_shell.specs.Bytes.{HasTaken, Hears, ChangesBytes}
use Rattle.be_shell.specs.Conversation.{Event, short_line, long_line, hears, ends, says, flushes, fails}

-- Nothing was taken.
none_consumed : (known : Option (List ℕ)) → Consumes known known []
none_consumed None = tt
none_consumed (Some xs) = refl

pub none_taken : (known : Option (List ℕ)) → HasTaken known known []
none_taken known = record { bytes = []; within = All-nil (λ c. is_line_end c ≡ false); taken = none_consumed known; whole = λ _. refl; long = λ h. absurd (omega (arith, h)) }

pub keeps_itself : (known : Option (List ℕ)) → Keeps known known
keeps_itself None = tt
keeps_itself (Some xs) = refl

no_bytes : (xs : List ℕ) → length xs ≡ 0 → xs ≡ []
no_bytes [] e = refl
no_bytes (x ∷ xs) e = absurd (omega (arith, e))

-- One more byte, which doesn't end the line.
pub byte_taken : (old mid new : Option (List ℕ)) (kept kept' : List ℕ) (c : ℕ) → HasTaken old mid kept → Consumes mid new (c ∷ []) → is_line_end c ≡ false →
    (length kept ≤ 65536 → kept' ≡ kept ++ c ∷ []) → (65536 < length kept → kept' ≡ kept) → HasTaken old new kept'
byte_taken old mid new kept kept' c h g e more full = by (nat_lt 65536 (length kept)) refl
  where
    by : (b : Bool) → nat_lt 65536 (length kept) ≡ b → HasTaken old new kept'
    by true t =
        let over : 65536 < length kept = grind (arith, nat_tests) in
        record {
          bytes = h.bytes ++ c ∷ [];
          within = All-push (λ c. is_line_end c ≡ false) h.bytes c h.within e;
          taken = read_both old mid new h.bytes (c ∷ []) h.taken g;
          whole = λ few. absurd (omega (arith, ap length (full over), over, few));
          long = λ _. omega (arith, length-append h.bytes (c ∷ []), h.long over);
        }
    by false t =
        let fits : length kept ≤ 65536 = grind (arith, nat_tests) in
        record {
          bytes = h.bytes ++ c ∷ [];
          within = All-push (λ c. is_line_end c ≡ false) h.bytes c h.within e;
          taken = read_both old mid new h.bytes (c ∷ []) h.taken g;
          whole = λ _. ap (λ z. z ++ c ∷ []) (h.whole fits) ∙ sym (more fits);
          long = λ many. omega (arith, ap length (more fits), length-append kept (c ∷ []), ap length (h.whole fits), length-append h.bytes (c ∷ []), many);
        }

-- The LF of a line.
pub line_ended : (old mid new : Option (List ℕ)) (kept : List ℕ) (event : Event) → HasTaken old mid kept → Consumes mid new (10 ∷ []) →
    (length kept ≤ 65536 → event ≡ hears (short_line kept)) → (65536 < length kept → event ≡ hears long_line) → Hears old new event
line_ended old mid new kept event h g short long = by (nat_lt 65536 (length kept)) refl
  where
    by : (b : Bool) → nat_lt 65536 (length kept) ≡ b → Hears old new event
    by true t =
        let over : 65536 < length kept = grind (arith, nat_tests) in
        subst (λ (e : Event). Hears old new e) (sym (long over))
        (record { bytes = h.bytes; within = h.within; heard = h.long over; taken = inl (read_both old mid new h.bytes (10 ∷ []) h.taken g) })
    by false t =
        let fits : length kept ≤ 65536 = grind (arith, nat_tests) in
        subst (λ (e : Event). Hears old new e) (sym (short fits))
        (record {
          bytes = h.bytes;
          within = h.within;
          heard = (h.whole fits, omega (arith, ap length (h.whole fits), fits));
          taken = inl (read_both old mid new h.bytes (10 ∷ []) h.taken g);
        })

-- The end, without an LF before it.
pub line_left : (old mid new : Option (List ℕ)) (kept : List ℕ) (event : Event) → HasTaken old mid kept → Consumes mid new [] → IsAtEnd new →
    (length kept ≡ 0 → event ≡ ends) → (1 ≤ length kept → length kept ≤ 65536 → event ≡ hears (short_line kept)) → (65536 < length kept → event ≡ hears long_line) → Hears old new event
line_left old mid new kept event h g last empty short long = by (nat_lt 65536 (length kept)) (nat_lt 0 (length kept)) refl refl
  where
    all : Consumes old new h.bytes
    all = subst (λ (z : List ℕ). Consumes old new z) (append-nil h.bytes) (read_both old mid new h.bytes [] h.taken g)

    by : (b d : Bool) → nat_lt 65536 (length kept) ≡ b → nat_lt 0 (length kept) ≡ d → Hears old new event
    by true d t u =
        let over : 65536 < length kept = grind (arith, nat_tests) in
        let many : 65536 < length h.bytes = h.long over in
        subst (λ (e : Event). Hears old new e) (sym (long over))
        (record { bytes = h.bytes; within = h.within; heard = many; taken = inr (omega (arith, many), all, last) })
    by false true t u =
        let fits : length kept ≤ 65536 = grind (arith, nat_tests) in
        let some : 1 ≤ length kept = grind (arith, nat_tests) in
        let same : length h.bytes ≡ length kept = ap length (h.whole fits) in
        subst (λ (e : Event). Hears old new e) (sym (short some fits))
        (record { bytes = h.bytes; within = h.within; heard = (h.whole fits, omega (arith, same, fits)); taken = inr (omega (arith, same, some), all, last) })
    by false false t u =
        let none : length kept ≡ 0 = grind (arith, nat_tests) in
        let fits : length kept ≤ 65536 = omega (arith, none) in
        let nothing : h.bytes ≡ [] = no_bytes h.bytes (omega (arith, ap length (h.whole fits), none)) in
        subst (λ (e : Event). Hears old new e) (sym (empty none)) (subst (λ (z : List ℕ). Consumes old new z) nothing all, last)

-- Reading a line leaves the writer unchanged.
pub hears_moves : (left left' reported : Option (List ℕ)) (event : Event) → Hears left left' event → ChangesBytes left left' reported reported event
hears_moves left left' reported (hears line) h = (h, refl)
hears_moves left left' reported ends h = (h, refl)
hears_moves left left' reported (says bytes) h = absurd h
hears_moves left left' reported flushes h = absurd h
hears_moves left left' reported fails h = absurd h

pub if_ok : {T E : Type 0} (r : Result T E) (P Q : T → Type 0) → ((x : T) → P x → Q x) → IfOk r P → IfOk r Q
if_ok (Ok x) P Q f p = f x p
if_ok (Err e) P Q f p = tt
