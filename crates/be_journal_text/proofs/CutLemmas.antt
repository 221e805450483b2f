-- Operations cut into lists of 64, and their lines.
use Rattle.std.proofs.Common.{◌≡◌, ◌<◌, ◌≤◌, ◌+◌, ◌*◌, ◌-◌, ℕ, zero, suc, Bool, true, false, nat_lt, List, [], ◌∷◌, ◌++◌, All, length, take, drop, append_assoc, length-append, refl, sym, ap, subst, ◌∙◌, arith}
use Rattle.std.proofs.lemmas.Bool.Decides.{nat_tests}
use Rattle.std.proofs.lemmas.List.{append-nil, drop-append-le, drop_all, length-drop, take-append-le, take_all}
use Rattle.std.proofs.lemmas.List.Concat.{flat_map-cons}
use Rattle.std.proofs.lemmas.List.Elements.{All-append}
use Rattle.std.specs.List.{flat_map}
use Rattle.be_volume.specs.declared.ops.Op.{Op}
use Rattle.be_journal_text.specs.Dump.{cut, cut_lines, cut_within, write_lines}
use Rattle.be_journal_text.specs.History.{CanBeOp}

-- the maximum number of lists doesn't matter if it is large enough
same_cut : (j k : ℕ) (ops : List Op) → length ops ≤ j → length ops ≤ k → cut_within j ops ≡ cut_within k ops
same_cut zero zero ops a b = refl
same_cut zero (suc k) [] a b = refl
same_cut zero (suc k) (op ∷ ops) a b = absurd (omega (arith, a))
same_cut (suc j) zero [] a b = refl
same_cut (suc j) zero (op ∷ ops) a b = absurd (omega (arith, b))
same_cut (suc j) (suc k) [] a b = refl
same_cut (suc j) (suc k) (op ∷ ops) a b =
    let less : length (drop 64 (op ∷ ops)) ≡ length (op ∷ ops) - 64 = length-drop 64 (op ∷ ops) in
    ap (λ (lists : List (List Op)). take 64 (op ∷ ops) ∷ lists) (same_cut j k (drop 64 (op ∷ ops)) (omega (arith, less, a)) (omega (arith, less, b)))

-- if there are operations, the first 64 of them form the first list
pub cut_once : (ops : List Op) → 1 ≤ length ops → cut ops ≡ take 64 ops ∷ cut (drop 64 ops)
cut_once [] some = absurd (omega (arith, some))
cut_once (op ∷ ops) some =
    let less : length (drop 64 (op ∷ ops)) ≡ length (op ∷ ops) - 64 = length-drop 64 (op ∷ ops) in
    ap (λ (lists : List (List Op)). take 64 (op ∷ ops) ∷ lists) (same_cut (length ops) (length (drop 64 (op ∷ ops))) (drop 64 (op ∷ ops)) (omega (arith, less)) (omega arith))

-- A list of at most 64 operations. If it has fewer than 64, nothing comes after it.
module _ (ops rest : List Op) (few : length ops ≤ 64) (last : length ops < 64 → rest ≡ []) where
  front : take 64 (ops ++ rest) ≡ ops
  front = by (nat_lt (length ops) 64) refl
    where
      by : (b : Bool) → nat_lt (length ops) 64 ≡ b → take 64 (ops ++ rest) ≡ ops
      by true e = ap (λ (l : List Op). take 64 (ops ++ l)) (last (grind (arith, nat_tests, e))) ∙ ap (take 64) (append-nil ops) ∙ take_all 64 ops few
      by false e = take-append-le 64 ops rest (grind (arith, nat_tests, e)) ∙ take_all 64 ops few

  back : drop 64 (ops ++ rest) ≡ rest
  back = by (nat_lt (length ops) 64) refl
    where
      by : (b : Bool) → nat_lt (length ops) 64 ≡ b → drop 64 (ops ++ rest) ≡ rest
      by true e =
          let none : rest ≡ [] = last (grind (arith, nat_tests, e)) in
          ap (λ (l : List Op). drop 64 (ops ++ l)) none ∙ ap (drop 64) (append-nil ops) ∙ drop_all 64 ops few ∙ sym none
      by false e = drop-append-le 64 ops rest (grind (arith, nat_tests, e)) ∙ ap (λ (l : List Op). l ++ rest) (drop_all 64 ops few)

  pub first_cut : 1 ≤ length ops → cut (ops ++ rest) ≡ ops ∷ cut rest
  first_cut some =
      let long : length (ops ++ rest) ≡ length ops + length rest = length-append ops rest in
      cut_once (ops ++ rest) (omega (arith, long, some)) ∙ ap (λ (l : List Op). l ∷ cut (drop 64 (ops ++ rest))) front ∙ ap (λ (l : List Op). ops ∷ cut l) back

  -- the lines of that list, followed by those of the lists after it
  pub lines_step : (old : List Op) (before now : List ℕ) → old ≡ ops ++ rest → 1 ≤ length ops → now ≡ before ++ write_lines ops → now ++ cut_lines rest ≡ before ++ cut_lines old
  lines_step old before now is some e =
      let lines : cut_lines old ≡ write_lines ops ++ cut_lines rest =
      ap cut_lines is ∙ ap (flat_map write_lines) (first_cut some) ∙ flat_map-cons write_lines ops (cut rest) in
      ap (λ (l : List ℕ). l ++ cut_lines rest) e ∙ append_assoc before (write_lines ops) (cut_lines rest) ∙ ap (λ (l : List ℕ). before ++ l) (sym lines)

pub can_step : (old ops rest : List Op) → old ≡ ops ++ rest → All CanBeOp ops → All CanBeOp rest → All CanBeOp old
can_step old ops rest is can beyond = subst (All CanBeOp) (sym is) (All-append CanBeOp ops rest can beyond)

pub fewer_left : (old ops rest : List Op) → old ≡ ops ++ rest → 1 ≤ length ops → length rest < length old
fewer_left old ops rest is some = let long = ap length is ∙ length-append ops rest in omega (arith, long, some)

-- there are no more lists than the operations can fill
few_within : (most n : ℕ) (ops : List Op) → length ops ≤ 64 * n → length (cut_within most ops) ≤ n
few_within zero n ops few = omega arith
few_within (suc most) n [] few = omega arith
few_within (suc most) zero (op ∷ ops) few = absurd (omega (arith, few))
few_within (suc most) (suc n) (op ∷ ops) few =
    let less : length (drop 64 (op ∷ ops)) ≡ length (op ∷ ops) - 64 = length-drop 64 (op ∷ ops) in
    let beyond : length (cut_within most (drop 64 (op ∷ ops))) ≤ n = few_within most n (drop 64 (op ∷ ops)) (omega (arith, less, few)) in
    omega (arith, beyond)

pub few_lists : (n : ℕ) (ops : List Op) → length ops ≤ 64 * n → length (cut ops) ≤ n
few_lists n ops few = few_within (length ops) n ops few
