-- The journal entry at an index is the first of the entries from that index on.
use Rattle.std.proofs.Common.{◌≡◌, ◌<◌, ◌≤◌, ◌+◌, ℕ, inl, inr, List, length, take, drop, get_or, Some, sym, ap, ◌∙◌, arith, length-drop}
use Rattle.std.specs.Prelude.{slice_get}
use Rattle.std.proofs.lemmas.List.{get_or-drop, get_or-take, length-take}
use Rattle.std.proofs.lemmas.Option.{slice_get-get_or, slice_get_cases, slice_get_past}

pub first_from : {A : Type 0} (log : List A) (from : ℕ) → slice_get (take 1 (drop from log)) 0 ≡ slice_get log from
first_from log from =
    let one = take 1 (drop from log) in
    let long = length-take 1 (drop from log) in
    let rest = length-drop from log in
    elim (slice_get_cases log from).1 [
      | inl (x, short, is, here) ↦
          (let inside : 0 < length one = omega (arith, long, rest, short) in
          let at : from + 0 ≡ from = omega arith in
          slice_get-get_or one 0 x inside
          ∙ (ap Some (get_or-take 1 (drop from log) 0 x (omega arith) ∙ (get_or-drop from log 0 x ∙ (ap (λ n. get_or log n x) at ∙ here))) ∙ sym is))
      | inr (past, is) ↦
          (let none : length one ≤ 0 = omega (arith, long, rest, past) in
          slice_get_past one 0 none ∙ sym is)
    ]
