-- Two ascending lists, and how two answers to a query differ.
use Rattle.std.proofs.Common.{◌≡◌, ◌≢◌, ◌<◌, ◌≤◌, ◌+◌, ◌-◌, ℕ, zero, suc, Bool, true, false, List, [], ◌∷◌, ◌++◌, drop, length, refl, sym, ap, subst, take, ◌∙◌, inl, inr, arith}
use Rattle.std.specs.Prelude.{Result, Ok, Err, IfOk, cond, get_or, not, ◌==◌}
use Rattle.std.proofs.Common.{eq-eqb, ne_eqb}
use Rattle.std.proofs.Math.Seq.{take-add}
use Rattle.std.proofs.lemmas.Bool.{cases_lt}
use Rattle.std.proofs.lemmas.List.{get_or-drop, get_or-take, get_or_default, length-drop, length-take, take_more}
use Rattle.std.proofs.lemmas.List.Elements.{filter-append}
use Rattle.std.proofs.lemmas.List.Folds.{list_any-from_Any, list_any_none}
use Rattle.std.proofs.lemmas.List.Kept.{AllPairs-from_increasing}
use Rattle.std.specs.List.Sorted.{IsStrictlyIncreasing}
use Rattle.be_store.specs.Live.{LiveQuery, Refreshes, is_among, without}
use Rattle.be_volume.specs.Query.{scan}
use Rattle.be_volume.specs.Volume.{State}

pub held_at : (xs : List ℕ) (n i : ℕ) → i < length xs → get_or xs i 0 ≡ n → is_among xs n ≡ true
held_at xs n i lt is = list_any-from_Any (λ m. m == n) xs (i, n, lt, get_or_default xs i n 0 lt ∙ is, eq-eqb n n refl)

pub lacks : (xs : List ℕ) (n i : ℕ) → ((k : ℕ) → k < i → get_or xs k 0 < n) → ((k : ℕ) → i ≤ k → k < length xs → n < get_or xs k 0) → is_among xs n ≡ false
lacks xs n i below above = list_any_none (λ m. m == n) xs (λ k d lt. ne_eqb (get_or xs k d) n (λ e.
    let same : get_or xs k 0 ≡ n = get_or_default xs k 0 d lt ∙ e in
    elim (cases_lt k i) [ inl before ↦ absurd (let l = below k before in omega (arith, l, same)) | inr past ↦ absurd (let l = above k past lt in omega (arith, l, same)) ]))

pub without_append : (xs ys others : List ℕ) → without (xs ++ ys) others ≡ without xs others ++ without ys others
without_append xs ys others = filter-append (λ n. not (is_among others n)) xs ys

-- Updating a live query with an answer is a refresh.
pub refreshes : (volume : State) (old new : LiveQuery) (now came went : List ℕ) → scan volume old.query ≡ Ok now → new.query ≡ old.query → new.last ≡ now →
    came ≡ without now old.last → went ≡ without old.last now → Refreshes volume old new came went
refreshes volume old new now came went answer query is created removed =
    let last : now ≡ new.last = sym is in record {
      query = query;
      answer = answer ∙ ap Ok last;
      created = created ∙ ap (λ l. without l old.last) last;
      removed = removed ∙ ap (without old.last) last;
    }

pub if_ok : {T E : Type 0} (r : Result T E) (P Q : T → Type 0) → ((x : T) → P x → Q x) → IfOk r P → IfOk r Q
if_ok (Ok x) P Q f p = f x p
if_ok (Err e) P Q f p = tt

-- With one more number, which is kept if it isn't among the others.
alone : (others : List ℕ) (n : ℕ) (b : Bool) → is_among others n ≡ b → without (n ∷ []) others ≡ cond (not b) (n ∷ []) []
alone others n b is = ap (λ (x : Bool). cond (not x) (n ∷ []) []) is

pub without_more : (front others : List ℕ) (n : ℕ) (b : Bool) → is_among others n ≡ b → without (front ++ n ∷ []) others ≡ without front others ++ cond (not b) (n ∷ []) []
without_more front others n b is = without_append front (n ∷ []) others ∙ ap (λ l. without front others ++ l) (alone others n b is)

take_short : (n : ℕ) (xs : List ℕ) → length (take n xs) ≤ n
take_short n xs = subst (λ m. m ≤ n) (sym (length-take n xs)) (omega arith)

-- If no number of a list is among the others, the whole list is kept.
all_kept : (xs others : List ℕ) → ((i : ℕ) → i < length xs → is_among others (get_or xs i 0) ≡ false) → without xs others ≡ xs
all_kept [] others all = refl
all_kept (x ∷ xs) others all =
    without_append (x ∷ []) xs others ∙ (ap (λ l. l ++ without xs others) (alone others x false (all zero (omega arith)))
    ∙ ap (λ l. x ∷ l) (all_kept xs others (λ i lt. all (suc i) (omega (arith, lt)))))

-- A part in which no number is among the others is added to what is left of the part before it.
pub part_kept : (xs others : List ℕ) (from end : ℕ) → from ≤ end → end ≤ length xs → ((i : ℕ) → from ≤ i → i < end → is_among others (get_or xs i 0) ≡ false) →
    (was is : List ℕ) → was ≡ without (take from xs) others → is ≡ was ++ take (end - from) (drop from xs) → is ≡ without (take end xs) others
part_kept xs others from end le short lacking was is before added =
    let m : ℕ = end - from in
    let part : List ℕ = take m (drop from xs) in
    let sum : from + m ≡ end = omega (arith, le) in
    let seam : take from xs ++ part ≡ take end xs = sym (take-add from m xs) ∙ ap (λ e. take e xs) sum in
    let long : length part ≤ m = take_short m (drop from xs) in
    let kept : without part others ≡ part = all_kept part others (λ i lt.
    let inside : i < m = omega (arith, lt, long) in
    let at : get_or part i 0 ≡ get_or xs (from + i) 0 = get_or-take m (drop from xs) i 0 inside ∙ get_or-drop from xs i 0 in
    ap (is_among others) at ∙ lacking (from + i) (omega arith) (omega (arith, inside, sum))) in
    added ∙ (ap (λ l. l ++ part) before ∙ (ap (λ l. without (take from xs) others ++ l) (sym kept)
    ∙ (sym (without_append (take from xs) part others) ∙ ap (λ l. without l others) seam)))

-- One more number of such a part.
pub part_more : (xs : List ℕ) (from i : ℕ) → from ≤ i → i < length xs → take (i + 1 - from) (drop from xs) ≡ take (i - from) (drop from xs) ++ get_or xs i 0 ∷ []
part_more xs from i le short =
    let m : ℕ = i - from in
    let rest : List ℕ = drop from xs in
    let next : i + 1 - from ≡ m + 1 = omega (arith, le) in
    let sum : from + m ≡ i = omega (arith, le) in
    let inside : m < length rest = subst (λ l. m < l) (sym (length-drop from xs)) (omega (arith, le, short)) in
    ap (λ k. take k rest) next ∙ (take_more rest m 0 inside ∙ ap (λ x. take m rest ++ x ∷ []) (get_or-drop from xs m 0 ∙ ap (λ j. get_or xs j 0) sum))

-- Two ascending lists are traversed side by side. The others before the index `at` are less than the next number, and those from
-- the index on are not.
module _ (numbers others : List ℕ) (up : IsStrictlyIncreasing numbers) (up_others : IsStrictlyIncreasing others) (k from at : ℕ) (inside : k < length numbers)
    (before : (i j : ℕ) → i < from → k ≤ j → j < length numbers → get_or others i 0 < get_or numbers j 0)
    (between : (i : ℕ) → from ≤ i → i < at → get_or others i 0 < get_or numbers k 0)
    (from_there : at < length others → get_or numbers k 0 ≤ get_or others at 0) where
  below : (i : ℕ) → i < at → get_or others i 0 < get_or numbers k 0
  below i lt = elim (cases_lt i from) [ inl early ↦ before i k early (omega arith) inside | inr late ↦ between i late lt ]

  -- The next number comes after it.
  pub below_next : (i j : ℕ) → i < at → k + 1 ≤ j → j < length numbers → get_or others i 0 < get_or numbers j 0
  below_next i j lt le short =
      let first = below i lt in
      let more = AllPairs-from_increasing numbers up k j 0 (omega (arith, le)) short in omega (arith, first, more)

  -- From the index on, the others are greater than the number, unless it is there.
  pub beyond : (at < length others → get_or others at 0 ≢ get_or numbers k 0) → (i : ℕ) → at ≤ i → i < length others → get_or numbers k 0 < get_or others i 0
  beyond other i le short =
      let here = from_there (omega (arith, le, short)) in
      let differs = other (omega (arith, le, short)) in
      elim (cases_lt at i) [
        | inl past ↦ (let more = AllPairs-from_increasing others up_others at i 0 past short in omega (arith, here, differs, more))
        | inr reached ↦ (let same : at ≡ i = omega (arith, le, reached) in
            let above : get_or numbers k 0 < get_or others at 0 = omega (arith, here, differs) in
            subst (λ n. get_or numbers k 0 < get_or others n 0) same above)
      ]

  pub lacks_this : (at < length others → get_or others at 0 ≢ get_or numbers k 0) → is_among others (get_or numbers k 0) ≡ false
  lacks_this other = lacks others (get_or numbers k 0) at below (beyond other)

  -- If the number is there, the next number comes after it, and the others after it are greater than the number.
  pub below_next_held : get_or others at 0 ≡ get_or numbers k 0 → (i j : ℕ) → i < at + 1 → k + 1 ≤ j → j < length numbers → get_or others i 0 < get_or numbers j 0
  below_next_held same i j lt le short =
      let more = AllPairs-from_increasing numbers up k j 0 (omega (arith, le)) short in
      elim (cases_lt i at) [
        | inl early ↦ below_next i j early le short
        | inr reached ↦ (let is : at ≡ i = omega (arith, lt, reached) in subst (λ n. get_or others n 0 < get_or numbers j 0) is (omega (arith, same, more)))
      ]

  pub beyond_held : get_or others at 0 ≡ get_or numbers k 0 → (i : ℕ) → at + 1 ≤ i → i < length others → get_or numbers k 0 < get_or others i 0
  beyond_held same i le short = let more = AllPairs-from_increasing others up_others at i 0 (omega (arith, le)) short in omega (arith, same, more)

  module _ (after : (i j : ℕ) → from ≤ i → i < length others → j < k → get_or numbers j 0 < get_or others i 0) where
    -- The others between the indices are not among the numbers.
    pub between_lack : at ≤ length others → (i : ℕ) → from ≤ i → i < at → is_among numbers (get_or others i 0) ≡ false
    between_lack short i le lt = lacks numbers (get_or others i 0) k (λ j early. after i j le (omega (arith, lt, short)) early) (λ j late inner.
        let first = between i le lt in
        elim (cases_lt k j) [
          | inl past ↦ (let more = AllPairs-from_increasing numbers up k j 0 past inner in omega (arith, first, more))
          | inr reached ↦ (let same : k ≡ j = omega (arith, late, reached) in subst (λ n. get_or others i 0 < get_or numbers n 0) same first)
        ])

    -- From an index on, the others are greater than one more number.
    pub after_next : (next : ℕ) → from ≤ next → ((i : ℕ) → next ≤ i → i < length others → get_or numbers k 0 < get_or others i 0) →
        (i j : ℕ) → next ≤ i → i < length others → j < k + 1 → get_or numbers j 0 < get_or others i 0
    after_next next le past i j late short lt =
        elim (cases_lt j k) [
          | inl early ↦ after i j (omega (arith, le, late)) short early
          | inr reached ↦ (let same : k ≡ j = omega (arith, lt, reached) in subst (λ n. get_or numbers n 0 < get_or others i 0) same (past i late short))
        ]

-- When the numbers end, the others that are greater than all of them are not among them.
pub rest_lack : (numbers others : List ℕ) (k from : ℕ) → length numbers ≤ k → ((i j : ℕ) → from ≤ i → i < length others → j < k → get_or numbers j 0 < get_or others i 0) →
    (i : ℕ) → from ≤ i → i < length others → is_among numbers (get_or others i 0) ≡ false
rest_lack numbers others k from all after i le lt =
    lacks numbers (get_or others i 0) k (λ j early. after i j le lt early) (λ j late inner. absurd (omega (arith, all, late, inner)))
