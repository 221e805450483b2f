-- Runs of literal parts in a list, with anything in between.
use Rattle.std.proofs.Common.{◌≡◌, ℕ, ◌+◌, ◌-◌, ◌<◌, ◌≤◌, Bool, true, false, List, [], ◌∷◌, ◌++◌, map, length, drop, ◌&&◌, ◌||◌, get_or, refl, sym, ap, ◌∙◌, subst, arith, zero, suc, take, length-append, length-drop}
use Rattle.std.specs.Bool.{Decides}
use Rattle.std.specs.Cmp.{both_ways}
use Rattle.std.specs.Prelude.{nat_eq}
use Rattle.std.specs.List.{ends_with}
use Rattle.std.proofs.Math.Logic.{⊎_elim}
use Rattle.std.proofs.lemmas.List.{drop-drop, drop_all, append-nil, take_all}
use Rattle.std.proofs.Math.Seq.{drop-append_seam}
use Rattle.std.proofs.lemmas.Bool.{true≢false, or_left, or_right, or_cases, and_parts, eq-eqb, eqb-true, cases_lt, false_from_ne_true, true_from_ne_false}
use Rattle.std.proofs.lemmas.Bool.Decides.{Decides-eqb}
use Rattle.std.proofs.lemmas.Slice.Eq.{slice_eq-Decides}
use Rattle.be_pattern.specs.Match.{Part, Run, Only, matches, some_tail}
use Rattle.be_byte_pattern.specs.Runs.{after_stars}

-- a tail of a tail is a tail
pub tail_further : (p : List ℕ → Bool) (cs : List ℕ) (n : ℕ) → some_tail p (drop n cs) ≡ true → some_tail p cs ≡ true
tail_further p cs zero h = h
tail_further p [] (suc n) h = h
tail_further p (c ∷ cs) (suc n) h = or_right _ _ (tail_further p cs n h)

pub which_tail : (p : List ℕ → Bool) (cs : List ℕ) → some_tail p cs ≡ true → (n : ℕ) × (p (drop n cs) ≡ true)
which_tail p [] h = (0, h)
which_tail p (c ∷ cs) h = ⊎_elim (λ here. (0, here)) (λ later. let w = which_tail p cs later in (suc w.0, w.1)) (or_cases _ _ h)

-- the whole list is a tail
pub tail_whole : (p : List ℕ → Bool) (cs : List ℕ) → p cs ≡ true → some_tail p cs ≡ true
tail_whole p [] h = h
tail_whole p (c ∷ cs) h = or_left _ _ h

pub tail_at : (p : List ℕ → Bool) (cs : List ℕ) (n : ℕ) → p (drop n cs) ≡ true → some_tail p cs ≡ true
tail_at p cs n h = tail_further p cs n (tail_whole p (drop n cs) h)

-- literal parts match their own run
pub run_taken : (r rest : List ℕ) (ps : List Part) → matches (map Only r ++ ps) (r ++ rest) ≡ matches ps rest
run_taken [] rest ps = refl
run_taken (d ∷ r) rest ps = ap (λ b. b && matches (map Only r ++ ps) (r ++ rest)) (eq-eqb d d refl) ∙ run_taken r rest ps

-- literal parts match only their own run
pub takes_run : (r cs : List ℕ) (ps : List Part) → matches (map Only r ++ ps) cs ≡ true → (rest : List ℕ) × ((cs ≡ r ++ rest) × (matches ps rest ≡ true))
takes_run [] cs ps h = (cs, (refl, h))
takes_run (d ∷ r) [] ps h = absurd (true≢false (sym h))
takes_run (d ∷ r) (c ∷ cs) ps h =
    let k = and_parts _ _ h in
    let w = takes_run r cs ps k.1 in
    (w.0, ((λ i. eqb-true c d k.0 i ∷ w.1.0 i), w.1.1))

pub run_missing : (r cs : List ℕ) (ps : List Part) → ((rest : List ℕ) → cs ≡ r ++ rest → ⊥) → matches (map Only r ++ ps) cs ≡ false
run_missing r cs ps h = false_from_ne_true (matches (map Only r ++ ps) cs) (λ k. let w = takes_run r cs ps k in h w.0 w.1.0)

-- The first occurrence of a run serves as well as any later one.
pub first_serves : (r after : List ℕ) (ps : List Part) → some_tail (matches (map Only r ++ (Run ∷ ps))) (r ++ after) ≡ some_tail (matches ps) after
first_serves r after ps = both_ways _ _ there back
  where
    there : some_tail (matches (map Only r ++ (Run ∷ ps))) (r ++ after) ≡ true → some_tail (matches ps) after ≡ true
    there h =
        let w = which_tail (matches (map Only r ++ (Run ∷ ps))) (r ++ after) h in
        let t = takes_run r (drop w.0 (r ++ after)) (Run ∷ ps) w.1 in
        let place : t.0 ≡ drop w.0 after =
        sym (drop-append_seam r t.0) ∙ ap (drop (length r)) (sym t.1.0) ∙ drop-drop (length r) w.0 (r ++ after)
        ∙ ap (λ n. drop n (r ++ after)) (let e : w.0 + length r ≡ length r + w.0 = omega arith in e)
        ∙ sym (drop-drop w.0 (length r) (r ++ after)) ∙ ap (drop w.0) (drop-append_seam r after) in
        tail_further (matches ps) after w.0 (subst (λ l. some_tail (matches ps) l ≡ true) place t.1.1)

    back : some_tail (matches ps) after ≡ true → some_tail (matches (map Only r ++ (Run ∷ ps))) (r ++ after) ≡ true
    back h = tail_whole (matches (map Only r ++ (Run ∷ ps))) (r ++ after) (run_taken r after (Run ∷ ps) ∙ h)

-- if the run doesn't begin here, the next position is tried
pub next_place : (p : List ℕ → Bool) (c : ℕ) (cs : List ℕ) → p (c ∷ cs) ≡ false → some_tail p (c ∷ cs) ≡ some_tail p cs
next_place p c cs h = ap (λ b. b || some_tail p cs) h

-- a run doesn't begin at a position that doesn't hold its first byte
other_first : (first : ℕ) (others cs : List ℕ) (k : ℕ) (ps : List Part) → k < length cs → (get_or cs k 0 ≡ first → ⊥) → matches (map Only (first ∷ others) ++ ps) (drop k cs) ≡ false
other_first first others [] k ps lt differs = absurd (omega (arith, lt))
other_first first others (c ∷ cs) zero ps lt differs = run_missing (first ∷ others) (c ∷ cs) ps (λ rest e. differs (head (others ++ rest) e))
  where
    head : (rest : List ℕ) → c ∷ cs ≡ first ∷ rest → c ≡ first
    head rest e = cc
other_first first others (c ∷ cs) (suc k) ps lt differs = other_first first others cs k ps (omega (arith, lt)) differs

-- positions at which there is no match can be skipped
places_passed : (p : List ℕ → Bool) (n : ℕ) (cs : List ℕ) → ((k : ℕ) → k < n → p (drop k cs) ≡ false) → some_tail p (drop n cs) ≡ some_tail p cs
places_passed p zero cs h = refl
places_passed p (suc n) [] h = refl
places_passed p (suc n) (c ∷ cs) h = places_passed p n cs (λ k lt. h (suc k) (omega (arith, lt))) ∙ sym (next_place p c cs (h zero (omega arith)))

pub passed_to : (run cs : List ℕ) (first : ℕ) (others : List ℕ) (n : ℕ) (ps : List Part) → run ≡ first ∷ others → n ≤ length cs → ((k : ℕ) → k < n → get_or cs k 0 ≡ first → ⊥)
    → some_tail (matches (map Only run ++ ps)) (drop n cs) ≡ some_tail (matches (map Only run ++ ps)) cs
passed_to run cs first others n ps e le differs =
    places_passed (matches (map Only run ++ ps)) n cs
    (λ k lt. ap (λ (r : List ℕ). matches (map Only r ++ ps) (drop k cs)) e ∙ other_first first others cs k ps (omega (arith, lt, le)) (differs k lt))

-- a position at which there is no match can be skipped
pub one_passed : (p : List ℕ → Bool) (cs : List ℕ) → p cs ≡ false → some_tail p (drop 1 cs) ≡ some_tail p cs
one_passed p [] h = refl
one_passed p (c ∷ cs) h = sym (next_place p c cs h)

-- an empty run is found at the first position
pub nothing_sought : (run cs : List ℕ) (ps : List Part) → length run ≡ 0 → some_tail (matches (map Only run ++ (Run ∷ ps))) cs ≡ some_tail (matches ps) cs
nothing_sought [] cs ps e = first_serves [] cs ps
nothing_sought (d ∷ run) cs ps e = absurd (omega (arith, e))

-- a list that is shorter than the run doesn't contain it
pub run_too_long : (r cs : List ℕ) (ps : List Part) → length cs < length r → some_tail (matches (map Only r ++ ps)) cs ≡ false
run_too_long r cs ps short = false_from_ne_true (some_tail (matches (map Only r ++ ps)) cs) (λ h.
    let w = which_tail (matches (map Only r ++ ps)) cs h in
    let t = takes_run r (drop w.0 cs) ps w.1 in
    let e : length (drop w.0 cs) ≡ length r + length t.0 = ap length t.1.0 ∙ length-append r t.0 in
    let f : length (drop w.0 cs) ≡ length cs - w.0 = length-drop w.0 cs in
    omega (arith, e, f, short))

-- The last run must be at the end.

nothing_left : (cs : List ℕ) → matches [] cs ≡ true → cs ≡ []
nothing_left [] h = refl
nothing_left (c ∷ cs) h = absurd (true≢false (sym h))

-- if a tail is equal to the run, it is the tail of the run's length
end_place : (r cs : List ℕ) (n : ℕ) → drop n cs ≡ r → drop (length cs - length r) cs ≡ r
end_place r cs n e =
    let f : length r ≡ length cs - n = ap length (sym e) ∙ length-drop n cs in
    ⊎_elim
    (λ (few : n < length cs). let g : length cs - length r ≡ n = omega (arith, f, few) in ap (λ k. drop k cs) g ∙ e)
    (λ (many : length cs ≤ n).
    let none : length r ≡ 0 = omega (arith, f, many) in
    let at : length cs ≤ length cs - length r = omega (arith, none) in
    drop_all (length cs - length r) cs at ∙ sym (drop_all n cs many) ∙ e)
    (cases_lt n (length cs))

decides : (r cs : List ℕ) → Decides (ends_with nat_eq cs r) (r ≡ drop (length cs - length r) cs)
decides r cs = slice_eq-Decides Decides-eqb r (drop (length cs - length r) cs) (ends_with nat_eq cs r) refl

pub last_serves : (r cs : List ℕ) → some_tail (matches (map Only r ++ [])) cs ≡ ends_with nat_eq cs r
last_serves r cs = both_ways _ _ there back
  where
    there : some_tail (matches (map Only r ++ [])) cs ≡ true → ends_with nat_eq cs r ≡ true
    there h =
        let w = which_tail (matches (map Only r ++ [])) cs h in
        let t = takes_run r (drop w.0 cs) [] w.1 in
        let whole : drop w.0 cs ≡ r = t.1.0 ∙ ap (λ l. r ++ l) (nothing_left t.0 t.1.1) ∙ append-nil r in
        (decides r cs).1 (sym (end_place r cs w.0 whole))

    back : ends_with nat_eq cs r ≡ true → some_tail (matches (map Only r ++ [])) cs ≡ true
    back h =
        let e : r ≡ drop (length cs - length r) cs = (decides r cs).0 h in
        let whole : drop (length cs - length r) cs ≡ r ++ [] = sym e ∙ sym (append-nil r) in
        tail_at (matches (map Only r ++ [])) cs (length cs - length r) (ap (matches (map Only r ++ [])) whole ∙ run_taken r [] [])

-- The loop over the runs after stars, with each way in which it continues or ends.

pub run_ends : (left after : List (List ℕ)) (r last rest : List ℕ) (b whole : Bool) → left ≡ r ∷ after → after ≡ [] → last ≡ r
    → b ≡ ends_with nat_eq rest last → matches (after_stars left) rest ≡ whole → b ≡ whole
run_ends left after r last rest b whole e none is found so_far =
    found ∙ ap (ends_with nat_eq rest) is ∙ sym (last_serves r rest)
    ∙ ap (λ l. some_tail (matches (map Only r ++ after_stars l)) rest) (sym none)
    ∙ ap (λ l. matches (after_stars l) rest) (sym e) ∙ so_far

pub run_absent : (left after : List (List ℕ)) (r sought rest : List ℕ) (whole : Bool) → left ≡ r ∷ after → sought ≡ r
    → ((ps : List Part) → some_tail (matches (map Only sought ++ ps)) rest ≡ false) → matches (after_stars left) rest ≡ whole → false ≡ whole
run_absent left after r sought rest whole e is absent so_far =
    sym (absent (after_stars after)) ∙ ap (λ l. some_tail (matches (map Only l ++ after_stars after)) rest) is
    ∙ ap (λ l. matches (after_stars l) rest) (sym e) ∙ so_far

pub run_passed : (left after : List (List ℕ)) (r sought rest shorter : List ℕ) (whole : Bool) → left ≡ r ∷ after → (after ≡ [] → ⊥) → sought ≡ r
    → ((ps : List Part) → some_tail (matches (map Only sought ++ (Run ∷ ps))) rest ≡ some_tail (matches ps) shorter)
    → matches (after_stars left) rest ≡ whole → matches (after_stars after) shorter ≡ whole
run_passed left [] r sought rest shorter whole e some is found so_far = absurd (some refl)
run_passed left (s ∷ after) r sought rest shorter whole e some is found so_far =
    sym (found (map Only s ++ after_stars after)) ∙ ap (λ l. some_tail (matches (map Only l ++ after_stars (s ∷ after))) rest) is
    ∙ ap (λ l. matches (after_stars l) rest) (sym e) ∙ so_far

pub none_mapped : {X : Type 0} (f : X → List ℕ) (xs : List X) → length xs ≡ 0 → map f xs ≡ []
none_mapped f [] e = refl
none_mapped f (x ∷ xs) e = absurd (omega (arith, e))

pub some_mapped : {X : Type 0} (f : X → List ℕ) (xs : List X) → (length xs ≡ 0 → ⊥) → map f xs ≡ [] → ⊥
some_mapped f [] some e = some refl
some_mapped f (x ∷ xs) some e = cc

-- Compares the end of a list.

pub end_found : (run bytes end : List ℕ) (b : Bool) → end ≡ drop (length bytes - length run) bytes → length run ≤ length bytes
    → (b ≡ true → take (length run) end ≡ run) → (b ≡ false → (rest : List ℕ) → end ≡ run ++ rest → ⊥) → b ≡ ends_with nat_eq bytes run
end_found run bytes end b is fits begins differs = both_ways _ _
    (λ h.
    let short : length end ≤ length run = omega (arith, ap length is, length-drop (length bytes - length run) bytes, fits) in
    (decides run bytes).1 (sym (begins h) ∙ take_all (length run) end short ∙ is))
    (λ h. true_from_ne_false b (λ k. differs k [] (is ∙ sym ((decides run bytes).0 h) ∙ sym (append-nil run))))
