-- The strings that are names.
use Rattle.std.proofs.Common.{◌≡◌, ℕ, Bool, true, false, Result, Ok, Err, List, length, ◌||◌, refl, ap, cond}
use Rattle.std.specs.Prelude.{nat_lt}
use Rattle.std.specs.Result.{is_ok}
use Rattle.std.proofs.lemmas.Bool.{false≢true}
use Rattle.be_value.specs.Name.{name_from, has_nul}
use Rattle.be_value.specs.declared.refusals.Refusal.{Refusal}
use Rattle.be_value.specs.declared.refusals.Refusal.TheVariants.{NameLength, HasNul}

-- The result for a string, depending on whether its length is invalid and whether it contains a
-- NUL.
made : Bool → Bool → List ℕ → Result (List ℕ) Refusal
made long nul t = cond long (Err NameLength) (cond nul (Err HasNul) (Ok t))

same_made : (long nul : Bool) (t n : List ℕ) → made long nul t ≡ Ok n → n ≡ t
unfolding made
same_made true nul t n h = cc
same_made false true t n h = cc
same_made false false t n h = cc

-- The name made from a string is the string itself.
pub same_name : (t n : List ℕ) → name_from t ≡ Ok n → n ≡ t
unfolding made
same_name t n h = same_made (nat_lt (length t) 1 || nat_lt 63 (length t)) (has_nul t) t n h

clean_made : (long nul : Bool) (t : List ℕ) → is_ok (made long nul t) ≡ true → nul ≡ false
unfolding made
clean_made true nul t h = absurd (false≢true h)
clean_made false true t h = absurd (false≢true h)
clean_made false false t h = refl

pub no_nul : (t : List ℕ) → name_from t ≡ Ok t → has_nul t ≡ false
unfolding made
no_nul t h = clean_made (nat_lt (length t) 1 || nat_lt 63 (length t)) (has_nul t) t (ap is_ok h)

kept_made : (long nul : Bool) (t : List ℕ) → is_ok (made long nul t) ≡ true → made long nul t ≡ Ok t
unfolding made
kept_made true nul t h = absurd (false≢true h)
kept_made false true t h = absurd (false≢true h)
kept_made false false t h = refl

-- If a string makes a name, the name is that string.
pub own_name : (t : List ℕ) → is_ok (name_from t) ≡ true → name_from t ≡ Ok t
unfolding made
own_name t h = kept_made (nat_lt (length t) 1 || nat_lt 63 (length t)) (has_nul t) t h
