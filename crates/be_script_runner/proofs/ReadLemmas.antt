-- The bytes that a run has read when it stops.
use Rattle.std.proofs.Common.{ℕ, ◌+◌, ◌≤◌, ◌^◌, List, [], ◌++◌, length, IfErr, IfSome, OnOk, Some, None, refl, sym, ap, subst, ◌∙◌, arith}
use Rattle.std.specs.declared.option.Option.{Option}
use Rattle.std.specs.declared.result.Result.{Result}
use Rattle.std.specs.declared.result.Result.TheVariants.{Ok, Err}
use Rattle.std.specs.Io.KnownBytes.{Consumes, Keeps}
use Rattle.be_script_runner.specs.Run.{HasFewReads, HasReadScript, ReadFault, ReadsAll, ReadsFew, IsLate}
use Rattle.be_script_runner.specs.declared.faults.RunFault.{RunFault}
use Rattle.be_script_runner.specs.declared.faults.RunFault.TheVariants.{Limits, Read, TooLong, Write, Memory}
use Rattle.be_script_runner.proofs.RunLemmas.{all_read}

-- a read that failed
pub read_none : (a b c : Option (List ℕ)) (xs : List ℕ) → Consumes a b xs → Keeps b c → Consumes a c xs
read_none None b c xs h k = tt
read_none (Some a) None c xs h k = absurd h
read_none (Some a) (Some b) None xs h k = absurd k
read_none (Some a) (Some b) (Some c) xs h k = h ∙ ap (λ z. xs ++ z) (sym k)

-- nothing was read
pub none_read : (known : Option (List ℕ)) → ReadsFew known known
none_read None = ([], tt, omega arith)
none_read (Some xs) = ([], refl, omega arith)

-- reading nothing
pub not_read : (P : ℕ → Type 0) (before : ℕ) → P before → P (before + 0)
not_read P before h = subst P (omega arith) h

pub no_reads : (P : ℕ → Type 0) → HasFewReads P P
no_reads P = λ before h. (0, omega arith, not_read P before h)

-- one more read
read_more : (P : ℕ → Type 0) (before times : ℕ) → P ((before + times) + 1) → P (before + (times + 1))
read_more P before times h = subst P (omega arith) h

-- one more read, after reads that returned no more bytes than a script may have
pub few_reads : (old mid new : ℕ → Type 0) (times bytes : ℕ) → times ≤ bytes → bytes ≤ 2 ^ 20 → ((before : ℕ) → old before → mid (before + times)) → ((n : ℕ) → mid n → new (n + 1)) → HasFewReads old new
few_reads old mid new times bytes each few so_far once = λ before h. (times + 1, omega (arith, each, few), read_more new before times (once (before + times) (so_far before h)))

-- an error while reading determines what was read
pub read_by : (e : RunFault) (old new : Option (List ℕ)) → ReadFault e old new → HasReadScript e old new
read_by Limits old new h = absurd h
read_by Read old new h = h
read_by TooLong old new h = h
read_by Write old new h = absurd h
read_by Memory old new h = h

-- if the whole script was read, a later error also says so
pub read_late : {T : Type 0} (r : Result T RunFault) (old new : Option (List ℕ)) (bytes : List ℕ) → IfErr r IsLate → ReadsAll old new bytes → length bytes ≤ 2 ^ 20 → IfErr r (λ e. HasReadScript e old new)
read_late (Ok x) old new bytes l h few = tt
read_late (Err Limits) old new bytes l h few = absurd l
read_late (Err Read) old new bytes l h few = absurd l
read_late (Err TooLong) old new bytes l h few = absurd l
read_late (Err Write) old new bytes l h few = (bytes, h.0, few)
read_late (Err Memory) old new bytes l h few = (bytes, h.0, few)

pub whole_fits : {T E : Type 0} (r : Result T E) (input left : Option (List ℕ)) (bytes : List ℕ) → ReadsAll input left bytes → length bytes ≤ 2 ^ 20 → OnOk r (IfSome input (λ script. length script ≤ 2 ^ 20))
whole_fits (Ok x) input left bytes h few = all_read input left bytes (λ script. length script ≤ 2 ^ 20) h few
whole_fits (Err e) input left bytes h few = tt
