-- Journals that grow.
use Rattle.std.proofs.Common.{◌≡◌, ◌≢◌, ℕ, ◌<◌, eqb, eq-eqb, ne_eqb, List, [], ◌∷◌, ◌++◌, length, Bool, true, false, cond, refl, sym, ap, ◌∙◌, subst, arith, length-append, append_assoc, All}
use Rattle.std.proofs.lemmas.List.{append-nil}
use Rattle.std.proofs.lemmas.List.Elements.{filter-append}
use Rattle.be_journal.specs.declared.entries.Entry.{Entry}
use Rattle.be_journal.specs.Journal.{replay_from, IsLegalFrom, by_pass, Agrees, HasOperations}
use Rattle.be_journal.proofs.LegalLemmas.{legal_push, legal_front}
use Rattle.std.proofs.lemmas.List.{get_or_append_left}
use Rattle.std.proofs.lemmas.List.Elements.{All-nil, All-push}
use Rattle.be_volume.specs.Volume.{State}
use Rattle.be_table.specs.History.{StartsWith, AreOfPasses, IsHistory}

pub starts_itself : {A : Type 0} (log : List A) → StartsWith log log
starts_itself log = ([], sym (append-nil log))

pub starts_more : {A : Type 0} (log seen more : List A) → StartsWith log seen → StartsWith (log ++ more) seen
starts_more log seen more s = (s.0 ++ more, ap (λ l. l ++ more) s.1 ∙ append_assoc seen s.0 more)

pub legal-push : (volume : State) (log : List Entry) (e : Entry) → IsHistory volume log → Agrees (replay_from volume log) e → HasOperations e → IsHistory volume (log ++ e ∷ [])
unfolding IsHistory
legal-push volume log e l d o = (legal_push volume log e l.0 d, All-push HasOperations log e l.1 o)

pub legal-front : (volume : State) (log seen : List Entry) → StartsWith log seen → IsHistory volume log → IsHistory volume seen
unfolding IsHistory
legal-front volume log seen s l = (legal_front volume seen s.0 (subst (IsLegalFrom volume) s.1 l.0), front seen s.0 (subst (All HasOperations) s.1 l.1))
  where
    front : (xs ys : List Entry) → All HasOperations (xs ++ ys) → All HasOperations xs
    front xs ys g = λ i d lt. subst HasOperations (get_or_append_left xs ys d i lt) (g i d (let l = length-append xs ys in omega arith))

pub legal-nil : (volume : State) → IsHistory volume []
unfolding IsHistory
legal-nil volume = ((λ i entry lt. absurd (omega arith)), All-nil HasOperations)

pub is_legal : (volume : State) (log : List Entry) → IsHistory volume log → IsLegalFrom volume log
unfolding IsHistory
is_legal volume log l = l.0

pub below-nil : (passes : ℕ) → AreOfPasses passes []
unfolding AreOfPasses
below-nil passes = tt

pub below-push : (passes : ℕ) (log : List Entry) (e : Entry) → AreOfPasses passes log → e.by < passes → AreOfPasses passes (log ++ e ∷ [])
unfolding AreOfPasses
below-push passes [] e b h = (h, tt)
below-push passes (x ∷ log) e b h = (b.0, below-push passes log e b.1 h)

below_append : (passes : ℕ) (log more : List Entry) → AreOfPasses passes (log ++ more) → AreOfPasses passes log
unfolding AreOfPasses
below_append passes [] more b = tt
below_append passes (x ∷ log) more b = (b.0, below_append passes log more b.1)

pub below-front : (passes : ℕ) (log seen : List Entry) → StartsWith log seen → AreOfPasses passes log → AreOfPasses passes seen
below-front passes log seen s b = below_append passes seen s.0 (subst (AreOfPasses passes) s.1 b)

pub by_pass-nil : (k : ℕ) → by_pass k [] ≡ []
by_pass-nil k = refl

pub by_pass-append : (k : ℕ) (log more : List Entry) → by_pass k (log ++ more) ≡ by_pass k log ++ by_pass k more
by_pass-append k log more = filter-append (λ (e : Entry). eqb e.by k) log more

by_pass-one : (k : ℕ) (e : Entry) (b : Bool) → eqb e.by k ≡ b → by_pass k (e ∷ []) ≡ cond b (e ∷ []) []
by_pass-one k e b is = ap (λ (x : Bool). cond x (e ∷ []) []) is

pub by_pass-own : (k : ℕ) (log : List Entry) (e : Entry) → e.by ≡ k → by_pass k (log ++ e ∷ []) ≡ by_pass k log ++ e ∷ []
by_pass-own k log e is = by_pass-append k log (e ∷ []) ∙ ap (λ l. by_pass k log ++ l) (by_pass-one k e true (eq-eqb e.by k is))

pub by_pass-other : (k : ℕ) (log : List Entry) (e : Entry) → e.by ≢ k → by_pass k (log ++ e ∷ []) ≡ by_pass k log
by_pass-other k log e apart = by_pass-append k log (e ∷ []) ∙ (ap (λ l. by_pass k log ++ l) (by_pass-one k e false (ne_eqb e.by k apart)) ∙ append-nil (by_pass k log))

no_more : {A : Type 0} (xs ys zs : List A) → (xs ++ ys) ++ zs ≡ xs → xs ++ ys ≡ xs
no_more xs [] zs e = append-nil xs
no_more xs (y ∷ ys) zs e = absurd (let l : length ((xs ++ y ∷ ys) ++ zs) ≡ length xs = ap length e in
    let m = length-append (xs ++ y ∷ ys) zs in let n = length-append xs (y ∷ ys) in omega arith)

-- a journal between a prefix and the whole, where these have the same entries of one pass
pub by_pass-between : (k : ℕ) (log mid seen mine : List Entry) → StartsWith log mid → StartsWith mid seen → by_pass k seen ≡ mine → by_pass k log ≡ mine → by_pass k mid ≡ mine
by_pass-between k log mid seen mine s t own whole =
    let m : by_pass k mid ≡ mine ++ by_pass k t.0 = ap (by_pass k) t.1 ∙ (by_pass-append k seen t.0 ∙ ap (λ l. l ++ by_pass k t.0) own) in
    let w : (mine ++ by_pass k t.0) ++ by_pass k s.0 ≡ mine = ap (λ l. l ++ by_pass k s.0) (sym m) ∙ (sym (by_pass-append k mid s.0) ∙ (ap (by_pass k) (sym s.1) ∙ whole)) in
    m ∙ no_more mine (by_pass k t.0) (by_pass k s.0) w
