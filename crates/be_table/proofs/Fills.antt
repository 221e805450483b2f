-- A word of a page is filled in one or two steps.
use Rattle.std.proofs.Common.{◌≡◌, ◌≢◌, ℕ, ◌+◌, ◌<◌, ◌||◌, if◌then◌else◌, List, [], ◌∷◌, length, Bool, slice_index, slice_set, subst, sym, ap, ◌∙◌, arith, eq-eqb, ne_eqb, length-set, get_or-set_same}
use Rattle.std.proofs.lemmas.List.{set-set}
use Rattle.be_pages.specs.declared.page_pool.Place.{Place}
use Rattle.be_pages.specs.declared.page_pool.Place.TheVariants.{Filled, Current}
use Rattle.be_table.specs.declared.pass.Knowledge.{Knowledge}
use Rattle.be_table.specs.Rule.{alone, pass_of, word_place}
use Rattle.be_table.specs.WriterState.{shows_free, shows_taken}
use Rattle.be_table.specs.Steps.{MayBeFilled, fills, fill_steps, fills_word, fill_moves, with_history}
use Rattle.be_table.specs.declared.pass.Move.{Move}
use Rattle.be_table.specs.declared.pass.Move.TheVariants.{Fill}
use Rattle.be_table.specs.Trace.{Makes}
use Rattle.be_table.proofs.Traces.{makes_more}
use Rattle.be_table.proofs.Frames.{Me1}

-- a page that was filled may be filled again
pub may_again : (places : List Place) (p : ℕ) → p < length places → MayBeFilled (slice_set places p Filled) p
may_again places p lt = (omega (arith, lt, length-set places p Filled), ap (λ (x : Place). shows_taken x || shows_free x) (get_or-set_same places p Filled Current lt))

-- the word was there
pub there : (a : Knowledge) (p i n x : ℕ) → n ≡ slice_index a.words (word_place p i) → n ≡ x → fills a p i n ≡ fills_word a p i x
there a p i n x found same =
    let one : 1 ≡ fill_steps a p i x = sym (ap (λ (b : Bool). if b then 1 else 2) (eq-eqb (slice_index a.words (word_place p i)) x (sym found ∙ same))) in
    ap (λ (q : ℕ × ℕ). record (fills a p i q.0) { steps = a.steps + q.1 }) (λ k. (same k, one k))

-- another word was there, and the new one was stored
pub stored : (a : Knowledge) (p i n x : ℕ) → n ≡ slice_index a.words (word_place p i) → n ≢ x → fills (fills a p i n) p i x ≡ fills_word a p i x
stored a p i n x found other =
    let two : fill_steps a p i x ≡ 2 = ap (λ (b : Bool). if b then 1 else 2) (ne_eqb (slice_index a.words (word_place p i)) x (λ e. other (found ∙ e))) in
    let steps : a.steps + 1 + 1 ≡ a.steps + fill_steps a p i x = omega (arith, two) in
    let places : slice_set (slice_set a.places p Filled) p Filled ≡ slice_set a.places p Filled = set-set a.places p Filled Filled in
    let words : slice_set (slice_set a.words (word_place p i) n) (word_place p i) x ≡ slice_set a.words (word_place p i) x = set-set a.words (word_place p i) n x in
    ap (λ (q : List Place × List ℕ × ℕ). record a { places = q.0; words = q.1; steps = q.2 }) (λ k. (places k, words k, steps k))

-- the same, for the seats before, between and after the steps
pub there_as : (me r : Me1) (p i n x : ℕ) (h : List Move) → r ≡ (alone (fills (with_history (pass_of me.0) h) p i n), me.1) → n ≡ slice_index (pass_of me.0).words (word_place p i) → n ≡ x → r ≡ (alone (fills_word (with_history (pass_of me.0) (pass_of r.0).history) p i x), me.1)
there_as me r p i n x h is found same =
    let a = pass_of me.0 in
    let last : (pass_of r.0).history ≡ h = ap (λ (m : Me1). (pass_of m.0).history) is in
    is ∙ ap (λ (k : Knowledge). (alone k, me.1)) (there (with_history a h) p i n x found same) ∙ ap (λ (l : List Move). (alone (fills_word (with_history a l) p i x), me.1)) (sym last)

pub stored_as : (me r q : Me1) (p i n x : ℕ) (h g : List Move) → r ≡ (alone (fills (with_history (pass_of me.0) h) p i n), me.1) → q ≡ (alone (fills (with_history (pass_of r.0) g) p i x), r.1) → n ≡ slice_index (pass_of me.0).words (word_place p i) → n ≢ x
    → q ≡ (alone (fills_word (with_history (pass_of me.0) (pass_of q.0).history) p i x), me.1)
stored_as me r q p i n x h g first next found other =
    let a = pass_of me.0 in
    let last : (pass_of q.0).history ≡ g = ap (λ (m : Me1). (pass_of m.0).history) next in
    next ∙ ap (λ (m : Me1). (alone (fills (with_history (pass_of m.0) g) p i x), m.1)) first ∙ ap (λ (k : Knowledge). (alone k, me.1)) (stored (with_history a g) p i n x found other)
    ∙ ap (λ (l : List Move). (alone (fills_word (with_history a l) p i x), me.1)) (sym last)

-- the moves of a fill, depending on whether the word was there
abbrev moves_if : Knowledge → ℕ → ℕ → ℕ → ℕ → Bool → List Move
moves_if a p i x n z = Fill a.number p i n ∷ (if z then [] else Fill a.number p i x ∷ [])

pub there_makes : (me r : Me1) (p i n x : ℕ) (h : List Move) → r ≡ (alone (fills (with_history (pass_of me.0) h) p i n), me.1) → n ≡ slice_index (pass_of me.0).words (word_place p i) → n ≡ x
    → Makes (pass_of me.0).number (pass_of me.0).history (Fill (pass_of me.0).number p i n ∷ []) h → Makes (pass_of me.0).number (pass_of me.0).history (fill_moves (pass_of me.0) p i x) (pass_of r.0).history
there_makes me r p i n x h is found same makes =
    let a = pass_of me.0 in
    let last : (pass_of r.0).history ≡ h = ap (λ (m : Me1). (pass_of m.0).history) is in
    let w = slice_index a.words (word_place p i) in
    subst (λ (y : ℕ × Bool × List Move). Makes a.number a.history (moves_if a p i x y.0 y.1) y.2) (λ k. (found k, sym (eq-eqb w x (sym found ∙ same)) k, sym last k)) makes

pub stored_makes : (me r q : Me1) (p i n x : ℕ) (h g : List Move) → r ≡ (alone (fills (with_history (pass_of me.0) h) p i n), me.1) → q ≡ (alone (fills (with_history (pass_of r.0) g) p i x), r.1) → n ≡ slice_index (pass_of me.0).words (word_place p i) → n ≢ x
    → Makes (pass_of me.0).number (pass_of me.0).history (Fill (pass_of me.0).number p i n ∷ []) h → Makes (pass_of r.0).number (pass_of r.0).history (Fill (pass_of r.0).number p i x ∷ []) g
    → Makes (pass_of me.0).number (pass_of me.0).history (fill_moves (pass_of me.0) p i x) (pass_of q.0).history
stored_makes me r q p i n x h g first next found other makes more =
    let a = pass_of me.0 in
    let last : (pass_of q.0).history ≡ g = ap (λ (m : Me1). (pass_of m.0).history) next in
    let w = slice_index a.words (word_place p i) in
    let after : Makes a.number h (Fill a.number p i x ∷ []) g = subst (λ (k : Knowledge). Makes k.number k.history (Fill k.number p i x ∷ []) g) (ap (λ (m : Me1). pass_of m.0) first) more in
    subst (λ (y : ℕ × Bool × List Move). Makes a.number a.history (moves_if a p i x y.0 y.1) y.2) (λ k. (found k, sym (ne_eqb w x (λ e. other (found ∙ e))) k, sym last k))
    (makes_more a.number a.history (Fill a.number p i n ∷ []) h (Fill a.number p i x ∷ []) g makes after)
