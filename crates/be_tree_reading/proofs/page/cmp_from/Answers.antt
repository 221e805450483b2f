use Rattle.std.proofs.Common.{◌≡◌, ℕ, ◌+◌, ◌-◌, ◌*◌, ◌/◌, ◌%◌, ◌^◌, ap, sym, subst, ◌∙◌, ◌⊎◌, refl, inl, inr, drop, length, arith}
use Rattle.std.specs.Ordering.{nat_cmp, ordering_then}
use Rattle.be_tree_reading.specs.Key.{key_cmp}
use Rattle.be_tree_reading.specs.Page.{item_at}
use Rattle.be_tree_reading.proofs.Bytes.Words.{next_word, last_word, at_end, then_same, then_other}
use Rattle.be_tree_reading.proofs.page.cmp_from.Given.{Over}
use Rattle.be_tree_reading.proofs.page.cmp_from.Goals as goal
use Rattle.be_tree_reading.proofs.page.cmp_from.Goals.{After-whole_word-other, After-word_within-other}

-- one of two lengths, under other names
either_is : {a b c d e : ℕ} → a ≡ b → c ≡ d → ((b ≡ c) ⊎ (b ≡ e)) → (a ≡ d) ⊎ (a ≡ e)
either_is ab cd (inl bc) = inl (ab ∙ bc ∙ cd)
either_is ab cd (inr be) = inr (ab ∙ be)

next : (g : Over) (c : After-whole_word-other g) → key_cmp (item_at (g.L.Look.words c.args.look.now c.args.page) c.args.at).key c.args.key.now
    ≡ ordering_then (nat_cmp c.word-mine.result c.whole_word-other.result) (key_cmp (drop (8 * (c.loop-i.i + 1)) (item_at (g.L.Look.words c.args.look.now c.args.page) c.args.at).key) (drop (8 * (c.loop-i.i + 1)) c.args.key.now))
next g c =
    let words = g.L.Look.words c.args.look.now in
    let k = c.requires.len in
    sym c.loop-i.invariant.so_far
    ∙ next_word (words c.args.page) c.args.at c.args.key.now c.loop-i.i c.word-mine.result c.whole_word-other.result
    (c.word-mine.ensures.value ∙ ap (λ (w : ℕ → ℕ → ℕ). w c.args.page (c.args.at + 1 + c.loop-i.i)) c.loop-i.invariant.unchanged.words) (omega arith) (omega arith) c.whole_word-other.ensures
    (omega (arith, k, c.loop-i-test.true, c.smaller_of-common.ensures.at_most)) (omega (arith, c.loop-i-test.true, c.smaller_of-common.ensures.at_most))

pub returns-then-mine-other-clause-order : goal.returns-then-mine-other-clause-order
returns-then-mine-other-clause-order g c = c.cmp.ensures ∙ sym (next g (goal.at.returns-then-mine-other-clause-order g c).After-whole_word-other ∙ then_other _ _ _ c.if-mine-other.true)

pub loop-i-preserved : goal.loop-i-preserved
loop-i-preserved g c = record {
  so_far = sym (next g (goal.at.loop-i-preserved g c).After-whole_word-other ∙ then_same _ _ _ c.if-mine-other.false);
  unchanged = record {
    kept = c.word-mine.ensures.kept ∙ c.loop-i.invariant.unchanged.kept;
    page_state = c.word-mine.ensures.page_state ∙ c.loop-i.invariant.unchanged.page_state;
    words = c.word-mine.ensures.words ∙ c.loop-i.invariant.unchanged.words;
  };
}

pub returns-then-rest-eq0-clause-order : goal.returns-then-rest-eq0-clause-order
returns-then-rest-eq0-clause-order g c =
    let words = g.L.Look.words c.args.look.now in
    let k = c.requires.len in
    let all : 8 * c.loop-i.i ≡ c.smaller_of-common.result = omega (arith, c.loop-i-test.false, c.if-rest-eq0.true, c.loop-i.auto) in
    c.cmp-then-rest-eq0.ensures ∙ ap (λ (n : ℕ). nat_cmp n (length c.args.key.now)) k
    ∙ sym (at_end (words c.args.page) c.args.at c.args.key.now (8 * c.loop-i.i) (omega (arith, k, all, c.smaller_of-common.ensures.at_most)) (omega (arith, all, c.smaller_of-common.ensures.at_most))
    (either_is all k c.smaller_of-common.ensures.one))
    ∙ c.loop-i.invariant.so_far

-- the rest of the shorter key
rest : (g : Over) (c : After-word_within-other g) → key_cmp (item_at (g.L.Look.words c.args.look.now c.args.page) c.args.at).key c.args.key.now
    ≡ ordering_then (nat_cmp (c.word-mine-2.result / 2 ^ (64 - 8 * (c.smaller_of-common.result % 8))) (c.word_within-other.result / 2 ^ (64 - 8 * (c.smaller_of-common.result % 8)))) (nat_cmp (c.args.len) (length c.args.key.now))
rest g c =
    let words = g.L.Look.words c.args.look.now in
    let common = c.smaller_of-common.result in
    let k = c.requires.len in
    let i : c.loop-i.i ≡ common / 8 = omega (arith, c.loop-i-test.false, c.loop-i.auto) in
    let all : 8 * (common / 8) + common % 8 ≡ common = omega arith in
    let so_far = subst (λ (n : ℕ). key_cmp (drop (8 * n) (item_at (words c.args.page) c.args.at).key) (drop (8 * n) c.args.key.now) ≡ key_cmp (item_at (words c.args.page) c.args.at).key c.args.key.now) i c.loop-i.invariant.so_far in
    sym so_far
    ∙ last_word (words c.args.page) c.args.at c.args.key.now (common / 8) (common % 8) c.word-mine-2.result c.word_within-other.result
    (c.word-mine-2.ensures.value ∙ ap (λ (w : ℕ → ℕ → ℕ). w c.args.page (c.args.at + 1 + common / 8)) c.loop-i.invariant.unchanged.words) (omega arith) (omega arith) c.word_within-other.ensures
    (omega arith) (omega (arith, k, c.smaller_of-common.ensures.at_most)) (omega (arith, c.smaller_of-common.ensures.at_most))
    ∙ ap (λ o. ordering_then (nat_cmp (c.word-mine-2.result / 2 ^ (64 - 8 * (common % 8))) (c.word_within-other.result / 2 ^ (64 - 8 * (common % 8)))) o)
    (ap (λ (n : ℕ). key_cmp (drop n (item_at (words c.args.page) c.args.at).key) (drop n c.args.key.now)) all
    ∙ at_end (words c.args.page) c.args.at c.args.key.now common (omega (arith, k, c.smaller_of-common.ensures.at_most)) (omega (arith, c.smaller_of-common.ensures.at_most)) (either_is refl k c.smaller_of-common.ensures.one)
    ∙ ap (λ (n : ℕ). nat_cmp n (length c.args.key.now)) (sym k))

-- a word of the key begins within it
pub word_within-other-requires : goal.word_within-other-requires
word_within-other-requires g c =
    let k = c.requires.len in
    omega (arith, k, c.smaller_of-common.ensures.at_most, c.requires.item.key_fits)

pub returns-then-mine_first-other_first-clause-order : goal.returns-then-mine_first-other_first-clause-order
returns-then-mine_first-other_first-clause-order g c = c.cmp-then-mine_first-other_first.ensures ∙ sym (rest g (goal.at.returns-then-mine_first-other_first-clause-order g c).After-word_within-other ∙ then_other _ _ _ c.if-mine_first-other_first.true)

pub returns-clause-order : goal.returns-clause-order
returns-clause-order g c = c.cmp-2.ensures ∙ sym (rest g (goal.at.returns-clause-order g c).After-word_within-other ∙ then_same _ _ _ c.if-mine_first-other_first.false)
