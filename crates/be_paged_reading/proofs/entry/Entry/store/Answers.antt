use Rattle.std.proofs.Common.{◌≡◌, ℕ, List, ◌+◌, ◌<◌, ◌≤◌, slice_index, ap, sym, subst, ◌∙◌, arith}
use Rattle.std.proofs.lemmas.Bool.Decides.{nat_tests}
use Rattle.be_volume.specs.Sound.{IsName}
use Rattle.be_paged_reading.specs.Entry.{Entry, HaveText}
use Rattle.be_paged_reading.specs.Page.{kind_numbered}
use Rattle.be_paged_reading.proofs.Stored.Codec.{name_moved, text_moved, entry_is}
use Rattle.be_paged_reading.proofs.entry.Entry.store.Goals as goal

pub returns-clause-stored : goal.returns-clause-stored
returns-clause-stored g c =
    let at = c.args.at in
    let v = g.R.Look.words c.store_words.new.room c.args.page in
    let w = g.R.Look.words c.refill-3.new.self c.args.page in
    let ws = slice_index c.self.inside.words in
    let lower : (j : ℕ) → j < at + 9 → w j ≡ v j = λ j lt. grind (arith, nat_tests, c.refill-3.ensures.place j, c.refill-2.ensures.place j) in
    let len : c.self.inside.len ≡ w at = sym (lower at (omega arith) ∙ c.store_words.ensures.only.before at (omega arith) ∙ grind (arith, nat_tests, c.refill.ensures.place at)) in
    let reported = λ (j : ℕ) (lt : j < 8). sym (lower (at + 1 + j) (omega (arith, lt)) ∙ c.store_words.ensures.stored j lt) in
    let kind : kind_numbered (w (at + 9)) ≡ c.self.inside.kind = ap kind_numbered (grind (arith, nat_tests, c.refill-3.ensures.place (at + 9), c.refill-2.ensures.place (at + 9))) ∙ c.kind_number.ensures.back in
    let root : w (at + 10) ≡ c.self.inside.root = grind (arith, nat_tests, c.refill-3.ensures.place (at + 10)) in
    sym (entry_is w at _ (name_moved w ws at c.self.inside.len c.self.invariant.0 len reported) (sym kind) (sym root)) ∙ c.self.view_is

pub returns-clause-entry : goal.returns-clause-entry
returns-clause-entry g c =
    let at = c.args.at in
    let v = g.R.Look.words c.store_words.new.room c.args.page in
    let w = g.R.Look.words c.refill-3.new.self c.args.page in
    let ws = slice_index c.self.inside.words in
    let lower : (j : ℕ) → j < at + 9 → w j ≡ v j = λ j lt. grind (arith, nat_tests, c.refill-3.ensures.place j, c.refill-2.ensures.place j) in
    let len : c.self.inside.len ≡ w at = sym (lower at (omega arith) ∙ c.store_words.ensures.only.before at (omega arith) ∙ grind (arith, nat_tests, c.refill.ensures.place at)) in
    let reported = λ (j : ℕ) (lt : j < 8). sym (lower (at + 1 + j) (omega (arith, lt)) ∙ c.store_words.ensures.stored j lt) in
    let number : w (at + 9) ≡ c.kind_number.result = grind (arith, nat_tests, c.refill-3.ensures.place (at + 9), c.refill-2.ensures.place (at + 9)) in
    let name = name_moved w ws at c.self.inside.len c.self.invariant.0 len reported in
    let stored = returns-clause-stored g c in
    record {
      short = subst (λ (n : ℕ). n ≤ 63) len c.self.invariant.0;
      named = subst (λ (e : Entry). IsName e.name) (sym stored) c.requires.named;
      text = subst (λ (n : List ℕ). HaveText (λ j. w (at + 1 + j)) n) name (text_moved ws (λ j. w (at + 1 + j)) _ (λ j lt. sym (reported j lt)) c.self.invariant.1);
      kind = subst (λ (n : ℕ). (1 ≤ n) × (n ≤ 7)) (sym number) c.kind_number.ensures.number;
    }
