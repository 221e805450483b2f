use Rattle.std.proofs.Common.{ℕ, ◌+◌, ◌≤◌, length, Some, ap, sym, subst, ◌∙◌, arith}
use Rattle.be_tree_reading.specs.Page.{item_at}
use Rattle.be_paged_reading.proofs.CatalogPairs.Payloads.{length64, number64}
use Rattle.be_paged_reading.proofs.catalog.number64_at.Goals as goal

pub payload_number_at-requires-clause-within : goal.payload_number_at-requires-clause-within
payload_number_at-requires-clause-within g c =
    subst (λ (w : ℕ → ℕ → ℕ). 1 + 8 ≤ length (item_at (w c.args.page) c.args.at).payload) (sym c.payload_len_at-len.ensures.unchanged.words)
    (omega (arith, c.payload_len_at-len.ensures.len, c.if-len-ne9.false))

pub returns-then-len-ne9-clause-number : goal.returns-then-len-ne9-clause-number
returns-then-len-ne9-clause-number g c = λ k n lt is. absurd (c.if-len-ne9.true (c.payload_len_at-len.ensures.len ∙ length64 _ k n is))

pub returns-clause-number : goal.returns-clause-number
returns-clause-number g c = λ k n lt is.
    ap (λ (m : ℕ). Some m)
    (number64 _ k n _ lt (ap (λ (w : ℕ → ℕ → ℕ). (item_at (w c.args.page) c.args.at).payload) c.payload_len_at-len.ensures.unchanged.words ∙ is) c.payload_number_at.ensures.number)
