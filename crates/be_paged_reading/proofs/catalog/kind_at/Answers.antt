use Rattle.std.proofs.Common.{ℕ, ◌<◌, length, ap, sym, subst, ◌∙◌, get_or, arith}
use Rattle.be_tree_reading.specs.Page.{item_at}
use Rattle.be_paged_reading.proofs.CatalogPairs.Payloads.{kind_reported, some_of}
use Rattle.be_paged_reading.proofs.catalog.kind_at.Goals as goal

pub payload_byte_at-number-requires-clause-within : goal.payload_byte_at-number-requires-clause-within
payload_byte_at-number-requires-clause-within g c =
    subst (λ (w : ℕ → ℕ → ℕ). 0 < length (item_at (w c.args.page) c.args.at).payload) (sym c.payload_len_at-len.ensures.unchanged.words)
    (omega (arith, c.payload_len_at-len.ensures.len, c.if-len-eq0.false))

pub returns-then-len-eq0-clause-kind : goal.returns-then-len-eq0-clause-kind
returns-then-len-eq0-clause-kind g c = λ v e. absurd (omega (arith, c.if-len-eq0.true, c.payload_len_at-len.ensures.len, ap length e, some_of v))

pub returns-clause-kind : goal.returns-clause-kind
returns-clause-kind g c = λ v e.
    kind_reported c.numbered.result _ c.payload_byte_at-number.result v c.numbered.ensures.found c.numbered.ensures.none
    (c.payload_byte_at-number.ensures.byte ∙ ap (λ (w : ℕ → ℕ → ℕ). get_or (item_at (w c.args.page) c.args.at).payload 0 0) c.payload_len_at-len.ensures.unchanged.words) e
