use Rattle.std.proofs.Common.{ℕ, ◌%◌, ◌^◌, ap, sym, ◌∙◌}
use Rattle.be_tree_reading.proofs.Codec.{item_payload_length}
use Rattle.be_tree_reading.proofs.payload.payload_len_at.Goals as goal

pub returns-clause-len : goal.returns-clause-len
returns-clause-len g c = ap (λ (h : ℕ). h % 2 ^ 32) c.word.ensures.value ∙ sym (item_payload_length (g.L.Look.words c.args.look.now c.args.page) c.args.at)
