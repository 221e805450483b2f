use Rattle.std.proofs.Common.{ℕ, ◌+◌, ◌^◌, ◌<◌, ◌∙◌, ap, subst, length, arith}
use Rattle.std.proofs.lemmas.List.{length-append}
use Rattle.std.proofs.lemmas.Bool.Decides.{nat_tests}
use Rattle.be_tree_reading.specs.Page.{IsPadded}
use Rattle.be_tree_reading.proofs.Codec.{item_at_stored}
use Rattle.be_tree.proofs.Bytes.Zeros.{IsItem_stored}
use Rattle.be_tree.proofs.storing.store_item.Goals as goal

pub returns-clause-stored : goal.returns-clause-stored
returns-clause-stored g c =
    let w = g.R.Look.words c.store_bytes.new.room c.args.page in
    let kept = c.store_bytes.ensures.only.before c.args.at (omega arith) in
    let placed = c.refill.ensures.place c.args.at in
    let len = ap length c.bytes-bytes.ensures.value ∙ length-append c.args.item.now.key c.args.item.now.payload in
    let most = c.bytes-bytes.ensures.fits in
    let small : length c.args.item.now.payload < 2 ^ 32 = omega (arith, len) in (
      item_at_stored w c.args.at c.args.item.now (kept ∙ grind (arith, nat_tests, placed, len)) small (rw c.bytes-bytes.ensures.value at c.store_bytes.ensures.bytes),
      IsItem_stored w c.args.at (length c.args.item.now.key) (length c.args.item.now.payload) (kept ∙ grind (arith, nat_tests, placed, len)) (omega (arith, len, most))
          c.requires.key_fits (omega (arith, len, most)) (subst (λ (n : ℕ). IsPadded w (c.args.at + 1) n) len c.store_bytes.ensures.padded),
    )
