use Rattle.std.proofs.Common.{◌≡◌, ◌≤◌, ◌+◌, ◌++◌, ◌∙◌, List, ℕ, length, take, ap, refl, arith}
use Rattle.std.specs.Int.{to_be_bytes, w64}
use Rattle.std.proofs.lemmas.Slice.{take-put_mid}
use borrow.Rule.Slice.PartMut.{put_mid}
use Rattle.be_paged_reading.proofs.texts.put_word.Goals as goal

put_eight : (a k : ℕ) (xs ys zs : List ℕ) → ys ≡ zs → length zs ≡ 8 → a ≤ length xs → take (a + 8) (put_mid a k xs ys) ≡ take a xs ++ zs
put_eight a k xs ys zs e eight le = take-put_mid a k xs ys (a + 8) (omega (arith, ap length e, eight)) le ∙ ap (λ l. take a xs ++ l) e

pub returns : goal.returns
returns c = put_eight c.args.at _ c.args.room.now _ (to_be_bytes w64 c.args.word) (c.copy_from_slice.ensures.after ∙ c.to_be_bytes.ensures) refl (omega arith)
