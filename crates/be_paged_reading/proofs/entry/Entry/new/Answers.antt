use Rattle.std.proofs.Common.{◌≡◌, ℕ, ◌≤◌, ◌∷◌, [], List, length, slice_index, sym, subst, ◌∙◌, refl}
use Rattle.be_paged_reading.specs.Entry.{HaveText}
use Rattle.be_paged_reading.proofs.Stored.Codec.{have_text, text_reported, name_short, same_entry}
use Rattle.be_paged_reading.proofs.entry.Entry.new.Goals as goal

pub invariant_of-result : goal.invariant_of-result
invariant_of-result c =
    let text = c.as_bytes-bytes.result.now in
    let name = c.args.name.now in
    let is : text ≡ name = c.as_bytes-bytes.ensures.value ∙ c.as_str.ensures.text in
    let short = subst (λ (n : List ℕ). length n ≤ 63) (sym is) (name_short name c.as_str.ensures.valid) in
    let have = have_text text c.word_from.result c.word_from-2.result c.word_from-3.result c.word_from-4.result c.word_from-5.result c.word_from-6.result c.word_from-7.result c.word_from-8.result
    (c.word_from.type_inv, c.word_from.ensures) (c.word_from-2.type_inv, c.word_from-2.ensures) (c.word_from-3.type_inv, c.word_from-3.ensures) (c.word_from-4.type_inv, c.word_from-4.ensures)
    (c.word_from-5.type_inv, c.word_from-5.ensures) (c.word_from-6.type_inv, c.word_from-6.ensures) (c.word_from-7.type_inv, c.word_from-7.ensures) (c.word_from-8.type_inv, c.word_from-8.ensures) in
    let words = slice_index (c.word_from.result ∷ c.word_from-2.result ∷ c.word_from-3.result ∷ c.word_from-4.result ∷ c.word_from-5.result ∷ c.word_from-6.result ∷ c.word_from-7.result ∷ c.word_from-8.result ∷ []) in
    (short, subst (λ (n : List ℕ). HaveText words n) (sym (text_reported words text short have)) have)

pub returns-clause-entry : goal.returns-clause-entry
returns-clause-entry c =
    let text = c.as_bytes-bytes.result.now in
    let name = c.args.name.now in
    let is : text ≡ name = c.as_bytes-bytes.ensures.value ∙ c.as_str.ensures.text in
    let short = subst (λ (n : List ℕ). length n ≤ 63) (sym is) (name_short name c.as_str.ensures.valid) in
    let have = have_text text c.word_from.result c.word_from-2.result c.word_from-3.result c.word_from-4.result c.word_from-5.result c.word_from-6.result c.word_from-7.result c.word_from-8.result
    (c.word_from.type_inv, c.word_from.ensures) (c.word_from-2.type_inv, c.word_from-2.ensures) (c.word_from-3.type_inv, c.word_from-3.ensures) (c.word_from-4.type_inv, c.word_from-4.ensures)
    (c.word_from-5.type_inv, c.word_from-5.ensures) (c.word_from-6.type_inv, c.word_from-6.ensures) (c.word_from-7.type_inv, c.word_from-7.ensures) (c.word_from-8.type_inv, c.word_from-8.ensures) in
    let words = slice_index (c.word_from.result ∷ c.word_from-2.result ∷ c.word_from-3.result ∷ c.word_from-4.result ∷ c.word_from-5.result ∷ c.word_from-6.result ∷ c.word_from-7.result ∷ c.word_from-8.result ∷ []) in
    same_entry (text_reported words text short have ∙ is) refl refl
