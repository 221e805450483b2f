-- Parts of a payload, read from the words where they begin.
use Rattle.std.proofs.Common.{◌≡◌, ℕ, ◌+◌, ◌*◌, ◌/◌, ◌%◌, ◌-◌, ◌<◌, ◌≤◌, take, drop, get_or, ap, sym, ◌∙◌, arith}
use Rattle.std.specs.Int.{to_be_bytes, w64}
use Rattle.std.proofs.lemmas.List.{drop-drop, drop-take, get_or-drop, get_or-take}
use Rattle.be_tree_reading.specs.Page.{bytes_at, item_at, key_len, payload_len}
use Rattle.be_tree_reading.proofs.Codec.{bytes_at_later, bytes_at_prefix, word_bytes}

-- the bytes from an index on
pub payload_rest : (w : ℕ → ℕ) (at from : ℕ) → from ≤ payload_len w at
    → drop from (item_at w at).payload ≡ drop ((key_len w at + from) % 8) (bytes_at w (at + 1 + (key_len w at + from) / 8) ((key_len w at + from) % 8 + (payload_len w at - from)))
unfolding item_at
payload_rest w at from le =
    let k = key_len w at in
    let p = payload_len w at in
    let m = k + from in
    let i = m / 8 in
    let r = m % 8 in
    let e : m ≡ 8 * i + r = omega arith in
    let f : k + p ≡ 8 * i + (r + (p - from)) = omega (arith, le) in
    drop-drop from k (bytes_at w (at + 1) (k + p))
    ∙ ap (λ (n : ℕ). drop m (bytes_at w (at + 1) n)) f
    ∙ ap (λ (n : ℕ). drop n (bytes_at w (at + 1) (8 * i + (r + (p - from))))) e
    ∙ sym (drop-drop r (8 * i) (bytes_at w (at + 1) (8 * i + (r + (p - from)))))
    ∙ ap (drop r) (bytes_at_later w (at + 1) i (r + (p - from)))

-- some bytes from an index on
pub payload_part : (w : ℕ → ℕ) (at from n : ℕ) → from + n ≤ payload_len w at
    → take n (drop from (item_at w at).payload) ≡ drop ((key_len w at + from) % 8) (bytes_at w (at + 1 + (key_len w at + from) / 8) ((key_len w at + from) % 8 + n))
payload_part w at from n le =
    let r = (key_len w at + from) % 8 in
    let a = at + 1 + (key_len w at + from) / 8 in
    let q = payload_len w at - from in
    ap (take n) (payload_rest w at from (omega (arith, le)))
    ∙ sym (drop-take r n (bytes_at w a (r + q)))
    ∙ ap (drop r) (bytes_at_prefix w a (r + n) (r + q) (omega (arith, le)))

-- one byte
pub payload_byte : (w : ℕ → ℕ) (at from : ℕ) → from < payload_len w at
    → get_or (item_at w at).payload from 0 ≡ get_or (to_be_bytes w64 (w (at + 1 + (key_len w at + from) / 8))) ((key_len w at + from) % 8) 0
payload_byte w at from lt =
    let r = (key_len w at + from) % 8 in
    let a = at + 1 + (key_len w at + from) / 8 in
    let bytes = to_be_bytes w64 (w a) in
    let here : from + 0 ≡ from = omega arith in
    let there : r + 0 ≡ r = omega arith in
    let xs = (item_at w at).payload in
    ap (λ (n : ℕ). get_or xs n 0) (sym here)
    ∙ sym (get_or-drop from xs 0 0)
    ∙ sym (get_or-take 1 (drop from xs) 0 0 (omega arith))
    ∙ ap (λ ys. get_or ys 0 0) (payload_part w at from 1 (omega (arith, lt)))
    ∙ ap (λ ys. get_or (drop r ys) 0 0) (sym (bytes_at_prefix w a (r + 1) 8 (omega arith)) ∙ ap (take (r + 1)) (word_bytes w a))
    ∙ ap (λ ys. get_or ys 0 0) (drop-take r 1 bytes)
    ∙ get_or-take 1 (drop r bytes) 0 0 (omega arith)
    ∙ get_or-drop r bytes 0 0
    ∙ ap (λ (n : ℕ). get_or bytes n 0) there
