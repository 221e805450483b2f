use Rattle.std.proofs.Common.{◌≡◌, ℕ, ◌<◌, ◌≤◌, List, length, slice_index, ap, sym, subst, ◌∙◌, arith}
use Rattle.std.specs.Ordering.{nat_cmp}
use Rattle.be_tree_reading.specs.Page.{bytes_at}
use Rattle.be_tree_reading.proofs.Padded.{alike_differ, alike_end, alike_first, alike_next}
use Rattle.be_volume.specs.Maps.{name_cmp}
use Rattle.be_paged_reading.specs.Entry.{Entry}
use Rattle.be_paged_reading.proofs.Stored.Codec.{name_short}
use Rattle.be_paged_reading.proofs.Stored.UsedWords.{length_reported}
use Rattle.be_paged_reading.proofs.entry.Entry.compare.Goals as goal

pub loop-j-init : goal.loop-j-init
loop-j-init c = alike_first (bytes_at (slice_index c.self.inside.words) 0 c.self.inside.len) c.as_bytes-text.result.now

pub returns-then-mine-other : goal.returns-then-mine-other
returns-then-mine-other c =
    let words = slice_index c.self.inside.words in
    let name = bytes_at words 0 c.self.inside.len in
    let text = c.as_bytes-text.result.now in
    let is : text ≡ c.args.name.now = c.as_bytes-text.ensures.value ∙ c.as_str.ensures.text in
    let short = subst (λ (t : List ℕ). length t ≤ 63) (sym is) (name_short c.args.name.now c.as_str.ensures.valid) in
    let within : c.loop-j.j < 8 = omega (arith, c.loop-j-test.true, short) in
    c.cmp.ensures
    ∙ sym (alike_differ name text c.loop-j.j (words c.loop-j.j) c.word_from-other.result c.loop-j-test.true (c.self.invariant.1.small c.loop-j.j within) (omega arith)
    (c.self.invariant.1.bytes c.loop-j.j within) c.word_from-other.ensures c.loop-j.invariant c.if-mine-other.true)
    ∙ ap (λ (e : Entry). name_cmp e.name text) c.self.view_is ∙ ap (name_cmp c.args.self.now.name) is

pub loop-j-preserved : goal.loop-j-preserved
loop-j-preserved c =
    let words = slice_index c.self.inside.words in
    let name = bytes_at words 0 c.self.inside.len in
    let text = c.as_bytes-text.result.now in
    let is : text ≡ c.args.name.now = c.as_bytes-text.ensures.value ∙ c.as_str.ensures.text in
    let short = subst (λ (t : List ℕ). length t ≤ 63) (sym is) (name_short c.args.name.now c.as_str.ensures.valid) in
    let within : c.loop-j.j < 8 = omega (arith, c.loop-j-test.true, short) in
    alike_next name text c.loop-j.j (words c.loop-j.j) c.word_from-other.result c.loop-j-test.true (c.self.invariant.1.small c.loop-j.j within) (omega arith)
    (c.self.invariant.1.bytes c.loop-j.j within) c.word_from-other.ensures c.loop-j.invariant c.if-mine-other.false

pub returns : goal.returns
returns c =
    let words = slice_index c.self.inside.words in
    let name = bytes_at words 0 c.self.inside.len in
    let text = c.as_bytes-text.result.now in
    let is : text ≡ c.args.name.now = c.as_bytes-text.ensures.value ∙ c.as_str.ensures.text in
    c.cmp-2.ensures ∙ ap (λ (n : ℕ). nat_cmp n (length text)) (sym (length_reported words 0 c.self.inside.len))
    ∙ sym (alike_end name text c.loop-j.j (omega (arith, c.loop-j-test.false)) c.loop-j.invariant)
    ∙ ap (λ (e : Entry). name_cmp e.name text) c.self.view_is ∙ ap (name_cmp c.args.self.now.name) is
