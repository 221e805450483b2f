use Rattle.std.proofs.Common.{◌≡◌, List, length, drop, get_or, set, ap, ◌∙◌, length-set}
use Rattle.std.specs.List.{refill}
use Rattle.std.proofs.lemmas.List.{take_at}
use Rattle.be_paged_reading.specs.Entry.{Entry}
use Rattle.be_paged_reading.proofs.IndexEntries.RootSetting.{root_set}
use Rattle.be_paged_reading.proofs.entries.set_root.Goals as goal

pub returns : goal.returns
returns c = λ d.
    let es = c.args.entries.now.items in
    let at = c.args.at in
    let new = c.set_root.new.self in
    let old = c.index-deref_mut-at.result in
    let same : c.deref_mut.result.now ≡ es = c.deref_mut.ensures.value in
    let len : length (set es at new) ≡ length es = length-set es at new in
    ap (λ (xs : List Entry). refill (length es) es (set xs at new)) same ∙ take_at (set es at new) (drop (length (set es at new)) es) (length es) len
    ∙ root_set es (set es at new) at c.args.root (get_or c.deref_mut.result.now at old) d c.requires (ap (λ (xs : List Entry). get_or xs at old) same ∙ ap (λ (x : Entry). get_or es at x) c.index-deref_mut-at.is)
    (ap (λ (e : Entry). set es at e) c.set_root.ensures)
