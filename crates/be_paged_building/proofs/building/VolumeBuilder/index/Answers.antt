use Rattle.std.proofs.Common.{◌≡◌, ℕ, [], ◌∷◌, ◌++◌, List, All, ap, sym, subst, ◌∙◌, refl, rules}
use Rattle.std.proofs.lemmas.List.Elements.{All-append, All-cons, All-nil}
use Rattle.std.specs.FinMap as fin
use Rattle.be_paged_building.specs.Building.{AreCollected}
use Rattle.be_paged_building.specs.Errors.{IndexError}
use Rattle.be_paged_building.specs.Given.{with_index}
use Rattle.be_paged_building.proofs.Errors.{index_error, passed, refuses}
use Rattle.be_paged_building.proofs.Indices.{index_collected, index_is_sound, index_may}
use Rattle.be_paged_building.proofs.Room.{as_given}
use Rattle.be_paged_reading.specs.Entry.{Entry}
use Rattle.be_volume.specs.Sound.{IsName}
use Rattle.be_paged_building.proofs.building.VolumeBuilder.index.Goals as goal

pub returns-in_err-check_index-clause-refused : goal.returns-in_err-check_index-clause-refused
returns-in_err-check_index-clause-refused c = λ s w builds.
    let b = c.args.self.now in
    let e = c.in_err-check_index.field-0.0 in
    refuses b b (IndexError b.volume.value c.args.name.now c.args.kind) _ c.from_residual.result s s
    (passed c.from_residual.result e _ (search rules) (index_error s w b b.volume.value c.args.name.now builds c.args.kind e c.in_err-check_index.ensures.why)) refl refl

pub returns-clause-ok : goal.returns-clause-ok
returns-clause-ok c = λ s w builds.
    let b = c.args.self.now in
    let volume = b.volume.value in
    let name = c.args.name.now in
    let kind = c.args.kind in
    let may = c.in_ok-check_index.ensures.ok in
    let one : Entry = record { name = name; kind = kind; root = 0 } in
    let entries : c.push-2.new.self.items ≡ b.entries.items ++ one ∷ [] = c.push-2.ensures.items ∙ ap (λ (e : Entry). b.entries.items ++ e ∷ []) c.new-2.ensures.entry in
    let keys : c.push.new.self.items ≡ b.keys.items ++ [] ∷ [] = c.in_ok-push.ensures.items ∙ ap (λ (k : List (List ℕ)). b.keys.items ++ k ∷ []) c.new.ensures in (
      index_may s w b volume name kind builds may,
      as_given s w _ (with_index volume name kind) c.add_index.ensures (record {
        catalog = builds.catalog;
        pairs = builds.pairs;
        highest = builds.highest;
        fits = builds.fits;
        next = builds.next;
        node = builds.node;
        count = builds.count;
        name = builds.name;
        indices = subst (λ es. AreCollected es c.push.new.self.items (fin.entries (with_index volume name kind).indices)) (sym entries)
            (subst (λ ks. AreCollected (b.entries.items ++ one ∷ []) ks (fin.entries (with_index volume name kind).indices)) (sym keys) (index_collected s w b volume name kind builds may));
        named = subst (All (λ entry. IsName entry.name)) (sym entries)
            (All-append (λ entry. IsName entry.name) b.entries.items (one ∷ []) builds.named (All-cons (λ entry. IsName entry.name) one [] c.new-2.ensures.named (All-nil (λ entry. IsName entry.name))));
        sound = index_is_sound s w b volume name kind builds may c.new-2.ensures.named;
        page = builds.page;
      }),
    )
