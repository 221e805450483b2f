-- The script of a pass's pinned version, made from reads of that pass.
use Rattle.std.proofs.Common.{◌≡◌, ℕ, Bool, true, false, Option, Some, None, refl, sym, ap, ◌∙◌, take}
use Rattle.std.specs.Prelude.{IsSome, if◌then◌else◌}
use Rattle.std.specs.Option.{option_map, option_map_or}
use Rattle.be_journal.specs.Journal.{replay_from}
use Rattle.be_table.specs.declared.pass.Knowledge.{Knowledge}
use Rattle.be_table.specs.Rule.{entries}
use Rattle.be_table.specs.Seats.{pinned_number}
use Rattle.be_store.specs.Passes.{HasRead, IsPinnedTo, volume_pinned, volume_seen}
use Rattle.be_script_runner.specs.Served.{known, pin_at}
use Rattle.be_script_runner.specs.Store.{PinnedVolume, Store, unpinned, viewed}
use Rattle.be_volume.specs.Volume.{State, empty}

-- a read doesn't change the pinned version
pub same_pinned : (a c : Knowledge) → HasRead a c → volume_pinned c ≡ volume_pinned a
same_pinned a c h = ap volume_pinned h

-- a read doesn't change the pin
pub stays_pinned : (a c : Knowledge) → HasRead a c → (n : ℕ) × IsPinnedTo a n → (n : ℕ) × IsPinnedTo c n
stays_pinned a c h p = (p.0, ap (λ (k : Knowledge). pinned_number k.phase) h ∙ p.1)

-- two reads in sequence are a read
pub read_twice : (a b c : Knowledge) → HasRead a b → HasRead b c → HasRead a c
read_twice a b c h g = g ∙ ap (λ (k : Knowledge). record k { steps = c.steps }) h

pub read_none : (a : Knowledge) → HasRead a a
read_none a = refl

viewed_at : (a : Knowledge) (o : Option ℕ) → IsSome (option_map (pin_at a) o) →
    option_map_or (λ n. replay_from a.limits.volume (take n (entries a.seen))) o empty ≡ option_map_or (λ (p : PinnedVolume). p.volume) (option_map (pin_at a) o) (volume_seen a)
viewed_at a None h = absurd (never h)
  where
    never : false ≡ true → ⊥
    never e = cc
viewed_at a (Some n) h = refl

-- a pinned pass reads what its store shows
pub viewed_pinned : (a : Knowledge) → IsSome (known a).pin → volume_pinned a ≡ viewed (known a)
viewed_pinned a h = viewed_at a (pinned_number a.phase) h

-- a read doesn't change the store that the pass shows
pub same_known : (a c : Knowledge) → HasRead a c → known c ≡ known a
same_known a c h = ap known h

-- what is read between a pin for one read and the end of that read is what the store then shows
pub pinned_view : (inside begun read ended : Knowledge) (made : Bool) → inside ≡ begun → IsSome (known begun).pin → HasRead inside read →
    viewed (known begun) ≡ viewed (if made then unpinned (known begun) else known begun) → known ended ≡ (if made then unpinned (known read) else known read) →
    volume_pinned inside ≡ viewed (known ended)
pinned_view inside begun read ended made is pin reads view end =
    let same : known read ≡ known begun = same_known inside read reads ∙ ap known is in
    ap volume_pinned is ∙ (viewed_pinned begun pin ∙ (view ∙ (ap (λ (k : Store). viewed (if made then unpinned k else k)) (sym same) ∙ ap viewed (sym end))))
