-- A script's writes, and the writes in a list of entries.
use Rattle.std.specs.Prelude.{◌≡◌, ◌⊎◌, ℕ, List, [], ◌∷◌}
use Rattle.std.specs.List.{flat_map}
use Rattle.std.specs.declared.result.Result.TheVariants.{Ok}
use Rattle.be_journal.specs.declared.entries.Entry.{Entry}
use Rattle.be_volume.specs.declared.ops.Op.{Op}
use Rattle.be_script_language.specs.Request.{Request, write, asked, lines_of}

-- The first list consists of some of the second list's elements, in their order.
abbrev pub IsPartOf : {A : Type 0} → List A → List A → Type 0
IsPartOf xs [] = xs ≡ []
IsPartOf {A} xs (y ∷ ys) = IsPartOf xs ys ⊎ ((rest : List A) × (xs ≡ y ∷ rest) × IsPartOf rest ys)

-- the entries' operations, one after another
abbrev pub operations : List Entry → List Op
operations entries = flat_map (λ e. e.ops) entries

-- a write line's operation
abbrev pub write_op : Request → List Op
write_op (write (Ok op)) = op ∷ []
write_op request = []

-- the operations of a script's write lines, in order
abbrev pub write_ops : List ℕ → List Op
write_ops script = flat_map (λ line. write_op (asked line)) (lines_of script)
