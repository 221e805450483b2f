-- What a store that was just opened shows.
use Rattle.std.proofs.Common.{◌≡◌, IsTrue, None, refl, ap, ◌∙◌, if◌then◌else◌}
use Rattle.sqlite_disk.specs.declared.Disk.{Ghosts}
use Rattle.sqlite_store.specs.FileStore.{schema_of, state, view}
use Rattle.sqlite_store.specs.Listing.{all_shapes, file_trees}
use Rattle.sqlite_store.specs.Saved.{kept_schema}
use Rattle.sqlite_store.specs.declared.store.FileStore.{FileStore}
use Rattle.sqlite_trees.specs.Tree.{no_trees}
use Rattle.sqlite_trees.specs.declared.store.Shape.TheVariants.{Index, Table}
use Rattle.sqlite_value.specs.Keys.{plain}
use Rattle.be_kept.specs.Files.{page_size, tables}

module _ {D : Type 0} {g : Ghosts D} (it : FileStore D g) where
  pub shows_file : IsTrue (state it).is_clean → it.saved ≡ None → schema_of it ≡ tables
      → (state it).page_size ≡ page_size
      → (view it).committed ≡ file_trees page_size tables (state it).committed
  shows_file clean unaltered schema size =
      let pages = (state it).committed in
      let kept = ap (λ saved. kept_schema saved (schema_of it)) unaltered ∙ schema in
      ap (λ b. if b then file_trees (state it).page_size (kept_schema it.saved (schema_of it)) pages else no_trees) clean
      ∙ ap (λ n. file_trees n (kept_schema it.saved (schema_of it)) pages) size
      ∙ ap (λ s. file_trees page_size s pages) kept

pub about_shape : all_shapes tables 0 ≡ Index plain
unfolding all_shapes
about_shape = refl

pub state_shape : all_shapes tables 1 ≡ Table
unfolding all_shapes
state_shape = refl

pub entry_shape : all_shapes tables 2 ≡ Table
unfolding all_shapes
entry_shape = refl
