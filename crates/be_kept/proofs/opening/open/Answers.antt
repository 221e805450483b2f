use Rattle.std.proofs.Common.{◌∙◌}
use Rattle.sqlite_store.specs.FileStore.{state}
use Rattle.sqlite_trees.proofs.Doubt.{clean_of}
use Rattle.be_kept.proofs.Opened.{about_shape, entry_shape, shows_file, state_shape}
use Rattle.be_kept.proofs.opening.open.Goals as goal

pub returns-in-Ok-open_numbered-clause-found : goal.returns-in-Ok-open_numbered-clause-found
returns-in-Ok-open_numbered-clause-found g c clean =
    let it = c.in-Ok-open_numbered.store in
    let opened = c.in-Ok-open_numbered.ensures in
    let is_clean = clean_of _ clean in
    let schema = opened.schema ∙ c.in-Ok.ensures.tables in
    let size = (opened.kept is_clean).size ∙ c.in-Ok.ensures.size in
    ((state it).committed, rw (c.in-Ok.ensures.size, c.in-Ok.ensures.files) at (opened.found is_clean), shows_file it is_clean opened.ready.unaltered schema size)

pub returns-in-Ok-open_numbered-clause-rest : goal.returns-in-Ok-open_numbered-clause-rest
returns-in-Ok-open_numbered-clause-rest g c clean =
    let opened = c.in-Ok-open_numbered.ensures in
    let schema = opened.schema ∙ c.in-Ok.ensures.tables in
    record {
      about = rw schema about_shape;
      state = rw schema state_shape;
      entry = rw schema entry_shape;
      same = opened.ready.clean;
    }
