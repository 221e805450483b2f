use Rattle.be_tree.proofs.inserting.put_on.Goals as goal

pub put_over-requires-clause-path : goal.put_over-requires-clause-path
put_over-requires-clause-path g c = record {
  leads = c.requires.path;
  place_is = c.in-Ok.is;
  key_fits = c.requires.key_fits;
}

pub put_in-requires-clause-path : goal.put_in-requires-clause-path
put_in-requires-clause-path g c = record {
  leads = c.requires.path;
  place_is = c.in-Err.is;
  key_fits = c.requires.key_fits;
}
