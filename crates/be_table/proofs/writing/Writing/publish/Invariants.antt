use Rattle.be_table.proofs.writing.Writing.publish.Given as goal

abbrev pub ghosts-store_version : goal.ghosts-store_version
ghosts-store_version a = record { entry = record { by = a.by; ops = a.ops.now; dones = a.dones.now }; page = a.page }
