use Rattle.hc_microframe.proofs.several.run_in.Given as goal

abbrev pub ghosts-run_by : goal.ghosts-run_by
ghosts-run_by a = record { name = a.loan.words.ghost_name }
