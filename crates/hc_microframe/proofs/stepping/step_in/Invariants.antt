use Rattle.hc_microframe.proofs.stepping.step_in.Given as goal

abbrev pub ghosts-step_by : goal.ghosts-step_by
ghosts-step_by a = record { name = a.loan.words.ghost_name }
