use Rattle.report_schedule.proofs.loads.put_translator.Given as goal

abbrev pub ghosts-cell : goal.ghosts-cell
ghosts-cell a = record { name = a.blank.name; parts = a.blank.parts }
