use Rattle.bench_admission.proofs.compare.Pair.read.Given as goal

abbrev pub ghosts-cell : goal.ghosts-cell
ghosts-cell a = record { name = a.blank.name; parts = a.blank.parts }
