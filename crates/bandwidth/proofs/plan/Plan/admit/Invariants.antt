use Rattle.bandwidth.proofs.plan.Plan.admit.Given as goal

abbrev pub ghosts-admit_blank : goal.ghosts-admit_blank
ghosts-admit_blank a = record { name = a.blank.name; parts = a.blank.parts }
