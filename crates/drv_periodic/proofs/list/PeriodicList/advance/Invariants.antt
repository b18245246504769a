use Rattle.drv_periodic.proofs.list.PeriodicList.advance.Given as goal

abbrev pub ghosts-advance_blank : goal.ghosts-advance_blank
ghosts-advance_blank a = record { name = a.blank.name; parts = a.blank.parts }
