use Rattle.drv_periodic.proofs.list.PeriodicList.begin_remove.Given as goal

abbrev pub ghosts-remove_blank : goal.ghosts-remove_blank
ghosts-remove_blank a = record { name = a.blank.name; parts = a.blank.parts }
