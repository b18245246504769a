use Rattle.drv_periodic.proofs.list.PeriodicList.begin_insert.Given as goal

abbrev pub ghosts-insert_blank : goal.ghosts-insert_blank
ghosts-insert_blank a = record { name = a.blank.name; parts = a.blank.parts }
