use Rattle.drv_search.proofs.search.+next_place.Given as goal

abbrev pub decreases-next_place : goal.decreases-next_place
decreases-next_place l = l.level
