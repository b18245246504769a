-- The memory of the script with a keyboard and a disk is kept, and all that its driver has is in place there.
use Rattle.std.proofs.Common.{ℕ}
use Rattle.bus_world.specs.Budgets.{moment}
use Rattle.claims_world.specs.Memory.{KeepsMemory}
use Rattle.law_world.specs.memory.InPlace.{HasAllInPlace, BreaksInPlace}
use Rattle.law_world.specs.memory.Mixed.{IsMixedWorld}
use Rattle.law_world.specs.memory.Samples.{keyboard_and_disk}
use Rattle.law_world.proofs.lemmas.memory.Controller.{controller_keeps_mixed}
use Rattle.law_world.proofs.lemmas.memory.AtWork.{mixed_has_all_in_place, keeps_while_mixed}
use Rattle.law_world.proofs.lemmas.memory.Together.{scripts_stay_mixed}
use Rattle.law_world.proofs.lemmas.memory.Sampled.{two_are_mixed}

two_stay : (k : ℕ) → IsMixedWorld (moment keyboard_and_disk k).world
two_stay = scripts_stay_mixed keyboard_and_disk two_are_mixed.fits two_are_mixed.bytes two_are_mixed.opens

pub two_keep_memory : KeepsMemory keyboard_and_disk
two_keep_memory = keeps_while_mixed controller_keeps_mixed keyboard_and_disk two_stay

pub two_have_all_in_place : (k : ℕ) → HasAllInPlace (moment keyboard_and_disk k).world
two_have_all_in_place k = mixed_has_all_in_place (moment keyboard_and_disk k).world (two_stay k)

pub breaks_in_place : BreaksInPlace
breaks_in_place = λ w k. k.place.sound.owners.owned.each.list.run
