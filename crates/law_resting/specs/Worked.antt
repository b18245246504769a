-- Worked rows of resting: a driver with a bulk endpoint, and a get of it.
--     NewDriverMayRest        one that was just built may rest
--     KeepingIsNoRest         while its endpoint is cancelled and isn't given back it may not: so a driver that never gives back doesn't
--                             rest rightly
--     LeavingUnreadIsNoRest   while its get has no line it may not: so one that never reads a token doesn't
--     HoldingOnIsNoRest       nor while the blocks of a get that has its line aren't given back
--     WaitsMayRest            once all that is done it may
--     LinkingIsNoRest         with an unfinished command of the frame list it may not, and none of its stores is left here
use Rattle.std.specs.Prelude.{ℕ, true, false, [], ◌∷◌, Some, None}
use Rattle.drv_table.specs.declared.content.Command.TheVariants as unfinished
use Rattle.drv_table.specs.declared.content.Endpoint.{Endpoint}
use Rattle.drv_table.specs.declared.content.Reserve.{Reserve}
use Rattle.drv_table.specs.declared.content.Transfer.{Transfer}
use Rattle.drv_table.specs.DriverContent.{DriverContent, new_driver}
use Rattle.drv_table.specs.Opening.{opening}
use Rattle.law_footprints.specs.Worked.{bulk_in, a_get, working}
use Rattle.claims_answers.specs.Resting.{MayRest}

abbrev pub with_one : Reserve → Endpoint → Transfer → DriverContent
with_one room x y = record (new_driver (record { slots = []; taken = [] }) 0 room) { endpoints = x ∷ []; transfers = y ∷ [] }

abbrev pub NewDriverMayRest : Type 0
NewDriverMayRest = (n : ℕ) (room : Reserve) → MayRest (opening n room).driver

abbrev pub KeepingIsNoRest : Type 0
KeepingIsNoRest = (room : Reserve) → MayRest (with_one room (record bulk_in { linked = false }) a_get) → ⊥

abbrev pub LeavingUnreadIsNoRest : Type 0
LeavingUnreadIsNoRest = (room : Reserve) → MayRest (with_one room working a_get) → ⊥

abbrev pub HoldingOnIsNoRest : Type 0
HoldingOnIsNoRest = (room : Reserve) → MayRest (with_one room working (record a_get { reported = true })) → ⊥

abbrev pub WaitsMayRest : Type 0
WaitsMayRest =
    (room : Reserve) → MayRest (with_one room (record working { next = None }) (record a_get { reported = true; released = true }))

abbrev pub LinkingIsNoRest : Type 0
LinkingIsNoRest = (n : ℕ) (room : Reserve) → MayRest (record (opening n room).driver { command = Some unfinished.Chain; made = 1 }) → ⊥
