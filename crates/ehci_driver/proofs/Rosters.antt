-- Endpoints that were written have the rooms of those that they are.
use Rattle.std.proofs.Common.{◌≡◌, ℕ, List}
use Rattle.drv_table.specs.declared.content.Endpoint.{Endpoint}
use Rattle.drv_table.specs.declared.content.Transfer.{Transfer}
use Rattle.drv_table.specs.declared.content.Reserve.{Reserve}
use Rattle.ehci_driver.specs.Rooms.{HasRooms}

pub written_rooms : {ts : List Transfer} {room : Reserve} {transfers reports report_room bytes byte_room harvested harvest_room mends mend_room waiting waiting_room rung rung_room cleared cleared_room : ℕ} (xs ys : List Endpoint) (n m : ℕ) → ys ≡ xs → m ≡ n → HasRooms xs ts room n transfers reports report_room bytes byte_room harvested harvest_room mends mend_room waiting waiting_room rung rung_room cleared cleared_room → HasRooms ys ts room m transfers reports report_room bytes byte_room harvested harvest_room mends mend_room waiting waiting_room rung rung_room cleared cleared_room
written_rooms xs ys n m same most h = rw (same, most) h
