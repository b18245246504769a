-- There is still room for what is owed once an endpoint left the ring or its frames.
use Rattle.std.proofs.Common.{◌≡◌, ℕ, ◌+◌, true, false, List, set, slice_get, Some, arith, refl}
use Rattle.std.proofs.lemmas.List.{length-set}
use Rattle.drv_table.specs.declared.content.Endpoint.{Endpoint}
use Rattle.drv_table.specs.declared.content.Transfer.{Transfer}
use Rattle.drv_table.specs.declared.content.Reserve.{Reserve}
use Rattle.ehci_driver.specs.Rooms.{HasRooms}
use Rattle.ehci_driver.proofs.Counts.{left_ring, kept_linked, kept_cancels}
use Rattle.ehci_driver.proofs.Rosters.{written_rooms}

pub left_rooms : {xs : List Endpoint} {ts : List Transfer} {room : Reserve} {endpoints transfers reports report_room bytes byte_room harvested harvest_room mends mend_room waiting waiting_room rung rung_room cleared cleared_room : ℕ} (ys : List Endpoint) (most e : ℕ) (x : Endpoint) (more more_room : ℕ) → HasRooms xs ts room endpoints transfers reports report_room bytes byte_room harvested harvest_room mends mend_room waiting waiting_room rung rung_room cleared cleared_room → ys ≡ set xs e (record x { linked = false }) → most ≡ endpoints → slice_get xs e ≡ Some x → x.linked ≡ true → more ≡ waiting + 1 → more_room ≡ waiting_room → HasRooms ys ts room most transfers reports report_room bytes byte_room harvested harvest_room mends mend_room more more_room rung rung_room cleared cleared_room
left_rooms {xs = xs} {ts = ts} {endpoints = endpoints} ys most e x more more_room rooms is size there on one same =
    let y : Endpoint = record x { linked = false } in
    let less = left_ring xs e x there on in
    let cancels = kept_cancels xs e x y there refl refl in
    let many = length-set xs e y in
    written_rooms (set xs e y) ys endpoints most is size (record {
      for_endpoints = omega (arith, many, rooms.for_endpoints);
      for_transfers = rooms.for_transfers;
      few_transfers = rooms.few_transfers;
      for_reports = omega (arith, cancels, rooms.for_reports);
      for_bytes = rooms.for_bytes;
      bytes_fit = rooms.bytes_fit;
      for_harvested = rooms.for_harvested;
      for_mends = rooms.for_mends;
      for_waiting = omega (arith, less, one, same, rooms.for_waiting);
      for_rung = omega (arith, less, one, rooms.for_rung);
      for_cleared = omega (arith, less, one, rooms.for_cleared);
    })

-- an endpoint changes, whose place in the ring and whose cancel stay
pub kept_rooms : {xs : List Endpoint} {ts : List Transfer} {room : Reserve} {endpoints transfers reports report_room bytes byte_room harvested harvest_room mends mend_room waiting waiting_room rung rung_room cleared cleared_room : ℕ} (ys : List Endpoint) (most e : ℕ) (x y : Endpoint) → HasRooms xs ts room endpoints transfers reports report_room bytes byte_room harvested harvest_room mends mend_room waiting waiting_room rung rung_room cleared cleared_room → ys ≡ set xs e y → most ≡ endpoints → slice_get xs e ≡ Some x → y.linked ≡ x.linked → y.cancelled ≡ x.cancelled → y.gone ≡ x.gone → HasRooms ys ts room most transfers reports report_room bytes byte_room harvested harvest_room mends mend_room waiting waiting_room rung rung_room cleared cleared_room
kept_rooms {xs = xs} {ts = ts} {endpoints = endpoints} ys most e x y rooms is size there ring cancel gone =
    let links = kept_linked xs e x y there ring in
    let cancels = kept_cancels xs e x y there cancel gone in
    let many = length-set xs e y in
    written_rooms (set xs e y) ys endpoints most is size (record {
      for_endpoints = omega (arith, many, rooms.for_endpoints);
      for_transfers = rooms.for_transfers;
      few_transfers = rooms.few_transfers;
      for_reports = omega (arith, cancels, rooms.for_reports);
      for_bytes = rooms.for_bytes;
      bytes_fit = rooms.bytes_fit;
      for_harvested = rooms.for_harvested;
      for_mends = rooms.for_mends;
      for_waiting = omega (arith, links, rooms.for_waiting);
      for_rung = omega (arith, links, rooms.for_rung);
      for_cleared = omega (arith, links, rooms.for_cleared);
    })
