-- There is still room for what is owed once an endpoint got its place in the frame list.
use Rattle.std.proofs.Common.{◌≡◌, ℕ, ◌-◌, ◌≤◌, Bool, true, false, cond, List, [], ◌∷◌, ◌++◌, length, refl, sym, subst}
use Rattle.usb_base.specs.declared.endpoints.EpDesc.{EpDesc}
use Rattle.bandwidth.specs.declared.placements.Placed.{Placed}
use Rattle.drv_periodic_table.specs.Periodic.{want_of, queue_member}
use Rattle.drv_periodic_table.specs.Linking.{linking}
use Rattle.drv_frames_content.specs.Part.{Held, with_place}
use Rattle.drv_table.specs.declared.content.Endpoint.{Endpoint}
use Rattle.drv_table.specs.declared.content.Transfer.{Transfer}
use Rattle.drv_table.specs.declared.content.Reserve.{Reserve}
use Rattle.drv_table.specs.Kinds.{is_iso}
use Rattle.drv_frames.specs.declared.placing.NewPlace.{NewPlace}
use Rattle.drv_frames.specs.Places.{chained_part, placed_part}
use Rattle.ehci_driver.specs.Rooms.{HasFrameRooms}
use Rattle.ehci_driver.proofs.Placed.{Keeps, keeps_list, frames_held, frames_placed}

keeps_place : (iso : Bool) (h : Held) (place : NewPlace) → Keeps h (cond iso h (chained_part h place.placement place.queue))
keeps_place true h place = keeps_list h h.periodic.list
keeps_place false h place = keeps_list h (linking h.periodic.list (queue_member place.queue place.placement))

pub place_rooms : {xs : List Endpoint} {ts : List Transfer} {room : Reserve} {h : Held} (ys : List Endpoint) (y : Endpoint) (x : EpDesc) (place : NewPlace) (g : Held) (e : ℕ) → HasFrameRooms xs ts room h → 1 ≤ room.endpoints → ys ≡ xs ++ y ∷ [] → e ≡ length xs → g ≡ placed_part h e x place → HasFrameRooms ys ts (record room { endpoints = room.endpoints - 1 }) g
place_rooms {ts = ts} {room = room} {h = h} ys y x place g e rooms some these number part =
    let own : Placed = record { want = want_of e x; placement = place.placement } in
    let placed = frames_placed ys y (with_place h e x place.placement) own rooms some these refl number refl refl refl refl refl in
    let kept = frames_held (placed_part h e x place) placed (keeps_place (is_iso x.kind) (with_place h e x place.placement) place) in
    subst (λ (k : Held). HasFrameRooms ys ts (record room { endpoints = room.endpoints - 1 }) k) (sym part) kept
