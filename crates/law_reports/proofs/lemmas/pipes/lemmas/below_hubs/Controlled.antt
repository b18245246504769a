-- Each event of the controller leaves a pipe below a hub as it must stand, in a world with endpoints of every kind.
use Rattle.std.proofs.Common.{◌≡◌, ℕ, ◌*◌, slice_get, Some, subst}
use Rattle.usb_base.specs.declared.packets.Dir.TheVariants as Directions
use Rattle.usb_base.specs.declared.packets.Way.{Way}
use Rattle.usb_base.specs.declared.packets.Way.TheVariants as ways
use Rattle.claims_base.specs.Controller.{opening_base}
use Rattle.drv_table.specs.declared.content.Endpoint.{Endpoint}
use Rattle.law_driver.specs.queued_drivers.Queued.{queued_endpoint, queued}
use Rattle.law_driver.proofs.Common.{get_queued}
use Rattle.law_structures.specs.lent_structures.Structures.{Structures}
use Rattle.law_structures.specs.lent_structures.Alters.{Alters}
use Rattle.law_ring.specs.QueueParts.{IsQueuePart}
use Rattle.law_ring.proofs.Transporting.{out_still}
use Rattle.law_controller.specs.frame_control.Joined.{joined}
use Rattle.law_driver_ring.specs.fed_queues.Places.{IsMet}
use Rattle.law_descriptors.specs.Both.{parts_now}
use Rattle.law_descriptors.specs.Meeting.{met}
use Rattle.law_descriptors.specs.PartLaws.{IsDescribing}
use Rattle.law_descriptors.proofs.lemmas.queue_events.Events.{both_keeps_structures}
use Rattle.law_below_hubs.proofs.HostOpens.{unasked_leaves_out, unasked_leaves_in}
use Rattle.law_below_hubs.proofs.InEvents.{in_still, event_keeps_in_behind}
use Rattle.law_below_hubs.proofs.OutEvents.{event_keeps_out_behind}
use Rattle.law_world.specs.steps.Streaming.{begins_by, transacts_by, wired}
use Rattle.law_world.specs.memory.Mixed.{Standing, IsMixedAt}
use Rattle.law_world.specs.memory.Steps.{standing_then}
use Rattle.law_microframes.proofs.lemmas.visits.AskedHeads.{asked_is_near}
use Rattle.bus_world.specs.World.{World, controller_parts, controller_next}
use Rattle.law_reports.specs.lines.Lined.{in_hand}
use Rattle.law_reports.specs.pipes.Piped.{asked_as}
use Rattle.law_reports.specs.pipes.below_hubs.Controlled.{AsksItsWay, ControllerKeepsWays, ControllerKeepsOutBelow}
use Rattle.law_reports.specs.pipes.below_hubs.Controlled.{ControllerKeepsInBelow, ControllerLeavesOut, ControllerLeavesIn}
use Rattle.law_reports.proofs.lemmas.pipes.Names.{queue_same}
use Rattle.law_reports.proofs.lemmas.pipes.lemmas.below_hubs.Asked.{asks_alone, iso_aside, walked_as, asks_none, iso_beside}
use Rattle.law_reports.proofs.lemmas.pipes.lemmas.below_hubs.HubStays.{event_keeps_hub}

-- what stands of a queue head that is met is sound
pub sound_at : (s : Standing) (w : World) → IsMixedAt s w → (e : ℕ) (y : Endpoint) → slice_get w.driver.endpoints e ≡ Some y
    → IsMet (queued w.driver) e (queued_endpoint y)
    → IsQueuePart (32 * y.queue) (s.parts (32 * y.queue))
sound_at s w mixed e y here is_met =
    subst (λ (q : ℕ). IsQueuePart (32 * q) (s.parts (32 * q))) (queue_same y)
    (mixed.queues.sound e (queued_endpoint y) (get_queued w.driver.endpoints e y here) is_met)

ways_still : (part now : Structures) (way : Way) → Alters part now → AsksItsWay part way → AsksItsWay now way
ways_still part now ways.In alters asks = in_still part now alters asks
ways_still part now ways.Out alters asks = out_still part now alters asks
ways_still part now ways.Ctl alters asks = tt

pub controller_keeps_ways : ControllerKeepsWays
controller_keeps_ways fixed x s m h w k c ways_are e y here is_met =
    ways_still (s.parts (32 * y.queue)) (parts_now s.descs s.parts c.event.now (32 * y.queue)) y.desc.name.way
    ((both_keeps_structures begins_by transacts_by opening_base s.member (met w.driver s.recent) s.descs s.parts s.hand s.frame
    (controller_parts w) (wired fixed w) (wired fixed (controller_next fixed w)) c.event.now c.event.later c.event.frame_later
    k.mixed.now.framed.runs c.event.effect (32 * y.queue)).alters) (ways_are e y here is_met)

pub controller_keeps_out_below : ControllerKeepsOutBelow
controller_keeps_out_below fixed x s m h w k ways_are c z e y kind streams one i place known fresh b =
    let f = k.mixed.now.framed in
    let describing : IsDescribing w.driver s.descs s.parts =
    record { owners = f.place.sound.owners; driven = f.driven; described = f.described } in
    event_keeps_out_behind kind s.near (32 * y.queue) (asked_as y.desc) i place known opening_base s.member (met w.driver s.recent) w.driver
    s.descs s.parts s.hand s.frame (controller_parts w) (wired fixed w) (wired fixed (controller_next fixed w)) c.event.now c.event.later
    c.event.frame_later describing f.runs c.event.effect (asked_is_near s w k.mixed)
    (asks_alone fixed x s m h w k ways_are Directions.Out e y kind streams one)
    (iso_aside fixed x s m h w k ways_are Directions.Out e y kind streams one) streams
    (walked_as fixed x s m h w k ways_are Directions.Out e y kind streams one) fresh (sound_at s w k.mixed e y one.here one.met)
    (sound_at (standing_then s w c.event) (controller_next fixed w) c.mixed e y one.here one.met)
    (event_keeps_hub s.parts (joined s.hand s.frame) (wired fixed w) (wired fixed (controller_next fixed w))
    (parts_now s.descs s.parts c.event.now) (joined c.event.later c.event.frame_later) (asked_as y.desc).hub (asked_as y.desc).port i place
    z b.hub) z b

pub controller_keeps_in_below : ControllerKeepsInBelow
controller_keeps_in_below fixed x s m h w k ways_are c z e y kind streams one packets i place timely still known fresh spares b on_time =
    let f = k.mixed.now.framed in
    let describing : IsDescribing w.driver s.descs s.parts =
    record { owners = f.place.sound.owners; driven = f.driven; described = f.described } in
    event_keeps_in_behind kind packets s.near (32 * y.queue) (asked_as y.desc) i place timely still known opening_base s.member
    (met w.driver s.recent) w.driver s.descs s.parts s.hand s.frame (controller_parts w) (wired fixed w)
    (wired fixed (controller_next fixed w)) c.event.now c.event.later c.event.frame_later describing f.runs c.event.effect
    (asked_is_near s w k.mixed) (asks_alone fixed x s m h w k ways_are Directions.In e y kind streams one)
    (iso_aside fixed x s m h w k ways_are Directions.In e y kind streams one) streams
    (walked_as fixed x s m h w k ways_are Directions.In e y kind streams one) fresh (sound_at s w k.mixed e y one.here one.met)
    (sound_at (standing_then s w c.event) (controller_next fixed w) c.mixed e y one.here one.met)
    (event_keeps_hub s.parts (joined s.hand s.frame) (wired fixed w) (wired fixed (controller_next fixed w))
    (parts_now s.descs s.parts c.event.now) (joined c.event.later c.event.frame_later) (asked_as y.desc).hub (asked_as y.desc).port i place
    z b.hub) spares z b on_time

pub controller_leaves_out : ControllerLeavesOut
controller_leaves_out fixed x s m h w k ways_are c z t u kind streams i place h_now waiting known next side =
    unasked_leaves_out kind s.near t i place s.descs s.parts (in_hand s) (wired fixed w) (wired fixed (controller_next fixed w))
    (parts_now s.descs s.parts c.event.now) (joined c.event.later c.event.frame_later) h_now waiting known next
    (asked_is_near s w k.mixed) (asks_none fixed x s m h w k ways_are Directions.Out t u)
    (iso_beside fixed x s m h w k ways_are Directions.Out t u) streams z side

pub controller_leaves_in : ControllerLeavesIn
controller_leaves_in fixed x s m h w k ways_are c z t u kind streams packets i place h_now going timely known spares side =
    unasked_leaves_in kind packets s.near t i place s.descs s.parts (in_hand s) (wired fixed w) (wired fixed (controller_next fixed w))
    (parts_now s.descs s.parts c.event.now) (joined c.event.later c.event.frame_later) h_now going timely known
    (asked_is_near s w k.mixed) (asks_none fixed x s m h w k ways_are Directions.In t u)
    (iso_beside fixed x s m h w k ways_are Directions.In t u) streams spares z side
