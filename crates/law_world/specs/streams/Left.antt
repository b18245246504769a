-- What is known of the endpoints that have left the ring of a world of bulk and control endpoints, and of those that were given back (EHCI 1.0, 4.8.2; USB 2.0, 5.8 and 8.6).
--     AreShut d takes          an OUT endpoint that the walk can't meet any more is none of these, so nothing is claimed of its pipe
--     IsLeft fixed takes packets acc w     each endpoint has a name of its type; the walk is among the queue heads that it may meet, what is owed is of these, what was moved and told of bulk ones of the others
--                              begins their packets, or what their devices took, and no OUT endpoint of them is in `takes`
--     AreNamed d               number 0 is that of control endpoints alone (USB 2.0, 5.3.1.2)
--     taking_of takes d        the devices' endpoints with takers, but those of OUT endpoints of d that the walk can't meet any more
--     after_event g            what stands after an event of the controller
use Rattle.std.specs.Prelude.{◌≡◌, ℕ, Bool, false, List, slice_get, Some}
use Rattle.bus_wire.specs.Bus.{Fixed}
use Rattle.drv_table.specs.declared.content.Endpoint.{Endpoint}
use Rattle.drv_table.specs.DriverContent.{DriverContent}
use Rattle.law_driver.specs.endpoint_lives.Lives.{may_meet}
use Rattle.claims_driver.specs.Scripts.{receives}
use Rattle.law_queues.specs.leaving_drivers.Owed.{AreOwedMet}
use Rattle.law_world.specs.steps.closed_streams.Left.{names_kept}
use Rattle.law_world.specs.streams.narrowed_streams.Narrowed.{left_names}
use Rattle.claims_world.specs.Memory.{IsWalking}
use Rattle.law_devices.specs.scripted_takers.Takers.{taker_of}
use Rattle.law_devices.specs.declared_controls.Names.{IsNameOf}
use Rattle.law_world.specs.streams.right_worlds.Right.{ClosedIns}
use Rattle.law_world.specs.streams.taken_reports.Worlds.{ClosedOuts}
use Rattle.bus_world.specs.World.{World}
use Rattle.law_world.specs.steps.Streaming.{Streams, Standing, wired}
use Rattle.law_world.specs.streams.Feeding.{GoesOnBeside, bytes_of_event, acc_after}

abbrev pub AreShut : DriverContent → (ℕ → ℕ → Bool) → Type 0
AreShut d takes = (e : ℕ) (z : Endpoint) → slice_get d.endpoints e ≡ Some z → receives z.desc.name.way ≡ false → may_meet d e z ≡ false → takes z.desc.name.addr z.desc.name.num ≡ false

abbrev pub AreNamed : DriverContent → Type 0
AreNamed d = (e : ℕ) (z : Endpoint) → slice_get d.endpoints e ≡ Some z → IsNameOf z.desc.kind z.desc.name

pub record IsLeft (fixed : Fixed) (takes : ℕ → ℕ → Bool) (packets : ℕ → ℕ → List (List ℕ)) (acc : ℕ → List (List ℕ)) (w : World) : Type 0 where
  pub named : AreNamed w.driver
  pub walking : IsWalking w
  pub owed : AreOwedMet w.driver
  pub closed_ins : ClosedIns w.driver packets acc
  pub closed_outs : ClosedOuts w.driver taker_of acc (wired fixed w)
  pub shut : AreShut w.driver takes

abbrev pub taking_of : (ℕ → ℕ → Bool) → DriverContent → ℕ → ℕ → Bool
taking_of takes d = names_kept takes (left_names d false)

abbrev pub after_event : {fixed : Fixed} {member : ℕ → Bool} {x : Streams} {s : Standing} {w : World} → GoesOnBeside fixed member x s w → Standing
after_event {fixed} {member} {x} {s} {w} g =
    record s { parts = g.event.event.now; hand = g.event.event.later; acc = acc_after x.streams s.acc g.event.at g.event.more (λ n. bytes_of_event n g.event.event.effect) }
