-- What is sent of puts while endpoints leave the ring of a world of bulk and control endpoints, and are given back (EHCI 1.0, 4.8.2 and 4.10; USB 2.0, 5.8 and 8.6).
--     IsSent fixed puts s w      what each OUT endpoint is sent begins the bytes of its puts, and so does what its device took
--     CancelKeepsSent            a cancel, accepted or refused, leaves it so
--     StillKeepsSent             so does the doorbell, with its readings
--     UnlinkKeepsSent            the store by which a queue head leaves the ring
--     ClearKeepsSent             the clear of Async Advance
--     EndpointReleaseKeepsSent   the row by which the endpoint is given back
use Rattle.std.specs.Prelude.{◌≡◌, ℕ, Bool, true, List}
use Rattle.usb_base.specs.declared.endpoints.EpName.{EpName}
use Rattle.usb_base.specs.declared.commands.Cmd.TheVariants as commands
use Rattle.bus_wire.specs.Bus.{Fixed}
use Rattle.drv_table.specs.Offers.{IsOffered}
use Rattle.drv_table.specs.declared.rows.DriverRow.TheVariants as rows
use Rattle.drv_table.specs.Rows.{driver_row}
use Rattle.claims_driver.specs.Owners.{views_of}
use Rattle.law_devices.specs.scripted_takers.Takers.{taker_of}
use Rattle.law_driver_ring.specs.Extents.{AreInRuns}
use Rattle.law_world.specs.steps.unlinked_streams.Unlinks.{IsAtUnlink}
use Rattle.law_world.specs.steps.endpoint_releases.Released.{HasLeaver}
use Rattle.law_world.specs.streams.put_laws.HeldPuts.{HoldsPuts, puts_then}
use Rattle.law_world.specs.streams.put_laws.Sent.{SentStand}
use Rattle.law_world.specs.streams.put_laws.Owed.{Owes}
use Rattle.law_world.specs.streams.put_laws.OwedTaken.{TakenBegin, EndedAreStopped}
use Rattle.bus_world.specs.World.{World, driver_parts, driver_next, commanded}
use Rattle.law_world.specs.steps.Streaming.{Streams, Standing, wired}
use Rattle.law_world.specs.streams.Feeding.{IsFeeding}
use Rattle.law_world.specs.streams.FeedingLaws.{is_still}
use Rattle.law_world.specs.streams.Leaving.{unlinked}
use Rattle.law_world.specs.streams.Releases.{released}

pub record IsSent (fixed : Fixed) (puts : ℕ → List ℕ) (s : Standing) (w : World) : Type 0 where
  pub sent : SentStand w.driver s.order s.out s.hand s.parts
  pub ended : EndedAreStopped w.driver s.parts
  pub held : HoldsPuts w.driver w.memory puts
  pub owes : Owes w.driver w.memory puts s.reported
  pub begin : TakenBegin taker_of w.driver puts (wired fixed w)

abbrev pub CancelKeepsSent : Type 0
CancelKeepsSent = (fixed : Fixed) (member : ℕ → Bool) (x : Streams) (s : Standing) (puts : ℕ → List ℕ) (w : World) (line : ℕ) (name : EpName) → IsOffered w.driver.room (commands.Cancel name)
    → IsFeeding fixed member x s w → IsSent fixed puts s w → IsSent fixed (puts_then w.driver (commands.Cancel name) puts) s (commanded w line (commands.Cancel name))

abbrev pub StillKeepsSent : Type 0
StillKeepsSent = (fixed : Fixed) (member : ℕ → Bool) (x : Streams) (s : Standing) (puts : ℕ → List ℕ) (w : World) → is_still (driver_row (driver_parts w)) ≡ true → IsFeeding fixed member x s w
    → IsSent fixed puts s w → IsSent fixed puts s (driver_next w)

abbrev pub UnlinkKeepsSent : Type 0
UnlinkKeepsSent = (fixed : Fixed) (member : ℕ → Bool) (x : Streams) (s : Standing) (puts : ℕ → List ℕ) (w : World) → (k : IsAtUnlink w.driver member s.parts) → IsFeeding fixed member x s w
    → IsSent fixed puts s w → IsSent fixed puts (unlinked s k) (driver_next w)

abbrev pub ClearKeepsSent : Type 0
ClearKeepsSent = (fixed : Fixed) (member : ℕ → Bool) (x : Streams) (s : Standing) (puts : ℕ → List ℕ) (w : World) → driver_row (driver_parts w) ≡ rows.ClearAdvance → IsFeeding fixed member x s w
    → IsSent fixed puts s w → IsSent fixed puts s (driver_next w)

abbrev pub EndpointReleaseKeepsSent : Type 0
EndpointReleaseKeepsSent = (fixed : Fixed) (member : ℕ → Bool) (x : Streams) (s : Standing) (puts : ℕ → List ℕ) (w : World) (e : ℕ) → driver_row (driver_parts w) ≡ rows.ReleaseEndpoint e
    → (leaver : HasLeaver w.driver e) → AreInRuns (views_of w.driver) s.parts → IsFeeding fixed member x s w → IsSent fixed puts s w
    → IsSent fixed puts (released s leaver.endpoint) (driver_next w)
