-- What happens to the queues of a world with endpoints of every kind where its driver has an event or a command is given (EHCI 1.0, 3.5,
-- 3.6, 4.6, 4.8 and 4.10; USB 2.0, 5.5 to 5.8): one step of one queue, told as the queues tell the driver, or none. What memory has of the
-- queues, what either walk has in hand of them, their order and what is out of them can so be followed through each event.
--     told_parts w             the driver of w, its registers and memory, as its queues tell it
--     IsToldRow w new row      the next event of the driver is this row, and in `new` its queues are what they tell of it
--     HandStays, FrameStays    what a walk has in hand is as it was, or a link was stored in what stands there now
--     AreTold s t              each queue stands in t as in s, but for links of queue heads, and so does what either walk has in hand
--     AreStill s t             .. and the same queues are met, with the same endpoints, and the same is out of them
--     OutAfter .. out later    what is out once the token of a transfer's qTD was read: nothing changes; or that qTD is out no more; or it
--                              tells of a STALL, and the first qTD of each transfer that waits behind is out no more either
--     HasBehind ..             the qTDs of a transfer stand behind all that stood in its queue, and all that stood stands still
--     IsNextStore ..           the next event of the driver stores a word of a transfer's first qTD
--     HasOpened s t x          the queue of endpoint x is one of those that are met, and nothing of it is out
--     IsWithout s t n          nothing is told any more of the queue of the queue head at n
--     LeftBy w e d             endpoint e is given back, and d is what the queues tell before: it left the ring, or its frames
--     IsGivenBack w new e x d  .. and x is that endpoint, so told
--     HasNoStep w new          no queue has a step: the queues of the driver are the same, and so is its report, or it was an event of the
--                              frames; the doorbell was rung or its answer read; or it was a command
--     QueueStep s w new t      the step from the standing s of the world w to t, that of `new`
--     IsMixedNext s w new      the world `new` is one with endpoints of every kind, and comes of w by a step
--     IsEventOf fixed s w      what the next event of the controller does to the structures that are told, and to what is in hand
--     standing_then s w a      the standing after it
--     IsMixedControlled fixed s w     the world after it is one with endpoints of every kind
use Rattle.std.specs.Prelude.{◌≡◌, ◌≢◌, ℕ, ◌-◌, ◌*◌, ◌==◌, ◌&&◌, ◌≤◌, Bool, not, false, List, ◌++◌, Some}
use Rattle.usb_base.specs.declared.commands.Cmd.{Cmd}
use Rattle.link_words.specs.declared.fields.LinkBits.{LinkBits}
use Rattle.qh_qtd.specs.declared.qtd.Qtd.{Qtd}
use Rattle.bus_wire.specs.Bus.{Fixed}
use Rattle.drv_periodic_table.specs.declared.content.Removed.TheVariants as removed
use Rattle.drv_table.specs.declared.content.Command.TheVariants as unfinished
use Rattle.drv_table.specs.declared.content.Endpoint.{Endpoint}
use Rattle.drv_table.specs.declared.content.Transfer.{Transfer}
use Rattle.drv_table.specs.declared.rows.DriverRow.{DriverRow}
use Rattle.drv_table.specs.declared.rows.DriverRow.TheVariants as rows
use Rattle.drv_table.specs.declared.rows.Found.{Found}
use Rattle.drv_table.specs.declared.rows.Found.TheVariants as founds
use Rattle.drv_table.specs.DriverContent.{DriverContent}
use Rattle.drv_table.specs.Offers.{IsOffered}
use Rattle.drv_table.specs.Parts.{Parts}
use Rattle.drv_table.specs.Rows.{driver_row, after_driver_row}
use Rattle.drv_table.specs.Words.{queue_head_link}
use Rattle.law_driver.specs.run_owners.Due.{IsHarvestDue}
use Rattle.claims_base.specs.Controller.{opening_base}
use Rattle.law_structures.specs.lent_structures.Structures.{Structure, Element}
use Rattle.law_ring.specs.Hand.{Hand}
use Rattle.law_ring.specs.Fewer.{without_those}
use Rattle.law_ring.specs.Sparing.{SparesHead, SparesElement}
use Rattle.law_ring.specs.Stores.{IsWider, hand_linked}
use Rattle.law_frames.specs.FrameHand.{FrameHand}
use Rattle.law_controller.specs.controlled_streams.Opened.{with_end, with_none}
use Rattle.law_controller.specs.controlled_streams.Returned.{staying_of}
use Rattle.law_controller.specs.frame_stores.Stores.{frame_linked}
use Rattle.law_driver_ring.specs.Linked.{with_member}
use Rattle.law_driver_ring.specs.Published.{publish_row}
use Rattle.law_driver_ring.specs.Released.{goes_of}
use Rattle.law_driver_ring.specs.fed_queues.Fed.{IsPublished}
use Rattle.law_driver.specs.queued_drivers.Queued.{queued, queued_parts}
use Rattle.law_driver.specs.queued_drivers.Rows.{QueuesAlike, TellsAlike, IsOfFrames, out_of_frames}
use Rattle.law_queues.specs.fed_harvests.Harvests.{Harvested, with_out}
use Rattle.law_queues.specs.fed_harvests.Stalls.{Stalled}
use Rattle.law_queues.specs.fed_lends.ToLend.{IsToBeLent}
use Rattle.law_queues.specs.lent_fronts.Stands.{parts_with}
use Rattle.law_queues.specs.lent_fronts.Whole.{IsLentBehind}
use Rattle.law_queues.specs.mended_heads.Mended.{IsAtMend, parts_then as parts_mended, hand_then as hand_mended}
use Rattle.law_queues.specs.mended_heads.Owed.{store_due}
use Rattle.law_queues.specs.mended_heads.Stalling.{IsStall}
use Rattle.law_queues.specs.open_laws.Opens.{end_then, streams_then}
use Rattle.law_queues.specs.open_laws.Queues.{IsOpenToLend, IsOpenThere, parts_opened, open_lent, open_finished}
use Rattle.law_queues.specs.publish_laws.Stores.{parts_then as parts_stored, out_then as out_stored, next_of}
use Rattle.law_queues.specs.reached_rings.Reaching.{is_reached}
use Rattle.law_queues.specs.released_queues.Released.{IsReturning}
use Rattle.law_world.specs.steps.Streaming.{begins_by, transacts_by, wired}
use Rattle.law_world.specs.steps.endpoint_releases.Released.{without_queue, IsToLeave}
use Rattle.law_world.specs.steps.left_queues.Standing.{met_streams}
use Rattle.law_world.specs.steps.unlinked_streams.Unlinks.{IsAtUnlink, parts_unlinked, hand_unlinked}
use Rattle.law_descriptors.specs.Both.{descs_now, parts_now}
use Rattle.law_world.specs.memory.framed_memory.Now.{recent_then, FramedNowAfter}
use Rattle.bus_world.specs.World.{World, driver_parts, driver_next, controller_parts, controller_row, controller_next, commanded}
use Rattle.law_world.specs.memory.Mixed.{Standing, IsMixedAt}
use Rattle.law_world.specs.memory.Opens.{OpensMixed}
use Rattle.law_world.specs.memory.SameQueues.{IsSameQueue}

abbrev pub told_parts : World → Parts
told_parts w = queued_parts (driver_parts w)

pub record IsToldRow (w new : World) (row : DriverRow) : Type 0 where
  pub next : driver_row (driver_parts w) ≡ row
  pub told : queued new.driver ≡ (after_driver_row row (told_parts w)).driver

-- ---- nothing is told otherwise

pub data HandStays (hand : Hand) : Hand → Type 0 where
  same_hand : HandStays hand hand
  linked_hand : (n : ℕ) (l : LinkBits) → HandStays hand (hand_linked n l hand)

pub data FrameStays (frame : FrameHand) : FrameHand → Type 0 where
  same_frame : FrameStays frame frame
  linked_frame : (n : ℕ) (l : LinkBits) → FrameStays frame (frame_linked n l frame)

pub record AreTold (s t : Standing) : Type 0 where
  pub parts : (n : ℕ) → IsSameQueue n (s.parts n) (t.parts n)
  pub hand : HandStays s.hand t.hand
  pub frame : FrameStays s.frame t.frame

pub record AreStill (s t : Standing) : Type 0 where
  pub near : t.near ≡ s.near
  pub streams : t.streams ≡ s.streams
  pub ends : t.ends ≡ s.ends
  pub order : t.order ≡ s.order
  pub out : t.out ≡ s.out
  pub told : AreTold s t

-- ---- a harvest

abbrev pub harvested_by : Parts → ℕ → ℕ → Found → DriverContent
harvested_by p e t found = (after_driver_row (rows.Harvest e t found) p).driver

pub data OutAfter (p : Parts) (e t : ℕ) (found : Found) (due : IsHarvestDue p e t found) (out : ℕ → List ℕ) : (ℕ → List ℕ) → Type 0 where
  waits : found ≡ founds.Active → OutAfter p e t found due out out
  passes : found ≢ founds.Active → (IsStall due.endpoint.desc.kind found → ⊥)
      → (h : Harvested p.driver (harvested_by p e t found) e t due.transfer)
      → OutAfter p e t found due out (with_out out (32 * due.endpoint.queue) (h.before ++ h.behind))
  stalls : IsStall due.endpoint.desc.kind found → (h : Stalled p.driver (harvested_by p e t found) e t due.transfer)
      → OutAfter p e t found due out (with_out out (32 * due.endpoint.queue) (h.before ++ h.later))

-- ---- a transfer is lent

pub record HasBehind (s : Standing) (w : World) (b : ℕ) (words : List ℕ) (get : IsToBeLent (queued w.driver) w.memory b words)
    (order : ℕ → ℕ → ℕ) (out : ℕ → List ℕ) : Type 0 where
  pub behind : IsLentBehind (queued w.driver) w.memory s.parts (parts_with get s.parts) s.order order s.out out
  pub still : (n a : ℕ) (u : Structure) → s.parts n a ≡ Some u → parts_with get s.parts n a ≡ Some u
  pub heads : (n : ℕ) → SparesHead s.parts (parts_with get s.parts) n
  pub elements : (n a : ℕ) (u : Qtd) → s.parts n a ≡ Some (Element u) → SparesElement s.parts (parts_with get s.parts) n a

-- .. and its first qTD is published, one word after the other
pub record IsNextStore (s : Standing) (w new : World) (b : ℕ) (words : List ℕ) (g : IsPublished (queued w.driver) s.parts b words)
    : Type 0 where
  pub command : (queued w.driver).command ≡ Some (unfinished.Publish b words)
  pub made : 1 ≤ (queued w.driver).made
  pub next : driver_row (driver_parts w) ≡ publish_row b g.qtd ((queued w.driver).made - 1)
  pub told : queued new.driver ≡ (next_of (told_parts w)).driver

-- ---- an endpoint is opened

pub record HasOpened (s t : Standing) (x : Endpoint) : Type 0 where
  pub near : t.near ≡ with_member s.near (32 * x.queue)
  pub streams : t.streams ≡ streams_then s.streams x
  pub ends : t.ends ≡ with_end s.ends (32 * x.queue) (end_then x)
  pub order : t.order ≡ s.order
  pub out : t.out ≡ with_none s.out (32 * x.queue)
  pub told : AreTold s t

-- ---- .. and given back

-- an interrupt endpoint's queue is met until then
pub record IsWithout (s t : Standing) (n : ℕ) : Type 0 where
  pub near : (m : ℕ) → t.near m ≡ (s.near m && not (m == n))
  pub streams : (m : ℕ) → t.streams m ≡ (s.streams m && t.near m)
  pub ends : t.ends ≡ s.ends
  pub order : t.order ≡ s.order
  pub out : t.out ≡ s.out
  pub parts : t.parts ≡ without_queue s.parts n
  pub hand : t.hand ≡ s.hand
  pub frame : t.frame ≡ s.frame

-- one of frames is told as one that had left the ring, and for which Async Advance was cleared
pub data LeftBy (w : World) (e : ℕ) : DriverContent → Type 0 where
  left_the_ring : driver_row (driver_parts w) ≡ rows.ReleaseEndpoint e → LeftBy w e (queued w.driver)
  left_its_frames : driver_row (driver_parts w) ≡ rows.ReleaseRemoved (removed.Endpoint e) → LeftBy w e (out_of_frames (queued w.driver) e)

abbrev pub given_by : Parts → ℕ → DriverContent → DriverContent
given_by p e d = (after_driver_row (rows.ReleaseEndpoint e) (record p { driver = d })).driver

pub record IsGivenBack (w new : World) (e : ℕ) (x : Endpoint) (d : DriverContent) : Type 0 where
  pub left : LeftBy w e d
  pub leaves : IsToLeave d e x
  pub told : QueuesAlike (given_by (told_parts w) e d) (queued new.driver)

-- ---- the step

pub data HasNoStep (w new : World) : Type 0 where
  left_alike : QueuesAlike (queued w.driver) (queued new.driver) → TellsAlike (queued w.driver) (queued new.driver) → HasNoStep w new
  left_by_frames : QueuesAlike (queued w.driver) (queued new.driver) → IsOfFrames (driver_parts w) (driver_row (driver_parts w))
      → new ≡ driver_next w → HasNoStep w new
  left_by_bell : IsToldRow w new rows.RingBell → HasNoStep w new
  left_by_status : (heard : Bool) → IsToldRow w new (rows.ReadStatus heard) → HasNoStep w new
  left_by_command : (line : ℕ) (cmd : Cmd) → OpensMixed cmd → IsOffered w.driver.room cmd → new ≡ commanded w line cmd → HasNoStep w new

pub data QueueStep (s : Standing) (w new : World) : Standing → Type 0 where
  stays : (t : Standing) → HasNoStep w new → AreStill s t → QueueStep s w new t
  harvests : (e t : ℕ) (found : Found) (due : IsHarvestDue (told_parts w) e t found) (later : ℕ → List ℕ)
      → IsToldRow w new (rows.Harvest e t found) → OutAfter (told_parts w) e t found due s.out later
      → QueueStep s w new (record s { out = later })
  returns : (t : ℕ) (y : Transfer) (x : Endpoint) → IsToldRow w new (rows.ReleaseTransfer t) → IsReturning (queued w.driver) t y x
      → QueueStep s w new (record s {
        parts = without_those s.parts (32 * x.queue) (goes_of w.driver y);
        out = staying_of (32 * x.queue) (goes_of w.driver y) s.out;
      })
  lends : (b : ℕ) (words : List ℕ) (get : IsToBeLent (queued w.driver) w.memory b words) (order : ℕ → ℕ → ℕ) (out : ℕ → List ℕ)
      → IsToldRow w new rows.Lend → HasBehind s w b words get order out
      → QueueStep s w new (record s { parts = parts_with get s.parts; order = order; out = out })
  stores : (b : ℕ) (words : List ℕ) (g : IsPublished (queued w.driver) s.parts b words) → IsNextStore s w new b words g
      → QueueStep s w new (record s { parts = parts_stored g; out = out_stored s.out (next_of (told_parts w)).driver g })
  mends : (k : IsAtMend (driver_parts w) s.parts s.out) → IsToldRow w new (rows.Mend (store_due k.stalled))
      → QueueStep s w new (record s { parts = parts_mended k; hand = hand_mended k s.hand })
  -- a queue head that the ring is to lead to, or frames
  begins : (k : IsOpenToLend (queued w.driver) w.memory) → driver_row (driver_parts w) ≡ rows.Lend
      → QueuesAlike (open_lent (queued w.driver) w.memory) (queued new.driver)
      → QueueStep s w new (record s { parts = parts_opened k s.parts })
  opens : (k : IsOpenThere (queued w.driver) s.parts) (t : Standing)
      → QueuesAlike (open_finished (queued w.driver)) (queued new.driver) → HasOpened s t k.endpoint → QueueStep s w new t
  unlinks : (k : IsAtUnlink (queued w.driver) s.near s.parts)
      → IsToldRow w new (rows.Store k.before (32 * k.before) (queue_head_link k.after))
      → QueueStep s w new (record s {
        parts = parts_unlinked s.parts k.before k.queue k.after;
        hand = hand_unlinked s.hand k.before k.after;
      })
  narrows : (member near : ℕ → Bool) → IsToldRow w new rows.ClearAdvance
      → ((n : ℕ) → near n ≡ is_reached (after_driver_row rows.ClearAdvance (told_parts w)).driver false n) → IsWider near s.near
      → QueueStep s w new (record s { member = member; near = near; streams = met_streams s.streams near })
  goes : (e : ℕ) (x : Endpoint) (d : DriverContent) (t : Standing) → IsGivenBack w new e x d → IsWithout s t (32 * x.queue)
      → QueueStep s w new t

pub record IsMixedNext (s : Standing) (w new : World) : Type 0 where
  pub standing : Standing
  pub step : QueueStep s w new standing
  pub mixed : IsMixedAt standing new

-- ---- an event of the controller

abbrev pub IsEventOf : Fixed → Standing → World → Type 0
IsEventOf fixed s w =
    FramedNowAfter begins_by transacts_by opening_base s.member (recent_then (controller_row w) s.recent) s.descs s.parts s.hand s.frame
    (controller_parts w) w.driver (wired fixed w) (wired fixed (controller_next fixed w)) (controller_parts (controller_next fixed w))

abbrev pub standing_then : {fixed : Fixed} (s : Standing) (w : World) → IsEventOf fixed s w → Standing
standing_then s w a = record s {
  recent = recent_then (controller_row w) s.recent;
  descs = descs_now s.descs a.now;
  parts = parts_now s.descs s.parts a.now;
  hand = a.later;
  frame = a.frame_later;
}

pub record IsMixedControlled (fixed : Fixed) (s : Standing) (w : World) : Type 0 where
  pub event : IsEventOf fixed s w
  pub mixed : IsMixedAt (standing_then s w event) (controller_next fixed w)
