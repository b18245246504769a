-- To whom the structures belong that the walk of the frames may meet (EHCI 1.0, 3.3, 3.6, 4.6, 4.7 and 4.12; USB 2.0, 5.11.3): to endpoints whose placement is in the plan.
--     IsStructureOf d n e x   at byte address n stands the queue head of endpoint e, which is x, or a descriptor of it that waits for its harvest
--     BelongsTo d n           what stands at n belongs to an endpoint of the driver that wasn't given back, and its placement is among those of the plan
--     placed_of b             that endpoint, as it is placed
--     IsQueueAt d n           the queue head of an interrupt endpoint stands at n, and belongs to it
--     IsDescriptorAt d n      a descriptor of an isochronous endpoint stands at n, waits for its harvest, and belongs to the endpoint
--     IsHarvestedAt d n       a descriptor that was harvested stands at n, and is to be unlinked, or was
--     StaysPlaced b later     that endpoint is in a later content as it was, and its placement in the plan
--     IsStillAt b later       .. and the queue head at n is its own
--     HaveFields first second x p     words 1 and 2 of a queue head have the fields of the endpoint so described, at this placement
--     HeadsHaveFields d m     those of each interrupt endpoint that wasn't given back have them in memory
--     QueueBelongs            in a mixed world each queue head that is met is that of a placed interrupt endpoint
--     HeadIsRead              .. and what the controller reads there is the queue head of that endpoint, as it is placed
--     NamesAreApart           different names are those of different endpoints
--     DescriptorBelongs       .. and each descriptor that is met is one of a placed isochronous endpoint, or was harvested
--     NewHeadsHaveFields, ControllerKeepsFields, DriverKeepsFields, CommandKeepsFields     the fields stand before the first line, and after each event and command
--     ScriptsKeepFields       so they stand at each moment of each script that fits
--     DriverKeepsPlaced       an event of the driver takes no placement out of the plan to whose endpoint belongs what is met
--     CommandKeepsPlaced      no command takes one out
--     QueueStays              where the endpoint stays so, its queue head is at n still
use Rattle.std.specs.Prelude.{◌≡◌, ◌≢◌, ℕ, ◌+◌, ◌*◌, ◌⊎◌, max, true, false, slice_get, Some}
use Rattle.usb_base.specs.declared.commands.Cmd.{Cmd}
use Rattle.usb_base.specs.declared.endpoints.EpDesc.{EpDesc}
use Rattle.usb_base.specs.declared.packets.EpKind.TheVariants.{Interrupt, Iso}
use Rattle.usb_base.specs.declared.packets.Speed.TheVariants.{High}
use Rattle.script_types.specs.declared.scripts.Script.{Script}
use Rattle.script_fits.specs.Fits.{IsFit}
use Rattle.law_scripts.specs.byte_answers.Bytes.{IsByteScript}
use Rattle.bus_wire.specs.Bus.{Fixed}
use Rattle.word_mem.specs.Memory.{Mem, word_at}
use Rattle.link_words.specs.Layout.{bits}
use Rattle.qh_qtd.specs.declared.queue_head.Qh.{Qh}
use Rattle.mem_queues.specs.Structures.{queue_head_at_address}
use Rattle.bandwidth.specs.declared.placements.Placement.{Placement}
use Rattle.bandwidth.specs.declared.placements.Placed.{Placed}
use Rattle.drv_table.specs.declared.content.Endpoint.{Endpoint}
use Rattle.drv_table.specs.declared.content.Transfer.{Transfer}
use Rattle.drv_table.specs.DriverContent.{DriverContent, waits_for}
use Rattle.drv_table.specs.Offers.{IsOffered}
use Rattle.drv_table.specs.Kinds.{is_iso}
use Rattle.drv_table.specs.Words.{speed_field}
use Rattle.claims_driver.specs.Owners.{is_descriptor}
use Rattle.law_frames.specs.Met.{Kind, AQueue}
use Rattle.law_descriptors.specs.Meeting.{met}
use Rattle.law_budgets.specs.visit_prices.Spent.{IsHeadOf, placed_as, IsAmong}
use Rattle.claims_world.specs.FrameHeads.{characteristics_in, capabilities_in}
use Rattle.bus_world.specs.World.{World, driver_next, controller_next, commanded}
use Rattle.bus_world.specs.Opening.{opening_world}
use Rattle.bus_world.specs.Budgets.{moment}
use Rattle.law_world.specs.memory.Mixed.{Standing, IsMixedAt, IsMixedWorld}
use Rattle.law_world.specs.memory.Laws.{OpensMixed}
use Rattle.law_world.specs.memory.PlacedLaws.{FitsMixed}

-- ---- whose it is

pub data IsStructureOf (d : DriverContent) (n e : ℕ) (x : Endpoint) : Type 0 where
  a_queue : x.desc.kind ≡ Interrupt → n ≡ 32 * x.queue → IsStructureOf d n e x
  a_descriptor : (t : ℕ) (y : Transfer) → x.desc.kind ≡ Iso → slice_get d.transfers t ≡ Some y → is_descriptor y.sort ≡ true → waits_for e y ≡ true → n ≡ 32 * y.first → IsStructureOf d n e x

pub record BelongsTo (d : DriverContent) (n : ℕ) : Type 0 where
  pub number : ℕ
  pub endpoint : Endpoint
  pub placement : Placement
  pub here : slice_get d.endpoints number ≡ Some endpoint
  pub kept : endpoint.gone ≡ false
  pub placed : endpoint.placement ≡ Some placement
  pub planned : IsAmong d.periodic.plan.placed (placed_as number endpoint.desc placement)
  pub structure : IsStructureOf d n number endpoint

abbrev pub placed_of : {d : DriverContent} {n : ℕ} → BelongsTo d n → Placed
placed_of b = placed_as b.number b.endpoint.desc b.placement

pub record IsQueueAt (d : DriverContent) (n : ℕ) : Type 0 where
  pub belongs : BelongsTo d n
  pub kind : belongs.endpoint.desc.kind ≡ Interrupt
  pub name : n ≡ 32 * belongs.endpoint.queue

pub record IsDescriptorAt (d : DriverContent) (n : ℕ) : Type 0 where
  pub belongs : BelongsTo d n
  pub kind : belongs.endpoint.desc.kind ≡ Iso
  pub number : ℕ
  pub transfer : Transfer
  pub there : slice_get d.transfers number ≡ Some transfer
  pub sort : is_descriptor transfer.sort ≡ true
  pub waits : waits_for belongs.number transfer ≡ true
  pub held : transfer.released ≡ false
  pub name : n ≡ 32 * transfer.first

pub record IsHarvestedAt (d : DriverContent) (n : ℕ) : Type 0 where
  pub number : ℕ
  pub transfer : Transfer
  pub there : slice_get d.transfers number ≡ Some transfer
  pub sort : is_descriptor transfer.sort ≡ true
  pub reported : transfer.reported ≡ true
  pub held : transfer.released ≡ false
  pub name : n ≡ 32 * transfer.first

pub record StaysPlaced {d : DriverContent} {n : ℕ} (b : BelongsTo d n) (later : DriverContent) : Type 0 where
  pub endpoint : Endpoint
  pub here : slice_get later.endpoints b.number ≡ Some endpoint
  pub kept : endpoint.gone ≡ false
  pub desc : endpoint.desc ≡ b.endpoint.desc
  pub queue : endpoint.queue ≡ b.endpoint.queue
  pub placed : endpoint.placement ≡ Some b.placement
  pub planned : IsAmong later.periodic.plan.placed (placed_of b)

pub record IsStillAt {d : DriverContent} {n : ℕ} (b : IsQueueAt d n) (later : DriverContent) : Type 0 where
  pub still : IsQueueAt later n
  pub number : still.belongs.number ≡ b.belongs.number
  pub placed : placed_of still.belongs ≡ placed_of b.belongs

-- ---- the words of queue heads (3.6.2): Mult 0 counts as 1

pub record HaveFields (first second : ℕ) (x : EpDesc) (p : Placement) : Type 0 where
  pub speed : bits 13 12 first ≡ speed_field x.speed
  pub longest : bits 26 16 first ≡ x.max
  pub multi : max 1 (bits 31 30 second) ≡ x.multi
  pub smask : bits 7 0 second ≡ p.smask
  pub cmask : bits 15 8 second ≡ p.cmask
  pub characteristics : first ≡ characteristics_in x
  pub capabilities : second ≡ capabilities_in x p

abbrev pub HeadsHaveFields : DriverContent → Mem → Type 0
HeadsHaveFields d m =
    (e : ℕ) (x : Endpoint) (p : Placement) → slice_get d.endpoints e ≡ Some x → is_iso x.desc.kind ≡ false → x.gone ≡ false → x.placement ≡ Some p
    → HaveFields (word_at m (32 * x.queue + 4)) (word_at m (32 * x.queue + 8)) x.desc p

-- ---- what is met

abbrev pub QueueBelongs : Type 0
QueueBelongs = (s : Standing) (w : World) (n : ℕ) → IsMixedAt s w → met w.driver s.recent n ≡ Some AQueue → IsQueueAt w.driver n

abbrev pub HeadIsRead : Type 0
HeadIsRead = (w : World) (n : ℕ) (q : Qh) (b : IsQueueAt w.driver n) → HeadsHaveFields w.driver w.memory → b.belongs.endpoint.desc.speed ≡ High → queue_head_at_address w.memory n ≡ Some q
    → IsHeadOf (placed_of b.belongs) q

abbrev pub NamesAreApart : Type 0
NamesAreApart = (d : DriverContent) (n k : ℕ) (b : IsQueueAt d n) (c : IsQueueAt d k) → b.belongs.number ≡ c.belongs.number → n ≡ k

-- the endpoint of one that was harvested may have been given back
abbrev pub DescriptorBelongs : Type 0
DescriptorBelongs = (s : Standing) (w : World) (n : ℕ) (kind : Kind) → IsMixedAt s w → met w.driver s.recent n ≡ Some kind → kind ≢ AQueue
    → IsDescriptorAt w.driver n ⊎ IsHarvestedAt w.driver n

-- ---- the fields stand

abbrev pub NewHeadsHaveFields : Type 0
NewHeadsHaveFields = (s : Script) → HeadsHaveFields (opening_world s).driver (opening_world s).memory

abbrev pub ControllerKeepsFields : Type 0
ControllerKeepsFields = (fixed : Fixed) (w : World) → IsMixedWorld w → HeadsHaveFields w.driver w.memory
    → HeadsHaveFields (controller_next fixed w).driver (controller_next fixed w).memory

abbrev pub DriverKeepsFields : Type 0
DriverKeepsFields = (w : World) → IsMixedWorld w → HeadsHaveFields w.driver w.memory → HeadsHaveFields (driver_next w).driver (driver_next w).memory

abbrev pub CommandKeepsFields : Type 0
CommandKeepsFields = (w : World) (line : ℕ) (cmd : Cmd) → OpensMixed cmd → IsOffered w.driver.room cmd → IsMixedWorld w → HeadsHaveFields w.driver w.memory
    → HeadsHaveFields (commanded w line cmd).driver (commanded w line cmd).memory

abbrev pub ScriptsKeepFields : Type 0
ScriptsKeepFields = (s : Script) → IsFit s → IsByteScript s → FitsMixed s → (k : ℕ) → HeadsHaveFields (moment s k).world.driver (moment s k).world.memory

-- ---- the plan keeps them

abbrev pub DriverKeepsPlaced : Type 0
DriverKeepsPlaced = (s : Standing) (w : World) (n : ℕ) (kind : Kind) → IsMixedAt s w → met w.driver s.recent n ≡ Some kind → (b : BelongsTo w.driver n) → StaysPlaced b (driver_next w).driver

abbrev pub CommandKeepsPlaced : Type 0
CommandKeepsPlaced = (w : World) (line : ℕ) (cmd : Cmd) (n : ℕ) → IsMixedWorld w → (b : BelongsTo w.driver n) → StaysPlaced b (commanded w line cmd).driver

abbrev pub QueueStays : Type 0
QueueStays = (d later : DriverContent) (n : ℕ) (b : IsQueueAt d n) → StaysPlaced b.belongs later → IsStillAt b later
