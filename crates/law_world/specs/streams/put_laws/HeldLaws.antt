-- The buffers of puts hold their bytes at each moment (EHCI 1.0, 3.5.4, 4.8 and 4.10).
--     IsPublishing d m           what of the newest transfer is still to be lent was written, and stands so
--     OutsAskNoData d parts      the queue head of each OUT endpoint that the walk may meet asks for no data
--     NewDriverHoldsPuts         a driver that was just built has none
--     EventHoldsPuts             each event of the controller leaves them
--     OpenHoldsPuts, GetHoldsPuts, PutHoldsPuts, CommandHoldsPuts     an accepted command leaves them, and a put is one more
--     IsInHead parts at          the word at this address is one of a queue head
--     IsReleasedMet p            the endpoint of a transfer that is given back may still be met
--     DriverHoldsPuts            each event of the driver leaves them, until it gives a put's blocks back
--     HarvestReadsPuts, ReportIsOfPuts     what a harvest reads of a put, and what is reported of it, is what the put asked to send
--     AreMovedFew d              no more was noted as moved of a qTD than it asked for
--     NewDriverMovesFew, CommandMovesFew, DriverMovesFew     so it is at each moment
use Rattle.std.specs.Prelude.{◌≡◌, ◌≢◌, ℕ, ◌*◌, ◌/◌, ◌<◌, ◌≤◌, ◌⊎◌, Bool, true, false, List, length, slice_get, take, Some, Ok}
use Rattle.std.specs.List.{AllByRecursion}
use Rattle.usb_base.specs.declared.commands.Cmd.{Cmd}
use Rattle.usb_base.specs.declared.packets.Ask.{Ask}
use Rattle.usb_base.specs.declared.packets.Reply.{Reply}
use Rattle.word_mem.specs.Memory.{Mem, word_at, reaches}
use Rattle.mem_runs.specs.Book.{holding, Stands}
use Rattle.drv_table.specs.declared.content.Command.TheVariants as unfinished
use Rattle.drv_table.specs.declared.content.Endpoint.{Endpoint}
use Rattle.drv_table.specs.declared.content.Mend.{Mend}
use Rattle.drv_table.specs.declared.content.Reserve.{Reserve}
use Rattle.drv_table.specs.declared.content.Sort.TheVariants as sorts
use Rattle.drv_table.specs.declared.content.Transfer.{Transfer}
use Rattle.drv_table.specs.declared.rows.DriverRow.TheVariants as rows
use Rattle.drv_table.specs.DriverContent.{DriverContent}
use Rattle.drv_table.specs.Harvests.{note_at, moved_of, buffer_bytes, moved_bytes}
use Rattle.drv_table.specs.Accepting.{Offered}
use Rattle.drv_table.specs.Offers.{offered, IsOffered}
use Rattle.drv_table.specs.Opening.{opening}
use Rattle.drv_table.specs.Parts.{Parts as DriverParts}
use Rattle.drv_table.specs.Rows.{driver_row, after_driver_row}
use Rattle.law_driver.specs.endpoint_lives.Lives.{may_meet}
use Rattle.claims_driver.specs.Leaving.{HasOwners}
use Rattle.claims_driver.specs.Owners.{note_in}
use Rattle.law_driver.specs.run_owners.Accepts.{Opens, Transfers}
use Rattle.law_driver.specs.chained_transfers.Accepted.{IsAsked}
use Rattle.claims_driver.specs.Scripts.{receives}
use Rattle.law_driver.specs.AsynchronousScripts.{OpensAsynchronous}
use Rattle.law_driver.specs.chained_transfers.Asynchronous.{OnlyAsynchronous}
use Rattle.law_driver.specs.chained_transfers.Chains.{piece_at}
use Rattle.law_driver.specs.chained_transfers.AsynchronousTurns.{AsynchronousTakesTurns}
use Rattle.claims_driver.specs.LentRuns.{AreLent}
use Rattle.law_scripts.specs.byte_answers.Bytes.{IsByteCommand}
use Rattle.async_walk.specs.Walk.{Walk}
use Rattle.async_walk.specs.Rows.{place}
use Rattle.qh_qtd.specs.declared.queue_head.Qh.{Qh}
use Rattle.law_structures.specs.lent_structures.Structures.{QueueHead, StructureSets, Tells}
use Rattle.law_ring.specs.Hand.{Hand}
use Rattle.claims_base.specs.Controller.{Base}
use Rattle.law_ring.specs.Pipes.{IsNotIn}
use Rattle.hc_core.specs.Controller.{Content}
use Rattle.law_controller.specs.controlled_streams.Control.{IsControlled, ControlEffect}
use Rattle.law_driver_ring.specs.Driven.{DrivesRing}
use Rattle.law_driver_ring.specs.fed_queues.Fed.{AreFed}
use Rattle.law_driver_ring.specs.fed_queues.Places.{IsMet, AreMet}
use Rattle.law_queues.specs.fed_lends.ToLend.{IsToBeLent}
use Rattle.law_queues.specs.released_queues.Released.{ReleaseStands}
use Rattle.law_world.specs.streams.put_laws.HeldPuts.{HoldsPuts, with_put, puts_then, piece_of, first_moved}
use Rattle.law_world.specs.steps.unlinked_streams.Unlinks.{IsAtUnlink}

abbrev pub NewDriverHoldsPuts : Type 0
NewDriverHoldsPuts = (n : ℕ) (room : Reserve) (m : Mem) (puts : ℕ → List ℕ) → HoldsPuts (opening n room).driver m puts

-- ---- an event of the controller

abbrev pub IsPublishing : DriverContent → Mem → Type 0
IsPublishing d m = (b : ℕ) (words : List ℕ) → d.command ≡ Some (unfinished.Publish b words) → IsToBeLent d m b words ⊎ (1 ≤ d.made)

abbrev pub OutsAskNoData : DriverContent → StructureSets → Type 0
OutsAskNoData d parts = (e : ℕ) (x : Endpoint) → slice_get d.endpoints e ≡ Some x → IsMet d e x → receives x.desc.name.way ≡ false → IsNotIn (parts (32 * x.queue))

abbrev pub EventHoldsPuts : {W : Type 0} → (W → ℕ → Bool → W → Type 0) → (W → Ask → List ℕ → Reply → W → Type 0) → Type 0
EventHoldsPuts {W} begins transacts = (base : Base) (member : ℕ → Bool) (parts : StructureSets) (hand : Hand) (c new : Content) (wire after : W) (now : StructureSets) (later : Hand)
    (d : DriverContent) (puts : ℕ → List ℕ) → IsControlled base member parts hand c → IsControlled base member now later new
    → ControlEffect begins transacts parts hand wire after now later → ((at : ℕ) → reaches c.memory at ≡ false → word_at new.memory at ≡ word_at c.memory at)
    → HasOwners d → Stands (holding d.book c.memory) → AsynchronousTakesTurns d → AreMet d member → AreFed d parts → IsPublishing d c.memory → OutsAskNoData d parts
    → HoldsPuts d c.memory puts → HoldsPuts d new.memory puts

-- ---- an accepted command

abbrev pub OpenHoldsPuts : Type 0
OpenHoldsPuts = (d : DriverContent) (m : Mem) (o : Offered) (parts : StructureSets) (puts : ℕ → List ℕ) → Opens d m o → Stands (holding d.book m) → AsynchronousTakesTurns d
    → Tells m parts → AreFed d parts → HoldsPuts d m puts → HoldsPuts o.driver o.memory puts

-- a get, or a request of a control endpoint
abbrev pub GetHoldsPuts : Type 0
GetHoldsPuts = (d : DriverContent) (m : Mem) (o : Offered) (parts : StructureSets) (puts : ℕ → List ℕ) (why : Transfers d m o) → why.asked.sort ≢ sorts.Put
    → HasOwners d → Stands (holding d.book m) → AsynchronousTakesTurns d → Tells m parts → AreFed d parts → HoldsPuts d m puts → HoldsPuts o.driver o.memory puts

abbrev pub PutHoldsPuts : Type 0
PutHoldsPuts = (d : DriverContent) (m : Mem) (o : Offered) (parts : StructureSets) (puts : ℕ → List ℕ) (k : IsAsked d m o) → receives k.transfers.endpoint.desc.name.way ≡ false
    → 1 ≤ k.by → AllByRecursion (λ b. b < 256) k.bytes → HasOwners d → AreLent d → Stands (holding d.book m) → AsynchronousTakesTurns d → Tells m parts → AreFed d parts
    → HoldsPuts d m puts → HoldsPuts o.driver o.memory (with_put puts (length d.transfers) k.bytes)

-- the bytes of a put are those of its command
abbrev pub CommandHoldsPuts : Type 0
CommandHoldsPuts = (d : DriverContent) (m : Mem) (cmd : Cmd) (o : Offered) (parts : StructureSets) (puts : ℕ → List ℕ) → OpensAsynchronous cmd → IsOffered d.room cmd → IsByteCommand cmd
    → offered d m cmd ≡ Ok o → HasOwners d → AreLent d → Stands (holding d.book m) → AsynchronousTakesTurns d → Tells m parts → AreFed d parts
    → HoldsPuts d m puts → HoldsPuts o.driver o.memory (puts_then d cmd puts)

-- ---- an event of the driver

-- the endpoint of a transfer that is given back isn't one that has left
abbrev pub IsReleasedMet : DriverParts → Type 0
IsReleasedMet p = (t : ℕ) (y : Transfer) (x : Endpoint) → driver_row p ≡ rows.ReleaseTransfer t → slice_get p.driver.transfers t ≡ Some y → slice_get p.driver.endpoints y.endpoint ≡ Some x
    → may_meet p.driver y.endpoint x ≡ true

-- it isn't one of a buffer, nor of a qTD
pub record IsInHead (parts : StructureSets) (at : ℕ) : Type 0 where
  pub block : ℕ
  pub head : Qh
  pub here : parts (32 * block) (32 * block) ≡ Some (QueueHead head)
  pub within : at / 32 ≡ block

-- a transfer is given back where the walk has left it behind; the stores that a stalled control endpoint is owed are those of its queue head
abbrev pub DriverHoldsPuts : Type 0
DriverHoldsPuts = (base : Base) (member : ℕ → Bool) (parts : StructureSets) (hand : Hand) (w : Walk) (p : DriverParts) (order : ℕ → ℕ → ℕ) (out : ℕ → List ℕ) (puts : ℕ → List ℕ)
    → HasOwners p.driver → AsynchronousTakesTurns p.driver → DrivesRing base member parts hand (place w p.registers p.memory) p.driver → AreFed p.driver parts
    → ((t : ℕ) → driver_row p ≡ rows.ReleaseTransfer t → ReleaseStands base member parts hand w p order out) → IsReleasedMet p
    → ((e b link : ℕ) → p.driver.command ≡ Some (unfinished.Unlink e b link) → IsAtUnlink p.driver member parts)
    → ((w : Mend) → driver_row p ≡ rows.Mend w → IsInHead parts w.at)
    → ((e : ℕ) → driver_row p ≡ rows.ReleaseEndpoint e → HoldsPuts (after_driver_row (driver_row p) p).driver (after_driver_row (driver_row p) p).memory puts)
    → HoldsPuts p.driver p.memory puts → HoldsPuts (after_driver_row (driver_row p) p).driver (after_driver_row (driver_row p) p).memory puts

-- ---- what is read of them

-- of qTD number i, whatever its token tells to be left
abbrev pub HarvestReadsPuts : Type 0
HarvestReadsPuts = (d : DriverContent) (m : Mem) (puts : ℕ → List ℕ) (t i : ℕ) (y : Transfer) (left : ℕ) → HoldsPuts d m puts → slice_get d.transfers t ≡ Some y → y.sort ≡ sorts.Put
    → y.released ≡ false → i < y.qtds
    → buffer_bytes m (note_at d.notes (piece_at (note_in d.notes) y.first i)) (moved_of (note_at d.notes (piece_at (note_in d.notes) y.first i)).told left)
    ≡ take (moved_of (note_at d.notes (piece_at (note_in d.notes) y.first i)).told left) (piece_of d.notes y.first i (puts t))

abbrev pub ReportIsOfPuts : Type 0
ReportIsOfPuts = (d : DriverContent) (m : Mem) (puts : ℕ → List ℕ) (t : ℕ) (y : Transfer) → HoldsPuts d m puts → slice_get d.transfers t ≡ Some y → y.sort ≡ sorts.Put
    → y.released ≡ false
    → ((i : ℕ) → i < y.qtds → (note_at d.notes (piece_at (note_in d.notes) y.first i)).moved ≤ (note_at d.notes (piece_at (note_in d.notes) y.first i)).told)
    → moved_bytes d.notes m y.first y.qtds ≡ first_moved d.notes y.first y.qtds (puts t)

-- ---- how much was moved

abbrev pub AreMovedFew : DriverContent → Type 0
AreMovedFew d = (b : ℕ) → (note_at d.notes b).moved ≤ (note_at d.notes b).told

abbrev pub NewDriverMovesFew : Type 0
NewDriverMovesFew = (n : ℕ) (room : Reserve) → AreMovedFew (opening n room).driver

abbrev pub CommandMovesFew : Type 0
CommandMovesFew = (d : DriverContent) (m : Mem) (o : Offered) → Opens d m o ⊎ Transfers d m o → AreMovedFew d → AreMovedFew o.driver

abbrev pub DriverMovesFew : Type 0
DriverMovesFew = (p : DriverParts) → OnlyAsynchronous p.driver → AreMovedFew p.driver → AreMovedFew (after_driver_row (driver_row p) p).driver
