-- Each step of a queue leaves what is told of the queues, of every kind of endpoint (EHCI 1.0, 3.5, 3.6, 4.6, 4.8 and 4.10): the goals, one
-- a step.
--     StillTells ..            no queue has a step, and the report is the same
--     FrameTells               .. or it was an event of frames
--     BellTells, StatusTells   the doorbell is rung, and its answer read
--     HarvestTells .. NarrowTells     each other step
use Rattle.std.specs.Prelude.{ℕ, ◌*◌, Bool, List}
use Rattle.drv_table.specs.declared.content.Endpoint.{Endpoint}
use Rattle.drv_table.specs.declared.content.Transfer.{Transfer}
use Rattle.drv_table.specs.declared.rows.DriverRow.TheVariants as rows
use Rattle.drv_table.specs.declared.rows.Found.{Found}
use Rattle.drv_table.specs.DriverContent.{DriverContent}
use Rattle.drv_table.specs.Rows.{driver_row}
use Rattle.drv_table.specs.Words.{queue_head_link}
use Rattle.law_driver.specs.run_owners.Due.{IsHarvestDue}
use Rattle.law_driver.specs.queued_drivers.Queued.{queued}
use Rattle.law_driver.specs.queued_drivers.Rows.{QueuesAlike, TellsAlike, IsOfFrames}
use Rattle.law_driver_ring.specs.Released.{goes_of}
use Rattle.law_ring.specs.Fewer.{without_those}
use Rattle.law_controller.specs.controlled_streams.Returned.{staying_of}
use Rattle.law_driver_ring.specs.fed_queues.Fed.{IsPublished}
use Rattle.law_queues.specs.fed_lends.ToLend.{IsToBeLent}
use Rattle.law_queues.specs.lent_fronts.Stands.{parts_with}
use Rattle.law_queues.specs.mended_heads.Mended.{IsAtMend, parts_then as parts_mended, hand_then as hand_mended}
use Rattle.law_queues.specs.mended_heads.Owed.{store_due}
use Rattle.law_queues.specs.open_laws.Queues.{IsOpenToLend, IsOpenThere, parts_opened, open_lent, open_finished}
use Rattle.law_queues.specs.publish_laws.Stores.{parts_then as parts_stored, out_then as out_stored, next_of}
use Rattle.law_queues.specs.released_queues.Released.{IsReturning}
use Rattle.law_world.specs.steps.unlinked_streams.Unlinks.{IsAtUnlink, parts_unlinked, hand_unlinked}
use Rattle.law_world.specs.memory.Mixed.{Standing, IsMixedAt}
use Rattle.law_world.specs.memory.Steps.{told_parts, IsToldRow, AreStill, OutAfter, HasBehind, IsNextStore, HasOpened, IsGivenBack, IsWithout}
use Rattle.bus_world.specs.World.{World, driver_parts, driver_next}
use Rattle.law_reports.specs.lines.Lined.{Lines, IsTelling, AreIsoGoing}
use Rattle.law_reports.specs.lines.TellingLaws.{IsToldMore, IsNewlyTold}

abbrev pub StillTells : Type 0
StillTells = (s t : Standing) (m : Lines) (w new : World) → AreStill s t → QueuesAlike (queued w.driver) (queued new.driver)
    → TellsAlike (queued w.driver) (queued new.driver) → IsTelling s m w → IsTelling t m new

-- .. and one of the frame list, of isochronous descriptors, or of an isochronous endpoint
abbrev pub FrameTells : Type 0
FrameTells = (s t : Standing) (m : Lines) (w : World) → IsMixedAt s w → IsTelling s m w → AreIsoGoing w.driver → AreStill s t
    → QueuesAlike (queued w.driver) (queued (driver_next w).driver) → IsOfFrames (driver_parts w) (driver_row (driver_parts w))
    → IsTelling t m (driver_next w)

abbrev pub BellTells : Type 0
BellTells = (s : Standing) (m : Lines) (w new : World) → IsMixedAt s w → IsTelling s m w → (t : Standing) → AreStill s t
    → IsToldRow w new rows.RingBell → IsTelling t m new

abbrev pub StatusTells : Type 0
StatusTells = (s : Standing) (m : Lines) (w new : World) → IsMixedAt s w → IsTelling s m w → (t : Standing) (heard : Bool) → AreStill s t
    → IsToldRow w new (rows.ReadStatus heard) → IsTelling t m new

abbrev pub NarrowTells : Type 0
NarrowTells = (s : Standing) (m : Lines) (w new : World) → IsMixedAt s w → IsTelling s m w → (member near streams : ℕ → Bool)
    → IsToldRow w new rows.ClearAdvance → IsTelling (record s { member = member; near = near; streams = streams }) m new

abbrev pub UnlinkTells : Type 0
UnlinkTells = (s : Standing) (m : Lines) (w new : World) → IsMixedAt s w → IsTelling s m w
    → (at : IsAtUnlink (queued w.driver) s.near s.parts)
    → IsToldRow w new (rows.Store at.before (32 * at.before) (queue_head_link at.after))
    → IsTelling (record s { parts = parts_unlinked s.parts at.before at.queue at.after; hand = hand_unlinked s.hand at.before at.after }) m
    new

-- bytes of one more qTD are reported, or held back
pub record HarvestTold (s : Standing) (m : Lines) (new : World) (n : ℕ) (later : ℕ → List ℕ) : Type 0 where
  pub lines : Lines
  pub more : IsToldMore n m lines
  pub telling : IsTelling (record s { out = later }) lines new

abbrev pub HarvestTells : Type 0
HarvestTells = (s : Standing) (m : Lines) (w new : World) (e t : ℕ) (found : Found) (later : ℕ → List ℕ) → IsMixedAt s w → IsTelling s m w
    → (due : IsHarvestDue (told_parts w) e t found) → IsToldRow w new (rows.Harvest e t found)
    → OutAfter (told_parts w) e t found due s.out later
    → HarvestTold s m new (32 * due.endpoint.queue) later

abbrev pub ReturnTells : Type 0
ReturnTells = (s : Standing) (m : Lines) (w new : World) → IsMixedAt s w → IsTelling s m w → (t : ℕ) (y : Transfer) (x : Endpoint)
    → IsReturning (queued w.driver) t y x → IsToldRow w new (rows.ReleaseTransfer t)
    → IsTelling (record s {
      parts = without_those s.parts (32 * x.queue) (goes_of w.driver y);
      out = staying_of (32 * x.queue) (goes_of w.driver y) s.out;
    }) m new

abbrev pub LendTells : Type 0
LendTells = (s : Standing) (m : Lines) (w new : World) → IsMixedAt s w → IsTelling s m w → (b : ℕ) (words : List ℕ)
    (get : IsToBeLent (queued w.driver) w.memory b words) (order : ℕ → ℕ → ℕ) (out : ℕ → List ℕ)
    → IsToldRow w new rows.Lend → HasBehind s w b words get order out
    → IsMixedAt (record s { parts = parts_with get s.parts; order = order; out = out }) new
    → IsTelling (record s { parts = parts_with get s.parts; order = order; out = out }) m new

abbrev pub StoreTells : Type 0
StoreTells = (s : Standing) (m : Lines) (w new : World) → IsMixedAt s w → IsTelling s m w → (b : ℕ) (words : List ℕ)
    (g : IsPublished (queued w.driver) s.parts b words) → IsNextStore s w new b words g
    → IsMixedAt (record s { parts = parts_stored g; out = out_stored s.out (next_of (told_parts w)).driver g }) new
    → IsTelling (record s { parts = parts_stored g; out = out_stored s.out (next_of (told_parts w)).driver g }) m new

abbrev pub MendTells : Type 0
MendTells = (s : Standing) (m : Lines) (w new : World) → IsMixedAt s w → IsTelling s m w → (at : IsAtMend (driver_parts w) s.parts s.out)
    → IsToldRow w new (rows.Mend (store_due at.stalled))
    → IsTelling (record s { parts = parts_mended at; hand = hand_mended at s.hand }) m new

abbrev pub BeginTells : Type 0
BeginTells = (s : Standing) (m : Lines) (w new : World) → IsMixedAt s w → IsTelling s m w → (at : IsOpenToLend (queued w.driver) w.memory)
    → QueuesAlike (open_lent (queued w.driver) w.memory) (queued new.driver) → TellsAlike (queued w.driver) (queued new.driver)
    → IsTelling (record s { parts = parts_opened at s.parts }) m new

-- nothing was moved of the new queue
pub record OpenTold (m : Lines) (new : World) (n : ℕ) (t : Standing) : Type 0 where
  pub lines : Lines
  pub newly : IsNewlyTold n m lines
  pub telling : IsTelling t lines new

abbrev pub OpenTells : Type 0
OpenTells = (s t : Standing) (m : Lines) (w new : World) → IsMixedAt s w → IsTelling s m w → (at : IsOpenThere (queued w.driver) s.parts)
    → QueuesAlike (open_finished (queued w.driver)) (queued new.driver) → TellsAlike (queued w.driver) (queued new.driver)
    → HasOpened s t at.endpoint → IsMixedAt t new → OpenTold m new (32 * at.endpoint.queue) t

-- the endpoint's last line tells all that was moved of its queue
abbrev pub ReleaseTells : Type 0
ReleaseTells = (s : Standing) (m : Lines) (w : World) → IsMixedAt s w → IsTelling s m w
    → (e : ℕ) (x : Endpoint) (d : DriverContent) (t : Standing)
    → IsGivenBack w (driver_next w) e x d → IsWithout s t (32 * x.queue) → IsMixedAt t (driver_next w) → IsTelling t m (driver_next w)
