-- What the walk of the frames comes to in a microframe, beside the world as it began (EHCI 1.0, 3.3, 3.4, 4.4, 4.6 and 4.7). A descriptor
-- that is linked in a microframe stands first in its frame, so that only the element of the frame list leads to it, which is read as the
-- microframe begins: the walk doesn't come to it in this microframe.
--     IsAhead w n              the walk of the frames goes on to what stands at n
--     GoesOnToOld b w          where something is active of a descriptor to which the walk goes on, so it was in the world b, of the same endpoint and frame
--     StandsAlone d n f        the descriptor at n is a member to which a word may lead, and stands in frame f alone
--     ActiveStands             so does each that stands and of which something is active
--     WaitsLeft d left n e     a descriptor that waits at endpoint e doesn't stand at n any more, and was unlinked in this microframe, since the endpoint is cancelled
--     ActiveIsMet              each that may be met and of which something is active stands alone, or waits so
--     ActiveIsFramed           each of which something is active has its frame
--     MetIsLent                each that may be met is lent
--     BeganIsMixed             nothing was out of place as the microframe began, and of an endpoint and a frame at most one descriptor was active
--     ScriptsGoOnToOld         at each moment of a script that fits the walk goes on to such alone as were active when the microframe began, or to what has nothing active
use Rattle.std.specs.Prelude.{◌≡◌, ◌⊎◌, ℕ, ◌*◌, ◌<◌, true, false, length, slice_get, Option, Some, None}
use Rattle.script_types.specs.declared.scripts.Script.{Script}
use Rattle.script_fits.specs.Fits.{IsFit}
use Rattle.law_scripts.specs.byte_answers.Bytes.{IsByteScript}
use Rattle.drv_chains.specs.declared.members.Member.{Member}
use Rattle.drv_chains.specs.Chains.{stands_in}
use Rattle.drv_members.specs.Members.{is_linked}
use Rattle.hc_core.specs.declared.controller.MicroframePart.TheVariants.{Periodic}
use Rattle.mem_runs.specs.Book.{slot_of}
use Rattle.drv_periodic_table.specs.declared.content.Removed.TheVariants as removed
use Rattle.drv_table.specs.declared.content.Transfer.{Transfer}
use Rattle.drv_table.specs.DriverContent.{DriverContent}
use Rattle.claims_driver.specs.Owners.{is_descriptor}
use Rattle.claims_driver.specs.LentRuns.{IsLent}
use Rattle.claims_driver.specs.DueMembers.{framed_to}
use Rattle.law_frames.specs.Met.{Kind}
use Rattle.law_descriptors.specs.Meeting.{standing, met}
use Rattle.claims_driver.specs.Unlinked.{led}
use Rattle.law_descriptors.specs.Removed.{IsRemovedAt}
use Rattle.law_descriptors.specs.Recent.{AreRecent}
use Rattle.bus_world.specs.World.{World}
use Rattle.bus_world.specs.Budgets.{moment}
use Rattle.law_world.specs.memory.Mixed.{Standing, IsMixedAt}
use Rattle.law_world.specs.memory.PlacedLaws.{FitsMixed}
use Rattle.law_microframes.specs.visits.Ranks.{name_of}
use Rattle.claims_world.specs.Visits.{begins}
pub use Rattle.claims_world.specs.Visits.{began_at, began_by, began}
use Rattle.law_microframes.specs.visits.Visited.{link_ahead}
use Rattle.law_microframes.specs.visits.OneDescriptor.{HasOneActive, IsActiveDescriptor, IsMixedOnce}

-- ---- to what the walk goes on

pub record IsAhead (w : World) (n : ℕ) : Type 0 where
  pub periodic : w.control.part ≡ Periodic
  pub next : name_of (link_ahead w.control.frame.hand w.control.frame.cursor) ≡ Some n

abbrev pub GoesOnToOld : World → World → Type 0
GoesOnToOld b w = (e f n : ℕ) → IsAhead w n → IsActiveDescriptor w.driver w.memory e f n → IsActiveDescriptor b.driver b.memory e f n

-- ---- what is active stands

pub record StandsAlone (d : DriverContent) (n f : ℕ) : Type 0 where
  pub member : Member
  pub linked : is_linked (led d) member ≡ true
  pub at : begins member ≡ n
  pub alone : (g : ℕ) → stands_in g member ≡ true → g ≡ f

abbrev pub ActiveStands : Type 0
ActiveStands = (s : Standing) (w : World) (e f n : ℕ) (kind : Kind) → IsMixedAt s w → standing w.driver n ≡ Some kind → IsActiveDescriptor w.driver w.memory e f n → StandsAlone w.driver n f

pub record WaitsLeft (d : DriverContent) (left : ℕ → Option Kind) (n e : ℕ) : Type 0 where
  pub off : standing d n ≡ None
  pub kind : Kind
  pub is : left n ≡ Some kind
  pub what : IsRemovedAt d.endpoints d.transfers n (removed.Endpoint e)

abbrev pub ActiveIsMet : Type 0
ActiveIsMet = (s : Standing) (w : World) (left : ℕ → Option Kind) (e f n : ℕ) (kind : Kind) → IsMixedAt s w → HasOneActive w.driver w.memory → AreRecent w.driver w.registers.frame_index left
    → met w.driver left n ≡ Some kind → IsActiveDescriptor w.driver w.memory e f n → StandsAlone w.driver n f ⊎ WaitsLeft w.driver left n e

abbrev pub ActiveIsFramed : Type 0
ActiveIsFramed = (s : Standing) (w : World) (e f n : ℕ) → IsMixedAt s w → (a : IsActiveDescriptor w.driver w.memory e f n)
    → a.number < framed_to w.driver.command w.driver.made (length w.driver.transfers)

abbrev pub MetIsLent : Type 0
MetIsLent = (s : Standing) (w : World) (n t : ℕ) (y : Transfer) (kind : Kind) → IsMixedAt s w → met w.driver s.recent n ≡ Some kind → slice_get w.driver.transfers t ≡ Some y
    → is_descriptor y.sort ≡ true → y.released ≡ false → n ≡ 32 * y.first → IsLent (slot_of w.driver.book.slots y.first)

-- ---- a run

abbrev pub BeganIsMixed : Type 0
BeganIsMixed = (s : Script) → IsFit s → IsByteScript s → FitsMixed s → (k : ℕ) → IsMixedOnce (began s k)

abbrev pub ScriptsGoOnToOld : Type 0
ScriptsGoOnToOld = (s : Script) → IsFit s → IsByteScript s → FitsMixed s → (k : ℕ) → GoesOnToOld (began s k) (moment s k).world
