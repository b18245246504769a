-- A driver gives back the blocks of an endpoint that has left the ring, while the controller walks the ring (EHCI 1.0, 4.8.2 and 4.10): those of its
-- queue head, of the inactive qTD at the end of its queue, and of the qTDs and buffers of its transfers that weren't given back.
--     held_blocks note e ts    the blocks in which the runs of these transfers begin that are endpoint e's and weren't given back
--     endpoint_blocks d e x    .. and before them its queue head and its inactive qTD
--     without_queue parts n    nothing of the queue head at n is told any more
--     IsToLeave d e x          endpoint e is x, which has a queue, and is the first that is to be given back; no transfer is
--     EndpointReleaseDrives    the law: where the walk doesn't meet its queue head any more, the ring goes on without it
--     HasLeaver d e            there is such an endpoint of this number, which isn't in the ring
--     DueIsToLeave             the endpoint whose release is due is one of these
--     QueuesDiffer             no other endpoint that wasn't given back has its queue head there
use Rattle.std.specs.Prelude.{◌≡◌, ◌≢◌, ℕ, ◌*◌, Bool, true, false, List, [], ◌∷◌, ◌++◌, slice_get, Some, None, if◌then◌else◌}
use Rattle.async_walk.specs.Walk.{Walk}
use Rattle.async_walk.specs.Rows.{place}
use Rattle.mem_runs.specs.Book.{holding, Stands}
use Rattle.drv_table.specs.declared.content.Endpoint.{Endpoint}
use Rattle.drv_table.specs.declared.content.Transfer.{Transfer}
use Rattle.drv_table.specs.declared.rows.DriverRow.{DriverRow}
use Rattle.drv_table.specs.declared.rows.DriverRow.TheVariants as rows
use Rattle.drv_table.specs.DriverContent.{DriverContent}
use Rattle.drv_table.specs.Parts.{Parts as DriverParts}
use Rattle.drv_table.specs.Kinds.{is_iso}
use Rattle.drv_table.specs.Releases.{is_held_of}
use Rattle.drv_table.specs.Rows.{after_driver_row}
use Rattle.claims_driver.specs.Owners.{EndpointRuns, NoteRuns, note_in, views_of, IsQueueIn}
use Rattle.claims_driver.specs.Leaving.{HasOwners}
use Rattle.law_driver.specs.run_owners.Due.{IsEndpointDue}
use Rattle.law_structures.specs.lent_structures.Structures.{StructureSets}
use Rattle.law_ring.specs.Hand.{Hand}
use Rattle.claims_base.specs.Controller.{Base}
use Rattle.law_ring.specs.Fewer.{without_those}
use Rattle.law_driver_ring.specs.Driven.{DrivesRing}
use Rattle.law_driver_ring.specs.Extents.{AreInRuns}
use Rattle.law_driver_ring.specs.Released.{blocks_of}

abbrev pub held_blocks : (ℕ → NoteRuns) → ℕ → List Transfer → List ℕ
held_blocks note e [] = []
held_blocks note e (t ∷ ts) = (if is_held_of e t then blocks_of note t.first t.qtds else []) ++ held_blocks note e ts

abbrev pub endpoint_blocks : DriverContent → ℕ → Endpoint → List ℕ
endpoint_blocks d e x = x.queue ∷ x.dummy ∷ held_blocks (note_in d.notes) e d.transfers

abbrev pub without_queue : StructureSets → ℕ → StructureSets
without_queue parts n = without_those parts n (λ a. true)

pub record IsToLeave (d : DriverContent) (e : ℕ) (x : Endpoint) : Type 0 where
  pub here : slice_get d.endpoints e ≡ Some x
  pub queued : is_iso x.desc.kind ≡ false
  pub held : x.gone ≡ false
  pub first : slice_get d.cleared 0 ≡ Some e
  pub none_before : slice_get d.harvested 0 ≡ None

abbrev pub endpoint_row : ℕ → DriverRow
endpoint_row e = rows.ReleaseEndpoint e

abbrev pub EndpointReleaseDrives : Type 0
EndpointReleaseDrives = (base : Base) (member : ℕ → Bool) (parts : StructureSets) (hand : Hand) (w : Walk) (p : DriverParts) (e : ℕ) (x : Endpoint)
    → DrivesRing base member parts hand (place w p.registers p.memory) p.driver → HasOwners p.driver → Stands (holding p.driver.book p.memory)
    → AreInRuns (views_of p.driver) parts → IsToLeave p.driver e x → member (32 * x.queue) ≡ false
    → DrivesRing base member (without_queue parts (32 * x.queue)) hand
    (place w (after_driver_row (endpoint_row e) p).registers (after_driver_row (endpoint_row e) p).memory) (after_driver_row (endpoint_row e) p).driver
    × AreInRuns (views_of (after_driver_row (endpoint_row e) p).driver) (without_queue parts (32 * x.queue))

pub record HasLeaver (d : DriverContent) (e : ℕ) : Type 0 where
  pub endpoint : Endpoint
  pub leaves : IsToLeave d e endpoint
  pub unlinked : endpoint.linked ≡ false

abbrev pub DueIsToLeave : Type 0
DueIsToLeave = (p : DriverParts) (e : ℕ) → HasOwners p.driver → IsEndpointDue p e → HasLeaver p.driver e

abbrev pub QueuesDiffer : Type 0
QueuesDiffer = (d : DriverContent) (e u : ℕ) (x z : EndpointRuns) → HasOwners d → IsQueueIn (views_of d) e x → IsQueueIn (views_of d) u z → u ≢ e
    → 32 * z.queue ≢ 32 * x.queue
