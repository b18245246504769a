-- A driver gives back the blocks of a transfer that was harvested, while the controller walks the ring (EHCI 1.0, 4.10).
--     blocks_of note b n       the blocks in which the runs of n qTDs from block b on begin, each qTD's before those of its buffer
--     names_one bs a           a is the name of a structure that begins in one of these blocks
--     goes_of d y              the names of the structures of transfer y
--     ReleaseDrives            the law: where nothing that stays leads to them or needs them, the ring goes on without them
use Rattle.std.specs.Prelude.{◌≡◌, ℕ, zero, suc, ◌*◌, ◌==◌, ◌||◌, Bool, true, false, List, [], ◌∷◌, ◌++◌, slice_get, Some}
use Rattle.qh_qtd.specs.declared.queue_head.Qh.{Qh}
use Rattle.async_walk.specs.Walk.{Walk}
use Rattle.async_walk.specs.Rows.{place}
use Rattle.mem_runs.specs.Book.{holding, Stands}
use Rattle.drv_table.specs.declared.content.Transfer.{Transfer}
use Rattle.drv_table.specs.declared.rows.DriverRow.{DriverRow}
use Rattle.drv_table.specs.declared.rows.DriverRow.TheVariants as rows
use Rattle.drv_table.specs.DriverContent.{DriverContent}
use Rattle.drv_table.specs.Parts.{Parts as DriverParts}
use Rattle.drv_table.specs.Rows.{after_driver_row}
use Rattle.claims_driver.specs.Owners.{EndpointRuns, NoteRuns, is_descriptor, note_in, views_of, IsQueueIn}
use Rattle.claims_driver.specs.Leaving.{HasOwners}
use Rattle.law_structures.specs.lent_structures.Structures.{QueueHead, StructureSets}
use Rattle.law_ring.specs.Hand.{Hand}
use Rattle.claims_base.specs.Controller.{Base}
use Rattle.law_ring.specs.Fewer.{without_those, MayGo}
use Rattle.law_driver_ring.specs.Driven.{DrivesRing}
use Rattle.law_driver_ring.specs.Extents.{AreInRuns}

abbrev pub blocks_of : (ℕ → NoteRuns) → ℕ → ℕ → List ℕ
blocks_of note b zero = []
blocks_of note b (suc n) = b ∷ ((note b).buffer ++ blocks_of note (note b).next n)

abbrev pub names_one : List ℕ → ℕ → Bool
names_one [] a = false
names_one (c ∷ cs) a = a == 32 * c || names_one cs a

abbrev pub goes_of : DriverContent → Transfer → ℕ → Bool
goes_of d y = names_one (blocks_of (note_in d.notes) y.first y.qtds)

-- transfer t is y, of an endpoint with a queue, and wasn't given back
pub record IsToGo (d : DriverContent) (t : ℕ) (y : Transfer) (x : EndpointRuns) : Type 0 where
  pub here : slice_get d.transfers t ≡ Some y
  pub held : y.released ≡ false
  pub qtds : is_descriptor y.sort ≡ false
  pub queue : IsQueueIn (views_of d) y.endpoint x

abbrev pub release_row : ℕ → DriverRow
release_row t = rows.ReleaseTransfer t

abbrev pub ReleaseDrives : Type 0
ReleaseDrives = (base : Base) (member : ℕ → Bool) (parts : StructureSets) (hand : Hand) (w : Walk) (p : DriverParts) (t : ℕ) (y : Transfer) (x : EndpointRuns)
    → DrivesRing base member parts hand (place w p.registers p.memory) p.driver → HasOwners p.driver → Stands (holding p.driver.book p.memory)
    → AreInRuns (views_of p.driver) parts → IsToGo p.driver t y x
    → (member (32 * x.queue) ≡ true → (q : Qh) → parts (32 * x.queue) (32 * x.queue) ≡ Some (QueueHead q) → MayGo (goes_of p.driver y) (32 * x.queue) (parts (32 * x.queue)) q)
    → DrivesRing base member (without_those parts (32 * x.queue) (goes_of p.driver y)) hand
    (place w (after_driver_row (release_row t) p).registers (after_driver_row (release_row t) p).memory) (after_driver_row (release_row t) p).driver
    × AreInRuns (views_of (after_driver_row (release_row t) p).driver) (without_those parts (32 * x.queue) (goes_of p.driver y))
