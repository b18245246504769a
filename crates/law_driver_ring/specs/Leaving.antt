-- A queue head leaves the ring (EHCI 1.0, 4.8.2).
--     unlink_row b after    the row that links the queue head in block b to the one in block `after`
--     UnlinkDrives          the law: the one between them, which led to the latter, isn't led to any more, though the walk may still meet it
--     AnswerDrives          the law: at an answer of the doorbell the walk meets only those that are led to
use Rattle.std.specs.Prelude.{◌≡◌, ℕ, ◌*◌, Bool, true, Some}
use Rattle.qh_qtd.specs.declared.queue_head.Qh.{Qh}
use Rattle.async_walk.specs.Walk.{Walk}
use Rattle.async_walk.specs.Rows.{WalkPlace, place}
use Rattle.mem_runs.specs.Book.{slot_of, can_store}
use Rattle.drv_table.specs.declared.rows.DriverRow.{DriverRow}
use Rattle.drv_table.specs.declared.rows.DriverRow.TheVariants as rows
use Rattle.drv_table.specs.DriverContent.{DriverContent}
use Rattle.drv_table.specs.Words.{to_queue_head, queue_head_link}
use Rattle.drv_table.specs.Parts.{Parts as DriverParts}
use Rattle.drv_table.specs.Rows.{after_driver_row}
use Rattle.law_structures.specs.lent_structures.Structures.{QueueHead, StructureSets, put}
use Rattle.law_ring.specs.Hand.{Hand}
use Rattle.claims_base.specs.Controller.{Base}
use Rattle.law_ring.specs.Stores.{hand_linked, IsWider, IsClosed}
use Rattle.law_ring.specs.Doorbell.{IsAtHead, HasHeads}
use Rattle.law_driver_ring.specs.Driven.{DrivesRing}

abbrev pub unlink_row : ℕ → ℕ → DriverRow
unlink_row b after = rows.Store b (32 * b) (queue_head_link after)

abbrev pub UnlinkDrives : Type 0
UnlinkDrives = (base : Base) (member : ℕ → Bool) (parts : StructureSets) (hand : Hand) (w : Walk) (p : DriverParts) (b queue after : ℕ) (q z : Qh)
    → DrivesRing base member parts hand (place w p.registers p.memory) p.driver → can_store (slot_of p.driver.book.slots b) (32 * b) ≡ true
    → member (32 * b) ≡ true → parts (32 * b) (32 * b) ≡ Some (QueueHead q) → q.link ≡ to_queue_head queue
    → parts (32 * queue) (32 * queue) ≡ Some (QueueHead z) → z.link ≡ to_queue_head after
    → DrivesRing base member (put parts (32 * b) (32 * b) (QueueHead (record q { link = to_queue_head after }))) (hand_linked (32 * b) (to_queue_head after) hand)
    (place w (after_driver_row (unlink_row b after) p).registers (after_driver_row (unlink_row b after) p).memory) (after_driver_row (unlink_row b after) p).driver

abbrev pub AnswerDrives : Type 0
AnswerDrives = (base : Base) (member narrow : ℕ → Bool) (parts : StructureSets) (hand : Hand) (p : WalkPlace) (d : DriverContent) → DrivesRing base member parts hand p d
    → IsAtHead p → IsWider narrow member → IsClosed narrow parts → narrow base.async_list_address ≡ true → HasHeads member narrow parts
    → DrivesRing base narrow parts hand p d
