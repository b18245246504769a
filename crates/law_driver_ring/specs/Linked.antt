-- The link of the ring's head is stored, so that the walk meets a new endpoint's queue head (EHCI 1.0, 4.8.1).
--     opened_part x q          the two structures of a new endpoint
--     with_member member n     the walk may meet the queue head at n too
--     OpenIsUnmet, LinkOpensDrives   the laws
use Rattle.std.specs.Prelude.{◌≡◌, ◌≢◌, ℕ, ◌*◌, Bool, true, false, ◌||◌, ◌==◌, Some, None}
use Rattle.usb_base.specs.declared.endpoints.EpDesc.{EpDesc}
use Rattle.qh_qtd.specs.declared.queue_head.Qh.{Qh}
use Rattle.async_walk.specs.Walk.{Walk}
use Rattle.word_mem.specs.Memory.{Mem}
use Rattle.async_walk.specs.Rows.{WalkPlace, place}
use Rattle.mem_runs.specs.Book.{slot_of, can_store}
use Rattle.drv_table.specs.declared.rows.DriverRow.{DriverRow}
use Rattle.drv_table.specs.declared.rows.DriverRow.TheVariants as rows
use Rattle.drv_table.specs.DriverContent.{DriverContent}
use Rattle.drv_table.specs.Words.{head_block, to_queue_head, queue_head_link, queue_head, dummy_qtd}
use Rattle.drv_table.specs.Parts.{Parts as DriverParts}
use Rattle.drv_table.specs.Rows.{after_driver_row}
use Rattle.claims_driver.specs.Owners.{EndpointRuns}
use Rattle.claims_driver.specs.Leaving.{HasOwners}
use Rattle.law_structures.specs.lent_structures.Structures.{QueueHead, Element, Structures, StructureSets, with_structure, put}
use Rattle.law_ring.specs.Hand.{Hand}
use Rattle.claims_base.specs.Controller.{Base}
use Rattle.law_ring.specs.Stores.{hand_linked}
use Rattle.law_driver_ring.specs.Driven.{DrivesRing}
use Rattle.law_driver_ring.specs.LendOpened.{IsOpened, opened_parts}

abbrev pub no_part : Structures
no_part a = None

abbrev pub opened_part : EndpointRuns → Qh → Structures
opened_part x q = with_structure (with_structure no_part (32 * x.queue) (QueueHead q)) (32 * x.dummy) (Element dummy_qtd)

abbrev pub with_member : (ℕ → Bool) → ℕ → ℕ → Bool
with_member member n i = i == n || member i

abbrev pub head_at : ℕ
head_at = 32 * head_block

abbrev pub link_row : ℕ → DriverRow
link_row queue = rows.Store head_block head_at (queue_head_link queue)

-- its queue head leads on to that to which the head led
abbrev pub LinkOpensDrives : Type 0
LinkOpensDrives = (base : Base) (member : ℕ → Bool) (parts : StructureSets) (hand : Hand) (w : Walk) (p : DriverParts) (x : EndpointRuns) (e : EpDesc) (link : ℕ) (q : Qh)
    → DrivesRing base member parts hand (place w p.registers p.memory) p.driver → can_store (slot_of p.driver.book.slots head_block) head_at ≡ true
    → member head_at ≡ true → parts head_at head_at ≡ Some (QueueHead q) → q.link ≡ to_queue_head link
    → x.queue ≢ x.dummy → ((b : ℕ) → parts (32 * x.queue) b ≡ opened_part x (queue_head e link x.dummy) b)
    → DrivesRing base (with_member member (32 * x.queue)) (put parts head_at head_at (QueueHead (record q { link = to_queue_head x.queue })))
    (hand_linked head_at (to_queue_head x.queue) hand)
    (place w (after_driver_row (link_row x.queue) p).registers (after_driver_row (link_row x.queue) p).memory) (after_driver_row (link_row x.queue) p).driver

-- before that the walk doesn't meet it, and nothing else of it is told
abbrev pub OpenIsUnmet : Type 0
OpenIsUnmet = (base : Base) (member : ℕ → Bool) (parts : StructureSets) (hand : Hand) (p : WalkPlace) (d : DriverContent) (m : Mem) (e : ℕ) (x : EndpointRuns) (q : Qh)
    → IsOpened d m e x q → HasOwners d → DrivesRing base member parts hand p d
    → (member (32 * x.queue) ≡ false) × ((b : ℕ) → opened_parts parts x q (32 * x.queue) b ≡ opened_part x q b)
