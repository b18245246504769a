-- Laws of a driver over the structures that it has lent (EHCI 1.0, 4.6, 4.8 and 4.10).
use Rattle.std.specs.Prelude.{◌≡◌, ℕ, ◌+◌, ◌*◌, ◌%◌, ◌<◌, ◌≤◌, Bool, true, false, List, slice_set, Some}
use Rattle.std.specs.List.{AllByRecursion}
use Rattle.word_mem.specs.Memory.{Mem, IsShaped}
use Rattle.link_words.specs.declared.fields.LinkBits.{LinkBits}
use Rattle.link_words.specs.Layout.{word_of}
use Rattle.link_words.specs.Fields.{link_rows}
use Rattle.op_registers.specs.RegisterFile.{RegisterFile}
use Rattle.qh_qtd.specs.declared.qtd.Qtd.{Qtd}
use Rattle.qh_qtd.specs.declared.queue_head.Qh.{Qh}
use Rattle.qh_qtd.specs.Qtd.{qtd_words, IsQtdInRange}
use Rattle.qh_qtd.specs.QueueHead.{IsQhInRange}
use Rattle.async_walk.specs.Walk.{Walk, new_walk}
use Rattle.async_walk.specs.Rows.{place}
use Rattle.mem_runs.specs.Book.{Holding, holding, slot_of, can_store, store, lend_taken, Stands}
use Rattle.drv_table.specs.declared.content.Reserve.{Reserve}
use Rattle.drv_table.specs.declared.content.Stage.{Stage}
use Rattle.drv_table.specs.declared.rows.DriverRow.{DriverRow}
use Rattle.drv_table.specs.DriverContent.{DriverContent}
use Rattle.drv_table.specs.Parts.{Parts as DriverParts}
use Rattle.drv_table.specs.Commands.{advance}
use Rattle.drv_table.specs.Rows.{after_driver_row}
use Rattle.drv_table.specs.Opening.{opening, opening_registers, opening_memory}
use Rattle.drv_table.specs.Accepting.{Offered}
use Rattle.law_driver.specs.run_owners.Accepts.{Opens, Transfers}
use Rattle.claims_driver.specs.Leaving.{HasOwners}
use Rattle.law_structures.specs.lent_structures.Structures.{QueueHead, Element, StructureSets, put}
use Rattle.law_structures.specs.lent_structures.Changes.{Leaves}
use Rattle.law_structures.specs.lent_structures.Sound.{LeadsAmong, IsSoundElement, IsMember}
use Rattle.law_ring.specs.Hand.{Hand, Empty}
use Rattle.claims_base.specs.Controller.{Base, opening_base}
use Rattle.law_ring.specs.Stores.{IsUnnamed, hand_linked, IsWider}
use Rattle.law_driver_ring.specs.Driven.{IsOperating, DrivesRing, is_quiet}
use Rattle.law_driver_ring.specs.PartOpened.{opening_parts, is_head}

-- ---- a driver that was just built

abbrev pub OpeningDrives : Type 0
OpeningDrives = (n : ℕ) (room : Reserve) → 2048 ≤ n → n ≤ 262144 → n % 1024 ≡ 0
    → DrivesRing opening_base is_head opening_parts Empty (place new_walk opening_registers (opening_memory n)) (opening n room).driver

-- ---- rows

-- registers are read and written, tokens are read
abbrev pub QuietRowDrives : Type 0
QuietRowDrives = (base : Base) (member : ℕ → Bool) (parts : StructureSets) (hand : Hand) (w : Walk) (p : DriverParts) (row : DriverRow) → IsOperating base
    → DrivesRing base member parts hand (place w p.registers p.memory) p.driver → is_quiet row ≡ true
    → DrivesRing base member parts hand (place w (after_driver_row row p).registers (after_driver_row row p).memory) (after_driver_row row p).driver

-- a word of a qTD that isn't active is stored
abbrev pub ElementStoreDrives : Type 0
ElementStoreDrives = (base : Base) (member : ℕ → Bool) (parts : StructureSets) (hand : Hand) (w : Walk) (r : RegisterFile) (m : Mem) (d : DriverContent) (b n a : ℕ) (t new : Qtd) (k v : ℕ)
    → DrivesRing base member parts hand (place w r m) d → can_store (slot_of d.book.slots b) (a + 4 * k) ≡ true
    → parts n a ≡ Some (Element t) → t.token.active ≡ false → k < 8 → qtd_words new ≡ slice_set (qtd_words t) k v → IsQtdInRange new
    → (member n ≡ true → IsSoundElement (parts n) new × IsUnnamed (parts n) a new)
    → DrivesRing base member (put parts n a (Element new)) hand (place w r (store d.book m b (a + 4 * k) v)) (advance d)

-- the link of a queue head is stored
abbrev pub LinkStoreDrives : Type 0
LinkStoreDrives = (base : Base) (member wider : ℕ → Bool) (parts : StructureSets) (hand : Hand) (w : Walk) (r : RegisterFile) (m : Mem) (d : DriverContent) (b n : ℕ) (q : Qh) (l : LinkBits)
    → DrivesRing base member parts hand (place w r m) d → can_store (slot_of d.book.slots b) n ≡ true
    → IsWider member wider → parts n n ≡ Some (QueueHead q) → IsQhInRange (record q { link = l }) → (wider n ≡ true → LeadsAmong wider l)
    → ((i : ℕ) → wider i ≡ true → member i ≡ false → IsMember wider i (parts i))
    → DrivesRing base wider (put parts n n (QueueHead (record q { link = l }))) (hand_linked n l hand) (place w r (store d.book m b n (word_of link_rows l))) (advance d)

-- ---- what was Lent stays so, with its words

-- where what was taken is lent
abbrev pub LendLeaves : Type 0
LendLeaves = (h : Holding) → Stands h → IsShaped h.memory → Leaves h.memory (lend_taken h).memory

-- where an endpoint of the ring is opened
abbrev pub OpenLeaves : Type 0
OpenLeaves = (d : DriverContent) (m : Mem) (o : Offered) → Opens d m o → Stands (holding d.book m) → IsShaped m → Leaves m o.memory

-- where a transfer is accepted of which each qTD is an IN
abbrev pub AreIn : List Stage → Type 0
AreIn ss = AllByRecursion (λ s. s.pid ≡ 1) ss

abbrev pub ReceivingLeaves : Type 0
ReceivingLeaves = (d : DriverContent) (m : Mem) (o : Offered) (t : Transfers d m o) → AreIn t.asked.stages → HasOwners d → Stands (holding d.book m) → IsShaped m → Leaves m o.memory
