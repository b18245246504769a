-- The structures of isochronous descriptors, once they are lent (EHCI 1.0, 3.3, 3.4, 4.7 and 4.12.3).
--     descriptor_with x note l     the descriptor that is noted so, with the link word l
--     pages_in, start_in           the pages of its buffer, and the place of the first byte in them
--     descriptor_part ..           the structures of the descriptor in block b: itself, and its buffer where it has bytes
--     lent_descs ..                those of each of these transfers, and of any other owner what there was
--     after_lend p                 what stands after they were lent
--     LendDescribes, LendLeaves    the laws
use Rattle.std.specs.Prelude.{ℕ, ◌*◌, ◌/◌, ◌%◌, ◌==◌, List, [], ◌∷◌, take, drop, slice_index, Some, None, if◌then◌else◌}
use Rattle.usb_base.specs.declared.endpoints.EpDesc.{EpDesc}
use Rattle.word_mem.specs.Memory.{Mem, IsShaped}
use Rattle.mem_bytes.specs.Bytes.{bytes_at}
use Rattle.link_words.specs.Fields.{link_at}
use Rattle.mem_runs.specs.Book.{holding, Stands}
use Rattle.drv_periodic_table.specs.declared.content.DescriptorNote.{DescriptorNote}
use Rattle.drv_periodic_table.specs.Periodic.{note_at}
use Rattle.drv_periodic_table.specs.Descriptors.{new_itd, new_sitd}
use Rattle.drv_table.specs.declared.content.Transfer.{Transfer}
use Rattle.drv_table.specs.declared.rows.DriverRow.{DriverRow}
use Rattle.drv_table.specs.declared.rows.DriverRow.TheVariants as rows
use Rattle.drv_table.specs.Parts.{Parts}
use Rattle.drv_table.specs.Rows.{after_driver_row}
use Rattle.claims_driver.specs.Owners.{views_of}
use Rattle.claims_driver.specs.Leaving.{HasOwners}
use Rattle.law_structures.specs.lent_structures.Structures.{Structure, Buffer, Isochronous, SplitIsochronous, Structures, StructureSets}
use Rattle.law_structures.specs.lent_structures.Changes.{Leaves}
use Rattle.law_descriptors.specs.Described.{AreDescribed, AreHeld}
use Rattle.law_descriptors.specs.Written.{bytes_in, DescriptorsAwaitLend, link_before, AreLinks}

abbrev pub descriptor_with : EpDesc → DescriptorNote → ℕ → Structure
descriptor_with x note l =
    if note.split then SplitIsochronous (record (new_sitd x note.smask note.cmask note.slot note.buffer) { link = link_at l })
    else Isochronous (record (new_itd x note.smask note.slot note.buffer) { link = link_at l })

-- ---- its buffer

abbrev pub split_pages : List ℕ → List ℕ
split_pages runs = slice_index runs 0 / 128 ∷ 0 ∷ []

abbrev pub whole_pages : List ℕ → List ℕ
whole_pages runs =
    slice_index runs 0 / 128 ∷ slice_index runs 1 / 128 ∷ slice_index runs 2 / 128 ∷ slice_index runs 3 / 128 ∷ slice_index runs 4 / 128 ∷ slice_index runs 5 / 128 ∷ 0 ∷ []

abbrev pub pages_in : DescriptorNote → List ℕ
pages_in note = if note.split then split_pages note.buffer else whole_pages note.buffer

abbrev pub start_in : DescriptorNote → ℕ
start_in note = 32 * (slice_index note.buffer 0 % 128)

abbrev pub buffer_part : Mem → DescriptorNote → List ℕ → Structures
buffer_part m note [] a = None
buffer_part m note (c ∷ cs) a = if a == 32 * c then Some (Buffer (pages_in note) (start_in note) (bytes_at m (pages_in note) (start_in note) (bytes_in note))) else None

-- ---- all of them

abbrev pub descriptor_part : Mem → EpDesc → DescriptorNote → ℕ → ℕ → Structures
descriptor_part m x note b l a = if a == 32 * b then Some (descriptor_with x note l) else buffer_part m note (take note.runs note.buffer) a

abbrev pub lent_descs : Mem → EpDesc → List DescriptorNote → (ℕ → ℕ) → List Transfer → StructureSets → StructureSets
lent_descs m x notes link [] descs n = descs n
lent_descs m x notes link (y ∷ ys) descs n =
    if n == 32 * y.first then descriptor_part m x (note_at notes y.first) y.first (link y.first) else lent_descs m x notes link ys descs n

-- ---- the laws

abbrev pub lend_row : DriverRow
lend_row = rows.LendDescriptors

abbrev pub after_lend : Parts → Parts
after_lend p = after_driver_row lend_row p

abbrev pub descs_after : Parts → ℕ → EpDesc → StructureSets → StructureSets
descs_after p t x descs = lent_descs (after_lend p).memory x p.driver.periodic.notes (link_before p.driver) (drop t p.driver.transfers) descs

-- what is known of a driver that lends its descriptors next
pub record IsLending (p : Parts) (t : ℕ) (x : EpDesc) : Type 0 where
  pub await : DescriptorsAwaitLend p.driver p.memory t x
  pub links : AreLinks p.driver
  pub owners : HasOwners p.driver
  pub stands : Stands (holding p.driver.book p.memory)
  pub shape : IsShaped p.memory

-- what was Lent stays so, with its words
abbrev pub LendLeaves : Type 0
LendLeaves = (p : Parts) (t : ℕ) (x : EpDesc) → IsLending p t x → Leaves p.memory (after_lend p).memory

abbrev pub LendDescribes : Type 0
LendDescribes = (p : Parts) (t : ℕ) (x : EpDesc) (descs : StructureSets) → IsLending p t x → AreDescribed (views_of p.driver) descs → AreHeld p.memory descs
    → AreDescribed (views_of (after_lend p).driver) (descs_after p t x descs) × AreHeld (after_lend p).memory (descs_after p t x descs)
