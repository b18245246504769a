-- Isochronous descriptors were accepted and are to be lent (EHCI 1.0, 3.3, 3.4, 4.7 and 4.12.3): each descriptor and its buffer have runs that the driver
-- alone may touch, and the words of the descriptor stand there.
--     bytes_in note            how many bytes the buffer has
--     blocks_in, words_in      the blocks and the words of a descriptor: of a siTD, or of an iTD
--     HasFields x              what is written of the endpoint fits the fields of a descriptor
--     IsDescriptorNoted slot note    the note tells the runs of the buffer, which are kept, and what fits the fields
--     IsWrittenDescriptor ..   the descriptor in block b is so, and its words stand there, with a link of 0
--     runs_of notes ys         where the runs of these descriptors and of their buffers begin
--     DescriptorsAwaitLend d m t x   the whole: the transfers from t on, of the endpoint x
--     link_before d b          the link that the descriptor in block b is given before it is lent
use Rattle.std.specs.Prelude.{◌≡◌, ℕ, ◌*◌, ◌%◌, ◌<◌, ◌≤◌, Bool, true, false, List, [], ◌∷◌, ◌++◌, length, take, drop, slice_get, slice_index, unwrap_or, Some, if◌then◌else◌}
use Rattle.usb_base.specs.declared.endpoints.EpDesc.{EpDesc}
use Rattle.word_mem.specs.Memory.{Mem}
use Rattle.word_mem.specs.Views.{words_at}
use Rattle.mem_runs.specs.declared.slots.Slot.{Slot}
use Rattle.mem_runs.specs.Book.{slot_of}
use Rattle.drv_periodic_table.specs.declared.content.DescriptorNote.{DescriptorNote}
use Rattle.drv_periodic_table.specs.Periodic.{note_at, descriptor_member}
use Rattle.drv_periodic_table.specs.Linking.{new_link}
use Rattle.drv_periodic_table.specs.Descriptors.{slots_in, slot_limit, descriptor_words}
use Rattle.drv_table.specs.declared.content.Transfer.{Transfer}
use Rattle.drv_table.specs.declared.content.Command.TheVariants as unfinished
use Rattle.drv_table.specs.DriverContent.{DriverContent}
use Rattle.drv_table.specs.Words.{buffer_needs}
use Rattle.claims_driver.specs.Owners.{is_descriptor}
use Rattle.law_driver_ring.specs.Written.{IsPageRun, AreRuns, AreAllApart}

abbrev pub bytes_in : DescriptorNote → ℕ
bytes_in note = if note.split then note.slot else slots_in note.smask * note.slot

abbrev pub blocks_in : Bool → ℕ
blocks_in split = if split then 1 else 2

abbrev pub words_in : Bool → ℕ
words_in split = if split then 7 else 16

-- ---- one descriptor

pub record HasFields (x : EpDesc) : Type 0 where
  pub addr : x.name.addr < 128
  pub num : x.name.num < 16
  pub max : x.max ≤ 1024
  pub multi_least : 1 ≤ x.multi
  pub multi_most : x.multi ≤ 3
  pub hub : unwrap_or x.hub 0 < 128
  pub port : x.port < 128

-- where the buffer has no further run, 0 stands for one
pub record IsDescriptorNoted (slot : ℕ → Slot) (note : DescriptorNote) : Type 0 where
  pub runs : AreRuns slot (buffer_needs (bytes_in note)) (take note.runs note.buffer)
  pub rest : (i : ℕ) → note.runs ≤ i → slice_index note.buffer i ≡ 0
  pub smask : note.smask < 256
  pub cmask : note.cmask < 256
  pub few : note.slot ≤ slot_limit note.split

pub record IsWrittenDescriptor (slot : ℕ → Slot) (m : Mem) (x : EpDesc) (note : DescriptorNote) (b : ℕ) : Type 0 where
  pub run : IsPageRun (slot b) (blocks_in note.split)
  pub noted : IsDescriptorNoted slot note
  pub words : words_at m (32 * b) (words_in note.split) ≡ descriptor_words x note

-- ---- all of them

abbrev pub runs_of : List DescriptorNote → List Transfer → List ℕ
runs_of notes [] = []
runs_of notes (y ∷ ys) = y.first ∷ (take (note_at notes y.first).runs (note_at notes y.first).buffer ++ runs_of notes ys)

pub record IsToLend (slot : ℕ → Slot) (m : Mem) (x : EpDesc) (notes : List DescriptorNote) (y : Transfer) : Type 0 where
  pub sort : is_descriptor y.sort ≡ true
  pub held : y.released ≡ false
  pub written : IsWrittenDescriptor slot m x (note_at notes y.first) y.first

-- the last transfers are those of the unfinished command
pub record DescriptorsAwaitLend (d : DriverContent) (m : Mem) (t : ℕ) (x : EpDesc) : Type 0 where
  pub number : ℕ
  pub count : ℕ
  pub command : d.command ≡ Some (unfinished.Iso number t count)
  pub last : length (drop t d.transfers) ≡ count
  pub fields : HasFields x
  pub each : (i : ℕ) (y : Transfer) → slice_get (drop t d.transfers) i ≡ Some y → IsToLend (slot_of d.book.slots) m x d.periodic.notes y
  pub taken : d.book.taken ≡ runs_of d.periodic.notes (drop t d.transfers)
  pub apart : AreAllApart d.book.taken

-- ---- their links

abbrev pub link_before : DriverContent → ℕ → ℕ
link_before d b = new_link d.periodic.list (descriptor_member d.periodic.notes b)

-- they are link words: their bits 4:3 are 0 (3.1)
abbrev pub AreLinks : DriverContent → Type 0
AreLinks d = (b : ℕ) → link_before d b % 32 < 8
