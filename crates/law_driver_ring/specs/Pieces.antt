-- The structures of a transfer, once they are lent (EHCI 1.0, 3.5, 3.5.3 and 3.5.4).
--     stage_qtd ..               the qTD of a stage, in block b
--     qtd_items, buffer_items    the qTDs from block b on with the inactive one, and the buffers of the qTDs from block b on, as structures
--     lent_items ..              all that is lent of a transfer whose first qTD stands in block b
--     IsNewQtd .. a u            u is one of the qTDs from block b on, or the inactive one, and stands at a
--     AreStanding part ..        the qTDs from block b on stand in the part, and then the inactive one
--     AreBuffered part ..        so does the buffer of each that asks for bytes
--     NamesLent slot part        the buffer of each qTD of the part begins in a run that is lent, or the qTD has none
use Rattle.std.specs.Prelude.{◌≡◌, ℕ, zero, suc, ◌*◌, ◌<◌, ◌⊎◌, Bool, List, [], ◌∷◌, ◌++◌, Some}
use Rattle.word_mem.specs.Memory.{Mem}
use Rattle.mem_bytes.specs.Bytes.{bytes_at}
use Rattle.qh_qtd.specs.declared.qtd.Qtd.{Qtd}
use Rattle.mem_runs.specs.declared.slots.Slot.{Slot}
use Rattle.drv_table.specs.declared.content.QtdNote.{QtdNote}
use Rattle.drv_table.specs.declared.content.Stage.{Stage}
use Rattle.drv_table.specs.Words.{dummy_qtd, new_qtd}
use Rattle.drv_table.specs.Harvests.{note_at}
use Rattle.drv_table.specs.Offers.{is_last}
use Rattle.law_structures.specs.lent_structures.Structures.{Element, Buffer, Structures}
use Rattle.law_structures.specs.lent_structures.Sound.{element_pages, buffer_name, HasBuffer}
use Rattle.law_ring.specs.Together.{Item}
use Rattle.law_driver_ring.specs.Inventory.{IsLent}

abbrev pub stage_qtd : List QtdNote → Stage → ℕ → ℕ → Bool → Qtd
stage_qtd notes s b dummy last = new_qtd s (note_at notes b).next dummy (note_at notes b).buffer last

abbrev pub buffer_item : Mem → Qtd → ℕ → Item
buffer_item m t n = record { name = buffer_name t; structure = Buffer (element_pages t) t.offset (bytes_at m (element_pages t) t.offset n) }

-- a qTD that asks for no bytes has no buffer
abbrev pub with_buffer : Mem → Qtd → ℕ → List Item → List Item
with_buffer m t zero is = is
with_buffer m t (suc n) is = buffer_item m t (suc n) ∷ is

abbrev pub qtd_items : List QtdNote → ℕ → List Stage → ℕ → List Item
qtd_items notes dummy [] b = record { name = 32 * b; structure = Element dummy_qtd } ∷ []
qtd_items notes dummy (s ∷ ss) b =
    record { name = 32 * b; structure = Element (stage_qtd notes s b dummy (is_last ss)) } ∷ qtd_items notes dummy ss (note_at notes b).next

abbrev pub buffer_items : Mem → List QtdNote → ℕ → List Stage → ℕ → List Item
buffer_items m notes dummy [] b = []
buffer_items m notes dummy (s ∷ ss) b = with_buffer m (stage_qtd notes s b dummy (is_last ss)) s.long (buffer_items m notes dummy ss (note_at notes b).next)

abbrev pub lent_items : Mem → List QtdNote → ℕ → Stage → List Stage → ℕ → List Item
lent_items m notes dummy s ss b = qtd_items notes dummy ss (note_at notes b).next ++ buffer_items m notes dummy (s ∷ ss) b

-- ---- what a part has of them

-- u is the one of them that stands at a
abbrev pub IsNewQtd : List QtdNote → ℕ → List Stage → ℕ → ℕ → Qtd → Type 0
IsNewQtd notes dummy [] b a u = (a ≡ 32 * b) × (u ≡ dummy_qtd)
IsNewQtd notes dummy (s ∷ ss) b a u =
    ((a ≡ 32 * b) × (u ≡ stage_qtd notes s b dummy (is_last ss))) ⊎ IsNewQtd notes dummy ss (note_at notes b).next a u

abbrev pub AreStanding : Structures → List QtdNote → ℕ → List Stage → ℕ → Type 0
AreStanding part notes dummy [] b = part (32 * b) ≡ Some (Element dummy_qtd)
AreStanding part notes dummy (s ∷ ss) b =
    (part (32 * b) ≡ Some (Element (stage_qtd notes s b dummy (is_last ss)))) × AreStanding part notes dummy ss (note_at notes b).next

abbrev pub AreBuffered : Structures → List QtdNote → ℕ → List Stage → ℕ → Type 0
AreBuffered part notes dummy [] b = Unit {0}
AreBuffered part notes dummy (s ∷ ss) b =
    (0 < s.long → HasBuffer part (stage_qtd notes s b dummy (is_last ss)) s.long) × AreBuffered part notes dummy ss (note_at notes b).next

pub record NamesRun (slot : ℕ → Slot) (name : ℕ) : Type 0 where
  pub block : ℕ
  pub is : name ≡ 32 * block
  pub lent : IsLent (slot block)

abbrev pub NamesLent : (ℕ → Slot) → Structures → Type 0
NamesLent slot part = (a : ℕ) (t : Qtd) → part a ≡ Some (Element t) → (buffer_name t ≡ 0) ⊎ NamesRun slot (buffer_name t)
