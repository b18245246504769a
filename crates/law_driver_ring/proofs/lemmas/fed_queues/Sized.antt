-- The bytes of a qTD's buffer, as its note tells them: all of them but of a SETUP.
use Rattle.std.proofs.Common.{◌≡◌, ℕ, zero, suc, ◌*◌, ◌<◌, ◌≤◌, Bool, false, if◌then◌else◌, slice_get, Some, ap, refl, sym, subst, ◌∙◌}
use Rattle.usb_base.specs.declared.packets.Way.{Way}
use Rattle.usb_base.specs.declared.packets.Way.TheVariants as ways
use Rattle.qh_qtd.specs.declared.qtd.Qtd.{Qtd}
use Rattle.drv_table.specs.declared.content.Endpoint.{Endpoint}
use Rattle.drv_table.specs.declared.content.Transfer.{Transfer}
use Rattle.drv_table.specs.declared.content.QtdNote.{QtdNote}
use Rattle.drv_table.specs.declared.content.Sort.{Sort}
use Rattle.drv_table.specs.DriverContent.{DriverContent}
use Rattle.drv_table.specs.Harvests.{note_at}
use Rattle.claims_driver.specs.Owners.{note_in}
use Rattle.law_structures.specs.lent_structures.Structures.{Structures, StructureSets}
use Rattle.law_driver.specs.chained_transfers.Bulk.{IsDataWay, sort_by, MovesAs, OnlyBulk}
use Rattle.law_driver.specs.chained_transfers.Chains.{piece_at}
use Rattle.law_driver_ring.specs.fed_queues.Fed.{is_request, size_of, sized, IsNotedQtd, IsPieceFed, unpublished_of, AreFed}

-- ---- one note

-- only the first qTD of a transfer is a SETUP
pub later_sized : (sort : Sort) (i : ℕ) (note : QtdNote) → sized sort (suc i) note ≡ note
later_sized sort i note = refl

pub told_size : (sort : Sort) (i n : ℕ) → is_request sort ≡ false → size_of sort i n ≡ n
told_size sort zero n is = ap (λ (b : Bool). if b then 8 else n) is
told_size sort (suc i) n is = refl

pub told_sized : (sort : Sort) (i : ℕ) (note : QtdNote) → is_request sort ≡ false → sized sort i note ≡ note
told_sized sort i note is = ap (λ (n : ℕ). record note { told = n }) (told_size sort i note.told is)

-- its links and the place of its buffer are those of the note
pub noted_sized : (sort : Sort) (t : Qtd) (i : ℕ) (note : QtdNote) (end : ℕ) → IsNotedQtd sort t note end → IsNotedQtd sort t (sized sort i note) end
noted_sized sort t i note end k = record { next = k.next; alternate = k.alternate; offset = k.offset; page0 = k.page0; page1 = k.page1; page2 = k.page2; page3 = k.page3; page4 = k.page4 }

-- ---- gets and puts, which are no requests

pub way_told : (way : Way) → IsDataWay way → is_request (sort_by way) ≡ false
way_told ways.Ctl one = absurd one
way_told _ one = refl

pub moves_told : (d : DriverContent) (y : Transfer) (moves : MovesAs d y) → IsDataWay moves.endpoint.desc.name.way → is_request y.sort ≡ false
moves_told d y moves one = ap is_request moves.sort ∙ way_told moves.endpoint.desc.name.way one

-- ---- one qTD

pub told_fed : (sort : Sort) (part : Structures) (i : ℕ) (note : QtdNote) (b end : ℕ) → is_request sort ≡ false → IsPieceFed sort part (sized sort i note) b end → IsPieceFed sort part note b end
told_fed sort part i note b end is = subst (λ (n : QtdNote). IsPieceFed sort part n b end) (told_sized sort i note is)

pub sized_fed : (sort : Sort) (part : Structures) (i : ℕ) (note : QtdNote) (b end : ℕ) → is_request sort ≡ false → IsPieceFed sort part note b end → IsPieceFed sort part (sized sort i note) b end
sized_fed sort part i note b end is = subst (λ (n : QtdNote). IsPieceFed sort part n b end) (sym (told_sized sort i note is))

-- of a driver whose transfers are gets and puts each published piece is fed with the bytes that its note tells
pub told_piece : (d : DriverContent) (parts : StructureSets) → OnlyBulk d → AreFed d parts → (t i : ℕ) (y : Transfer) (x : Endpoint) → slice_get d.transfers t ≡ Some y → y.released ≡ false → slice_get d.endpoints y.endpoint ≡ Some x
    → unpublished_of d t y ≤ i → i < y.qtds
    → IsPieceFed y.sort (parts (32 * x.queue)) (note_at d.notes (piece_at (note_in d.notes) y.first i)) (piece_at (note_in d.notes) y.first i) (piece_at (note_in d.notes) y.first y.qtds)
told_piece d parts bulk fed t i y x there held here from below =
    let note = note_in d.notes in
    let b = piece_at note y.first i in
    let moves = bulk.moves t y there in
    told_fed y.sort (parts (32 * x.queue)) i (note_at d.notes b) b (piece_at note y.first y.qtds) (moves_told d y moves (bulk.endpoints y.endpoint moves.endpoint moves.here).bulk.way) (fed.pieces t i y x there held here from below)
