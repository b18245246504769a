-- The buffer of each qTD that a driver has lent begins in a run that is lent, or the qTD has none.
use Rattle.std.proofs.Common.{◌≡◌, ◌≢◌, ℕ, zero, suc, ◌-◌, ◌*◌, ◌/◌, ◌<◌, ◌≤◌, ◌⊎◌, false, List, [], ◌∷◌, length, get_or, nat_eq, cond, slice_get, Option, Some, None, option_map, ap, refl, sym, subst, ◌∙◌, ⊎_elim, inl, inr, arith, ◌||◌, Bool}
use Rattle.std.proofs.lemmas.Bool.{cases_eq, cases_lt, or_parts}
use Rattle.std.proofs.lemmas.Option.{same_Some}
use Rattle.law_common.proofs.Numbers.{other_number}
use Rattle.word_mem.specs.Memory.{Mem}
use Rattle.mem_bytes.specs.Bytes.{place}
use Rattle.qh_qtd.specs.declared.qtd.Qtd.{Qtd}
use Rattle.mem_runs.specs.Book.{slot_of}
use Rattle.drv_table.specs.declared.content.Endpoint.{Endpoint}
use Rattle.drv_table.specs.declared.content.Transfer.{Transfer}
use Rattle.drv_table.specs.declared.content.QtdNote.{QtdNote}
use Rattle.drv_table.specs.declared.content.Sort.{Sort as TransferSort}
use Rattle.drv_table.specs.DriverContent.{DriverContent}
use Rattle.drv_table.specs.Words.{dummy_qtd}
use Rattle.drv_table.specs.Harvests.{note_at}
use Rattle.claims_driver.specs.Owners.{EndpointRuns, TransferRuns, NoteRuns, Views, runs_of_endpoint, runs_of_transfer, note_in, views_of, IsPieceOf}
use Rattle.law_structures.specs.lent_structures.Structures.{Element, StructureSets}
use Rattle.law_structures.specs.lent_structures.Sound.{element_pages, buffer_name}
use Rattle.law_structures.proofs.lemmas.lent_structures.Altering.{found_element}
use Rattle.law_driver_ring.specs.Inventory.{Sort, sort_of, sorts_of, OfElement, OfBuffer, IsLent, IsDriverOwned, the_list, the_head, a_queue, a_dummy, a_piece, a_buffer, IsDriven}
use Rattle.law_driver.specs.chained_transfers.Chains.{piece_at}
use Rattle.law_driver.specs.chained_transfers.Out.{unpublished}
use Rattle.law_driver_ring.specs.Published.{partly}
use Rattle.law_driver_ring.specs.fed_queues.Fed.{IsNotedQtd, IsPieceFed, sized, unpublished_of, AreFed}
use Rattle.law_driver_ring.specs.Written.{next_blocks, buffer_blocks}
use Rattle.law_driver_ring.specs.Pieces.{NamesRun, NamesLent}
use Rattle.law_driver_ring.proofs.Lists.{IsOneOf, one_left}
use Rattle.law_driver_ring.proofs.Buffers.{pages_from, name_at}
use Rattle.law_driver_ring.proofs.TransferLending.{taken_keep}
use Rattle.law_queues.specs.fed_lends.ToLend.{IsToBeLent}
use Rattle.law_queues.proofs.lemmas.fed_lends.Feeding.{later_block}
use Rattle.drv_table.specs.Kinds.{is_iso}
use Rattle.usb_base.specs.declared.packets.EpKind.{EpKind}

-- ---- what is told by a map

pub record IsMapped {X Y : Type 0} (f : X → Y) (o : Option X) (y : Y) : Type 0 where
  pub value : X
  pub here : o ≡ Some value
  pub is : f value ≡ y

pub mapped : {X Y : Type 0} (f : X → Y) (o : Option X) (y : Y) → option_map f o ≡ Some y → IsMapped f o y
mapped f None y is = absurd (cc)
mapped f (Some x) y is = record { value = x; here = refl; is = same_Some (f x) y is }

-- ---- the name of a noted qTD's buffer

noted_pages : (sort : TransferSort) (t : Qtd) (note : QtdNote) (end : ℕ) → IsNotedQtd sort t note end → element_pages t ≡ pages_from note.buffer
noted_pages sort t note end is =
    let b = note.buffer in
    ap (λ (p : ℕ). p ∷ t.page1 ∷ t.page2 ∷ t.page3 ∷ t.page4 ∷ []) is.page0
    ∙ ap (λ (p : ℕ). get_or b 0 0 / 128 ∷ p ∷ t.page2 ∷ t.page3 ∷ t.page4 ∷ []) is.page1
    ∙ ap (λ (p : ℕ). get_or b 0 0 / 128 ∷ get_or b 1 0 / 128 ∷ p ∷ t.page3 ∷ t.page4 ∷ []) is.page2
    ∙ ap (λ (p : ℕ). get_or b 0 0 / 128 ∷ get_or b 1 0 / 128 ∷ get_or b 2 0 / 128 ∷ p ∷ t.page4 ∷ []) is.page3
    ∙ ap (λ (p : ℕ). get_or b 0 0 / 128 ∷ get_or b 1 0 / 128 ∷ get_or b 2 0 / 128 ∷ get_or b 3 0 / 128 ∷ p ∷ []) is.page4

pub noted_name : (sort : TransferSort) (t : Qtd) (note : QtdNote) (end : ℕ) → IsNotedQtd sort t note end → buffer_name t ≡ 32 * get_or note.buffer 0 0
noted_name sort t note end is = ap (λ (ps : List ℕ). place ps t.offset) (noted_pages sort t note end is) ∙ ap (place (pages_from note.buffer)) is.offset ∙ name_at note.buffer

-- a buffer that is told begins in a run that is lent
buffer_run : (v : Views) (n a : ℕ) (k : Sort) → k ≡ OfBuffer → IsDriverOwned v n a k → NamesRun v.slot a
buffer_run v _ _ _ kind the_list = absurd (cc)
buffer_run v _ _ _ kind the_head = absurd (cc)
buffer_run v _ _ _ kind (a_queue e x is lent) = absurd (cc)
buffer_run v _ _ _ kind (a_dummy e x is lent) = absurd (cc)
buffer_run v _ _ _ kind (a_piece t b y x is piece lent) = absurd (cc)
buffer_run v _ _ _ kind (a_buffer t b c cs y x is piece first lent) = record { block = c; is = refl; lent = lent }

fed_name : (d : DriverContent) (parts : StructureSets) (n b end : ℕ) (sort : TransferSort) (note : QtdNote) → IsDriven (views_of d) (sorts_of parts) → (p : IsPieceFed sort (parts n) note b end) → (buffer_name p.qtd ≡ 0) ⊎ NamesRun (slot_of d.book.slots) (buffer_name p.qtd)
fed_name d parts n b end sort note driven p =
    ⊎_elim
    (λ (some : 0 < note.told).
    let h = p.buffer some in
    inr (buffer_run (views_of d) n (buffer_name p.qtd) OfBuffer refl (driven.only n (buffer_name p.qtd) OfBuffer (ap (option_map sort_of) h.here))))
    (λ (none : note.told ≤ 0). inl (noted_name sort p.qtd note end p.noted ∙ ap (λ (i : ℕ). 32 * i) (p.blank (omega (arith, none)))))
    (cases_lt 0 note.told)

-- ---- each qTD

pub record IsPieceAt (note : ℕ → NoteRuns) (b n c : ℕ) : Type 0 where
  pub number : ℕ
  pub below : number < n
  pub is : c ≡ piece_at note b number

pub piece_number : (note : ℕ → NoteRuns) (b n c : ℕ) → IsPieceOf note b n c → IsPieceAt note b n c
piece_number note b zero c is = absurd is
piece_number note b (suc n) c (inl is) = record { number = 0; below = omega arith; is = is }
piece_number note b (suc n) c (inr is) = let p = piece_number note (note b).next n c is in record { number = suc p.number; below = let l = p.below in omega (arith, l); is = p.is }

-- of another transfer than the newest one all are published
pub older_published : (d : DriverContent) (m : Mem) (b t : ℕ) (words : List ℕ) (y : Transfer) → (k : IsToBeLent d m b words) → t ≢ k.number → unpublished_of d t y ≡ 0
older_published d m b t words y k differs =
    let other : nat_eq (suc t) (length d.transfers) ≡ false = other_number (suc t) (length d.transfers) (λ same. differs (let e = k.newest in omega (arith, e, same))) in
    ap (λ c. cond c (unpublished d.command d.made y.qtds) 0) other

-- a further qTD of the newest one isn't lent
further_kept : (d : DriverContent) (m : Mem) (b i : ℕ) (words : List ℕ) → (k : IsToBeLent d m b words) → suc i < k.transfer.qtds → IsLent (slot_of d.book.slots (piece_at (note_in d.notes) k.transfer.first (suc i))) → ⊥
further_kept d m b i words k below lent =
    let r = k.awaits in
    let ss = k.stage ∷ k.further in
    let many = r.qtds in
    let block = later_block d.notes ss k.transfer.first i (omega (arith, below, many)) in
    let qtds = next_blocks d.notes ss k.transfer.first in
    let rest = buffer_blocks d.notes ss k.transfer.first in
    let c = piece_at (note_in d.notes) k.transfer.first (suc i) in
    let keep = taken_keep d m k.number (runs_of_transfer k.transfer) (runs_of_endpoint k.endpoint) k.stage k.further c r (subst (λ cs. IsOneOf c cs) (sym r.taken) (one_left c qtds rest block)) in
    subst IsLent keep.is lent

pub first_stands : (d : DriverContent) (m : Mem) (b : ℕ) (words : List ℕ) (parts : StructureSets) → (k : IsToBeLent d m b words) → AreFed d parts → parts (32 * k.endpoint.queue) (32 * k.transfer.first) ≡ Some (Element dummy_qtd)
first_stands d m b words parts k fed =
    let p = fed.publishes b words k.command in
    let number : p.number ≡ k.number = let e = p.newest in let f = k.newest in omega (arith, e, f) in
    let transfer : p.transfer ≡ k.transfer = same_Some p.transfer k.transfer (sym p.there ∙ ap (slice_get d.transfers) number ∙ k.there) in
    let endpoint : p.endpoint ≡ k.endpoint = same_Some p.endpoint k.endpoint (sym p.here ∙ ap (λ (y : Transfer). slice_get d.endpoints y.endpoint) transfer ∙ k.here) in
    let none : d.made - 1 ≡ 0 = let e = k.made in omega (arith, e) in
    ap (λ (c : ℕ). parts (32 * k.endpoint.queue) (32 * c)) k.first ∙ ap (λ (x : Endpoint). parts (32 * x.queue) (32 * b)) (sym endpoint) ∙ p.stored ∙ ap (λ (i : ℕ). Some (Element (partly p.qtd i))) none

-- what is bare no more wasn't given back
pub bare_kept : (k : EpKind) (gone : Bool) → (is_iso k || gone) ≡ false → gone ≡ false
bare_kept k gone is = (or_parts (is_iso k) gone is).1

element_name : (d : DriverContent) (m : Mem) (b : ℕ) (words : List ℕ) (parts : StructureSets) (n a : ℕ) (sort : Sort) (u : Qtd) → IsToBeLent d m b words → AreFed d parts → IsDriven (views_of d) (sorts_of parts) → sort ≡ OfElement → IsDriverOwned (views_of d) n a sort → parts n a ≡ Some (Element u) → (buffer_name u ≡ 0) ⊎ NamesRun (slot_of d.book.slots) (buffer_name u)
element_name d m b words parts _ _ _ u k fed driven kind the_list there = absurd (cc)
element_name d m b words parts _ _ _ u k fed driven kind the_head there = absurd (cc)
element_name d m b words parts _ _ _ u k fed driven kind (a_queue e x is lent) there = absurd (cc)
element_name d m b words parts _ _ _ u k fed driven kind (a_buffer t c i cs y x is piece first lent) there = absurd (cc)
element_name d m b words parts _ _ _ u k fed driven kind (a_dummy e x is lent) there =
    let o = mapped runs_of_endpoint (slice_get d.endpoints e) x is.here in
    let z = o.value in
    let dummy = fed.dummies e z o.here (bare_kept z.desc.kind z.gone (ap (λ (r : EndpointRuns). r.bare) o.is ∙ is.queued)) (subst (λ (r : EndpointRuns). IsLent (slot_of d.book.slots r.dummy)) (sym o.is) lent) in
    let here : parts (32 * z.queue) (32 * z.dummy) ≡ Some (Element u) = subst (λ (r : EndpointRuns). parts (32 * r.queue) (32 * r.dummy) ≡ Some (Element u)) (sym o.is) there in
    inl (ap buffer_name (found_element (parts (32 * z.queue) (32 * z.dummy)) u dummy_qtd here dummy))
element_name d m b words parts _ _ _ u k fed driven kind (a_piece t c y x is piece lent) there =
    let note = note_in d.notes in
    let oy = mapped runs_of_transfer (slice_get d.transfers t) y is.here in
    let z = oy.value in
    let ox = mapped runs_of_endpoint (slice_get d.endpoints y.endpoint) x is.queue.here in
    let w = ox.value in
    let at = piece_number note y.first y.qtds c piece in
    let i = at.number in
    let first : z.first ≡ y.first = ap (λ (r : TransferRuns). r.first) oy.is in
    let qtds : z.qtds ≡ y.qtds = ap (λ (r : TransferRuns). r.qtds) oy.is in
    let block : c ≡ piece_at note z.first i = at.is ∙ ap (λ (j : ℕ). piece_at note j i) (sym first) in
    let below : i < z.qtds = let l = at.below in omega (arith, l, qtds) in
    let here : parts (32 * w.queue) (32 * piece_at note z.first i) ≡ Some (Element u) =
    subst (λ (r : EndpointRuns). parts (32 * r.queue) (32 * piece_at note z.first i) ≡ Some (Element u)) (sym ox.is) (ap (λ (j : ℕ). parts (32 * x.queue) (32 * j)) (sym block) ∙ there) in
    let of_endpoint : slice_get d.endpoints z.endpoint ≡ Some w = ap (λ (r : TransferRuns). slice_get d.endpoints r.endpoint) oy.is ∙ ox.here in
    ⊎_elim
    (λ (same : t ≡ k.number). newest z w i below (same_Some z k.transfer (sym oy.here ∙ ap (slice_get d.transfers) same ∙ k.there)) of_endpoint here (subst (λ (j : ℕ). IsLent (slot_of d.book.slots j)) block lent))
    (λ (differs : t ≢ k.number).
    let p = fed.pieces t i z w oy.here (ap (λ (r : TransferRuns). r.released) oy.is ∙ is.held) of_endpoint (let e = older_published d m b t words z k differs in omega (arith, e)) below in
    let same : p.qtd ≡ u = found_element (parts (32 * w.queue) (32 * piece_at note z.first i)) p.qtd u p.here here in
    subst (λ (q : Qtd). (buffer_name q ≡ 0) ⊎ NamesRun (slot_of d.book.slots) (buffer_name q)) same (fed_name d parts (32 * w.queue) (piece_at note z.first i) (piece_at note z.first z.qtds) z.sort (sized z.sort i (note_at d.notes (piece_at note z.first i))) driven p))
    (cases_eq t k.number)
  where
    newest : (z : Transfer) (w : Endpoint) (i : ℕ) → i < z.qtds → z ≡ k.transfer → slice_get d.endpoints z.endpoint ≡ Some w → parts (32 * w.queue) (32 * piece_at (note_in d.notes) z.first i) ≡ Some (Element u) → IsLent (slot_of d.book.slots (piece_at (note_in d.notes) z.first i)) → (buffer_name u ≡ 0) ⊎ NamesRun (slot_of d.book.slots) (buffer_name u)
    newest z w zero below is at here lent =
        let queue : w ≡ k.endpoint = same_Some w k.endpoint (sym at ∙ ap (λ (y : Transfer). slice_get d.endpoints y.endpoint) is ∙ k.here) in
        let stands = first_stands d m b words parts k fed in
        let there : parts (32 * k.endpoint.queue) (32 * k.transfer.first) ≡ Some (Element u) =
        ap (λ (y : Transfer). parts (32 * k.endpoint.queue) (32 * y.first)) (sym is) ∙ ap (λ (x : Endpoint). parts (32 * x.queue) (32 * z.first)) (sym queue) ∙ here in
        inl (ap buffer_name (found_element (parts (32 * k.endpoint.queue) (32 * k.transfer.first)) u dummy_qtd there stands))
    newest z w (suc i) below is at here lent =
        absurd (further_kept d m b i words k (subst (λ (y : Transfer). suc i < y.qtds) is below) (subst (λ (y : Transfer). IsLent (slot_of d.book.slots (piece_at (note_in d.notes) y.first (suc i)))) is lent))

pub names_lent : (d : DriverContent) (m : Mem) (b : ℕ) (words : List ℕ) (parts : StructureSets) (n : ℕ) → IsToBeLent d m b words → AreFed d parts → IsDriven (views_of d) (sorts_of parts) → NamesLent (slot_of d.book.slots) (parts n)
names_lent d m b words parts n k fed driven a u there =
    element_name d m b words parts n a OfElement u k fed driven refl (driven.only n a OfElement (ap (option_map sort_of) there)) there
