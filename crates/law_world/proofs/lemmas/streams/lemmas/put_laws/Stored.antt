-- The buffer of each qTD of a put that is lent is told by its structure, and so are its bytes.
use Rattle.std.proofs.Common.{◌≡◌, ℕ, zero, suc, ◌+◌, ◌*◌, ◌/◌, ◌<◌, ◌≤◌, Bool, true, false, nat_eq, cond, List, length, slice_get, Option, Some, ap, refl, sym, subst, ◌∙◌, ⊎_elim, arith}
use Rattle.std.proofs.lemmas.Bool.{cases_lt}
use Rattle.std.proofs.lemmas.Bool.Decides.{nat_tests}
use Rattle.std.proofs.lemmas.List.{take_all}
use Rattle.std.proofs.lemmas.Option.{same_Some}
use Rattle.word_mem.specs.Memory.{Mem, word_at, reaches}
use Rattle.mem_bytes.specs.Bytes.{place}
use Rattle.qh_qtd.specs.declared.qtd.Qtd.{Qtd}
use Rattle.drv_table.specs.declared.content.QtdNote.{QtdNote}
use Rattle.drv_table.specs.declared.content.Sort.{Sort}
use Rattle.drv_table.specs.declared.content.Endpoint.{Endpoint}
use Rattle.drv_table.specs.declared.content.Transfer.{Transfer}
use Rattle.drv_table.specs.declared.content.Command.{Command}
use Rattle.drv_table.specs.declared.content.Command.TheVariants as unfinished
use Rattle.drv_table.specs.DriverContent.{DriverContent}
use Rattle.drv_table.specs.Harvests.{note_at, buffer_address, buffer_bytes}
use Rattle.claims_driver.specs.Owners.{note_in}
use Rattle.law_driver.specs.chained_transfers.Chains.{piece_at}
use Rattle.law_driver.specs.chained_transfers.Out.{unpublished}
use Rattle.law_structures.specs.lent_structures.Structures.{Structure, Buffer, Structures, StructureSets, HoldsBuffer, Has, Tells}
use Rattle.law_structures.specs.lent_structures.Sound.{element_pages, buffer_name, HasBuffer}
use Rattle.law_driver_ring.specs.harvested_streams.Harvested.{IsNoted}
use Rattle.law_driver_ring.proofs.lemmas.harvested_streams.Harvesting.{bytes_are_read}
use Rattle.law_driver_ring.specs.fed_queues.Fed.{is_request, IsPieceFed, unpublished_of, IsPublished, AreFed}
use Rattle.law_driver_ring.proofs.lemmas.fed_queues.Sized.{told_size, told_fed}
use Rattle.law_world.proofs.lemmas.streams.lemmas.put_laws.Words.{bytes_same}
use Rattle.law_world.proofs.lemmas.streams.lemmas.put_laws.HeldAlike.{SameBytes}

-- ---- one qTD

-- its buffer has as many bytes as were noted, at these addresses
pub record IsStored (part : Structures) (note : QtdNote) : Type 0 where
  pub qtd : Qtd
  pub bytes : List ℕ
  pub here : part (buffer_name qtd) ≡ Some (Buffer (element_pages qtd) qtd.offset bytes)
  pub noted : IsNoted note qtd bytes

abbrev buffer_stored : (part : Structures) (note : QtdNote) (t : Qtd) → HasBuffer part t note.told → ((j : ℕ) → j < note.told → buffer_address note j ≡ place (element_pages t) (t.offset + j)) → IsStored part note
buffer_stored part note t has places = record {
  qtd = t;
  bytes = has.bytes;
  here = has.here;
  noted = record { told = sym has.size; places = λ j below. places j (subst (λ (n : ℕ). j < n) has.size below) };
}

abbrev pub fed_stored : (sort : Sort) (part : Structures) (note : QtdNote) (b end : ℕ) → IsPieceFed sort part note b end → 0 < note.told → IsStored part note
fed_stored sort part note b end fed some = buffer_stored part note fed.qtd (fed.buffer some) fed.places

published_stored : (d : DriverContent) (parts : StructureSets) (b : ℕ) (words : List ℕ) → (p : IsPublished d parts b words) → is_request p.transfer.sort ≡ false → 1 ≤ d.made → 0 < (note_at d.notes b).told → IsStored (parts (32 * p.endpoint.queue)) (note_at d.notes b)
published_stored d parts b words p plain made some =
    let part = parts (32 * p.endpoint.queue) in
    let all = told_size p.transfer.sort 0 (note_at d.notes b).told plain in
    let total : p.qtd.token.total ≡ (note_at d.notes b).told = p.total ∙ all in
    let has : HasBuffer part p.qtd p.qtd.token.total = ((p.may made).sound.work p.active).buffer (omega (arith, total, some)) in
    buffer_stored part (note_at d.notes b) p.qtd (subst (HasBuffer part p.qtd) total has) (λ j below. p.places j (omega (arith, below, all)))

-- ---- its bytes

pub stored_bytes : (m : Mem) (parts : StructureSets) (n : ℕ) (note : QtdNote) → Tells m parts → (s : IsStored (parts n) note) → buffer_bytes m note note.told ≡ s.bytes
stored_bytes m parts n note tells s =
    ap (buffer_bytes m note) s.noted.told ∙ bytes_are_read m parts n s.qtd s.bytes note (length s.bytes) tells s.here s.noted (omega arith) ∙ take_all (length s.bytes) s.bytes (omega arith)

-- where memory is told after it with the same buffer
pub buffer_stays : (m new : Mem) (parts now : StructureSets) (n : ℕ) (note : QtdNote) → Tells m parts → Tells new now → (s : IsStored (parts n) note) → now n (buffer_name s.qtd) ≡ Some (Buffer (element_pages s.qtd) s.qtd.offset s.bytes)
    → SameBytes m new note
buffer_stays m new parts now n note tells told s here =
    stored_bytes new now n note told (record { qtd = s.qtd; bytes = s.bytes; here = here; noted = s.noted }) ∙ sym (stored_bytes m parts n note tells s)

-- .. or where its words stay
pub words_stored : (m new : Mem) (note : QtdNote) → ((j : ℕ) → j < note.told → word_at new (buffer_address note j) ≡ word_at m (buffer_address note j)) → SameBytes m new note
words_stored m new note same = bytes_same m new note note.told same

-- a qTD that sends nothing
pub nothing_sent : (m new : Mem) (note : QtdNote) → note.told ≤ 0 → SameBytes m new note
nothing_sent m new note none = bytes_same m new note note.told (λ j below. absurd (omega (arith, below, none)))

pub either_way : (m new : Mem) (note : QtdNote) → (0 < note.told → SameBytes m new note) → SameBytes m new note
either_way m new note some = ⊎_elim some (nothing_sent m new note) (cases_lt 0 note.told)

-- ---- where its bytes stand

-- byte j of it lies in the buffer, and is Lent
pub record IsInBuffer (m : Mem) (parts : StructureSets) (n : ℕ) (s : Structure) (name at : ℕ) : Type 0 where
  pub here : parts n name ≡ Some s
  pub has : Has name s (at / 32)
  pub lent : reaches m at ≡ true

pub stored_at : (m : Mem) (parts : StructureSets) (n : ℕ) (note : QtdNote) → Tells m parts → (s : IsStored (parts n) note) → (j : ℕ) → j < note.told
    → IsInBuffer m parts n (Buffer (element_pages s.qtd) s.qtd.offset s.bytes) (buffer_name s.qtd) (buffer_address note j)
stored_at m parts n note tells s j below =
    let told = s.noted.told in
    let inside : j < length s.bytes = omega (arith, below, told) in
    let at : buffer_address note j ≡ place (element_pages s.qtd) (s.qtd.offset + j) = s.noted.places j inside in
    let holds : HoldsBuffer m (buffer_name s.qtd) (element_pages s.qtd) s.qtd.offset s.bytes = tells.each n (buffer_name s.qtd) (Buffer (element_pages s.qtd) s.qtd.offset s.bytes) s.here in
    record {
      here = s.here;
      has = (j, inside, ap (λ (a : ℕ). a / 32) at);
      lent = ap (reaches m) at ∙ holds.lent j inside;
    }

-- ---- the qTDs of a transfer

record IsLeftOut (c : Option Command) (made i : ℕ) : Type 0 where
  block : ℕ
  words : List ℕ
  is : c ≡ Some (unfinished.Publish block words)
  first : 1 ≤ made → i ≡ 0

left_out : (c : Option Command) (made n i : ℕ) → i < unpublished c made n → IsLeftOut c made i
left_out (Some (unfinished.Publish b words)) zero n i below = record { block = b; words = words; is = refl; first = λ some. absurd (omega (arith, some)) }
left_out (Some (unfinished.Publish b words)) (suc made) n i below = record { block = b; words = words; is = refl; first = λ some. omega (arith, below) }
left_out _ made n i below = absurd (omega (arith, below))

record IsNewest (d : DriverContent) (t i : ℕ) (y : Transfer) : Type 0 where
  newest : suc t ≡ length d.transfers
  out : IsLeftOut d.command d.made i

newest_by : (d : DriverContent) (t i : ℕ) (y : Transfer) (b : Bool) → nat_eq (suc t) (length d.transfers) ≡ b → i < cond b (unpublished d.command d.made y.qtds) 0 → IsNewest d t i y
newest_by d t i y true is below = record { newest = grind (arith, nat_tests, is); out = left_out d.command d.made y.qtds i below }
newest_by d t i y false is below = absurd (omega (arith, below))

-- each is stored, but where its transfer is still to be lent
pub pieces_stored : (d : DriverContent) (parts : StructureSets) (t i : ℕ) (y : Transfer) (x : Endpoint) → is_request y.sort ≡ false → AreFed d parts → slice_get d.transfers t ≡ Some y → y.released ≡ false → slice_get d.endpoints y.endpoint ≡ Some x
    → (suc t ≡ length d.transfers → (b : ℕ) (words : List ℕ) → d.command ≡ Some (unfinished.Publish b words) → 1 ≤ d.made) → i < y.qtds → 0 < (note_at d.notes (piece_at (note_in d.notes) y.first i)).told
    → IsStored (parts (32 * x.queue)) (note_at d.notes (piece_at (note_in d.notes) y.first i))
pieces_stored d parts t i y x plain fed there held here lent below some =
    ⊎_elim
    (λ (early : i < unpublished_of d t y).
    let k = newest_by d t i y (nat_eq (suc t) (length d.transfers)) refl early in
    let made : 1 ≤ d.made = lent k.newest k.out.block k.out.words k.out.is in
    let p : IsPublished d parts k.out.block k.out.words = fed.publishes k.out.block k.out.words k.out.is in
    let first : i ≡ 0 = k.out.first made in
    let number : t ≡ p.number = (let one = k.newest in let other = p.newest in omega (arith, one, other)) in
    let same : y ≡ p.transfer = same_Some y p.transfer (sym there ∙ ap (slice_get d.transfers) number ∙ p.there) in
    let end : x ≡ p.endpoint = same_Some x p.endpoint (sym here ∙ ap (λ (r : Transfer). slice_get d.endpoints r.endpoint) same ∙ p.here) in
    let block : piece_at (note_in d.notes) y.first i ≡ k.out.block = ap (piece_at (note_in d.notes) y.first) first ∙ ap (λ (r : Transfer). r.first) same ∙ p.place.0 in
    subst (λ (c : ℕ). IsStored (parts (32 * x.queue)) (note_at d.notes c)) (sym block)
    (subst (λ (z : Endpoint). IsStored (parts (32 * z.queue)) (note_at d.notes k.out.block)) (sym end)
    (published_stored d parts k.out.block k.out.words p (ap (λ (r : Transfer). is_request r.sort) (sym same) ∙ plain) made (subst (λ (c : ℕ). 0 < (note_at d.notes c).told) block some))))
    (λ (late : unpublished_of d t y ≤ i).
    fed_stored y.sort (parts (32 * x.queue)) (note_at d.notes (piece_at (note_in d.notes) y.first i)) (piece_at (note_in d.notes) y.first i) (piece_at (note_in d.notes) y.first y.qtds)
    (told_fed y.sort (parts (32 * x.queue)) i (note_at d.notes (piece_at (note_in d.notes) y.first i)) (piece_at (note_in d.notes) y.first i) (piece_at (note_in d.notes) y.first y.qtds) plain (fed.pieces t i y x there held here late below)) some)
    (cases_lt i (unpublished_of d t y))
