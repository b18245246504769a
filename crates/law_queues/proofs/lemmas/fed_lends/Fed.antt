-- Queues are fed once a transfer is lent.
use Rattle.std.proofs.Common.{◌≡◌, ◌≢◌, ℕ, zero, suc, ◌-◌, ◌*◌, ◌<◌, ◌≤◌, ◌||◌, false, true, List, [], ◌∷◌, length, nat_eq, cond, slice_get, Option, Some, None, option_map, ap, sym, subst, ◌∙◌, ⊎_elim, arith}
use Rattle.std.proofs.lemmas.Bool.{cases_eq, eq-eqb}
use Rattle.std.proofs.lemmas.Option.{same_Some}
use Rattle.law_queues.proofs.Common.{one_qtd, end_is}
use Rattle.word_mem.specs.Memory.{Mem, IsShaped}
use Rattle.qh_qtd.specs.declared.qtd.Qtd.{Qtd}
use Rattle.mem_runs.specs.declared.slots.Slot.{Slot}
use Rattle.mem_runs.specs.Book.{holding, slot_of, Stands}
use Rattle.drv_table.specs.declared.content.Endpoint.{Endpoint}
use Rattle.drv_table.specs.declared.content.Transfer.{Transfer}
use Rattle.drv_table.specs.declared.content.QtdNote.{QtdNote}
use Rattle.drv_table.specs.declared.content.Sort.{Sort}
use Rattle.drv_table.specs.declared.content.Stage.{Stage}
use Rattle.drv_table.specs.declared.content.Command.{Command}
use Rattle.drv_table.specs.declared.content.Command.TheVariants as unfinished
use Rattle.drv_table.specs.DriverContent.{DriverContent}
use Rattle.drv_table.specs.Words.{dummy_qtd}
use Rattle.drv_table.specs.Harvests.{note_at}
use Rattle.drv_table.specs.Kinds.{is_iso}
use Rattle.drv_table.specs.Offers.{is_last}
use Rattle.claims_driver.specs.Owners.{Element as ElementOwner, Dummy, Buffer as BufferOwner, EndpointRuns, TransferRuns, runs_of_endpoint, runs_of_transfer, note_in, views_of}
use Rattle.claims_driver.specs.Leaving.{HasOwners}
use Rattle.law_structures.specs.lent_structures.Structures.{Element, StructureSets}
use Rattle.law_structures.specs.lent_structures.Sound.{buffer_name}
use Rattle.law_ring.specs.Effects.{bytes_in, buffer_of}
use Rattle.law_driver_ring.specs.Inventory.{IsLent}
use Rattle.law_driver_ring.specs.Published.{partly, IsPublishable}
use Rattle.law_driver.specs.chained_transfers.Chains.{piece_at}
use Rattle.law_driver.specs.chained_transfers.Bulk.{sort_by}
use Rattle.law_driver.specs.chained_transfers.Asynchronous.{OnlyAsynchronous}
use Rattle.law_driver.specs.chained_transfers.Out.{unpublished}
use Rattle.law_driver_ring.specs.fed_queues.Fed.{size_of, sized, IsPieceFed, unpublished_of, IsPublished, AreFed}
use Rattle.law_driver_ring.specs.Pieces.{stage_qtd}
use Rattle.law_driver_ring.specs.TransferLaws.{lent_driver, HasPieces}
use Rattle.law_driver_ring.proofs.Lists.{IsOneOf}
use Rattle.law_driver_ring.proofs.Holding.{qtd_range, blocks_low}
use Rattle.law_driver_ring.proofs.TransferOwning.{not_taken}
use Rattle.law_driver_ring.proofs.Pieces.{last_stands}
use Rattle.law_driver_ring.proofs.TransferLending.{lent_on_views}
use Rattle.law_queues.specs.fed_lends.ToLend.{IsToBeLent, lent_now}
use Rattle.law_queues.proofs.lemmas.fed_lends.Reporting.{long_new}
use Rattle.law_queues.proofs.lemmas.fed_lends.Stages.{stages_are}
use Rattle.law_queues.proofs.lemmas.fed_lends.Feeding.{new_fed}
use Rattle.law_queues.proofs.lemmas.fed_lends.Names.{older_published}
use Rattle.law_driver.proofs.lemmas.chained_transfers.BulkAndControl.{not_iso}
use Rattle.law_driver.proofs.lemmas.chained_transfers.Staying.{stands_alive}

-- ---- what holds when a transfer is lent

abbrev pub y_of : {d : DriverContent} {m : Mem} {b : ℕ} {words : List ℕ} → IsToBeLent d m b words → TransferRuns
y_of k = runs_of_transfer k.transfer

abbrev pub x_of : {d : DriverContent} {m : Mem} {b : ℕ} {words : List ℕ} → IsToBeLent d m b words → EndpointRuns
x_of k = runs_of_endpoint k.endpoint

pub record IsLending (d : DriverContent) (m : Mem) (b : ℕ) (words : List ℕ) (parts now : StructureSets) : Type 0 where
  pub ready : IsToBeLent d m b words
  pub has : HasOwners d
  pub stands : Stands (holding d.book m)
  pub shape : IsShaped m
  pub asynchronous : OnlyAsynchronous d
  pub fed : AreFed d parts
  pub pieces : HasPieces d (slot_of (lent_driver d m).book.slots) parts now (y_of ready) (x_of ready) ready.stage ready.further

-- ---- old structures

pub buffers_same : (d : DriverContent) (slot : ℕ → Slot) (parts now : StructureSets) (y : TransferRuns) (x : EndpointRuns) (s : Stage) (ss : List Stage) (n a : ℕ) (u : Qtd) → HasPieces d slot parts now y x s ss → parts n a ≡ Some (Element u) → buffer_of (now n) u ≡ buffer_of (parts n) u
buffers_same d slot parts now y x s ss n a u has there =
    ⊎_elim
    (λ (same : n ≡ 32 * x.queue).
    ap (λ (i : ℕ). buffer_of (now i) u) same ∙ ap bytes_in (has.old_buffers a u (ap (λ (i : ℕ). parts i a) (sym same) ∙ there)) ∙ ap (λ (i : ℕ). buffer_of (parts i) u) (sym same))
    (λ (differs : n ≢ 32 * x.queue). ap (λ part. buffer_of part u) (has.beside n differs)) (cases_eq n (32 * x.queue))

still_fed : (d : DriverContent) (slot : ℕ → Slot) (parts now : StructureSets) (y : TransferRuns) (x : EndpointRuns) (s : Stage) (ss : List Stage) (n b end : ℕ) (sort : Sort) (note : QtdNote) → HasPieces d slot parts now y x s ss → IsPieceFed sort (parts n) note b end → IsPieceFed sort (now n) note b end
still_fed d slot parts now y x s ss n b end sort note has p = record {
  qtd = p.qtd;
  here = has.still n (32 * b) (Element p.qtd) p.here;
  noted = p.noted;
  buffer = λ some. let h = p.buffer some in record { bytes = h.bytes; here = has.still n (buffer_name p.qtd) _ h.here; size = h.size };
  long = ap length (buffers_same d slot parts now y x s ss n (32 * b) p.qtd has p.here) ∙ p.long;
  places = p.places;
  fresh = p.fresh;
  blank = p.blank;
}

-- ---- other endpoints

pub bare_is : (d : DriverContent) (e : ℕ) (x : Endpoint) → OnlyAsynchronous d → slice_get d.endpoints e ≡ Some x → x.gone ≡ false → (is_iso x.desc.kind || x.gone) ≡ false
bare_is d e x only here kept = ap (λ b. b || x.gone) (not_iso x.desc (only.endpoints e x here).asynchronous) ∙ kept

-- its own endpoint goes on
pub its_alive : (d : DriverContent) (m : Mem) (b : ℕ) (words : List ℕ) → OnlyAsynchronous d → (k : IsToBeLent d m b words) → k.endpoint.gone ≡ false
its_alive d m b words only k = stands_alive k.endpoint (only.endpoints k.transfer.endpoint k.endpoint k.here) k.going

-- what another endpoint has at the end of its queue was lent before
pub other_lent : (d : DriverContent) (m : Mem) (b : ℕ) (words : List ℕ) (parts now : StructureSets) (e : ℕ) (x : Endpoint) → (l : IsLending d m b words parts now) → slice_get d.endpoints e ≡ Some x → x.gone ≡ false → e ≢ l.ready.transfer.endpoint → IsLent (slot_of (lent_driver d m).book.slots x.dummy) → IsLent (slot_of d.book.slots x.dummy)
other_lent d m b words parts now e x l here kept differs lent =
    let k = l.ready in
    let on = lent_on_views d m k.number (y_of k) (x_of k) k.stage k.further k.awaits l.has l.stands l.shape in
    let placed = l.has.owned.each.dummy e (runs_of_endpoint x) (ap (option_map runs_of_endpoint) here) (bare_is d e x l.asynchronous here kept) in
    let none : IsOneOf x.dummy d.book.taken → ⊥ =
    not_taken (views_of d) (views_of (lent_driver d m)) l.has.owner k.number (y_of k) (x_of k) d.book.taken x.dummy (Dummy e) on placed (λ same. no_element k.number same) (λ same. differs (one_dummy k.transfer.endpoint same)) (λ same. no_buffer k.number same) in
    subst IsLent (on.others x.dummy none) lent
  where
    no_element : (t : ℕ) → Dummy e ≡ ElementOwner t → ⊥
    no_element t same = cc

    one_dummy : (f : ℕ) → Dummy e ≡ Dummy f → e ≡ f
    one_dummy f same = cc

    no_buffer : (t : ℕ) → Dummy e ≡ BufferOwner t → ⊥
    no_buffer t same = cc

-- ---- the dummies

pub dummy_here : (d : DriverContent) (m : Mem) (b : ℕ) (words : List ℕ) (parts now : StructureSets) → (l : IsLending d m b words parts now) → now (32 * l.ready.endpoint.queue) (32 * l.ready.endpoint.dummy) ≡ Some (Element dummy_qtd)
dummy_here d m b words parts now l =
    let k = l.ready in
    ap (λ (c : ℕ). now (32 * k.endpoint.queue) (32 * c)) (sym k.awaits.ends)
    ∙ last_stands (now (32 * k.endpoint.queue)) d.notes k.endpoint.dummy k.further (note_at d.notes k.transfer.first).next l.pieces.standing

dummies_fed : (d : DriverContent) (m : Mem) (b : ℕ) (words : List ℕ) (parts now : StructureSets) → IsLending d m b words parts now → (e : ℕ) (x : Endpoint) → slice_get d.endpoints e ≡ Some x → x.gone ≡ false → IsLent (slot_of (lent_driver d m).book.slots x.dummy) → now (32 * x.queue) (32 * x.dummy) ≡ Some (Element dummy_qtd)
dummies_fed d m b words parts now l e x here kept lent =
    let k = l.ready in
    ⊎_elim
    (λ (same : e ≡ k.transfer.endpoint).
    let is : x ≡ k.endpoint = same_Some x k.endpoint (sym here ∙ ap (slice_get d.endpoints) same ∙ k.here) in
    ap (λ (z : Endpoint). now (32 * z.queue) (32 * z.dummy)) is ∙ dummy_here d m b words parts now l)
    (λ (differs : e ≢ k.transfer.endpoint). l.pieces.still (32 * x.queue) (32 * x.dummy) (Element dummy_qtd) (l.fed.dummies e x here kept (other_lent d m b words parts now e x l here kept differs lent)))
    (cases_eq e k.transfer.endpoint)

-- ---- the pieces

newest_unpublished : (d : DriverContent) (m : Mem) (b : ℕ) (words : List ℕ) (y : Transfer) (t : ℕ) → (k : IsToBeLent d m b words) → t ≡ k.number → unpublished_of (lent_now d m) t y ≡ 1
newest_unpublished d m b words y t k same =
    let last : nat_eq (suc t) (length d.transfers) ≡ true = eq-eqb (suc t) (length d.transfers) (ap suc same ∙ k.newest) in
    ap (λ c. cond c (unpublished d.command 1 y.qtds) 0) last ∙ ap (λ (c : Option Command). unpublished c 1 y.qtds) k.command

new_piece : (d : DriverContent) (m : Mem) (b : ℕ) (words : List ℕ) (parts now : StructureSets) (i : ℕ) → (l : IsLending d m b words parts now) → 1 ≤ i → i < l.ready.transfer.qtds
    → IsPieceFed l.ready.transfer.sort (now (32 * l.ready.endpoint.queue)) (sized l.ready.transfer.sort i (note_at d.notes (piece_at (note_in d.notes) l.ready.transfer.first i))) (piece_at (note_in d.notes) l.ready.transfer.first i) (piece_at (note_in d.notes) l.ready.transfer.first l.ready.transfer.qtds)
new_piece d m b words parts now zero l from below = absurd (omega (arith, from))
new_piece d m b words parts now (suc i) l from below =
    let k = l.ready in
    let r = k.awaits in
    let first = k.transfer.first in
    let many = r.qtds in
    let end : piece_at (note_in d.notes) first k.transfer.qtds ≡ k.endpoint.dummy = ap (piece_at (note_in d.notes) first) many ∙ end_is d.notes (k.stage ∷ k.further) first ∙ r.ends in
    let block = piece_at (note_in d.notes) (note_at d.notes first).next i in
    subst (λ (sort : Sort). IsPieceFed sort (now (32 * k.endpoint.queue)) (note_at d.notes block) block (piece_at (note_in d.notes) first k.transfer.qtds)) (sym k.sort)
    (new_fed (sort_by k.endpoint.desc.name.way) (holding d.book m) (now (32 * k.endpoint.queue)) d.notes k.endpoint.dummy k.further (note_at d.notes first).next (piece_at (note_in d.notes) first k.transfer.qtds) i l.stands r.noted.1 (stages_are k.endpoint.desc.name.way (k.stage ∷ k.further) k.stages).1 r.short.1 l.pieces.standing l.pieces.buffered.1 l.pieces.none_at_zero end
    (omega (arith, below, many)))

pieces_fed : (d : DriverContent) (m : Mem) (b : ℕ) (words : List ℕ) (parts now : StructureSets) → IsLending d m b words parts now → (t i : ℕ) (y : Transfer) (x : Endpoint) → slice_get d.transfers t ≡ Some y → y.released ≡ false → slice_get d.endpoints y.endpoint ≡ Some x → unpublished_of (lent_now d m) t y ≤ i → i < y.qtds
    → IsPieceFed y.sort (now (32 * x.queue)) (sized y.sort i (note_at d.notes (piece_at (note_in d.notes) y.first i))) (piece_at (note_in d.notes) y.first i) (piece_at (note_in d.notes) y.first y.qtds)
pieces_fed d m b words parts now l t i y x there held here from below =
    let k = l.ready in
    ⊎_elim
    (λ (same : t ≡ k.number).
    let is : y ≡ k.transfer = same_Some y k.transfer (sym there ∙ ap (slice_get d.transfers) same ∙ k.there) in
    let queue : x ≡ k.endpoint = same_Some x k.endpoint (sym here ∙ ap (λ (z : Transfer). slice_get d.endpoints z.endpoint) is ∙ k.here) in
    let one = newest_unpublished d m b words y t k same in
    let qtds = ap (λ (z : Transfer). z.qtds) is in
    subst (λ (z : Endpoint). IsPieceFed y.sort (now (32 * z.queue)) (sized y.sort i (note_at d.notes (piece_at (note_in d.notes) y.first i))) (piece_at (note_in d.notes) y.first i) (piece_at (note_in d.notes) y.first y.qtds)) (sym queue)
    (subst (λ (z : Transfer). IsPieceFed z.sort (now (32 * k.endpoint.queue)) (sized z.sort i (note_at d.notes (piece_at (note_in d.notes) z.first i))) (piece_at (note_in d.notes) z.first i) (piece_at (note_in d.notes) z.first z.qtds)) (sym is)
    (new_piece d m b words parts now i l (omega (arith, from, one)) (omega (arith, below, qtds)))))
    (λ (differs : t ≢ k.number).
    let none = older_published d m b t words y k differs in
    still_fed d (slot_of (lent_driver d m).book.slots) parts now (y_of k) (x_of k) k.stage k.further (32 * x.queue) (piece_at (note_in d.notes) y.first i) (piece_at (note_in d.notes) y.first y.qtds) y.sort (sized y.sort i (note_at d.notes (piece_at (note_in d.notes) y.first i))) l.pieces
    (l.fed.pieces t i y x there held here (omega (arith, none)) below))
    (cases_eq t k.number)

-- ---- the first qTD

pub one_command : (b c : ℕ) (ws vs : List ℕ) → ◌≡◌ {A = Option Command} (Some (unfinished.Publish b ws)) (Some (unfinished.Publish c vs)) → (b ≡ c) × (ws ≡ vs)
one_command b c ws vs same = (ap (λ o. block_of o) same, ap (λ o. words_of o) same)
  where
    block_of : Option Command → ℕ
    block_of None = 0
    block_of (Some (unfinished.Publish i us)) = i
    block_of (Some _) = 0

    words_of : Option Command → List ℕ
    words_of (Some (unfinished.Publish i us)) = us
    words_of _ = []

first_fed : (d : DriverContent) (m : Mem) (b : ℕ) (words : List ℕ) (parts now : StructureSets) → IsLending d m b words parts now → (c : ℕ) (ws : List ℕ) → d.command ≡ Some (unfinished.Publish c ws) → IsPublished (lent_now d m) now c ws
first_fed d m b words parts now l c ws command =
    let k = l.ready in
    let r = k.awaits in
    let first = k.transfer.first in
    let n = 32 * k.endpoint.queue in
    let q = stage_qtd d.notes k.stage first k.endpoint.dummy (is_last k.further) in
    let p = l.fed.publishes c ws command in
    let both = one_command c b ws words (sym command ∙ k.command) in
    let number : p.number ≡ k.number = let e = p.newest in let f = k.newest in omega (arith, e, f) in
    let transfer : p.transfer ≡ k.transfer = same_Some p.transfer k.transfer (sym p.there ∙ ap (slice_get d.transfers) number ∙ k.there) in
    let endpoint : p.endpoint ≡ k.endpoint = same_Some p.endpoint k.endpoint (sym p.here ∙ ap (λ (y : Transfer). slice_get d.endpoints y.endpoint) transfer ∙ k.here) in
    let block : c ≡ first = both.0 ∙ sym k.first in
    let range = qtd_range k.stage (note_at d.notes first).next k.endpoint.dummy (note_at d.notes first).buffer (is_last k.further) r.pids.0 r.short.0 (blocks_low (holding d.book m) (note_at d.notes first) k.stage l.stands l.shape r.noted.0) in
    let is : p.qtd ≡ q = one_qtd p.qtd q p.range range (sym p.are ∙ both.1 ∙ k.are) in
    let none : d.made - 1 ≡ 0 = let e = k.made in omega (arith, e) in
    let way = k.endpoint.desc.name.way in
    let sort : p.transfer.sort ≡ sort_by way = ap (λ (y : Transfer). y.sort) transfer ∙ k.sort in
    let size : size_of (sort_by way) 0 (note_at d.notes first).told ≡ k.stage.long = ap (size_of (sort_by way) 0) r.noted.0.told ∙ (stages_are way (k.stage ∷ k.further) k.stages).0.size in
    let long : length (buffer_of (now n) q) ≡ size_of (sort_by way) 0 (note_at d.notes first).told =
    long_new (slot_of d.book.slots) (now n) d.notes k.stage first k.endpoint.dummy (is_last k.further) r.noted.0 l.pieces.buffered.0 l.pieces.none_at_zero ∙ sym size in
    record {
      number = p.number;
      transfer = p.transfer;
      endpoint = p.endpoint;
      newest = p.newest;
      there = p.there;
      fresh = p.fresh;
      place = p.place;
      here = p.here;
      going = p.going;
      qtd = p.qtd;
      are = p.are;
      range = p.range;
      noted = p.noted;
      active = p.active;
      pid = p.pid;
      total = p.total;
      stored = l.pieces.still (32 * p.endpoint.queue) (32 * c) (Element (partly p.qtd 0)) (p.stored ∙ ap (λ (i : ℕ). Some (Element (partly p.qtd i))) none);
      places = p.places;
      blank = p.blank;
      few = omega arith;
      long = λ some.
          ap (λ (x : Endpoint). length (buffer_of (now (32 * x.queue)) p.qtd)) endpoint ∙ ap (λ (t : Qtd). length (buffer_of (now n) t)) is ∙ long
          ∙ ap (λ (i : ℕ). size_of (sort_by way) 0 (note_at d.notes i).told) (sym block) ∙ ap (λ (s : Sort). size_of s 0 (note_at d.notes c).told) (sym sort);
      may = λ some.
          subst (λ (x : Endpoint). IsPublishable (now (32 * x.queue)) (32 * c) p.qtd) (sym endpoint)
          (subst (λ (i : ℕ). IsPublishable (now n) (32 * i) p.qtd) (sym block) (subst (IsPublishable (now n) (32 * first)) (sym is) l.pieces.first));
    }

pub queues_fed : (d : DriverContent) (m : Mem) (b : ℕ) (words : List ℕ) (parts now : StructureSets) → IsLending d m b words parts now → AreFed (lent_now d m) now
queues_fed d m b words parts now l = record { dummies = dummies_fed d m b words parts now l; pieces = pieces_fed d m b words parts now l; publishes = first_fed d m b words parts now l }
