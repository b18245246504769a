-- Each event of the driver leaves what each put holds.
use Rattle.std.proofs.Common.{◌≡◌, ℕ, zero, suc, ◌+◌, ◌*◌, ◌/◌, ◌<◌, ◌≤◌, Bool, true, false, cond, nat_lt, List, [], ◌∷◌, ◌++◌, drop, reverse, map, set, get_or, slice_get, slice_index, Option, Some, None, option_map, ap, refl, sym, subst, ◌∙◌, ⊎_elim, inl, arith}
use Rattle.std.specs.List.{AllByRecursion}
use Rattle.std.proofs.lemmas.Bool.{false≢true}
use Rattle.std.proofs.lemmas.Option.{same_Some}
use Rattle.law_common.proofs.Lists.{none_there}
use Rattle.law_driver.proofs.Common.{lent_slot}
use Rattle.law_world.proofs.Common.{framed_same}
use Rattle.word_mem.specs.Memory.{Mem}
use Rattle.qh_qtd.specs.declared.qtd.Qtd.{Qtd}
use Rattle.qh_qtd.specs.declared.queue_head.Qh.{Qh}
use Rattle.async_walk.specs.Walk.{Walk}
use Rattle.async_walk.specs.Rows.{place}
use Rattle.mem_runs.specs.Book.{Holding, holding, slot_at, lend_slot, lend_runs, none_taken, lend_taken, store}
use Rattle.drv_table.specs.declared.content.Endpoint.{Endpoint}
use Rattle.drv_table.specs.declared.content.Command.{Command}
use Rattle.drv_table.specs.declared.content.Command.TheVariants as unfinished
use Rattle.drv_table.specs.declared.content.Mend.{Mend}
use Rattle.drv_table.specs.declared.content.Turn.TheVariants as turn_of
use Rattle.drv_table.specs.declared.content.Transfer.{Transfer}
use Rattle.drv_table.specs.declared.content.QtdNote.{QtdNote}
use Rattle.drv_table.specs.declared.rows.DriverRow.{DriverRow}
use Rattle.drv_table.specs.declared.rows.DriverRow.TheVariants as rows
use Rattle.drv_table.specs.DriverContent.{DriverContent}
use Rattle.drv_table.specs.Harvests.{note_at, buffer_address}
use Rattle.drv_table.specs.Parts.{Parts as DriverParts}
use Rattle.drv_table.specs.Commands.{store_order, events_of, links, leave_ring, no_command, advanced_by, advance}
use Rattle.drv_table.specs.FrameChoice.{linked_by}
use Rattle.drv_table.specs.Rows.{driver_row, after_driver_row}
use Rattle.drv_table.specs.Words.{head_block}
use Rattle.law_driver.specs.run_owners.Due.{IsDue, IsNextOf, IsLinkOf, IsTransferDue}
use Rattle.claims_driver.specs.Leaving.{HasOwners}
use Rattle.claims_driver.specs.Owners.{note_in, views_of}
use Rattle.law_driver.proofs.lemmas.run_owners.Reasons.{each_event_is_due}
use Rattle.law_driver.specs.chained_transfers.Bulk.{IsBulkCommand, MovesAs}
use Rattle.law_driver.specs.chained_transfers.Asynchronous.{OnlyAsynchronous}
use Rattle.law_driver.specs.chained_transfers.Chains.{piece_at}
use Rattle.law_driver.specs.chained_transfers.AsynchronousTurns.{AsynchronousTakesTurns}
use Rattle.law_driver.proofs.lemmas.chained_transfers.Events.{first_owed}
use Rattle.law_structures.specs.lent_structures.Structures.{Structure, QueueHead, Element, Buffer, StructureSets, Has, Tells}
use Rattle.law_structures.specs.lent_structures.Sound.{element_pages, buffer_name}
use Rattle.law_ring.specs.Hand.{Hand}
use Rattle.claims_base.specs.Controller.{Base}
use Rattle.law_driver_ring.specs.Inventory.{sort_of, sorts_of, OfQueueHead, IsDriven}
use Rattle.law_driver_ring.specs.Driven.{DrivesRing}
use Rattle.law_driver_ring.specs.fed_queues.Fed.{is_request, IsPublished, AreFed}
use Rattle.law_queues.specs.released_queues.Released.{ReleaseStands}
use Rattle.law_world.proofs.lemmas.streams.lemmas.put_laws.Words.{store_other}
use Rattle.law_world.specs.steps.unlinked_streams.Unlinks.{IsAtUnlink}
use Rattle.law_world.specs.streams.put_laws.HeldPuts.{HoldsPuts}
use Rattle.law_world.specs.streams.put_laws.HeldLaws.{IsInHead, IsReleasedMet, DriverHoldsPuts}
use Rattle.law_world.proofs.lemmas.streams.lemmas.put_laws.HeldAlike.{note_is, was_itself, puts_stay, alike_holds, same_holds}
use Rattle.law_world.proofs.lemmas.streams.lemmas.put_laws.Stored.{IsStored, pieces_stored, words_stored, either_way, IsInBuffer, stored_at}
use Rattle.law_world.proofs.lemmas.streams.lemmas.put_laws.Harvested.{Likes, harvest_like}
use Rattle.law_world.proofs.lemmas.streams.lemmas.put_laws.Released.{release_holds}

-- ---- the command goes on

pub record IsToldSo (d f : DriverContent) : Type 0 where
  pub transfers : f.transfers ≡ d.transfers
  pub notes : f.notes ≡ d.notes

either : (d : DriverContent) (b : Bool) → IsToldSo d (cond b (record d { made = suc d.made }) (no_command d))
either d true = record { transfers = refl; notes = refl }
either d false = record { transfers = refl; notes = refl }

told_by : (d f g : DriverContent) (b : Bool) → IsToldSo d f → IsToldSo d g → IsToldSo d (cond b f g)
told_by d f g true one other = one
told_by d f g false one other = other

left_so : (d : DriverContent) (e : ℕ) (o : Option Endpoint) → IsToldSo d (leave_ring (no_command d) e o)
left_so d e None = record { transfers = refl; notes = refl }
left_so d e (Some x) =
    told_by d (record (no_command d) { waiting = d.waiting ++ e ∷ []; endpoints = set d.endpoints e (record x { linked = false }) }) (no_command d) x.linked (record { transfers = refl; notes = refl })
    (record { transfers = refl; notes = refl })

pub advanced_keeps : (d : DriverContent) (o : Option Command) → IsBulkCommand o → IsToldSo d (advanced_by d o)
advanced_keeps d None is = record { transfers = refl; notes = refl }
advanced_keeps d (Some (unfinished.Open queue)) is = either d (nat_lt (suc d.made) 2)
advanced_keeps d (Some (unfinished.Publish b words)) is = either d (nat_lt (suc d.made) 9)
advanced_keeps d (Some (unfinished.Unlink e b link)) is =
    told_by d (record d { made = suc d.made }) (leave_ring (no_command d) e (slice_get d.endpoints e)) (nat_lt (suc d.made) 1) (record { transfers = refl; notes = refl }) (left_so d e (slice_get d.endpoints e))
advanced_keeps d _ is = absurd is

-- ---- a lend changes no word

pub runs_words : (h : Holding) (bs : List ℕ) → (lend_runs h bs).memory.words ≡ h.memory.words
unfolding lend_runs
runs_words h [] = refl
runs_words h (b ∷ bs) = runs_words (lend_slot h b (slot_at h b)) bs ∙ lent_slot h b (slot_at h b)

lent_holds : (d : DriverContent) (m q : Mem) (puts : ℕ → List ℕ) → OnlyAsynchronous d → q ≡ m → HoldsPuts d m puts → HoldsPuts (advance (record d { book = (lend_taken (holding d.book q)).book })) (lend_taken (holding d.book q)).memory puts
lent_holds d m q puts bulk same held =
    let h : Holding = lend_taken (holding d.book q) in
    let f : DriverContent = record d { book = h.book } in
    let keeps : IsToldSo f (advance f) = advanced_keeps f d.command bulk.command in
    let words : h.memory.words ≡ m.words = runs_words (none_taken (holding d.book q)) (reverse d.book.taken) ∙ ap (λ (z : Mem). z.words) same in
    same_holds d (advance f) m h.memory puts keeps.transfers keeps.notes (λ at. ap (λ (ws : List ℕ). get_or ws (at / 4) 0) words) held

-- ---- a store into a structure that is no buffer

record IsBeside (parts : StructureSets) (at : ℕ) : Type 0 where
  owner : ℕ
  name : ℕ
  structure : Structure
  here : parts owner name ≡ Some structure
  has : Has name structure (at / 32)
  other : (pages : List ℕ) (k : ℕ) (bs : List ℕ) → structure ≡ Buffer pages k bs → ⊥

-- the transfers and notes stay
stored_holds : (d f : DriverContent) (m : Mem) (parts : StructureSets) (puts : ℕ → List ℕ) (b at v : ℕ) → IsToldSo d f → AsynchronousTakesTurns d → Tells m parts → AreFed d parts → IsBeside parts at
    → ((c : ℕ) (words : List ℕ) → d.command ≡ Some (unfinished.Publish c words) → 1 ≤ d.made) → HoldsPuts d m puts → HoldsPuts f (store d.book m b at v) puts
stored_holds d f m parts puts b at v keeps turns tells fed beside made held =
    let new : Mem = store d.book m b at v in
    puts_stay d f m new puts
    (λ t y here put still.
    let there : slice_get d.transfers t ≡ Some y = sym (ap (λ (ts : List Transfer). slice_get ts t) keeps.transfers) ∙ here in
    let moves : MovesAs d y = turns.asynchronous.moves t y there in
    let n = 32 * moves.endpoint.queue in
    record {
      was = was_itself d.transfers t y there;
      notes = λ i below. let c = piece_at (note_in d.notes) y.first i in note_is (note_at d.notes c) (note_at f.notes c) (ap (λ (ns : List QtdNote). note_at ns c) keeps.notes);
      bytes = λ i below.
          let note = note_at d.notes (piece_at (note_in d.notes) y.first i) in
          either_way m new note
          (λ some.
          let s : IsStored (parts n) note = pieces_stored d parts t i y moves.endpoint (ap is_request put) fed there still moves.here (λ newest. made) below some in
          words_stored m new note
          (λ j inside.
          let buffer : Structure = Buffer (element_pages s.qtd) s.qtd.offset s.bytes in
          let k : IsInBuffer m parts n buffer (buffer_name s.qtd) (buffer_address note j) = stored_at m parts n note tells s j inside in
          store_other d.book m b at v (buffer_address note j)
          (λ same.
          let block : buffer_address note j / 32 ≡ at / 32 = (let e : at / 32 ≡ buffer_address note j / 32 = omega (arith, same) in sym e) in
          let one = tells.alone beside.owner beside.name n (buffer_name s.qtd) beside.structure buffer (at / 32) beside.here k.here beside.has (subst (Has (buffer_name s.qtd) buffer) block k.has) in
          beside.other (element_pages s.qtd) s.qtd.offset s.bytes
          (same_Some beside.structure buffer (sym beside.here ∙ ap (λ (i : ℕ). parts i beside.name) (sym one.0) ∙ ap (parts n) (sym one.1) ∙ k.here)))));
    }) held

store_holds : (d : DriverContent) (m : Mem) (parts : StructureSets) (puts : ℕ → List ℕ) (b at v : ℕ) → AsynchronousTakesTurns d → Tells m parts → AreFed d parts → IsBeside parts at
    → ((c : ℕ) (words : List ℕ) → d.command ≡ Some (unfinished.Publish c words) → 1 ≤ d.made) → HoldsPuts d m puts → HoldsPuts (advance d) (store d.book m b at v) puts
store_holds d m parts puts b at v turns tells fed beside made held =
    stored_holds d (advance d) m parts puts b at v (advanced_keeps d d.command turns.asynchronous.command) turns tells fed beside made held

-- a stalled control endpoint's queue head is no buffer
mend_holds : (d : DriverContent) (m : Mem) (parts : StructureSets) (puts : ℕ → List ℕ) (w : Mend) → d.command ≡ None → AsynchronousTakesTurns d → Tells m parts → AreFed d parts → IsInHead parts w.at
    → HoldsPuts d m puts → HoldsPuts (record d { mends = drop 1 d.mends; turn = turn_of.Harvest }) (store d.book m w.queue w.at w.value) puts
mend_holds d m parts puts w idle turns tells fed head held =
    stored_holds d (record d { mends = drop 1 d.mends; turn = turn_of.Harvest }) m parts puts w.queue w.at w.value (record { transfers = refl; notes = refl }) turns tells fed
    (record {
      owner = 32 * head.block;
      name = 32 * head.block;
      structure = QueueHead head.head;
      here = head.here;
      has = inl (head.within ∙ (let e : head.block ≡ 32 * head.block / 32 = omega arith in e));
      other = λ pages k bs e. cc;
    })
    (λ c words publish. absurd (no_publish c words (sym idle ∙ publish))) held
  where
    no_publish : (c : ℕ) (words : List ℕ) → ◌≡◌ {A = Option Command} None (Some (unfinished.Publish c words)) → ⊥
    no_publish c words e = cc

-- ---- which store it is

at_of : DriverRow → ℕ
at_of (rows.Store b at v) = at
at_of _ = 0

same_at : (b at v c to u : ℕ) → ◌≡◌ {A = Option DriverRow} (Some (rows.Store b at v)) (Some (rows.Store c to u)) → at ≡ to
unfolding at_of
same_at b at v c to u is = ap at_of (same_Some (rows.Store b at v) (rows.Store c to u) is)

abbrev publish_store : ℕ → List ℕ → ℕ → DriverRow
publish_store b words i = rows.Store b (32 * b + 4 * i) (slice_index words i)

store_in : (b : ℕ) (words is : List ℕ) (j c at v : ℕ) → AllByRecursion (λ i. i < 8) is → slice_get (map (publish_store b words) is) j ≡ Some (rows.Store c at v) → at / 32 ≡ b
store_in b words [] j c at v all next = absurd (cc)
store_in b words (i ∷ is) zero c at v all next =
    let place : 32 * b + 4 * i ≡ at = same_at b (32 * b + 4 * i) (slice_index words i) c at v next in
    let few = all.0 in
    omega (arith, place, few)
store_in b words (i ∷ is) (suc j) c at v all next = store_in b words is j c at v all.1 next

orders_few : AllByRecursion (λ i. i < 8) store_order
orders_few = (omega arith, (omega arith, (omega arith, (omega arith, (omega arith, (omega arith, (omega arith, (omega arith, tt))))))))

element_no_buffer : (t : Qtd) (pages : List ℕ) (k : ℕ) (bs : List ℕ) → Element t ≡ Buffer pages k bs → ⊥
element_no_buffer t pages k bs e = cc

lend_no_store : (b at v : ℕ) → ◌≡◌ {A = Option DriverRow} (Some rows.Lend) (Some (rows.Store b at v)) → ⊥
lend_no_store b at v e = cc

none_no_store : (b at v : ℕ) → ◌≡◌ {A = Option DriverRow} None (Some (rows.Store b at v)) → ⊥
none_no_store b at v e = cc

head_beside : (parts : StructureSets) (at : ℕ) → at ≡ 32 * head_block → (o : Option Structure) → parts (32 * head_block) (32 * head_block) ≡ o → option_map sort_of o ≡ Some OfQueueHead → IsBeside parts at
head_beside parts at same None is sort = absurd (cc)
head_beside parts at same (Some (QueueHead q)) is sort = record {
  owner = 32 * head_block;
  name = 32 * head_block;
  structure = QueueHead q;
  here = is;
  has = inl (ap (λ (a : ℕ). a / 32) same);
  other = λ pages k bs e. cc;
}
head_beside parts at same (Some (Element t)) is sort = absurd (cc)
head_beside parts at same _ is sort = absurd (cc)

-- it isn't the command's first event, and writes the ring's head or the first qTD of the newest transfer
record IsCommandStore (d : DriverContent) (parts : StructureSets) (at : ℕ) : Type 0 where
  beside : IsBeside parts at
  made : (c : ℕ) (words : List ℕ) → d.command ≡ Some (unfinished.Publish c words) → 1 ≤ d.made

open_no_publish : (queue c : ℕ) (words : List ℕ) → ◌≡◌ {A = Option Command} (Some (unfinished.Open queue)) (Some (unfinished.Publish c words)) → ⊥
open_no_publish queue c words e = cc

open_store : (d : DriverContent) (parts : StructureSets) (queue i b at v : ℕ) → d.command ≡ Some (unfinished.Open queue) → IsDriven (views_of d) (sorts_of parts) → slice_get (events_of (unfinished.Open queue)) i ≡ Some (rows.Store b at v)
    → IsCommandStore d parts at
open_store d parts queue zero b at v is driven next = absurd (lend_no_store b at v next)
open_store d parts queue (suc zero) b at v is driven next = record {
  beside = head_beside parts at (sym (same_at head_block (32 * head_block) _ b at v next)) (parts (32 * head_block) (32 * head_block)) refl driven.head;
  made = λ c words publish. absurd (open_no_publish queue c words (sym is ∙ publish));
}
open_store d parts queue (suc (suc i)) b at v is driven next = absurd (none_no_store b at v next)

publish_at : (d : DriverContent) (parts : StructureSets) (c : ℕ) (words : List ℕ) (i b at v : ℕ) → d.command ≡ Some (unfinished.Publish c words) → AreFed d parts → d.made ≡ i
    → slice_get (events_of (unfinished.Publish c words)) i ≡ Some (rows.Store b at v) → IsCommandStore d parts at
publish_at d parts c words zero b at v is fed made next = absurd (lend_no_store b at v next)
publish_at d parts c words (suc i) b at v is fed made next =
    let p : IsPublished d parts c words = fed.publishes c words is in
    let block : at / 32 ≡ c = store_in c words store_order i b at v orders_few next in
    record {
      beside = record {
        owner = 32 * p.endpoint.queue;
        name = 32 * c;
        structure = Element _;
        here = p.stored;
        has = block ∙ (let e : c ≡ 32 * c / 32 = omega arith in e);
        other = λ pages k bs e. element_no_buffer _ pages k bs e;
      };
      made = λ b words publish. omega (arith, made);
    }

unlink_no_publish : (e b link c : ℕ) (words : List ℕ) → ◌≡◌ {A = Option Command} (Some (unfinished.Unlink e b link)) (Some (unfinished.Publish c words)) → ⊥
unlink_no_publish e b link c words f = cc

same_before : (e b link f c to : ℕ) → ◌≡◌ {A = Option Command} (Some (unfinished.Unlink e b link)) (Some (unfinished.Unlink f c to)) → b ≡ c
same_before e b link f c to is = cc

head_no_buffer : (q : Qh) (pages : List ℕ) (k : ℕ) (bs : List ℕ) → QueueHead q ≡ Buffer pages k bs → ⊥
head_no_buffer q pages k bs e = cc

-- it writes the link of the queue head before the one that leaves
unlink_store : (d : DriverContent) (member : ℕ → Bool) (parts : StructureSets) (e c link i b at v : ℕ) → d.command ≡ Some (unfinished.Unlink e c link) → IsAtUnlink d member parts
    → slice_get (events_of (unfinished.Unlink e c link)) i ≡ Some (rows.Store b at v) → IsCommandStore d parts at
unlink_store d member parts e c link zero b at v is k next =
    let same : c ≡ k.before = same_before e c link k.number k.before _ (sym is ∙ k.command) in
    let place : at ≡ 32 * k.before = sym (same_at c (32 * c) link b at v next) ∙ ap (λ (i : ℕ). 32 * i) same in
    record {
      beside = record {
        owner = 32 * k.before;
        name = 32 * k.before;
        structure = QueueHead k.queue;
        here = k.head;
        has = inl (ap (λ (a : ℕ). a / 32) place);
        other = λ pages n bs same. head_no_buffer k.queue pages n bs same;
      };
      made = λ b words publish. absurd (unlink_no_publish e c link b words (sym is ∙ publish));
    }
unlink_store d member parts e c link (suc i) b at v is k next = absurd (none_no_store b at v next)

abbrev FindsUnlink : DriverContent → (ℕ → Bool) → StructureSets → Type 0
FindsUnlink d member parts = (e b link : ℕ) → d.command ≡ Some (unfinished.Unlink e b link) → IsAtUnlink d member parts

command_store : (d : DriverContent) (member : ℕ → Bool) (parts : StructureSets) (c : Command) (b at v : ℕ) → d.command ≡ Some c → IsBulkCommand (Some c) → IsDriven (views_of d) (sorts_of parts) → AreFed d parts
    → FindsUnlink d member parts → slice_get (events_of c) d.made ≡ Some (rows.Store b at v) → IsCommandStore d parts at
command_store d member parts (unfinished.Open queue) b at v is bulk driven fed finds next = open_store d parts queue d.made b at v is driven next
command_store d member parts (unfinished.Publish c words) b at v is bulk driven fed finds next = publish_at d parts c words d.made b at v is fed refl next
command_store d member parts (unfinished.Unlink e c link) b at v is bulk driven fed finds next = unlink_store d member parts e c link d.made b at v is (finds e c link is) next
command_store d member parts _ b at v is bulk driven fed finds next = absurd bulk

unfinished_one : (d : DriverContent) (c : Command) → d.command ≡ Some c → OnlyAsynchronous d → IsBulkCommand (Some c)
unfinished_one d c is bulk = subst (λ (o : Option Command). IsBulkCommand o) is bulk.command

no_links : (c : Command) → IsBulkCommand (Some c) → links c ≡ true → ⊥
no_links unfinished.Chain bulk is = bulk
no_links (unfinished.Iso e t count) bulk is = bulk
no_links (unfinished.Unchain e) bulk is = bulk
no_links _ bulk is = false≢true is

-- ---- rows of frames

linked_same : (d : DriverContent) (m : Mem) (o : Option Command) → IsBulkCommand o → linked_by d m o ≡ m
linked_same d m (Some unfinished.Chain) is = absurd is
linked_same d m (Some (unfinished.Iso e t count)) is = absurd is
linked_same d m (Some (unfinished.Unchain e)) is = absurd is
linked_same d m _ is = refl

-- ---- any row

module _ (base : Base) (member : ℕ → Bool) (parts : StructureSets) (hand : Hand) (w : Walk) (p : DriverParts) (order : ℕ → ℕ → ℕ) (out : ℕ → List ℕ) (puts : ℕ → List ℕ) (owners : HasOwners p.driver) (turns : AsynchronousTakesTurns p.driver) (drives : DrivesRing base member parts hand (place w p.registers p.memory) p.driver) (fed : AreFed p.driver parts) (released : (t : ℕ) → driver_row p ≡ rows.ReleaseTransfer t → ReleaseStands base member parts hand w p order out) (near : IsReleasedMet p) (finds : FindsUnlink p.driver member parts) (heads : (w : Mend) → driver_row p ≡ rows.Mend w → IsInHead parts w.at) (gone : (e : ℕ) → driver_row p ≡ rows.ReleaseEndpoint e → HoldsPuts (after_driver_row (driver_row p) p).driver (after_driver_row (driver_row p) p).memory puts) (held : HoldsPuts p.driver p.memory puts) where
  abbrev Holds : DriverRow → Type 0
  Holds row = HoldsPuts (after_driver_row row p).driver (after_driver_row row p).memory puts

  tells : Tells p.memory parts
  tells = drives.ring.tells

  store_row : (b at v : ℕ) → IsDue p (rows.Store b at v) → Holds (rows.Store b at v)
  store_row b at v due =
      ⊎_elim
      (λ (own : IsNextOf p (rows.Store b at v)).
      let k : IsCommandStore p.driver parts at = command_store p.driver member parts own.command b at v own.unfinished (unfinished_one p.driver own.command own.unfinished turns.asynchronous) drives.driven fed finds own.next in
      store_holds p.driver p.memory parts puts b at v turns tells fed k.beside k.made held)
      (λ (link : IsLinkOf p (rows.Store b at v)). absurd (no_links link.command (unfinished_one p.driver link.command link.unfinished turns.asynchronous) link.links)) due

  release : (t : ℕ) → driver_row p ≡ rows.ReleaseTransfer t → IsTransferDue p t → Holds (rows.ReleaseTransfer t)
  release t row due =
      let o = first_owed p.driver t due.first owners.orderly in
      let moves : MovesAs p.driver o.transfer = turns.asynchronous.moves t o.transfer o.there in
      release_holds base member parts hand w p order out t o.transfer moves.endpoint (released t row)
      (record { free = due.idle; first = due.first; here = o.there; held = o.released; reported = o.reported; endpoint = moves.here; near = near t o.transfer moves.endpoint row o.there moves.here }) turns.asynchronous puts held

  by_row : (row : DriverRow) → driver_row p ≡ row → IsDue p row → Holds row
  by_row rows.Lend is due = lent_holds p.driver p.memory p.memory puts turns.asynchronous refl held
  by_row (rows.Store b at v) is due = store_row b at v due
  by_row (rows.Mend w) is due = mend_holds p.driver p.memory parts puts w due.0 turns tells fed (heads w is) held
  by_row rows.Frames is due = subst (λ (f : DriverContent). HoldsPuts f p.memory puts) (sym (framed_same p.driver p.registers.frame_index p.driver.command turns.asynchronous.command)) held
  by_row rows.LendDescriptors is due =
      lent_holds p.driver p.memory (linked_by p.driver p.memory p.driver.command) puts turns.asynchronous (linked_same p.driver p.memory p.driver.command turns.asynchronous.command) held
  by_row (rows.Unlink t) is due = absurd (none_there p.driver.periodic.unlinks t turns.asynchronous.unlinks due.first)
  by_row (rows.ReleaseRemoved what) is due = absurd (none_there p.driver.periodic.removals due.removal turns.asynchronous.removals due.first)
  by_row (rows.ReleaseTransfer t) is due = release t is due
  by_row (rows.ReleaseEndpoint e) is due = subst Holds is (gone e is)
  by_row (rows.Harvest e t found) is due =
      let k : Likes p.driver (after_driver_row (rows.Harvest e t found) p).driver = harvest_like p.driver p.memory e t found (slice_get p.driver.endpoints e) (slice_get p.driver.transfers t) refl in
      alike_holds p.driver (after_driver_row (rows.Harvest e t found) p).driver p.memory p.memory puts k.transfers k.notes (λ at. refl) held
  by_row rows.Rest is due = held
  by_row _ is due = record { each = held.each }

pub driver_holds_puts : DriverHoldsPuts
driver_holds_puts base member parts hand w p order out puts owners turns drives fed released near finds heads gone held =
    by_row base member parts hand w p order out puts owners turns drives fed released near finds heads gone held (driver_row p) refl (each_event_is_due p)
