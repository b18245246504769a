-- The qTDs of a transfer, with their buffers, are lent beside both walks.
use Rattle.std.proofs.Common.{◌≡◌, ◌≢◌, ℕ, ◌*◌, ◌⊎◌, Bool, true, false, List, Option, Some, ap, sym, subst, ◌∙◌, ⊎_elim}
use Rattle.std.proofs.lemmas.Bool.{cases_eq, cases_Bool}
use Rattle.law_world.proofs.Common.{met_alike}
use Rattle.word_mem.specs.Memory.{Mem}
use Rattle.async_walk.specs.Rows.{place}
use Rattle.drv_table.specs.declared.rows.DriverRow.{DriverRow}
use Rattle.drv_table.specs.declared.rows.DriverRow.TheVariants as rows
use Rattle.drv_table.specs.DriverContent.{DriverContent}
use Rattle.drv_table.specs.Parts.{Parts}
use Rattle.drv_table.specs.Rows.{driver_row, after_driver_row}
use Rattle.drv_table.specs.Commands.{advance}
use Rattle.law_driver.specs.run_owners.Due.{IsDue, IsNextOf}
use Rattle.law_driver.proofs.lemmas.run_owners.Reasons.{each_event_is_due}
use Rattle.claims_driver.specs.LentRuns.{begins_in}
use Rattle.hc_core.specs.Controller.{Content, walk_place}
use Rattle.law_ring.specs.Hand.{Hand}
use Rattle.claims_base.specs.Controller.{Base}
use Rattle.law_driver_ring.specs.Driven.{DrivesRing}
use Rattle.law_driver_ring.specs.Extents.{AreInRuns}
use Rattle.law_driver_ring.proofs.Lent.{lend_taken_leaves}
use Rattle.law_driver_ring.proofs.Viewing.{advance_views}
use Rattle.law_driver.specs.in_place.InPlace.{IsInPlace}
use Rattle.law_driver.proofs.lemmas.in_place.Laws.{events_keep_all_in_place}
use Rattle.law_queues.specs.shared_memory.Shared.{parts_of}
use Rattle.law_frames.specs.Met.{Kind, IsMetQueue}
use Rattle.law_frames.specs.FrameHand.{FrameHand}
use Rattle.law_controller.specs.frame_control.Both.{RunsBoth}
use Rattle.law_descriptors.specs.Described.{AreDescribed}
use Rattle.law_descriptors.specs.Both.{both}
use Rattle.law_descriptors.specs.PartLaws.{IsDescribing}
use Rattle.law_descriptors.specs.Told.{with_memory}
use Rattle.law_descriptors.specs.Meeting.{met}
use Rattle.law_descriptors.proofs.Others.{queue_lend_describes}
use Rattle.law_descriptors.proofs.Rings.{ring_is_of_queues, list_is_of_queues}
use Rattle.law_world.specs.memory.framed_memory.Now.{IsFramedNow}
use Rattle.law_world.proofs.lemmas.memory.lemmas.framed_memory.Now.{RowLeaves, next_now}
use Rattle.law_world.proofs.lemmas.memory.lemmas.framed_memory.Lending.{runs_alike}
use Rattle.qh_qtd.specs.declared.qtd.Qtd.{Qtd}
use Rattle.mem_runs.specs.Book.{Holding, holding, slot_of, lend_taken}
use Rattle.drv_table.specs.declared.content.Stage.{Stage}
use Rattle.claims_driver.specs.Owners.{Described, Element as ElementOwner, Dummy, Buffer as BufferOwner, EndpointRuns, TransferRuns, views_of}
use Rattle.law_structures.specs.lent_structures.Structures.{Structure, QueueHead, Element, Table, Structures, StructureSets}
use Rattle.law_structures.specs.lent_structures.Sound.{IsSoundElement, AreOwn}
use Rattle.law_ring.specs.Together.{Item, put_all}
use Rattle.law_ring.proofs.Parting.{Spans, sound_spanned, queue_spanned}
use Rattle.law_controller.specs.controlled_streams.Control.{FrameList}
use Rattle.law_driver_ring.specs.Written.{AwaitsLend}
use Rattle.law_driver_ring.specs.Pieces.{NamesLent}
use Rattle.law_driver_ring.specs.TransferLaws.{lent_driver, items_of, HasPieces}
use Rattle.law_driver_ring.proofs.Growing.{StillHas, spans_grown}
use Rattle.law_driver_ring.proofs.Lots.{Lot, items}
use Rattle.law_driver_ring.proofs.Lends.{lend_drives}
use Rattle.law_driver_ring.proofs.TransferLending.{AreLots, lent_on_views, lots_of, lots_there}
use Rattle.law_driver_ring.proofs.TransferOwning.{IsLentOn, not_taken}
use Rattle.law_driver_ring.proofs.Joining.{joined_parts, still_there}
use Rattle.law_driver_ring.proofs.Joined.{Joins, elements_sound, joined_own}
use Rattle.law_world.specs.memory.framed_memory.QueueRows.{LendTransferKeepsNow}
use Rattle.law_world.proofs.lemmas.memory.lemmas.framed_memory.Moving.{alike_extents, still_held, queues_move, StaysSound}
use Rattle.law_world.proofs.lemmas.memory.lemmas.framed_memory.Steps.{StaysMet, lend_step}
use Rattle.law_world.proofs.lemmas.memory.lemmas.framed_memory.LentExtents.{begins_one, runs_lent}

-- a queue that is met has more structures, of which each qTD is sound and has a buffer of its own
met_grown : (met : ℕ → Option Kind) (n : ℕ) (part now : Structures) → StillHas part now → ((a : ℕ) (t : Qtd) → now a ≡ Some (Element t) → (part a ≡ Some (Element t)) ⊎ IsSoundElement now t) → AreOwn now
    → IsMetQueue met n part → IsMetQueue met n now
met_grown met n part now still elements own m =
    let spans : Spans part now = spans_grown part now still in
    record {
      part_is = record {
        queue = m.part_is.queue;
        here = still n (QueueHead m.part_is.queue) m.part_is.here;
        sound = queue_spanned part now m.part_is.queue spans (λ a t here on. still a (Element t) here) m.part_is.sound;
        elements = λ a t found. ⊎_elim (λ (old : part a ≡ Some (Element t)). sound_spanned part now t spans (m.part_is.elements a t old)) (λ (new : IsSoundElement now t). new) (elements a t found);
        own = own;
      };
      link = m.link;
    }

no_element : (split : Bool) (u t : ℕ) → Described split u ≡ ElementOwner t → ⊥
no_element split u t same = cc

no_dummy : (split : Bool) (u e : ℕ) → Described split u ≡ Dummy e → ⊥
no_dummy split u e same = cc

no_buffer : (split : Bool) (u t : ℕ) → Described split u ≡ BufferOwner t → ⊥
no_buffer split u t same = cc

module _ (base : Base) (member : ℕ → Bool) (recent : ℕ → Option Kind) (descs parts : StructureSets) (hand : Hand) (frame : FrameHand) (c : Content) (d : DriverContent) (t : ℕ) (y : TransferRuns) (x : EndpointRuns) (s : Stage) (ss : List Stage) (k : IsFramedNow base member recent descs parts hand frame c d) (is : driver_row (parts_of c d) ≡ rows.Lend) (wait : AwaitsLend d c.memory t y x s ss) (names : NamesLent (slot_of d.book.slots) (parts (32 * x.queue))) where
  abbrev p : Parts
  p = parts_of c d

  abbrev h : Holding
  h = holding d.book c.memory

  abbrev lent : DriverContent
  lent = lent_driver d c.memory

  abbrev after : Mem
  after = (lend_taken h).memory

  abbrev n : ℕ
  n = 32 * x.queue

  abbrev now : StructureSets
  now = put_all parts n (items_of d c.memory y x s ss)

  abbrev f : DriverContent
  f = advance lent

  old : IsDescribing d descs parts
  old = record { owners = k.framed.place.sound.owners; driven = k.framed.driven; described = k.framed.described }

  -- ---- the ring

  drives : DrivesRing base member now hand (place c.control.walk c.registers after) f × HasPieces d (slot_of lent.book.slots) parts now y x s ss
  drives =
      lend_drives base member parts hand c.control.walk c.registers c.memory d t y x s ss wait k.framed.place.sound.owners k.framed.place.sound.stands
      (record { ring = ring_is_of_queues d descs parts base member hand (walk_place c) old k.framed.runs.ring; driven = k.framed.driven }) names

  -- ---- the walk of the frames

  abbrev ls : List Lot
  ls = lots_of d c.memory y x s ss

  on : IsLentOn (views_of d) (views_of lent) k.framed.place.sound.owners.owner t y x d.book.taken
  on = lent_on_views d c.memory t y x s ss wait k.framed.place.sound.owners k.framed.place.sound.stands k.framed.runs.ring.tells.shape

  lots : AreLots d c.memory y x s ss ls
  lots = lots_there d c.memory t y x s ss wait k.framed.place.sound.stands k.framed.runs.ring.tells.shape

  joins : Joins (views_of d) (views_of lent) k.framed.place.sound.owners.owner t y x d.book.taken after parts ls d.notes s ss
  joins = record {
    joining = record { on = on; driven = k.framed.driven; each = lots.each; runs = lots.runs; apart = wait.apart; names = names };
    chain = record { noted = wait.noted; ends = wait.ends; taken_is = wait.taken; items = lots.items };
  }

  grown : IsMetQueue (met d recent) n (parts n) → IsMetQueue (met d recent) n (now n)
  grown was =
      subst (λ (is : List Item). IsMetQueue (met d recent) n (put_all parts n is n)) lots.items
      (met_grown (met d recent) n (parts n) (joined_parts parts x ls n)
      (λ a u there. still_there (views_of d) (views_of lent) k.framed.place.sound.owners.owner t y x d.book.taken after parts ls n a u joins.joining there) (λ a u there. elements_sound joins a u there)
      (joined_own joins was.part_is.own) was)

  sound : StaysSound (met d recent) parts now
  sound m at was =
      ⊎_elim (λ (same : m ≡ n).
      let mine : IsMetQueue (met d recent) n (parts n) = subst (λ (j : ℕ). IsMetQueue (met d recent) j (parts j)) same was in
      let head : Structure = QueueHead mine.part_is.queue in
      subst (λ (j : ℕ). IsMetQueue (met d recent) j (now j) × (now j j ≡ parts j j)) (sym same) (grown mine, drives.1.still n n head mine.part_is.here ∙ sym mine.part_is.here))
      (λ (differs : m ≢ n).
      let same : now m ≡ parts m = drives.1.beside m differs in
      (subst (IsMetQueue (met d recent) m) (sym same) was, ap (λ (part : Structures). part m) same)) (cases_eq m n)

  list : now base.periodic_list_base base.periodic_list_base ≡ parts base.periodic_list_base base.periodic_list_base
  list =
      let there : FrameList parts base = (list_is_of_queues d descs parts base old).0 k.framed.runs.list in
      drives.1.still base.periodic_list_base base.periodic_list_base (Table there.words) there.here ∙ sym there.here

  -- ---- their runs

  lies : AreInRuns (views_of f) now
  lies =
      alike_extents (views_of lent) (views_of f) now (advance_views lent)
      (runs_lent d c.memory t y x s ss wait k.framed.place.sound.owners k.framed.place.sound.stands k.framed.runs.ring.tells.shape parts now drives.1 k.framed.place.lent k.framed.driven k.framed.extents)

  -- no descriptor is lent
  none_taken : (u : ℕ) (z : TransferRuns) → (views_of d).transfer u ≡ Some z → z.isochronous ≡ true → z.released ≡ false → begins_in z.first d.book.taken ≡ false
  none_taken u z here iso held =
      ⊎_elim (λ (taken : begins_in z.first d.book.taken ≡ true).
      let split = ((views_of d).descriptor z.first).split in
      absurd (not_taken (views_of d) (views_of lent) k.framed.place.sound.owners.owner t y x d.book.taken z.first (Described split u) on (k.framed.place.sound.owners.owned.each.described u z here iso held).descriptor
      (λ same. no_element split u t same) (λ same. no_dummy split u y.endpoint same) (λ same. no_buffer split u t same) (begins_one z.first d.book.taken taken)))
      (λ (off : begins_in z.first d.book.taken ≡ false). off) (cases_Bool (begins_in z.first d.book.taken))

  described : AreDescribed (views_of f) descs
  described = queue_lend_describes p descs k.framed.place.sound.stands k.framed.runs.ring.tells.shape none_taken k.framed.described

  -- ---- the driver then

  placed : IsInPlace after f
  placed = subst (λ (r : DriverRow). IsInPlace (after_driver_row r p).memory (after_driver_row r p).driver) is (events_keep_all_in_place p k.framed.place)

  new : IsDescribing f descs now
  new = record { owners = placed.sound.owners; driven = drives.0.driven; described = described }

  stays : StaysMet recent c.registers.frame_index d f
  stays =
      let due : IsNextOf p rows.Lend = subst (IsDue p) is (each_event_is_due p) in
      lend_step recent c.registers.frame_index d (lend_taken h).book due.command k.recent_are due.unfinished due.next k.framed.list.list.order.kept

  runs : RunsBoth base member (met d recent) (both descs now) hand frame (with_memory c after)
  runs =
      queues_move base member (met d recent) descs parts now hand hand (λ e. e) frame c d f after old new lies placed.sound.stands
      (still_held d c.memory after descs parts old (lend_taken_leaves h k.framed.place.sound.stands k.framed.runs.ring.tells.shape) k.framed.runs.ring.tells) k.framed.runs drives.0.ring sound list

  leaves : RowLeaves base member recent descs now hand frame c d rows.Lend
  leaves = record {
    runs = runs_alike base member (met d recent) (met f recent) (both descs now) hand frame (with_memory c after) (met_alike d f recent stays.stands) runs;
    told = record { driven = drives.0.driven; extents = lies; described = described };
    recent_are = stays.recent_are;
    apart = λ a kind at. stays.stands a ∙ k.apart a kind at;
  }

pub lend_transfer_keeps_now : LendTransferKeepsNow
lend_transfer_keeps_now base member recent descs parts hand frame c d t y x s ss k is wait names =
    next_now base member recent recent descs parts descs (put_all parts (32 * x.queue) (items_of d c.memory y x s ss)) hand hand frame frame c d k
    (subst (RowLeaves base member recent descs (put_all parts (32 * x.queue) (items_of d c.memory y x s ss)) hand frame c d) (sym is)
    (leaves base member recent descs parts hand frame c d t y x s ss k is wait names))
