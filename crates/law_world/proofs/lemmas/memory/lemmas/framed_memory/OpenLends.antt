-- The queue head of a new endpoint, and the inactive qTD at the end of its queue, are lent beside both walks.
use Rattle.std.proofs.Common.{◌≡◌, ◌≢◌, ℕ, ◌*◌, ◌==◌, Bool, true, false, ◌||◌, Option, Some, None, ap, refl, sym, subst, ◌∙◌, ⊎_elim, arith}
use Rattle.std.proofs.lemmas.Bool.{cases_eq}
use Rattle.law_controller.proofs.Common.{none_table}
use Rattle.law_world.proofs.Common.{kept_has, met_alike}
use Rattle.law_common.proofs.Numbers.{other_number}
use Rattle.word_mem.specs.Memory.{Mem}
use Rattle.qh_qtd.specs.declared.queue_head.Qh.{Qh}
use Rattle.async_walk.specs.Rows.{place}
use Rattle.mem_runs.specs.declared.slots.Slot.{Slot}
use Rattle.mem_runs.specs.Book.{Holding, holding, slot_of, lend_taken}
use Rattle.drv_table.specs.declared.rows.DriverRow.{DriverRow}
use Rattle.drv_table.specs.declared.rows.DriverRow.TheVariants as rows
use Rattle.drv_table.specs.DriverContent.{DriverContent}
use Rattle.drv_table.specs.Words.{dummy_qtd}
use Rattle.drv_table.specs.Parts.{Parts}
use Rattle.drv_table.specs.Rows.{driver_row, after_driver_row}
use Rattle.drv_table.specs.Commands.{advance}
use Rattle.claims_driver.specs.Owners.{Described, QueueHead as QueueOf, Dummy, SlotHas, EndpointRuns, TransferRuns, views_of}
use Rattle.law_driver.specs.run_owners.Due.{IsDue, IsNextOf}
use Rattle.law_driver.proofs.lemmas.run_owners.Reasons.{each_event_is_due}
use Rattle.claims_driver.specs.LentRuns.{begins_in}
use Rattle.hc_core.specs.Controller.{Content, walk_place}
use Rattle.law_structures.specs.lent_structures.Structures.{Structure, QueueHead, Element, Structures, StructureSets, put}
use Rattle.law_structures.proofs.lemmas.lent_structures.Names.{put_beside}
use Rattle.law_ring.specs.Hand.{Hand}
use Rattle.claims_base.specs.Controller.{Base}
use Rattle.law_controller.specs.controlled_streams.Control.{FrameList}
use Rattle.law_driver_ring.specs.Driven.{DrivesRing}
use Rattle.law_driver_ring.specs.Extents.{AreInRuns}
use Rattle.law_driver_ring.specs.LendOpened.{IsOpened, opened_parts}
use Rattle.law_driver_ring.proofs.Extending.{extents_stay, head_put, element_put}
use Rattle.law_driver_ring.proofs.Lent.{lend_taken_leaves}
use Rattle.law_driver_ring.proofs.LendLending.{both_lend, other_slot}
use Rattle.law_driver_ring.proofs.LendOpening.{lent_content, two_lent, lend_opens_drives}
use Rattle.law_driver_ring.proofs.LendOwning.{none_there, queue_no_dummy, apart_from}
use Rattle.law_driver_ring.proofs.Viewing.{advance_views}
use Rattle.law_driver.specs.in_place.InPlace.{IsInPlace}
use Rattle.law_driver.proofs.lemmas.in_place.Laws.{events_keep_all_in_place}
use Rattle.law_queues.specs.shared_memory.Shared.{parts_of}
use Rattle.law_frames.specs.Met.{Kind, IsMetQueue}
use Rattle.law_frames.specs.FrameHand.{FrameHand}
use Rattle.law_controller.specs.frame_control.Both.{RunsBoth}
use Rattle.law_descriptors.specs.Described.{AreDescribed}
use Rattle.law_descriptors.specs.Both.{both}
use Rattle.law_descriptors.specs.PartLaws.{IsDescribing}
use Rattle.law_descriptors.specs.Told.{with_memory}
use Rattle.law_descriptors.specs.Meeting.{met}
use Rattle.law_descriptors.proofs.Others.{queue_lend_describes}
use Rattle.law_descriptors.proofs.Rings.{ring_is_of_queues, list_is_of_queues}
use Rattle.law_world.specs.memory.framed_memory.Now.{IsFramedNow}
use Rattle.law_world.proofs.lemmas.memory.lemmas.framed_memory.Now.{RowLeaves, next_now}
use Rattle.law_world.proofs.lemmas.memory.lemmas.framed_memory.Lending.{runs_alike}
use Rattle.law_world.specs.memory.framed_memory.QueueRows.{LendOpenKeepsNow}
use Rattle.law_world.proofs.lemmas.memory.lemmas.framed_memory.Moving.{alike_extents, still_held, queues_move, StaysSound}
use Rattle.law_world.proofs.lemmas.memory.lemmas.framed_memory.Steps.{StaysMet, lend_step}

-- a queue head that is met stands at its own address
met_none : (met : ℕ → Option Kind) (n : ℕ) (part : Structures) → part n ≡ None → IsMetQueue met n part → ⊥
met_none met n part none k = absent (part n) (QueueHead k.part_is.queue) none k.part_is.here
  where
    absent : (o : Option Structure) (s : Structure) → o ≡ None → o ≡ Some s → ⊥
    absent o s none here = cc

neither : (a b : Bool) → a ≡ false → b ≡ false → (a || (b || false)) ≡ false
neither a b one two = ap (λ (t : Bool). t || (b || false)) one ∙ ap (λ (t : Bool). t || false) two

module _ (base : Base) (member : ℕ → Bool) (recent : ℕ → Option Kind) (descs parts : StructureSets) (hand : Hand) (frame : FrameHand) (c : Content) (d : DriverContent) (e : ℕ) (x : EndpointRuns) (q : Qh) (k : IsFramedNow base member recent descs parts hand frame c d) (is : driver_row (parts_of c d) ≡ rows.Lend) (o : IsOpened d c.memory e x q) where
  abbrev p : Parts
  p = parts_of c d

  abbrev h : Holding
  h = holding d.book c.memory

  abbrev lent : DriverContent
  lent = record d { book = (lend_taken h).book }

  abbrev after : Mem
  after = (lend_taken h).memory

  abbrev n : ℕ
  n = 32 * x.queue

  abbrev one : StructureSets
  one = put parts n n (QueueHead q)

  abbrev now : StructureSets
  now = opened_parts parts x q

  abbrev f : DriverContent
  f = advance lent

  old : IsDescribing d descs parts
  old = record { owners = k.framed.place.sound.owners; driven = k.framed.driven; described = k.framed.described }

  -- ---- the ring

  drives : DrivesRing base member now hand (place c.control.walk c.registers after) f
  drives =
      lend_opens_drives base member parts hand c.control.walk c.registers c.memory d e x q o k.framed.place.sound.owners k.framed.place.sound.stands
      (record { ring = ring_is_of_queues d descs parts base member hand (walk_place c) old k.framed.runs.ring; driven = k.framed.driven })

  -- ---- the new structures

  none : (b : ℕ) → parts n b ≡ None
  none b = none_there (views_of d) (views_of (lent_content d c.memory)) k.framed.place.sound.owners.owner e x parts b (two_lent d c.memory e x q o k.framed.place.sound.owners) k.framed.driven

  stay : (m : ℕ) → m ≢ n → now m ≡ parts m
  stay m differs = put_beside one n (32 * x.dummy) (Element dummy_qtd) m differs ∙ put_beside parts n n (QueueHead q) m differs

  sound : StaysSound (met d recent) parts now
  sound m on was =
      ⊎_elim (λ (same : m ≡ n). absurd (met_none (met d recent) m (parts m) (ap (λ (i : ℕ). parts i m) same ∙ none m) was))
      (λ (differs : m ≢ n). (subst (λ (part : Structures). IsMetQueue (met d recent) m part) (sym (stay m differs)) was, ap (λ (part : Structures). part m) (stay m differs))) (cases_eq m n)

  -- the frame list is no queue's
  list_differs : base.periodic_list_base ≢ n
  list_differs same =
      let there : FrameList parts base = (list_is_of_queues d descs parts base old).0 k.framed.runs.list in
      none_table (parts base.periodic_list_base base.periodic_list_base) there.words
      (ap (λ (i : ℕ). parts i base.periodic_list_base) same ∙ none base.periodic_list_base) there.here

  -- ---- their runs

  apart : x.queue ≢ x.dummy
  apart = queue_no_dummy (views_of d) k.framed.place.sound.owners.owner e e x x k.framed.place.sound.owners.owned.each o.here o.here

  slots_still : (i j : ℕ) → SlotHas (slot_of d.book.slots i) j → SlotHas (slot_of (lend_taken h).book.slots i) j
  slots_still i j has =
      let both = both_lend h x.queue x.dummy o.queue_kept.run o.dummy_kept.run apart o.taken o.queue_kept.is o.dummy_kept.is in
      ⊎_elim (λ (first : i ≡ x.queue). kept_has h (lend_taken h) x.queue i j o.queue_kept.run o.queue_kept.is both.first first has)
      (λ (no_first : i ≢ x.queue).
      ⊎_elim (λ (second : i ≡ x.dummy). kept_has h (lend_taken h) x.dummy i j o.dummy_kept.run o.dummy_kept.is both.second second has)
      (λ (no_second : i ≢ x.dummy). subst (λ (s : Slot). SlotHas s j) (sym (other_slot h x.queue x.dummy i o.taken no_first no_second)) has) (cases_eq i x.dummy)) (cases_eq i x.queue)

  lies : AreInRuns (views_of f) now
  lies =
      alike_extents (views_of lent) (views_of f) now (advance_views lent)
      (extents_stay (views_of lent) (views_of lent) one now (record { slots = λ i j has. has; endpoints = λ i. refl; transfers = λ t. refl; notes = λ b. refl })
      (element_put one n (32 * x.dummy) dummy_qtd)
      (extents_stay (views_of d) (views_of lent) parts one (record { slots = slots_still; endpoints = λ i. refl; transfers = λ t. refl; notes = λ b. refl }) (head_put parts n n q) k.framed.extents))

  -- ---- no descriptor is lent

  not_taken : (t : ℕ) (y : TransferRuns) → (views_of d).transfer t ≡ Some y → y.isochronous ≡ true → y.released ≡ false → begins_in y.first d.book.taken ≡ false
  not_taken t y here iso held =
      let own = k.framed.place.sound.owners in
      let split = ((views_of d).descriptor y.first).split in
      let placed = (own.owned.each.described t y here iso held).descriptor in
      let queue = own.owned.each.queue e x o.here.here o.here.queued in
      let dummy = own.owned.each.dummy e x o.here.here o.here.queued in
      ap (begins_in y.first) o.taken
      ∙ neither (x.queue == y.first) (x.dummy == y.first)
      (other_number x.queue y.first (apart_from (views_of d).slot own.owner x.queue y.first (QueueOf e) (Described split t) queue placed
      (λ s. omega (arith, s))))
      (other_number x.dummy y.first (apart_from (views_of d).slot own.owner x.dummy y.first (Dummy e) (Described split t) dummy placed
      (λ s. omega (arith, s))))

  described : AreDescribed (views_of f) descs
  described = queue_lend_describes p descs k.framed.place.sound.stands k.framed.runs.ring.tells.shape not_taken k.framed.described

  -- ---- the driver then

  placed : IsInPlace after f
  placed = subst (λ (r : DriverRow). IsInPlace (after_driver_row r p).memory (after_driver_row r p).driver) is (events_keep_all_in_place p k.framed.place)

  new : IsDescribing f descs now
  new = record { owners = placed.sound.owners; driven = drives.driven; described = described }

  stays : StaysMet recent c.registers.frame_index d f
  stays =
      let due : IsNextOf p rows.Lend = subst (IsDue p) is (each_event_is_due p) in
      lend_step recent c.registers.frame_index d (lend_taken h).book due.command k.recent_are due.unfinished due.next k.framed.list.list.order.kept

  runs : RunsBoth base member (met d recent) (both descs now) hand frame (with_memory c after)
  runs =
      queues_move base member (met d recent) descs parts now hand hand (λ e. e) frame c d f after old new lies placed.sound.stands
      (still_held d c.memory after descs parts old (lend_taken_leaves h k.framed.place.sound.stands k.framed.runs.ring.tells.shape) k.framed.runs.ring.tells) k.framed.runs drives.ring sound
      (ap (λ (part : Structures). part base.periodic_list_base) (stay base.periodic_list_base list_differs))

  leaves : RowLeaves base member recent descs now hand frame c d rows.Lend
  leaves = record {
    runs = runs_alike base member (met d recent) (met f recent) (both descs now) hand frame (with_memory c after) (met_alike d f recent stays.stands) runs;
    told = record { driven = drives.driven; extents = lies; described = described };
    recent_are = stays.recent_are;
    apart = λ a kind on. stays.stands a ∙ k.apart a kind on;
  }

pub lend_open_keeps_now : LendOpenKeepsNow
lend_open_keeps_now base member recent descs parts hand frame c d e x q k is o =
    next_now base member recent recent descs parts descs (opened_parts parts x q) hand hand frame frame c d k
    (subst (RowLeaves base member recent descs (opened_parts parts x q) hand frame c d) (sym is) (leaves base member recent descs parts hand frame c d e x q k is o))
