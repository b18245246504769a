-- A word of a qTD that is published is stored beside both walks.
use Rattle.std.proofs.Common.{◌≡◌, ◌≢◌, ℕ, suc, ◌+◌, ◌*◌, ◌/◌, ◌<◌, Bool, true, false, List, Option, Some, slice_index, ap, refl, sym, subst, ◌∙◌, ⊎_elim, arith}
use Rattle.std.proofs.lemmas.Bool.{true≢false, cases_eq}
use Rattle.law_driver_ring.proofs.Common.{sound_at, unnamed_at, places_below, partly_idle}
use Rattle.law_queues.proofs.Common.{can_publish}
use Rattle.law_world.proofs.Common.{met_alike}
use Rattle.word_mem.specs.Memory.{Mem, with_word}
use Rattle.qh_qtd.specs.declared.qtd.Qtd.{Qtd}
use Rattle.qh_qtd.specs.declared.queue_head.Qh.{Qh}
use Rattle.qh_qtd.specs.Qtd.{qtd_words, IsQtdInRange}
use Rattle.async_walk.specs.Rows.{place}
use Rattle.mem_runs.specs.declared.slots.Slot.TheVariants as slots
use Rattle.mem_runs.specs.Book.{slot_of, can_store}
use Rattle.drv_table.specs.declared.content.Command.TheVariants as unfinished
use Rattle.drv_table.specs.declared.rows.DriverRow.{DriverRow}
use Rattle.drv_table.specs.DriverContent.{DriverContent}
use Rattle.drv_table.specs.Parts.{Parts}
use Rattle.drv_table.specs.Rows.{driver_row, after_driver_row}
use Rattle.drv_table.specs.Commands.{advance}
use Rattle.claims_driver.specs.Owners.{views_of}
use Rattle.law_driver.specs.in_place.InPlace.{IsInPlace}
use Rattle.hc_core.specs.Controller.{Content, walk_place}
use Rattle.law_structures.specs.lent_structures.Structures.{Structure, QueueHead, Element, Table, Structures, StructureSets, put, Holds}
use Rattle.law_structures.specs.lent_structures.Changes.{Changes}
use Rattle.law_structures.proofs.lemmas.lent_structures.Names.{put_here, put_else, put_beside}
use Rattle.law_structures.proofs.lemmas.lent_structures.Standing.{holds_still}
use Rattle.law_structures.proofs.lemmas.lent_structures.Writing.{word_changes}
use Rattle.law_ring.specs.Hand.{Hand}
use Rattle.claims_base.specs.Controller.{Base}
use Rattle.law_controller.specs.controlled_streams.Control.{FrameList}
use Rattle.law_driver_ring.specs.Driven.{DrivesRing}
use Rattle.law_driver_ring.specs.Extents.{AreInRuns}
use Rattle.law_driver_ring.specs.Published.{partly, place_in, publish_row, IsPublishable}
use Rattle.law_driver_ring.proofs.Extending.{extents_stay, element_put}
use Rattle.law_driver_ring.proofs.Publishing.{publish_store_drives}
use Rattle.law_driver_ring.proofs.Storing.{store_made}
use Rattle.law_driver.proofs.lemmas.in_place.Laws.{events_keep_all_in_place}
use Rattle.law_queues.specs.shared_memory.Shared.{parts_of}
use Rattle.law_frames.specs.Met.{Kind, AQueue, IsMetQueue}
use Rattle.law_frames.specs.FrameHand.{FrameHand}
use Rattle.law_controller.proofs.lemmas.frame_stores.Parting.{met_element_may_change}
use Rattle.law_descriptors.specs.Described.{AreHeld}
use Rattle.law_descriptors.specs.Both.{owns, both}
use Rattle.law_descriptors.specs.PartLaws.{IsDescribing}
use Rattle.law_descriptors.specs.Told.{IsToldBy, with_memory}
use Rattle.law_descriptors.specs.Meeting.{met}
use Rattle.law_descriptors.proofs.Others.{rows_told}
use Rattle.law_descriptors.proofs.Rings.{ring_is_of_queues, list_is_of_queues}
use Rattle.law_descriptors.proofs.Standing.{found_on}
use Rattle.law_descriptors.proofs.Telling.{queue_off, queue_found, descriptor_found}
use Rattle.law_world.specs.memory.framed_memory.Now.{IsFramedNow}
use Rattle.law_world.proofs.lemmas.memory.lemmas.framed_memory.Now.{RowLeaves, next_now, told_now}
use Rattle.law_world.proofs.lemmas.memory.lemmas.framed_memory.Lending.{runs_alike}
use Rattle.law_world.specs.memory.framed_memory.QueueRows.{PublishKeepsNow}
use Rattle.law_world.proofs.lemmas.memory.lemmas.framed_memory.Moving.{queues_move, StaysSound}
use Rattle.law_world.proofs.lemmas.memory.lemmas.framed_memory.Steps.{StaysMet, publish_step}

-- ---- the qTD stays sound

head_element : (o : Option Structure) (q : Qh) (t : Qtd) → o ≡ Some (QueueHead q) → o ≡ Some (Element t) → ⊥
head_element o q t head element = cc

table_element : (o : Option Structure) (words : List ℕ) (t : Qtd) → o ≡ Some (Table words) → o ≡ Some (Element t) → ⊥
table_element o words t table element = cc

-- ---- the store

module _ (base : Base) (member : ℕ → Bool) (recent : ℕ → Option Kind) (descs parts : StructureSets) (hand : Hand) (frame : FrameHand) (c : Content) (d : DriverContent) (n b : ℕ) (words : List ℕ) (t : Qtd) (k : ℕ) (i : IsFramedNow base member recent descs parts hand frame c d) (command : d.command ≡ Some (unfinished.Publish b words)) (is : driver_row (parts_of c d) ≡ publish_row b t k) (below : k < 8) (at : parts n (32 * b) ≡ Some (Element (partly t k))) (range : IsQtdInRange t) (ring_may : member n ≡ true → IsPublishable (parts n) (32 * b) t) (frame_may : met d recent n ≡ Some AQueue → IsPublishable (parts n) (32 * b) t) where
  abbrev p : Parts
  p = parts_of c d

  abbrev row : DriverRow
  row = publish_row b t k

  abbrev new : Qtd
  new = partly t (suc k)

  abbrev now : StructureSets
  now = put parts n (32 * b) (Element new)

  abbrev f : DriverContent
  f = advance d

  abbrev after : Mem
  after = (after_driver_row row p).memory

  old : IsDescribing d descs parts
  old = record { owners = i.framed.place.sound.owners; driven = i.framed.driven; described = i.framed.described }

  can : can_store (slot_of d.book.slots b) (32 * b + 4 * place_in k) ≡ true
  can = can_publish c.memory d b words (place_in k) i.framed.place.sound command (places_below k below)

  drives : DrivesRing base member now hand (place c.control.walk c.registers after) f
  drives =
      publish_store_drives base member parts hand c.control.walk p n b t k below
      (record { ring = ring_is_of_queues d descs parts base member hand (walk_place c) old i.framed.runs.ring; driven = i.framed.driven }) can at range ring_may

  -- ---- the frames

  head_there : (q : Qh) → parts n n ≡ Some (QueueHead q) → n ≢ 32 * b
  head_there q here same = head_element (parts n n) q (partly t k) here (ap (parts n) same ∙ at)

  sound : StaysSound (met d recent) parts now
  sound m on was =
      ⊎_elim (λ (same : m ≡ n).
      let mine : IsMetQueue (met d recent) n (parts n) = subst (λ (j : ℕ). IsMetQueue (met d recent) j (parts j)) same was in
      let may = frame_may (ap (met d recent) (sym same) ∙ on) in
      subst (λ (j : ℕ). IsMetQueue (met d recent) j (now j) × (now j j ≡ parts j j)) (sym same) (
        subst (IsMetQueue (met d recent) n) (sym (put_here parts n (32 * b) (Element new)))
            (met_element_may_change (met d recent) n (parts n) (32 * b) (partly t k) new mine at (partly_idle t k below) (sound_at (parts n) t (suc k) may.sound)
            (unnamed_at (parts n) (32 * b) t (suc k) (let low = range.1.1.1.0.1.0 in omega (arith, low)) may.own may.blank)),
        put_else parts n (32 * b) (Element new) n (head_there mine.part_is.queue mine.part_is.here),
      ))
      (λ (differs : m ≢ n).
      let same : now m ≡ parts m = put_beside parts n (32 * b) (Element new) m differs in
      (subst (IsMetQueue (met d recent) m) (sym same) was, ap (λ (part : Structures). part m) same)) (cases_eq m n)

  list : now base.periodic_list_base base.periodic_list_base ≡ parts base.periodic_list_base base.periodic_list_base
  list =
      let there : FrameList parts base = (list_is_of_queues d descs parts base old).0 i.framed.runs.list in
      let table : ℕ = base.periodic_list_base in
      ⊎_elim (λ (same : table ≡ n).
      ap (λ (j : ℕ). now j j) same
      ∙ put_else parts n (32 * b) (Element new) n (λ (e : n ≡ 32 * b). table_element (parts table table) there.words (partly t k) there.here (ap (λ (j : ℕ). parts j j) same ∙ ap (parts n) e ∙ at))
      ∙ ap (λ (j : ℕ). parts j j) (sym same))
      (λ (differs : table ≢ n). ap (λ (part : Structures). part table) (put_beside parts n (32 * b) (Element new) table differs)) (cases_eq table n)

  -- ---- descriptors stand elsewhere

  after_is : after ≡ with_word c.memory (32 * b + 4 * place_in k) (slice_index (qtd_words t) (place_in k))
  after_is = store_made d.book c.memory b (32 * b + 4 * place_in k) (slice_index (qtd_words t) (place_in k)) can

  held : AreHeld after descs
  held m a s here =
      let v : ℕ = slice_index (qtd_words t) (place_in k) in
      let w : ℕ = 32 * b + 4 * place_in k in
      let tells = i.framed.runs.ring.tells in
      let there : both descs parts m a ≡ Some s = descriptor_found d descs parts old m a s here in
      let mine : both descs parts n (32 * b) ≡ Some (Element (partly t k)) = queue_found d descs parts old n (32 * b) (Element (partly t k)) at in
      let changes : Changes c.memory (with_word c.memory w v) (32 * b) (Element (partly t k))
      = word_changes c.memory (32 * b) (Element (partly t k)) w v (let low = places_below k below in omega (arith, low)) in
      subst (λ (x : Mem). Holds x a s) (sym after_is)
      (holds_still c.memory (with_word c.memory w v) a s
      (record {
        lent = λ j has lent. lent;
        words = λ other has.
            changes.outside other
            (λ (hit : other / 32 ≡ 32 * b / 32).
            let one = tells.alone m a n (32 * b) s (Element (partly t k)) (other / 32) there mine has hit in
            true≢false (sym (found_on (views_of d) descs m a s old.described here) ∙ ap (owns descs) (sym one.0) ∙ queue_off d descs parts old n (32 * b) (Element (partly t k)) at));
      }) (tells.each m a s there))

  -- ---- the driver then

  told : IsToldBy (views_of f) descs parts
  told = rows_told p descs parts row refl (told_now base member recent descs parts hand frame c d i)

  lies : AreInRuns (views_of f) now
  lies =
      extents_stay (views_of f) (views_of f) parts now (record { slots = λ j h has. has; endpoints = λ e. refl; transfers = λ u. refl; notes = λ j. refl })
      (element_put parts n (32 * b) new) told.extents

  placed : IsInPlace after f
  placed = subst (λ (r : DriverRow). IsInPlace (after_driver_row r p).memory (after_driver_row r p).driver) is (events_keep_all_in_place p i.framed.place)

  then : IsDescribing f descs now
  then = record { owners = placed.sound.owners; driven = drives.driven; described = told.described }

  stays : StaysMet recent c.registers.frame_index d f
  stays = publish_step recent c.registers.frame_index d d.book i.recent_are b words command

  leaves : RowLeaves base member recent descs now hand frame c d row
  leaves = record {
    runs = runs_alike base member (met d recent) (met f recent) (both descs now) hand frame (with_memory c after) (met_alike d f recent stays.stands)
        (queues_move base member (met d recent) descs parts now hand hand (λ e. e) frame c d f after old then lies placed.sound.stands held i.framed.runs drives.ring sound list);
    told = record { driven = drives.driven; extents = lies; described = told.described };
    recent_are = stays.recent_are;
    apart = λ a kind on. stays.stands a ∙ i.apart a kind on;
  }

pub publish_keeps_now : PublishKeepsNow
publish_keeps_now base member recent descs parts hand frame c d n b words t k i command is below at range ring_may frame_may =
    next_now base member recent recent descs parts descs (put parts n (32 * b) (Element (partly t (suc k)))) hand hand frame frame c d i
    (subst (RowLeaves base member recent descs (put parts n (32 * b) (Element (partly t (suc k)))) hand frame c d) (sym is)
    (leaves base member recent descs parts hand frame c d n b words t k i command is below at range ring_may frame_may))
