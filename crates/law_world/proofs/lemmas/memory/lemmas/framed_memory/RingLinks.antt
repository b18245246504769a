-- The link of a queue head of the ring is stored beside both walks.
use Rattle.std.proofs.Common.{◌≡◌, ℕ, ◌*◌, ◌/◌, Bool, true, false, Option, Some, inl, ap, refl, sym, subst, ◌∙◌, ⊎_elim}
use Rattle.std.proofs.lemmas.Bool.{cases_Bool, true≢false}
use Rattle.law_controller.proofs.Common.{table_head}
use Rattle.law_ring.proofs.Common.{wider_link}
use Rattle.law_world.proofs.Common.{met_alike}
use Rattle.usb_base.specs.declared.packets.Reply.{Reply}
use Rattle.word_mem.specs.Memory.{Mem, with_word}
use Rattle.link_words.specs.declared.fields.LinkBits.{LinkBits}
use Rattle.qh_qtd.specs.declared.queue_head.Qh.{Qh}
use Rattle.async_walk.specs.Rows.{WalkPlace, place}
use Rattle.mem_runs.specs.Book.{slot_of, can_store}
use Rattle.drv_table.specs.declared.rows.DriverRow.{DriverRow}
use Rattle.drv_table.specs.declared.rows.DriverRow.TheVariants as rows
use Rattle.drv_table.specs.DriverContent.{DriverContent}
use Rattle.drv_table.specs.Parts.{Parts}
use Rattle.drv_table.specs.Rows.{driver_row, after_driver_row}
use Rattle.claims_driver.specs.Owners.{views_of}
use Rattle.hc_core.specs.Controller.{Content, walk_place}
use Rattle.law_structures.specs.lent_structures.Structures.{QueueHead, Structures, StructureSets, put, Holds}
use Rattle.law_structures.specs.lent_structures.Changes.{Changes}
use Rattle.law_structures.specs.lent_structures.Sound.{IsMember}
use Rattle.law_structures.proofs.lemmas.lent_structures.Names.{put_beside}
use Rattle.law_structures.proofs.lemmas.lent_structures.Standing.{holds_still}
use Rattle.law_structures.proofs.lemmas.lent_structures.Writing.{word_changes}
use Rattle.law_ring.specs.Hand.{Hand, Empty, Copied, Settled, Stale, Copy}
use Rattle.claims_base.specs.Controller.{Base}
use Rattle.law_ring.specs.Ring.{IsCopied, IsInHand, IsRing}
use Rattle.law_ring.specs.Stores.{hand_linked, IsWider}
use Rattle.law_ring.proofs.Driving.{wider_member}
use Rattle.law_controller.specs.controlled_streams.Control.{FrameList}
use Rattle.law_driver_ring.specs.Driven.{DrivesRing}
use Rattle.law_driver_ring.specs.Extents.{AreInRuns}
use Rattle.law_driver_ring.proofs.Extending.{extents_stay, head_put}
use Rattle.law_driver_ring.proofs.Storing.{store_made}
use Rattle.law_driver.specs.in_place.InPlace.{IsInPlace}
use Rattle.law_driver.proofs.lemmas.in_place.Laws.{events_keep_all_in_place}
use Rattle.law_queues.specs.shared_memory.Shared.{parts_of}
use Rattle.law_frames.specs.Met.{Kind, IsMetQueue}
use Rattle.law_frames.specs.FrameHand.{FrameHand}
use Rattle.law_controller.specs.frame_control.Both.{AreApart, RunsBoth}
use Rattle.law_descriptors.specs.Described.{AreHeld}
use Rattle.law_descriptors.specs.Both.{owns, both}
use Rattle.law_descriptors.specs.PartLaws.{IsDescribing}
use Rattle.law_descriptors.specs.Told.{IsToldBy, with_memory}
use Rattle.law_descriptors.specs.Meeting.{met}
use Rattle.law_descriptors.proofs.Others.{rows_told}
use Rattle.law_descriptors.proofs.Rings.{ring_is_of_queues, list_is_of_queues}
use Rattle.law_descriptors.proofs.Standing.{found_on}
use Rattle.law_descriptors.proofs.Telling.{queue_off, queue_found, descriptor_found}
use Rattle.law_world.specs.memory.framed_memory.Now.{IsFramedNow, FramedNext}
use Rattle.law_world.proofs.lemmas.memory.lemmas.framed_memory.Now.{RowLeaves, next_now, told_now}
use Rattle.law_world.proofs.lemmas.memory.lemmas.framed_memory.Lending.{runs_alike}
use Rattle.law_world.proofs.lemmas.memory.lemmas.framed_memory.Moving.{queues_move, StaysSound}
use Rattle.law_world.proofs.lemmas.memory.lemmas.framed_memory.Steps.{StaysMet}

-- ---- the walk of the ring may meet more

wider_copy : (member wider : ℕ → Bool) (parts : StructureSets) (c : Copy) → IsWider member wider → IsCopied member parts c → IsCopied wider parts c
wider_copy member wider parts c more k = record { on = more c.at k.on; here = k.here; link = wider_link member wider c.link more k.link; range = k.range }

wider_hand : (member wider : ℕ → Bool) (parts : StructureSets) (reply : Reply) (hand : Hand) → IsWider member wider → IsInHand member parts reply hand → IsInHand wider parts reply hand
wider_hand member wider parts reply Empty more k = tt
wider_hand member wider parts reply (Copied c) more k = wider_copy member wider parts c more k
wider_hand member wider parts reply (Settled c s) more k = (wider_copy member wider parts c more k.0, k.1)
wider_hand member wider parts reply (Stale n q) more k = record { on = more n k.on; link = wider_link member wider q.link more k.link; halted = k.halted }

-- those that may come are sound
abbrev pub MayCome : (ℕ → Bool) → (ℕ → Bool) → StructureSets → Type 0
MayCome member wider parts = (n : ℕ) → wider n ≡ true → member n ≡ false → IsMember wider n (parts n)

ring_wider : (base : Base) (member wider : ℕ → Bool) (parts : StructureSets) (hand : Hand) (p : WalkPlace) → IsWider member wider → MayCome member wider parts → IsRing base member parts hand p → IsRing base wider parts hand p
ring_wider base member wider parts hand p more comes ring = record {
  tells = ring.tells;
  members = λ n on.
      ⊎_elim (λ (old : member n ≡ true). wider_member member wider n (parts n) more (ring.members n old)) (λ (new : member n ≡ false). comes n on new) (cases_Bool (member n));
  registers = ring.registers;
  start = more base.async_list_address ring.start;
  cursor = record { to = ring.cursor.to; leads = ring.cursor.leads; on = more ring.cursor.to ring.cursor.on };
  held = ring.held;
  in_hand = wider_hand member wider parts p.walk.reply hand more ring.in_hand;
}

pub framed_wider : (base : Base) (member wider : ℕ → Bool) (recent : ℕ → Option Kind) (descs parts : StructureSets) (hand : Hand) (frame : FrameHand) (c : Content) (d : DriverContent)
    → IsWider member wider → MayCome member wider (both descs parts) → AreApart wider (met d recent) → IsFramedNow base member recent descs parts hand frame c d
    → IsFramedNow base wider recent descs parts hand frame c d
framed_wider base member wider recent descs parts hand frame c d more comes apart i =
    let old : RunsBoth base member (met d recent) (both descs parts) hand frame c = i.framed.runs in
    let runs : RunsBoth base wider (met d recent) (both descs parts) hand frame c
    = record {
      ring = ring_wider base member wider (both descs parts) hand (walk_place c) more comes old.ring;
      between = old.between;
      list = old.list;
      elements = old.elements;
      members = old.members;
      apart = apart;
      walk = old.walk;
      outside = old.outside;
    } in
    record {
      framed = record {
        operating = i.framed.operating;
        start = i.framed.start;
        aligned = i.framed.aligned;
        runs = runs;
        place = i.framed.place;
        list = i.framed.list;
        driven = i.framed.driven;
        described = i.framed.described;
        extents = i.framed.extents;
      };
      recent_are = i.recent_are;
      apart = i.apart;
      chained = i.chained;
      queued = i.queued;
      planned = i.planned;
      in_frames = i.in_frames;
    }

-- ---- the store

-- nothing is in hand where nothing was
still_empty : (n : ℕ) (l : LinkBits) (hand : Hand) → hand ≡ Empty → hand_linked n l hand ≡ Empty
still_empty n l hand is = ap (hand_linked n l) is

-- the word `v` is stored in the queue head in block `b`, which is `q`
module _ (base : Base) (member : ℕ → Bool) (recent : ℕ → Option Kind) (descs parts : StructureSets) (hand : Hand) (frame : FrameHand) (c : Content) (d : DriverContent) (b v : ℕ) (l : LinkBits) (q : Qh) (i : IsFramedNow base member recent descs parts hand frame c d) (on : member (32 * b) ≡ true) (there : parts (32 * b) (32 * b) ≡ Some (QueueHead q)) (can : can_store (slot_of d.book.slots b) (32 * b) ≡ true) (is : driver_row (parts_of c d) ≡ rows.Store b (32 * b) v) where
  abbrev p : Parts
  p = parts_of c d

  abbrev row : DriverRow
  row = rows.Store b (32 * b) v

  abbrev n : ℕ
  n = 32 * b

  abbrev new : Qh
  new = record q { link = l }

  abbrev now : StructureSets
  now = put parts n n (QueueHead new)

  abbrev later : Hand
  later = hand_linked n l hand

  abbrev f : DriverContent
  f = (after_driver_row row p).driver

  abbrev after : Mem
  after = (after_driver_row row p).memory

  old : IsDescribing d descs parts
  old = record { owners = i.framed.place.sound.owners; driven = i.framed.driven; described = i.framed.described }

  -- ---- it is beside the frames

  sound : StaysSound (met d recent) parts now
  sound m at was =
      let same : now m ≡ parts m = put_beside parts n n (QueueHead new) m (λ (e : m ≡ n). true≢false (sym on ∙ ap member (sym e) ∙ i.framed.runs.apart m _ at)) in
      (subst (IsMetQueue (met d recent) m) (sym same) was, ap (λ (part : Structures). part m) same)

  list : now base.periodic_list_base base.periodic_list_base ≡ parts base.periodic_list_base base.periodic_list_base
  list =
      let table : ℕ = base.periodic_list_base in
      let listed : FrameList parts base = (list_is_of_queues d descs parts base old).0 i.framed.runs.list in
      ap (λ (part : Structures). part table)
      (put_beside parts n n (QueueHead new) table (λ (same : table ≡ n). table_head (parts table table) listed.words q listed.here (ap (λ (j : ℕ). parts j j) same ∙ there)))

  -- ---- descriptors stand elsewhere

  after_is : after ≡ with_word c.memory n v
  after_is = store_made d.book c.memory b n v can

  held : AreHeld after descs
  held m a s here =
      let tells = i.framed.runs.ring.tells in
      let found : both descs parts m a ≡ Some s = descriptor_found d descs parts old m a s here in
      let mine : both descs parts n n ≡ Some (QueueHead q) = queue_found d descs parts old n n (QueueHead q) there in
      let changes : Changes c.memory (with_word c.memory n v) n (QueueHead q) = word_changes c.memory n (QueueHead q) n v (inl refl) in
      subst (λ (x : Mem). Holds x a s) (sym after_is)
      (holds_still c.memory (with_word c.memory n v) a s
      (record {
        lent = λ j has lent. lent;
        words = λ other has.
            changes.outside other
            (λ hit.
            let one = tells.alone m a n n s (QueueHead q) (other / 32) found mine has hit in
            true≢false (sym (found_on (views_of d) descs m a s old.described here) ∙ ap (owns descs) (sym one.0) ∙ queue_off d descs parts old n n (QueueHead q) there));
      }) (tells.each m a s found))

  -- ---- the driver then

  told : IsToldBy (views_of f) descs parts
  told = rows_told p descs parts row refl (told_now base member recent descs parts hand frame c d i)

  lies : AreInRuns (views_of f) now
  lies =
      extents_stay (views_of f) (views_of f) parts now (record { slots = λ j h has. has; endpoints = λ e. refl; transfers = λ u. refl; notes = λ j. refl })
      (head_put parts n n new) told.extents

  placed : IsInPlace after f
  placed = subst (λ (r : DriverRow). IsInPlace (after_driver_row r p).memory (after_driver_row r p).driver) is (events_keep_all_in_place p i.framed.place)

  leaves : DrivesRing base member now later (place c.control.walk c.registers after) f → StaysMet recent c.registers.frame_index d f → RowLeaves base member recent descs now later frame c d row
  leaves drives stays =
      let then : IsDescribing f descs now = record { owners = placed.sound.owners; driven = drives.driven; described = told.described } in
      record {
        runs = runs_alike base member (met d recent) (met f recent) (both descs now) later frame (with_memory c after) (met_alike d f recent stays.stands)
            (queues_move base member (met d recent) descs parts now hand later (still_empty n l hand) frame c d f after old then lies placed.sound.stands held i.framed.runs drives.ring sound list);
        told = record { driven = drives.driven; extents = lies; described = told.described };
        recent_are = stays.recent_are;
        apart = λ a kind at. stays.stands a ∙ i.apart a kind at;
      }

  -- where the ring goes on with it
  pub link_stored : DrivesRing base member now later (place c.control.walk c.registers after) f → StaysMet recent c.registers.frame_index d f → FramedNext base member recent descs now later frame c d
  link_stored drives stays =
      next_now base member recent recent descs parts descs now hand later frame frame c d i (subst (RowLeaves base member recent descs now later frame c d) (sym is) (leaves drives stays))

-- ---- the ring of the queues

pub ring_now : (base : Base) (member : ℕ → Bool) (recent : ℕ → Option Kind) (descs parts : StructureSets) (hand : Hand) (frame : FrameHand) (c : Content) (d : DriverContent)
    → IsFramedNow base member recent descs parts hand frame c d → DrivesRing base member parts hand (walk_place c) d
ring_now base member recent descs parts hand frame c d i =
    let old : IsDescribing d descs parts = record { owners = i.framed.place.sound.owners; driven = i.framed.driven; described = i.framed.described } in
    record { ring = ring_is_of_queues d descs parts base member hand (walk_place c) old i.framed.runs.ring; driven = i.framed.driven }
