-- What holds of a world at each moment: the addresses that the controller follows are multiples of 32, the driver's book stands in memory, and its
-- runs are lent but those that a command has still to lend.
use Rattle.std.proofs.Common.{◌≡◌, ℕ, ◌+◌, ◌*◌, ◌/◌, ◌%◌, ◌<◌, ◌≤◌, false, length, slice_get, slice_index, Option, Some, Result, Ok, Err, ap, refl, sym, subst, ◌∙◌, arith}
use Rattle.usb_base.specs.declared.commands.Cmd.{Cmd}
use Rattle.usb_base.specs.declared.endpoints.EpName.{EpName}
use Rattle.usb_base.specs.declared.reports.OfferError.{OfferError}
use Rattle.script_types.specs.declared.scripts.Event.{Event}
use Rattle.script_types.specs.declared.scripts.Event.TheVariants as events
use Rattle.script_types.specs.declared.scripts.Script.{Script}
use Rattle.script_fits.specs.Fits.{IsFit}
use Rattle.word_mem.specs.Memory.{Mem, reaches, is_lent, state_at}
use Rattle.word_mem.specs.declared.blocks.BlockState.{BlockState}
use Rattle.word_mem.specs.declared.blocks.BlockState.TheVariants.{Free, Lent}
use Rattle.word_mem.proofs.Frames.{shaped_same}
use Rattle.mem_runs.specs.Book.{Book}
use Rattle.drv_table.specs.DriverContent.{DriverContent}
use Rattle.drv_table.specs.Accepting.{Offered}
use Rattle.drv_table.specs.Offers.{offered}
use Rattle.drv_table.specs.Rows.{driver_row}
use Rattle.law_driver.proofs.lemmas.run_owners.Commands.{each_command_has_its_reason}
use Rattle.claims_driver.specs.LentRuns.{AreLent}
use Rattle.law_driver.proofs.lemmas.lent_runs.Goes.{events_keep_them}
use Rattle.law_driver.proofs.lemmas.lent_runs.Laws.{commands_keep_them}
use Rattle.law_driver.specs.in_place.InPlace.{IsGood}
use Rattle.law_driver.proofs.lemmas.in_place.Rows.{event_good}
use Rattle.law_driver.proofs.lemmas.in_place.Offers.{accepted_good}
use Rattle.law_driver.proofs.lemmas.in_place.Opened.{opening_is_in_place}
use Rattle.bus_wire.specs.Bus.{Bus, Wired, Fixed}
use Rattle.hc_core.specs.Controller.{Content}
use Rattle.law_ring.specs.walk_writes.Writes.{WritesLent}
use Rattle.law_controller.proofs.lemmas.lent_writes.Controlling.{each_event_of_the_controller_writes_lent_words}
use Rattle.law_controller.specs.aligned_copies.Aligned.{AreAligned}
use Rattle.law_controller.proofs.lemmas.aligned_copies.Controlling.{each_event_keeps_addresses_aligned, aligned_placed, a_new_controller_is_aligned}
use Rattle.claims_base.specs.Controller.{IsSameWhereLent}
use Rattle.law_controller.specs.lent_reads.Reading.{ReadsLent}
use Rattle.law_controller.proofs.lemmas.lent_reads.Controlling.{each_event_reads_lent_words}
use Rattle.law_driver.proofs.lemmas.released_blocks.Releasing.{what_a_release_leaves_is_free}
use Rattle.bus_world.specs.World.{World, Turned, turned_by, with_turned, driver_parts, driver_next, controller_row, controller_parts, controller_next, next, name_in, commanded, commanded_by, refused_line}
use Rattle.bus_world.specs.Opening.{opening_world}
use Rattle.bus_world.specs.Rooms.{room_of_script}
use Rattle.bus_world.proofs.Wire.{begins_in, transacts_in, IsTurned, turned_is}
use Rattle.claims_world.specs.Lent.{WritesLentOnly, AreSameWhereLent, KeepsToLent}
use Rattle.law_world.proofs.lemmas.memory.lemmas.worlds_keep_to_lent.Turning.{at_bus, world_has_row}
use Rattle.law_world.proofs.lemmas.memory.lemmas.worlds_keep_to_lent.Addresses.{row_address}

pub record IsStanding (w : World) : Type 0 where
  pub aligned : AreAligned (controller_parts w)
  pub good : IsGood w.driver.book w.memory
  pub lent : AreLent w.driver

-- ---- an event of the controller

writes_lent : (fixed : Fixed) (w : World) → IsStanding w → WritesLent w.memory (controller_next fixed w).memory
writes_lent fixed w k =
    each_event_of_the_controller_writes_lent_words begins_in transacts_in (controller_parts w) (at_bus fixed w.bus) (controller_parts (controller_next fixed w)) (at_bus fixed (controller_next fixed w).bus)
    (aligned_placed (controller_parts w) k.aligned) (world_has_row fixed w)

-- what stands there once it was made over another memory
same_turned : (w : World) (t u : Turned) (a : Content) (b : Bus) → record { content = a; bus = b } ≡ u → a.control ≡ t.content.control → a.registers ≡ t.content.registers → IsSameWhereLent t.content.memory a.memory → b ≡ t.bus
    → (m : Mem) → AreSameWhereLent (with_turned w t) (with_turned (record w { memory = m }) u)
same_turned w t u a b is control registers memory bus m =
    subst (λ (x : Turned). AreSameWhereLent (with_turned w t) (with_turned (record w { memory = m }) x)) is (record { registers = registers; control = control; bus = bus; memory = memory })

reads_only : (fixed : Fixed) (w : World) (m : Mem) → IsStanding w → IsSameWhereLent w.memory m → AreSameWhereLent (controller_next fixed w) (controller_next fixed (record w { memory = m }))
reads_only fixed w m k same =
    let v : Wired = at_bus fixed (controller_next fixed w).bus in
    let other : World = record w { memory = m } in
    let r : ReadsLent begins_in transacts_in (controller_parts w) m (at_bus fixed w.bus) (controller_parts (controller_next fixed w)) v =
    each_event_reads_lent_words begins_in transacts_in (controller_parts w) m (at_bus fixed w.bus) (controller_parts (controller_next fixed w)) v k.aligned same (world_has_row fixed w)
    in
    let t : IsTurned (at_bus fixed w.bus) (turned_by fixed (controller_row other) (controller_parts other) w.bus) r.other v =
    turned_is (controller_row other) (controller_parts other) (at_bus fixed w.bus) r.other v r.made
    in same_turned w (turned_by fixed (controller_row w) (controller_parts w) w.bus) (turned_by fixed (controller_row other) (controller_parts other) w.bus) r.other v.bus t.is r.control r.registers r.memory refl m

-- the word at place i of block b
place_block : (b i : ℕ) → i < 8 → 4 * (8 * b + i) / 32 ≡ b
place_block b i h = omega arith

place_word : (b i : ℕ) → 4 * (8 * b + i) / 4 ≡ 8 * b + i
place_word b i = omega arith

not_lent : (o : Option BlockState) → (o ≡ Some Lent → ⊥) → is_lent o ≡ false
not_lent (Some Lent) off = absurd (off refl)
not_lent _ off = refl

block_words : (m new : Mem) (b i : ℕ) → WritesLent m new → (state_at m b ≡ Some Lent → ⊥) → i < 8 → slice_index new.words (8 * b + i) ≡ slice_index m.words (8 * b + i)
block_words m new b i writes off below =
    let out : reaches m (4 * (8 * b + i)) ≡ false = ap (λ n. is_lent (slice_get m.states n)) (place_block b i below) ∙ not_lent (state_at m b) off in
    ap (λ n. slice_index new.words n) (sym (place_word b i)) ∙ writes.words (4 * (8 * b + i)) out ∙ ap (λ n. slice_index m.words n) (place_word b i)

lent_only : (m new : Mem) → WritesLent m new → WritesLentOnly m new
lent_only m new writes = record { states = writes.states; size = writes.size; words = λ b i off below. block_words m new b i writes off below }

free_not_lent : (o : Option BlockState) → o ≡ Some Free → o ≡ Some Lent → ⊥
free_not_lent o free lent = cc

book_good : (k : Book) (m new : Mem) → WritesLent m new → IsGood k m → IsGood k new
book_good k m new writes old = record {
  stands = record {
    held = record {
      each = λ b h. ap (λ ss. slice_get ss b) writes.states ∙ old.stands.held.each b (subst (λ ss. b < length ss) writes.states h);
      once = old.stands.held.once;
      within = λ b h. old.stands.held.within b (subst (λ ss. length ss ≤ b) writes.states h);
    };
    placed = old.stands.placed;
    clean = λ b i free h.
        let was : state_at m b ≡ Some Free = ap (λ ss. slice_get ss b) (sym writes.states) ∙ free in
        block_words m new b i writes (free_not_lent (state_at m b) was) h ∙ old.stands.clean b i was h;
    sizes = old.stands.sizes ∙ ap length (sym writes.states);
    few = old.stands.few;
  };
  shape = shaped_same m new writes.size writes.states old.shape;
}

controller_stands : (fixed : Fixed) (w : World) → IsStanding w → IsStanding (controller_next fixed w)
controller_stands fixed w k = record {
  aligned =
      each_event_keeps_addresses_aligned begins_in transacts_in (controller_parts w) (at_bus fixed w.bus) (controller_parts (controller_next fixed w)) (at_bus fixed (controller_next fixed w).bus) k.aligned
      (world_has_row fixed w);
  good = book_good w.driver.book w.memory (controller_next fixed w).memory (writes_lent fixed w k) k.good;
  lent = k.lent;
}

-- ---- an event of the driver

driver_stands : (w : World) → IsStanding w → IsStanding (driver_next w)
driver_stands w k = record {
  aligned = record {
    frame = k.aligned.frame;
    ring = k.aligned.ring;
    start = ap (λ (n : ℕ). n % 32) (row_address (driver_row (driver_parts w)) (driver_parts w)) ∙ k.aligned.start;
  };
  good = event_good (driver_parts w) k.good;
  lent = events_keep_them (driver_parts w) k.lent;
}

pub next_stands : (fixed : Fixed) (w : World) (event : Event) → IsStanding w → IsStanding (next fixed w event)
next_stands fixed w events.D k = driver_stands w k
next_stands fixed w events.C k = controller_stands fixed w k

-- ---- a command

refused_lent : (d : DriverContent) (n : ℕ) (name : EpName) (why : OfferError) → AreLent d → AreLent (refused_line d n name why)
refused_lent d n name why old = record { kept = old.kept; lent = old.lent }

answered_stands : (w : World) (n : ℕ) (name : EpName) (cmd : Cmd) (r : Result Offered OfferError) → IsStanding w → offered w.driver w.memory cmd ≡ r → IsStanding (commanded_by w n name r)
answered_stands w n name cmd (Ok o) k is = record {
  aligned = record { frame = k.aligned.frame; ring = k.aligned.ring; start = k.aligned.start };
  good = accepted_good w.driver w.memory o (each_command_has_its_reason w.driver w.memory cmd o is) k.good;
  lent = commands_keep_them w.driver w.memory cmd o k.lent is;
}
answered_stands w n name cmd (Err why) k is = record {
  aligned = record { frame = k.aligned.frame; ring = k.aligned.ring; start = k.aligned.start };
  good = k.good;
  lent = refused_lent w.driver n name why k.lent;
}

pub commanded_stands : (w : World) (n : ℕ) (cmd : Cmd) → IsStanding w → IsStanding (commanded w n cmd)
commanded_stands w n cmd k = answered_stands w n (name_in cmd) cmd (offered w.driver w.memory cmd) k refl

-- ---- the opening

pub opening_stands : (s : Script) → IsFit s → IsStanding (opening_world s)
opening_stands s fit =
    let place = opening_is_in_place s.words (room_of_script s) fit.least fit.most fit.whole_pages in
    record {
      aligned = a_new_controller_is_aligned (opening_world s).registers (opening_world s).memory refl;
      good = record { stands = place.sound.stands; shape = place.sound.shape };
      lent = place.lent;
    }

-- ---- what that says

pub keeps_to_lent : (fixed : Fixed) (w : World) → IsStanding w → KeepsToLent fixed w
keeps_to_lent fixed w k = record {
  reads = λ m same. reads_only fixed w m k same;
  writes = lent_only w.memory (controller_next fixed w).memory (writes_lent fixed w k);
  released = what_a_release_leaves_is_free (driver_parts w) k.good.stands k.lent;
  clean = k.good.stands.clean;
}
