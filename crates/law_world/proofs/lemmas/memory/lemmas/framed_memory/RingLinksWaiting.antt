-- A new endpoint's queue head is lent, and waits for the link of the ring's head, beside both walks.
use Rattle.std.proofs.Common.{◌≡◌, ℕ, suc, ◌*◌, Bool, false, nat_lt, if◌then◌else◌, List, Option, Some, None, ap, refl, sym, subst, ◌∙◌}
use Rattle.usb_base.specs.declared.packets.Ask.{Ask}
use Rattle.usb_base.specs.declared.packets.Reply.{Reply}
use Rattle.qh_qtd.specs.declared.queue_head.Qh.{Qh}
use Rattle.mem_runs.specs.Book.{Book, holding, lend_taken}
use Rattle.drv_table.specs.declared.content.Endpoint.{Endpoint}
use Rattle.drv_table.specs.declared.content.Command.TheVariants as unfinished
use Rattle.drv_table.specs.declared.rows.DriverRow.{DriverRow}
use Rattle.drv_table.specs.declared.rows.DriverRow.TheVariants as rows
use Rattle.drv_table.specs.DriverContent.{DriverContent}
use Rattle.drv_table.specs.Parts.{Parts}
use Rattle.drv_table.specs.Rows.{row_for, driver_row, after_driver_row}
use Rattle.drv_table.specs.Commands.{command_row, advanced_by}
use Rattle.drv_table.specs.Words.{queue_head}
use Rattle.claims_driver.specs.Owners.{EndpointRuns, runs_of_endpoint}
use Rattle.hc_core.specs.Controller.{Content, walk_place}
use Rattle.law_structures.specs.lent_structures.Structures.{QueueHead, Structures, StructureSets}
use Rattle.law_ring.specs.Hand.{Hand}
use Rattle.claims_base.specs.Controller.{Base}
use Rattle.law_driver_ring.specs.Linked.{opened_part}
use Rattle.law_driver_ring.proofs.Unmet.{open_is_unmet}
use Rattle.law_driver_ring.specs.fed_queues.Places.{AreMet}
use Rattle.law_driver_ring.proofs.lemmas.fed_queues.Places.{same_ends, met_stays}
use Rattle.law_queues.specs.open_laws.Opens.{IsOpenLent}
use Rattle.law_queues.specs.open_laws.Lends.{IsOpenReady, parts_lent}
use Rattle.law_queues.specs.shared_memory.Shared.{parts_of, next_parts}
use Rattle.law_frames.specs.Met.{Kind}
use Rattle.law_frames.specs.FrameHand.{FrameHand}
use Rattle.law_controller.proofs.lemmas.frame_control.Running.{what_neither_walk_meets_stays}
use Rattle.law_descriptors.specs.Both.{owns, both, parts_now}
use Rattle.law_descriptors.specs.PartLaws.{IsDescribing}
use Rattle.law_descriptors.specs.Meeting.{met}
use Rattle.law_descriptors.proofs.Standing.{both_off}
use Rattle.law_descriptors.proofs.Telling.{queue_off}
use Rattle.law_world.specs.memory.framed_memory.Now.{IsFramedNow, FramedNext}
use Rattle.law_world.specs.memory.framed_memory.Ring.{OpenLendNow, OpenLendMeets, OpenLentStaysNow}
use Rattle.law_world.proofs.lemmas.memory.lemmas.framed_memory.OpenLends.{lend_open_keeps_now}
use Rattle.law_world.proofs.lemmas.memory.lemmas.framed_memory.RingLinks.{ring_now}
use Rattle.law_world.proofs.lemmas.memory.lemmas.framed_memory.RingLinksOpen.{queue_here, never_met}

-- ---- the lend

module _ (c : Content) (d : DriverContent) (k : IsOpenReady d c.memory) where
  abbrev p : Parts
  p = parts_of c d

  abbrev lent_book : Book
  lent_book = (lend_taken (holding d.book c.memory)).book

  abbrev f : DriverContent
  f = record d { book = lent_book; made = 1 }

  row_is : driver_row p ≡ rows.Lend
  row_is = ap (row_for p) k.command ∙ ap (command_row (unfinished.Open k.endpoint.queue)) k.made

  abbrev counted : ℕ → DriverContent
  counted j = if nat_lt (suc j) 2 then record d { book = lent_book; made = suc j } else record d { book = lent_book; command = None; made = 0 }

  driver_is : (next_parts c d).driver ≡ f
  driver_is = ap (λ (row : DriverRow). (after_driver_row row p).driver) row_is ∙ ap (advanced_by (record d { book = lent_book })) k.command ∙ ap counted k.made

  -- the same queue heads are met
  meets : (member : ℕ → Bool) → AreMet d member → AreMet (next_parts c d).driver member
  meets member old =
      subst (λ (g : DriverContent). AreMet g member) (sym driver_is)
      (met_stays d f member (same_ends d f (record { waiting = refl; rung = refl; opens = λ b is. is }) (record { waiting = refl; rung = refl; opens = λ b is. is }) refl) old)

pub open_lend_meets : OpenLendMeets
open_lend_meets c d member k old = meets c d k member old

module _ (base : Base) (member : ℕ → Bool) (recent : ℕ → Option Kind) (descs parts : StructureSets) (hand : Hand) (frame : FrameHand) (c : Content) (d : DriverContent) (i : IsFramedNow base member recent descs parts hand frame c d) (k : IsOpenReady d c.memory) where
  abbrev x : Endpoint
  x = k.endpoint

  abbrev r : EndpointRuns
  r = runs_of_endpoint x

  abbrev q : Qh
  q = queue_head x.desc k.link x.dummy

  abbrev now : StructureSets
  now = parts_lent parts k

  unmet : (member (32 * x.queue) ≡ false) × ((b : ℕ) → now (32 * x.queue) b ≡ opened_part r q b)
  unmet =
      open_is_unmet base member parts hand (walk_place c) d c.memory k.number r q k.opened i.framed.place.sound.owners (ring_now base member recent descs parts hand frame c d i)

  lent : IsOpenLent (f c d k) member now
  lent = record {
    number = k.number;
    endpoint = x;
    here = k.here;
    command = k.command;
    made = refl;
    fresh = k.fresh;
    unmet = unmet.0;
    none = k.none;
    link = k.link;
    part = unmet.1;
  }

  pub lent_now : FramedNext base member recent descs now hand frame c d × IsOpenLent (next_parts c d).driver member now
  lent_now = (
    lend_open_keeps_now base member recent descs parts hand frame c d k.number r q i (row_is c d k) k.opened,
    subst (λ (g : DriverContent). IsOpenLent g member now) (sym (driver_is c d k)) lent,
  )

pub open_lend_now : OpenLendNow
open_lend_now base member recent descs parts hand frame c d i k = lent_now base member recent descs parts hand frame c d i k

-- ---- the controller

pub open_lent_stays_now : {W : Type 0} (begins : W → ℕ → Bool → W → Type 0) (transacts : W → Ask → List ℕ → Reply → W → Type 0) → OpenLentStaysNow begins transacts
open_lent_stays_now begins transacts base member recent descs parts hand frame c d wire after now later frame_later i h k effect =
    let n : ℕ = 32 * k.endpoint.queue in
    let q : Qh = queue_head k.endpoint.desc k.link k.endpoint.dummy in
    let old : IsDescribing d descs parts = record { owners = i.framed.place.sound.owners; driven = i.framed.driven; described = i.framed.described } in
    let off : owns descs n ≡ false = queue_off d descs parts old n n (QueueHead q) (queue_here base member recent descs parts hand frame c d i k h) in
    let none : met d recent n ≡ None = by (met d recent n) (λ kind at. never_met base member recent descs parts hand frame c d i k h kind at) in
    let same : parts_now descs parts now n ≡ parts n
    = ap (λ (b : Bool). if b then parts n else now n) off
    ∙ what_neither_walk_meets_stays begins transacts base member (met d recent) (both descs parts) hand frame c wire after now later frame_later n i.framed.runs effect k.unmet none ∙ both_off descs parts n off in
    record {
      number = k.number;
      endpoint = k.endpoint;
      here = k.here;
      command = k.command;
      made = k.made;
      fresh = k.fresh;
      unmet = k.unmet;
      none = k.none;
      link = k.link;
      part = λ b. ap (λ (part : Structures). part b) same ∙ k.part b;
    }
  where
    by : (o : Option Kind) → ((kind : Kind) → o ≡ Some kind → ⊥) → o ≡ None
    by None un = refl
    by (Some kind) un = absurd (un kind refl)
