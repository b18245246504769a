-- A new queue head of the ring is lent, in a world with endpoints of every kind: it waits for the link of the head.
use Rattle.std.proofs.Common.{◌≡◌, ◌≢◌, ℕ, ◌*◌, Bool, false, ◌||◌, slice_get, Option, Some, option_map, ap, sym, subst, ◌∙◌, inr}
use Rattle.law_common.proofs.Numbers.{same_blocks}
use Rattle.law_driver.proofs.Common.{ring_queue}
use Rattle.qh_qtd.specs.declared.queue_head.Qh.{Qh}
use Rattle.drv_periodic_table.specs.Periodic.{is_periodic}
use Rattle.drv_table.specs.declared.content.Endpoint.{Endpoint}
use Rattle.drv_table.specs.declared.content.Command.{Command}
use Rattle.drv_table.specs.declared.content.Command.TheVariants as unfinished
use Rattle.drv_table.specs.declared.rows.DriverRow.TheVariants as rows
use Rattle.drv_table.specs.DriverContent.{DriverContent}
use Rattle.drv_table.specs.Parts.{Parts}
use Rattle.drv_table.specs.Kinds.{is_iso}
use Rattle.drv_table.specs.Rows.{row_for, driver_row}
use Rattle.drv_table.specs.Commands.{command_row}
use Rattle.drv_table.specs.Words.{queue_head, dummy_qtd}
use Rattle.claims_driver.specs.Leaving.{HasOwners}
use Rattle.claims_driver.specs.Owners.{runs_of_endpoint, views_of}
use Rattle.law_driver.proofs.lemmas.ring_members.Placed.{linked_alive}
use Rattle.law_structures.specs.lent_structures.Structures.{QueueHead, Element, Structures, StructureSets, put}
use Rattle.law_structures.proofs.lemmas.lent_structures.Names.{put_beside}
use Rattle.law_driver_ring.specs.Inventory.{sorts_of, IsDriven}
use Rattle.law_driver_ring.specs.LendOpened.{IsOpened}
use Rattle.claims_base.specs.Controller.{opening_base}
use Rattle.law_driver.specs.chained_transfers.AsynchronousTurns.{AsynchronousTakesTurns}
use Rattle.law_queues.specs.open_laws.Lends.{IsOpenReady, parts_lent}
use Rattle.law_queues.specs.open_laws.Queues.{IsOpenToLend, open_lent}
use Rattle.law_queues.proofs.lemmas.open_laws.LentQueues.{open_lend_is_made}
use Rattle.law_queues.proofs.lemmas.open_laws.Newest.{new_heads_rest}
use Rattle.law_world.specs.steps.control_queues.Queues.{IsOpenLentWhole}
use Rattle.law_world.proofs.lemmas.steps.lemmas.control_queues.OpenLends.{open_lend_is_whole}
use Rattle.law_descriptors.specs.queue_events.Events.{PartsStand}
use Rattle.law_frames.specs.Met.{IsQueuePart}
use Rattle.law_world.proofs.lemmas.memory.lemmas.framed_memory.RingLinksWaiting.{open_lend_meets, open_lend_now}
use Rattle.law_driver.specs.queued_drivers.Queued.{with_queue, queued_command, queued_made, queued, queued_parts}
use Rattle.law_driver.proofs.lemmas.queued_drivers.RowLists.{queue_at}
use Rattle.law_driver.proofs.lemmas.queued_drivers.RowOwners.{queued_has_owners}
use Rattle.bus_world.specs.World.{World, driver_parts, controller_parts, driver_next}
use Rattle.law_world.specs.memory.Mixed.{QueuesGoOn, IsUnderWay, Standing, IsMixedAt}
use Rattle.law_world.specs.memory.Steps.{QueueStep, begins, IsMixedNext}
use Rattle.law_world.proofs.lemmas.memory.Next.{mixed_next}
use Rattle.law_world.proofs.lemmas.memory.Stepping.{queues_are}
use Rattle.law_world.proofs.lemmas.memory.QueueViews.{told_queue, queued_driven}
use Rattle.law_world.proofs.lemmas.memory.RingBasis.{linked_still, none_of_end, none_in_end, queued_next}

no_chain : (b : ℕ) → ◌≡◌ {A = Option Command} (Some (unfinished.Open b)) (Some unfinished.Chain) → ⊥
no_chain b same = cc

module _ (s : Standing) (w : World) (k : IsMixedAt s w) (r : IsOpenReady w.driver w.memory) where
  abbrev p : Parts
  p = driver_parts w

  abbrev d : DriverContent
  d = w.driver

  abbrev q : DriverContent
  q = queued d

  abbrev owners : HasOwners d
  owners = k.now.framed.place.sound.owners

  told_owners : HasOwners q
  told_owners = queued_has_owners d owners k.turns

  abbrev turns : AsynchronousTakesTurns q
  turns = k.turns.turns

  driven : IsDriven (views_of q) (sorts_of s.parts)
  driven = queued_driven d (sorts_of s.parts) k.now.framed.driven

  -- ---- its structures are lent

  abbrev x : Endpoint
  x = r.endpoint

  abbrev z : Endpoint
  z = with_queue x

  abbrev n : ℕ
  n = 32 * x.queue

  abbrev head : Qh
  head = queue_head x.desc r.link x.dummy

  abbrev now : StructureSets
  now = parts_lent s.parts r

  ring : is_periodic x.desc.kind ≡ false
  ring = (linked_alive d r.number x owners.orderly r.here r.fresh).0

  iso : is_iso x.desc.kind ≡ false
  iso = ring_queue x.desc.kind ring

  here : slice_get q.endpoints r.number ≡ Some z
  here = queue_at d.endpoints r.number x r.here iso

  command : q.command ≡ Some (unfinished.Open x.queue)
  command = ap (queued_command d.endpoints) r.command

  opened : IsOpened q w.memory r.number (runs_of_endpoint z) head
  opened = record {
    here = record { here = ap (option_map runs_of_endpoint) here; queued = ap (λ (b : Bool). b || x.gone) (told_queue x ∙ sym iso) ∙ r.opened.here.queued };
    taken = r.opened.taken;
    queue_kept = r.opened.queue_kept;
    dummy_kept = r.opened.dummy_kept;
    no_transfer = none_in_end d r.number r.opened.no_transfer;
    queue_words = r.opened.queue_words;
    dummy_words = r.opened.dummy_words;
    range = r.opened.range;
  }

  lend : IsOpenToLend q w.memory
  lend = record {
    number = r.number;
    endpoint = z;
    here = here;
    command = command;
    made = ap (λ (o : Option Command). queued_made o d.made) r.command ∙ r.made;
    fresh = linked_still x ring ∙ r.fresh;
    none = none_of_end d r.number r.none;
    queue = head;
    rests = (new_heads_rest x.desc 0 0 r.link x.dummy).0;
    opened = opened;
  }

  whole : IsOpenLentWhole q w.memory n s.near s.streams s.ends s.parts now s.order s.out
  unfolding lend
  whole = open_lend_is_whole q w.memory s.near s.streams s.ends s.parts s.order s.out told_owners turns driven k.queues.queues lend

  row_is : driver_row p ≡ rows.Lend
  row_is = ap (row_for p) r.command ∙ ap (command_row (unfinished.Open x.queue)) r.made

  next_is : open_lent q w.memory ≡ queued (driver_next w).driver
  next_is = sym (open_lend_is_made (queued_parts p) lend) ∙ queued_next s w k rows.Lend row_is (λ chain. no_chain x.queue (sym r.command ∙ chain))

  stay : (m : ℕ) → m ≢ n → now m ≡ s.parts m
  stay m differs = put_beside (put s.parts n n (QueueHead head)) n (32 * x.dummy) (Element dummy_qtd) m differs ∙ put_beside s.parts n n (QueueHead head) m differs

  sound : PartsStand (open_lent q w.memory) now
  sound e y at met =
      let differs : 32 * y.queue ≢ n = λ same. met.there.linked (command ∙ ap (λ (b : ℕ). Some (unfinished.Open b)) (sym (same_blocks y.queue x.queue same))) in
      subst (λ (part : Structures). IsQueuePart (32 * y.queue) part) (sym (stay (32 * y.queue) differs))
      (k.queues.sound e y at (record { there = record { linked = met.there.linked; kept = met.there.kept }; near = met.near }))

  go : QueuesGoOn (open_lent q w.memory) s.near s.streams s.ends now s.order s.out
  go = record { queues = whole.queues; sound = sound; tails = whole.tails k.queues.tails; controls = whole.controls k.queues.controls }

  its_step : QueueStep s w (driver_next w) (record s { parts = now })
  unfolding lend
  its_step = begins lend row_is (queues_are (open_lent q w.memory) (queued (driver_next w).driver) next_is)

  pub lent_next : IsMixedNext s w (driver_next w)
  lent_next =
      let l = open_lend_now opening_base s.member s.recent s.descs s.parts s.hand s.frame (controller_parts w) d k.now r in
      mixed_next s w k (record s { parts = now }) its_step l.0 (open_lend_meets (controller_parts w) d s.member r k.ring)
      (subst (λ (f : DriverContent). QueuesGoOn f s.near s.streams s.ends now s.order s.out) next_is go)
      (subst (λ (c : Option Command). IsUnderWay (driver_next w).driver (driver_next w).memory s.member s.recent now c) (sym l.1.command) (inr l.1))
