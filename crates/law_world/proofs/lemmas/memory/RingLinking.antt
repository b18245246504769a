-- The head of the ring leads to a new queue head, in a world with endpoints of every kind: the walk may meet it then.
use Rattle.std.proofs.Common.{◌≡◌, ◌≢◌, ℕ, suc, ◌*◌, Bool, false, nat_lt, if◌then◌else◌, List, slice_get, Option, Some, None, ap, refl, sym, subst, ◌∙◌, ⊎_elim}
use Rattle.std.proofs.lemmas.Bool.{cases_eq}
use Rattle.std.proofs.lemmas.Option.{same_Some}
use Rattle.law_common.proofs.Numbers.{same_blocks}
use Rattle.law_driver.proofs.Common.{ring_queue}
use Rattle.law_world.proofs.Common.{none_some}
use Rattle.qh_qtd.specs.declared.queue_head.Qh.{Qh}
use Rattle.drv_periodic_table.specs.Periodic.{is_periodic}
use Rattle.drv_table.specs.declared.content.Endpoint.{Endpoint}
use Rattle.drv_table.specs.declared.content.Command.{Command}
use Rattle.drv_table.specs.declared.content.Command.TheVariants as unfinished
use Rattle.drv_table.specs.declared.rows.DriverRow.{DriverRow}
use Rattle.drv_table.specs.declared.rows.DriverRow.TheVariants as rows
use Rattle.drv_table.specs.DriverContent.{DriverContent}
use Rattle.drv_table.specs.Parts.{Parts}
use Rattle.drv_table.specs.Commands.{events_of, command_row, advanced_by}
use Rattle.drv_table.specs.Rows.{row_for, driver_row, after_driver_row}
use Rattle.drv_table.specs.Words.{head_block, to_queue_head, queue_head_link, queue_head}
use Rattle.law_driver.specs.run_owners.Due.{IsNextOf}
use Rattle.claims_driver.specs.Leaving.{HasOwners}
use Rattle.law_driver.proofs.lemmas.ring_members.Placed.{queue_off_head, linked_alive}
use Rattle.law_structures.specs.lent_structures.Structures.{QueueHead, Structures, StructureSets}
use Rattle.law_structures.specs.lent_structures.Sound.{IsMember}
use Rattle.law_structures.proofs.lemmas.lent_structures.Names.{put_beside}
use Rattle.law_ring.specs.Told.{Endpoint as Told}
use Rattle.law_driver_ring.specs.Linked.{with_member, head_at}
use Rattle.claims_base.specs.Controller.{opening_base}
use Rattle.law_controller.specs.controlled_streams.Opened.{with_end, with_none}
use Rattle.law_driver.specs.chained_transfers.AsynchronousTurns.{AsynchronousTakesTurns}
use Rattle.law_queues.specs.publish_laws.Stores.{QueuesThen}
use Rattle.law_queues.proofs.lemmas.publish_laws.Apart.{bare_not}
use Rattle.law_queues.specs.standing_fronts.Reaching.{Reaches}
use Rattle.law_queues.specs.standing_fronts.Tails.{tail_of, TailsStand}
use Rattle.law_queues.specs.open_laws.Opens.{IsOpenLent, head_then, hand_then, end_then, streams_then}
use Rattle.law_queues.specs.open_laws.Queues.{IsOpenThere, open_finished}
use Rattle.law_queues.proofs.lemmas.open_laws.HeadStores.{head_keeps_queues}
use Rattle.law_queues.proofs.lemmas.open_laws.Newest.{new_heads_rest, queue_and_dummy, new_part}
use Rattle.law_queues.proofs.lemmas.open_laws.Standing.{member_here}
use Rattle.law_world.specs.steps.control_queues.Queues.{IsOpenWhole}
use Rattle.law_world.proofs.lemmas.steps.lemmas.control_queues.Opens.{open_is_whole, link_keeps_controls}
use Rattle.law_descriptors.specs.queue_events.Events.{PartsStand}
use Rattle.law_frames.specs.Met.{IsQueuePart}
use Rattle.law_world.specs.memory.framed_memory.Now.{FramedNext}
use Rattle.law_world.specs.memory.framed_memory.Ring.{IsHeadMet}
use Rattle.law_world.proofs.lemmas.memory.lemmas.framed_memory.RingLinks.{ring_now}
use Rattle.law_world.proofs.lemmas.memory.lemmas.framed_memory.RingLinksMet.{head_is_met, open_link_meets}
use Rattle.law_world.proofs.lemmas.memory.lemmas.framed_memory.RingLinksOpen.{open_link_now}
use Rattle.law_queues.specs.shared_memory.Shared.{next_parts, after_driver}
use Rattle.law_driver.specs.queued_drivers.Queued.{with_queue, queued_command, queued_made, queued, queued_parts}
use Rattle.law_driver.proofs.lemmas.queued_drivers.RowLists.{queue_at}
use Rattle.law_driver.proofs.lemmas.queued_drivers.RowOwners.{queued_has_owners}
use Rattle.law_queues.proofs.lemmas.lent_fronts.Parts.{member_head}
use Rattle.bus_world.specs.World.{World, driver_parts, controller_parts, driver_next}
use Rattle.law_world.specs.memory.Mixed.{QueuesGoOn, IsUnderWay, Standing, IsMixedAt}
use Rattle.law_world.specs.memory.Steps.{QueueStep, opens as step_opens, linked_hand, same_frame, IsMixedNext}
use Rattle.law_world.proofs.lemmas.memory.Next.{mixed_next}
use Rattle.law_world.proofs.lemmas.memory.Alike.{relinked_same}
use Rattle.law_world.proofs.lemmas.memory.Stepping.{queues_are}
use Rattle.law_world.proofs.lemmas.memory.RingBasis.{linked_still, none_of_end, queued_next}

module _ (s : Standing) (w : World) (k : IsMixedAt s w) (l : IsOpenLent w.driver s.member s.parts) where
  abbrev p : Parts
  p = driver_parts w

  abbrev d : DriverContent
  d = w.driver

  abbrev q : DriverContent
  q = queued d

  abbrev owners : HasOwners d
  owners = k.now.framed.place.sound.owners

  told_owners : HasOwners q
  told_owners = queued_has_owners d owners k.turns

  abbrev turns : AsynchronousTakesTurns q
  turns = k.turns.turns

  abbrev x : Endpoint
  x = l.endpoint

  abbrev z : Endpoint
  z = with_queue x

  abbrev n : ℕ
  n = 32 * x.queue

  abbrev wider : ℕ → Bool
  wider = with_member s.member (32 * l.endpoint.queue)

  abbrev near : ℕ → Bool
  near = with_member s.near (32 * l.endpoint.queue)

  abbrev streams : ℕ → Bool
  streams = streams_then s.streams z

  abbrev ends : ℕ → Told
  ends = with_end s.ends (32 * l.endpoint.queue) (end_then z)

  abbrev out : ℕ → List ℕ
  out = with_none s.out (32 * l.endpoint.queue)

  abbrev f : DriverContent
  f = open_finished q

  ring : is_periodic x.desc.kind ≡ false
  ring = (linked_alive d l.number x owners.orderly l.here l.fresh).0

  alive : x.gone ≡ false
  alive = (linked_alive d l.number x owners.orderly l.here l.fresh).1

  here : slice_get q.endpoints l.number ≡ Some z
  here = queue_at d.endpoints l.number x l.here (ring_queue x.desc.kind ring)

  command : q.command ≡ Some (unfinished.Open x.queue)
  command = ap (queued_command d.endpoints) l.command

  there : IsOpenThere q s.parts
  there = record {
    number = l.number;
    endpoint = z;
    here = here;
    command = command;
    fresh = linked_still x ring ∙ l.fresh;
    none = none_of_end d l.number l.none;
    part = new_part z (queue_head x.desc l.link x.dummy) (s.parts n) (queue_and_dummy q told_owners l.number z here (turns.asynchronous.endpoints l.number z here) alive)
        (new_heads_rest x.desc 0 0 l.link x.dummy).0 l.part;
  }

  whole : IsOpenWhole q l.number z s.near s.streams s.ends s.parts s.order s.out
  unfolding there
  whole = open_is_whole q s.near s.streams s.ends s.parts s.order s.out told_owners turns there k.queues.queues

  -- ---- the row

  row_is : driver_row p ≡ rows.Store head_block (32 * head_block) (queue_head_link x.queue)
  row_is = ap (row_for p) l.command ∙ ap (command_row (unfinished.Open x.queue)) l.made

  of_queues : IsNextOf p (rows.Store head_block (32 * head_block) (queue_head_link x.queue))
  of_queues = record { command = unfinished.Open x.queue; unfinished = l.command; next = ap (slice_get (events_of (unfinished.Open x.queue))) l.made }

  made : q.made ≡ 1
  made = ap (λ (o : Option Command). queued_made o d.made) l.command ∙ l.made

  abbrev finished_by : DriverContent → ℕ → DriverContent
  finished_by g j = if nat_lt (suc j) 2 then record g { made = suc j } else record g { command = None; made = 0 }

  told_is : (after_driver_row (rows.Store head_block (32 * head_block) (queue_head_link x.queue)) (queued_parts p)).driver ≡ f
  told_is = ap (advanced_by q) command ∙ ap (finished_by q) made

  next_is : f ≡ queued (driver_next w).driver
  next_is = sym told_is ∙ queued_next s w k (rows.Store head_block (32 * head_block) (queue_head_link x.queue)) row_is of_queues

  done : (driver_next w).driver.command ≡ None
  done =
      ap (λ (row : DriverRow). (after_driver_row row p).driver.command) row_is
      ∙ ap (λ (o : Option Command). (advanced_by d o).command) l.command ∙ ap (λ (j : ℕ). (finished_by d j).command) l.made

  -- ---- the link

  first : IsHeadMet s.member s.parts
  first = head_is_met opening_base s.member s.recent s.descs s.parts s.hand s.frame (controller_parts w) d k.now k.ring

  abbrev now : StructureSets
  now = head_then s.parts first.queue l.endpoint

  abbrev linked : Qh
  linked = record first.queue { link = to_queue_head x.queue }

  framed : FramedNext opening_base wider s.recent s.descs now (hand_then s.hand x) s.frame (controller_parts w) d
  framed = open_link_now opening_base s.member s.recent s.descs s.parts s.hand s.frame (controller_parts w) d k.now l first

  -- no queue head of an endpoint is that of the head
  stay : (e : ℕ) (y : Endpoint) → slice_get q.endpoints e ≡ Some y → y.gone ≡ false → now (32 * y.queue) ≡ s.parts (32 * y.queue)
  stay e y at kept =
      put_beside s.parts head_at head_at (QueueHead linked) (32 * y.queue)
      (λ same. queue_off_head q e y told_owners at (bare_not y (turns.asynchronous.endpoints e y at) kept) (same_blocks y.queue head_block same))

  queues : QueuesThen f near streams ends now s.order out
  queues =
      let u = whole.queues in
      head_keeps_queues f near streams ends s.parts s.order out head_at first.queue linked first.here (λ b words. none_some (unfinished.Publish b words))
      (record { met = u.met; streams_are = u.streams_are; fed = u.fed; last = u.last; out_are = u.out_are })

  tails : TailsStand f now s.order out
  tails e y at met =
      let m = 32 * y.queue in
      subst (λ (part : Structures). Reaches f part (s.order m) (out m) e y (tail_of f e y)) (sym (stay e y at met.there.kept)) (whole.tails k.queues.tails e y at met)

  one_open : (b c : ℕ) → Some (unfinished.Open b) ≡ Some (unfinished.Open c) → c ≡ b
  one_open b c same = cc

  sound : PartsStand f now
  sound e y at met =
      ⊎_elim
      (λ (same : e ≡ l.number).
      let is : y ≡ z = same_Some y z (sym at ∙ ap (slice_get q.endpoints) same ∙ here) in
      let c = after_driver (controller_parts w) d in
      let m : IsMember wider n (now n)
      = (ring_now opening_base wider s.recent s.descs now (hand_then s.hand x) s.frame c (next_parts (controller_parts w) d).driver framed).ring.members n (member_here s.member n) in
      subst (λ (u : Endpoint). IsQueuePart (32 * u.queue) (now (32 * u.queue))) (sym is) (member_head wider n (now n) m))
      (λ (differs : e ≢ l.number).
      let apart : 32 * y.queue ≢ n = whole.apart e y at met.there.kept differs in
      subst (λ (part : Structures). IsQueuePart (32 * y.queue) part) (sym (stay e y at met.there.kept))
      (k.queues.sound e y at
      (record {
        there = record { linked = λ opens. apart (ap (λ (b : ℕ). 32 * b) (one_open x.queue y.queue (sym command ∙ opens))); kept = met.there.kept };
        near = met.near;
      }))) (cases_eq e l.number)

  go : QueuesGoOn f near streams ends now s.order out
  go = record {
    queues = record { met = queues.met; streams_are = queues.streams_are; fed = queues.fed; last = queues.last; out_are = queues.out_are };
    sound = sound;
    tails = tails;
    controls = link_keeps_controls f s.parts s.order out head_at first.queue (to_queue_head x.queue) first.here (whole.controls k.queues.controls);
  }

  abbrev after_link : Standing
  after_link = record s { member = wider; near = near; streams = streams; ends = ends; parts = now; hand = hand_then s.hand x; out = out }

  its_step : QueueStep s w (driver_next w) after_link
  unfolding there
  its_step =
      step_opens there after_link (queues_are f (queued (driver_next w).driver) next_is)
      (record {
        near = refl;
        streams = refl;
        ends = refl;
        order = refl;
        out = refl;
        told = record {
          parts = relinked_same s.parts head_at first.queue (to_queue_head x.queue) first.here;
          hand = linked_hand head_at (to_queue_head x.queue);
          frame = same_frame;
        };
      })

  pub linked_next : IsMixedNext s w (driver_next w)
  linked_next =
      mixed_next s w k after_link its_step framed
      (open_link_meets opening_base s.member s.recent s.descs s.parts s.hand s.frame (controller_parts w) d k.now l k.ring)
      (subst (λ (g : DriverContent). QueuesGoOn g near streams ends now s.order out) next_is go)
      (subst (λ (c : Option Command). IsUnderWay (driver_next w).driver (driver_next w).memory wider s.recent now c) (sym done) tt)
