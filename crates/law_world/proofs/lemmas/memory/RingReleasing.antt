-- An endpoint that left the ring is given back, in a world with endpoints of every kind: neither walk meets its queue head any more, and all else stands.
use Rattle.std.proofs.Common.{◌≡◌, ◌≢◌, ℕ, ◌*◌, Bool, true, false, cond, List, [], set, slice_get, Option, Some, None, option_map, unwrap_or, ap, refl, sym, subst, ◌∙◌, ⊎_elim, inl, inr}
use Rattle.std.proofs.lemmas.Bool.{false≢true}
use Rattle.std.proofs.lemmas.Option.{same_Some}
use Rattle.law_world.proofs.Common.{told_same, near_alive}
use Rattle.law_common.proofs.Lists.{set_here, set_there}
use Rattle.law_common.proofs.Numbers.{same_blocks}
use Rattle.usb_base.specs.declared.reports.What.TheVariants as lines
use Rattle.mem_runs.specs.Book.{Book, holding}
use Rattle.drv_table.specs.declared.content.Endpoint.{Endpoint}
use Rattle.drv_table.specs.declared.content.Command.{Command}
use Rattle.drv_table.specs.declared.content.Mend.{Mend}
use Rattle.drv_table.specs.declared.content.Turn.TheVariants as side
use Rattle.drv_table.specs.declared.rows.DriverRow.{DriverRow}
use Rattle.drv_table.specs.declared.rows.DriverRow.TheVariants as rows
use Rattle.drv_table.specs.DriverContent.{DriverContent}
use Rattle.drv_table.specs.Harvests.{reported}
use Rattle.drv_table.specs.Parts.{Parts}
use Rattle.drv_table.specs.Releases.{is_told, cancelled_bytes, gone_with, free_endpoint, after_endpoint}
use Rattle.drv_table.specs.Leaving.{first_row, removal_row, bell_row}
use Rattle.drv_table.specs.Harvesting.{harvest_row}
use Rattle.drv_table.specs.Rows.{row_for, driver_row, after_driver_row}
use Rattle.drv_table.specs.Words.{head_block}
use Rattle.law_driver.specs.endpoint_lives.Lives.{may_meet}
use Rattle.law_driver.proofs.lemmas.endpoint_lives.Lives.{met_alike}
use Rattle.law_driver.specs.run_owners.Due.{IsEndpointDue}
use Rattle.claims_driver.specs.Leaving.{HasOwners}
use Rattle.law_driver.proofs.lemmas.ring_members.Placed.{has_queue, queue_off_head, queues_apart}
use Rattle.law_structures.specs.lent_structures.Structures.{Structures, StructureSets}
use Rattle.claims_base.specs.Controller.{opening_base}
use Rattle.law_driver.specs.chained_transfers.AsynchronousTurns.{AsynchronousTakesTurns}
use Rattle.law_driver_ring.specs.fed_queues.Places.{IsMet, HasHead, AreMet}
use Rattle.law_queues.proofs.lemmas.mended_heads.Rows.{gives_back, given_owes_none}
use Rattle.law_world.specs.steps.endpoint_releases.Released.{without_queue, IsToLeave, HasLeaver}
use Rattle.law_world.proofs.lemmas.steps.lemmas.endpoint_releases.Owning.{queue_beside}
use Rattle.law_world.proofs.lemmas.steps.lemmas.endpoint_releases.Releasing.{due_is_to_leave}
use Rattle.law_world.specs.steps.left_queues.Standing.{AllStand}
use Rattle.law_world.proofs.lemmas.steps.lemmas.left_queues.Returned.{endpoint_release_stands}
use Rattle.law_world.proofs.lemmas.steps.lemmas.left_queues.Unmet.{apart_by, IsCleared, cleared_is, near_other, cleared_unmet}
use Rattle.law_world.specs.steps.control_queues.Controls.{ControlsStand}
use Rattle.law_world.proofs.lemmas.steps.lemmas.control_queues.Beside.{same_keep_controls}
use Rattle.law_world.proofs.lemmas.steps.lemmas.control_queues.Returns.{leaver_keeps_controls}
use Rattle.law_descriptors.specs.queue_events.Events.{PartsStand}
use Rattle.law_frames.specs.Met.{IsQueuePart}
use Rattle.law_world.specs.memory.framed_memory.Now.{FramedNext}
use Rattle.law_world.proofs.lemmas.memory.lemmas.framed_memory.LeavingReleased.{endpoint_release_now}
use Rattle.law_driver.specs.queued_drivers.Queued.{with_queue, queued, queued_parts}
use Rattle.law_driver.proofs.lemmas.queued_drivers.RowEvents.{idle_told}
use Rattle.law_driver.proofs.lemmas.queued_drivers.RowLists.{queue_at}
use Rattle.law_driver.proofs.lemmas.queued_drivers.RowOwners.{queued_has_owners}
use Rattle.bus_world.specs.World.{World, driver_parts, controller_parts, driver_next}
use Rattle.law_world.specs.memory.Mixed.{QueuesGoOn, IsUnderWay, Standing, IsMixedAt}
use Rattle.law_world.specs.memory.Steps.{left_the_ring, QueueStep, goes, IsMixedNext}
use Rattle.law_world.specs.memory.Laws.{RowKeepsMixed}
use Rattle.law_world.proofs.lemmas.memory.Next.{mixed_next}
use Rattle.law_world.proofs.lemmas.memory.Stepping.{queues_are, near_without, streams_within}
use Rattle.law_world.proofs.lemmas.memory.QueueViews.{told_queue}
use Rattle.law_world.proofs.lemmas.memory.RingBasis.{due_is, queued_next}
use Rattle.law_world.proofs.lemmas.memory.CommandTails.{all_stand, tails_stand}

-- ---- what the row changes

module _ (p : Parts) (e : ℕ) (x : Endpoint) (here : slice_get p.driver.endpoints e ≡ Some x) where
  abbrev old : DriverContent
  old = p.driver

  abbrev f : DriverContent
  f = (after_driver_row (rows.ReleaseEndpoint e) p).driver

  abbrev gone : Endpoint
  gone = record x { gone = true }

  f_is : f ≡ (after_endpoint p e (Some x)).driver
  f_is = ap (λ (o : Option Endpoint). (after_endpoint p e o).driver) here

  pub ends : f.endpoints ≡ set old.endpoints e gone
  ends = ap (λ (g : DriverContent). g.endpoints) f_is ∙ ap (λ (xs : List Endpoint). set xs e gone) (told_same (λ (g : DriverContent). g.endpoints) _ old (is_told x) refl)

  pub command_same : f.command ≡ old.command
  command_same = ap (λ (g : DriverContent). g.command) f_is ∙ told_same (λ (g : DriverContent). g.command) _ old (is_told x) refl

  waiting_same : f.waiting ≡ old.waiting
  waiting_same = ap (λ (g : DriverContent). g.waiting) f_is ∙ told_same (λ (g : DriverContent). g.waiting) _ old (is_told x) refl

  rung_same : f.rung ≡ old.rung
  rung_same = ap (λ (g : DriverContent). g.rung) f_is ∙ told_same (λ (g : DriverContent). g.rung) _ old (is_told x) refl

  pub other_by : (i : ℕ) (y : Endpoint) → slice_get f.endpoints i ≡ Some y → y.gone ≡ false → i ≢ e
  other_by i y at kept own =
      let is : y ≡ gone = same_Some y gone (sym at ∙ ap (λ (xs : List Endpoint). slice_get xs i) ends ∙ ap (slice_get (set old.endpoints e gone)) own ∙ set_here old.endpoints e x gone here) in
      false≢true (sym kept ∙ ap (λ (u : Endpoint). u.gone) is)

  pub was : (i : ℕ) (y : Endpoint) → slice_get f.endpoints i ≡ Some y → i ≢ e → slice_get old.endpoints i ≡ Some y
  was i y at other = sym (set_there old.endpoints e i gone other) ∙ ap (λ (xs : List Endpoint). slice_get xs i) (sym ends) ∙ at

  is_now : (i : ℕ) (y : Endpoint) → slice_get old.endpoints i ≡ Some y → i ≢ e → slice_get f.endpoints i ≡ Some y
  is_now i y at other = ap (λ (xs : List Endpoint). slice_get xs i) ends ∙ set_there old.endpoints e i gone other ∙ at

  near_same : (i : ℕ) (y : Endpoint) → may_meet f i y ≡ may_meet old i y
  near_same i y = met_alike old f i y y refl waiting_same rung_same

  met_back : (i : ℕ) (y : Endpoint) → IsMet f i y → IsMet old i y
  met_back i y m = record { there = record { linked = λ is. m.there.linked (command_same ∙ is); kept = m.there.kept }; near = sym (near_same i y) ∙ m.near }

  met_on : (i : ℕ) (y : Endpoint) → IsMet old i y → IsMet f i y
  met_on i y m = record { there = record { linked = λ is. m.there.linked (sym command_same ∙ is); kept = m.there.kept }; near = near_same i y ∙ m.near }

  -- the walk of the ring may meet the same queue heads
  met_after : (member : ℕ → Bool) → may_meet old e x ≡ false → AreMet old member → AreMet f member
  met_after member off m = record {
    head = m.head;
    each = λ i y at met. m.each i y (was i y at (other_by i y at met.there.kept)) (met_back i y met);
    only = λ n on.
        ⊎_elim (λ (head : n ≡ 32 * head_block). inl head)
        (λ (h : HasHead old n).
        inr
        (record {
          number = h.number;
          endpoint = h.endpoint;
          here = is_now h.number h.endpoint h.here (near_other old e x here off h.number h.endpoint h.here h.met.near);
          met = met_on h.number h.endpoint h.met;
          at = h.at;
        })) (m.only n on);
  }

-- ---- whose turn it is changes nothing of it

abbrev first_of : Parts → Parts
first_of p = record p { driver = record p.driver { turn = side.Leaving } }

turned : (p : Parts) (e : ℕ) (x : Endpoint) → (after_endpoint (first_of p) e (Some x)).driver ≡ (after_endpoint p e (Some x)).driver
turned p e x = by (is_told x)
  where
    d : DriverContent
    d = p.driver

    book : Book
    book = (free_endpoint p.driver e x (holding p.driver.book p.memory)).book

    bytes : List ℕ
    bytes = cancelled_bytes p.driver.notes p.memory e x.queue p.driver.transfers

    tell : Bool → DriverContent → DriverContent
    tell b g = cond b (reported g lines.Cancel x.desc.name bytes) g

    by : (b : Bool) → gone_with (tell b (record p.driver { turn = side.Leaving })) e x (is_told x) book ≡ gone_with (tell b p.driver) e x (is_told x) book
    by true = refl
    by false = refl

-- what is left is done first then
abbrev leaving : Parts → Option Mend → Option ℕ → Option ℕ → DriverRow
leaving p a b c =
    unwrap_or
    (first_row
    (first_row (option_map rows.Mend a)
    (first_row (option_map rows.ReleaseTransfer b)
    (first_row (option_map rows.Unlink (slice_get p.driver.periodic.unlinks 0))
    (first_row (option_map rows.ReleaseEndpoint c) (first_row (removal_row (slice_get p.driver.periodic.removals 0)) (bell_row (first_of p).driver p.registers p.driver.bell))))))
    (harvest_row (first_of p).driver p.memory)) rows.Rest

release_first : (p : Parts) (e : ℕ) → p.driver.command ≡ None → p.driver.mends ≡ [] → slice_get p.driver.harvested 0 ≡ None → p.driver.periodic.unlinks ≡ [] → slice_get p.driver.cleared 0 ≡ Some e
    → driver_row (first_of p) ≡ rows.ReleaseEndpoint e
release_first p e idle mends harvested unlinks cleared =
    ap (row_for (first_of p)) idle
    ∙ ap (λ (ms : List Mend). leaving p (slice_get ms 0) (slice_get p.driver.harvested 0) (slice_get p.driver.cleared 0)) mends
    ∙ ap (λ (b : Option ℕ). leaving p None b (slice_get p.driver.cleared 0)) harvested
    ∙ ap (λ (c : Option ℕ). leaving p None None c) cleared
    ∙ ap (λ (us : List ℕ). unwrap_or
    (first_row (first_row (option_map rows.Unlink (slice_get us 0)) (Some (rows.ReleaseEndpoint e))) (harvest_row (first_of p).driver p.memory)) rows.Rest) unlinks

-- a driver of queues alone has none to unlink from frames
release_controls : (p : Parts) (e : ℕ) (x : Endpoint) (parts : StructureSets) (order : ℕ → ℕ → ℕ) (out : ℕ → List ℕ) → p.driver.command ≡ None → p.driver.mends ≡ [] → p.driver.periodic.unlinks ≡ [] → IsToLeave p.driver e x
    → ControlsStand p.driver parts order out → ControlsStand (after_driver_row (rows.ReleaseEndpoint e) p).driver (without_queue parts (32 * x.queue)) order out
release_controls p e x parts order out idle mends unlinks k c =
    let q : Parts = first_of p in
    let now : StructureSets = without_queue parts (32 * x.queue) in
    let first : ControlsStand q.driver parts order out = same_keep_controls p.driver q.driver parts order out refl refl refl refl refl refl c in
    let then_q : ControlsStand (after_driver_row (rows.ReleaseEndpoint e) q).driver now order out
    = leaver_keeps_controls q e x parts order out (release_first p e idle mends k.none_before unlinks k.first)
    (record { here = k.here; queued = k.queued; held = k.held; first = k.first; none_before = k.none_before }) first in
    let is : (after_driver_row (rows.ReleaseEndpoint e) q).driver ≡ (after_driver_row (rows.ReleaseEndpoint e) p).driver
    = ap (λ (o : Option Endpoint). (after_endpoint q e o).driver) k.here ∙ turned p e x ∙ sym (ap (λ (o : Option Endpoint). (after_endpoint p e o).driver) k.here) in
    subst (λ (g : DriverContent). ControlsStand g now order out) is then_q

-- ---- the world

module _ (s : Standing) (w : World) (k : IsMixedAt s w) (e : ℕ) (row : driver_row (driver_parts w) ≡ rows.ReleaseEndpoint e) where
  abbrev p : Parts
  p = driver_parts w

  abbrev d : DriverContent
  d = w.driver

  abbrev q : DriverContent
  q = queued d

  abbrev owners : HasOwners d
  owners = k.now.framed.place.sound.owners

  abbrev turns : AsynchronousTakesTurns q
  turns = k.turns.turns

  told_owners : HasOwners q
  told_owners = queued_has_owners d owners k.turns

  due : IsEndpointDue p e
  due = due_is s w k (rows.ReleaseEndpoint e) row

  leaver : HasLeaver d e
  leaver = due_is_to_leave p e owners due

  abbrev x : Endpoint
  x = leaver.endpoint

  abbrev z : Endpoint
  z = with_queue x

  abbrev n : ℕ
  n = 32 * x.queue

  abbrev now : StructureSets
  now = without_queue s.parts n

  cleared : IsCleared d e x
  cleared = cleared_is d 0 e x owners.orderly leaver.leaves.first leaver.leaves.here

  -- ---- memory

  alone : HasHead d n → ⊥
  alone h =
      queues_apart d h.number e h.endpoint x owners h.here (near_alive d h.number h.endpoint owners h.here h.met.near) leaver.leaves.here (has_queue x leaver.leaves.queued leaver.leaves.held)
      (near_other d e x leaver.leaves.here cleared.near h.number h.endpoint h.here h.met.near) (same_blocks h.endpoint.queue x.queue (sym h.at))

  unmet : s.member n ≡ false
  unmet = by (s.member n) refl
    where
      by : (b : Bool) → s.member n ≡ b → s.member n ≡ false
      by false is = is
      by true is =
          absurd
          (⊎_elim
          (λ (head : n ≡ 32 * head_block). queue_off_head d e x owners leaver.leaves.here (has_queue x leaver.leaves.queued leaver.leaves.held) (same_blocks x.queue head_block head))
          (λ (h : HasHead d n). alone h) (k.ring.only n is))

  framed : FramedNext opening_base s.member s.recent s.descs now s.hand s.frame (controller_parts w) d
  framed = endpoint_release_now opening_base s.member s.recent s.descs s.parts s.hand s.frame (controller_parts w) d e x k.now row leaver.leaves.here unmet

  ring : AreMet (driver_next w).driver s.member
  ring = subst (λ (r : DriverRow). AreMet (after_driver_row r p).driver s.member) (sym row) (met_after p e x leaver.leaves.here s.member cleared.near k.ring)

  none : (driver_next w).driver.command ≡ None
  none = ap (λ (r : DriverRow). (after_driver_row r p).driver.command) row ∙ command_same p e x leaver.leaves.here ∙ due.idle

  -- ---- queues

  abbrev g : DriverContent
  g = (after_driver_row (rows.ReleaseEndpoint e) (queued_parts (driver_parts w))).driver

  next_is : g ≡ queued (driver_next w).driver
  next_is = queued_next s w k (rows.ReleaseEndpoint e) row tt

  told_here : slice_get q.endpoints e ≡ Some z
  told_here = queue_at d.endpoints e x leaver.leaves.here leaver.leaves.queued

  told_leaves : IsToLeave q e z
  told_leaves = record { here = told_here; queued = told_queue x; held = leaver.leaves.held; first = leaver.leaves.first; none_before = leaver.leaves.none_before }

  told_idle : q.command ≡ None
  told_idle = idle_told d due.idle

  all : AllStand g s.near s.streams s.ends now s.order s.out
  all =
      endpoint_release_stands (queued_parts p) e z s.near s.streams s.ends s.parts s.order s.out told_idle told_owners turns told_leaves
      (all_stand q s.near s.streams s.ends s.parts s.order s.out told_idle k.queues)

  none_told : g.command ≡ None
  none_told = command_same (queued_parts p) e z told_here ∙ told_idle

  sound : PartsStand g now
  sound i y at met =
      let other = other_by (queued_parts p) e z told_here i y at met.there.kept in
      let before : slice_get q.endpoints i ≡ Some y = was (queued_parts p) e z told_here i y at other in
      subst (λ (part : Structures). IsQueuePart (32 * y.queue) part) (sym (queue_beside s.parts n (32 * y.queue) (apart_by q i e y z told_owners turns before met.there.kept told_here leaver.leaves.held other)))
      (k.queues.sound i y before (met_back (queued_parts p) e z told_here i y met))

  go : QueuesGoOn g s.near s.streams s.ends now s.order s.out
  go = record {
    queues = all.queues;
    sound = sound;
    tails = tails_stand g now s.order s.out none_told all.tails;
    controls = release_controls (queued_parts p) e z s.parts s.order s.out told_idle (given_owes_none p (ap gives_back row)) refl told_leaves k.queues.controls;
  }

  its_step : QueueStep s w (driver_next w) (record s { parts = now })
  its_step =
      let u = k.queues.queues in
      let off : s.near n ≡ false = cleared_unmet q s.near 0 e z told_owners turns u.met told_leaves.first told_here in
      goes e z q (record s { parts = now })
      (record { left = left_the_ring row; leaves = told_leaves; told = queues_are g (queued (driver_next w).driver) next_is })
      (record {
        near = near_without s.near n off;
        streams = streams_within q s.near s.streams s.ends u.met u.streams_are;
        ends = refl;
        order = refl;
        out = refl;
        parts = refl;
        hand = refl;
        frame = refl;
      })

  released_next : IsMixedNext s w (driver_next w)
  released_next =
      mixed_next s w k (record s { parts = now }) its_step framed ring (subst (λ (f : DriverContent). QueuesGoOn f s.near s.streams s.ends now s.order s.out) next_is go)
      (subst (λ (c : Option Command). IsUnderWay (driver_next w).driver (driver_next w).memory s.member s.recent now c) (sym none) tt)

pub endpoint_mixed : (e : ℕ) → RowKeepsMixed (rows.ReleaseEndpoint e)
endpoint_mixed e s w k row = released_next s w k e row
