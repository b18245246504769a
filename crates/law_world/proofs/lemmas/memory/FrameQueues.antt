-- Queue heads that left the frame list, along a run: the link of each stays as it was right after it left, until its endpoint is given
-- back; so it leads to a member that is live still, or that left later.
use Rattle.std.proofs.Common.{◌≡◌, ℕ, zero, suc, ◌+◌, ◌-◌, ◌*◌, ◌/◌, ◌<◌, inl, Bool, true, false, List, ◌∷◌}
use Rattle.std.proofs.Common.{slice_get, Some, option_map, Result, Ok, Err, ap, refl, sym, subst, ◌∙◌, arith}
use Rattle.std.specs.Prelude.{◌||◌}
use Rattle.std.proofs.lemmas.Bool.{true≢false}
use Rattle.std.proofs.lemmas.Option.{same_Some}
use Rattle.law_driver.proofs.Common.{same_endpoint}
use Rattle.usb_base.specs.declared.commands.Cmd.{Cmd}
use Rattle.usb_base.specs.declared.reports.OfferError.{OfferError}
use Rattle.script_types.specs.declared.scripts.Event.TheVariants as events
use Rattle.script_types.specs.declared.scripts.Script.{Script}
use Rattle.script_fits.proofs.Texts.{spelled_fits}
use Rattle.script_text.specs.Faults.{Spells}
use Rattle.word_mem.specs.declared.blocks.BlockState.TheVariants.{Lent}
use Rattle.word_mem.specs.Memory.{state_at}
use Rattle.mem_runs.specs.Book.{slot_of}
use Rattle.drv_chains.specs.declared.members.Member.{Member}
use Rattle.drv_chains.specs.declared.members.Member.TheVariants.{Once, Each}
use Rattle.drv_chains.specs.declared.members.QueueHead.{QueueHead as Queue}
use Rattle.drv_chains.specs.Chains.{Schedule, id_of}
use Rattle.drv_members.specs.Members.{is_linked}
use Rattle.drv_periodic_table.specs.Periodic.{is_periodic, queue_member}
use Rattle.drv_table.specs.declared.content.Endpoint.{Endpoint}
use Rattle.drv_table.specs.DriverContent.{DriverContent}
use Rattle.drv_table.specs.Accepting.{Offered}
use Rattle.drv_table.specs.Kinds.{is_iso}
use Rattle.drv_table.specs.Offers.{offered}
use Rattle.drv_table.specs.Rows.{driver_row}
use Rattle.bus_wire.specs.Bus.{Fixed, fixed_of}
use Rattle.bus_world.specs.Budgets.{moment}
use Rattle.bus_world.specs.Orders.{Left, Events, Microframes, Answer, Command, OrderedWorld, tick_at}
use Rattle.bus_world.specs.World.{World, controller_parts, driver_parts, driver_next, controller_next, commanded, commanded_by, name_in}
use Rattle.claims_base.specs.Controller.{opening_base}
use Rattle.claims_driver.specs.FrameListMembers.{Framed, framed_of}
use Rattle.law_driver.specs.listed_members.Members.{IsListed, IsQueueOf as IsQueueIn, IsStanding}
use Rattle.law_driver.specs.listed_queues.Queues.{HasQueues, queue_of}
use Rattle.claims_driver.specs.Leaving.{HasOwners}
use Rattle.claims_driver.specs.Owners.{QueueHead, HasRun}
use Rattle.claims_driver.specs.Ring.{link_in, IsQueueOf}
use Rattle.law_driver.specs.in_place.InPlace.{IsSound}
use Rattle.claims_driver.specs.Unlinked.{led}
use Rattle.claims_world.specs.Links.{EndsOrLeads, ends, leads, IsUnlinkedBy, IsUnlinkedWithin, EndsOrLeadsLater, now, unlinked_later}
use Rattle.claims_world.specs.Links.{LeadsOnUntilGone}
use Rattle.law_structures.proofs.lemmas.lent_structures.Telling.{told_lent}
use Rattle.law_structures.specs.lent_structures.Structures.{QueueHead as AQueueHead}
use Rattle.law_frames.specs.Met.{IsMetQueue, AQueue}
use Rattle.law_driver.proofs.lemmas.listed_members.Owned.{descriptor_owned, queue_owned}
use Rattle.law_driver.proofs.lemmas.listed_members.Standing.{framed, queue_block}
use Rattle.law_driver.proofs.lemmas.ring_members.Placed.{has_queue, queue_placed}
use Rattle.law_driver.proofs.lemmas.run_owners.Commands.{each_command_has_its_reason}
use Rattle.law_driver.proofs.lemmas.run_owners.Runs.{placed_run}
use Rattle.law_footprints.proofs.EndpointsChanged.{endpoints_step}
use Rattle.law_descriptors.proofs.Finding.{member_kind}
use Rattle.law_descriptors.proofs.Leading.{led_linked, led_spread}
use Rattle.law_descriptors.specs.Both.{both}
use Rattle.law_descriptors.specs.Meeting.{met, or_recent}
use Rattle.law_descriptors.specs.RowLaws.{HasFrames}
use Rattle.law_frame_list.proofs.lemmas.list_spread.Spreading.{queue_there, standing_there}
use Rattle.law_world.specs.memory.Aside.{IsAside}
use Rattle.law_world.specs.memory.Mixed.{Standing, IsMixedWorld}
use Rattle.law_world.specs.memory.Owners.{EndsActive}
use Rattle.law_world.proofs.lemmas.memory.Driving.{driver_keeps_mixed}
use Rattle.law_world.proofs.lemmas.memory.FrameLeft.{member_leads, schedule_gone}
use Rattle.law_world.proofs.lemmas.memory.LetGo.{moment_then}
use Rattle.law_world.proofs.lemmas.memory.LinkLent.{queue_told, command_leaves_aside, controller_leaves_aside, driver_leaves_lent}
use Rattle.law_world.proofs.lemmas.memory.LinkWords.{driver_leaves_aside}
use Rattle.law_world.proofs.lemmas.memory.OwnMoments.{ends_active}
use Rattle.law_world.proofs.lemmas.memory.Together.{texts_stay_mixed}
use Rattle.law_world.proofs.lemmas.memory.lemmas.framed_memory.Now.{now_has_frames}
use Rattle.law_world.proofs.lemmas.memory.lemmas.world_frames.Moments.{script_whole}
use Rattle.law_world.proofs.lemmas.memory.FrameEndpoints.{Then, step_then, accepted_then, accepted_led}

-- ---- an endpoint that is out of its frames

record IsOff (d : DriverContent) (e b : ℕ) : Type 0 where
  endpoint : Endpoint
  here : slice_get d.endpoints e ≡ Some endpoint
  queue : endpoint.queue ≡ b
  off : endpoint.chained ≡ false
  periodic : is_periodic endpoint.desc.kind ≡ true
  queued : is_iso endpoint.desc.kind ≡ false

off_then : (d new : DriverContent) (e b : ℕ) (o : IsOff d e b) → Then new.endpoints e o.endpoint → IsOff new e b
off_then d new e b o n = record {
  endpoint = n.endpoint;
  here = n.here;
  queue = n.keeps.queue ∙ o.queue;
  off = n.keeps.off o.off;
  periodic = ap (λ y. is_periodic y.kind) n.keeps.desc ∙ o.periodic;
  queued = ap (λ y. is_iso y.kind) n.keeps.desc ∙ o.queued;
}

module _ (d : DriverContent) (has : HasOwners d) (e : ℕ) (x : Endpoint) (here : slice_get d.endpoints e ≡ Some x)
    (queued : is_iso x.desc.kind || x.gone ≡ false) where
  run_of : HasRun (slot_of d.book.slots x.queue)
  run_of = placed_run x.queue (QueueHead e) (queue_placed d e x has here queued)

  module _ (listed : IsListed d) (off : x.chained ≡ false) where
    no_member : (m : Member) → is_linked d.periodic.list.members.schedule m ≡ true → id_of m / 32 ≡ x.queue → ⊥
    no_member (Each r) on same =
        let s : IsQueueIn d r = queue_there d r listed on in
        let f = framed d.endpoints s.number s.framed s.here in
        let one : s.number ≡ e
        = same_endpoint s.number e
        (sym (queue_owned d r has s).owned ∙ ap has.owner same ∙ (queue_placed d e x has here queued).owned) in
        let is : f.endpoint ≡ x = same_Some f.endpoint x (sym f.here ∙ ap (slice_get d.endpoints) one ∙ here) in
        true≢false (sym s.chained ∙ ap (λ (z : Framed). z.chained) f.is ∙ ap (λ (z : Endpoint). z.chained) is ∙ off)
    no_member (Once k) on same =
        let s : IsStanding d (Once k) = standing_there d k listed on in
        let o = descriptor_owned d k has s in
        cc (sym o.1.1.owned ∙ ap has.owner same ∙ (queue_placed d e x has here queued).owned)

    off_aside : is_periodic x.desc.kind ≡ true → IsAside d has.owner x.queue
    off_aside periodic = record {
      whose = QueueHead e;
      placed = queue_placed d e x has here queued;
      list = λ same. cc same;
      head = λ same. cc same;
      element = λ t same. cc same;
      ring = λ f y there on same.
          let one : e ≡ f = same_endpoint e f same in
          let is : x ≡ y = same_Some x y (sym here ∙ ap (slice_get d.endpoints) one ∙ there) in
          true≢false (sym periodic ∙ ap (λ (z : Endpoint). is_periodic z.desc.kind) is ∙ (has.orderly.steady f y there).ring on);
      members = no_member;
    }

-- ---- an event

record Next (w v : World) (e b : ℕ) (o : IsOff w.driver e b) : Type 0 where
  off : IsOff v.driver e b
  alive : off.endpoint.gone ≡ false → o.endpoint.gone ≡ false
  keeps : off.endpoint.gone ≡ false → state_at w.memory b ≡ Some Lent
      → (link_in v.memory b ≡ link_in w.memory b) × (state_at v.memory b ≡ Some Lent)

driver_next_then : (w : World) (e : ℕ) (x : Endpoint) → slice_get w.driver.endpoints e ≡ Some x → Then (driver_next w).driver.endpoints e x
driver_next_then w e x here =
    step_then w.driver.endpoints (driver_next w).driver.endpoints
    (endpoints_step (driver_row (driver_parts w)) (driver_parts w) w.driver.command refl)
    e x here

driver_off : (w : World) → IsMixedWorld w → (e b : ℕ) (o : IsOff w.driver e b) → Next w (driver_next w) e b o
unfolding off_then driver_next_then
driver_off w k e b o =
    let new : DriverContent = (driver_next w).driver in
    let n : Then new.endpoints e o.endpoint = driver_next_then w e o.endpoint o.here in
    let f : IsOff new e b = off_then w.driver new e b o n in
    record {
      off = f;
      alive = n.keeps.alive;
      keeps = λ alive lent.
          let has : HasOwners new = (driver_keeps_mixed w k).mixed.now.framed.place.sound.owners in
          let sound : IsSound w.memory w.driver = k.mixed.now.framed.place.sound in
          let run : HasRun (slot_of new.book.slots b)
          = subst (λ (c : ℕ). HasRun (slot_of new.book.slots c)) f.queue
          (run_of new has e f.endpoint f.here (has_queue f.endpoint f.queued alive)) in
          let aside : IsAside w.driver sound.owners.owner b
          = subst (IsAside w.driver sound.owners.owner) o.queue
          (off_aside w.driver sound.owners e o.endpoint o.here (has_queue o.endpoint o.queued (n.keeps.alive alive)) sound.listed o.off
          o.periodic) in
          (driver_leaves_aside k.standing w k.mixed b aside lent run, driver_leaves_lent k.standing w k.mixed b lent run);
    }

controller_off : (fixed : Fixed) (w : World) → IsMixedWorld w → EndsActive w.control → (e b : ℕ) (o : IsOff w.driver e b)
    → Next w (controller_next fixed w) e b o
controller_off fixed w k active e b o = record {
  off = record { endpoint = o.endpoint; here = o.here; queue = o.queue; off = o.off; periodic = o.periodic; queued = o.queued };
  alive = λ a. a;
  keeps = λ alive lent.
      let has : HasOwners w.driver = k.mixed.now.framed.place.sound.owners in
      let queued : is_iso o.endpoint.desc.kind || o.endpoint.gone ≡ false = has_queue o.endpoint o.queued alive in
      let told = queue_told k.standing w k.mixed e o.endpoint o.here queued (run_of w.driver has e o.endpoint o.here queued)
      (ap (state_at w.memory) o.queue ∙ lent) in
      let stay = controller_leaves_aside fixed k.standing w k.mixed active o.endpoint.queue told in (
        subst (λ (c : ℕ). link_in (controller_next fixed w).memory c ≡ link_in w.memory c) o.queue stay.0,
        ap (λ ss. slice_get ss b) stay.1 ∙ lent,
      );
}

command_off : (w : World) (line : ℕ) (cmd : Cmd) → IsMixedWorld w → (e b : ℕ) (o : IsOff w.driver e b) → Next w (commanded w line cmd) e b o
unfolding off_then
command_off w line cmd k e b o = answered (offered w.driver w.memory cmd) refl
  where
    answered : (r : Result Offered OfferError) → offered w.driver w.memory cmd ≡ r → Next w (commanded_by w line (name_in cmd) r) e b o
    answered (Ok g) is =
        let sound : IsSound w.memory w.driver = k.mixed.now.framed.place.sound in
        let n : Then g.driver.endpoints e o.endpoint
        = accepted_then w.driver w.memory g (each_command_has_its_reason w.driver w.memory cmd g is) sound.owners sound.listed e o.endpoint
        o.here in
        record {
          off = off_then w.driver g.driver e b o n;
          alive = n.keeps.alive;
          keeps = λ alive lent.
              subst (λ (v : World). (link_in v.memory b ≡ link_in w.memory b) × (state_at v.memory b ≡ Some Lent))
              (ap (commanded_by w line (name_in cmd)) is) (command_leaves_aside k.standing w k.mixed line cmd b lent);
        }
    answered (Err why) is = record {
      off = record { endpoint = o.endpoint; here = o.here; queue = o.queue; off = o.off; periodic = o.periodic; queued = o.queued };
      alive = λ a. a;
      keeps = λ alive lent. (refl, lent);
    }

module _ (fixed : Fixed) (w : World) (k : IsMixedWorld w) (active : EndsActive w.control) (e b : ℕ) (o : IsOff w.driver e b) where
  by_orders : (orders : List Left) → Next w (tick_at fixed w orders).world e b o
  by_orders (Events events.C (suc n) ∷ rest) = controller_off fixed w k active e b o
  by_orders (Events events.D (suc n) ∷ rest) = driver_off w k e b o
  by_orders (Microframes (suc n) ∷ rest) = controller_off fixed w k active e b o
  by_orders (Answer ended n ∷ rest) = driver_off w k e b o
  by_orders (Command n cmd ∷ rest) = command_off w n cmd k e b o
  by_orders _ = record { off = o; alive = λ a. a; keeps = λ alive lent. (refl, lent) }

-- no command unlinks a member
pub command_led : (w : World) → IsMixedWorld w → (line : ℕ) (cmd : Cmd) → led (commanded w line cmd).driver ≡ led w.driver
command_led w k line cmd = answered (offered w.driver w.memory cmd) refl
  where
    frames : HasFrames w.memory w.driver
    frames =
        let s : Standing = k.standing in
        now_has_frames opening_base s.member s.recent s.descs s.parts s.hand s.frame (controller_parts w) w.driver k.mixed.now

    answered : (r : Result Offered OfferError) → offered w.driver w.memory cmd ≡ r
        → led (commanded_by w line (name_in cmd) r).driver ≡ led w.driver
    answered (Ok g) is = accepted_led w.driver w.memory g (each_command_has_its_reason w.driver w.memory cmd g is) frames.list.order.kept
    answered (Err why) is = refl

-- ---- the event by which it leaves

record First (w v : World) (q : Queue) : Type 0 where
  endpoint : ℕ
  queue : IsQueueOf w.driver.endpoints endpoint (q.id / 32)
  stands : queue.endpoint.chained ≡ true
  off : HasQueues v.driver → IsOff v.driver endpoint (q.id / 32)
  lent : (x : Endpoint) → slice_get v.driver.endpoints endpoint ≡ Some x → x.gone ≡ false → state_at v.memory (q.id / 32) ≡ Some Lent
  leads : EndsOrLeads v.driver (link_in v.memory (q.id / 32))

module _ (w : World) (k : IsMixedWorld w) (q : Queue) (on : is_linked (led w.driver) (Each q) ≡ true) where
  abbrev s : Standing
  s = k.standing

  frames : HasFrames w.memory w.driver
  frames = now_has_frames opening_base s.member s.recent s.descs s.parts s.hand s.frame (controller_parts w) w.driver k.mixed.now

  sound : IsSound w.memory w.driver
  sound = k.mixed.now.framed.place.sound

  stood : met w.driver s.recent (32 * (q.id / 32)) ≡ Some AQueue
  stood =
      let list = w.driver.periodic.list in
      ap (λ o. or_recent o (s.recent (32 * (q.id / 32))))
      (member_kind w.driver.periodic list.list (led w.driver) (Each q) (led_spread list.list list.members.schedule list.work
      frames.spread) on)

  block_lent : state_at w.memory (q.id / 32) ≡ Some Lent
  block_lent =
      let runs = k.mixed.now.framed.runs in
      let n : ℕ = 32 * (q.id / 32) in
      let is : IsMetQueue (met w.driver s.recent) n (both s.descs s.parts n) = runs.members n AQueue stood in
      let at : n / 32 ≡ q.id / 32 = omega arith in
      subst (λ (b : ℕ). state_at w.memory b ≡ Some Lent) at
      (told_lent w.memory (both s.descs s.parts) n n (AQueueHead is.part_is.queue) (n / 32) runs.ring.tells is.part_is.here (inl refl))

  module _ (out : is_linked (led (driver_next w).driver) (Each q) ≡ false) where
    abbrev new : DriverContent
    new = (driver_next w).driver

    its : IsQueueIn w.driver q
    its =
        queue_there w.driver q frames.listed
        (led_linked w.driver.periodic.list.members.schedule w.driver.periodic.list.work (Each q) on)

    abbrev e : ℕ
    e = its.number

    x_of : ◌≡◌ {A = Framed} its.framed (framed_of (framed w.driver.endpoints its.number its.framed its.here).endpoint)
    x_of = (framed w.driver.endpoints its.number its.framed its.here).is

    abbrev x : Endpoint
    x = (framed w.driver.endpoints its.number its.framed its.here).endpoint

    x_here : slice_get w.driver.endpoints its.number ≡ Some x
    x_here = (framed w.driver.endpoints its.number its.framed its.here).here

    chained : x.chained ≡ true
    chained = ap (λ (z : Framed). z.chained) (sym x_of) ∙ its.chained

    queued : is_iso x.desc.kind ≡ false
    queued = ap (λ (z : Framed). z.isochronous) (sym x_of) ∙ its.queued

    block : x.queue ≡ q.id / 32
    block =
        ap (λ (z : Framed). z.queue) (sym x_of)
        ∙ sym (ap (λ (m : Member). id_of m / 32) its.is ∙ queue_block its.framed.queue its.place)

    next : Then (driver_next w).driver.endpoints its.number x
    next = driver_next_then w its.number x x_here

    out_by : HasQueues new → (b : Bool) → next.endpoint.chained ≡ b → next.endpoint.chained ≡ false
    out_by has false is = is
    out_by has true is =
        let y : Framed = framed_of next.endpoint in
        let placed : next.endpoint.placement ≡ Some its.place
        = next.keeps.placement ∙ ap (λ (z : Framed). z.placement) (sym x_of) ∙ its.placed in
        let iso : is_iso next.endpoint.desc.kind ≡ false = ap (λ z. is_iso z.kind) next.keeps.desc ∙ queued in
        let there : is_linked new.periodic.list.members.schedule (Each (queue_of y its.place)) ≡ true
        = has.each its.number y its.place (ap (option_map framed_of) next.here) is iso placed in
        let same : Each (queue_of y its.place) ≡ Each q
        = ap (λ (b : ℕ). queue_member b its.place) (next.keeps.queue ∙ ap (λ (z : Framed). z.queue) (sym x_of)) ∙ sym its.is in
        absurd (true≢false (sym there ∙ ap (λ (m : Member). is_linked new.periodic.list.members.schedule m) same
        ∙ schedule_gone s w k.mixed (Each q) on out))

    driver_first : First w (driver_next w) q
    driver_first = record {
      endpoint = its.number;
      queue = record { endpoint = x; here = x_here; queue = block };
      stands = chained;
      off = λ has. record {
        endpoint = next.endpoint;
        here = next.here;
        queue = next.keeps.queue ∙ block;
        off = out_by has next.endpoint.chained refl;
        periodic = ap (λ z. is_periodic z.kind) next.keeps.desc ∙ (sound.owners.orderly.steady its.number x x_here).frames chained;
        queued = ap (λ z. is_iso z.kind) next.keeps.desc ∙ queued;
      };
      lent = λ z here alive.
          let same : next.endpoint ≡ z = same_Some next.endpoint z (sym next.here ∙ here) in
          let has : HasOwners new = (driver_keeps_mixed w k).mixed.now.framed.place.sound.owners in
          let iso : is_iso z.desc.kind ≡ false
          = ap (λ (y : Endpoint). is_iso y.desc.kind) (sym same) ∙ ap (λ y. is_iso y.kind) next.keeps.desc ∙ queued in
          let at : z.queue ≡ q.id / 32 = ap (λ (y : Endpoint). y.queue) (sym same) ∙ next.keeps.queue ∙ block in
          driver_leaves_lent s w k.mixed (q.id / 32) block_lent
          (subst (λ (c : ℕ). HasRun (slot_of new.book.slots c)) at (run_of new has its.number z here (has_queue z iso alive)));
      leads = member_leads s w k.mixed (Each q) on out;
    }

  first_by : (fixed : Fixed) (orders : List Left) → is_linked (led (tick_at fixed w orders).world.driver) (Each q) ≡ false
      → First w (tick_at fixed w orders).world q
  first_by fixed (Events events.C (suc n) ∷ rest) out = absurd (true≢false (sym on ∙ out))
  first_by fixed (Events events.D (suc n) ∷ rest) out = driver_first out
  first_by fixed (Microframes (suc n) ∷ rest) out = absurd (true≢false (sym on ∙ out))
  first_by fixed (Answer ended n ∷ rest) out = driver_first out
  first_by fixed (Command n cmd ∷ rest) out =
      absurd (true≢false (sym on ∙ sym (ap (λ (z : Schedule). is_linked z (Each q)) (command_led w k n cmd)) ∙ out))
  first_by fixed _ out = absurd (true≢false (sym on ∙ out))

-- ---- along the run

module _ (text : List ℕ) (script : Script) (spelled : Spells text script) where
  next_at : (k e b : ℕ) (o : IsOff (moment script k).world.driver e b) → Next (moment script k).world (moment script (suc k)).world e b o
  next_at k e b o =
      subst (λ (p : OrderedWorld). Next (moment script k).world p.world e b o) (sym (moment_then script k))
      (by_orders (fixed_of script) (moment script k).world (texts_stay_mixed text script spelled k) (ends_active text script spelled k)
      e b o
      (moment script k).orders)

  abbrev pub LeadsLater : ℕ → ℕ → ℕ → Type 0
  LeadsLater j k v = EndsOrLeadsLater (moment script k).world.driver (IsUnlinkedWithin script j k) v

  -- what it leads to stays live, or leaves now
  later_by : (j k v : ℕ) (x : Member) → j < k → is_linked (led (moment script k).world.driver) x ≡ true → v ≡ id_of x → (b : Bool)
      → is_linked (led (moment script (suc k)).world.driver) x ≡ b → LeadsLater j (suc k) v
  later_by j k v x past on is true still = now (leads x still is)
  later_by j k v x past on is false gone =
      unlinked_later x (record { event = k; behind = past; earlier = omega arith; unlinked = record { before = on; after = gone } }) is

  pub later : (j k v : ℕ) → j < k → LeadsLater j k v → LeadsLater j (suc k) v
  later j k v past (now (ends is)) = now (ends is)
  later j k v past (now (leads x on is)) =
      later_by j k v x past on is (is_linked (led (moment script (suc k)).world.driver) x) refl
  later j k v past (unlinked_later x u is) =
      let to : u.event < k = u.earlier in
      unlinked_later x (record { event = u.event; behind = u.behind; earlier = omega (arith, to); unlinked = u.unlinked }) is

  module _ (j : ℕ) (q : Queue) (u : IsUnlinkedBy script j (Each q)) where
    first : First (moment script j).world (moment script (suc j)).world q
    first =
        subst (λ (p : OrderedWorld). First (moment script j).world p.world q) (sym (moment_then script j))
        (first_by (moment script j).world (texts_stay_mixed text script spelled j) q u.before (fixed_of script) (moment script j).orders
        (subst (λ (p : OrderedWorld). is_linked (led p.world.driver) (Each q) ≡ false) (moment_then script j) u.after))

    record Stood (i : ℕ) : Type 0 where
      off : IsOff (moment script i).world.driver first.endpoint (q.id / 32)
      then : off.endpoint.gone ≡ false → (state_at (moment script i).world.memory (q.id / 32) ≡ Some Lent)
          × LeadsLater j i (link_in (moment script i).world.memory (q.id / 32))

    stood_first : Stood (suc j)
    stood_first =
        let f = first.off (script_whole script (spelled_fits text script spelled) (suc j)).queues in
        record { off = f; then = λ alive. (first.lent f.endpoint f.here alive, now first.leads) }

    stood_next : (i : ℕ) → j < i → Stood i → Stood (suc i)
    stood_next i past h =
        let n = next_at i first.endpoint (q.id / 32) h.off in
        record {
          off = n.off;
          then = λ alive.
              let was = h.then (n.alive alive) in
              let kept = n.keeps alive was.0 in (
                kept.1,
                subst (LeadsLater j (suc i)) (sym kept.0)
                    (later j i (link_in (moment script i).world.memory (q.id / 32)) past was.1),
              );
        }

    stood_from : (n i : ℕ) → i ≡ suc (n + j) → Stood i
    stood_from zero i is = let at : suc j ≡ i = omega (arith, is) in subst Stood at stood_first
    stood_from (suc n) i is =
        let at : suc (suc (n + j)) ≡ i = omega (arith, is) in
        subst Stood at (stood_next (suc (n + j)) (omega arith) (stood_from n (suc (n + j)) refl))

    stood_at : (i : ℕ) → j < i → Stood i
    stood_at i past = stood_from (i - suc j) i (omega (arith, past))

    pub leads_on : LeadsOnUntilGone script j q
    leads_on = record {
      endpoint = first.endpoint;
      queue = first.queue;
      stands = first.stands;
      leads = λ i x past here alive.
          let h : Stood i = stood_at i past in
          let same : x ≡ h.off.endpoint = same_Some x h.off.endpoint (sym here ∙ h.off.here) in
          (h.then (ap (λ (y : Endpoint). y.gone) (sym same) ∙ alive)).1;
    }
