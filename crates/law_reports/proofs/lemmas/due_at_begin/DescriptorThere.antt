-- An isochronous descriptor that is linked in the frame of the microframe, and of which something is active, is so after an event of the
-- driver and after a command, while its endpoint isn't cancelled; and an event of the controller that begins no microframe leaves it there
-- (EHCI 1.0, 3.1, 3.3, 3.4 and 4.6).
use Rattle.std.proofs.Common.{◌≡◌, ◌≢◌, ℕ, zero, suc, ◌*◌, ◌/◌, ◌<◌, Bool, true, false, List, [], ◌∷◌, Option, Some, ap}
use Rattle.std.proofs.Common.{refl, sym, subst, ◌∙◌, arith}
use Rattle.std.proofs.lemmas.Bool.{eqb-true}
use Rattle.std.specs.Prelude.{option_map, Result, Ok, Err}
use Rattle.usb_base.specs.declared.commands.Cmd.{Cmd}
use Rattle.usb_base.specs.declared.reports.OfferError.{OfferError}
use Rattle.script_types.specs.declared.scripts.Event.TheVariants as events
use Rattle.word_mem.specs.Memory.{Mem}
use Rattle.mem_runs.specs.Book.{holding, slot_of as run_at, Stands}
use Rattle.drv_chains.specs.declared.members.Descriptor.{Descriptor}
use Rattle.drv_chains.specs.declared.members.Member.{Member}
use Rattle.drv_chains.specs.declared.members.Member.TheVariants.{Once, Each}
use Rattle.drv_chains.specs.Chains.{Schedule, stands_in}
use Rattle.drv_members.specs.Members.{is_linked}
use Rattle.drv_periodic.specs.declared.work.Work.{Work}
use Rattle.drv_periodic_table.specs.declared.content.DescriptorNote.{DescriptorNote}
use Rattle.drv_periodic_table.specs.Periodic.{note_at}
use Rattle.drv_table.specs.Accepting.{Offered}
use Rattle.drv_table.specs.CancelOffers.{endpoint_members, with_cancel}
use Rattle.drv_table.specs.declared.content.Command.TheVariants as unfinished
use Rattle.drv_table.specs.declared.content.Transfer.{Transfer}
use Rattle.drv_table.specs.DriverContent.{DriverContent}
use Rattle.drv_table.specs.Offers.{offered}
use Rattle.drv_table.specs.Rows.{driver_row}
use Rattle.claims_driver.specs.Leaving.{HasOwners}
use Rattle.claims_driver.specs.Owners.{HasRun, runs_of_transfer}
use Rattle.claims_driver.specs.Unlinked.{led}
use Rattle.hc_core.specs.Controller.{Control}
use Rattle.bus_wire.specs.Bus.{Fixed}
use Rattle.bus_world.specs.Orders.{Left, Events, Microframes, Answer, Command, Plugs, tick_at}
use Rattle.bus_world.specs.World.{World, driver_parts, driver_next, controller_next, commanded, commanded_by, name_in}
use Rattle.claims_world.specs.DueAtBegin.{IsUncancelled}
use Rattle.claims_world.specs.SlotsAtBegin.{IsLinkedAs, IsDescriptorOfEndpoint}
use Rattle.claims_world.specs.Visits.{IsInChain, begins, frame_in}
use Rattle.law_driver.specs.run_owners.Accepts.{Accepts, opens, chains, places, transfers, describes, cancels, unchains}
use Rattle.law_driver.proofs.lemmas.run_owners.Commands.{each_command_has_its_reason}
use Rattle.law_driver.proofs.lemmas.run_owners.Reasons.{each_event_is_due}
use Rattle.law_driver.proofs.lemmas.run_owners.Runs.{placed_run}
use Rattle.law_driver.proofs.lemmas.run_owners.Stays.{begun_notes}
use Rattle.law_frames.specs.Met.{Kind, AQueue}
use Rattle.law_descriptors.specs.Meeting.{kind_of_descriptor, met}
use Rattle.law_descriptors.proofs.Leading.{led_linked}
use Rattle.law_world.specs.memory.Mixed.{IsMixedWorld}
use Rattle.law_world.proofs.lemmas.memory.FrameQueues.{command_led}
use Rattle.law_world.proofs.lemmas.memory.FrameTransfers.{accepted_there}
use Rattle.law_world.proofs.lemmas.memory.lemmas.framed_memory.StillStanding.{note_still}
use Rattle.law_microframes.proofs.Common.{in_list}
use Rattle.law_microframes.specs.visits.OneDescriptor.{HasOneActive, IsActiveSome}
use Rattle.law_microframes.specs.visits.Visited.{StandsIn}
use Rattle.law_microframes.proofs.lemmas.due.LinkedOnce.{descriptor_in_chain, led_met}
use Rattle.law_microframes.proofs.lemmas.visits.ActiveStands.{same_run}
use Rattle.law_microframes.proofs.lemmas.visits.NoneLeftWorlds.{in_chain_stands}
use Rattle.law_microframes.proofs.lemmas.visits.OneDescriptor.{unreported, active_framed}
use Rattle.law_microframes.proofs.lemmas.visits.OneDescriptorDriven.{Follows, row_follows}
use Rattle.law_microframes.proofs.lemmas.visits.OneDescriptorRows.{From, or_notes}
use Rattle.law_microframes.proofs.lemmas.visits.ReasonParts.{command_control}
use Rattle.law_reports.proofs.lemmas.due_at_begin.InFrames.{driver_uncancelled, command_uncancelled}
use Rattle.law_reports.proofs.lemmas.due_at_begin.Reached.{structure_at, descriptor_met, descriptor_reached}
use Rattle.law_microframes.proofs.lemmas.due.OnceStays.{member_of_descriptor, not_removed, led_still}

-- ---- its member of the frame list

abbrev split_at : DriverContent → Descriptor → Bool
split_at d c = (note_at d.periodic.notes (c.id / 32)).split

pub record IsItsMember (split : Bool) (w : World) (n : ℕ) : Type 0 where
  pub descriptor : Descriptor
  pub on : is_linked (led w.driver) (Once descriptor) ≡ true
  pub at : begins (Once descriptor) ≡ n
  pub frame : descriptor.frame ≡ frame_in w.control.frame.index
  pub its_split : split_at w.driver descriptor ≡ split

same_kind : (b c : Bool) → ◌≡◌ {A = Option Kind} (Some (kind_of_descriptor b)) (Some (kind_of_descriptor c)) → b ≡ c
same_kind true true same = refl
same_kind true false same = absurd (cc)
same_kind false true same = absurd (cc)
same_kind false false same = refl

no_queue : (b : Bool) → ◌≡◌ {A = Option Kind} (Some AQueue) (Some (kind_of_descriptor b)) → ⊥
no_queue true same = cc
no_queue false same = cc

module _ (split : Bool) (w : World) (k : IsMixedWorld w) (n : ℕ) (l : IsLinkedAs (structure_at split) w n) where
  by_member : (x : Member) → is_linked (led w.driver) x ≡ true → begins x ≡ n
      → stands_in (frame_in w.control.frame.index) x ≡ true → IsItsMember split w n
  by_member (Each q) on at stands =
      absurd (no_queue split (sym (led_met k.standing w (Each q) k.mixed on) ∙ ap (met w.driver k.standing.recent) at
      ∙ descriptor_met w k n split l.reached))
  by_member (Once c) on at stands = record {
    descriptor = c;
    on = on;
    at = at;
    frame = eqb-true c.frame (frame_in w.control.frame.index) stands;
    its_split = same_kind (split_at w.driver c) split
        (sym (led_met k.standing w (Once c) k.mixed on) ∙ ap (met w.driver k.standing.recent) at ∙ descriptor_met w k n split l.reached);
  }

  pub its_member : IsItsMember split w n
  its_member =
      let s : StandsIn w.driver (frame_in w.control.frame.index) n =
      in_chain_stands k.standing w (frame_in w.control.frame.index) n k.mixed (in_list w.control.frame.index) l.chain in
      by_member s.member s.linked s.at s.in_frame

-- ---- it is linked where its member is led to, and its endpoint isn't cancelled

module _ (split : Bool) (w : World) (k : IsMixedWorld w) (n : ℕ) (i : IsItsMember split w n) (e : ℕ)
    (of : IsDescriptorOfEndpoint w.driver e n) (off : IsUncancelled w.driver e) where
  abbrev member : Descriptor
  member = i.descriptor

  low : i.descriptor.frame < 1024
  low = subst (λ (f : ℕ). f < 1024) (sym i.frame) (in_list w.control.frame.index)

  stays : (v : Work) → w.driver.periodic.list.work ≡ Some v → v.removes ≡ true → v.member ≢ Once i.descriptor
  stays =
      not_removed w.driver k.mixed.now.framed.place.sound.owners k.mixed.now.framed.place.sound.listed i.descriptor
      (led_linked w.driver.periodic.list.members.schedule w.driver.periodic.list.work (Once i.descriptor) i.on) n i.at e of off

  is_met : met w.driver k.standing.recent n ≡ Some (kind_of_descriptor split)
  is_met =
      ap (met w.driver k.standing.recent) (sym i.at) ∙ led_met k.standing w (Once i.descriptor) k.mixed i.on
      ∙ ap (λ (b : Bool). Some (kind_of_descriptor b)) i.its_split

  pub linked_there : IsLinkedAs (structure_at split) w n
  linked_there =
      let way : IsInChain w (frame_in w.control.frame.index) n =
      subst (λ (f : ℕ). IsInChain w f n) i.frame (subst (IsInChain w i.descriptor.frame) i.at
      (descriptor_in_chain k.standing w k.mixed i.descriptor i.on low stays)) in
      record {
        chain = way;
        reached = descriptor_reached k.standing w k.mixed n split is_met (frame_in w.control.frame.index) (in_list w.control.frame.index)
            way;
      }

-- ---- whose it is stays

-- with the same run
same_owner : (d : DriverContent) (has : HasOwners d) (e f n : ℕ) → IsDescriptorOfEndpoint d e n → IsDescriptorOfEndpoint d f n → e ≡ f
same_owner d has e f n one two =
    let same : one.transfer ≡ two.transfer =
    same_run d has one.number two.number n one.transfer two.transfer one.here two.here one.sort two.sort one.held two.held one.at two.at in
    sym one.endpoint ∙ ap (λ (y : Transfer). y.endpoint) same ∙ two.endpoint

module _ (split : Bool) (w : World) (k : IsMixedWorld w) (n : ℕ) (i : IsItsMember split w n) where
  pub its_owner : (e : ℕ) × IsDescriptorOfEndpoint w.driver e n
  its_owner = (
    _,
    member_of_descriptor w.driver k.mixed.now.framed.place.sound.owners k.mixed.now.framed.place.sound.listed i.descriptor
        (led_linked w.driver.periodic.list.members.schedule w.driver.periodic.list.work (Once i.descriptor) i.on) n i.at,
  )

module _ (split : Bool) (w : World) (k : IsMixedWorld w) (n : ℕ) (later : IsMixedWorld (driver_next w))
    (i : IsItsMember split (driver_next w) n) where
  pub driven_owner : (e : ℕ) → IsDescriptorOfEndpoint w.driver e n → IsDescriptorOfEndpoint (driver_next w).driver e n
  driven_owner e of =
      let now = its_owner split (driver_next w) later n i in
      let place = k.mixed.now.framed.place in
      let f : Follows w.driver w.memory (driver_next w).driver =
      row_follows (driver_row (driver_parts w)) (driver_parts w) (each_event_is_due (driver_parts w)) place.sound in
      let from : From w.driver w.memory now.1.number now.1.transfer = f.back now.1.number now.1.transfer now.1.here now.1.sort now.1.held in
      let was : IsDescriptorOfEndpoint w.driver now.0 n = record {
        number = now.1.number;
        transfer = from.transfer;
        here = from.here;
        sort = from.descriptor;
        held = from.held;
        at = now.1.at ∙ ap (λ (b : ℕ). 32 * b) (sym from.first);
        endpoint = from.endpoint ∙ now.1.endpoint;
      } in
      subst (λ (x : ℕ). IsDescriptorOfEndpoint (driver_next w).driver x n) (same_owner w.driver place.sound.owners now.0 e n was of) now.1

pub commanded_owner : (w : World) (line : ℕ) (cmd : Cmd) (e n : ℕ) → IsDescriptorOfEndpoint w.driver e n
    → IsDescriptorOfEndpoint (commanded w line cmd).driver e n
commanded_owner w line cmd e n of = answered (offered w.driver w.memory cmd) refl
  where
    answered : (r : Result Offered OfferError) → offered w.driver w.memory cmd ≡ r
        → IsDescriptorOfEndpoint (commanded_by w line (name_in cmd) r).driver e n
    answered (Err why) is = record {
      number = of.number;
      transfer = of.transfer;
      here = of.here;
      sort = of.sort;
      held = of.held;
      at = of.at;
      endpoint = of.endpoint;
    }
    answered (Ok o) is = record {
      number = of.number;
      transfer = of.transfer;
      here = accepted_there w.driver w.memory o (each_command_has_its_reason w.driver w.memory cmd o is) of.number of.transfer of.here;
      sort = of.sort;
      held = of.held;
      at = of.at;
      endpoint = of.endpoint;
    }

-- ---- what structure it is stays

module _ (d : DriverContent) (m : Mem) (o : Offered) (stands : Stands (holding d.book m)) (b : ℕ)
    (run : HasRun (run_at d.book.slots b)) where
  accepted_split : Accepts d m o → (note_at o.driver.periodic.notes b).split ≡ (note_at d.periodic.notes b).split
  accepted_split (opens why) = ap (λ (g : Offered). (note_at g.driver.periodic.notes b).split) why.is
  accepted_split (chains why) = ap (λ (g : Offered). (note_at g.driver.periodic.notes b).split) why.is
  accepted_split (places why) = ap (λ (g : Offered). (note_at g.driver.periodic.notes b).split) why.is
  accepted_split (transfers why) = ap (λ (g : Offered). (note_at g.driver.periodic.notes b).split) why.is
  accepted_split (describes why) =
      ap (λ (g : Offered). (note_at g.driver.periodic.notes b).split) why.is
      ∙ ap (λ (x : DescriptorNote). x.split) (note_still d m o why b stands run)
  accepted_split (cancels why) = ap (λ (g : Offered). (note_at g.driver.periodic.notes b).split) why.is
  accepted_split (unchains why) =
      let ms = endpoint_members d why.number why.endpoint why.placement in
      ap (λ (g : Offered). (note_at g.driver.periodic.notes b).split) why.is
      ∙ ap (λ (ns : List DescriptorNote). (note_at ns b).split)
      (or_notes (with_cancel d why.number why.endpoint ms) (unfinished.Unchain why.number))
      ∙ ap (λ (ns : List DescriptorNote). (note_at ns b).split) (begun_notes true (record d.periodic { queued = ms }))

module _ (w : World) (k : IsMixedWorld w) (line : ℕ) (cmd : Cmd) (e n : ℕ) (c : Descriptor) (at : begins (Once c) ≡ n)
    (of : IsDescriptorOfEndpoint w.driver e n) where
  run : HasRun (run_at w.driver.book.slots (c.id / 32))
  run =
      let place = k.mixed.now.framed.place in
      let its = of.at in
      let own : of.transfer.first ≡ c.id / 32 = omega (arith, at, its) in
      subst (λ (b : ℕ). HasRun (run_at w.driver.book.slots b)) own
      (placed_run of.transfer.first _ (place.sound.owners.owned.each.described of.number (runs_of_transfer of.transfer)
      (ap (option_map runs_of_transfer) of.here) of.sort of.held).descriptor)

  commanded_split : split_at (commanded w line cmd).driver c ≡ split_at w.driver c
  commanded_split = answered (offered w.driver w.memory cmd) refl
    where
      answered : (r : Result Offered OfferError) → offered w.driver w.memory cmd ≡ r
          → split_at (commanded_by w line (name_in cmd) r).driver c ≡ split_at w.driver c
      answered (Err why) is = refl
      answered (Ok o) is =
          accepted_split w.driver w.memory o k.mixed.now.framed.place.sound.stands (c.id / 32) run
          (each_command_has_its_reason w.driver w.memory cmd o is)

-- ---- an event of the driver, or a command

module _ (split : Bool) (w : World) (k : IsMixedWorld w) (one : HasOneActive w.driver w.memory) (n : ℕ)
    (l : IsLinkedAs (structure_at split) w n) (a : IsActiveSome w.driver w.memory n) where
  abbrev i : IsItsMember split w n
  i = its_member split w k n l

  -- nothing was told of it
  untold : (e : ℕ) (of : IsDescriptorOfEndpoint w.driver e n) → of.transfer.reported ≡ false
  untold e of =
      let same : a.is.transfer ≡ of.transfer =
      same_run w.driver k.mixed.now.framed.place.sound.owners a.is.number of.number n a.is.transfer of.transfer a.is.here of.here
      a.is.descriptor of.sort a.is.held of.held a.is.at of.at in
      ap (λ (y : Transfer). y.reported) (sym same)
      ∙ unreported w.driver w.memory a.endpoint a.frame n one
      (active_framed w.driver w.memory a.endpoint a.frame n k.mixed.awaiting a.is)

  module _ (e : ℕ) (of : IsDescriptorOfEndpoint w.driver e n) where
    module _ (later : IsMixedWorld (driver_next w)) (off : IsUncancelled (driver_next w).driver e) where
      driven_member : IsItsMember split (driver_next w) n
      driven_member = record {
        descriptor = i.descriptor;
        on = led_still w k i.descriptor i.on n i.at e of (driver_uncancelled w e off) (untold e of);
        at = i.at;
        frame = i.frame;
        its_split = (row_follows (driver_row (driver_parts w)) (driver_parts w) (each_event_is_due (driver_parts w))
            k.mixed.now.framed.place.sound).split (i.descriptor.id / 32) ∙ i.its_split;
      }

      pub driven_there : IsLinkedAs (structure_at split) (driver_next w) n
      driven_there =
          linked_there split (driver_next w) later n driven_member e (driven_owner split w k n later driven_member e of) off

module _ (split : Bool) (w : World) (k : IsMixedWorld w) (n : ℕ) (l : IsLinkedAs (structure_at split) w n) (e : ℕ)
    (of : IsDescriptorOfEndpoint w.driver e n) where
  abbrev its : IsItsMember split w n
  its = its_member split w k n l

  module _ (line : ℕ) (cmd : Cmd) (later : IsMixedWorld (commanded w line cmd)) (off : IsUncancelled (commanded w line cmd).driver e) where
    pub commanded_there : IsLinkedAs (structure_at split) (commanded w line cmd) n
    commanded_there =
        linked_there split (commanded w line cmd) later n (record {
          descriptor = its.descriptor;
          on = ap (λ (x : Schedule). is_linked x (Once its.descriptor)) (command_led w k line cmd) ∙ its.on;
          at = its.at;
          frame = its.frame ∙ ap (λ (c : Control). frame_in c.frame.index) (sym (command_control w line cmd));
          its_split = commanded_split w k line cmd e n its.descriptor its.at of ∙ its.its_split;
        }) e (commanded_owner w line cmd e n of) off

  module _ (fixed : Fixed) (later : IsMixedWorld (controller_next fixed w)) (off : IsUncancelled w.driver e)
      (index : (controller_next fixed w).control.frame.index ≡ w.control.frame.index) where
    pub controlled_there : IsLinkedAs (structure_at split) (controller_next fixed w) n
    controlled_there =
        linked_there split (controller_next fixed w) later n (record {
          descriptor = its.descriptor;
          on = its.on;
          at = its.at;
          frame = its.frame ∙ ap frame_in (sym index);
          its_split = its.its_split;
        }) e of off

-- ---- one more event or command

module _ (fixed : Fixed) (w : World) (k : IsMixedWorld w) where
  pub uncancelled_before : (e : ℕ) (orders : List Left) → IsUncancelled (tick_at fixed w orders).world.driver e → IsUncancelled w.driver e
  uncancelled_before e [] off = off
  uncancelled_before e (Events event zero ∷ rest) off = off
  uncancelled_before e (Events events.C (suc n) ∷ rest) off = off
  uncancelled_before e (Events events.D (suc n) ∷ rest) off = driver_uncancelled w e off
  uncancelled_before e (Microframes zero ∷ rest) off = off
  uncancelled_before e (Microframes (suc n) ∷ rest) off = off
  uncancelled_before e (Answer ended n ∷ rest) off = driver_uncancelled w e off
  uncancelled_before e (Command n cmd ∷ rest) off = command_uncancelled w n cmd e off
  uncancelled_before e (Plugs there port ∷ rest) off = off

  module _ (split : Bool) (n : ℕ) where
    abbrev Linked : World → Type 0
    Linked v = IsLinkedAs (structure_at split) v n

    pub owner_then : (orders : List Left) → IsMixedWorld (tick_at fixed w orders).world → Linked (tick_at fixed w orders).world
        → (e : ℕ) → IsDescriptorOfEndpoint w.driver e n → IsDescriptorOfEndpoint (tick_at fixed w orders).world.driver e n
    owner_then [] later l e of = of
    owner_then (Events event zero ∷ rest) later l e of = of
    owner_then (Events events.C (suc m) ∷ rest) later l e of = of
    owner_then (Events events.D (suc m) ∷ rest) later l e of =
        driven_owner split w k n later (its_member split (driver_next w) later n l) e of
    owner_then (Microframes zero ∷ rest) later l e of = of
    owner_then (Microframes (suc m) ∷ rest) later l e of = of
    owner_then (Answer ended m ∷ rest) later l e of =
        driven_owner split w k n later (its_member split (driver_next w) later n l) e of
    owner_then (Command m cmd ∷ rest) later l e of = commanded_owner w m cmd e n of
    owner_then (Plugs there port ∷ rest) later l e of = of

    module _ (one : HasOneActive w.driver w.memory) (l : Linked w) (a : IsActiveSome w.driver w.memory n) (e : ℕ)
        (of : IsDescriptorOfEndpoint w.driver e n) where
      pub linked_then : (orders : List Left) → IsMixedWorld (tick_at fixed w orders).world
          → (tick_at fixed w orders).world.control.frame.index ≡ w.control.frame.index
          → IsUncancelled (tick_at fixed w orders).world.driver e → Linked (tick_at fixed w orders).world
      linked_then [] later index off = l
      linked_then (Events event zero ∷ rest) later index off = l
      linked_then (Events events.C (suc m) ∷ rest) later index off = controlled_there split w k n l e of fixed later off index
      linked_then (Events events.D (suc m) ∷ rest) later index off = driven_there split w k one n l a e of later off
      linked_then (Microframes zero ∷ rest) later index off = l
      linked_then (Microframes (suc m) ∷ rest) later index off = controlled_there split w k n l e of fixed later off index
      linked_then (Answer ended m ∷ rest) later index off = driven_there split w k one n l a e of later off
      linked_then (Command m cmd ∷ rest) later index off = commanded_there split w k n l e of m cmd later off
      linked_then (Plugs there port ∷ rest) later index off = l
