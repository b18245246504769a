-- Isochronous descriptors that left the frame list, along a run: the link of each stays as it was right after it left, until its transfer
-- is given back; so it leads to a member that is live still, or that left later.
use Rattle.std.proofs.Common.{◌≡◌, ℕ, zero, suc, ◌+◌, ◌-◌, ◌*◌, ◌/◌, ◌<◌, inl, inr, Bool, true, false, List, ◌∷◌, not}
use Rattle.std.proofs.Common.{slice_get, Some, option_map, Result, Ok, Err, ap, refl, sym, subst, ◌∙◌, ⊎_elim, arith}
use Rattle.std.specs.Prelude.{◌⊎◌}
use Rattle.std.specs.List.{AllByRecursion}
use Rattle.std.proofs.lemmas.Bool.{true≢false, and_parts, cases_Bool}
use Rattle.std.proofs.lemmas.Option.{same_Some}
use Rattle.law_common.proofs.Booleans.{not_on}
use Rattle.usb_base.specs.declared.commands.Cmd.{Cmd}
use Rattle.usb_base.specs.declared.reports.OfferError.{OfferError}
use Rattle.script_types.specs.declared.scripts.Event.TheVariants as events
use Rattle.script_types.specs.declared.scripts.Script.{Script}
use Rattle.script_text.specs.Faults.{Spells}
use Rattle.word_mem.specs.declared.blocks.BlockState.TheVariants.{Lent}
use Rattle.word_mem.specs.Memory.{state_at}
use Rattle.mem_runs.specs.Book.{slot_of}
use Rattle.drv_chains.specs.declared.members.Descriptor.{Descriptor}
use Rattle.drv_chains.specs.declared.members.Member.{Member}
use Rattle.drv_chains.specs.declared.members.Member.TheVariants.{Once, Each}
use Rattle.drv_chains.specs.declared.members.QueueHead.{QueueHead as Queue}
use Rattle.drv_chains.specs.Chains.{Schedule, id_of}
use Rattle.drv_members.specs.Members.{is_linked}
use Rattle.drv_periodic_table.specs.Periodic.{note_at}
use Rattle.drv_table.specs.declared.content.Command.{Command}
use Rattle.drv_table.specs.declared.content.Command.TheVariants as unfinished
use Rattle.drv_table.specs.declared.content.Transfer.{Transfer}
use Rattle.drv_table.specs.DriverContent.{DriverContent}
use Rattle.drv_table.specs.Accepting.{Offered}
use Rattle.drv_table.specs.Commands.{removes_members}
use Rattle.drv_table.specs.Offers.{offered}
use Rattle.drv_table.specs.Rows.{driver_row}
use Rattle.bus_wire.specs.Bus.{Fixed, fixed_of}
use Rattle.bus_world.specs.Budgets.{moment}
use Rattle.bus_world.specs.Orders.{Left, Events, Microframes, Answer, Command as Commands, OrderedWorld, tick_at}
use Rattle.bus_world.specs.World.{World, controller_parts, driver_parts, driver_next, controller_next, commanded, commanded_by, name_in}
use Rattle.claims_base.specs.Controller.{opening_base}
use Rattle.claims_driver.specs.FrameListMembers.{framed_in, is_chained, is_among}
use Rattle.law_driver.specs.listed_members.Members.{IsListed, IsUnderWay, IsStanding, IsWaitingOf}
use Rattle.claims_driver.specs.Leaving.{HasOwners}
use Rattle.claims_driver.specs.Owners.{Owner, Described, HasRun, IsDescribed, descriptor_in, is_descriptor, runs_of_transfer}
use Rattle.claims_driver.specs.Ring.{link_in}
use Rattle.law_driver.specs.in_place.InPlace.{IsSound}
use Rattle.claims_driver.specs.Unlinked.{led}
use Rattle.claims_world.specs.Links.{EndsOrLeads, IsUnlinkedBy, now, LeadsOnUntilReleased}
use Rattle.law_structures.proofs.lemmas.lent_structures.Telling.{told_lent}
use Rattle.law_structures.specs.lent_structures.Structures.{Structure, Has, Isochronous, SplitIsochronous}
use Rattle.law_frames.specs.Met.{IsMetAs}
use Rattle.law_driver.proofs.lemmas.listed_members.Owned.{queue_owned}
use Rattle.law_driver.proofs.lemmas.listed_members.Standing.{IsSeen, seen, in_frames, unlinks_reported}
use Rattle.law_driver.proofs.lemmas.listed_members.Standing.{descriptor_block, descriptor_placed, standing_block, why_stands}
use Rattle.law_driver.proofs.lemmas.run_owners.Commands.{each_command_has_its_reason}
use Rattle.law_driver.proofs.lemmas.run_owners.Reasons.{each_event_is_due}
use Rattle.law_driver.proofs.lemmas.run_owners.Runs.{placed_run}
use Rattle.law_footprints.proofs.TransfersChanged.{transfers_step}
use Rattle.law_descriptors.proofs.Finding.{member_kind}
use Rattle.law_descriptors.proofs.Leading.{led_linked, led_spread}
use Rattle.law_descriptors.specs.Both.{both}
use Rattle.law_descriptors.specs.Meeting.{kind_of_descriptor, met, or_recent}
use Rattle.law_descriptors.specs.RowLaws.{HasFrames}
use Rattle.law_frame_list.proofs.lemmas.list_spread.Spreading.{queue_there, standing_there}
use Rattle.law_frame_words.proofs.lemmas.frame_words.Order.{store_in_order}
use Rattle.law_world.specs.memory.Aside.{IsAside}
use Rattle.law_world.specs.memory.Links.{TextsLeaveFramesLeading}
use Rattle.law_world.specs.memory.Mixed.{Standing, IsMixedWorld}
use Rattle.law_world.specs.memory.Owners.{EndsActive}
use Rattle.law_world.proofs.lemmas.memory.Driving.{driver_keeps_mixed}
use Rattle.law_world.proofs.lemmas.memory.FrameLeft.{member_leads, schedule_gone, unlinking_now}
use Rattle.law_world.proofs.lemmas.memory.FrameNew.{AreKeptThen, ComesBy, was, linked_now, row_command, row_comes}
use Rattle.law_world.proofs.lemmas.memory.FrameTransfers.{Then, IsOlder, step_then, accepted_there, accepted_older, accepted_stood}
use Rattle.law_world.proofs.lemmas.memory.FrameQueues.{LeadsLater, later, leads_on, command_led}
use Rattle.law_world.proofs.lemmas.memory.LetGo.{moment_then}
use Rattle.law_world.proofs.lemmas.memory.LinkLent.{descriptor_told, command_leaves_aside, controller_leaves_aside, driver_leaves_lent}
use Rattle.law_world.proofs.lemmas.memory.LinkWords.{driver_leaves_aside}
use Rattle.law_world.proofs.lemmas.memory.OwnMoments.{ends_active}
use Rattle.law_world.proofs.lemmas.memory.Together.{texts_stay_mixed}
use Rattle.law_world.proofs.lemmas.memory.lemmas.framed_memory.Now.{now_has_frames}

-- ---- a descriptor that is out of the list

pub record IsOut (d : DriverContent) (t b : ℕ) : Type 0 where
  pub transfer : Transfer
  pub here : slice_get d.transfers t ≡ Some transfer
  pub first : transfer.first ≡ b
  pub sort : is_descriptor transfer.sort ≡ true
  pub off : transfer.released ≡ false → (k : Descriptor) → is_linked d.periodic.list.members.schedule (Once k) ≡ true → k.id / 32 ≡ b → ⊥
  pub older : IsOlder d.command t

transfer_of : Owner → ℕ
transfer_of (Described split t) = t
transfer_of _ = 0

-- its run is its own
module _ (d : DriverContent) (has : HasOwners d) (t : ℕ) (y : Transfer) (here : slice_get d.transfers t ≡ Some y)
    (sort : is_descriptor y.sort ≡ true) (held : y.released ≡ false) where
  owned : IsDescribed (slot_of d.book.slots) has.owner (descriptor_in d.periodic.notes y.first) t y.first
  owned = has.owned.each.described t (runs_of_transfer y) (ap (option_map runs_of_transfer) here) sort held

  run_of : HasRun (slot_of d.book.slots y.first)
  run_of = placed_run y.first (Described (descriptor_in d.periodic.notes y.first).split t) owned.descriptor

  no_queue : IsListed d → (q : Queue) → is_linked d.periodic.list.members.schedule (Each q) ≡ true → q.id / 32 ≡ y.first → ⊥
  no_queue listed q on same =
      let bad = sym (queue_owned d q has (queue_there d q listed on)).owned ∙ ap has.owner same ∙ owned.descriptor.owned in cc

  -- those that the command has still to link are of later transfers
  not_waiting : (m : Member) (e first : ℕ) → IsWaitingOf d e first m → id_of m / 32 ≡ y.first → t < first → ⊥
  unfolding transfer_of
  not_waiting m e first w same older =
      let block : w.placed.block ≡ y.first
      = sym (descriptor_block d.periodic w.placed.block) ∙ ap (λ (x : Member). id_of x / 32) w.is ∙ same in
      let number : w.number ≡ t
      = sym (ap transfer_of (descriptor_placed d w.number w.placed has w.here (inr w.waits)).owned)
      ∙ ap (λ (c : ℕ). transfer_of (has.owner c)) block ∙ ap transfer_of owned.descriptor.owned in
      let from = w.later in
      omega (arith, number, from, older)

  not_queued : (c : Command) → d.command ≡ Some c → removes_members c ≡ false → IsUnderWay d (Some c) → IsOlder d.command t
      → (m : Member) (ms : List Member) → d.periodic.queued ≡ m ∷ ms → id_of m / 32 ≡ y.first → ⊥
  not_queued (unfinished.Open queue) is links way older m ms queued same = let bad = sym way.queued ∙ queued in cc
  not_queued (unfinished.Publish b words) is links way older m ms queued same = let bad = sym way.queued ∙ queued in cc
  not_queued (unfinished.Unlink e b link) is links way older m ms queued same = let bad = sym way.queued ∙ queued in cc
  not_queued unfinished.Chain is links way older m ms queued same = let bad = sym way.1 ∙ queued in cc
  not_queued (unfinished.Iso e first count) is links way older m ms queued same =
      not_waiting m e first (subst (AllByRecursion (IsWaitingOf d e first)) queued way.members).0 same (older e first count is)
  not_queued (unfinished.Unchain e) is links way older m ms queued same = true≢false links

  module _ (listed : IsListed d) (out : (k : Descriptor) → is_linked d.periodic.list.members.schedule (Once k) ≡ true
      → k.id / 32 ≡ y.first → ⊥) where
    no_member : (x : Member) → is_linked d.periodic.list.members.schedule x ≡ true → id_of x / 32 ≡ y.first → ⊥
    no_member (Each q) on same = no_queue listed q on same
    no_member (Once k) on same = out k on same

    out_aside : IsAside d has.owner y.first
    out_aside = record {
      whose = Described (descriptor_in d.periodic.notes y.first).split t;
      placed = owned.descriptor;
      list = λ same. cc same;
      head = λ same. cc same;
      element = λ u same. cc same;
      ring = λ f z there on same. cc same;
      members = no_member;
    }

-- ---- an event

record Next (w v : World) (t b : ℕ) (o : IsOut w.driver t b) : Type 0 where
  out : IsOut v.driver t b
  held : out.transfer.released ≡ false → o.transfer.released ≡ false
  keeps : out.transfer.released ≡ false → state_at w.memory b ≡ Some Lent
      → (link_in v.memory b ≡ link_in w.memory b) × (state_at v.memory b ≡ Some Lent)

frames_of : (w : World) → IsMixedWorld w → HasFrames w.memory w.driver
frames_of w k =
    let s : Standing = k.standing in
    now_has_frames opening_base s.member s.recent s.descs s.parts s.hand s.frame (controller_parts w) w.driver k.mixed.now

kept_of : (w : World) → IsMixedWorld w → AreKeptThen w.driver.periodic.list
kept_of w k =
    let f : HasFrames w.memory w.driver = frames_of w k in
    record { now = f.list.order.kept; later = (store_in_order w.driver.periodic.list f.list.order).kept }

transfer_then : (w : World) (t : ℕ) (y : Transfer) → slice_get w.driver.transfers t ≡ Some y → Then (driver_next w).driver.transfers t y
transfer_then w t y here =
    step_then w.driver.transfers (driver_next w).driver.transfers
    (transfers_step (driver_row (driver_parts w)) (driver_parts w) w.driver.command refl) t y here

comes_by : (w : World) (k : IsMixedWorld w) (c : Descriptor)
    → is_linked (driver_next w).driver.periodic.list.members.schedule (Once c) ≡ true
    → ComesBy w.driver w.driver.periodic.list w.driver.periodic.queued c
comes_by w k c on = row_comes (driver_parts w) (kept_of w k) c (driver_row (driver_parts w)) (each_event_is_due (driver_parts w)) on

driver_out : (w : World) → IsMixedWorld w → (t b : ℕ) (o : IsOut w.driver t b) → Next w (driver_next w) t b o
driver_out w k t b o =
    let n : Then (driver_next w).driver.transfers t o.transfer = transfer_then w t o.transfer o.here in
    let sound : IsSound w.memory w.driver = k.mixed.now.framed.place.sound in
    record {
      out = record {
        transfer = n.transfer;
        here = n.here;
        first = n.keeps.first ∙ o.first;
        sort = ap is_descriptor n.keeps.sort ∙ o.sort;
        off = λ held c on same. stays_off (n.keeps.held held) c same (comes_by w k c on);
        older = λ e first count is.
            o.older e first count (row_command (driver_parts w) (unfinished.Iso e first count) (driver_row (driver_parts w)) is);
      };
      held = n.keeps.held;
      keeps = λ held lent.
          let new : DriverContent = (driver_next w).driver in
          let has : HasOwners new = (driver_keeps_mixed w k).mixed.now.framed.place.sound.owners in
          let run : HasRun (slot_of new.book.slots b)
          = subst (λ (c : ℕ). HasRun (slot_of new.book.slots c)) (n.keeps.first ∙ o.first)
          (run_of new has t n.transfer n.here (ap is_descriptor n.keeps.sort ∙ o.sort) held) in
          let aside : IsAside w.driver sound.owners.owner b
          = subst (IsAside w.driver sound.owners.owner) o.first
          (out_aside w.driver sound.owners t o.transfer o.here o.sort (n.keeps.held held) sound.listed
          (λ c on same. o.off (n.keeps.held held) c on (same ∙ o.first))) in
          (driver_leaves_aside k.standing w k.mixed b aside lent run, driver_leaves_lent k.standing w k.mixed b lent run);
    }
  where
    stays_off : o.transfer.released ≡ false → (c : Descriptor) → c.id / 32 ≡ b
        → ComesBy w.driver w.driver.periodic.list w.driver.periodic.queued c → ⊥
    stays_off held c same (was on) = o.off held c on same
    stays_off held c same (linked_now e is links m ms queued name) =
        let sound : IsSound w.memory w.driver = k.mixed.now.framed.place.sound in
        not_queued w.driver sound.owners t o.transfer o.here o.sort held e is links (subst (IsUnderWay w.driver) is sound.listed.way)
        o.older m ms queued (ap (λ (n : ℕ). n / 32) (sym name) ∙ same ∙ sym o.first)

controller_out : (fixed : Fixed) (w : World) → IsMixedWorld w → EndsActive w.control → (t b : ℕ) (o : IsOut w.driver t b)
    → Next w (controller_next fixed w) t b o
controller_out fixed w k active t b o = record {
  out = record { transfer = o.transfer; here = o.here; first = o.first; sort = o.sort; off = o.off; older = o.older };
  held = λ h. h;
  keeps = λ held lent.
      let has : HasOwners w.driver = k.mixed.now.framed.place.sound.owners in
      let told = descriptor_told k.standing w k.mixed t o.transfer o.here o.sort held
      (run_of w.driver has t o.transfer o.here o.sort held) (ap (state_at w.memory) o.first ∙ lent) in
      let stay = controller_leaves_aside fixed k.standing w k.mixed active o.transfer.first told in (
        subst (λ (c : ℕ). link_in (controller_next fixed w).memory c ≡ link_in w.memory c) o.first stay.0,
        ap (λ ss. slice_get ss b) stay.1 ∙ lent,
      );
}

command_out : (w : World) (line : ℕ) (cmd : Cmd) → IsMixedWorld w → (t b : ℕ) (o : IsOut w.driver t b) → Next w (commanded w line cmd) t b o
command_out w line cmd k t b o = answered (offered w.driver w.memory cmd) refl
  where
    answered : (r : Result Offered OfferError) → offered w.driver w.memory cmd ≡ r → Next w (commanded_by w line (name_in cmd) r) t b o
    answered (Ok g) is =
        let why = each_command_has_its_reason w.driver w.memory cmd g is in
        record {
          out = record {
            transfer = o.transfer;
            here = accepted_there w.driver w.memory g why t o.transfer o.here;
            first = o.first;
            sort = o.sort;
            off = λ held c on same. o.off held c (accepted_stood w.driver w.memory g why c on) same;
            older = accepted_older w.driver w.memory g why t o.transfer o.here o.older;
          };
          held = λ h. h;
          keeps = λ held lent.
              subst (λ (v : World). (link_in v.memory b ≡ link_in w.memory b) × (state_at v.memory b ≡ Some Lent))
              (ap (commanded_by w line (name_in cmd)) is) (command_leaves_aside k.standing w k.mixed line cmd b lent);
        }
    answered (Err why) is = record {
      out = record { transfer = o.transfer; here = o.here; first = o.first; sort = o.sort; off = o.off; older = o.older };
      held = λ h. h;
      keeps = λ held lent. (refl, lent);
    }

module _ (fixed : Fixed) (w : World) (k : IsMixedWorld w) (active : EndsActive w.control) (t b : ℕ) (o : IsOut w.driver t b) where
  by_orders : (orders : List Left) → Next w (tick_at fixed w orders).world t b o
  by_orders (Events events.C (suc n) ∷ rest) = controller_out fixed w k active t b o
  by_orders (Events events.D (suc n) ∷ rest) = driver_out w k t b o
  by_orders (Microframes (suc n) ∷ rest) = controller_out fixed w k active t b o
  by_orders (Answer ended n ∷ rest) = driver_out w k t b o
  by_orders (Commands n cmd ∷ rest) = command_out w n cmd k t b o
  by_orders _ = record { out = o; held = λ h. h; keeps = λ held lent. (refl, lent) }

-- ---- the event by which it leaves

record First (w v : World) (c : Descriptor) : Type 0 where
  number : ℕ
  transfer : Transfer
  here : slice_get w.driver.transfers number ≡ Some transfer
  sort : is_descriptor transfer.sort ≡ true
  block : transfer.first ≡ c.id / 32
  held : transfer.released ≡ false
  out : IsOut v.driver number (c.id / 32)
  lent : out.transfer.released ≡ false → state_at v.memory (c.id / 32) ≡ Some Lent
  leads : EndsOrLeads v.driver (link_in v.memory (c.id / 32))

-- what stands in its frame wasn't given back
pub unreleased : (d : DriverContent) → HasOwners d → (m : Member) (s : IsStanding d m)
    (v : IsSeen d.endpoints d.transfers s.number s.placed) → v.transfer.released ≡ false
unreleased d has m s v =
    ⊎_elim {C = v.transfer.released ≡ false}
    (λ (on : is_among s.number d.periodic.unlinks ≡ true).
    let r = unlinks_reported d s.number has.orderly on in
    ap (λ (z : Transfer). z.released) (same_Some v.transfer r.transfer (sym v.there ∙ r.there)) ∙ r.released)
    (λ (waits : s.placed.waits ≡ true).
    let parts = and_parts (not v.transfer.reported) (is_chained (framed_in d.endpoints v.transfer.endpoint)) (sym v.waits ∙ waits) in
    let x = in_frames d.endpoints v.transfer.endpoint parts.1 in
    ⊎_elim {C = v.transfer.released ≡ false}
    (λ (back : v.transfer.released ≡ true).
    let gone = has.orderly.untold s.number v.transfer v.there back (not_on v.transfer.reported parts.0) x.endpoint x.here in
    absurd (true≢false (sym x.chained ∙ ((has.orderly.steady v.transfer.endpoint x.endpoint x.here).gone gone).1)))
    (λ (kept : v.transfer.released ≡ false). kept) (cases_Bool v.transfer.released)) (why_stands d m s)

module _ (w : World) (k : IsMixedWorld w) (c : Descriptor) (on : is_linked (led w.driver) (Once c) ≡ true) where
  abbrev s : Standing
  s = k.standing

  frames : HasFrames w.memory w.driver
  frames = frames_of w k

  sound : IsSound w.memory w.driver
  sound = k.mixed.now.framed.place.sound

  linked : is_linked w.driver.periodic.list.members.schedule (Once c) ≡ true
  linked = led_linked w.driver.periodic.list.members.schedule w.driver.periodic.list.work (Once c) on

  abbrev split : Bool
  split = (note_at w.driver.periodic.notes (c.id / 32)).split

  stood : met w.driver s.recent (32 * (c.id / 32)) ≡ Some (kind_of_descriptor split)
  stood =
      let list = w.driver.periodic.list in
      ap (λ o. or_recent o (s.recent (32 * (c.id / 32))))
      (member_kind w.driver.periodic list.list (led w.driver) (Once c) (led_spread list.list list.members.schedule list.work frames.spread)
      on)

  structure_lent : (x : Structure) → both s.descs s.parts (32 * (c.id / 32)) (32 * (c.id / 32)) ≡ Some x
      → Has (32 * (c.id / 32)) x (32 * (c.id / 32) / 32) → state_at w.memory (c.id / 32) ≡ Some Lent
  structure_lent x here has =
      let n : ℕ = 32 * (c.id / 32) in
      let at : n / 32 ≡ c.id / 32 = omega arith in
      subst (λ (b : ℕ). state_at w.memory b ≡ Some Lent) at
      (told_lent w.memory (both s.descs s.parts) n n x (n / 32) k.mixed.now.framed.runs.ring.tells here has)

  lent_by : (b : Bool)
      → IsMetAs (met w.driver s.recent) (32 * (c.id / 32)) (both s.descs s.parts (32 * (c.id / 32))) (kind_of_descriptor b)
      → state_at w.memory (c.id / 32) ≡ Some Lent
  lent_by true is = structure_lent (SplitIsochronous is.sitd) is.here refl
  lent_by false is = structure_lent (Isochronous is.itd) is.here (inl refl)

  block_lent : state_at w.memory (c.id / 32) ≡ Some Lent
  block_lent = lent_by split (k.mixed.now.framed.runs.members (32 * (c.id / 32)) (kind_of_descriptor split) stood)

  its : IsStanding w.driver (Once c)
  its = standing_there w.driver c frames.listed linked

  view : IsSeen w.driver.endpoints w.driver.transfers its.number its.placed
  view = seen w.driver.endpoints w.driver.transfers its.number its.placed its.here

  block : view.transfer.first ≡ c.id / 32
  block = sym view.block ∙ sym (standing_block w.driver (Once c) its)

  held_now : view.transfer.released ≡ false
  held_now = unreleased w.driver sound.owners (Once c) its view

  module _ (gone : is_linked (led (driver_next w).driver) (Once c) ≡ false) where
    next : Then (driver_next w).driver.transfers its.number view.transfer
    next = transfer_then w its.number view.transfer view.there

    none_comes : (e : Descriptor) → e.id / 32 ≡ c.id / 32 → is_linked (driver_next w).driver.periodic.list.members.schedule (Once e) ≡ true
        → ComesBy w.driver w.driver.periodic.list w.driver.periodic.queued e → ⊥
    none_comes e same there (was stood) =
        let one : Once e ≡ Once c = frames.spread.once (Once e) (Once c) stood linked same in
        true≢false (sym there ∙ ap (λ (x : Member). is_linked (driver_next w).driver.periodic.list.members.schedule x) one
        ∙ schedule_gone s w k.mixed (Once c) on gone)
    none_comes e same there (linked_now f is links m ms queued name) =
        true≢false (sym (unlinking_now s w k.mixed (Once c) on gone f is) ∙ links)

    none_links : (f : Command) → (driver_next w).driver.command ≡ Some f → removes_members f ≡ true
    none_links f is =
        unlinking_now s w k.mixed (Once c) on gone f (row_command (driver_parts w) f (driver_row (driver_parts w)) is)

    driver_first : First w (driver_next w) c
    driver_first = record {
      number = its.number;
      transfer = view.transfer;
      here = view.there;
      sort = view.sort;
      block = block;
      held = held_now;
      out = record {
        transfer = next.transfer;
        here = next.here;
        first = next.keeps.first ∙ block;
        sort = ap is_descriptor next.keeps.sort ∙ view.sort;
        off = λ held e there same. none_comes e same there (comes_by w k e there);
        older = λ e first count is. absurd (true≢false (sym (none_links (unfinished.Iso e first count) is)));
      };
      lent = λ held.
          let new : DriverContent = (driver_next w).driver in
          let has : HasOwners new = (driver_keeps_mixed w k).mixed.now.framed.place.sound.owners in
          driver_leaves_lent s w k.mixed (c.id / 32) block_lent
          (subst (λ (b : ℕ). HasRun (slot_of new.book.slots b)) (next.keeps.first ∙ block)
          (run_of new has its.number next.transfer next.here (ap is_descriptor next.keeps.sort ∙ view.sort) held));
      leads = member_leads s w k.mixed (Once c) on gone;
    }

  stays_led : (fixed : Fixed) (line : ℕ) (cmd : Cmd) → is_linked (led (commanded w line cmd).driver) (Once c) ≡ true
  stays_led fixed line cmd = ap (λ (z : Schedule). is_linked z (Once c)) (command_led w k line cmd) ∙ on

  first_by : (fixed : Fixed) (orders : List Left) → is_linked (led (tick_at fixed w orders).world.driver) (Once c) ≡ false
      → First w (tick_at fixed w orders).world c
  first_by fixed (Events events.C (suc n) ∷ rest) gone = absurd (true≢false (sym on ∙ gone))
  first_by fixed (Events events.D (suc n) ∷ rest) gone = driver_first gone
  first_by fixed (Microframes (suc n) ∷ rest) gone = absurd (true≢false (sym on ∙ gone))
  first_by fixed (Answer ended n ∷ rest) gone = driver_first gone
  first_by fixed (Commands n cmd ∷ rest) gone = absurd (true≢false (sym (stays_led fixed n cmd) ∙ gone))
  first_by fixed _ gone = absurd (true≢false (sym on ∙ gone))

-- ---- along the run

module _ (text : List ℕ) (script : Script) (spelled : Spells text script) where
  next_at : (i t b : ℕ) (o : IsOut (moment script i).world.driver t b) → Next (moment script i).world (moment script (suc i)).world t b o
  next_at i t b o =
      subst (λ (p : OrderedWorld). Next (moment script i).world p.world t b o) (sym (moment_then script i))
      (by_orders (fixed_of script) (moment script i).world (texts_stay_mixed text script spelled i) (ends_active text script spelled i)
      t b o
      (moment script i).orders)

  module _ (j : ℕ) (c : Descriptor) (u : IsUnlinkedBy script j (Once c)) where
    first : First (moment script j).world (moment script (suc j)).world c
    first =
        subst (λ (p : OrderedWorld). First (moment script j).world p.world c) (sym (moment_then script j))
        (first_by (moment script j).world (texts_stay_mixed text script spelled j) c u.before (fixed_of script) (moment script j).orders
        (subst (λ (p : OrderedWorld). is_linked (led p.world.driver) (Once c) ≡ false) (moment_then script j) u.after))

    record Stood (i : ℕ) : Type 0 where
      out : IsOut (moment script i).world.driver first.number (c.id / 32)
      leads : out.transfer.released ≡ false → (state_at (moment script i).world.memory (c.id / 32) ≡ Some Lent)
          × LeadsLater text script spelled j i (link_in (moment script i).world.memory (c.id / 32))

    stood_first : Stood (suc j)
    stood_first = record { out = first.out; leads = λ held. (first.lent held, now first.leads) }

    stood_next : (i : ℕ) → j < i → Stood i → Stood (suc i)
    stood_next i past h =
        let n = next_at i first.number (c.id / 32) h.out in
        record {
          out = n.out;
          leads = λ held.
              let old = h.leads (n.held held) in
              let kept = n.keeps held old.0 in (
                kept.1,
                subst (LeadsLater text script spelled j (suc i)) (sym kept.0)
                    (later text script spelled j i (link_in (moment script i).world.memory (c.id / 32)) past old.1),
              );
        }

    stood_from : (n i : ℕ) → i ≡ suc (n + j) → Stood i
    stood_from zero i is = let at : suc j ≡ i = omega (arith, is) in subst Stood at stood_first
    stood_from (suc n) i is =
        let at : suc (suc (n + j)) ≡ i = omega (arith, is) in
        subst Stood at (stood_next (suc (n + j)) (omega arith) (stood_from n (suc (n + j)) refl))

    stood_at : (i : ℕ) → j < i → Stood i
    stood_at i past = stood_from (i - suc j) i (omega (arith, past))

    leads_until_released : LeadsOnUntilReleased script j c
    leads_until_released = record {
      number = first.number;
      descriptor = record { transfer = first.transfer; here = first.here; sort = first.sort; block = first.block };
      held = first.held;
      leads = λ i y past here held.
          let h : Stood i = stood_at i past in
          let same : y ≡ h.out.transfer = same_Some y h.out.transfer (sym here ∙ h.out.here) in
          (h.leads (ap (λ (z : Transfer). z.released) (sym same) ∙ held)).1;
    }

pub texts_leave_frames_leading : TextsLeaveFramesLeading
texts_leave_frames_leading = λ text s spelled. record {
  queues = λ j q u. leads_on text s spelled j q u;
  descriptors = λ j c u. leads_until_released text s spelled j c u;
}
