-- An event of the walk of the frames leaves what is told of the isochronous OUTs below hubs whose siTD isn't in hand: it starts another key,
-- or that of the one in hand, which alone is active for its endpoint in the frame (EHCI 1.0, 4.6 and 4.12.3; USB 2.0, 11.18.4).
use Rattle.std.proofs.Common.{◌≡◌, ◌≢◌, ℕ, ◌*◌, ◌%◌, ◌<◌, ◌≤◌, true, false, List, [], ◌∷◌, length, Option, Some, None, refl, sym, ap, subst, ◌∙◌, inl, inr, ◌⊎◌, ⊎_elim}
use Rattle.std.specs.Prelude.{◌==◌, not}
use Rattle.std.specs.List.{AllByRecursion}
use Rattle.std.proofs.lemmas.Bool.{true≢false, cases_Bool, cases_eq, cases_lt}
use Rattle.std.proofs.lemmas.Option.{same_Some}
use Rattle.law_microframes.proofs.Common.{iso_kind}
use Rattle.law_driver.proofs.Common.{waits_is}
use Rattle.usb_base.specs.declared.packets.DataPart.TheVariants as parts
use Rattle.usb_base.specs.declared.packets.Dir.TheVariants as dirs
use Rattle.usb_base.specs.declared.packets.EpKind.TheVariants as kinds
use Rattle.usb_base.specs.declared.packets.Reply.{Reply}
use Rattle.hub_keys.specs.Keys.{key_of, is_same_key}
use Rattle.hub_keys.specs.declared.key.Key.{Key}
use Rattle.itd_sitd.specs.declared.sitd.Sitd.{Sitd}
use Rattle.hc_interrupt.specs.Turns.{microframe_of}
use Rattle.hc_iso.specs.declared.held.HeldSitd.{HeldSitd}
use Rattle.hc_iso.specs.declared.held.SitdTurn.TheVariants.{Work}
use Rattle.hc_iso.specs.Sitd.{sitd_turn, sitd_missed, comes, sitd_transaction, sitd_copy}
use Rattle.drv_periodic_table.specs.Descriptors.{sitd_in}
use Rattle.drv_periodic_table.specs.Periodic.{note_at}
use Rattle.periodic_walk.specs.declared.state.Hand.{Hand}
use Rattle.periodic_walk.specs.declared.state.Hand.TheVariants as hands
use Rattle.hc_core.specs.declared.controller.ControllerRow.{ControllerRow}
use Rattle.hc_core.specs.declared.controller.ControllerRow.TheVariants as rows
use Rattle.hc_core.specs.declared.controller.MicroframePart.TheVariants.{Periodic}
use Rattle.hc_core.specs.Controller.{frame_place}
use Rattle.drv_table.specs.declared.content.Transfer.{Transfer}
use Rattle.tt_pipeline.specs.declared.entry.Entry.{Entry}
use Rattle.tt_pipeline.specs.Work.{asked_part}
use Rattle.claims_driver.specs.DueMembers.{framed_to}
use Rattle.bus_wire.specs.Bus.{Bus, Fixed}
use Rattle.bus_world.specs.World.{World, controller_parts, controller_row, controller_next}
use Rattle.claims_world.specs.Visits.{frame_in, HasVisited}
use Rattle.law_queues.specs.open_laws.Opens.{AreNamesApart}
use Rattle.law_translator.proofs.Keys.{same_key}
use Rattle.law_world.specs.memory.Mixed.{Standing, IsMixedAt}
use Rattle.law_microframes.specs.time.SitdFields.{SplitTransfer}
use Rattle.law_microframes.specs.translators.Parts.{EachOf, Lacks, IsEven, key_asked}
use Rattle.law_microframes.specs.translators.Turns.{pipeline_for, EntriesAre, IsInHand, IsInFrame, OutsGoOn, OtherAsksLeave}
use Rattle.law_microframes.specs.visits.OneDescriptor.{IsMixedOnce}
use Rattle.law_microframes.specs.visits.Visited.{WasVisited, IsFramedAs}
use Rattle.law_microframes.proofs.lemmas.visits.OneDescriptor.{IsActiveFramed, active_framed, one_framed_each}
use Rattle.law_microframes.proofs.lemmas.visits.OneDescriptorWords.{served_split}
use Rattle.law_microframes.proofs.lemmas.visits.ReasonParts.{InPart, row_in}
use Rattle.law_microframes.proofs.lemmas.time.PaymentIsochronous.{one_transfer}
use Rattle.law_microframes.proofs.lemmas.time.PaymentMoments.{HoldsAt}
use Rattle.law_microframes.proofs.lemmas.time.SitdParts.{works}
use Rattle.law_microframes.proofs.lemmas.translators.Parts.{completes_lack, other_starts}
use Rattle.law_microframes.proofs.lemmas.translators.SitdCopies.{IsCopyOf, copy_of, out_named}
use Rattle.law_microframes.proofs.lemmas.translators.Turns.{asked_key}
use Rattle.law_microframes.proofs.lemmas.translators.TurnsAsks.{other_asks_leave}
use Rattle.law_microframes.proofs.lemmas.translators.TurnsKeys.{other_key, way_by_key}
use Rattle.law_microframes.proofs.lemmas.translators.TurnsMemory.{IsKin, kin_entries, memory_kin}
use Rattle.law_microframes.proofs.lemmas.translators.TurnsNew.{unframed_is_new}
use Rattle.law_microframes.proofs.lemmas.translators.TurnsWalk.{FrameTurn, turn_rests, turn_fetches, turn_another, turn_transacts, world_turn}
use Rattle.law_microframes.proofs.lemmas.translators.Worlds.{index_after, index_by}

-- ---- small facts

at_visit : (P : ℕ → Type 0) (vs : List ℕ) (n : ℕ) → AllByRecursion P vs → HasVisited n vs → P n
at_visit P [] n all seen = absurd seen
at_visit P (v ∷ vs) n all (inl same) = subst P (sym same) all.0
at_visit P (v ∷ vs) n all (inr later) = at_visit P vs n all.1 later

same_sitd_hand : (h k : HeldSitd) → Some (hands.Sitd h) ≡ Some (hands.Sitd k) → h ≡ k
same_sitd_hand h k e = let f : hands.Sitd h ≡ hands.Sitd k = same_Some (hands.Sitd h) (hands.Sitd k) e in cc

-- where the first part of a frame has more behind it, the entries of its key lack their last
abbrev pub FirstsLack : World → Type 0
FirstsLack w =
    (h : HeldSitd) → w.control.part ≡ Periodic → w.control.frame.hand ≡ Some (hands.Sitd h) → h.settled ≡ None
    → sitd_turn (w.registers.frame_index % 8) h.sitd ≡ Work → h.sitd.dir_in ≡ false
    → asked_part (sitd_transaction h.sitd).ask ≡ parts.Begin
    → EachOf IsEven (key_asked h.sitd) (pipeline_for w.bus.hubs h.sitd.hub h.sitd.port)
    → EachOf Lacks (key_asked h.sitd) (pipeline_for w.bus.hubs h.sitd.hub h.sitd.port)

-- ---- a world

-- what is known of it beside what is told of the OUTs
pub record IsSet (start w : World) (vs : List ℕ) : Type 0 where
  pub holds : HoldsAt start w vs
  pub once : IsMixedOnce w
  pub names : AreNamesApart w.driver
  pub index : w.control.part ≡ Periodic → w.control.frame.index ≡ w.registers.frame_index

module _ (fixed : Fixed) (start w : World) (vs : List ℕ) (set : IsSet start w vs) (outs : OutsGoOn start w vs)
    (row : controller_row w ≡ rows.Frame) where
  abbrev st : Standing
  st = set.once.mixed.standing

  abbrev mixed : IsMixedAt st w
  mixed = set.once.mixed.mixed

  abbrev new : World
  new = controller_next fixed w

  pub periodic : w.control.part ≡ Periodic
  periodic = subst (λ (r : ControllerRow). InPart r w.control.part) row (row_in w)

  pub index_same : (controller_next fixed w).registers.frame_index ≡ w.registers.frame_index
  index_same = index_after fixed w ∙ ap (λ (r : ControllerRow). index_by r w.registers.frame_index) row

  pub turn_now : (h : HeldSitd) → sitd_turn (microframe_of w.control.frame.index) h.sitd ≡ Work
      → sitd_turn (w.registers.frame_index % 8) h.sitd ≡ Work
  turn_now h work = ap (λ (n : ℕ). sitd_turn (n % 8) h.sitd) (sym (set.index periodic)) ∙ work

  pub is_on : (h : HeldSitd) → sitd_turn (microframe_of w.control.frame.index) h.sitd ≡ Work → h.sitd.active ≡ true
  is_on h work =
      (works h.sitd.active (sitd_missed (microframe_of w.control.frame.index) h.sitd) (comes (microframe_of w.control.frame.index) h.sitd)
      work).0

  -- the transaction of the siTD in hand is made
  pub record IsAsked (h : HeldSitd) : Type 0 where
    pub held : w.control.frame.hand ≡ Some (hands.Sitd h)
    pub unset : h.settled ≡ None
    pub work : sitd_turn (microframe_of w.control.frame.index) h.sitd ≡ Work
    pub part : (controller_next fixed w).control.part ≡ Periodic
    pub reply : Reply
    pub then : (controller_next fixed w).control.frame.hand ≡ Some (hands.Sitd (sitd_copy (microframe_of w.control.frame.index) reply h))

  -- ---- what the event leaves of the entries of a key

  abbrev Of : (Entry → Type 0) → Key → ℕ → ℕ → Bus → Type 0
  Of P k hub port b = EachOf P k (pipeline_for b.hubs hub port)

  pub leaves : (P : Entry → Type 0) → OtherAsksLeave P → (k : Key) (hub port : ℕ) → k.kind ≡ kinds.Iso
      → ((h : HeldSitd) → IsAsked h → is_same_key (key_of (sitd_transaction h.sitd).ask) k ≡ true → ⊥)
      → EachOf P k (pipeline_for w.bus.hubs hub port) → EachOf P k (pipeline_for (controller_next fixed w).bus.hubs hub port)
  leaves P leave k hub port iso own all = by (world_turn fixed w row)
    where
      by : FrameTurn fixed (frame_place (controller_parts w)) w.bus (controller_next fixed w).control.frame.hand (controller_next fixed w).control.part
          (controller_next fixed w).bus → Of P k hub port (controller_next fixed w).bus
      by (turn_rests none same) = subst (Of P k hub port) (sym same) all
      by (turn_fetches a v free read is same) = subst (Of P k hub port) (sym same) all
      by (turn_another ask out another none after) =
          subst (Of P k hub port) (sym after)
          (leave k fixed w.bus ask out (λ at place part split piped. other_key ask k at place part another iso split) hub port all)
      by (turn_transacts h out reply held unset work part is after) =
          elim (cases_Bool (is_same_key (key_of (sitd_transaction h.sitd).ask) k)) [
            | inl on ↦
                absurd (own h (record { held = held; unset = unset; work = work; part = part; reply = reply; then = is }) on)
            | inr off ↦
                subst (Of P k hub port) (sym after)
                (leave k fixed w.bus (sitd_transaction h.sitd).ask out (λ at place part split piped. off) hub port all)
          ]

  -- ---- the one in hand

  module _ (h : HeldSitd) (held : w.control.frame.hand ≡ Some (hands.Sitd h)) (unset : h.settled ≡ None) (on : h.sitd.active ≡ true)
      (way : h.sitd.dir_in ≡ false) where
    pub own_copy : IsCopyOf set.once.mixed.standing w h
    own_copy = copy_of st w mixed set.holds.sitds set.once.one.served periodic h held unset on

    abbrev c : IsCopyOf set.once.mixed.standing w h
    c = own_copy

    pub was_seen : HasVisited h.at vs
    was_seen =
        (outs.read h.at (record {
          hand = record { copy = h; part = periodic; held = held; at = refl };
          unset = unset;
        }) on way).1

    own_frame : frame_in w.control.frame.index ≡ (note_at w.driver.periodic.notes own_copy.at.transfer.first).frame
    own_frame =
        let visits = set.holds.visiting.visits in
        let were = at_visit (λ (v : ℕ). WasVisited w.driver visits.left visits.who (frame_in w.control.frame.index) v) vs h.at
        visits.behind.were was_seen in
        let framed = at_visit (λ (v : ℕ). IsFramedAs w.driver v (visits.who v)) vs h.at visits.were_framed was_seen in
        framed c.at.number c.at.transfer c.at.there c.at.sort c.at.held c.at.name (frame_in w.control.frame.index) were.stands

    own_transfer : own_copy.one.is.transfer ≡ own_copy.at.transfer
    own_transfer =
        let i = c.one.is in one_transfer st w h.at mixed c.at i.number i.transfer i.here i.descriptor i.held i.at

    own_active : IsActiveFramed w.driver w.memory own_copy.at.belongs.number (frame_in w.registers.frame_index) h.at
    own_active =
        let i = c.one.is in
        let told = waits_is c.at.belongs.number c.at.transfer c.at.waits in
        let at_e : c.one.endpoint ≡ c.at.belongs.number =
        sym i.endpoint ∙ ap (λ (z : Transfer). z.endpoint) own_transfer ∙ told.0 in
        let at_f : c.one.frame ≡ frame_in w.registers.frame_index =
        sym i.frame ∙ ap (λ (z : Transfer). (note_at w.driver.periodic.notes z.first).frame) own_transfer ∙ sym own_frame
        ∙ ap frame_in (set.index periodic) in
        subst (λ (f : ℕ). IsActiveFramed w.driver w.memory c.at.belongs.number f h.at) at_f
        (subst (λ (e : ℕ). IsActiveFramed w.driver w.memory e c.one.frame h.at) at_e
        (active_framed w.driver w.memory c.one.endpoint c.one.frame h.at mixed.awaiting i))

    -- another siTD that was begun is of another key
    module _ (i : SplitTransfer w.driver) (framed : IsInFrame w i) (active : (sitd_in w.memory i.transfer.first).active ≡ true)
        (out : (sitd_in w.memory i.transfer.first).dir_in ≡ false)
        (some : ((sitd_in w.memory i.transfer.first).c_prog == 0) ≡ false)
        (same : is_same_key (key_of (sitd_transaction h.sitd).ask) (key_asked (sitd_in w.memory i.transfer.first)) ≡ true) where
      abbrev v : Sitd
      v = sitd_in w.memory i.transfer.first

      its_kind : i.endpoint.desc.kind ≡ kinds.Iso
      its_kind =
          iso_kind i.endpoint.desc.kind
          (sym (mixed.now.framed.place.sound.owners.orderly.sorts i.number i.transfer i.endpoint i.there i.here) ∙ i.sort)

      low : i.number < framed_to w.driver.command w.driver.made (length w.driver.transfers)
      low =
          ⊎_elim {C = i.number < framed_to w.driver.command w.driver.made (length w.driver.transfers)}
          (λ (less : i.number < framed_to w.driver.command w.driver.made (length w.driver.transfers)). less)
          (λ (more : framed_to w.driver.command w.driver.made (length w.driver.transfers) ≤ i.number).
          absurd (true≢false (sym (ap (λ (n : ℕ). n == 0) (unframed_is_new w set.once.mixed i more)) ∙ some)))
          (cases_lt i.number (framed_to w.driver.command w.driver.made (length w.driver.transfers)))

      same_number : i.transfer.endpoint ≡ own_copy.at.belongs.number
      same_number =
          let one = out_named i.endpoint.desc i.placement v (set.holds.sitds.fields i)
          (mixed.turns.kinds_fit i.transfer.endpoint i.endpoint i.here) its_kind out in
          let other = out_named c.at.belongs.endpoint.desc c.at.belongs.placement h.sitd c.fields
          (mixed.turns.kinds_fit c.at.belongs.number c.at.belongs.endpoint c.at.belongs.here) c.at.kind way in
          let key = one.1 ∙ sym (same_key (key_asked h.sitd) (key_asked v) same) ∙ sym other.1 in
          set.names i.transfer.endpoint c.at.belongs.number i.endpoint c.at.belongs.endpoint i.here c.at.belongs.here
          (ap (λ (z : Key). z.addr) key) (ap (λ (z : Key). z.ep) key) (one.0 ∙ sym other.0)

      its_active : IsActiveFramed w.driver w.memory own_copy.at.belongs.number (frame_in w.registers.frame_index) (32 * i.transfer.first)
      its_active = record {
        number = i.number;
        transfer = i.transfer;
        here = i.there;
        descriptor = i.sort;
        held = i.held;
        framed = low;
        endpoint = same_number;
        frame = framed;
        at = refl;
        active =
            served_split (note_at w.driver.periodic.notes i.transfer.first) w.memory i.transfer.first i.split ∙ ap not active;
      }

      pub same_descriptor : 32 * i.transfer.first ≡ h.at
      same_descriptor =
          one_framed_each st w c.at.belongs.number (frame_in w.registers.frame_index) (32 * i.transfer.first) h.at mixed set.once.one its_active
          own_active

  -- ---- a siTD in memory of which no copy is in hand any more

  lacks_leave : OtherAsksLeave Lacks
  lacks_leave = other_asks_leave Lacks (other_starts Lacks) completes_lack

  pushed : (x : Sitd) → EntriesAre Lacks w.bus.hubs x
      → ((h : HeldSitd) → IsAsked h → h.sitd.dir_in ≡ false → x.active ≡ true → x.dir_in ≡ false → (x.c_prog == 0) ≡ false
      → is_same_key (key_of (sitd_transaction h.sitd).ask) (key_asked x) ≡ true → ⊥)
      → EntriesAre Lacks (controller_next fixed w).bus.hubs x
  pushed x all own on way some =
      let is = asked_key x way in
      leaves Lacks lacks_leave (key_asked x) x.hub x.port is.0
      (λ h asked same.
      own h asked (way_by_key h.sitd (key_asked x) (same_key (key_of (sitd_transaction h.sitd).ask) (key_asked x) same) is.1) on way some same)
      (all on way some)

  module _ (i : SplitTransfer w.driver) (framed : IsInFrame w i)
      (gone : IsInHand (controller_next fixed w).control (32 * i.transfer.first) → ⊥) where
    -- it wasn't in hand
    other : (IsInHand w.control (32 * i.transfer.first) → ⊥)
        → EntriesAre Lacks (controller_next fixed w).bus.hubs (sitd_in (controller_next fixed w).memory i.transfer.first)
    other none =
        let x : Sitd = sitd_in w.memory i.transfer.first in
        kin_entries Lacks new.bus.hubs x (sitd_in new.memory i.transfer.first)
        (memory_kin fixed st w mixed i x (λ _ on. refl) (λ hand. absurd (none hand)) gone)
        (pushed x (outs.there i framed none)
        (λ h asked way on out some same.
        none (record {
          copy = h;
          part = periodic;
          held = asked.held;
          at = sym (same_descriptor h asked.held asked.unset (is_on h asked.work) way i framed on out some same);
        })))

    -- it was, and the visit is over
    own : (h : HeldSitd) → w.control.frame.hand ≡ Some (hands.Sitd h) → h.at ≡ 32 * i.transfer.first
        → EntriesAre Lacks (controller_next fixed w).bus.hubs (sitd_in (controller_next fixed w).memory i.transfer.first)
    own h held at =
        kin_entries Lacks new.bus.hubs h.sitd (sitd_in new.memory i.transfer.first)
        (memory_kin fixed st w mixed i h.sitd
        (λ none. absurd (none (record { copy = h; part = periodic; held = held; at = at })))
        (λ hand. same_kin h hand.copy (sym held ∙ hand.held)) gone)
        (pushed h.sitd (outs.held h periodic held)
        (λ k asked way on out some same.
        gone (record {
          copy = sitd_copy (microframe_of w.control.frame.index) asked.reply k;
          part = asked.part;
          held = asked.then;
          at = ap (λ (z : HeldSitd). z.at) (sym (same_sitd_hand h k (sym held ∙ asked.held))) ∙ at;
        })))
      where
        same_kin : (h k : HeldSitd) → Some (hands.Sitd h) ≡ Some (hands.Sitd k) → IsKin h.sitd k.sitd
        same_kin h k e = subst (λ (z : HeldSitd). IsKin h.sitd z.sitd) (same_sitd_hand h k e) (λ on. refl)

    by_hand : (o : Option Hand) → w.control.frame.hand ≡ o
        → EntriesAre Lacks (controller_next fixed w).bus.hubs (sitd_in (controller_next fixed w).memory i.transfer.first)
    by_hand None held = other (λ hand. absurd (let e = sym held ∙ hand.held in cc))
    by_hand (Some (hands.Queue q)) held = other (λ hand. absurd (let e = sym held ∙ hand.held in cc))
    by_hand (Some (hands.Itd q)) held = other (λ hand. absurd (let e = sym held ∙ hand.held in cc))
    by_hand (Some (hands.Sitd h)) held =
        ⊎_elim {C = EntriesAre Lacks (controller_next fixed w).bus.hubs (sitd_in (controller_next fixed w).memory i.transfer.first)}
        (λ (at : h.at ≡ 32 * i.transfer.first). own h held at)
        (λ (differs : h.at ≢ 32 * i.transfer.first).
        other (λ hand. differs (ap (λ (z : HeldSitd). z.at) (same_sitd_hand h hand.copy (sym held ∙ hand.held)) ∙ hand.at)))
        (cases_eq h.at (32 * i.transfer.first))

    pub there_after : EntriesAre Lacks (controller_next fixed w).bus.hubs (sitd_in (controller_next fixed w).memory i.transfer.first)
    there_after = by_hand w.control.frame.hand refl
