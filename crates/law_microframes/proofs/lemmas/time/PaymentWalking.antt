-- An event of the controller adds to what the newest visit cost, and no more than the placement of its endpoint allows (USB 2.0, 5.9 and 5.11.3; EHCI 1.0, 3.3, 4.6, 4.7, 4.10 and 4.12).
use Rattle.std.proofs.Common.{◌≡◌, ℕ, ◌+◌, ◌-◌, ◌/◌, ◌%◌, ◌≤◌, Bool, true, false, List, [], ◌∷◌, Option, Some, None, ap, refl, sym, subst, ◌∙◌, ⊎_elim, arith, inl, inr}
use Rattle.std.specs.Prelude.{if◌then◌else◌}
use Rattle.std.specs.List.{AllByRecursion}
use Rattle.std.proofs.lemmas.Option.{same_Some}
use Rattle.law_controller.proofs.Common.{over_not_periodic}
use Rattle.usb_base.specs.declared.packets.Ask.{Ask}
use Rattle.usb_base.specs.declared.packets.Dir.{Dir}
use Rattle.usb_base.specs.declared.packets.EpKind.TheVariants.{Interrupt, Iso}
use Rattle.usb_base.specs.declared.packets.Reply.{Reply}
use Rattle.usb_base.specs.declared.packets.Reply.TheVariants.{Silent}
use Rattle.word_mem.specs.Memory.{reaches}
use Rattle.op_registers.specs.Events.{after_begin}
use Rattle.hc_interrupt.specs.Turns.{microframe_of}
use Rattle.hc_iso.specs.declared.held.HeldItd.{HeldItd}
use Rattle.hc_iso.specs.declared.held.HeldSitd.{HeldSitd}
use Rattle.hc_iso.specs.declared.held.IsoEnd.{IsoEnd}
use Rattle.hc_iso.specs.declared.held.SplitOutcome.{SplitOutcome}
use Rattle.hc_iso.specs.Sitd.{sitd_missed, comes, turn_at}
use Rattle.link_words.specs.declared.fields.LinkBits.{LinkBits}
use Rattle.hc_iso.specs.Itd.{itd_transaction, fetched_itd}
use Rattle.qh_qtd.specs.declared.qtd.Qtd.{Qtd}
use Rattle.qh_qtd.specs.declared.queue_head.Qh.{Qh}
use Rattle.itd_sitd.specs.declared.itd.Itd.{Itd}
use Rattle.itd_sitd.specs.Itd.{slot_of}
use Rattle.itd_sitd.specs.declared.sitd.Sitd.{Sitd}
use Rattle.bandwidth.specs.declared.placements.Placed.{Placed}
use Rattle.bandwidth.specs.Placements.{has}
use Rattle.bandwidth.specs.Sums.{is_active, cost_in, cost_at}
use Rattle.periodic_walk.specs.declared.state.Hand.{Hand}
use Rattle.periodic_walk.specs.declared.state.Hand.TheVariants as hands
use Rattle.periodic_walk.specs.declared.chain.ChainRow.{ChainRow}
use Rattle.periodic_walk.specs.declared.chain.ChainRow.TheVariants as chains
use Rattle.periodic_walk.specs.declared.itd.ItdRow.{ItdRow}
use Rattle.periodic_walk.specs.declared.itd.ItdRow.TheVariants as itds
use Rattle.periodic_walk.specs.declared.sitd.SitdRow.{SitdRow}
use Rattle.periodic_walk.specs.declared.sitd.SitdRow.TheVariants as sitds
use Rattle.periodic_walk.specs.declared.state.HeldQueue.{HeldQueue}
use Rattle.periodic_walk.specs.declared.queue.QueueRow.TheVariants as queue_rows
use Rattle.periodic_walk.specs.Walk.{Walk as FrameWalk, hand_address}
use Rattle.periodic_walk.specs.Place.{FramePlace, Effect, passing, HasEffect}
use Rattle.periodic_walk.specs.Place.Effect.{Leaves, Asks}
use Rattle.periodic_walk.specs.Queue.{queue_row}
use Rattle.periodic_walk.specs.Itd.{timed_row, ended_row, itd_row, itd_effect}
use Rattle.periodic_walk.specs.Sitd.{turn_row, settled_row, sitd_effect}
use Rattle.periodic_walk.specs.Chain.{chain_row, chain_walk, chain_step}
use Rattle.periodic_walk.specs.Rows.{step_at, step_of, effect_at, effect_of}
use Rattle.hc_core.specs.declared.controller.MicroframePart.TheVariants.{Over, Periodic}
use Rattle.hc_core.specs.declared.controller.ControllerRow.{ControllerRow}
use Rattle.hc_core.specs.declared.controller.ControllerRow.TheVariants as rows
use Rattle.hc_core.specs.Controller.{Control, Content, element_address, begun_at, ended, entered, frame_place, frame_step, hc_step, walk_place, walk_step, part_after, kind_of, Walks, HasRow}
use Rattle.drv_table.specs.DriverContent.{DriverContent}
use Rattle.law_budgets.specs.visit_prices.Spent.{IsItdOf}
use Rattle.law_budgets.specs.visit_prices.Prices.{after}
use Rattle.law_budgets.specs.visit_prices.Fetched.{queue_copy, itd_copy}
use Rattle.bus_world.specs.World.{World}
use Rattle.law_world.proofs.lemmas.memory.lemmas.framed_memory.Index.{ring_index, frame_index}
use Rattle.law_microframes.specs.visits.Began.{began_at}
use Rattle.claims_world.specs.Visits.{fetched_by, visits_after, visits_at, frame_in}
use Rattle.law_microframes.specs.time.Charges.{charge, IsInHandOf, TakesData, GoesOnOrEnds, IsCharging, IsHeldFor, IsHeldStill, IsSummed, Begins}
use Rattle.law_microframes.specs.time.DataQueues.{pid_of, GoesBy}
use Rattle.law_microframes.specs.time.SitdParts.{IsInParts, IsSitdOf, IsSitdInHand, IsSitdStill, GoesOnInParts, PartsBy}
use Rattle.law_microframes.specs.time.SplitCharges.{IsSplitInHand, IsPaidFor, at_high, at_split, at_sitd, TakesWay, added, IsPaidStill, GoesOnPaid, PaysBy}
use Rattle.law_microframes.specs.time.ChargeLoads.{IsPaidIn}
use Rattle.law_microframes.specs.visits.Belonging.{placed_of, IsQueueAt}
use Rattle.law_microframes.proofs.lemmas.visits.VisitWalking.{async_no}
use Rattle.claims_world.specs.Prices.{cost_of}
use Rattle.claims_world.specs.WithinLoad.{is_again, begun_too, paid_more, payments_at, payments_after, microframe_in}
use Rattle.law_microframes.specs.time.Payments.{names_in}
use Rattle.law_microframes.specs.time.PaymentLaws.{IsOwnedBy, by_queue, by_descriptor, IsPayment, IsHandPaid, IsIdle, IsPassing, ArePaidByHand, ArePaid}
use Rattle.law_microframes.proofs.lemmas.time.ChargeEvents.{leads_are_charged}
use Rattle.law_microframes.proofs.lemmas.time.ChargeSums.{charges_are_summed, descriptor_fetches_begin_charges}
use Rattle.law_microframes.proofs.lemmas.time.ChargeLoads.{held_placed}
use Rattle.law_microframes.proofs.lemmas.time.DataTold.{pid_low}
use Rattle.law_microframes.proofs.lemmas.time.SitdCharged.{sitds_are_priced}
use Rattle.law_microframes.proofs.lemmas.time.SplitCharged.{splits_are_priced}
use Rattle.law_microframes.proofs.lemmas.time.PriceTaken.{leads_cost}

-- ---- the microframe among those of the frame list

same_part : (index : ℕ) → index % 8192 % 8 ≡ index % 8
same_part index = omega arith

pub same_frame : (index : ℕ) → microframe_in index / 8 ≡ frame_in index
same_frame index = omega arith

in_hand_of : (x : Placed) (u v : ℕ) (hand : Hand) → v % 8 ≡ u % 8 → IsInHandOf x u hand → IsInHandOf x v hand
in_hand_of x u v (hands.Queue h) same held =
    record { head = held.head; few = held.few; pid = held.pid; room = held.room; own = λ some. ap (has x.placement.smask) same ∙ held.own some }
in_hand_of x u v (hands.Itd h) same held =
    let slots = ap (λ (i : ℕ). (slot_of i h.itd).active) same in
    record {
      descriptor = held.descriptor;
      packets = held.packets;
      room = held.room;
      slot = held.slot ∙ sym slots;
      placed = λ on. ap (has x.placement.smask) same ∙ held.placed (sym slots ∙ on);
      own = λ some. ap (has x.placement.smask) same ∙ held.own some;
    }
in_hand_of x u v (hands.Sitd h) same held = absurd held

held_in : (x : Placed) (index : ℕ) (hand : Hand) (paid : ℕ) → IsHeldFor x index hand paid → IsHeldFor x (microframe_in index) hand paid
held_in x index hand paid held = record { of = in_hand_of x index (microframe_in index) hand (same_part index) held.of; charged = held.charged }

-- .. below a hub
classic_in : (x : Placed) (index paid : ℕ) → paid ≤ cost_in x.want x.placement (index % 8)
    → is_active x.placement (microframe_in index / 8) ≡ true
    → IsPaidIn (microframe_in index) (record { of = x; paid = paid })
classic_in x index paid one on = record {
  within =
      let same : cost_at (microframe_in index) x ≡ cost_in x.want x.placement (microframe_in index % 8)
      = ap (λ (b : Bool). if b then cost_in x.want x.placement (microframe_in index % 8) else 0) on in
      subst (λ (n : ℕ). paid ≤ n) (sym (same ∙ ap (cost_in x.want x.placement) (same_part index))) one;
}

-- no more is paid than the placement has for the microframe
pub paid_in : (x : Placed) (index : ℕ) (hand : Hand) (paid : ℕ) → IsPaidFor x index hand paid
    → is_active x.placement (microframe_in index / 8) ≡ true
    → IsPaidIn (microframe_in index) (record { of = x; paid = paid })
paid_in x index hand paid (at_high held) on =
    record { within = held_placed x (microframe_in index) hand paid (held_in x index hand paid held) on }
paid_in x index hand paid (at_split h is held) on = classic_in x index paid held.one on
paid_in x index hand paid (at_sitd h is held) on = classic_in x index paid held.one on

-- nothing is made again at high speed
pub in_hand_once : (x : Placed) (u : ℕ) (hand : Hand) → IsInHandOf x u hand → is_again hand ≡ false
in_hand_once x u (hands.Queue h) held = rw held.head.high refl
in_hand_once x u (hands.Itd h) held = refl
in_hand_once x u (hands.Sitd h) held = absurd held

-- ---- an event of a visit

-- what is in hand is of the same structure
charging_at : (x : Placed) (p q : FramePlace) (hand k : Hand) → IsCharging x p hand q → q.walk.hand ≡ Some k
    → hand_address k ≡ hand_address hand
charging_at x p q hand k (inl rests) is = (subst (GoesOnOrEnds x p.walk.index hand) is rests.hand).address
charging_at x p q hand k (inr works) is = let same : works.copy ≡ k = same_Some works.copy k (sym works.hand ∙ is) in
    ap hand_address (sym same) ∙ works.going.address

still_high : (x : Placed) (u paid more : ℕ) (hand : Hand) (o : Option Hand)
    → ((k : Hand) → o ≡ Some k → hand_address k ≡ hand_address hand) → IsHeldStill x u (paid + more) o
    → IsPaidStill x u hand (paid + more) o
still_high x u paid more hand None at held = tt
still_high x u paid more hand (Some k) at held = (at_high held, at k refl)

effect_pays : {W : Type 0} (transacts : W → Ask → List ℕ → Reply → W → Type 0) (x : Placed) (p q : FramePlace) (before later : W)
    (hand : Hand) (paid more : ℕ) (e : Effect)
    → PaysBy x p hand paid more e → HasEffect transacts e before q later → GoesOnPaid x p.walk.index hand paid more q
effect_pays transacts x p q before later hand paid more (Leaves new) pays has =
    subst (GoesOnPaid x p.walk.index hand paid more) (sym has.0) pays
effect_pays transacts x p q before later hand paid more (Asks ask out by) pays has =
    subst (GoesOnPaid x p.walk.index hand paid more) (sym has.place) (pays has.reply)

parts_pay : {W : Type 0} (transacts : W → Ask → List ℕ → Reply → W → Type 0) (x : Placed) (p q : FramePlace) (before later : W)
    (h : HeldSitd) (paid more : ℕ) (e : Effect)
    → PartsBy x p h paid more e → HasEffect transacts e before q later → GoesOnInParts x p.walk.index h paid more q
parts_pay transacts x p q before later h paid more (Leaves new) pays has =
    subst (GoesOnInParts x p.walk.index h paid more) (sym has.0) pays
parts_pay transacts x p q before later h paid more (Asks ask out by) pays has =
    subst (GoesOnInParts x p.walk.index h paid more) (sym has.place) (pays has.reply)

still_sitd : (x : Placed) (u n : ℕ) (h : HeldSitd) (o : Option Hand) → IsSitdStill x u h n o → IsPaidStill x u (hands.Sitd h) n o
still_sitd x u n h None held = tt
still_sitd x u n h (Some (hands.Sitd k)) held = (at_sitd k refl held.0, held.1)
still_sitd x u n h (Some (hands.Queue k)) held = absurd held
still_sitd x u n h (Some (hands.Itd k)) held = absurd held

module _ {W : Type 0} (transacts : W → Ask → List ℕ → Reply → W → Type 0) (x : Placed) (p q : FramePlace) (before later : W) (hand : Hand)
    (paid : ℕ) (is : p.walk.hand ≡ Some hand)
    (way : TakesWay x p hand) (leads : HasEffect transacts (effect_of p) before q later) where
  abbrev more : ℕ
  more = added (hc_step (step_of p)) hand

  tame : (h : Hand) → TakesWay x p h → TakesData p h
  tame (hands.Queue h) takes = λ a t row. let pid = takes a t row in let low = pid_low x.want.dir in omega (arith, pid, low)
  tame _ takes = tt

  high_goes_on : IsHeldFor x p.walk.index hand paid → GoesOnPaid x p.walk.index hand paid (added (hc_step (step_of p)) hand) q
  high_goes_on held =
      let charging : IsCharging x p hand q = leads_are_charged transacts x p q before later hand is held.of (tame hand way) leads in
      let sum : IsSummed x p paid q = charges_are_summed x p q hand paid held charging in
      let same : charge p q ≡ added (hc_step (step_of p)) hand =
      leads_cost transacts p q before later hand is leads
      ∙ sym (ap (λ (b : Bool). if b then 0 else cost_of (hc_step (step_of p)) hand) (in_hand_once x p.walk.index hand held.of)) in
      record {
        index = sum.index;
        held = still_high x p.walk.index paid (added (hc_step (step_of p)) hand) hand q.walk.hand
            (λ k at. charging_at x p q hand k charging at)
            (subst (λ (n : ℕ). IsHeldStill x p.walk.index (paid + n) q.walk.hand) same sum.held);
        ends = λ over. sym same ∙ sum.ends over;
      }

  split_goes_on : (h : HeldQueue) → hand ≡ hands.Queue h → IsSplitInHand x h p.walk.index paid
      → GoesOnPaid x p.walk.index hand paid (added (hc_step (step_of p)) hand) q
  split_goes_on h same held =
      subst (λ (z : Hand). GoesOnPaid x p.walk.index z paid (added (hc_step (step_of p)) z) q) (sym same)
      (effect_pays transacts x p q before later (hands.Queue h) paid (added (hc_step (step_of p)) (hands.Queue h)) (effect_of p)
      (splits_are_priced x p h paid (is ∙ ap Some same) held (subst (TakesWay x p) same way)) leads)

  sitd_goes_on : (h : HeldSitd) → hand ≡ hands.Sitd h → IsSitdInHand x h p.walk.index paid
      → GoesOnPaid x p.walk.index hand paid (added (hc_step (step_of p)) hand) q
  sitd_goes_on h same held =
      let cost = cost_of (hc_step (step_of p)) (hands.Sitd h) in
      let g : GoesOnInParts x p.walk.index h paid cost q
      = parts_pay transacts x p q before later h paid cost (effect_of p) (sitds_are_priced x p h paid (is ∙ ap Some same) held) leads in
      subst (λ (z : Hand). GoesOnPaid x p.walk.index z paid (added (hc_step (step_of p)) z) q) (sym same)
      (record { index = g.index; held = still_sitd x p.walk.index (paid + cost) h q.walk.hand g.held; ends = g.ends })

  goes_on_paid : IsPaidFor x p.walk.index hand paid → GoesOnPaid x p.walk.index hand paid (added (hc_step (step_of p)) hand) q
  goes_on_paid (at_high held) = high_goes_on held
  goes_on_paid (at_split h same held) = split_goes_on h same held
  goes_on_paid (at_sitd h same held) = sitd_goes_on h same held

-- ---- what is told of the place where the walk is

-- the queue head there is that of a placed interrupt endpoint, and a visit begins with nothing paid
pub record IsHeadThere (d : DriverContent) (a : ℕ) (q : Qh) : Type 0 where
  pub queue : IsQueueAt d a
  pub begins : (u : ℕ) → IsPaidFor (placed_of queue.belongs) u (hands.Queue (queue_copy a q)) 0

-- a descriptor there of which something is active in this microframe is that of a placed isochronous endpoint
pub record IsItdThere (b : World) (d : DriverContent) (c : Content) (a : ℕ) (v : Itd) : Type 0 where
  pub of : Placed
  pub owned : IsOwnedBy b d c.registers.frame_index (frame_in c.control.frame.index) a of
  pub descriptor : IsItdOf of v
  pub some : 1 ≤ v.multi
  pub multi : v.multi ≤ of.want.multi
  pub own : has of.placement.smask (c.control.frame.index % 8) ≡ true
  pub active : is_active of.placement (frame_in c.control.frame.index) ≡ true

-- a siTD that is active is so too
pub record IsSitdThere (b : World) (d : DriverContent) (c : Content) (a : ℕ) (v : Sitd) : Type 0 where
  pub of : Placed
  pub owned : IsOwnedBy b d c.registers.frame_index (frame_in c.control.frame.index) a of
  pub descriptor : IsSitdOf of v
  pub parts : IsInParts v of.want.max
  pub active : is_active of.placement (frame_in c.control.frame.index) ≡ true

-- and a qTD that is taken is of its endpoint's way
pub record ReadsStructures (b : World) (d : DriverContent) (c : Content) : Type 0 where
  pub heads : (a : ℕ) (q : Qh) → c.control.part ≡ Periodic → c.control.frame.hand ≡ None → chain_row c.memory c.control.frame.cursor ≡ chains.Queue a q → IsHeadThere d a q
  pub itds : (a : ℕ) (v : Itd) → c.control.part ≡ Periodic → c.control.frame.hand ≡ None → chain_row c.memory c.control.frame.cursor ≡ chains.Itd a v
      → (slot_of (c.control.frame.index % 8) v).active ≡ true → IsItdThere b d c a v
  pub sitds : (a : ℕ) (v : Sitd) → c.control.part ≡ Periodic → c.control.frame.hand ≡ None
      → chain_row c.memory c.control.frame.cursor ≡ chains.Sitd a v
      → v.active ≡ true → IsSitdThere b d c a v
  pub takes : (h : HeldQueue) (dir : Dir) → GoesBy d h.copy.at dir → c.control.part ≡ Periodic → c.control.frame.hand ≡ Some (hands.Queue h)
      → (a : ℕ) (t : Qtd) → queue_row (frame_place c) h ≡ queue_rows.Advance a t → t.token.pid ≡ pid_of dir

abbrev InFrame : DriverContent → ℕ → ℕ → Type 0
InFrame d index v = (b : IsQueueAt d v) → is_active b.belongs.placement (frame_in index) ≡ true

-- ---- a descriptor of which nothing is active in this microframe

idle_itd : (a u : ℕ) (v : Itd) → (slot_of u v).active ≡ false → IsIdle (hands.Itd (fetched_itd a u v))
unfolding fetched_itd
idle_itd a u v off = (refl, off)

itd_at : (a u : ℕ) (v : Itd) → (fetched_itd a u v).at ≡ a
unfolding fetched_itd
itd_at a u v = refl

-- the link that comes next
abbrev link_of_hand : Hand → LinkBits
link_of_hand (hands.Queue h) = h.copy.queue_head.link
link_of_hand (hands.Itd h) = h.itd.link
link_of_hand (hands.Sitd h) = h.sitd.link

skips : (left : ℕ) (h : HeldItd) → h.ended ≡ None → h.slot.active ≡ false → itd_row left h ≡ itds.Skip
skips left h goes_on off = ap (λ (o : Option IsoEnd). ended_row left h o) goes_on ∙ ap (λ (b : Bool). if b then timed_row left (itd_transaction h) else itds.Skip) off

skips_sitd : (left u : ℕ) (h : HeldSitd) → h.settled ≡ None → h.sitd.active ≡ false → settled_row left u h.sitd h.settled ≡ sitds.Skip
skips_sitd left u h goes_on off =
    ap (λ (o : Option SplitOutcome). settled_row left u h.sitd o) goes_on
    ∙ ap (λ (b : Bool). turn_row left h.sitd (turn_at b (sitd_missed u h.sitd) (comes u h.sitd))) off

idle_passes : (p : FramePlace) (hand : Hand) → IsIdle hand → effect_at p (Some hand) ≡ Leaves (passing (link_of_hand hand) p)
idle_passes p (hands.Queue h) idle = absurd idle
idle_passes p (hands.Itd h) idle = ap (λ (r : ItdRow). itd_effect r h p) (skips p.walk.left h idle.0 idle.1)
idle_passes p (hands.Sitd h) idle = ap (λ (r : SitdRow). sitd_effect r h p)
    (skips_sitd p.walk.left (microframe_of p.walk.index) h idle.0 idle.1)

pub idle_once : (hand : Hand) → IsIdle hand → is_again hand ≡ false
idle_once (hands.Queue h) idle = absurd idle
idle_once (hands.Itd h) idle = refl
idle_once (hands.Sitd h) idle = refl

-- ---- an event

module _ {W : Type 0} (begins_with : W → ℕ → Bool → W → Type 0) (transacts : W → Ask → List ℕ → Reply → W → Type 0) (old b : World) (d : DriverContent) (c : Content) (wire : W) (n : Content) (after_wire : W)
    (ps : List (ℕ × ℕ)) (reads : ReadsStructures b d c) (k : ArePaid b d c.registers.frame_index c.control ps) where
  abbrev now : ℕ
  now = c.registers.frame_index

  abbrev Entries : ℕ → List (ℕ × ℕ) → Type 0
  Entries index xs = AllByRecursion (IsPayment b d c.registers.frame_index index) xs

  abbrev Paid : Control → List (ℕ × ℕ) → Type 0
  Paid to xs = ArePaid b d c.registers.frame_index to xs

  -- the periodic part is over
  over : (to : Control) → (to.part ≡ Periodic → ⊥) → to.frame.index ≡ c.control.frame.index → Paid to ps
  over to out same = record { entries = subst (λ (i : ℕ). Entries i ps) (sym same) k.entries; hand = λ on. absurd (out on) }

  -- a queue head is fetched
  fetched : (a : ℕ) (q : Qh) → c.control.part ≡ Periodic → c.control.frame.hand ≡ None → chain_row c.memory c.control.frame.cursor ≡ chains.Queue a q
      → n.control.frame ≡ chain_walk (chains.Queue a q) c.control.frame → InFrame d n.control.frame.index a → Paid n.control ((a, 0) ∷ ps)
  fetched a q periodic free is walk in_frame =
      let there : IsHeadThere d a q = reads.heads a q periodic free is in
      let x : Placed = placed_of there.queue.belongs in
      let same : n.control.frame.index ≡ c.control.frame.index = ap (λ (w : FrameWalk). w.index) walk in
      let hand_is : n.control.frame.hand ≡ Some (hands.Queue (queue_copy a q)) = ap (λ (w : FrameWalk). w.hand) walk in
      record {
        entries = (inl refl, subst (λ (i : ℕ). Entries i ps) (sym same) k.entries);
        hand = λ on.
            subst (λ (o : Option Hand). ArePaidByHand b d c.registers.frame_index n.control.frame.index o ((a, 0) ∷ ps)) (sym hand_is)
            (inl (record {
              address = a;
              paid = 0;
              rest = ps;
              are = refl;
              of = x;
              owned = by_queue there.queue refl;
              held = there.begins n.control.frame.index;
              at = refl;
              active = ap (is_active there.queue.belongs.placement) (same_frame n.control.frame.index) ∙ in_frame there.queue;
            }));
      }

  -- an iTD is
  abbrev ByItd : ℕ → Itd → Type 0
  ByItd a v = ArePaidByHand b d c.registers.frame_index c.control.frame.index (Some (hands.Itd (itd_copy (frame_place c) a v))) ((a, 0) ∷ ps)

  itd_by : (a : ℕ) (v : Itd) (active : Bool) → (slot_of (c.control.frame.index % 8) v).active ≡ active → c.control.part ≡ Periodic → c.control.frame.hand ≡ None
      → chain_row c.memory c.control.frame.cursor ≡ chains.Itd a v → ByItd a v
  itd_by a v false off periodic free is = inr
      (record { idle = idle_itd a (c.control.frame.index % 8) v off; address = a; rest = ps; are = refl })
  itd_by a v true on periodic free is =
      let there : IsItdThere b d c a v = reads.itds a v periodic free is on in
      let begins : Begins there.of (frame_place c) (hands.Itd (itd_copy (frame_place c) a v)) (after (frame_place c) Silent)
      = descriptor_fetches_begin_charges there.of (frame_place c) a v Silent
      (record { free = free; row = is; descriptor = there.descriptor; some = there.some; multi = there.multi; placed = λ other. there.own }) in
      inl (record {
        address = a;
        paid = 0;
        rest = ps;
        are = refl;
        of = there.of;
        owned = there.owned;
        held = at_high begins.held;
        at = itd_at a (c.control.frame.index % 8) v;
        active = ap (is_active there.of.placement) (same_frame c.control.frame.index) ∙ there.active;
      })

  itd_fetched : (a : ℕ) (v : Itd) → c.control.part ≡ Periodic → c.control.frame.hand ≡ None → chain_row c.memory c.control.frame.cursor ≡ chains.Itd a v
      → n.control.frame ≡ chain_walk (chains.Itd a v) c.control.frame → Paid n.control ((a, 0) ∷ ps)
  itd_fetched a v periodic free is walk =
      let same : n.control.frame.index ≡ c.control.frame.index = ap (λ (w : FrameWalk). w.index) walk in
      let hand_is : n.control.frame.hand ≡ Some (hands.Itd (itd_copy (frame_place c) a v)) = ap (λ (w : FrameWalk). w.hand) walk in
      record {
        entries = (inl refl, subst (λ (i : ℕ). Entries i ps) (sym same) k.entries);
        hand = λ on.
            subst (λ (o : Option Hand). ArePaidByHand b d c.registers.frame_index n.control.frame.index o ((a, 0) ∷ ps)) (sym hand_is)
            (subst (λ (i : ℕ). ArePaidByHand b d c.registers.frame_index i (Some (hands.Itd (itd_copy (frame_place c) a v))) ((a, 0) ∷ ps)) (sym same)
            (itd_by a v (slot_of (c.control.frame.index % 8) v).active refl periodic free is));
      }

  -- a siTD is
  abbrev BySitd : ℕ → Sitd → Type 0
  BySitd a v = ArePaidByHand b d c.registers.frame_index c.control.frame.index
      (Some (hands.Sitd (record { at = a; sitd = v; settled = None }))) ((a, 0) ∷ ps)

  sitd_by : (a : ℕ) (v : Sitd) (active : Bool) → v.active ≡ active → c.control.part ≡ Periodic → c.control.frame.hand ≡ None
      → chain_row c.memory c.control.frame.cursor ≡ chains.Sitd a v → BySitd a v
  sitd_by a v false off periodic free is = inr (record { idle = (refl, off); address = a; rest = ps; are = refl })
  sitd_by a v true on periodic free is =
      let there : IsSitdThere b d c a v = reads.sitds a v periodic free is on in
      inl (record {
        address = a;
        paid = 0;
        rest = ps;
        are = refl;
        of = there.of;
        owned = there.owned;
        held = at_sitd (record { at = a; sitd = v; settled = None }) refl
            (record { descriptor = there.descriptor; parts = there.parts; none = λ made. refl; one = omega arith });
        at = refl;
        active = ap (is_active there.of.placement) (same_frame c.control.frame.index) ∙ there.active;
      })

  sitd_fetched : (a : ℕ) (v : Sitd) → c.control.part ≡ Periodic → c.control.frame.hand ≡ None
      → chain_row c.memory c.control.frame.cursor ≡ chains.Sitd a v
      → n.control.frame ≡ chain_walk (chains.Sitd a v) c.control.frame → Paid n.control ((a, 0) ∷ ps)
  sitd_fetched a v periodic free is walk =
      let same : n.control.frame.index ≡ c.control.frame.index = ap (λ (w : FrameWalk). w.index) walk in
      let hand_is : n.control.frame.hand ≡ Some (hands.Sitd (record { at = a; sitd = v; settled = None })) =
      ap (λ (w : FrameWalk). w.hand) walk in
      record {
        entries = (inl refl, subst (λ (i : ℕ). Entries i ps) (sym same) k.entries);
        hand = λ on.
            subst (λ (o : Option Hand). ArePaidByHand b d c.registers.frame_index n.control.frame.index o ((a, 0) ∷ ps)) (sym hand_is)
            (subst (λ (i : ℕ). ArePaidByHand b d c.registers.frame_index i
            (Some (hands.Sitd (record { at = a; sitd = v; settled = None }))) ((a, 0) ∷ ps)) (sym same)
            (sitd_by a v v.active refl periodic free is));
      }

  by_chain : (r : ChainRow) → chain_row c.memory c.control.frame.cursor ≡ r → c.control.part ≡ Periodic → c.control.frame.hand ≡ None → n.control.frame ≡ chain_walk r c.control.frame
      → n.control.part ≡ part_after Periodic (chain_step r)
      → AllByRecursion (InFrame d n.control.frame.index) (visits_at None r (names_in ps)) → Paid n.control (begun_too (fetched_by r) ps)
  by_chain (chains.Queue a q) is periodic free walk part in_frames = fetched a q periodic free is walk in_frames.0
  by_chain (chains.Itd a v) is periodic free walk part in_frames = itd_fetched a v periodic free is walk
  by_chain (chains.Sitd a v) is periodic free walk part in_frames = sitd_fetched a v periodic free is walk
  by_chain _ is periodic free walk part in_frames =
      over n.control (λ on. over_not_periodic (sym part ∙ on)) (ap (λ (w : FrameWalk). w.index) walk)

  -- ---- an event with a copy in hand

  -- a qTD that is taken is of its endpoint's way
  its_kind : (x : Placed) (u paid : ℕ) (h : HeldQueue) → IsPaidFor x u (hands.Queue h) paid → x.want.kind ≡ Interrupt
  its_kind x u paid h (at_high held) = held.of.head.kind
  its_kind x u paid h (at_split g same held) = held.head.kind
  its_kind x u paid h (at_sitd g same held) = cc

  no_iso : (x : Placed) (v : Placed) → v ≡ x → v.want.kind ≡ Iso → x.want.kind ≡ Interrupt → ⊥
  no_iso x v same iso kind = let e : Interrupt ≡ Iso = sym kind ∙ ap (λ (z : Placed). z.want.kind) (sym same) ∙ iso in cc

  takes_way : (x : Placed) (f a paid : ℕ) (hand : Hand) → IsOwnedBy b d c.registers.frame_index f a x → hand_address hand ≡ a
      → IsPaidFor x c.control.frame.index hand paid
      → c.control.part ≡ Periodic → c.control.frame.hand ≡ Some hand → TakesWay x (frame_place c) hand
  takes_way x f a paid (hands.Queue h) (by_queue q is) at held periodic in_hand =
      reads.takes h x.want.dir
      (subst (λ (n : ℕ). GoesBy d n x.want.dir) (sym at) (record { at = q; way = ap (λ (z : Placed). z.want.dir) is })) periodic in_hand
  takes_way x f a paid (hands.Queue h) (by_descriptor e i is active) at held periodic in_hand =
      absurd (no_iso x _ is i.kind (its_kind x c.control.frame.index paid h held))
  takes_way x f a paid (hands.Itd h) owned at held periodic in_hand = tt
  takes_way x f a paid (hands.Sitd h) owned at held periodic in_hand = tt

  then_paid : (x : Placed) (hand : Hand) (paid more : ℕ) (o : Option Hand)
      → is_active x.placement (microframe_in c.control.frame.index / 8) ≡ true
      → IsPaidFor x c.control.frame.index hand paid → IsPaidStill x c.control.frame.index hand (paid + more) o → (o ≡ None → more ≡ 0)
      → IsPaidIn (microframe_in c.control.frame.index) (record { of = x; paid = paid + more })
  then_paid x hand paid more None active was kept ends =
      let same : paid ≡ paid + more = omega (arith, ends refl) in
      paid_in x c.control.frame.index hand (paid + more) (subst (IsPaidFor x c.control.frame.index hand) same was) active
  then_paid x hand paid more (Some next) active was kept ends = paid_in x c.control.frame.index next (paid + more) kept.0 active

  then_held : (h : Hand) (o : IsHandPaid b d c.registers.frame_index c.control.frame.index h ps) (more : ℕ) (to : Option Hand)
      → IsPaidStill o.of c.control.frame.index h (o.paid + more) to
      → ArePaidByHand b d c.registers.frame_index c.control.frame.index to ((o.address, o.paid + more) ∷ o.rest)
  then_held h o plus None kept = tt
  then_held h o plus (Some next) kept =
      inl (record {
        address = o.address;
        paid = o.paid + plus;
        rest = o.rest;
        are = refl;
        of = o.of;
        owned = o.owned;
        held = kept.0;
        at = kept.1 ∙ o.at;
        active = o.active;
      })

  charged : (hand : Hand) → c.control.frame.hand ≡ Some hand → c.control.part ≡ Periodic → HasEffect transacts (effect_of (frame_place c)) wire (frame_place n) after_wire
      → IsHandPaid b d c.registers.frame_index c.control.frame.index hand ps
      → Paid n.control (paid_more (added (hc_step (frame_step c)) hand) ps)
  charged hand held periodic made o =
      let more : ℕ = added (hc_step (frame_step c)) hand in
      let g : GoesOnPaid o.of c.control.frame.index hand o.paid (added (hc_step (frame_step c)) hand) (frame_place n) =
      goes_on_paid transacts o.of (frame_place c) (frame_place n) wire after_wire hand o.paid held
      (takes_way o.of (frame_in c.control.frame.index) o.address o.paid hand o.owned o.at o.held periodic held) made o.held in
      let rest : Entries c.control.frame.index o.rest = (subst (λ (xs : List (ℕ × ℕ)). Entries c.control.frame.index xs) o.are k.entries).1 in
      let one : IsPaidIn (microframe_in c.control.frame.index) (record { of = o.of; paid = o.paid + added (hc_step (frame_step c)) hand })
      = then_paid o.of hand o.paid (added (hc_step (frame_step c)) hand) n.control.frame.hand o.active o.held g.held g.ends in
      subst (λ (xs : List (ℕ × ℕ)). Paid n.control (paid_more (added (hc_step (frame_step c)) hand) xs)) (sym o.are)
      (record {
        entries =
            subst (λ (i : ℕ). Entries i ((o.address, o.paid + added (hc_step (frame_step c)) hand) ∷ o.rest)) (sym g.index)
            (inr (record { of = o.of; owned = o.owned; within = one }), rest);
        hand = λ on.
            subst (λ (i : ℕ). ArePaidByHand b d c.registers.frame_index i n.control.frame.hand
            ((o.address, o.paid + added (hc_step (frame_step c)) hand) ∷ o.rest)) (sym g.index)
            (then_held hand o (added (hc_step (frame_step c)) hand) n.control.frame.hand g.held);
      })

  -- nothing is paid where nothing is active
  passed_by : (hand : Hand) → c.control.frame.hand ≡ Some hand → HasEffect transacts (effect_of (frame_place c)) wire (frame_place n) after_wire
      → IsPassing hand ps → Paid n.control (paid_more (c.control.frame.left - n.control.frame.left) ps)
  passed_by hand held made o =
      let at_copy : HasEffect transacts (effect_at (frame_place c) (Some hand)) wire (frame_place n) after_wire
      = subst (λ (h : Option Hand). HasEffect transacts (effect_at (frame_place c) h) wire (frame_place n) after_wire) held made in
      let at_skip : HasEffect transacts (Leaves (passing (link_of_hand hand) (frame_place c))) wire (frame_place n) after_wire
      = subst (λ (e : Effect). HasEffect transacts e wire (frame_place n) after_wire) (idle_passes (frame_place c) hand o.idle) at_copy in
      let is : frame_place n ≡ passing (link_of_hand hand) (frame_place c) = at_skip.0 in
      let same : n.control.frame.index ≡ c.control.frame.index = ap (λ (p : FramePlace). p.walk.index) is in
      let left : n.control.frame.left ≡ c.control.frame.left = ap (λ (p : FramePlace). p.walk.left) is in
      let none : n.control.frame.hand ≡ None = ap (λ (p : FramePlace). p.walk.hand) is in
      let rest : Entries c.control.frame.index o.rest = (subst (λ (xs : List (ℕ × ℕ)). Entries c.control.frame.index xs) o.are k.entries).1 in
      let cost : 0 + (c.control.frame.left - n.control.frame.left) ≡ 0 = omega (arith, left) in
      subst (λ (xs : List (ℕ × ℕ)). Paid n.control (paid_more (c.control.frame.left - n.control.frame.left) xs)) (sym o.are)
      (record {
        entries = (inl cost, subst (λ (i : ℕ). Entries i o.rest) (sym same) rest);
        hand = λ on.
            subst (λ (h : Option Hand). ArePaidByHand b d c.registers.frame_index n.control.frame.index h ((o.address, 0 + (c.control.frame.left - n.control.frame.left)) ∷ o.rest)) (sym none) tt;
      })

  -- what was paid by then is told so
  abbrev Counted : Hand → List (ℕ × ℕ)
  Counted hand = payments_at (Some hand) (chain_row c.memory c.control.frame.cursor) (hc_step (frame_step c)) ps

  none_more : (xs : List (ℕ × ℕ)) → paid_more 0 xs ≡ xs
  none_more [] = refl
  none_more (x ∷ xs) = let e : x.1 + 0 ≡ x.1 = omega arith in ap (λ (i : ℕ). (x.0, i) ∷ xs) e

  or_again : (again : Bool) (cost : ℕ) → paid_more (if again then 0 else cost) ps ≡ (if again then ps else paid_more cost ps)
  or_again true cost = none_more ps
  or_again false cost = refl

  passed_cost : (hand : Hand) → c.control.frame.hand ≡ Some hand
      → HasEffect transacts (effect_of (frame_place c)) wire (frame_place n) after_wire → is_again hand ≡ false
      → c.control.frame.left - n.control.frame.left ≡ added (hc_step (frame_step c)) hand
  passed_cost hand held made once =
      leads_cost transacts (frame_place c) (frame_place n) wire after_wire hand held made
      ∙ sym (ap (λ (b : Bool). if b then 0 else cost_of (hc_step (frame_step c)) hand) once)

  with_hand : (hand : Hand) → c.control.frame.hand ≡ Some hand → c.control.part ≡ Periodic → HasEffect transacts (effect_of (frame_place c)) wire (frame_place n) after_wire
      → Paid n.control (Counted hand)
  with_hand hand held periodic made =
      subst (Paid n.control) (or_again (is_again hand) (cost_of (hc_step (frame_step c)) hand))
      (⊎_elim {C = Paid n.control (paid_more (added (hc_step (frame_step c)) hand) ps)} (charged hand held periodic made)
      (λ (o : IsPassing hand ps).
      subst (λ (i : ℕ). Paid n.control (paid_more i ps)) (passed_cost hand held made (idle_once hand o.idle)) (passed_by hand held made o))
      (subst (λ (h : Option Hand). ArePaidByHand b d c.registers.frame_index c.control.frame.index h ps) held (k.hand periodic)))

  by_hand : (o : Option Hand) → c.control.frame.hand ≡ o → c.control.part ≡ Periodic → n.control.part ≡ part_after Periodic (step_at (frame_place c) o)
      → HasEffect transacts (effect_at (frame_place c) o) wire (frame_place n) after_wire → HasEffect transacts (effect_of (frame_place c)) wire (frame_place n) after_wire
      → AllByRecursion (InFrame d n.control.frame.index) (visits_at o (chain_row c.memory c.control.frame.cursor) (names_in ps))
      → Paid n.control (payments_at o (chain_row c.memory c.control.frame.cursor) (hc_step (frame_step c)) ps)
  by_hand None free periodic part made here in_frames =
      by_chain (chain_row c.memory c.control.frame.cursor) refl periodic free (ap (λ (p : FramePlace). p.walk) made.0) part in_frames
  by_hand (Some hand) held periodic part made here in_frames = with_hand hand held periodic here

  -- ---- a microframe begins

  begun : (reached allowed : Bool) → c.control.part ≡ Over → ArePaid old d n.registers.frame_index (begun_at reached allowed (record c { registers = after_begin c.registers })).control []
  begun true allowed is_over = record { entries = tt; hand = λ on. tt }
  begun false allowed is_over = record { entries = tt; hand = λ on. absurd (over_not_periodic (sym is_over ∙ on)) }

  -- ---- each row

  walked : (from : Content) → from.control.frame.index ≡ c.control.frame.index → Walks transacts from wire n after_wire → Paid n.control ps
  walked from same row = over n.control (λ on. async_no (walk_step from) (sym row.part ∙ on)) (ap (λ (x : FrameWalk). x.index) row.frame ∙ same)

  at_index : (xs : List (ℕ × ℕ)) → n.registers.frame_index ≡ c.registers.frame_index → Paid n.control xs → ArePaid b d n.registers.frame_index n.control xs
  at_index xs same paid = subst (λ (i : ℕ). ArePaid b d i n.control xs) (sym same) paid

  pub paid_next : (r : ControllerRow) → (r ≡ rows.Begin → c.control.part ≡ Over) → (r ≡ rows.Frame → c.control.part ≡ Periodic)
      → AllByRecursion (InFrame d n.control.frame.index) (visits_after r c (names_in ps)) → HasRow begins_with transacts r c wire n after_wire
      → ArePaid (began_at r old b) d n.registers.frame_index n.control (payments_after r (kind_of r c) c ps)
  paid_next rows.Idle begins_over frame_there in_frames row = subst (λ (x : Content). ArePaid b d x.registers.frame_index x.control ps) (sym row.0) k
  paid_next rows.Begin begins_over frame_there in_frames row =
      subst (λ (x : Content). ArePaid old d n.registers.frame_index x.control []) (sym row.contents)
      (begun (reaches c.memory (element_address (after_begin c.registers))) row.allowed (begins_over refl))
  paid_next rows.Frame begins_over frame_there in_frames row =
      at_index _ (frame_index transacts (frame_place c) wire (frame_place n) after_wire row.walked) (by_hand c.control.frame.hand refl (frame_there refl) row.part row.walked row.walked in_frames)
  paid_next rows.Enter begins_over frame_there in_frames row =
      at_index ps (ring_index transacts (walk_place (entered c)) wire (walk_place n) after_wire row.walked) (walked (entered c) refl row)
  paid_next rows.Go begins_over frame_there in_frames row = at_index ps (ring_index transacts (walk_place c) wire (walk_place n) after_wire row.walked) (walked c refl row)
  paid_next rows.End begins_over frame_there in_frames row =
      at_index ps (ap (λ (x : Content). x.registers.frame_index) row.0) (subst (λ (x : Content). Paid x.control ps) (sym row.0) (over (ended c.control) over_not_periodic refl))
