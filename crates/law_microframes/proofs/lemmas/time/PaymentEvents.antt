-- Each event of the controller and of the driver, and each command, leaves what was paid no more than the placements of the endpoints that were visited (USB 2.0, 5.9 and 5.11.3; EHCI 1.0,
-- 3.3, 4.6, 4.7, 4.10 and 4.12): no such endpoint is given back in the microframe.
use Rattle.std.proofs.Common.{◌≡◌, ◌≢◌, ℕ, List, [], ◌∷◌, Option, Some, None, Result, Ok, Err, ap, refl, sym, subst, ◌∙◌, inl, inr, ⊎_elim}
use Rattle.std.specs.List.{AllByRecursion}
use Rattle.law_common.proofs.Lists.{all_more}
use Rattle.law_world.proofs.Common.{begins_over}
use Rattle.usb_base.specs.declared.endpoints.EpName.{EpName}
use Rattle.usb_base.specs.declared.reports.OfferError.{OfferError}
use Rattle.bandwidth.specs.declared.placements.Placed.{Placed}
use Rattle.periodic_walk.specs.declared.state.Hand.{Hand}
use Rattle.drv_periodic_table.specs.declared.content.Removed.TheVariants as removed
use Rattle.hc_core.specs.Controller.{Control}
use Rattle.drv_table.specs.declared.rows.DriverRow.TheVariants as rows
use Rattle.drv_table.specs.DriverContent.{DriverContent}
use Rattle.drv_table.specs.Accepting.{Offered}
use Rattle.drv_table.specs.Offers.{offered}
use Rattle.drv_table.specs.Rows.{driver_row}
use Rattle.law_driver.proofs.lemmas.planned_endpoints.Laws.{events_keep_the_plan}
use Rattle.law_frames.specs.Met.{Kind}
use Rattle.law_descriptors.specs.Meeting.{met}
use Rattle.law_descriptors.specs.Recent.{AreRecent}
use Rattle.law_descriptors.proofs.GivenRow.{row_gives_back_passed}
use Rattle.law_descriptors.proofs.Returning.{none_some}
use Rattle.law_world.proofs.lemmas.memory.lemmas.framed_memory.LeavingUnmet.{interrupt_is_unmet}
use Rattle.bus_world.specs.World.{World, driver_parts, driver_next, controller_parts, controller_row, controller_next, name_in, commanded, commanded_by}
use Rattle.law_world.specs.steps.Streaming.{begins_by, transacts_by, wired}
use Rattle.law_world.proofs.lemmas.steps.StreamTurning.{world_has_row}
use Rattle.law_world.specs.memory.Mixed.{Standing, IsMixedAt}
use Rattle.claims_world.specs.Visits.{frame_in}
use Rattle.law_microframes.specs.visits.Visited.{WasVisited}
use Rattle.law_microframes.specs.visits.Belonging.{placed_of, IsQueueAt, IsStillAt}
use Rattle.law_microframes.specs.time.Payments.{names_in}
use Rattle.law_microframes.specs.time.PaymentLaws.{IsOfIsochronous, IsOwnedBy, by_queue, by_descriptor, IsPaidAt, IsPayment, IsHandPaid, IsPassing, ArePaidByHand, ArePaid, ControllerKeepsPaying, DriverKeepsPaying, CommandKeepsPaying}
use Rattle.law_microframes.proofs.lemmas.visits.BelongSeen.{row_seen}
use Rattle.law_microframes.proofs.lemmas.visits.BelongPlan.{row_more}
use Rattle.law_microframes.proofs.lemmas.visits.BelongKeeps.{not_iso, stays_in, queue_stays}
use Rattle.law_microframes.proofs.lemmas.visits.BelongCommands.{command_keeps_placed}
use Rattle.law_microframes.proofs.lemmas.visits.VisitControlling.{frame_periodic}
use Rattle.law_microframes.proofs.lemmas.visits.ReasonParts.{answered_control}
use Rattle.law_microframes.proofs.lemmas.time.PaymentIsochronous.{StaysOf, driver_index, driver_iso, command_iso}
use Rattle.law_microframes.proofs.lemmas.time.PaymentWalking.{paid_next}
use Rattle.law_microframes.proofs.lemmas.time.PaymentReading.{reads_structures}

-- ---- the controller

pub controller_keeps_paying : ControllerKeepsPaying
controller_keeps_paying fixed b w ps g in_frames =
    paid_next begins_by transacts_by w b w.driver (controller_parts w) (wired fixed w) (controller_parts (controller_next fixed w)) (wired fixed (controller_next fixed w)) ps
    (reads_structures b w (names_in ps) g.visiting g.heads g.itds g.sitds g.served g.periodics g.allowed g.reads g.within) g.paid
    (controller_row w)
    (λ is. begins_over w.registers.run w.registers w.control.frame w.control.part is)
    (λ is. frame_periodic w.registers.run w.registers w.control.frame w.control.part is) in_frames (world_has_row fixed w)

-- ---- whoever owned them owns them still

module _ (b : World) (d later : DriverContent) (now : ℕ) (isos : (e : ℕ) (i : IsOfIsochronous d now e) → StaysOf i later now) where
  abbrev StaysAt : ℕ → Type 0
  StaysAt a = (q : IsQueueAt d a) → IsStillAt q later

  owned_still : (f a : ℕ) (x : Placed) → StaysAt a → IsOwnedBy b d now f a x → IsOwnedBy b later now f a x
  owned_still f a x stays (by_queue q is) = let still = stays q in by_queue still.still (still.placed ∙ is)
  owned_still f a x stays (by_descriptor e i is active) = let s = isos e i in by_descriptor e s.still (s.same ∙ is) active

  entry_still : (index : ℕ) (entry : ℕ × ℕ) → StaysAt entry.0 → IsPayment b d now index entry → IsPayment b later now index entry
  entry_still index entry stays =
      ⊎_elim (λ (none : entry.1 ≡ 0). inl none)
      (λ (p : IsPaidAt b d now index entry.0 entry.1). inr (record { of = p.of; owned = owned_still (frame_in index) entry.0 p.of stays p.owned; within = p.within }))

  entries_still : (index : ℕ) (ps : List (ℕ × ℕ)) → AllByRecursion StaysAt (names_in ps) → AllByRecursion (IsPayment b d now index) ps → AllByRecursion (IsPayment b later now index) ps
  entries_still index [] stay all = tt
  entries_still index (x ∷ ps) stay all = (entry_still index x stay.0 all.0, entries_still index ps stay.1 all.1)

  hand_still : (index : ℕ) (ps : List (ℕ × ℕ)) (o : Option Hand) → AllByRecursion StaysAt (names_in ps) → ArePaidByHand b d now index o ps → ArePaidByHand b later now index o ps
  hand_still index ps None stay k = tt
  hand_still index ps (Some hand) stay paid =
      ⊎_elim {C = ArePaidByHand b later now index (Some hand) ps}
      (λ (k : IsHandPaid b d now index hand ps).
      let first = (subst (λ (xs : List (ℕ × ℕ)). AllByRecursion StaysAt (names_in xs)) k.are stay).0 in
      inl (record {
        address = k.address;
        paid = k.paid;
        rest = k.rest;
        are = k.are;
        of = k.of;
        owned =
            owned_still (frame_in index) k.address k.of first k.owned;
        held = k.held;
        at = k.at;
        active = k.active;
      }))
      (λ (k : IsPassing hand ps). inr k) paid

  paid_still : (c : Control) (ps : List (ℕ × ℕ)) → AllByRecursion StaysAt (names_in ps) → ArePaid b d now c ps → ArePaid b later now c ps
  paid_still c ps stay k = record {
    entries = entries_still c.frame.index ps stay k.entries;
    hand = λ on. hand_still c.frame.index ps c.frame.hand stay (k.hand on);
  }

every_name : (Q : ℕ → Type 0) → ((a : ℕ) → Q a) → (vs : List ℕ) → AllByRecursion Q vs
every_name Q leads [] = tt
every_name Q leads (v ∷ vs) = (leads v, every_name Q leads vs)

-- ---- the driver

module _ (s : Standing) (w : World) (k : IsMixedAt s w) (left : ℕ → Option Kind) (are : AreRecent w.driver w.registers.frame_index left) where
  not_given : (a : ℕ) (kind : Kind) → met w.driver left a ≡ Some kind → (q : IsQueueAt w.driver a) → driver_row (driver_parts w) ≢ rows.ReleaseRemoved (removed.Endpoint q.belongs.number)
  not_given a kind is q row =
      let sound = k.now.framed.place.sound in
      none_some kind
      (sym (interrupt_is_unmet (driver_parts w) left w.registers.frame_index q.belongs.number q.belongs.endpoint sound.owners sound.listed
      are
      (row_gives_back_passed (driver_parts w) (removed.Endpoint q.belongs.number) row) q.belongs.here (not_iso q.kind))
      ∙ ap (met w.driver left) (sym q.name) ∙ is)

  visited_stays : (a : ℕ) (kind : Kind) → met w.driver left a ≡ Some kind → (q : IsQueueAt w.driver a) → IsStillAt q (driver_next w).driver
  visited_stays a kind is q =
      let parts = driver_parts w in
      queue_stays w.driver (driver_next w).driver a q
      (stays_in w.driver (driver_next w).driver a q.belongs (events_keep_the_plan parts k.now.framed.place.sound.owners k.now.planned) (row_seen q.belongs.number (driver_row parts) parts)
      (row_more (driver_row parts) parts (placed_of q.belongs) (not_given a kind is q) q.belongs.planned))

pub driver_keeps_paying : DriverKeepsPaying
driver_keeps_paying b w ps g =
    let v = g.visiting.visits in
    subst (λ (i : ℕ). ArePaid b (driver_next w).driver i w.control ps) (sym (driver_index w))
    (paid_still b w.driver (driver_next w).driver w.registers.frame_index (driver_iso w) w.control ps
    (all_more (WasVisited w.driver v.left v.who (frame_in w.control.frame.index)) (λ (a : ℕ). (q : IsQueueAt w.driver a) → IsStillAt q (driver_next w).driver) (names_in ps)
    (λ a was q. visited_stays g.visiting.mixed.standing w g.visiting.mixed.mixed v.left v.left_are a was.kind was.is_met q) v.behind.were) g.paid)

-- ---- a command

index_by_offer : (w : World) (line : ℕ) (name : EpName) (r : Result Offered OfferError) → (commanded_by w line name r).registers.frame_index ≡ w.registers.frame_index
index_by_offer w line name (Ok o) = refl
index_by_offer w line name (Err why) = refl

pub command_keeps_paying : CommandKeepsPaying
command_keeps_paying b w line cmd ps g =
    let later = (commanded w line cmd).driver in
    subst (λ (i : ℕ). ArePaid b later i (commanded w line cmd).control ps) (sym (index_by_offer w line (name_in cmd) (offered w.driver w.memory cmd)))
    (subst (λ (c : Control). ArePaid b later w.registers.frame_index c ps) (sym (answered_control w line (name_in cmd) (offered w.driver w.memory cmd)))
    (paid_still b w.driver later w.registers.frame_index (command_iso w line cmd) w.control ps
    (every_name (λ (a : ℕ). (q : IsQueueAt w.driver a) → IsStillAt q later)
    (λ a q. queue_stays w.driver later a q (command_keeps_placed w line cmd a g.visiting.mixed q.belongs)) (names_in ps)) g.paid))
