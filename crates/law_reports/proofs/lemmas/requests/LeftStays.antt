-- Each event of the driver and of the controller leaves what is told of the requests that wait in the queue of an endpoint that left the
-- ring.
use Rattle.std.proofs.Common.{◌≡◌, ◌≢◌, ℕ, ◌*◌, true, false, List, slice_get, Some, ap, sym, subst, ◌∙◌, ⊎_elim}
use Rattle.std.proofs.lemmas.Bool.{true≢false}
use Rattle.std.proofs.lemmas.Option.{same_Some}
use Rattle.law_common.proofs.Numbers.{other_number, same_blocks}
use Rattle.law_controller.proofs.Common.{same_hand}
use Rattle.law_reports.proofs.Common.{queue_open}
use Rattle.bus_wire.specs.Bus.{Fixed}
use Rattle.bus_world.specs.World.{World, driver_parts, driver_next}
use Rattle.claims_driver.specs.Owners.{Element as PieceOf}
use Rattle.drv_table.specs.declared.content.Endpoint.{Endpoint}
use Rattle.drv_table.specs.declared.content.Transfer.{Transfer}
use Rattle.drv_table.specs.DriverContent.{DriverContent}
use Rattle.drv_table.specs.Harvests.{note_at}
use Rattle.drv_table.specs.Words.{head_block, dummy_qtd, to_queue_head}
use Rattle.mem_runs.specs.Book.{slot_of}
use Rattle.law_controller.proofs.lemmas.controlled_streams.Returning.{spares_head}
use Rattle.law_controller.specs.controlled_streams.Returned.{staying_of}
use Rattle.law_driver.specs.endpoint_lives.Lives.{may_meet}
use Rattle.law_driver.specs.queued_drivers.Queued.{queued}
use Rattle.law_driver_ring.proofs.Blocks.{mine}
use Rattle.law_driver_ring.specs.Released.{goes_of}
use Rattle.law_driver_ring.specs.told_harvests.Held.{IsOneFrom}
use Rattle.law_frames.specs.FrameHand.{FrameHand}
use Rattle.law_controller.specs.frame_control.Joined.{joined, begun, moved}
use Rattle.law_descriptors.specs.Both.{parts_now}
use Rattle.law_driver_ring.specs.fed_queues.Places.{HasHead}
use Rattle.law_microframes.proofs.lemmas.visits.AskedHeads.{asked_is_near}
use Rattle.law_ring.specs.Streams.{same as still_told, aside, grows}
use Rattle.law_queues.proofs.lemmas.harvest_laws.Places.{owner_is}
use Rattle.law_queues.proofs.lemmas.mended_heads.Row.{mend_spares_heads, mend_spares_elements, mend_spares_hand}
use Rattle.law_queues.proofs.lemmas.publish_laws.Apart.{queue_placed, queues_same}
use Rattle.law_queues.proofs.lemmas.released_queues.StayingQueues.{pieces_of, goes_off}
use Rattle.law_queues.specs.mended_heads.Mended.{parts_then as parts_mended, hand_then}
use Rattle.law_queues.specs.open_laws.Queues.{IsOpenToLend, parts_opened}
use Rattle.law_queues.specs.lent_fronts.Stands.{parts_with}
use Rattle.law_queues.specs.publish_laws.Stores.{parts_then, out_then, next_of as queue_next}
use Rattle.law_queues.specs.released_queues.Released.{IsReturning}
use Rattle.law_driver_ring.specs.fed_queues.Fed.{IsPublished}
use Rattle.law_driver_ring.specs.Published.{partly}
use Rattle.law_ring.specs.Fewer.{without_those}
use Rattle.law_ring.specs.Hand.{Hand}
use Rattle.law_ring.specs.Sparing.{SameHand, SparesHead, SparesElement}
use Rattle.law_ring.specs.Told.{Told}
use Rattle.law_ring.proofs.SparedSparing.{spared_is_told}
use Rattle.law_structures.specs.lent_structures.Structures.{QueueHead, Element, StructureSets, put}
use Rattle.law_structures.proofs.lemmas.lent_structures.Names.{put_beside}
use Rattle.law_world.specs.memory.Mixed.{Standing, IsMixedAt}
use Rattle.law_world.specs.memory.SameQueues.{IsSameQueue}
use Rattle.law_world.specs.memory.Steps.{told_parts, IsNextStore, IsWithout}
use Rattle.law_world.specs.memory.Steps.{QueueStep, stays, harvests, returns, lends, stores, mends, begins, opens, unlinks, narrows, goes}
use Rattle.law_world.specs.memory.Steps.{IsMixedControlled}
use Rattle.law_world.specs.steps.unlinked_streams.Unlinks.{parts_unlinked, hand_unlinked}
use Rattle.law_world.proofs.lemmas.memory.HarvestKept.{owners_of}
use Rattle.law_world.proofs.lemmas.memory.PublishStores.{published_by, met_now}
use Rattle.law_world.proofs.lemmas.steps.lemmas.endpoint_releases.Owning.{queue_beside}
use Rattle.law_world.proofs.lemmas.steps.lemmas.left_queues.Unmet.{off_head_by}
use Rattle.law_world.proofs.lemmas.steps.lemmas.unlinked_streams.Streams.{unlink_spares_hand}
use Rattle.law_reports.specs.lines.Lined.{in_hand, Lines, IsTelling}
use Rattle.law_reports.specs.lines.TellingLaws.{EventOfQueues}
use Rattle.law_reports.proofs.lemmas.lines.Same.{ring_hand, hands_tell, same_at, relinked_head, relinked_element, relinked_put}
use Rattle.law_reports.proofs.lemmas.lines.ToldReturns.{told_all, leaves, spares_at}
use Rattle.law_reports.proofs.lemmas.lines.ToldStores.{storing, one_endpoint}
use Rattle.law_reports.specs.requests.LeftStays.{StaysTold, HasLeft, IsWaiting, IsBeside, StepLeavesTold, EventLeavesTold}

spared : (s t : Standing) (n a : ℕ) → SameHand (in_hand s) (in_hand t) → SparesHead s.parts t.parts n → SparesElement s.parts t.parts n a
    → StaysTold s t n a
spared s t n a hands head element xs told =
    spared_is_told (in_hand s) (in_hand t) s.parts t.parts n a xs hands head element told

relinked : (s t : Standing) (n a : ℕ) → SameHand (in_hand s) (in_hand t) → IsSameQueue n (s.parts n) (t.parts n) → StaysTold s t n a
relinked s t n a hands same =
    spared s t n a hands (relinked_head s.parts t.parts n same) (relinked_element s.parts t.parts n same a)

module _ (s : Standing) (m : Lines) (w : World) (k : IsMixedAt s w) (g : IsTelling s m w) (e u b : ℕ) (x : Endpoint) (y : Transfer)
    (left : HasLeft (queued w.driver) e x) (waits : IsWaiting (queued w.driver) e u y)
    (one : IsOneFrom (note_at w.driver.notes) y.first y.qtds b) where
  abbrev d : DriverContent
  d = queued w.driver

  abbrev n : ℕ
  n = 32 * x.queue

  abbrev Stays : Standing → Type 0
  Stays t = StaysTold s t (32 * x.queue) (32 * b)

  -- one that a walk may meet has another queue head
  met_apart : (i : ℕ) (z : Endpoint) → slice_get (queued w.driver).endpoints i ≡ Some z → z.gone ≡ false
      → may_meet (queued w.driver) i z ≡ true → 32 * x.queue ≢ 32 * z.queue
  met_apart i z at kept near same =
      let own : e ≡ i =
      queues_same x.queue z.queue e i (same_blocks x.queue z.queue same)
      (queue_placed d (owners_of s w k) e x left.here (k.turns.turns.asynchronous.endpoints e x left.here) left.there.kept)
      (queue_placed d (owners_of s w k) i z at (k.turns.turns.asynchronous.endpoints i z at) kept) in
      let is : x ≡ z = same_Some x z (sym left.here ∙ ap (slice_get (queued w.driver).endpoints) own ∙ at) in
      true≢false (sym near ∙ ap (λ (j : ℕ). may_meet (queued w.driver) j z) (sym own)
      ∙ ap (may_meet (queued w.driver) e) (sym is) ∙ left.unmet)

  -- ---- a transfer that was reported is given back

  module _ (t : ℕ) (v : Transfer) (z : Endpoint) (r : IsReturning (queued w.driver) t v z) where
    differs : u ≡ t → ⊥
    differs same =
        let is : y ≡ v = same_Some y v (sym waits.here ∙ ap (slice_get (queued w.driver).transfers) same ∙ r.here) in
        true≢false (sym r.reported ∙ ap (λ (q : Transfer). q.reported) (sym is) ∙ waits.reported)

    not_given : goes_of w.driver v (32 * b) ≡ false
    not_given =
        let all = told_all s m w (driver_next w) k g t v z r in
        let owned : all.owners.owner b ≡ PieceOf u =
        owner_is (slot_of w.driver.book.slots) all.owners.owner w.driver.notes u y.first y.qtds b
        (pieces_of s.parts (told_parts w) s.order s.out t v z all r u y waits.here waits.released) one in
        goes_off s.parts (told_parts w) s.order s.out t v z all r b (ap (mine t) owned ∙ other_number u t differs)

    given_back : (out : ℕ → List ℕ)
        → Stays (record s { parts = without_those s.parts (32 * z.queue) (goes_of w.driver v); out = out })
    given_back out =
        spared s (record s { parts = without_those s.parts (32 * z.queue) (goes_of w.driver v); out = out }) n (32 * b)
        (same_hand (in_hand s))
        (spares_head s.parts (32 * z.queue) (goes_of w.driver v) (leaves s m w (driver_next w) k g t v z r).head n)
        (spares_at s m w (driver_next w) k g t v z r n (32 * b) not_given)

  -- ---- a word of a first qTD is stored

  store_beside : (c : ℕ) (words : List ℕ) (p : IsPublished (queued w.driver) s.parts c words)
      → IsNextStore s w (driver_next w) c words p → parts_then p (32 * x.queue) ≡ s.parts (32 * x.queue)
  store_beside c words p next =
      let k_store = storing s m w (driver_next w) k g c words p next in
      let own = published_by k_store in
      let near = met_now (told_parts w) s.near s.streams s.ends s.parts s.order s.out c words k_store in
      put_beside s.parts (32 * p.endpoint.queue) (32 * c) (Element (partly p.qtd (queued w.driver).made)) (32 * x.queue)
      (subst (λ (z : Endpoint). 32 * x.queue ≢ 32 * z.queue) (one_endpoint (queued w.driver) s.parts c words own p)
      (met_apart own.transfer.endpoint own.endpoint own.here near.there.kept near.near))

  -- ---- a queue head is lent

  opening_apart : (at : IsOpenToLend (queued w.driver) w.memory) → 32 * x.queue ≢ 32 * at.endpoint.queue
  opening_apart at same =
      left.there.linked (at.command ∙ queue_open at.endpoint.queue x.queue (sym (same_blocks x.queue at.endpoint.queue same)))

  begun_beside : (at : IsOpenToLend (queued w.driver) w.memory) → parts_opened at s.parts (32 * x.queue) ≡ s.parts (32 * x.queue)
  begun_beside at =
      let q : ℕ = 32 * at.endpoint.queue in
      put_beside (put s.parts q q (QueueHead at.queue)) q (32 * at.endpoint.dummy) (Element dummy_qtd) (32 * x.queue) (opening_apart at)
      ∙ put_beside s.parts q q (QueueHead at.queue) (32 * x.queue) (opening_apart at)

  -- ---- another endpoint is given back

  hand_without : (t : Standing) → t.hand ≡ s.hand → t.frame ≡ s.frame → SameHand (in_hand s) (in_hand t)
  hand_without t hand frame =
      subst (λ (f : FrameHand). SameHand (in_hand s) (joined t.hand f)) (sym frame)
      (subst (λ (h : Hand). SameHand (in_hand s) (joined h s.frame)) (sym hand) (same_hand (in_hand s)))

  without_beside : (t : Standing) (z : Endpoint) → IsWithout s t (32 * z.queue) → 32 * x.queue ≢ 32 * z.queue
      → t.parts (32 * x.queue) ≡ s.parts (32 * x.queue)
  without_beside t z without differs =
      ap (λ (ps : StructureSets). ps (32 * x.queue)) without.parts ∙ queue_beside s.parts (32 * z.queue) (32 * x.queue) differs

  -- ---- each step

  stays_told : (t : Standing) (step : QueueStep s w (driver_next w) t) → IsBeside step (32 * x.queue) → Stays t
  stays_told _ (stays t none still) other = relinked s t n (32 * b) (hands_tell s t still.told) (still.told.parts n)
  stays_told _ (harvests i j found due later row out) other = λ xs told. told
  stays_told _ (returns t v z row r) other = given_back t v z r (staying_of (32 * z.queue) (goes_of w.driver v) s.out)
  stays_told _ (lends c words get order out row h) other =
      spared s (record s { parts = parts_with get s.parts; order = order; out = out }) n (32 * b) (same_hand (in_hand s)) (h.heads n)
      (record {
        element = λ v here. (h.elements n (32 * b) v here).element v here;
        bytes = λ v here. (h.elements n (32 * b) v here).bytes v here;
      })
  stays_told _ (stores c words p next) other =
      relinked s (record s { parts = parts_then p; out = out_then s.out (queue_next (told_parts w)).driver p }) n (32 * b)
      (same_hand (in_hand s)) (same_at s.parts (parts_then p) n (store_beside c words p next))
  stays_told _ (mends at row) other =
      spared s (record s { parts = parts_mended at; hand = hand_then at s.hand }) n (32 * b)
      (ring_hand s.hand (hand_then at s.hand) s.frame (mend_spares_hand s.hand (driver_parts w) s.parts s.out at))
      (mend_spares_heads (driver_parts w) s.parts s.out at n other)
      (mend_spares_elements (driver_parts w) s.parts s.out at n (32 * b))
  stays_told _ (begins at row alike) other =
      relinked s (record s { parts = parts_opened at s.parts }) n (32 * b) (same_hand (in_hand s))
      (same_at s.parts (parts_opened at s.parts) n (begun_beside at))
  stays_told _ (opens at t alike opened) other =
      relinked s t n (32 * b) (hands_tell s t opened.told) (opened.told.parts n)
  stays_told _ (unlinks at row) other =
      relinked s
      (record s {
        parts = parts_unlinked s.parts at.before at.queue at.after;
        hand = hand_unlinked s.hand at.before at.after;
      }) n (32 * b)
      (ring_hand s.hand (hand_unlinked s.hand at.before at.after) s.frame (unlink_spares_hand s.hand (queued w.driver) s.near s.parts at))
      (relinked_put s.parts (32 * at.before) at.queue (to_queue_head at.after) at.head n)
  stays_told _ (narrows member near row are fewer) other = λ xs told. told
  stays_told _ (goes i z c t back without) other =
      relinked s t n (32 * b) (hand_without t without.hand without.frame)
      (same_at s.parts t.parts n (without_beside t z without other))

pub step_leaves_told : StepLeavesTold
step_leaves_told s m w t step k g e u b x y left waits one other = stays_told s m w k g e u b x y left waits one t step other

-- ---- an event of the controller

module _ (s : Standing) (w : World) (k : IsMixedAt s w) (e : ℕ) (x : Endpoint) (left : HasLeft (queued w.driver) e x) where
  -- its queue head is none of those that are met
  never_near : s.near (32 * x.queue) ≡ true → ⊥
  never_near near =
      let d : DriverContent = queued w.driver in
      ⊎_elim
      (λ (head : 32 * x.queue ≡ 32 * head_block).
      off_head_by d e x (owners_of s w k) k.turns.turns left.here left.there.kept head)
      (λ (h : HasHead (queued w.driver) (32 * x.queue)).
      let own : e ≡ h.number =
      queues_same x.queue h.endpoint.queue e h.number (same_blocks x.queue h.endpoint.queue h.at)
      (queue_placed d (owners_of s w k) e x left.here (k.turns.turns.asynchronous.endpoints e x left.here) left.there.kept)
      (queue_placed d (owners_of s w k) h.number h.endpoint h.here
      (k.turns.turns.asynchronous.endpoints h.number h.endpoint h.here) h.met.there.kept) in
      let is : x ≡ h.endpoint = same_Some x h.endpoint (sym left.here ∙ ap (slice_get (queued w.driver).endpoints) own ∙ h.here) in
      true≢false (sym h.met.near ∙ ap (λ (j : ℕ). may_meet (queued w.driver) j h.endpoint) (sym own)
      ∙ ap (may_meet (queued w.driver) e) (sym is) ∙ left.unmet))
      (k.queues.queues.met.only (32 * x.queue) near)

  module _ (fixed : Fixed) (c : IsMixedControlled fixed s w) (a : ℕ) (xs : List ℕ)
      (told : Told (in_hand s) s.parts (32 * x.queue) a xs) where
    abbrev Then : StructureSets → Type 0
    Then parts = Told (joined c.event.later c.event.frame_later) parts (32 * x.queue) a xs

    told_after : EventOfQueues fixed s w c.event → Then (parts_now s.descs s.parts c.event.now)
    told_after (begun index allowed begins_so still) = still.bytes (32 * x.queue) a xs told
    told_after (moved (still_told still quiet)) = still.bytes (32 * x.queue) a xs told
    told_after (moved (aside still ask out reply other made)) = still.bytes (32 * x.queue) a xs told
    told_after (moved (grows q all g)) =
        subst Then (sym all)
        (g.other_bytes (32 * x.queue) a xs
        (λ own. never_near (ap s.near own.0 ∙ asked_is_near s w k q.copy q.in_hand q.here q.works)) told)

pub event_leaves_told : EventLeavesTold
event_leaves_told fixed s w k c event e a x left xs told = told_after s w k e x left fixed c a xs told event
