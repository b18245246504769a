-- Each step of a queue leaves the qTDs of OUT endpoints at high speed sent whole and in turn.
use Rattle.std.proofs.Common.{◌≡◌, ◌≢◌, ℕ, ◌*◌, Bool, true, false, if◌then◌else◌, List, [], ◌∷◌, ◌++◌}
use Rattle.std.proofs.Common.{slice_get, Some, ap, ◌==◌}
use Rattle.std.proofs.Common.{refl, sym, subst, ◌∙◌, ⊎_elim, inl, inr}
use Rattle.std.proofs.lemmas.Bool.{cases_eq, eq-eqb, true≢false}
use Rattle.claims_driver.specs.Leaving.{HasOwners}
use Rattle.drv_table.specs.Kinds.{is_iso}
use Rattle.law_ring.specs.OutPipes.{IsOut}
use Rattle.law_ring.proofs.Returning.{those_found}
use Rattle.law_driver.proofs.lemmas.ring_members.Placed.{has_queue, queue_off_head}
use Rattle.law_world.specs.memory.pipe_steps.Pipes.{AsksTheWay, AreByWay}
use Rattle.law_world.proofs.lemmas.memory.lemmas.pipe_steps.Sparing.{AsksRight}
use Rattle.law_world.proofs.lemmas.memory.lemmas.pipe_steps.Lends.{lend_spares}
use Rattle.law_world.proofs.lemmas.memory.lemmas.pipe_steps.Stores.{store_spares}
use Rattle.usb_base.specs.declared.endpoints.EpName.{EpName}
use Rattle.law_world.specs.memory.Mixed.{IsMixedAt}
use Rattle.law_reports.specs.lines.Lined.{IsTelling}
use Rattle.std.proofs.lemmas.Option.{same_Some}
use Rattle.law_driver_ring.specs.fed_queues.Places.{IsMet}
use Rattle.std.specs.Prelude.{◌⊎◌}
use Rattle.law_queues.proofs.Common.{none_open}
use Rattle.law_common.proofs.Numbers.{same_blocks, other_number}
use Rattle.law_driver.proofs.Common.{get_queued, control_told, control_kind}
use Rattle.law_world.proofs.Common.{none_some}
use Rattle.drv_table.specs.declared.content.Endpoint.{Endpoint}
use Rattle.qh_qtd.specs.declared.qtd.Qtd.{Qtd}
use Rattle.qh_qtd.specs.declared.queue_head.Qh.{Qh}
use Rattle.usb_base.specs.declared.endpoints.EpDesc.{EpDesc}
use Rattle.usb_base.specs.declared.packets.Way.{Way}
use Rattle.usb_base.specs.declared.packets.Way.TheVariants as ways
use Rattle.mem_runs.specs.Book.{slot_of}
use Rattle.claims_base.specs.Controller.{opening_base}
use Rattle.claims_report.specs.Streams.{has_stream}
use Rattle.drv_table.specs.declared.content.Command.TheVariants as unfinished
use Rattle.drv_table.specs.declared.rows.Found.{Found}
use Rattle.drv_table.specs.DriverContent.{DriverContent}
use Rattle.drv_table.specs.Parts.{Parts as DriverParts}
use Rattle.drv_table.specs.Words.{to_queue_head, dummy_qtd, is_control, head_block}
use Rattle.law_driver.specs.queued_drivers.Queued.{queued_kind, queued_endpoint, queued_command, with_queue, queued}
use Rattle.law_driver.specs.run_owners.Due.{IsHarvestDue}
use Rattle.law_driver.specs.chained_transfers.Out.{out_now}
use Rattle.law_driver.proofs.lemmas.queued_drivers.CommandFields.{desc_same, name_same}
use Rattle.law_driver.proofs.lemmas.queued_drivers.RowLists.{queue_at}
use Rattle.law_driver.proofs.lemmas.queued_drivers.RowOwners.{queued_are_lent}
use Rattle.law_structures.specs.lent_structures.Structures.{QueueHead, Element, Structures, StructureSets, put}
use Rattle.law_structures.proofs.lemmas.lent_structures.Names.{put_beside}
use Rattle.law_structures.proofs.lemmas.lent_structures.Altering.{found_queue, found_element}
use Rattle.law_ring.specs.Hand.{Hand}
use Rattle.law_ring.specs.Order.{IsAmong}
use Rattle.law_ring.specs.Fewer.{without_those}
use Rattle.law_ring.specs.QueueParts.{IsQueuePart}
use Rattle.law_controller.specs.controlled_streams.Opened.{with_none}
use Rattle.law_controller.specs.controlled_streams.Reported.{IsReported}
use Rattle.law_controller.proofs.lemmas.controlled_streams.Storing.{among_with}
use Rattle.law_controller.specs.frame_control.Joined.{joined}
use Rattle.law_descriptors.specs.Both.{owns, both}
use Rattle.law_descriptors.specs.Meeting.{met}
use Rattle.law_descriptors.proofs.Standing.{both_off}
use Rattle.law_descriptors.proofs.Telling.{queue_off}
use Rattle.law_descriptors.specs.PartLaws.{IsDescribing}
use Rattle.law_driver_ring.specs.TransferLaws.{lent_driver}
use Rattle.law_driver_ring.specs.fed_queues.Fed.{IsPublished}
use Rattle.law_driver_ring.specs.fed_queues.Places.{IsThere}
use Rattle.law_driver_ring.proofs.lemmas.fed_queues.Places.{stands_met}
use Rattle.law_frames.specs.FrameHand.{FrameHand}
use Rattle.law_queues.specs.fed_harvests.Harvests.{with_out}
use Rattle.law_queues.specs.fed_lends.Streams.{new_order}
use Rattle.law_queues.specs.fed_lends.ToLend.{IsToBeLent}
use Rattle.law_queues.specs.lent_fronts.Stands.{parts_with}
use Rattle.law_queues.specs.lent_fronts.Whole.{IsLentBehind}
use Rattle.law_queues.specs.mended_heads.Mended.{IsAtMend, head_at, mended, parts_then as parts_mended, hand_then as hand_mended}
use Rattle.law_queues.specs.mended_heads.Owed.{IsOwed}
use Rattle.law_queues.specs.open_laws.Queues.{IsOpenToLend, IsOpenThere, parts_opened}
use Rattle.law_queues.specs.publish_laws.Stores.{parts_then as parts_stored, out_then as out_stored, next_of}
use Rattle.law_queues.specs.whole_sends.Whole.{EndsWhole, AreSentWhole}
use Rattle.law_queues.proofs.lemmas.whole_sends.Keeping.{linked_ends_whole, stale_ends_whole, returned_is_whole, beginning_is_whole}
use Rattle.law_queues.proofs.lemmas.whole_sends.Walking.{with_hand}
use Rattle.law_world.specs.steps.unlinked_streams.Unlinks.{IsAtUnlink, hand_unlinked}
use Rattle.law_world.proofs.lemmas.streams.Told.{there_on}
use Rattle.law_world.specs.memory.Mixed.{Standing}
use Rattle.law_world.specs.memory.Steps.{told_parts, AreStill, OutAfter, waits, passes, stalls}
use Rattle.law_world.specs.memory.Steps.{HasBehind, IsNextStore, HasOpened, IsWithout}
use Rattle.law_world.specs.memory.Steps.{QueueStep, stays, harvests, returns, lends, stores, mends, begins, opens, unlinks, narrows, goes}
use Rattle.law_world.specs.memory.pipe_steps.Laws.{IsNoOpening}
use Rattle.law_world.proofs.lemmas.memory.HarvestKept.{owners_of}
use Rattle.law_world.proofs.lemmas.memory.PublishStores.{IsStoring, published_by}
use Rattle.law_reports.specs.lines.Lined.{in_hand, Lines, counted}
use Rattle.law_reports.proofs.lemmas.lines.Heads.{there_alone}
use Rattle.law_reports.proofs.lemmas.lines.Same.{relinked_put}
use Rattle.law_reports.proofs.lemmas.lines.ToldStores.{one_parts, one_out}
use Rattle.bus_world.specs.World.{World, driver_parts, controller_parts}
use Rattle.law_reports.proofs.lemmas.pipes.Names.{WasQueued, was_queued, queue_same, kept_as, same_number}
use Rattle.law_reports.proofs.lemmas.pipes.lemmas.puts.Whole.{ring_ends, told_ends, relinked_whole, fewer_whole, staying_among}
use Rattle.law_reports.proofs.lemmas.pipes.lemmas.puts.Lent.{sends_on}
use Rattle.law_reports.proofs.lemmas.pipes.lemmas.puts.Resting.{resting_ends}
use Rattle.law_reports.proofs.lemmas.pipes.lemmas.puts.Stored.{sent_stored}

-- where all behind are among others
among_fewer : (xs ys zs : List ℕ) → ((b : ℕ) → IsAmong b ys → IsAmong b zs) → (b : ℕ) → IsAmong b (xs ++ ys) → IsAmong b (xs ++ zs)
among_fewer [] ys zs fewer b is = fewer b is
among_fewer (x ∷ xs) ys zs fewer b (inl same) = inl same
among_fewer (x ∷ xs) ys zs fewer b (inr is) = inr (among_fewer xs ys zs fewer b is)

-- an OUT endpoint that is there has its queue head at n
pub record IsThereOut (d : DriverContent) (n : ℕ) : Type 0 where
  pub number : ℕ
  pub endpoint : Endpoint
  pub here : slice_get d.endpoints number ≡ Some endpoint
  pub there : IsThere (queued d) (queued_endpoint endpoint)
  pub way_is : endpoint.desc.name.way ≡ ways.Out
  pub at : n ≡ 32 * endpoint.queue

module _ (s : Standing) (m : Lines) (w : World) (mixed : IsMixedAt s w) (telling : IsTelling s m w) (n : ℕ)
    (is_out : IsThereOut w.driver n) where
  abbrev d : DriverContent
  d = queued w.driver

  -- ---- what is known of its queue

  pub counts : counted w.driver n ≡ true
  counts =
      let v : Endpoint = is_out.endpoint in
      let streams : has_stream (queued_endpoint v).desc.kind ≡ true =
      ap (λ (c : EpDesc). has_stream c.kind) (desc_same v) ∙ ap (λ (way : Way). has_stream (queued_kind way)) is_out.way_is in
      ap (counted w.driver) is_out.at ∙ ap (λ (q : ℕ). counted w.driver (32 * q)) (sym (queue_same v))
      ∙ there_on (queued w.driver) is_out.number (queued_endpoint v) (get_queued w.driver.endpoints is_out.number v is_out.here)
      is_out.there streams

  pub reported_at : IsReported (s.order n) (s.out n) (in_hand s) s.parts n (m.acc n) (m.reported n)
  reported_at = telling.moved n counts

  pub part_at : IsQueuePart n (s.parts n)
  part_at = telling.sound n counts

  -- it isn't the queue head of an endpoint that is opened
  pub opening_beside : (q : ℕ) → (queued w.driver).command ≡ Some (unfinished.Open q) → n ≢ 32 * q
  opening_beside q opening same =
      is_out.there.linked (opening ∙ ap (λ (b : ℕ). Some (unfinished.Open b))
      (same_blocks q is_out.endpoint.queue (sym same ∙ is_out.at) ∙ sym (queue_same is_out.endpoint)))

  module _ (was : AreSentWhole (s.order n) (s.out n) (in_hand s) n (s.parts n)) where
    still_sent : (t : Standing) → AreStill s t → AreSentWhole (t.order n) (t.out n) (in_hand t) n (t.parts n)
    still_sent t still =
        subst (λ (o : ℕ → ℕ → ℕ). AreSentWhole (o n) (t.out n) (in_hand t) n (t.parts n)) (sym still.order)
        (subst (λ (o : ℕ → List ℕ). AreSentWhole (s.order n) (o n) (in_hand t) n (t.parts n)) (sym still.out)
        (relinked_whole (s.order n) (s.out n) (in_hand s) (in_hand t) n (s.parts n) (t.parts n) (still.told.parts n)
        (told_ends s t n still.told) was))

    -- ---- a harvest

    module _ (e t : ℕ) (found : Found) (due : IsHarvestDue (told_parts w) e t found) where
      there : IsThere (queued w.driver) due.endpoint
      there = (stands_met (queued w.driver) e due.endpoint (mixed.turns.turns.asynchronous.endpoints e due.endpoint due.here)
          due.goes_on (λ is. none_open due.endpoint.queue (sym due.idle ∙ is))).there

      less : (left : List ℕ) → ((b : ℕ) → IsAmong b left → IsAmong b (out_now (queued w.driver) e)) → (b : ℕ)
          → IsAmong b (with_out s.out (32 * due.endpoint.queue) left n) → IsAmong b (s.out n)
      less left fewer b among =
          ⊎_elim
          (λ (same : n ≡ 32 * due.endpoint.queue).
          subst (IsAmong b) (sym (mixed.queues.queues.out_are e due.endpoint due.here there) ∙ ap s.out (sym same))
          (fewer b (subst (IsAmong b)
          (ap (λ (c : Bool). if c then left else s.out n) (eq-eqb n (32 * due.endpoint.queue) same)) among)))
          (λ (differs : n ≢ 32 * due.endpoint.queue).
          subst (IsAmong b) (ap (λ (c : Bool). if c then left else s.out n) (other_number n (32 * due.endpoint.queue) differs)) among)
          (cases_eq n (32 * due.endpoint.queue))

      harvested : (later : ℕ → List ℕ) → OutAfter (told_parts w) e t found due s.out later
          → AreSentWhole (s.order n) (later n) (in_hand s) n (s.parts n)
      harvested _ (waits is) = was
      harvested _ (passes some unstalled v) =
          fewer_whole (s.order n) (s.out n) _ (in_hand s) n (s.parts n)
          (less (v.before ++ v.behind)
          (λ b among. subst (IsAmong b) (sym v.was) (among_with (32 * due.transfer.place) v.before v.behind b among))) was
      harvested _ (stalls stalled v) =
          fewer_whole (s.order n) (s.out n) _ (in_hand s) n (s.parts n)
          (less (v.before ++ v.later)
          (λ b among. subst (IsAmong b) (sym v.was)
          (among_with (32 * due.transfer.place) v.before v.behind b (among_fewer v.before v.later v.behind v.fewer b among)))) was

    -- ---- a transfer is lent

    module _ (b : ℕ) (words : List ℕ) (get : IsToBeLent (queued w.driver) w.memory b words) (order : ℕ → ℕ → ℕ) (out : ℕ → List ℕ)
        (behind : HasBehind s w b words get order out) where
      abbrev l : IsLentBehind (queued w.driver) w.memory s.parts (parts_with get s.parts) s.order order s.out out
      l = behind.behind

      abbrev own : ℕ
      own = 32 * l.endpoint.queue

      abbrev now : StructureSets
      now = parts_with get s.parts

      lent_own : n ≡ 32 * l.endpoint.queue → AreSentWhole (order own) (out own) (in_hand s) own (now own)
      lent_own same =
          let reported_own : IsReported (s.order own) (s.out own) (in_hand s) s.parts own (m.acc own) (m.reported own) =
          subst (λ (j : ℕ). IsReported (s.order j) (s.out j) (in_hand s) s.parts j (m.acc j) (m.reported j)) same reported_at in
          let part_own : IsQueuePart own (s.parts own) = subst (λ (j : ℕ). IsQueuePart j (s.parts j)) same part_at in
          let was_own : AreSentWhole (s.order own) (s.out own) (in_hand s) own (s.parts own) =
          subst (λ (j : ℕ). AreSentWhole (s.order j) (s.out j) (in_hand s) j (s.parts j)) same was in
          subst (λ (o : ℕ → ℕ). AreSentWhole o (out own) (in_hand s) own (now own)) (sym l.order_is)
          (subst (λ (es : List ℕ). AreSentWhole (new_order (queued w.driver) l.transfer l.further l.place (s.order own)) es (in_hand s) own
          (now own)) (sym l.out_is)
          (sends_on (queued w.driver) w.memory l.number l.transfer l.endpoint l.stage l.further
          (slot_of (lent_driver (queued w.driver) w.memory).book.slots) s.parts now (s.order own) (s.out own) (in_hand s) (m.acc own)
          (m.reported own) l.place l.awaits l.pieces part_own l.last l.above reported_own was_own))

      lent : AreSentWhole (order n) (out n) (in_hand s) n (parts_with get s.parts n)
      lent =
          ⊎_elim
          (λ (same : n ≡ 32 * l.endpoint.queue).
          subst (λ (j : ℕ). AreSentWhole (order j) (out j) (in_hand s) j (now j)) (sym same) (lent_own same))
          (λ (differs : n ≢ 32 * l.endpoint.queue).
          subst (λ (o : ℕ → ℕ). AreSentWhole o (out n) (in_hand s) n (now n)) (sym (l.order_beside n differs))
          (subst (λ (es : List ℕ). AreSentWhole (s.order n) es (in_hand s) n (now n)) (sym (l.out_beside n differs))
          (subst (λ (part : Structures). AreSentWhole (s.order n) (s.out n) (in_hand s) n part) (sym (l.pieces.beside n differs)) was)))
          (cases_eq n (32 * l.endpoint.queue))

    -- ---- its first qTD is published

    module _ (new : World) (b : ℕ) (words : List ℕ) (p : IsPublished (queued w.driver) s.parts b words)
        (is : IsNextStore s w new b words p) where
      not_iso : (e t count : ℕ) → w.driver.command ≡ Some (unfinished.Iso e t count) → ⊥
      not_iso e t count iso = none_some (unfinished.Publish b words) (sym (ap (queued_command w.driver.endpoints) iso) ∙ is.command)

      storing : IsStoring (queued w.driver) s.near s.streams s.ends s.parts s.order s.out b words
      storing = record {
        command = is.command;
        made = is.made;
        owners = owners_of s w mixed;
        lent = queued_are_lent w.driver mixed.now.framed.place.lent (λ e t count iso. absurd (not_iso e t count iso));
        turns = mixed.turns.turns;
        queues = mixed.queues.queues;
      }

      abbrev q : DriverParts
      q = told_parts w

      abbrev its : IsPublished (queued w.driver) s.parts b words
      its = published_by storing

      -- what is published is one and the same
      stored : AreSentWhole (s.order n) (out_stored s.out (next_of (told_parts w)).driver p n) (in_hand s) n (parts_stored p n)
      stored =
          subst (λ (ps : StructureSets). AreSentWhole (s.order n) (out_stored s.out (next_of q).driver p n) (in_hand s) n (ps n))
          (one_parts (queued w.driver) s.parts b words its p)
          (subst (λ (es : ℕ → List ℕ). AreSentWhole (s.order n) (es n) (in_hand s) n (parts_stored its n))
          (one_out (queued w.driver) s.parts b words its p s.out (next_of q).driver)
          (sent_stored q s.near s.streams s.ends s.parts s.order s.out b words storing (in_hand s) n mixed.queues.tails
          (λ a t here active. reported_at.accounts.complete a t here active) was))

    -- ---- a stalled control endpoint is mended

    module _ (at : IsAtMend (driver_parts w) s.parts s.out) where
      owed : IsOwed w.driver at.stalled
      owed = at.are.owed.0

      its_own : slice_get (queued w.driver).endpoints owed.number ≡ Some (with_queue owed.endpoint)
      its_own = queue_at w.driver.endpoints owed.number owed.endpoint owed.here (control_kind owed.endpoint.desc.kind owed.control)

      control : is_control (with_queue owed.endpoint).desc.kind ≡ true
      control =
          control_told owed.endpoint.desc.name.way owed.endpoint.desc.kind (mixed.turns.kinds_fit owed.number owed.endpoint owed.here)
          owed.control

      pub mend_apart : n ≢ 32 * at.stalled.queue
      mend_apart same =
          there_alone (queued w.driver) owed.number (with_queue owed.endpoint) (owners_of s w mixed) mixed.turns.turns.asynchronous
          its_own owed.kept control
          (ap (λ (b : ℕ). counted w.driver (32 * b)) owed.queue ∙ ap (counted w.driver) (sym same) ∙ counts)

      mended_sent : AreSentWhole (s.order n) (s.out n) (joined (hand_mended at s.hand) s.frame) n (parts_mended at n)
      mended_sent =
          let own : ℕ = 32 * at.stalled.queue in
          let later : Hand = joined (hand_mended at s.hand) s.frame in
          subst (λ (part : Structures). AreSentWhole (s.order n) (s.out n) later n part)
          (sym (put_beside s.parts own own (QueueHead (mended at.stalled (head_at at))) n mend_apart))
          (with_hand (s.order n) (s.out n) (in_hand s) later n (s.parts n)
          (ring_ends n s.hand (hand_mended at s.hand) s.frame (stale_ends_whole own s.hand n) was.ends) was)

    -- ---- an endpoint's structures are lent

    begun : (at : IsOpenToLend (queued w.driver) w.memory)
        → AreSentWhole (s.order n) (s.out n) (in_hand s) n (parts_opened at s.parts n)
    begun at =
        let own : ℕ = 32 * at.endpoint.queue in
        let differs : n ≢ own = opening_beside at.endpoint.queue at.command in
        subst (λ (part : Structures). AreSentWhole (s.order n) (s.out n) (in_hand s) n part)
        (sym (put_beside (put s.parts own own (QueueHead at.queue)) own (32 * at.endpoint.dummy) (Element dummy_qtd) n differs
        ∙ put_beside s.parts own own (QueueHead at.queue) n differs)) was

    unlinked : (at : IsAtUnlink (queued w.driver) s.near s.parts)
        → AreSentWhole (s.order n) (s.out n) (joined (hand_unlinked s.hand at.before at.after) s.frame) n
        (put s.parts (32 * at.before) (32 * at.before) (QueueHead (record at.queue { link = to_queue_head at.after })) n)
    unlinked at =
        relinked_whole (s.order n) (s.out n) (in_hand s) (joined (hand_unlinked s.hand at.before at.after) s.frame) n (s.parts n)
        (put s.parts (32 * at.before) (32 * at.before) (QueueHead (record at.queue { link = to_queue_head at.after })) n)
        (relinked_put s.parts (32 * at.before) at.queue (to_queue_head at.after) at.head n)
        (ring_ends n s.hand (hand_unlinked s.hand at.before at.after) s.frame
        (linked_ends_whole (32 * at.before) (to_queue_head at.after) s.hand n)) was

    -- ---- one is given back

    without : (t : Standing) (own : ℕ) → IsWithout s t own → AreSentWhole (t.order n) (t.out n) (in_hand t) n (t.parts n)
    without t own is =
        subst (λ (o : ℕ → ℕ → ℕ). AreSentWhole (o n) (t.out n) (in_hand t) n (t.parts n)) (sym is.order)
        (subst (λ (o : ℕ → List ℕ). AreSentWhole (s.order n) (o n) (in_hand t) n (t.parts n)) (sym is.out)
        (subst (λ (ps : StructureSets). AreSentWhole (s.order n) (s.out n) (in_hand t) n (ps n)) (sym is.parts)
        (subst (λ (hand : Hand). AreSentWhole (s.order n) (s.out n) (joined hand t.frame) n (without_those s.parts own (λ a. true) n))
        (sym is.hand)
        (subst (λ (frame : FrameHand). AreSentWhole (s.order n) (s.out n) (joined s.hand frame) n
        (without_those s.parts own (λ a. true) n)) (sym is.frame)
        (returned_is_whole (s.order n) (s.out n) (s.out n) (in_hand s) n s.parts own (λ a. true) (λ b among. among) was)))))

    -- ---- each step but the end of an open

    pub step_sends : (new : World) (t : Standing) (step : QueueStep s w new t) → IsNoOpening step
        → AreSentWhole (t.order n) (t.out n) (in_hand t) n (t.parts n)
    step_sends new _ (stays t none still) other = still_sent t still
    step_sends new _ (harvests e t found due later row after) other = harvested e t found due later after
    step_sends new _ (returns t y z row r) other =
        returned_is_whole (s.order n) (s.out n) _ (in_hand s) n s.parts (32 * z.queue) _
        (λ b among. staying_among (32 * z.queue) _ s.out n b among) was
    step_sends new _ (lends b words get order out row behind) other = lent b words get order out behind
    step_sends new _ (stores b words p is) other = stored new b words p is
    step_sends new _ (mends at row) other = mended_sent at
    step_sends new _ (begins at row alike) other = begun at
    step_sends new _ (opens at t alike opened) other = absurd other
    step_sends new _ (unlinks at row) other = unlinked at
    step_sends new _ (narrows member fewer row are wider) other = was
    step_sends new _ (goes e y d t back is) other = without t (32 * y.queue) is

    -- ---- its qTDs are OUTs

    abbrev none : ℕ → ℕ → Bool
    none addr ep = false

    abbrev off : ℕ → Bool
    off i = false

    abbrev single : ℕ → Bool
    single i = i == n

    owners : HasOwners w.driver
    owners = mixed.now.framed.place.sound.owners

    its_kept : (is_out.endpoint.gone ≡ false) × (is_iso is_out.endpoint.desc.kind ≡ false)
    its_kept = kept_as is_out.endpoint is_out.there.kept

    -- no other endpoint that is met has its queue head
    its_way : (e : ℕ) (u : Endpoint) → slice_get (queued w.driver).endpoints e ≡ Some u → IsMet (queued w.driver) e u → 32 * u.queue ≡ n
        → u.desc.name.way ≡ ways.Out
    its_way e u here is_met same =
        let v : WasQueued w.driver.endpoints e u = was_queued w.driver.endpoints e u here in
        let kept = kept_as v.endpoint (ap (λ (y : Endpoint). y.gone) (sym v.is) ∙ is_met.there.kept) in
        let place : 32 * v.endpoint.queue ≡ 32 * is_out.endpoint.queue =
        ap (λ (q : ℕ). 32 * q) (sym (queue_same v.endpoint)) ∙ ap (λ (y : Endpoint). 32 * y.queue) (sym v.is) ∙ same ∙ is_out.at in
        let one : e ≡ is_out.number =
        same_number w.driver owners e is_out.number v.endpoint is_out.endpoint v.here is_out.here kept its_kept place in
        let is : v.endpoint ≡ is_out.endpoint =
        same_Some v.endpoint is_out.endpoint (sym v.here ∙ ap (slice_get w.driver.endpoints) one ∙ is_out.here) in
        ap (λ (y : Endpoint). y.desc.name.way) v.is ∙ ap (λ (name : EpName). name.way) (name_same v.endpoint)
        ∙ ap (λ (y : Endpoint). y.desc.name.way) is ∙ is_out.way_is

    in_out : ways.In ≡ ways.Out → ⊥
    in_out e = cc

    control_out : ways.Ctl ≡ ways.Out → ⊥
    control_out e = cc

    asks_its_way : (e : ℕ) (u : Endpoint) → slice_get (queued w.driver).endpoints e ≡ Some u → IsMet (queued w.driver) e u
        → (way : Way) → u.desc.name.way ≡ way → AsksTheWay none none off single s.ends (32 * u.queue) way
    asks_its_way e u here is_met ways.Out is = (refl, inr refl)
    asks_its_way e u here is_met ways.In is =
        (other_number (32 * u.queue) n (λ same. in_out (sym is ∙ its_way e u here is_met same)), inr refl)
    asks_its_way e u here is_met ways.Ctl is =
        (refl, other_number (32 * u.queue) n (λ same. control_out (sym is ∙ its_way e u here is_met same)), refl, refl)

    pub by_way : AreByWay (queued w.driver) none none off single s.ends
    by_way = record {
      each = λ e u here is_met. asks_its_way e u here is_met u.desc.name.way refl;
      head = (
        refl,
        other_number (32 * head_block) n (λ same.
            queue_off_head w.driver is_out.number is_out.endpoint owners is_out.here (has_queue is_out.endpoint its_kept.1 its_kept.0)
            (same_blocks is_out.endpoint.queue head_block (sym is_out.at ∙ sym same))),
      );
    }

    single_here : (n == n) ≡ true
    single_here = eq-eqb n n refl

    module _ (outs : IsOut (s.parts n)) where
      either : (a : ℕ) (u : Qtd) → u.token.active ≡ true
          → (s.parts n a ≡ Some (Element u)) ⊎ AsksRight none none off single s.ends n u.token.pid → u.token.pid ≡ 0
      either a u on asks =
          ⊎_elim (λ (was_there : s.parts n a ≡ Some (Element u)). outs a u was_there on)
          (λ (right : AsksRight none none off single s.ends n u.token.pid). right.out_one single_here) asks

      pub step_outs : (new : World) (t : Standing) (step : QueueStep s w new t) → IsNoOpening step → IsOut (t.parts n)
      step_outs new _ (stays t none_of still) other = λ a u here on. outs a u ((still.told.parts n).elements_were a u here) on
      step_outs new _ (harvests e t found due later row after) other = outs
      step_outs new _ (returns t y z row r) other =
          λ a u here on. outs a u (those_found s.parts (32 * z.queue) _ n a (Element u) here) on
      step_outs new _ (lends b words get order out row behind) other =
          λ a u here on.
          either a u on
          ((lend_spares s w mixed b words get none none off single s.ends by_way order out behind (λ i. true) (in_hand s)).asks n a u refl
          here on)
      step_outs new _ (stores b words p is) other =
          λ a u here on.
          either a u on
          ((store_spares s w new mixed b words p is none none off single s.ends by_way (λ i. true) (in_hand s)).asks n a u refl here on)
      step_outs new _ (mends at row) other =
          let own : ℕ = 32 * at.stalled.queue in
          subst IsOut (sym (put_beside s.parts own own (QueueHead (mended at.stalled (head_at at))) n (mend_apart at))) outs
      step_outs new _ (begins at row alike) other =
          let own : ℕ = 32 * at.endpoint.queue in
          let differs : n ≢ own = opening_beside at.endpoint.queue at.command in
          subst IsOut (sym (put_beside (put s.parts own own (QueueHead at.queue)) own (32 * at.endpoint.dummy) (Element dummy_qtd) n differs
          ∙ put_beside s.parts own own (QueueHead at.queue) n differs)) outs
      step_outs new _ (opens at t alike opened) other = absurd other
      step_outs new _ (unlinks at row) other =
          λ a u here on.
          outs a u ((relinked_put s.parts (32 * at.before) at.queue (to_queue_head at.after) at.head n).elements_were a u here) on
      step_outs new _ (narrows member fewer row are wider) other = outs
      step_outs new _ (goes e y d t back is) other =
          subst (λ (ps : StructureSets). IsOut (ps n)) (sym is.parts)
          (λ a u here on. outs a u (those_found s.parts (32 * y.queue) (λ b. true) n a (Element u) here) on)

-- ---- the end of an open

module _ (s : Standing) (w : World) (mixed : IsMixedAt s w) (at : IsOpenThere (queued w.driver) s.parts) where
  abbrev new : ℕ
  new = 32 * at.endpoint.queue

  is_dummy : (a : ℕ) (u : Qtd) → s.parts (32 * at.endpoint.queue) a ≡ Some (Element u) → dummy_qtd ≡ u
  is_dummy a u here =
      found_element (s.parts new (32 * at.endpoint.dummy)) dummy_qtd u at.part.dummy
      (ap (s.parts new) (sym (at.part.only a u here)) ∙ here)

  resting : (q : Qh) → s.parts (32 * at.endpoint.queue) (32 * at.endpoint.queue) ≡ Some (QueueHead q) → q.token.active ≡ false
  resting q here =
      ap (λ (r : Qh). r.token.active) (sym (found_queue (s.parts new new) at.part.queue q at.part.here here)) ∙ at.part.rests.idle

  none_of : owns s.descs new ≡ false
  none_of =
      let f = mixed.now.framed in
      let describing : IsDescribing w.driver s.descs s.parts =
      record { owners = f.place.sound.owners; driven = f.driven; described = f.described } in
      queue_off w.driver s.descs s.parts describing new new (QueueHead at.part.queue) at.part.here

  ends : EndsWhole (in_hand s) (32 * at.endpoint.queue)
  ends =
      resting_ends opening_base s.member (met w.driver s.recent) (both s.descs s.parts) s.hand s.frame (controller_parts w)
      mixed.now.framed.runs new
      (λ q here works.
      true≢false (sym works ∙ resting q (ap (λ (part : Structures). part new) (sym (both_off s.descs s.parts new none_of)) ∙ here)))

  new_sent : AreSentWhole (s.order new) [] (in_hand s) new (s.parts new)
  new_sent =
      beginning_is_whole (s.order new) (in_hand s) new (s.parts new) ends resting
      (λ a u here.
      let same : dummy_qtd ≡ u = is_dummy a u here in (
        ap (λ (v : Qtd). v.token.active) (sym same),
        ap (λ (v : Qtd). v.token.halted) (sym same),
        ap (λ (v : Qtd). v.token.total) (sym same),
      ))

  module _ (t : Standing) (opened : HasOpened s t at.endpoint) (n : ℕ) (before : n ≢ 32 * at.endpoint.queue
      → AreSentWhole (s.order n) (s.out n) (in_hand s) n (s.parts n)) where
    told_before : AreSentWhole (s.order n) (with_none s.out new n) (in_hand s) n (s.parts n)
    told_before =
        ⊎_elim
        (λ (same : n ≡ new).
        subst (λ (j : ℕ). AreSentWhole (s.order j) (with_none s.out new j) (in_hand s) j (s.parts j)) (sym same)
        (subst (λ (es : List ℕ). AreSentWhole (s.order new) es (in_hand s) new (s.parts new))
        (sym (ap (λ (b : Bool). if b then [] else s.out new) (eq-eqb new new refl))) new_sent))
        (λ (differs : n ≢ new).
        subst (λ (es : List ℕ). AreSentWhole (s.order n) es (in_hand s) n (s.parts n))
        (sym (ap (λ (b : Bool). if b then [] else s.out n) (other_number n new differs))) (before differs)) (cases_eq n new)

    pub opened_sends : AreSentWhole (t.order n) (t.out n) (in_hand t) n (t.parts n)
    opened_sends =
        subst (λ (o : ℕ → ℕ → ℕ). AreSentWhole (o n) (t.out n) (in_hand t) n (t.parts n)) (sym opened.order)
        (subst (λ (o : ℕ → List ℕ). AreSentWhole (s.order n) (o n) (in_hand t) n (t.parts n)) (sym opened.out)
        (relinked_whole (s.order n) (with_none s.out new n) (in_hand s) (in_hand t) n (s.parts n) (t.parts n) (opened.told.parts n)
        (told_ends s t n opened.told) told_before))

    outs_before : IsOut (s.parts new)
    outs_before a u here on = absurd (true≢false (sym on ∙ ap (λ (v : Qtd). v.token.active) (sym (is_dummy a u here))))

    pub opened_outs : (n ≢ 32 * at.endpoint.queue → IsOut (s.parts n)) → IsOut (t.parts n)
    opened_outs others a u here on =
        let was : s.parts n a ≡ Some (Element u) = (opened.told.parts n).elements_were a u here in
        ⊎_elim (λ (same : n ≡ new). outs_before a u (ap (λ (i : ℕ). s.parts i a) (sym same) ∙ was) on)
        (λ (differs : n ≢ new). others differs a u was on) (cases_eq n new)
