-- Queues after the next store that a stalled control endpoint is owed: its queue head is halted and all that is out waits, so that its front may be taken where its queue
-- goes on.
use Rattle.std.proofs.Common.{◌≡◌, ◌≢◌, ℕ, ◌*◌, ◌≤◌, ◌||◌, Bool, true, false, List, slice_get, Option, Some, None, option_map, ap, refl, sym, subst, ◌∙◌, ⊎_elim, arith}
use Rattle.std.proofs.lemmas.Bool.{cases_eq, true≢false}
use Rattle.std.proofs.lemmas.Option.{same_Some}
use Rattle.law_driver_ring.proofs.Common.{lent_slot}
use Rattle.law_common.proofs.Numbers.{same_blocks}
use Rattle.word_mem.specs.Memory.{Mem}
use Rattle.op_registers.specs.RegisterFile.{RegisterFile}
use Rattle.qh_qtd.specs.declared.queue_head.Qh.{Qh}
use Rattle.mem_runs.specs.Book.{slot_of}
use Rattle.drv_table.specs.declared.content.Endpoint.{Endpoint}
use Rattle.drv_table.specs.DriverContent.{DriverContent}
use Rattle.drv_table.specs.Parts.{Parts}
use Rattle.law_driver.specs.endpoint_lives.Lives.{told_end}
use Rattle.claims_driver.specs.Owners.{Dummy, runs_of_endpoint}
use Rattle.claims_driver.specs.Leaving.{HasOwners}
use Rattle.law_driver.proofs.lemmas.run_owners.Runs.{placed_run}
use Rattle.claims_driver.specs.LentRuns.{AreLent}
use Rattle.law_driver.proofs.lemmas.lent_runs.Laws.{all_are_lent_between_commands}
use Rattle.law_structures.specs.lent_structures.Structures.{QueueHead, Structures, StructureSets}
use Rattle.law_structures.specs.lent_structures.Sound.{IsElement, IsSoundQueue}
use Rattle.law_structures.proofs.lemmas.lent_structures.Altering.{found_queue}
use Rattle.law_ring.specs.Front.{HasFront}
use Rattle.law_ring.specs.Told.{Endpoint as Told}
use Rattle.law_driver_ring.specs.Inventory.{IsLent}
use Rattle.law_frames.specs.Met.{IsQueuePart}
use Rattle.law_driver.specs.chained_transfers.AsynchronousTurns.{AsynchronousTakesTurns}
use Rattle.law_driver.specs.chained_transfers.Turns.{Turn, turn_of, turn_in, IsNext, AreReportedTo}
use Rattle.law_driver.proofs.lemmas.chained_transfers.BulkAndControl.{not_iso}
use Rattle.law_driver_ring.specs.fed_queues.Places.{IsMet}
use Rattle.law_queues.specs.fed_lends.Commands.{QueuesStand}
use Rattle.law_queues.specs.fed_harvests.Harvests.{IsLike}
use Rattle.law_queues.proofs.lemmas.fed_harvests.Like.{alike_stands}
use Rattle.law_queues.specs.released_queues.Fronts.{piece_address, StandsAt, FrontsStand}
use Rattle.law_queues.specs.standing_fronts.Reaching.{Reaches}
use Rattle.law_queues.proofs.lemmas.publish_laws.Apart.{queue_placed, queues_same}
use Rattle.law_queues.specs.mended_heads.Owed.{IsOwed, GoesOnAt}
use Rattle.law_queues.specs.mended_heads.Waiting.{AreAllPublished}
use Rattle.law_queues.specs.mended_heads.Mended.{IsAtMend, parts_then, driver_mended}
use Rattle.law_queues.proofs.lemmas.mended_heads.Mending.{halted_idle}
use Rattle.law_queues.proofs.lemmas.mended_heads.Row.{mend_row}
use Rattle.law_queues.proofs.lemmas.mended_heads.Queues.{mend_leaves_front, mend_leaves_passed, mend_leaves_met, mend_leaves_ends, mend_leaves_fed, mend_leaves_last, mend_leaves_out}
use Rattle.law_world.specs.steps.control_queues.Controls.{ControlsStand}
use Rattle.law_world.proofs.lemmas.steps.lemmas.control_queues.Beside.{same_keep_controls}
use Rattle.law_world.proofs.lemmas.steps.lemmas.control_queues.Heads.{mend_keeps_controls}
use Rattle.law_descriptors.specs.queue_events.Events.{PartsStand}
use Rattle.law_world.proofs.lemmas.memory.MendOnward.{ends_before, pieces_before}
use Rattle.law_world.proofs.lemmas.memory.MendTurned.{turned, turned_parts}

-- queues reach as far as the inactive qTDs at their ends
abbrev pub AllReach : DriverContent → StructureSets → (ℕ → ℕ → ℕ) → (ℕ → List ℕ) → Type 0
AllReach d parts order out =
    (e : ℕ) (z : Endpoint) → slice_get d.endpoints e ≡ Some z → IsMet d e z → Reaches d (parts (32 * z.queue)) (order (32 * z.queue)) (out (32 * z.queue)) e z (32 * z.dummy)

module _ (d : DriverContent) (r : RegisterFile) (m : Mem) (near streams : ℕ → Bool) (ends : ℕ → Told) (parts : StructureSets) (order : ℕ → ℕ → ℕ) (out : ℕ → List ℕ) (k : IsAtMend (turned_parts d r m) parts out) (queues : QueuesStand d near streams ends parts order out) where
  abbrev p : Parts
  p = turned_parts d r m

  -- ---- the queues are those of the other

  like : IsLike d (turned d)
  like = record {
    idle = k.idle;
    idle_now = k.idle;
    slots = refl;
    waiting = refl;
    rung = refl;
    notes = λ b. refl;
    next = λ b. refl;
    buffer = λ b. refl;
    told = λ b. refl;
    ends = λ i z at. record { endpoint = z; there = at; queue = refl; dummy = refl; desc = refl; linked = refl; gone = refl };
    ends_now = λ i z at. record { endpoint = z; there = at; queue = refl; dummy = refl; desc = refl; linked = refl; gone = refl };
    transfers = λ t y at. record { transfer = y; there = at; endpoint = refl; first = refl; qtds = refl; sort = refl; released = refl };
  }

  turned_queues : QueuesStand (turned d) near streams ends parts order out
  turned_queues = alike_stands d (turned d) near streams ends parts order out out like (λ e x here there. queues.out_are e x here (record { linked = there.linked; kept = there.kept })) queues

  pub queues_then : QueuesStand (driver_mended d) near streams ends (parts_then k) order out
  queues_then =
      let q = turned_queues in
      let is = (mend_row (turned_parts d r m) parts out k).driver in
      subst (λ (f : DriverContent). QueuesStand f near streams ends (parts_then k) order out) is
      (record {
        met = mend_leaves_met (turned_parts d r m) parts out near k q.met;
        streams_are = mend_leaves_ends (turned_parts d r m) parts out streams ends k q.streams_are;
        fed = mend_leaves_fed (turned_parts d r m) parts out k q.fed;
        last = mend_leaves_last (turned_parts d r m) parts out order k q.last;
        out_are = mend_leaves_out (turned_parts d r m) parts out out k q.out_are;
      })

  pub controls_then : ControlsStand d parts order out → ControlsStand (driver_mended d) (parts_then k) order out
  controls_then controls =
      subst (λ (f : DriverContent). ControlsStand f (parts_then k) order out) (mend_row (turned_parts d r m) parts out k).driver
      (mend_keeps_controls (turned_parts d r m) parts order out k (same_keep_controls d (turned d) parts order out refl refl refl refl refl refl controls))

  -- ---- fronts

  module _ (owners : HasOwners d) (lent : AreLent d) (turns : AsynchronousTakesTurns d) (sound : PartsStand d parts) (controls : ControlsStand d parts order out) (reach : AllReach d parts order out) where
    abbrev owed : IsOwed (turned d) k.stalled
    owed = k.are.owed.0

    -- its endpoint
    pub one_number : (e : ℕ) (z : Endpoint) → slice_get d.endpoints e ≡ Some z → z.gone ≡ false → z.queue ≡ k.stalled.queue → e ≡ k.are.owed.0.number
    one_number e z here kept same =
        queues_same z.queue k.are.owed.0.endpoint.queue e k.are.owed.0.number (same ∙ sym k.are.owed.0.queue) (queue_placed d owners e z here (turns.asynchronous.endpoints e z here) kept)
        (queue_placed d owners k.are.owed.0.number k.are.owed.0.endpoint k.are.owed.0.here (turns.asynchronous.endpoints k.are.owed.0.number k.are.owed.0.endpoint k.are.owed.0.here) k.are.owed.0.kept)

    module _ (e : ℕ) (z : Endpoint) (here : slice_get d.endpoints e ≡ Some z) (met : IsMet d e z) where
      abbrev n : ℕ
      n = 32 * z.queue

      abbrev c : ℕ
      c = 32 * z.dummy

      abbrev o : ℕ → ℕ
      o = order (32 * z.queue)

      abbrev part : Structures
      part = parts (32 * z.queue)

      abbrev sent : List ℕ
      sent = out (32 * z.queue)

      old : Reaches d part o sent e z c
      old = reach e z here met

      -- a front that isn't past the qTD where its own queue goes on
      stands_on : (f : StandsAt d part o sent e z) → (n ≡ 32 * k.stalled.queue → f.front ≤ o (32 * k.stalled.onward)) → StandsAt (driver_mended d) (parts_then k (32 * z.queue)) o sent e z
      stands_on f from = record {
        front = f.front;
        has = mend_leaves_front o f.front sent n (turned_parts d r m) parts out k from f.has;
        ended = f.ended;
        passed = λ i u j y listed at held own least below. mend_leaves_passed o f.front n (piece_address d y j) (turned_parts d r m) parts out k (f.passed i u j y listed at held own least below);
      }

      -- ---- its own queue

      module _ (same : z.queue ≡ k.stalled.queue) where
        itself : k.are.owed.0.endpoint ≡ z
        itself = same_Some k.are.owed.0.endpoint z (sym k.are.owed.0.here ∙ ap (slice_get d.endpoints) (sym (one_number e z here met.there.kept same)) ∙ here)

        going : told_end z ≡ None
        going = ap told_end (sym itself) ∙ k.are.owed.0.going

        onward : GoesOnAt d.transfers z.dummy z.next k.stalled.onward
        onward = subst (λ (y : Endpoint). GoesOnAt d.transfers y.dummy y.next k.stalled.onward) itself k.are.owed.0.onward

        there : IsElement part (32 * k.stalled.onward)
        there = subst (λ (q : ℕ). IsElement (parts (32 * q)) (32 * k.stalled.onward)) (sym same) k.onward

        -- it isn't past the qTD at the end
        dummy_lent : IsLent (slot_of d.book.slots z.dummy)
        dummy_lent =
            lent_slot (slot_of d.book.slots z.dummy)
            (all_are_lent_between_commands d z.dummy k.idle lent
            (placed_run z.dummy (Dummy e)
            (owners.owned.each.dummy e (runs_of_endpoint z) (ap (option_map runs_of_endpoint) here)
            (ap (λ (b : Bool). b || z.gone) (not_iso z.desc (turns.asynchronous.endpoints e z here).asynchronous) ∙ met.there.kept))))

        most : o (32 * k.stalled.onward) ≤ o c
        most =
            ⊎_elim (λ (end : 32 * k.stalled.onward ≡ c). let is = ap o end in omega (arith, is))
            (λ (differs : 32 * k.stalled.onward ≢ c). let less = queues.last.dummies e z here met.there.kept dummy_lent (32 * k.stalled.onward) there.qtd there.here differs in omega (arith, less))
            (cases_eq (32 * k.stalled.onward) c)

        -- it works on none, and what is out waits
        halted : (q : Qh) → part n ≡ Some (QueueHead q) → q.token.halted ≡ true
        halted q at =
            let stands = k.are.wait.0.stands in
            let one : stands.head ≡ q =
            found_queue (part n) stands.head q (subst (λ (b : ℕ). parts (32 * b) (32 * b) ≡ Some (QueueHead stands.head)) (sym same) stands.here) at in
            ap (λ (i : Qh). i.token.halted) (sym one) ∙ stands.halted

        waits : AreAllPublished sent part
        waits = subst (λ (b : ℕ). AreAllPublished (out (32 * b)) (parts (32 * b))) (sym same) k.are.wait.0.published

        on : IsQueuePart n part
        on = sound e z here met

        has_at : (front : ℕ) → HasFront o front sent n part
        has_at front = record {
          queue = λ q at.
              let s : IsSoundQueue part q = subst (IsSoundQueue part) (found_queue (part n) on.queue q on.here at) on.sound in
              record {
                work = λ active. absurd (halted_idle part q s (halted q at) active);
                rest = λ b off. absurd (true≢false (sym (halted q at) ∙ off));
              };
          behind = λ a u among at off. absurd (true≢false (sym (waits a u among at) ∙ off));
          fresh = old.stands.has.fresh;
          passes = λ a b i u v among also at at_i over. waits i v also at_i;
        }

        -- where no request is to be read the queue goes on at its end, and else at the first qTD of the next
        abbrev IsFound : Type 0
        IsFound = (f : StandsAt d part o sent e z) × (f.front ≤ o (32 * k.stalled.onward))

        by_next : (next : Option ℕ) → z.next ≡ next → GoesOnAt d.transfers z.dummy next k.stalled.onward → IsFound
        by_next None is at_end = (old.stands, let end = ap (λ (b : ℕ). o (32 * b)) at_end in let least = old.tail.most in omega (arith, end, least))
        by_next (Some t) is begins =
            let first : IsNext (turn_in d.transfers) e t = subst (AreReportedTo (turn_in d.transfers) e) is (turns.turns.turns.next e z here going) in
            let its : begins.transfer.endpoint ≡ e =
            ap (λ (i : Turn). i.endpoint) (same_Some (turn_of begins.transfer) first.transfer (sym (ap (option_map turn_of) begins.here) ∙ first.here)) ∙ first.endpoint in
            let rise = controls.rises e z here met.there in
            let leads : o (32 * begins.transfer.first) ≡ o (32 * k.stalled.onward) = ap (λ (b : ℕ). o (32 * b)) (sym begins.first) in
            let f : StandsAt d part o sent e z = record {
              front = o (32 * k.stalled.onward);
              has = has_at (o (32 * k.stalled.onward));
              ended = λ i u y listed at held own.
                  let before = ends_before d parts o turns k.idle queues.fed e z here rise t begins.transfer begins.here its owners first i u y listed at held own in
                  omega (arith, before, leads);
              passed = λ i u j y listed at held own least below.
                  let over = old.stands.passed i u j y listed at held own least below in
                  let before = pieces_before d parts o turns k.idle queues.fed e z here rise t begins.transfer begins.here its owners first i u j y listed at held own below in
                  record { qtd = over.qtd; here = over.here; published = over.published; before = omega (arith, before, leads) };
            } in
            (f, omega arith)

        own_stands : StandsAt (driver_mended d) (parts_then k (32 * z.queue)) o sent e z
        own_stands = let found = by_next z.next refl onward in stands_on found.0 (λ own. found.1)

      stands_then : StandsAt (driver_mended d) (parts_then k (32 * z.queue)) o sent e z
      stands_then =
          ⊎_elim (λ (same : z.queue ≡ k.stalled.queue). own_stands same)
          (λ (differs : z.queue ≢ k.stalled.queue). stands_on old.stands (λ own. absurd (differs (same_blocks z.queue k.stalled.queue own)))) (cases_eq z.queue k.stalled.queue)

    pub fronts_then : FrontsStand (driver_mended d) (parts_then k) order out
    fronts_then e z here met = stands_then e z here (record { there = record { linked = met.there.linked; kept = met.there.kept }; near = met.near })
