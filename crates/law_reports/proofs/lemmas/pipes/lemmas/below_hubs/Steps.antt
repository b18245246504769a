-- Each step of a queue leaves a pipe below a hub as it must stand.
use Rattle.std.proofs.Common.{◌≡◌, ◌≢◌, ℕ, ◌-◌, ◌*◌, ◌==◌, ◌<◌, ◌≤◌, ◌&&◌, not, Bool, true, false, List, [], ◌∷◌, Some, ap, refl, sym}
use Rattle.std.proofs.Common.{subst, ◌∙◌, ⊎_elim, inl, inr, arith}
use Rattle.std.specs.Prelude.{◌⊎◌}
use Rattle.std.proofs.lemmas.Bool.{and_parts, cases_eq, cases_lt, eq-eqb, false≢true, true≢false}
use Rattle.qh_qtd.specs.declared.qtd.Qtd.{Qtd}
use Rattle.qh_qtd.specs.declared.queue_head.Qh.{Qh}
use Rattle.drv_table.specs.declared.content.Command.TheVariants as unfinished
use Rattle.drv_table.specs.declared.content.Endpoint.{Endpoint}
use Rattle.drv_table.specs.declared.content.QtdNote.{QtdNote}
use Rattle.drv_table.specs.declared.content.Stage.{Stage}
use Rattle.drv_table.specs.declared.content.Transfer.{Transfer}
use Rattle.drv_table.specs.Harvests.{note_at}
use Rattle.drv_table.specs.Words.{dummy_qtd, to_queue_head}
use Rattle.mem_runs.specs.Book.{slot_of}
use Rattle.law_driver.proofs.lemmas.chained_transfers.Holding.{held_alive}
use Rattle.law_driver.specs.queued_drivers.Queued.{queued, queued_parts}
use Rattle.law_driver.proofs.lemmas.queued_drivers.RowOwners.{queued_has_owners}
use Rattle.law_structures.specs.lent_structures.Structures.{QueueHead, Element, Structures, StructureSets, put}
use Rattle.law_structures.proofs.lemmas.lent_structures.Names.{put_beside, put_found}
use Rattle.law_ring.specs.Fewer.{without_those}
use Rattle.law_ring.specs.QueueParts.{IsQueuePart}
use Rattle.law_ring.specs.Hand.{Hand}
use Rattle.law_ring.specs.Sparing.{SparesElement}
use Rattle.law_ring.specs.Told.{Endpoint as Told}
use Rattle.law_ring.proofs.Returning.{those_found, those_beside}
use Rattle.law_controller.specs.controlled_streams.Returned.{KeepsBuffers}
use Rattle.law_controller.specs.frame_control.Joined.{joined}
use Rattle.law_controller.proofs.lemmas.controlled_streams.Returning.{spares_head, spares_element}
use Rattle.law_controller.proofs.lemmas.controlled_streams.Storing.{element_found}
use Rattle.law_controller.proofs.Common.{same_hand as hand_itself}
use Rattle.law_frames.specs.FrameHand.{FrameHand}
use Rattle.law_driver_ring.specs.Inventory.{sorts_of}
use Rattle.law_driver_ring.specs.Pieces.{IsNewQtd}
use Rattle.law_driver_ring.specs.Published.{partly}
use Rattle.law_driver_ring.specs.Released.{goes_of}
use Rattle.law_driver_ring.specs.TransferLaws.{lent_driver, HasPieces}
use Rattle.law_driver_ring.specs.fed_queues.Fed.{IsPublished}
use Rattle.law_driver_ring.specs.fed_queues.Places.{IsMet}
use Rattle.law_driver_ring.proofs.Common.{partly_idle}
use Rattle.law_queues.specs.fed_lends.ToLend.{IsToBeLent}
use Rattle.law_queues.specs.lent_fronts.Stands.{parts_with}
use Rattle.law_queues.specs.mended_heads.Mended.{head_at, mended, parts_then as parts_mended, hand_then as hand_mended}
use Rattle.law_queues.specs.open_laws.Queues.{IsOpenToLend, parts_opened}
use Rattle.law_queues.specs.publish_laws.Stores.{parts_then as parts_stored}
use Rattle.law_queues.specs.released_queues.Released.{IsReturning}
use Rattle.law_queues.specs.released_queues.Staying.{QueuesAreTold}
use Rattle.law_queues.proofs.lemmas.fed_lends.Fed.{y_of, x_of}
use Rattle.law_queues.proofs.lemmas.lent_fronts.Row.{both as lent_pieces}
use Rattle.law_queues.proofs.lemmas.mended_heads.Parts.{element_was}
use Rattle.law_queues.proofs.lemmas.released_queues.StayingParts.{head_stays, buffers_stay, may_go}
use Rattle.law_world.specs.steps.unlinked_streams.Unlinks.{IsAtUnlink, parts_unlinked, hand_unlinked}
use Rattle.law_world.specs.steps.endpoint_releases.Released.{without_queue}
use Rattle.law_controller.proofs.Common.{heads_stay}
use Rattle.law_controller.proofs.Common.{elements_stay}
use Rattle.law_world.proofs.lemmas.steps.lemmas.endpoint_releases.Owning.{queue_beside}
use Rattle.law_world.specs.memory.Mixed.{Standing, IsMixedAt}
use Rattle.law_world.specs.memory.Steps.{AreTold, IsNextStore, QueueStep, stays, harvests, returns, lends, stores, mends, begins, opens}
use Rattle.law_world.specs.memory.Steps.{unlinks, narrows, goes}
use Rattle.law_world.specs.memory.pipe_steps.Pipes.{AreByWay}
use Rattle.law_world.proofs.lemmas.memory.HarvestKept.{owners_of, driven_of, runs_of, fronts_of}
use Rattle.law_world.proofs.lemmas.memory.QueueViews.{queued_driven}
use Rattle.law_world.proofs.Common.{none_some}
use Rattle.law_world.proofs.lemmas.memory.lemmas.pipe_steps.Begins.{opening_apart}
use Rattle.law_world.proofs.lemmas.memory.lemmas.pipe_steps.Lends.{lend_spares}
use Rattle.law_world.proofs.lemmas.memory.lemmas.pipe_steps.Mends.{mend_spares}
use Rattle.law_world.proofs.lemmas.memory.lemmas.pipe_steps.Sparing.{AsksRight, Spares}
use Rattle.law_world.proofs.lemmas.memory.lemmas.pipe_steps.Stays.{stays_spares, unlink_spares}
use Rattle.law_world.proofs.lemmas.memory.lemmas.pipe_steps.Stores.{store_spares}
use Rattle.bus_world.specs.World.{World, driver_parts}
use Rattle.law_reports.specs.lines.Lined.{in_hand}
use Rattle.law_reports.specs.pipes.below_hubs.Steps.{PublishesStart, StepKeepsOutBehind, StepKeepsInBehind}
use Rattle.law_reports.proofs.lemmas.pipes.lemmas.below_hubs.Spared.{HostAlike, host_itself, host_linked, host_stale, same_frames}
use Rattle.law_reports.proofs.lemmas.pipes.lemmas.below_hubs.Spared.{stays_host, SparesQueue, out_spared, in_spared}

-- ---- new qTDs begin with a start-split

new_starts : (notes : List QtdNote) (dummy : ℕ) (ss : List Stage) (b a : ℕ) (u : Qtd) → IsNewQtd notes dummy ss b a u
    → u.token.split_state ≡ false
new_starts notes dummy [] b a u new = ap (λ (t : Qtd). t.token.split_state) new.1
new_starts notes dummy (s ∷ ss) b a u (inl new) = ap (λ (t : Qtd). t.token.split_state) new.1
new_starts notes dummy (s ∷ ss) b a u (inr new) = new_starts notes dummy ss (note_at notes b).next a u new

-- a queue head alone changes
heads_no_element : (q : Qh) (u : Qtd) → Element u ≡ QueueHead q → ⊥
heads_no_element q u e = cc

one_zero : {A : Type 0} (pid : ℕ) → pid ≡ 1 → pid ≡ 0 → A
one_zero pid one zero = let z : ⊥ = omega (arith, one, zero) in absurd z

module _ (sends takes : ℕ → ℕ → Bool) (ins outs : ℕ → Bool) (ends : ℕ → Told) (s : Standing) (w new : World) (mixed : IsMixedAt s w)
    (by_way : AreByWay (queued w.driver) sends takes ins outs ends) (starts : PublishesStart (queued w.driver)) (n pid : ℕ)
    (near : s.near n ≡ true) (which : ((pid ≡ 0) × (outs n ≡ true)) ⊎ ((pid ≡ 1) × (ins n ≡ true))) where
  abbrev Spared : StructureSets → Hand → Type 0
  Spared parts hand = SparesQueue s.parts parts (in_hand s) hand n pid

  abbrev Starts : StructureSets → Type 0
  Starts parts = (a : ℕ) (u : Qtd) → parts n a ≡ Some (Element u) → u.token.active ≡ true
      → (s.parts n a ≡ Some (Element u)) ⊎ (u.token.split_state ≡ false)

  some : (ins n ≡ true) ⊎ (outs n ≡ true)
  some = ⊎_elim (λ (o : (pid ≡ 0) × (outs n ≡ true)). inr o.1) (λ (i : (pid ≡ 1) × (ins n ≡ true)). inl i.1) which

  out_on : pid ≡ 0 → outs n ≡ true
  out_on zero = ⊎_elim (λ (o : (pid ≡ 0) × (outs n ≡ true)). o.1) (λ (i : (pid ≡ 1) × (ins n ≡ true)). one_zero pid i.0 zero) which

  pid_of : (p : ℕ) → AsksRight sends takes ins outs ends n p → p ≡ pid
  pid_of p right =
      ⊎_elim (λ (o : (pid ≡ 0) × (outs n ≡ true)). right.out_one o.1 ∙ sym o.0)
      (λ (i : (pid ≡ 1) × (ins n ≡ true)). right.in_one i.1 ∙ sym i.0) which

  of_spares : (parts : StructureSets) (hand : Hand) → Spares sends takes s.near ins outs ends s.parts parts (in_hand s) hand
      → HostAlike (in_hand s) hand → Starts parts → Spared parts hand
  of_spares parts hand k alike begin = record {
    hands = k.hands;
    unmoved = λ zero un. k.unmoved n (out_on zero) un;
    hosts = alike;
    head = k.heads n near some;
    work = λ q here on zero. k.work n q near (out_on zero) here on;
    asks = λ a u here on.
        ⊎_elim (λ (was : s.parts n a ≡ Some (Element u)). inl was)
        (λ (first : u.token.split_state ≡ false).
        ⊎_elim (λ (was : s.parts n a ≡ Some (Element u)). inl was)
        (λ (right : AsksRight sends takes ins outs ends n u.token.pid). inr (pid_of u.token.pid right, first))
        (k.asks n a u near here on)) (begin a u here on);
  }

  unchanged : (parts : StructureSets) → parts n ≡ s.parts n → Spared parts (in_hand s)
  unchanged parts same = record {
    hands = hand_itself (in_hand s);
    unmoved = λ zero un. un;
    hosts = host_itself (in_hand s);
    head = heads_stay s.parts parts n same;
    work = λ q here on zero. elements_stay s.parts parts n q.current same;
    asks = λ a u here on. inl (ap (λ (part : Structures). part a) (sym same) ∙ here);
  }

  told : (t : Standing) → AreTold s t → Spared t.parts (in_hand t)
  told t k =
      of_spares t.parts (in_hand t) (stays_spares sends takes ins outs ends s t k)
      (stays_host s.hand t.hand s.frame t.frame k.hand k.frame) (λ a u here on. inl ((k.parts n).elements_were a u here))

  -- ---- a transfer is given back

  module _ (i : ℕ) (y : Transfer) (x : Endpoint) (r : IsReturning (queued w.driver) i y x) where
    met : IsMet (queued w.driver) y.endpoint x
    met = record {
      there = record {
        linked = λ is. none_some (unfinished.Open x.queue) (sym r.free ∙ is);
        kept = held_alive (queued w.driver) i y x mixed.turns.turns.turns r.here r.held r.endpoint;
      };
      near = r.near;
    }

    part : IsQueuePart (32 * x.queue) (s.parts (32 * x.queue))
    part = mixed.queues.sound y.endpoint x r.endpoint met

    queues : QueuesAreTold s.parts (queued_parts (driver_parts w)) s.order s.out
    queues = record {
      driven = driven_of s w mixed;
      owners = owners_of s w mixed;
      in_runs = runs_of s w mixed;
      asynchronous = mixed.turns.turns.asynchronous;
      chained = mixed.turns.turns.chained;
      turns = mixed.turns.turns.turns;
      fed = mixed.queues.queues.fed;
      last = mixed.queues.queues.last;
      still_out = mixed.queues.queues.out_are;
      fronts = fronts_of s w mixed;
      rise = mixed.queues.controls.rises;
    }

    abbrev goes_there : ℕ → Bool
    goes_there = goes_of w.driver y

    off : goes_of w.driver y (32 * x.queue) ≡ false
    off = head_stays s.parts (queued_parts (driver_parts w)) s.order s.out i y x queues r part

    keep : KeepsBuffers (goes_of w.driver y) (s.parts (32 * x.queue))
    keep = buffers_stay s.parts (queued_parts (driver_parts w)) s.order s.out i y x queues r part

    works : (q : Qh) → s.parts n n ≡ Some (QueueHead q) → q.token.active ≡ true
        → SparesElement s.parts (without_those s.parts (32 * x.queue) (goes_of w.driver y)) n q.current
    works q here on =
        ⊎_elim
        (λ (same : n ≡ 32 * x.queue).
        subst (λ (m : ℕ). SparesElement s.parts (without_those s.parts (32 * x.queue) (goes_of w.driver y)) m q.current) (sym same)
        (spares_element s.parts (32 * x.queue) (goes_of w.driver y) off keep q.current
        ((may_go s.parts (queued_parts (driver_parts w)) s.order s.out i y x queues r part q
        (ap (λ (m : ℕ). s.parts m m) (sym same) ∙ here)).work on)))
        (λ (differs : n ≢ 32 * x.queue).
        elements_stay s.parts (without_those s.parts (32 * x.queue) (goes_of w.driver y)) n q.current
        (those_beside s.parts (32 * x.queue) (goes_of w.driver y) n differs)) (cases_eq n (32 * x.queue))

    returned : Spared (without_those s.parts (32 * x.queue) (goes_of w.driver y)) (in_hand s)
    returned = record {
      hands = hand_itself (in_hand s);
      unmoved = λ zero un. un;
      hosts = host_itself (in_hand s);
      head = spares_head s.parts (32 * x.queue) (goes_of w.driver y) off n;
      work = λ q here on zero. works q here on;
      asks = λ a u here on. inl (those_found s.parts (32 * x.queue) (goes_of w.driver y) n a (Element u) here);
    }

  -- ---- a transfer is lent

  module _ (b : ℕ) (words : List ℕ) (get : IsToBeLent (queued w.driver) w.memory b words) where
    pieces : HasPieces (queued w.driver) (slot_of (lent_driver (queued w.driver) w.memory).book.slots) s.parts (parts_with get s.parts)
        (y_of get) (x_of get) get.stage get.further
    pieces =
        (lent_pieces (queued w.driver) w.memory b words s.parts s.order s.out get
        (queued_has_owners w.driver mixed.now.framed.place.sound.owners mixed.turns) mixed.now.framed.place.sound.stands
        mixed.now.framed.place.sound.shape mixed.turns.turns.asynchronous mixed.turns.turns.turns
        (queued_driven w.driver (sorts_of s.parts) mixed.now.framed.driven) mixed.queues.queues.fed mixed.queues.queues.last
        mixed.queues.queues.out_are).0

    lent_starts : Starts (parts_with get s.parts)
    lent_starts a u here on =
        ⊎_elim
        (λ (same : n ≡ 32 * get.endpoint.queue).
        ⊎_elim (λ (was : s.parts (32 * get.endpoint.queue) a ≡ Some (Element u)). inl (ap (λ (m : ℕ). s.parts m a) same ∙ was))
        (λ (fresh : IsNewQtd (queued w.driver).notes get.endpoint.dummy get.further
        (note_at (queued w.driver).notes get.transfer.first).next a u).
        inr (new_starts (queued w.driver).notes get.endpoint.dummy get.further
        (note_at (queued w.driver).notes get.transfer.first).next a u fresh))
        (pieces.elements a u (ap (λ (m : ℕ). parts_with get s.parts m a) (sym same) ∙ here)))
        (λ (differs : n ≢ 32 * get.endpoint.queue). inl (ap (λ (part : Structures). part a) (sym (pieces.beside n differs)) ∙ here))
        (cases_eq n (32 * get.endpoint.queue))

  -- ---- its first qTD is published

  module _ (b : ℕ) (words : List ℕ) (g : IsPublished (queued w.driver) s.parts b words) (next : IsNextStore s w new b words g) where
    first : (partly g.qtd (queued w.driver).made).token.active ≡ true → (partly g.qtd (queued w.driver).made).token.split_state ≡ false
    first on =
        ⊎_elim (λ (low : (queued w.driver).made < 8). absurd (false≢true (sym (partly_idle g.qtd (queued w.driver).made low) ∙ on)))
        (λ (over : 8 ≤ (queued w.driver).made).
        let few = g.few in
        let eighth : (queued w.driver).made ≡ 8 = omega (arith, few, over) in
        ap (λ (j : ℕ). (partly g.qtd j).token.split_state) eighth ∙ starts b words g.qtd next.command next.made g.are g.range)
        (cases_lt (queued w.driver).made 8)

    stored_starts : Starts (parts_stored g)
    stored_starts a u here on =
        ⊎_elim
        (λ (is : (n ≡ 32 * g.endpoint.queue) × (a ≡ 32 * b) × (u ≡ partly g.qtd (queued w.driver).made)).
        inr (ap (λ (t : Qtd). t.token.split_state) is.2 ∙ first (ap (λ (t : Qtd). t.token.active) (sym is.2) ∙ on)))
        (λ (was : s.parts n a ≡ Some (Element u)). inl was)
        (element_found s.parts (32 * g.endpoint.queue) (32 * b) (partly g.qtd ((queued w.driver).made - 1))
        (partly g.qtd (queued w.driver).made) g.stored n a u here)

  -- ---- a queue head leaves the ring, or is lent

  module _ (k : IsAtUnlink (queued w.driver) s.near s.parts) where
    unlinked_starts : Starts (parts_unlinked s.parts k.before k.queue k.after)
    unlinked_starts a u here on =
        ⊎_elim
        (λ (is : (n ≡ 32 * k.before) × (a ≡ 32 * k.before) × (Element u ≡ QueueHead (record k.queue { link = to_queue_head k.after }))).
        absurd (heads_no_element (record k.queue { link = to_queue_head k.after }) u is.2))
        (λ (was : s.parts n a ≡ Some (Element u)). inl was)
        (put_found s.parts (32 * k.before) (32 * k.before) (QueueHead (record k.queue { link = to_queue_head k.after })) n a
        (Element u) here)

  module _ (k : IsOpenToLend (queued w.driver) w.memory) where
    lent_beside : parts_opened k s.parts n ≡ s.parts n
    lent_beside =
        let differs : n ≢ 32 * k.endpoint.queue = opening_apart (queued w.driver) s.near k.number k.endpoint
        (queued_has_owners w.driver mixed.now.framed.place.sound.owners mixed.turns) mixed.queues.queues.met k.here k.command k.fresh n near
        in
        put_beside (put s.parts (32 * k.endpoint.queue) (32 * k.endpoint.queue) (QueueHead k.queue)) (32 * k.endpoint.queue)
        (32 * k.endpoint.dummy) (Element dummy_qtd) n differs
        ∙ put_beside s.parts (32 * k.endpoint.queue) (32 * k.endpoint.queue) (QueueHead k.queue) n differs

  -- ---- an endpoint is given back

  gone : (t : Standing) (m : ℕ) → t.near n ≡ (s.near n && not (n == m)) → t.parts ≡ without_queue s.parts m → t.hand ≡ s.hand
      → t.frame ≡ s.frame → t.near n ≡ true → Spared t.parts (in_hand t)
  gone t m is_near is_parts is_hand is_frame on =
      let differs : n ≢ m = λ same. true≢false (sym ((and_parts (s.near n) (not (n == m)) (sym is_near ∙ on)).1)
      ∙ ap not (eq-eqb n m same)) in
      subst (λ (parts : StructureSets). Spared parts (in_hand t)) (sym is_parts)
      (subst (λ (hand : Hand). Spared (without_queue s.parts m) (joined hand t.frame)) (sym is_hand)
      (subst (λ (frame : FrameHand). Spared (without_queue s.parts m) (joined s.hand frame)) (sym is_frame)
      (unchanged (without_queue s.parts m) (queue_beside s.parts m n differs))))

  -- ---- each step

  pub spared : (t : Standing) → QueueStep s w new t → t.near n ≡ true → Spared t.parts (in_hand t)
  spared _ (stays t none still) on = told t still.told
  spared _ (harvests e t found due later row out) on = unchanged s.parts refl
  spared _ (returns t y x row r) on = returned t y x r
  spared _ (lends b words get order out row behind) on =
      of_spares (parts_with get s.parts) (in_hand s)
      (lend_spares s w mixed b words get sends takes ins outs ends by_way order out behind s.near (in_hand s)) (host_itself (in_hand s))
      (lent_starts b words get)
  spared _ (stores b words g next) on =
      of_spares (parts_stored g) (in_hand s)
      (store_spares s w new mixed b words g next sends takes ins outs ends by_way s.near (in_hand s)) (host_itself (in_hand s))
      (stored_starts b words g next)
  spared _ (mends k row) on =
      of_spares (parts_mended k) (joined (hand_mended k s.hand) s.frame) (mend_spares s w mixed k sends takes ins outs ends by_way)
      (same_frames s.hand (hand_mended k s.hand) s.frame (host_stale (32 * k.stalled.queue) s.hand))
      (λ a u here on. inl (element_was s.parts (32 * k.stalled.queue) (head_at k)
      (mended k.stalled (head_at k)) k.are.wait.0.stands.here n a u here))
  spared _ (begins k row alike) on = unchanged (parts_opened k s.parts) (lent_beside k)
  spared _ (opens k t alike opened) on = told t opened.told
  spared _ (unlinks k row) on =
      of_spares (parts_unlinked s.parts k.before k.queue k.after) (joined (hand_unlinked s.hand k.before k.after) s.frame)
      (unlink_spares (queued w.driver) s.near s.parts k sends takes ins outs ends s.hand s.frame)
      (same_frames s.hand (hand_unlinked s.hand k.before k.after) s.frame (host_linked (32 * k.before) (to_queue_head k.after) s.hand))
      (unlinked_starts k)
  spared _ (narrows member near_then row are fewer) on = unchanged s.parts refl
  spared _ (goes e x d t back is) on = gone t (32 * x.queue) (is.near n) is.parts is.hand is.frame on

pub step_keeps_out_behind : StepKeepsOutBehind
step_keeps_out_behind kind sends takes ins outs ends s t w new wire i place known n x mixed step by_way starts out near near_then b =
    out_spared s.parts t.parts (in_hand s) (in_hand t) n 0
    (spared sends takes ins outs ends s w new mixed by_way starts n 0 near (inl
    (refl, out)) t step near_then) kind wire i place known x refl b

pub step_keeps_in_behind : StepKeepsInBehind
step_keeps_in_behind kind packets sends takes ins outs ends s t w new wire i place timely known n x mixed step by_way starts on near
    near_then b =
    in_spared s.parts t.parts (in_hand s) (in_hand t) n 1
    (spared sends takes ins outs ends s w new mixed by_way starts n 1 near (inr (refl, on)) t step near_then) kind packets wire i place
    timely known x refl b
