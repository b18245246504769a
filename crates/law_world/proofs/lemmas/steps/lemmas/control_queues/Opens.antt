-- An open is finished: what stands of control queues, and each front, are left, and of the new queue nothing is out.
use Rattle.std.proofs.Common.{◌≡◌, ◌≢◌, ℕ, ◌-◌, ◌*◌, Bool, false, List, [], length, slice_get, Option, Some, None, ap, refl, sym, subst, ◌∙◌, ⊎_elim}
use Rattle.std.proofs.lemmas.Bool.{cases_eq}
use Rattle.law_world.proofs.Common2.{reach_beside}
use Rattle.drv_table.specs.declared.content.Command.{Command}
use Rattle.drv_table.specs.declared.content.Command.TheVariants as unfinished
use Rattle.drv_table.specs.declared.content.Endpoint.{Endpoint}
use Rattle.drv_table.specs.DriverContent.{DriverContent}
use Rattle.drv_table.specs.Words.{to_queue_head}
use Rattle.claims_driver.specs.Leaving.{HasOwners}
use Rattle.law_structures.specs.lent_structures.Structures.{QueueHead, Structures, StructureSets, put}
use Rattle.law_ring.specs.Front.{LinksRise}
use Rattle.law_ring.specs.Halted.{HaltStops}
use Rattle.law_ring.specs.Order.{IsAmong, IsSorted}
use Rattle.law_ring.specs.Told.{Endpoint as Told}
use Rattle.law_driver_ring.specs.Linked.{head_at}
use Rattle.law_controller.specs.controlled_streams.Opened.{with_none}
use Rattle.law_controller.proofs.lemmas.controlled_streams.Beginning.{list_here, list_beside}
use Rattle.law_driver.specs.chained_transfers.AsynchronousTurns.{AsynchronousTakesTurns}
use Rattle.law_driver_ring.specs.fed_queues.Places.{IsThere, IsMet}
use Rattle.law_queues.specs.mended_heads.Standing.{KeepsHalted}
use Rattle.law_queues.specs.mended_heads.Waiting.{MendsStand}
use Rattle.law_queues.proofs.lemmas.mended_heads.Content.{any_one, OwesAlike, alike_same, owed_on}
use Rattle.law_queues.proofs.lemmas.mended_heads.Standing.{stand_on, keeps_same}
use Rattle.law_queues.specs.publish_laws.Stores.{QueuesThen}
use Rattle.law_queues.specs.released_queues.Fronts.{StandsAt, FrontsStand}
use Rattle.law_queues.specs.standing_fronts.Along.{LinksOfQueuesRise}
use Rattle.law_queues.specs.standing_fronts.Reaching.{Reaches}
use Rattle.law_queues.specs.standing_fronts.Tails.{tail_block, TailsStand}
use Rattle.law_queues.specs.lent_fronts.Stands.{AreSorted}
use Rattle.law_queues.specs.open_laws.Opens.{head_then}
use Rattle.law_queues.specs.open_laws.Queues.{IsOpenThere, open_finished}
use Rattle.law_queues.proofs.lemmas.open_laws.FinishedQueues as finished
use Rattle.law_queues.proofs.lemmas.open_laws.Linking as linking
use Rattle.law_queues.proofs.lemmas.open_laws.Standing.{stands_there}
use Rattle.law_world.specs.steps.control_queues.Controls.{ControlsStand}
use Rattle.law_world.specs.steps.control_queues.Queues.{OpenIsWhole, LinkKeepsControls}
use Rattle.law_world.specs.steps.control_queues.Rows.{OpenLinkKeepsControls}
use Rattle.law_world.proofs.lemmas.steps.lemmas.control_queues.Alike.{same_there, stand_by}
use Rattle.law_world.proofs.lemmas.steps.lemmas.control_queues.Heads.{rises_linked, stops_linked, halted_linked}
use Rattle.law_world.proofs.lemmas.steps.lemmas.control_queues.NewFronts.{stands_beside, new_rises, new_reach, new_front}

none_stops : (order : ℕ → ℕ) (n : ℕ) (part : Structures) → HaltStops order [] n part
none_stops order n part = record { head = λ a t q among. absurd among; later = λ a e t u among. absurd among }

module _ (d : DriverContent) (member streams : ℕ → Bool) (ends : ℕ → Told) (parts : StructureSets) (order : ℕ → ℕ → ℕ) (out : ℕ → List ℕ) (owners : HasOwners d) (turns : AsynchronousTakesTurns d) (k : IsOpenThere d parts) (stand : QueuesThen d member streams ends parts order out) where
  abbrev x : Endpoint
  x = k.endpoint

  abbrev n : ℕ
  n = 32 * k.endpoint.queue

  abbrev later : ℕ → List ℕ
  later = with_none out (32 * k.endpoint.queue)

  abbrev f : DriverContent
  f = open_finished d

  fewer : (m a : ℕ) → IsAmong a (later m) → IsAmong a (out m)
  fewer m a among =
      ⊎_elim (λ (same : m ≡ n). absurd (subst (IsAmong a) (ap later same ∙ list_here out n) among)) (λ (differs : m ≢ n). subst (IsAmong a) (list_beside out n m differs) among) (cases_eq m n)

  opened : (q : ℕ) → d.command ≡ Some (unfinished.Open q) → q ≡ x.queue
  opened q is = same (sym is ∙ k.command)
    where
      same : ◌≡◌ {A = Option Command} (Some (unfinished.Open q)) (Some (unfinished.Open x.queue)) → q ≡ x.queue
      same e = cc

  was_there : (i : ℕ) (y : Endpoint) → 32 * y.queue ≢ n → IsThere f y → IsThere d y
  was_there i y differs there = record { linked = λ is. differs (ap (λ (q : ℕ). 32 * q) (opened y.queue is)); kept = there.kept }

  was_met : (i : ℕ) (y : Endpoint) → 32 * y.queue ≢ n → IsMet f i y → IsMet d i y
  was_met i y differs met = record { there = was_there i y differs met.there; near = met.near }

  -- ---- control queues

  its_rises : (m : ℕ) → m ≡ n → LinksRise (order m) (parts m)
  its_rises m same = subst (λ (j : ℕ). LinksRise (order j) (parts j)) (sym same) (new_rises (order n) x (parts n) k.part)

  its_sorted : (m : ℕ) → m ≡ n → IsSorted (order m) (later m)
  its_sorted m same = subst (IsSorted (order m)) (sym (ap later same ∙ list_here out n)) tt

  fewer_halted : (m : ℕ) → KeepsHalted parts parts out later m
  fewer_halted m = let same = keeps_same parts out m in record { head = same.head; published = λ a t among is. same.published a t (fewer m a among) is }

  mends_then : MendsStand d parts out → MendsStand f parts later
  mends_then k =
      let alike : OwesAlike any_one d f = alike_same any_one d f refl refl refl in
      stand_on d f parts parts out later refl (λ s owed. owed_on any_one d f s alike.owed owed tt) (λ s owed. fewer_halted (32 * s.queue)) k

  pub controls_then : ControlsStand d parts order out → ControlsStand f parts order later
  controls_then c = record {
    rises = λ i y here there.
        ⊎_elim {C = LinksRise (order (32 * y.queue)) (parts (32 * y.queue))} (λ (same : 32 * y.queue ≡ n). its_rises (32 * y.queue) same)
        (λ (differs : 32 * y.queue ≢ n). c.rises i y here (was_there i y differs there)) (cases_eq (32 * y.queue) n);
    sorted = λ i y here there.
        ⊎_elim {C = IsSorted (order (32 * y.queue)) (later (32 * y.queue))} (λ (same : 32 * y.queue ≡ n). its_sorted (32 * y.queue) same)
        (λ (differs : 32 * y.queue ≢ n). subst (IsSorted (order (32 * y.queue))) (sym (list_beside out n (32 * y.queue) differs)) (c.sorted i y here (was_there i y differs there)))
        (cases_eq (32 * y.queue) n);
    stops = λ i y here met.
        ⊎_elim {C = HaltStops (order (32 * y.queue)) (later (32 * y.queue)) (32 * y.queue) (parts (32 * y.queue))}
        (λ (same : 32 * y.queue ≡ n).
        subst (λ (es : List ℕ). HaltStops (order (32 * y.queue)) es (32 * y.queue) (parts (32 * y.queue))) (sym (ap later same ∙ list_here out n)) (none_stops (order (32 * y.queue)) (32 * y.queue) (parts (32 * y.queue))))
        (λ (differs : 32 * y.queue ≢ n).
        subst (λ (es : List ℕ). HaltStops (order (32 * y.queue)) es (32 * y.queue) (parts (32 * y.queue))) (sym (list_beside out n (32 * y.queue) differs)) (c.stops i y here (was_met i y differs met)))
        (cases_eq (32 * y.queue) n);
    mends = mends_then c.mends;
  }

  pub sorted_then : AreSorted d order out → AreSorted f order later
  sorted_then sorted i y here met =
      ⊎_elim {C = IsSorted (order (32 * y.queue)) (later (32 * y.queue))} (λ (same : 32 * y.queue ≡ n). its_sorted (32 * y.queue) same)
      (λ (differs : 32 * y.queue ≢ n). subst (IsSorted (order (32 * y.queue))) (sym (list_beside out n (32 * y.queue) differs)) (sorted i y here (was_met i y differs met))) (cases_eq (32 * y.queue) n)

  -- ---- fronts

  pub reached : Reaches f (parts n) (order n) (later n) k.number x (32 * x.dummy)
  reached = new_reach f (parts n) (order n) k.number x k.part k.none (later n) (list_here out n)

  pub front_there : reached.stands.front ≡ order n (32 * x.dummy)
  unfolding reached
  front_there = new_front f (parts n) (order n) k.number x k.part k.none (later n) (list_here out n)

  apart : (e : ℕ) (y : Endpoint) → slice_get d.endpoints e ≡ Some y → y.gone ≡ false → e ≢ k.number → 32 * y.queue ≢ n
  apart e y there kept differs = finished.apart d member streams ends parts order out owners turns k stand e y there kept differs

  pub fronts_then : FrontsStand d parts order out → FrontsStand f parts order later
  fronts_then fronts e y here met =
      let q = 32 * y.queue in
      ⊎_elim
      (λ (same : e ≡ k.number).
      let is : y ≡ x = finished.is_new d member streams ends parts order out owners turns k stand e y here same in
      subst (λ (z : Endpoint). StandsAt f (parts (32 * z.queue)) (order (32 * z.queue)) (later (32 * z.queue)) e z) (sym is)
      (subst (λ (i : ℕ). StandsAt f (parts n) (order n) (later n) i x) (sym same) reached.stands))
      (λ (differs : e ≢ k.number).
      let other = apart e y here met.there.kept differs in
      subst (λ (es : List ℕ). StandsAt f (parts q) (order q) es e y) (sym (list_beside out n q other))
      (stands_beside d d.book None 0 (parts q) (order q) (out q) e y (fronts e y here (was_met e y other met))))
      (cases_eq e k.number)

  pub reaches_then : (e : ℕ) (y : Endpoint) (c : ℕ) → 32 * y.queue ≢ n → Reaches d (parts (32 * y.queue)) (order (32 * y.queue)) (out (32 * y.queue)) e y c → Reaches f (parts (32 * y.queue)) (order (32 * y.queue)) (later (32 * y.queue)) e y c
  reaches_then e y c differs r =
      let q = 32 * y.queue in
      subst (λ (es : List ℕ). Reaches f (parts q) (order q) es e y c) (sym (list_beside out n q differs)) (reach_beside d d.book None 0 (parts q) (order q) (out q) e y c r)

  pub rising_then : LinksOfQueuesRise d parts order → LinksOfQueuesRise f parts order
  rising_then rising i y here met =
      ⊎_elim {C = LinksRise (order (32 * y.queue)) (parts (32 * y.queue))} (λ (same : 32 * y.queue ≡ n). its_rises (32 * y.queue) same)
      (λ (differs : 32 * y.queue ≢ n). rising i y here (was_met i y differs met)) (cases_eq (32 * y.queue) n)

  -- before, and afterwards, each tail is the inactive qTD
  pub tails_then : TailsStand d parts order out → TailsStand f parts order later
  tails_then tails e y here met =
      let q = 32 * y.queue in
      ⊎_elim
      (λ (same : e ≡ k.number).
      let is : y ≡ x = finished.is_new d member streams ends parts order out owners turns k stand e y here same in
      subst (λ (z : Endpoint). Reaches f (parts (32 * z.queue)) (order (32 * z.queue)) (later (32 * z.queue)) e z (32 * z.dummy)) (sym is)
      (subst (λ (i : ℕ). Reaches f (parts n) (order n) (later n) i x (32 * x.dummy)) (sym same) reached))
      (λ (differs : e ≢ k.number).
      let other = apart e y here met.there.kept differs in
      reaches_then e y (32 * y.dummy) other
      (subst (λ (c : Option Command). Reaches d (parts q) (order q) (out q) e y (32 * tail_block c (slice_get d.transfers (length d.transfers - 1)) e y.dummy)) k.command (tails e y here (was_met e y other met))))
      (cases_eq e k.number)

pub open_is_whole : OpenIsWhole
open_is_whole d member streams ends parts order out owners turns k q =
    let stand : QueuesThen d member streams ends parts order out = record { met = q.met; streams_are = q.streams_are; fed = q.fed; last = q.last; out_are = q.out_are } in
    let s = finished.open_finishes d member streams ends parts order out owners turns k stand in
    let n = 32 * k.endpoint.queue in
    record {
      queues = record { met = s.met; streams_are = s.streams_are; fed = s.fed; last = s.last; out_are = s.out_are };
      fronts = fronts_then d member streams ends parts order out owners turns k stand;
      sorted = sorted_then d member streams ends parts order out owners turns k stand;
      controls = controls_then d member streams ends parts order out owners turns k stand;
      rising = rising_then d member streams ends parts order out owners turns k stand;
      tails = tails_then d member streams ends parts order out owners turns k stand;
      empty = list_here out n;
      rises = new_rises (order n) k.endpoint (parts n) k.part;
      reached = reached d member streams ends parts order out owners turns k stand;
      front = front_there d member streams ends parts order out owners turns k stand;
      reaches = λ e y c differs r. reaches_then d member streams ends parts order out owners turns k stand e y c differs r;
      apart = λ e y there kept differs. finished.apart d member streams ends parts order out owners turns k stand e y there kept differs;
    }

-- ---- a link

pub link_keeps_controls : LinkKeepsControls
link_keeps_controls d parts order out n q l head c =
    let alike : OwesAlike any_one d d = alike_same any_one d d refl refl refl in
    stand_by d d parts (put parts n n (QueueHead (record q { link = l }))) order order out out (same_there d d refl (λ i is. is) refl refl) (λ i y here there r. rises_linked parts n q l head (order (32 * y.queue)) (32 * y.queue) r)
    (λ i y here there s. s) (λ i y here met s. stops_linked parts n q l head (order (32 * y.queue)) (out (32 * y.queue)) (out (32 * y.queue)) (32 * y.queue) (λ a among. among) s)
    (stand_on d d parts (put parts n n (QueueHead (record q { link = l }))) out out refl (λ s owed. owed_on any_one d d s alike.owed owed tt) (λ s owed. halted_linked parts n q l head out out (32 * s.queue) (λ a among. among)) c.mends) c

-- that of the head of the ring leads to the new queue head
pub open_link_keeps_controls : OpenLinkKeepsControls
open_link_keeps_controls p member streams ends parts order out k c =
    let later = with_none out (32 * k.lent.endpoint.queue) in
    subst (λ (g : DriverContent). ControlsStand g (head_then parts k.queue k.lent.endpoint) order later) (sym (linking.driver_is p member streams ends parts order out k))
    (link_keeps_controls (open_finished p.driver) parts order later head_at k.queue (to_queue_head k.lent.endpoint.queue) k.head
    (controls_then p.driver member streams ends parts order out k.sound.owners k.turns (stands_there p member streams ends parts order out k) k.stand c))
