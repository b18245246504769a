-- A transfer that is lent leaves what stands of control queues.
use Rattle.std.proofs.Common.{◌≡◌, ◌≢◌, ℕ, suc, ◌*◌, ◌<◌, ◌≤◌, Bool, true, List, ◌∷◌, ◌++◌, length, slice_get, Some, option_map, ap, refl, sym, subst, ◌∙◌, ⊎_elim, inl, inr, arith}
use Rattle.std.proofs.lemmas.Bool.{cases_eq}
use Rattle.std.proofs.lemmas.Option.{same_Some}
use Rattle.law_ring.proofs.Common.{among_either}
use Rattle.law_queues.proofs.Common.{lower}
use Rattle.word_mem.specs.Memory.{Mem}
use Rattle.qh_qtd.specs.declared.qtd.Qtd.{Qtd}
use Rattle.qh_qtd.specs.declared.queue_head.Qh.{Qh}
use Rattle.mem_runs.specs.Book.{slot_of}
use Rattle.mem_runs.specs.declared.slots.Slot.{Slot}
use Rattle.drv_table.specs.declared.content.Endpoint.{Endpoint}
use Rattle.drv_table.specs.declared.content.Transfer.{Transfer}
use Rattle.drv_table.specs.DriverContent.{DriverContent}
use Rattle.drv_table.specs.Parts.{Parts as DriverParts}
use Rattle.claims_driver.specs.Owners.{TransferRuns, EndpointRuns, runs_of_transfer, runs_of_endpoint, views_of}
use Rattle.law_driver.specs.chained_transfers.Asynchronous.{OnlyAsynchronous}
use Rattle.law_structures.specs.lent_structures.Structures.{Structure, QueueHead, Element, Structures, StructureSets}
use Rattle.law_structures.proofs.lemmas.lent_structures.Altering.{found_queue}
use Rattle.law_ring.specs.Front.{SameRest, LinksRise}
use Rattle.law_ring.specs.Halted.{HaltStops, KeepsRest, IsKeptOrPublished}
use Rattle.law_ring.specs.Order.{IsSorted, IsAmong}
use Rattle.law_ring.specs.Told.{Endpoint as Told}
use Rattle.law_ring.proofs.HaltSparing.{lend_keeps_halts}
use Rattle.law_driver_ring.specs.Pieces.{IsNewQtd}
use Rattle.law_driver_ring.specs.TransferLaws.{lent_driver}
use Rattle.law_driver_ring.specs.fed_queues.Fed.{IsPublished}
use Rattle.law_driver_ring.specs.fed_queues.Places.{IsMet}
use Rattle.law_queues.specs.fed_lends.Commands.{QueuesStand}
use Rattle.law_queues.specs.fed_lends.Streams.{second, new_order, new_out}
use Rattle.law_queues.specs.fed_lends.ToLend.{IsToBeLent, lent_now}
use Rattle.law_queues.proofs.lemmas.fed_lends.Fed.{y_of}
use Rattle.law_queues.proofs.lemmas.fed_lends.Numbering.{AreNumbered, new_from}
use Rattle.law_queues.proofs.lemmas.fed_lends.Order.{early, out_before, out_after, out_then}
use Rattle.law_queues.proofs.lemmas.fed_lends.Reporting.{numbers, old_number, new_active}
use Rattle.law_queues.proofs.lemmas.fed_lends.Reports.{it_is_met}
use Rattle.law_queues.proofs.lemmas.fed_lends.Row.{after_is}
use Rattle.law_frames.specs.Met.{IsQueuePart}
use Rattle.law_queues.specs.lent_fronts.Whole.{IsLentBehind}
use Rattle.law_queues.proofs.lemmas.lent_fronts.Parts.{member_head}
use Rattle.law_queues.proofs.lemmas.lent_fronts.Rising.{rises_lent}
use Rattle.law_queues.specs.mended_heads.Waiting.{MendsStand}
use Rattle.law_queues.proofs.lemmas.mended_heads.Content.{any_one, OwesAlike, alike_same, owed_on}
use Rattle.law_queues.proofs.lemmas.mended_heads.Standing.{stand_on, lend_keeps_halted}
use Rattle.law_queues.specs.publish_laws.Stores.{next_of}
use Rattle.law_world.specs.steps.control_queues.Controls.{ControlsStand}
use Rattle.law_world.specs.steps.control_queues.Queues.{LendKeepsQueues}
use Rattle.law_world.specs.steps.control_queues.Rows.{LendKeepsControls}
use Rattle.law_world.proofs.lemmas.steps.lemmas.control_queues.Alike.{same_there, stand_by}
use Rattle.law_world.proofs.lemmas.steps.lemmas.control_queues.Lists.{part_sorted, one_less}

module _ (d : DriverContent) (m : Mem) (b : ℕ) (words : List ℕ) (member streams : ℕ → Bool) (ends : ℕ → Told) (parts now : StructureSets) (order order_now : ℕ → ℕ → ℕ) (out later : ℕ → List ℕ) (k : IsToBeLent d m b words) (only : OnlyAsynchronous d)
    (head : IsQueuePart (32 * k.endpoint.queue) (parts (32 * k.endpoint.queue))) (old : QueuesStand d member streams ends parts order out) (next : QueuesStand (lent_now d m) member streams ends now order_now later) (l : IsLentBehind d m parts now order order_now out later) (c : ControlsStand d parts order out) where
  abbrev f : DriverContent
  f = lent_now d m

  abbrev y : TransferRuns
  y = l.transfer

  abbrev x : EndpointRuns
  x = l.endpoint

  abbrev n : ℕ
  n = 32 * l.endpoint.queue

  abbrev slot : ℕ → Slot
  slot = slot_of (lent_driver d m).book.slots

  -- the order of its queue, and its qTDs that are out
  abbrev g : ℕ → ℕ
  g = new_order d l.transfer l.further l.place (order (32 * l.endpoint.queue))

  abbrev more : List ℕ
  more = new_out d l.transfer l.further

  -- ---- it is the transfer that is to be lent

  same_number : (i j : ℕ) → suc i ≡ length d.transfers → suc j ≡ length d.transfers → i ≡ j
  same_number i j one other = omega (arith, one, other)

  transfer_is : y ≡ runs_of_transfer k.transfer
  transfer_is = same_Some y (runs_of_transfer k.transfer) (sym l.awaits.here.here ∙ ap (λ (i : ℕ). (views_of d).transfer i) (same_number l.number k.number l.newest k.newest) ∙ ap (option_map runs_of_transfer) k.there)

  endpoint_is : x ≡ runs_of_endpoint k.endpoint
  endpoint_is =
      same_Some x (runs_of_endpoint k.endpoint) (sym l.awaits.here.queue.here ∙ ap (λ (z : TransferRuns). (views_of d).endpoint z.endpoint) transfer_is ∙ ap (option_map runs_of_endpoint) k.here)

  queue_is : n ≡ 32 * k.endpoint.queue
  queue_is = ap (λ (z : EndpointRuns). 32 * z.queue) endpoint_is

  its_met : IsMet d k.transfer.endpoint k.endpoint
  its_met = it_is_met d m b words only k

  on : IsQueuePart n (parts n)
  on = subst (λ (i : ℕ). IsQueuePart i (parts i)) (sym queue_is) head

  are : AreNumbered g d.notes l.further (second d y) l.place
  are = numbers d m l.number y x l.stage l.further l.place (order n) l.awaits

  old_is : (a : ℕ) (u : Structure) → parts n a ≡ Some u → g a ≡ order n a
  old_is a u there = old_number d y x l.stage l.further slot parts now l.place (order n) a u l.pieces there

  its_rises : LinksRise (order n) (parts n) → LinksRise g (now n)
  its_rises r = rises_lent d m l.number y x l.stage l.further slot parts now l.place (order n) l.awaits l.pieces on r

  -- ---- what is out

  abbrev sooner : List ℕ
  sooner = early d k.number k.transfer.endpoint

  abbrev first : ℕ
  first = 32 * k.transfer.first

  abbrev rest : List ℕ
  rest = new_out d (y_of k) k.further

  all_sorted : IsSorted (order_now n) (sooner ++ first ∷ rest)
  all_sorted =
      subst (λ (i : ℕ). IsSorted (order_now i) (sooner ++ first ∷ rest)) (sym queue_is)
      (subst (IsSorted (order_now (32 * k.endpoint.queue))) (out_then d m b words k)
      (next.last.sorted b words k.number k.transfer k.endpoint k.command (let e : 1 ≤ 1 = omega arith in e) k.newest k.there k.first k.here))

  later_is : later n ≡ sooner ++ rest
  later_is =
      ap later queue_is ∙ next.out_are k.transfer.endpoint k.endpoint k.here (record { linked = its_met.there.linked; kept = its_met.there.kept }) ∙ out_after d m b words k

  out_is : out n ≡ sooner
  out_is = ap out queue_is ∙ old.out_are k.transfer.endpoint k.endpoint k.here its_met.there ∙ out_before d m b words k

  its_sorted : IsSorted (order_now n) (later n)
  its_sorted = subst (IsSorted (order_now n)) (sym later_is) (part_sorted (order_now n) (sooner ++ rest) (sooner ++ first ∷ rest) (one_less first sooner rest) all_sorted)

  -- its first qTD stands where the queue ended, before all that is new
  publishes : IsPublished d parts b words
  publishes = old.fed.publishes b words k.command

  first_low : g first < l.place
  first_low =
      let h = publishes in
      let transfer : h.transfer ≡ k.transfer = same_Some h.transfer k.transfer (sym h.there ∙ ap (slice_get d.transfers) (same_number h.number k.number h.newest k.newest) ∙ k.there) in
      let endpoint : h.endpoint ≡ k.endpoint = same_Some h.endpoint k.endpoint (sym h.here ∙ ap (λ (z : Transfer). slice_get d.endpoints z.endpoint) transfer ∙ k.here) in
      let at : parts n first ≡ parts (32 * h.endpoint.queue) (32 * b) = ap (λ (i : ℕ). parts i first) (queue_is ∙ ap (λ (z : Endpoint). 32 * z.queue) (sym endpoint)) ∙ ap (λ (i : ℕ). parts (32 * h.endpoint.queue) (32 * i)) k.first in
      let same = old_is first _ (at ∙ h.stored) in
      let above = l.above in
      let name : 32 * y.first ≡ first = ap (λ (z : TransferRuns). 32 * z.first) transfer_is in
      let number = ap (order n) name in
      omega (arith, same, above, number)

  not_new : (a : ℕ) (u : Qtd) → IsAmong a (out n) → IsNewQtd d.notes x.dummy l.further (second d y) a u → ⊥
  not_new a u among new =
      let less : order_now n a < order_now n first = lower (order_now n) first a sooner rest all_sorted (subst (IsAmong a) out_is among) in
      let less_now : g a < g first = subst (λ (h : ℕ → ℕ). h a < h first) l.order_is less in
      let from = new_from g d.notes x.dummy l.further (second d y) l.place a u are new in
      let low = first_low in
      omega (arith, less_now, from, low)

  was_there : (a : ℕ) (u : Qtd) → IsAmong a (out n) → now n a ≡ Some (Element u) → parts n a ≡ Some (Element u)
  was_there a u among there = ⊎_elim (λ (was : parts n a ≡ Some (Element u)). was) (λ (new : IsNewQtd d.notes x.dummy l.further (second d y) a u). absurd (not_new a u among new)) (l.pieces.elements a u there)

  more_active : (a : ℕ) (u : Qtd) → IsAmong a more → now n a ≡ Some (Element u) → u.token.active ≡ true
  more_active a u among there = new_active (now n) d.notes x.dummy l.further (second d y) a u l.pieces.standing among there

  -- ---- a queue that was halted

  keeps_rest : KeepsRest (parts n) (now n) n
  keeps_rest r is = record {
    queue = on.queue;
    here = on.here;
    rest = subst (λ (z : Qh). SameRest on.queue z) (found_queue (now n n) on.queue r (l.pieces.still n n (QueueHead on.queue) on.here) is) (record { token = refl; current = refl; next = refl; alternate = refl });
  }

  its_stops : HaltStops (order n) (out n) n (parts n) → HaltStops (order_now n) (later n) n (now n)
  its_stops s =
      subst (λ (h : ℕ → ℕ). HaltStops h (later n) n (now n)) (sym l.order_is)
      (subst (λ (es : List ℕ). HaltStops g es n (now n)) (sym l.out_is)
      (lend_keeps_halts (order n) g (out n) more n (parts n) (now n) keeps_rest (λ a u among there. old_is a (Element u) there) was_there more_active s))

  its_published : (a : ℕ) (u : Qtd) → IsAmong a (later n) → now n a ≡ Some (Element u) → IsKeptOrPublished (out n) (parts n) a u
  its_published a u among there =
      ⊎_elim (λ (before : IsAmong a (out n)). inl (before, was_there a u before there)) (λ (new : IsAmong a more). inr (more_active a u new there)) (among_either a (out n) more (subst (IsAmong a) l.out_is among))

  published : (i a : ℕ) (u : Qtd) → IsAmong a (later i) → now i a ≡ Some (Element u) → IsKeptOrPublished (out i) (parts i) a u
  published i a u among there =
      ⊎_elim {C = IsKeptOrPublished (out i) (parts i) a u}
      (λ (same : i ≡ n).
      subst (λ (j : ℕ). IsKeptOrPublished (out j) (parts j) a u) (sym same) (its_published a u (subst (λ (j : ℕ). IsAmong a (later j)) same among) (ap (λ (j : ℕ). now j a) (sym same) ∙ there)))
      (λ (differs : i ≢ n). inl (subst (IsAmong a) (l.out_beside i differs) among, ap (λ (part : Structures). part a) (sym (l.pieces.beside i differs)) ∙ there)) (cases_eq i n)

  mends_now : MendsStand f now later
  mends_now =
      let alike : OwesAlike any_one d f = alike_same any_one d f refl refl refl in
      stand_on d f parts now out later refl (λ s owed. owed_on any_one d f s alike.owed owed tt)
      (λ s owed. lend_keeps_halted parts now out later (32 * s.queue) (l.pieces.still (32 * s.queue)) (published (32 * s.queue))) c.mends

  -- ---- all queues

  by_queue : (P : ℕ → Type 0) (i : ℕ) → P n → (i ≢ n → P i) → P i
  by_queue P i own other = ⊎_elim {C = P i} (λ (same : i ≡ n). subst P (sym same) own) other (cases_eq i n)

  lent_stands : ControlsStand f now order_now later
  lent_stands =
      stand_by d f parts now order order_now out later (same_there d f refl (λ q is. is) refl refl)
      (λ i z here there r.
      by_queue (λ (j : ℕ). LinksRise (order j) (parts j) → LinksRise (order_now j) (now j)) (32 * z.queue) (λ own. subst (λ (h : ℕ → ℕ). LinksRise h (now n)) (sym l.order_is) (its_rises own))
      (λ differs own.
      subst (λ (h : ℕ → ℕ). LinksRise h (now (32 * z.queue))) (sym (l.order_beside (32 * z.queue) differs)) (subst (LinksRise (order (32 * z.queue))) (sym (l.pieces.beside (32 * z.queue) differs)) own))
      r)
      (λ i z here there s.
      by_queue (λ (j : ℕ). IsSorted (order j) (out j) → IsSorted (order_now j) (later j)) (32 * z.queue) (λ own. its_sorted)
      (λ differs own.
      subst (λ (h : ℕ → ℕ). IsSorted h (later (32 * z.queue))) (sym (l.order_beside (32 * z.queue) differs)) (subst (IsSorted (order (32 * z.queue))) (sym (l.out_beside (32 * z.queue) differs)) own))
      s)
      (λ i z here met s.
      by_queue (λ (j : ℕ). HaltStops (order j) (out j) j (parts j) → HaltStops (order_now j) (later j) j (now j)) (32 * z.queue) its_stops
      (λ differs own.
      subst (λ (h : ℕ → ℕ). HaltStops h (later (32 * z.queue)) (32 * z.queue) (now (32 * z.queue))) (sym (l.order_beside (32 * z.queue) differs))
      (subst (λ (es : List ℕ). HaltStops (order (32 * z.queue)) es (32 * z.queue) (now (32 * z.queue))) (sym (l.out_beside (32 * z.queue) differs))
      (subst (HaltStops (order (32 * z.queue)) (out (32 * z.queue)) (32 * z.queue)) (sym (l.pieces.beside (32 * z.queue) differs)) own)))
      s)
      mends_now c

pub lend_keeps_queues : LendKeepsQueues
lend_keeps_queues d m b words member streams ends parts now order order_now out later k only head old next l c = lent_stands d m b words member streams ends parts now order order_now out later k only head old next l c

-- where a ring leads to it
pub lend_keeps_controls : LendKeepsControls
lend_keeps_controls p b words member streams ends parts now order order_now out later k turns members old next l c =
    let n = 32 * k.endpoint.queue in
    let is : (next_of p).driver ≡ lent_now p.driver p.memory = ap (λ (q : DriverParts). q.driver) (after_is p b words k) in
    let on = members n (old.met.each k.transfer.endpoint k.endpoint k.here (it_is_met p.driver p.memory b words turns.asynchronous k)) in
    subst (λ (z : DriverContent). ControlsStand z now order_now later) (sym is)
    (lend_keeps_queues p.driver p.memory b words member streams ends parts now order order_now out later k turns.asynchronous (member_head member n (parts n) on) old
    (subst (λ (z : DriverContent). QueuesStand z member streams ends now order_now later) is next) l c)
