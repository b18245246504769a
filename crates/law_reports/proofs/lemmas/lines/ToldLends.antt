-- A transfer's qTDs but its first are lent behind all that stood in its queue: nothing was moved of them, and what is told of each queue
-- stays.
use Rattle.std.proofs.Common.{◌≡◌, ◌≢◌, ℕ, ◌*◌, ◌<◌, ◌≤◌, true, List, slice_get, Option, Some, ap, refl, sym, subst, ◌∙◌, ⊎_elim, inl, inr, arith}
use Rattle.std.specs.Prelude.{◌⊎◌}
use Rattle.std.proofs.lemmas.Bool.{cases_eq, cases_lt}
use Rattle.law_controller.proofs.Common.{same_hand}
use Rattle.qh_qtd.specs.declared.qtd.Qtd.{Qtd}
use Rattle.qh_qtd.specs.declared.queue_head.Qh.{Qh}
use Rattle.mem_runs.specs.Book.{slot_of}
use Rattle.drv_table.specs.declared.content.Command.{Command}
use Rattle.drv_table.specs.declared.content.Command.TheVariants as unfinished
use Rattle.drv_table.specs.declared.rows.DriverRow.TheVariants as rows
use Rattle.drv_table.specs.DriverContent.{DriverContent}
use Rattle.drv_table.specs.Parts.{Parts}
use Rattle.law_driver.specs.queued_drivers.Queued.{queued}
use Rattle.law_structures.specs.lent_structures.Structures.{QueueHead, Element, Structures, StructureSets}
use Rattle.law_structures.specs.lent_structures.Sound.{IsWorking, IsSoundQueue}
use Rattle.law_structures.proofs.lemmas.lent_structures.Altering.{found_queue}
use Rattle.law_ring.specs.Hand.{Hand}
use Rattle.law_ring.specs.Order.{IsPlaced}
use Rattle.law_ring.specs.QueueParts.{IsQueuePart}
use Rattle.law_ring.specs.Sparing.{SparesElement}
use Rattle.law_ring.proofs.Joining.{all_beside}
use Rattle.law_controller.specs.controlled_streams.Reported.{IsReported}
use Rattle.law_driver_ring.specs.TransferLaws.{lent_driver}
use Rattle.law_driver_ring.specs.fed_queues.Places.{IsMet, IsLast}
use Rattle.law_driver_ring.proofs.lemmas.fed_queues.Places.{stands_met}
use Rattle.law_queues.specs.fed_lends.Streams.{new_order}
use Rattle.law_queues.specs.fed_lends.ToLend.{IsToBeLent, lent_now}
use Rattle.law_queues.proofs.lemmas.fed_lends.Reporting.{old_low, lend_leaves_reports}
use Rattle.law_queues.proofs.lemmas.fed_lends.Reports.{IsReportedBelow}
use Rattle.law_queues.specs.harvest_laws.Told.{ToldStands}
use Rattle.law_queues.proofs.lemmas.harvest_laws.Standing.{alike_is_told, spared_is_told}
use Rattle.law_queues.specs.lent_fronts.Stands.{parts_with}
use Rattle.law_queues.specs.lent_fronts.Whole.{IsLentBehind}
use Rattle.law_queues.proofs.lemmas.lent_fronts.Row.{lend_is_made}
use Rattle.law_world.specs.streams.Feeding.{there_of}
use Rattle.law_world.proofs.lemmas.streams.Told.{there_same}
use Rattle.law_world.specs.memory.Mixed.{Standing, IsMixedAt}
use Rattle.law_world.specs.memory.Steps.{told_parts, IsToldRow, HasBehind}
use Rattle.bus_world.specs.World.{World}
use Rattle.law_reports.specs.lines.Lined.{in_hand, Lines, IsTelling}
use Rattle.law_reports.proofs.lemmas.lines.Same.{same_at, relinked_reported}

-- ---- the place is no further than where new qTDs stand

below_or : (k place : ℕ) → (place ≤ k) ⊎ (k < place)
below_or k place = ⊎_elim (λ (more : k < place). inr more) (λ (most : place ≤ k). inl most) (cases_lt k place)

module _ (order : ℕ → ℕ) (out : List ℕ) (hand : Hand) (parts : StructureSets) (n first k : ℕ) (acc : List (List ℕ)) (reported : List ℕ)
    (part : IsQueuePart n (parts n)) (last : IsLast order (parts n) first) (above : order first < k) where
  low : (a : ℕ) (t : Qtd) → parts n a ≡ Some (Element t) → order a < k
  low a t here = old_low order (parts n) first k a t last above here

  lowered_head : (place : ℕ) → k < place → (q : Qh) → parts n n ≡ Some (QueueHead q) → IsPlaced order place q → IsPlaced order k q
  lowered_head place more q here p = record {
    next = λ b leads. let far = p.next b leads in omega (arith, far, more);
    alternate = λ b leads. let far = p.alternate b leads in omega (arith, far, more);
    current = λ on.
        let sound : IsSoundQueue (parts n) q = subst (IsSoundQueue (parts n)) (found_queue (parts n n) part.queue q part.here here)
        part.sound in
        let works : IsWorking (parts n) q = sound.work on in
        let before = low q.current works.element works.here in
        let after = p.current on in
        absurd (omega (arith, before, after, more));
  }

  pub lowered : IsReported order out hand parts n acc reported → IsReportedBelow order out hand parts n acc reported k
  lowered r = ⊎_elim (λ (most : r.place ≤ k). (r, most)) (λ (more : k < r.place). (at_k more, omega arith)) (below_or k r.place)
    where
      at_k : k < r.place → IsReported order out hand parts n acc reported
      at_k more = record {
        place = k;
        told = r.told;
        accounts = record {
          ordered = record {
            next = r.accounts.ordered.next;
            alternate = r.accounts.ordered.alternate;
            queue = λ q here. lowered_head r.place more q here (r.accounts.ordered.queue q here);
            fresh = λ a t here on from. let before = low a t here in absurd (omega (arith, before, from));
          };
          sorted = r.accounts.sorted;
          published = λ a t among here from. let before = low a t here in absurd (omega (arith, before, from));
          complete = r.accounts.complete;
          told = r.accounts.told;
        };
        sum = r.sum;
      }

module _ (s : Standing) (m : Lines) (w new : World) (k : IsMixedAt s w) (g : IsTelling s m w) (b : ℕ) (words : List ℕ)
    (get : IsToBeLent (queued w.driver) w.memory b words) (order : ℕ → ℕ → ℕ) (out : ℕ → List ℕ) (is : IsToldRow w new rows.Lend)
    (h : HasBehind s w b words get order out) where
  abbrev d : DriverContent
  d = queued w.driver

  abbrev l : IsLentBehind (queued w.driver) w.memory s.parts (parts_with get s.parts) s.order order s.out out
  l = h.behind

  abbrev n : ℕ
  n = 32 * l.endpoint.queue

  abbrev now : StructureSets
  now = parts_with get s.parts

  tells : queued new.driver ≡ lent_now (queued w.driver) w.memory
  tells = is.told ∙ ap (λ (q : Parts). q.driver) (lend_is_made (told_parts w) b words get)

  lent_was : (i : ℕ) → there_of (queued new.driver) i ≡ true → there_of (queued w.driver) i ≡ true
  lent_was i on =
      sym (there_same (queued w.driver) (lent_now (queued w.driver) w.memory) i refl refl)
      ∙ (ap (λ (c : DriverContent). there_of c i) (sym tells) ∙ on)

  -- ---- what is told

  spared : (i a : ℕ) → SparesElement s.parts (parts_with get s.parts) i a
  spared i a = record {
    element = λ t here. (h.elements i a t here).element t here;
    bytes = λ t here. (h.elements i a t here).bytes t here;
  }

  lent_told : ToldStands (queued new.driver) (in_hand s) (parts_with get s.parts) m.reported
  lent_told =
      subst (λ (c : DriverContent). ToldStands c (in_hand s) now m.reported) (sym tells)
      (alike_is_told (queued w.driver) (lent_now (queued w.driver) w.memory) (in_hand s) now m.reported
      (record { reports = refl; store = refl; endpoints = refl; transfers = refl; notes = refl })
      (λ x there. record { linked = there.linked; kept = there.kept }) (λ x opens. opens)
      (spared_is_told (queued w.driver) (in_hand s) (in_hand s) s.parts now m.reported (same_hand (in_hand s))
      (record { heads = λ e x here on. h.heads (32 * x.queue); done = λ e t x y a next on one. spared (32 * x.queue) (32 * a) }) g.told))

  -- ---- what was moved

  own_reported : there_of (queued w.driver) n ≡ true
      → IsReported (order n) (out n) (in_hand s) (parts_with get s.parts) n (m.acc n) (m.reported n)
  own_reported on =
      let below = lowered (s.order n) (s.out n) (in_hand s) s.parts n (32 * l.transfer.first) l.place (m.acc n) (m.reported n)
      (g.sound n on) l.last l.above
      (g.moved n on) in
      subst (λ (o : ℕ → ℕ). IsReported o (out n) (in_hand s) now n (m.acc n) (m.reported n)) (sym l.order_is)
      (subst (λ (es : List ℕ). IsReported (new_order d l.transfer l.further l.place (s.order n)) es (in_hand s) now n (m.acc n)
      (m.reported n)) (sym l.out_is)
      (lend_leaves_reports d w.memory l.number l.transfer l.endpoint l.stage l.further (slot_of (lent_driver d w.memory).book.slots)
      s.parts now (s.order n)
      (s.out n) (in_hand s) (m.acc n) (m.reported n) l.place l.awaits l.pieces (g.sound n on) l.last l.above below.0 below.1))

  other_reported : (i : ℕ) → i ≢ 32 * l.endpoint.queue → there_of (queued w.driver) i ≡ true
      → IsReported (order i) (out i) (in_hand s) (parts_with get s.parts) i (m.acc i) (m.reported i)
  other_reported i differs on =
      subst (λ (o : ℕ → ℕ). IsReported o (out i) (in_hand s) now i (m.acc i) (m.reported i)) (sym (l.order_beside i differs))
      (subst (λ (es : List ℕ). IsReported (s.order i) es (in_hand s) now i (m.acc i) (m.reported i)) (sym (l.out_beside i differs))
      (relinked_reported s.parts now i (same_at s.parts now i (l.pieces.beside i differs)) (s.order i) (s.out i) (in_hand s) (in_hand s)
      (m.acc i) (m.reported i)
      (same_hand (in_hand s)) (g.moved i on)))

  lent_moved : (i : ℕ) → there_of (queued w.driver) i ≡ true
      → IsReported (order i) (out i) (in_hand s) (parts_with get s.parts) i (m.acc i) (m.reported i)
  lent_moved i on =
      ⊎_elim
      (λ (same : i ≡ n).
      subst (λ (j : ℕ). IsReported (order j) (out j) (in_hand s) now j (m.acc j) (m.reported j)) (sym same)
      (own_reported (ap (there_of (queued w.driver)) (sym same) ∙ on)))
      (λ (differs : i ≢ n). other_reported i differs on) (cases_eq i n)

  -- ---- its queue head is met

  publish_not_open : (c : ℕ) → ◌≡◌ {A = Option Command} (Some (unfinished.Publish b words)) (Some (unfinished.Open c)) → ⊥
  publish_not_open c same = cc

  met : IsMet (queued w.driver) get.transfer.endpoint get.endpoint
  met =
      stands_met (queued w.driver) get.transfer.endpoint get.endpoint
      (k.turns.turns.asynchronous.endpoints get.transfer.endpoint get.endpoint get.here) get.going
      (λ opens. publish_not_open get.endpoint.queue (sym get.command ∙ opens))

  met_then : IsMet (lent_now (queued w.driver) w.memory) get.transfer.endpoint get.endpoint
  met_then = record { there = record { linked = met.there.linked; kept = met.there.kept }; near = met.near }

  module _ (mixed : IsMixedAt (record s { parts = parts_with get s.parts; order = order; out = out }) new) where
    sound_then : (i : ℕ) → there_of (queued w.driver) i ≡ true → IsQueuePart i (parts_with get s.parts i)
    sound_then i on =
        ⊎_elim
        (λ (same : i ≡ 32 * get.endpoint.queue).
        subst (λ (j : ℕ). IsQueuePart j (now j)) (sym same)
        (mixed.queues.sound get.transfer.endpoint get.endpoint (ap (λ (c : DriverContent). slice_get c.endpoints get.transfer.endpoint)
        tells ∙ get.here)
        (subst (λ (c : DriverContent). IsMet c get.transfer.endpoint get.endpoint) (sym tells) met_then)))
        (λ (differs : i ≢ 32 * get.endpoint.queue).
        subst (λ (part : Structures). IsQueuePart i part) (sym (all_beside s.parts (32 * get.endpoint.queue) _ i differs)) (g.sound i on))
        (cases_eq i (32 * get.endpoint.queue))

    pub lend_telling : IsTelling (record s { parts = parts_with get s.parts; order = order; out = out }) m new
    lend_telling = record {
      told = lent_told;
      moved = λ i on. lent_moved i (lent_was i on);
      sound = λ i on. sound_then i (lent_was i on);
    }
