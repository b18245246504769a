-- What is reported of each queue, once a transfer is lent.
use Rattle.std.proofs.Common.{◌≡◌, ◌≢◌, ℕ, suc, ◌*◌, ◌<◌, ◌≤◌, Bool, true, List, ◌∷◌, ◌++◌, slice_get, Some, ap, sym, subst, ◌∙◌, ⊎_elim, arith, false, length}
use Rattle.std.proofs.lemmas.Bool.{cases_eq, cases_Bool, true≢false}
use Rattle.std.proofs.lemmas.Option.{same_Some}
use Rattle.law_controller.proofs.Common.{same_hand}
use Rattle.word_mem.specs.Memory.{Mem}
use Rattle.mem_runs.specs.declared.slots.Slot.{Slot}
use Rattle.mem_runs.specs.Book.{slot_of}
use Rattle.drv_table.specs.declared.content.Endpoint.{Endpoint}
use Rattle.drv_table.specs.declared.content.Stage.{Stage}
use Rattle.drv_table.specs.declared.content.Command.TheVariants as unfinished
use Rattle.drv_table.specs.DriverContent.{DriverContent}
use Rattle.drv_table.specs.Words.{dummy_qtd}
use Rattle.claims_driver.specs.Owners.{EndpointRuns, TransferRuns}
use Rattle.law_structures.specs.lent_structures.Structures.{Element, Structures, StructureSets}
use Rattle.law_ring.specs.QueueParts.{IsQueuePart}
use Rattle.law_ring.specs.Hand.{Hand}
use Rattle.law_ring.specs.Order.{IsOrdered, AreAfter, IsSorted, IsAmong}
use Rattle.law_ring.proofs.SparedSparing.{accounts_are_spared}
use Rattle.law_controller.specs.controlled_streams.Reported.{IsReported, AreReported}
use Rattle.law_driver_ring.specs.Inventory.{IsLent}
use Rattle.law_driver.specs.chained_transfers.Turns.{AreInTurn}
use Rattle.law_driver.specs.chained_transfers.Out.{out_now, out_all}
use Rattle.law_driver_ring.specs.fed_queues.Places.{IsMet, IsLast, AreLast, AreStillOut, IsThere}
use Rattle.law_driver_ring.specs.TransferLaws.{lent_driver, HasPieces}
use Rattle.law_queues.specs.fed_lends.Numbers.{at_queue}
use Rattle.law_queues.specs.fed_lends.Streams.{second, new_order, new_out}
use Rattle.law_queues.specs.fed_lends.ToLend.{IsToBeLent, lent_now}
use Rattle.law_queues.proofs.lemmas.fed_lends.Numbering.{all_after, all_sorted}
use Rattle.law_queues.proofs.lemmas.fed_lends.Reporting.{StandsAt, numbers, old_number, spares_heads, sorted_both, sorted_same, lend_leaves_reports, lend_ends_queue}
use Rattle.law_queues.proofs.lemmas.fed_lends.Names.{first_stands}
use Rattle.law_queues.proofs.lemmas.fed_lends.Fed.{y_of, x_of, IsLending, buffers_same, other_lent, its_alive}
use Rattle.law_queues.proofs.lemmas.fed_lends.Order.{at_here, at_else, queue_apart, early, out_before, out_after, out_then, out_other, early_stands, early_owner}
use Rattle.law_driver.specs.chained_transfers.Asynchronous.{OnlyAsynchronous}
use Rattle.law_driver_ring.proofs.lemmas.fed_queues.Places.{stands_met}
use Rattle.drv_table.specs.declared.content.Transfer.{Transfer}

-- ---- another queue's reports

other_reports : (d : DriverContent) (slot : ℕ → Slot) (parts now : StructureSets) (y : TransferRuns) (x : EndpointRuns) (s : Stage) (ss : List Stage) (order : ℕ → ℕ) (out : List ℕ) (hand : Hand) (n : ℕ) (acc : List (List ℕ)) (reported : List ℕ) → HasPieces d slot parts now y x s ss → n ≢ 32 * x.queue → IsReported order out hand parts n acc reported → IsReported order out hand now n acc reported
other_reports d slot parts now y x s ss order out hand n acc reported has differs r =
    let same = has.beside n differs in
    let a = r.accounts in
    record {
      place = r.place;
      told = r.told;
      accounts = accounts_are_spared order order r.place r.place out hand hand parts now n r.told (same_hand hand) (spares_heads d y x s ss slot parts now n has)
          (λ e among. record { element = λ u here. has.still n e (Element u) here; bytes = λ u here. buffers_same d slot parts now y x s ss n e u has here })
          (subst (IsOrdered order r.place n) (sym same) a.ordered) a.sorted
          (λ e u among here from. a.published e u among (ap (λ (part : Structures). part e) (sym same) ∙ here) from)
          (λ e u here on. a.complete e u (ap (λ (part : Structures). part e) (sym same) ∙ here) on) a;
      sum = r.sum;
    }

-- ---- its own

-- what is known beside the lend
pub record IsOrdering (d : DriverContent) (m : Mem) (b : ℕ) (words : List ℕ) (parts now : StructureSets) (order : ℕ → ℕ → ℕ) (out : ℕ → List ℕ) : Type 0 where
  pub lending : IsLending d m b words parts now
  pub turns : AreInTurn d
  pub last : AreLast d parts order
  pub still_out : AreStillOut d out
  -- what is out of its queue is in its order
  pub sorted : IsSorted (order (32 * lending.ready.endpoint.queue)) (out (32 * lending.ready.endpoint.queue))
  -- numbers from here on are above all that stand
  pub from : ℕ
  pub above : order (32 * lending.ready.endpoint.queue) (32 * lending.ready.transfer.first) < from

pub is_there : (d : DriverContent) (m : Mem) (b : ℕ) (words : List ℕ) (x : Endpoint) → IsToBeLent d m b words → x.gone ≡ false → IsThere d x
is_there d m b words x k kept = record { linked = λ opens. never (sym k.command ∙ opens); kept = kept }
  where
    never : Some (unfinished.Publish b words) ≡ Some (unfinished.Open x.queue) → ⊥
    never same = cc

pub it_is_there : (d : DriverContent) (m : Mem) (b : ℕ) (words : List ℕ) → OnlyAsynchronous d → (k : IsToBeLent d m b words) → IsThere d k.endpoint
it_is_there d m b words only k = is_there d m b words k.endpoint k (its_alive d m b words only k)

-- what gets a transfer goes on, and so it is in the ring
pub it_is_met : (d : DriverContent) (m : Mem) (b : ℕ) (words : List ℕ) → OnlyAsynchronous d → (k : IsToBeLent d m b words) → IsMet d k.transfer.endpoint k.endpoint
it_is_met d m b words only k = stands_met d k.transfer.endpoint k.endpoint (only.endpoints k.transfer.endpoint k.endpoint k.here) k.going (it_is_there d m b words only k).linked

abbrev pub queue_of : {d : DriverContent} {m : Mem} {b : ℕ} {words : List ℕ} → IsToBeLent d m b words → ℕ
queue_of k = 32 * k.endpoint.queue

abbrev pub queue_order : {d : DriverContent} {m : Mem} {b : ℕ} {words : List ℕ} → IsToBeLent d m b words → ℕ → (ℕ → ℕ → ℕ) → ℕ → ℕ
queue_order {d = d} k from order = new_order d (y_of k) k.further from (order (32 * k.endpoint.queue))

abbrev pub order_lent : {d : DriverContent} {m : Mem} {b : ℕ} {words : List ℕ} → IsToBeLent d m b words → ℕ → (ℕ → ℕ → ℕ) → ℕ → ℕ → ℕ
order_lent k from order = at_queue order (32 * k.endpoint.queue) (queue_order k from order)

abbrev pub out_lent : {d : DriverContent} {m : Mem} {b : ℕ} {words : List ℕ} → IsToBeLent d m b words → (ℕ → List ℕ) → ℕ → List ℕ
out_lent {d = d} k out = at_queue out (32 * k.endpoint.queue) (out (32 * k.endpoint.queue) ++ new_out d (y_of k) k.further)

pub first_last : {d : DriverContent} {m : Mem} {b : ℕ} {words : List ℕ} {parts now : StructureSets} {order : ℕ → ℕ → ℕ} {out : ℕ → List ℕ} → (o : IsOrdering d m b words parts now order out) → IsLast (order (32 * o.lending.ready.endpoint.queue)) (parts (32 * o.lending.ready.endpoint.queue)) (32 * o.lending.ready.transfer.first)
first_last {b = b} {words = words} {parts = parts} {order = order} o =
    let k = o.lending.ready in
    subst (λ (c : ℕ). IsLast (order (32 * k.endpoint.queue)) (parts (32 * k.endpoint.queue)) (32 * c)) (sym k.first) (o.last.taken b words k.number k.transfer k.endpoint k.command k.made k.newest k.there k.first k.here)

-- of its own the place is no further than the new numbers
abbrev pub IsReportedBelow : (ℕ → ℕ) → List ℕ → Hand → StructureSets → ℕ → List (List ℕ) → List ℕ → ℕ → Type 0
IsReportedBelow order out hand parts n acc reported from = (r : IsReported order out hand parts n acc reported) × (r.place ≤ from)

pub all_reported : {d : DriverContent} {m : Mem} {b : ℕ} {words : List ℕ} {parts now : StructureSets} {order : ℕ → ℕ → ℕ} {out : ℕ → List ℕ} (heads : ℕ → Bool) (hand : Hand) (acc : ℕ → List (List ℕ)) (reported : ℕ → List ℕ) → (o : IsOrdering d m b words parts now order out) → IsQueuePart (queue_of o.lending.ready) (parts (queue_of o.lending.ready))
    → (heads (queue_of o.lending.ready) ≡ true → IsReportedBelow (order (queue_of o.lending.ready)) (out (queue_of o.lending.ready)) hand parts (queue_of o.lending.ready) (acc (queue_of o.lending.ready)) (reported (queue_of o.lending.ready)) o.from)
    → AreReported heads order out hand parts acc reported → AreReported heads (order_lent o.lending.ready o.from order) (out_lent o.lending.ready out) hand now acc reported
all_reported {d = d} {m = m} {parts = parts} {now = now} {order = order} {out = out} heads hand acc reported o on its others i counted =
    let l = o.lending in
    let k = l.ready in
    let n = 32 * k.endpoint.queue in
    let slot = slot_of (lent_driver d m).book.slots in
    let from = o.from in
    let f = queue_order k from order in
    let more = out n ++ new_out d (y_of k) k.further in
    ⊎_elim
    (λ (same : i ≡ n).
    let mine = its (ap heads (sym same) ∙ counted) in
    subst (λ (j : ℕ). IsReported (order_lent k from order j) (out_lent k out j) hand now j (acc j) (reported j)) (sym same)
    (subst (λ (g : ℕ → ℕ). IsReported g (out_lent k out n) hand now n (acc n) (reported n)) (sym (at_here order n f))
    (subst (λ (es : List ℕ). IsReported f es hand now n (acc n) (reported n)) (sym (at_here out n more))
    (lend_leaves_reports d m k.number (y_of k) (x_of k) k.stage k.further slot parts now (order n) (out n) hand (acc n) (reported n) from k.awaits l.pieces on (first_last o) o.above mine.0 mine.1))))
    (λ (differs : i ≢ n).
    subst (λ (g : ℕ → ℕ). IsReported g (out_lent k out i) hand now i (acc i) (reported i)) (sym (at_else order n f i differs))
    (subst (λ (es : List ℕ). IsReported (order i) es hand now i (acc i) (reported i)) (sym (at_else out n more i differs))
    (other_reports d slot parts now (y_of k) (x_of k) k.stage k.further (order i) (out i) hand i (acc i) (reported i) l.pieces differs (others i counted))))
    (cases_eq i n)

-- a place above those of its queue's reports, where these are kept
pub place_by : {heads : ℕ → Bool} {order : ℕ → ℕ → ℕ} {out : ℕ → List ℕ} {hand : Hand} {parts : StructureSets} {acc : ℕ → List (List ℕ)} {reported : ℕ → List ℕ} → AreReported heads order out hand parts acc reported → (n : ℕ) (c : Bool) → heads n ≡ c → ℕ
place_by reports n true on = (reports n on).place
place_by reports n false off = 0

pub reported_below : {heads : ℕ → Bool} {order : ℕ → ℕ → ℕ} {out : ℕ → List ℕ} {hand : Hand} {parts : StructureSets} {acc : ℕ → List (List ℕ)} {reported : ℕ → List ℕ} (reports : AreReported heads order out hand parts acc reported) (n : ℕ) (c : Bool) (is : heads n ≡ c) (from : ℕ) → place_by reports n c is ≤ from → heads n ≡ true
    → IsReportedBelow (order n) (out n) hand parts n (acc n) (reported n) from
unfolding place_by
reported_below reports n true is from below on = (reports n is, below)
reported_below reports n false is from below on = absurd (true≢false (sym on ∙ is))

-- what is out of a queue is in its order, where its reports are kept, or this is known else
pub sorted_by : {heads : ℕ → Bool} {order : ℕ → ℕ → ℕ} {out : ℕ → List ℕ} {hand : Hand} {parts : StructureSets} {acc : ℕ → List (List ℕ)} {reported : ℕ → List ℕ} → AreReported heads order out hand parts acc reported → (n : ℕ) → (heads n ≡ false → IsSorted (order n) (out n)) → IsSorted (order n) (out n)
sorted_by {heads = heads} reports n other = ⊎_elim (λ (on : heads n ≡ true). (reports n on).accounts.sorted) other (cases_Bool (heads n))

-- ---- the ends of the queues

dummies_last : {d : DriverContent} {m : Mem} {b : ℕ} {words : List ℕ} {parts now : StructureSets} {order : ℕ → ℕ → ℕ} {out : ℕ → List ℕ} → (o : IsOrdering d m b words parts now order out)
    → (e : ℕ) (x : Endpoint) → slice_get d.endpoints e ≡ Some x → x.gone ≡ false → IsLent (slot_of (lent_driver d m).book.slots x.dummy) → IsLast (order_lent o.lending.ready o.from order (32 * x.queue)) (now (32 * x.queue)) (32 * x.dummy)
dummies_last {d = d} {m = m} {b = b} {words = words} {parts = parts} {now = now} {order = order} o e x here kept lent =
    let l = o.lending in
    let k = l.ready in
    let n = 32 * k.endpoint.queue in
    let from = o.from in
    let f = queue_order k from order in
    ⊎_elim
    (λ (same : e ≡ k.transfer.endpoint).
    let is : x ≡ k.endpoint = same_Some x k.endpoint (sym here ∙ ap (slice_get d.endpoints) same ∙ k.here) in
    subst (λ (z : Endpoint). IsLast (order_lent k from order (32 * z.queue)) (now (32 * z.queue)) (32 * z.dummy)) (sym is)
    (subst (λ (g : ℕ → ℕ). IsLast g (now n) (32 * k.endpoint.dummy)) (sym (at_here order n f))
    (lend_ends_queue d m k.number (y_of k) (x_of k) k.stage k.further (slot_of (lent_driver d m).book.slots) parts now (order n) from k.awaits l.pieces (first_last o) o.above)))
    (λ (differs : e ≢ k.transfer.endpoint).
    let apart = queue_apart d m b words parts now e x l here kept differs in
    subst (λ (g : ℕ → ℕ). IsLast g (now (32 * x.queue)) (32 * x.dummy)) (sym (at_else order n f (32 * x.queue) apart))
    (subst (λ (part : Structures). IsLast (order (32 * x.queue)) part (32 * x.dummy)) (sym (l.pieces.beside (32 * x.queue) apart))
    (o.last.dummies e x here kept (other_lent d m b words parts now e x l here kept differs lent))))
    (cases_eq e k.transfer.endpoint)

-- ---- what is out

pub out_stays : {d : DriverContent} {m : Mem} {b : ℕ} {words : List ℕ} {parts now : StructureSets} {order : ℕ → ℕ → ℕ} {out : ℕ → List ℕ} → (o : IsOrdering d m b words parts now order out)
    → out (32 * o.lending.ready.endpoint.queue) ≡ early d o.lending.ready.number o.lending.ready.transfer.endpoint
out_stays {d = d} {m = m} {b = b} {words = words} o = let k = o.lending.ready in o.still_out k.transfer.endpoint k.endpoint k.here (it_is_there d m b words o.lending.asynchronous k) ∙ out_before d m b words k

-- each of these stands
pub out_stands : {d : DriverContent} {m : Mem} {b : ℕ} {words : List ℕ} {parts now : StructureSets} {order : ℕ → ℕ → ℕ} {out : ℕ → List ℕ} → (o : IsOrdering d m b words parts now order out)
    → (a : ℕ) → IsAmong a (out (32 * o.lending.ready.endpoint.queue)) → StandsAt (parts (32 * o.lending.ready.endpoint.queue)) a
out_stands {d = d} {m = m} {b = b} {words = words} {parts = parts} {now = now} o a among =
    let l = o.lending in
    early_stands d m b words parts now l o.turns a (subst (IsAmong a) (out_stays o) among)

pub all_out : {d : DriverContent} {m : Mem} {b : ℕ} {words : List ℕ} {parts now : StructureSets} {order : ℕ → ℕ → ℕ} {out : ℕ → List ℕ} → (o : IsOrdering d m b words parts now order out)
    → AreStillOut (lent_now d m) (out_lent o.lending.ready out)
all_out {d = d} {m = m} {b = b} {words = words} {parts = parts} {now = now} {out = out} o e x here met =
    let l = o.lending in
    let k = l.ready in
    let n = 32 * k.endpoint.queue in
    let more = out n ++ new_out d (y_of k) k.further in
    ⊎_elim
    (λ (same : e ≡ k.transfer.endpoint).
    let is : x ≡ k.endpoint = same_Some x k.endpoint (sym here ∙ ap (slice_get d.endpoints) same ∙ k.here) in
    ap (λ (z : Endpoint). out_lent k out (32 * z.queue)) is ∙ at_here out n more ∙ ap (λ (es : List ℕ). es ++ new_out d (y_of k) k.further) (out_stays o) ∙ sym (out_after d m b words k) ∙ ap (out_now (lent_now d m)) (sym same))
    (λ (differs : e ≢ k.transfer.endpoint).
    at_else out n more (32 * x.queue) (queue_apart d m b words parts now e x l here met.kept differs)
    ∙ o.still_out e x here (is_there d m b words x k met.kept) ∙ out_other d m b words d.command d.made e k differs ∙ sym (out_other d m b words d.command 1 e k differs))
    (cases_eq e k.transfer.endpoint)

-- what was out keeps its order, before the new ones
old_sorted : {d : DriverContent} {m : Mem} {b : ℕ} {words : List ℕ} {parts now : StructureSets} {order : ℕ → ℕ → ℕ} {out : ℕ → List ℕ} → (o : IsOrdering d m b words parts now order out) → IsSorted (queue_order o.lending.ready o.from order) (out (32 * o.lending.ready.endpoint.queue))
old_sorted {d = d} {m = m} {b = b} {words = words} {parts = parts} {now = now} {order = order} {out = out} o =
    let l = o.lending in
    let k = l.ready in
    let n = 32 * k.endpoint.queue in
    sorted_same (order n) (queue_order k o.from order) (out n)
    (λ e among. let z = out_stands o e among in old_number d (y_of k) (x_of k) k.stage k.further (slot_of (lent_driver d m).book.slots) parts now o.from (order n) e (Element z.qtd) l.pieces z.here) o.sorted

-- .. and before the first of the transfer
old_before : {d : DriverContent} {m : Mem} {b : ℕ} {words : List ℕ} {parts now : StructureSets} {order : ℕ → ℕ → ℕ} {out : ℕ → List ℕ} → (o : IsOrdering d m b words parts now order out) (e : ℕ) → IsAmong e (out (32 * o.lending.ready.endpoint.queue))
    → order (32 * o.lending.ready.endpoint.queue) e < order (32 * o.lending.ready.endpoint.queue) (32 * o.lending.ready.transfer.first)
old_before {d = d} {m = m} {b = b} {words = words} {parts = parts} {now = now} {order = order} {out = out} o e among =
    let l = o.lending in
    let k = l.ready in
    let n = 32 * k.endpoint.queue in
    let first = 32 * k.transfer.first in
    let z = out_stands o e among in
    first_last o e z.qtd z.here (λ same. early_owner d m b words parts now l o.turns (subst (IsAmong first) (out_stays o) (subst (λ (a : ℕ). IsAmong a (out n)) same among)))

old_after : {d : DriverContent} {m : Mem} {b : ℕ} {words : List ℕ} {parts now : StructureSets} {order : ℕ → ℕ → ℕ} {out : ℕ → List ℕ} → (o : IsOrdering d m b words parts now order out) (e : ℕ) → IsAmong e (out (32 * o.lending.ready.endpoint.queue)) → AreAfter (queue_order o.lending.ready o.from order) e (new_out d (y_of o.lending.ready) o.lending.ready.further)
old_after {d = d} {m = m} {b = b} {words = words} {parts = parts} {now = now} {order = order} {out = out} o e among =
    let l = o.lending in
    let k = l.ready in
    let n = 32 * k.endpoint.queue in
    let from = o.from in
    let f = queue_order k from order in
    let are = numbers d m k.number (y_of k) (x_of k) k.stage k.further from (order n) k.awaits in
    let z = out_stands o e among in
    let number = old_number d (y_of k) (x_of k) k.stage k.further (slot_of (lent_driver d m).book.slots) parts now from (order n) e (Element z.qtd) l.pieces z.here in
    let less = old_before o e among in
    let above = o.above in
    all_after f d.notes k.further (second d (y_of k)) from e are (omega (arith, number, less, above))

-- the first of the transfer has its place among them
first_sorted : {d : DriverContent} {m : Mem} {b : ℕ} {words : List ℕ} {parts now : StructureSets} {order : ℕ → ℕ → ℕ} {out : ℕ → List ℕ} → (o : IsOrdering d m b words parts now order out)
    → IsSorted (queue_order o.lending.ready o.from order) (out (32 * o.lending.ready.endpoint.queue) ++ (32 * o.lending.ready.transfer.first ∷ new_out d (y_of o.lending.ready) o.lending.ready.further))
first_sorted {d = d} {m = m} {b = b} {words = words} {parts = parts} {now = now} {order = order} {out = out} o =
    let l = o.lending in
    let k = l.ready in
    let n = 32 * k.endpoint.queue in
    let first = 32 * k.transfer.first in
    let slot = slot_of (lent_driver d m).book.slots in
    let from = o.from in
    let f = queue_order k from order in
    let are = numbers d m k.number (y_of k) (x_of k) k.stage k.further from (order n) k.awaits in
    let dummy = first_stands d m b words parts k l.fed in
    let mine = old_number d (y_of k) (x_of k) k.stage k.further slot parts now from (order n) first (Element dummy_qtd) l.pieces dummy in
    let above = o.above in
    sorted_both f (out n) (first ∷ new_out d (y_of k) k.further) (old_sorted o)
    (all_after f d.notes k.further (second d (y_of k)) from first are (omega (arith, mine, above)), all_sorted f d.notes k.further (second d (y_of k)) from are)
    (λ e among.
    let z = out_stands o e among in
    let number = old_number d (y_of k) (x_of k) k.stage k.further slot parts now from (order n) e (Element z.qtd) l.pieces z.here in
    let less = old_before o e among in
    (omega (arith, number, less, mine), old_after o e among))

-- what is out of each queue is in its order
pub in_order : {d : DriverContent} {m : Mem} {b : ℕ} {words : List ℕ} {parts now : StructureSets} {order : ℕ → ℕ → ℕ} {out : ℕ → List ℕ} → (o : IsOrdering d m b words parts now order out) → ((e : ℕ) (x : Endpoint) → slice_get d.endpoints e ≡ Some x → IsMet d e x → IsSorted (order (32 * x.queue)) (out (32 * x.queue))) → (e : ℕ) (x : Endpoint) → slice_get d.endpoints e ≡ Some x → IsMet (lent_now d m) e x
    → IsSorted (order_lent o.lending.ready o.from order (32 * x.queue)) (out_lent o.lending.ready out (32 * x.queue))
in_order {d = d} {m = m} {b = b} {words = words} {parts = parts} {now = now} {order = order} {out = out} o old e x here met =
    let l = o.lending in
    let k = l.ready in
    let n = 32 * k.endpoint.queue in
    let q = 32 * x.queue in
    let f = queue_order k o.from order in
    let new = new_out d (y_of k) k.further in
    ⊎_elim
    (λ (same : q ≡ n).
    subst (λ (j : ℕ). IsSorted (order_lent k o.from order j) (out_lent k out j)) (sym same)
    (subst (λ (g : ℕ → ℕ). IsSorted g (out_lent k out n)) (sym (at_here order n f))
    (subst (IsSorted f) (sym (at_here out n (out n ++ new)))
    (sorted_both f (out n) new (old_sorted o) (all_sorted f d.notes k.further (second d (y_of k)) o.from (numbers d m k.number (y_of k) (x_of k) k.stage k.further o.from (order n) k.awaits)) (λ i among. old_after o i among)))))
    (λ (differs : q ≢ n).
    subst (λ (g : ℕ → ℕ). IsSorted g (out_lent k out q)) (sym (at_else order n f q differs))
    (subst (IsSorted (order q)) (sym (at_else out n (out n ++ new) q differs)) (old e x here (record { there = is_there d m b words x k met.there.kept; near = met.near }))))
    (cases_eq q n)

pub all_sorted_out : {d : DriverContent} {m : Mem} {b : ℕ} {words : List ℕ} {parts now : StructureSets} {order : ℕ → ℕ → ℕ} {out : ℕ → List ℕ} → (o : IsOrdering d m b words parts now order out)
    → (e : ℕ) (x : Endpoint) → slice_get d.endpoints e ≡ Some x → e ≡ o.lending.ready.transfer.endpoint → IsSorted (order_lent o.lending.ready o.from order (32 * x.queue)) (out_all (lent_now d m) e)
all_sorted_out {d = d} {m = m} {b = b} {words = words} {parts = parts} {now = now} {order = order} {out = out} o e x here same =
    let l = o.lending in
    let k = l.ready in
    let n = 32 * k.endpoint.queue in
    let from = o.from in
    let f = queue_order k from order in
    let is : x ≡ k.endpoint = same_Some x k.endpoint (sym here ∙ ap (slice_get d.endpoints) same ∙ k.here) in
    let list : out_all (lent_now d m) e ≡ out n ++ (32 * k.transfer.first ∷ new_out d (y_of k) k.further) =
    ap (out_all (lent_now d m)) same ∙ out_then d m b words k ∙ ap (λ (es : List ℕ). es ++ (32 * k.transfer.first ∷ new_out d (y_of k) k.further)) (sym (out_stays o)) in
    subst (λ (z : Endpoint). IsSorted (order_lent k from order (32 * z.queue)) (out_all (lent_now d m) e)) (sym is)
    (subst (λ (g : ℕ → ℕ). IsSorted g (out_all (lent_now d m) e)) (sym (at_here order n f)) (subst (IsSorted f) (sym list) (first_sorted o)))

-- the newest transfer is this one
its_own : {d : DriverContent} {m : Mem} {b : ℕ} {words : List ℕ} {parts now : StructureSets} {order : ℕ → ℕ → ℕ} {out : ℕ → List ℕ} → (o : IsOrdering d m b words parts now order out)
    (t : ℕ) (y : Transfer) → suc t ≡ length d.transfers → slice_get d.transfers t ≡ Some y → y.endpoint ≡ o.lending.ready.transfer.endpoint
its_own {d = d} o t y newest there =
    let k = o.lending.ready in
    let same : t ≡ k.number = let last = k.newest in omega (arith, newest, last) in
    ap (λ (z : Transfer). z.endpoint) (same_Some y k.transfer (sym there ∙ ap (slice_get d.transfers) same ∙ k.there))

pub all_last : {d : DriverContent} {m : Mem} {b : ℕ} {words : List ℕ} {parts now : StructureSets} {order : ℕ → ℕ → ℕ} {out : ℕ → List ℕ} → (o : IsOrdering d m b words parts now order out)
    → AreLast (lent_now d m) now (order_lent o.lending.ready o.from order)
all_last o = record {
  dummies = dummies_last o;
  taken = λ c ws t y x command made newest there first here. absurd (omega (arith, made));
  sorted = λ c ws t y x command made newest there first here. all_sorted_out o y.endpoint x here (its_own o t y newest there);
}
