-- The front of each queue, once a transfer is lent.
use Rattle.std.proofs.Common.{◌<◌, ◌≡◌, ◌≢◌, ℕ, zero, suc, ◌-◌, ◌*◌, ◌≤◌, Bool, true, false, not, ◌&&◌, cond, List, [], ◌∷◌, ◌++◌, length, slice_get, Some, ap, refl, sym, subst, ◌∙◌, ⊎_elim, inl, inr, arith}
use Rattle.std.proofs.lemmas.Bool.{cases_eq, false≢true}
use Rattle.std.proofs.lemmas.Option.{same_Some}
use Rattle.law_ring.proofs.Common.{among_either, none_some}
use Rattle.law_driver.proofs.Common.{times_of}
use Rattle.word_mem.specs.Memory.{Mem}
use Rattle.qh_qtd.specs.declared.qtd.Qtd.{Qtd}
use Rattle.link_words.specs.declared.kinds.QtdLink.TheVariants as qtd_links
use Rattle.link_words.specs.Links.{qtd_link_of}
use Rattle.mem_runs.specs.Book.{slot_of}
use Rattle.drv_table.specs.declared.content.Endpoint.{Endpoint}
use Rattle.drv_table.specs.declared.content.Transfer.{Transfer}
use Rattle.drv_table.specs.declared.content.QtdNote.{QtdNote}
use Rattle.drv_table.specs.declared.content.Stage.{Stage}
use Rattle.drv_table.specs.DriverContent.{DriverContent}
use Rattle.drv_table.specs.Harvests.{note_at}
use Rattle.drv_table.specs.Offers.{is_last}
use Rattle.claims_driver.specs.Leaving.{owes}
use Rattle.claims_driver.specs.Owners.{NoteRuns, note_in}
use Rattle.law_structures.specs.lent_structures.Structures.{Element, QueueHead, Structures, StructureSets}
use Rattle.law_structures.specs.lent_structures.Sound.{IsElement, LeadsOn, IsSoundQueue}
use Rattle.law_structures.proofs.lemmas.lent_structures.Altering.{found_queue}
use Rattle.law_ring.specs.Order.{IsAmong}
use Rattle.law_ring.specs.Front.{HasFront}
use Rattle.law_ring.proofs.FrontGoing.{front_is_spared}
use Rattle.law_driver.specs.chained_transfers.Chains.{piece_at}
use Rattle.law_driver.specs.chained_transfers.Out.{pieces_from}
use Rattle.law_queues.specs.released_queues.Fronts.{piece_address, end_at, StandsAt, FrontsStand}
use Rattle.law_queues.specs.standing_fronts.Reaching.{Reaches}
use Rattle.law_driver_ring.specs.TransferLaws.{lent_driver}
use Rattle.law_driver_ring.specs.Pieces.{stage_qtd, IsNewQtd}
use Rattle.law_queues.specs.fed_lends.Streams.{second, new_out}
use Rattle.law_queues.specs.fed_lends.ToLend.{lent_now}
use Rattle.law_queues.proofs.lemmas.fed_lends.Numbering.{new_from}
use Rattle.law_queues.proofs.lemmas.fed_lends.Reporting.{numbers, old_number, fresh_new, new_active}
use Rattle.law_queues.proofs.lemmas.fed_lends.Names.{older_published}
use Rattle.law_queues.proofs.lemmas.fed_lends.Fed.{y_of, x_of, IsLending, buffers_same}
use Rattle.law_queues.proofs.lemmas.fed_lends.Order.{at_here, at_else, queue_apart}
use Rattle.law_queues.proofs.lemmas.fed_lends.Reports.{IsOrdering, is_there, it_is_met, first_last, queue_order, order_lent, out_lent, out_stands}
use Rattle.law_frames.specs.Met.{IsQueuePart}
use Rattle.law_queues.proofs.lemmas.lent_fronts.Parts.{front_renumbered}

-- one of the new qTDs stands there
pub record HasNew (notes : List QtdNote) (dummy : ℕ) (ss : List Stage) (b a : ℕ) : Type 0 where
  pub qtd : Qtd
  pub new : IsNewQtd notes dummy ss b a qtd

-- ---- what is to be given back was reported

owed_reported : (r g : Bool) → 1 ≤ cond (r && not g) 1 0 → r ≡ true
owed_reported true g some = refl
owed_reported false g some = absurd (omega (arith, some))

-- so it isn't the newest transfer
pub not_newest : {d : DriverContent} {m : Mem} {b : ℕ} {words : List ℕ} {parts now : StructureSets} → (l : IsLending d m b words parts now) → (i t : ℕ) (y : Transfer) → slice_get d.harvested i ≡ Some t → slice_get d.transfers t ≡ Some y → t ≢ l.ready.number
not_newest {d = d} l i t y at there same =
    let k = l.ready in
    let is : y ≡ k.transfer = same_Some y k.transfer (sym there ∙ ap (slice_get d.transfers) same ∙ k.there) in
    let some = times_of d.harvested i t at in
    let owed = l.has.orderly.harvests t in
    let worth : owes (slice_get d.transfers t) ≡ cond (y.reported && not y.released) 1 0 = ap owes there in
    false≢true (sym k.fresh ∙ ap (λ (z : Transfer). z.reported) (sym is) ∙ owed_reported y.reported y.released (omega (arith, some, owed, worth)))

-- ---- small facts

next_piece : (note : ℕ → NoteRuns) (b i : ℕ) → (note (piece_at note b i)).next ≡ piece_at note b (suc i)
next_piece note b zero = refl
next_piece note b (suc i) = next_piece note (note b).next i

-- what is out of the new transfer didn't stand
new_named : (notes : List QtdNote) (dummy : ℕ) (ss : List Stage) (b a : ℕ) → IsAmong a (pieces_from (note_in notes) b (length ss)) → HasNew notes dummy ss b a
new_named notes dummy [] b a among = absurd among
new_named notes dummy (s ∷ ss) b a (inl is) = record { qtd = stage_qtd notes s b dummy (is_last ss); new = inl (is, refl) }
new_named notes dummy (s ∷ ss) b a (inr is) = let r = new_named notes dummy ss (note_at notes b).next a is in record { qtd = r.qtd; new = inr r.new }

not_there : (d : DriverContent) (m : Mem) (b : ℕ) (words : List ℕ) (parts now : StructureSets) → (l : IsLending d m b words parts now) → (a : ℕ) (t : Qtd) → IsAmong a (new_out d (y_of l.ready) l.ready.further) → parts (32 * l.ready.endpoint.queue) a ≡ Some (Element t) → ⊥
not_there d m b words parts now l a t among there =
    let k = l.ready in
    let r = new_named d.notes k.endpoint.dummy k.further (second d (y_of k)) a among in
    none_some (parts (32 * k.endpoint.queue) a) (Element t) (l.pieces.none_before a r.qtd r.new) there

-- a transfer that wasn't given back has a qTD
o_some : {d : DriverContent} {m : Mem} {b : ℕ} {words : List ℕ} {parts now : StructureSets} {order : ℕ → ℕ → ℕ} {out : ℕ → List ℕ} → IsOrdering d m b words parts now order out → (t : ℕ) (y : Transfer) → slice_get d.transfers t ≡ Some y → y.released ≡ false → 1 ≤ y.qtds
o_some o t y there held = let at = o.turns.places t y there held in let some = at.some in let most = at.most in omega (arith, some, most)

-- ---- its queue

-- the front of the queue that gets the transfer
its_front : {d : DriverContent} {m : Mem} {b : ℕ} {words : List ℕ} {parts now : StructureSets} {order : ℕ → ℕ → ℕ} {out : ℕ → List ℕ} → (o : IsOrdering d m b words parts now order out) (head : IsQueuePart (32 * o.lending.ready.endpoint.queue) (parts (32 * o.lending.ready.endpoint.queue))) → (front : ℕ) → front ≤ o.from
    → HasFront (order (32 * o.lending.ready.endpoint.queue)) front (out (32 * o.lending.ready.endpoint.queue)) (32 * o.lending.ready.endpoint.queue) (parts (32 * o.lending.ready.endpoint.queue))
    → HasFront (queue_order o.lending.ready o.from order) front (out (32 * o.lending.ready.endpoint.queue) ++ new_out d (y_of o.lending.ready) o.lending.ready.further) (32 * o.lending.ready.endpoint.queue) (now (32 * o.lending.ready.endpoint.queue))
its_front {d = d} {m = m} {b = b} {words = words} {parts = parts} {now = now} {order = order} {out = out} o head front most has =
    let l = o.lending in
    let k = l.ready in
    let p = l.pieces in
    let n = 32 * k.endpoint.queue in
    let slot = slot_of (lent_driver d m).book.slots in
    let from = o.from in
    let f = queue_order k from order in
    let new = new_out d (y_of k) k.further in
    let are = numbers d m k.number (y_of k) (x_of k) k.stage k.further from (order n) k.awaits in
    let first = front_renumbered (order n) f front (out n) n (parts n) head (λ a t there. old_number d (y_of k) (x_of k) k.stage k.further slot parts now from (order n) a (Element t) p there) has in
    front_is_spared f front (out n) (out n ++ new) n (parts n) (now n) first
    (λ q here. record {
      queue = q;
      here = subst (λ z. parts n n ≡ Some (QueueHead z)) (found_queue (now n n) head.queue q (p.still n n (QueueHead head.queue) head.here) here) head.here;
      rest = record { token = refl; current = refl; next = refl; alternate = refl };
    })
    (λ a t among here.
    ⊎_elim
    (λ (was : parts n a ≡ Some (Element t)).
    ⊎_elim (λ (before : IsAmong a (out n)). inl (before, was, ap length (buffers_same d slot parts now (y_of k) (x_of k) k.stage k.further n a t p was)))
    (λ (more : IsAmong a new). absurd (not_there d m b words parts now l a t more was)) (among_either a (out n) new among))
    (λ (fresh : IsNewQtd d.notes k.endpoint.dummy k.further (second d (y_of k)) a t).
    ⊎_elim
    (λ (before : IsAmong a (out n)).
    let z = out_stands o a before in
    absurd (none_some (parts n a) (Element z.qtd) (p.none_before a t fresh) z.here))
    (λ (more : IsAmong a new).
    let on = new_active (now n) d.notes k.endpoint.dummy k.further (second d (y_of k)) a t p.standing more here in
    let low = new_from f d.notes k.endpoint.dummy k.further (second d (y_of k)) from a t are fresh in
    inr (omega (arith, low, most), on, fresh_new (slot_of d.book.slots) (now n) d.notes k.endpoint.dummy k.further (second d (y_of k)) a t k.awaits.noted.1 p.buffered.1 p.none_at_zero fresh on))
    (among_either a (out n) new among))
    (p.elements a t here))

-- ---- what was harvested

-- the end of an older transfer stands
end_stands : {d : DriverContent} {m : Mem} {b : ℕ} {words : List ℕ} {parts now : StructureSets} {order : ℕ → ℕ → ℕ} {out : ℕ → List ℕ} → (o : IsOrdering d m b words parts now order out) (head : IsQueuePart (32 * o.lending.ready.endpoint.queue) (parts (32 * o.lending.ready.endpoint.queue))) → (t : ℕ) (y : Transfer) → t ≢ o.lending.ready.number → slice_get d.transfers t ≡ Some y → y.released ≡ false → y.endpoint ≡ o.lending.ready.transfer.endpoint → 1 ≤ y.qtds
    → IsElement (parts (32 * o.lending.ready.endpoint.queue)) (end_at d y)
end_stands {d = d} {m = m} {b = b} {words = words} {parts = parts} {order = order} o head t y differs there held at some =
    let l = o.lending in
    let k = l.ready in
    let n = 32 * k.endpoint.queue in
    let note = note_in d.notes in
    let none = older_published d m b t words y k differs in
    let i = y.qtds - 1 in
    let p = l.fed.pieces t i y k.endpoint there held (ap (slice_get d.endpoints) at ∙ k.here) (omega (arith, none)) (omega (arith, some)) in
    let c = piece_at note y.first i in
    let leads : LeadsOn (parts n) (qtd_link_of p.qtd.next) = (head.elements (32 * c) p.qtd p.here).next in
    let link : qtd_link_of p.qtd.next ≡ qtd_links.To (32 * (note_at d.notes c).next) = ap qtd_link_of p.noted.next in
    let led : IsElement (parts n) (32 * (note_at d.notes c).next) = subst (LeadsOn (parts n)) link leads in
    let same : (note_at d.notes c).next ≡ piece_at note y.first y.qtds = next_piece note y.first i ∙ ap (piece_at note y.first) (let e : suc i ≡ y.qtds = omega (arith, some) in e) in
    subst (λ (j : ℕ). IsElement (parts n) (32 * j)) same led

-- ---- all queues

pub fronts_stand : {d : DriverContent} {m : Mem} {b : ℕ} {words : List ℕ} {parts now : StructureSets} {order : ℕ → ℕ → ℕ} {out : ℕ → List ℕ} → (o : IsOrdering d m b words parts now order out) (head : IsQueuePart (32 * o.lending.ready.endpoint.queue) (parts (32 * o.lending.ready.endpoint.queue)))
    → (fronts : FrontsStand d parts order out) → (fronts o.lending.ready.transfer.endpoint o.lending.ready.endpoint o.lending.ready.here (it_is_met d m b words o.lending.asynchronous o.lending.ready)).front ≤ o.from
    → FrontsStand (lent_now d m) now (order_lent o.lending.ready o.from order) (out_lent o.lending.ready out)
fronts_stand {d = d} {m = m} {b = b} {words = words} {parts = parts} {now = now} {order = order} {out = out} o head fronts most e x here met =
    let l = o.lending in
    let k = l.ready in
    let n = 32 * k.endpoint.queue in
    let slot = slot_of (lent_driver d m).book.slots in
    let from = o.from in
    let f = queue_order k from order in
    let more = out n ++ new_out d (y_of k) k.further in
    ⊎_elim
    (λ (same : e ≡ k.transfer.endpoint).
    let is : x ≡ k.endpoint = same_Some x k.endpoint (sym here ∙ ap (slice_get d.endpoints) same ∙ k.here) in
    let s = fronts k.transfer.endpoint k.endpoint k.here (it_is_met d m b words l.asynchronous k) in
    let mine : StandsAt (lent_now d m) (now n) f more k.transfer.endpoint k.endpoint = record {
      front = s.front;
      has = its_front o head s.front most s.has;
      ended = λ i t y at there held of.
          let differs = not_newest l i t y at there in
          let stands = end_stands o head t y differs there held of (o_some o t y there held) in
          let number = old_number d (y_of k) (x_of k) k.stage k.further slot parts now from (order n) (end_at d y) (Element stands.qtd) l.pieces stands.here in
          let old = s.ended i t y at there held of in omega (arith, number, old);
      passed = λ i t j y at there held of after below.
          let p = s.passed i t j y at there held of after below in
          let a = piece_address d y j in
          let number = old_number d (y_of k) (x_of k) k.stage k.further slot parts now from (order n) a (Element p.qtd) l.pieces p.here in
          let old = p.before in
          record { qtd = p.qtd; here = l.pieces.still n a (Element p.qtd) p.here; published = p.published; before = omega (arith, number, old) };
    } in
    subst (λ (z : Endpoint). StandsAt (lent_now d m) (now (32 * z.queue)) (order_lent k from order (32 * z.queue)) (out_lent k out (32 * z.queue)) e z) (sym is)
    (subst (λ (i : ℕ). StandsAt (lent_now d m) (now n) (order_lent k from order n) (out_lent k out n) i k.endpoint) (sym same)
    (subst (λ (g : ℕ → ℕ). StandsAt (lent_now d m) (now n) g (out_lent k out n) k.transfer.endpoint k.endpoint) (sym (at_here order n f))
    (subst (λ (es : List ℕ). StandsAt (lent_now d m) (now n) f es k.transfer.endpoint k.endpoint) (sym (at_here out n more)) mine))))
    (λ (differs : e ≢ k.transfer.endpoint).
    let q = 32 * x.queue in
    let apart = queue_apart d m b words parts now e x l here met.there.kept differs in
    let s = fronts e x here (record { there = is_there d m b words x k met.there.kept; near = met.near }) in
    let other : StandsAt (lent_now d m) (parts q) (order q) (out q) e x = record { front = s.front; has = s.has; ended = s.ended; passed = s.passed } in
    subst (λ (part : Structures). StandsAt (lent_now d m) part (order_lent k from order q) (out_lent k out q) e x) (sym (l.pieces.beside q apart))
    (subst (λ (g : ℕ → ℕ). StandsAt (lent_now d m) (parts q) g (out_lent k out q) e x) (sym (at_else order n f q apart))
    (subst (λ (es : List ℕ). StandsAt (lent_now d m) (parts q) (order q) es e x) (sym (at_else out n more q apart)) other)))
    (cases_eq e k.transfer.endpoint)

-- ---- the queue's tail

-- nothing that stood comes after the first qTD, and all that is new does
old_below : {d : DriverContent} {m : Mem} {b : ℕ} {words : List ℕ} {parts now : StructureSets} {order : ℕ → ℕ → ℕ} {out : ℕ → List ℕ} → (o : IsOrdering d m b words parts now order out)
    → (c : ℕ) → IsElement (parts (32 * o.lending.ready.endpoint.queue)) c → order (32 * o.lending.ready.endpoint.queue) c < o.from
old_below {d = d} {m = m} {b = b} {words = words} {parts = parts} {order = order} o c there =
    let k = o.lending.ready in
    let n = 32 * k.endpoint.queue in
    let first = 32 * k.transfer.first in
    let above = o.above in
    ⊎_elim (λ (same : c ≡ first). let e = ap (order n) same in omega (arith, e, above))
    (λ (differs : c ≢ first). let low = first_last o c there.qtd there.here differs in omega (arith, low, above)) (cases_eq c first)

its_reach : {d : DriverContent} {m : Mem} {b : ℕ} {words : List ℕ} {parts now : StructureSets} {order : ℕ → ℕ → ℕ} {out : ℕ → List ℕ} → (o : IsOrdering d m b words parts now order out) (head : IsQueuePart (32 * o.lending.ready.endpoint.queue) (parts (32 * o.lending.ready.endpoint.queue)))
    → (c : ℕ) → IsElement (parts (32 * o.lending.ready.endpoint.queue)) c
    → Reaches d (parts (32 * o.lending.ready.endpoint.queue)) (order (32 * o.lending.ready.endpoint.queue)) (out (32 * o.lending.ready.endpoint.queue)) o.lending.ready.transfer.endpoint o.lending.ready.endpoint c
    → Reaches (lent_now d m) (now (32 * o.lending.ready.endpoint.queue)) (queue_order o.lending.ready o.from order) (out (32 * o.lending.ready.endpoint.queue) ++ new_out d (y_of o.lending.ready) o.lending.ready.further) o.lending.ready.transfer.endpoint o.lending.ready.endpoint c
its_reach {d = d} {m = m} {b = b} {words = words} {parts = parts} {now = now} {order = order} {out = out} o head c there r =
    let l = o.lending in
    let k = l.ready in
    let n = 32 * k.endpoint.queue in
    let slot = slot_of (lent_driver d m).book.slots in
    let from = o.from in
    let f = queue_order k from order in
    let s = r.stands in
    let are = numbers d m k.number (y_of k) (x_of k) k.stage k.further from (order n) k.awaits in
    let low = old_below o c there in
    let most = r.tail.most in
    let at : f c ≡ order n c = old_number d (y_of k) (x_of k) k.stage k.further slot parts now from (order n) c (Element there.qtd) l.pieces there.here in
    let same : (a : ℕ) → IsElement (parts n) a → f a ≡ order n a = λ a z. old_number d (y_of k) (x_of k) k.stage k.further slot parts now from (order n) a (Element z.qtd) l.pieces z.here in
    let new : (a : ℕ) (u : Qtd) → IsNewQtd d.notes k.endpoint.dummy k.further (second d (y_of k)) a u → f a ≤ f c → ⊥ = λ a u is less. let g = new_from f d.notes k.endpoint.dummy k.further (second d (y_of k)) from a u are is in omega (arith, g, less, at, low) in
    record {
      stands = record {
        front = s.front;
        has = its_front o head s.front (omega (arith, most, low)) s.has;
        ended = λ i t y here written held of.
            let differs = not_newest l i t y here written in
            let z = end_stands o head t y differs written held of (o_some o t y written held) in
            let number = same (end_at d y) z in
            let old = s.ended i t y here written held of in omega (arith, number, old);
        passed = λ i t j y here written held of after below.
            let p = s.passed i t j y here written held of after below in
            let a = piece_address d y j in
            let number = same a (record { qtd = p.qtd; here = p.here }) in
            let old = p.before in
            record { qtd = p.qtd; here = l.pieces.still n a (Element p.qtd) p.here; published = p.published; before = omega (arith, number, old) };
      };
      within = record {
        below = λ a u here on less.
            ⊎_elim
            (λ (was : parts n a ≡ Some (Element u)).
            let number = same a (record { qtd = u; here = was }) in
            let old = r.within.below a u was on (omega (arith, number, at, less)) in omega (arith, number, at, old))
            (λ (is : IsNewQtd d.notes k.endpoint.dummy k.further (second d (y_of k)) a u). absurd (new a u is less)) (l.pieces.elements a u here);
        next = λ a i u here on less leads.
            ⊎_elim
            (λ (was : parts n a ≡ Some (Element u)).
            let number = same a (record { qtd = u; here = was }) in
            let to : IsElement (parts n) i = subst (LeadsOn (parts n)) leads (head.elements a u was).next in
            let other = same i to in
            let old = r.within.next a i u was on (omega (arith, number, at, less)) leads in omega (arith, other, at, old))
            (λ (is : IsNewQtd d.notes k.endpoint.dummy k.further (second d (y_of k)) a u). absurd (new a u is less)) (l.pieces.elements a u here);
        alternate = λ a i u here on less leads.
            ⊎_elim
            (λ (was : parts n a ≡ Some (Element u)).
            let number = same a (record { qtd = u; here = was }) in
            let to : IsElement (parts n) i = subst (LeadsOn (parts n)) leads (head.elements a u was).alternate in
            let other = same i to in
            let old = r.within.alternate a i u was on (omega (arith, number, at, less)) leads in omega (arith, other, at, old))
            (λ (is : IsNewQtd d.notes k.endpoint.dummy k.further (second d (y_of k)) a u). absurd (new a u is less)) (l.pieces.elements a u here);
      };
      tail = record {
        most = omega (arith, most, at);
        rest = λ q i here off idle leads.
            let is : head.queue ≡ q = found_queue (now n n) head.queue q (l.pieces.still n n (QueueHead head.queue) head.here) here in
            let was : parts n n ≡ Some (QueueHead q) = subst (λ z. parts n n ≡ Some (QueueHead z)) is head.here in
            let sound : IsSoundQueue (parts n) q = subst (IsSoundQueue (parts n)) is head.sound in
            let to : IsElement (parts n) i = subst (LeadsOn (parts n)) leads (sound.rest off idle) in
            let other = same i to in
            let old = r.tail.rest q i was off idle leads in omega (arith, other, at, old);
      };
    }

-- ---- tails

-- a tail that stood is one still, as all new qTDs come after it
pub reaches_on : {d : DriverContent} {m : Mem} {b : ℕ} {words : List ℕ} {parts now : StructureSets} {order : ℕ → ℕ → ℕ} {out : ℕ → List ℕ} → (o : IsOrdering d m b words parts now order out) (head : IsQueuePart (32 * o.lending.ready.endpoint.queue) (parts (32 * o.lending.ready.endpoint.queue)))
    → (e : ℕ) (x : Endpoint) (c : ℕ) → slice_get d.endpoints e ≡ Some x → x.gone ≡ false → IsElement (parts (32 * x.queue)) c → Reaches d (parts (32 * x.queue)) (order (32 * x.queue)) (out (32 * x.queue)) e x c
    → Reaches (lent_now d m) (now (32 * x.queue)) (order_lent o.lending.ready o.from order (32 * x.queue)) (out_lent o.lending.ready out (32 * x.queue)) e x c
reaches_on {d = d} {m = m} {b = b} {words = words} {parts = parts} {now = now} {order = order} {out = out} o head e x c here kept tail r =
    let l = o.lending in
    let k = l.ready in
    let n = 32 * k.endpoint.queue in
    let slot = slot_of (lent_driver d m).book.slots in
    let from = o.from in
    let f = queue_order k from order in
    let more = out n ++ new_out d (y_of k) k.further in
    ⊎_elim
    (λ (same : e ≡ k.transfer.endpoint).
    let is : x ≡ k.endpoint = same_Some x k.endpoint (sym here ∙ ap (slice_get d.endpoints) same ∙ k.here) in
    let there : IsElement (parts n) c = subst (λ (z : Endpoint). IsElement (parts (32 * z.queue)) c) is tail in
    let before : Reaches d (parts n) (order n) (out n) k.transfer.endpoint k.endpoint c =
    subst (λ (i : ℕ). Reaches d (parts n) (order n) (out n) i k.endpoint c) same (subst (λ (z : Endpoint). Reaches d (parts (32 * z.queue)) (order (32 * z.queue)) (out (32 * z.queue)) e z c) is r) in
    let mine = its_reach o head c there before in
    subst (λ (z : Endpoint). Reaches (lent_now d m) (now (32 * z.queue)) (order_lent k from order (32 * z.queue)) (out_lent k out (32 * z.queue)) e z c) (sym is)
    (subst (λ (i : ℕ). Reaches (lent_now d m) (now n) (order_lent k from order n) (out_lent k out n) i k.endpoint c) (sym same)
    (subst (λ (g : ℕ → ℕ). Reaches (lent_now d m) (now n) g (out_lent k out n) k.transfer.endpoint k.endpoint c) (sym (at_here order n f))
    (subst (λ (es : List ℕ). Reaches (lent_now d m) (now n) f es k.transfer.endpoint k.endpoint c) (sym (at_here out n more)) mine))))
    (λ (differs : e ≢ k.transfer.endpoint).
    let q = 32 * x.queue in
    let apart = queue_apart d m b words parts now e x l here kept differs in
    let s = r.stands in
    let other : Reaches (lent_now d m) (parts q) (order q) (out q) e x c = record { stands = record { front = s.front; has = s.has; ended = s.ended; passed = s.passed }; within = r.within; tail = r.tail } in
    subst (λ (part : Structures). Reaches (lent_now d m) part (order_lent k from order q) (out_lent k out q) e x c) (sym (l.pieces.beside q apart))
    (subst (λ (g : ℕ → ℕ). Reaches (lent_now d m) (parts q) g (out_lent k out q) e x c) (sym (at_else order n f q apart))
    (subst (λ (es : List ℕ). Reaches (lent_now d m) (parts q) (order q) es e x c) (sym (at_else out n more q apart)) other)))
    (cases_eq e k.transfer.endpoint)
