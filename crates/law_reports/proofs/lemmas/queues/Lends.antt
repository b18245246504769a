-- A transfer is lent: its qTDs stand behind all that stood in its queue, but for its first, which is still to be stored.
use Rattle.std.proofs.Common.{◌≡◌, ◌≢◌, ℕ, ◌-◌, ◌*◌, ◌<◌, ◌≤◌, ◌⊎◌, ◌==◌, ◌&&◌, not, Bool, true, false, if◌then◌else◌, List, [], ◌∷◌, length, slice_get, Option, Some, option_map, ap, refl, sym, subst, ◌∙◌, ⊎_elim, inl, inr, arith}
use Rattle.std.proofs.lemmas.Bool.{cases_eq, eq-eqb, true≢false}
use Rattle.std.proofs.lemmas.Option.{same_Some}
use Rattle.law_ring.proofs.Common.{own_there}
use Rattle.link_words.specs.declared.kinds.QtdLink.{QtdLink}
use Rattle.link_words.specs.declared.kinds.QtdLink.TheVariants as qtd_links
use Rattle.link_words.specs.Links.{qtd_link_of}
use Rattle.qh_qtd.specs.declared.qtd.Qtd.{Qtd}
use Rattle.qh_qtd.specs.declared.queue_head.Qh.{Qh}
use Rattle.hc_copy.specs.Visits.{next_pointer}
use Rattle.mem_runs.specs.Book.{slot_of}
use Rattle.drv_table.specs.declared.content.Command.{Command}
use Rattle.drv_table.specs.declared.content.Command.TheVariants as unfinished
use Rattle.drv_table.specs.declared.content.QtdNote.{QtdNote}
use Rattle.drv_table.specs.declared.content.Stage.{Stage}
use Rattle.drv_table.specs.declared.content.Transfer.{Transfer}
use Rattle.drv_table.specs.declared.rows.DriverRow.TheVariants as rows
use Rattle.drv_table.specs.DriverContent.{DriverContent}
use Rattle.drv_table.specs.Harvests.{note_at}
use Rattle.drv_table.specs.Parts.{Parts}
use Rattle.claims_driver.specs.Owners.{EndpointRuns, TransferRuns, runs_of_endpoint, runs_of_transfer, views_of}
use Rattle.law_driver.specs.queued_drivers.Queued.{queued}
use Rattle.law_structures.specs.lent_structures.Structures.{Structure, QueueHead, Element, Structures, StructureSets}
use Rattle.law_structures.specs.lent_structures.Sound.{LeadsOn, IsElement, IsSoundQueue}
use Rattle.law_structures.proofs.lemmas.lent_structures.Altering.{found_queue}
use Rattle.law_ring.specs.QueueParts.{IsQueuePart}
use Rattle.law_driver_ring.specs.Pieces.{IsNewQtd}
use Rattle.law_driver_ring.specs.Published.{partly}
use Rattle.law_driver_ring.specs.TransferLaws.{lent_driver}
use Rattle.law_driver_ring.specs.Written.{last_block}
use Rattle.law_driver_ring.specs.fed_queues.Fed.{IsPublished}
use Rattle.law_driver_ring.specs.fed_queues.Places.{IsLast, IsMet}
use Rattle.law_queues.specs.fed_lends.Streams.{new_order}
use Rattle.law_queues.specs.fed_lends.ToLend.{IsToBeLent, lent_now}
use Rattle.law_queues.specs.lent_fronts.Stands.{parts_with}
use Rattle.law_queues.specs.standing_fronts.Tails.{tail_block, tail_of}
use Rattle.law_queues.proofs.lemmas.fed_lends.Numbering.{new_from}
use Rattle.law_queues.proofs.lemmas.fed_lends.Reporting.{numbers, old_number, lend_ends_queue}
use Rattle.law_queues.proofs.lemmas.fed_lends.Reports.{it_is_met}
use Rattle.law_queues.proofs.lemmas.lent_fronts.Row.{lend_is_made}
use Rattle.bus_world.specs.World.{World}
use Rattle.law_world.specs.memory.Mixed.{Standing, IsMixedAt}
use Rattle.law_world.specs.memory.Steps.{told_parts, IsToldRow, HasBehind}
use Rattle.law_reports.specs.queues.Onward.{LeadsOnward, place_at, place_of, IsSkipped, IsUnpublished, StandsOnward}
use Rattle.law_reports.proofs.lemmas.queues.Passing.{place_works, place_rests, place_leads}
use Rattle.law_reports.proofs.lemmas.queues.Places.{place_most}
use Rattle.law_reports.proofs.lemmas.queues.Spared.{spared_same, spared_stands}

-- ---- the new qTDs

-- each is active and leads onward, but the last
new_kind : (notes : List QtdNote) (dummy : ℕ) (ss : List Stage) (b a : ℕ) (u : Qtd) → IsNewQtd notes dummy ss b a u
    → ((u.token.active ≡ true) × (u.next.t ≡ false)) ⊎ ((u.token.active ≡ false) × (a ≡ 32 * last_block notes ss b))
new_kind notes dummy [] b a u new = inr (ap (λ (t : Qtd). t.token.active) new.1, new.0)
new_kind notes dummy (s ∷ ss) b a u (inl new) = inl (ap (λ (t : Qtd). t.token.active) new.1, ap (λ (t : Qtd). t.next.t) new.1)
new_kind notes dummy (s ∷ ss) b a u (inr new) = new_kind notes dummy ss (note_at notes b).next a u new

module _ (s : Standing) (w new : World) (mixed : IsMixedAt s w) (b : ℕ) (words : List ℕ)
    (get : IsToBeLent (queued w.driver) w.memory b words) (order : ℕ → ℕ → ℕ) (out : ℕ → List ℕ) (is : IsToldRow w new rows.Lend)
    (k : HasBehind s w b words get order out) where
  abbrev d : DriverContent
  d = queued w.driver

  abbrev f : DriverContent
  f = queued new.driver

  abbrev y : TransferRuns
  y = k.behind.transfer

  abbrev x : EndpointRuns
  x = k.behind.endpoint

  abbrev n : ℕ
  n = 32 * k.behind.endpoint.queue

  abbrev now : StructureSets
  now = parts_with get s.parts

  abbrev part : Structures
  part = s.parts (32 * k.behind.endpoint.queue)

  driver_is : queued new.driver ≡ lent_now (queued w.driver) w.memory
  driver_is = is.told ∙ ap (λ (p : Parts). p.driver) (lend_is_made (told_parts w) b words get)

  -- ---- whose transfer it is

  same_number : k.behind.number ≡ get.number
  same_number = let one = k.behind.newest in let two = get.newest in omega (arith, one, two)

  transfer_is : k.behind.transfer ≡ runs_of_transfer get.transfer
  transfer_is = same_Some k.behind.transfer (runs_of_transfer get.transfer)
      (sym k.behind.awaits.here.here ∙ ap (views_of d).transfer same_number ∙ ap (option_map runs_of_transfer) get.there)

  endpoint_is : k.behind.endpoint ≡ runs_of_endpoint get.endpoint
  endpoint_is = same_Some k.behind.endpoint (runs_of_endpoint get.endpoint)
      (sym k.behind.awaits.here.queue.here ∙ ap (λ (r : TransferRuns). (views_of d).endpoint r.endpoint) transfer_is
      ∙ ap (option_map runs_of_endpoint) get.here)

  queue_is : 32 * k.behind.endpoint.queue ≡ 32 * get.endpoint.queue
  queue_is = ap (λ (r : EndpointRuns). 32 * r.queue) endpoint_is

  first_is : k.behind.transfer.first ≡ b
  first_is = ap (λ (r : TransferRuns). r.first) transfer_is ∙ get.first

  met : IsMet (queued w.driver) get.transfer.endpoint get.endpoint
  met = it_is_met (queued w.driver) w.memory b words mixed.turns.turns.asynchronous get

  sound : IsQueuePart (32 * k.behind.endpoint.queue) (s.parts (32 * k.behind.endpoint.queue))
  sound = subst (λ (i : ℕ). IsQueuePart i (s.parts i)) (sym queue_is) (mixed.queues.sound get.transfer.endpoint get.endpoint get.here met)

  newest_is : slice_get (queued w.driver).transfers (length (queued w.driver).transfers - 1) ≡ Some get.transfer
  newest_is =
      ap (slice_get d.transfers) (let last : length d.transfers - 1 ≡ get.number = (let one = get.newest in omega (arith, one)) in last)
      ∙ get.there

  tail_is : tail_of (queued w.driver) get.transfer.endpoint get.endpoint ≡ 32 * b
  tail_is =
      ap (λ (c : Option Command). 32 * tail_block c
      (slice_get d.transfers (length d.transfers - 1)) get.transfer.endpoint get.endpoint.dummy)
      get.command
      ∙ ap (λ (o : Option Transfer). 32 * tail_block (Some (unfinished.Publish b words)) o get.transfer.endpoint get.endpoint.dummy)
      newest_is
      ∙ ap (λ (t : Bool). 32 * (if t then b else get.endpoint.dummy)) (eq-eqb get.transfer.endpoint get.transfer.endpoint refl)

  -- it stands no further than the first qTD
  most : (q : Qh) → s.parts n n ≡ Some (QueueHead q) → q.token.halted ≡ false → place_of (s.order n) q ≤ s.order n (32 * b)
  most = subst (λ (i : ℕ). (q : Qh) → s.parts i i ≡ Some (QueueHead q) → q.token.halted ≡ false
      → place_of (s.order i) q ≤ s.order i (32 * b))
      (sym queue_is)
      (λ q here off.
      subst (λ (c : ℕ). place_of (s.order (32 * get.endpoint.queue)) q ≤ s.order (32 * get.endpoint.queue) c) tail_is
      (place_most (queued w.driver) (s.parts (32 * get.endpoint.queue)) (s.order (32 * get.endpoint.queue))
      (s.out (32 * get.endpoint.queue))
      get.transfer.endpoint get.endpoint (tail_of d get.transfer.endpoint get.endpoint)
      (mixed.queues.tails get.transfer.endpoint get.endpoint get.here met) q here off))

  published : IsPublished (queued w.driver) s.parts b words
  published = mixed.queues.queues.fed.publishes b words get.command

  -- the first qTD stands there
  first_there : (q : Qtd) × (part (32 * k.behind.transfer.first) ≡ Some (Element q))
  first_there =
      let g = published in
      let one : g.number ≡ get.number = (let a = g.newest in let c = get.newest in omega (arith, a, c)) in
      let transfer : g.transfer ≡ get.transfer = same_Some g.transfer get.transfer
      (sym g.there ∙ ap (slice_get d.transfers) one ∙ get.there) in
      let endpoint : g.endpoint ≡ get.endpoint = same_Some g.endpoint get.endpoint
      (sym g.here ∙ ap (λ (t : Transfer). slice_get d.endpoints t.endpoint) transfer ∙ get.here) in (
        partly g.qtd (d.made - 1),
        ap (λ (i : ℕ). s.parts i (32 * y.first)) (queue_is ∙ ap (λ z. 32 * z.queue) (sym endpoint))
            ∙ ap (λ (c : ℕ). s.parts (32 * g.endpoint.queue) (32 * c)) first_is ∙ g.stored,
      )

  -- ---- orders

  old_order : (a : ℕ) (u : Structure) → part a ≡ Some u → order n a ≡ s.order n a
  old_order a u here = ap (λ (g : ℕ → ℕ). g a) k.behind.order_is
      ∙ old_number d y x k.behind.stage k.behind.further (slot_of (lent_driver d w.memory).book.slots) s.parts now k.behind.place
      (s.order n) a u
      k.behind.pieces here

  new_order_from : (a : ℕ) (u : Qtd) → IsNewQtd d.notes x.dummy k.behind.further (note_at d.notes y.first).next a u
      → k.behind.place ≤ order n a
  new_order_from a u fresh =
      let same = ap (λ (g : ℕ → ℕ). g a) k.behind.order_is in
      let from = new_from (new_order d y k.behind.further k.behind.place (s.order n)) d.notes x.dummy k.behind.further
      (note_at d.notes y.first).next k.behind.place a u
      (numbers d w.memory k.behind.number y x k.behind.stage k.behind.further k.behind.place (s.order n) k.behind.awaits) fresh in
      omega (arith, same, from)

  place_still : (q : Qh) → part n ≡ Some (QueueHead q) → q.token.halted ≡ false → place_of (order n) q ≡ place_of (s.order n) q
  place_still q here off = by q.token.active refl
    where
      its : IsSoundQueue part q
      its = subst (IsSoundQueue part) (found_queue (part n) sound.queue q sound.here here) sound.sound

      by_link : q.token.active ≡ false → LeadsOn part (qtd_link_of (next_pointer q)) → (l : QtdLink) → qtd_link_of (next_pointer q) ≡ l
          → place_of (order n) q ≡ place_of (s.order n) q
      by_link idle leads qtd_links.End to =
          place_rests (order n) q idle ∙ ap (place_at (order n)) to ∙ sym (place_rests (s.order n) q idle ∙ ap (place_at (s.order n)) to)
      by_link idle leads (qtd_links.To c) to =
          let there : IsElement part c = subst (LeadsOn part) to leads in
          place_leads (order n) q c idle to ∙ old_order c (Element there.qtd) there.here ∙ sym (place_leads (s.order n) q c idle to)

      by : (c : Bool) → q.token.active ≡ c → place_of (order n) q ≡ place_of (s.order n) q
      by true on =
          let works = its.work on in
          place_works (order n) q on ∙ old_order q.current (Element works.element) works.here ∙ sym (place_works (s.order n) q on)
      by false idle = by_link idle (its.rest off idle) (qtd_link_of (next_pointer q)) refl

  -- the queue head is as it was
  head_was : (q : Qh) → now n n ≡ Some (QueueHead q) → part n ≡ Some (QueueHead q)
  head_was q here = subst (λ (r : Qh). part n ≡ Some (QueueHead r))
      (found_queue (now n n) sound.queue q (k.still n n (QueueHead sound.queue) sound.here) here) sound.here

  -- ---- its links

  its_links : LeadsOnward n part → LeadsOnward n (now n)
  its_links old = record {
    next = λ a u here on.
        ⊎_elim (λ (was : part a ≡ Some (Element u)). old.next a u was on)
        (λ (fresh : IsNewQtd d.notes x.dummy k.behind.further (note_at d.notes y.first).next a u).
        ⊎_elim (λ (both : (u.token.active ≡ true) × (u.next.t ≡ false)). both.1)
        (λ (end : (u.token.active ≡ false) × (a ≡ 32 * last_block d.notes k.behind.further (note_at d.notes y.first).next)).
        absurd (true≢false (sym on ∙ end.0)))
        (new_kind d.notes x.dummy k.behind.further (note_at d.notes y.first).next a u fresh))
        (k.behind.pieces.elements a u here);
    rest = λ q here off idle. old.rest q (head_was q here) off idle;
  }

  pub lent_links : (m : ℕ) → LeadsOnward m (s.parts m) → LeadsOnward m (parts_with get s.parts m)
  lent_links m old =
      ⊎_elim (λ (same : m ≡ n). subst (λ (i : ℕ). LeadsOnward i (now i)) (sym same)
      (its_links (subst (λ (i : ℕ). LeadsOnward i (s.parts i)) same old)))
      (λ (differs : m ≢ n). subst (LeadsOnward m) (sym (k.behind.pieces.beside m differs)) old) (cases_eq m n)

  -- ---- how far it has come

  first_unpublished : IsUnpublished f n (32 * k.behind.transfer.first)
  first_unpublished = record {
    block = b;
    words = words;
    command = ap (λ (g : DriverContent). g.command) driver_is ∙ get.command;
    lent = (let made = ap (λ (g : DriverContent). g.made) driver_is in omega (arith, made));
    at = ap (λ (c : ℕ). 32 * c) first_is;
    transfer = get.transfer;
    newest = ap (λ (g : DriverContent). slice_get g.transfers (length g.transfers - 1)) driver_is ∙ newest_is;
    endpoint = get.endpoint;
    here = ap (λ (g : DriverContent). slice_get g.endpoints get.transfer.endpoint) driver_is ∙ get.here;
    its = queue_is;
  }

  -- the last of the queue was the first qTD
  was_first : (a : ℕ) (u : Qtd) → part a ≡ Some (Element u) → IsLast (s.order n) part a → a ≡ 32 * k.behind.transfer.first
  was_first a u here last =
      ⊎_elim (λ (same : a ≡ 32 * y.first). same)
      (λ (differs : a ≢ 32 * y.first).
      let less = k.behind.last a u here differs in
      let more = last (32 * y.first) first_there.0 first_there.1 (λ same. differs (sym same)) in
      absurd (omega (arith, less, more))) (cases_eq a (32 * y.first))

  ends_queue : IsLast (order n) (now n) (32 * k.behind.endpoint.dummy)
  ends_queue = subst (λ (g : ℕ → ℕ). IsLast g (now n) (32 * x.dummy)) (sym k.behind.order_is)
      (lend_ends_queue d w.memory k.behind.number y x k.behind.stage k.behind.further
      (slot_of (lent_driver d w.memory).book.slots) s.parts now
      (s.order n) k.behind.place k.behind.awaits k.behind.pieces k.behind.last k.behind.above)

  skipped : (a : ℕ) → order n a ≡ s.order n a → IsSkipped (s.order n) part a → IsSkipped (order n) (now n) a
  skipped a same z =
      let by_same = old_order z.by (Element z.qtd) z.here in
      let to : IsElement part z.to = own_there part z.qtd (not (z.qtd.token.total == 0) && not z.qtd.alternate.t) z.to
      (sound.elements z.by z.qtd z.here) z.leads in
      let to_same = old_order z.to (Element to.qtd) to.here in
      let from = z.from in
      let past = z.past in
      record {
        by = z.by;
        qtd = z.qtd;
        here = k.still n z.by (Element z.qtd) z.here;
        done = z.done;
        to = z.to;
        leads = z.leads;
        from = omega (arith, from, by_same, same);
        past = omega (arith, past, to_same, same);
      }

  its_stands : ((q : Qh) → s.parts n n ≡ Some (QueueHead q) → q.token.halted ≡ false → StandsOnward (s.order n) d n (s.parts n) q)
      → (q : Qh) → now n n ≡ Some (QueueHead q) → q.token.halted ≡ false → StandsOnward (order n) f n (now n) q
  its_stands stand q here off =
      let was : part n ≡ Some (QueueHead q) = head_was q here in
      let old : StandsOnward (s.order n) d n part q = stand q was off in
      let place = place_still q was off in
      let bound = most q was off in
      let above = k.behind.above in
      let first = ap (λ (c : ℕ). s.order n (32 * c)) first_is in
      record {
        active = λ a u there on before.
            ⊎_elim
            (λ (there_was : part a ≡ Some (Element u)).
            let same = old_order a (Element u) there_was in
            skipped a same (old.active a u there_was on (omega (arith, before, place, same))))
            (λ (fresh : IsNewQtd d.notes x.dummy k.behind.further (note_at d.notes y.first).next a u).
            let from = new_order_from a u fresh in
            absurd (omega (arith, before, place, bound, above, first, from)))
            (k.behind.pieces.elements a u there);
        done = λ a u there idle.
            ⊎_elim
            (λ (there_was : part a ≡ Some (Element u)).
            let same = old_order a (Element u) there_was in
            ⊎_elim (λ (before : s.order n a < place_of (s.order n) q). inl (omega (arith, before, place, same)))
            (λ (rest : IsLast (s.order n) part a ⊎ IsUnpublished d n a).
            ⊎_elim
            (λ (last : IsLast (s.order n) part a).
            inr (inr (subst (IsUnpublished f n) (sym (was_first a u there_was last)) first_unpublished)))
            (λ (un : IsUnpublished d n a). let some = un.lent in let none = get.made in absurd (omega (arith, some, none))) rest)
            (old.done a u there_was idle))
            (λ (fresh : IsNewQtd d.notes x.dummy k.behind.further (note_at d.notes y.first).next a u).
            ⊎_elim (λ (both : (u.token.active ≡ true) × (u.next.t ≡ false)). absurd (true≢false (sym both.0 ∙ idle)))
            (λ (end : (u.token.active ≡ false) × (a ≡ 32 * last_block d.notes k.behind.further (note_at d.notes y.first).next)).
            inr (inl (subst (IsLast (order n) (now n)) (sym (end.1 ∙ ap (λ (c : ℕ). 32 * c) k.behind.awaits.ends)) ends_queue)))
            (new_kind d.notes x.dummy k.behind.further (note_at d.notes y.first).next a u fresh))
            (k.behind.pieces.elements a u there);
      }

  none_was : (m a : ℕ) → IsUnpublished d m a → IsUnpublished f m a
  none_was m a un = let some = un.lent in let none = get.made in absurd (omega (arith, some, none))

  pub lent_stands : (m : ℕ)
      → ((q : Qh) → s.parts m m ≡ Some (QueueHead q) → q.token.halted ≡ false → StandsOnward (s.order m) (queued w.driver) m (s.parts m) q)
      → (q : Qh) → parts_with get s.parts m m ≡ Some (QueueHead q) → q.token.halted ≡ false
      → StandsOnward (order m) (queued new.driver) m (parts_with get s.parts m) q
  lent_stands m stand =
      ⊎_elim
      (λ (same : m ≡ n).
      subst (λ (i : ℕ). (q : Qh) → now i i ≡ Some (QueueHead q) → q.token.halted ≡ false → StandsOnward (order i) f i (now i) q) (sym same)
      (its_stands (subst (λ (i : ℕ). (q : Qh) → s.parts i i ≡ Some (QueueHead q) → q.token.halted ≡ false
      → StandsOnward (s.order i) d i (s.parts i) q) same stand)))
      (λ (differs : m ≢ n).
      subst (λ (g : ℕ → ℕ). (q : Qh) → now m m ≡ Some (QueueHead q) → q.token.halted ≡ false → StandsOnward g f m (now m) q)
      (sym (k.behind.order_beside m differs))
      (spared_stands (s.order m) d f m (s.parts m) (now m) (spared_same m (s.parts m) (now m) (k.behind.pieces.beside m differs))
      (none_was m)
      stand))
      (cases_eq m n)
