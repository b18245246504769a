-- The qTDs of an endpoint's queue, in their order: which there are, and that those of a transfer stand before those of a later one.
use Rattle.std.proofs.Common.{◌≡◌, ◌≢◌, ℕ, zero, suc, ◌+◌, ◌-◌, ◌*◌, ◌<◌, ◌≤◌, ◌⊎◌, ◌==◌, ◌&&◌, ◌||◌, not, Bool, true, false, if◌then◌else◌, length, slice_get, Option, Some, None, option_map, ap, refl, sym, subst, ◌∙◌, ⊎_elim, inl, inr, arith}
use Rattle.std.proofs.lemmas.Bool.{cases_eq, cases_lt, true≢false}
use Rattle.std.proofs.lemmas.Option.{same_Some, slice_get_within}
use Rattle.law_queues.proofs.Common.{one_target, no_end}
use Rattle.law_common.proofs.Numbers.{other_number}
use Rattle.law_driver.proofs.Common.{piece_next}
use Rattle.link_words.specs.declared.fields.ShortLink.{ShortLink}
use Rattle.link_words.specs.declared.kinds.QtdLink.TheVariants as qtd_links
use Rattle.link_words.specs.Links.{qtd_link_of}
use Rattle.qh_qtd.specs.declared.qtd.Qtd.{Qtd}
use Rattle.drv_table.specs.declared.content.Endpoint.{Endpoint}
use Rattle.drv_table.specs.declared.content.Sort.{Sort}
use Rattle.drv_table.specs.declared.content.Sort.TheVariants as sorts
use Rattle.drv_table.specs.declared.content.Transfer.{Transfer}
use Rattle.drv_table.specs.DriverContent.{DriverContent}
use Rattle.drv_table.specs.Harvests.{note_at}
use Rattle.mem_runs.specs.Book.{slot_of}
use Rattle.claims_driver.specs.Owners.{QueueHead as QueueHeadOf, EndpointRuns, TransferRuns, runs_of_endpoint, runs_of_transfer, views_of, note_in, IsQueueIn}
use Rattle.claims_driver.specs.Leaving.{HasOwners}
use Rattle.law_driver.specs.chained_transfers.AsynchronousTurns.{AsynchronousTakesTurns}
use Rattle.law_driver.specs.chained_transfers.Chains.{piece_at, NoneFrom}
use Rattle.law_driver.specs.chained_transfers.Out.{unpublished}
use Rattle.law_driver.specs.chained_transfers.Turns.{turn_of}
use Rattle.law_driver.proofs.lemmas.chained_transfers.BulkAndControl.{not_iso}
use Rattle.law_structures.specs.lent_structures.Structures.{Element, Structures, StructureSets}
use Rattle.law_structures.proofs.lemmas.lent_structures.Altering.{found_element}
use Rattle.law_ring.specs.Front.{own_pointer, LinksRise}
use Rattle.law_driver_ring.specs.Inventory.{Sort as Kind, sort_of, sorts_of, OfElement, IsLent, IsDriverOwned, the_list, the_head, a_queue, a_dummy, a_piece, a_buffer, IsDriven}
use Rattle.law_driver_ring.proofs.LendOwning.{number_of as owner_number}
use Rattle.law_driver_ring.specs.fed_queues.Fed.{IsAlternate, unpublished_of, AreFed}
use Rattle.law_queues.specs.released_queues.Fronts.{piece_address, end_at}
use Rattle.law_queues.proofs.lemmas.released_queues.Pieces.{number_of}
use Rattle.law_queues.proofs.lemmas.released_queues.Links.{mapped}

-- ---- links

alternate_to : (sort : Sort) (l : ShortLink) (next end to : ℕ) → IsAlternate sort l next end → qtd_link_of l ≡ qtd_links.To to
    → (to ≡ 32 * end) ⊎ (to ≡ 32 * next)
alternate_to sorts.Get l next end to is leads = inl (one_target to (32 * end) (sym leads ∙ ap qtd_link_of is))
alternate_to sorts.Request l next end to (inl none) leads = absurd (no_end to (sym (ap qtd_link_of none) ∙ leads))
alternate_to sorts.Request l next end to (inr is) leads = inr (one_target to (32 * next) (sym leads ∙ ap qtd_link_of is))
alternate_to sorts.Put l next end to is leads = absurd (no_end to (sym (ap qtd_link_of is) ∙ leads))
alternate_to sorts.Descriptor l next end to is leads = absurd (no_end to (sym (ap qtd_link_of is) ∙ leads))

-- ---- one queue

module _ (d : DriverContent) (parts : StructureSets) (o : ℕ → ℕ) (turns : AsynchronousTakesTurns d) (fed : AreFed d parts) (e : ℕ)
    (x : Endpoint) (here : slice_get d.endpoints e ≡ Some x) (rise : LinksRise o (parts (32 * x.queue))) where
  abbrev part : Structures
  part = parts (32 * x.queue)

  -- each leads to the next
  step : (u i : ℕ) (y : Transfer) → slice_get d.transfers u ≡ Some y → y.released ≡ false → y.endpoint ≡ e → unpublished_of d u y ≤ i
      → i < y.qtds → o (piece_address d y i) < o (piece_address d y (suc i))
  step u i y at held own stored less =
      let g = fed.pieces u i y x at held (ap (slice_get d.endpoints) own ∙ here) stored less in
      let next : qtd_link_of g.qtd.next ≡ qtd_links.To (piece_address d y (suc i))
      = ap qtd_link_of g.noted.next ∙ ap (λ (b : ℕ). qtd_links.To (32 * b)) (sym (piece_next (note_in d.notes) y.first i)) in
      rise.next (piece_address d y i) g.qtd (piece_address d y (suc i)) g.here next

  further : (m u i : ℕ) (y : Transfer) → slice_get d.transfers u ≡ Some y → y.released ≡ false → y.endpoint ≡ e → unpublished_of d u y ≤ i
      → i + m ≤ y.qtds → o (piece_address d y i) ≤ o (piece_address d y (i + m))
  further zero u i y at held own stored within =
      let none : i ≡ i + 0 = omega arith in
      let same : o (piece_address d y i) ≡ o (piece_address d y (i + 0)) = ap (λ (j : ℕ). o (piece_address d y j)) none in
      omega (arith, same)
  further (suc m) u i y at held own stored within =
      let less = step u i y at held own stored (omega (arith, within)) in
      let rest = further m u (suc i) y at held own (omega (arith, stored)) (omega (arith, within)) in
      let one : suc i + m ≡ i + suc m = omega arith in
      let same : o (piece_address d y (suc i + m)) ≡ o (piece_address d y (i + suc m)) = ap (λ (j : ℕ). o (piece_address d y j)) one in
      omega (arith, less, rest, same)

  pub along : (u i j : ℕ) (y : Transfer) → slice_get d.transfers u ≡ Some y → y.released ≡ false → y.endpoint ≡ e → unpublished_of d u y ≤ i
      → i ≤ j → j ≤ y.qtds → o (piece_address d y i) ≤ o (piece_address d y j)
  along u i j y at held own stored from below =
      let sum : i + (j - i) ≡ j = omega (arith, from) in
      subst (λ (k : ℕ). o (piece_address d y i) ≤ o (piece_address d y k)) sum
      (further (j - i) u i y at held own stored (omega (arith, from, below)))

  pub rises : (u i j : ℕ) (y : Transfer) → slice_get d.transfers u ≡ Some y → y.released ≡ false → y.endpoint ≡ e → unpublished_of d u y ≤ i
      → i < j → j ≤ y.qtds → o (piece_address d y i) < o (piece_address d y j)
  rises u i j y at held own stored from below =
      let less = step u i y at held own stored (omega (arith, from, below)) in
      let rest = along u (suc i) j y at held own (omega (arith, stored)) from below in
      omega (arith, less, rest)

  -- whatever its short packet leads to, it is within its transfer, or its end
  pub own_within : (u i : ℕ) (y : Transfer) (q : Qtd) (to : ℕ) → slice_get d.transfers u ≡ Some y → y.released ≡ false → y.endpoint ≡ e
      → unpublished_of d u y ≤ i → i < y.qtds → part (piece_address d y i) ≡ Some (Element q)
      → qtd_link_of (own_pointer q) ≡ qtd_links.To to → o to ≤ o (end_at d y)
  own_within u i y q to at held own stored less found leads =
      let g = fed.pieces u i y x at held (ap (slice_get d.endpoints) own ∙ here) stored less in
      let same : g.qtd ≡ q = found_element (part (piece_address d y i)) g.qtd q g.here found in
      let next : ℕ = (note_at d.notes (piece_at (note_in d.notes) y.first i)).next in
      let next_is : 32 * next ≡ piece_address d y (suc i) = ap (λ (b : ℕ). 32 * b) (sym (piece_next (note_in d.notes) y.first i)) in
      let on : o (32 * next) ≤ o (end_at d y) =
      (let up = along u (suc i) y.qtds y at held own (omega (arith, stored)) (omega (arith, less)) (omega arith) in let e = ap o next_is in
      omega (arith, up, e)) in
      by next on (ap (λ (t : Qtd). qtd_link_of t.next) (sym same) ∙ ap qtd_link_of g.noted.next)
      (subst (λ (t : Qtd). IsAlternate y.sort t.alternate next (piece_at (note_in d.notes) y.first y.qtds)) same g.noted.alternate)
      (not (q.token.total == 0) && not q.alternate.t) leads
    where
      by : (next : ℕ) → o (32 * next) ≤ o (end_at d y) → qtd_link_of q.next ≡ qtd_links.To (32 * next)
          → IsAlternate y.sort q.alternate next (piece_at (note_in d.notes) y.first y.qtds) → (b : Bool)
          → qtd_link_of (if b then q.alternate else q.next) ≡ qtd_links.To to → o to ≤ o (end_at d y)
      by next on next_leads alternate false leads =
          let same = ap o (one_target to (32 * next) (sym leads ∙ next_leads)) in
          omega (arith, same, on)
      by next on next_leads alternate true leads =
          ⊎_elim (λ (is : to ≡ end_at d y). let same = ap o is in omega (arith, same))
          (λ (is : to ≡ 32 * next). let same = ap o is in omega (arith, same, on))
          (alternate_to y.sort q.alternate next (piece_at (note_in d.notes) y.first y.qtds) to alternate leads)

  -- ---- of a later transfer

  module _ (t : ℕ) (z : Transfer) (next : slice_get d.transfers t ≡ Some z) (its : z.endpoint ≡ e) where
    abbrev AreNoneTo : ℕ → ℕ → Type 0
    AreNoneTo from to = NoneFrom (views_of d) e from to

    -- only the newest is being stored
    pub stored_before : (k : ℕ) (v : Transfer) → k < t → unpublished_of d k v ≡ 0
    stored_before k v less =
        let low = slice_get_within d.transfers t z next in
        ap (λ (b : Bool). if b then unpublished d.command d.made v.qtds else 0)
        (other_number (suc k) (length d.transfers) (λ same. omega (arith, low, less, same)))

    run_of : (i : ℕ) (y : Transfer) → slice_get d.transfers i ≡ Some y → (views_of d).transfer i ≡ Some (runs_of_transfer y)
    run_of i y at = ap (option_map runs_of_transfer) at

    leads : (u k : ℕ) (y v : Transfer) → slice_get d.transfers u ≡ Some y → y.released ≡ false → y.endpoint ≡ e
        → slice_get d.transfers k ≡ Some v → v.endpoint ≡ e → u < k → AreNoneTo (suc u) k → o (end_at d y) ≡ o (32 * v.first)
    leads u k y v at held own at_v own_v less none =
        ap (λ (b : ℕ). o (32 * b))
        (turns.chained.next u k (runs_of_transfer y) (runs_of_transfer v) (run_of u y at) held (run_of k v at_v) less (own_v ∙ sym own)
        (subst (λ (i : ℕ). NoneFrom (views_of d) i (suc u) k) (sym own) none))

    -- none is given back before an earlier one
    held_later : (u k : ℕ) (y v : Transfer) → slice_get d.transfers u ≡ Some y → y.released ≡ false → y.endpoint ≡ e
        → slice_get d.transfers k ≡ Some v → v.endpoint ≡ e → u < k → v.released ≡ false
    held_later u k y v at held own at_v own_v less = by v.released refl
      where
        by : (b : Bool) → v.released ≡ b → v.released ≡ false
        by false is = is
        by true is =
            absurd (true≢false (sym (turns.turns.turns.released u k (turn_of y) (turn_of v) less (ap (option_map turn_of) at)
            (ap (option_map turn_of) at_v) (own_v ∙ sym own) is) ∙ held))

    one_more : (from k : ℕ) → AreNoneTo from k → ((v : TransferRuns) → (views_of d).transfer k ≡ Some v → v.endpoint ≢ e)
        → AreNoneTo from (suc k)
    one_more from k none last i v least most at = ⊎_elim (λ (less : i < k). none i v least less at)
        (λ (over : k ≤ i). let same : i ≡ k = omega (arith, over, most) in last v (ap (views_of d).transfer (sym same) ∙ at)) (cases_lt i k)

    no_runs : (k : ℕ) → slice_get d.transfers k ≡ None → (v : TransferRuns) → (views_of d).transfer k ≡ Some v → v.endpoint ≢ e
    no_runs k at v is own = let never : ◌≡◌ {A = Option TransferRuns} None (Some v) = sym (ap (option_map runs_of_transfer) at) ∙ is in cc

    other_runs : (k : ℕ) (y : Transfer) → slice_get d.transfers k ≡ Some y → y.endpoint ≢ e → (v : TransferRuns)
        → (views_of d).transfer k ≡ Some v → v.endpoint ≢ e
    other_runs k y at differs v is own =
        differs (ap (λ (r : TransferRuns). r.endpoint) (same_Some (runs_of_transfer y) v (sym (run_of k y at) ∙ is)) ∙ own)

    none_between : (k : ℕ) → AreNoneTo (suc k) (suc k)
    none_between k i v least most at own = absurd (omega (arith, least, most))

    reach : (n k u : ℕ) (y : Transfer) → slice_get d.transfers u ≡ Some y → y.released ≡ false → y.endpoint ≡ e → u < k → k + n ≡ t
        → AreNoneTo (suc u) k → o (end_at d y) ≤ o (32 * z.first)
    reach zero k u y at held own less sum none =
        let all : k ≡ t = omega (arith, sum) in
        let same = leads u t y z at held own next its (omega (arith, less, all)) (subst (AreNoneTo (suc u)) all none) in
        omega (arith, same)
    reach (suc n) k u y at held own less sum none =
        by (λ i v at_v kept mine before between. reach n (suc k) i v at_v kept mine before (omega (arith, sum)) between)
        (slice_get d.transfers k) refl
      where
        by : ((i : ℕ) (v : Transfer) → slice_get d.transfers i ≡ Some v → v.released ≡ false → v.endpoint ≡ e → i < suc k
            → AreNoneTo (suc i) (suc k) → o (end_at d v) ≤ o (32 * z.first))
            → (q : Option Transfer) → slice_get d.transfers k ≡ q → o (end_at d y) ≤ o (32 * z.first)
        by on None is = on u y at held own (omega (arith, less)) (one_more (suc u) k none (no_runs k is))
        by on (Some v) is = ⊎_elim
            (λ (mine : v.endpoint ≡ e).
            let kept = held_later u k y v at held own is mine less in
            let same = leads u k y v at held own is mine less none in
            let none = stored_before k v (omega (arith, sum)) in
            let up = along k 0 v.qtds v is kept mine (omega (arith, none)) (omega arith) (omega arith) in
            let rest = on k v is kept mine (omega arith) (none_between k) in
            omega (arith, same, up, rest))
            (λ (differs : v.endpoint ≢ e). on u y at held own (omega (arith, less)) (one_more (suc u) k none (other_runs k v is differs)))
            (cases_eq v.endpoint e)

    pub later : (u : ℕ) (y : Transfer) → slice_get d.transfers u ≡ Some y → y.released ≡ false → y.endpoint ≡ e → u < t
        → o (end_at d y) ≤ o (32 * z.first)
    later u y at held own less = reach (t - suc u) (suc u) u y at held own (omega arith) (omega (arith, less)) (none_between u)

-- ---- what stands in a queue

pub data InQueue (d : DriverContent) (e : ℕ) (x : Endpoint) (a : ℕ) : Type 0 where
  is_dummy : a ≡ 32 * x.dummy → IsLent (slot_of d.book.slots x.dummy) → InQueue d e x a
  is_piece : (u i : ℕ) (z : Transfer) → slice_get d.transfers u ≡ Some z → z.released ≡ false → z.endpoint ≡ e → i < z.qtds
      → a ≡ piece_address d z i → IsLent (slot_of d.book.slots (piece_at (note_in d.notes) z.first i)) → InQueue d e x a

module _ (d : DriverContent) (parts : StructureSets) (owners : HasOwners d) (turns : AsynchronousTakesTurns d)
    (driven : IsDriven (views_of d) (sorts_of parts)) (e : ℕ) (x : Endpoint) (here : slice_get d.endpoints e ≡ Some x)
    (kept : x.gone ≡ false) where
  its_queue : IsQueueIn (views_of d) e (runs_of_endpoint x)
  its_queue = record {
    here = ap (option_map runs_of_endpoint) here;
    queued = ap (λ (b : Bool). b || x.gone) (not_iso x.desc (turns.asynchronous.endpoints e x here).asynchronous) ∙ kept;
  }

  placed : (f : ℕ) (z : EndpointRuns) → IsQueueIn (views_of d) f z → owners.owner z.queue ≡ QueueHeadOf f
  placed f z is = (owners.owned.each.queue f z is.here is.queued).owned

  pub one_queue : (f : ℕ) (z : EndpointRuns) → IsQueueIn (views_of d) f z → z.queue ≡ x.queue → (f ≡ e) × (z ≡ runs_of_endpoint x)
  one_queue f z is same =
      let number : f ≡ e = ap owner_number (sym (placed f z is) ∙ ap owners.owner same ∙ placed e (runs_of_endpoint x) its_queue) in
      (number, same_Some z (runs_of_endpoint x) (sym is.here ∙ ap (views_of d).endpoint number ∙ its_queue.here))

  in_queue_of : (m a : ℕ) (i : Kind) → m ≡ 32 * x.queue → i ≡ OfElement → IsDriverOwned (views_of d) m a i → InQueue d e x a
  in_queue_of _ _ _ at is the_list = absurd (cc)
  in_queue_of _ _ _ at is the_head = absurd (cc)
  in_queue_of _ _ _ at is (a_queue f z queued lent) = absurd (cc)
  in_queue_of _ _ _ at is (a_dummy f z queued lent) =
      let same = one_queue f z queued (let i : z.queue ≡ x.queue = omega (arith, at) in i) in
      is_dummy (ap (λ (r : EndpointRuns). 32 * r.dummy) same.1)
      (subst (λ (r : EndpointRuns). IsLent ((views_of d).slot r.dummy)) same.1 lent)
  in_queue_of _ _ _ at is (a_piece u b r f transfer piece lent) =
      let same = one_queue r.endpoint f transfer.queue (let i : f.queue ≡ x.queue = omega (arith, at) in i) in
      let z = mapped runs_of_transfer (slice_get d.transfers u) r transfer.here in
      let place = number_of (note_in d.notes) r.first r.qtds b piece in
      is_piece u place.number z.0 z.1 (ap (λ (i : TransferRuns). i.released) (sym z.2) ∙ transfer.held)
      (ap (λ (i : TransferRuns). i.endpoint) (sym z.2) ∙ same.0) (subst (λ (i : TransferRuns). place.number < i.qtds) z.2 place.below)
      (ap (λ (i : ℕ). 32 * i) (place.at ∙ ap (λ (i : TransferRuns). piece_at (note_in d.notes) i.first place.number) z.2))
      (subst (λ (i : ℕ). IsLent (slot_of d.book.slots i))
      (place.at ∙ ap (λ (i : TransferRuns). piece_at (note_in d.notes) i.first place.number) z.2) lent)
  in_queue_of _ _ _ at is (a_buffer u b c cs r f transfer piece first lent) = absurd (cc)

  pub in_queue : (a : ℕ) (q : Qtd) → parts (32 * x.queue) a ≡ Some (Element q) → InQueue d e x a
  in_queue a q found = in_queue_of (32 * x.queue) a OfElement refl refl
      (driven.only (32 * x.queue) a OfElement (ap (option_map sort_of) found))
