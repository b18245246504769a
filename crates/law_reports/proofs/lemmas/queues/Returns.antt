-- The blocks of a transfer are given back: what it skipped goes with it, so all that is left was skipped by what is left.
use Rattle.std.proofs.Common.{◌≡◌, ◌≢◌, ℕ, suc, ◌*◌, ◌<◌, ◌≤◌, ◌⊎◌, Bool, true, false, if◌then◌else◌, length, slice_get, Some, None, ap, refl, sym, subst, ◌∙◌, ⊎_elim, inl, inr, arith}
use Rattle.std.specs.Prelude.{nat_eq}
use Rattle.std.proofs.lemmas.Bool.{cases_eq, false≢true, true≢false}
use Rattle.std.proofs.lemmas.Option.{same_Some}
use Rattle.law_ring.proofs.Common.{fewer_some}
use Rattle.law_common.proofs.Numbers.{other_number}
use Rattle.law_world.proofs.Common.{none_some}
use Rattle.link_words.specs.declared.kinds.QtdLink.TheVariants as qtd_links
use Rattle.link_words.specs.Links.{qtd_link_of}
use Rattle.qh_qtd.specs.declared.qtd.Qtd.{Qtd}
use Rattle.qh_qtd.specs.declared.queue_head.Qh.{Qh}
use Rattle.drv_table.specs.declared.content.Command.TheVariants as unfinished
use Rattle.drv_table.specs.declared.content.Endpoint.{Endpoint}
use Rattle.drv_table.specs.declared.content.Transfer.{Transfer}
use Rattle.drv_table.specs.DriverContent.{DriverContent}
use Rattle.drv_table.specs.Words.{dummy_qtd}
use Rattle.claims_driver.specs.Owners.{note_in, views_of}
use Rattle.law_driver.specs.chained_transfers.Chains.{piece_at}
use Rattle.law_driver.proofs.lemmas.chained_transfers.Holding.{held_alive}
use Rattle.law_driver.specs.queued_drivers.Queued.{queued, queued_parts}
use Rattle.law_structures.specs.lent_structures.Structures.{Structure, QueueHead, Element, Structures, StructureSets}
use Rattle.law_structures.proofs.lemmas.lent_structures.Altering.{found_element}
use Rattle.law_ring.specs.Fewer.{fewer_structures, without_those}
use Rattle.law_ring.specs.Front.{own_pointer, LinksRise}
use Rattle.law_driver_ring.specs.Inventory.{IsLent}
use Rattle.law_driver_ring.specs.Released.{goes_of}
use Rattle.law_driver_ring.specs.fed_queues.Fed.{unpublished_of}
use Rattle.law_driver_ring.specs.fed_queues.Places.{IsLast, IsMet}
use Rattle.law_queues.specs.released_queues.Fronts.{piece_address, end_at}
use Rattle.law_queues.specs.released_queues.Released.{IsReturning}
use Rattle.law_queues.specs.released_queues.Staying.{QueuesAreTold}
use Rattle.law_queues.proofs.lemmas.released_queues.Links.{none_yet}
use Rattle.law_queues.proofs.lemmas.released_queues.StayingQueues.{goes_on, goes_off, dummy_off, piece_off, is_later}
use Rattle.bus_world.specs.World.{World, driver_parts}
use Rattle.law_world.specs.memory.Mixed.{Standing, IsMixedAt}
use Rattle.law_world.proofs.lemmas.memory.HarvestKept.{owners_of, driven_of, runs_of, fronts_of}
use Rattle.law_reports.specs.queues.Onward.{LeadsOnward, place_of, IsSkipped, IsUnpublished, StandsOnward}
use Rattle.law_reports.proofs.lemmas.queues.Passing.{last_fewer}
use Rattle.law_reports.proofs.lemmas.queues.Ordered.{InQueue, is_dummy, is_piece, in_queue, along, own_within, later}
use Rattle.law_reports.proofs.lemmas.queues.Spared.{none_stored}

-- ---- the structures that stay

pub fewer_still : (goes : ℕ → Bool) (part : Structures) (a : ℕ) (u : Structure) → goes a ≡ false → part a ≡ Some u
    → fewer_structures goes part a ≡ Some u
fewer_still goes part a u off here = ap (λ (c : Bool). if c then None else part a) off ∙ here

pub those_beside : (parts : StructureSets) (n m : ℕ) (goes : ℕ → Bool) → m ≢ n → without_those parts n goes m ≡ parts m
those_beside parts n m goes differs = ap (λ (b : Bool). if b then fewer_structures goes (parts m) else parts m) (other_number m n differs)

pub fewer_links : (n : ℕ) (goes : ℕ → Bool) (part : Structures) → LeadsOnward n part → LeadsOnward n (fewer_structures goes part)
fewer_links n goes part k = record {
  next = λ a u here on. k.next a u (fewer_some goes part a (Element u) here).1 on;
  rest = λ q here off idle. k.rest q (fewer_some goes part n (QueueHead q) here).1 off idle;
}

module _ (s : Standing) (w : World) (mixed : IsMixedAt s w) (t : ℕ) (y : Transfer) (x : Endpoint)
    (r : IsReturning (queued w.driver) t y x) where
  abbrev d : DriverContent
  d = queued w.driver

  abbrev n : ℕ
  n = 32 * x.queue

  abbrev part : Structures
  part = s.parts (32 * x.queue)

  abbrev o : ℕ → ℕ
  o = s.order (32 * x.queue)

  abbrev goes : ℕ → Bool
  goes = goes_of (queued w.driver) y

  alive : x.gone ≡ false
  alive = held_alive (queued w.driver) t y x mixed.turns.turns.turns r.here r.held r.endpoint

  met : IsMet (queued w.driver) y.endpoint x
  met = record {
    there = record { linked = λ is. none_some (unfinished.Open x.queue) (sym r.free ∙ is); kept = alive };
    near = r.near;
  }

  told : QueuesAreTold s.parts (queued_parts (driver_parts w)) s.order s.out
  told = record {
    driven = driven_of s w mixed;
    owners = owners_of s w mixed;
    in_runs = runs_of s w mixed;
    asynchronous = mixed.turns.turns.asynchronous;
    chained = mixed.turns.turns.chained;
    turns = mixed.turns.turns.turns;
    fed = mixed.queues.queues.fed;
    last = mixed.queues.queues.last;
    still_out = mixed.queues.queues.out_are;
    fronts = fronts_of s w mixed;
    rise = mixed.queues.controls.rises;
  }

  rise : LinksRise (s.order (32 * x.queue)) (s.parts (32 * x.queue))
  rise = mixed.queues.controls.rises y.endpoint x r.endpoint met.there

  stored : (u : ℕ) (z : Transfer) → slice_get (queued w.driver).transfers u ≡ Some z → unpublished_of (queued w.driver) u z ≡ 0
  stored u z at = none_yet d.command d.made z.qtds (nat_eq (suc u) (length d.transfers)) r.free

  queue_has : (a : ℕ) (q : Qtd) → s.parts (32 * x.queue) a ≡ Some (Element q) → InQueue (queued w.driver) y.endpoint x a
  queue_has = in_queue d s.parts (owners_of s w mixed) mixed.turns.turns (driven_of s w mixed) y.endpoint x r.endpoint alive

  idle_end : (a : ℕ) (u : Qtd) → part a ≡ Some (Element u) → u.token.active ≡ true → a ≡ 32 * x.dummy
      → IsLent ((views_of (queued w.driver)).slot x.dummy) → ⊥
  idle_end a u here on is lent =
      let end : part (32 * x.dummy) ≡ Some (Element dummy_qtd) = mixed.queues.queues.fed.dummies y.endpoint x r.endpoint alive lent in
      true≢false (sym on ∙ ap (λ (q : Qtd). q.token.active) (found_element (part a) u dummy_qtd here (ap part is ∙ end)))

  -- a qTD that stays and is active is one of a later transfer
  behind : (a : ℕ) (u : Qtd) → part a ≡ Some (Element u) → u.token.active ≡ true → goes_of (queued w.driver) y a ≡ false
      → InQueue (queued w.driver) y.endpoint x a → o (end_at (queued w.driver) y) ≤ o a
  behind a u here on stays (is_dummy is lent) = absurd (idle_end a u here on is lent)
  behind a u here on stays (is_piece v i z at held own below is run) =
      let q = queued_parts (driver_parts w) in
      ⊎_elim
      (λ (same : v ≡ t).
      let one : z ≡ y = same_Some z y (sym at ∙ ap (slice_get d.transfers) same ∙ r.here) in
      let its : goes_of (queued w.driver) y (piece_address d y i) ≡ true = goes_on s.parts q s.order s.out t y x told r i
      (subst (λ (c : Transfer). i < c.qtds) one below) in
      absurd (false≢true (sym stays ∙ ap goes (is ∙ ap (λ (c : Transfer). piece_address d c i) one) ∙ its)))
      (λ (differs : v ≢ t).
      let after = is_later s.parts q s.order s.out t y x told r v z at held own differs in
      let first = later d s.parts o mixed.turns.turns mixed.queues.queues.fed y.endpoint x r.endpoint rise v z at own t y r.here
      r.held refl after in
      let none = stored v z at in
      let up = along d s.parts o mixed.turns.turns mixed.queues.queues.fed y.endpoint x r.endpoint rise v 0 i z at held own
      (omega (arith, none)) (omega arith) (omega (arith, below)) in
      let same = ap o is in
      omega (arith, first, up, same))
      (cases_eq v t)

  -- a qTD that goes leads no further than the end of its transfer
  within : (c : ℕ) (u : Qtd) (to : ℕ) → part c ≡ Some (Element u) → goes_of (queued w.driver) y c ≡ true
      → qtd_link_of (own_pointer u) ≡ qtd_links.To to → InQueue (queued w.driver) y.endpoint x c
      → o to ≤ o (end_at (queued w.driver) y)
  within c u to here going leads (is_dummy is lent) =
      let q = queued_parts (driver_parts w) in
      absurd (false≢true (sym (goes_off s.parts q s.order s.out t y x told r x.dummy
      (dummy_off s.parts q s.order s.out t y x told r y.endpoint x r.endpoint alive)) ∙ ap goes (sym is) ∙ going))
  within c u to here going leads (is_piece v i z at held own below is run) =
      let q = queued_parts (driver_parts w) in
      ⊎_elim
      (λ (same : v ≡ t).
      let one : z ≡ y = same_Some z y (sym at ∙ ap (slice_get d.transfers) same ∙ r.here) in
      let bound : o to ≤ o (end_at d z) = own_within d s.parts o mixed.turns.turns mixed.queues.queues.fed y.endpoint x r.endpoint rise
      v i z u to at held own (let none = stored v z at in omega (arith, none)) below (ap part (sym is) ∙ here) leads in
      subst (λ (c : Transfer). o to ≤ o (end_at d c)) one bound)
      (λ (differs : v ≢ t).
      absurd (false≢true (sym (goes_off s.parts q s.order s.out t y x told r (piece_at (note_in d.notes) z.first i)
      (piece_off s.parts q s.order s.out t y x told r v i z at held below differs)) ∙ ap goes (sym is) ∙ going)))
      (cases_eq v t)

  skipped : (a : ℕ) (u : Qtd) → part a ≡ Some (Element u) → u.token.active ≡ true → goes_of (queued w.driver) y a ≡ false
      → IsSkipped o part a → IsSkipped o (fewer_structures (goes_of (queued w.driver) y) part) a
  skipped a u here on stays k = by (goes k.by) refl
    where
      by : (b : Bool) → goes k.by ≡ b → IsSkipped o (fewer_structures goes part) a
      by false off = record {
        by = k.by;
        qtd = k.qtd;
        here = fewer_still goes part k.by (Element k.qtd) off k.here;
        done = k.done;
        to = k.to;
        leads = k.leads;
        from = k.from;
        past = k.past;
      }
      by true going =
          let low = behind a u here on stays (queue_has a u here) in
          let high = within k.by k.qtd k.to k.here going k.leads (queue_has k.by k.qtd k.here) in
          let past = k.past in
          absurd (omega (arith, low, high, past))

  -- ---- the queue

  pub returned_stands : (f : DriverContent)
      → ((q : Qh) → s.parts (32 * x.queue) (32 * x.queue) ≡ Some (QueueHead q) → q.token.halted ≡ false
      → StandsOnward (s.order (32 * x.queue)) (queued w.driver) (32 * x.queue) (s.parts (32 * x.queue)) q)
      → (q : Qh) → fewer_structures (goes_of (queued w.driver) y) (s.parts (32 * x.queue)) (32 * x.queue) ≡ Some (QueueHead q)
      → q.token.halted ≡ false
      → StandsOnward (s.order (32 * x.queue)) f (32 * x.queue) (fewer_structures (goes_of (queued w.driver) y) (s.parts (32 * x.queue))) q
  returned_stands f k q here off =
      let old : StandsOnward o d n part q = k q (fewer_some goes part n (QueueHead q) here).1 off in
      record {
        active = λ a u there on before.
            let was = fewer_some goes part a (Element u) there in
            skipped a u was.1 on was.0 (old.active a u was.1 on before);
        done = λ a u there idle.
            ⊎_elim (λ (before : o a < place_of o q). inl before)
            (λ (rest : IsLast o part a ⊎ IsUnpublished d n a).
            ⊎_elim
            (λ (last : IsLast o part a).
            inr (inl (last_fewer o part (fewer_structures goes part) a
            (λ b v found. (v, (fewer_some goes part b (Element v) found).1)) last)))
            (λ (is : IsUnpublished d n a). absurd (none_stored d None n a r.free refl is)) rest)
            (old.done a u (fewer_some goes part a (Element u) there).1 idle);
      }
