-- A word of a transfer's first qTD is stored: no queue head works on it, and once it is active it asks the way of its endpoint.
use Rattle.std.proofs.Common.{◌≡◌, ℕ, ◌-◌, ◌*◌, ◌<◌, ◌≤◌, Bool, true, false, List, Some, ap, sym, subst, ◌∙◌, ⊎_elim, inl, inr, arith}
use Rattle.std.specs.Prelude.{◌⊎◌}
use Rattle.std.proofs.lemmas.Bool.{cases_lt, false≢true}
use Rattle.law_world.proofs.Common.{no_open}
use Rattle.law_driver_ring.proofs.Common.{partly_idle}
use Rattle.qh_qtd.specs.declared.qtd.Qtd.{Qtd}
use Rattle.qh_qtd.specs.declared.queue_head.Qh.{Qh}
use Rattle.drv_table.specs.DriverContent.{DriverContent}
use Rattle.law_driver.specs.chained_transfers.Bulk.{pid_by}
use Rattle.law_driver.specs.queued_drivers.Queued.{queued}
use Rattle.law_structures.specs.lent_structures.Structures.{QueueHead, Element}
use Rattle.law_structures.specs.lent_structures.Sound.{IsWorking, IsSoundQueue}
use Rattle.law_structures.proofs.lemmas.lent_structures.Altering.{found_queue, found_element}
use Rattle.law_ring.specs.Hand.{Hand}
use Rattle.law_ring.specs.QueueParts.{IsQueuePart}
use Rattle.law_ring.specs.Told.{Endpoint as Told}
use Rattle.law_ring.proofs.SparedSparing.{spared_endpoint}
use Rattle.law_controller.proofs.lemmas.controlled_streams.Storing.{element_found, spares_head, spares_element}
use Rattle.law_driver_ring.specs.Published.{partly}
use Rattle.law_driver_ring.specs.fed_queues.Fed.{IsPublished}
use Rattle.law_driver_ring.specs.fed_queues.Places.{IsMet}
use Rattle.law_driver_ring.proofs.lemmas.fed_queues.Places.{stands_met}
use Rattle.law_queues.specs.publish_laws.Stores.{parts_then}
use Rattle.bus_world.specs.World.{World}
use Rattle.law_world.specs.memory.Mixed.{Standing, IsMixedAt}
use Rattle.law_world.specs.memory.Steps.{IsNextStore}
use Rattle.law_world.specs.memory.pipe_steps.Pipes.{AreByWay}
use Rattle.law_world.proofs.lemmas.memory.lemmas.pipe_steps.Hands.{TellsAlike, alike_itself}
use Rattle.law_world.proofs.lemmas.memory.lemmas.pipe_steps.Sparing.{AsksRight, asks_right, Spares}

module _ (s : Standing) (w new : World) (mixed : IsMixedAt s w) (b : ℕ) (words : List ℕ)
    (g : IsPublished (queued w.driver) s.parts b words) (next : IsNextStore s w new b words g) (sends takes : ℕ → ℕ → Bool)
    (ins outs : ℕ → Bool) (ends : ℕ → Told) (by_way : AreByWay (queued w.driver) sends takes ins outs ends) where
  abbrev d : DriverContent
  d = queued w.driver

  abbrev n : ℕ
  n = 32 * g.endpoint.queue

  abbrev made : ℕ
  made = (queued w.driver).made

  abbrev old : Qtd
  old = partly g.qtd ((queued w.driver).made - 1)

  abbrev stored : Qtd
  stored = partly g.qtd (queued w.driver).made

  met : IsMet (queued w.driver) g.transfer.endpoint g.endpoint
  met = stands_met (queued w.driver) g.transfer.endpoint g.endpoint
      (mixed.turns.turns.asynchronous.endpoints g.transfer.endpoint g.endpoint g.here) g.going
      (λ is. no_open b g.endpoint.queue words (sym next.command ∙ is))

  part : IsQueuePart (32 * g.endpoint.queue) (s.parts (32 * g.endpoint.queue))
  part = mixed.queues.sound g.transfer.endpoint g.endpoint g.here met

  off : (partly g.qtd ((queued w.driver).made - 1)).token.active ≡ false
  off = partly_idle g.qtd ((queued w.driver).made - 1) (let some = next.made in let few = g.few in omega (arith, some, few))

  -- no overlay works on it
  unworked : (m : ℕ) (q : Qh) → s.parts m m ≡ Some (QueueHead q) → q.token.active ≡ true → q.current ≡ 32 * b → m ≡ n → ⊥
  unworked m q here on same owner =
      let head : s.parts n n ≡ Some (QueueHead q) = ap (λ (i : ℕ). s.parts i i) (sym owner) ∙ here in
      let work : IsWorking (s.parts n) q = (subst (IsSoundQueue (s.parts n)) (found_queue (s.parts n n) part.queue q part.here head)
      part.sound).work on in
      false≢true (sym off ∙ ap (λ (x : Qtd). x.token.active)
      (found_element (s.parts n (32 * b)) old work.element g.stored (ap (s.parts n) (sym same) ∙ work.here)) ∙ work.published)

  -- it is active once all of its words are stored
  pid : (partly g.qtd (queued w.driver).made).token.active ≡ true
      → (partly g.qtd (queued w.driver).made).token.pid ≡ pid_by g.endpoint.desc.name.way
  pid on =
      ⊎_elim (λ (low : (queued w.driver).made < 8). absurd (false≢true (sym (partly_idle g.qtd (queued w.driver).made low) ∙ on)))
      (λ (over : 8 ≤ (queued w.driver).made).
      let few = g.few in
      let eighth : (queued w.driver).made ≡ 8 = omega (arith, few, over) in
      ap (λ (j : ℕ). (partly g.qtd j).token.pid) eighth ∙ g.pid) (cases_lt (queued w.driver).made 8)

  right : (partly g.qtd (queued w.driver).made).token.active ≡ true
      → AsksRight sends takes ins outs ends (32 * g.endpoint.queue) (partly g.qtd (queued w.driver).made).token.pid
  right on = asks_right sends takes ins outs ends n g.endpoint.desc.name.way stored.token.pid
      (by_way.each g.transfer.endpoint g.endpoint g.here met) (λ one. pid on)

  asks : (m a : ℕ) (u : Qtd) → parts_then g m a ≡ Some (Element u) → u.token.active ≡ true
      → (s.parts m a ≡ Some (Element u)) ⊎ AsksRight sends takes ins outs ends m u.token.pid
  asks m a u here on =
      ⊎_elim
      (λ (is : (m ≡ n) × (a ≡ 32 * b) × (u ≡ stored)).
      inr (subst (λ (i : ℕ). AsksRight sends takes ins outs ends i u.token.pid) (sym is.0)
      (subst (λ (t : Qtd). AsksRight sends takes ins outs ends n t.token.pid) (sym is.2)
      (right (ap (λ (t : Qtd). t.token.active) (sym is.2) ∙ on)))))
      (λ (was : s.parts m a ≡ Some (Element u)). inl was) (element_found s.parts n (32 * b) old stored g.stored m a u here)

  pub store_spares : (near : ℕ → Bool) (hand : Hand) → Spares sends takes near ins outs ends s.parts (parts_then g) hand hand
  store_spares near hand =
      let alike : TellsAlike hand hand = alike_itself hand in
      record {
        hands = alike.hands;
        unmoved = λ m on. alike.unmoved m;
        named = λ m x on has. spared_endpoint s.parts (parts_then g) m x (spares_head s.parts n (32 * b) old stored g.stored m) has;
        heads = λ m on some. spares_head s.parts n (32 * b) old stored g.stored m;
        work = λ m q on sent here active. spares_element s.parts n (32 * b) old stored g.stored m q.current (unworked m q here active);
        asks = λ m a u on here active. asks m a u here active;
      }
