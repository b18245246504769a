-- A transfer is lent: its qTDs stand behind all that stood, and ask the way of their endpoint.
use Rattle.std.proofs.Common.{◌≡◌, ◌≢◌, ℕ, ◌*◌, Bool, true, List, [], ◌∷◌, Some, ap, sym, subst, ◌∙◌, ⊎_elim, inl, inr}
use Rattle.std.specs.Prelude.{◌⊎◌}
use Rattle.std.specs.List.{AllByRecursion}
use Rattle.std.proofs.lemmas.Bool.{cases_eq, true≢false}
use Rattle.usb_base.specs.declared.packets.Way.{Way}
use Rattle.usb_base.specs.declared.packets.Way.TheVariants as ways
use Rattle.qh_qtd.specs.declared.qtd.Qtd.{Qtd}
use Rattle.mem_runs.specs.Book.{slot_of}
use Rattle.drv_table.specs.declared.content.QtdNote.{QtdNote}
use Rattle.drv_table.specs.declared.content.Stage.{Stage}
use Rattle.drv_table.specs.DriverContent.{DriverContent}
use Rattle.drv_table.specs.Harvests.{note_at}
use Rattle.law_driver.specs.chained_transfers.Bulk.{IsDataWay, pid_by}
use Rattle.law_driver.proofs.lemmas.chained_transfers.Ways.{IsBy, its_pid}
use Rattle.law_driver.specs.queued_drivers.Queued.{queued}
use Rattle.law_driver.proofs.lemmas.queued_drivers.RowOwners.{queued_has_owners}
use Rattle.law_structures.specs.lent_structures.Structures.{Element, StructureSets}
use Rattle.law_ring.specs.Hand.{Hand}
use Rattle.law_ring.specs.Told.{Endpoint as Told}
use Rattle.law_ring.proofs.SparedSparing.{spared_endpoint}
use Rattle.law_driver_ring.specs.Inventory.{sorts_of}
use Rattle.law_driver_ring.specs.Pieces.{IsNewQtd}
use Rattle.law_driver_ring.specs.TransferLaws.{lent_driver, HasPieces}
use Rattle.law_driver_ring.specs.fed_queues.Places.{IsMet}
use Rattle.law_queues.specs.fed_lends.ToLend.{AreStagesBy, IsToBeLent}
use Rattle.law_queues.proofs.lemmas.fed_lends.Fed.{y_of, x_of}
use Rattle.law_queues.proofs.lemmas.fed_lends.Reports.{it_is_met}
use Rattle.law_queues.specs.lent_fronts.Stands.{parts_with}
use Rattle.law_queues.proofs.lemmas.lent_fronts.Row.{both as lent_pieces}
use Rattle.bus_world.specs.World.{World}
use Rattle.law_world.specs.memory.Mixed.{Standing, IsMixedAt}
use Rattle.law_world.specs.memory.Steps.{HasBehind}
use Rattle.law_world.specs.memory.pipe_steps.Pipes.{AsksTheWay, AreByWay}
use Rattle.law_world.proofs.lemmas.memory.QueueViews.{queued_driven}
use Rattle.law_world.proofs.lemmas.memory.lemmas.pipe_steps.Hands.{TellsAlike, alike_itself}
use Rattle.law_world.proofs.lemmas.memory.lemmas.pipe_steps.Sparing.{AsksRight, asks_right, Spares}

-- the stages of a get or a put
data_stages : (way : Way) (s : Stage) (ss : List Stage) → IsDataWay way → AreStagesBy way (s ∷ ss) → AllByRecursion (IsBy way) ss
data_stages ways.Ctl s ss one by = absurd one
data_stages _ s ss one by = by.1

new_pid : (notes : List QtdNote) (dummy : ℕ) (way : Way) (ss : List Stage) (b a : ℕ) (u : Qtd) → IsDataWay way
    → AllByRecursion (IsBy way) ss → IsNewQtd notes dummy ss b a u → u.token.active ≡ true → u.token.pid ≡ pid_by way
new_pid notes dummy way [] b a u one by new on = absurd (true≢false (sym on ∙ ap (λ (t : Qtd). t.token.active) new.1))
new_pid notes dummy way (s ∷ ss) b a u one by (inl new) on = ap (λ (t : Qtd). t.token.pid) new.1 ∙ its_pid way s one by.0
new_pid notes dummy way (s ∷ ss) b a u one by (inr new) on = new_pid notes dummy way ss (note_at notes b).next a u one by.1 new on

module _ (s : Standing) (w : World) (mixed : IsMixedAt s w) (b : ℕ) (words : List ℕ)
    (get : IsToBeLent (queued w.driver) w.memory b words) (sends takes : ℕ → ℕ → Bool) (ins outs : ℕ → Bool) (ends : ℕ → Told)
    (by_way : AreByWay (queued w.driver) sends takes ins outs ends) where
  abbrev d : DriverContent
  d = queued w.driver

  abbrev n : ℕ
  n = 32 * get.endpoint.queue

  abbrev way : Way
  way = get.endpoint.desc.name.way

  abbrev now : StructureSets
  now = parts_with get s.parts

  pieces : HasPieces (queued w.driver) (slot_of (lent_driver (queued w.driver) w.memory).book.slots) s.parts (parts_with get s.parts)
      (y_of get) (x_of get) get.stage get.further
  pieces =
      (lent_pieces (queued w.driver) w.memory b words s.parts s.order s.out get
      (queued_has_owners w.driver mixed.now.framed.place.sound.owners mixed.turns) mixed.now.framed.place.sound.stands
      mixed.now.framed.place.sound.shape mixed.turns.turns.asynchronous mixed.turns.turns.turns
      (queued_driven w.driver (sorts_of s.parts) mixed.now.framed.driven) mixed.queues.queues.fed mixed.queues.queues.last
      mixed.queues.queues.out_are).0

  met : IsMet (queued w.driver) get.transfer.endpoint get.endpoint
  met = it_is_met (queued w.driver) w.memory b words mixed.turns.turns.asynchronous get

  fits : AsksTheWay sends takes ins outs ends (32 * get.endpoint.queue) get.endpoint.desc.name.way
  fits = by_way.each get.transfer.endpoint get.endpoint get.here met

  abbrev Right : ℕ → Qtd → Type 0
  Right m t = AsksRight sends takes ins outs ends m t.token.pid

  new_asks : (a : ℕ) (t : Qtd) → IsNewQtd (queued w.driver).notes get.endpoint.dummy get.further
      (note_at (queued w.driver).notes get.transfer.first).next a t → t.token.active ≡ true → Right n t
  new_asks a t new on =
      asks_right sends takes ins outs ends n way t.token.pid fits
      (λ one. new_pid (queued w.driver).notes get.endpoint.dummy way get.further
      (note_at (queued w.driver).notes get.transfer.first).next a t one (data_stages way get.stage get.further one get.stages) new on)

  asks : (m a : ℕ) (t : Qtd) → now m a ≡ Some (Element t) → t.token.active ≡ true → (s.parts m a ≡ Some (Element t)) ⊎ Right m t
  asks m a t here on =
      ⊎_elim
      (λ (same : m ≡ n).
      ⊎_elim (λ (was : s.parts n a ≡ Some (Element t)). inl (ap (λ (i : ℕ). s.parts i a) same ∙ was))
      (λ (new : IsNewQtd (queued w.driver).notes get.endpoint.dummy get.further
      (note_at (queued w.driver).notes get.transfer.first).next a t).
      inr (subst (λ (i : ℕ). Right i t) (sym same) (new_asks a t new on)))
      (pieces.elements a t (ap (λ (i : ℕ). now i a) (sym same) ∙ here)))
      (λ (differs : m ≢ n). inl (ap (λ part. part a) (sym (pieces.beside m differs)) ∙ here)) (cases_eq m n)

  pub lend_spares : (order : ℕ → ℕ → ℕ) (out : ℕ → List ℕ) → HasBehind s w b words get order out → (near : ℕ → Bool) (hand : Hand)
      → Spares sends takes near ins outs ends s.parts (parts_with get s.parts) hand hand
  lend_spares order out k near hand =
      let alike : TellsAlike hand hand = alike_itself hand in
      record {
        hands = alike.hands;
        unmoved = λ m on. alike.unmoved m;
        named = λ m x on has. spared_endpoint s.parts now m x (k.heads m) has;
        heads = λ m on some. k.heads m;
        work = λ m q on sent here active. record {
          element = λ t there. (k.elements m q.current t there).element t there;
          bytes = λ t there. (k.elements m q.current t there).bytes t there;
        };
        asks = λ m a t on here active. asks m a t here active;
      }
