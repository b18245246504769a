-- The structures of an endpoint that is being opened are lent: no queue head that is met has them.
use Rattle.std.proofs.Common.{◌≡◌, ◌≢◌, ℕ, ◌*◌, Bool, true, slice_get, Some, ap, sym, ◌∙◌, ⊎_elim, inl}
use Rattle.law_common.proofs.Numbers.{same_blocks}
use Rattle.law_controller.proofs.Common.{heads_stay, elements_stay}
use Rattle.drv_table.specs.declared.content.Command.TheVariants as unfinished
use Rattle.drv_table.specs.declared.content.Endpoint.{Endpoint}
use Rattle.drv_table.specs.DriverContent.{DriverContent}
use Rattle.drv_table.specs.Words.{head_block, dummy_qtd}
use Rattle.claims_driver.specs.Leaving.{HasOwners}
use Rattle.law_driver.specs.queued_drivers.Queued.{queued}
use Rattle.law_driver.proofs.lemmas.queued_drivers.RowOwners.{queued_has_owners}
use Rattle.law_driver.proofs.lemmas.ring_members.Placed.{in_ring_alive, queue_off_head}
use Rattle.law_structures.specs.lent_structures.Structures.{QueueHead, Element, Structures, put}
use Rattle.law_structures.proofs.lemmas.lent_structures.Names.{put_beside}
use Rattle.law_ring.specs.Hand.{Hand}
use Rattle.law_ring.specs.Told.{Endpoint as Told}
use Rattle.law_driver_ring.specs.fed_queues.Places.{HasHead, AreMet}
use Rattle.law_queues.specs.open_laws.Queues.{IsOpenToLend, parts_opened}
use Rattle.bus_world.specs.World.{World}
use Rattle.law_world.specs.memory.Mixed.{Standing, IsMixedAt}
use Rattle.law_world.proofs.lemmas.memory.lemmas.pipe_steps.Hands.{TellsAlike, alike_itself}
use Rattle.law_world.proofs.lemmas.memory.lemmas.pipe_steps.Sparing.{Spares}

-- while its open is unfinished
pub opening_apart : (d : DriverContent) (near : ℕ → Bool) (e : ℕ) (x : Endpoint) → HasOwners d → AreMet d near
    → slice_get d.endpoints e ≡ Some x → d.command ≡ Some (unfinished.Open x.queue) → x.linked ≡ true → (m : ℕ) → near m ≡ true
    → m ≢ 32 * x.queue
opening_apart d near e x owners met here command linked m on same =
    ⊎_elim
    (λ (head : m ≡ 32 * head_block).
    queue_off_head d e x owners here (in_ring_alive d e x owners.orderly here linked) (same_blocks x.queue head_block (sym same ∙ head)))
    (λ (h : HasHead d m).
    h.met.there.linked (command ∙ ap (λ (b : ℕ). Some (unfinished.Open b)) (same_blocks x.queue h.endpoint.queue (sym same ∙ h.at))))
    (met.only m on)

module _ (s : Standing) (w : World) (mixed : IsMixedAt s w) (k : IsOpenToLend (queued w.driver) w.memory) where
  abbrev n : ℕ
  n = 32 * k.endpoint.queue

  stay : (m : ℕ) → s.near m ≡ true → parts_opened k s.parts m ≡ s.parts m
  stay m on =
      let differs : m ≢ n = opening_apart (queued w.driver) s.near k.number k.endpoint
      (queued_has_owners w.driver mixed.now.framed.place.sound.owners mixed.turns) mixed.queues.queues.met k.here k.command k.fresh m on in
      put_beside (put s.parts n n (QueueHead k.queue)) n (32 * k.endpoint.dummy) (Element dummy_qtd) m differs
      ∙ put_beside s.parts n n (QueueHead k.queue) m differs

  pub open_spares : (sends takes : ℕ → ℕ → Bool) (ins outs : ℕ → Bool) (ends : ℕ → Told) (hand : Hand)
      → Spares sends takes s.near ins outs ends s.parts (parts_opened k s.parts) hand hand
  open_spares sends takes ins outs ends hand =
      let alike : TellsAlike hand hand = alike_itself hand in
      record {
        hands = alike.hands;
        unmoved = λ m on. alike.unmoved m;
        named = λ m x on has. record {
          queue = has.queue;
          head = ap (λ (part : Structures). part m) (stay m on) ∙ has.head;
          is = has.is;
        };
        heads = λ m on some. heads_stay s.parts (parts_opened k s.parts) m (stay m on);
        work = λ m q on sent here active. elements_stay s.parts (parts_opened k s.parts) m q.current (stay m on);
        asks = λ m a t on here active. inl (ap (λ (part : Structures). part a) (sym (stay m on)) ∙ here);
      }
