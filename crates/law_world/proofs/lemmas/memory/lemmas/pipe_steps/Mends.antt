-- The store that a stalled control endpoint is owed leaves the pipes: its queue head has no stream.
use Rattle.std.proofs.Common.{◌≡◌, ◌≢◌, ℕ, ◌*◌, ◌||◌, Bool, true, false, slice_get, Some, ap, sym, subst, ◌∙◌, ⊎_elim, inl, inr}
use Rattle.std.specs.Prelude.{◌⊎◌}
use Rattle.std.proofs.lemmas.Bool.{cases_eq, false≢true}
use Rattle.std.proofs.lemmas.Option.{same_Some}
use Rattle.law_world.proofs.Common.{its_way, queue_kind}
use Rattle.law_driver.proofs.Common.{control_kind}
use Rattle.law_common.proofs.Numbers.{same_blocks}
use Rattle.usb_base.specs.declared.packets.Way.{Way}
use Rattle.usb_base.specs.declared.packets.Way.TheVariants as ways
use Rattle.drv_table.specs.declared.content.Endpoint.{Endpoint}
use Rattle.drv_table.specs.DriverContent.{DriverContent}
use Rattle.drv_table.specs.Kinds.{is_iso}
use Rattle.drv_table.specs.Words.{head_block}
use Rattle.claims_driver.specs.Leaving.{HasOwners}
use Rattle.law_driver.specs.queued_drivers.Queued.{with_queue, queued}
use Rattle.law_driver.proofs.lemmas.queued_drivers.RowLists.{queue_at}
use Rattle.law_driver.proofs.lemmas.queued_drivers.RowOwners.{queued_has_owners}
use Rattle.law_driver.proofs.lemmas.ring_members.Placed.{has_queue, queues_apart}
use Rattle.law_ring.specs.Told.{Endpoint as Told}
use Rattle.law_ring.proofs.SparedSparing.{stale_hand_is_same}
use Rattle.law_controller.proofs.lemmas.controlled_streams.Outs.{stale_is_unmoved}
use Rattle.law_controller.specs.frame_control.Joined.{joined}
use Rattle.law_driver_ring.specs.fed_queues.Places.{HasHead}
use Rattle.law_queues.specs.mended_heads.Mended.{IsAtMend, parts_then, hand_then, head_at, mended}
use Rattle.law_queues.specs.mended_heads.Owed.{IsOwed}
use Rattle.law_queues.proofs.lemmas.mended_heads.Parts.{element_was}
use Rattle.law_queues.proofs.lemmas.mended_heads.Row.{mend_spares_heads, mend_spares_endpoints, mend_spares_elements}
use Rattle.bus_world.specs.World.{World, driver_parts}
use Rattle.law_world.specs.memory.Mixed.{Standing, IsMixedAt}
use Rattle.law_world.specs.memory.pipe_steps.Pipes.{AsksTheWay, AreByWay}
use Rattle.law_world.proofs.lemmas.memory.QueueViews.{told_queue}
use Rattle.law_world.proofs.lemmas.memory.lemmas.pipe_steps.Hands.{TellsAlike, ring_alike}
use Rattle.law_world.proofs.lemmas.memory.lemmas.pipe_steps.Sparing.{Spares}

no_stream : (sends takes : ℕ → ℕ → Bool) (ins outs : ℕ → Bool) (ends : ℕ → Told) (n : ℕ) (way : Way) → way ≡ ways.Ctl
    → AsksTheWay sends takes ins outs ends n way → (ins n ≡ true) ⊎ (outs n ≡ true) → ⊥
no_stream sends takes ins outs ends n way is fits some = by (subst (AsksTheWay sends takes ins outs ends n) is fits) some
  where
    by : AsksTheWay sends takes ins outs ends n ways.Ctl → (ins n ≡ true) ⊎ (outs n ≡ true) → ⊥
    by none (inl on) = false≢true (sym none.0 ∙ on)
    by none (inr on) = false≢true (sym none.1 ∙ on)

module _ (s : Standing) (w : World) (mixed : IsMixedAt s w) (k : IsAtMend (driver_parts w) s.parts s.out) (sends takes : ℕ → ℕ → Bool)
    (ins outs : ℕ → Bool) (ends : ℕ → Told) (by_way : AreByWay (queued w.driver) sends takes ins outs ends) where
  abbrev d : DriverContent
  d = queued w.driver

  abbrev n : ℕ
  n = 32 * k.stalled.queue

  owners : HasOwners (queued w.driver)
  owners = queued_has_owners w.driver mixed.now.framed.place.sound.owners mixed.turns

  owed : IsOwed w.driver k.stalled
  owed = k.are.owed.0

  its_kind : is_iso owed.endpoint.desc.kind ≡ false
  its_kind = control_kind owed.endpoint.desc.kind owed.control

  there : slice_get (queued w.driver).endpoints owed.number ≡ Some (with_queue owed.endpoint)
  there = queue_at w.driver.endpoints owed.number owed.endpoint owed.here its_kind

  kept : is_iso (with_queue owed.endpoint).desc.kind || (with_queue owed.endpoint).gone ≡ false
  kept = has_queue (with_queue owed.endpoint) (told_queue owed.endpoint) owed.kept

  way : (with_queue owed.endpoint).desc.name.way ≡ ways.Ctl
  way = its_way owed.endpoint.desc.name.way owed.endpoint.desc.kind (mixed.turns.kinds_fit owed.number owed.endpoint owed.here) owed.control

  -- it is the endpoint that is met there, if any is
  met_one : (h : HasHead (queued w.driver) (32 * k.stalled.queue)) → h.endpoint.desc.name.way ≡ ways.Ctl
  met_one h =
      let same_queue : h.endpoint.queue ≡ (with_queue owed.endpoint).queue = sym
      (same_blocks k.stalled.queue h.endpoint.queue h.at) ∙ sym owed.queue in
      ⊎_elim
      (λ (same : h.number ≡ owed.number).
      let one : h.endpoint ≡ with_queue owed.endpoint = same_Some h.endpoint (with_queue owed.endpoint)
      (sym h.here ∙ ap (slice_get (queued w.driver).endpoints) same ∙ there) in
      ap (λ (x : Endpoint). x.desc.name.way) one ∙ way)
      (λ (differs : h.number ≢ owed.number).
      absurd (queues_apart (queued w.driver) h.number owed.number h.endpoint (with_queue owed.endpoint) owners h.here
      (has_queue h.endpoint (none_iso h) h.met.there.kept) there kept differs same_queue)) (cases_eq h.number owed.number)
    where
      none_iso : (h : HasHead (queued w.driver) (32 * k.stalled.queue)) → is_iso h.endpoint.desc.kind ≡ false
      none_iso h = queue_kind h.endpoint.desc.name.way h.endpoint.desc.kind
          (mixed.turns.turns.asynchronous.endpoints h.number h.endpoint h.here).asynchronous.kind

  none_there : s.near (32 * k.stalled.queue) ≡ true → (ins (32 * k.stalled.queue) ≡ true) ⊎ (outs (32 * k.stalled.queue) ≡ true) → ⊥
  none_there met some =
      ⊎_elim (λ (head : 32 * k.stalled.queue ≡ 32 * head_block).
      ⊎_elim (λ (on : ins (32 * k.stalled.queue) ≡ true). false≢true (sym by_way.head.0 ∙ sym (ap ins head) ∙ on))
      (λ (on : outs (32 * k.stalled.queue) ≡ true). false≢true (sym by_way.head.1 ∙ sym (ap outs head) ∙ on)) some)
      (λ (h : HasHead (queued w.driver) (32 * k.stalled.queue)).
      no_stream sends takes ins outs ends (32 * k.stalled.queue) h.endpoint.desc.name.way (met_one h)
      (subst (λ (i : ℕ). AsksTheWay sends takes ins outs ends i h.endpoint.desc.name.way) (sym h.at)
      (by_way.each h.number h.endpoint h.here h.met)) some)
      (mixed.queues.queues.met.only (32 * k.stalled.queue) met)

  alike : TellsAlike (joined s.hand s.frame) (joined (hand_then k s.hand) s.frame)
  alike = ring_alike s.hand (hand_then k s.hand) s.frame
      (record { hands = stale_hand_is_same (32 * k.stalled.queue) s.hand; unmoved = λ m. stale_is_unmoved (32 * k.stalled.queue) s.hand m })

  pub mend_spares : Spares sends takes s.near ins outs ends s.parts (parts_then k) (joined s.hand s.frame)
      (joined (hand_then k s.hand) s.frame)
  mend_spares = record {
    hands = alike.hands;
    unmoved = λ m on. alike.unmoved m;
    named = λ m x met has. mend_spares_endpoints (driver_parts w) s.parts s.out k m x has;
    heads = λ m met some. mend_spares_heads (driver_parts w) s.parts s.out k m
        (λ (same : m ≡ 32 * k.stalled.queue). none_there (subst (λ (i : ℕ). s.near i ≡ true) same met)
        (subst (λ (i : ℕ). (ins i ≡ true) ⊎ (outs i ≡ true)) same some));
    work = λ m q met on here active. mend_spares_elements (driver_parts w) s.parts s.out k m q.current;
    asks = λ m a u met here active. inl (element_was s.parts (32 * k.stalled.queue) (head_at k) (mended k.stalled (head_at k))
        k.are.wait.0.stands.here m a u here);
  }
