-- A control endpoint that was opened is told so: what is being linked in frames is another one.
use Rattle.std.proofs.Common.{◌≡◌, ◌≢◌, ℕ, suc, ◌-◌, ◌*◌, ◌==◌, ◌&&◌, ◌||◌, not, Bool, true, false, length, slice_get, Option, Some, None}
use Rattle.std.proofs.Common.{if◌then◌else◌, ap, refl, sym, subst, ◌∙◌, ⊎_elim, arith}
use Rattle.std.specs.Prelude.{◌⊎◌, is_some}
use Rattle.std.proofs.lemmas.Bool.{cases_eq, eqb-true, false≢true, true≢false}
use Rattle.std.proofs.lemmas.Option.{same_Some}
use Rattle.law_common.proofs.Booleans.{left_or, not_on}
use Rattle.law_driver.proofs.Common.{of_queue, of_none}
use Rattle.law_world.proofs.Common.{same_queue}
use Rattle.usb_base.specs.declared.packets.EpKind.{EpKind}
use Rattle.usb_base.specs.declared.packets.EpKind.TheVariants as kinds
use Rattle.claims_driver.specs.Leaving.{HasOwners}
use Rattle.drv_periodic_table.specs.Periodic.{is_periodic}
use Rattle.drv_table.specs.declared.content.Command.{Command}
use Rattle.drv_table.specs.declared.content.Command.TheVariants as unfinished
use Rattle.drv_table.specs.declared.content.Endpoint.{Endpoint}
use Rattle.drv_table.specs.DriverContent.{DriverContent}
use Rattle.drv_table.specs.Kinds.{is_iso}
use Rattle.drv_table.specs.Words.{is_control}
use Rattle.law_driver.specs.queued_drivers.Queued.{with_queue, queued_endpoint, queued_command, queue_of, queued}
use Rattle.law_driver.proofs.lemmas.ring_members.Placed.{has_queue, in_ring_alive, queues_apart}
use Rattle.law_driver_ring.specs.fed_queues.Places.{IsMet}
use Rattle.claims_world.specs.Requests.{opens, is_opening}
use Rattle.bus_world.specs.World.{World}
use Rattle.law_world.specs.memory.Mixed.{IsChainToLend, IsChainThere, IsUnderWay, Standing, IsMixedAt}
use Rattle.law_reports.proofs.lemmas.pipes.Names.{queue_same, WasQueued, was_queued}

control_ring : (kind : EpKind) → is_control kind ≡ true → (is_periodic kind ≡ false) × (is_iso kind ≡ false)
control_ring kinds.Control on = (refl, refl)
control_ring _ on = absurd (false≢true on)

chain_no_open : (q : ℕ) → Some unfinished.Chain ≡ Some (unfinished.Open q) → ⊥
chain_no_open q same = cc

newest_is : (n e : ℕ) → suc e ≡ n → n - 1 ≡ e
newest_is n e is = omega (arith, is)

and_off : (b : Bool) → (b && false) ≡ false
and_off true = refl
and_off false = refl

module _ (s : Standing) (w : World) (k : IsMixedAt s w) (e : ℕ) (x : Endpoint) (here : slice_get w.driver.endpoints e ≡ Some x)
    (on : is_control x.desc.kind ≡ true) where
  abbrev d : DriverContent
  d = w.driver

  owners : HasOwners w.driver
  owners = k.now.framed.place.sound.owners

  kind : (is_periodic x.desc.kind ≡ false) × (is_iso x.desc.kind ≡ false)
  kind = control_ring x.desc.kind on

  pub told_as : queued_endpoint x ≡ with_queue x
  told_as = of_queue x kind.1

  -- ---- the endpoint that is being linked in frames

  alone : x.gone ≡ false → (f : ℕ) (z : Endpoint) → slice_get w.driver.endpoints f ≡ Some z → is_iso z.desc.kind || z.gone ≡ false
      → z.queue ≡ x.queue → e ≡ f
  alone kept f z there alive same =
      ⊎_elim {C = e ≡ f} (λ (is : e ≡ f). is)
      (λ (differs : e ≢ f).
      absurd (queues_apart d e f x z owners here (has_queue x kind.1 kept) there alive differs (sym same))) (cases_eq e f)

  to_lend : x.gone ≡ false → queue_of (slice_get w.driver.endpoints (length w.driver.endpoints - 1)) ≡ x.queue
      → IsChainToLend w.driver w.memory → ⊥
  to_lend kept same r =
      let last : slice_get w.driver.endpoints (length w.driver.endpoints - 1) ≡ Some r.ready.endpoint =
      ap (slice_get w.driver.endpoints) (newest_is (length w.driver.endpoints) r.ready.number r.newest) ∙ r.ready.here in
      let one : e ≡ r.ready.number =
      alone kept r.ready.number r.ready.endpoint r.ready.here r.ready.opened.here.queued (ap queue_of (sym last) ∙ same) in
      let its : x ≡ r.ready.endpoint = same_Some x r.ready.endpoint (sym here ∙ ap (slice_get w.driver.endpoints) one ∙ r.ready.here) in
      true≢false (sym (sym (owners.orderly.steady r.ready.number r.ready.endpoint r.ready.here).placed ∙ ap is_some r.ready.placed)
      ∙ ap (λ (y : Endpoint). is_periodic y.desc.kind) (sym its) ∙ kind.0)

  alive_by : (f : ℕ) (z : Endpoint) → slice_get w.driver.endpoints f ≡ Some z → (queued_endpoint z).linked ≡ true → (i p : Bool)
      → is_iso z.desc.kind ≡ i → is_periodic z.desc.kind ≡ p → is_iso z.desc.kind || z.gone ≡ false
  alive_by f z there linked true p is periodic = absurd (false≢true (sym (ap (λ (y : Endpoint). y.linked) (of_none z is)) ∙ linked))
  alive_by f z there linked false true is periodic =
      has_queue z is
      (not_on z.gone (sym (ap (λ (b : Bool). if b then not z.gone else z.linked) periodic)
      ∙ sym (ap (λ (y : Endpoint). y.linked) (of_queue z is)) ∙ linked))
  alive_by f z there linked false false is periodic =
      in_ring_alive d f z owners.orderly there
      (sym (ap (λ (b : Bool). if b then not z.gone else z.linked) periodic) ∙ sym (ap (λ (y : Endpoint). y.linked) (of_queue z is))
      ∙ linked)

  there_unmet : x.gone ≡ false → queue_of (slice_get w.driver.endpoints (length w.driver.endpoints - 1)) ≡ x.queue
      → w.driver.command ≡ Some unfinished.Chain → IsChainThere w.driver s.member s.recent s.parts → ⊥
  there_unmet kept same is t =
      let z : WasQueued w.driver.endpoints t.there.number t.there.endpoint =
      was_queued w.driver.endpoints t.there.number t.there.endpoint t.there.here in
      let last : t.there.endpoint.queue ≡ queue_of (slice_get w.driver.endpoints (length w.driver.endpoints - 1)) =
      same_queue t.there.endpoint.queue (queue_of (slice_get w.driver.endpoints (length w.driver.endpoints - 1)))
      (sym t.there.command ∙ ap (queued_command w.driver.endpoints) is) in
      let linked : (queued_endpoint z.endpoint).linked ≡ true = ap (λ (y : Endpoint). y.linked) (sym z.is) ∙ t.there.fresh in
      let queue : z.endpoint.queue ≡ x.queue = sym (queue_same z.endpoint) ∙ ap (λ (y : Endpoint). y.queue) (sym z.is) ∙ last ∙ same in
      let one : e ≡ t.there.number =
      alone kept t.there.number z.endpoint z.here
      (alive_by t.there.number z.endpoint z.here linked (is_iso z.endpoint.desc.kind) (is_periodic z.endpoint.desc.kind) refl refl) queue in
      let its : x ≡ z.endpoint = same_Some x z.endpoint (sym here ∙ ap (slice_get w.driver.endpoints) one ∙ z.here) in
      let in_ring : x.linked ≡ true =
      sym (ap (λ (b : Bool). if b then not x.gone else x.linked) kind.0) ∙ sym (ap (λ (y : Endpoint). y.linked) told_as)
      ∙ ap (λ (y : Endpoint). (queued_endpoint y).linked) its ∙ linked in
      let met : IsMet w.driver e x = record {
        there = record { linked = λ opened. chain_no_open x.queue (sym is ∙ opened); kept = kept };
        near = left_or x.linked _ in_ring;
      } in
      false≢true (sym t.unmet ∙ ap (λ (q : ℕ). s.member (32 * q)) (last ∙ same) ∙ k.ring.each e x here met)

  chained : x.gone ≡ false → queue_of (slice_get w.driver.endpoints (length w.driver.endpoints - 1)) ≡ x.queue
      → w.driver.command ≡ Some unfinished.Chain → IsChainToLend w.driver w.memory ⊎ IsChainThere w.driver s.member s.recent s.parts → ⊥
  chained kept same is stand = ⊎_elim {C = ⊥} (to_lend kept same) (there_unmet kept same is) stand

  -- ---- it was opened

  by_gone : w.driver.command ≡ Some unfinished.Chain → (gone : Bool) → x.gone ≡ gone → (b : Bool)
      → (queue_of (slice_get w.driver.endpoints (length w.driver.endpoints - 1)) == x.queue) ≡ b
      → ((queue_of (slice_get w.driver.endpoints (length w.driver.endpoints - 1)) == x.queue) && not x.gone) ≡ false
  by_gone is true gone b same =
      ap (λ (g : Bool). (queue_of (slice_get d.endpoints (length d.endpoints - 1)) == x.queue) && not g) gone
      ∙ and_off (queue_of (slice_get d.endpoints (length d.endpoints - 1)) == x.queue)
  by_gone is false kept false same = ap (λ (b : Bool). b && not x.gone) same
  by_gone is false kept true same =
      absurd (chained kept (eqb-true (queue_of (slice_get d.endpoints (length d.endpoints - 1))) x.queue same) is
      (subst (IsUnderWay w.driver w.memory s.member s.recent s.parts) is k.under_way))

  unopened : (c : Option Command) → w.driver.command ≡ c → (opens c x.queue && not x.gone) ≡ false
      → (opens (queued_command w.driver.endpoints c) x.queue && not x.gone) ≡ false
  unopened None is off = off
  unopened (Some (unfinished.Open b)) is off = off
  unopened (Some (unfinished.Publish b words)) is off = off
  unopened (Some (unfinished.Unlink f b link)) is off = off
  unopened (Some unfinished.Chain) is off =
      by_gone is x.gone refl (queue_of (slice_get d.endpoints (length d.endpoints - 1)) == x.queue) refl
  unopened (Some (unfinished.Iso f t count)) is off = refl
  unopened (Some (unfinished.Unchain f)) is off = refl

  pub opened_told : is_opening w.driver x ≡ false → is_opening (queued w.driver) (queued_endpoint x) ≡ false
  opened_told off =
      ap (λ (y : Endpoint). opens (queued w.driver).command y.queue && not y.gone) told_as ∙ unopened w.driver.command refl off
