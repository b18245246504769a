-- Each step of a queue leaves the active qTDs of an IN endpoint INs.
use Rattle.std.proofs.Common.{◌≡◌, ◌≢◌, ℕ, ◌*◌, ◌==◌, Bool, true, false, slice_get, Some, ap, refl, sym, subst, ◌∙◌, ⊎_elim, inr}
use Rattle.std.specs.Prelude.{◌⊎◌}
use Rattle.std.proofs.lemmas.Bool.{cases_eq, eq-eqb, true≢false}
use Rattle.std.proofs.lemmas.Option.{same_Some}
use Rattle.law_common.proofs.Numbers.{same_blocks, other_number}
use Rattle.law_driver.proofs.Common.{get_queued, control_told, control_kind}
use Rattle.usb_base.specs.declared.endpoints.EpDesc.{EpDesc}
use Rattle.usb_base.specs.declared.endpoints.EpName.{EpName}
use Rattle.usb_base.specs.declared.packets.Way.{Way}
use Rattle.usb_base.specs.declared.packets.Way.TheVariants as ways
use Rattle.qh_qtd.specs.declared.qtd.Qtd.{Qtd}
use Rattle.claims_driver.specs.Leaving.{HasOwners}
use Rattle.claims_report.specs.Streams.{has_stream}
use Rattle.drv_table.specs.declared.content.Command.TheVariants as unfinished
use Rattle.drv_table.specs.declared.content.Endpoint.{Endpoint}
use Rattle.drv_table.specs.DriverContent.{DriverContent}
use Rattle.drv_table.specs.Kinds.{is_iso}
use Rattle.drv_table.specs.Words.{to_queue_head, dummy_qtd, is_control, head_block}
use Rattle.law_driver.specs.queued_drivers.Queued.{queued_kind, queued_endpoint, with_queue, queued}
use Rattle.law_driver.proofs.lemmas.queued_drivers.CommandFields.{desc_same, name_same}
use Rattle.law_driver.proofs.lemmas.queued_drivers.RowLists.{queue_at}
use Rattle.law_driver.proofs.lemmas.ring_members.Placed.{has_queue, queue_off_head}
use Rattle.law_structures.specs.lent_structures.Structures.{QueueHead, Element, StructureSets, put}
use Rattle.law_structures.proofs.lemmas.lent_structures.Names.{put_beside}
use Rattle.law_structures.proofs.lemmas.lent_structures.Altering.{found_element}
use Rattle.law_ring.specs.Pipes.{IsIn}
use Rattle.law_ring.proofs.Returning.{those_found}
use Rattle.law_driver_ring.specs.fed_queues.Places.{IsThere, IsMet}
use Rattle.law_queues.specs.mended_heads.Mended.{IsAtMend, head_at, mended}
use Rattle.law_queues.specs.mended_heads.Owed.{IsOwed}
use Rattle.law_queues.specs.open_laws.Queues.{IsOpenThere}
use Rattle.law_world.proofs.lemmas.streams.Told.{there_on}
use Rattle.law_world.specs.memory.Mixed.{Standing, IsMixedAt}
use Rattle.law_world.specs.memory.Steps.{HasOpened}
use Rattle.law_world.specs.memory.Steps.{QueueStep, stays, harvests, returns, lends, stores, mends, begins, opens, unlinks, narrows, goes}
use Rattle.law_world.specs.memory.pipe_steps.Laws.{IsNoOpening}
use Rattle.law_world.specs.memory.pipe_steps.Pipes.{AsksTheWay, AreByWay}
use Rattle.law_world.proofs.lemmas.memory.HarvestKept.{owners_of}
use Rattle.law_world.proofs.lemmas.memory.lemmas.pipe_steps.Sparing.{AsksRight}
use Rattle.law_world.proofs.lemmas.memory.lemmas.pipe_steps.Lends.{lend_spares}
use Rattle.law_world.proofs.lemmas.memory.lemmas.pipe_steps.Stores.{store_spares}
use Rattle.law_reports.specs.lines.Lined.{in_hand, counted}
use Rattle.law_reports.proofs.lemmas.lines.Heads.{there_alone}
use Rattle.law_reports.proofs.lemmas.lines.Same.{relinked_put}
use Rattle.bus_world.specs.World.{World, driver_parts}
use Rattle.law_reports.proofs.lemmas.pipes.Names.{WasQueued, was_queued, queue_same, kept_as, same_number}

-- an IN endpoint that is there has its queue head at n
pub record IsThereIn (d : DriverContent) (n : ℕ) : Type 0 where
  pub number : ℕ
  pub endpoint : Endpoint
  pub here : slice_get d.endpoints number ≡ Some endpoint
  pub there : IsThere (queued d) (queued_endpoint endpoint)
  pub way_is : endpoint.desc.name.way ≡ ways.In
  pub at : n ≡ 32 * endpoint.queue

module _ (s : Standing) (w : World) (mixed : IsMixedAt s w) (n : ℕ) (is_in : IsThereIn w.driver n) where
  counts : counted w.driver n ≡ true
  counts =
      let v : Endpoint = is_in.endpoint in
      let streams : has_stream (queued_endpoint v).desc.kind ≡ true =
      ap (λ (c : EpDesc). has_stream c.kind) (desc_same v) ∙ ap (λ (way : Way). has_stream (queued_kind way)) is_in.way_is in
      ap (counted w.driver) is_in.at ∙ ap (λ (q : ℕ). counted w.driver (32 * q)) (sym (queue_same v))
      ∙ there_on (queued w.driver) is_in.number (queued_endpoint v) (get_queued w.driver.endpoints is_in.number v is_in.here)
      is_in.there streams

  -- it isn't the queue head of an endpoint that is opened
  opening_beside : (q : ℕ) → (queued w.driver).command ≡ Some (unfinished.Open q) → n ≢ 32 * q
  opening_beside q opening same =
      is_in.there.linked (opening ∙ ap (λ (b : ℕ). Some (unfinished.Open b))
      (same_blocks q is_in.endpoint.queue (sym same ∙ is_in.at) ∙ sym (queue_same is_in.endpoint)))

  module _ (at : IsAtMend (driver_parts w) s.parts s.out) where
    owed : IsOwed w.driver at.stalled
    owed = at.are.owed.0

    its_own : slice_get (queued w.driver).endpoints owed.number ≡ Some (with_queue owed.endpoint)
    its_own = queue_at w.driver.endpoints owed.number owed.endpoint owed.here (control_kind owed.endpoint.desc.kind owed.control)

    control : is_control (with_queue owed.endpoint).desc.kind ≡ true
    control =
        control_told owed.endpoint.desc.name.way owed.endpoint.desc.kind (mixed.turns.kinds_fit owed.number owed.endpoint owed.here)
        owed.control

    mend_apart : n ≢ 32 * at.stalled.queue
    mend_apart same =
        there_alone (queued w.driver) owed.number (with_queue owed.endpoint) (owners_of s w mixed) mixed.turns.turns.asynchronous
        its_own owed.kept control
        (ap (λ (b : ℕ). counted w.driver (32 * b)) owed.queue ∙ ap (counted w.driver) (sym same) ∙ counts)

  -- ---- it is the only IN that is spoken of

  abbrev none : ℕ → ℕ → Bool
  none addr ep = false

  abbrev no_outs : ℕ → Bool
  no_outs i = false

  abbrev single : ℕ → Bool
  single i = i == n

  owners : HasOwners w.driver
  owners = mixed.now.framed.place.sound.owners

  its_kept : (is_in.endpoint.gone ≡ false) × (is_iso is_in.endpoint.desc.kind ≡ false)
  its_kept = kept_as is_in.endpoint is_in.there.kept

  -- no other endpoint that is met has its queue head
  its_way : (e : ℕ) (u : Endpoint) → slice_get (queued w.driver).endpoints e ≡ Some u → IsMet (queued w.driver) e u → 32 * u.queue ≡ n
      → u.desc.name.way ≡ ways.In
  its_way e u here is_met same =
      let v : WasQueued w.driver.endpoints e u = was_queued w.driver.endpoints e u here in
      let kept = kept_as v.endpoint (ap (λ (y : Endpoint). y.gone) (sym v.is) ∙ is_met.there.kept) in
      let place : 32 * v.endpoint.queue ≡ 32 * is_in.endpoint.queue =
      ap (λ (q : ℕ). 32 * q) (sym (queue_same v.endpoint)) ∙ ap (λ (y : Endpoint). 32 * y.queue) (sym v.is) ∙ same ∙ is_in.at in
      let one : e ≡ is_in.number =
      same_number w.driver owners e is_in.number v.endpoint is_in.endpoint v.here is_in.here kept its_kept place in
      let is : v.endpoint ≡ is_in.endpoint =
      same_Some v.endpoint is_in.endpoint (sym v.here ∙ ap (slice_get w.driver.endpoints) one ∙ is_in.here) in
      ap (λ (y : Endpoint). y.desc.name.way) v.is ∙ ap (λ (name : EpName). name.way) (name_same v.endpoint)
      ∙ ap (λ (y : Endpoint). y.desc.name.way) is ∙ is_in.way_is

  out_in : ways.Out ≡ ways.In → ⊥
  out_in e = cc

  control_in : ways.Ctl ≡ ways.In → ⊥
  control_in e = cc

  asks_its_way : (e : ℕ) (u : Endpoint) → slice_get (queued w.driver).endpoints e ≡ Some u → IsMet (queued w.driver) e u
      → (way : Way) → u.desc.name.way ≡ way → AsksTheWay none none single no_outs s.ends (32 * u.queue) way
  asks_its_way e u here is_met ways.In is = (refl, inr refl)
  asks_its_way e u here is_met ways.Out is =
      (other_number (32 * u.queue) n (λ same. out_in (sym is ∙ its_way e u here is_met same)), inr refl)
  asks_its_way e u here is_met ways.Ctl is =
      (other_number (32 * u.queue) n (λ same. control_in (sym is ∙ its_way e u here is_met same)), refl, refl, refl)

  pub by_way : AreByWay (queued w.driver) none none single no_outs s.ends
  by_way = record {
    each = λ e u here is_met. asks_its_way e u here is_met u.desc.name.way refl;
    head = (
      other_number (32 * head_block) n (λ same.
          queue_off_head w.driver is_in.number is_in.endpoint owners is_in.here (has_queue is_in.endpoint its_kept.1 its_kept.0)
          (same_blocks is_in.endpoint.queue head_block (sym is_in.at ∙ sym same))),
      refl,
    );
  }

  single_here : (n == n) ≡ true
  single_here = eq-eqb n n refl

  module _ (ins : IsIn (s.parts n)) where
    either : (a : ℕ) (u : Qtd) → u.token.active ≡ true
        → (s.parts n a ≡ Some (Element u)) ⊎ AsksRight none none single no_outs s.ends n u.token.pid → u.token.pid ≡ 1
    either a u on asks =
        ⊎_elim (λ (was_there : s.parts n a ≡ Some (Element u)). ins a u was_there on)
        (λ (right : AsksRight none none single no_outs s.ends n u.token.pid). right.in_one single_here) asks

    pub step_ins : (new : World) (t : Standing) (step : QueueStep s w new t) → IsNoOpening step → IsIn (t.parts n)
    step_ins new _ (stays t none_of still) other = λ a u here on. ins a u ((still.told.parts n).elements_were a u here) on
    step_ins new _ (harvests e t found due later row after) other = ins
    step_ins new _ (returns t y z row r) other =
        λ a u here on. ins a u (those_found s.parts (32 * z.queue) _ n a (Element u) here) on
    step_ins new _ (lends b words get order out row behind) other =
        λ a u here on.
        either a u on
        ((lend_spares s w mixed b words get none none single no_outs s.ends by_way order out behind (λ i. true) (in_hand s)).asks n a u refl
        here on)
    step_ins new _ (stores b words p is) other =
        λ a u here on.
        either a u on
        ((store_spares s w new mixed b words p is none none single no_outs s.ends by_way (λ i. true) (in_hand s)).asks n a u refl here on)
    step_ins new _ (mends at row) other =
        let own : ℕ = 32 * at.stalled.queue in
        subst IsIn (sym (put_beside s.parts own own (QueueHead (mended at.stalled (head_at at))) n (mend_apart at))) ins
    step_ins new _ (begins at row alike) other =
        let own : ℕ = 32 * at.endpoint.queue in
        let differs : n ≢ own = opening_beside at.endpoint.queue at.command in
        subst IsIn (sym (put_beside (put s.parts own own (QueueHead at.queue)) own (32 * at.endpoint.dummy) (Element dummy_qtd) n differs
        ∙ put_beside s.parts own own (QueueHead at.queue) n differs)) ins
    step_ins new _ (opens at t alike opened) other = absurd other
    step_ins new _ (unlinks at row) other =
        λ a u here on.
        ins a u ((relinked_put s.parts (32 * at.before) at.queue (to_queue_head at.after) at.head n).elements_were a u here) on
    step_ins new _ (narrows member fewer row are wider) other = ins
    step_ins new _ (goes e y d t back is) other =
        subst (λ (ps : StructureSets). IsIn (ps n)) (sym is.parts)
        (λ a u here on. ins a u (those_found s.parts (32 * y.queue) (λ b. true) n a (Element u) here) on)

-- ---- the end of an open

module _ (s : Standing) (w : World) (at : IsOpenThere (queued w.driver) s.parts) where
  abbrev new : ℕ
  new = 32 * at.endpoint.queue

  is_dummy : (a : ℕ) (u : Qtd) → s.parts (32 * at.endpoint.queue) a ≡ Some (Element u) → dummy_qtd ≡ u
  is_dummy a u here =
      found_element (s.parts new (32 * at.endpoint.dummy)) dummy_qtd u at.part.dummy
      (ap (s.parts new) (sym (at.part.only a u here)) ∙ here)

  -- none of its qTDs is active
  pub none_active : {A : Type 0} (a : ℕ) (u : Qtd) → s.parts (32 * at.endpoint.queue) a ≡ Some (Element u) → u.token.active ≡ true → A
  none_active a u here on = absurd (true≢false (sym on ∙ ap (λ (v : Qtd). v.token.active) (sym (is_dummy a u here))))

  module _ (t : Standing) (opened : HasOpened s t at.endpoint) (n : ℕ) where
    pub opened_ins : (n ≢ 32 * at.endpoint.queue → IsIn (s.parts n)) → IsIn (t.parts n)
    opened_ins others a u here on =
        let was : s.parts n a ≡ Some (Element u) = (opened.told.parts n).elements_were a u here in
        ⊎_elim (λ (same : n ≡ new). none_active a u (ap (λ (i : ℕ). s.parts i a) (sym same) ∙ was) on)
        (λ (differs : n ≢ new). others differs a u was on) (cases_eq n new)
