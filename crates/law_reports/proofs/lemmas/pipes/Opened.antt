-- Once an endpoint was opened its stream begins, where it has one at high speed; all others go on.
use Rattle.std.proofs.Common.{◌≡◌, ◌≢◌, ℕ, ◌*◌, ◌&&◌, ◌||◌, Bool, true, false, if◌then◌else◌, slice_get, Some, None, ap, refl, sym, subst}
use Rattle.std.proofs.Common.{◌∙◌, ⊎_elim, inl, inr}
use Rattle.std.proofs.lemmas.Bool.{cases_eq, eq-eqb, false≢true, true≢false, and_parts}
use Rattle.std.proofs.lemmas.Option.{same_Some}
use Rattle.law_world.proofs.Common.{no_control, none_some}
use Rattle.law_common.proofs.Numbers.{other_number, same_blocks}
use Rattle.law_common.proofs.Booleans.{off_by}
use Rattle.usb_base.specs.declared.endpoints.EpDesc.{EpDesc}
use Rattle.usb_base.specs.declared.packets.Speed.{Speed}
use Rattle.usb_base.specs.declared.packets.Speed.TheVariants as speeds
use Rattle.usb_base.specs.declared.packets.Way.{Way}
use Rattle.usb_base.specs.declared.packets.Way.TheVariants as ways
use Rattle.bus_wire.specs.Bus.{Fixed}
use Rattle.claims_driver.specs.Leaving.{HasOwners}
use Rattle.claims_report.specs.Streams.{has_stream}
use Rattle.drv_table.specs.declared.content.Command.TheVariants as unfinished
use Rattle.drv_table.specs.declared.content.Endpoint.{Endpoint}
use Rattle.drv_table.specs.DriverContent.{DriverContent}
use Rattle.drv_table.specs.Kinds.{is_iso}
use Rattle.drv_table.specs.Words.{head_block, is_high, speed_field}
use Rattle.law_driver.specs.queued_drivers.Queued.{queued_endpoint, queued}
use Rattle.law_driver.specs.queued_drivers.Rows.{QueuesAlike}
use Rattle.law_driver.proofs.lemmas.chained_transfers.Staying.{linked_stands_alive}
use Rattle.law_driver.proofs.lemmas.ring_members.Placed.{has_queue, queue_off_head}
use Rattle.law_ring.specs.Told.{Endpoint as Told}
use Rattle.law_controller.specs.controlled_streams.Opened.{with_stream, with_end}
use Rattle.law_controller.specs.controlled_streams.Unopened.{IsUntouched, IsUnopened}
use Rattle.law_driver_ring.specs.fed_queues.Places.{IsMet, AreMet}
use Rattle.law_queues.specs.open_laws.Queues.{IsOpenThere, open_finished}
use Rattle.law_devices.specs.Senders.{sender_of}
use Rattle.law_devices.specs.scripted_takers.Takers.{taker_of}
use Rattle.law_world.specs.steps.Outs.{IsUntaken}
use Rattle.law_world.specs.steps.Streaming.{wired}
use Rattle.law_world.specs.memory.Mixed.{Standing, IsMixedAt}
use Rattle.law_world.specs.memory.Steps.{HasOpened, opens}
use Rattle.law_world.specs.memory.pipe_steps.Laws.{IsBegun, as_in, as_out, as_none}
use Rattle.law_world.specs.memory.pipe_steps.Pipes.{AsksTheWay, AreByWay}
use Rattle.law_world.proofs.lemmas.memory.lemmas.pipe_steps.Opens.{an_open_begins_pipes}
use Rattle.law_reports.specs.lines.Lined.{in_hand, Lines}
use Rattle.law_reports.specs.lines.TellingLaws.{IsTellingNext}
use Rattle.law_reports.proofs.lemmas.lines.Driven.{rows_keep_iso_going}
use Rattle.law_reports.proofs.lemmas.lines.IsoGoing.{told_apart}
use Rattle.bus_world.specs.World.{World, driver_next}
use Rattle.law_reports.specs.pipes.Declared.{Sides, IsDeclaredBy}
use Rattle.law_reports.specs.pipes.Piped.{Heads, asked_as, AreEndsNamed, IsOpening, IsUnused, IsNewHead, IsPiped}
use Rattle.law_reports.proofs.lemmas.pipes.Across.{WasIn}
use Rattle.law_reports.proofs.lemmas.pipes.Carried.{WasMet, was_met, fresh_carried, declared_carried}
use Rattle.law_reports.proofs.lemmas.pipes.Driven.{was_end, now_end}
use Rattle.law_reports.proofs.lemmas.pipes.Names.{WasQueued, was_queued, queue_same, kept_as, same_number, met_near, unmet_off}
use Rattle.law_reports.proofs.lemmas.pipes.Names.{by_real, by_queued}
use Rattle.law_reports.proofs.lemmas.pipes.Names.{unasked, name_is}
use Rattle.law_reports.proofs.lemmas.pipes.NamesKept.{driver_keeps_names}
use Rattle.law_reports.proofs.lemmas.pipes.NewHeads.{made_once}
use Rattle.law_reports.proofs.lemmas.pipes.StartingHeads.{told_new_head}

-- ---- kinds and speeds

high_field : (speed : Speed) → is_high speed ≡ true → speed_field speed ≡ 2
high_field speeds.High on = refl
high_field _ on = absurd (false≢true on)

module _ (fixed : Fixed) (x : Sides) (s : Standing) (m : Lines) (h : Heads) (w : World) (k : IsPiped fixed x s m h w)
    (at : IsOpenThere (queued w.driver) s.parts) (t : Standing)
    (alike : QueuesAlike (open_finished (queued w.driver)) (queued (driver_next w).driver)) (opened : HasOpened s t at.endpoint)
    (mixed : IsMixedAt t (driver_next w)) (next : IsTellingNext s m w (driver_next w) t (opens at t alike opened)) where
  abbrev d : DriverContent
  d = w.driver

  abbrev new : World
  new = driver_next w

  pub owners : HasOwners w.driver
  owners = k.mixed.now.framed.place.sound.owners

  pub near_are : AreMet (queued w.driver) s.near
  near_are = k.mixed.queues.queues.met

  -- ---- who was opened

  pub its : WasQueued w.driver.endpoints at.number at.endpoint
  its = was_queued w.driver.endpoints at.number at.endpoint at.here

  abbrev pub y : Endpoint
  y = its.endpoint

  pub queue_is : at.endpoint.queue ≡ y.queue
  queue_is = ap (λ (z : Endpoint). z.queue) its.is ∙ queue_same y

  abbrev n : ℕ
  n = 32 * at.endpoint.queue

  alive : at.endpoint.gone ≡ false
  alive = linked_stands_alive at.endpoint (k.mixed.turns.turns.asynchronous.endpoints at.number at.endpoint at.here) at.fresh

  pub kept : (y.gone ≡ false) × (is_iso y.desc.kind ≡ false)
  kept = kept_as y (sym (ap (λ (z : Endpoint). z.gone) its.is) ∙ alive)

  pub opening : IsOpening w.driver y
  opening = record {
    kept = kept.0;
    queue = kept.1;
    command = at.command ∙ ap (λ (q : ℕ). Some (unfinished.Open q)) queue_is;
  }

  unmet : IsMet (queued w.driver) at.number (queued_endpoint y) → ⊥
  unmet met = met.there.linked (opening.command ∙ ap (λ (q : ℕ). Some (unfinished.Open q)) (sym (queue_same y)))

  pub off : s.near n ≡ false
  off = ap (λ (q : ℕ). s.near (32 * q)) queue_is
      ∙ unmet_off w.driver s.near owners near_are at.number y its.here (sym (ap (λ (z : Endpoint). z.gone) its.is) ∙ alive) unmet

  abbrev its_end : Told
  its_end = asked_as y.desc

  -- ---- its queue head

  pub head_there : IsNewHead s (32 * at.endpoint.queue) (asked_as y.desc)
  head_there = subst (λ (q : ℕ). IsNewHead s (32 * q) (asked_as y.desc)) (sym queue_is)
      (k.new_heads at.number y its.here opening (made_once s w k.mixed at))

  pub head_then : IsNewHead t (32 * at.endpoint.queue) (asked_as y.desc)
  head_then = told_new_head s t opened.told (32 * at.endpoint.queue) (asked_as y.desc) head_there

  -- ---- its name

  -- no other endpoint has it
  pub its_name : (e : ℕ) (v : Endpoint) → slice_get w.driver.endpoints e ≡ Some v → v.desc.name.way ≡ y.desc.name.way
      → v.desc.name.addr ≡ y.desc.name.addr → v.desc.name.num ≡ y.desc.name.num → (e ≡ at.number) × (v ≡ y)
  its_name e v there way same also =
      let one : e ≡ at.number = told_apart w.driver (in_hand s) s.parts m.reported k.telling.told e at.number v y there its.here
      (name_is v.desc.name y.desc.name same also way) in
      (one, same_Some v y (sym there ∙ ap (slice_get w.driver.endpoints) one ∙ its.here))

  pub unused : (way : Way) → y.desc.name.way ≡ way → IsUnused w.driver way y.desc.name.addr y.desc.name.num
  unused way is e v there its_way same also =
      subst (IsOpening w.driver) (sym (its_name e v there (its_way ∙ sym is) same also).1) opening

  none_met : (way : Way) → y.desc.name.way ≡ way → (e : ℕ) (v : Endpoint) → slice_get w.driver.endpoints e ≡ Some v
      → v.desc.name.way ≡ way → v.desc.name.addr ≡ y.desc.name.addr → v.desc.name.num ≡ y.desc.name.num
      → IsMet (queued w.driver) e (queued_endpoint v) → ⊥
  none_met way is e v there its_way same also met =
      let one = its_name e v there (its_way ∙ sym is) same also in
      unmet (subst (λ (i : ℕ). IsMet (queued w.driver) i (queued_endpoint y)) one.0
      (subst (λ (u : Endpoint). IsMet (queued w.driver) e (queued_endpoint u)) one.1 met))

  ins_unopened : y.desc.name.way ≡ ways.In → IsUnopened h.ins h.ends y.desc.name.addr y.desc.name.num
  ins_unopened is =
      unasked w.driver s.near x.sends x.takes h.ins h.outs h.ends near_are k.by_way k.named ways.In y.desc.name.addr y.desc.name.num
      (λ i on. k.pipes.in_ends.members i on) (none_met ways.In is)

  outs_unopened : y.desc.name.way ≡ ways.Out → IsUnopened h.outs h.ends y.desc.name.addr y.desc.name.num
  outs_unopened is =
      unasked w.driver s.near x.sends x.takes h.ins h.outs h.ends near_are k.by_way k.named ways.Out y.desc.name.addr y.desc.name.num
      (λ i on. k.pipes.out_ends.members i on) (none_met ways.Out is)

  -- ---- its stream

  -- which queue heads have streams then
  pub record Begins : Type 0 where
    ins : ℕ → Bool
    outs : ℕ → Bool
    begun : IsBegun x.sends x.takes x.packets sender_of taker_of h.ins h.outs h.ends (wired fixed w) (32 * at.endpoint.queue)
        (asked_as y.desc) ins outs
    -- the others have what they had
    ins_beside : (i : ℕ) → i ≢ 32 * at.endpoint.queue → ins i ≡ h.ins i
    outs_beside : (i : ℕ) → i ≢ 32 * at.endpoint.queue → outs i ≡ h.outs i
    asks : AsksTheWay x.sends x.takes ins outs (with_end h.ends (32 * at.endpoint.queue) (asked_as y.desc)) (32 * at.endpoint.queue)
        y.desc.name.way

  stream_beside : (those : ℕ → Bool) (i : ℕ) → i ≢ 32 * at.endpoint.queue → with_stream those (32 * at.endpoint.queue) i ≡ those i
  stream_beside those i differs = ap (λ (b : Bool). b || those i) (other_number i n differs)

  stream_here : (those : ℕ → Bool) → with_stream those (32 * at.endpoint.queue) (32 * at.endpoint.queue) ≡ true
  stream_here those = ap (λ (b : Bool). b || those n) (eq-eqb n n refl)

  end_here : with_end h.ends (32 * at.endpoint.queue) (asked_as y.desc) (32 * at.endpoint.queue) ≡ asked_as y.desc
  end_here = ap (λ (b : Bool). if b then its_end else h.ends n) (eq-eqb n n refl)

  pub end_beside : (i : ℕ) → i ≢ 32 * at.endpoint.queue → with_end h.ends (32 * at.endpoint.queue) (asked_as y.desc) i ≡ h.ends i
  end_beside i differs = ap (λ (b : Bool). if b then its_end else h.ends i) (other_number i n differs)

  ins_off : h.ins (32 * at.endpoint.queue) ≡ false
  ins_off = off_by (h.ins n) (λ on. true≢false (sym (k.pipes.in_ends.members n on) ∙ off))

  outs_off : h.outs (32 * at.endpoint.queue) ≡ false
  outs_off = off_by (h.outs n) (λ on. true≢false (sym (k.pipes.out_ends.members n on) ∙ off))

  -- it is one at high speed
  its_speed : (has_stream y.desc.kind && is_high y.desc.speed) ≡ true → ((asked_as y.desc).speed ≡ 2) × ((asked_as y.desc).dtc ≡ false)
  its_speed both =
      let on = and_parts (has_stream y.desc.kind) (is_high y.desc.speed) both in
      (high_field y.desc.speed on.1, no_control y.desc.kind on.0)

  abbrev ends_then : ℕ → Told
  ends_then = with_end h.ends (32 * at.endpoint.queue) (asked_as y.desc)

  begins_in : y.desc.name.way ≡ ways.In → (b : Bool) → x.sends y.desc.name.addr y.desc.name.num ≡ b → Begins
  begins_in is true on =
      let fits = its_speed (sym (subst (IsDeclaredBy x y.desc) is (k.declared at.number y its.here)) ∙ on) in
      record {
        ins = with_stream h.ins n;
        outs = h.outs;
        begun = as_in fits.0 fits.1 on (ins_unopened is) (k.fresh_ins y.desc.name.addr y.desc.name.num on (unused ways.In is));
        ins_beside = stream_beside h.ins;
        outs_beside = λ i differs. refl;
        asks = subst (AsksTheWay x.sends x.takes (with_stream h.ins n) h.outs ends_then n) (sym is) (outs_off, inl (stream_here h.ins));
      }
  begins_in is false none = record {
    ins = h.ins;
    outs = h.outs;
    begun = as_none;
    ins_beside = λ i differs. refl;
    outs_beside = λ i differs. refl;
    asks = subst (AsksTheWay x.sends x.takes h.ins h.outs ends_then n) (sym is)
        (outs_off, inr (ap (λ (u : Told). x.sends u.addr u.ep) end_here ∙ none));
  }

  begins_out : y.desc.name.way ≡ ways.Out → (b : Bool) → x.takes y.desc.name.addr y.desc.name.num ≡ b → Begins
  begins_out is true on =
      let fits = its_speed (sym (subst (IsDeclaredBy x y.desc) is (k.declared at.number y its.here)) ∙ on) in
      record {
        ins = h.ins;
        outs = with_stream h.outs n;
        begun = as_out fits.0 fits.1 on (outs_unopened is) (k.fresh_outs y.desc.name.addr y.desc.name.num on (unused ways.Out is));
        ins_beside = λ i differs. refl;
        outs_beside = stream_beside h.outs;
        asks = subst (AsksTheWay x.sends x.takes h.ins (with_stream h.outs n) ends_then n) (sym is) (ins_off, inl (stream_here h.outs));
      }
  begins_out is false none = record {
    ins = h.ins;
    outs = h.outs;
    begun = as_none;
    ins_beside = λ i differs. refl;
    outs_beside = λ i differs. refl;
    asks = subst (AsksTheWay x.sends x.takes h.ins h.outs ends_then n) (sym is)
        (ins_off, inr (ap (λ (u : Told). x.takes u.addr u.ep) end_here ∙ none));
  }

  begins_none : y.desc.name.way ≡ ways.Ctl → Begins
  begins_none is =
      let none = subst (IsDeclaredBy x y.desc) is (k.declared at.number y its.here) in
      record {
        ins = h.ins;
        outs = h.outs;
        begun = as_none;
        ins_beside = λ i differs. refl;
        outs_beside = λ i differs. refl;
        asks = subst (AsksTheWay x.sends x.takes h.ins h.outs ends_then n) (sym is) (
          ins_off,
          outs_off,
          ap (λ (u : Told). x.sends u.addr u.ep) end_here ∙ none.0,
          ap (λ (u : Told). x.takes u.addr u.ep) end_here ∙ none.1,
        );
      }

  begins_by : (way : Way) → y.desc.name.way ≡ way → Begins
  begins_by ways.In is = begins_in is (x.sends y.desc.name.addr y.desc.name.num) refl
  begins_by ways.Out is = begins_out is (x.takes y.desc.name.addr y.desc.name.num) refl
  begins_by ways.Ctl is = begins_none is

  pub b : Begins
  b = begins_by y.desc.name.way refl

  abbrev pub heads_opened : Heads
  heads_opened = record { ins = b.ins; outs = b.outs; ends = with_end h.ends (32 * at.endpoint.queue) (asked_as y.desc) }

  -- ---- who is met then

  no_command : (queued (driver_next w).driver).command ≡ None
  no_command = alike.command

  -- the one that was opened, or one that was met before
  pub near_was : (i : ℕ) → t.near i ≡ true → i ≢ 32 * at.endpoint.queue → s.near i ≡ true
  near_was i on differs =
      sym (ap (λ (c : Bool). c || s.near i) (other_number i n differs)) ∙ sym (ap (λ (near : ℕ → Bool). near i) opened.near) ∙ on

  pub opened_one : (e : ℕ) (z : Endpoint) → slice_get (driver_next w).driver.endpoints e ≡ Some z
      → IsMet (queued (driver_next w).driver) e (queued_endpoint z) → 32 * z.queue ≡ 32 * at.endpoint.queue → z.desc ≡ y.desc
  opened_one e z here met same =
      let v : WasIn w.driver.endpoints e z = was_end fixed x s m h w k e z here in
      let its_kept = kept_as z met.there.kept in
      let was_kept : (v.endpoint.gone ≡ false) × (is_iso v.endpoint.desc.kind ≡ false) =
      (v.comes.alive its_kept.0, ap (λ (c : EpDesc). is_iso c.kind) (sym v.comes.desc) ∙ its_kept.1) in
      let one : e ≡ at.number = same_number w.driver owners e at.number v.endpoint y v.here its.here was_kept kept
      (ap (λ (q : ℕ). 32 * q) (sym v.comes.queue) ∙ same ∙ ap (λ (q : ℕ). 32 * q) queue_is) in
      v.comes.desc ∙ ap (λ (u : Endpoint). u.desc) (same_Some v.endpoint y (sym v.here ∙ ap (slice_get w.driver.endpoints) one ∙ its.here))

  pub met_before : (e : ℕ) (z : Endpoint) → slice_get (driver_next w).driver.endpoints e ≡ Some z
      → (met : IsMet (queued (driver_next w).driver) e (queued_endpoint z)) → 32 * z.queue ≢ 32 * at.endpoint.queue
      → WasMet w.driver (driver_next w).driver s.near t.near owners near_are mixed.queues.queues.met
      (λ i u there its_met. was_end fixed x s m h w k i u there) e z
  met_before e z here met differs =
      was_met w.driver (driver_next w).driver s.near t.near owners near_are mixed.queues.queues.met
      (λ i u there its_met. was_end fixed x s m h w k i u there) e z here met
      (near_was (32 * z.queue) (met_near (driver_next w).driver t.near mixed.queues.queues.met e z here met) differs)

  named : AreEndsNamed (driver_next w).driver (with_end h.ends (32 * at.endpoint.queue) (asked_as y.desc))
  named e z here met =
      ⊎_elim
      (λ (same : 32 * z.queue ≡ n). ap ends_then same ∙ end_here ∙ ap asked_as (sym (opened_one e z here met same)))
      (λ (differs : 32 * z.queue ≢ n).
      let v = met_before e z here met differs in
      end_beside (32 * z.queue) differs ∙ ap (λ (q : ℕ). h.ends (32 * q)) v.before.comes.queue
      ∙ k.named e v.before.endpoint v.before.here v.met ∙ ap asked_as (sym v.before.comes.desc)) (cases_eq (32 * z.queue) n)

  -- what another queue head has stays
  asks_beside : (i : ℕ) → i ≢ 32 * at.endpoint.queue → (way : Way) → AsksTheWay x.sends x.takes h.ins h.outs h.ends i way
      → AsksTheWay x.sends x.takes b.ins b.outs ends_then i way
  asks_beside i differs ways.In asks = (
    b.outs_beside i differs ∙ asks.0,
    ⊎_elim (λ (on : h.ins i ≡ true). inl (b.ins_beside i differs ∙ on))
        (λ (none : x.sends (h.ends i).addr (h.ends i).ep ≡ false).
        inr (ap (λ (u : Told). x.sends u.addr u.ep) (end_beside i differs) ∙ none)) asks.1,
  )
  asks_beside i differs ways.Out asks = (
    b.ins_beside i differs ∙ asks.0,
    ⊎_elim (λ (on : h.outs i ≡ true). inl (b.outs_beside i differs ∙ on))
        (λ (none : x.takes (h.ends i).addr (h.ends i).ep ≡ false).
        inr (ap (λ (u : Told). x.takes u.addr u.ep) (end_beside i differs) ∙ none)) asks.1,
  )
  asks_beside i differs ways.Ctl asks = (
    b.ins_beside i differs ∙ asks.0,
    b.outs_beside i differs ∙ asks.1,
    ap (λ (u : Told). x.sends u.addr u.ep) (end_beside i differs) ∙ asks.2,
    ap (λ (u : Told). x.takes u.addr u.ep) (end_beside i differs) ∙ asks.3,
  )

  asks_real : (e : ℕ) (z : Endpoint) → slice_get (driver_next w).driver.endpoints e ≡ Some z
      → IsMet (queued (driver_next w).driver) e (queued_endpoint z)
      → AsksTheWay x.sends x.takes b.ins b.outs (with_end h.ends (32 * at.endpoint.queue) (asked_as y.desc)) (32 * z.queue)
      z.desc.name.way
  asks_real e z here met =
      ⊎_elim
      (λ (same : 32 * z.queue ≡ n).
      subst (λ (i : ℕ). AsksTheWay x.sends x.takes b.ins b.outs ends_then i z.desc.name.way) (sym same)
      (subst (λ (c : EpDesc). AsksTheWay x.sends x.takes b.ins b.outs ends_then n c.name.way) (sym (opened_one e z here met same)) b.asks))
      (λ (differs : 32 * z.queue ≢ n).
      let v = met_before e z here met differs in
      asks_beside (32 * z.queue) differs z.desc.name.way
      (subst (λ (c : EpDesc). AsksTheWay x.sends x.takes h.ins h.outs h.ends (32 * z.queue) c.name.way) (sym v.before.comes.desc)
      (subst (λ (q : ℕ). AsksTheWay x.sends x.takes h.ins h.outs h.ends (32 * q) v.before.endpoint.desc.name.way)
      (sym v.before.comes.queue)
      (by_real w.driver x.sends x.takes h.ins h.outs h.ends k.by_way e v.before.endpoint v.before.here v.met))))
      (cases_eq (32 * z.queue) n)

  off_head : 32 * head_block ≢ 32 * at.endpoint.queue
  off_head same =
      queue_off_head w.driver at.number y owners its.here (has_queue y kept.1 kept.0)
      (sym queue_is ∙ sym (same_blocks head_block at.endpoint.queue same))

  by_way : AreByWay (queued (driver_next w).driver) x.sends x.takes b.ins b.outs
      (with_end h.ends (32 * at.endpoint.queue) (asked_as y.desc))
  by_way = record {
    each = by_queued (driver_next w).driver x.sends x.takes b.ins b.outs ends_then asks_real;
    head = (
      b.ins_beside (32 * head_block) off_head ∙ k.by_way.head.0,
      b.outs_beside (32 * head_block) off_head ∙ k.by_way.head.1,
    );
  }

  -- ---- the whole

  never : (q : ℕ) → (queued (driver_next w).driver).command ≡ Some (unfinished.Open q) → ⊥
  never q opens_it = none_some (unfinished.Open q) (sym no_command ∙ opens_it)

  pub opened_piped : IsPiped fixed x t next.lines heads_opened (driver_next w)
  opened_piped = record {
    mixed = mixed;
    telling = next.telling;
    going = rows_keep_iso_going s m w k.mixed k.telling k.going;
    declared = declared_carried x w.driver (driver_next w).driver (was_end fixed x s m h w k) k.declared;
    descriptors = driver_keeps_names s w k.mixed k.descriptors;
    named = named;
    by_way = by_way;
    pipes = an_open_begins_pipes sender_of taker_of x.sends x.takes x.packets h.ins h.outs b.ins b.outs h.ends m.acc next.lines.acc
        (wired fixed w) s t w (asked_as y.desc) k.mixed at opened head_then.named head_then.first next.after.none
        (λ i differs. next.after.moved i differs) b.begun k.pipes;
    new_heads = λ e z here o made. absurd (never z.queue o.command);
    fresh_ins = fresh_carried w.driver (driver_next w).driver (now_end fixed x s m h w k) (λ q is. absurd (never q is)) ways.In x.sends
        (λ addr ep. IsUntouched (x.packets addr ep) (sender_of (wired fixed w) addr ep)) k.fresh_ins;
    fresh_outs = fresh_carried w.driver (driver_next w).driver (now_end fixed x s m h w k) (λ q is. absurd (never q is)) ways.Out x.takes
        (λ addr ep. IsUntaken (taker_of (wired fixed w) addr ep)) k.fresh_outs;
  }
