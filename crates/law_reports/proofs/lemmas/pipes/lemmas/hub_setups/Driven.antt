-- Each event of the driver leaves what is sent as a SETUP to a device among the setup bytes of requests to it.
use Rattle.std.proofs.Common.{◌≡◌, ◌≢◌, ℕ, ◌-◌, ◌*◌, ◌<◌, ◌≤◌, true, List, length, slice_get}
use Rattle.std.proofs.Common.{Option, Some, None, Result, Ok, Err, ap, refl, sym, subst, ◌∙◌, ⊎_elim, inl, inr, arith}
use Rattle.std.specs.Prelude.{◌⊎◌}
use Rattle.std.proofs.lemmas.Bool.{cases_eq, cases_lt, eq-eqb, true≢false, false≢true}
use Rattle.std.proofs.lemmas.Option.{same_Some}
use Rattle.law_driver_ring.proofs.Common.{partly_idle}
use Rattle.law_microframes.proofs.Common.{idle_by}
use Rattle.law_world.proofs.Common.{no_open, none_some}
use Rattle.usb_base.specs.declared.commands.Cmd.{Cmd}
use Rattle.usb_base.specs.declared.endpoints.EpName.{EpName}
use Rattle.usb_base.specs.declared.packets.Pid.TheVariants as pids
use Rattle.usb_base.specs.declared.packets.Way.{Way}
use Rattle.usb_base.specs.declared.packets.Way.TheVariants as ways
use Rattle.usb_base.specs.declared.reports.OfferError.{OfferError}
use Rattle.word_mem.specs.Memory.{Mem}
use Rattle.qh_qtd.specs.declared.qtd.Qtd.{Qtd}
use Rattle.hc_copy.specs.Planning.{pid_at}
use Rattle.bus_wire.specs.Bus.{Fixed}
use Rattle.drv_periodic_table.specs.declared.content.Removed.TheVariants as removed
use Rattle.drv_table.specs.declared.content.Command.{Command}
use Rattle.drv_table.specs.declared.content.Command.TheVariants as unfinished
use Rattle.drv_table.specs.declared.content.Endpoint.{Endpoint}
use Rattle.drv_table.specs.declared.content.Sort.TheVariants as sorts
use Rattle.drv_table.specs.declared.content.Transfer.{Transfer}
use Rattle.drv_table.specs.declared.rows.DriverRow.{DriverRow}
use Rattle.drv_table.specs.declared.rows.DriverRow.TheVariants as rows
use Rattle.drv_table.specs.Accepting.{Offered}
use Rattle.drv_table.specs.DriverContent.{DriverContent}
use Rattle.drv_table.specs.Offers.{offered}
use Rattle.drv_table.specs.Parts.{Parts}
use Rattle.drv_table.specs.Rows.{driver_row, after_driver_row}
use Rattle.drv_table.specs.Words.{dummy_qtd, to_queue_head}
use Rattle.law_driver.specs.chained_transfers.Bulk.{MovesAs, sort_by, pid_by}
use Rattle.law_driver.specs.queued_drivers.Queued.{queued_command, queued}
use Rattle.law_driver.specs.queued_drivers.Rows.{IsOfQueues}
use Rattle.law_driver.proofs.lemmas.queued_drivers.CommandFields.{name_same}
use Rattle.law_driver.proofs.lemmas.queued_drivers.RowEvents.{idle_told}
use Rattle.law_driver.proofs.lemmas.run_owners.Commands.{each_command_has_its_reason}
use Rattle.law_structures.specs.lent_structures.Structures.{QueueHead, Element, StructureSets, Tells, put}
use Rattle.law_structures.specs.lent_structures.Sound.{buffer_name}
use Rattle.law_structures.proofs.lemmas.lent_structures.Altering.{found_element}
use Rattle.law_ring.specs.Effects.{bytes_in, buffer_of}
use Rattle.law_ring.specs.Told.{Endpoint as Told}
use Rattle.law_controller.proofs.lemmas.controlled_streams.Storing.{element_found, bytes_stay}
use Rattle.law_driver_ring.specs.Published.{partly}
use Rattle.law_driver_ring.specs.Released.{goes_of}
use Rattle.law_driver_ring.specs.fed_queues.Fed.{IsPublished, AreFed}
use Rattle.law_driver_ring.specs.fed_queues.Places.{IsMet}
use Rattle.law_driver_ring.proofs.lemmas.fed_queues.Places.{stands_met}
use Rattle.law_queues.specs.fed_lends.ToLend.{IsToBeLent, lent_now}
use Rattle.law_queues.specs.lent_fronts.Stands.{parts_with}
use Rattle.law_queues.proofs.lemmas.lent_fronts.Row.{lend_is_made}
use Rattle.law_queues.specs.mended_heads.Mended.{head_at, mended}
use Rattle.law_queues.specs.open_laws.Queues.{IsOpenThere}
use Rattle.law_queues.specs.publish_laws.Stores.{parts_then as parts_stored, next_of}
use Rattle.law_world.specs.memory.Mixed.{Standing, IsMixedAt}
use Rattle.law_world.specs.memory.Steps.{told_parts, IsToldRow, HasBehind, IsNextStore, HasOpened, HasNoStep, LeftBy}
use Rattle.law_world.specs.memory.Steps.{left_the_ring, left_its_frames}
use Rattle.law_world.specs.memory.Steps.{left_alike, left_by_frames, left_by_bell, left_by_status, left_by_command}
use Rattle.law_world.specs.memory.Steps.{QueueStep, stays, harvests, returns, lends, stores, mends, begins, opens, unlinks, narrows, goes}
use Rattle.law_world.specs.memory.pipe_steps.Laws.{IsNoOpening}
use Rattle.law_world.proofs.lemmas.memory.HarvestKept.{tells_of}
use Rattle.law_world.proofs.lemmas.memory.PublishStores.{by_store}
use Rattle.law_world.proofs.lemmas.memory.RingBasis.{due_is, row_alike}
use Rattle.bus_world.specs.World.{World, driver_parts, driver_next, name_in, commanded_by}
use Rattle.law_reports.specs.lines.Lined.{Lines}
use Rattle.law_reports.proofs.lemmas.lines.ToldStores.{storing}
use Rattle.law_reports.specs.pipes.Declared.{Sides}
use Rattle.law_reports.specs.pipes.Piped.{Heads, IsPiped}
use Rattle.law_reports.specs.requests.Asking.{is_publishing}
use Rattle.law_reports.proofs.lemmas.pipes.Across.{row_command}
use Rattle.law_reports.proofs.lemmas.pipes.DrivenSteps.{none_nearer}
use Rattle.law_reports.proofs.lemmas.pipes.Names.{WasQueued, was_queued, queue_same}
use Rattle.law_reports.proofs.lemmas.requests.HighStays.{stays_quiet}
use Rattle.law_reports.proofs.lemmas.requests.HighSteps.{publish_not_chain}
use Rattle.law_reports.proofs.lemmas.requests.Leaving.{IsQuiet}
use Rattle.law_reports.specs.pipes.hub_setups.Setups.{SendsOnly, SetsUp, AreSetUp, IsSettingUp, PublishesOnly, IsHeeding}
use Rattle.law_reports.proofs.lemmas.pipes.lemmas.hub_setups.Lent.{fewer_lent, publishes_lent}
use Rattle.law_reports.proofs.lemmas.pipes.lemmas.hub_setups.Sets.{fewer_relinked, fewer_returned, fewer_headed, fewer_rested, fewer_then}
use Rattle.law_reports.proofs.lemmas.pipes.lemmas.hub_setups.Sets.{sets_fewer}

-- only a control endpoint's transfers begin with a SETUP
setup_way : (way : Way) → pid_at (pid_by way) ≡ pids.Setup → sort_by way ≡ sorts.Request
setup_way ways.Ctl e = refl
setup_way ways.In e = absurd (cc)
setup_way ways.Out e = absurd (cc)

publish_told : (xs : _) (c : Option Command) (b : ℕ) (words : _) → queued_command xs c ≡ Some (unfinished.Publish b words)
    → c ≡ Some (unfinished.Publish b words)
publish_told xs None b words is = is
publish_told xs (Some (unfinished.Publish c ws)) b words is = is
publish_told xs (Some (unfinished.Open c)) b words is = absurd (cc)
publish_told xs (Some (unfinished.Unlink e c link)) b words is = absurd (cc)
publish_told xs (Some unfinished.Chain) b words is = absurd (cc)
publish_told xs (Some (unfinished.Iso e t count)) b words is = absurd (cc)
publish_told xs (Some (unfinished.Unchain e)) b words is = absurd (cc)

publish_open : (b q : ℕ) (words : _) → ◌≡◌ {A = Option Command} (Some (unfinished.Open q)) (Some (unfinished.Publish b words)) → ⊥
publish_open b q words is = cc

publish_unlink : (b e q link : ℕ) (words : _)
    → ◌≡◌ {A = Option Command} (Some (unfinished.Unlink e q link)) (Some (unfinished.Publish b words)) → ⊥
publish_unlink b e q link words is = cc

module _ (fixed : Fixed) (x : Sides) (s : Standing) (m : Lines) (h : Heads) (w : World) (k : IsPiped fixed x s m h w) (a : ℕ)
    (Q : List ℕ → Type 0) (heeds : IsHeeding a Q s h w) where
  abbrev d : DriverContent
  d = queued w.driver

  -- ---- what is asked of the address

  named : (e : ℕ) (y : Endpoint) → slice_get (queued w.driver).endpoints e ≡ Some y → IsMet (queued w.driver) e y
      → (h.ends (32 * y.queue)).addr ≡ y.desc.name.addr
  named e y here met =
      let v : WasQueued w.driver.endpoints e y = was_queued w.driver.endpoints e y here in
      ap (λ (z : Endpoint). (h.ends (32 * z.queue)).addr) v.is ∙ ap (λ (q : ℕ). (h.ends (32 * q)).addr) (queue_same v.endpoint)
      ∙ ap (λ (z : Told). z.addr) (k.named e v.endpoint v.here (subst (IsMet (queued w.driver) e) v.is met))
      ∙ sym (ap (λ (name : EpName). name.addr) (ap (λ (z : Endpoint). z.desc.name) v.is ∙ name_same v.endpoint))

  -- ---- a store of the first qTD

  module _ (b : ℕ) (words : List ℕ) (g : IsPublished (queued w.driver) s.parts b words) (is : IsNextStore s w (driver_next w) b words g)
    where
      abbrev own : ℕ
      own = 32 * g.endpoint.queue

      abbrev old : Qtd
      old = partly g.qtd ((queued w.driver).made - 1)

      abbrev stored : Qtd
      stored = partly g.qtd (queued w.driver).made

      still : (n c : ℕ) → bytes_in (parts_stored g n c) ≡ bytes_in (s.parts n c)
      still = bytes_stay s.parts (32 * g.endpoint.queue) (32 * b) (partly g.qtd ((queued w.driver).made - 1))
          (partly g.qtd (queued w.driver).made) g.stored

      met : IsMet (queued w.driver) g.transfer.endpoint g.endpoint
      met = stands_met (queued w.driver) g.transfer.endpoint g.endpoint
          (k.mixed.turns.turns.asynchronous.endpoints g.transfer.endpoint g.endpoint g.here) g.going
          (λ opens_it. no_open b g.endpoint.queue words (sym is.command ∙ opens_it))

      -- it is active once all of its words are stored
      whole_by : (partly g.qtd (queued w.driver).made).token.active ≡ true → partly g.qtd (queued w.driver).made ≡ g.qtd
      whole_by on =
          ⊎_elim
          (λ (low : (queued w.driver).made < 8). absurd (false≢true (sym (partly_idle g.qtd (queued w.driver).made low) ∙ on)))
          (λ (over : 8 ≤ (queued w.driver).made).
          let few = g.few in
          let eighth : (queued w.driver).made ≡ 8 = omega (arith, few, over) in ap (partly g.qtd) eighth)
          (cases_lt (queued w.driver).made 8)

      its_sort : pid_at g.qtd.token.pid ≡ pids.Setup → g.transfer.sort ≡ sorts.Request
      its_sort two =
          let moves : MovesAs (queued w.driver) g.transfer = k.mixed.turns.turns.asynchronous.moves g.number g.transfer g.there in
          let same : moves.endpoint ≡ g.endpoint = same_Some moves.endpoint g.endpoint (sym moves.here ∙ g.here) in
          moves.sort ∙ ap (λ (y : Endpoint). sort_by y.desc.name.way) same
          ∙ setup_way g.endpoint.desc.name.way (ap pid_at (sym g.pid) ∙ two)

      sends_so : (h.ends (32 * g.endpoint.queue)).addr ≡ a → pid_at g.qtd.token.pid ≡ pids.Setup
          → SendsOnly Q (buffer_of (s.parts (32 * g.endpoint.queue)) g.qtd)
      sends_so address two =
          (heeds.publishes b words g.number g.transfer g.endpoint is.command g.newest g.there g.here (its_sort two)
          (sym (named g.transfer.endpoint g.endpoint g.here met) ∙ address)).lent is.made g.qtd g.are g.range

      stored_sets : (n : ℕ) → (h.ends n).addr ≡ a → SetsUp Q (s.parts n) → SetsUp Q (parts_stored g n)
      stored_sets n address sets c u here on two =
          subst (SendsOnly Q) (sym (still n (buffer_name u)))
          (⊎_elim
          (λ (put_there : (n ≡ 32 * g.endpoint.queue) × (c ≡ 32 * b) × (u ≡ partly g.qtd (queued w.driver).made)).
          let whole : u ≡ g.qtd = put_there.2 ∙ whole_by (ap (λ (t : Qtd). t.token.active) (sym put_there.2) ∙ on) in
          subst (λ (i : ℕ). SendsOnly Q (buffer_of (s.parts i) u)) (sym put_there.0)
          (subst (λ (t : Qtd). SendsOnly Q (buffer_of (s.parts (32 * g.endpoint.queue)) t)) (sym whole)
          (sends_so (ap (λ (i : ℕ). (h.ends i).addr) (sym put_there.0) ∙ address)
          (ap (λ (t : Qtd). pid_at t.token.pid) (sym whole) ∙ two))))
          (λ (was : s.parts n c ≡ Some (Element u)). sets c u was on two)
          (element_found s.parts (32 * g.endpoint.queue) (32 * b) (partly g.qtd ((queued w.driver).made - 1))
          (partly g.qtd (queued w.driver).made) g.stored n c u here))

      -- what is published goes on so
      publishes_stored : (memory : Mem) → PublishesOnly a Q (next_of (told_parts w)).driver memory (parts_stored g)
      publishes_stored memory =
          by_store (told_parts w) s.near s.streams s.ends s.parts s.order s.out b words
          (storing s m w (driver_next w) k.mixed k.telling b words g is)
          (λ (c : DriverContent). PublishesOnly a Q c memory (parts_stored g))
          (λ low c ws t y z command newest there here sort address.
          let set : IsSettingUp Q d w.memory (s.parts (32 * z.queue)) c ws =
          heeds.publishes c ws t y z command newest there here sort address in
          record {
            held = λ none. absurd (omega (arith, none));
            lent = λ some u are range. subst (SendsOnly Q) (sym (still (32 * z.queue) (buffer_name u))) (set.lent is.made u are range);
          })
          (λ eighth c ws t y z command newest there here sort address. absurd (none_some (unfinished.Publish c ws) command))

  -- ---- each step but the end of an open

  abbrev Sets : Standing → Type 0
  Sets t = (n : ℕ) → s.near n ≡ true → (h.ends n).addr ≡ a → SetsUp Q (t.parts n)

  sets_by : (t : Standing) (step : QueueStep s w (driver_next w) t) → IsNoOpening step → Sets t
  sets_by _ (stays t none still) other n near address =
      sets_fewer Q (s.parts n) (t.parts n) (fewer_relinked n (s.parts n) (t.parts n) (still.told.parts n)) (heeds.sets_up n near address)
  sets_by _ (harvests e t found due later row out) other n near address = heeds.sets_up n near address
  sets_by _ (returns t y z row r) other n near address =
      sets_fewer Q (s.parts n) _ (fewer_returned s.parts (32 * z.queue) (goes_of w.driver y) n) (heeds.sets_up n near address)
  sets_by _ (lends b words get order out row behind) other n near address =
      sets_fewer Q (s.parts n) (parts_with get s.parts n) (fewer_lent s w k.mixed b words get order out behind n)
      (heeds.sets_up n near address)
  sets_by _ (stores b words g is) other n near address = stored_sets b words g is n address (heeds.sets_up n near address)
  sets_by _ (mends at row) other n near address =
      sets_fewer Q (s.parts n) _ (fewer_headed s.parts (32 * at.stalled.queue) (mended at.stalled (head_at at)) n)
      (heeds.sets_up n near address)
  sets_by _ (begins at row alike) other n near address =
      let own : ℕ = 32 * at.endpoint.queue in
      let headed : StructureSets = put s.parts own own (QueueHead at.queue) in
      sets_fewer Q (s.parts n) (put headed own (32 * at.endpoint.dummy) (Element dummy_qtd) n)
      (fewer_then (s.parts n) (headed n) (put headed own (32 * at.endpoint.dummy) (Element dummy_qtd) n)
      (fewer_headed s.parts own at.queue n) (fewer_rested headed own (32 * at.endpoint.dummy) dummy_qtd refl n))
      (heeds.sets_up n near address)
  sets_by _ (opens at t alike opened) other n near address = absurd other
  sets_by _ (unlinks at row) other n near address =
      sets_fewer Q (s.parts n) _ (fewer_headed s.parts (32 * at.before) (record at.queue { link = to_queue_head at.after }) n)
      (heeds.sets_up n near address)
  sets_by _ (narrows member fewer row are wider) other n near address = heeds.sets_up n near address
  sets_by _ (goes e y c t back is) other n near address =
      subst (λ (ps : StructureSets). SetsUp Q (ps n)) (sym is.parts)
      (sets_fewer Q (s.parts n) _ (fewer_returned s.parts (32 * y.queue) (λ i. true) n) (heeds.sets_up n near address))

  pub sets_then : (t : Standing) (step : QueueStep s w (driver_next w) t) → IsNoOpening step → AreSetUp a Q t.near h.ends t.parts
  sets_then t step other n near address =
      sets_by t step other n (none_nearer s w (driver_next w) t step other n near) address

  -- ---- the end of an open

  module _ (at : IsOpenThere (queued w.driver) s.parts) (t : Standing) (opened : HasOpened s t at.endpoint) where
    abbrev at_new : ℕ
    at_new = 32 * at.endpoint.queue

    none_active : (c : ℕ) (u : Qtd) → s.parts (32 * at.endpoint.queue) c ≡ Some (Element u) → u.token.active ≡ true → ⊥
    none_active c u here on =
        let is : dummy_qtd ≡ u = found_element (s.parts at_new (32 * at.endpoint.dummy)) dummy_qtd u at.part.dummy
        (ap (s.parts at_new) (sym (at.part.only c u here)) ∙ here) in
        true≢false (sym on ∙ ap (λ (v : Qtd). v.token.active) (sym is))

    pub opened_sets : (ends : ℕ → Told) → ((n : ℕ) → n ≢ 32 * at.endpoint.queue → ends n ≡ h.ends n)
        → ((n : ℕ) → t.near n ≡ true → n ≢ 32 * at.endpoint.queue → s.near n ≡ true) → AreSetUp a Q t.near ends t.parts
    opened_sets ends beside was n near address =
        ⊎_elim
        (λ (own : n ≡ at_new) (c : ℕ) (u : Qtd) (here : t.parts n c ≡ Some (Element u)) (on : u.token.active ≡ true)
        (two : pid_at u.token.pid ≡ pids.Setup).
        absurd (none_active c u (ap (λ (i : ℕ). s.parts i c) (sym own) ∙ (opened.told.parts n).elements_were c u here) on))
        (λ (differs : n ≢ at_new).
        sets_fewer Q (s.parts n) (t.parts n) (fewer_relinked n (s.parts n) (t.parts n) (opened.told.parts n))
        (heeds.sets_up n (was n near differs) (ap (λ (z : Told). z.addr) (sym (beside n differs)) ∙ address)))
        (cases_eq n at_new)

  -- ---- the request that is being published

  -- no event begins to publish
  published_before : (b : ℕ) (words : List ℕ) → (queued (driver_next w).driver).command ≡ Some (unfinished.Publish b words)
      → (queued w.driver).command ≡ Some (unfinished.Publish b words)
  published_before b words command =
      let now : (driver_next w).driver.command ≡ Some (unfinished.Publish b words) =
      publish_told (driver_next w).driver.endpoints (driver_next w).driver.command b words command in
      ap (queued_command w.driver.endpoints)
      (⊎_elim (λ (same : (driver_next w).driver.command ≡ w.driver.command). sym same ∙ now)
      (λ (none : (driver_next w).driver.command ≡ None). absurd (none_some (unfinished.Publish b words) (sym none ∙ now)))
      (row_command (driver_row (driver_parts w)) (driver_parts w)))

  abbrev Publishes : Type 0
  Publishes = (b : ℕ) (words : List ℕ) → (queued w.driver).command ≡ Some (unfinished.Publish b words) → ⊥

  idle_none : (queued w.driver).command ≡ None → Publishes
  idle_none idle b words command = none_some (unfinished.Publish b words) (sym idle ∙ command)

  quiet_none : IsQuiet (queued w.driver) → Publishes
  quiet_none quiet b words command =
      let p : IsPublished d s.parts b words = k.mixed.queues.queues.fed.publishes b words command in
      let newest = p.newest in
      let last : length d.transfers - 1 ≡ p.number = omega (arith, newest) in
      true≢false
      (sym (ap (λ (c : Option Command). is_publishing c (slice_get d.transfers (length d.transfers - 1)) p.transfer.endpoint) command
      ∙ ap (λ (o : Option Transfer). is_publishing (Some (unfinished.Publish b words)) o p.transfer.endpoint)
      (ap (slice_get d.transfers) last ∙ p.there) ∙ eq-eqb p.transfer.endpoint p.transfer.endpoint refl)
      ∙ quiet.none p.transfer.endpoint)

  by_offer : (line : ℕ) (cmd : Cmd) (r : Result Offered OfferError) → offered w.driver w.memory cmd ≡ r
      → driver_next w ≡ commanded_by w line (name_in cmd) r → Publishes
  by_offer line cmd (Err why) is next =
      quiet_none (stays_quiet s w k.mixed (ap (λ (n : World). (queued n.driver).command) next)
      (ap (λ (n : World). (queued n.driver).made) next))
  by_offer line cmd (Ok o) is next =
      idle_none (idle_told w.driver (idle_by w.driver w.memory o (each_command_has_its_reason w.driver w.memory cmd o is)))

  still_none : HasNoStep w (driver_next w) → Publishes
  still_none (left_alike alike tells) = quiet_none (stays_quiet s w k.mixed alike.command alike.made)
  still_none (left_by_frames alike of is) = quiet_none (stays_quiet s w k.mixed alike.command alike.made)
  still_none (left_by_bell row) = idle_none (idle_told w.driver (due_is s w k.mixed rows.RingBell row.next).0)
  still_none (left_by_status heard row) = idle_none (idle_told w.driver (due_is s w k.mixed (rows.ReadStatus heard) row.next).0)
  still_none (left_by_command line cmd fits room is) = by_offer line cmd (offered w.driver w.memory cmd) refl is

  left_none : (e : ℕ) (c : DriverContent) → LeftBy w e c → Publishes
  left_none e _ (left_the_ring row) = idle_none (idle_told w.driver (due_is s w k.mixed (rows.ReleaseEndpoint e) row).idle)
  left_none e _ (left_its_frames row) =
      idle_none (idle_told w.driver (due_is s w k.mixed (rows.ReleaseRemoved (removed.Endpoint e)) row).idle)

  none_then : (t : Standing) → Publishes → PublishesOnly a Q (queued (driver_next w).driver) (driver_next w).memory t.parts
  none_then t none b words i y z command newest there here sort address = absurd (none b words (published_before b words command))

  lent_then : (b : ℕ) (words : List ℕ) (get : IsToBeLent (queued w.driver) w.memory b words) (order : ℕ → ℕ → ℕ) (out : ℕ → List ℕ)
      → IsToldRow w (driver_next w) rows.Lend → HasBehind s w b words get order out
      → IsMixedAt (record s { parts = parts_with get s.parts; order = order; out = out }) (driver_next w)
      → PublishesOnly a Q (queued (driver_next w).driver) (driver_next w).memory (parts_with get s.parts)
  lent_then b words get order out row behind mixed =
      let made = lend_is_made (told_parts w) b words get in
      let driver : queued (driver_next w).driver ≡ lent_now (queued w.driver) w.memory = row.told ∙ ap (λ (p : Parts). p.driver) made in
      let of : IsOfQueues (driver_parts w) rows.Lend = publish_not_chain w.driver.command w.driver.endpoints b words get.command in
      let memory : (after_driver_row rows.Lend (told_parts w)).memory ≡ (driver_next w).memory =
      ap (λ (p : Parts). p.memory) (sym (row_alike s w k.mixed rows.Lend row.next of).same)
      ∙ ap (λ (r : DriverRow). (after_driver_row r (driver_parts w)).memory) (sym row.next) in
      subst (λ (c : DriverContent). PublishesOnly a Q c (driver_next w).memory (parts_with get s.parts)) (sym driver)
      (publishes_lent s w k.mixed b words get order out behind
      (subst (λ (c : DriverContent). AreFed c (parts_with get s.parts)) driver mixed.queues.queues.fed)
      (subst (λ (i : Mem). Tells i (parts_with get s.parts)) (sym memory ∙ ap (λ (p : Parts). p.memory) made)
      (tells_of (record s { parts = parts_with get s.parts; order = order; out = out }) (driver_next w) mixed)) a Q (driver_next w).memory
      heeds.publishes)

  -- it is none, or the one that was being published
  published_or : (t : Standing) (step : QueueStep s w (driver_next w) t) → IsMixedAt t (driver_next w)
      → Publishes ⊎ PublishesOnly a Q (queued (driver_next w).driver) (driver_next w).memory t.parts
  published_or _ (stays t none still) mixed = inl (still_none none)
  published_or _ (harvests e t found due later row out) mixed = inl (idle_none due.idle)
  published_or _ (returns t y z row r) mixed = inl (idle_none r.free)
  published_or _ (lends b words get order out row behind) mixed = inr (lent_then b words get order out row behind mixed)
  published_or _ (stores b words g is) mixed =
      inr (subst (λ (c : DriverContent). PublishesOnly a Q c (driver_next w).memory (parts_stored g)) (sym is.told)
      (publishes_stored b words g is (driver_next w).memory))
  published_or _ (mends at row) mixed = inl (idle_none (idle_told w.driver at.idle))
  published_or _ (begins at row alike) mixed =
      inl (λ b words command. publish_open b at.endpoint.queue words (sym at.command ∙ command))
  published_or t (opens at _ alike opened) mixed =
      inl (λ b words command. publish_open b at.endpoint.queue words (sym at.command ∙ command))
  published_or _ (unlinks at row) mixed = inl (λ b words command. publish_unlink b _ _ _ words (sym at.command ∙ command))
  published_or _ (narrows member near row are fewer) mixed =
      inl (idle_none (idle_told w.driver (due_is s w k.mixed rows.ClearAdvance row.next).0))
  published_or _ (goes e y c t back is) mixed = inl (left_none e c back.left)

  pub publishes_then : (t : Standing) (step : QueueStep s w (driver_next w) t) → IsMixedAt t (driver_next w)
      → PublishesOnly a Q (queued (driver_next w).driver) (driver_next w).memory t.parts
  publishes_then t step mixed =
      ⊎_elim (λ (none : Publishes). none_then t none)
      (λ (old : PublishesOnly a Q (queued (driver_next w).driver) (driver_next w).memory t.parts). old) (published_or t step mixed)
