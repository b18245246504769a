-- After each event of the driver what was taken of each OUT endpoint at high speed begins its puts, and each OUT is sent whole.
use Rattle.std.proofs.Common.{◌≡◌, ◌≢◌, ℕ, ◌*◌, true, false, List, [], ◌∷◌, map, slice_get, Some, ap, refl, sym, subst, ◌∙◌, ⊎_elim}
use Rattle.std.specs.Prelude.{◌⊎◌}
use Rattle.std.specs.List.{concat}
use Rattle.std.proofs.lemmas.Option.{same_Some}
use Rattle.law_reports.proofs.Common.{queue_open}
use Rattle.law_world.proofs.Common2.{queued_owner}
use Rattle.law_driver.proofs.Common.{out_way, get_queued}
use Rattle.law_world.proofs.Common.{same_queue, begins_all}
use Rattle.usb_base.specs.declared.endpoints.EpDesc.{EpDesc}
use Rattle.usb_base.specs.declared.endpoints.EpName.{EpName}
use Rattle.usb_base.specs.declared.packets.Way.TheVariants as ways
use Rattle.bus_wire.specs.Bus.{Fixed}
use Rattle.claims_driver.specs.Scripts.{receives}
use Rattle.drv_table.specs.declared.content.Command.TheVariants as unfinished
use Rattle.drv_table.specs.declared.content.Endpoint.{Endpoint}
use Rattle.drv_table.specs.declared.content.Transfer.{Transfer}
use Rattle.drv_table.specs.DriverContent.{DriverContent}
use Rattle.law_driver.specs.queued_drivers.Queued.{queued_endpoint, queued_transfer, queued}
use Rattle.law_driver.proofs.lemmas.queued_drivers.CommandFields.{name_same}
use Rattle.law_driver_ring.specs.fed_queues.Places.{IsThere}
use Rattle.law_queues.specs.open_laws.Queues.{IsOpenThere}
use Rattle.law_ring.specs.OutBus.{Taker}
use Rattle.law_devices.specs.scripted_takers.Takers.{taker_of}
use Rattle.law_world.specs.steps.Outs.{IsUntaken}
use Rattle.law_world.specs.steps.Streaming.{wired}
use Rattle.law_world.specs.memory.Mixed.{Standing}
use Rattle.law_world.specs.memory.Steps.{QueueStep, HasOpened}
use Rattle.law_world.specs.memory.pipe_steps.Laws.{IsNoOpening}
use Rattle.law_world.specs.streams.put_laws.OwedTaken.{TakenBegin}
use Rattle.law_world.specs.streams.put_laws.TakenPuts.{puts_of}
use Rattle.law_world.specs.streams.sending_worlds.ReportLaws.{HasNamedTaker}
use Rattle.law_world.proofs.lemmas.streams.lemmas.put_laws.Rests.{prefix_to}
use Rattle.law_world.proofs.lemmas.streams.lemmas.put_laws.Same.{life_or}
use Rattle.law_world.proofs.lemmas.streams.lemmas.put_laws.Stays.{owner_at, owners_in, event_stays}
use Rattle.law_world.proofs.lemmas.streams.lemmas.put_laws.Sums.{puts_in, by_owners}
use Rattle.law_reports.specs.lines.Lined.{in_hand, Lines}
use Rattle.law_reports.proofs.lemmas.lines.IsoGoing.{told_apart}
use Rattle.law_reports.specs.pipes.Declared.{Sides}
use Rattle.law_reports.specs.pipes.Piped.{Heads, IsOpening, IsUnused, IsPiped}
use Rattle.law_reports.proofs.lemmas.pipes.Across.{WasIn}
use Rattle.law_reports.proofs.lemmas.pipes.Driven.{was_end}
use Rattle.law_reports.proofs.lemmas.pipes.Followed.{there_by}
use Rattle.law_reports.proofs.lemmas.pipes.Leaving.{step_opens}
use Rattle.law_reports.proofs.lemmas.pipes.Names.{WasQueued, was_queued, queue_same, kept_as, name_is}
use Rattle.law_reports.specs.pipes.puts.Paid.{IsSentOut, AreOutsWhole, watched, HaveTakers, Pays}
use Rattle.law_reports.proofs.lemmas.pipes.lemmas.puts.Event.{IsWatched, watched_is}
use Rattle.law_reports.proofs.lemmas.pipes.lemmas.puts.Steps.{IsThereOut, step_sends, step_outs, opened_sends, opened_outs}
use Rattle.bus_world.specs.World.{World, driver_parts, driver_next}

-- ---- whose a transfer is stays, as the queues tell it

queued_owners : (xs : List Endpoint) (ys : List Transfer) → map owner_at (map (queued_transfer xs) ys) ≡ map owner_at ys
queued_owners xs [] = refl
queued_owners xs (y ∷ ys) =
    ap (λ (n : ℕ). n ∷ map owner_at (map (queued_transfer xs) ys)) (queued_owner xs y)
    ∙ ap (λ (ns : List ℕ). y.endpoint ∷ ns) (queued_owners xs ys)

pub puts_real : (d : DriverContent) (puts : ℕ → List ℕ) (e : ℕ) → puts_of (queued d) puts e ≡ puts_of d puts e
puts_real d puts e =
    by_owners puts e 0 (queued d).transfers ∙ ap (puts_in puts e 0) (queued_owners d.endpoints d.transfers)
    ∙ sym (by_owners puts e 0 d.transfers)

pub puts_alike : (d c : DriverContent) → owners_in c ≡ owners_in d → (puts : ℕ → List ℕ) (e : ℕ)
    → puts_of (queued c) puts e ≡ puts_of (queued d) puts e
puts_alike d c same puts e =
    by_owners puts e 0 (queued c).transfers
    ∙ ap (puts_in puts e 0) (queued_owners c.endpoints c.transfers ∙ same ∙ sym (queued_owners d.endpoints d.transfers))
    ∙ sym (by_owners puts e 0 (queued d).transfers)

module _ (fixed : Fixed) (x : Sides) (s : Standing) (m : Lines) (h : Heads) (puts : ℕ → List ℕ) (w : World)
    (k : IsPiped fixed x s m h w) (pays : Pays fixed x s m puts w) where
  abbrev d : DriverContent
  d = queued w.driver

  abbrev new : DriverContent
  new = queued (driver_next w).driver

  -- ---- what the devices took

  pub takers_then : HaveTakers fixed x (driver_next w)
  takers_then e z here way on =
      let v : WasIn w.driver.endpoints e z = was_end fixed x s m h w k e z here in
      let its : HasNamedTaker fixed w v.endpoint.desc.name =
      pays.takers e v.endpoint v.here (ap (λ (c : EpDesc). c.name.way) (sym v.comes.desc) ∙ way)
      (ap (λ (c : EpDesc). x.takes c.name.addr c.name.num) (sym v.comes.desc) ∙ on) in
      record { taker = its.taker; is = ap (λ (c : EpDesc). taker_of (wired fixed w) c.name.addr c.name.num) v.comes.desc ∙ its.is }

  puts_same : (e : ℕ) → concat (puts_of (queued w.driver) puts e) ≡ concat (puts_of (queued (driver_next w).driver) puts e)
  puts_same e = ap concat (sym (puts_alike w.driver (driver_next w).driver (event_stays (driver_parts w)).owners puts e))

  -- one that was being opened took nothing
  module _ (e : ℕ) (y : Endpoint) (here : slice_get w.driver.endpoints e ≡ Some y) (way : y.desc.name.way ≡ ways.Out)
      (on : x.takes y.desc.name.addr y.desc.name.num ≡ true) (opening : IsOpening w.driver y) where
    unused : IsUnused w.driver ways.Out y.desc.name.addr y.desc.name.num
    unused i v there its same also =
        let one : i ≡ e = told_apart w.driver (in_hand s) s.parts m.reported k.telling.told i e v y there here
        (name_is v.desc.name y.desc.name same also (its ∙ sym way)) in
        subst (IsOpening w.driver) (same_Some y v (sym here ∙ ap (slice_get w.driver.endpoints) (sym one) ∙ there)) opening

    untaken : IsUntaken (taker_of (wired fixed w) y.desc.name.addr y.desc.name.num)
    untaken = k.fresh_outs y.desc.name.addr y.desc.name.num on unused

    pub none_taken : (u : Taker) → taker_of (wired fixed w) y.desc.name.addr y.desc.name.num ≡ Some u → u.taken ≡ []
    none_taken u is =
        let f : IsUntaken (taker_of (wired fixed w) y.desc.name.addr y.desc.name.num) = untaken in
        ap (λ (t : Taker). t.taken) (same_Some u f.taker (sym is ∙ f.is)) ∙ f.none

  pub begin_then : TakenBegin (watched x) (queued (driver_next w).driver) puts (wired fixed (driver_next w))
  begin_then e z u here life sends is =
      let q : WasQueued (driver_next w).driver.endpoints e z = was_queued (driver_next w).driver.endpoints e z here in
      let v : WasIn w.driver.endpoints e q.endpoint = was_end fixed x s m h w k e q.endpoint q.here in
      let y : Endpoint = v.endpoint in
      let name : z.desc.name ≡ y.desc.name =
      ap (λ (a : Endpoint). a.desc.name) q.is ∙ name_same q.endpoint ∙ ap (λ (c : EpDesc). c.name) v.comes.desc in
      let queued_name : (queued_endpoint y).desc.name ≡ z.desc.name = name_same y ∙ sym name in
      let a : IsWatched (taker_of (wired fixed w) z.desc.name.addr z.desc.name.num) (x.takes z.desc.name.addr z.desc.name.num) u =
      watched_is (taker_of (wired fixed w) z.desc.name.addr z.desc.name.num) (x.takes z.desc.name.addr z.desc.name.num) u is in
      let its_way : y.desc.name.way ≡ ways.Out = ap (λ (n : EpName). n.way) (sym name) ∙ out_way z.desc.name.way sends in
      let on : x.takes y.desc.name.addr y.desc.name.num ≡ true =
      ap (λ (n : EpName). x.takes n.addr n.num) (sym name) ∙ a.at_high in
      ⊎_elim
      (λ (at_open : ((queued w.driver).command ≡ Some (unfinished.Open (queued_endpoint y).queue)) × ((queued_endpoint y).gone ≡ false)).
      let its = kept_as y at_open.1 in
      begins_all u.taken (concat (puts_of new puts e))
      (none_taken e y v.here its_way on (record {
        kept = its.0;
        queue = its.1;
        command = at_open.0 ∙ queue_open (queued_endpoint y).queue y.queue (queue_same y);
      }) u (ap (λ (n : EpName). taker_of (wired fixed w) n.addr n.num) (sym name) ∙ a.is)))
      (λ (before : ((queued_endpoint y).gone ≡ true) ⊎ IsThere (queued w.driver) (queued_endpoint y)).
      prefix_to u.taken (concat (puts_of d puts e)) (concat (puts_of new puts e)) (puts_same e)
      (pays.begin e (queued_endpoint y) u (get_queued w.driver.endpoints e y v.here) before
      (ap (λ (n : EpName). receives n.way) queued_name ∙ sends)
      (ap (λ (n : EpName). watched x (wired fixed w) n.addr n.num) queued_name ∙ is)))
      (life_or (queued w.driver) (queued_endpoint y))

  -- ---- its qTDs, but where an open ends

  module _ (t : Standing) (step : QueueStep s w (driver_next w) t) (other : IsNoOpening step) where
    pub outs_then : AreOutsWhole t (driver_next w).driver
    outs_then e z here there way =
        let v : WasIn w.driver.endpoints e z = was_end fixed x s m h w k e z here in
        let y : Endpoint = v.endpoint in
        let was_there : IsThere (queued w.driver) (queued_endpoint y) =
        there_by fixed x s m h w k e z v there.kept (λ opening.
        there.linked (step_opens s w k.mixed t step other y.queue opening
        ∙ queue_open y.queue (queued_endpoint z).queue (sym v.comes.queue ∙ sym (queue_same z)))) in
        let its_way : y.desc.name.way ≡ ways.Out = ap (λ (c : EpDesc). c.name.way) (sym v.comes.desc) ∙ way in
        let n : ℕ = 32 * z.queue in
        let same : 32 * z.queue ≡ 32 * y.queue = ap (λ (b : ℕ). 32 * b) v.comes.queue in
        let o : IsThereOut w.driver (32 * z.queue) =
        record { number = e; endpoint = y; here = v.here; there = was_there; way_is = its_way; at = same } in
        let was : IsSentOut s n = subst (IsSentOut s) (sym same) (pays.outs e y v.here was_there its_way) in
        record {
          outs = step_outs s m w k.mixed k.telling n o was.whole was.outs (driver_next w) t step other;
          whole = step_sends s m w k.mixed k.telling n o was.whole (driver_next w) t step other;
        }

  -- ---- .. where one ends

  module _ (at : IsOpenThere (queued w.driver) s.parts) (t : Standing) (opened : HasOpened s t at.endpoint) where
    before_open : (e : ℕ) (z : Endpoint) → slice_get (driver_next w).driver.endpoints e ≡ Some z
        → IsThere (queued (driver_next w).driver) (queued_endpoint z) → z.desc.name.way ≡ ways.Out
        → 32 * z.queue ≢ 32 * at.endpoint.queue → IsSentOut s (32 * z.queue)
    before_open e z here there way differs =
        let v : WasIn w.driver.endpoints e z = was_end fixed x s m h w k e z here in
        let y : Endpoint = v.endpoint in
        let same : 32 * z.queue ≡ 32 * y.queue = ap (λ (b : ℕ). 32 * b) v.comes.queue in
        let was_there : IsThere (queued w.driver) (queued_endpoint y) =
        there_by fixed x s m h w k e z v there.kept (λ opening.
        differs (same ∙ ap (λ (b : ℕ). 32 * b) (same_queue y.queue at.endpoint.queue (sym opening ∙ at.command)))) in
        subst (IsSentOut s) (sym same) (pays.outs e y v.here was_there (ap (λ (c : EpDesc). c.name.way) (sym v.comes.desc) ∙ way))

    pub opened_then : AreOutsWhole t (driver_next w).driver
    opened_then e z here there way = record {
      outs = opened_outs s w k.mixed at t opened (32 * z.queue) (λ differs. (before_open e z here there way differs).whole)
          (λ differs. (before_open e z here there way differs).outs);
      whole = opened_sends s w k.mixed at t opened (32 * z.queue) (λ differs. (before_open e z here there way differs).whole);
    }
