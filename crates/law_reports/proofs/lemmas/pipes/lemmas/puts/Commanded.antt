-- After each command what was taken of each OUT endpoint at high speed begins its puts, and what is still to be sent stands.
use Rattle.std.proofs.Common.{◌≡◌, ℕ, ◌*◌, Bool, true, false, List, [], ◌∷◌, ◌++◌, length, slice_get}
use Rattle.std.proofs.Common.{Some, None, Result, Ok, Err, ap, refl, sym, subst, ◌∙◌, ⊎_elim, inr, arith}
use Rattle.std.specs.Prelude.{◌⊎◌, slice_index, ◌&&◌}
use Rattle.std.specs.List.{AllByRecursion}
use Rattle.std.proofs.lemmas.Bool.{false≢true, true≢false}
use Rattle.std.proofs.lemmas.List.{length-map}
use Rattle.std.proofs.lemmas.Option.{same_Some, slice_get_within}
use Rattle.law_queues.proofs.Common.{none_open}
use Rattle.law_world.proofs.Common.{unlink_open, none_some, same_queue}
use Rattle.law_driver.proofs.Common.{newest_get, out_way, of_none, of_queue, get_queued, pushed}
use Rattle.law_microframes.proofs.Common.{idle_by}
use Rattle.law_common.proofs.Lists.{push_which}
use Rattle.usb_base.specs.declared.commands.Cmd.{Cmd}
use Rattle.usb_base.specs.declared.commands.Cmd.TheVariants as commands
use Rattle.usb_base.specs.declared.endpoints.EpDesc.{EpDesc}
use Rattle.usb_base.specs.declared.endpoints.EpName.{EpName}
use Rattle.usb_base.specs.declared.packets.EpKind.{EpKind}
use Rattle.usb_base.specs.declared.packets.EpKind.TheVariants as kinds
use Rattle.usb_base.specs.declared.packets.Way.TheVariants as ways
use Rattle.usb_base.specs.declared.reports.OfferError.{OfferError}
use Rattle.bus_wire.specs.Bus.{Fixed}
use Rattle.claims_driver.specs.Leaving.{HasOwners}
use Rattle.law_driver.specs.AsynchronousScripts.{OpensAsynchronous}
use Rattle.claims_report.specs.Streams.{has_stream}
use Rattle.drv_table.specs.Accepting.{Offered, new_runs}
use Rattle.drv_periodic_table.specs.Periodic.{is_periodic}
use Rattle.drv_table.specs.declared.content.Command.TheVariants as unfinished
use Rattle.drv_table.specs.declared.content.Endpoint.{Endpoint}
use Rattle.drv_table.specs.declared.content.Transfer.{Transfer}
use Rattle.drv_table.specs.DriverContent.{DriverContent}
use Rattle.drv_table.specs.Kinds.{is_iso}
use Rattle.drv_table.specs.Words.{is_high}
use Rattle.drv_table.specs.Offers.{offered, IsOffered, new_endpoint, placed_endpoint}
use Rattle.law_driver.specs.chained_transfers.AsynchronousTurns.{AsynchronousTakesTurns}
use Rattle.law_driver.specs.queued_drivers.Commands.{IsQueueOpened, IsEndOpened, told_of, AreEndsTaken, IsGivenBackOf}
use Rattle.law_driver.specs.queued_drivers.Commands.{IsQueueLeft, IsEndLeft, QueuesAccept, left_queue, unlink_of}
use Rattle.law_driver.specs.queued_drivers.Queued.{queued_endpoint, queued_transfer, queued_desc, without_queue, queued}
use Rattle.law_driver.specs.run_owners.Accepts.{Transfers}
use Rattle.law_driver.proofs.lemmas.endpoint_lives.Lives.{none_told}
use Rattle.law_driver.proofs.lemmas.queued_drivers.CommandReasons.{reason_of}
use Rattle.law_driver.proofs.lemmas.queued_drivers.CommandTurns.{commands_are_of_queues}
use Rattle.law_driver.proofs.lemmas.queued_drivers.RowEvents.{idle_told}
use Rattle.law_driver.proofs.lemmas.queued_drivers.RowOwners.{queued_are_lent}
use Rattle.law_driver.proofs.lemmas.run_owners.Commands.{each_command_has_its_reason}
use Rattle.law_driver_ring.specs.fed_queues.Places.{IsThere}
use Rattle.law_queues.proofs.lemmas.leaving_drivers.Leaving.{cancel_is_as_before}
use Rattle.law_queues.proofs.lemmas.publish_laws.Apart.{queue_placed, queues_same}
use Rattle.law_queues.specs.leaving_drivers.Before.{WasSame, IsAsBefore}
use Rattle.law_scripts.specs.byte_answers.Bytes.{IsByteCommand}
use Rattle.law_structures.specs.lent_structures.Structures.{Tells}
use Rattle.law_devices.specs.scripted_takers.Takers.{taker_of}
use Rattle.law_world.specs.steps.Outs.{IsUntaken}
use Rattle.law_world.specs.steps.Streaming.{wired}
use Rattle.law_world.specs.memory.Mixed.{Standing}
use Rattle.law_world.specs.memory.Opens.{OpensMixed}
use Rattle.law_world.specs.streams.put_laws.HeldPuts.{with_put, puts_then}
use Rattle.law_world.specs.streams.put_laws.OwedLaws.{KeepsPuts}
use Rattle.law_world.specs.streams.sending_worlds.ReportLaws.{HasNamedTaker}
use Rattle.law_world.proofs.lemmas.memory.HarvestKept.{owners_of, tells_of}
use Rattle.law_world.proofs.lemmas.streams.lemmas.put_laws.Commanding.{command_holds_puts}
use Rattle.law_world.proofs.lemmas.streams.lemmas.put_laws.Commands.{command_owes}
use Rattle.law_world.proofs.lemmas.streams.lemmas.put_laws.Driver.{IsNoMore, quiet_no_more}
use Rattle.law_world.proofs.lemmas.streams.lemmas.put_laws.HeldAlike.{was_itself}
use Rattle.law_world.proofs.lemmas.streams.lemmas.put_laws.Same.{idle_there}
use Rattle.law_world.proofs.lemmas.streams.lemmas.put_laws.Steps.{then_before}
use Rattle.law_world.proofs.lemmas.streams.lemmas.put_laws.TakenRows.{command_taken}
use Rattle.law_world.proofs.lemmas.streams.lemmas.sending_worlds.Commanding.{refused_held, refused_owes, refused_begin, accepted_ended}
use Rattle.law_reports.specs.lines.Lined.{in_hand, Lines}
use Rattle.law_reports.specs.pipes.Declared.{Sides, IsDeclared, IsDeclaredBy}
use Rattle.law_reports.specs.pipes.Piped.{Heads, IsOpening, IsPiped}
use Rattle.law_reports.specs.pipes.PipedLaws.{OpensDeclared}
use Rattle.law_reports.proofs.lemmas.lines.IsoGoing.{told_apart}
use Rattle.law_reports.proofs.lemmas.pipes.Accepted.{IsNewest, is_opening, is_bare, EndsThen, one_more, one_anew, ends_then}
use Rattle.law_reports.proofs.lemmas.pipes.Accepted.{was_anew}
use Rattle.law_reports.proofs.lemmas.pipes.Across.{WasIn}
use Rattle.law_reports.proofs.lemmas.pipes.Commanded.{commanded_piped}
use Rattle.law_reports.proofs.lemmas.pipes.Names.{queue_same, kept_as, name_is}
use Rattle.law_reports.specs.pipes.puts.Paid.{IsSentOut, AreOutsWhole, watched, HaveTakers, Pays}
use Rattle.law_reports.proofs.lemmas.pipes.lemmas.puts.Accepting.{IsOwing, IsGone, no_more_owing, pushed_owing, given_owing, held_still}
use Rattle.law_reports.proofs.lemmas.pipes.lemmas.puts.Event.{watched_is}
use Rattle.bus_world.specs.World.{World, name_in, commanded_by, commanded}

iso_streams : (kind : EpKind) → is_iso kind ≡ true → has_stream kind ≡ false
iso_streams kinds.Iso is = refl
iso_streams kinds.Bulk is = absurd (false≢true is)
iso_streams kinds.Interrupt is = absurd (false≢true is)
iso_streams kinds.Control is = absurd (false≢true is)

-- no isochronous endpoint has a taker at high speed
bare_takes : (x : Sides) (desc : EpDesc) → IsDeclared x desc → is_iso desc.kind ≡ true → desc.name.way ≡ ways.Out
    → x.takes desc.name.addr desc.name.num ≡ false
bare_takes x desc declared iso way =
    subst (IsDeclaredBy x desc) way declared ∙ ap (λ (b : Bool). b && is_high desc.speed) (iso_streams desc.kind iso)

-- ---- a cancel tells the same

module _ (w : World) (o : Offered) where
  abbrev before_it : DriverContent
  before_it = queued w.driver

  pub left_more : AsynchronousTakesTurns (queued w.driver) → (its : EpName) → IsQueueLeft w.driver w.memory its o
      → IsNoMore (queued w.driver) (queued o.driver)
  left_more turns its q =
      let b : IsAsBefore (queued w.driver) (left_queue w.driver q.number q.endpoint w.memory).driver =
      (cancel_is_as_before before_it w.memory (left_queue w.driver q.number q.endpoint w.memory) turns q.cancels).0 in
      record {
        alike = record {
          ends = λ e z here.
              let a : WasSame (queued w.driver) e z =
              b.ends e z (ap (λ (g : DriverContent). slice_get g.endpoints e) (sym q.alike) ∙ here) in
              record { endpoint = a.endpoint; here = a.here; queue = a.queue; desc = a.desc; gone = a.gone; ends = a.ends };
          transfers = ap (λ (g : DriverContent). g.transfers) q.alike ∙ b.transfers;
          notes = ap (λ (g : DriverContent). g.notes) q.alike ∙ b.notes;
        };
        opens = λ i is.
            let unlinks : q.unlinks ≡ Some (unfinished.Open i) = sym (ap (λ (g : DriverContent). g.command) q.alike) ∙ is in
            ⊎_elim
            (λ (c : (is_periodic q.endpoint.desc.kind ≡ false) × (q.unlinks ≡ Some (unlink_of w.driver q.number))).
            absurd (unlink_open _ _ _ i (sym c.1 ∙ unlinks)))
            (λ (c : (is_periodic q.endpoint.desc.kind ≡ true) × (q.unlinks ≡ None)). absurd (none_open i (sym c.1 ∙ unlinks))) q.command;
      }

  pub end_left_more : IsEndLeft w.driver w.memory o → IsNoMore (queued w.driver) (queued o.driver)
  end_left_more q =
      quiet_no_more before_it (queued o.driver) (ap (λ (g : DriverContent). g.endpoints) q.alike)
      (ap (λ (g : DriverContent). g.transfers) q.alike) (ap (λ (g : DriverContent). g.notes) q.alike)
      (ap (λ (g : DriverContent). g.command) q.alike)

module _ (fixed : Fixed) (x : Sides) (s : Standing) (m : Lines) (h : Heads) (puts : ℕ → List ℕ) (w : World)
    (k : IsPiped fixed x s m h w) (pays : Pays fixed x s m puts w) where
  abbrev d : DriverContent
  d = queued w.driver

  was : IsOwing (watched x) (wired fixed w) s.parts m.reported (queued w.driver) w.memory puts
  was = record { ended = pays.ended; held = pays.held; owes = pays.owes; begin = pays.begin }

  -- ---- accepted

  module _ (line : ℕ) (name : EpName) (o : Offered) (idle : w.driver.command ≡ None)
      (new : IsPiped fixed x s m h (commanded_by w line name (Ok o))) where
    abbrev f : DriverContent
    f = queued o.driver

    told_idle : (queued w.driver).command ≡ None
    told_idle = idle_told w.driver idle

    tells : Tells o.memory s.parts
    tells = tells_of s (commanded_by w line name (Ok o)) new.mixed

    abbrev Owing : (ℕ → List ℕ) → Type 0
    Owing now = IsOwing (watched x) (wired fixed w) s.parts m.reported (queued o.driver) o.memory now

    still_same : IsNoMore (queued w.driver) (queued o.driver) → Owing puts
    still_same more =
        no_more_owing (watched x) (wired fixed w) s.parts m.reported d f w.memory o.memory k.mixed.turns.turns told_idle puts puts
        (λ t low. refl) was more
        (held_still (watched x) (wired fixed w) s.parts m.reported d f w.memory o.memory k.mixed.turns.turns told_idle puts
        k.mixed.queues.queues.fed (tells_of s w k.mixed) tells was f more.alike.notes
        (λ t y here put held. was_itself d.transfers t y (ap (λ (ts : List Transfer). slice_get ts t) (sym more.alike.transfers) ∙ here)))

    -- ---- an open

    opened_so : (desc : EpDesc) → IsQueueOpened w.driver w.memory desc o → Owing puts
    opened_so desc q =
        let z : Endpoint = new_endpoint (queued_desc desc) (slice_index (new_runs w.driver q.holding_after) 0)
        (slice_index (new_runs w.driver q.holding_after) 1) in
        let ends : (queued o.driver).endpoints ≡ (queued w.driver).endpoints ++ z ∷ [] = ap (λ (g : DriverContent). g.endpoints) q.alike in
        let opens : (queued o.driver).command ≡ Some (unfinished.Open z.queue) = ap (λ (g : DriverContent). g.command) q.alike in
        let unmet : IsThere (queued o.driver) z → ⊥ = (λ there. there.linked opens) in
        let at : slice_get (queued o.driver).endpoints (length (queued w.driver).endpoints) ≡ Some z =
        ap (λ (xs : List Endpoint). slice_get xs (length d.endpoints)) ends ∙ newest_get d.endpoints z in
        let owners : HasOwners (queued o.driver) = owners_of s (commanded_by w line name (Ok o)) new.mixed in
        pushed_owing (watched x) (wired fixed w) s.parts m.reported d f w.memory o.memory k.mixed.turns.turns told_idle puts
        k.mixed.queues.queues.fed (tells_of s w k.mixed) tells was z ends (ap (λ (g : DriverContent). g.transfers) q.alike)
        (ap (λ (g : DriverContent). g.notes) q.alike) unmet (λ kept. none_told z refl)
        (λ u life sends is. ⊎_elim (λ (gone : z.gone ≡ true). absurd (false≢true gone))
        (λ (there : IsThere (queued o.driver) z). unmet there) life)
        (λ e y here alive also.
        let here_now : slice_get (queued o.driver).endpoints e ≡ Some y =
        ap (λ (xs : List Endpoint). slice_get xs e) ends ∙ pushed d.endpoints z e y here in
        let each = new.mixed.turns.turns.asynchronous.endpoints in
        let same : e ≡ length d.endpoints =
        queues_same y.queue z.queue e (length d.endpoints) (same_queue y.queue z.queue (sym also ∙ opens))
        (queue_placed f owners e y here_now (each e y here_now) alive)
        (queue_placed f owners (length d.endpoints) z at (each (length d.endpoints) z at) refl) in
        let low = slice_get_within d.endpoints e y here in omega (arith, same, low))

    bare_so : (desc : EpDesc) → IsDeclared x desc → IsEndOpened w.driver w.memory desc o → Owing puts
    bare_so desc declared q =
        pushed_owing (watched x) (wired fixed w) s.parts m.reported d f w.memory o.memory k.mixed.turns.turns told_idle puts
        k.mixed.queues.queues.fed (tells_of s w k.mixed) tells was (without_queue (placed_endpoint desc q.placement 0 0))
        (ap (λ (g : DriverContent). g.endpoints) q.alike) (ap (λ (g : DriverContent). g.transfers) q.alike)
        (ap (λ (g : DriverContent). g.notes) q.alike) (λ there. absurd (true≢false there.kept)) (λ kept. absurd (true≢false kept))
        (λ u life sends is.
        let a = watched_is (taker_of (wired fixed w) desc.name.addr desc.name.num) (x.takes desc.name.addr desc.name.num) u is in
        false≢true (sym (bare_takes x desc declared q.isochronous (out_way desc.name.way sends)) ∙ a.at_high))
        (λ e y here alive also. none_open y.queue (sym told_idle ∙ sym (ap (λ (g : DriverContent). g.command) q.alike) ∙ also))

    -- ---- transfers

    asked_so : (cmd : Cmd) → OpensAsynchronous cmd → IsByteCommand cmd → IsOffered w.driver.room cmd
        → offered (queued w.driver) w.memory cmd ≡ Ok (told_of o) → Transfers (queued w.driver) w.memory (told_of o)
        → Owing (puts_then (queued w.driver) cmd puts)
    asked_so cmd only bytes room takes transfers =
        let sound = k.mixed.now.framed.place.sound in
        let owners : HasOwners (queued w.driver) = owners_of s w k.mixed in
        let lent = queued_are_lent w.driver k.mixed.now.framed.place.lent
        (λ e t count is. absurd (none_some (unfinished.Iso e t count) (sym idle ∙ is))) in
        let held = command_holds_puts d w.memory cmd (told_of o) s.parts puts only room bytes takes owners lent sound.stands
        k.mixed.turns.turns
        (tells_of s w k.mixed) k.mixed.queues.queues.fed pays.held in
        record {
          ended = accepted_ended d w.memory (told_of o) s.parts (inr transfers) pays.ended;
          held = held;
          owes = command_owes d w.memory cmd (told_of o) puts (puts_then d cmd puts) m.reported only takes owners sound.stands
              k.mixed.turns.turns (then_before d cmd puts) pays.held held pays.owes;
          begin = command_taken (watched x) d w.memory cmd (told_of o) puts (puts_then d cmd puts) (wired fixed w) k.mixed.turns.turns only
              takes (then_before d cmd puts) pays.begin;
        }

    given_so : AreEndsTaken w.driver w.memory o → Owing puts
    given_so q =
        given_owing (watched x) (wired fixed w) s.parts m.reported d f w.memory o.memory k.mixed.turns.turns told_idle puts
        k.mixed.queues.queues.fed (tells_of s w k.mixed) tells was q.given q.number (queued_endpoint q.endpoint)
        (get_queued w.driver.endpoints q.number q.endpoint q.here)
        (ap (λ (y : Endpoint). y.gone) (of_none q.endpoint q.isochronous)) (all_gone q.given q.each)
        (ap (λ (g : DriverContent). g.endpoints) q.alike) (ap (λ (g : DriverContent). g.transfers) q.alike)
        (ap (λ (g : DriverContent). g.notes) q.alike) (ap (λ (g : DriverContent). g.command) q.alike)
      where
        all_gone : (ys : List Transfer) → AllByRecursion (IsGivenBackOf w.driver q.number) ys → AllByRecursion (IsGone q.number) ys
        all_gone [] all = tt
        all_gone (y ∷ ys) all =
            (record { endpoint = all.0.endpoint; reported = all.0.reported; released = all.0.released }, all_gone ys all.1)

    -- ---- a cancel

    left_so : (its : EpName) → IsQueueLeft w.driver w.memory its o → Owing puts
    left_so its q = still_same (left_more w o k.mixed.turns.turns its q)

    end_left_so : IsEndLeft w.driver w.memory o → Owing puts
    end_left_so q = still_same (end_left_more w o q)

    -- ---- any

    long : length (queued w.driver).transfers ≡ length w.driver.transfers
    long = length-map w.driver.transfers (queued_transfer w.driver.endpoints)

    accepted_so : (cmd : Cmd) → IsByteCommand cmd → IsOffered w.driver.room cmd → OpensDeclared x cmd
        → QueuesAccept w.driver w.memory o cmd → Owing (puts_then w.driver cmd puts)
    accepted_so (commands.OpenEp desc) bytes room declared q =
        ⊎_elim (λ (a : IsQueueOpened w.driver w.memory desc o). opened_so desc a)
        (λ (a : IsEndOpened w.driver w.memory desc o). bare_so desc declared a) q
    accepted_so (commands.Get its len by) bytes room declared q =
        asked_so (commands.Get its len by) tt bytes room q.takes q.asked.transfers
    accepted_so (commands.Put its sent by) bytes room declared q =
        subst (λ (n : ℕ). Owing (with_put puts n sent)) long (asked_so (commands.Put its sent by) tt bytes room q.takes q.asked.transfers)
    accepted_so (commands.Control its setup sent) bytes room declared q =
        asked_so (commands.Control its setup sent) tt bytes room q.takes q.requested.transfers
    accepted_so (commands.Iso its count len seed) bytes room declared q = given_so q
    accepted_so (commands.Cancel its) bytes room declared q =
        ⊎_elim (λ (a : IsQueueLeft w.driver w.memory its o). left_so its a) (λ (a : IsEndLeft w.driver w.memory o). end_left_so a) q
    accepted_so _ bytes room declared q = absurd q

    -- ---- its qTDs, and the takers

    was_there : (e : ℕ) (z : Endpoint) (v : WasIn w.driver.endpoints e z) → (queued_endpoint z).gone ≡ false → z.desc.name.way ≡ ways.Out
        → IsSentOut s (32 * z.queue)
    was_there e z v kept way =
        let its = kept_as z kept in
        let iso : is_iso v.endpoint.desc.kind ≡ false = ap (λ (c : EpDesc). is_iso c.kind) (sym v.comes.desc) ∙ its.1 in
        subst (λ (q : ℕ). IsSentOut s (32 * q)) (sym v.comes.queue)
        (pays.outs e v.endpoint v.here
        (idle_there d told_idle (queued_endpoint v.endpoint)
        (ap (λ (u : Endpoint). u.gone) (of_queue v.endpoint iso) ∙ v.comes.alive its.0))
        (ap (λ (c : EpDesc). c.name.way) (sym v.comes.desc) ∙ way))

    taker_was : (e : ℕ) (z : Endpoint) → WasIn w.driver.endpoints e z → z.desc.name.way ≡ ways.Out
        → x.takes z.desc.name.addr z.desc.name.num ≡ true → HasNamedTaker fixed (commanded_by w line name (Ok o)) z.desc.name
    taker_was e z v way on =
        let its : HasNamedTaker fixed w v.endpoint.desc.name =
        pays.takers e v.endpoint v.here (ap (λ (c : EpDesc). c.name.way) (sym v.comes.desc) ∙ way)
        (ap (λ (c : EpDesc). x.takes c.name.addr c.name.num) (sym v.comes.desc) ∙ on) in
        record { taker = its.taker; is = ap (λ (c : EpDesc). taker_of (wired fixed w) c.name.addr c.name.num) v.comes.desc ∙ its.is }

    itself : (e : ℕ) (z : Endpoint) → slice_get w.driver.endpoints e ≡ Some z → WasIn w.driver.endpoints e z
    itself e z here = record { endpoint = z; here = here; comes = record { desc = refl; queue = refl; alive = λ kept. kept } }

    -- the new one
    module _ (y : Endpoint) (ends : o.driver.endpoints ≡ w.driver.endpoints ++ y ∷ []) (kept : y.gone ≡ false)
        (newest : IsNewest o.driver y) where
      which : (e : ℕ) (z : Endpoint) → slice_get o.driver.endpoints e ≡ Some z
          → (slice_get w.driver.endpoints e ≡ Some z) ⊎ ((e ≡ length w.driver.endpoints) × (z ≡ y))
      which e z here = push_which w.driver.endpoints y e z (ap (λ (xs : List Endpoint). slice_get xs e) (sym ends) ∙ here)

      its_place : slice_get o.driver.endpoints (length w.driver.endpoints) ≡ Some y
      its_place = ap (λ (xs : List Endpoint). slice_get xs (length w.driver.endpoints)) ends ∙ newest_get w.driver.endpoints y

      unmet : IsNewest o.driver y → IsThere (queued o.driver) (queued_endpoint y) → ⊥
      unmet (is_opening queue opens made) there =
          there.linked (opens ∙ ap (λ (q : ℕ). Some (unfinished.Open q)) (sym (queue_same y)))
      unmet (is_bare iso none) there = true≢false (sym iso ∙ (kept_as y there.kept).1)

      new_taker : IsNewest o.driver y → y.desc.name.way ≡ ways.Out → x.takes y.desc.name.addr y.desc.name.num ≡ true
          → HasNamedTaker fixed (commanded_by w line name (Ok o)) y.desc.name
      new_taker (is_bare iso none) way on =
          absurd (false≢true (sym (bare_takes x y.desc (new.declared (length w.driver.endpoints) y its_place) iso way) ∙ on))
      new_taker (is_opening queue opens made) way on =
          let opening : IsOpening o.driver y = record { kept = kept; queue = queue; command = opens } in
          let u : IsUntaken (taker_of (wired fixed w) y.desc.name.addr y.desc.name.num) =
          new.fresh_outs y.desc.name.addr y.desc.name.num on
          (λ i v there its same also.
          let one : i ≡ length w.driver.endpoints =
          told_apart o.driver (in_hand s) s.parts m.reported new.telling.told i (length w.driver.endpoints) v y there its_place
          (name_is v.desc.name y.desc.name same also (its ∙ sym way)) in
          subst (IsOpening o.driver) (same_Some y v (sym its_place ∙ ap (slice_get o.driver.endpoints) (sym one) ∙ there)) opening) in
          record { taker = u.taker; is = u.is }

    outs_by : (cmd : Cmd) → EndsThen w.driver o.driver cmd → AreOutsWhole s o.driver
    outs_by cmd (one_more y asked ends kept newest tells_so) e z here there way =
        ⊎_elim (λ (at : slice_get w.driver.endpoints e ≡ Some z). was_there e z (itself e z at) there.kept way)
        (λ (own : (e ≡ length w.driver.endpoints) × (z ≡ y)).
        absurd (unmet y ends kept newest newest (subst (λ (v : Endpoint). IsThere (queued o.driver) (queued_endpoint v)) own.1 there)))
        (which y ends kept newest e z here)
    outs_by cmd (one_anew i y v at ends comes kept never tells_so) e z here there way =
        was_there e z (was_anew w.driver.endpoints i y v at comes e z (ap (λ (xs : List Endpoint). slice_get xs e) (sym ends) ∙ here))
        there.kept
        way

    takers_by : (cmd : Cmd) → EndsThen w.driver o.driver cmd → HaveTakers fixed x (commanded_by w line name (Ok o))
    takers_by cmd (one_more y asked ends kept newest tells_so) e z here way on =
        ⊎_elim (λ (at : slice_get w.driver.endpoints e ≡ Some z). taker_was e z (itself e z at) way on)
        (λ (own : (e ≡ length w.driver.endpoints) × (z ≡ y)).
        subst (λ (v : Endpoint). HasNamedTaker fixed (commanded_by w line name (Ok o)) v.desc.name) (sym own.1)
        (new_taker y ends kept newest newest (ap (λ (v : Endpoint). v.desc.name.way) (sym own.1) ∙ way)
        (ap (λ (v : Endpoint). x.takes v.desc.name.addr v.desc.name.num) (sym own.1) ∙ on))) (which y ends kept newest e z here)
    takers_by cmd (one_anew i y v at ends comes kept never tells_so) e z here way on =
        taker_was e z (was_anew w.driver.endpoints i y v at comes e z (ap (λ (xs : List Endpoint). slice_get xs e) (sym ends) ∙ here))
        way on

    accepted_pays : (cmd : Cmd) → IsByteCommand cmd → IsOffered w.driver.room cmd → OpensDeclared x cmd
        → QueuesAccept w.driver w.memory o cmd → EndsThen w.driver o.driver cmd
        → Pays fixed x s m (puts_then w.driver cmd puts) (commanded_by w line name (Ok o))
    accepted_pays cmd bytes room declared q ends =
        let a : Owing (puts_then w.driver cmd puts) = accepted_so cmd bytes room declared q in
        record {
          outs = outs_by cmd ends;
          ended = a.ended;
          held = a.held;
          owes = a.owes;
          begin = a.begin;
          takers = takers_by cmd ends;
        }

  -- ---- refused

  refused_pays : (line : ℕ) (cmd : Cmd) (why : OfferError)
      → Pays fixed x s m (puts_then w.driver cmd puts) (commanded_by w line (name_in cmd) (Err why))
  refused_pays line cmd why =
      let now : ℕ → List ℕ = puts_then w.driver cmd puts in
      let keeps : KeepsPuts (queued w.driver) puts (puts_then w.driver cmd puts) =
      (λ t low. then_before w.driver cmd puts t
      (let n = length-map w.driver.transfers (queued_transfer w.driver.endpoints) in omega (arith, low, n))) in
      record {
        outs = λ e z here there way. pays.outs e z here (record { linked = there.linked; kept = there.kept }) way;
        ended = pays.ended;
        held = refused_held d line (name_in cmd) why w.memory puts now m.reported keeps pays.held;
        owes = refused_owes d line (name_in cmd) why w.memory puts now m.reported keeps k.mixed.turns.turns pays.held pays.owes;
        begin = refused_begin d line (name_in cmd) why w.memory puts now m.reported keeps (watched x) (wired fixed w) pays.begin;
        takers = λ e z here way on.
            let its : HasNamedTaker fixed w z.desc.name = pays.takers e z here way on in record { taker = its.taker; is = its.is };
      }

  -- ---- any command

  module _ (line : ℕ) (cmd : Cmd) (fits : OpensMixed cmd) (declares : OpensDeclared x cmd) (bytes : IsByteCommand cmd)
      (room : IsOffered w.driver.room cmd) where
    by_offer : (r : Result Offered OfferError) → offered w.driver w.memory cmd ≡ r → IsPiped fixed x s m h
        (commanded_by w line (name_in cmd) r)
        → Pays fixed x s m (puts_then w.driver cmd puts) (commanded_by w line (name_in cmd) r)
    by_offer (Err why) is new = refused_pays line cmd why
    by_offer (Ok o) is new =
        accepted_pays line (name_in cmd) o (idle_by w.driver w.memory o (each_command_has_its_reason w.driver w.memory cmd o is))
        new cmd bytes room
        declares
        (commands_are_of_queues w.driver w.memory cmd o k.mixed.now.framed.place.sound.owners.orderly k.mixed.turns is)
        (ends_then w.driver w.memory o cmd (reason_of w.driver w.memory cmd o is))

    pub commanded_pays : Pays fixed x s m (puts_then w.driver cmd puts) (commanded w line cmd)
    commanded_pays =
        by_offer (offered w.driver w.memory cmd) refl (commanded_piped fixed x s m h w k line cmd fits declares room)
