-- Each command, accepted or refused, leaves host and hub of each bulk and control endpoint below a hub as they must stand.
use Rattle.std.proofs.Common.{◌≡◌, ℕ, true, List, slice_get, Some, Result, Ok, Err, ap, refl, sym, subst, ◌∙◌, inl}
use Rattle.std.specs.Prelude.{◌⊎◌}
use Rattle.usb_base.specs.declared.commands.Cmd.{Cmd}
use Rattle.usb_base.specs.declared.endpoints.EpDesc.{EpDesc}
use Rattle.usb_base.specs.declared.packets.Way.{Way}
use Rattle.usb_base.specs.declared.reports.OfferError.{OfferError}
use Rattle.word_mem.specs.Memory.{Mem}
use Rattle.script_types.specs.declared.scripts.Script.{Script}
use Rattle.bus_wire.specs.Bus.{Wired, fixed_of}
use Rattle.drv_table.specs.declared.content.Endpoint.{Endpoint}
use Rattle.drv_table.specs.Accepting.{Offered}
use Rattle.drv_table.specs.DriverContent.{DriverContent}
use Rattle.drv_table.specs.Offers.{offered, IsOffered}
use Rattle.law_driver.specs.queued_drivers.Queued.{queued_endpoint, queued}
use Rattle.law_driver.proofs.lemmas.queued_drivers.CommandReasons.{reason_of}
use Rattle.law_driver_ring.specs.fed_queues.Places.{IsThere, IsMet, AreMet}
use Rattle.law_world.specs.steps.Streaming.{wired}
use Rattle.law_world.specs.memory.Mixed.{Standing}
use Rattle.law_world.specs.memory.Opens.{OpensMixed}
use Rattle.bus_world.specs.World.{World, name_in, commanded_by, commanded, refused_line}
use Rattle.law_reports.specs.lines.Lined.{Lines}
use Rattle.law_reports.specs.pipes.Declared.{sides_of}
use Rattle.law_reports.specs.pipes.Piped.{Heads, AreFresh, IsPiped}
use Rattle.law_reports.specs.pipes.PipedLaws.{OpensDeclared}
use Rattle.law_reports.specs.quiet.Awaiting.{is_buffered_below, FreshKeys, AwaitsBy, IsAwaitingAt, every_name, AreAwaited}
use Rattle.law_reports.specs.quiet.Heard.{AreServed}
use Rattle.law_reports.proofs.lemmas.pipes.Accepted.{EndsThen, one_more, one_anew, ends_then, now_anew}
use Rattle.law_reports.proofs.lemmas.pipes.Across.{ComesOf, WasIn, IsNowIn}
use Rattle.law_reports.proofs.lemmas.pipes.Carried.{was_met, fresh_carried}
use Rattle.law_reports.proofs.lemmas.pipes.Commanded.{commanded_piped, fresh_more}
use Rattle.law_reports.proofs.lemmas.pipes.FollowedCommands.{was_by}
use Rattle.law_reports.proofs.lemmas.pipes.Names.{met_near}
use Rattle.law_reports.proofs.lemmas.quiet.Heards.{command_by}
use Rattle.law_reports.proofs.lemmas.quiet.Served.{OpensServed}

module _ (s : Script) (st : Standing) (m : Lines) (h : Heads) (w : World) (k : IsPiped (fixed_of s) (sides_of s) st m h w)
    (a : AreAwaited s st w) where
  abbrev wire : Wired
  wire = wired (fixed_of s) w

  -- the driver's content and memory change, and the same queue heads are met
  module _ (f : DriverContent) (mem : Mem) (new : IsPiped (fixed_of s) (sides_of s) st m h (record w { driver = f; memory = mem }))
      (was : (e : ℕ) (z : Endpoint) → slice_get f.endpoints e ≡ Some z
      → (IsThere (queued f) (queued_endpoint z)) ⊎ (z.gone ≡ true) → WasIn w.driver.endpoints e z) where
    met_then : (e : ℕ) (z : Endpoint) → slice_get f.endpoints e ≡ Some z → is_buffered_below z.desc ≡ true
        → IsMet (queued f) e (queued_endpoint z) → IsAwaitingAt s wire st z
    met_then e z here is is_met =
        let near_now : AreMet (queued f) st.near = new.mixed.queues.queues.met in
        let u = was_met w.driver f st.near st.near k.mixed.now.framed.place.sound.owners k.mixed.queues.queues.met near_now
        (λ j u there its_met. was j u there (inl its_met.there)) e z here is_met (met_near f st.near near_now e z here is_met) in
        let y : Endpoint = u.before.endpoint in
        subst (λ (c : EpDesc). AwaitsBy s wire st c z.queue c.name.way) (sym u.before.comes.desc)
        (subst (λ (q : ℕ). AwaitsBy s wire st y.desc q y.desc.name.way) (sym u.before.comes.queue)
        (a.met e y u.before.here (ap is_buffered_below (sym u.before.comes.desc) ∙ is) u.met))

    with_driver : AreServed s f → ((way : Way) → AreFresh w.driver way every_name (FreshKeys s wire way)
        → AreFresh f way every_name (FreshKeys s wire way)) → AreAwaited s st (record w { driver = f; memory = mem })
    with_driver served fresh = record {
      served = served;
      met = met_then;
      fresh = λ way. fresh way (a.fresh way);
    }

  -- ---- refused

  itself : (y : Endpoint) → ComesOf y y
  itself y = record { desc = refl; queue = refl; alive = λ kept. kept }

  refused_awaited : (line : ℕ) (cmd : Cmd) (why : OfferError) → offered w.driver w.memory cmd ≡ Err why
      → IsPiped (fixed_of s) (sides_of s) st m h (commanded_by w line (name_in cmd) (Err why))
      → AreAwaited s st (commanded_by w line (name_in cmd) (Err why))
  refused_awaited line cmd why is new =
      let f : DriverContent = refused_line w.driver line (name_in cmd) why in
      with_driver f w.memory new (λ e z here which. record { endpoint = z; here = here; comes = itself z }) a.served
      (λ way old. fresh_carried w.driver f (λ e y here. record { endpoint = y; here = here; comes = itself y }) (λ q opening. opening) way
      every_name (FreshKeys s wire way) old)

  -- ---- accepted

  module _ (line : ℕ) (cmd : Cmd) (f : Offered) (is : offered w.driver w.memory cmd ≡ Ok f)
      (declares : OpensDeclared (sides_of s) cmd) (serves : OpensServed s cmd)
      (new : IsPiped (fixed_of s) (sides_of s) st m h (commanded_by w line (name_in cmd) (Ok f))) where
    ends : EndsThen w.driver f.driver cmd
    ends = ends_then w.driver w.memory f cmd (reason_of w.driver w.memory cmd f is)

    fresh_by : EndsThen w.driver f.driver cmd → (way : Way) → AreFresh w.driver way every_name (FreshKeys s wire way)
        → AreFresh f.driver way every_name (FreshKeys s wire way)
    fresh_by (one_more y asked added kept newest tells) way old =
        fresh_more (fixed_of s) (sides_of s) st m h w k line cmd f declares new.mixed new.telling new.going new.descriptors y added kept
        newest (subst (OpensDeclared (sides_of s)) asked declares) way every_name (FreshKeys s wire way) old
    fresh_by (one_anew j y u at added comes kept never tells) way old =
        fresh_carried w.driver f.driver
        (λ e t here. subst (λ (xs : List Endpoint). IsNowIn xs e t) (sym added) (now_anew w.driver.endpoints j y u at comes e t here))
        (λ q opening. absurd (never q opening)) way every_name (FreshKeys s wire way) old

    accepted_awaited : AreAwaited s st (commanded_by w line (name_in cmd) (Ok f))
    accepted_awaited =
        with_driver f.driver f.memory new (was_by (fixed_of s) (sides_of s) st m h w k f.driver cmd ends)
        (command_by s w line cmd (name_in cmd) (Ok f) is serves a.served) (fresh_by ends)

  -- ---- any command

  module _ (line : ℕ) (cmd : Cmd) (fits : OpensMixed cmd) (declares : OpensDeclared (sides_of s) cmd) (serves : OpensServed s cmd)
      (room : IsOffered w.driver.room cmd) where
    by_offer : (r : Result Offered OfferError) → offered w.driver w.memory cmd ≡ r
        → IsPiped (fixed_of s) (sides_of s) st m h (commanded_by w line (name_in cmd) r) → AreAwaited s st (commanded_by w line (name_in cmd) r)
    by_offer (Err why) is new = refused_awaited line cmd why is new
    by_offer (Ok f) is new = accepted_awaited line cmd f is declares serves new

    pub commanded_awaited : AreAwaited s st (commanded w line cmd)
    commanded_awaited =
        by_offer (offered w.driver w.memory cmd) refl (commanded_piped (fixed_of s) (sides_of s) st m h w k line cmd fits declares room)
