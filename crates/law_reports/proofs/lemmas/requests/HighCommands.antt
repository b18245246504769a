-- Each command, accepted or refused, leaves the requests of control endpoints at high speed as they must stand, in a world with endpoints
-- of every kind.
use Rattle.std.proofs.Common.{◌≡◌, ℕ, Bool, true, false, List, [], ◌∷◌, slice_get, Option, Some, None, Result, Ok, Err, if◌then◌else◌, ap}
use Rattle.std.proofs.Common.{refl, sym, subst, ◌∙◌, ⊎_elim, arith}
use Rattle.std.specs.List.{AllByRecursion}
use Rattle.std.proofs.lemmas.Bool.{false≢true}
use Rattle.std.proofs.lemmas.List.{append-nil, length-map}
use Rattle.law_driver.proofs.Common.{get_queued, of_none}
use Rattle.law_microframes.proofs.Common.{idle_by}
use Rattle.usb_base.specs.declared.commands.Cmd.{Cmd}
use Rattle.usb_base.specs.declared.commands.Cmd.TheVariants as commands
use Rattle.usb_base.specs.declared.endpoints.EpDesc.{EpDesc}
use Rattle.usb_base.specs.declared.endpoints.EpName.{EpName}
use Rattle.usb_base.specs.declared.packets.EpKind.{EpKind}
use Rattle.usb_base.specs.declared.packets.Way.{Way}
use Rattle.usb_base.specs.declared.packets.Way.TheVariants as ways
use Rattle.usb_base.specs.declared.reports.OfferError.{OfferError}
use Rattle.word_mem.specs.Memory.{Mem}
use Rattle.bus_wire.specs.Bus.{Fixed}
use Rattle.law_scripts.specs.byte_answers.Bytes.{IsByteCommand}
use Rattle.law_driver.specs.AsynchronousScripts.{IsAsynchronous}
use Rattle.drv_periodic_table.specs.Periodic.{is_periodic}
use Rattle.drv_table.specs.CancelOffers.{accepted_cancel}
use Rattle.drv_table.specs.declared.content.Command.{Command}
use Rattle.drv_table.specs.declared.content.Endpoint.{Endpoint}
use Rattle.drv_table.specs.declared.content.Transfer.{Transfer}
use Rattle.drv_table.specs.Accepting.{Offered}
use Rattle.drv_table.specs.DriverContent.{DriverContent}
use Rattle.drv_table.specs.Kinds.{is_iso}
use Rattle.drv_table.specs.Offers.{offered, IsOffered, placed_endpoint}
use Rattle.drv_table.specs.Words.{is_control}
use Rattle.law_driver.specs.queued_drivers.Queued.{without_queue, with_queue, queued_transfer, queued_desc, queued_kind, queued_endpoint}
use Rattle.law_driver.specs.queued_drivers.Queued.{queued, IsOfWay, FitsKind}
use Rattle.law_driver.specs.queued_drivers.Commands.{told_of, opened_queue, unlink_of, IsQueueOpened, IsEndOpened, AreEndsTaken}
use Rattle.law_driver.specs.queued_drivers.Commands.{IsGivenBackOf, IsQueueLeft, IsEndLeft, QueuesAccept}
use Rattle.law_driver.proofs.lemmas.queued_drivers.CommandFields.{desc_asynchronous}
use Rattle.law_driver.proofs.lemmas.queued_drivers.CommandTurns.{commands_are_of_queues}
use Rattle.law_driver.proofs.lemmas.queued_drivers.RowEvents.{idle_told}
use Rattle.law_driver.proofs.lemmas.run_owners.Commands.{each_command_has_its_reason}
use Rattle.claims_report.specs.Requests.{Request}
use Rattle.claims_world.specs.Requests.{Windows, wired, opens, endpoint_of, with_ask, asks_then}
use Rattle.bus_world.specs.World.{World, refused_line, name_in, commanded_by}
use Rattle.law_world.specs.memory.Mixed.{Standing, IsMixedAt}
use Rattle.law_world.specs.memory.Opens.{OpensMixed}
use Rattle.law_world.proofs.lemmas.memory.HarvestKept.{idle_lent}
use Rattle.law_reports.specs.lines.Lined.{Lines}
use Rattle.law_reports.specs.requests.Asking.{Sides, Asking, IsGiven, HasAsks, AsksIn}
use Rattle.law_reports.specs.requests.Commanding.{IsTransferCommand}
use Rattle.law_reports.specs.requests.Footing.{IsFooting}
use Rattle.law_reports.specs.requests.HighAsking.{told_world, told_standing, told_streams, IsSuited, SuitsCommand, AsksAt}
use Rattle.law_reports.proofs.Common.{asked_before}
use Rattle.law_reports.proofs.lemmas.requests.Cancelling.{cancelled_asks}
use Rattle.law_reports.proofs.lemmas.requests.HighMore.{more_in, IsBare, IsBeside, more_asks}
use Rattle.law_reports.proofs.lemmas.requests.HighOpens.{carried_asks}
use Rattle.law_reports.proofs.lemmas.requests.Leaving.{IsQuiet, idle_quiet, open_quiet, unlink_quiet}
use Rattle.law_reports.proofs.lemmas.requests.Opened.{opened_in}
use Rattle.law_reports.proofs.lemmas.requests.Refused.{asking_refused, there}
use Rattle.law_reports.proofs.lemmas.requests.Transferring.{AsksThen, by_command}

-- ---- what has no queue, cancels, and what is refused: by the standing of the queues

module _ (g : Sides) (fixed : Fixed) (s t : Standing) (m : Lines) (w : World) (k : IsMixedAt s w)
    (a : Asking) (v : Windows) (asks : ℕ → Request) (q : AsksAt g fixed t a v asks w) where
  abbrev Asked : (ℕ → Request) → DriverContent → Mem → Type 0
  Asked now d memory = HasAsks g t.near t.parts t.hand v now (queued d) memory (wired fixed w)

  -- .. a line alone
  pub refused : (now : ℕ → Request) (line : ℕ) (name : EpName) (why : OfferError)
      → ((i e : ℕ) → endpoint_of (queued w.driver) i ≡ Some e → now i ≡ asks i) → Asked now (refused_line w.driver line name why) w.memory
  refused now line name why same = record {
    asking = a;
    world = asking_refused g fixed t.near (told_standing t m) a v asks now (told_world w) line name why same q;
  }

  module _ (o : Offered) (idle : w.driver.command ≡ None) where
    idle_now : (queued w.driver).command ≡ None
    idle_now = idle_told w.driver idle

    quiet : IsQuiet (queued w.driver)
    quiet = idle_quiet (queued w.driver) idle_now

    -- ---- what has no queue, and cancels

    -- h has the queues of the driver, and these more
    more : (us : List Endpoint) (ts : List Transfer) → AllByRecursion (IsBare g) us → AllByRecursion (IsBeside g (queued w.driver)) ts
        → (h : DriverContent) → h ≡ more_in (queued w.driver) h us ts → IsQuiet (more_in (queued w.driver) h us ts)
        → ((b : ℕ) → opens h.command b ≡ false) → (memory : Mem)
        → AsksIn g t.near t.parts t.hand a v asks h memory (wired fixed w)
    more us ts bare beside h same quiet_then none memory =
        subst (λ (c : DriverContent). AsksIn g t.near t.parts t.hand a v asks c memory (wired fixed w)) (sym same)
        (more_asks g t.near t.parts t.hand a v asks (queued w.driver) h us ts w.memory memory (wired fixed w) q
        (λ b. ap (λ (c : Option Command). opens c b) idle_now) quiet quiet_then none bare beside)

    bare_end : (x : EpDesc) (u : Endpoint) → u.desc ≡ x → is_iso x.kind ≡ true → FitsKind x → IsBare g (without_queue u)
    bare_end x u is iso fits = record { gone = refl; unasked = off (g.asks (queued_desc u.desc)) refl }
      where
        no_control : (way : Way) (kind : EpKind) → IsOfWay way kind → is_iso kind ≡ true → is_control (queued_kind way) ≡ false
        no_control ways.Ctl kind fits iso = absurd (false≢true (ap is_iso (sym fits) ∙ iso))
        no_control ways.In kind fits iso = refl
        no_control ways.Out kind fits iso = refl

        off : (b : Bool) → g.asks (queued_desc u.desc) ≡ b → g.asks (queued_desc u.desc) ≡ false
        off false is = is
        off true on =
            absurd (false≢true (sym (ap (λ (c : EpDesc). is_control (queued_kind c.name.way)) is ∙ no_control x.name.way x.kind fits iso)
            ∙ g.controls (queued_desc u.desc) on))

    pub bare_opened : (x : EpDesc) → FitsKind x → IsEndOpened w.driver w.memory x o → Asked asks o.driver o.memory
    bare_opened x fits r =
        let u : Endpoint = placed_endpoint x r.placement 0 0 in
        let h : DriverContent = queued o.driver in
        record {
          asking = a;
          world = more (without_queue u ∷ []) [] (bare_end x u refl r.isochronous fits, tt) tt h
              (λ i. record h {
                endpoints = (ap (λ (e : DriverContent). e.endpoints) r.alike) i;
                transfers = (ap (λ (e : DriverContent). e.transfers) r.alike ∙ sym (append-nil (queued w.driver).transfers)) i;
                notes = (ap (λ (e : DriverContent). e.notes) r.alike) i;
                mends = (ap (λ (e : DriverContent). e.mends) r.alike) i;
                waiting = (ap (λ (e : DriverContent). e.waiting) r.alike) i;
                rung = (ap (λ (e : DriverContent). e.rung) r.alike) i;
                reports = (ap (λ (e : DriverContent). e.reports) r.alike) i;
                store = (ap (λ (e : DriverContent). e.store) r.alike) i;
              })
              (idle_quiet _ (ap (λ (e : DriverContent). e.command) r.alike ∙ idle_now))
              (λ b. ap (λ (e : DriverContent). opens e.command b) r.alike ∙ ap (λ (c : Option Command). opens c b) idle_now) o.memory;
        }

    pub taken : AreEndsTaken w.driver w.memory o → Asked asks o.driver o.memory
    taken r =
        let h : DriverContent = queued o.driver in
        record {
          asking = a;
          world = more [] r.given tt (all_beside r.given r.each) h
              (λ i. record h {
                endpoints = (ap (λ (e : DriverContent). e.endpoints) r.alike ∙ sym (append-nil (queued w.driver).endpoints)) i;
                transfers = (ap (λ (e : DriverContent). e.transfers) r.alike) i;
                notes = (ap (λ (e : DriverContent). e.notes) r.alike) i;
                mends = (ap (λ (e : DriverContent). e.mends) r.alike) i;
                waiting = (ap (λ (e : DriverContent). e.waiting) r.alike) i;
                rung = (ap (λ (e : DriverContent). e.rung) r.alike) i;
                reports = (ap (λ (e : DriverContent). e.reports) r.alike) i;
                store = (ap (λ (e : DriverContent). e.store) r.alike) i;
              })
              (idle_quiet _ (ap (λ (e : DriverContent). e.command) r.alike ∙ idle_now))
              (λ b. ap (λ (e : DriverContent). opens e.command b) r.alike ∙ ap (λ (c : Option Command). opens c b) idle_now) o.memory;
        }
      where
        own : Endpoint
        own = without_queue r.endpoint

        here : slice_get (queued w.driver).endpoints r.number ≡ Some (without_queue r.endpoint)
        here = get_queued w.driver.endpoints r.number r.endpoint r.here ∙ ap (λ (z : Endpoint). Some z) (of_none r.endpoint r.isochronous)

        all_beside : (ts : List Transfer) → AllByRecursion (IsGivenBackOf w.driver r.number) ts
            → AllByRecursion (IsBeside g (queued w.driver)) ts
        all_beside [] all = tt
        all_beside (y ∷ ys) all = (
          record {
            own = without_queue r.endpoint;
            here = ap (slice_get (queued w.driver).endpoints) all.0.endpoint ∙ here;
            unasked = (bare_end r.endpoint.desc r.endpoint refl r.isochronous (k.turns.kinds_fit r.number r.endpoint r.here)).unasked;
            reported = all.0.reported;
          },
          all_beside ys all.1,
        )

    pub end_left : IsEndLeft w.driver w.memory o → Asked asks o.driver o.memory
    end_left r =
        let h : DriverContent = queued o.driver in
        record {
          asking = a;
          world = more [] [] tt tt h
              (λ i. record h {
                endpoints = (ap (λ (e : DriverContent). e.endpoints) r.alike ∙ sym (append-nil (queued w.driver).endpoints)) i;
                transfers = (ap (λ (e : DriverContent). e.transfers) r.alike ∙ sym (append-nil (queued w.driver).transfers)) i;
                notes = (ap (λ (e : DriverContent). e.notes) r.alike) i;
                mends = (ap (λ (e : DriverContent). e.mends) r.alike) i;
                waiting = (ap (λ (e : DriverContent). e.waiting) r.alike) i;
                rung = (ap (λ (e : DriverContent). e.rung) r.alike) i;
                reports = (ap (λ (e : DriverContent). e.reports) r.alike) i;
                store = (ap (λ (e : DriverContent). e.store) r.alike) i;
              })
              (idle_quiet _ (ap (λ (e : DriverContent). e.command) r.alike ∙ idle_now))
              (λ b. ap (λ (e : DriverContent). opens e.command b) r.alike ∙ ap (λ (c : Option Command). opens c b) idle_now) o.memory;
        }

    -- .. whatever unlinks it
    pub queue_left : (name : EpName) → IsQueueLeft w.driver w.memory name o → Asked asks o.driver o.memory
    queue_left name r =
        record {
          asking = a;
          world = subst (λ (f : DriverContent). AsksIn g t.near t.parts t.hand a v asks f o.memory (wired fixed w)) (sym same)
              (more_asks g t.near t.parts t.hand a v asks leaving h [] [] w.memory o.memory (wired fixed w) cancelled
              (λ b. refl) (unlink_quiet leaving _ _ _ refl) quiet_then none_opens tt tt);
        }
      where
        own : Endpoint
        own = queued_endpoint r.endpoint

        here : slice_get (queued w.driver).endpoints r.number ≡ Some own
        here = get_queued w.driver.endpoints r.number r.endpoint r.here

        fresh : (y : Endpoint) → is_iso y.desc.kind ≡ false → y.cancelled ≡ false → (queued_endpoint y).cancelled ≡ false
        fresh y queue uncancelled = ap (λ (b : Bool). (if b then without_queue y else with_queue y).cancelled) queue ∙ uncancelled

        leaving : DriverContent
        leaving = accepted_cancel (queued w.driver) r.number own

        h : DriverContent
        h = queued o.driver

        cancelled : AsksIn g t.near t.parts t.hand a v asks leaving w.memory (wired fixed w)
        cancelled =
            cancelled_asks g t.near t.parts t.hand a v asks (queued w.driver) w.memory (wired fixed w) q k.turns.turns.asynchronous
            r.number own idle_now here
            (fresh r.endpoint r.queue r.fresh)

        same : h ≡ more_in leaving h [] []
        same = λ i. record h {
          endpoints = (ap (λ (e : DriverContent). e.endpoints) r.alike ∙ sym (append-nil leaving.endpoints)) i;
          transfers = (ap (λ (e : DriverContent). e.transfers) r.alike ∙ sym (append-nil leaving.transfers)) i;
          notes = (ap (λ (e : DriverContent). e.notes) r.alike) i;
          mends = (ap (λ (e : DriverContent). e.mends) r.alike) i;
          waiting = (ap (λ (e : DriverContent). e.waiting) r.alike) i;
          rung = (ap (λ (e : DriverContent). e.rung) r.alike) i;
          reports = (ap (λ (e : DriverContent). e.reports) r.alike) i;
          store = (ap (λ (e : DriverContent). e.store) r.alike) i;
        }

        command : h.command ≡ r.unlinks
        command = ap (λ (e : DriverContent). e.command) r.alike

        quiet_then : IsQuiet (more_in leaving h [] [])
        quiet_then =
            ⊎_elim
            (λ (z : (is_periodic r.endpoint.desc.kind ≡ false) × (r.unlinks ≡ Some (unlink_of w.driver r.number))). unlink_quiet _ _ _ _
            (command ∙ z.1))
            (λ (z : (is_periodic r.endpoint.desc.kind ≡ true) × (r.unlinks ≡ None)). idle_quiet _ (command ∙ z.1)) r.command

        none_opens : (b : ℕ) → opens h.command b ≡ false
        none_opens b =
            ⊎_elim
            (λ (z : (is_periodic r.endpoint.desc.kind ≡ false) × (r.unlinks ≡ Some (unlink_of w.driver r.number))).
            ap (λ (c : Option Command). opens c b) (command ∙ z.1))
            (λ (z : (is_periodic r.endpoint.desc.kind ≡ true) × (r.unlinks ≡ None)). ap (λ (c : Option Command). opens c b)
            (command ∙ z.1)) r.command

-- ---- any command

module _ (g : Sides) (fixed : Fixed) (s : Standing) (m : Lines) (w : World) (k : IsMixedAt s w)
    (f : IsFooting s.near (told_streams s) (told_standing s m) (told_world w))
    (a : Asking) (v : Windows) (asks : ℕ → Request) (q : AsksAt g fixed s a v asks w) (line : ℕ) where
  abbrev Then : (ℕ → Request) → DriverContent → Mem → Type 0
  Then now d memory = HasAsks g s.near s.parts s.hand v now (queued d) memory (wired fixed w)

  -- requests are told apart by their numbers, of which the queues tell as many
  same_asks : (cmd : Cmd) → asks_then (queued w.driver) cmd asks ≡ asks_then w.driver cmd asks
  same_asks (commands.Control name setup bytes) =
      ap (λ (n : ℕ). with_ask asks n (record { setup = setup; bytes = bytes }))
      (length-map w.driver.transfers (queued_transfer w.driver.endpoints))
  same_asks (commands.OpenEp x) = refl
  same_asks (commands.Get name len by) = refl
  same_asks (commands.Put name bytes by) = refl
  same_asks (commands.Iso name count len seed) = refl
  same_asks (commands.Cancel name) = refl
  same_asks _ = refl

  module _ (o : Offered) (idle : w.driver.command ≡ None) where
    -- ---- gets, puts and requests

    asked : (cmd : Cmd) → IsTransferCommand cmd → IsByteCommand cmd → offered (queued w.driver) w.memory cmd ≡ Ok (told_of o)
        → Then (asks_then w.driver cmd asks) o.driver o.memory
    asked cmd fits bytes is =
        let z : AsksThen g fixed s.near (told_standing s m) v (asks_then (queued w.driver) cmd asks)
        (commanded_by (told_world w) line (name_in cmd) (Ok (told_of o))) =
        by_command g fixed s.near (told_streams s) (told_standing s m) a v asks (told_world w) line (told_of o) f
        (idle_lent w.driver idle k.now.framed.place.lent) q cmd fits bytes is in
        record {
          asking = z.asking;
          world = subst (λ (now : ℕ → Request). AsksIn g s.near s.parts s.hand z.asking v now (queued o.driver) o.memory (wired fixed w))
              (same_asks cmd) z.world;
        }

    -- ---- opens

    opened : (x : EpDesc) → IsSuited g x → IsQueueOpened w.driver w.memory x o → Then asks o.driver o.memory
    opened x suits r =
        let c : Offered = opened_queue w.driver x r.holding_after in
        let z = opened_in g fixed s.near (told_streams s) (told_standing s m) a v asks (told_world w) c f q
        (record { opens = r.opens; asynchronous = subst IsAsynchronous (sym r.desc) (desc_asynchronous x) })
        (λ on. subst (IsGiven g) (sym r.desc) (suits.given (ap g.asks (sym r.desc) ∙ on))) in
        record {
          asking = a;
          world = carried_asks g s.near s.parts s.hand a v asks c.driver c.memory (wired fixed w) z (queued o.driver) o.memory
              (record {
                endpoints = ap (λ (e : DriverContent). e.endpoints) r.alike;
                transfers = ap (λ (e : DriverContent). e.transfers) r.alike;
                notes = ap (λ (e : DriverContent). e.notes) r.alike;
                command = ap (λ (e : DriverContent). e.command) r.alike;
                made = ap (λ (e : DriverContent). e.made) r.alike;
                mends = ap (λ (e : DriverContent). e.mends) r.alike;
                harvested = ap (λ (e : DriverContent). e.harvested) r.alike;
                waiting = ap (λ (e : DriverContent). e.waiting) r.alike;
                rung = ap (λ (e : DriverContent). e.rung) r.alike;
                cleared = ap (λ (e : DriverContent). e.cleared) r.alike;
                bell = ap (λ (e : DriverContent). e.bell) r.alike;
              })
              (record { reports = ap (λ (e : DriverContent). e.reports) r.alike; store = ap (λ (e : DriverContent). e.store) r.alike })
              (open_quiet c.driver _ refl);
        }

    -- ---- any of them

    accepted : (cmd : Cmd) → OpensMixed cmd → SuitsCommand g cmd → IsByteCommand cmd → QueuesAccept w.driver w.memory o cmd
        → Then (asks_then w.driver cmd asks) o.driver o.memory
    accepted (commands.OpenEp x) fits suits bytes r =
        ⊎_elim (λ (z : IsQueueOpened w.driver w.memory x o). opened x suits.opened z)
        (λ (z : IsEndOpened w.driver w.memory x o). bare_opened g fixed s s m w k a v asks q o idle x fits.kind z) r
    accepted (commands.Get name len by) fits suits bytes r = asked (commands.Get name len by) tt bytes r.takes
    accepted (commands.Put name more_bytes by) fits suits bytes r = asked (commands.Put name more_bytes by) tt bytes r.takes
    accepted (commands.Control name setup more_bytes) fits suits bytes r =
        asked (commands.Control name setup more_bytes) suits.asks.whole.request bytes r.takes
    accepted (commands.Iso name count len seed) fits suits bytes r = taken g fixed s s m w k a v asks q o idle r
    accepted (commands.Cancel name) fits suits bytes r =
        ⊎_elim (λ (z : IsQueueLeft w.driver w.memory name o). queue_left g fixed s s m w k a v asks q o idle name z)
        (λ (z : IsEndLeft w.driver w.memory o). end_left g fixed s s m w k a v asks q o idle z) r
    accepted _ fits suits bytes r = absurd r

  pub by_offer : (cmd : Cmd) (r : Result Offered OfferError) → OpensMixed cmd → SuitsCommand g cmd → IsByteCommand cmd
      → IsOffered w.driver.room cmd
      → offered w.driver w.memory cmd ≡ r
      → Then (asks_then w.driver cmd asks) (commanded_by w line (name_in cmd) r).driver (commanded_by w line (name_in cmd) r).memory
  by_offer cmd (Err why) fits suits bytes room is =
      refused g fixed s s m w k a v asks q (asks_then w.driver cmd asks) line (name_in cmd) why
      (λ i e of.
      let low = there i e (queued w.driver).transfers of in
      let long = length-map w.driver.transfers (queued_transfer w.driver.endpoints) in
      asked_before w.driver cmd asks i (omega (arith, low, long)))
  by_offer cmd (Ok o) fits suits bytes room is =
      accepted o (idle_by w.driver w.memory o (each_command_has_its_reason w.driver w.memory cmd o is)) cmd fits suits bytes
      (commands_are_of_queues w.driver w.memory cmd o k.now.framed.place.sound.owners.orderly k.turns is)
