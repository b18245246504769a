-- Each command, accepted or refused, leaves what is sent as a SETUP to a device among the setup bytes of requests to it.
use Rattle.std.proofs.Common.{◌≡◌, ℕ, suc, ◌*◌, ◌+◌, ◌<◌, Bool, true, false, if◌then◌else◌, List, [], ◌∷◌, ◌++◌, length, slice_get}
use Rattle.std.proofs.Common.{Option, Some, None, Result, Ok, Err, ap, refl, sym, subst, ◌∙◌, ⊎_elim, arith}
use Rattle.std.specs.Prelude.{◌⊎◌}
use Rattle.std.specs.List.{AllByRecursion}
use Rattle.std.proofs.lemmas.List.{length-map, length-append}
use Rattle.std.proofs.lemmas.Option.{same_Some}
use Rattle.law_common.proofs.Lists.{all_joined}
use Rattle.law_driver.proofs.Common.{control_way}
use Rattle.law_microframes.proofs.Common.{idle_by}
use Rattle.law_world.proofs.Common.{none_some}
use Rattle.usb_base.specs.declared.commands.Cmd.{Cmd}
use Rattle.usb_base.specs.declared.commands.Cmd.TheVariants as commands
use Rattle.usb_base.specs.declared.endpoints.EpDesc.{EpDesc}
use Rattle.usb_base.specs.declared.endpoints.EpName.{EpName}
use Rattle.usb_base.specs.declared.packets.Way.{Way}
use Rattle.usb_base.specs.declared.packets.Way.TheVariants as ways
use Rattle.usb_base.specs.declared.reports.OfferError.{OfferError}
use Rattle.word_mem.specs.Memory.{Mem}
use Rattle.bus_wire.specs.Fates.{is_same_name}
use Rattle.claims_driver.specs.Leaving.{HasOwners}
use Rattle.claims_driver.specs.LentRuns.{AreLent}
use Rattle.claims_report.specs.Requests.{Request, request_in}
use Rattle.drv_table.specs.declared.content.Command.{Command}
use Rattle.drv_table.specs.declared.content.Command.TheVariants as unfinished
use Rattle.drv_table.specs.declared.content.Endpoint.{Endpoint}
use Rattle.drv_table.specs.declared.content.Sort.TheVariants as sorts
use Rattle.drv_table.specs.declared.content.Transfer.{Transfer}
use Rattle.drv_periodic_table.specs.Periodic.{is_periodic}
use Rattle.drv_table.specs.Accepting.{Offered}
use Rattle.drv_table.specs.DriverContent.{DriverContent}
use Rattle.drv_table.specs.Offers.{Asked, offered, new_transfer}
use Rattle.law_driver.specs.chained_transfers.Accepted.{IsAsked}
use Rattle.law_driver.specs.chained_transfers.Bulk.{IsDataWay, sort_by}
use Rattle.law_driver.specs.queued_drivers.Commands.{IsQueueOpened, IsEndOpened, told_of, IsQueueLeft, IsEndLeft, QueuesAccept}
use Rattle.law_driver.specs.queued_drivers.Commands.{unlink_of}
use Rattle.law_driver.specs.queued_drivers.Queued.{queued}
use Rattle.law_driver.specs.run_owners.Accepts.{Transfers}
use Rattle.law_driver.proofs.lemmas.queued_drivers.CommandTurns.{commands_are_of_queues}
use Rattle.law_driver.proofs.lemmas.queued_drivers.RowEvents.{idle_told}
use Rattle.law_driver.proofs.lemmas.run_owners.Commands.{each_command_has_its_reason}
use Rattle.law_devices.specs.declared_controls.Requests.{AsksCommand}
use Rattle.law_queues.proofs.lemmas.told_endpoints.Names.{name_is_same}
use Rattle.law_scripts.specs.byte_answers.Bytes.{IsByteCommand}
use Rattle.law_world.specs.memory.Mixed.{Standing}
use Rattle.law_world.proofs.lemmas.memory.HarvestKept.{owners_of, idle_lent}
use Rattle.law_world.proofs.lemmas.streams.lemmas.put_laws.Mapped.{mapped}
use Rattle.law_world.proofs.lemmas.streams.lemmas.put_laws.Stays.{desc_at, owner_at, descs_in, owners_in}
use Rattle.law_world.proofs.lemmas.streams.lemmas.put_laws.TakenAccepted.{IfAccepted}
use Rattle.bus_wire.specs.Bus.{Fixed}
use Rattle.bus_world.specs.World.{World, refused_line, name_in, commanded_by, commanded}
use Rattle.law_reports.specs.lines.Lined.{Lines}
use Rattle.law_reports.specs.pipes.Declared.{Sides}
use Rattle.law_reports.specs.pipes.Piped.{Heads, IsPiped}
use Rattle.law_reports.specs.requests.Asking.{IsHeldRequest}
use Rattle.law_reports.specs.requests.request_bytes.Held.{RequestIsHeld}
use Rattle.law_reports.proofs.lemmas.requests.Noting.{LendsBy, request_lends}
use Rattle.law_reports.proofs.lemmas.requests.Requested.{TakesRequest, request_taken}
use Rattle.law_reports.proofs.lemmas.requests.lemmas.request_bytes.Accepting.{accepted_request_is_held}
use Rattle.law_reports.proofs.lemmas.requests.lemmas.told_requests.Adding.{AddsRequest, Adds, opens, asks, others, command_asks}
use Rattle.law_reports.specs.pipes.hub_setups.Setups.{IsSetupHeld, IsSettingUp, PublishesOnly, IsHeeding}
use Rattle.law_reports.specs.pipes.hub_setups.Laws.{SetsUpFit}

publish_open : (b q : ℕ) (words : List ℕ) → ◌≡◌ {A = Option Command} (Some (unfinished.Open q)) (Some (unfinished.Publish b words)) → ⊥
publish_open b q words is = cc

publish_unlink : (b e q link : ℕ) (words : List ℕ)
    → ◌≡◌ {A = Option Command} (Some (unfinished.Unlink e q link)) (Some (unfinished.Publish b words)) → ⊥
publish_unlink b e q link words is = cc

one_block : (b c : ℕ) (words more : List ℕ)
    → ◌≡◌ {A = Option Command} (Some (unfinished.Publish b words)) (Some (unfinished.Publish c more)) → b ≡ c
one_block b c words more is = cc

data_sort : (way : Way) → IsDataWay way → sort_by way ≡ sorts.Request → ⊥
data_sort ways.In data_way is = cc
data_sort ways.Out data_way is = cc
data_sort ways.Ctl data_way is = data_way

one_name : (name its : EpName) (setup bytes other more : List ℕ)
    → ◌≡◌ {A = Cmd} (commands.Control name setup bytes) (commands.Control its other more) → its ≡ name
one_name name its setup bytes other more is = cc

control_open : (name : EpName) (setup bytes : List ℕ) (x : EpDesc)
    → ◌≡◌ {A = Cmd} (commands.Control name setup bytes) (commands.OpenEp x) → ⊥
control_open name setup bytes x is = cc

request_none : (name : EpName) (setup bytes : List ℕ) → request_in name (commands.Control name setup bytes) ≡ None → ⊥
request_none name setup bytes none = by (is_same_name name name) (name_is_same name) none
  where
    by : (b : Bool) → b ≡ true
        → ◌≡◌ {A = Option Request} (if b then Some (record { setup = setup; bytes = bytes }) else None) None → ⊥
    by true is e = cc
    by false is e = cc

-- a line changes none of what a request waits for
refused_held : (d : DriverContent) (line : ℕ) (name : EpName) (why : OfferError) (m : Mem) (b : ℕ) (words : List ℕ) (r : Request)
    → IsHeldRequest d m b words r → IsHeldRequest (refused_line d line name why) m b words r
refused_held d line name why m b words r h =
    let k = h.lends in
    let z = k.awaits in
    record {
      lends = record {
        number = k.number;
        transfer = k.transfer;
        endpoint = k.endpoint;
        stage = k.stage;
        further = k.further;
        command = k.command;
        made = k.made;
        newest = k.newest;
        there = k.there;
        here = k.here;
        going = k.going;
        first = k.first;
        place = k.place;
        left = k.left;
        fresh = k.fresh;
        awaits = record {
          here = z.here;
          qtds = z.qtds;
          first = z.first;
          taken = z.taken;
          apart = z.apart;
          ends = z.ends;
          qtds_kept = z.qtds_kept;
          noted = z.noted;
          words = z.words;
          short = z.short;
          pids = z.pids;
        };
        stages = k.stages;
        sort = k.sort;
        are = k.are;
      };
      stages = h.stages;
      held = h.held;
    }

module _ (fixed : Fixed) (x : Sides) (s : Standing) (m : Lines) (h : Heads) (w : World) (k : IsPiped fixed x s m h w) (a : ℕ)
    (Q : List ℕ → Type 0) (heeds : IsHeeding a Q s h w) where
  abbrev d : DriverContent
  d = queued w.driver

  -- ---- refused

  -- as the queues tell it, the line is that of their driver
  refused_publishes : (line : ℕ) (name : EpName) (why : OfferError)
      → PublishesOnly a Q (queued (refused_line w.driver line name why)) w.memory s.parts
  refused_publishes line name why b words t y z command newest there here sort address =
      let old : IsSettingUp Q d w.memory (s.parts (32 * z.queue)) b words =
      heeds.publishes b words t y z command newest there here sort address in
      record {
        held = λ none.
            let held : IsSetupHeld Q d w.memory b words = old.held none in
            record {
              request = held.request;
              whole = held.whole;
              held = refused_held d line name why w.memory b words held.request held.held;
              fits = held.fits;
            };
        lent = old.lent;
      }

  -- ---- accepted

  module _ (o : Offered) (idle : w.driver.command ≡ None) where
    told_idle : (queued w.driver).command ≡ None
    told_idle = idle_told w.driver idle

    abbrev Then : Type 0
    Then = PublishesOnly a Q (queued o.driver) o.memory s.parts

    none_then : ((b : ℕ) (words : List ℕ) → (queued o.driver).command ≡ Some (unfinished.Publish b words) → ⊥) → Then
    none_then none b words t y z command newest there here sort address = absurd (none b words command)

    idle_then : (queued o.driver).command ≡ (queued w.driver).command → Then
    idle_then same = none_then (λ b words command. none_some (unfinished.Publish b words) (sym (same ∙ told_idle) ∙ command))

    -- the newest transfer is the one that was asked for
    newest_is : (i : Transfers (queued w.driver) w.memory (told_of o)) (t : ℕ) (y : Transfer)
        → suc t ≡ length (queued o.driver).transfers → slice_get (queued o.driver).transfers t ≡ Some y
        → y ≡ new_transfer i.number i.asked i.endpoint.dummy
    newest_is i t y newest there =
        let new : Transfer = new_transfer i.number i.asked i.endpoint.dummy in
        let are : (queued o.driver).transfers ≡ d.transfers ++ new ∷ [] = ap (λ (g : Offered). g.driver.transfers) i.is in
        let long : length (queued o.driver).transfers ≡ length d.transfers + 1 =
        ap (λ (ts : List Transfer). length ts) are ∙ length-append d.transfers (new ∷ []) in
        let at : t ≡ length d.transfers = omega (arith, newest, long) in
        same_Some y new (sym there ∙ ap (λ (ts : List Transfer). slice_get ts t) are ∙ ap (slice_get (d.transfers ++ new ∷ [])) at
        ∙ behind d.transfers)
      where
        behind : (ys : List Transfer) → slice_get (ys ++ new_transfer i.number i.asked i.endpoint.dummy ∷ []) (length ys)
            ≡ Some (new_transfer i.number i.asked i.endpoint.dummy)
        behind [] = refl
        behind (z ∷ ys) = behind ys

    moved_then : IsAsked (queued w.driver) w.memory (told_of o) → Then
    moved_then i b words t y z command newest there here sort address =
        absurd (data_sort i.transfers.endpoint.desc.name.way i.way
        (sym (ap (λ (g : Asked). g.sort) i.asked) ∙ sym (ap (λ (u : Transfer). u.sort) (newest_is i.transfers t y newest there)) ∙ sort))

    -- ---- a request

    module _ (name : EpName) (setup bytes : List ℕ) (takes : offered (queued w.driver) w.memory (commands.Control name setup bytes)
        ≡ Ok (told_of o)) where
      -- its endpoint has the name of the command
      named_so : (t : ℕ) (y : Transfer) (z : Endpoint) → suc t ≡ length (queued o.driver).transfers
          → slice_get (queued o.driver).transfers t ≡ Some y → slice_get (queued o.driver).endpoints y.endpoint ≡ Some z
          → z.desc.name ≡ name
      named_so t y z newest there here =
          by (subst (IfAccepted (Adds d (commands.Control name setup bytes))) takes
          (command_asks d w.memory (commands.Control name setup bytes)))
        where
          its : (r : AddsRequest (queued w.driver) (commands.Control name setup bytes) (queued o.driver)) → z.desc.name ≡ name
          its r =
              let long : length (owners_in (queued o.driver)) ≡ length (owners_in d) + 1 =
              ap (λ (ns : List ℕ). length ns) r.owners ∙ length-append (owners_in d) (r.number ∷ []) in
              let many = length-map (queued o.driver).transfers owner_at in
              let at : t ≡ length (owners_in d) = omega (arith, newest, long, many) in
              let number : y.endpoint ≡ r.number =
              same_Some y.endpoint r.number (sym (mapped owner_at (queued o.driver).transfers t y there)
              ∙ ap (λ (ns : List ℕ). slice_get ns t) r.owners ∙ ap (slice_get (owners_in d ++ r.number ∷ [])) at
              ∙ newest_number (owners_in d) r.number) in
              let desc : z.desc ≡ r.desc =
              same_Some z.desc r.desc (sym (mapped desc_at (queued o.driver).endpoints y.endpoint z here)
              ∙ ap (λ (ds : List EpDesc). slice_get ds y.endpoint) r.descs ∙ ap (slice_get (descs_in d)) number ∙ r.here) in
              ap (λ (c : EpDesc). c.name) desc ∙ r.named ∙ one_name name r.name setup bytes r.setup r.bytes r.is
            where
              newest_number : (ns : List ℕ) (n : ℕ) → slice_get (ns ++ n ∷ []) (length ns) ≡ Some n
              newest_number [] n = refl
              newest_number (i ∷ ns) n = newest_number ns n

          by : Adds (queued w.driver) (commands.Control name setup bytes) (queued o.driver) → z.desc.name ≡ name
          by (asks r) = its r
          by (opens r) = absurd (control_open name setup bytes r.desc r.is)
          by (others r) = absurd (request_none name setup bytes (r.no_request name))

      requested_then : AsksCommand (commands.Control name setup bytes) → IsByteCommand (commands.Control name setup bytes)
          → SetsUpFit a Q (commands.Control name setup bytes) → Then
      requested_then whole small fits b words t y z command newest there here sort address =
          let only = k.mixed.turns.turns.asynchronous in
          let sound = k.mixed.now.framed.place.sound in
          let has : HasOwners d = owners_of s w k.mixed in
          let lent : AreLent d = idle_lent w.driver idle k.mixed.now.framed.place.lent in
          let taken : TakesRequest d w.memory (told_of o) setup bytes = request_taken d w.memory name setup bytes (told_of o) only takes in
          let why : Transfers d w.memory (told_of o) = taken.transfers in
          let r : Request = record { setup = setup; bytes = bytes } in
          let l : LendsBy (told_of o) why.asked.stages b words = request_lends d w.memory (told_of o) (record {
            setup = setup;
            bytes = bytes;
            transfers = why;
            way = control_way why.endpoint.desc.name.way why.endpoint.desc.kind
                (only.endpoints why.number why.endpoint why.here).asynchronous.kind taken.control;
            asked = taken.asked;
          }) has lent sound.stands sound.shape b words command in
          let held : RequestIsHeld o.memory (queued o.driver).notes why.endpoint.dummy r =
          accepted_request_is_held d w.memory (told_of o) why r whole.whole.request (ap (λ (g : Asked). g.stages) taken.asked)
          (ap (λ (g : Asked). g.bytes) taken.asked)
          (subst (AllByRecursion (λ i. i < 256)) (sym (ap (λ (g : Asked). g.bytes) taken.asked))
          (all_joined (λ (i : ℕ). i < 256) setup bytes small.0 small.1)) has lent sound.stands sound.shape in
          let block : b ≡ why.endpoint.dummy =
          one_block b why.endpoint.dummy words _ (sym command ∙ ap (λ (g : Offered). g.driver.command) why.is) in
          record {
            held = λ none. record {
              request = r;
              whole = whole.whole.request;
              held = record {
                lends = l.lends;
                stages = l.stages ∙ ap (λ (g : Asked). g.stages) taken.asked;
                held = subst (λ (i : ℕ). RequestIsHeld o.memory (queued o.driver).notes i r) (sym block) held;
              };
              fits = fits (ap (λ (n : EpName). n.addr) (sym (named_so t y z newest there here)) ∙ address);
            };
            lent = λ some. absurd (let none = l.lends.made in omega (arith, some, none));
          }

    -- ---- any of them

    accepted : (cmd : Cmd) → AsksCommand cmd → IsByteCommand cmd → SetsUpFit a Q cmd → QueuesAccept w.driver w.memory o cmd → Then
    accepted (commands.OpenEp desc) whole small fits q =
        ⊎_elim
        (λ (i : IsQueueOpened w.driver w.memory desc o).
        none_then (λ b words command.
        publish_open b _ words (sym (ap (λ (g : DriverContent). g.command) i.alike) ∙ command)))
        (λ (i : IsEndOpened w.driver w.memory desc o). idle_then (ap (λ (g : DriverContent). g.command) i.alike)) q
    accepted (commands.Get name len by) whole small fits q = moved_then q.asked
    accepted (commands.Put name sent by) whole small fits q = moved_then q.asked
    accepted (commands.Control name setup bytes) whole small fits q = requested_then name setup bytes q.takes whole small fits
    accepted (commands.Iso name count len seed) whole small fits q = idle_then (ap (λ (g : DriverContent). g.command) q.alike)
    accepted (commands.Cancel name) whole small fits q =
        ⊎_elim
        (λ (i : IsQueueLeft w.driver w.memory name o).
        none_then (λ b words command.
        let unlinks : i.unlinks ≡ Some (unfinished.Publish b words) = sym (ap (λ (g : DriverContent). g.command) i.alike) ∙ command in
        ⊎_elim
        (λ (c : (is_periodic i.endpoint.desc.kind ≡ false) × (i.unlinks ≡ Some (unlink_of w.driver i.number))).
        publish_unlink b _ _ _ words (sym c.1 ∙ unlinks))
        (λ (c : (is_periodic i.endpoint.desc.kind ≡ true) × (i.unlinks ≡ None)).
        none_some (unfinished.Publish b words) (sym c.1 ∙ unlinks)) i.command))
        (λ (i : IsEndLeft w.driver w.memory o). idle_then (ap (λ (g : DriverContent). g.command) i.alike)) q
    accepted _ whole small fits q = absurd q

  -- ---- a command

  by_offer : (line : ℕ) (cmd : Cmd) → AsksCommand cmd → IsByteCommand cmd → SetsUpFit a Q cmd → (r : Result Offered OfferError)
      → offered w.driver w.memory cmd ≡ r → IsHeeding a Q s h (commanded_by w line (name_in cmd) r)
  by_offer line cmd whole small fits (Err why) is =
      record { sets_up = heeds.sets_up; publishes = refused_publishes line (name_in cmd) why; hubs = heeds.hubs }
  by_offer line cmd whole small fits (Ok o) is = record {
    sets_up = heeds.sets_up;
    publishes =
        accepted o (idle_by w.driver w.memory o (each_command_has_its_reason w.driver w.memory cmd o is)) cmd whole small fits
        (commands_are_of_queues w.driver w.memory cmd o k.mixed.now.framed.place.sound.owners.orderly k.mixed.turns is);
    hubs = heeds.hubs;
  }

  pub commanded_heeds : (line : ℕ) (cmd : Cmd) → AsksCommand cmd → IsByteCommand cmd → SetsUpFit a Q cmd
      → IsHeeding a Q s h (commanded w line cmd)
  commanded_heeds line cmd whole small fits = by_offer line cmd whole small fits (offered w.driver w.memory cmd) refl
