-- A command, accepted or refused, tells the same of each queue: nothing was moved of a new one, and an isochronous endpoint has none.
use Rattle.std.proofs.Common.{◌≡◌, ◌≢◌, ℕ, ◌-◌, ◌*◌, true, false, List, [], ◌∷◌, length, take, drop, slice_get}
use Rattle.std.proofs.Common.{get_or, Some, None, Ok, option_map, ap, refl, sym, ◌∙◌, ⊎_elim, arith}
use Rattle.std.specs.Prelude.{◌||◌, slice_index}
use Rattle.law_world.proofs.Common.{same_queue, none_some}
use Rattle.law_common.proofs.Lists.{drop_first, push_which}
use Rattle.law_queues.proofs.Common.{set_which}
use Rattle.usb_base.specs.declared.commands.Cmd.{Cmd}
use Rattle.usb_base.specs.declared.endpoints.EpDesc.{EpDesc}
use Rattle.mem_runs.specs.Book.{holding}
use Rattle.drv_table.specs.declared.content.Command.TheVariants as unfinished
use Rattle.drv_table.specs.declared.content.Endpoint.{Endpoint}
use Rattle.drv_table.specs.DriverContent.{DriverContent}
use Rattle.drv_table.specs.Accepting.{Offered, new_runs}
use Rattle.drv_table.specs.Kinds.{is_iso}
use Rattle.drv_table.specs.Offers.{new_endpoint, with_queued}
use Rattle.claims_driver.specs.Owners.{runs_of_endpoint, QueueHead}
use Rattle.claims_report.specs.Streams.{has_stream}
use Rattle.law_driver.specs.run_owners.Accepts.{Transfers}
use Rattle.law_driver.proofs.lemmas.run_owners.Runs.{placed_run}
use Rattle.law_driver.proofs.lemmas.run_owners.Taking.{runs_taken}
use Rattle.law_driver.proofs.lemmas.run_owners.Accepted.{fresh_differs}
use Rattle.law_driver.specs.chained_transfers.Asynchronous.{IsRequested}
use Rattle.law_driver.specs.chained_transfers.Accepted.{IsAsked}
use Rattle.law_driver.specs.queued_drivers.Queued.{queued}
use Rattle.law_driver.specs.queued_drivers.Commands.{QueuesAlike, opened_queue, told_of, IsQueueOpened}
use Rattle.law_structures.specs.lent_structures.Structures.{StructureSets}
use Rattle.law_ring.specs.Hand.{Hand}
use Rattle.law_driver_ring.specs.fed_queues.Places.{IsThere}
use Rattle.law_queues.specs.harvest_laws.Told.{ToldStands}
use Rattle.law_queues.specs.leaving_drivers.Before.{IsAsBefore}
use Rattle.law_queues.proofs.lemmas.fed_lends.Fed.{bare_is}
use Rattle.law_queues.proofs.lemmas.harvest_laws.Commanding.{opened_is_told, asked_is_told, requested_is_told}
use Rattle.law_queues.proofs.lemmas.harvest_laws.Standing.{alike_is_told}
use Rattle.law_world.specs.streams.Feeding.{there_of}
use Rattle.law_world.proofs.lemmas.streams.There.{there_now}
use Rattle.law_world.proofs.lemmas.streams.Told.{HasBulkThere, there_by, bulk_there}
use Rattle.law_world.proofs.lemmas.streams.lemmas.left_reports.Before.{leaves_are_told}
use Rattle.law_world.specs.memory.Mixed.{Standing}
use Rattle.law_world.proofs.lemmas.memory.CommandShared.{IsAccepted, place, idle_queues, owners}
use Rattle.bus_world.specs.World.{World, name_in, commanded_by}
use Rattle.law_reports.specs.lines.Lined.{in_hand, Lines, IsTelling}
use Rattle.law_reports.proofs.lemmas.lines.Heads.{before_there}

-- ---- who is there after it was so before

pub record Was (d : DriverContent) (e : ℕ) (z : Endpoint) : Type 0 where
  pub endpoint : Endpoint
  pub here : slice_get d.endpoints e ≡ Some endpoint
  pub desc : z.desc ≡ endpoint.desc
  pub queue : z.queue ≡ endpoint.queue
  pub gone : z.gone ≡ endpoint.gone

pub itself : (d : DriverContent) (e : ℕ) (z : Endpoint) → slice_get d.endpoints e ≡ Some z → Was d e z
itself d e z here = record { endpoint = z; here = here; desc = refl; queue = refl; gone = refl }

-- nothing is unfinished
pub there_idle : (d f : DriverContent) → d.command ≡ None
    → ((e : ℕ) (z : Endpoint) → slice_get f.endpoints e ≡ Some z → IsThere f z → Was d e z) → (n : ℕ) → there_of f n ≡ true
    → there_of d n ≡ true
there_idle d f idle was n on =
    let b : HasBulkThere f n = bulk_there f n on in
    let v : Was d b.has.number b.has.endpoint = was b.has.number b.has.endpoint b.has.here b.has.there in
    there_by d n
    (record {
      has = record {
        number = b.has.number;
        endpoint = v.endpoint;
        here = v.here;
        there = record {
          linked = λ is. none_some (unfinished.Open v.endpoint.queue) (sym idle ∙ is);
          kept = sym v.gone
              ∙ b.has.there.kept;
        };
        at = b.has.at ∙ ap (λ (q : ℕ). 32 * q) v.queue;
      };
      stream = ap (λ (c : EpDesc). has_stream c.kind) (sym v.desc) ∙ b.stream;
    })

-- ---- what frames have doesn't matter

periodic_told : (c g : DriverContent) (hand : Hand) (parts : StructureSets) (reported : ℕ → List ℕ) → QueuesAlike c g
    → ToldStands g hand parts reported → ToldStands c hand parts reported
periodic_told c g hand parts reported k told =
    alike_is_told g c hand parts reported
    (record {
      reports = ap (λ (f : DriverContent). f.reports) k;
      store = ap (λ (f : DriverContent). f.store) k;
      endpoints = ap (λ (f : DriverContent). f.endpoints) k;
      transfers = ap (λ (f : DriverContent). f.transfers) k;
      notes = ap (λ (f : DriverContent). f.notes) k;
    })
    (λ x there. record { linked = λ is. there.linked (ap (λ (f : DriverContent). f.command) k ∙ is); kept = there.kept })
    (λ x is. sym (ap (λ (f : DriverContent). f.command) k) ∙ is) told

periodic_there : (c g : DriverContent) → QueuesAlike c g → (n : ℕ) → there_of c n ≡ true → there_of g n ≡ true
periodic_there c g k n on = sym (ap (λ (f : DriverContent). there_of f n) k) ∙ on

-- ---- an accepted command

module _ (s : Standing) (m : Lines) (w : World) (line : ℕ) (cmd : Cmd) (o : Offered) (a : IsAccepted s w line cmd o) (g : IsTelling s m w)
  where
    abbrev d : DriverContent
    d = queued w.driver

    telling_by : ToldStands (queued o.driver) (in_hand s) s.parts m.reported
        → ((n : ℕ) → there_of (queued o.driver) n ≡ true → there_of (queued w.driver) n ≡ true)
        → IsTelling s m (commanded_by w line (name_in cmd) (Ok o))
    telling_by told was = record { told = told; moved = λ n on. g.moved n (was n on); sound = λ n on. g.sound n (was n on) }

    -- the driver as its queues tell it, but for what frames have
    pub telling_of : (c : DriverContent) → QueuesAlike (queued o.driver) c → ToldStands c (in_hand s) s.parts m.reported
        → ((n : ℕ) → there_of c n ≡ true → there_of (queued w.driver) n ≡ true) → IsTelling s m (commanded_by w line (name_in cmd) (Ok o))
    telling_of c alike told was =
        telling_by (periodic_told (queued o.driver) c (in_hand s) s.parts m.reported alike told)
        (λ n on. was n (periodic_there (queued o.driver) c alike n on))

    -- an endpoint with a queue is opened
    module _ (x : EpDesc) (k : IsQueueOpened w.driver w.memory x o) where
      abbrev c : Offered
      c = opened_queue w.driver x k.holding_after

      abbrev new : Endpoint
      new = new_endpoint k.opens.desc (slice_index (new_runs (queued w.driver) k.opens.holding_after) 0)
          (slice_index (new_runs (queued w.driver) k.opens.holding_after) 1)

      command_is : (opened_queue w.driver x k.holding_after).driver.command
          ≡ Some (unfinished.Open (slice_index (new_runs (queued w.driver) k.opens.holding_after) 0))
      command_is = ap (λ (p : Offered). p.driver.command) k.opens.is

      apart : (e : ℕ) (z : Endpoint) → slice_get (queued w.driver).endpoints e ≡ Some z → z.gone ≡ false
          → (opened_queue w.driver x k.holding_after).driver.command ≢ Some (unfinished.Open z.queue)
      apart e z there kept is =
          let why = k.opens in
          let all = runs_taken (holding d.book w.memory) why.holding_after (2 ∷ 1 ∷ []) (place s w line cmd o a).sound.stands why.runs in
          let bs = all.blocks in
          let two : length bs ≡ 2 = all.are.long in
          let runs : new_runs d why.holding_after ≡ bs = ap (drop (length d.book.taken)) all.are.taken ∙ drop_first d.book.taken bs in
          let alive : is_iso z.desc.kind || z.gone ≡ false = bare_is d e z a.mixed.turns.turns.asynchronous there kept in
          fresh_differs 0 z.queue all.are (omega (arith, two))
          (placed_run z.queue (QueueHead e)
          ((owners s w line cmd o a).owned.each.queue e (runs_of_endpoint z) (ap (option_map runs_of_endpoint) there) alive))
          (ap (λ (rs : List ℕ). get_or rs 0 0) (sym runs) ∙ same_queue (slice_index (new_runs d why.holding_after) 0) z.queue
          (sym command_is ∙ is))

      opened_was : (e : ℕ) (z : Endpoint) → slice_get (opened_queue w.driver x k.holding_after).driver.endpoints e ≡ Some z
          → IsThere (opened_queue w.driver x k.holding_after).driver z → Was (queued w.driver) e z
      opened_was e z here there =
          ⊎_elim (λ (was : slice_get d.endpoints e ≡ Some z). itself d e z was)
          (λ (own : (e ≡ length d.endpoints) × (z ≡ new)).
          absurd (there.linked (command_is ∙ ap (λ (v : Endpoint). Some (unfinished.Open v.queue)) (sym own.1))))
          (push_which d.endpoints new e z (ap (λ (p : Offered). slice_get p.driver.endpoints e) (sym k.opens.is) ∙ here))

      pub open_telling : IsTelling s m (commanded_by w line (name_in cmd) (Ok o))
      open_telling =
          telling_of (opened_queue w.driver x k.holding_after).driver k.alike
          (opened_is_told d w.memory c (in_hand s) s.parts m.reported k.opens apart g.told)
          (there_idle d (opened_queue w.driver x k.holding_after).driver (idle_queues s w line cmd o a) opened_was)

    -- a get, a put or a request is taken on
    module _ (why : Transfers (queued w.driver) w.memory (told_of o)) where
      asked_was : (e : ℕ) (z : Endpoint) → slice_get (queued o.driver).endpoints e ≡ Some z → IsThere (queued o.driver) z
          → Was (queued w.driver) e z
      asked_was e z here there =
          let dummy : ℕ = slice_index (take (length why.asked.stages) (new_runs (queued w.driver) why.holding_after))
          (length why.asked.stages - 1) in
          let new : Endpoint = with_queued why.endpoint dummy (length d.transfers) in
          ⊎_elim (λ (own : (e ≡ why.number) × (z ≡ new)). record {
            endpoint = why.endpoint;
            here = ap (slice_get d.endpoints) own.0 ∙ why.here;
            desc = ap (λ (v : Endpoint). v.desc) own.1;
            queue = ap (λ (v : Endpoint). v.queue) own.1;
            gone = ap (λ (v : Endpoint). v.gone) own.1;
          })
          (λ (other : (e ≢ why.number) × (slice_get d.endpoints e ≡ Some z)). itself d e z other.1)
          (set_which d.endpoints why.number e why.endpoint new z why.here
          (ap (λ (p : Offered). slice_get p.driver.endpoints e) (sym why.is) ∙ here))

      asked_telling : ToldStands (queued o.driver) (in_hand s) s.parts m.reported → IsTelling s m (commanded_by w line (name_in cmd) (Ok o))
      asked_telling told = telling_by told (there_idle d (queued o.driver) (idle_queues s w line cmd o a) asked_was)

    pub get_telling : IsAsked (queued w.driver) w.memory (told_of o) → IsTelling s m (commanded_by w line (name_in cmd) (Ok o))
    get_telling asked =
        let turns = a.mixed.turns.turns in
        asked_telling asked.transfers
        (asked_is_told d w.memory (told_of o) (in_hand s) s.parts m.reported asked (place s w line cmd o a).sound.stands
        (owners s w line cmd o a)
        (there_now d turns) turns.turns.places g.told)

    pub request_telling : IsRequested (queued w.driver) w.memory (told_of o) → IsTelling s m (commanded_by w line (name_in cmd) (Ok o))
    request_telling requested =
        let turns = a.mixed.turns.turns in
        asked_telling requested.transfers
        (requested_is_told d w.memory (told_of o) (in_hand s) s.parts m.reported requested (place s w line cmd o a).sound.stands
        (owners s w line cmd o a) (there_now d turns) turns.turns.places g.told)

    -- an endpoint is cancelled
    pub left_telling : (f : DriverContent) → QueuesAlike (queued o.driver) f → IsAsBefore (queued w.driver) f
        → IsTelling s m (commanded_by w line (name_in cmd) (Ok o))
    left_telling f alike before =
        telling_of f alike (leaves_are_told d f (in_hand s) s.parts m.reported before g.told) (λ n on. before_there d f n before on)
