-- After each event of the driver what was taken of each OUT endpoint at high speed begins its puts, and what is still to be sent stands.
use Rattle.std.proofs.Common.{◌≡◌, ℕ, ◌*◌, ◌<◌, true, List, [], ◌∷◌, ◌++◌, length, slice_get, Some}
use Rattle.std.proofs.Common.{Result, Ok, Err, ap, refl, sym, subst, ◌∙◌, ⊎_elim, arith}
use Rattle.std.specs.Prelude.{slice_index}
use Rattle.std.proofs.lemmas.List.{append-nil, length-map}
use Rattle.std.proofs.lemmas.Option.{slice_get_within}
use Rattle.usb_base.specs.declared.commands.Cmd.{Cmd}
use Rattle.usb_base.specs.declared.commands.Cmd.TheVariants as commands
use Rattle.usb_base.specs.declared.endpoints.EpDesc.{EpDesc}
use Rattle.usb_base.specs.declared.reports.OfferError.{OfferError}
use Rattle.bus_wire.specs.Bus.{Fixed}
use Rattle.drv_table.specs.Accepting.{Offered, new_runs}
use Rattle.drv_table.specs.declared.content.Transfer.{Transfer}
use Rattle.drv_table.specs.DriverContent.{DriverContent}
use Rattle.drv_table.specs.Offers.{offered, new_endpoint, new_transfer, placed_endpoint}
use Rattle.law_driver.specs.queued_drivers.Commands.{IsQueueOpened, IsEndOpened, told_of, AreEndsTaken}
use Rattle.law_driver.specs.queued_drivers.Commands.{IsQueueLeft, IsEndLeft, QueuesAccept}
use Rattle.law_driver.specs.queued_drivers.Queued.{queued_endpoint, queued_transfer, queued_desc, without_queue, queued}
use Rattle.law_driver.specs.run_owners.Accepts.{Transfers}
use Rattle.law_driver.proofs.lemmas.queued_drivers.CommandTurns.{commands_are_of_queues}
use Rattle.law_ring.proofs.Returning.{those_found}
use Rattle.law_structures.specs.lent_structures.Structures.{Structure, StructureSets}
use Rattle.law_world.specs.memory.Mixed.{Standing, IsMixedAt}
use Rattle.law_world.specs.memory.Steps.{left_alike, left_by_frames, left_by_bell, left_by_status, left_by_command}
use Rattle.law_world.specs.memory.Steps.{QueueStep, stays, harvests, returns, lends, stores, mends, begins, opens, unlinks, narrows, goes}
use Rattle.law_world.specs.memory.pipe_steps.Laws.{IsNoOpening}
use Rattle.law_world.specs.streams.put_laws.HeldPuts.{HoldsPuts}
use Rattle.law_world.specs.streams.put_laws.Owed.{Owes}
use Rattle.law_world.specs.streams.put_laws.OwedTaken.{EndedAreStopped}
use Rattle.law_world.proofs.lemmas.streams.lemmas.put_laws.Driver.{IsNoMore, quiet_no_more}
use Rattle.law_world.proofs.lemmas.streams.lemmas.put_laws.Stays.{desc_at, owner_at, event_stays}
use Rattle.law_reports.specs.lines.Lined.{Lines}
use Rattle.law_reports.specs.lines.TellingLaws.{IsTellingNext}
use Rattle.law_reports.specs.pipes.Declared.{Sides}
use Rattle.law_reports.specs.pipes.Piped.{Heads, IsPiped}
use Rattle.law_reports.specs.pipes.puts.Paid.{AreOutsWhole, Pays}
use Rattle.law_reports.proofs.lemmas.pipes.Leaving.{step_opens}
use Rattle.law_reports.proofs.lemmas.pipes.lemmas.puts.Commanded.{left_more, end_left_more}
use Rattle.law_reports.proofs.lemmas.pipes.lemmas.puts.Driving.{begin_then, takers_then, outs_then, opened_then}
use Rattle.law_reports.proofs.lemmas.pipes.lemmas.puts.Given.{given_holds, given_owes, given_ended, returned_owes}
use Rattle.law_reports.proofs.lemmas.pipes.lemmas.puts.Given.{returned_holds, returned_ended}
use Rattle.law_reports.proofs.lemmas.pipes.lemmas.puts.Harvested.{harvested_holds, harvested_owes, harvested_ended}
use Rattle.law_reports.proofs.lemmas.pipes.lemmas.puts.Plain.{IsPlain, plain_holds, plain_owes, plain_ended, quiet_pays, IsQuiet}
use Rattle.bus_world.specs.World.{World, driver_parts, driver_next, name_in, commanded_by}

behind : {X : Type 0} (xs : List X) (y : X) (ys : List X) → slice_get (xs ++ y ∷ ys) (length xs) ≡ Some y
behind [] y ys = refl
behind (v ∷ vs) y ys = behind vs y ys

-- a list that is as long has none behind
pub as_long : {X : Type 0} (xs zs : List X) (y : X) (ys : List X) → zs ≡ xs ++ y ∷ ys → length zs ≡ length xs → ⊥
as_long xs zs y ys is long =
    let low : length xs < length zs = slice_get_within zs (length xs) y (ap (λ vs. slice_get vs (length xs)) is ∙ behind xs y ys) in
    omega (arith, low, long)

-- ---- an accepted command by which no endpoint and no transfer is new

module _ (w : World) (o : Offered) (s : Standing) (mixed : IsMixedAt s w)
    (ends : length (queued o.driver).endpoints ≡ length (queued w.driver).endpoints)
    (transfers : length (queued o.driver).transfers ≡ length (queued w.driver).transfers) where
  abbrev d : DriverContent
  d = queued w.driver

  asked_none : Transfers (queued w.driver) w.memory (told_of o) → ⊥
  asked_none i =
      as_long d.transfers (queued o.driver).transfers (new_transfer i.number i.asked i.endpoint.dummy) []
      (ap (λ (g : Offered). g.driver.transfers) i.is) transfers

  given_none : AreEndsTaken w.driver w.memory o → IsNoMore (queued w.driver) (queued o.driver)
  given_none q = by q.given (ap (λ (g : DriverContent). g.transfers) q.alike)
    where
      by : (given : List Transfer) → (queued o.driver).transfers ≡ (queued w.driver).transfers ++ given
          → IsNoMore (queued w.driver) (queued o.driver)
      by [] is =
          quiet_no_more d (queued o.driver) (ap (λ (g : DriverContent). g.endpoints) q.alike) (is ∙ append-nil d.transfers)
          (ap (λ (g : DriverContent). g.notes) q.alike) (ap (λ (g : DriverContent). g.command) q.alike)
      by (y ∷ ys) is = absurd (as_long d.transfers (queued o.driver).transfers y ys is transfers)

  accepted_none : (cmd : Cmd) → QueuesAccept w.driver w.memory o cmd → IsNoMore (queued w.driver) (queued o.driver)
  accepted_none (commands.OpenEp desc) q =
      ⊎_elim
      (λ (a : IsQueueOpened w.driver w.memory desc o).
      absurd (as_long d.endpoints (queued o.driver).endpoints
      (new_endpoint (queued_desc desc) (slice_index (new_runs w.driver a.holding_after) 0)
      (slice_index (new_runs w.driver a.holding_after) 1))
      [] (ap (λ (g : DriverContent). g.endpoints) a.alike) ends))
      (λ (a : IsEndOpened w.driver w.memory desc o).
      absurd (as_long d.endpoints (queued o.driver).endpoints (without_queue (placed_endpoint desc a.placement 0 0)) []
      (ap (λ (g : DriverContent). g.endpoints) a.alike) ends)) q
  accepted_none (commands.Get its len by) q = absurd (asked_none q.asked.transfers)
  accepted_none (commands.Put its sent by) q = absurd (asked_none q.asked.transfers)
  accepted_none (commands.Control its setup sent) q = absurd (asked_none q.requested.transfers)
  accepted_none (commands.Iso its count len seed) q = given_none q
  accepted_none (commands.Cancel its) q =
      ⊎_elim (λ (a : IsQueueLeft w.driver w.memory its o). left_more w o mixed.turns.turns its a)
      (λ (a : IsEndLeft w.driver w.memory o). end_left_more w o a) q
  accepted_none _ q = absurd q

module _ (w : World) where
  -- an event of the driver brings no endpoint and no transfer
  pub ends_long : length (queued (driver_next w).driver).endpoints ≡ length (queued w.driver).endpoints
  ends_long =
      length-map (driver_next w).driver.endpoints queued_endpoint ∙ sym (length-map (driver_next w).driver.endpoints desc_at)
      ∙ ap (λ (ds : List EpDesc). length ds) (event_stays (driver_parts w)).descs ∙ length-map w.driver.endpoints desc_at
      ∙ sym (length-map w.driver.endpoints queued_endpoint)

  pub transfers_long : length (queued (driver_next w).driver).transfers ≡ length (queued w.driver).transfers
  transfers_long =
      length-map (driver_next w).driver.transfers (queued_transfer (driver_next w).driver.endpoints)
      ∙ sym (length-map (driver_next w).driver.transfers owner_at)
      ∙ ap (λ (os : List ℕ). length os) (event_stays (driver_parts w)).owners ∙ length-map w.driver.transfers owner_at
      ∙ sym (length-map w.driver.transfers (queued_transfer w.driver.endpoints))

module _ (fixed : Fixed) (x : Sides) (s : Standing) (m : Lines) (h : Heads) (puts : ℕ → List ℕ) (w : World)
    (k : IsPiped fixed x s m h w) (pays : Pays fixed x s m puts w) where
  by_offer : (line : ℕ) (cmd : Cmd) (r : Result Offered OfferError) → offered w.driver w.memory cmd ≡ r
      → driver_next w ≡ commanded_by w line (name_in cmd) r → IsNoMore (queued w.driver) (queued (driver_next w).driver)
  by_offer line cmd (Err why) is next =
      subst (λ (v : World). IsNoMore (queued w.driver) (queued v.driver)) (sym next) (quiet_no_more (queued w.driver) _ refl refl refl refl)
  by_offer line cmd (Ok o) is next =
      subst (λ (v : World). IsNoMore (queued w.driver) (queued v.driver)) (sym next)
      (accepted_none w o s k.mixed
      (ap (λ (v : World). length (queued v.driver).endpoints) (sym next) ∙ ends_long w)
      (ap (λ (v : World). length (queued v.driver).transfers) (sym next) ∙ transfers_long w) cmd
      (commands_are_of_queues w.driver w.memory cmd o k.mixed.now.framed.place.sound.owners.orderly k.mixed.turns is))

  -- ---- each step

  all_of : (t : Standing) (l : Lines) → AreOutsWhole t (driver_next w).driver → EndedAreStopped (queued (driver_next w).driver) t.parts
      → HoldsPuts (queued (driver_next w).driver) (driver_next w).memory puts
      → Owes (queued (driver_next w).driver) (driver_next w).memory puts l.reported → Pays fixed x t l puts (driver_next w)
  all_of t l outs ended held owes = record {
    outs = outs;
    ended = ended;
    held = held;
    owes = owes;
    begin = begin_then fixed x s m h puts w k pays;
    takers = takers_then fixed x s m h puts w k pays;
  }

  plain : (t : Standing) (step : QueueStep s w (driver_next w) t) → IsNoOpening step → IsPlain step → IsMixedAt t (driver_next w)
      → (next : IsTellingNext s m w (driver_next w) t step) → Pays fixed x t next.lines puts (driver_next w)
  plain t step other is mixed next =
      all_of t next.lines (outs_then fixed x s m h puts w k pays t step other) (plain_ended fixed x s m h puts w k pays t step is)
      (plain_holds fixed x s m h puts w k pays t step is mixed)
      (plain_owes fixed x s m h puts w k pays t step is mixed next.lines next.after)

  pub driven_pays : (t : Standing) (step : QueueStep s w (driver_next w) t) → IsMixedAt t (driver_next w)
      → (next : IsTellingNext s m w (driver_next w) t step) → Pays fixed x t next.lines puts (driver_next w)
  driven_pays t (stays _ (left_by_command line cmd fits room is) still) mixed next =
      let more : IsNoMore (queued w.driver) (queued (driver_next w).driver) = by_offer line cmd (offered w.driver w.memory cmd) refl is in
      let q : IsQuiet fixed x s m h puts w k pays t next.lines =
      quiet_pays fixed x s m h puts w k pays t next.lines more still mixed next.after
      (step_opens s w k.mixed t (stays t (left_by_command line cmd fits room is) still) tt) in
      all_of t next.lines (outs_then fixed x s m h puts w k pays t (stays t (left_by_command line cmd fits room is) still) tt)
      q.ended q.held
      q.owes
  driven_pays t (stays _ (left_alike alike tells) still) mixed next = plain t (stays t (left_alike alike tells) still) tt tt mixed next
  driven_pays t (stays _ (left_by_frames alike of is) still) mixed next = plain t (stays t (left_by_frames alike of is) still)
      tt tt mixed next
  driven_pays t (stays _ (left_by_bell is) still) mixed next = plain t (stays t (left_by_bell is) still) tt tt mixed next
  driven_pays t (stays _ (left_by_status heard is) still) mixed next = plain t (stays t (left_by_status heard is) still) tt tt mixed next
  driven_pays t (harvests e u found due later is after) mixed next =
      all_of t next.lines (outs_then fixed x s m h puts w k pays t (harvests e u found due later is after) tt)
      (harvested_ended fixed x s m h puts w k pays e u found due is later mixed next.lines next.telling)
      (harvested_holds fixed x s m h puts w k pays e u found due is later mixed next.lines next.telling)
      (harvested_owes fixed x s m h puts w k pays e u found due is later mixed next.lines next.telling)
  driven_pays t (returns i y v is r) mixed next =
      let back : (n a : ℕ) (u : Structure) → t.parts n a ≡ Some u → s.parts n a ≡ Some u =
      (λ n a u here. those_found s.parts (32 * v.queue) _ n a u here) in
      all_of t next.lines (outs_then fixed x s m h puts w k pays t (returns i y v is r) tt)
      (returned_ended fixed x s m h puts w k pays i y v is r t mixed next.lines next.telling back next.after)
      (returned_holds fixed x s m h puts w k pays i y v is r t mixed next.lines next.telling back next.after)
      (returned_owes fixed x s m h puts w k pays i y v is r t mixed next.lines next.telling back next.after)
  driven_pays t (lends b words get order out is behind) mixed next = plain t (lends b words get order out is behind) tt tt mixed next
  driven_pays t (stores b words g is) mixed next = plain t (stores b words g is) tt tt mixed next
  driven_pays t (mends at is) mixed next = plain t (mends at is) tt tt mixed next
  driven_pays t (begins at is alike) mixed next = plain t (begins at is alike) tt tt mixed next
  driven_pays t (opens at _ alike opened) mixed next =
      all_of t next.lines (opened_then fixed x s m h puts w k pays at t opened)
      (plain_ended fixed x s m h puts w k pays t (opens at t alike opened) tt)
      (plain_holds fixed x s m h puts w k pays t (opens at t alike opened) tt mixed)
      (plain_owes fixed x s m h puts w k pays t (opens at t alike opened) tt mixed next.lines next.after)
  driven_pays t (unlinks at is) mixed next = plain t (unlinks at is) tt tt mixed next
  driven_pays t (narrows member near is are fewer) mixed next = plain t (narrows member near is are fewer) tt tt mixed next
  driven_pays t (goes e z g _ given is) mixed next =
      let back : (n a : ℕ) (u : Structure) → t.parts n a ≡ Some u → s.parts n a ≡ Some u =
      (λ n a u here. those_found s.parts (32 * z.queue) (λ b. true) n a u
      (ap (λ (ps : StructureSets). ps n a) (sym is.parts) ∙ here)) in
      all_of t next.lines (outs_then fixed x s m h puts w k pays t (goes e z g t given is) tt)
      (given_ended fixed x s m h puts w k pays e z g t given mixed next.lines next.telling back next.after)
      (given_holds fixed x s m h puts w k pays e z g t given mixed next.lines next.telling back next.after)
      (given_owes fixed x s m h puts w k pays e z g t given mixed next.lines next.telling back next.after)
