-- An endpoint is opened: its structures are to be lent.
use Rattle.std.proofs.Common.{◌≡◌, ◌≢◌, ℕ, ◌*◌, Bool, true, false, ◌||◌, List, [], ◌∷◌, length, drop, get_or, slice_get, Option, Some, Ok, option_map, ap, sym, subst, ◌∙◌, ⊎_elim, inl, arith}
use Rattle.law_common.proofs.Lists.{drop_first, push_which}
use Rattle.law_world.proofs.Common.{same_queue, open_tail}
use Rattle.usb_base.specs.declared.commands.Cmd.{Cmd}
use Rattle.usb_base.specs.declared.commands.Cmd.TheVariants as commands
use Rattle.qh_qtd.specs.QueueHead.{IsQhInRange}
use Rattle.bus_wire.specs.Bus.{Fixed}
use Rattle.mem_runs.specs.Book.{holding}
use Rattle.drv_table.specs.declared.content.Endpoint.{Endpoint}
use Rattle.drv_table.specs.declared.content.Command.{Command}
use Rattle.drv_table.specs.declared.content.Command.TheVariants as unfinished
use Rattle.drv_table.specs.DriverContent.{DriverContent}
use Rattle.drv_table.specs.Kinds.{is_iso}
use Rattle.drv_table.specs.Accepting.{Offered, new_runs, newest_of}
use Rattle.drv_table.specs.Offers.{new_endpoint, offered, IsOffered}
use Rattle.claims_driver.specs.Owners.{QueueHead, runs_of_endpoint}
use Rattle.law_driver.proofs.lemmas.run_owners.Runs.{placed_run}
use Rattle.law_driver.proofs.lemmas.run_owners.Taking.{runs_taken}
use Rattle.law_driver.proofs.lemmas.run_owners.Accepted.{fresh_differs}
use Rattle.law_driver_ring.specs.walk_members.Reached.{OpensNumbered}
use Rattle.law_driver_ring.specs.LendOpened.{opened_head}
use Rattle.law_driver.specs.AsynchronousScripts.{OpensAsynchronous}
use Rattle.law_driver.specs.chained_transfers.Asynchronous.{IsOpenedAsynchronous}
use Rattle.law_world.specs.streams.narrowed_streams.Narrowed.{IsOnSide}
use Rattle.law_queues.specs.standing_fronts.Reaching.{Reaches}
use Rattle.law_queues.proofs.lemmas.harvest_laws.Commanding.{opened_is_told}
use Rattle.law_driver.proofs.lemmas.chained_transfers.BulkAndControl.{not_iso}
use Rattle.law_queues.proofs.lemmas.open_names.Apart.{accepted_names_are_apart}
use Rattle.law_queues.specs.open_laws.Lends.{IsOpenReady}
use Rattle.law_queues.proofs.lemmas.open_laws.AcceptWaiting.{open_becomes_ready}
use Rattle.law_queues.proofs.lemmas.commanded_queues.Ranges.{new_head_range}
use Rattle.law_queues.proofs.lemmas.commanded_queues.Which.{opens_its_own}
use Rattle.law_queues.proofs.lemmas.commanded_queues.Tails.{reaches_open}
use Rattle.law_queues.proofs.lemmas.commanded_queues.Extending.{extents_open}
use Rattle.bus_world.specs.World.{World, name_in, commanded_by}
use Rattle.law_world.specs.steps.Streaming.{Streams, Standing}
use Rattle.law_world.specs.streams.Feeding.{AreControlsApart, IsFeeding}
use Rattle.law_world.specs.streams.Tails.{IsUnderWay}
use Rattle.law_world.specs.streams.Left.{IsLeft}
use Rattle.law_world.specs.streams.Whole.{IsWhole}
use Rattle.law_world.specs.streams.Laws.{OpensTo}
use Rattle.law_world.specs.streams.Taking.{HaveSides}
use Rattle.law_world.proofs.lemmas.streams.Tail.{idle_ends}

module _ (fixed : Fixed) (takes : ℕ → ℕ → Bool) (member : ℕ → Bool) (x : Streams) (s : Standing) (w : World) (line : ℕ) (cmd : Cmd) (o : Offered) (k : IsWhole fixed takes member x s w) (opened : IsOpenedAsynchronous w.driver w.memory o) where
  abbrev d : DriverContent
  d = w.driver

  abbrev new : Endpoint
  new = new_endpoint opened.opens.desc (get_or (new_runs d opened.opens.holding_after) 0 0) (get_or (new_runs d opened.opens.holding_after) 1 0)

  command_is : o.driver.command ≡ Some (unfinished.Open new.queue)
  command_is = ap (λ (p : Offered). p.driver.command) opened.opens.is

  -- the new queue head has blocks of its own
  apart : (e : ℕ) (z : Endpoint) → slice_get d.endpoints e ≡ Some z → z.gone ≡ false → o.driver.command ≢ Some (unfinished.Open z.queue)
  apart e z there kept is =
      let why = opened.opens in
      let sound = k.feeding.working.place.sound in
      let standing = k.feeding.turns.asynchronous.endpoints e z there in
      let all = runs_taken (holding d.book w.memory) why.holding_after (2 ∷ 1 ∷ []) sound.stands why.runs in
      let bs = all.blocks in
      let two : length bs ≡ 2 = all.are.long in
      let runs : new_runs d why.holding_after ≡ bs = ap (drop (length d.book.taken)) all.are.taken ∙ drop_first d.book.taken bs in
      let alive : is_iso z.desc.kind || z.gone ≡ false = ap (λ (b : Bool). b || z.gone) (not_iso z.desc standing.asynchronous) ∙ kept in
      fresh_differs 0 z.queue all.are (omega (arith, two))
      (placed_run z.queue (QueueHead e) (sound.owners.owned.each.queue e (runs_of_endpoint z) (ap (option_map runs_of_endpoint) there) alive))
      (ap (λ (rs : List ℕ). get_or rs 0 0) (sym runs) ∙ same_queue new.queue z.queue (sym command_is ∙ is))

  -- it has what its way needs: a stream where it is an IN endpoint, and a taker where it is an OUT endpoint
  sides : (way : Bool) (has : ℕ → ℕ → Bool) → (IsOnSide way opened.opens.desc.name.way → has opened.opens.desc.name.addr opened.opens.desc.name.num ≡ true) → HaveSides way o.driver has
  sides way has to e z here opening kept goes =
      ⊎_elim (λ (was : slice_get d.endpoints e ≡ Some z). absurd (apart e z was kept opening))
      (λ (is : (e ≡ length d.endpoints) × (z ≡ new)).
      ap (λ (y : Endpoint). has y.desc.name.addr y.desc.name.num) is.1 ∙ to (subst (λ (y : Endpoint). IsOnSide way y.desc.name.way) is.1 goes))
      (push_which d.endpoints new e z (ap (λ (p : Offered). slice_get p.driver.endpoints e) (sym opened.opens.is) ∙ here))

  ready : IsQhInRange (opened_head d opened.opens.desc opened.opens.holding_after) → IsUnderWay o.driver o.memory member s.parts o.driver.command
  ready range =
      let place = k.feeding.working.place in
      let is : IsOpenReady o.driver o.memory = open_becomes_ready w.memory d o opened.opens place.sound.owners place.lent place.sound.stands place.sound.shape range in
      subst (λ (c : Option Command). IsUnderWay o.driver o.memory member s.parts c) (sym command_is) (inl is)

pub opened_whole : (fixed : Fixed) (takes : ℕ → ℕ → Bool) (member : ℕ → Bool) (x : Streams) (s : Standing) (w : World) (line : ℕ) (cmd : Cmd) (o : Offered) → OpensAsynchronous cmd → OpensTo x.stream takes cmd → OpensNumbered cmd → IsOffered w.driver.room cmd
    → offered w.driver w.memory cmd ≡ Ok o → IsOpenedAsynchronous w.driver w.memory o → AreControlsApart o.driver takes
    → IsFeeding fixed member x s (commanded_by w line (name_in cmd) (Ok o))
    → IsLeft fixed takes x.packets s.acc (commanded_by w line (name_in cmd) (Ok o)) → IsWhole fixed takes member x s w → IsWhole fixed takes member x s (commanded_by w line (name_in cmd) (Ok o))
opened_whole fixed takes member x s w line cmd o only to fits room offer opened alone feeding left k =
    let d = w.driver in
    let sound = k.feeding.working.place.sound in
    let desc = opened.opens.desc in
    let is : cmd ≡ commands.OpenEp desc = opens_its_own d w.memory cmd o only offer opened.opens in
    let small : IsOffered d.room (commands.OpenEp desc) = subst (λ (c : Cmd). IsOffered d.room c) is room in
    let numbered : OpensNumbered (commands.OpenEp desc) = subst (λ (c : Cmd). OpensNumbered c) is fits in
    let stream : OpensTo x.stream takes (commands.OpenEp desc) = subst (λ (c : Cmd). OpensTo x.stream takes c) is to in
    let range : IsQhInRange (opened_head d desc opened.opens.holding_after) =
    new_head_range desc (newest_of d.endpoints) (get_or (new_runs d opened.opens.holding_after) 1 0) opened.asynchronous numbered small.1 in
    record {
      feeding = feeding;
      under_way = ready fixed takes member x s w line cmd o k opened range;
      names = accepted_names_are_apart d w.memory o (inl opened.opens) k.names;
      senders = sides fixed takes member x s w line cmd o k opened true x.stream stream.0;
      takers = sides fixed takes member x s w line cmd o k opened false takes stream.1;
      controls_apart = alone;
      taking = record { ends = k.taking.ends; piped = k.taking.piped; untaken = k.taking.untaken };
      runs = extents_open d w.memory o s.parts opened.opens sound.stands sound.owners feeding.working.driven k.runs;
      tails = λ e z here met.
          subst (λ (c : ℕ). Reaches o.driver (s.parts (32 * z.queue)) (s.order (32 * z.queue)) (s.out (32 * z.queue)) e z c)
          (sym (open_tail o.driver e _ z (command_is fixed takes member x s w line cmd o k opened)))
          (reaches_open d w.memory o s.parts s.order s.out opened.opens (idle_ends d s.parts s.order s.out opened.opens.idle k.tails) e z here met);
      told = opened_is_told d w.memory o s.hand s.parts s.reported opened.opens (apart fixed takes member x s w line cmd o k opened) k.told;
      bytes = k.bytes;
      left = left;
    }
