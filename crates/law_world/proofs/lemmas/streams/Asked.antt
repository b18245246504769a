-- A get, a put or a request is accepted: its first qTD is to be lent.
use Rattle.std.proofs.Common.{◌≡◌, ℕ, ◌*◌, ◌==◌, Bool, true, false, nat_eq, if◌then◌else◌, List, length, Option, Some, Ok, ap, sym, subst, ◌∙◌, inl, inr}
use Rattle.law_world.proofs.Common.{newest_there}
use Rattle.usb_base.specs.declared.endpoints.EpName.{EpName}
use Rattle.bus_wire.specs.Bus.{Fixed}
use Rattle.drv_table.specs.declared.content.Endpoint.{Endpoint}
use Rattle.drv_table.specs.declared.content.Transfer.{Transfer}
use Rattle.drv_table.specs.declared.content.QtdNote.{QtdNote}
use Rattle.drv_table.specs.declared.content.Command.{Command}
use Rattle.drv_table.specs.declared.content.Command.TheVariants as unfinished
use Rattle.drv_table.specs.DriverContent.{DriverContent}
use Rattle.drv_table.specs.Accepting.{Offered, new_runs}
use Rattle.drv_table.specs.Offers.{first_of, stage_words, new_transfer}
use Rattle.law_driver.specs.run_owners.Accepts.{Transfers}
use Rattle.law_driver.specs.chained_transfers.Accepted.{IsAsked}
use Rattle.law_driver.specs.chained_transfers.Asynchronous.{IsRequested}
use Rattle.law_queues.specs.fed_lends.ToLend.{IsToBeLent}
use Rattle.law_queues.proofs.lemmas.fed_lends.Accepting.{asked_is_to_be_lent, requested_is_to_be_lent}
use Rattle.law_queues.proofs.lemmas.fed_lends.Asked.{dummy_in, notes_in}
use Rattle.law_queues.specs.standing_fronts.Reaching.{Reaches}
use Rattle.law_queues.specs.harvest_laws.Told.{ToldStands}
use Rattle.law_queues.proofs.lemmas.harvest_laws.Commanding.{asked_is_told, requested_is_told}
use Rattle.law_queues.proofs.lemmas.open_names.Apart.{accepted_names_are_apart}
use Rattle.law_queues.proofs.lemmas.commanded_queues.Tails.{reaches_asked}
use Rattle.law_queues.proofs.lemmas.commanded_queues.Extending.{extents_asked}
use Rattle.bus_world.specs.World.{World, commanded_by}
use Rattle.law_world.specs.steps.Streaming.{Streams, Standing}
use Rattle.law_world.specs.streams.Feeding.{AreControlsApart, IsFeeding}
use Rattle.law_queues.specs.standing_fronts.Tails.{tail_block, tail_of}
use Rattle.law_world.specs.streams.Tails.{IsUnderWay}
use Rattle.law_world.specs.streams.Left.{IsLeft}
use Rattle.law_world.specs.streams.Whole.{IsWhole}
use Rattle.law_world.specs.streams.Taking.{HaveSides}
use Rattle.law_world.proofs.lemmas.streams.There.{there_now}
use Rattle.law_world.proofs.lemmas.streams.Tail.{idle_ends}

module _ (fixed : Fixed) (takes : ℕ → ℕ → Bool) (member : ℕ → Bool) (x : Streams) (s : Standing) (w : World) (o : Offered) (k : IsWhole fixed takes member x s w) (why : Transfers w.driver w.memory o) where
  abbrev d : DriverContent
  d = w.driver

  abbrev dummy : ℕ
  dummy = dummy_in (length why.asked.stages) (new_runs w.driver why.holding_after)

  abbrev notes : List QtdNote
  notes = notes_in w.driver why.asked why.endpoint (new_runs w.driver why.holding_after)

  -- the words of the first qTD
  abbrev words : List ℕ
  words = stage_words notes (first_of why.asked.stages) why.endpoint.dummy dummy (nat_eq (length why.asked.stages) 1)

  abbrev new : Transfer
  new = new_transfer why.number why.asked why.endpoint.dummy

  command_is : o.driver.command ≡ Some (unfinished.Publish why.endpoint.dummy words)
  command_is = ap (λ (p : Offered). p.driver.command) why.is

  tail_is : (e : ℕ) (z : Endpoint) → tail_of o.driver e z ≡ 32 * (if why.number == e then why.endpoint.dummy else z.dummy)
  tail_is e z =
      ap (λ (p : Offered). tail_of p.driver e z) why.is
      ∙ ap (λ (q : Option Transfer). 32 * tail_block (Some (unfinished.Publish why.endpoint.dummy words)) q e z.dummy) (newest_there d.transfers new)

  -- no endpoint is being opened
  sides : (way : Bool) (has : ℕ → ℕ → Bool) → HaveSides way o.driver has
  sides way has e z here opening =
      let a : ◌≡◌ {A = Option Command} (Some (unfinished.Publish why.endpoint.dummy words)) (Some (unfinished.Open z.queue)) = sym command_is ∙ opening in absurd (cc)

  -- its first qTD is ready
  abbrev IsReady : Type 0
  IsReady = (b : ℕ) (ws : List ℕ) → o.driver.command ≡ Some (unfinished.Publish b ws) → IsToBeLent o.driver o.memory b ws

  to_be_lent : IsReady → IsUnderWay o.driver o.memory member s.parts o.driver.command
  to_be_lent ready = subst (λ (c : Option Command). IsUnderWay o.driver o.memory member s.parts c) (sym command_is) (inl (ready why.endpoint.dummy words command_is))

  transfer_whole : (line : ℕ) (name : EpName) → IsReady → ToldStands o.driver s.hand s.parts s.reported → AreControlsApart o.driver takes → IsFeeding fixed member x s (commanded_by w line name (Ok o))
      → IsLeft fixed takes x.packets s.acc (commanded_by w line name (Ok o)) → IsWhole fixed takes member x s (commanded_by w line name (Ok o))
  transfer_whole line name ready told apart feeding left =
      let place = k.feeding.working.place in
      let sound = place.sound in
      record {
        feeding = feeding;
        under_way = to_be_lent ready;
        names = accepted_names_are_apart d w.memory o (inr why) k.names;
        senders = sides true x.stream;
        takers = sides false takes;
        controls_apart = apart;
        taking = record { ends = k.taking.ends; piped = k.taking.piped; untaken = k.taking.untaken };
        runs = extents_asked d w.memory o s.parts why sound.stands sound.owners feeding.working.driven k.runs;
        tails = λ e z here met.
            subst (λ (c : ℕ). Reaches o.driver (s.parts (32 * z.queue)) (s.order (32 * z.queue)) (s.out (32 * z.queue)) e z c) (sym (tail_is e z))
            (reaches_asked d w.memory o s.parts s.order s.out why sound.stands sound.owners place.lent k.feeding.turns.asynchronous (idle_ends d s.parts s.order s.out why.idle k.tails) e z here met);
        told = told;
        bytes = k.bytes;
        left = left;
      }

pub asked_whole : (fixed : Fixed) (takes : ℕ → ℕ → Bool) (member : ℕ → Bool) (x : Streams) (s : Standing) (w : World) (line : ℕ) (name : EpName) (o : Offered) → IsAsked w.driver w.memory o
    → AreControlsApart o.driver takes → IsFeeding fixed member x s (commanded_by w line name (Ok o)) → IsLeft fixed takes x.packets s.acc (commanded_by w line name (Ok o))
    → IsWhole fixed takes member x s w → IsWhole fixed takes member x s (commanded_by w line name (Ok o))
asked_whole fixed takes member x s w line name o asked apart feeding left k =
    let place = k.feeding.working.place in
    let sound = place.sound in
    let turns = k.feeding.turns in
    transfer_whole fixed takes member x s w o k asked.transfers line name (asked_is_to_be_lent w.driver w.memory o asked sound.owners place.lent sound.stands sound.shape)
    (asked_is_told w.driver w.memory o s.hand s.parts s.reported asked sound.stands sound.owners (there_now w.driver turns) turns.turns.places k.told) apart feeding left

pub requested_whole : (fixed : Fixed) (takes : ℕ → ℕ → Bool) (member : ℕ → Bool) (x : Streams) (s : Standing) (w : World) (line : ℕ) (name : EpName) (o : Offered) → IsRequested w.driver w.memory o
    → AreControlsApart o.driver takes → IsFeeding fixed member x s (commanded_by w line name (Ok o)) → IsLeft fixed takes x.packets s.acc (commanded_by w line name (Ok o))
    → IsWhole fixed takes member x s w → IsWhole fixed takes member x s (commanded_by w line name (Ok o))
requested_whole fixed takes member x s w line name o requested apart feeding left k =
    let place = k.feeding.working.place in
    let sound = place.sound in
    let turns = k.feeding.turns in
    transfer_whole fixed takes member x s w o k requested.transfers line name (requested_is_to_be_lent w.driver w.memory o requested sound.owners place.lent sound.stands sound.shape)
    (requested_is_told w.driver w.memory o s.hand s.parts s.reported requested sound.stands sound.owners (there_now w.driver turns) turns.turns.places k.told) apart feeding left
