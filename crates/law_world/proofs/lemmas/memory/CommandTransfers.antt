-- A get, a put or a request is accepted: its first qTD is to be lent.
use Rattle.std.proofs.Common.{◌≡◌, ℕ, ◌*◌, ◌==◌, nat_eq, if◌then◌else◌, List, length, Option, Some, None, Ok, ap, refl, sym, subst, ◌∙◌, ⊎_elim, inl}
use Rattle.law_world.proofs.Common.{none_some, newest_there}
use Rattle.usb_base.specs.declared.commands.Cmd.{Cmd}
use Rattle.word_mem.specs.Memory.{Mem}
use Rattle.drv_table.specs.declared.content.Endpoint.{Endpoint}
use Rattle.drv_table.specs.declared.content.Transfer.{Transfer}
use Rattle.drv_table.specs.declared.content.QtdNote.{QtdNote}
use Rattle.drv_table.specs.declared.content.Command.{Command}
use Rattle.drv_table.specs.declared.content.Command.TheVariants as unfinished
use Rattle.drv_table.specs.DriverContent.{DriverContent}
use Rattle.drv_table.specs.Accepting.{Offered, new_runs}
use Rattle.drv_table.specs.Offers.{first_of, stage_words, new_transfer, with_queued, offered}
use Rattle.law_driver.specs.run_owners.Accepts.{Accepts, opens, chains, places, transfers, describes, cancels, unchains, Transfers}
use Rattle.law_driver.proofs.lemmas.run_owners.Commands.{each_command_has_its_reason}
use Rattle.claims_base.specs.Controller.{opening_base}
use Rattle.law_driver.specs.AsynchronousScripts.{OpensAsynchronous}
use Rattle.law_driver_ring.specs.fed_queues.Places.{AreMet}
use Rattle.law_queues.specs.fed_lends.Commands.{QueuesStand}
use Rattle.law_queues.specs.fed_lends.ToLend.{IsToBeLent}
use Rattle.law_queues.proofs.lemmas.fed_lends.Accepting.{asked_is_to_be_lent, requested_is_to_be_lent}
use Rattle.law_queues.proofs.lemmas.fed_lends.Asked.{dummy_in, notes_in}
use Rattle.law_queues.proofs.lemmas.fed_lends.Publishing.{asked_stands, requested_stands}
use Rattle.law_queues.specs.standing_fronts.Reaching.{Reaches}
use Rattle.law_queues.specs.standing_fronts.Tails.{tail_block, tail_of, TailsStand}
use Rattle.law_queues.proofs.lemmas.commanded_queues.Tails.{reaches_asked}
use Rattle.law_world.proofs.lemmas.steps.lemmas.control_queues.Alike.{ThereAlike, told_alike}
use Rattle.law_world.proofs.lemmas.steps.lemmas.control_queues.Beside.{commands_keep_controls}
use Rattle.law_world.proofs.lemmas.memory.lemmas.framed_memory.QueueAccepting.{transfer_keeps_now}
use Rattle.law_driver.specs.queued_drivers.Queued.{queued_command, queued}
use Rattle.law_driver.specs.queued_drivers.Commands.{told_of, IsQueueAsked, IsQueueRequested}
use Rattle.law_driver.proofs.lemmas.queued_drivers.CommandLeaves.{unchained}
use Rattle.bus_world.specs.World.{World, controller_parts}
use Rattle.law_world.specs.memory.Mixed.{QueuesGoOn, IsUnderWay, Standing}
use Rattle.law_world.proofs.lemmas.memory.CommandBeside.{sound_by}
use Rattle.law_world.proofs.lemmas.memory.CommandMet.{set_met}
use Rattle.law_world.proofs.lemmas.memory.CommandTails.{idle_ends}
use Rattle.law_world.proofs.lemmas.memory.CommandShared.{IsAccepted, LeavesMixed, place, in_place, idle, idle_queues, owners, lent}

-- ---- what it was accepted for

module _ (d : DriverContent) (m : Mem) (o : Offered) (b : ℕ) (words : List ℕ) (is : queued_command o.driver.endpoints o.driver.command ≡ Some (unfinished.Publish b words)) where
  none_such : (c : Option Command) → o.driver.command ≡ c → (queued_command o.driver.endpoints c ≡ Some (unfinished.Publish b words) → ⊥) → Transfers d m o
  none_such c command other = absurd (other (sym (ap (queued_command o.driver.endpoints) command) ∙ is))

  pub transfer_of : Accepts d m o → Transfers d m o
  transfer_of (transfers w) = w
  transfer_of (opens w) = none_such _ (ap (λ (g : Offered). g.driver.command) w.is) (λ same. cc)
  transfer_of (chains w) = none_such _ (ap (λ (g : Offered). g.driver.command) w.is) (λ same. cc)
  transfer_of (places w) = none_such None (ap (λ (g : Offered). g.driver.command) w.is ∙ w.idle) (λ same. cc)
  transfer_of (describes w) = none_such _ (ap (λ (g : Offered). g.driver.command) w.is) (λ same. cc)
  transfer_of (cancels w) = none_such _ (ap (λ (g : Offered). g.driver.command) w.is) (λ same. cc)
  transfer_of (unchains w) =
      let u = unchained d m o w in
      let command : o.driver.command ≡ u.command = ap (λ (g : DriverContent). g.command) u.is in
      ⊎_elim (λ (on : u.command ≡ Some (unfinished.Unchain w.number)). none_such _ (command ∙ on) (λ same. cc)) (λ (off : u.command ≡ None). none_such None (command ∙ off) (λ same. cc)) u.which

-- ---- the queues

asked_there : (d : DriverContent) (m : Mem) (o : Offered) → Transfers d m o → ThereAlike d o.driver
asked_there d m o w =
    subst (λ (q : Offered). ThereAlike d q.driver) (sym w.is) (told_alike d _ w.number w.endpoint (with_queued w.endpoint _ (length d.transfers)) w.here refl refl refl refl (λ q is. absurd (none_some (unfinished.Open q) (sym w.idle ∙ is))) refl refl)

module _ (s : Standing) (w : World) (line : ℕ) (cmd : Cmd) (o : Offered) (a : IsAccepted s w line cmd o) (why : Transfers (queued w.driver) w.memory (told_of o)) where
  abbrev d : DriverContent
  d = queued w.driver

  abbrev dummy : ℕ
  dummy = dummy_in (length why.asked.stages) (new_runs (queued w.driver) why.holding_after)

  abbrev notes : List QtdNote
  notes = notes_in (queued w.driver) why.asked why.endpoint (new_runs (queued w.driver) why.holding_after)

  -- the words of the first qTD
  abbrev words : List ℕ
  words = stage_words notes (first_of why.asked.stages) why.endpoint.dummy dummy (nat_eq (length why.asked.stages) 1)

  abbrev new : Transfer
  new = new_transfer why.number why.asked why.endpoint.dummy

  command_is : (queued o.driver).command ≡ Some (unfinished.Publish why.endpoint.dummy words)
  command_is = ap (λ (p : Offered). p.driver.command) why.is

  tail_is : (e : ℕ) (z : Endpoint) → tail_of (queued o.driver) e z ≡ 32 * (if why.number == e then why.endpoint.dummy else z.dummy)
  tail_is e z =
      ap (λ (p : Offered). tail_of p.driver e z) why.is
      ∙ ap (λ (q : Option Transfer). 32 * tail_block (Some (unfinished.Publish why.endpoint.dummy words)) q e z.dummy) (newest_there d.transfers new)

  tails : TailsStand (queued o.driver) s.parts s.order s.out
  tails e z here met =
      let p = place s w line cmd o a in
      subst (λ (c : ℕ). Reaches (queued o.driver) (s.parts (32 * z.queue)) (s.order (32 * z.queue)) (s.out (32 * z.queue)) e z c) (sym (tail_is e z))
      (reaches_asked d w.memory (told_of o) s.parts s.order s.out why p.sound.stands (owners s w line cmd o a) (lent s w line cmd o a) a.mixed.turns.turns.asynchronous
      (idle_ends d s.parts s.order s.out (idle_queues s w line cmd o a) a.mixed.queues.tails) e z here met)

  asked_queues : QueuesStand (queued o.driver) s.near s.streams s.ends s.parts s.order s.out → OpensAsynchronous cmd → offered d w.memory cmd ≡ Ok (told_of o)
      → QueuesGoOn (queued o.driver) s.near s.streams s.ends s.parts s.order s.out
  asked_queues stand only takes = record {
    queues = stand;
    sound = sound_by d (queued o.driver) s.parts (asked_there d w.memory (told_of o) why) a.mixed.queues.sound;
    tails = tails;
    controls = commands_keep_controls d w.memory cmd (told_of o) s.parts s.order s.out a.mixed.turns.turns.asynchronous only takes a.mixed.queues.controls;
  }

  -- ---- the endpoint and the walk

  real : Transfers w.driver w.memory o
  real = transfer_of w.driver w.memory o why.endpoint.dummy words command_is (each_command_has_its_reason w.driver w.memory cmd o a.is)

  asked_ring : AreMet o.driver s.member
  asked_ring =
      let r = real in
      subst (λ (g : Offered). AreMet g.driver s.member) (sym r.is)
      (set_met w.driver _ r.number r.endpoint (with_queued r.endpoint _ (length w.driver.transfers)) s.member (idle s w line cmd o a) (λ q is. cc) r.here refl
      (record { desc = refl; queue = refl; linked = refl; gone = refl }) refl refl a.mixed.ring)

  -- ---- what is to be lent

  abbrev IsReady : Type 0
  IsReady = (b : ℕ) (ws : List ℕ) → (queued o.driver).command ≡ Some (unfinished.Publish b ws) → IsToBeLent (queued o.driver) o.memory b ws

  asked_under_way : IsReady → IsUnderWay o.driver o.memory s.member s.recent s.parts o.driver.command
  asked_under_way ready =
      let command : o.driver.command ≡ Some (unfinished.Publish real.endpoint.dummy _) = ap (λ (p : Offered). p.driver.command) real.is in
      subst (λ (c : Option Command). IsUnderWay o.driver o.memory s.member s.recent s.parts c) (sym command) (inl (ready real.endpoint.dummy _ (ap (queued_command o.driver.endpoints) command)))

  asked_leaves : QueuesStand (queued o.driver) s.near s.streams s.ends s.parts s.order s.out → OpensAsynchronous cmd → offered d w.memory cmd ≡ Ok (told_of o) → IsReady → LeavesMixed s w o
  asked_leaves stand only takes ready = record {
    now = transfer_keeps_now opening_base s.member s.recent s.descs s.parts s.hand s.frame (controller_parts w) w.driver cmd o a.mixed.now real a.room a.is;
    ring = asked_ring;
    queues = asked_queues stand only takes;
    under_way = asked_under_way ready;
  }

-- ---- the cases

pub get_or_put_leaves : (s : Standing) (w : World) (line : ℕ) (cmd : Cmd) (o : Offered) → OpensAsynchronous cmd → IsAccepted s w line cmd o → IsQueueAsked w.driver w.memory o cmd → LeavesMixed s w o
get_or_put_leaves s w line cmd o only a k =
    let d = queued w.driver in
    let p = place s w line cmd o a in
    let n = in_place s w line cmd o a in
    let has = owners s w line cmd o a in
    let kept = lent s w line cmd o a in
    asked_leaves s w line cmd o a k.asked.transfers
    (asked_stands d w.memory (told_of o) s.near s.streams s.ends s.parts s.order s.out k.asked p.sound.stands p.sound.shape n.sound.stands n.sound.shape has kept a.mixed.turns.turns a.mixed.queues.queues)
    only k.takes (asked_is_to_be_lent d w.memory (told_of o) k.asked has kept p.sound.stands p.sound.shape)

pub request_leaves : (s : Standing) (w : World) (line : ℕ) (cmd : Cmd) (o : Offered) → OpensAsynchronous cmd → IsAccepted s w line cmd o → IsQueueRequested w.driver w.memory o cmd → LeavesMixed s w o
request_leaves s w line cmd o only a k =
    let d = queued w.driver in
    let p = place s w line cmd o a in
    let n = in_place s w line cmd o a in
    let has = owners s w line cmd o a in
    let kept = lent s w line cmd o a in
    asked_leaves s w line cmd o a k.requested.transfers
    (requested_stands d w.memory (told_of o) s.near s.streams s.ends s.parts s.order s.out k.requested p.sound.stands p.sound.shape n.sound.stands n.sound.shape has kept a.mixed.turns.turns a.mixed.queues.queues)
    only k.takes (requested_is_to_be_lent d w.memory (told_of o) k.requested has kept p.sound.stands p.sound.shape)
