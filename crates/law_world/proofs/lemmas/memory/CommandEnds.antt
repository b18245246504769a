-- An isochronous endpoint is opened or cancelled, or its descriptors are taken on: no queue changes by that.
use Rattle.std.proofs.Common.{◌≡◌, ℕ, true, false, [], ◌∷◌, ◌++◌, map, length, slice_get, Option, Some, None, option_map, ap, refl, sym, subst, ◌∙◌, ⊎_elim}
use Rattle.std.proofs.lemmas.Bool.{false≢true}
use Rattle.law_common.proofs.Lists.{push_which, push_there, all_more, still_there}
use Rattle.law_driver.proofs.Common.{iso_frames}
use Rattle.law_world.proofs.Common.{none_some}
use Rattle.usb_base.specs.declared.commands.Cmd.{Cmd}
use Rattle.usb_base.specs.declared.commands.Cmd.TheVariants as commands
use Rattle.usb_base.specs.declared.endpoints.EpDesc.{EpDesc}
use Rattle.word_mem.specs.Memory.{Mem}
use Rattle.mem_runs.specs.Book.{slot_of}
use Rattle.drv_periodic_table.specs.Periodic.{is_periodic}
use Rattle.drv_table.specs.declared.content.Endpoint.{Endpoint}
use Rattle.drv_table.specs.declared.content.Transfer.{Transfer}
use Rattle.drv_table.specs.declared.content.Command.{Command}
use Rattle.drv_table.specs.declared.content.Command.TheVariants as unfinished
use Rattle.drv_table.specs.DriverContent.{DriverContent}
use Rattle.drv_table.specs.Accepting.{Offered, first_waiting}
use Rattle.drv_table.specs.Offers.{placed_endpoint}
use Rattle.law_driver.specs.run_owners.Accepts.{Accepts, opens, chains, places, transfers, describes, cancels, unchains, Places, Describes}
use Rattle.claims_driver.specs.Owners.{Dummy, runs_of_endpoint, note_in}
use Rattle.law_driver.proofs.lemmas.run_owners.Commands.{each_command_has_its_reason}
use Rattle.law_driver.proofs.lemmas.run_owners.Runs.{placed_run}
use Rattle.law_driver_ring.specs.Inventory.{IsLent}
use Rattle.claims_base.specs.Controller.{opening_base}
use Rattle.law_driver_ring.specs.fed_queues.Places.{AreMet}
use Rattle.law_queues.proofs.lemmas.fed_lends.Fed.{bare_is}
use Rattle.law_queues.proofs.lemmas.fed_lends.Asked.{not_taken}
use Rattle.law_driver.specs.queued_drivers.Queued.{queued_endpoint, without_queue, queued}
use Rattle.law_driver.specs.queued_drivers.Commands.{IsEndOpened, IsGivenBackOf, AreEndsTaken, IsEndLeft}
use Rattle.law_driver.proofs.lemmas.queued_drivers.CommandLeaves.{unchained}
use Rattle.law_driver.proofs.lemmas.queued_drivers.CommandReasons.{IsDescribedAs}
use Rattle.bus_world.specs.World.{World, controller_parts}
use Rattle.law_world.specs.memory.Mixed.{QueuesGoOn, IsUnderWay, Standing}
use Rattle.law_world.proofs.lemmas.memory.RingBasis.{near_ring}
use Rattle.law_world.proofs.lemmas.memory.CommandBeside.{by_alike}
use Rattle.law_world.proofs.lemmas.memory.CommandMet.{pushed_met, set_met}
use Rattle.law_world.proofs.lemmas.memory.CommandShared.{IsAccepted, LeavesMixed, in_place, idle_queues, owners, lent}
use Rattle.law_world.proofs.lemmas.memory.CommandWider.{IsWider, wider_goes_on, AreReleased, held_before, same_out}
use Rattle.law_world.proofs.lemmas.memory.CommandMemory.{placed_now, described_now}

-- ---- the queues

module _ (s : Standing) (w : World) (line : ℕ) (cmd : Cmd) (o : Offered) (a : IsAccepted s w line cmd o) where
  abbrev d : DriverContent
  d = queued w.driver

  ends_lent : (i : ℕ) (z : Endpoint) → slice_get (queued w.driver).endpoints i ≡ Some z → z.gone ≡ false → IsLent (slot_of w.driver.book.slots z.dummy)
  ends_lent i z there kept =
      let has = owners s w line cmd o a in
      not_taken d z.dummy (lent s w line cmd o a) (idle_queues s w line cmd o a)
      (placed_run z.dummy (Dummy i) (has.owned.each.dummy i (runs_of_endpoint z) (ap (option_map runs_of_endpoint) there) (bare_is d i z a.mixed.turns.turns.asynchronous there kept)))

  module _ (x : EpDesc) (k : IsEndOpened w.driver w.memory x o) where
    abbrev gone : Endpoint
    gone = without_queue (placed_endpoint x k.placement 0 0)

    one_more : IsWider d d.book (map queued_endpoint w.driver.endpoints ++ without_queue (placed_endpoint x k.placement 0 0) ∷ []) d.transfers d.made o.driver.room
    one_more = record {
      idle = idle_queues s w line cmd o a;
      ends = λ i z here kept.
          ⊎_elim (λ (was : slice_get (map queued_endpoint w.driver.endpoints) i ≡ Some z). was)
          (λ (new : (i ≡ length (map queued_endpoint w.driver.endpoints)) × (z ≡ gone)). absurd (false≢true (sym kept ∙ ap (λ (y : Endpoint). y.gone) new.1)))
          (push_which (map queued_endpoint w.driver.endpoints) gone i z here);
      ends_now = λ i z here. push_there (map queued_endpoint w.driver.endpoints) gone i z here;
      moves = λ t y there held. there;
      moves_now = λ t y there. there;
      lent = ends_lent;
      within = (owners s w line cmd o a).orderly.within;
      outs = λ e. refl;
    }

    pub end_opened_queues : QueuesGoOn (queued o.driver) s.near s.streams s.ends s.parts s.order s.out
    end_opened_queues =
        by_alike (queued o.driver) _ s.near s.streams s.ends s.parts s.order s.out k.alike
        (wider_goes_on d d.book (map queued_endpoint w.driver.endpoints ++ gone ∷ []) d.transfers d.made o.driver.room one_more s.near s.streams s.ends s.parts s.order s.out a.mixed.queues)

  pub end_left_queues : IsEndLeft w.driver w.memory o → QueuesGoOn (queued o.driver) s.near s.streams s.ends s.parts s.order s.out
  end_left_queues k =
      let none : IsWider d d.book d.endpoints d.transfers 0 o.driver.room = record {
        idle = idle_queues s w line cmd o a;
        ends = λ i z here kept. here;
        ends_now = λ i z here. here;
        moves = λ t y there held. there;
        moves_now = λ t y there. there;
        lent = ends_lent;
        within = (owners s w line cmd o a).orderly.within;
        outs = λ e. refl;
      } in
      by_alike (queued o.driver) _ s.near s.streams s.ends s.parts s.order s.out k.alike
      (wider_goes_on d d.book d.endpoints d.transfers 0 o.driver.room none s.near s.streams s.ends s.parts s.order s.out a.mixed.queues)

  pub ends_taken_queues : AreEndsTaken w.driver w.memory o → QueuesGoOn (queued o.driver) s.near s.streams s.ends s.parts s.order s.out
  ends_taken_queues k =
      let all : AreReleased k.given = all_more (IsGivenBackOf w.driver k.number) (λ (y : Transfer). y.released ≡ true) k.given (λ y g. g.released) k.each in
      let more : IsWider d o.driver.book d.endpoints (d.transfers ++ k.given) 0 o.driver.room = record {
        idle = idle_queues s w line cmd o a;
        ends = λ i z here kept. here;
        ends_now = λ i z here. here;
        moves = λ t y there held. held_before d.transfers k.given all t y there held;
        moves_now = λ t y there. still_there d.transfers k.given t y there;
        lent = ends_lent;
        within = (owners s w line cmd o a).orderly.within;
        outs = λ e. same_out (note_in d.notes) e d.transfers k.given all;
      } in
      by_alike (queued o.driver) _ s.near s.streams s.ends s.parts s.order s.out k.alike
      (wider_goes_on d o.driver.book d.endpoints (d.transfers ++ k.given) 0 o.driver.room more s.near s.streams s.ends s.parts s.order s.out a.mixed.queues)

-- ---- an open

pub place_leaves : (s : Standing) (w : World) (line : ℕ) (x : EpDesc) (o : Offered) → IsAccepted s w line (commands.OpenEp x) o
    → QueuesGoOn (queued o.driver) s.near s.streams s.ends s.parts s.order s.out → Places w.driver w.memory o → LeavesMixed s w o
place_leaves s w line x o a queues why =
    let d = w.driver in
    let cmd = commands.OpenEp x in
    let n = in_place s w line cmd o a in
    let new : Endpoint = placed_endpoint why.desc why.placement 0 0 in
    let command : o.driver.command ≡ None = ap (λ (g : Offered). g.driver.command) why.is ∙ why.idle in
    record {
      now = placed_now opening_base s.member s.recent s.descs s.parts s.hand s.frame (controller_parts w) d cmd o a.mixed.now why a.room a.is;
      ring = pushed_met d o.driver new s.member why.idle (ap (λ (g : Offered). g.driver.endpoints) why.is) (ap (λ (g : Offered). g.driver.waiting) why.is)
          (ap (λ (g : Offered). g.driver.rung) why.is) (λ e z here met is. none_some (unfinished.Open z.queue) (sym command ∙ is))
          (λ e z here is met.
          false≢true (sym (near_ring o.driver e z n.sound.owners here met.near).0 ∙ (ap (λ (y : Endpoint). is_periodic y.desc.kind) is ∙ iso_frames why.desc.kind why.isochronous))) a.mixed.ring;
      queues = queues;
      under_way = subst (λ (c : Option Command). IsUnderWay o.driver o.memory s.member s.recent s.parts c) (sym command) tt;
    }

-- ---- descriptors

module _ (d : DriverContent) (m : Mem) (o : Offered) (e t count : ℕ) (is : o.driver.command ≡ Some (unfinished.Iso e t count)) where
  none_such : (c : Option Command) → o.driver.command ≡ c → (c ≡ Some (unfinished.Iso e t count) → ⊥) → Describes d m o
  none_such c command other = absurd (other (sym command ∙ is))

  descriptors_of : Accepts d m o → Describes d m o
  descriptors_of (describes w) = w
  descriptors_of (opens w) = none_such _ (ap (λ (g : Offered). g.driver.command) w.is) (λ same. cc)
  descriptors_of (chains w) = none_such _ (ap (λ (g : Offered). g.driver.command) w.is) (λ same. cc)
  descriptors_of (places w) = none_such None (ap (λ (g : Offered). g.driver.command) w.is ∙ w.idle) (λ same. cc)
  descriptors_of (transfers w) = none_such _ (ap (λ (g : Offered). g.driver.command) w.is) (λ same. cc)
  descriptors_of (cancels w) = none_such _ (ap (λ (g : Offered). g.driver.command) w.is) (λ same. cc)
  descriptors_of (unchains w) =
      let u = unchained d m o w in
      let command : o.driver.command ≡ u.command = ap (λ (g : DriverContent). g.command) u.is in
      ⊎_elim (λ (on : u.command ≡ Some (unfinished.Unchain w.number)). none_such _ (command ∙ on) (λ same. cc)) (λ (off : u.command ≡ None). none_such None (command ∙ off) (λ same. cc)) u.which

pub describe_leaves : (s : Standing) (w : World) (line : ℕ) (cmd : Cmd) (o : Offered) → IsAccepted s w line cmd o
    → QueuesGoOn (queued o.driver) s.near s.streams s.ends s.parts s.order s.out → IsDescribedAs w.driver w.memory o → LeavesMixed s w o
describe_leaves s w line cmd o a queues k =
    let d = w.driver in
    let command : o.driver.command ≡ Some (unfinished.Iso k.number (length d.transfers) k.count) = ap (λ (g : Offered). g.driver.command) k.is in
    let why : Describes d w.memory o = descriptors_of d w.memory o k.number (length d.transfers) k.count command (each_command_has_its_reason d w.memory cmd o a.is) in
    record {
      now = described_now opening_base s.member s.recent s.descs s.parts s.hand s.frame (controller_parts w) d cmd o a.mixed.now why a.room a.is;
      ring = subst (λ (g : Offered). AreMet g.driver s.member) (sym k.is)
          (set_met d _ k.number k.endpoint (record k.endpoint { next = first_waiting k.endpoint.next (length d.transfers) }) s.member k.idle (λ q is. cc) k.here refl
          (record { desc = refl; queue = refl; linked = refl; gone = refl }) refl refl a.mixed.ring);
      queues = queues;
      under_way = subst (λ (c : Option Command). IsUnderWay o.driver o.memory s.member s.recent s.parts c) (sym command) tt;
    }
