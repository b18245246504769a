-- An endpoint is cancelled: it is to leave the ring, or its frames. Nothing of its queue changes by that.
use Rattle.std.proofs.Common.{◌≡◌, ℕ, ◌*◌, true, false, Option, Some, None, ap, refl, sym, subst, ◌∙◌, ⊎_elim}
use Rattle.law_world.proofs.Common.{none_some}
use Rattle.usb_base.specs.declared.commands.Cmd.TheVariants as commands
use Rattle.usb_base.specs.declared.endpoints.EpName.{EpName}
use Rattle.drv_periodic_table.specs.Periodic.{is_periodic}
use Rattle.drv_table.specs.declared.content.Command.{Command}
use Rattle.drv_table.specs.declared.content.Command.TheVariants as unfinished
use Rattle.drv_table.specs.DriverContent.{DriverContent}
use Rattle.drv_table.specs.Accepting.{Offered}
use Rattle.law_driver.specs.run_owners.Accepts.{Cancels, Unchains}
use Rattle.claims_base.specs.Controller.{opening_base}
use Rattle.law_frames.specs.Met.{IsQueuePart}
use Rattle.law_driver_ring.specs.fed_queues.Places.{AreMet}
use Rattle.law_queues.specs.leaving_drivers.Before.{UnlinksAtMost, IsAsBefore, NearSame}
use Rattle.law_queues.proofs.lemmas.leaving_drivers.Alike.{near_fewer, met_before}
use Rattle.law_queues.proofs.lemmas.leaving_drivers.Leaving.{cancel_is_as_before}
use Rattle.law_world.specs.steps.left_queues.Standing.{AllStand}
use Rattle.law_world.proofs.lemmas.steps.lemmas.left_queues.Same.{as_before_stands}
use Rattle.law_queues.proofs.lemmas.mended_heads.Content.{any_one, OwesAlike, alike_same, owed_on}
use Rattle.law_queues.proofs.lemmas.mended_heads.Standing.{stand_on, keeps_same}
use Rattle.law_world.specs.steps.control_queues.Controls.{ControlsStand}
use Rattle.law_world.proofs.lemmas.steps.lemmas.control_queues.Alike.{same_there, stand_still}
use Rattle.law_world.proofs.lemmas.steps.lemmas.control_queues.Beside.{commands_keep_controls}
use Rattle.law_descriptors.specs.queue_events.Events.{PartsStand}
use Rattle.law_world.proofs.lemmas.memory.lemmas.framed_memory.QueueAccepting.{cancel_keeps_now, unchain_keeps_now}
use Rattle.law_driver.specs.queued_drivers.Queued.{queued}
use Rattle.law_driver.specs.queued_drivers.Commands.{unlink_of, left_queue, IsQueueLeft}
use Rattle.law_driver.proofs.lemmas.queued_drivers.CommandLeaves.{cancelled, Left, unchained}
use Rattle.bus_world.specs.World.{World, controller_parts}
use Rattle.law_world.specs.memory.Mixed.{QueuesGoOn, IsUnderWay, Standing}
use Rattle.law_world.proofs.lemmas.memory.CommandBeside.{by_alike}
use Rattle.law_world.proofs.lemmas.memory.CommandMet.{set_met}
use Rattle.law_world.proofs.lemmas.memory.CommandTails.{ends_idle, all_stand}
use Rattle.law_world.proofs.lemmas.memory.CommandShared.{IsAccepted, LeavesMixed, idle, idle_queues}

-- ---- the queues

module _ (s : Standing) (w : World) (line : ℕ) (name : EpName) (o : Offered) (a : IsAccepted s w line (commands.Cancel name) o) (k : IsQueueLeft w.driver w.memory name o) where
  abbrev d : DriverContent
  d = queued w.driver

  abbrev c : Offered
  c = left_queue w.driver k.number k.endpoint w.memory

  abbrev g : DriverContent
  g = record (left_queue w.driver k.number k.endpoint w.memory).driver { command = k.unlinks }

  may : UnlinksAtMost k.unlinks
  may =
      ⊎_elim
      (λ (at : (is_periodic k.endpoint.desc.kind ≡ false) × (k.unlinks ≡ Some (unlink_of w.driver k.number))). subst UnlinksAtMost (sym at.1) tt)
      (λ (at : (is_periodic k.endpoint.desc.kind ≡ true) × (k.unlinks ≡ None)). subst UnlinksAtMost (sym at.1) tt) k.command

  left : IsAsBefore d c.driver × NearSame d c.driver
  left = cancel_is_as_before d w.memory c a.mixed.turns.turns k.cancels

  pub before : IsAsBefore d g
  before =
      let b = left.0 in
      record {
        book = b.book;
        notes = b.notes;
        transfers = b.transfers;
        harvested = b.harvested;
        reports = b.reports;
        store = b.store;
        idle = b.idle;
        idle_now = may;
        ends = b.ends;
        ends_now = λ i x here.
            let v = b.ends_now i x here in
            record { endpoint = v.endpoint; here = v.here; queue = v.queue; dummy = v.dummy; desc = v.desc; next = v.next; gone = v.gone; ends = v.ends };
      }

  near : NearSame d g
  near = left.1

  left_stands : AllStand g s.near s.streams s.ends s.parts s.order s.out
  left_stands =
      as_before_stands d g s.near s.streams s.ends s.parts s.order s.out before near
      (all_stand d s.near s.streams s.ends s.parts s.order s.out (idle_queues s w line (commands.Cancel name) o a) a.mixed.queues)

  sound : PartsStand g s.parts
  sound e z here met =
      let v = before.ends e z here in
      subst (λ (q : ℕ). IsQueuePart (32 * q) (s.parts (32 * q))) (sym v.queue)
      (a.mixed.queues.sound e v.endpoint v.here (met_before d g e z v here before (near_fewer d g near) met))

  controls : ControlsStand g s.parts s.order s.out
  controls =
      let old : ControlsStand c.driver s.parts s.order s.out =
      commands_keep_controls d w.memory (commands.Cancel name) c s.parts s.order s.out a.mixed.turns.turns.asynchronous tt k.takes a.mixed.queues.controls in
      let alike : OwesAlike any_one c.driver g = alike_same any_one c.driver g refl refl refl in
      stand_still c.driver g s.parts s.order s.out (same_there c.driver g refl (λ q is. absurd (cc)) refl refl)
      (stand_on c.driver g s.parts s.parts s.out s.out refl (λ v owed. owed_on any_one c.driver g v alike.owed owed tt) (λ v owed. keeps_same s.parts s.out (32 * v.queue)) old.mends) old

  left_goes : QueuesGoOn g s.near s.streams s.ends s.parts s.order s.out
  left_goes = record { queues = left_stands.queues; sound = sound; tails = ends_idle g s.parts s.order s.out may left_stands.tails; controls = controls }

  pub left_queues : QueuesGoOn (queued o.driver) s.near s.streams s.ends s.parts s.order s.out
  left_queues = by_alike (queued o.driver) g s.near s.streams s.ends s.parts s.order s.out k.alike left_goes

-- ---- from the ring

pub cancel_leaves : (s : Standing) (w : World) (line : ℕ) (name : EpName) (o : Offered) → IsAccepted s w line (commands.Cancel name) o
    → QueuesGoOn (queued o.driver) s.near s.streams s.ends s.parts s.order s.out → Cancels w.driver w.memory o → LeavesMixed s w o
cancel_leaves s w line name o a queues why =
    let d = w.driver in
    let cmd = commands.Cancel name in
    record {
      now = cancel_keeps_now opening_base s.member s.recent s.descs s.parts s.hand s.frame (controller_parts w) d cmd o a.mixed.now why a.room a.is;
      ring = subst (λ (g : Offered). AreMet g.driver s.member) (sym why.is)
          (set_met d _ why.number why.endpoint (cancelled why.endpoint) s.member (idle s w line cmd o a) (λ q is. cc) why.here refl
          (record { desc = refl; queue = refl; linked = refl; gone = refl }) refl refl a.mixed.ring);
      queues = queues;
      under_way = subst (λ (g : Offered). IsUnderWay g.driver g.memory s.member s.recent s.parts g.driver.command) (sym why.is) refl;
    }

-- ---- from frames, also of isochronous endpoints

pub unchain_leaves : (s : Standing) (w : World) (line : ℕ) (name : EpName) (o : Offered) → IsAccepted s w line (commands.Cancel name) o
    → QueuesGoOn (queued o.driver) s.near s.streams s.ends s.parts s.order s.out → Unchains w.driver w.memory o → LeavesMixed s w o
unchain_leaves s w line name o a queues why =
    let d = w.driver in
    let cmd = commands.Cancel name in
    let u = unchained d w.memory o why in
    let command : o.driver.command ≡ u.command = ap (λ (g : DriverContent). g.command) u.is in
    let no_open : (q : ℕ) → u.command ≡ Some (unfinished.Open q) → ⊥ = λ q is.
    ⊎_elim (λ (on : u.command ≡ Some (unfinished.Unchain why.number)).
    let both : Some (unfinished.Unchain why.number) ≡ Some (unfinished.Open q) = sym on ∙ is in absurd (cc))
    (λ (off : u.command ≡ None). none_some (unfinished.Open q) (sym off ∙ is)) u.which in
    record {
      now = unchain_keeps_now opening_base s.member s.recent s.descs s.parts s.hand s.frame (controller_parts w) d cmd o a.mixed.now why a.room a.is;
      ring = subst (λ (g : DriverContent). AreMet g s.member) (sym u.is)
          (set_met d _ why.number why.endpoint (Left why.endpoint u.chained) s.member (idle s w line cmd o a) no_open why.here refl
          (record { desc = refl; queue = refl; linked = refl; gone = refl }) refl refl a.mixed.ring);
      queues = queues;
      under_way = ⊎_elim
          (λ (on : u.command ≡ Some (unfinished.Unchain why.number)). subst (λ (c : Option Command). IsUnderWay o.driver o.memory s.member s.recent s.parts c) (sym (command ∙ on)) tt)
          (λ (off : u.command ≡ None). subst (λ (c : Option Command). IsUnderWay o.driver o.memory s.member s.recent s.parts c) (sym (command ∙ off)) tt) u.which;
    }
