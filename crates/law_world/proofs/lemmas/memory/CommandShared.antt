-- What every accepted command leaves of a mixed world, and what is left for each to show.
use Rattle.std.proofs.Common.{◌≡◌, ℕ, Option, Some, None, Ok, ap, sym, ◌∙◌, refl}
use Rattle.law_driver.proofs.Common.{busy_idle}
use Rattle.usb_base.specs.declared.commands.Cmd.{Cmd}
use Rattle.usb_base.specs.declared.commands.Cmd.TheVariants as commands
use Rattle.drv_table.specs.declared.content.Command.{Command}
use Rattle.drv_table.specs.declared.content.Command.TheVariants as unfinished
use Rattle.drv_table.specs.DriverContent.{DriverContent}
use Rattle.drv_table.specs.Accepting.{Offered}
use Rattle.drv_table.specs.Offers.{offered, IsOffered}
use Rattle.claims_driver.specs.Leaving.{HasOwners}
use Rattle.claims_driver.specs.LentRuns.{AreLent}
use Rattle.law_driver.specs.in_place.InPlace.{IsInPlace}
use Rattle.law_driver.proofs.lemmas.in_place.Laws.{commands_keep_all_in_place}
use Rattle.claims_base.specs.Controller.{opening_base}
use Rattle.law_driver_ring.specs.walk_members.Reached.{OpensNumbered as WalksNumbered}
use Rattle.law_driver_ring.specs.fed_queues.Places.{AreMet}
use Rattle.law_descriptors.specs.Told.{with_memory}
use Rattle.law_world.specs.memory.framed_memory.Now.{IsFramedNow}
use Rattle.law_world.specs.memory.framed_memory.IsochronousLaws.{OpensNumbered}
use Rattle.law_world.proofs.lemmas.memory.lemmas.framed_memory.Masking.{commands_keep_masks}
use Rattle.law_world.proofs.lemmas.memory.lemmas.framed_memory.TakenOn.{commands_keep_awaiting}
use Rattle.law_world.proofs.lemmas.memory.lemmas.framed_memory.Numbering.{commands_keep_numbered}
use Rattle.law_driver.specs.queued_drivers.Queued.{queued_command, queued, QueuesTakeTurns}
use Rattle.law_driver.specs.queued_drivers.Rows.{LendsNoDescriptors}
use Rattle.law_driver.specs.queued_drivers.Commands.{OpensFitting, QueuesAccept}
use Rattle.law_driver.proofs.lemmas.queued_drivers.RowOwners.{queued_has_owners, queued_are_lent}
use Rattle.law_driver.proofs.lemmas.queued_drivers.CommandTurns.{commands_are_of_queues, commands_keep_queues}
use Rattle.claims_world.specs.Memory.{IsWalking}
use Rattle.bus_world.specs.World.{World, controller_parts, name_in, commanded_by}
use Rattle.law_world.specs.memory.Mixed.{QueuesGoOn, IsUnderWay, Standing, IsMixedAt}
use Rattle.law_world.specs.memory.Laws.{OpensMixed}
use Rattle.law_world.proofs.lemmas.memory.CommandOwed.{command_owes}

-- ---- what is opened, if anything

pub opens_fitting : (cmd : Cmd) → OpensMixed cmd → OpensFitting cmd
opens_fitting (commands.OpenEp x) fits = fits.kind
opens_fitting _ fits = tt

pub opens_numbered : (cmd : Cmd) → OpensMixed cmd → OpensNumbered cmd
opens_numbered (commands.OpenEp x) fits = fits.numbers
opens_numbered _ fits = tt

pub walks_numbered : (cmd : Cmd) → OpensMixed cmd → WalksNumbered cmd
walks_numbered (commands.OpenEp x) fits = (fits.numbers.addr, fits.numbers.num)
walks_numbered _ fits = tt

-- ---- an accepted command

pub record IsAccepted (s : Standing) (w : World) (line : ℕ) (cmd : Cmd) (o : Offered) : Type 0 where
  pub mixed : IsMixedAt s w
  pub fits : OpensMixed cmd
  pub room : IsOffered w.driver.room cmd
  pub is : offered w.driver w.memory cmd ≡ Ok o
  pub walking : IsWalking (commanded_by w line (name_in cmd) (Ok o))

pub record LeavesMixed (s : Standing) (w : World) (o : Offered) : Type 0 where
  pub now : IsFramedNow opening_base s.member s.recent s.descs s.parts s.hand s.frame (with_memory (controller_parts w) o.memory) o.driver
  pub ring : AreMet o.driver s.member
  pub queues : QueuesGoOn (queued o.driver) s.near s.streams s.ends s.parts s.order s.out
  pub under_way : IsUnderWay o.driver o.memory s.member s.recent s.parts o.driver.command

lends_none : (d : DriverContent) → d.command ≡ None → LendsNoDescriptors d
lends_none d idle e t count is = let a : ◌≡◌ {A = Option Command} None (Some (unfinished.Iso e t count)) = sym idle ∙ is in absurd (cc)

module _ (s : Standing) (w : World) (line : ℕ) (cmd : Cmd) (o : Offered) (a : IsAccepted s w line cmd o) where
  pub place : IsInPlace w.memory w.driver
  place = a.mixed.now.framed.place

  pub in_place : IsInPlace o.memory o.driver
  in_place = commands_keep_all_in_place w.driver w.memory cmd o a.room place a.is

  pub idle : w.driver.command ≡ None
  idle = busy_idle w.driver w.memory cmd o w.driver.command refl a.is

  pub idle_queues : (queued w.driver).command ≡ None
  idle_queues = ap (queued_command w.driver.endpoints) idle

  pub owners : HasOwners (queued w.driver)
  owners = queued_has_owners w.driver place.sound.owners a.mixed.turns

  pub lent : AreLent (queued w.driver)
  lent = queued_are_lent w.driver place.lent (lends_none w.driver idle)

  pub turns_now : QueuesTakeTurns o.driver
  turns_now = commands_keep_queues queued_has_owners w.driver w.memory cmd o place.sound.stands place.sound.owners a.mixed.turns (opens_fitting cmd a.fits) a.is

  pub owners_now : HasOwners (queued o.driver)
  owners_now = queued_has_owners o.driver in_place.sound.owners turns_now

  pub accepts : QueuesAccept w.driver w.memory o cmd
  accepts = commands_are_of_queues w.driver w.memory cmd o place.sound.owners.orderly a.mixed.turns a.is

  pub mixed_by : LeavesMixed s w o → IsMixedAt s (commanded_by w line (name_in cmd) (Ok o))
  mixed_by l =
      let k = a.mixed in
      record {
        now = l.now;
        turns = turns_now;
        ring = l.ring;
        queues = l.queues;
        under_way = l.under_way;
        walking = a.walking;
        numbers = commands_keep_numbered w.driver w.memory cmd o k.numbers (opens_numbered cmd a.fits) a.is;
        masks = commands_keep_masks w.driver w.memory cmd o k.masks a.is;
        awaiting = commands_keep_awaiting w.driver w.memory cmd o place k.now.planned k.masks k.numbers a.is;
        owed = command_owes w.driver w.memory cmd o place.sound.owners k.turns a.is k.owed;
        bytes = k.bytes;
      }
