-- Each command, refused or accepted, leaves the iTDs as they stand.
use Rattle.std.proofs.Common.{◌≡◌, Result, Ok, Err, refl}
use Rattle.usb_base.specs.declared.commands.Cmd.TheVariants as commands
use Rattle.usb_base.specs.declared.reports.OfferError.{OfferError}
use Rattle.drv_table.specs.Accepting.{Offered}
use Rattle.drv_table.specs.Offers.{offered}
use Rattle.law_driver.proofs.lemmas.run_owners.Commands.{each_command_has_its_reason}
use Rattle.law_world.proofs.lemmas.memory.lemmas.framed_memory.TakenOn.{commands_keep_awaiting}
use Rattle.bus_world.specs.World.{commanded_by}
use Rattle.law_microframes.specs.visits.DescriptorFields.{ItdsStand, CommandKeepsItds}
use Rattle.law_microframes.proofs.lemmas.visits.BelongItdCommands.{other_keeps_itds}
use Rattle.law_microframes.proofs.lemmas.visits.BelongIso.{is_iso_accepted, iso_keeps}

pub command_keeps_itds : CommandKeepsItds
command_keeps_itds w line (commands.Iso name n len seed) k old = by (offered w.driver w.memory (commands.Iso name n len seed)) refl
  where
    by : (r : Result Offered OfferError) → offered w.driver w.memory (commands.Iso name n len seed) ≡ r → ItdsStand (commanded_by w line name r).driver (commanded_by w line name r).memory
    by (Err why) is = record { fields = old.fields; served = old.served }
    by (Ok o) is =
        let f = k.mixed.now.framed in
        iso_keeps w.driver w.memory o f.place (each_command_has_its_reason w.driver w.memory (commands.Iso name n len seed) o is) old (is_iso_accepted w.driver w.memory name n len seed o is)
        (commands_keep_awaiting w.driver w.memory (commands.Iso name n len seed) o f.place k.mixed.now.planned k.mixed.masks k.mixed.numbers
        is)
command_keeps_itds w line (commands.OpenEp x) k old = other_keeps_itds w line (commands.OpenEp x) tt k old
command_keeps_itds w line (commands.Get name len by) k old = other_keeps_itds w line (commands.Get name len by) tt k old
command_keeps_itds w line (commands.Put name bytes by) k old = other_keeps_itds w line (commands.Put name bytes by) tt k old
command_keeps_itds w line (commands.Control name setup bytes) k old = other_keeps_itds w line (commands.Control name setup bytes) tt k old
command_keeps_itds w line (commands.Cancel name) k old = other_keeps_itds w line (commands.Cancel name) tt k old
command_keeps_itds w line (commands.Clear name) k old = other_keeps_itds w line (commands.Clear name) tt k old
command_keeps_itds w line (commands.Reset port) k old = other_keeps_itds w line (commands.Reset port) tt k old
command_keeps_itds w line (commands.Give port) k old = other_keeps_itds w line (commands.Give port) tt k old
command_keeps_itds w line (commands.DiskRead addr lba count) k old = other_keeps_itds w line (commands.DiskRead addr lba count) tt k old
command_keeps_itds w line (commands.DiskWrite addr lba bytes) k old = other_keeps_itds w line (commands.DiskWrite addr lba bytes) tt k old
command_keeps_itds w line (commands.Revive addr) k old = other_keeps_itds w line (commands.Revive addr) tt k old
