-- Which commands a world with endpoints of every kind takes (USB 2.0, 5.5 to 5.8).
--     IsMixed x         the numbers of the endpoint fit their fields, and its way fits its kind
--     OpensMixed cmd    so it is of what the command opens, if anything
use Rattle.usb_base.specs.declared.commands.Cmd.{Cmd}
use Rattle.usb_base.specs.declared.commands.Cmd.TheVariants as commands
use Rattle.usb_base.specs.declared.endpoints.EpDesc.{EpDesc}
use Rattle.law_driver.specs.queued_drivers.Queued.{FitsKind}
use Rattle.law_world.specs.memory.framed_memory.Isochronous.{NumbersFit}

pub record IsMixed (x : EpDesc) : Type 0 where
  pub numbers : NumbersFit x
  pub kind : FitsKind x

abbrev pub OpensMixed : Cmd → Type 0
OpensMixed (commands.OpenEp x) = IsMixed x
OpensMixed _ = Unit {0}
