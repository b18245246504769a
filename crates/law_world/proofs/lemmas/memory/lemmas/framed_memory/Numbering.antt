-- The numbers of a driver's endpoints fit their fields, where those of each that is opened do.
use Rattle.std.proofs.Common.{Option}
use Rattle.law_common.proofs.Lists.{nothing_at}
use Rattle.usb_base.specs.declared.endpoints.EpDesc.{EpDesc}
use Rattle.usb_base.specs.declared.commands.Cmd.{Cmd}
use Rattle.usb_base.specs.declared.commands.Cmd.TheVariants as commands
use Rattle.bandwidth.specs.declared.placements.Placement.{Placement}
use Rattle.drv_table.specs.Rows.{driver_row}
use Rattle.law_world.specs.memory.framed_memory.Isochronous.{NumbersFit}
use Rattle.law_world.specs.memory.framed_memory.IsochronousLaws.{OpensNumbered, NewIsNumbered, EventsKeepNumbered, CommandsKeepNumbered}
use Rattle.law_world.proofs.lemmas.memory.lemmas.framed_memory.EndpointFacts.{after_row, IsOfOpened, after_command}

abbrev Fits : EpDesc → Option Placement → Type 0
Fits x o = NumbersFit x

pub new_is_numbered : NewIsNumbered
new_is_numbered n room e x here = absurd (nothing_at e x here)

pub events_keep_numbered : EventsKeepNumbered
events_keep_numbered p all = after_row Fits (driver_row p) p all

opened_fit : (cmd : Cmd) → OpensNumbered cmd → IsOfOpened Fits cmd
opened_fit (commands.OpenEp x) fit = λ o. fit
opened_fit _ fit = tt

pub commands_keep_numbered : CommandsKeepNumbered
commands_keep_numbered d m cmd o all fit is = after_command Fits d m cmd o (opened_fit cmd fit) all is
