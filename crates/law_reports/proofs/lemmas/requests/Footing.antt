-- Number 0 is that of control endpoints.
use Rattle.std.proofs.Common.{◌≡◌, true}
use Rattle.std.proofs.lemmas.Bool.{false≢true}
use Rattle.usb_base.specs.declared.endpoints.EpName.{EpName}
use Rattle.usb_base.specs.declared.packets.EpKind.{EpKind}
use Rattle.usb_base.specs.declared.packets.EpKind.TheVariants as kinds
use Rattle.usb_base.specs.declared.packets.Way.TheVariants as ways
use Rattle.drv_table.specs.Words.{is_control}
use Rattle.law_devices.specs.declared_controls.Names.{IsNameOf}

pub control_zero : (kind : EpKind) (name : EpName) → is_control kind ≡ true → IsNameOf kind name → (name.num ≡ 0) × (name.way ≡ ways.Ctl)
control_zero kinds.Control name on is = (is.number, is.way)
control_zero _ name on is = absurd (false≢true on)
