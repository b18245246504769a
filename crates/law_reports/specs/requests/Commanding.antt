-- The commands of a script that ask for a transfer (USB 2.0, 8.5.3 and 9.3).
--     IsTransferCommand cmd      it asks for data, sends data, or submits a request: its setup bytes are eight, and the bytes of a write as many as they announce
use Rattle.usb_base.specs.declared.commands.Cmd.{Cmd}
use Rattle.usb_base.specs.declared.commands.Cmd.TheVariants as commands
use Rattle.law_request.specs.Windows.{IsRequest}

abbrev pub IsTransferCommand : Cmd → Type 0
IsTransferCommand (commands.Get name len by) = Unit {0}
IsTransferCommand (commands.Put name bytes by) = Unit {0}
IsTransferCommand (commands.Control name setup bytes) = IsRequest (record { setup = setup; bytes = bytes })
IsTransferCommand _ = ⊥
