-- A wire of worked rows.
--     silent      nothing is heard on it, whatever is asked; it is told by a number, of which nothing is asked
use Rattle.std.specs.Prelude.{◌≡◌, ℕ, List}
use Rattle.usb_base.specs.declared.packets.Ask.{Ask}
use Rattle.usb_base.specs.declared.packets.Reply.{Reply}
use Rattle.usb_base.specs.declared.packets.Reply.TheVariants.{Silent}

abbrev pub silent : ℕ → Ask → List ℕ → Reply → ℕ → Type 0
silent before ask out reply after = reply ≡ Silent
