-- The control endpoints of the bus of a script on the high-speed bus (USB 2.0, 8.5.3): each with the replies of its script, and its stage.
--     transacts_by, begins_by the bus as a wire: a transaction, and the beginning of a microframe
use Rattle.std.specs.Prelude.{◌≡◌, ℕ, Bool, List}
use Rattle.usb_base.specs.declared.packets.Ask.{Ask}
use Rattle.usb_base.specs.declared.packets.Reply.{Reply}
use Rattle.bus_wire.specs.Bus.{Wired, reply_of, transact_after, is_allowed, begin_after}

-- ---- the wire

abbrev pub transacts_by : Wired → Ask → List ℕ → Reply → Wired → Type 0
transacts_by w ask out reply v = (reply ≡ reply_of w.fixed w.bus ask out) × (v ≡ record w { bus = transact_after w.fixed w.bus ask out })

abbrev pub begins_by : Wired → ℕ → Bool → Wired → Type 0
begins_by w frindex allowed v = (allowed ≡ is_allowed w.fixed w.bus) × (v ≡ record w { bus = begin_after w.fixed frindex w.bus })
