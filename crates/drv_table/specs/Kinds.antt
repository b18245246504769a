-- Which endpoints have descriptors in the frame list in the place of a queue head (EHCI 1.0, 3.3, 3.4 and 4.7).
use Rattle.std.specs.Prelude.{Bool, true, false}
use Rattle.usb_base.specs.declared.packets.EpKind.{EpKind}
use Rattle.usb_base.specs.declared.packets.EpKind.TheVariants as kinds

-- ---- the unfinished command

-- its place in the frame list has descriptors, and no queue head
abbrev pub is_iso : EpKind → Bool
is_iso kinds.Iso = true
is_iso kinds.Bulk = false
is_iso kinds.Interrupt = false
is_iso kinds.Control = false
