-- The content of the walk of the ring (EHCI 1.0, 4.8 and 4.9).
use Rattle.std.specs.Prelude.{ℕ, Bool, true, false, Option, None, Some, IfSome}
use Rattle.usb_base.specs.declared.packets.Reply.{Reply}
use Rattle.usb_base.specs.declared.packets.Reply.TheVariants.{Silent}
use Rattle.link_words.specs.Links.{IsAligned, address_of}
use Rattle.hc_copy.specs.declared.held.Held.{Held}
use Rattle.hc_copy.specs.Visits.{IsHeld}
use Rattle.async_walk.specs.declared.state.Cursor.{Cursor}
use Rattle.async_walk.specs.declared.state.Cursor.TheVariants as cursors
use Rattle.async_walk.specs.declared.state.ReloadMode.{ReloadMode}
use Rattle.async_walk.specs.declared.state.ReloadMode.TheVariants.{WaitHead}

pub record Walk : Type 0 where
  pub cursor : Cursor  -- what is read next, or is in hand
  pub held : Option Held  -- the copy in hand
  pub reply : Reply  -- what was heard in the last transaction; its bytes are written by the write-back
  pub left : ℕ  -- the time left in the microframe, in picoseconds
  pub mode : ReloadMode
  pub first : Bool  -- the next event is the first of its microframe

-- at the start of the ring, with no copy in hand and no time left
abbrev pub new_walk : Walk
new_walk = record { cursor = cursors.Start; held = None; reply = Silent; left = 0; mode = WaitHead; first = false }

-- the part of a microframe with this time begins
abbrev pub begun : Walk → ℕ → Walk
begun w left = record w { held = None; left = left; first = true }

-- the part is over, whatever is in hand
abbrev pub stopped : Walk → Walk
stopped w = record w { held = None }

-- the address of the cursor; that of a walk at the start of the ring is told as 0
abbrev pub cursor_address : Cursor → ℕ
cursor_address cursors.Start = 0
cursor_address (cursors.At link) = address_of link

abbrev pub held_address : Option Held → Option ℕ
held_address None = None
held_address (Some h) = Some h.at

-- addresses are multiples of 32, and each field of the copy is in its range
abbrev pub IsCursor : Cursor → Type 0
IsCursor cursors.Start = Unit {0}
IsCursor (cursors.At link) = IsAligned link

pub record IsWalk (cursor : Cursor) (held : Option Held) : Type 0 where
  pub place : IsCursor cursor
  pub copy : IfSome held IsHeld
