-- The content of the walk of a frame's chain (EHCI 1.0, 4.6).
use Rattle.std.specs.Prelude.{ℕ, ◌≤◌, Bool, false, Option, None, Some, List, [], length, IfSome}
use Rattle.usb_base.specs.declared.packets.Reply.{Reply}
use Rattle.usb_base.specs.declared.packets.Reply.TheVariants.{Silent}
use Rattle.link_words.specs.declared.kinds.Link.{Link}
use Rattle.link_words.specs.declared.kinds.Link.TheVariants as links
use Rattle.link_words.specs.Links.{IsAligned, is_end}
use Rattle.hc_copy.specs.Visits.{IsHeld}
use Rattle.hc_iso.specs.Itd.{IsItdHeld}
use Rattle.hc_iso.specs.Sitd.{IsSitdHeld}
use Rattle.periodic_walk.specs.declared.state.Hand.{Hand}
use Rattle.periodic_walk.specs.declared.state.Hand.TheVariants as hands

pub record Walk : Type 0 where
  pub cursor : Link  -- what is read next, or is in hand
  pub index : ℕ  -- FRINDEX of the microframe
  pub hand : Option Hand  -- the copy in hand
  pub reply : Reply  -- what was heard in the last transaction
  pub got : List ℕ  -- the bytes that an iTD in hand received; its write-back writes them
  pub left : ℕ  -- the time left in the microframe, in picoseconds

-- at the end of a chain, with no copy in hand and no time left
abbrev pub new_walk : Walk
new_walk = record { cursor = links.End; index = 0; hand = None; reply = Silent; got = []; left = 0 }

-- the part of a microframe begins: its chain begins with this link
abbrev pub begun : Walk → Link → ℕ → ℕ → Walk
begun w first index left = record w { cursor = first; index = index; hand = None; left = left }

-- the part is over, whatever is in hand
abbrev pub stopped : Walk → Walk
stopped w = record w { hand = None }

-- the part is over: the chain has ended, and no copy is in hand
abbrev pub over_at : Option Hand → Link → Bool
over_at None link = is_end link
over_at (Some hand) link = false

abbrev pub is_over : Walk → Bool
is_over w = over_at w.hand w.cursor

abbrev pub hand_address : Hand → ℕ
hand_address (hands.Queue h) = h.copy.at
hand_address (hands.Itd h) = h.at
hand_address (hands.Sitd h) = h.at

abbrev pub held_address : Option Hand → Option ℕ
held_address None = None
held_address (Some hand) = Some (hand_address hand)

-- addresses are multiples of 32, each field of the copy is in its range, and of an iTD no more bytes were received than were moved
abbrev pub IsInHand : List ℕ → Hand → Type 0
IsInHand got (hands.Queue h) = IsHeld h.copy
IsInHand got (hands.Itd h) = IsItdHeld h × (length got ≤ h.moved)
IsInHand got (hands.Sitd h) = IsSitdHeld h

pub record IsWalk (cursor : Link) (hand : Option Hand) (got : List ℕ) : Type 0 where
  pub place : IsAligned cursor
  pub copy : IfSome hand (IsInHand got)
