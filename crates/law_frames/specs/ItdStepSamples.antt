-- A worked transaction of an iTD, over the frame of part_worked.
--     at                     the iTD was read, and 100 microseconds are left
--     hears                  over this wire two bytes come, whatever is asked; it counts what it was asked
--     left                   the walk's place after the transaction
--     too_long, babbled      a packet of three bytes, where two may come, and the copy after it
use Rattle.std.specs.Prelude.{◌≡◌, ℕ, ◌+◌, List, [], ◌∷◌}
use Rattle.usb_base.specs.declared.packets.Ask.{Ask}
use Rattle.usb_base.specs.declared.packets.Pid.TheVariants.{Data0}
use Rattle.usb_base.specs.declared.packets.Reply.{Reply}
use Rattle.usb_base.specs.declared.packets.Reply.TheVariants.{Bytes}
use Rattle.hc_iso.specs.Itd.{itd_transaction, itd_after}
use Rattle.periodic_walk.specs.Place.{FramePlace}
use Rattle.periodic_walk.specs.Itd.{itd_left_by}
use Rattle.law_frames.specs.FrameHand.{ItdCopy}
use Rattle.law_frames.specs.PartSamples.{in_hand, fetched, heard}

abbrev pub at : FramePlace
at = record fetched { walk = record fetched.walk { left = 100000000 } }

abbrev pub hears : ℕ → Ask → List ℕ → Reply → ℕ → Type 0
hears n ask out reply later = (reply ≡ heard) × (later ≡ n + 1)

abbrev pub left : FramePlace
left = itd_left_by (itd_transaction in_hand.held) in_hand.held at heard

abbrev pub too_long : Reply
too_long = Bytes Data0 (5 ∷ 6 ∷ 7 ∷ [])

abbrev pub babbled : ItdCopy
babbled = record in_hand { held = itd_after too_long in_hand.held }
