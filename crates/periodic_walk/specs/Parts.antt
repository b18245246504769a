-- The walk of a frame's chain as plain values (EHCI 1.0, 4.6).
--     frame_parts w         the parts of a walk, but for what it heard and received
--     walk_from p r got     the walk that has these parts, heard this and received these bytes, if one has
use Rattle.std.specs.Prelude.{ℕ, ◌%◌, Bool, ◌==◌, ◌&&◌, nat_le, List, length, Option, None, Some, option_map, if◌then◌else◌}
use Rattle.usb_base.specs.declared.packets.Reply.{Reply}
use Rattle.link_words.specs.declared.kinds.Link.{Link}
use Rattle.link_words.specs.Links.{address_of}
use Rattle.periodic_walk.specs.declared.state.Hand.{Hand}
use Rattle.periodic_walk.specs.declared.parts.FrameParts.{FrameParts}
use Rattle.periodic_walk.specs.Walk.{Walk}
use Rattle.periodic_walk.specs.HandParts.{hand_parts, in_hand_from}

abbrev pub frame_parts : Walk → FrameParts
frame_parts w = record { cursor = w.cursor; index = w.index; hand = option_map hand_parts w.hand; left = record { 0 = w.left } }

abbrev pub is_place : Link → Bool
is_place link = address_of link % 32 == 0

abbrev pub walk_at : Option (Option Hand) → FrameParts → Reply → List ℕ → Option Walk
walk_at None p reply got = None
walk_at (Some hand) p reply got =
    Some (record { cursor = p.cursor; index = p.index; hand = hand; reply = reply; got = got; left = p.left.0 })

-- no more bytes are received than three packets have
abbrev pub walk_from : FrameParts → Reply → List ℕ → Option Walk
walk_from p reply got =
    if nat_le (length got) 3072 && is_place p.cursor then walk_at (in_hand_from (length got) p.hand) p reply got else None
