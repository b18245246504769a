-- The walk of the ring as plain values (EHCI 1.0, 3.6, 4.8 and 4.10.1).
--     ring_parts w      the parts of a walk, but for what it heard
--     walk_from p r     the walk that has these parts and heard this, if one has
use Rattle.std.specs.Prelude.{◌%◌, Bool, true, false, ◌==◌, Option, None, Some, option_map, Result, Ok, Err, if◌then◌else◌}
use Rattle.usb_base.specs.declared.packets.Reply.{Reply}
use Rattle.link_words.specs.declared.refusal.Bad.{Bad}
use Rattle.qh_qtd.specs.declared.queue_head.Qh.{Qh}
use Rattle.qh_qtd.specs.QueueHead.{qh_words, qh_read}
use Rattle.hc_copy.specs.declared.held.Held.{Held}
use Rattle.async_walk.specs.declared.state.Cursor.{Cursor}
use Rattle.async_walk.specs.declared.parts.HeldParts.{HeldParts}
use Rattle.async_walk.specs.declared.parts.RingParts.{RingParts}
use Rattle.async_walk.specs.Walk.{Walk, cursor_address}

-- ---- the copy in hand

abbrev pub held_parts : Held → HeldParts
held_parts h = record { at = h.at; words = qh_words h.queue_head; settled = h.settled }

-- by whether its address is a multiple of 32, and what its words are read as
abbrev pub held_at : Bool → Result Qh Bad → HeldParts → Option Held
held_at true (Ok q) p = Some (record { at = p.at; queue_head = q; settled = p.settled })
held_at true (Err bad) p = None
held_at false _ p = None

abbrev pub held_from : HeldParts → Option Held
held_from p = held_at (p.at % 32 == 0) (qh_read p.words) p

-- what is in hand, if something is
abbrev pub hand_from : Option HeldParts → Option (Option Held)
hand_from None = Some None
hand_from (Some p) = option_map Some (held_from p)

-- ---- the walk

abbrev pub ring_parts : Walk → RingParts
ring_parts w = record {
  cursor = w.cursor;
  held = option_map held_parts w.held;
  left = record { 0 = w.left };
  mode = w.mode;
  first = w.first;
}

abbrev pub is_cursor : Cursor → Bool
is_cursor c = cursor_address c % 32 == 0

abbrev pub walk_at : Option (Option Held) → RingParts → Reply → Option Walk
walk_at None p reply = None
walk_at (Some held) p reply =
    Some (record { cursor = p.cursor; held = held; reply = reply; left = p.left.0; mode = p.mode; first = p.first })

abbrev pub walk_from : RingParts → Reply → Option Walk
walk_from p reply = if is_cursor p.cursor then walk_at (hand_from p.held) p reply else None
