-- The copy in hand as plain values (EHCI 1.0, 3.3, 3.4 and 3.6).
--     itd_parts h, sitd_parts h, hand_parts h      the parts of a copy
--     itd_from p, sitd_from p            the copy that has these parts, if one has
--     hand_from n p                                the same, where n bytes were received
use Rattle.std.specs.Prelude.{ℕ, ◌+◌, ◌*◌, ◌%◌, Bool, true, false, ◌==◌, ◌&&◌, ◌||◌, nat_le, nat_lt, Option, None, Some, is_some, option_map, Result, Ok, Err, if◌then◌else◌}
use Rattle.link_words.specs.declared.refusal.Bad.{Bad}
use Rattle.link_words.specs.Layout.{first_bad_bit, ranges_of}
use Rattle.itd_sitd.specs.declared.itd.Itd.{Itd}
use Rattle.itd_sitd.specs.declared.sitd.Sitd.{Sitd}
use Rattle.itd_sitd.specs.Slot.{slot_rows, slot_at, slot_word}
use Rattle.itd_sitd.specs.Itd.{itd_words, itd_read}
use Rattle.itd_sitd.specs.Sitd.{sitd_words, sitd_read}
use Rattle.hc_copy.specs.declared.held.Held.{Held}
use Rattle.hc_iso.specs.declared.held.HeldItd.{HeldItd}
use Rattle.hc_iso.specs.declared.held.HeldSitd.{HeldSitd}
use Rattle.async_walk.specs.Parts.{held_parts, held_from}
use Rattle.periodic_walk.specs.declared.state.Hand.{Hand}
use Rattle.periodic_walk.specs.declared.state.Hand.TheVariants as hands
use Rattle.periodic_walk.specs.declared.hand_parts.ItdParts.{ItdParts}
use Rattle.periodic_walk.specs.declared.hand_parts.SitdParts.{SitdParts}
use Rattle.periodic_walk.specs.declared.hand_parts.HandParts.{HandParts}
use Rattle.periodic_walk.specs.declared.hand_parts.HandParts.TheVariants as parts

-- ---- an iTD

abbrev pub itd_parts : HeldItd → ItdParts
itd_parts h = record {
  at = h.at;
  words = itd_words h.itd;
  number = h.number;
  slot = slot_word h.slot;
  made = h.made;
  rest = h.rest;
  moved = h.moved;
  ended = h.ended;
}

-- the copy of this descriptor with the other parts
abbrev pub itd_of : ItdParts → Itd → HeldItd
itd_of p v = record {
  at = p.at;
  itd = v;
  number = p.number;
  slot = slot_at p.slot;
  made = p.made;
  rest = p.rest;
  moved = p.moved;
  ended = p.ended;
}

-- its numbers are in their ranges
abbrev pub is_counted : HeldItd → Bool
is_counted h =
    h.at % 32 == 0 && nat_lt h.number 8 && nat_le (h.made + h.rest) 3 && (is_some h.ended || nat_le 1 h.rest)
    && nat_le h.moved (1024 * h.made) && nat_le h.moved h.slot.length

abbrev pub itd_if : Bool → HeldItd → Option HeldItd
itd_if true h = Some h
itd_if false h = None

-- by the reserved bit of the microframe's word, and what the other words are read as
abbrev pub itd_by : Option ℕ → Result Itd Bad → ItdParts → Option HeldItd
itd_by None (Ok v) p = itd_if (is_counted (itd_of p v)) (itd_of p v)
itd_by None (Err bad) p = None
itd_by (Some bit) _ p = None

abbrev pub itd_from : ItdParts → Option HeldItd
itd_from p = itd_by (first_bad_bit (ranges_of slot_rows) p.slot) (itd_read p.words) p

-- ---- a siTD

abbrev pub sitd_parts : HeldSitd → SitdParts
sitd_parts h = record { at = h.at; words = sitd_words h.sitd; settled = h.settled }

-- by whether its address is a multiple of 32, and what its words are read as
abbrev pub sitd_by : Bool → Result Sitd Bad → SitdParts → Option HeldSitd
sitd_by true (Ok v) p = Some (record { at = p.at; sitd = v; settled = p.settled })
sitd_by true (Err bad) p = None
sitd_by false _ p = None

abbrev pub sitd_from : SitdParts → Option HeldSitd
sitd_from p = sitd_by (p.at % 32 == 0) (sitd_read p.words) p

-- ---- either

abbrev pub hand_parts : Hand → HandParts
hand_parts (hands.Queue h) = parts.Queue (record { copy = held_parts h.copy; made = h.made })
hand_parts (hands.Itd h) = parts.Itd (itd_parts h)
hand_parts (hands.Sitd h) = parts.Sitd (sitd_parts h)

-- of an iTD no more bytes were received than were moved
abbrev pub itd_kept : ℕ → Option HeldItd → Option Hand
itd_kept got None = None
itd_kept got (Some h) = if nat_le got h.moved then Some (hands.Itd h) else None

abbrev pub queue_with : ℕ → Option Held → Option Hand
queue_with made None = None
queue_with made (Some h) = Some (hands.Queue (record { copy = h; made = made }))

abbrev pub hand_from : ℕ → HandParts → Option Hand
hand_from got (parts.Queue p) = queue_with p.made (held_from p.copy)
hand_from got (parts.Itd p) = itd_kept got (itd_from p)
hand_from got (parts.Sitd p) = option_map hands.Sitd (sitd_from p)

-- what is in hand, if something is
abbrev pub in_hand_from : ℕ → Option HandParts → Option (Option Hand)
in_hand_from got None = Some None
in_hand_from got (Some p) = option_map Some (hand_from got p)
