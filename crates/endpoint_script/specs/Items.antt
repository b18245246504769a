-- What a script says of an endpoint, item by item.
use Rattle.std.specs.Prelude.{ℕ, ◌-◌, ◌^◌, min, Bool, true, length, nat_le, sum, map, filter_map, List, [], ◌∷◌, Option, Some, None, if◌then◌else◌}
use Rattle.script_types.specs.declared.devices.Item.{Item}
use Rattle.script_types.specs.declared.devices.Item.TheVariants.{Bytes, Nak, Request}
use Rattle.endpoint_script.specs.declared.control_endpoint.KnownRequest.{KnownRequest}

-- a data packet has at most 1,024 bytes (USB 2.0, 5.6.3 and 5.8.3)
abbrev pub is_packet : List ℕ → Bool
is_packet bytes = nat_le (length bytes) 1024

abbrev pub is_short : Item → Bool
is_short (Bytes bytes) = is_packet bytes
is_short _ = true

-- the items after the one that stands
abbrev pub rest_of : {A : Type 0} → List A → List A
rest_of [] = []
rest_of (_ ∷ items) = items

-- one of n NAKs was used; the last one ends the item
abbrev pub nak_used : ℕ → List Item → List Item
nak_used n items = if nat_le n 1 then items else Nak (n - 1) ∷ items

-- the items after a NAK was given
abbrev pub nak_given : List Item → List Item
nak_given (Nak n ∷ items) = nak_used n items
nak_given items = items

abbrev pub packet_in : Item → Option (List ℕ)
packet_in (Bytes bytes) = Some bytes
packet_in _ = None

-- the data packets among the items, in order
abbrev pub packets_of : List Item → List (List ℕ)
packets_of items = filter_map packet_in items

abbrev pub naks_in : Item → ℕ
naks_in (Nak n) = n
naks_in _ = 0

-- all NAKs among the items together, up to the last value of 64 bits
abbrev pub naks_of : List Item → ℕ
naks_of items = min (sum (map naks_in items)) (2 ^ 64 - 1)

abbrev pub request_in : Item → Option KnownRequest
request_in (Request setup bytes) = Some (record { setup = setup; reply = bytes })
request_in _ = None

-- the requests among the items with their replies, in order
abbrev pub requests_of : List Item → List KnownRequest
requests_of items = filter_map request_in items
