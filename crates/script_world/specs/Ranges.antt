-- The ranges of what lines say, beyond those of their numbers alone.
use Rattle.std.specs.Prelude.{ℕ, ◌+◌, ◌*◌, ◌%◌, Bool, true, false, ◌==◌, ◌&&◌, ◌||◌, not, nat_le, nat_lt, if◌then◌else◌, List, [], ◌∷◌, length, Option, is_some, slice_index}
use Rattle.std.specs.List.{list_any}
use Rattle.std.specs.Option.{option_map_or}
use Rattle.usb_base.specs.declared.packets.Way.{Way}
use Rattle.usb_base.specs.declared.packets.Way.TheVariants as way
use Rattle.usb_base.specs.declared.packets.Speed.{Speed}
use Rattle.usb_base.specs.declared.packets.Speed.TheVariants.{Full, Low, High}
use Rattle.usb_base.specs.declared.packets.EpKind.{EpKind}
use Rattle.usb_base.specs.declared.packets.EpKind.TheVariants.{Control, Iso, Bulk, Interrupt}
use Rattle.usb_base.specs.Limits.{most_memory}
use Rattle.script_forms.specs.declared.statements.Name.{Name}
use Rattle.script_forms.specs.declared.statements.Answer.{Answer}
use Rattle.script_forms.specs.declared.statements.Answer.TheVariants as answer
use Rattle.script_forms.specs.declared.statements.EpLine.{EpLine}
use Rattle.script_forms.specs.declared.statements.ControlLine.{ControlLine}
use Rattle.script_forms.specs.declared.statements.IsoLine.{IsoLine}
use Rattle.script_forms.specs.declared.statements.Statement.{Statement}
use Rattle.script_forms.specs.declared.statements.Statement.TheVariants as says
use Rattle.script_world.specs.Draft.{Draft, same_way, speed_of, device_ep, hub_ep, known}

-- a number from low to high
abbrev pub within : ℕ → ℕ → ℕ → Bool
within low high n = nat_le low n && nat_le n high

-- the maximum packet sizes of a transfer type at a speed (USB 2.0, 5.5.3, 5.6.3, 5.7.3 and 5.8.3)
abbrev pub is_size : EpKind → Speed → ℕ → Bool
is_size Control High m = m == 64
is_size Control Full m = m == 8 || m == 16 || m == 32 || m == 64
is_size Control Low m = m == 8
is_size Bulk High m = m == 512
is_size Bulk Full m = m == 8 || m == 16 || m == 32 || m == 64
is_size Bulk Low m = false
is_size Interrupt High m = within 1 1024 m
is_size Interrupt Full m = within 1 64 m
is_size Interrupt Low m = within 1 8 m
is_size Iso High m = within 1 1024 m
is_size Iso Full m = within 1 1023 m
is_size Iso Low m = false

-- a power of two from 1 to 8,192
abbrev pub is_period : ℕ → Bool
is_period p = list_any (λ q. p == q) (1 ∷ 2 ∷ 4 ∷ 8 ∷ 16 ∷ 32 ∷ 64 ∷ 128 ∷ 256 ∷ 512 ∷ 1024 ∷ 2048 ∷ 4096 ∷ 8192 ∷ [])

-- the periods in microframes and the transactions in one: a translator has one in a frame at most
abbrev pub is_rate : Speed → ℕ → ℕ → Bool
is_rate High p m = is_period p && within 1 3 m
is_rate Full p m = is_period p && nat_le 8 p && m == 1
is_rate Low p m = is_period p && nat_le 8 p && m == 1

-- the period and the transactions of an endpoint that has them
abbrev pub is_paced : EpKind → Speed → ℕ → ℕ → Bool
is_paced Control s p m = true
is_paced Bulk s p m = true
is_paced Interrupt s p m = is_rate s p m
is_paced Iso s p m = is_rate s p m

-- the number and the way of a transfer type
abbrev pub is_placed : EpKind → Name → Bool
is_placed Control name = name.num == 0 && same_way name.way way.Ctl
is_placed kind name = within 1 15 name.num && not (same_way name.way way.Ctl)

abbrev pub suits : EpLine → Speed → Bool
suits l s = is_size l.kind s l.max && is_paced l.kind s l.period l.multi

-- the ranges at any speed; an endpoint that isn't periodic has period 0
abbrev pub is_endpoint : EpLine → Bool
is_endpoint l = nat_le l.name.num 15 && within 1 1024 l.max && nat_le l.period 8192 && nat_le l.multi 3

-- an endpoint of a device that isn't declared is in range where it is at some speed
abbrev pub ep_ranged : Draft → EpLine → Bool
ep_ranged w l = is_endpoint l && is_placed l.kind l.name && option_map_or (suits l) (speed_of w l.name.addr) (suits l High || suits l Full || suits l Low)

-- endpoints with a STALL that ends a stream
abbrev pub is_stream : EpKind → Bool
is_stream Bulk = true
is_stream Interrupt = true
is_stream kind = false

abbrev pub is_iso : EpKind → Bool
is_iso Iso = true
is_iso kind = false

-- an endpoint of this kind, packet size and way can answer so
abbrev pub can_answer : Way → Answer → EpKind → ℕ → Bool
can_answer w (answer.Data bytes) kind max = same_way w way.In && nat_le (length bytes) max
can_answer w (answer.Fill n seed) kind max = same_way w way.In && nat_le n 65536
can_answer w (answer.Nak k) kind max = not (is_iso kind)
can_answer w answer.Nyet kind max = same_way w way.Out && is_stream kind
can_answer w answer.Stall kind max = is_stream kind
can_answer w (answer.Request setup bytes) kind max = same_way w way.Ctl
can_answer w answer.Epoch kind max = is_stream kind

-- the kinds that an endpoint of a way can have
abbrev pub kinds_of : Way → List EpKind
kinds_of way.Ctl = Control ∷ []
kinds_of way.In = Bulk ∷ Interrupt ∷ Iso ∷ []
kinds_of way.Out = Bulk ∷ Interrupt ∷ Iso ∷ []

-- some endpoint of this way could answer so; only of one that is declared it is known whether it has epochs
abbrev pub some_answer : Way → Answer → Bool
some_answer w answer.Epoch = true
some_answer w a = list_any (λ kind. can_answer w a kind 1024) (kinds_of w)

-- a hub answers for itself; an endpoint that isn't declared is in range where some endpoint is
abbrev pub reply_ranged : Draft → Name → Answer → Bool
reply_ranged w name a = not (is_some (hub_ep w name)) && option_map_or (λ d. can_answer name.way a d.kind d.max) (device_ep w name) (some_answer name.way a)

abbrev pub by_ranged : Draft → Name → Option ℕ → Bool
by_ranged w name by = option_map_or (λ m. option_map_or (λ d. nat_lt 0 d.max && m % d.max == 0) (known w name) true) by true

-- the bytes of the data stage that the host sends: wLength where bit 7 of bmRequestType is 0 (USB 2.0, 9.3)
abbrev pub out_len : List ℕ → ℕ
out_len setup = if nat_lt (slice_index setup 0) 128 then slice_index setup 6 + 256 * slice_index setup 7 else 0

abbrev pub control_ranged : ControlLine → Bool
control_ranged c = option_map_or (λ bytes. nat_lt 0 (length bytes) && length bytes == out_len c.setup) c.bytes (out_len c.setup == 0)

-- the ranges of any isochronous endpoint
abbrev pub is_slots : IsoLine → Bool
is_slots l = within 1 8 l.count && nat_le l.len 3072 && nat_le l.seed 255

abbrev pub iso_ranged : Draft → IsoLine → Bool
iso_ranged w l = is_slots l && option_map_or (λ d. nat_le l.len (d.max * d.multi)) (known w l.name) true

-- stuffed bits count below a hub alone; an endpoint that isn't declared may be there (USB 2.0, 7.1.9)
abbrev pub stuff_ranged : Draft → Name → Bool
stuff_ranged w name = not (is_some (hub_ep w name)) && option_map_or (λ d. is_some d.hub) (device_ep w name) true

-- what the line says is in range
abbrev pub in_range : Draft → Statement → Bool
in_range w (says.Mem n) = within 2048 most_memory n && n % 1024 == 0
in_range w (says.Hub addr ports multi) = within 1 127 addr && within 1 15 ports
in_range w (says.DevHigh addr) = within 1 127 addr
in_range w (says.DevBelow b) = within 1 127 b.addr
in_range w (says.Ep l) = ep_ranged w l
in_range w (says.Reply name a) = reply_ranged w name a
in_range w (says.Stuff name p) = nat_le p 6 && stuff_ranged w name
in_range w (says.Hold first last) = nat_le first last
in_range w (says.Get l) = by_ranged w l.name l.by
in_range w (says.Put l) = by_ranged w l.name l.by
in_range w (says.Control c) = control_ranged c
in_range w (says.Iso l) = iso_ranged w l
in_range w _ = true
