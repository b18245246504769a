-- Which causes a line has, and the script after it.
use Rattle.std.specs.Prelude.{ℕ, ◌+◌, ◌-◌, Bool, true, false, ◌==◌, ◌&&◌, ◌||◌, not, nat_le, nat_lt, if◌then◌else◌, List, [], ◌∷◌, ◌++◌, length, min, replicate, Option, Some, None, is_some, unwrap_or, slice_get, slice_set}
use Rattle.std.specs.List.{list_any}
use Rattle.std.specs.Option.{option_map_or, option_flatten}
use Rattle.usb_base.specs.declared.packets.Way.TheVariants as way
use Rattle.usb_base.specs.declared.packets.Speed.{Speed}
use Rattle.usb_base.specs.declared.packets.Speed.TheVariants as speed
use Rattle.usb_base.specs.declared.endpoints.EpName.{EpName}
use Rattle.usb_base.specs.declared.endpoints.EpDesc.{EpDesc}
use Rattle.usb_base.specs.declared.commands.Cmd.{Cmd}
use Rattle.usb_base.specs.declared.commands.Cmd.TheVariants as cmd
use Rattle.usb_base.specs.Limits.{longest_qtd}
use Rattle.script_types.specs.declared.devices.EpText.{EpText}
use Rattle.script_types.specs.declared.devices.HubText.{HubText}
use Rattle.script_types.specs.declared.devices.Item.{Item}
use Rattle.script_types.specs.declared.devices.Item.TheVariants as item
use Rattle.script_types.specs.declared.scripts.FateText.{FateText}
use Rattle.script_types.specs.declared.scripts.Line.TheVariants as line
use Rattle.script_forms.specs.declared.causes.TextWhy.{TextWhy}
use Rattle.script_forms.specs.declared.causes.TextWhy.TheVariants as C
use Rattle.script_forms.specs.declared.table.FirstWord.{FirstWord}
use Rattle.script_forms.specs.declared.table.FirstWord.TheVariants as F
use Rattle.script_forms.specs.declared.statements.Name.{Name}
use Rattle.script_forms.specs.declared.statements.Below.{Below}
use Rattle.script_forms.specs.declared.statements.EpLine.{EpLine}
use Rattle.script_forms.specs.declared.statements.FateLine.{FateLine}
use Rattle.script_forms.specs.declared.statements.IsoLine.{IsoLine}
use Rattle.script_forms.specs.declared.statements.ControlLine.{ControlLine}
use Rattle.script_forms.specs.declared.statements.PutLine.{PutLine}
use Rattle.script_forms.specs.declared.statements.GetLine.{GetLine}
use Rattle.script_forms.specs.declared.statements.Content.{Content}
use Rattle.script_forms.specs.declared.statements.Content.TheVariants as content
use Rattle.script_forms.specs.declared.statements.Answer.{Answer}
use Rattle.script_forms.specs.declared.statements.Answer.TheVariants as answer
use Rattle.script_forms.specs.declared.statements.Statement.{Statement}
use Rattle.script_forms.specs.declared.statements.Statement.TheVariants as says
use Rattle.script_world.specs.Draft.{Draft, Placed, same_way, is_named, speed_of, device_of, hub_of, ep_text, epochs_after, device_ep, known, change, filled, packets}
use Rattle.script_world.specs.Ranges.{in_range, is_endpoint, is_slots, within}

-- the endpoint of a request to a device
abbrev pub control_name : ℕ → Name
control_name addr = record { addr = addr; num = 0; way = way.Ctl }

-- what the line names is declared
abbrev pub is_known : Draft → Statement → Bool
is_known w (says.DevBelow b) = option_map_or (λ h. within 1 h.ports b.port) (hub_of w.hubs b.hub) false
is_known w (says.Ep l) = is_some (speed_of w l.name.addr)
is_known w (says.Reply name a) = is_some (known w name)
is_known w (says.Fate f) = is_some (known w f.name)
is_known w (says.Stuff name p) = is_some (known w name)
is_known w (says.Open name) = is_some (known w name)
is_known w (says.Cancel name) = is_some (known w name)
is_known w (says.Clear name) = is_some (known w name)
is_known w (says.Get l) = is_some (known w l.name)
is_known w (says.Put l) = is_some (known w l.name)
is_known w (says.Control c) = is_some (known w (control_name c.addr))
is_known w (says.Iso l) = is_some (known w l.name)
is_known w _ = true

-- a hub or device has this address
abbrev pub is_used : Draft → ℕ → Bool
is_used w a = is_some (hub_of w.hubs a) || is_some (device_of w.devices a)

-- a device is attached to the port
abbrev pub is_attached : Draft → ℕ → ℕ → Bool
is_attached w hub port = option_map_or (λ h. is_some (option_flatten (slice_get h.attached (port - 1)))) (hub_of w.hubs hub) false

abbrev pub same_bus : Bool → Bool → Bool
same_bus true b = b
same_bus false b = not b

-- the fate is of this packet
abbrev pub is_fated : FateLine → FateText → Bool
is_fated f t = t.k == f.k && same_bus t.down f.down && t.name.addr == f.name.addr && t.name.num == f.name.num && same_way t.name.way f.name.way

-- the endpoint has this name
abbrev pub has_name : Name → EpName → Bool
has_name name e = e.addr == name.addr && e.num == name.num && same_way e.way name.way

-- the line says again what was said
abbrev pub is_twice : Draft → Statement → Bool
is_twice w (says.Mem n) = is_some w.words
is_twice w (says.Hub addr ports multi) = is_used w addr
is_twice w (says.DevHigh addr) = is_used w addr
is_twice w (says.DevBelow b) = is_used w b.addr || is_attached w b.hub b.port
is_twice w (says.Ep l) = is_some (device_ep w l.name)
is_twice w (says.Fate f) = list_any (is_fated f) w.fates
is_twice w (says.Stuff name p) = list_any (has_name name) w.stuffed
is_twice w _ = false

-- how many bytes a line scripts
abbrev pub answer_len : Answer → ℕ
answer_len (answer.Data bytes) = length bytes
answer_len (answer.Fill n seed) = n
answer_len (answer.Request setup bytes) = length bytes
answer_len _ = 0

abbrev pub content_len : Content → ℕ
content_len (content.Given bytes) = length bytes
content_len (content.Fill n seed) = n

abbrev pub bytes_len : Option (List ℕ) → ℕ
bytes_len bytes = option_map_or (λ bs. length bs) bytes 0

-- one more command
abbrev pub may_command : Draft → Bool
may_command w = nat_lt w.commands 4096

-- n more scripted bytes
abbrev pub may_script : Draft → ℕ → Bool
may_script w n = nat_le (w.scripted + n) 4194304

-- an endpoint has at most 16 epochs behind its first
abbrev pub may_begin : Draft → Name → Answer → Bool
may_begin w name answer.Epoch = option_map_or (λ e. nat_lt (epochs_after e) 16) (ep_text w name) true
may_begin w name _ = true

-- the limits of a whole script leave room for the line
abbrev pub has_room : Draft → Statement → Bool
has_room w (says.Mem n) = true
has_room w (says.Hub addr ports multi) = nat_lt (length w.hubs) 8
has_room w (says.DevHigh addr) = nat_lt (length w.devices) 127
has_room w (says.DevBelow b) = nat_lt (length w.devices) 127
has_room w (says.Ep l) = nat_lt (length w.endpoints) 256
has_room w (says.Reply name a) = may_begin w name a && may_script w (answer_len a)
has_room w (says.Fate f) = nat_lt (length w.fates) 4096
has_room w (says.Stuff name p) = true
has_room w (says.Hold first last) = nat_lt (length w.holds) 256
has_room w (says.Open name) = may_command w
has_room w (says.Cancel name) = may_command w
has_room w (says.Clear name) = may_command w
has_room w (says.Get l) = may_command w && nat_le (w.asked + l.len) 4194304
has_room w (says.Put l) = may_command w && may_script w (content_len l.content)
has_room w (says.Control c) = may_command w && may_script w (bytes_len c.bytes)
has_room w (says.Iso l) = may_command w
has_room w (says.Order event n) = nat_le n 1000000 && nat_le (w.steps + n) 4000000
has_room w (says.Micro n) = nat_le (w.microframes + n) 16384
has_room w says.Unbuilt = true

-- the first cause of a line whose words fit a form
abbrev pub cause_of : Draft → Statement → Option TextWhy
cause_of w s =
    if not (in_range w s) then Some C.Range
    else if not (is_known w s) then Some C.Unknown
    else if is_twice w s then Some C.Twice
    else if not (has_room w s) then Some C.Limit
    else None

-- lines that tell of the world, all but the memory's
abbrev pub is_world : FirstWord → Bool
is_world F.Hub = true
is_world F.Dev = true
is_world F.Ep = true
is_world F.Reply = true
is_world F.Fate = true
is_world F.Hold = true
is_world F.Stuff = true
is_world F.Epoch = true
is_world _ = false

-- the line comes too late: the world after an action, the memory after anything of the world
abbrev pub is_late : Draft → FirstWord → Bool
is_late w F.Mem = w.declaring || w.acting
is_late w first = is_world first && w.acting

-- what an endpoint does next
abbrev pub items_of : ℕ → Answer → List Item
items_of max (answer.Data bytes) = item.Bytes bytes ∷ []
items_of max (answer.Fill n seed) = packets max (filled n seed)
items_of max (answer.Nak k) = item.Nak k ∷ []
items_of max answer.Nyet = item.Nyet ∷ []
items_of max answer.Stall = item.Stall ∷ []
items_of max (answer.Request setup bytes) = item.Request setup bytes ∷ []
items_of max answer.Epoch = item.Epoch ∷ []

abbrev pub answered : Answer → EpText → EpText
answered a e = record e { items = e.items ++ items_of e.desc.max a }

-- a count after n more; it stands still at the last number of 32 bits
abbrev pub counted : ℕ → ℕ → ℕ
counted a n = min (a + n) 4294967295

abbrev pub roomier : ℕ → EpText → EpText
roomier n e = record e { room = counted e.room n }

-- stuffed bits make the packets of an endpoint longer by p bytes in 36
abbrev pub stuffed : ℕ → EpText → EpText
stuffed p e = record e { stuff = p }

-- an endpoint is changed
abbrev pub at_ep : Name → (EpText → EpText) → List Placed → List Placed
at_ep name f ds = change (λ d. d.addr == name.addr) (λ d. record d { eps = change (is_named name) f d.eps }) ds

abbrev pub name_of : Name → EpName
name_of name = record { addr = name.addr; num = name.num; way = name.way }

-- a device is attached to a port
abbrev pub attach : ℕ → Speed → HubText → HubText
attach port s h = record h { attached = slice_set h.attached (port - 1) (Some s) }

-- a device with no endpoints yet
abbrev pub device : ℕ → Speed → Option ℕ → ℕ → ℕ → Placed
device addr s hub port tt = record { addr = addr; speed = s; hub = hub; port = port; tt = tt; eps = [] }

abbrev pub desc_of : EpLine → Placed → EpDesc
desc_of l d = record {
  name = record { addr = d.addr; num = l.name.num; way = l.name.way };
  speed = d.speed;
  kind = l.kind;
  max = l.max;
  period = l.period;
  multi = l.multi;
  hub = d.hub;
  port = d.port;
  tt = d.tt;
}

abbrev pub with_ep : EpLine → Placed → Placed
with_ep l d = record d { eps = d.eps ++ record { desc = desc_of l d; items = []; room = 0; stuff = 0; clears = 0 } ∷ [] }

abbrev pub content_bytes : Content → List ℕ
content_bytes (content.Given bytes) = bytes
content_bytes (content.Fill n seed) = filled n seed

-- a command on line n
abbrev pub commanded : Draft → ℕ → Cmd → Draft
commanded w n c = record w { acting = true; commands = counted w.commands 1; lines = w.lines ++ (n, line.Command c) ∷ [] }

-- what a line on an endpoint makes, which is nothing where the endpoint isn't declared
abbrev pub where_known : Draft → Name → Draft → Draft
where_known w name v = if is_some (known w name) then v else w

-- the bytes of a qTD
abbrev pub by_of : Option ℕ → ℕ
by_of by = unwrap_or by longest_qtd

-- an OUT endpoint has room for what is put to it
abbrev pub put_room : Name → ℕ → List Placed → List Placed
put_room name n ds = if same_way name.way way.Out then at_ep name (roomier n) ds else ds

abbrev pub after_hub : Draft → ℕ → ℕ → Bool → Draft
after_hub w addr ports multi =
    if within 1 127 addr && within 1 15 ports then
    record w {
      declaring = true;
      hubs = w.hubs ++ record { addr = addr; ports = ports; attached = replicate ports None; multi = multi } ∷ [];
    }
    else w

abbrev pub after_high : Draft → ℕ → Draft
after_high w addr =
    if within 1 127 addr then record w { declaring = true; devices = w.devices ++ device addr speed.High None 0 0 ∷ [] } else w

-- the translator of a port: the port where the hub has one for each, else 0
abbrev pub translator_of : Bool → ℕ → ℕ
translator_of multi port = if multi then port else 0

-- the translator of a device on a port of a declared hub
abbrev pub translator_below : Draft → Below → ℕ
translator_below w b = option_map_or (λ h. translator_of h.multi b.port) (hub_of w.hubs b.hub) 0

-- a device on a port of a hub of these addresses, behind a translator
abbrev pub placed_below : ℕ → ℕ → ℕ → Below → Draft → Draft
placed_below addr hub tt b w = record w {
  declaring = true;
  hubs = change (λ h. h.addr == b.hub) (attach b.port b.speed) w.hubs;
  devices = w.devices ++ device addr b.speed (Some hub) b.port tt ∷ [];
}

abbrev pub after_below : Draft → Below → Draft
after_below w b =
    if within 1 127 b.addr && nat_le b.hub 127 && is_known w (says.DevBelow b) then placed_below b.addr b.hub (translator_below w b) b w else w

abbrev pub after_ep : Draft → EpLine → Draft
after_ep w l =
    if is_endpoint l && is_some (device_of w.devices l.name.addr) then
    record w { declaring = true; devices = change (λ d. d.addr == l.name.addr) (with_ep l) w.devices; endpoints = w.endpoints ++ name_of l.name ∷ [] }
    else w

abbrev pub after_reply : Draft → Name → Answer → Draft
after_reply w name a = record w { declaring = true; scripted = counted w.scripted (answer_len a); devices = at_ep name (answered a) w.devices }

abbrev pub after_fate : Draft → FateLine → Draft
after_fate w f = where_known w f.name (record w { declaring = true; fates = w.fates ++ record { name = name_of f.name; down = f.down; k = f.k; fate = f.fate } ∷ [] })

abbrev pub after_stuff : Draft → Name → ℕ → Draft
after_stuff w name p =
    if nat_le p 6 then
    where_known w name (record w { declaring = true; stuffed = w.stuffed ++ name_of name ∷ []; devices = at_ep name (stuffed p) w.devices })
    else w

abbrev pub after_open : Draft → ℕ → Name → Draft
after_open w n name = option_map_or (λ d. commanded w n (cmd.OpenEp d)) (known w name) w

abbrev pub after_cancel : Draft → ℕ → Name → Draft
after_cancel w n name = where_known w name (commanded w n (cmd.Cancel (name_of name)))

abbrev pub after_clear : Draft → ℕ → Name → Draft
after_clear w n name = where_known w name (commanded w n (cmd.Clear (name_of name)))

abbrev pub after_get : Draft → ℕ → GetLine → Draft
after_get w n l = where_known w l.name (commanded (record w { asked = counted w.asked l.len }) n (cmd.Get (name_of l.name) l.len (by_of l.by)))

abbrev pub after_put : Draft → ℕ → PutLine → Draft
after_put w n l =
    where_known w l.name
    (commanded (record w { scripted = counted w.scripted (content_len l.content); devices = put_room l.name (content_len l.content) w.devices }) n
    (cmd.Put (name_of l.name) (content_bytes l.content) (by_of l.by)))

abbrev pub after_control : Draft → ℕ → ControlLine → Draft
after_control w n c =
    where_known w (control_name c.addr)
    (commanded (record w { scripted = counted w.scripted (bytes_len c.bytes) }) n
    (cmd.Control (name_of (control_name c.addr)) c.setup (unwrap_or c.bytes [])))

abbrev pub after_iso : Draft → ℕ → IsoLine → Draft
after_iso w n l = if is_slots l then where_known w l.name (commanded w n (cmd.Iso (name_of l.name) l.count l.len l.seed)) else w

-- the script after line n, where the line has no cause
abbrev pub after : Draft → ℕ → Statement → Draft
after w n (says.Mem words) = record w { words = Some words }
after w n (says.Hub addr ports multi) = after_hub w addr ports multi
after w n (says.DevHigh addr) = after_high w addr
after w n (says.DevBelow b) = after_below w b
after w n (says.Ep l) = after_ep w l
after w n (says.Reply name a) = after_reply w name a
after w n (says.Fate f) = after_fate w f
after w n (says.Stuff name p) = after_stuff w name p
after w n (says.Hold first last) = record w { declaring = true; holds = w.holds ++ (first, last) ∷ [] }
after w n (says.Open name) = after_open w n name
after w n (says.Cancel name) = after_cancel w n name
after w n (says.Clear name) = after_clear w n name
after w n (says.Get l) = after_get w n l
after w n (says.Put l) = after_put w n l
after w n (says.Control c) = after_control w n c
after w n (says.Iso l) = after_iso w n l
after w n (says.Order event k) = record w { acting = true; steps = counted w.steps k; lines = w.lines ++ (n, line.Order event k) ∷ [] }
after w n (says.Micro k) = record w { acting = true; microframes = counted w.microframes k; lines = w.lines ++ (n, line.Micro k) ∷ [] }
after w n says.Unbuilt = w

-- the script after line n, whose words fit a form: as it was where the line has a cause
abbrev pub taken : Draft → ℕ → Statement → Draft
taken w n s = option_map_or (λ why. w) (cause_of w s) (after w n s)
