-- Each line leaves the addresses of hubs in their range: 7 bits.
use Rattle.std.proofs.Common.{◌≡◌, ℕ, ◌<◌, Bool, true, List, Option, Some, None, arith}
use Rattle.std.specs.Prelude.{◌==◌, ◌&&◌, nat_le, is_some, unwrap_or}
use Rattle.std.specs.List.{AllByRecursion, find}
use Rattle.std.specs.Option.{option_map, option_map_or, option_and_then, option_or}
use Rattle.std.proofs.lemmas.Bool.{cond_both, and_parts, leb-true}
use Rattle.law_scripts.proofs.Common.{all_change}
use Rattle.law_common.proofs.Lists.{all_both}
use Rattle.usb_base.specs.declared.packets.Way.TheVariants as way
use Rattle.usb_base.specs.declared.endpoints.EpDesc.{EpDesc}
use Rattle.usb_base.specs.declared.commands.Cmd.{Cmd}
use Rattle.usb_base.specs.declared.commands.Cmd.TheVariants as cmd
use Rattle.script_types.specs.declared.devices.EpText.{EpText}
use Rattle.script_types.specs.declared.devices.HubText.{HubText}
use Rattle.script_types.specs.declared.scripts.Line.{Line}
use Rattle.script_types.specs.declared.scripts.Line.TheVariants as lines
use Rattle.script_forms.specs.declared.statements.Name.{Name}
use Rattle.script_forms.specs.declared.statements.Below.{Below}
use Rattle.script_forms.specs.declared.statements.EpLine.{EpLine}
use Rattle.script_forms.specs.declared.statements.Statement.{Statement}
use Rattle.script_forms.specs.declared.statements.Statement.TheVariants as says
use Rattle.script_world.specs.Draft.{Draft, Placed, device_ep, hub_ep, hub_desc, hub_of, device_of, ep_of, is_name, known, same_way, is_named, change}
use Rattle.script_world.specs.Ranges.{within, is_endpoint, is_slots}
use Rattle.script_world.specs.Rows.{is_known, answered, counted, roomier, stuffed, at_ep, name_of, with_ep, content_len, bytes_len}
use Rattle.script_world.specs.Rows.{commanded, where_known, put_room, control_name, after_hub, after_below, after}
use Rattle.law_scripts.proofs.lemmas.byte_answers.Lists.{Holds, found}

abbrev pub IsBelow : EpDesc → Type 0
IsBelow x = unwrap_or x.hub 0 < 128

abbrev pub OpensBelow : Cmd → Type 0
OpensBelow (cmd.OpenEp x) = IsBelow x
OpensBelow _ = Unit {0}

abbrev pub BelowLine : Line → Type 0
BelowLine (lines.Command c) = OpensBelow c
BelowLine _ = Unit {0}

abbrev pub IsBelowEp : EpText → Type 0
IsBelowEp e = IsBelow e.desc

pub record IsBelowDevice (d : Placed) : Type 0 where
  pub hub : unwrap_or d.hub 0 < 128
  pub eps : AllByRecursion IsBelowEp d.eps

pub record IsBelowDraft (w : Draft) : Type 0 where
  pub devices : AllByRecursion IsBelowDevice w.devices
  pub lines : AllByRecursion (λ x. BelowLine x.1) w.lines

-- ---- endpoints that are known

mapped : {X Y : Type 0} (P : X → Type 0) (Q : Y → Type 0) (f : X → Y) (x : Option X) → ((a : X) → P a → Q (f a)) → Holds P x → Holds Q (option_map f x)
mapped P Q f None g h = tt
mapped P Q f (Some x) g h = g x h

then_holds : {X Y : Type 0} (P : X → Type 0) (Q : Y → Type 0) (f : X → Option Y) (x : Option X) → ((a : X) → P a → Holds Q (f a)) → Holds P x → Holds Q (option_and_then f x)
then_holds P Q f None g h = tt
then_holds P Q f (Some x) g h = g x h

or_holds : {X : Type 0} (P : X → Type 0) (x y : Option X) → Holds P x → Holds P y → Holds P (option_or x y)
or_holds P None y h k = k
or_holds P (Some x) y h k = h

device_ep_below : (w : Draft) (name : Name) → IsBelowDraft w → Holds IsBelow (device_ep w name)
device_ep_below w name h =
    then_holds IsBelowDevice IsBelow (λ d. ep_of d.eps name) (device_of w.devices name.addr)
    (λ d k. mapped IsBelowEp IsBelow (λ e. e.desc) (find (is_named name) d.eps) (λ e is. is) (found IsBelowEp (is_named name) d.eps k.eps))
    (found IsBelowDevice (λ d. d.addr == name.addr) w.devices h.devices)

-- a hub's own endpoint is below none
own_below : (o : Option HubText) → Holds IsBelow (option_map (λ (x : HubText). hub_desc x.addr) o)
own_below None = tt
own_below (Some x) = omega arith

hub_ep_below : (w : Draft) (name : Name) → Holds IsBelow (hub_ep w name)
hub_ep_below w name =
    cond_both (name.num == 0 && same_way name.way way.Ctl) (option_map (λ x. hub_desc x.addr) (hub_of w.hubs name.addr)) None (Holds IsBelow) (λ _. own_below (hub_of w.hubs name.addr)) (λ _. tt)

known_below : (w : Draft) (name : Name) → IsBelowDraft w → Holds IsBelow (known w name)
known_below w name h =
    cond_both (is_name name) (option_or (device_ep w name) (hub_ep w name)) None (Holds IsBelow)
    (λ _. or_holds IsBelow (device_ep w name) (hub_ep w name) (device_ep_below w name h) (hub_ep_below w name))
    (λ _. tt)

-- ---- what is declared

with_ep_below : (l : EpLine) (d : Placed) → IsBelowDevice d → IsBelowDevice (with_ep l d)
with_ep_below l d h = record { hub = h.hub; eps = all_both IsBelowEp d.eps _ h.eps (h.hub, tt) }

at_ep_below : (name : Name) (f : EpText → EpText) (ds : List Placed) → ((e : EpText) → IsBelowEp e → IsBelowEp (f e)) → AllByRecursion IsBelowDevice ds → AllByRecursion IsBelowDevice (at_ep name f ds)
at_ep_below name f ds g h =
    all_change IsBelowDevice (λ d. d.addr == name.addr) (λ d. record d { eps = change (is_named name) f d.eps }) ds
    (λ d k. record { hub = k.hub; eps = all_change IsBelowEp (is_named name) f d.eps g k.eps }) h

put_room_below : (name : Name) (n : ℕ) (ds : List Placed) → AllByRecursion IsBelowDevice ds → AllByRecursion IsBelowDevice (put_room name n ds)
put_room_below name n ds h =
    cond_both (same_way name.way way.Out) (at_ep name (roomier n) ds) ds (AllByRecursion IsBelowDevice) (λ _. at_ep_below name (roomier n) ds (λ e k. k) h) (λ _. h)

hub_below : (w : Draft) (addr ports : ℕ) (multi : Bool) → IsBelowDraft w → IsBelowDraft (after_hub w addr ports multi)
hub_below w addr ports multi h =
    cond_both (within 1 127 addr && within 1 15 ports) _ w IsBelowDraft (λ _. record { devices = h.devices; lines = h.lines }) (λ _. h)

low : (addr : ℕ) → nat_le addr 127 ≡ true → addr < 128
low addr e = let most = leb-true addr 127 e in omega (arith, most)

below_below : (w : Draft) (b : Below) → IsBelowDraft w → IsBelowDraft (after_below w b)
below_below w b h =
    cond_both (within 1 127 b.addr && nat_le b.hub 127 && is_known w (says.DevBelow b)) _ w IsBelowDraft
    (λ e. record {
      devices =
          all_both IsBelowDevice w.devices _ h.devices (
            record {
              hub = low b.hub (and_parts (within 1 127 b.addr) (nat_le b.hub 127) (and_parts (within 1 127 b.addr && nat_le b.hub 127) (is_known w (says.DevBelow b)) e).0).1;
              eps = tt;
            },
            tt,
          );
      lines = h.lines;
    })
    (λ _. h)

-- ---- commands

commanded_below : (w : Draft) (n : ℕ) (c : Cmd) → OpensBelow c → IsBelowDraft w → IsBelowDraft (commanded w n c)
commanded_below w n c k h = record { devices = h.devices; lines = all_both (λ x. BelowLine x.1) w.lines _ h.lines (k, tt) }

where_below : (w : Draft) (name : Name) (v : Draft) → IsBelowDraft w → IsBelowDraft v → IsBelowDraft (where_known w name v)
where_below w name v h k = cond_both (is_some (known w name)) v w IsBelowDraft (λ _. k) (λ _. h)

opened_below : (w : Draft) (n : ℕ) (x : Option EpDesc) → Holds IsBelow x → IsBelowDraft w → IsBelowDraft (option_map_or (λ d. commanded w n (cmd.OpenEp d)) x w)
opened_below w n None k h = h
opened_below w n (Some d) k h = commanded_below w n (cmd.OpenEp d) k h

-- ---- any line

pub after_below_hubs : (w : Draft) (n : ℕ) (s : Statement) → IsBelowDraft w → IsBelowDraft (after w n s)
after_below_hubs w n (says.Hub addr ports multi) h = hub_below w addr ports multi h
after_below_hubs w n (says.DevHigh addr) h =
    cond_both (within 1 127 addr) _ w IsBelowDraft
    (λ e. record { devices = all_both IsBelowDevice w.devices _ h.devices (record { hub = omega arith; eps = tt }, tt); lines = h.lines }) (λ _. h)
after_below_hubs w n (says.DevBelow b) h = below_below w b h
after_below_hubs w n (says.Ep l) h =
    cond_both (is_endpoint l && is_some (device_of w.devices l.name.addr)) _ w IsBelowDraft
    (λ e. record {
      devices = all_change IsBelowDevice (λ d. d.addr == l.name.addr) (with_ep l) w.devices (λ d k. with_ep_below l d k) h.devices;
      lines = h.lines;
    }) (λ _. h)
after_below_hubs w n (says.Reply name a) h = record { devices = at_ep_below name (answered a) w.devices (λ e k. k) h.devices; lines = h.lines }
after_below_hubs w n (says.Fate f) h = where_below w f.name _ h (record { devices = h.devices; lines = h.lines })
after_below_hubs w n (says.Stuff name p) h =
    cond_both (nat_le p 6) _ w IsBelowDraft
    (λ _. where_below w name _ h (record { devices = at_ep_below name (stuffed p) w.devices (λ e k. k) h.devices; lines = h.lines }))
    (λ _. h)
after_below_hubs w n (says.Open name) h = opened_below w n (known w name) (known_below w name h) h
after_below_hubs w n (says.Cancel name) h = where_below w name _ h (commanded_below w n (cmd.Cancel (name_of name)) tt h)
after_below_hubs w n (says.Clear name) h = where_below w name _ h (commanded_below w n (cmd.Clear (name_of name)) tt h)
after_below_hubs w n (says.Get l) h = where_below w l.name _ h (commanded_below (record w { asked = counted w.asked l.len }) n _ tt (record { devices = h.devices; lines = h.lines }))
after_below_hubs w n (says.Put l) h =
    where_below w l.name _ h
    (commanded_below (record w { scripted = counted w.scripted (content_len l.content); devices = put_room l.name (content_len l.content) w.devices }) n _ tt
    (record { devices = put_room_below l.name _ w.devices h.devices; lines = h.lines }))
after_below_hubs w n (says.Control c) h =
    where_below w (control_name c.addr) _ h (commanded_below (record w { scripted = counted w.scripted (bytes_len c.bytes) }) n _ tt (record { devices = h.devices; lines = h.lines }))
after_below_hubs w n (says.Iso l) h =
    cond_both (is_slots l) _ w IsBelowDraft (λ _. where_below w l.name _ h (commanded_below w n (cmd.Iso (name_of l.name) l.count l.len l.seed) tt h)) (λ _. h)
after_below_hubs w n (says.Order event k) h = record { devices = h.devices; lines = all_both (λ x. BelowLine x.1) w.lines _ h.lines (tt, tt) }
after_below_hubs w n (says.Micro k) h = record { devices = h.devices; lines = all_both (λ x. BelowLine x.1) w.lines _ h.lines (tt, tt) }
after_below_hubs w n _ h = record { devices = h.devices; lines = h.lines }
