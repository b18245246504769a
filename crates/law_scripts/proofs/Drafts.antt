-- Each line leaves addresses and numbers in their ranges.
use Rattle.std.proofs.Common.{◌≡◌, ℕ, ◌<◌, Bool, true, List, Option, Some, None, arith}
use Rattle.std.specs.Prelude.{◌==◌, ◌&&◌, nat_le, is_some}
use Rattle.std.specs.List.{AllByRecursion, find}
use Rattle.std.specs.Option.{option_map, option_map_or, option_and_then, option_or}
use Rattle.std.proofs.lemmas.Bool.{cond_both, and_parts, leb-true}
use Rattle.law_scripts.proofs.Common.{all_change}
use Rattle.law_common.proofs.Lists.{all_both}
use Rattle.usb_base.specs.declared.packets.Way.TheVariants as way
use Rattle.usb_base.specs.declared.endpoints.EpDesc.{EpDesc}
use Rattle.usb_base.specs.declared.commands.Cmd.{Cmd}
use Rattle.usb_base.specs.declared.commands.Cmd.TheVariants as cmd
use Rattle.script_types.specs.declared.devices.EpText.{EpText}
use Rattle.script_types.specs.declared.devices.HubText.{HubText}
use Rattle.script_forms.specs.declared.statements.Name.{Name}
use Rattle.script_forms.specs.declared.statements.Below.{Below}
use Rattle.script_forms.specs.declared.statements.EpLine.{EpLine}
use Rattle.script_forms.specs.declared.statements.Statement.{Statement}
use Rattle.script_forms.specs.declared.statements.Statement.TheVariants as says
use Rattle.script_world.specs.Draft.{Draft, Placed, device_ep, hub_ep, hub_desc, hub_of, device_of, ep_of, is_name, known, same_way, is_named, change}
use Rattle.script_world.specs.Ranges.{within, is_endpoint, is_slots}
use Rattle.script_world.specs.Rows.{is_known, answered, counted, roomier, stuffed, at_ep, attach, name_of, with_ep, content_len}
use Rattle.script_world.specs.Rows.{bytes_len, commanded, where_known, put_room, control_name, after_hub, after_below, after}
use Rattle.claims_driver.specs.Walk.{IsNumbered}
use Rattle.law_driver_ring.specs.walk_members.Reached.{OpensNumbered}
use Rattle.law_scripts.proofs.lemmas.byte_answers.Lists.{Holds, found}
use Rattle.law_scripts.specs.Numbers.{NumbersLine}

abbrev pub IsNumberedEp : EpText → Type 0
IsNumberedEp e = IsNumbered e.desc

pub record IsNumberedDevice (d : Placed) : Type 0 where
  pub addr : d.addr < 128
  pub eps : AllByRecursion IsNumberedEp d.eps

abbrev pub IsNumberedHub : HubText → Type 0
IsNumberedHub h = h.addr < 128

pub record IsNumberedDraft (w : Draft) : Type 0 where
  pub hubs : AllByRecursion IsNumberedHub w.hubs
  pub devices : AllByRecursion IsNumberedDevice w.devices
  pub lines : AllByRecursion (λ x. NumbersLine x.1) w.lines

-- ---- endpoints that are known

mapped : {X Y : Type 0} (P : X → Type 0) (Q : Y → Type 0) (f : X → Y) (x : Option X) → ((a : X) → P a → Q (f a)) → Holds P x → Holds Q (option_map f x)
mapped P Q f None g h = tt
mapped P Q f (Some x) g h = g x h

then_holds : {X Y : Type 0} (P : X → Type 0) (Q : Y → Type 0) (f : X → Option Y) (x : Option X) → ((a : X) → P a → Holds Q (f a)) → Holds P x → Holds Q (option_and_then f x)
then_holds P Q f None g h = tt
then_holds P Q f (Some x) g h = g x h

or_holds : {X : Type 0} (P : X → Type 0) (x y : Option X) → Holds P x → Holds P y → Holds P (option_or x y)
or_holds P None y h k = k
or_holds P (Some x) y h k = h

device_ep_numbers : (w : Draft) (name : Name) → IsNumberedDraft w → Holds IsNumbered (device_ep w name)
device_ep_numbers w name h =
    then_holds IsNumberedDevice IsNumbered (λ d. ep_of d.eps name) (device_of w.devices name.addr)
    (λ d k. mapped IsNumberedEp IsNumbered (λ e. e.desc) (find (is_named name) d.eps) (λ e is. is) (found IsNumberedEp (is_named name) d.eps k.eps))
    (found IsNumberedDevice (λ d. d.addr == name.addr) w.devices h.devices)

hub_ep_numbers : (w : Draft) (name : Name) → IsNumberedDraft w → Holds IsNumbered (hub_ep w name)
hub_ep_numbers w name h =
    cond_both (name.num == 0 && same_way name.way way.Ctl) (option_map (λ x. hub_desc x.addr) (hub_of w.hubs name.addr)) None (Holds IsNumbered)
    (λ _. mapped IsNumberedHub IsNumbered (λ (x : HubText). hub_desc x.addr) (hub_of w.hubs name.addr) (λ x is. (is, omega arith)) (found IsNumberedHub (λ x. x.addr == name.addr) w.hubs h.hubs))
    (λ _. tt)

known_numbers : (w : Draft) (name : Name) → IsNumberedDraft w → Holds IsNumbered (known w name)
known_numbers w name h =
    cond_both (is_name name) (option_or (device_ep w name) (hub_ep w name)) None (Holds IsNumbered)
    (λ _. or_holds IsNumbered (device_ep w name) (hub_ep w name) (device_ep_numbers w name h) (hub_ep_numbers w name h))
    (λ _. tt)

-- ---- what is declared

low : (addr : ℕ) → within 1 127 addr ≡ true → addr < 128
low addr e = let most = leb-true addr 127 (and_parts (nat_le 1 addr) (nat_le addr 127) e).1 in omega (arith, most)

num_low : (l : EpLine) → is_endpoint l ≡ true → l.name.num < 16
num_low l e =
    let a = and_parts (nat_le l.name.num 15 && within 1 1024 l.max && nat_le l.period 8192) (nat_le l.multi 3) e in
    let b = and_parts (nat_le l.name.num 15 && within 1 1024 l.max) (nat_le l.period 8192) a.0 in
    let most = leb-true l.name.num 15 (and_parts (nat_le l.name.num 15) (within 1 1024 l.max) b.0).0 in
    omega (arith, most)

with_ep_numbers : (l : EpLine) (d : Placed) → l.name.num < 16 → IsNumberedDevice d → IsNumberedDevice (with_ep l d)
with_ep_numbers l d num h = record { addr = h.addr; eps = all_both IsNumberedEp d.eps _ h.eps ((h.addr, num), tt) }

at_ep_numbers : (name : Name) (f : EpText → EpText) (ds : List Placed) → ((e : EpText) → IsNumberedEp e → IsNumberedEp (f e)) → AllByRecursion IsNumberedDevice ds → AllByRecursion IsNumberedDevice (at_ep name f ds)
at_ep_numbers name f ds g h =
    all_change IsNumberedDevice (λ d. d.addr == name.addr) (λ d. record d { eps = change (is_named name) f d.eps }) ds
    (λ d k. record { addr = k.addr; eps = all_change IsNumberedEp (is_named name) f d.eps g k.eps }) h

put_room_numbers : (name : Name) (n : ℕ) (ds : List Placed) → AllByRecursion IsNumberedDevice ds → AllByRecursion IsNumberedDevice (put_room name n ds)
put_room_numbers name n ds h =
    cond_both (same_way name.way way.Out) (at_ep name (roomier n) ds) ds (AllByRecursion IsNumberedDevice) (λ _. at_ep_numbers name (roomier n) ds (λ e k. k) h) (λ _. h)

hub_numbers : (w : Draft) (addr ports : ℕ) (multi : Bool) → IsNumberedDraft w → IsNumberedDraft (after_hub w addr ports multi)
hub_numbers w addr ports multi h =
    cond_both (within 1 127 addr && within 1 15 ports) _ w IsNumberedDraft
    (λ e. record { hubs = all_both IsNumberedHub w.hubs _ h.hubs (low addr (and_parts (within 1 127 addr) (within 1 15 ports) e).0, tt); devices = h.devices; lines = h.lines })
    (λ _. h)

below_numbers : (w : Draft) (b : Below) → IsNumberedDraft w → IsNumberedDraft (after_below w b)
below_numbers w b h =
    cond_both (within 1 127 b.addr && nat_le b.hub 127 && is_known w (says.DevBelow b)) _ w IsNumberedDraft
    (λ e. record {
      hubs = all_change IsNumberedHub (λ x. x.addr == b.hub) (attach b.port b.speed) w.hubs (λ x k. k) h.hubs;
      devices =
          all_both IsNumberedDevice w.devices _ h.devices
          (record { addr = low b.addr (and_parts (within 1 127 b.addr) (nat_le b.hub 127) (and_parts (within 1 127 b.addr && nat_le b.hub 127) (is_known w (says.DevBelow b)) e).0).0; eps = tt }, tt);
      lines = h.lines;
    })
    (λ _. h)

-- ---- commands

commanded_numbers : (w : Draft) (n : ℕ) (c : Cmd) → OpensNumbered c → IsNumberedDraft w → IsNumberedDraft (commanded w n c)
commanded_numbers w n c k h = record { hubs = h.hubs; devices = h.devices; lines = all_both (λ x. NumbersLine x.1) w.lines _ h.lines (k, tt) }

where_numbers : (w : Draft) (name : Name) (v : Draft) → IsNumberedDraft w → IsNumberedDraft v → IsNumberedDraft (where_known w name v)
where_numbers w name v h k = cond_both (is_some (known w name)) v w IsNumberedDraft (λ _. k) (λ _. h)

opened_numbers : (w : Draft) (n : ℕ) (x : Option EpDesc) → Holds IsNumbered x → IsNumberedDraft w → IsNumberedDraft (option_map_or (λ d. commanded w n (cmd.OpenEp d)) x w)
opened_numbers w n None k h = h
opened_numbers w n (Some d) k h = commanded_numbers w n (cmd.OpenEp d) k h

-- ---- any line

pub after_numbers : (w : Draft) (n : ℕ) (s : Statement) → IsNumberedDraft w → IsNumberedDraft (after w n s)
after_numbers w n (says.Hub addr ports multi) h = hub_numbers w addr ports multi h
after_numbers w n (says.DevHigh addr) h =
    cond_both (within 1 127 addr) _ w IsNumberedDraft
    (λ e. record { hubs = h.hubs; devices = all_both IsNumberedDevice w.devices _ h.devices (record { addr = low addr e; eps = tt }, tt); lines = h.lines }) (λ _. h)
after_numbers w n (says.DevBelow b) h = below_numbers w b h
after_numbers w n (says.Ep l) h =
    cond_both (is_endpoint l && is_some (device_of w.devices l.name.addr)) _ w IsNumberedDraft
    (λ e. record {
      hubs = h.hubs;
      devices =
          all_change IsNumberedDevice (λ d. d.addr == l.name.addr) (with_ep l) w.devices
          (λ d k. with_ep_numbers l d (num_low l (and_parts (is_endpoint l) (is_some (device_of w.devices l.name.addr)) e).0) k) h.devices;
      lines = h.lines;
    }) (λ _. h)
after_numbers w n (says.Reply name a) h = record { hubs = h.hubs; devices = at_ep_numbers name (answered a) w.devices (λ e k. k) h.devices; lines = h.lines }
after_numbers w n (says.Fate f) h = where_numbers w f.name _ h (record { hubs = h.hubs; devices = h.devices; lines = h.lines })
after_numbers w n (says.Stuff name p) h =
    cond_both (nat_le p 6) _ w IsNumberedDraft
    (λ _. where_numbers w name _ h (record { hubs = h.hubs; devices = at_ep_numbers name (stuffed p) w.devices (λ e k. k) h.devices; lines = h.lines }))
    (λ _. h)
after_numbers w n (says.Open name) h = opened_numbers w n (known w name) (known_numbers w name h) h
after_numbers w n (says.Cancel name) h = where_numbers w name _ h (commanded_numbers w n (cmd.Cancel (name_of name)) tt h)
after_numbers w n (says.Clear name) h = where_numbers w name _ h (commanded_numbers w n (cmd.Clear (name_of name)) tt h)
after_numbers w n (says.Get l) h =
    where_numbers w l.name _ h (commanded_numbers (record w { asked = counted w.asked l.len }) n _ tt (record { hubs = h.hubs; devices = h.devices; lines = h.lines }))
after_numbers w n (says.Put l) h =
    where_numbers w l.name _ h
    (commanded_numbers (record w { scripted = counted w.scripted (content_len l.content); devices = put_room l.name (content_len l.content) w.devices }) n _ tt
    (record { hubs = h.hubs; devices = put_room_numbers l.name _ w.devices h.devices; lines = h.lines }))
after_numbers w n (says.Control c) h =
    where_numbers w (control_name c.addr) _ h
    (commanded_numbers (record w { scripted = counted w.scripted (bytes_len c.bytes) }) n _ tt (record { hubs = h.hubs; devices = h.devices; lines = h.lines }))
after_numbers w n (says.Iso l) h =
    cond_both (is_slots l) _ w IsNumberedDraft (λ _. where_numbers w l.name _ h (commanded_numbers w n (cmd.Iso (name_of l.name) l.count l.len l.seed) tt h)) (λ _. h)
after_numbers w n (says.Order event k) h = record { hubs = h.hubs; devices = h.devices; lines = all_both (λ x. NumbersLine x.1) w.lines _ h.lines (tt, tt) }
after_numbers w n (says.Micro k) h = record { hubs = h.hubs; devices = h.devices; lines = all_both (λ x. NumbersLine x.1) w.lines _ h.lines (tt, tt) }
after_numbers w n _ h = record { hubs = h.hubs; devices = h.devices; lines = h.lines }
