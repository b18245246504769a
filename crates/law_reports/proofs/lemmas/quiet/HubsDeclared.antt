-- Each endpoint at low or full speed that a text opens is behind a port of a hub of the script.
use Rattle.std.proofs.Common.{◌≡◌, ℕ, zero, suc, ◌==◌, ◌&&◌, ◌||◌, nat_le, if◌then◌else◌, Bool, true, false, List, [], ◌∷◌, ◌++◌, length, replicate}
use Rattle.std.proofs.Common.{Option, Some, None, ap, refl, sym, subst, ◌∙◌}
use Rattle.std.specs.Prelude.{find, is_some, unwrap_or}
use Rattle.std.specs.List.{AllByRecursion, list_any}
use Rattle.std.specs.Option.{option_map, option_map_or, option_and_then, option_or}
use Rattle.std.proofs.lemmas.Bool.{cond_both, eqb-true, false≢true, true≢false}
use Rattle.std.proofs.lemmas.List.{length-set}
use Rattle.law_common.proofs.Lists.{all_both, all_more, nth_all}
use Rattle.usb_base.specs.declared.commands.Cmd.{Cmd}
use Rattle.usb_base.specs.declared.commands.Cmd.TheVariants as cmd
use Rattle.usb_base.specs.declared.endpoints.EpDesc.{EpDesc}
use Rattle.usb_base.specs.declared.packets.Speed.{Speed}
use Rattle.usb_base.specs.declared.packets.Way.TheVariants as way
use Rattle.script_types.specs.declared.devices.EpText.{EpText}
use Rattle.script_types.specs.declared.devices.HubText.{HubText}
use Rattle.script_types.specs.declared.scripts.Line.{Line}
use Rattle.script_types.specs.declared.scripts.Line.TheVariants as line
use Rattle.script_types.specs.declared.scripts.Script.{Script}
use Rattle.script_forms.specs.declared.statements.EpLine.{EpLine}
use Rattle.script_forms.specs.declared.statements.Name.{Name}
use Rattle.script_forms.specs.declared.statements.Statement.{Statement}
use Rattle.script_forms.specs.declared.statements.Statement.TheVariants as says
use Rattle.script_world.specs.Draft.{Draft, Placed, empty, script_of, hub_of, hub_ep, hub_desc, device_of, ep_of, device_ep, known, is_name, same_way}
use Rattle.script_world.specs.Draft.{is_named, change}
use Rattle.script_world.specs.Ranges.{within, is_endpoint, is_slots}
use Rattle.script_world.specs.Rows.{is_known, answered, counted, roomier, stuffed, at_ep, name_of, desc_of, with_ep, content_bytes}
use Rattle.script_world.specs.Rows.{content_len, bytes_len, commanded, where_known, put_room, control_name, attach, by_of, after}
use Rattle.claims_world.specs.BelowStreams.{has_port, has_hub}
use Rattle.drv_table.specs.Words.{is_high}
use Rattle.law_devices.proofs.Lists.{Holds, all_change, all_find, any_more, found_passes}
use Rattle.law_devices.proofs.Texts.{IsScriptOf, spelled_kept}
use Rattle.law_opened.specs.Opened.{IsOpened}
use Rattle.law_reports.specs.quiet.AwaitingLaws.{TextsHaveHubs}

abbrev pub has_at : List HubText → Option ℕ → ℕ → Bool
has_at hubs None port = false
has_at hubs (Some hub) port = option_map_or (has_port port) (find (λ h. h.addr == hub) hubs) false

abbrev HasPorts : HubText → Type 0
HasPorts h = length h.attached ≡ h.ports

record IsEpAt (a : ℕ) (s : Speed) (o : Option ℕ) (n : ℕ) (e : EpText) : Type 0 where
  address : e.desc.name.addr ≡ a
  speed : e.desc.speed ≡ s
  hub : e.desc.hub ≡ o
  port : e.desc.port ≡ n

record IsPlacedAt (hubs : List HubText) (d : Placed) : Type 0 where
  there : is_high d.speed ≡ false → has_at hubs d.hub d.port ≡ true
  eps : AllByRecursion (IsEpAt d.addr d.speed d.hub d.port) d.eps

abbrev pub has_device : List Placed → ℕ → Bool
has_device ds addr = list_any (λ (d : Placed). d.addr == addr) ds

-- an endpoint so described has its device, its hub and its port
pub record IsPlacedDesc (hubs : List HubText) (ds : List Placed) (x : EpDesc) : Type 0 where
  pub there : is_high x.speed ≡ false → has_at hubs x.hub x.port ≡ true
  pub device : is_high x.speed ≡ false → has_device ds x.name.addr ≡ true

abbrev pub IsPlacedLine : List HubText → List Placed → Line → Type 0
IsPlacedLine hubs ds (line.Command (cmd.OpenEp x)) = IsPlacedDesc hubs ds x
IsPlacedLine hubs ds _ = Unit {0}

abbrev pub ArePlaced : List HubText → List Placed → List (ℕ × Line) → Type 0
ArePlaced hubs ds ls = AllByRecursion (λ l. IsPlacedLine hubs ds l.1) ls

pub record IsPlacedDraft (w : Draft) : Type 0 where
  ports : AllByRecursion HasPorts w.hubs
  devices : AllByRecursion (IsPlacedAt w.hubs) w.devices
  pub lines : ArePlaced w.hubs w.devices w.lines

-- ---- hubs

abbrev Keeps_hubs : List HubText → List HubText → Type 0
Keeps_hubs hubs more = (hub : Option ℕ) (port : ℕ) → has_at hubs hub port ≡ true → has_at more hub port ≡ true

step : (port : ℕ) (b : Bool) (x y : HubText) (o p : Option HubText) → (has_port port x ≡ true → has_port port y ≡ true)
    → (option_map_or (has_port port) o false ≡ true → option_map_or (has_port port) p false ≡ true)
    → option_map_or (has_port port) (if b then Some x else o) false ≡ true
    → option_map_or (has_port port) (if b then Some y else p) false ≡ true
step port true x y o p one more h = one h
step port false x y o p one more h = more h

more_find : (hub port : ℕ) (hs es : List HubText) → option_map_or (has_port port) (find (λ (h : HubText). h.addr == hub) hs) false ≡ true
    → option_map_or (has_port port) (find (λ (h : HubText). h.addr == hub) (hs ++ es)) false ≡ true
more_find hub port [] es h = absurd (false≢true h)
more_find hub port (x ∷ hs) es h =
    step port (x.addr == hub) x x (find (λ (h : HubText). h.addr == hub) hs) (find (λ (h : HubText). h.addr == hub) (hs ++ es)) (λ z. z)
    (more_find hub port hs es) h

more_hubs : (hs es : List HubText) → Keeps_hubs hs (hs ++ es)
more_hubs hs es None port h = absurd (false≢true h)
more_hubs hs es (Some hub) port h = more_find hub port hs es h

attached_port : (port at : ℕ) (speed : Speed) (x : HubText) → has_port port x ≡ true → has_port port (attach at speed x) ≡ true
attached_port port at speed x h =
    ap (λ (n : ℕ). nat_le 1 port && nat_le port n) (length-set x.attached _ (Some speed)) ∙ h

attach_find : (hub port at : ℕ) (speed : Speed) (p : HubText → Bool) (hs : List HubText)
    → option_map_or (has_port port) (find (λ (h : HubText). h.addr == hub) hs) false ≡ true
    → option_map_or (has_port port) (find (λ (h : HubText). h.addr == hub) (change p (attach at speed) hs)) false ≡ true
attach_find hub port at speed p [] h = h
attach_find hub port at speed p (x ∷ hs) h =
    cond_both (p x) (attach at speed x ∷ hs) (x ∷ change p (attach at speed) hs)
    (λ (l : List HubText). option_map_or (has_port port) (find (λ (h : HubText). h.addr == hub) l) false ≡ true)
    (λ _. step port (x.addr == hub) x (attach at speed x) (find (λ (h : HubText). h.addr == hub) hs)
    (find (λ (h : HubText). h.addr == hub) hs) (attached_port port at speed x) (λ z. z) h)
    (λ _. step port (x.addr == hub) x x (find (λ (h : HubText). h.addr == hub) hs)
    (find (λ (h : HubText). h.addr == hub) (change p (attach at speed) hs)) (λ z. z) (attach_find hub port at speed p hs) h)

attach_hubs : (at : ℕ) (speed : Speed) (p : HubText → Bool) (hs : List HubText) → Keeps_hubs hs (change p (attach at speed) hs)
attach_hubs at speed p hs None port h = absurd (false≢true h)
attach_hubs at speed p hs (Some hub) port h = attach_find hub port at speed p hs h

known_step : (port : ℕ) (b : Bool) (x : HubText) (o : Option HubText) → HasPorts x
    → (option_map_or (λ (h : HubText). within 1 h.ports port) o false ≡ true → option_map_or (has_port port) o false ≡ true)
    → option_map_or (λ (h : HubText). within 1 h.ports port) (if b then Some x else o) false ≡ true
    → option_map_or (has_port port) (if b then Some x else o) false ≡ true
known_step port true x o has more h = ap (λ (n : ℕ). nat_le 1 port && nat_le port n) has ∙ h
known_step port false x o has more h = more h

known_port : (hub port : ℕ) (hs : List HubText) → AllByRecursion HasPorts hs
    → option_map_or (λ (h : HubText). within 1 h.ports port) (hub_of hs hub) false ≡ true
    → option_map_or (has_port port) (find (λ (h : HubText). h.addr == hub) hs) false ≡ true
known_port hub port [] has h = h
known_port hub port (x ∷ hs) has h =
    known_step port (x.addr == hub) x (find (λ (h : HubText). h.addr == hub) hs) has.0 (known_port hub port hs has.1) h

-- ---- endpoints

abbrev KeepsDesc : (EpText → EpText) → Type 0
KeepsDesc f = (e : EpText) → (f e).desc ≡ e.desc

eps_placed : (hubs : List HubText) (to : Name) (f : EpText → EpText) (ds : List Placed) → KeepsDesc f
    → AllByRecursion (IsPlacedAt hubs) ds → AllByRecursion (IsPlacedAt hubs) (at_ep to f ds)
eps_placed hubs to f ds same h =
    all_change (IsPlacedAt hubs) (λ (d : Placed). d.addr == to.addr) (λ d. record d { eps = change (is_named to) f d.eps }) ds
    (λ d _ k. record {
      there = k.there;
      eps = all_change (IsEpAt d.addr d.speed d.hub d.port) (is_named to) f d.eps (λ e _ z. record {
        address = ap (λ (x : EpDesc). x.name.addr) (same e) ∙ z.address;
        speed = ap (λ (x : EpDesc). x.speed) (same e) ∙ z.speed;
        hub = ap (λ (x : EpDesc). x.hub) (same e) ∙ z.hub;
        port = ap (λ (x : EpDesc). x.port) (same e) ∙ z.port;
      }) k.eps;
    }) h

put_placed : (hubs : List HubText) (name : Name) (n : ℕ) (ds : List Placed) → AllByRecursion (IsPlacedAt hubs) ds
    → AllByRecursion (IsPlacedAt hubs) (put_room name n ds)
put_placed hubs name n ds h = cond_both _ (at_ep name (roomier n) ds) ds (AllByRecursion (IsPlacedAt hubs))
    (λ _. eps_placed hubs name (roomier n) ds (λ e. refl) h) (λ _. h)

new_placed : (hubs : List HubText) (l : EpLine) (ds : List Placed) → AllByRecursion (IsPlacedAt hubs) ds
    → AllByRecursion (IsPlacedAt hubs) (change (λ d. d.addr == l.name.addr) (with_ep l) ds)
new_placed hubs l ds h =
    all_change (IsPlacedAt hubs) (λ (d : Placed). d.addr == l.name.addr) (with_ep l) ds
    (λ d _ k. record {
      there = k.there;
      eps = all_both (IsEpAt d.addr d.speed d.hub d.port) d.eps (record { desc = desc_of l d; items = []; room = 0; stuff = 0; clears = 0 } ∷ []) k.eps
          (record { address = refl; speed = refl; hub = refl; port = refl }, tt);
    }) h

devices_more : (hubs more : List HubText) (ds : List Placed) → Keeps_hubs hubs more → AllByRecursion (IsPlacedAt hubs) ds
    → AllByRecursion (IsPlacedAt more) ds
devices_more hubs more ds keeps h =
    all_more (IsPlacedAt hubs) (IsPlacedAt more) ds (λ d k. record { there = λ slow. keeps d.hub d.port (k.there slow); eps = k.eps }) h

-- ---- devices stay

abbrev Keeps_devices : List Placed → List Placed → Type 0
Keeps_devices ds es = (addr : ℕ) → has_device ds addr ≡ true → has_device es addr ≡ true

devices_itself : (ds : List Placed) → Keeps_devices ds ds
devices_itself ds addr h = h

or_step : (a b c d : Bool) → a ≡ b → (c ≡ true → d ≡ true) → (a || c) ≡ true → (b || d) ≡ true
or_step true b c d same more h = ap (λ (x : Bool). x || d) (sym same)
or_step false b c d same more h = ap (λ (x : Bool). x || d) (sym same) ∙ more h

devices_change : (p : Placed → Bool) (f : Placed → Placed) (ds : List Placed) → ((d : Placed) → (f d).addr ≡ d.addr)
    → Keeps_devices ds (change p f ds)
devices_change p f [] same addr h = h
devices_change p f (d ∷ ds) same addr h =
    cond_both (p d) (f d ∷ ds) (d ∷ change p f ds) (λ (es : List Placed). has_device es addr ≡ true)
    (λ _. or_step (d.addr == addr) ((f d).addr == addr) (has_device ds addr) (has_device ds addr)
    (ap (λ (a : ℕ). a == addr) (sym (same d))) (λ z. z) h)
    (λ _. or_step (d.addr == addr) (d.addr == addr) (has_device ds addr) (has_device (change p f ds) addr) refl
    (devices_change p f ds same addr) h)

devices_added : (ds es : List Placed) → Keeps_devices ds (ds ++ es)
devices_added ds es addr h = any_more (λ (d : Placed). d.addr == addr) ds es h

eps_stay : (to : Name) (f : EpText → EpText) (ds : List Placed) → Keeps_devices ds (at_ep to f ds)
eps_stay to f ds = devices_change (λ (d : Placed). d.addr == to.addr) _ ds (λ d. refl)

puts_stay : (name : Name) (n : ℕ) (ds : List Placed) → Keeps_devices ds (put_room name n ds)
puts_stay name n ds = cond_both _ (at_ep name (roomier n) ds) ds (Keeps_devices ds) (λ _. eps_stay name (roomier n) ds) (λ _. devices_itself ds)

line_more : (hubs more : List HubText) (ds es : List Placed) (l : Line) → Keeps_hubs hubs more → Keeps_devices ds es → IsPlacedLine hubs ds l
    → IsPlacedLine more es l
line_more hubs more ds es (line.Command (cmd.OpenEp x)) keeps stay k =
    record { there = λ slow. keeps x.hub x.port (k.there slow); device = λ slow. stay x.name.addr (k.device slow) }
line_more hubs more ds es _ keeps stay k = tt

lines_more : (hubs more : List HubText) (ds es : List Placed) (ls : List (ℕ × Line)) → Keeps_hubs hubs more → Keeps_devices ds es
    → ArePlaced hubs ds ls → ArePlaced more es ls
lines_more hubs more ds es ls keeps stay h =
    all_more (λ l. IsPlacedLine hubs ds l.1) (λ l. IsPlacedLine more es l.1) ls (λ l k. line_more hubs more ds es l.1 keeps stay k) h

hubs_itself : (hubs : List HubText) → Keeps_hubs hubs hubs
hubs_itself hubs hub port h = h

-- ---- an endpoint that is known

found_any : (addr : ℕ) (ds : List Placed) (d : Placed) → device_of ds addr ≡ Some d → has_device ds addr ≡ true
found_any addr [] d is = absurd cc
found_any addr (x ∷ ds) d is = by (λ later. found_any addr ds d later) (x.addr == addr) refl
  where
    by : (device_of ds addr ≡ Some d → has_device ds addr ≡ true) → (b : Bool) → (x.addr == addr) ≡ b
        → ((x.addr == addr) || has_device ds addr) ≡ true
    by more true on = ap (λ (c : Bool). c || has_device ds addr) on
    by more false off =
        ap (λ (c : Bool). c || has_device ds addr) off
        ∙ more (sym (ap (λ (c : Bool). if c then Some x else device_of ds addr) off) ∙ is)

device_desc : (hubs : List HubText) (ds : List Placed) (name : Name) → AllByRecursion (IsPlacedAt hubs) ds
    → Holds (IsPlacedDesc hubs ds) (option_and_then (λ d. ep_of d.eps name) (device_of ds name.addr))
device_desc hubs ds name h = by (device_of ds name.addr) refl (all_find (IsPlacedAt hubs) (λ (d : Placed). d.addr == name.addr) ds h)
  where
    desc : (d : Placed) (o : Option EpText) → device_of ds name.addr ≡ Some d → IsPlacedAt hubs d
        → Holds (IsEpAt d.addr d.speed d.hub d.port) o → Holds (IsPlacedDesc hubs ds) (option_map (λ (e : EpText). e.desc) o)
    desc d None is p k = tt
    desc d (Some e) is p k = record {
      there = λ slow. ap (λ (o : Option ℕ). has_at hubs o e.desc.port) k.hub ∙ ap (has_at hubs d.hub) k.port
          ∙ p.there (ap is_high (sym k.speed) ∙ slow);
      device = λ slow.
          ap (has_device ds)
          (k.address ∙ eqb-true d.addr name.addr (found_passes (λ (d : Placed). d.addr == name.addr) ds d is))
          ∙ found_any name.addr ds d is;
    }

    by : (o : Option Placed) → device_of ds name.addr ≡ o → Holds (IsPlacedAt hubs) o
        → Holds (IsPlacedDesc hubs ds) (option_and_then (λ d. ep_of d.eps name) o)
    by None is k = tt
    by (Some d) is k = desc d (find (is_named name) d.eps) is k (all_find (IsEpAt d.addr d.speed d.hub d.port) (is_named name) d.eps k.eps)

-- a hub stands at high speed
hub_desc_placed : (w : Draft) (name : Name) → Holds (IsPlacedDesc w.hubs w.devices) (hub_ep w name)
hub_desc_placed w name =
    cond_both (name.num == 0 && same_way name.way way.Ctl) (option_map (λ h. hub_desc h.addr) (hub_of w.hubs name.addr)) None
    (Holds (IsPlacedDesc w.hubs w.devices)) (λ _. by (hub_of w.hubs name.addr)) (λ _. tt)
  where
    by : (o : Option HubText) → Holds (IsPlacedDesc w.hubs w.devices) (option_map (λ (h : HubText). hub_desc h.addr) o)
    by None = tt
    by (Some h) = record { there = λ slow. absurd (true≢false slow); device = λ slow. absurd (true≢false slow) }

known_placed : (w : Draft) (name : Name) → AllByRecursion (IsPlacedAt w.hubs) w.devices → Holds (IsPlacedDesc w.hubs w.devices) (known w name)
known_placed w name h =
    cond_both (is_name name) (option_or (device_ep w name) (hub_ep w name)) None (Holds (IsPlacedDesc w.hubs w.devices))
    (λ _. by (device_ep w name) (device_desc w.hubs w.devices name h)) (λ _. tt)
  where
    by : (o : Option EpDesc) → Holds (IsPlacedDesc w.hubs w.devices) o → Holds (IsPlacedDesc w.hubs w.devices) (option_or o (hub_ep w name))
    by None k = hub_desc_placed w name
    by (Some x) k = k

-- ---- any line

pub same_placed : (w v : Draft) → v.devices ≡ w.devices → v.hubs ≡ w.hubs → v.lines ≡ w.lines → IsPlacedDraft w → IsPlacedDraft v
same_placed w v devices hubs lines h = record {
  ports = subst (AllByRecursion HasPorts) (sym hubs) h.ports;
  devices = subst (λ (hs : List HubText). AllByRecursion (IsPlacedAt hs) v.devices) (sym hubs)
      (subst (AllByRecursion (IsPlacedAt w.hubs)) (sym devices) h.devices);
  lines = subst (λ (hs : List HubText). ArePlaced hs v.devices v.lines) (sym hubs)
      (subst (λ (ds : List Placed). ArePlaced w.hubs ds v.lines) (sym devices) (subst (ArePlaced w.hubs w.devices) (sym lines) h.lines));
}

line_added : (w : Draft) (n : ℕ) (l : Line) → IsPlacedLine w.hubs w.devices l → ArePlaced w.hubs w.devices w.lines
    → ArePlaced w.hubs w.devices (w.lines ++ (n, l) ∷ [])
line_added w n l k h = all_both (λ l. IsPlacedLine w.hubs w.devices l.1) w.lines ((n, l) ∷ []) h (k, tt)

where_placed : (w : Draft) (name : Name) (v : Draft) → IsPlacedDraft w → IsPlacedDraft v → IsPlacedDraft (where_known w name v)
where_placed w name v h k = cond_both (is_some (known w name)) v w IsPlacedDraft (λ _. k) (λ _. h)

commanded_placed : (w : Draft) (n : ℕ) (c : Cmd) → IsPlacedLine w.hubs w.devices (line.Command c) → IsPlacedDraft w → IsPlacedDraft (commanded w n c)
commanded_placed w n c k h = record { ports = h.ports; devices = h.devices; lines = line_added w n (line.Command c) k h.lines }

opened_placed : (w : Draft) (n : ℕ) (o : Option EpDesc) → Holds (IsPlacedDesc w.hubs w.devices) o → IsPlacedDraft w
    → IsPlacedDraft (option_map_or (λ d. commanded w n (cmd.OpenEp d)) o w)
opened_placed w n None k h = h
opened_placed w n (Some x) k h = commanded_placed w n (cmd.OpenEp x) k h

below_known : (a b c : Bool) → (a && b && c) ≡ true → c ≡ true
below_known a b true e = refl
below_known true true false e = absurd (false≢true e)
below_known true false false e = absurd (false≢true e)
below_known false b false e = absurd (false≢true e)

pub after_placed : (w : Draft) (n : ℕ) (s : Statement) → IsPlacedDraft w → IsPlacedDraft (after w n s)
after_placed w n (says.Hub addr ports multi) h =
    cond_both (within 1 127 addr && within 1 15 ports) _ w IsPlacedDraft
    (λ _. record {
      ports = all_both HasPorts w.hubs _ h.ports (replicated ports, tt);
      devices = devices_more w.hubs _ w.devices (more_hubs w.hubs _) h.devices;
      lines = lines_more w.hubs _ w.devices w.devices w.lines (more_hubs w.hubs _) (devices_itself w.devices) h.lines;
    }) (λ _. h)
  where
    replicated : (k : ℕ) → length (replicate {A = Option Speed} k None) ≡ k
    replicated zero = refl
    replicated (suc k) = ap suc (replicated k)
after_placed w n (says.DevHigh addr) h =
    cond_both (within 1 127 addr) _ w IsPlacedDraft
    (λ _. record {
      ports = h.ports;
      devices = all_both (IsPlacedAt w.hubs) w.devices _ h.devices (record { there = λ slow. absurd (true≢false slow); eps = tt }, tt);
      lines = lines_more w.hubs w.hubs w.devices _ w.lines (hubs_itself w.hubs) (devices_added w.devices _) h.lines;
    }) (λ _. h)
after_placed w n (says.DevBelow b) h =
    cond_both (within 1 127 b.addr && nat_le b.hub 127 && is_known w (says.DevBelow b)) _ w IsPlacedDraft
    (λ t. record {
      ports = all_change HasPorts (λ (x : HubText). x.addr == b.hub) (attach b.port b.speed) w.hubs
          (λ x _ k. length-set x.attached _ (Some b.speed) ∙ k) h.ports;
      devices = all_both (IsPlacedAt _) w.devices _
          (devices_more w.hubs _ w.devices (attach_hubs b.port b.speed (λ (x : HubText). x.addr == b.hub) w.hubs) h.devices) (
            record {
              there = λ slow. attach_hubs b.port b.speed (λ (x : HubText). x.addr == b.hub) w.hubs (Some b.hub) b.port
                  (known_port b.hub b.port w.hubs h.ports
                  (below_known (within 1 127 b.addr) (nat_le b.hub 127) (is_known w (says.DevBelow b)) t));
              eps = tt;
            },
            tt,
          );
      lines = lines_more w.hubs _ w.devices _ w.lines (attach_hubs b.port b.speed (λ (x : HubText). x.addr == b.hub) w.hubs)
          (devices_added w.devices _) h.lines;
    }) (λ _. h)
after_placed w n (says.Ep l) h =
    cond_both (is_endpoint l && is_some (device_of w.devices l.name.addr)) _ w IsPlacedDraft
    (λ _. record {
      ports = h.ports;
      devices = new_placed w.hubs l w.devices h.devices;
      lines = lines_more w.hubs w.hubs w.devices _ w.lines (hubs_itself w.hubs)
          (devices_change (λ (d : Placed). d.addr == l.name.addr) (with_ep l) w.devices (λ d. refl)) h.lines;
    }) (λ _. h)
after_placed w n (says.Reply name a) h =
    record {
      ports = h.ports;
      devices = eps_placed w.hubs name (answered a) w.devices (λ e. refl) h.devices;
      lines = lines_more w.hubs w.hubs w.devices _ w.lines (hubs_itself w.hubs) (eps_stay name (answered a) w.devices) h.lines;
    }
after_placed w n (says.Fate f) h = where_placed w f.name _ h (same_placed w _ refl refl refl h)
after_placed w n (says.Stuff name p) h =
    cond_both (nat_le p 6) _ w IsPlacedDraft
    (λ _. where_placed w name _ h
    (record {
      ports = h.ports;
      devices = eps_placed w.hubs name (stuffed p) w.devices (λ e. refl) h.devices;
      lines = lines_more w.hubs w.hubs w.devices _ w.lines (hubs_itself w.hubs) (eps_stay name (stuffed p) w.devices) h.lines;
    })) (λ _. h)
after_placed w n (says.Open name) h = opened_placed w n (known w name) (known_placed w name h.devices) h
after_placed w n (says.Cancel name) h = where_placed w name _ h (commanded_placed w n (cmd.Cancel (name_of name)) tt h)
after_placed w n (says.Clear name) h = where_placed w name _ h (commanded_placed w n (cmd.Clear (name_of name)) tt h)
after_placed w n (says.Get l) h =
    where_placed w l.name _ h
    (commanded_placed (record w { asked = counted w.asked l.len }) n (cmd.Get (name_of l.name) l.len (by_of l.by)) tt
    (same_placed w _ refl refl refl h))
after_placed w n (says.Put l) h =
    where_placed w l.name _ h
    (commanded_placed
    (record w { scripted = counted w.scripted (content_len l.content); devices = put_room l.name (content_len l.content) w.devices }) n
    (cmd.Put (name_of l.name) (content_bytes l.content) (by_of l.by)) tt
    (record {
      ports = h.ports;
      devices = put_placed w.hubs l.name (content_len l.content) w.devices h.devices;
      lines = lines_more w.hubs w.hubs w.devices _ w.lines (hubs_itself w.hubs) (puts_stay l.name (content_len l.content) w.devices) h.lines;
    }))
after_placed w n (says.Control c) h =
    where_placed w (control_name c.addr) _ h
    (commanded_placed (record w { scripted = counted w.scripted (bytes_len c.bytes) }) n
    (cmd.Control (name_of (control_name c.addr)) c.setup (unwrap_or c.bytes [])) tt (same_placed w _ refl refl refl h))
after_placed w n (says.Iso l) h =
    cond_both (is_slots l) _ w IsPlacedDraft
    (λ _. where_placed w l.name _ h (commanded_placed w n (cmd.Iso (name_of l.name) l.count l.len l.seed) tt h)) (λ _. h)
after_placed w n (says.Order event k) h =
    record { ports = h.ports; devices = h.devices; lines = line_added w n (line.Order event k) tt h.lines }
after_placed w n (says.Micro k) h = record { ports = h.ports; devices = h.devices; lines = line_added w n (line.Micro k) tt h.lines }
after_placed w n _ h = same_placed w _ refl refl refl h

-- ---- the script

in_script : (w : Draft) (hub : Option ℕ) (port : ℕ) → has_at w.hubs hub port ≡ true → has_hub (script_of w) hub port ≡ true
in_script w None port h = h
in_script w (Some hub) port h = h

pub empty_placed : IsPlacedDraft empty
empty_placed = record { ports = tt; devices = tt; lines = tt }

pub opened_desc : (w : Draft) (x : EpDesc) → IsPlacedDraft w → IsOpened (script_of w) x → IsPlacedDesc w.hubs w.devices x
opened_desc w x k o = nth_all (λ l. IsPlacedLine w.hubs w.devices l.1) w.lines o.place (o.number, line.Command (cmd.OpenEp x)) k.lines o.here

pub texts_have_hubs : TextsHaveHubs
texts_have_hubs text s spelled x o slow =
    let k : IsScriptOf IsPlacedDraft s = spelled_kept IsPlacedDraft empty_placed
    (λ w h. same_placed w _ refl refl refl h) (λ w n l new h. after_placed w n l h) text s spelled in
    let its : IsOpened (script_of k.draft) x = subst (λ (z : Script). IsOpened z x) (sym k.is) o in
    subst (λ (z : Script). has_hub z x.hub x.port ≡ true) k.is
    (in_script k.draft x.hub x.port
    ((opened_desc k.draft x k.holds its).there slow))
