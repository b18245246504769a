-- Each line that is taken leaves a script that fits.
use Rattle.std.proofs.Common.{◌≡◌, ℕ, zero, suc, ◌≤◌, ◌%◌, Bool, true, List, [], ◌∷◌, ◌++◌, length, Option, Some, None, refl, ◌∙◌, ap, sym, subst, inl, inr, arith}
use Rattle.std.specs.Prelude.{nat_le, ◌==◌, ◌&&◌, not, take, drop, map, is_some, ◌-◌, ◌||◌, false, replicate, if◌then◌else◌}
use Rattle.std.specs.List.{list_all, list_any, find, AllByRecursion}
use Rattle.std.specs.Option.{option_map, option_map_or, option_and_then, option_or}
use Rattle.std.specs.Simd.{first_chunks}
use Rattle.std.proofs.lemmas.Bool.{cond_both, and_parts, and_from, or_cases, eqb-true, leb-true, le-leb}
use Rattle.std.proofs.lemmas.List.{length-take, length-replicate, length-set}
use Rattle.std.proofs.lemmas.List.Folds.{list_all-append}
use Rattle.usb_base.specs.declared.packets.Way.{Way}
use Rattle.usb_base.specs.declared.packets.Way.TheVariants as way
use Rattle.usb_base.specs.declared.packets.Speed.{Speed}
use Rattle.usb_base.specs.declared.packets.Speed.TheVariants.{High, Full, Low}
use Rattle.usb_base.specs.declared.packets.EpKind.{EpKind}
use Rattle.usb_base.specs.declared.endpoints.EpDesc.{EpDesc}
use Rattle.usb_base.specs.declared.commands.Cmd.{Cmd}
use Rattle.usb_base.specs.declared.commands.Cmd.TheVariants as commands
use Rattle.script_types.specs.declared.devices.EpText.{EpText}
use Rattle.script_types.specs.declared.devices.HubText.{HubText}
use Rattle.script_types.specs.declared.devices.Item.TheVariants as items
use Rattle.script_forms.specs.declared.statements.Name.{Name}
use Rattle.script_forms.specs.declared.statements.Below.{Below}
use Rattle.script_forms.specs.declared.statements.EpLine.{EpLine}
use Rattle.script_forms.specs.declared.statements.IsoLine.{IsoLine}
use Rattle.script_forms.specs.declared.statements.Answer.{Answer}
use Rattle.script_forms.specs.declared.statements.Answer.TheVariants as answer
use Rattle.script_forms.specs.declared.statements.Statement.{Statement}
use Rattle.script_forms.specs.declared.statements.Statement.TheVariants as says
use Rattle.script_world.specs.Draft.{Draft, Placed, speed_of, known, device_ep, hub_ep, hub_desc, hub_of, device_of, ep_of, is_name, is_named, same_way, change, packet_count, filled}
use Rattle.script_world.specs.Ranges.{in_range, within, is_size, is_paced, suits, is_slots, is_endpoint, is_placed, can_answer, some_answer, kinds_of, reply_ranged}
use Rattle.script_world.specs.Rows.{name_of, after, answered, items_of, at_ep, with_ep, desc_of, commanded, where_known, by_of, put_room, roomier, counted}
use Rattle.script_world.specs.Rows.{content_len, bytes_len, control_name, is_known, stuffed, translator_of, attach, after_hub, after_below}
use Rattle.endpoint_script.specs.Items.{is_short, is_packet}
use Rattle.drv_table.specs.Words.{is_high}
use Rattle.script_fits.specs.Fits.{IsPiece, IsSuited, IsFitCommand, IsFitLine, IsFitRoom}
use Rattle.script_fits.proofs.Statements.{IsPieceIf, IsSaid}

pub record IsFitDesc (d : EpDesc) : Type 0 where
  pub max : d.max ≤ 1024
  pub port : d.port ≤ 127
  pub suited : IsSuited d

pub record IsFitEp (e : EpText) : Type 0 where
  pub desc : IsFitDesc e.desc
  pub items : list_all is_short e.items ≡ true
  pub room : IsFitRoom e

pub record IsFitDevice (d : Placed) : Type 0 where
  pub port : d.port ≤ 127
  pub translator : d.tt ≤ 15
  pub below : is_some d.hub ≡ not (is_high d.speed)
  pub eps : AllByRecursion IsFitEp d.eps

pub record IsFitHub (h : HubText) : Type 0 where
  pub ports : h.ports ≤ 15
  pub attached : length h.attached ≤ 15

abbrev pub IsFitSize : Option ℕ → Type 0
IsFitSize None = Unit {0}
IsFitSize (Some n) = (2048 ≤ n) × ((n ≤ 262144) × (n % 1024 ≡ 0))

pub record IsFitDraft (w : Draft) : Type 0 where
  pub words : IsFitSize w.words
  pub hubs : AllByRecursion IsFitHub w.hubs
  pub devices : AllByRecursion IsFitDevice w.devices
  pub lines : AllByRecursion (λ x. IsFitLine x.1) w.lines

-- ---- lists

all_append : {X : Type 0} (P : X → Type 0) (xs : List X) (y : X) → AllByRecursion P xs → P y → AllByRecursion P (xs ++ y ∷ [])
all_append P [] y h k = (k, tt)
all_append P (x ∷ xs) y h k = (h.0, all_append P xs y h.1 k)

all_change : {X : Type 0} (P : X → Type 0) (p : X → Bool) (f : X → X) (xs : List X) → ((x : X) → P x → P (f x)) → AllByRecursion P xs → AllByRecursion P (change p f xs)
all_change P p f [] g h = tt
all_change P p f (x ∷ xs) g h =
    cond_both (p x) (f x ∷ xs) (x ∷ change p f xs) (AllByRecursion P) (λ _. (g x h.0, h.1)) (λ _. (h.0, all_change P p f xs g h.1))

-- only the first element that passes is changed
all_change_first : {X : Type 0} (P : X → Type 0) (p : X → Bool) (f : X → X) (xs : List X) → ((x : X) → find p xs ≡ Some x → P x → P (f x)) → AllByRecursion P xs → AllByRecursion P (change p f xs)
all_change_first P p f [] g h = tt
all_change_first P p f (x ∷ xs) g h =
    cond_both (p x) (f x ∷ xs) (x ∷ change p f xs) (AllByRecursion P)
    (λ e. (g x (subst (λ (b : Bool). (if b then Some x else find p xs) ≡ Some x) (sym e) refl) h.0, h.1))
    (λ e. (h.0, all_change_first P p f xs (λ y k. g y (subst (λ (b : Bool). (if b then Some x else find p xs) ≡ Some y) (sym e) k)) h.1))

abbrev Holds : {X : Type 0} → (X → Type 0) → Option X → Type 0
Holds P None = Unit {0}
Holds P (Some x) = P x

found : {X : Type 0} (P : X → Type 0) (p : X → Bool) (xs : List X) → AllByRecursion P xs → Holds P (find p xs)
found P p [] h = tt
found P p (x ∷ xs) h = cond_both (p x) (Some x) (find p xs) (Holds P) (λ _. h.0) (λ _. found P p xs h.1)

mapped : {X Y : Type 0} (P : X → Type 0) (Q : Y → Type 0) (f : X → Y) (x : Option X) → ((a : X) → P a → Q (f a)) → Holds P x → Holds Q (option_map f x)
mapped P Q f None g h = tt
mapped P Q f (Some x) g h = g x h

then_holds : {X Y : Type 0} (P : X → Type 0) (Q : Y → Type 0) (f : X → Option Y) (x : Option X) → ((a : X) → P a → Holds Q (f a)) → Holds P x → Holds Q (option_and_then f x)
then_holds P Q f None g h = tt
then_holds P Q f (Some x) g h = g x h

or_holds : {X : Type 0} (P : X → Type 0) (x y : Option X) → Holds P x → Holds P y → Holds P (option_or x y)
or_holds P None y h k = k
or_holds P (Some x) y h k = h

-- ---- endpoints that are known

ep_fits : (es : List EpText) (name : Name) → AllByRecursion IsFitEp es → Holds IsFitDesc (ep_of es name)
ep_fits es name h = mapped IsFitEp IsFitDesc (λ e. e.desc) (find (is_named name) es) (λ e k. k.desc) (found IsFitEp (is_named name) es h)

device_ep_fits : (w : Draft) (name : Name) → IsFitDraft w → Holds IsFitDesc (device_ep w name)
device_ep_fits w name h =
    then_holds IsFitDevice IsFitDesc (λ d. ep_of d.eps name) (device_of w.devices name.addr) (λ d k. ep_fits d.eps name k.eps)
    (found IsFitDevice (λ d. d.addr == name.addr) w.devices h.devices)

hub_fits : (a : ℕ) → IsFitDesc (hub_desc a)
hub_fits a = record {
  max = omega arith;
  port = omega arith;
  suited = record { size = refl; pace = refl; below = refl; translator = omega arith };
}

always : {X : Type 0} (x : Option X) → Holds (λ _. Unit {0}) x
always None = tt
always (Some x) = tt

hub_ep_fits : (w : Draft) (name : Name) → Holds IsFitDesc (hub_ep w name)
hub_ep_fits w name =
    cond_both (name.num == 0 && same_way name.way way.Ctl) (option_map (λ h. hub_desc h.addr) (hub_of w.hubs name.addr)) None (Holds IsFitDesc)
    (λ _. mapped (λ _. Unit {0}) IsFitDesc (λ (h : HubText). hub_desc h.addr) (hub_of w.hubs name.addr) (λ h _. hub_fits h.addr) (always (hub_of w.hubs name.addr)))
    (λ _. tt)

pub known_fits : (w : Draft) (name : Name) → IsFitDraft w → Holds IsFitDesc (known w name)
known_fits w name h =
    cond_both (is_name name) (option_or (device_ep w name) (hub_ep w name)) None (Holds IsFitDesc)
    (λ _. or_holds IsFitDesc (device_ep w name) (hub_ep w name) (device_ep_fits w name h) (hub_ep_fits w name))
    (λ _. tt)

-- ---- answers

-- at an endpoint of this packet size, each data packet has at most 1,024 bytes
abbrev AreShort : Answer → Type 0
AreShort a = (max : ℕ) → max ≤ 1024 → list_all is_short (items_of max a) ≡ true

take_short : (n : ℕ) (xs : List ℕ) → length (take n xs) ≤ n
take_short n xs = omega (arith, length-take n xs)

chunks_short : (max k : ℕ) (xs : List ℕ) → max ≤ 1024 → list_all is_short (map items.Bytes (first_chunks max k xs)) ≡ true
chunks_short max zero xs le = refl
chunks_short max (suc k) xs le =
    and_from (is_packet (take max xs)) _ (le-leb (length (take max xs)) 1024 (omega (arith, take_short max xs, le))) (chunks_short max k (drop max xs) le)

answers_short : (w : Way) (a : Answer) (kind : EpKind) (max : ℕ) → max ≤ 1024 → can_answer w a kind max ≡ true → AreShort a
answers_short w (answer.Data bytes) kind max le e =
    let p = and_parts (same_way w way.In) (nat_le (length bytes) max) e in
    λ m h. and_from (is_packet bytes) true (le-leb (length bytes) 1024 (omega (arith, leb-true (length bytes) max p.1, le))) refl
answers_short w (answer.Fill n seed) kind max le e = λ m h. chunks_short m (packet_count m (length (filled n seed))) (filled n seed) h
answers_short w _ kind max le e = λ m h. refl

some_short : (w : Way) (a : Answer) (ks : List EpKind) → list_any (λ kind. can_answer w a kind 1024) ks ≡ true → AreShort a
some_short w a [] e = cc
some_short w a (k ∷ ks) e =
    elim (or_cases (can_answer w a k 1024) (list_any (λ kind. can_answer w a kind 1024) ks) e) [
      | inl h ↦ answers_short w a k 1024 (omega arith) h
      | inr h ↦ some_short w a ks h
    ]

reply_at : (way : Way) (a : Answer) (x : Option EpDesc) → Holds IsFitDesc x → option_map_or (λ d. can_answer way a d.kind d.max) x (some_answer way a) ≡ true → AreShort a
reply_at way answer.Epoch None h e = λ m h. refl
reply_at way a None h e = some_short way a (kinds_of way) e
reply_at way a (Some d) h e = answers_short way a d.kind d.max h.max e

reply_short : (w : Draft) (name : Name) (a : Answer) → IsFitDraft w → reply_ranged w name a ≡ true → AreShort a
reply_short w name a h e =
    let p = and_parts (not (is_some (hub_ep w name))) _ e in
    reply_at name.way a (device_ep w name) (device_ep_fits w name h) p.1

answered_fits : (a : Answer) (e : EpText) → AreShort a → IsFitEp e → IsFitEp (answered a e)
answered_fits a e short h = record {
  desc = h.desc;
  items = list_all-append is_short e.items (items_of e.desc.max a) ∙ and_from (list_all is_short e.items) (list_all is_short (items_of e.desc.max a)) h.items (short e.desc.max h.desc.max);
  room = h.room;
}

at_ep_fits : (name : Name) (f : EpText → EpText) (ds : List Placed) → ((e : EpText) → IsFitEp e → IsFitEp (f e)) → AllByRecursion IsFitDevice ds → AllByRecursion IsFitDevice (at_ep name f ds)
at_ep_fits name f ds g h =
    all_change IsFitDevice (λ d. d.addr == name.addr) (λ d. record d { eps = change (is_named name) f d.eps }) ds
    (λ d k. record { port = k.port; translator = k.translator; below = k.below; eps = all_change IsFitEp (is_named name) f d.eps g k.eps })
    h

counted_fits : (a n : ℕ) → counted a n ≤ 4294967295
counted_fits a n = omega arith

put_room_fits : (name : Name) (n : ℕ) (ds : List Placed) → AllByRecursion IsFitDevice ds → AllByRecursion IsFitDevice (put_room name n ds)
put_room_fits name n ds h =
    cond_both (same_way name.way way.Out) (at_ep name (roomier n) ds) ds (AllByRecursion IsFitDevice)
    (λ _. at_ep_fits name (roomier n) ds (λ e k. record { desc = k.desc; items = k.items; room = counted_fits e.room n }) h) (λ _. h)

-- ---- endpoints that are declared

max_within : (l : EpLine) → is_endpoint l ≡ true → l.max ≤ 1024
max_within l e =
    let a = and_parts (nat_le l.name.num 15 && within 1 1024 l.max && nat_le l.period 8192) (nat_le l.multi 3) e in
    let b = and_parts (nat_le l.name.num 15 && within 1 1024 l.max) (nat_le l.period 8192) a.0 in
    let c = and_parts (nat_le l.name.num 15) (within 1 1024 l.max) b.0 in
    let d = and_parts (nat_le 1 l.max) (nat_le l.max 1024) c.1 in
    leb-true l.max 1024 d.1

-- the line suits the device that is declared
suits_at : (w : Draft) (l : EpLine) (d : Placed) (b : Bool) → option_map_or (suits l) (speed_of w l.name.addr) b ≡ true → device_of w.devices l.name.addr ≡ Some d → suits l d.speed ≡ true
suits_at w l d b e at = subst (λ (x : Option Placed). option_map_or (suits l) (option_map (λ y. y.speed) x) b ≡ true) at e

desc_fits : (l : EpLine) (d : Placed) → l.max ≤ 1024 → suits l d.speed ≡ true → IsFitDevice d → IsFitDesc (desc_of l d)
desc_fits l d max e h =
    let p = and_parts (is_size l.kind d.speed l.max) (is_paced l.kind d.speed l.period l.multi) e in
    record { max = max; port = h.port; suited = record { size = p.0; pace = p.1; below = h.below; translator = h.translator } }

with_ep_fits : (l : EpLine) (d : Placed) → l.max ≤ 1024 → suits l d.speed ≡ true → IsFitDevice d → IsFitDevice (with_ep l d)
with_ep_fits l d max e h = record {
  port = h.port;
  translator = h.translator;
  below = h.below;
  eps = all_append IsFitEp d.eps _ h.eps (record { desc = desc_fits l d max e h; items = refl; room = omega arith });
}

-- ---- hubs

new_hub_fits : (addr ports : ℕ) (multi : Bool) → ports ≤ 15
    → IsFitHub (record { addr = addr; ports = ports; attached = replicate ports None; multi = multi })
new_hub_fits addr ports multi le =
    let nobody : Option Speed = None in
    record { ports = le; attached = omega (arith, length-replicate ports nobody, le) }

hub_line_fits : (w : Draft) (addr ports : ℕ) (multi : Bool) → IsFitDraft w → IsFitDraft (after_hub w addr ports multi)
hub_line_fits w addr ports multi h =
    cond_both (within 1 127 addr && within 1 15 ports) _ w IsFitDraft
    (λ e. record {
      words = h.words;
      hubs = all_append IsFitHub w.hubs _ h.hubs (new_hub_fits addr ports multi
          (leb-true ports 15 (and_parts (nat_le 1 ports) (nat_le ports 15) (and_parts (within 1 127 addr) (within 1 15 ports) e).1).1));
      devices = h.devices;
      lines = h.lines;
    })
    (λ _. h)

attached_fits : (port : ℕ) (s : Speed) (x : HubText) → IsFitHub x → IsFitHub (attach port s x)
attached_fits port s x h = record { ports = h.ports; attached = omega (arith, length-set x.attached (port - 1) (Some s), h.attached) }

below_port : (x : Option HubText) (port : ℕ) → Holds IsFitHub x → option_map_or (λ h. within 1 h.ports port) x false ≡ true → port ≤ 127
below_port None port h e = cc
below_port (Some x) port h e = omega (arith, h.ports, leb-true port x.ports (and_parts (nat_le 1 port) (nat_le port x.ports) e).1)

-- a hub has at most 15 translators
translator_fits : (x : Option HubText) (port : ℕ) → Holds IsFitHub x → option_map_or (λ h. within 1 h.ports port) x false ≡ true
    → option_map_or (λ h. translator_of h.multi port) x 0 ≤ 15
translator_fits None port h e = cc
translator_fits (Some x) port h e =
    cond_both x.multi port 0 (λ n. n ≤ 15)
    (λ _. omega (arith, h.ports, leb-true port x.ports (and_parts (nat_le 1 port) (nat_le port x.ports) e).1)) (λ _. omega arith)

-- a device behind a hub isn't a high-speed one
device_below_fits : (w : Draft) (b : Below) → is_high b.speed ≡ false → IsFitDraft w → IsFitDraft (after_below w b)
device_below_fits w b slow h =
    cond_both (within 1 127 b.addr && nat_le b.hub 127 && is_known w (says.DevBelow b)) _ w IsFitDraft
    (λ e. record {
      words = h.words;
      hubs = all_change IsFitHub (λ x. x.addr == b.hub) (attach b.port b.speed) w.hubs (attached_fits b.port b.speed) h.hubs;
      devices =
          all_append IsFitDevice w.devices _ h.devices
          (record {
            port = below_port (hub_of w.hubs b.hub) b.port (found IsFitHub (λ x. x.addr == b.hub) w.hubs h.hubs)
                (and_parts (within 1 127 b.addr && nat_le b.hub 127) (is_known w (says.DevBelow b)) e).1;
            translator = translator_fits (hub_of w.hubs b.hub) b.port (found IsFitHub (λ x. x.addr == b.hub) w.hubs h.hubs)
                (and_parts (within 1 127 b.addr && nat_le b.hub 127) (is_known w (says.DevBelow b)) e).1;
            below = ap not (sym slow);
            eps = tt;
          });
      lines = h.lines;
    })
    (λ _. h)

-- ---- commands

commanded_fits : (w : Draft) (n : ℕ) (c : Cmd) → IsFitCommand c → IsFitDraft w → IsFitDraft (commanded w n c)
commanded_fits w n c fit h = record { words = h.words; hubs = h.hubs; devices = h.devices; lines = all_append (λ x. IsFitLine x.1) w.lines _ h.lines fit }

where_fits : (w : Draft) (name : Name) (v : Draft) → IsFitDraft w → IsFitDraft v → IsFitDraft (where_known w name v)
where_fits w name v h k = cond_both (is_some (known w name)) v w IsFitDraft (λ _. k) (λ _. h)

piece : (by : Option ℕ) → IsPieceIf by → IsPiece (by_of by)
piece None h = (omega arith, omega arith)
piece (Some n) h = h

opened_fits : (w : Draft) (n : ℕ) (x : Option EpDesc) → Holds IsFitDesc x → IsFitDraft w → IsFitDraft (option_map_or (λ d. commanded w n (commands.OpenEp d)) x w)
opened_fits w n None k h = h
opened_fits w n (Some d) k h = commanded_fits w n (commands.OpenEp d) (k.max, k.port, k.suited) h

-- there are descriptors
some_slots : (l : IsoLine) → is_slots l ≡ true → 1 ≤ l.count
some_slots l e =
    let a = and_parts (within 1 8 l.count && nat_le l.len 3072) (nat_le l.seed 255) e in
    let b = and_parts (within 1 8 l.count) (nat_le l.len 3072) a.0 in
    leb-true 1 l.count (and_parts (nat_le 1 l.count) (nat_le l.count 8) b.0).0

-- ---- any line

-- a line that was in range
pub after_fits : (w : Draft) (n : ℕ) (s : Statement) → in_range w s ≡ true → IsSaid s → IsFitDraft w → IsFitDraft (after w n s)
after_fits w n (says.Mem words) t said h =
    let a = and_parts (within 2048 262144 words) (words % 1024 == 0) t in
    let b = and_parts (nat_le 2048 words) (nat_le words 262144) a.0 in
    record { words = (leb-true 2048 words b.0, (leb-true words 262144 b.1, eqb-true (words % 1024) 0 a.1)); hubs = h.hubs; devices = h.devices; lines = h.lines }
after_fits w n (says.Hub addr ports multi) t said h = hub_line_fits w addr ports multi h
after_fits w n (says.DevHigh addr) t said h =
    cond_both (within 1 127 addr) _ w IsFitDraft
    (λ _. record {
      words = h.words;
      hubs = h.hubs;
      devices = all_append IsFitDevice w.devices _ h.devices (record { port = omega arith; translator = omega arith; below = refl; eps = tt });
      lines = h.lines;
    })
    (λ _. h)
after_fits w n (says.DevBelow b) t said h = device_below_fits w b said h
after_fits w n (says.Ep l) t said h =
    let a = and_parts (is_endpoint l && is_placed l.kind l.name) (option_map_or (suits l) (speed_of w l.name.addr) (suits l High || suits l Full || suits l Low)) t in
    let b = and_parts (is_endpoint l) (is_placed l.kind l.name) a.0 in
    cond_both (is_endpoint l && is_some (device_of w.devices l.name.addr)) _ w IsFitDraft
    (λ _. record {
      words = h.words;
      hubs = h.hubs;
      devices =
          all_change_first IsFitDevice (λ d. d.addr == l.name.addr) (with_ep l) w.devices
          (λ d at k. with_ep_fits l d (max_within l b.0) (suits_at w l d _ a.1 at) k) h.devices;
      lines = h.lines;
    })
    (λ _. h)
after_fits w n (says.Reply name a) t said h = record {
  words = h.words;
  hubs = h.hubs;
  devices = at_ep_fits name (answered a) w.devices (λ e k. answered_fits a e (reply_short w name a h t) k) h.devices;
  lines = h.lines;
}
after_fits w n (says.Fate f) t said h = where_fits w f.name _ h (record { words = h.words; hubs = h.hubs; devices = h.devices; lines = h.lines })
after_fits w n (says.Stuff name p) t said h =
    cond_both (nat_le p 6) _ w IsFitDraft
    (λ _. where_fits w name _ h (record {
      words = h.words;
      hubs = h.hubs;
      devices = at_ep_fits name (stuffed p) w.devices (λ e k. record { desc = k.desc; items = k.items; room = k.room }) h.devices;
      lines = h.lines;
    }))
    (λ _. h)
after_fits w n (says.Hold first last) t said h = record { words = h.words; hubs = h.hubs; devices = h.devices; lines = h.lines }
after_fits w n (says.Open name) t said h = opened_fits w n (known w name) (known_fits w name h) h
after_fits w n (says.Cancel name) t said h = where_fits w name _ h (commanded_fits w n (commands.Cancel (name_of name)) tt h)
after_fits w n (says.Clear name) t said h = where_fits w name _ h (commanded_fits w n (commands.Clear (name_of name)) tt h)
after_fits w n (says.Get l) t said h =
    where_fits w l.name _ h (commanded_fits (record w { asked = counted w.asked l.len }) n _ (piece l.by said) (record { words = h.words; hubs = h.hubs; devices = h.devices; lines = h.lines }))
after_fits w n (says.Put l) t said h =
    where_fits w l.name _ h
    (commanded_fits (record w { scripted = counted w.scripted (content_len l.content); devices = put_room l.name (content_len l.content) w.devices }) n _ (piece l.by said)
    (record { words = h.words; hubs = h.hubs; devices = put_room_fits l.name _ w.devices h.devices; lines = h.lines }))
after_fits w n (says.Control c) t said h =
    where_fits w (control_name c.addr) _ h
    (commanded_fits (record w { scripted = counted w.scripted (bytes_len c.bytes) }) n _ tt (record { words = h.words; hubs = h.hubs; devices = h.devices; lines = h.lines }))
after_fits w n (says.Iso l) t said h =
    cond_both (is_slots l) _ w IsFitDraft
    (λ e. where_fits w l.name _ h (commanded_fits w n (commands.Iso (name_of l.name) l.count l.len l.seed) (some_slots l e) h))
    (λ _. h)
after_fits w n says.Unbuilt t said h = h
after_fits w n _ t said h = record { words = h.words; hubs = h.hubs; devices = h.devices; lines = all_append (λ x. IsFitLine x.1) w.lines _ h.lines tt }
