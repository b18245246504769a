-- What holds of a script after each line: endpoints have names of their type, what was opened is a hub's or declared, and requests are measured.
use Rattle.std.proofs.Common.{◌≡◌, ℕ, Bool, true, false, List, [], ◌∷◌, ◌++◌, Option, Some, None, refl, sym, ap, subst, ◌∙◌, inl, inr, ◌⊎◌}
use Rattle.std.specs.Prelude.{◌==◌, ◌&&◌, ◌||◌, find, nat_le, is_some, unwrap_or, if◌then◌else◌}
use Rattle.std.specs.List.{AllByRecursion, list_any}
use Rattle.std.specs.Option.{option_map, option_map_or, option_and_then, option_or}
use Rattle.std.proofs.lemmas.Bool.{cond_both, and_parts, cases_Bool, eqb-true}
use Rattle.law_common.proofs.Lists.{all_both, all_more}
use Rattle.law_common.proofs.Booleans.{left_or, right_or}
use Rattle.usb_base.specs.declared.packets.Speed.TheVariants.{High, Full, Low}
use Rattle.usb_base.specs.declared.packets.Way.TheVariants as way
use Rattle.usb_base.specs.declared.endpoints.EpDesc.{EpDesc}
use Rattle.usb_base.specs.declared.commands.Cmd.{Cmd}
use Rattle.usb_base.specs.declared.commands.Cmd.TheVariants as cmd
use Rattle.script_types.specs.declared.devices.EpText.{EpText}
use Rattle.script_types.specs.declared.devices.HubText.{HubText}
use Rattle.script_types.specs.declared.scripts.Line.{Line}
use Rattle.script_types.specs.declared.scripts.Line.TheVariants as line
use Rattle.script_forms.specs.declared.statements.Name.{Name}
use Rattle.script_forms.specs.declared.statements.EpLine.{EpLine}
use Rattle.script_forms.specs.declared.statements.Statement.{Statement}
use Rattle.script_forms.specs.declared.statements.Statement.TheVariants as says
use Rattle.script_world.specs.Draft.{Draft, Placed, speed_of, device_of, hub_of, hub_ep, hub_desc, ep_of, device_ep, known, is_name, same_way, is_named, change}
use Rattle.script_world.specs.Ranges.{in_range, within, is_endpoint, is_placed, is_slots, suits}
use Rattle.script_world.specs.Rows.{is_known, answered, counted, roomier, stuffed, at_ep, name_of, desc_of, with_ep, content_bytes}
use Rattle.script_world.specs.Rows.{content_len, bytes_len, commanded, where_known, put_room, control_name, attach, by_of, after}
use Rattle.law_devices.proofs.Lists.{Holds, all_change, any_more, all_find, found_passes, then_append, then_change, map_append, map_find_change}
use Rattle.law_devices.proofs.Drafts.{IsNamedIn, KeepsEps}
use Rattle.law_devices.specs.declared_controls.Names.{IsZero, HasItsName}
use Rattle.law_devices.proofs.lemmas.declared_controls.Names.{line_named, hub_named}
use Rattle.law_devices.proofs.lemmas.declared_controls.Requests.{IsMeasured, IsEight, line_measured}

abbrev pub HasName : EpText → Type 0
HasName e = HasItsName e.desc

abbrev pub HasNames : Placed → Type 0
HasNames d = AllByRecursion HasName d.eps

abbrev pub has_hub : List HubText → ℕ → Bool
has_hub hubs addr = list_any (λ h. h.addr == addr) hubs

pub record IsToldDesc (hubs : List HubText) (ds : List Placed) (x : EpDesc) : Type 0 where
  pub name : HasItsName x
  pub from : (has_hub hubs x.name.addr ≡ true) ⊎ IsNamedIn ds x

abbrev pub IsToldLine : List HubText → List Placed → Line → Type 0
IsToldLine hubs ds (line.Command (cmd.OpenEp x)) = IsToldDesc hubs ds x
IsToldLine hubs ds (line.Command (cmd.Control name setup bytes)) = IsZero name × IsMeasured setup bytes
IsToldLine hubs ds _ = Unit {0}

abbrev pub AreTold : List HubText → List Placed → List (ℕ × Line) → Type 0
AreTold hubs ds lines = AllByRecursion (λ l. IsToldLine hubs ds l.1) lines

pub record IsToldDraft (w : Draft) : Type 0 where
  pub devices : AllByRecursion HasNames w.devices
  pub lines : AreTold w.hubs w.devices w.lines

-- ---- what was told stays so

abbrev KeepsHubs : List HubText → List HubText → Type 0
KeepsHubs hubs more = (addr : ℕ) → has_hub hubs addr ≡ true → has_hub more addr ≡ true

same_hubs : (hubs : List HubText) → KeepsHubs hubs hubs
same_hubs hubs addr h = h

same_eps : (ds : List Placed) → KeepsEps ds ds
same_eps ds name x e = e

from_keeps : (hubs more : List HubText) (ds es : List Placed) (x : EpDesc) → KeepsHubs hubs more → KeepsEps ds es → (has_hub hubs x.name.addr ≡ true) ⊎ IsNamedIn ds x → (has_hub more x.name.addr ≡ true) ⊎ IsNamedIn es x
from_keeps hubs more ds es x f g (inl h) = inl (f x.name.addr h)
from_keeps hubs more ds es x f g (inr k) = inr (record { name = k.name; here = g k.name x k.here })

line_keeps : (hubs more : List HubText) (ds es : List Placed) (l : Line) → KeepsHubs hubs more → KeepsEps ds es → IsToldLine hubs ds l → IsToldLine more es l
line_keeps hubs more ds es (line.Command (cmd.OpenEp x)) f g h = record { name = h.name; from = from_keeps hubs more ds es x f g h.from }
line_keeps hubs more ds es (line.Command (cmd.Control name setup bytes)) f g h = h
line_keeps hubs more ds es _ f g h = tt

told_keeps : (hubs more : List HubText) (ds es : List Placed) (ls : List (ℕ × Line)) → KeepsHubs hubs more → KeepsEps ds es → AreTold hubs ds ls → AreTold more es ls
told_keeps hubs more ds es ls f g h = all_more (λ l. IsToldLine hubs ds l.1) (λ l. IsToldLine more es l.1) ls (λ l k. line_keeps hubs more ds es l.1 f g k) h

told_more : (hubs : List HubText) (ds : List Placed) (ls : List (ℕ × Line)) (n : ℕ) (l : Line) → IsToldLine hubs ds l → AreTold hubs ds ls → AreTold hubs ds (ls ++ (n, l) ∷ [])
told_more hubs ds ls n l k h = all_both (λ l. IsToldLine hubs ds l.1) ls ((n, l) ∷ []) h (k, tt)

-- ---- hubs

one_attached : (port : ℕ) (speed : _) (p : HubText → Bool) (hubs : List HubText) → KeepsHubs hubs (change p (attach port speed) hubs)
one_attached port speed p [] addr h = h
one_attached port speed p (x ∷ xs) addr h =
    cond_both (p x) (attach port speed x ∷ xs) (x ∷ change p (attach port speed) xs) (λ l. has_hub l addr ≡ true)
    (λ _. h) (λ _. later (x.addr == addr) (has_hub xs addr) (has_hub (change p (attach port speed) xs) addr) (one_attached port speed p xs addr) h)
  where
    later : (a b c : Bool) → (b ≡ true → c ≡ true) → (a || b) ≡ true → (a || c) ≡ true
    later true b c g e = refl
    later false b c g e = g e

-- ---- endpoints that are known

found_any : {X : Type 0} (p : X → Bool) (xs : List X) (x : X) → find p xs ≡ Some x → list_any p xs ≡ true
found_any p [] x e = cc
found_any p (y ∷ ys) x e =
    elim (cases_Bool (p y)) [
      | inl t ↦ left_or (p y) (list_any p ys) t
      | inr f ↦ right_or (p y) (list_any p ys) (found_any p ys x (sym (ap (λ b. if b then Some y else find p ys) f) ∙ e))
    ]

told_hub : (hubs : List HubText) (ds : List Placed) (addr : ℕ) (o : Option HubText) → hub_of hubs addr ≡ o → Holds (IsToldDesc hubs ds) (option_map (λ (h : HubText). hub_desc h.addr) o)
told_hub hubs ds addr None e = tt
told_hub hubs ds addr (Some x) e =
    let same : x.addr ≡ addr = eqb-true x.addr addr (found_passes (λ (h : HubText). h.addr == addr) hubs x e) in
    record { name = hub_named x.addr; from = inl (subst (λ a. has_hub hubs a ≡ true) (sym same) (found_any (λ (h : HubText). h.addr == addr) hubs x e)) }

hub_told : (w : Draft) (name : Name) → Holds (IsToldDesc w.hubs w.devices) (hub_ep w name)
hub_told w name =
    cond_both (name.num == 0 && same_way name.way way.Ctl) (option_map (λ h. hub_desc h.addr) (hub_of w.hubs name.addr)) None (Holds (IsToldDesc w.hubs w.devices))
    (λ _. told_hub w.hubs w.devices name.addr (hub_of w.hubs name.addr) refl) (λ _. tt)

mapped : {X Y : Type 0} (P : X → Type 0) (Q : Y → Type 0) (f : X → Y) (o : Option X) → ((x : X) → P x → Q (f x)) → Holds P o → Holds Q (option_map f o)
mapped P Q f None g h = tt
mapped P Q f (Some x) g h = g x h

then_holds : {X Y : Type 0} (P : X → Type 0) (Q : Y → Type 0) (f : X → Option Y) (o : Option X) → ((x : X) → P x → Holds Q (f x)) → Holds P o → Holds Q (option_and_then f o)
then_holds P Q f None g h = tt
then_holds P Q f (Some x) g h = g x h

device_named : (w : Draft) (name : Name) → AllByRecursion HasNames w.devices → Holds HasItsName (device_ep w name)
device_named w name h =
    then_holds HasNames HasItsName (λ d. ep_of d.eps name) (device_of w.devices name.addr)
    (λ d k. mapped HasName HasItsName (λ e. e.desc) (find (is_named name) d.eps) (λ e z. z) (all_find HasName (is_named name) d.eps k))
    (all_find HasNames (λ d. d.addr == name.addr) w.devices h)

either_told : (w : Draft) (name : Name) (o : Option EpDesc) → device_ep w name ≡ o → AllByRecursion HasNames w.devices → Holds (IsToldDesc w.hubs w.devices) (option_or o (hub_ep w name))
either_told w name None e h = hub_told w name
either_told w name (Some x) e h = record { name = subst (Holds HasItsName) e (device_named w name h); from = inr (record { name = name; here = e }) }

known_told : (w : Draft) (name : Name) → AllByRecursion HasNames w.devices → Holds (IsToldDesc w.hubs w.devices) (known w name)
known_told w name h =
    cond_both (is_name name) (option_or (device_ep w name) (hub_ep w name)) None (Holds (IsToldDesc w.hubs w.devices))
    (λ _. either_told w name (device_ep w name) refl h) (λ _. tt)

-- ---- the answers and the room of an endpoint

-- what is changed is no description
abbrev KeepsDesc : (EpText → EpText) → Type 0
KeepsDesc f = (e : EpText) → (f e).desc ≡ e.desc

abbrev with_eps : Name → (EpText → EpText) → Placed → Placed
with_eps name f d = record d { eps = change (is_named name) f d.eps }

eps_keep : (to : Name) (f : EpText → EpText) (ds : List Placed) → KeepsDesc f → KeepsEps ds (at_ep to f ds)
eps_keep to f ds same name x e =
    then_change (λ (d : Placed). d.addr == name.addr) (λ d. ep_of d.eps name) x (λ d. d.addr == to.addr) (with_eps to f) ds (λ d. refl)
    (λ d k. map_find_change (is_named name) (λ (e : EpText). e.desc) (is_named to) f d.eps (λ e. ap (λ (x : EpDesc). x.name.num == name.num && same_way x.name.way name.way) (same e)) same ∙ k) e

eps_named : (to : Name) (f : EpText → EpText) (ds : List Placed) → KeepsDesc f → AllByRecursion HasNames ds → AllByRecursion HasNames (at_ep to f ds)
eps_named to f ds same h =
    all_change HasNames (λ d. d.addr == to.addr) (with_eps to f) ds (λ d _ k. all_change HasName (is_named to) f d.eps (λ e _ z. subst HasItsName (sym (same e)) z) k) h

put_named : (name : Name) (n : ℕ) (ds : List Placed) → AllByRecursion HasNames ds → AllByRecursion HasNames (put_room name n ds)
put_named name n ds h =
    cond_both (same_way name.way way.Out) (at_ep name (roomier n) ds) ds (AllByRecursion HasNames) (λ _. eps_named name (roomier n) ds (λ e. refl) h) (λ _. h)

put_keeps : (name : Name) (n : ℕ) (ds : List Placed) → KeepsEps ds (put_room name n ds)
put_keeps name n ds =
    cond_both (same_way name.way way.Out) (at_ep name (roomier n) ds) ds (KeepsEps ds) (λ _. eps_keep name (roomier n) ds (λ e. refl)) (λ _. same_eps ds)

-- ---- a new endpoint

-- only the first element that passes is changed
all_change_first : {X : Type 0} (P : X → Type 0) (p : X → Bool) (f : X → X) (xs : List X) → ((x : X) → find p xs ≡ Some x → P x → P (f x)) → AllByRecursion P xs → AllByRecursion P (change p f xs)
all_change_first P p f [] g h = tt
all_change_first P p f (x ∷ xs) g h =
    cond_both (p x) (f x ∷ xs) (x ∷ change p f xs) (AllByRecursion P)
    (λ e. (g x (subst (λ (b : Bool). (if b then Some x else find p xs) ≡ Some x) (sym e) refl) h.0, h.1))
    (λ e. (h.0, all_change_first P p f xs (λ y k. g y (subst (λ (b : Bool). (if b then Some x else find p xs) ≡ Some y) (sym e) k)) h.1))

suits_at : (w : Draft) (l : EpLine) (d : Placed) (b : Bool) → option_map_or (suits l) (speed_of w l.name.addr) b ≡ true → device_of w.devices l.name.addr ≡ Some d → suits l d.speed ≡ true
suits_at w l d b e at = subst (λ (x : Option Placed). option_map_or (suits l) (option_map (λ y. y.speed) x) b ≡ true) at e

new_keeps : (l : EpLine) (ds : List Placed) → KeepsEps ds (change (λ d. d.addr == l.name.addr) (with_ep l) ds)
new_keeps l ds name x e =
    then_change (λ (d : Placed). d.addr == name.addr) (λ d. ep_of d.eps name) x (λ d. d.addr == l.name.addr) (with_ep l) ds (λ d. refl)
    (λ d k. map_append (is_named name) (λ (e : EpText). e.desc) x d.eps (record { desc = desc_of l d; items = []; room = 0; stuff = 0; clears = 0 } ∷ []) k) e

ep_told : (w : Draft) (n : ℕ) (l : EpLine) → in_range w (says.Ep l) ≡ true → IsToldDraft w → IsToldDraft (after w n (says.Ep l))
ep_told w n l t h =
    let a = and_parts (is_endpoint l && is_placed l.kind l.name) (option_map_or (suits l) (speed_of w l.name.addr) (suits l High || suits l Full || suits l Low)) t in
    let b = and_parts (is_endpoint l) (is_placed l.kind l.name) a.0 in
    cond_both (is_endpoint l && is_some (device_of w.devices l.name.addr)) _ w IsToldDraft
    (λ _. record {
      devices =
          all_change_first HasNames (λ d. d.addr == l.name.addr) (with_ep l) w.devices
          (λ d at k. all_both HasName d.eps _ k (line_named l d b.1 (suits_at w l d _ a.1 at), tt)) h.devices;
      lines = told_keeps w.hubs w.hubs w.devices (change (λ d. d.addr == l.name.addr) (with_ep l) w.devices) w.lines (same_hubs w.hubs) (new_keeps l w.devices) h.lines;
    })
    (λ _. h)

-- ---- a new device

appended_keeps : (ds es : List Placed) → KeepsEps ds (ds ++ es)
appended_keeps ds es name x e = then_append (λ (d : Placed). d.addr == name.addr) (λ d. ep_of d.eps name) x ds es e

device_told : (w : Draft) (hubs : List HubText) (d : Placed) → d.eps ≡ [] → KeepsHubs w.hubs hubs → IsToldDraft w → IsToldDraft (record w { declaring = true; hubs = hubs; devices = w.devices ++ d ∷ [] })
device_told w hubs d none more h = record {
  devices = all_both HasNames w.devices (d ∷ []) h.devices (subst (AllByRecursion HasName) (sym none) tt, tt);
  lines = told_keeps w.hubs hubs w.devices (w.devices ++ d ∷ []) w.lines more (appended_keeps w.devices (d ∷ [])) h.lines;
}

-- ---- commands

commanded_told : (w : Draft) (n : ℕ) (c : Cmd) → IsToldLine w.hubs w.devices (line.Command c) → IsToldDraft w → IsToldDraft (commanded w n c)
commanded_told w n c k h = record { devices = h.devices; lines = told_more w.hubs w.devices w.lines n (line.Command c) k h.lines }

where_told : (w : Draft) (name : Name) (v : Draft) → IsToldDraft w → IsToldDraft v → IsToldDraft (where_known w name v)
where_told w name v h k = cond_both (is_some (known w name)) v w IsToldDraft (λ _. k) (λ _. h)

opened_told : (w : Draft) (n : ℕ) (o : Option EpDesc) → Holds (IsToldDesc w.hubs w.devices) o → IsToldDraft w → IsToldDraft (option_map_or (λ d. commanded w n (cmd.OpenEp d)) o w)
opened_told w n None k h = h
opened_told w n (Some x) k h = commanded_told w n (cmd.OpenEp x) k h

put_told : (w : Draft) (name : Name) (k : ℕ) (scripted : ℕ) → IsToldDraft w → IsToldDraft (record w { scripted = scripted; devices = put_room name k w.devices })
put_told w name k scripted h = record {
  devices = put_named name k w.devices h.devices;
  lines = told_keeps w.hubs w.hubs w.devices (put_room name k w.devices) w.lines (same_hubs w.hubs) (put_keeps name k w.devices) h.lines;
}

-- ---- any line

pub after_told : (w : Draft) (n : ℕ) (s : Statement) → in_range w s ≡ true → IsEight s → IsToldDraft w → IsToldDraft (after w n s)
after_told w n (says.Mem words) t said h = record { devices = h.devices; lines = h.lines }
after_told w n (says.Hub addr ports multi) t said h =
    cond_both (within 1 127 addr && within 1 15 ports) _ w IsToldDraft
    (λ _. record { devices = h.devices; lines = told_keeps w.hubs _ w.devices w.devices w.lines (λ a e. any_more (λ (x : HubText). x.addr == a) w.hubs _ e) (same_eps w.devices) h.lines }) (λ _. h)
after_told w n (says.DevHigh addr) t said h = cond_both (within 1 127 addr) _ w IsToldDraft (λ _. device_told w w.hubs _ refl (same_hubs w.hubs) h) (λ _. h)
after_told w n (says.DevBelow b) t said h =
    cond_both (within 1 127 b.addr && nat_le b.hub 127 && is_known w (says.DevBelow b)) _ w IsToldDraft
    (λ _. device_told w (change (λ h. h.addr == b.hub) (attach b.port b.speed) w.hubs) _ refl (one_attached b.port b.speed (λ h. h.addr == b.hub) w.hubs) h) (λ _. h)
after_told w n (says.Ep l) t said h = ep_told w n l t h
after_told w n (says.Reply name a) t said h = record {
  devices = eps_named name (answered a) w.devices (λ e. refl) h.devices;
  lines = told_keeps w.hubs w.hubs w.devices (at_ep name (answered a) w.devices) w.lines (same_hubs w.hubs) (eps_keep name (answered a) w.devices (λ e. refl)) h.lines;
}
after_told w n (says.Fate f) t said h = where_told w f.name _ h (record { devices = h.devices; lines = h.lines })
after_told w n (says.Stuff name p) t said h =
    cond_both (nat_le p 6) _ w IsToldDraft
    (λ _. where_told w name _ h (record {
      devices = eps_named name (stuffed p) w.devices (λ e. refl) h.devices;
      lines = told_keeps w.hubs w.hubs w.devices (at_ep name (stuffed p) w.devices) w.lines (same_hubs w.hubs)
          (eps_keep name (stuffed p) w.devices (λ e. refl)) h.lines;
    }))
    (λ _. h)
after_told w n (says.Hold first last) t said h = record { devices = h.devices; lines = h.lines }
after_told w n (says.Open name) t said h = opened_told w n (known w name) (known_told w name h.devices) h
after_told w n (says.Cancel name) t said h = where_told w name _ h (commanded_told w n (cmd.Cancel (name_of name)) tt h)
after_told w n (says.Clear name) t said h = where_told w name _ h (commanded_told w n (cmd.Clear (name_of name)) tt h)
after_told w n (says.Get l) t said h =
    where_told w l.name _ h (commanded_told (record w { asked = counted w.asked l.len }) n (cmd.Get (name_of l.name) l.len (by_of l.by)) tt (record { devices = h.devices; lines = h.lines }))
after_told w n (says.Put l) t said h =
    where_told w l.name _ h
    (commanded_told (record w { scripted = counted w.scripted (content_len l.content); devices = put_room l.name (content_len l.content) w.devices }) n
    (cmd.Put (name_of l.name) (content_bytes l.content) (by_of l.by)) tt (put_told w l.name (content_len l.content) _ h))
after_told w n (says.Control c) t said h =
    where_told w (control_name c.addr) _ h
    (commanded_told (record w { scripted = counted w.scripted (bytes_len c.bytes) }) n (cmd.Control (name_of (control_name c.addr)) c.setup (unwrap_or c.bytes []))
    (record { number = refl; way = refl }, line_measured c said t) (record { devices = h.devices; lines = h.lines }))
after_told w n (says.Iso l) t said h =
    cond_both (is_slots l) _ w IsToldDraft (λ _. where_told w l.name _ h (commanded_told w n (cmd.Iso (name_of l.name) l.count l.len l.seed) tt h)) (λ _. h)
after_told w n (says.Order event k) t said h = record { devices = h.devices; lines = told_more w.hubs w.devices w.lines n (line.Order event k) tt h.lines }
after_told w n (says.Micro k) t said h = record { devices = h.devices; lines = told_more w.hubs w.devices w.lines n (line.Micro k) tt h.lines }
after_told w n says.Unbuilt t said h = h
