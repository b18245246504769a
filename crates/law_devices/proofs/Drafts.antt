-- What holds of a script after each line: addresses differ, endpoints are those of their devices, and what was opened is declared.
use Rattle.std.proofs.Common.{◌≡◌, ℕ, Bool, true, false, List, [], ◌∷◌, ◌++◌, map, Option, Some, None, refl, sym, ap, subst, ◌∙◌, inl, inr, ◌⊎◌}
use Rattle.std.specs.Prelude.{◌==◌, ◌&&◌, nat_le, is_some, unwrap_or}
use Rattle.std.specs.List.{AllByRecursion, list_any}
use Rattle.std.specs.Option.{option_map, option_map_or, option_and_then, option_or}
use Rattle.std.proofs.lemmas.Bool.{cond_both, cases_Bool, and_from, eqb-true, eq-eqb, true≢false}
use Rattle.std.proofs.lemmas.List.{map-append}
use Rattle.law_common.proofs.Booleans.{or_both, left_or}
use Rattle.law_devices.proofs.Common.{same_way_is}
use Rattle.law_common.proofs.Lists.{all_both, all_more, each_none}
use Rattle.usb_base.specs.declared.packets.Way.TheVariants as way
use Rattle.usb_base.specs.declared.endpoints.EpDesc.{EpDesc}
use Rattle.usb_base.specs.declared.endpoints.EpName.{EpName}
use Rattle.usb_base.specs.declared.commands.Cmd.{Cmd}
use Rattle.usb_base.specs.declared.commands.Cmd.TheVariants as cmd
use Rattle.script_types.specs.declared.devices.EpText.{EpText}
use Rattle.script_types.specs.declared.devices.HubText.{HubText}
use Rattle.script_types.specs.declared.scripts.Line.{Line}
use Rattle.script_types.specs.declared.scripts.Line.TheVariants as line
use Rattle.script_forms.specs.declared.statements.Name.{Name}
use Rattle.script_forms.specs.declared.statements.EpLine.{EpLine}
use Rattle.script_forms.specs.declared.statements.Statement.{Statement}
use Rattle.script_forms.specs.declared.statements.Statement.TheVariants as says
use Rattle.script_world.specs.Draft.{Draft, Placed, device_of, hub_of, hub_ep, hub_desc, ep_of, device_ep, known, is_name, same_way, is_named, change}
use Rattle.script_world.specs.Ranges.{within, is_endpoint, is_slots}
use Rattle.script_world.specs.Rows.{is_known, is_twice, is_used, is_attached, answered, counted, roomier, stuffed, at_ep, name_of}
use Rattle.script_world.specs.Rows.{desc_of, with_ep, content_bytes, content_len, bytes_len, commanded, where_known, put_room}
use Rattle.script_world.specs.Rows.{control_name, attach, by_of, after}
use Rattle.bus_wire.specs.Fates.{is_same_name}
use Rattle.law_devices.proofs.Lists.{Holds, all_change, none_each, map_change, any_more, any_later, then_append, then_change, map_append, map_find_change}

-- ---- the addresses

abbrev pub IsApart : ℕ → List ℕ → Type 0
IsApart a bs = AllByRecursion (λ b. (a == b) ≡ false) bs

abbrev pub AreApart : List ℕ → Type 0
AreApart [] = Unit {0}
AreApart (a ∷ bs) = IsApart a bs × AreApart bs

abbrev pub addresses : List Placed → List ℕ
addresses ds = map (λ d. d.addr) ds

-- ---- the endpoints

-- this endpoint of the device with this address and hub is one of the names
pub record IsEpOf (names : List EpName) (addr : ℕ) (hub : Option ℕ) (e : EpText) : Type 0 where
  pub address : e.desc.name.addr ≡ addr
  pub behind : e.desc.hub ≡ hub
  pub listed : list_any (is_same_name e.desc.name) names ≡ true

abbrev pub HasOwn : List EpName → Placed → Type 0
HasOwn names d = AllByRecursion (IsEpOf names d.addr d.hub) d.eps

-- ---- what was opened

abbrev pub ep_in : List Placed → Name → Option EpDesc
ep_in ds name = option_and_then (λ d. ep_of d.eps name) (device_of ds name.addr)

pub record IsNamedIn (ds : List Placed) (x : EpDesc) : Type 0 where
  pub name : Name
  pub here : ep_in ds name ≡ Some x

abbrev pub IsKnownDesc : List Placed → EpDesc → Type 0
IsKnownDesc ds x = (x.name.way ≡ way.Ctl) ⊎ IsNamedIn ds x

abbrev pub IsKnownLine : List Placed → Line → Type 0
IsKnownLine ds (line.Command (cmd.OpenEp x)) = IsKnownDesc ds x
IsKnownLine ds _ = Unit {0}

pub record IsDeclaredDraft (w : Draft) : Type 0 where
  pub apart : AreApart (addresses w.devices)
  pub no_hub : AllByRecursion (λ a. hub_of w.hubs a ≡ None) (addresses w.devices)
  pub own : AllByRecursion (HasOwn w.endpoints) w.devices
  pub opened : AllByRecursion (λ l. IsKnownLine w.devices l.1) w.lines

-- ---- small facts

other_way : (a b : ℕ) → (a == b) ≡ false → (b == a) ≡ false
other_way a b e =
    elim (cases_Bool (b == a)) [
      | inl t ↦ absurd (true≢false (sym (eq-eqb a b (sym (eqb-true b a t))) ∙ e))
      | inr f ↦ f
    ]

no_some : {X : Type 0} (o : Option X) → is_some o ≡ false → o ≡ None
no_some None e = refl
no_some (Some x) e = cc

pub record IsUnused (w : Draft) (a : ℕ) : Type 0 where
  pub hub : hub_of w.hubs a ≡ None
  pub devices : AllByRecursion (λ b. (b == a) ≡ false) (addresses w.devices)

addresses_each : (a : ℕ) (ds : List Placed) → AllByRecursion (λ d. (d.addr == a) ≡ false) ds → AllByRecursion (λ b. (b == a) ≡ false) (addresses ds)
addresses_each a [] h = tt
addresses_each a (d ∷ ds) h = (h.0, addresses_each a ds h.1)

unused : (w : Draft) (a : ℕ) → is_used w a ≡ false → IsUnused w a
unused w a e =
    let k = or_both (is_some (hub_of w.hubs a)) (is_some (device_of w.devices a)) e in
    record {
      hub = no_some (hub_of w.hubs a) k.0;
      devices = addresses_each a w.devices (none_each (λ d. d.addr == a) w.devices (no_some (device_of w.devices a) k.1));
    }

apart_append : (cs : List ℕ) (b : ℕ) → AreApart cs → AllByRecursion (λ a. (a == b) ≡ false) cs → AreApart (cs ++ b ∷ [])
apart_append [] b h k = (tt, tt)
apart_append (a ∷ cs) b h k = (all_both (λ c. (a == c) ≡ false) cs (b ∷ []) h.0 (k.0, tt), apart_append cs b h.1 k.1)

-- ---- what was opened stays declared

abbrev pub KeepsEps : List Placed → List Placed → Type 0
KeepsEps ds es = (name : Name) (x : EpDesc) → ep_in ds name ≡ Some x → ep_in es name ≡ Some x

desc_keeps : (ds es : List Placed) (x : EpDesc) → KeepsEps ds es → IsKnownDesc ds x → IsKnownDesc es x
desc_keeps ds es x g (inl c) = inl c
desc_keeps ds es x g (inr k) = inr (record { name = k.name; here = g k.name x k.here })

line_keeps : (ds es : List Placed) (l : Line) → KeepsEps ds es → IsKnownLine ds l → IsKnownLine es l
line_keeps ds es (line.Command (cmd.OpenEp x)) g h = desc_keeps ds es x g h
line_keeps ds es _ g h = tt

lines_keep : (ds es : List Placed) (ls : List (ℕ × Line)) → KeepsEps ds es → AllByRecursion (λ l. IsKnownLine ds l.1) ls → AllByRecursion (λ l. IsKnownLine es l.1) ls
lines_keep ds es ls g h = all_more (λ l. IsKnownLine ds l.1) (λ l. IsKnownLine es l.1) ls (λ l k. line_keeps ds es l.1 g k) h

appended_keeps : (ds es : List Placed) → KeepsEps ds (ds ++ es)
appended_keeps ds es name x e = then_append (λ (d : Placed). d.addr == name.addr) (λ d. ep_of d.eps name) x ds es e

-- ---- the answers and the room of an endpoint

abbrev with_eps : Name → (EpText → EpText) → Placed → Placed
with_eps name f d = record d { eps = change (is_named name) f d.eps }

-- what is changed is no name
abbrev KeepsDesc : (EpText → EpText) → Type 0
KeepsDesc f = (e : EpText) → (f e).desc ≡ e.desc

ep_stays : (names : List EpName) (addr : ℕ) (hub : Option ℕ) (f : EpText → EpText) (e : EpText) → KeepsDesc f → IsEpOf names addr hub e → IsEpOf names addr hub (f e)
ep_stays names addr hub f e same k = record {
  address = ap (λ (d : EpDesc). d.name.addr) (same e) ∙ k.address;
  behind = ap (λ (d : EpDesc). d.hub) (same e) ∙ k.behind;
  listed = ap (λ (d : EpDesc). list_any (is_same_name d.name) names) (same e) ∙ k.listed;
}

named_stays : (name : Name) (f : EpText → EpText) (e : EpText) → KeepsDesc f → is_named name (f e) ≡ is_named name e
named_stays name f e same = ap (λ (d : EpDesc). d.name.num == name.num && same_way d.name.way name.way) (same e)

eps_keep : (to : Name) (f : EpText → EpText) (ds : List Placed) → KeepsDesc f → KeepsEps ds (at_ep to f ds)
eps_keep to f ds same name x e =
    then_change (λ (d : Placed). d.addr == name.addr) (λ d. ep_of d.eps name) x (λ d. d.addr == to.addr) (with_eps to f) ds (λ d. refl)
    (λ d k. map_find_change (is_named name) (λ (e : EpText). e.desc) (is_named to) f d.eps (λ e. named_stays name f e same) same ∙ k) e

eps_own : (names : List EpName) (to : Name) (f : EpText → EpText) (ds : List Placed) → KeepsDesc f → AllByRecursion (HasOwn names) ds → AllByRecursion (HasOwn names) (at_ep to f ds)
eps_own names to f ds same h =
    all_change (HasOwn names) (λ d. d.addr == to.addr) (with_eps to f) ds
    (λ d _ k. all_change (IsEpOf names d.addr d.hub) (is_named to) f d.eps (λ e _ z. ep_stays names d.addr d.hub f e same z) k) h

eps_addresses : (to : Name) (f : EpText → EpText) (ds : List Placed) → addresses (at_ep to f ds) ≡ addresses ds
eps_addresses to f ds = map_change (λ (d : Placed). d.addr) (λ d. d.addr == to.addr) (with_eps to f) ds (λ d. refl)

-- the same script with other answers or room at an endpoint
pub changed_declared : (w : Draft) (to : Name) (f : EpText → EpText) (v : Draft) → KeepsDesc f → v.devices ≡ at_ep to f w.devices → v.hubs ≡ w.hubs → v.endpoints ≡ w.endpoints → v.lines ≡ w.lines
    → IsDeclaredDraft w → IsDeclaredDraft v
changed_declared w to f v same devices hubs endpoints lines h =
    let there : addresses v.devices ≡ addresses w.devices = ap addresses devices ∙ eps_addresses to f w.devices in
    record {
      apart = subst AreApart (sym there) h.apart;
      no_hub = subst (λ hs. AllByRecursion (λ a. hub_of hs a ≡ None) (addresses v.devices)) (sym hubs) (subst (AllByRecursion (λ a. hub_of w.hubs a ≡ None)) (sym there) h.no_hub);
      own = subst (λ ds. AllByRecursion (HasOwn v.endpoints) ds) (sym devices) (subst (λ ns. AllByRecursion (HasOwn ns) (at_ep to f w.devices)) (sym endpoints) (eps_own w.endpoints to f w.devices same h.own));
      opened = subst (λ ds. AllByRecursion (λ l. IsKnownLine ds l.1) v.lines) (sym devices)
          (subst (λ ls. AllByRecursion (λ l. IsKnownLine (at_ep to f w.devices) l.1) ls) (sym lines) (lines_keep w.devices (at_ep to f w.devices) w.lines (eps_keep to f w.devices same) h.opened));
    }

-- ---- a new endpoint

new_is_named : (l : EpLine) (d : Placed) → (d.addr == l.name.addr) ≡ true → is_same_name (desc_of l d).name (name_of l.name) ≡ true
new_is_named l d t = and_from (d.addr == l.name.addr) _ t (and_from (l.name.num == l.name.num) _ (eq-eqb l.name.num l.name.num refl) (same_way_is l.name.way))

own_more : (names : List EpName) (n : EpName) (addr : ℕ) (hub : Option ℕ) (e : EpText) → IsEpOf names addr hub e → IsEpOf (names ++ n ∷ []) addr hub e
own_more names n addr hub e k = record { address = k.address; behind = k.behind; listed = any_more (is_same_name e.desc.name) names (n ∷ []) k.listed }

device_more : (names : List EpName) (n : EpName) (d : Placed) → HasOwn names d → HasOwn (names ++ n ∷ []) d
device_more names n d h = all_more (IsEpOf names d.addr d.hub) (IsEpOf (names ++ n ∷ []) d.addr d.hub) d.eps (λ e k. own_more names n d.addr d.hub e k) h

new_own : (names : List EpName) (l : EpLine) (d : Placed) → (d.addr == l.name.addr) ≡ true → HasOwn (names ++ name_of l.name ∷ []) d → HasOwn (names ++ name_of l.name ∷ []) (with_ep l d)
new_own names l d t h =
    let all = names ++ name_of l.name ∷ [] in
    all_both (IsEpOf all d.addr d.hub) d.eps (record { desc = desc_of l d; items = []; room = 0; stuff = 0; clears = 0 } ∷ []) h (
      record {
        address = refl;
        behind = refl;
        listed = any_later (is_same_name (desc_of l d).name) names (name_of l.name ∷ []) (left_or _ false (new_is_named l d t));
      },
      tt,
    )

new_keeps : (l : EpLine) (ds : List Placed) → KeepsEps ds (change (λ d. d.addr == l.name.addr) (with_ep l) ds)
new_keeps l ds name x e =
    then_change (λ (d : Placed). d.addr == name.addr) (λ d. ep_of d.eps name) x (λ d. d.addr == l.name.addr) (with_ep l) ds (λ d. refl)
    (λ d k. map_append (is_named name) (λ (e : EpText). e.desc) x d.eps (record { desc = desc_of l d; items = []; room = 0; stuff = 0; clears = 0 } ∷ []) k) e

ep_declared : (w : Draft) (l : EpLine) → IsDeclaredDraft w
    → IsDeclaredDraft (record w { declaring = true; devices = change (λ d. d.addr == l.name.addr) (with_ep l) w.devices; endpoints = w.endpoints ++ name_of l.name ∷ [] })
ep_declared w l h =
    let names = w.endpoints ++ name_of l.name ∷ [] in
    let ds = change (λ d. d.addr == l.name.addr) (with_ep l) w.devices in
    let there : addresses ds ≡ addresses w.devices = map_change (λ (d : Placed). d.addr) (λ d. d.addr == l.name.addr) (with_ep l) w.devices (λ d. refl) in
    record {
      apart = subst AreApart (sym there) h.apart;
      no_hub = subst (AllByRecursion (λ a. hub_of w.hubs a ≡ None)) (sym there) h.no_hub;
      own = all_change (HasOwn names) (λ d. d.addr == l.name.addr) (with_ep l) w.devices (λ d t k. new_own w.endpoints l d t k)
          (all_more (HasOwn w.endpoints) (HasOwn names) w.devices (λ d k. device_more w.endpoints (name_of l.name) d k) h.own);
      opened = lines_keep w.devices ds w.lines (new_keeps l w.devices) h.opened;
    }

-- ---- a new device

device_declared : (w : Draft) (hubs : List HubText) (d : Placed) → d.eps ≡ [] → IsUnused w d.addr → ((a : ℕ) → hub_of w.hubs a ≡ None → hub_of hubs a ≡ None) → IsDeclaredDraft w
    → IsDeclaredDraft (record w { declaring = true; hubs = hubs; devices = w.devices ++ d ∷ [] })
device_declared w hubs d none free beside h =
    let there : addresses (w.devices ++ d ∷ []) ≡ addresses w.devices ++ d.addr ∷ [] = map-append (λ (d : Placed). d.addr) w.devices (d ∷ []) in
    record {
      apart = subst AreApart (sym there) (apart_append (addresses w.devices) d.addr h.apart free.devices);
      no_hub = subst (AllByRecursion (λ a. hub_of hubs a ≡ None)) (sym there)
          (all_both (λ a. hub_of hubs a ≡ None) (addresses w.devices) (d.addr ∷ [])
          (all_more (λ a. hub_of w.hubs a ≡ None) (λ a. hub_of hubs a ≡ None) (addresses w.devices) beside h.no_hub)
          (beside d.addr free.hub, tt));
      own = all_both (HasOwn w.endpoints) w.devices (d ∷ []) h.own
          (subst (AllByRecursion (IsEpOf w.endpoints d.addr d.hub)) (sym none) tt, tt);
      opened = lines_keep w.devices (w.devices ++ d ∷ []) w.lines (appended_keeps w.devices (d ∷ [])) h.opened;
    }

-- ---- a new hub

hub_declared : (w : Draft) (x : HubText) → IsUnused w x.addr → IsDeclaredDraft w → IsDeclaredDraft (record w { declaring = true; hubs = w.hubs ++ x ∷ [] })
hub_declared w x free h = record {
  apart = h.apart;
  no_hub = both (addresses w.devices) h.no_hub free.devices;
  own = h.own;
  opened = h.opened;
}
  where
    both : (cs : List ℕ) → AllByRecursion (λ a. hub_of w.hubs a ≡ None) cs → AllByRecursion (λ a. (a == x.addr) ≡ false) cs → AllByRecursion (λ a. hub_of (w.hubs ++ x ∷ []) a ≡ None) cs
    both [] k z = tt
    both (a ∷ cs) k z = (
      each_none (λ (y : HubText). y.addr == a) (w.hubs ++ x ∷ [])
          (all_both (λ (y : HubText). (y.addr == a) ≡ false) w.hubs (x ∷ []) (none_each (λ (y : HubText). y.addr == a) w.hubs k.0)
          (other_way a x.addr z.0, tt)),
      both cs k.1 z.1,
    )

attached_stays : (p : HubText → Bool) (f : HubText → HubText) (hs : List HubText) → ((h : HubText) → (f h).addr ≡ h.addr) → (a : ℕ) → hub_of hs a ≡ None → hub_of (change p f hs) a ≡ None
attached_stays p f hs same a e =
    each_none (λ h. h.addr == a) (change p f hs)
    (all_change (λ h. (h.addr == a) ≡ false) p f hs (λ h _ k. ap (λ b. b == a) (same h) ∙ k) (none_each (λ h. h.addr == a) hs e))

-- ---- commands

commanded_declared : (w : Draft) (n : ℕ) (c : Cmd) → IsKnownLine w.devices (line.Command c) → IsDeclaredDraft w → IsDeclaredDraft (commanded w n c)
commanded_declared w n c k h = record { apart = h.apart; no_hub = h.no_hub; own = h.own; opened = all_both (λ l. IsKnownLine w.devices l.1) w.lines ((n, line.Command c) ∷ []) h.opened (k, tt) }

where_declared : (w : Draft) (name : Name) (v : Draft) → IsDeclaredDraft w → IsDeclaredDraft v → IsDeclaredDraft (where_known w name v)
where_declared w name v h k = cond_both (is_some (known w name)) v w IsDeclaredDraft (λ _. k) (λ _. h)

hub_known : (w : Draft) (name : Name) → Holds (λ x. IsKnownDesc w.devices x) (hub_ep w name)
hub_known w name =
    cond_both (name.num == 0 && same_way name.way way.Ctl) (option_map (λ h. hub_desc h.addr) (hub_of w.hubs name.addr)) None (Holds (λ x. IsKnownDesc w.devices x))
    (λ _. own (hub_of w.hubs name.addr)) (λ _. tt)
  where
    own : (o : Option HubText) → Holds (λ x. IsKnownDesc w.devices x) (option_map (λ h. hub_desc h.addr) o)
    own None = tt
    own (Some h) = inl refl

either_known : (w : Draft) (name : Name) (o : Option EpDesc) → device_ep w name ≡ o → Holds (λ x. IsKnownDesc w.devices x) (option_or o (hub_ep w name))
either_known w name None e = hub_known w name
either_known w name (Some x) e = inr (record { name = name; here = e })

known_is : (w : Draft) (name : Name) → Holds (λ x. IsKnownDesc w.devices x) (known w name)
known_is w name =
    cond_both (is_name name) (option_or (device_ep w name) (hub_ep w name)) None (Holds (λ x. IsKnownDesc w.devices x))
    (λ _. either_known w name (device_ep w name) refl) (λ _. tt)

opened_declared : (w : Draft) (n : ℕ) (o : Option EpDesc) → Holds (λ x. IsKnownDesc w.devices x) o → IsDeclaredDraft w → IsDeclaredDraft (option_map_or (λ d. commanded w n (cmd.OpenEp d)) o w)
opened_declared w n None k h = h
opened_declared w n (Some x) k h = commanded_declared w n (cmd.OpenEp x) k h

-- ---- any line

put_declared : (w : Draft) (name : Name) (k : ℕ) (scripted : ℕ) → IsDeclaredDraft w → IsDeclaredDraft (record w { scripted = scripted; devices = put_room name k w.devices })
put_declared w name k scripted h =
    cond_both (same_way name.way way.Out) (at_ep name (roomier k) w.devices) w.devices (λ ds. IsDeclaredDraft (record w { scripted = scripted; devices = ds }))
    (λ _. changed_declared w name (roomier k) _ (λ e. refl) refl refl refl refl h)
    (λ _. record { apart = h.apart; no_hub = h.no_hub; own = h.own; opened = h.opened })

same_declared : (w v : Draft) → v.devices ≡ w.devices → v.hubs ≡ w.hubs → v.endpoints ≡ w.endpoints → v.lines ≡ w.lines → IsDeclaredDraft w → IsDeclaredDraft v
same_declared w v devices hubs endpoints lines h = record {
  apart = subst (λ ds. AreApart (addresses ds)) (sym devices) h.apart;
  no_hub = subst (λ ds. AllByRecursion (λ a. hub_of v.hubs a ≡ None) (addresses ds)) (sym devices) (subst (λ hs. AllByRecursion (λ a. hub_of hs a ≡ None) (addresses w.devices)) (sym hubs) h.no_hub);
  own = subst (AllByRecursion (HasOwn v.endpoints)) (sym devices) (subst (λ ns. AllByRecursion (HasOwn ns) w.devices) (sym endpoints) h.own);
  opened = subst (λ ds. AllByRecursion (λ l. IsKnownLine ds l.1) v.lines) (sym devices) (subst (AllByRecursion (λ l. IsKnownLine w.devices l.1)) (sym lines) h.opened);
}

ordered_declared : (w v : Draft) (n : ℕ) (l : Line) → IsKnownLine w.devices l → v.devices ≡ w.devices → v.hubs ≡ w.hubs → v.endpoints ≡ w.endpoints → v.lines ≡ w.lines ++ (n, l) ∷ []
    → IsDeclaredDraft w → IsDeclaredDraft v
ordered_declared w v n l k devices hubs endpoints lines h =
    same_declared (record w { lines = w.lines ++ (n, l) ∷ [] }) v devices hubs endpoints lines
    (record { apart = h.apart; no_hub = h.no_hub; own = h.own; opened = all_both (λ l. IsKnownLine w.devices l.1) w.lines ((n, l) ∷ []) h.opened (k, tt) })

pub after_declared : (w : Draft) (n : ℕ) (s : Statement) → is_twice w s ≡ false → IsDeclaredDraft w → IsDeclaredDraft (after w n s)
after_declared w n (says.Hub addr ports multi) new h =
    cond_both (within 1 127 addr && within 1 15 ports) _ w IsDeclaredDraft (λ _. hub_declared w _ (unused w addr new) h) (λ _. h)
after_declared w n (says.DevHigh addr) new h =
    cond_both (within 1 127 addr) _ w IsDeclaredDraft (λ _. device_declared w w.hubs _ refl (unused w addr new) (λ a e. e) h) (λ _. h)
after_declared w n (says.DevBelow b) new h =
    cond_both (within 1 127 b.addr && nat_le b.hub 127 && is_known w (says.DevBelow b)) _ w IsDeclaredDraft
    (λ _. device_declared w (change (λ h. h.addr == b.hub) (attach b.port b.speed) w.hubs) _ refl (unused w b.addr (or_both (is_used w b.addr) (is_attached w b.hub b.port) new).0)
    (attached_stays (λ h. h.addr == b.hub) (attach b.port b.speed) w.hubs (λ h. refl)) h)
    (λ _. h)
after_declared w n (says.Ep l) new h =
    cond_both (is_endpoint l && is_some (device_of w.devices l.name.addr)) _ w IsDeclaredDraft (λ _. ep_declared w l h) (λ _. h)
after_declared w n (says.Reply name a) new h = changed_declared w name (answered a) _ (λ e. refl) refl refl refl refl h
after_declared w n (says.Fate f) new h = where_declared w f.name _ h (same_declared w _ refl refl refl refl h)
after_declared w n (says.Stuff name p) new h =
    cond_both (nat_le p 6) _ w IsDeclaredDraft
    (λ _. where_declared w name _ h (changed_declared w name (stuffed p) _ (λ e. refl) refl refl refl refl h)) (λ _. h)
after_declared w n (says.Open name) new h = opened_declared w n (known w name) (known_is w name) h
after_declared w n (says.Cancel name) new h = where_declared w name _ h (commanded_declared w n (cmd.Cancel (name_of name)) tt h)
after_declared w n (says.Clear name) new h = where_declared w name _ h (commanded_declared w n (cmd.Clear (name_of name)) tt h)
after_declared w n (says.Get l) new h =
    where_declared w l.name _ h (commanded_declared (record w { asked = counted w.asked l.len }) n (cmd.Get (name_of l.name) l.len (by_of l.by)) tt (same_declared w _ refl refl refl refl h))
after_declared w n (says.Put l) new h =
    where_declared w l.name _ h
    (commanded_declared (record w { scripted = counted w.scripted (content_len l.content); devices = put_room l.name (content_len l.content) w.devices }) n
    (cmd.Put (name_of l.name) (content_bytes l.content) (by_of l.by)) tt (put_declared w l.name (content_len l.content) _ h))
after_declared w n (says.Control c) new h =
    where_declared w (control_name c.addr) _ h
    (commanded_declared (record w { scripted = counted w.scripted (bytes_len c.bytes) }) n (cmd.Control (name_of (control_name c.addr)) c.setup (unwrap_or c.bytes [])) tt (same_declared w _ refl refl refl refl h))
after_declared w n (says.Iso l) new h =
    cond_both (is_slots l) _ w IsDeclaredDraft (λ _. where_declared w l.name _ h (commanded_declared w n (cmd.Iso (name_of l.name) l.count l.len l.seed) tt h)) (λ _. h)
after_declared w n (says.Order event k) new h = ordered_declared w _ n (line.Order event k) tt refl refl refl refl h
after_declared w n (says.Micro k) new h = ordered_declared w _ n (line.Micro k) tt refl refl refl refl h
after_declared w n _ new h = same_declared w _ refl refl refl refl h
