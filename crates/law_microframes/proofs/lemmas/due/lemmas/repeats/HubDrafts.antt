-- What holds of a script after each line: a device below a hub is on a port that the hub has, and so are its endpoints.
use Rattle.std.proofs.Common.{◌≡◌, ℕ, ◌-◌, ◌≤◌, Bool, true, false, List, [], ◌∷◌, ◌++◌, length, replicate, Option, Some, None, refl, sym, ap, subst, ◌∙◌, inl, inr, arith}
use Rattle.std.specs.Prelude.{◌==◌, ◌&&◌, nat_le, is_some}
use Rattle.std.specs.List.{AllByRecursion}
use Rattle.std.specs.Option.{option_map_or}
use Rattle.std.proofs.lemmas.Bool.{cond_both, cases_Bool, and_parts, leb-true, cond-true, cond-false}
use Rattle.std.proofs.lemmas.List.{length-set, length-replicate}
use Rattle.std.proofs.lemmas.Option.{same_Some}
use Rattle.law_common.proofs.Lists.{all_both, all_more}
use Rattle.usb_base.specs.declared.packets.Speed.{Speed}
use Rattle.usb_base.specs.declared.commands.Cmd.TheVariants as cmd
use Rattle.usb_base.specs.declared.endpoints.EpDesc.{EpDesc}
use Rattle.usb_base.specs.declared.packets.Way.TheVariants as way
use Rattle.script_types.specs.declared.devices.EpText.{EpText}
use Rattle.script_types.specs.declared.devices.HubText.{HubText}
use Rattle.script_forms.specs.declared.statements.Below.{Below}
use Rattle.script_forms.specs.declared.statements.EpLine.{EpLine}
use Rattle.script_forms.specs.declared.statements.Name.{Name}
use Rattle.script_forms.specs.declared.statements.Statement.{Statement}
use Rattle.script_forms.specs.declared.statements.Statement.TheVariants as says
use Rattle.script_world.specs.Draft.{Draft, Placed, empty, device_of, hub_of, is_named, known, change, same_way}
use Rattle.script_world.specs.Ranges.{within, is_endpoint, is_slots}
use Rattle.script_world.specs.Rows.{translator_of, is_known, answered, roomier, stuffed, at_ep, with_ep, desc_of, attach, where_known, put_room, control_name, translator_below, device, commanded, counted, content_len, after}
use Rattle.law_devices.proofs.Lists.{all_change, find_append}
use Rattle.law_microframes.proofs.lemmas.due.lemmas.repeats.Lists.{all_found}

-- ---- a port of a hub

-- .. whose translator has this number
pub record HasPort (hubs : List HubText) (a port number : ℕ) : Type 0 where
  pub hub : HubText
  pub found : hub_of hubs a ≡ Some hub
  pub low : 1 ≤ port
  pub high : port ≤ length hub.attached
  pub served : number ≡ translator_of hub.multi port

pub record IsPlugged (hubs : List HubText) (d : Placed) : Type 0 where
  pub ports : AllByRecursion (λ (e : EpText). (e.desc.port ≡ d.port) × (e.desc.tt ≡ d.tt)) d.eps
  pub behind : (a : ℕ) → d.hub ≡ Some a → HasPort hubs a d.port d.tt

abbrev pub HasItsPorts : HubText → Type 0
HasItsPorts h = length h.attached ≡ h.ports

pub record ArePlugged (w : Draft) : Type 0 where
  pub hubs : AllByRecursion HasItsPorts w.hubs
  pub devices : AllByRecursion (IsPlugged w.hubs) w.devices

-- ---- hubs

more_hubs : (hubs : List HubText) (x : HubText) (a port n : ℕ) → HasPort hubs a port n → HasPort (hubs ++ x ∷ []) a port n
more_hubs hubs x a port n h = record {
  hub = h.hub;
  found = find_append (λ y. y.addr == a) hubs (x ∷ []) h.hub h.found;
  low = h.low;
  high = h.high;
  served = h.served;
}

record IsFoundAs (a : ℕ) (hubs : List HubText) (h : HubText) : Type 0 where
  hub : HubText
  found : hub_of hubs a ≡ Some hub
  count : length hub.attached ≡ length h.attached
  multi : hub.multi ≡ h.multi

found_changed : (p : HubText → Bool) (port : ℕ) (s : Speed) (hubs : List HubText) (a : ℕ) (h : HubText) → hub_of hubs a ≡ Some h
    → IsFoundAs a (change p (attach port s) hubs) h
found_changed p port s [] a h found = cc
found_changed p port s (x ∷ xs) a h found =
    elim (cases_Bool (p x)) [
      | inl on ↦ rw on (elim (cases_Bool (x.addr == a)) [
        | inl t ↦ record {
          hub = attach port s x;
          found = cond-true _ _ _ t;
          count = length-set x.attached (port - 1) (Some s) ∙ ap
              (λ (y : HubText). length y.attached) (same_Some x h (sym (cond-true _ _ _ t) ∙ found));
          multi = ap (λ (y : HubText). y.multi) (same_Some x h (sym (cond-true _ _ _ t) ∙ found));
        }
        | inr f ↦ record { hub = h; found = cond-false _ _ _ f ∙ (sym (cond-false _ _ _ f) ∙ found); count = refl; multi = refl }
      ])
      | inr off ↦ rw off (elim (cases_Bool (x.addr == a)) [
        | inl t ↦ record {
          hub = x;
          found = cond-true _ _ _ t;
          count = ap (λ (y : HubText). length y.attached)
              (same_Some x h (sym (cond-true _ _ _ t) ∙ found));
          multi = ap (λ (y : HubText). y.multi) (same_Some x h (sym (cond-true _ _ _ t) ∙ found));
        }
        | inr f ↦
            let k = found_changed p port s xs a h (sym (cond-false _ _ _ f) ∙ found) in
            record { hub = k.hub; found = cond-false _ _ _ f ∙ k.found; count = k.count; multi = k.multi }
      ])
    ]

changed_hubs : (p : HubText → Bool) (at : ℕ) (s : Speed) (hubs : List HubText) (a port n : ℕ) → HasPort hubs a port n
    → HasPort (change p (attach at s) hubs) a port n
changed_hubs p at s hubs a port n h =
    let k = found_changed p at s hubs a h.hub h.found in
    record {
      hub = k.hub;
      found = k.found;
      low = h.low;
      high = omega (arith, h.high, k.count);
      served = h.served ∙ ap (λ (m : Bool). translator_of m port) (sym k.multi);
    }

ports_attached : (p : HubText → Bool) (at : ℕ) (s : Speed) (hubs : List HubText) → AllByRecursion HasItsPorts hubs
    → AllByRecursion HasItsPorts (change p (attach at s) hubs)
ports_attached p at s hubs all = all_change HasItsPorts p (attach at s) hubs (λ h _ k. length-set h.attached (at - 1) (Some s) ∙ k) all

plugged_with : (hubs later : List HubText) (ds : List Placed) → ((a port n : ℕ) → HasPort hubs a port n → HasPort later a port n)
    → AllByRecursion (IsPlugged hubs) ds → AllByRecursion (IsPlugged later) ds
plugged_with hubs later ds more all =
    all_more (IsPlugged hubs) (IsPlugged later) ds (λ d k. record { ports = k.ports; behind = λ a is. more a d.port d.tt (k.behind a is) }) all

-- ---- endpoints

at_ep_plugged : (hubs : List HubText) (name : Name) (f : EpText → EpText) (ds : List Placed) → ((e : EpText) → (f e).desc ≡ e.desc)
    → AllByRecursion (IsPlugged hubs) ds → AllByRecursion (IsPlugged hubs) (at_ep name f ds)
at_ep_plugged hubs name f ds same all =
    all_change (IsPlugged hubs) (λ d. d.addr == name.addr) (λ d. record d { eps = change (is_named name) f d.eps }) ds
    (λ d _ k. record {
      ports = all_change (λ (e : EpText). (e.desc.port ≡ d.port) × (e.desc.tt ≡ d.tt)) (is_named name) f d.eps
          (λ e _ z. (ap (λ x. x.port) (same e) ∙ z.0, ap (λ x. x.tt) (same e) ∙ z.1)) k.ports;
      behind = k.behind;
    }) all

eps_changed : (w v : Draft) (name : Name) (f : EpText → EpText) → ((e : EpText) → (f e).desc ≡ e.desc) → v.hubs ≡ w.hubs
    → v.devices ≡ at_ep name f w.devices → ArePlugged w → ArePlugged v
eps_changed w v name f same hubs devices h = record {
  hubs = subst (AllByRecursion HasItsPorts) (sym hubs) h.hubs;
  devices = subst (λ (ds : List Placed). AllByRecursion (IsPlugged v.hubs) ds) (sym devices)
      (subst (λ (hs : List HubText). AllByRecursion (IsPlugged hs) (at_ep name f w.devices)) (sym hubs)
      (at_ep_plugged w.hubs name f w.devices same h.devices));
}

same_plugged : (w v : Draft) → v.hubs ≡ w.hubs → v.devices ≡ w.devices → ArePlugged w → ArePlugged v
same_plugged w v hubs devices h = record {
  hubs = subst (AllByRecursion HasItsPorts) (sym hubs) h.hubs;
  devices =
      subst (λ (ds : List Placed). AllByRecursion (IsPlugged v.hubs) ds) (sym devices)
      (subst (λ (hs : List HubText). AllByRecursion (IsPlugged hs) w.devices) (sym hubs) h.devices);
}

new_ep : (hubs : List HubText) (l : EpLine) (d : Placed) → IsPlugged hubs d → IsPlugged hubs (with_ep l d)
new_ep hubs l d k = record {
  ports =
      all_both (λ (e : EpText). (e.desc.port ≡ d.port) × (e.desc.tt ≡ d.tt)) d.eps (record {
        desc = desc_of l d;
        items = [];
        room = 0;
        stuff = 0;
        clears = 0;
      } ∷ []) k.ports ((refl, refl), tt);
  behind = k.behind;
}

-- ---- a device below a hub

known_port : (hubs : List HubText) (b : Below) (o : Option HubText) → hub_of hubs b.hub ≡ o → AllByRecursion HasItsPorts hubs
    → option_map_or (λ h. within 1 h.ports b.port) o false ≡ true
    → HasPort hubs b.hub b.port (option_map_or (λ h. translator_of h.multi b.port) o 0)
known_port hubs b None found all is = cc
known_port hubs b (Some h) found all is =
    let p = and_parts (nat_le 1 b.port) (nat_le b.port h.ports) is in
    let k = (all_found HasItsPorts (λ y. y.addr == b.hub) hubs h all found).0 in
    record {
      hub = h;
      found = found;
      low = leb-true 1 b.port p.0;
      high = let le = leb-true b.port h.ports p.1 in omega (arith, k);
      served = refl;
    }

same_address : (x y port n : ℕ) (hubs : List HubText) → Some x ≡ Some y → HasPort hubs x port n → HasPort hubs y port n
same_address x y port n hubs e h = subst (λ (a : ℕ). HasPort hubs a port n) (same_Some x y e) h

below_plugged : (w : Draft) (b : Below) (tt_ : ℕ) (v : Draft) → v.hubs ≡ change (λ h. h.addr == b.hub) (attach b.port b.speed) w.hubs
    → v.devices ≡ w.devices ++ device b.addr b.speed (Some b.hub) b.port tt_ ∷ [] → HasPort w.hubs b.hub b.port tt_ → ArePlugged w
    → ArePlugged v
below_plugged w b tt_ v hubs devices has h =
    let later : List HubText = change (λ (h : HubText). h.addr == b.hub) (attach b.port b.speed) w.hubs in
    let new : IsPlugged later (device b.addr b.speed (Some b.hub) b.port tt_) = record {
      ports = tt;
      behind =
          λ a is. same_address b.hub a b.port tt_ later is (changed_hubs (λ (h : HubText). h.addr == b.hub) b.port b.speed w.hubs b.hub
          b.port tt_ has);
    } in
    record {
      hubs =
          subst (AllByRecursion HasItsPorts) (sym hubs) (ports_attached (λ (h : HubText). h.addr == b.hub) b.port b.speed w.hubs h.hubs);
      devices = subst (λ (ds : List Placed). AllByRecursion (IsPlugged v.hubs) ds) (sym devices)
          (subst (λ (hs : List HubText). AllByRecursion (IsPlugged hs) (w.devices ++ device b.addr b.speed (Some b.hub) b.port tt_ ∷ []))
          (sym hubs)
          (all_both (IsPlugged later) w.devices (device b.addr b.speed (Some b.hub) b.port tt_ ∷ [])
          (plugged_with w.hubs later w.devices (λ a port n k. changed_hubs (λ (h : HubText). h.addr == b.hub) b.port b.speed w.hubs a port
          n k) h.devices) (new, tt)));
    }

-- ---- any line

where_plugged : (w : Draft) (name : Name) (v : Draft) → ArePlugged w → ArePlugged v → ArePlugged (where_known w name v)
where_plugged w name v h k = cond_both (is_some (known w name)) v w ArePlugged (λ _. k) (λ _. h)

opened_plugged : (w : Draft) (n : ℕ) (o : Option EpDesc) → ArePlugged w
    → ArePlugged (option_map_or (λ d. commanded w n (cmd.OpenEp d)) o w)
opened_plugged w n None h = h
opened_plugged w n (Some x) h = same_plugged w _ refl refl h

put_plugged : (w : Draft) (name : Name) (k scripted : ℕ) → ArePlugged w
    → ArePlugged (record w { scripted = scripted; devices = put_room name k w.devices })
put_plugged w name k scripted h =
    cond_both (same_way name.way way.Out) (at_ep name (roomier k) w.devices) w.devices
    (λ ds. ArePlugged (record w { scripted = scripted; devices = ds }))
    (λ _. eps_changed w _ name (roomier k) (λ e. refl) refl refl h) (λ _. same_plugged w _ refl refl h)

none_some : (a : ℕ) → None ≡ Some a → ⊥
none_some a e = cc

pub empty_plugged : ArePlugged empty
empty_plugged = record { hubs = tt; devices = tt }

pub after_plugged : (w : Draft) (n : ℕ) (s : Statement) → ArePlugged w → ArePlugged (after w n s)
after_plugged w n (says.Hub addr ports multi) h =
    cond_both (within 1 127 addr && within 1 15 ports) _ w ArePlugged (λ _.
    record {
      hubs =
          all_both HasItsPorts w.hubs (record { addr = addr; ports = ports; attached = replicate ports None; multi = multi } ∷ [])
          h.hubs (length-replicate ports _, tt);
      devices = plugged_with w.hubs _ w.devices (λ a port n k. more_hubs w.hubs _ a port n k) h.devices;
    }) (λ _. h)
after_plugged w n (says.DevHigh addr) h =
    cond_both (within 1 127 addr) _ w ArePlugged (λ _.
    record {
      hubs = h.hubs;
      devices = all_both (IsPlugged w.hubs) w.devices _ h.devices
          (record { ports = tt; behind = λ a is. absurd (none_some a is) }, tt);
    }) (λ _. h)
after_plugged w n (says.DevBelow b) h =
    cond_both (within 1 127 b.addr && nat_le b.hub 127 && is_known w (says.DevBelow b)) _ w ArePlugged (λ t.
    below_plugged w b (translator_below w b) _ refl refl
    (known_port w.hubs b (hub_of w.hubs b.hub) refl h.hubs (and_parts (within 1 127 b.addr && nat_le b.hub 127)
    (is_known w (says.DevBelow b)) t).1) h) (λ _. h)
after_plugged w n (says.Ep l) h =
    cond_both (is_endpoint l && is_some (device_of w.devices l.name.addr)) _ w ArePlugged (λ _.
    record {
      hubs = h.hubs;
      devices = all_change (IsPlugged w.hubs) (λ d. d.addr == l.name.addr) (with_ep l) w.devices
          (λ d _ k. new_ep w.hubs l d k) h.devices;
    }) (λ _. h)
after_plugged w n (says.Reply name a) h = eps_changed w _ name (answered a) (λ e. refl) refl refl h
after_plugged w n (says.Fate f) h = where_plugged w f.name _ h (same_plugged w _ refl refl h)
after_plugged w n (says.Stuff name p) h =
    cond_both (nat_le p 6) _ w ArePlugged (λ _. where_plugged w name _ h (eps_changed w _ name (stuffed p) (λ e. refl) refl refl h))
    (λ _. h)
after_plugged w n (says.Open name) h = opened_plugged w n (known w name) h
after_plugged w n (says.Cancel name) h = where_plugged w name _ h (same_plugged w _ refl refl h)
after_plugged w n (says.Clear name) h = where_plugged w name _ h (same_plugged w _ refl refl h)
after_plugged w n (says.Get l) h = where_plugged w l.name _ h (same_plugged w _ refl refl h)
after_plugged w n (says.Put l) h =
    where_plugged w l.name _ h
    (same_plugged (record w {
      scripted = counted w.scripted (content_len l.content);
      devices = put_room l.name (content_len l.content)
          w.devices;
    }) _ refl refl
    (put_plugged w l.name (content_len l.content) (counted w.scripted (content_len l.content)) h))
after_plugged w n (says.Control c) h = where_plugged w (control_name c.addr) _ h (same_plugged w _ refl refl h)
after_plugged w n (says.Iso l) h =
    cond_both (is_slots l) _ w ArePlugged (λ _. where_plugged w l.name _ h (same_plugged w _ refl refl h)) (λ _. h)
after_plugged w n _ h = same_plugged w _ refl refl h
