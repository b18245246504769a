-- The endpoints of a load script, declared one after the other.
use Rattle.std.proofs.Common.{◌≡◌, ℕ, suc, zero, ◌+◌, ◌-◌, ◌*◌, ◌/◌, ◌%◌, ◌^◌, ◌<◌, ◌≤◌, Bool, true, false, List, [], ◌∷◌, ◌++◌, map, length, Option, Some, None, Ok, refl, sym, ap, ◌∙◌, subst, inl, inr, arith, length-append}
use Rattle.std.specs.Prelude.{◌==◌, ◌&&◌, ◌||◌, not, nat_le, nat_lt, is_some, slice_index, if◌then◌else◌}
use Rattle.std.specs.List.{find, list_any}
use Rattle.std.specs.Option.{option_map, option_map_or, option_and_then, option_or}
use Rattle.std.proofs.lemmas.Bool.{cond-true, cond-false, cases_Bool, cases_eq, eqb-true, eqb-false, ltb-true, ltb-false, leb-true, and_parts, and_from, le-leb, lt-ltb, le-ltb, agree_below_at}
use Rattle.usb_base.specs.declared.packets.Speed.{Speed}
use Rattle.usb_base.specs.declared.packets.Speed.TheVariants as speed
use Rattle.usb_base.specs.declared.endpoints.EpDesc.{EpDesc}
use Rattle.script_types.specs.declared.devices.EpText.{EpText}
use Rattle.script_forms.specs.declared.statements.Name.{Name}
use Rattle.script_forms.specs.declared.statements.EpLine.{EpLine}
use Rattle.script_forms.specs.declared.statements.Statement.{Statement}
use Rattle.script_forms.specs.declared.statements.Statement.TheVariants as says
use Rattle.script_world.specs.Draft.{Draft, Placed, device_of, speed_of, ep_of, device_ep, is_named, same_way, change}
use Rattle.script_world.specs.Ranges.{is_rate, is_endpoint, is_placed, suits, ep_ranged}
use Rattle.script_world.specs.Rows.{cause_of, after, desc_of, with_ep, name_of}
use Rattle.script_load.specs.Load.{address, is_in, period}
use Rattle.script_load.proofs.Spaced.{has_no_cause}
use Rattle.script_load.proofs.Said.{ep_name, num_of, way_of}
use Rattle.script_load.proofs.Drafts.{site, site_speed, ep_said, load_name, load_line, load_desc, changed_here, unchanged, found_before, found_last, paces}

-- this device is declared so, whatever endpoints it has
pub record IsSite (devices : List Placed) (a : ℕ) : Type 0 where
  pub device : Placed
  pub found : device_of devices a ≡ Some device
  pub same : record device { eps = [] } ≡ site a

-- all devices and the first k endpoints are declared
pub record IsDeclaring (ds : List ℕ) (k : ℕ) (w : Draft) : Type 0 where
  pub version : w.version ≡ 1
  pub idle : w.acting ≡ false
  pub sites : (a : ℕ) → 1 ≤ a → a ≤ 20 → IsSite w.devices a
  pub done : (i : ℕ) → i < k → i < 40 → device_ep w (load_name i) ≡ Some (load_desc ds i)
  pub free : (i : ℕ) → k ≤ i → i < 40 → device_ep w (load_name i) ≡ None
  pub few : length w.endpoints ≤ k
  pub commands : w.commands ≡ 0
  pub scripted : w.scripted ≡ 0
  pub asked : w.asked ≡ 0
  pub steps : w.steps ≡ 0
  pub microframes : w.microframes ≡ 0
  pub lines : w.lines ≡ []

-- ---- one endpoint more of a device

ep_before : (m : Name) (es ys : List EpText) (o : Option EpText) (x : EpDesc) → find (is_named m) es ≡ o
    → option_map (λ (e : EpText). e.desc) o ≡ Some x → ep_of (es ++ ys) m ≡ Some x
ep_before m es ys None x e h = cc
ep_before m es ys (Some y) x e h =
    ap (λ (o : Option EpText). option_map (λ (e : EpText). e.desc) o) (found_before (is_named m) es ys y e) ∙ h

ep_new : (m : Name) (es : List EpText) (y : EpText) (o : Option EpText) → find (is_named m) es ≡ o
    → option_map (λ (e : EpText). e.desc) o ≡ None
    → ep_of (es ++ y ∷ []) m ≡ option_map (λ (e : EpText). e.desc) (if is_named m y then Some y else None)
ep_new m es y None e h = ap (λ (o : Option EpText). option_map (λ (e : EpText). e.desc) o) (found_last (is_named m) es y e)
ep_new m es y (Some z) e h = cc

abbrev pub added : EpLine → Draft → Draft
added l w =
    record w {
      declaring = true;
      devices = change (λ d. d.addr == l.name.addr)
          (with_ep l) w.devices;
      endpoints = w.endpoints ++ name_of l.name ∷ [];
    }

abbrev pub new_ep : EpLine → Placed → EpText
new_ep l d = record { desc = desc_of l d; items = []; room = 0; stuff = 0; clears = 0 }

-- of the device itself
before_it : (w : Draft) (l : EpLine) (d : Placed) (m : Name) → m.addr ≡ l.name.addr → device_of w.devices l.name.addr ≡ Some d
    → device_ep w m ≡ ep_of d.eps m
before_it w l d m e found =
    ap (λ a. option_and_then (λ (d : Placed). ep_of d.eps m) (device_of w.devices a)) e
    ∙ ap (option_and_then (λ (d : Placed). ep_of d.eps m)) found

after_it : (w : Draft) (l : EpLine) (d : Placed) (m : Name) → m.addr ≡ l.name.addr → device_of w.devices l.name.addr ≡ Some d
    → device_ep (added l w) m ≡ ep_of (d.eps ++ new_ep l d ∷ []) m
after_it w l d m e found =
    ap (λ a. option_and_then (λ (d : Placed). ep_of d.eps m) (device_of (added l w).devices a)) e
    ∙ ap (option_and_then (λ (d : Placed). ep_of d.eps m))
    (changed_here (λ (d : Placed). d.addr == l.name.addr) (with_ep l) d (λ d. refl) w.devices found)

-- of another
beside_it : (w : Draft) (l : EpLine) (m : Name) → (l.name.addr ≡ m.addr → ⊥) → device_ep (added l w) m ≡ device_ep w m
beside_it w l m ne =
    ap (option_and_then (λ (d : Placed). ep_of d.eps m)) (unchanged w.devices l.name.addr m.addr (with_ep l) (λ d. refl) ne)

-- ---- names

abbrev are_same : Bool → Bool → Bool
are_same b c = num_of b == num_of c && same_way (way_of b) (way_of c)

same_end : (b : Bool) → are_same b b ≡ true
same_end true = refl
same_end false = refl

other_end : (b c : Bool) → (b ≡ c → ⊥) → are_same b c ≡ false
other_end true true ne = absurd (ne refl)
other_end false false ne = absurd (ne refl)
other_end true false ne = refl
other_end false true ne = refl

same_place : (i k : ℕ) → address i ≡ address k → is_in i ≡ is_in k → i ≡ k
same_place i k e h =
    elim (cases_Bool (is_in k)) [
      | inl t ↦ let a = eqb-true (k % 2) 0 t in let b = eqb-true (i % 2) 0 (h ∙ t) in omega (arith, e, a, b)
      | inr f ↦ let a = eqb-false (k % 2) 0 f in let b = eqb-false (i % 2) 0 (h ∙ f) in odd i k e (λ z. b z) (λ z. a z)
    ]
  where
    odd : (i k : ℕ) → address i ≡ address k → (i % 2 ≡ 0 → ⊥) → (k % 2 ≡ 0 → ⊥) → i ≡ k
    odd i k e f g =
        let x : i % 2 ≡ 1 = elim (cases_eq (i % 2) 0) [ inl z ↦ absurd (f z) | inr n ↦ omega (arith, n) ] in
        let y : k % 2 ≡ 1 = elim (cases_eq (k % 2) 0) [ inl z ↦ absurd (g z) | inr n ↦ omega (arith, n) ] in
        omega (arith, e, x, y)

-- ---- the next endpoint

module _ (ds : List ℕ) (k : ℕ) (w : Draft) (small : k < 40) (h : IsDeclaring ds k w) where
  here : IsSite w.devices (address k)
  here = h.sites (address k) (omega arith) (omega (arith, small))

  l : EpLine
  l = load_line ds k

  same_device : (i : ℕ) → address i ≡ address k → i < 40 → (o : Option EpDesc) → device_ep w (load_name i) ≡ o
      → ep_of here.device.eps (load_name i) ≡ o
  same_device i e le o is = sym (before_it w (load_line ds k) here.device (load_name i) e here.found) ∙ is

  done_before : (i : ℕ) → i < k → i < 40 → device_ep (added (load_line ds k) w) (load_name i) ≡ Some (load_desc ds i)
  done_before i lt le =
      elim (cases_eq (address i) (address k)) [
        | inl e ↦
            after_it w (load_line ds k) here.device (load_name i) e here.found
            ∙ ep_before (load_name i) here.device.eps _ (find (is_named (load_name i)) here.device.eps) (load_desc ds i) refl
            (same_device i e le _ (h.done i lt le))
        | inr ne ↦ beside_it w (load_line ds k) (load_name i) (λ e. ne (sym e)) ∙ h.done i lt le
      ]

  is_new : ep_of (here.device.eps ++ new_ep (load_line ds k) here.device ∷ []) (load_name k) ≡ Some (load_desc ds k)
  is_new =
      ep_new (load_name k) here.device.eps (new_ep (load_line ds k) here.device) (find (is_named (load_name k)) here.device.eps) refl
      (same_device k refl small None (h.free k (omega arith) small))
      ∙ ap (λ (b : Bool). option_map (λ (e : EpText). e.desc) (if b then Some (new_ep (load_line ds k) here.device) else None))
      (same_end (is_in k))
      ∙ ap (λ (d : Placed). Some (desc_of (load_line ds k) d)) here.same

  done_now : device_ep (added (load_line ds k) w) (load_name k) ≡ Some (load_desc ds k)
  done_now = after_it w (load_line ds k) here.device (load_name k) refl here.found ∙ is_new

  free_after : (i : ℕ) → k + 1 ≤ i → i < 40 → device_ep (added (load_line ds k) w) (load_name i) ≡ None
  free_after i lt le =
      elim (cases_eq (address i) (address k)) [
        | inl e ↦
            let ne : (is_in k ≡ is_in i → ⊥) = λ s. omega (arith, same_place i k e (sym s), lt) in
            after_it w (load_line ds k) here.device (load_name i) e here.found
            ∙ ep_new (load_name i) here.device.eps (new_ep (load_line ds k) here.device)
            (find (is_named (load_name i)) here.device.eps) refl
            (same_device i e le None (h.free i (omega (arith, lt)) le))
            ∙ ap (λ (b : Bool). option_map (λ (e : EpText). e.desc) (if b then Some (new_ep (load_line ds k) here.device) else None))
            (other_end (is_in k) (is_in i) ne)
        | inr ne ↦ beside_it w (load_line ds k) (load_name i) (λ e. ne (sym e)) ∙ h.free i (omega (arith, lt)) le
      ]

  site_after : (a : ℕ) → 1 ≤ a → a ≤ 20 → IsSite (added (load_line ds k) w).devices a
  site_after a from to =
      elim (cases_eq (address k) a) [
        | inl e ↦
            subst (IsSite (added (load_line ds k) w).devices) e
            (record {
              device = with_ep (load_line ds k) here.device;
              found = changed_here (λ (d : Placed). d.addr == address k) (with_ep (load_line ds k)) here.device
                  (λ d. refl) w.devices here.found;
              same = here.same;
            })
        | inr ne ↦
            let s = h.sites a from to in
            record {
              device = s.device;
              found = unchanged w.devices (address k) a (with_ep (load_line ds k)) (λ d. refl) ne
                  ∙ s.found;
              same = s.same;
            }
      ]

  pub one_more : IsDeclaring ds (k + 1) (added (load_line ds k) w)
  one_more = record {
    version = h.version;
    idle = h.idle;
    sites = site_after;
    done = λ i lt le. elim (cases_eq i k) [
      | inl e ↦ subst (λ j. device_ep (added (load_line ds k) w) (load_name j) ≡ Some (load_desc ds j)) (sym e) done_now
      | inr ne ↦ done_before i (omega (arith, lt, ne)) le
    ];
    free = free_after;
    few = omega (arith, h.few, length-append w.endpoints (name_of (load_line ds k).name ∷ []));
    commands = h.commands;
    scripted = h.scripted;
    asked = h.asked;
    steps = h.steps;
    microframes = h.microframes;
    lines = h.lines;
  }

-- ---- its line has no cause

abbrev speed_as : Bool → Speed
speed_as c = if c then speed.High else speed.Full

early : (i : ℕ) → nat_lt (address i) 11 ≡ nat_lt i 20
early i =
    elim (cases_Bool (nat_lt i 20)) [
      | inl t ↦ lt-ltb (address i) 11 (omega (arith, ltb-true i 20 t)) ∙ sym t
      | inr f ↦ le-ltb (address i) 11 (omega (arith, ltb-false i 20 f)) ∙ sym f
    ]

pub record IsPace (p : ℕ) : Type 0 where
  pub rate : is_rate speed.Full p 1 ≡ true
  pub low : nat_le p 8192 ≡ true
  pub small : p < 65536

pace_of : (y : ℕ) → y < 4 → IsPace (8 * 2 ^ y)
pace_of y h =
    let both = and_parts (is_rate speed.Full (8 * 2 ^ y) 1) (nat_le (8 * 2 ^ y) 8192) (agree_below_at paces (λ _. true) 4 y refl h) in
    record { rate = both.0; low = both.1; small = omega (arith, leb-true (8 * 2 ^ y) 8192 both.1) }

pub period_is_pace : (ds : List ℕ) (i : ℕ) → IsPace (period ds i)
period_is_pace ds i = pace_of (slice_index ds (address i - 11) % 4) (omega arith)

module _ (a : ℕ) (p : ℕ) (h : IsPace p) where
  endpoint_is : (c b : Bool) → is_endpoint (ep_said a c b p) ≡ true
  endpoint_is true true = refl
  endpoint_is true false = refl
  endpoint_is false true = and_from (true && nat_le p 8192) true h.low refl
  endpoint_is false false = refl

  placed_is : (c b : Bool) → is_placed (ep_said a c b p).kind (ep_said a c b p).name ≡ true
  placed_is true true = refl
  placed_is true false = refl
  placed_is false true = refl
  placed_is false false = refl

  suits_is : (c b : Bool) → suits (ep_said a c b p) (speed_as c) ≡ true
  suits_is true true = refl
  suits_is true false = refl
  suits_is false true = h.rate
  suits_is false false = refl

speed_found : (w : Draft) (a : ℕ) → IsSite w.devices a → speed_of w a ≡ Some (site_speed a)
speed_found w a s = ap (option_map (λ (d : Placed). d.speed)) s.found ∙ ap (λ (d : Placed). Some d.speed) s.same

module _ (ds : List ℕ) (k : ℕ) (w : Draft) (small : k < 40) (h : IsDeclaring ds k w) where
  speed_is : speed_of w (address k) ≡ Some (speed_as (nat_lt k 20))
  speed_is = speed_found w (address k) (here ds k w small h) ∙ ap (λ b. Some (speed_as b)) (early k)

  ranged : ep_ranged w (load_line ds k) ≡ true
  ranged =
      let p = period_is_pace ds k in
      let l = load_line ds k in
      and_from (is_endpoint l && is_placed l.kind l.name) _
      (and_from (is_endpoint l) (is_placed l.kind l.name) (endpoint_is (address k) (period ds k) p (nat_lt k 20) (is_in k))
      (placed_is (address k) (period ds k) p (nat_lt k 20) (is_in k)))
      (ap (λ (o : Option Speed). option_map_or (suits l) o (suits l speed.High || suits l speed.Full || suits l speed.Low)) speed_is
      ∙ suits_is (address k) (period ds k) p (nat_lt k 20) (is_in k))

  pub declares_no_cause : cause_of w (says.Ep (load_line ds k)) ≡ None
  declares_no_cause =
      has_no_cause w (says.Ep (load_line ds k)) ranged (ap is_some speed_is) (ap is_some (h.free k (omega arith) small))
      (lt-ltb (length w.endpoints) 256 (omega (arith, h.few, small)))

  device_some : is_some (device_of w.devices (address k)) ≡ true
  device_some = ap is_some (here ds k w small h).found

  pub declares : after w 0 (says.Ep (load_line ds k)) ≡ added (load_line ds k) w
  declares =
      cond-true (is_endpoint (load_line ds k) && is_some (device_of w.devices (address k))) (added (load_line ds k) w) w
      (and_from (is_endpoint (load_line ds k)) _
      (endpoint_is (address k) (period ds k) (period_is_pace ds k) (nat_lt k 20) (is_in k)) device_some)
