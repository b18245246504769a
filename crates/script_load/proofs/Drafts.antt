-- A load script as far as it is read: which devices and endpoints are declared, what was opened, and what counts toward the limits.
use Rattle.std.proofs.Common.{◌≡◌, ℕ, suc, zero, ◌+◌, ◌-◌, ◌*◌, ◌/◌, ◌%◌, ◌^◌, ◌<◌, ◌≤◌, Bool, true, false, List, [], ◌∷◌, ◌++◌, map, length, Option, Some, None, Ok, refl, sym, ap, ◌∙◌, subst, inl, inr, arith}
use Rattle.std.specs.Prelude.{◌==◌, ◌&&◌, ◌||◌, not, nat_le, nat_lt, min, is_some, slice_index, if◌then◌else◌, filter_map}
use Rattle.std.specs.List.{find, range_with_len, list_any, AllByRecursion}
use Rattle.std.specs.Option.{option_map, option_map_or, option_and_then, option_or}
use Rattle.std.proofs.lemmas.Bool.{cond_both, cond-true, cond-false, cases_Bool, cases_eq, eq-eqb, ne_eqb, eqb-true, and_from, le-leb, lt-ltb, agree_below_at, agree_below}
use Rattle.usb_base.specs.declared.packets.Speed.{Speed}
use Rattle.usb_base.specs.declared.packets.Speed.TheVariants as speed
use Rattle.usb_base.specs.declared.packets.EpKind.{EpKind}
use Rattle.usb_base.specs.declared.packets.EpKind.TheVariants as kind
use Rattle.usb_base.specs.declared.endpoints.EpDesc.{EpDesc}
use Rattle.usb_base.specs.declared.commands.Cmd.{Cmd}
use Rattle.usb_base.specs.declared.commands.Cmd.TheVariants as cmd
use Rattle.script_types.specs.declared.devices.EpText.{EpText}
use Rattle.script_types.specs.declared.scripts.Line.{Line}
use Rattle.script_types.specs.declared.scripts.Line.TheVariants as line
use Rattle.script_forms.specs.declared.statements.Name.{Name}
use Rattle.script_forms.specs.declared.statements.EpLine.{EpLine}
use Rattle.script_forms.specs.declared.statements.Statement.{Statement}
use Rattle.script_forms.specs.declared.statements.Statement.TheVariants as says
use Rattle.script_world.specs.Draft.{Draft, Placed, device_of, speed_of, ep_of, device_ep, hub_ep, known, is_name, is_named, change}
use Rattle.script_world.specs.Ranges.{is_rate}
use Rattle.script_world.specs.Rows.{cause_of, after, at_ep, counted, desc_of, with_ep, commanded}
use Rattle.script_load.specs.Load.{address, is_in, period}
use Rattle.script_load.proofs.Said.{ep_name, num_of, way_of, hub_number}

-- ---- the endpoints of a load script

-- a device as it is declared
abbrev pub site_speed : ℕ → Speed
site_speed a = if nat_lt a 11 then speed.High else speed.Full

abbrev pub site_hub : ℕ → Option ℕ
site_hub a = if nat_lt a 11 then None else Some (hub_number (nat_lt a 16))

abbrev pub site_port : ℕ → ℕ
site_port a = if nat_lt a 11 then 0 else if nat_lt a 16 then a - 10 else a - 15

abbrev pub site : ℕ → Placed
site a = record { addr = a; speed = site_speed a; hub = site_hub a; port = site_port a; tt = 0; eps = [] }

-- an endpoint: of a high-speed device or not, an IN or not, and the period that was drawn
abbrev pub kind_as : Bool → Bool → EpKind
kind_as true b = kind.Bulk
kind_as false true = kind.Interrupt
kind_as false false = kind.Bulk

abbrev pub max_as : Bool → Bool → ℕ
max_as true b = 512
max_as false true = 8
max_as false false = 64

abbrev pub period_as : Bool → Bool → ℕ → ℕ
period_as true b p = 0
period_as false true p = p
period_as false false p = 0

abbrev pub ep_said : ℕ → Bool → Bool → ℕ → EpLine
ep_said a c b p = record { name = ep_name a b; kind = kind_as c b; max = max_as c b; period = period_as c b p; multi = 1 }

abbrev pub load_name : ℕ → Name
load_name i = ep_name (address i) (is_in i)

abbrev pub load_line : List ℕ → ℕ → EpLine
load_line ds i = ep_said (address i) (nat_lt i 20) (is_in i) (period ds i)

abbrev pub load_desc : List ℕ → ℕ → EpDesc
load_desc ds i = desc_of (load_line ds i) (site (address i))

-- what a script opens
abbrev pub opened_by : Line → Option EpDesc
opened_by (line.Command (cmd.OpenEp d)) = Some d
opened_by _ = None

abbrev pub opens_of : List (ℕ × Line) → List EpDesc
opens_of ls = filter_map (λ (l : ℕ × Line). opened_by l.1) ls

-- ---- what is found where one element is changed

pub found_changed : {X Z : Type 0} (p q : X → Bool) (g : X → X) (F : Option X → Z) → ((x : X) → q (g x) ≡ q x)
    → ((x : X) → F (Some (g x)) ≡ F (Some x))
    → (xs : List X) → F (find q (change p g xs)) ≡ F (find q xs)
found_changed p q g F same keeps [] = refl
found_changed p q g F same keeps (x ∷ xs) =
    cond_both (p x) (g x ∷ xs) (x ∷ change p g xs) (λ l. F (find q l) ≡ F (find q (x ∷ xs)))
    (λ _. elim (cases_Bool (q x)) [
      | inl t ↦ ap F (cond-true (q (g x)) (Some (g x)) (find q xs) (same x ∙ t)) ∙ keeps x
          ∙ sym (ap F (cond-true (q x) (Some x) (find q xs) t))
      | inr f ↦ ap F (cond-false (q (g x)) (Some (g x)) (find q xs) (same x ∙ f)) ∙ sym (ap F (cond-false (q x) (Some x) (find q xs) f))
    ])
    (λ _. elim (cases_Bool (q x)) [
      | inl t ↦ ap F (cond-true (q x) (Some x) (find q (change p g xs)) t) ∙ sym (ap F (cond-true (q x) (Some x) (find q xs) t))
      | inr f ↦
          ap F (cond-false (q x) (Some x) (find q (change p g xs)) f) ∙ found_changed p q g F same keeps xs
          ∙ sym (ap F (cond-false (q x) (Some x) (find q xs) f))
    ])

-- the element that is changed is the one that is found
pub changed_here : {X : Type 0} (p : X → Bool) (g : X → X) (d : X) → ((x : X) → p (g x) ≡ p x) → (xs : List X) → find p xs ≡ Some d
    → find p (change p g xs) ≡ Some (g d)
changed_here p g d same [] e = cc
changed_here p g d same (x ∷ xs) e =
    elim (cases_Bool (p x)) [
      | inl t ↦
          let is : Some x ≡ Some d = sym (cond-true (p x) (Some x) (find p xs) t) ∙ e in
          ap (find p) (cond-true (p x) (g x ∷ xs) (x ∷ change p g xs) t) ∙ cond-true (p (g x)) (Some (g x)) (find p xs) (same x ∙ t)
          ∙ ap (option_map g) is
      | inr f ↦
          ap (find p) (cond-false (p x) (g x ∷ xs) (x ∷ change p g xs) f) ∙ cond-false (p x) (Some x) (find p (change p g xs)) f
          ∙ changed_here p g d same xs (sym (cond-false (p x) (Some x) (find p xs) f) ∙ e)
    ]

-- no other is
pub unchanged : (ds : List Placed) (a b : ℕ) (g : Placed → Placed) → ((d : Placed) → (g d).addr ≡ d.addr) → (a ≡ b → ⊥)
    → device_of (change (λ d. d.addr == a) g ds) b ≡ device_of ds b
unchanged [] a b g same ne = refl
unchanged (d ∷ ds) a b g same ne =
    cond_both (d.addr == a) (g d ∷ ds) (d ∷ change (λ d. d.addr == a) g ds) (λ l. device_of l b ≡ device_of (d ∷ ds) b)
    (λ t.
    let other : (d.addr == b) ≡ false = ne_eqb d.addr b (λ e. ne (sym (eqb-true d.addr a t) ∙ e)) in
    cond-false ((g d).addr == b) (Some (g d)) (device_of ds b) (ap (λ n. n == b) (same d) ∙ other)
    ∙ sym (cond-false (d.addr == b) (Some d) (device_of ds b) other))
    (λ _. elim (cases_Bool (d.addr == b)) [
      | inl t ↦ cond-true (d.addr == b) (Some d) _ t ∙ sym (cond-true (d.addr == b) (Some d) _ t)
      | inr f ↦ cond-false (d.addr == b) (Some d) _ f ∙ unchanged ds a b g same ne ∙ sym (cond-false (d.addr == b) (Some d) _ f)
    ])

-- one more element
pub found_before : {X : Type 0} (p : X → Bool) (xs ys : List X) (x : X) → find p xs ≡ Some x → find p (xs ++ ys) ≡ Some x
found_before p [] ys x e = cc
found_before p (y ∷ zs) ys x e =
    elim (cases_Bool (p y)) [
      | inl t ↦ cond-true (p y) (Some y) _ t ∙ sym (cond-true (p y) (Some y) _ t) ∙ e
      | inr f ↦ cond-false (p y) (Some y) _ f ∙ found_before p zs ys x (sym (cond-false (p y) (Some y) _ f) ∙ e)
    ]

pub found_last : {X : Type 0} (p : X → Bool) (xs : List X) (y : X) → find p xs ≡ None
    → find p (xs ++ y ∷ []) ≡ (if p y then Some y else None)
found_last p [] y e = refl
found_last p (x ∷ xs) y e =
    elim (cases_Bool (p x)) [
      | inl t ↦ let no : Some x ≡ None = sym (cond-true (p x) (Some x) (find p xs) t) ∙ e in cc
      | inr f ↦ cond-false (p x) (Some x) _ f ∙ found_last p xs y (sym (cond-false (p x) (Some x) _ f) ∙ e)
    ]

-- ---- the answers and the room of an endpoint are no part of its description

abbrev pub KeepsDesc : (EpText → EpText) → Type 0
KeepsDesc f = (e : EpText) → (f e).desc ≡ e.desc

ep_stays : (name m : Name) (f : EpText → EpText) (es : List EpText) → KeepsDesc f → ep_of (change (is_named name) f es) m ≡ ep_of es m
ep_stays name m f es keeps =
    found_changed (is_named name) (is_named m) f (λ o. option_map (λ (e : EpText). e.desc) o)
    (λ e. ap (λ (d : EpDesc). is_named m (record e { desc = d })) (keeps e)) (λ e. ap Some (keeps e)) es

pub eps_stay : (w : Draft) (name m : Name) (f : EpText → EpText) → KeepsDesc f
    → device_ep (record w { devices = at_ep name f w.devices }) m ≡ device_ep w m
eps_stay w name m f keeps =
    found_changed (λ (d : Placed). d.addr == name.addr) (λ (d : Placed). d.addr == m.addr)
    (λ (d : Placed). record d { eps = change (is_named name) f d.eps })
    (λ o. option_and_then (λ (d : Placed). ep_of d.eps m) o) (λ d. refl) (λ d. ep_stays name m f d.eps keeps) w.devices

-- ---- periods

abbrev pub paces : ℕ → Bool
paces y = is_rate speed.Full (8 * 2 ^ y) 1 && nat_le (8 * 2 ^ y) 8192
