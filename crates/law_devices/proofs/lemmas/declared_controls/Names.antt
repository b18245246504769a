-- Names and packets of the endpoints that lines declare.
use Rattle.std.proofs.Common.{◌≡◌, ℕ, ◌≤◌, true, false, refl, ap, subst, ◌∙◌, inl, inr, arith}
use Rattle.std.specs.Prelude.{◌==◌, ◌&&◌, ◌||◌, not, nat_le}
use Rattle.std.proofs.lemmas.Bool.{and_parts, or_cases, cases_Bool, eqb-true, leb-true}
use Rattle.law_devices.proofs.Common.{zero_by}
use Rattle.usb_base.specs.declared.packets.EpKind.{EpKind}
use Rattle.usb_base.specs.declared.packets.EpKind.TheVariants as kinds
use Rattle.usb_base.specs.declared.packets.Speed.{Speed}
use Rattle.usb_base.specs.declared.packets.Speed.TheVariants as speeds
use Rattle.usb_base.specs.declared.packets.Way.{Way}
use Rattle.usb_base.specs.declared.packets.Way.TheVariants as way
use Rattle.usb_base.specs.declared.endpoints.EpDesc.{EpDesc}
use Rattle.script_forms.specs.declared.statements.EpLine.{EpLine}
use Rattle.script_forms.specs.declared.statements.Name.{Name}
use Rattle.script_world.specs.Draft.{Placed, same_way, hub_desc}
use Rattle.script_world.specs.Ranges.{within, is_size, is_paced, is_placed, suits}
use Rattle.script_world.specs.Rows.{desc_of}
use Rattle.endpoint_script.specs.Device.{is_way}
use Rattle.law_devices.specs.declared_controls.Names.{IsZero, IsOneWay, IsNameOf, HasItsName}

-- ---- names

both_ways : (v : Way) → same_way v way.Ctl ≡ true → v ≡ way.Ctl
both_ways way.Ctl e = refl
both_ways _ e = cc

not_both : (v : Way) → not (same_way v way.Ctl) ≡ true → v ≡ way.Ctl → ⊥
not_both way.In e is = cc
not_both _ e is = cc

one_way : (name : Name) (addr : ℕ) → (within 1 15 name.num && not (same_way name.way way.Ctl)) ≡ true → IsOneWay (record { addr = addr; num = name.num; way = name.way })
one_way name addr e =
    let a = and_parts (within 1 15 name.num) (not (same_way name.way way.Ctl)) e in
    let b = and_parts (nat_le 1 name.num) (nat_le name.num 15) a.0 in
    record { least = leb-true 1 name.num b.0; most = leb-true name.num 15 b.1; way = not_both name.way a.1 }

name_by : (kind : EpKind) (name : Name) (addr : ℕ) → is_placed kind name ≡ true → IsNameOf kind (record { addr = addr; num = name.num; way = name.way })
name_by kinds.Control name addr e =
    let a = and_parts (name.num == 0) (same_way name.way way.Ctl) e in
    record { number = eqb-true name.num 0 a.0; way = both_ways name.way a.1 }
name_by _ name addr e = one_way name addr e

-- ---- packets

of_full : (m : ℕ) → (m == 8 || m == 16 || m == 32 || m == 64) ≡ true → m ≤ 64
of_full m e =
    elim (or_cases (m == 8 || m == 16 || m == 32) (m == 64) e) [
      | inl a ↦ elim (or_cases (m == 8 || m == 16) (m == 32) a) [
        | inl b ↦ elim (or_cases (m == 8) (m == 16) b) [
          | inl c ↦ omega (arith, eqb-true m 8 c)
          | inr c ↦ omega (arith, eqb-true m 16 c)
        ]
        | inr b ↦ omega (arith, eqb-true m 32 b)
      ]
      | inr a ↦ omega (arith, eqb-true m 64 a)
    ]

most_of : (kind : EpKind) (speed : Speed) (m : ℕ) → is_size kind speed m ≡ true → kind ≡ kinds.Control → m ≤ 64
most_of kinds.Control speeds.High m e is = omega (arith, eqb-true m 64 e)
most_of kinds.Control speeds.Full m e is = of_full m e
most_of kinds.Control speeds.Low m e is = omega (arith, eqb-true m 8 e)
most_of _ speed m e is = cc

high_of : (kind : EpKind) (speed : Speed) (m : ℕ) → is_size kind speed m ≡ true → kind ≡ kinds.Control → speed ≡ speeds.High → m ≡ 64
high_of kinds.Control speeds.High m e is high = eqb-true m 64 e
high_of kinds.Control speeds.Full m e is high = cc
high_of kinds.Control speeds.Low m e is high = cc
high_of kinds.Bulk speed m e is high = cc
high_of kinds.Interrupt speed m e is high = cc
high_of kinds.Iso speed m e is high = cc

-- ---- an endpoint of a line, and a hub's own

pub line_named : (l : EpLine) (d : Placed) → is_placed l.kind l.name ≡ true → suits l d.speed ≡ true → HasItsName (desc_of l d)
line_named l d placed suited =
    let size = (and_parts (is_size l.kind d.speed l.max) (is_paced l.kind d.speed l.period l.multi) suited).0 in
    record { name = name_by l.kind l.name d.addr placed; most = most_of l.kind d.speed l.max size; high = high_of l.kind d.speed l.max size }

pub hub_named : (addr : ℕ) → HasItsName (hub_desc addr)
hub_named addr = record { name = record { number = refl; way = refl }; most = λ _. omega arith; high = λ _ _. refl }

-- ---- number 0

pub zero_is : (x : EpDesc) → HasItsName x → x.name.num ≡ 0 → x.name.way ≡ way.Ctl
zero_is x h e = zero_by x.kind x.name h.name e

pub not_zero : (x : EpDesc) (v : Way) → HasItsName x → is_way way.Ctl v ≡ false → (x.name.num == 0 && is_way x.name.way v) ≡ false
not_zero x v h other =
    elim (cases_Bool (x.name.num == 0)) [
      | inl t ↦ ap (λ b. b && is_way x.name.way v) t ∙ ap (λ u. is_way u v) (zero_is x h (eqb-true x.name.num 0 t)) ∙ other
      | inr f ↦ ap (λ b. b && is_way x.name.way v) f
    ]

pub control_zero : (x : EpDesc) → HasItsName x → x.kind ≡ kinds.Control → IsZero x.name
control_zero x h is = subst (λ kind. IsNameOf kind x.name) is h.name
