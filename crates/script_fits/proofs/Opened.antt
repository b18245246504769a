-- An endpoint with the packets and the pace of its speed can be asked of a plan.
use Rattle.std.proofs.Common.{◌≡◌, ℕ, zero, suc, ◌≤◌, ◌<◌, Bool, true, false, List, [], ◌∷◌, refl, sym, subst, ◌∙◌, inl, inr, arith}
use Rattle.std.specs.Prelude.{nat_eq, nat_le, ◌==◌, ◌&&◌, ◌||◌, not}
use Rattle.std.specs.List.{list_any}
use Rattle.std.proofs.lemmas.Bool.{and_parts, or_cases, eqb-true, eq-eqb, leb-true}
use Rattle.usb_base.specs.declared.packets.Speed.{Speed}
use Rattle.usb_base.specs.declared.packets.Speed.TheVariants.{High, Full, Low}
use Rattle.usb_base.specs.declared.packets.EpKind.{EpKind}
use Rattle.usb_base.specs.declared.packets.EpKind.TheVariants as kinds
use Rattle.usb_base.specs.declared.endpoints.EpDesc.{EpDesc}
use Rattle.bandwidth.specs.Placements.{periods, is_period as is_plan_period, least_period, most_bytes, most_multi, is_classic}
use Rattle.drv_periodic_table.specs.Periodic.{is_periodic}
use Rattle.drv_table.specs.Words.{is_high}
use Rattle.drv_table.specs.Offers.{IsOpened}
use Rattle.script_world.specs.Ranges.{within, is_size, is_period, is_rate, is_paced}
use Rattle.script_fits.specs.Fits.{IsSuited}

ends : (low high n : ℕ) → within low high n ≡ true → (low ≤ n) × (n ≤ high)
ends low high n e =
    let p = and_parts (nat_le low n) (nat_le n high) e in
    (leb-true low n p.0, leb-true n high p.1)

record IsSized (kind : EpKind) (speed : Speed) (max : ℕ) : Type 0 where
  some : 1 ≤ max
  most : max ≤ most_bytes speed kind

sized : (kind : EpKind) (speed : Speed) (max : ℕ) → is_periodic kind ≡ true → is_size kind speed max ≡ true → IsSized kind speed max
sized kinds.Control speed max p e = cc
sized kinds.Bulk speed max p e = cc
sized kinds.Interrupt Full max p e = let h = ends 1 64 max e in record { some = h.0; most = h.1 }
sized kinds.Interrupt Low max p e = let h = ends 1 8 max e in record { some = h.0; most = h.1 }
sized kinds.Iso Full max p e = let h = ends 1 1023 max e in record { some = h.0; most = h.1 }
sized kinds.Iso Low max p e = cc
sized _ High max p e = let h = ends 1 1024 max e in record { some = h.0; most = h.1 }

-- a member of the list, as the list's test asks for it
or_later : (a b : Bool) → b ≡ true → (a || b) ≡ true
or_later true b h = refl
or_later false b h = h

turned : (p : ℕ) (qs : List ℕ) → list_any (λ q. p == q) qs ≡ true → list_any (λ q. nat_eq q p) qs ≡ true
turned p [] e = cc
turned p (q ∷ qs) e =
    elim (or_cases (p == q) (list_any (λ x. p == x) qs) e) [
      | inl h ↦ subst (λ (b : Bool). (b || list_any (λ x. nat_eq x p) qs) ≡ true) (sym (eq-eqb q p (sym (eqb-true p q h)))) refl
      | inr h ↦ or_later (nat_eq q p) (list_any (λ x. nat_eq x p) qs) (turned p qs h)
    ]

some_period : (p : ℕ) → is_period p ≡ true → 1 ≤ p
some_period zero e = cc
some_period (suc p) e = omega arith

record IsPaced (speed : Speed) (period multi : ℕ) : Type 0 where
  periods : is_plan_period period ≡ true
  frames : least_period speed ≤ period
  some : 1 ≤ multi
  most : multi ≤ most_multi speed

paced_below : (period multi : ℕ) → (is_period period && nat_le 8 period && multi == 1) ≡ true → (is_plan_period period ≡ true) × (8 ≤ period) × (multi ≡ 1)
paced_below period multi e =
    let a = and_parts (is_period period && nat_le 8 period) (multi == 1) e in
    let b = and_parts (is_period period) (nat_le 8 period) a.0 in
    (turned period periods b.0, leb-true 8 period b.1, eqb-true multi 1 a.1)

paced : (speed : Speed) (period multi : ℕ) → is_rate speed period multi ≡ true → IsPaced speed period multi
paced High period multi e =
    let p = and_parts (is_period period) (within 1 3 multi) e in
    let h = ends 1 3 multi p.1 in
    record { periods = turned period periods p.0; frames = some_period period p.0; some = h.0; most = h.1 }
paced _ period multi e =
    let h = paced_below period multi e in
    record { periods = h.0; frames = h.1; some = omega (arith, h.2); most = omega (arith, h.2) }

pace_of : (kind : EpKind) (speed : Speed) (period multi : ℕ) → is_periodic kind ≡ true → is_paced kind speed period multi ≡ true → IsPaced speed period multi
pace_of kinds.Interrupt speed period multi p e = paced speed period multi e
pace_of kinds.Iso speed period multi p e = paced speed period multi e
pace_of _ speed period multi p e = cc

classic : (speed : Speed) → not (is_high speed) ≡ is_classic speed
classic High = refl
classic _ = refl

below_sixteen : (n : ℕ) → n ≤ 15 → n < 16
below_sixteen n h = omega (arith, h)

pub can_be_opened : (x : EpDesc) → IsSuited x → IsOpened x
can_be_opened x h p =
    let size = sized x.kind x.speed x.max p h.size in
    let pace = pace_of x.kind x.speed x.period x.multi p h.pace in
    record {
      period = pace.periods;
      frames = pace.frames;
      some_bytes = size.some;
      bytes = size.most;
      some_multi = pace.some;
      multi = pace.most;
      hub = h.below ∙ classic x.speed;
      tt = below_sixteen x.tt h.translator;
    }
