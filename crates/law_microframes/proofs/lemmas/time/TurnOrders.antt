-- The orders that are left never grow back; so a run in which each microframe ends carries out all its lines.
use Rattle.std.proofs.Common.{◌≡◌, ℕ, zero, suc, ◌+◌, ◌-◌, ◌*◌, ◌≤◌, inl, inr, Bool, true, false, List, [], ◌∷◌, ap, sym, subst, ◌∙◌, arith}
use Rattle.script_types.specs.declared.scripts.Script.{Script}
use Rattle.bus_wire.specs.Bus.{Fixed, fixed_of}
use Rattle.bus_world.specs.World.{World, kind_next}
use Rattle.bus_world.specs.Opening.{opening_world}
use Rattle.bus_world.specs.Orders.{Left, Events, Microframes, Answer, OrderedWorld, Leads, at_place, fewer, is_end, orders_of, tick, tick_by, tick_at, ticks, most_turns, IsOverlong, IsRun}
use Rattle.bus_world.specs.Budgets.{moment}
use Rattle.bus_world.proofs.Ticks.{ticks_more}
use Rattle.claims_world.specs.Microframes.{microframe_whole, EndsWithin, MicroframesEnd}
use Rattle.law_microframes.specs.time.Ends.{CarriesOutAll}

-- ---- how much is ordered

abbrev weight_of : Left → ℕ
weight_of (Events event n) = suc n
weight_of (Microframes n) = suc n
weight_of (Answer ended n) = suc (fewer ended n)
weight_of _ = 1

abbrev weight : List Left → ℕ
weight [] = 0
weight (x ∷ rest) = weight_of x + weight rest

fewer_less : (b : Bool) (n : ℕ) → fewer b n ≤ n
fewer_less true (suc n) = omega arith
fewer_less true zero = omega arith
fewer_less false n = omega arith

lighter : (b : Bool) (n m : ℕ) → suc (fewer b (suc n)) + m ≤ suc (suc n) + m
lighter b n m = omega (arith, fewer_less b (suc n))

tick_weight : (fixed : Fixed) (w : World) (x : Left) (rest : List Left) → weight (tick_by fixed w x rest).orders ≤ weight_of x + weight rest
tick_weight fixed w (Events event zero) rest = omega arith
tick_weight fixed w (Microframes (suc n)) rest = lighter (is_end (kind_next w)) n (weight rest)
tick_weight fixed w _ rest = omega arith

at_weight : (fixed : Fixed) (w : World) (orders : List Left) → weight (tick_at fixed w orders).orders ≤ weight orders
at_weight fixed w [] = omega arith
at_weight fixed w (x ∷ rest) = tick_weight fixed w x rest

through : (a b c : ℕ) → a ≤ b → b ≤ c → a ≤ c
through a b c one two = omega (arith, one, two)

ticks_weight : (fixed : Fixed) (p : OrderedWorld) (k : ℕ) → weight (ticks fixed p k).orders ≤ weight p.orders
unfolding ticks
ticks_weight fixed p zero = omega arith
ticks_weight fixed p (suc k) =
    through (weight (ticks fixed (tick fixed p) k).orders) (weight (tick fixed p).orders) (weight p.orders) (ticks_weight fixed (tick fixed p) k) (at_weight fixed p.world p.orders)

-- ---- no microframe is too long

heavier : (n m : ℕ) → weight_of (Microframes (suc n)) + m ≤ weight_of (Microframes n) + m → ⊥
heavier n m less = omega (arith, less)

few_turns : (turns most : ℕ) → turns ≤ microframe_whole + 1 → most ≡ most_turns → turns ≤ most
few_turns turns most few is = omega (arith, few, is)

module _ (s : Script) (ends : MicroframesEnd s) where
  abbrev start : OrderedWorld
  start = at_place (opening_world s) (orders_of s.lines)

  no_more : (k a b n : ℕ) (rest : List Left) → a ≤ b → (moment s (k + 2 * a)).orders ≡ Microframes n ∷ rest → (moment s (k + 2 * b)).orders ≡ Microframes (suc n) ∷ rest → ⊥
  no_more k a b n rest less over still =
      let later : k + 2 * b ≡ k + 2 * a + 2 * (b - a) = omega (arith, less) in
      let there : moment s (k + 2 * b) ≡ ticks (fixed_of s) (moment s (k + 2 * a)) (2 * (b - a)) = ap (moment s) later ∙ ticks_more (fixed_of s) start (k + 2 * a) (2 * (b - a)) in
      let now : weight (moment s (k + 2 * b)).orders ≤ weight (moment s (k + 2 * a)).orders
      = subst (λ (p : OrderedWorld). weight p.orders ≤ weight (moment s (k + 2 * a)).orders) (sym there) (ticks_weight (fixed_of s) (moment s (k + 2 * a)) (2 * (b - a))) in
      heavier n (weight rest)
      (subst (λ (xs : List Left). weight (Microframes (suc n) ∷ rest) ≤ weight xs) over (subst (λ (xs : List Left). weight xs ≤ weight (moment s (k + 2 * a)).orders) still now))

  never_overlong : (w : World) → IsOverlong (fixed_of s) start w → ⊥
  never_overlong w o =
      let e : EndsWithin s o.leads.count o.n o.rest = ends o.leads.count o.n o.rest (ap (λ (p : OrderedWorld). p.orders) o.leads.there) in
      let still : (moment s (o.leads.count + 2 * o.unended.turns)).orders ≡ Microframes (suc o.n) ∷ o.rest
      = ap (λ (p : OrderedWorld). p.orders)
      (ticks_more (fixed_of s) start o.leads.count (2 * o.unended.turns)
      ∙ ap (λ (p : OrderedWorld). ticks (fixed_of s) p (2 * o.unended.turns)) o.leads.there
      ∙ o.unended.still) in
      no_more o.leads.count e.turns o.unended.turns o.n o.rest (few_turns e.turns o.unended.turns e.few o.unended.many) e.over still

  carried : (w : World) → IsRun (fixed_of s) (opening_world s) (orders_of s.lines) w → Leads (fixed_of s) start (at_place w [])
  carried w (inl leads) = leads
  carried w (inr overlong) = absurd (never_overlong w overlong)

  pub carries_out_all : CarriesOutAll s
  carries_out_all w run = carried w run
