-- Each turn of the controller and the driver that doesn't end the microframe leaves fewer events ahead; so the microframe ends.
use Rattle.std.proofs.Common.{◌≡◌, ◌≢◌, ℕ, zero, suc, ◌+◌, ◌*◌, ◌<◌, ◌≤◌, ◌⊎◌, inl, inr, Bool, true, false, List, ◌∷◌, ap, sym, subst, ◌∙◌, refl, arith}
use Rattle.script_types.specs.declared.scripts.Script.{Script}
use Rattle.hc_core.specs.declared.controller.HcStep.TheVariants as steps
use Rattle.bus_wire.specs.Bus.{fixed_of}
use Rattle.bus_world.specs.World.{World, kind_next}
use Rattle.bus_world.specs.Orders.{Left, Microframes, Answer, OrderedWorld, fewer, is_end, tick_at}
use Rattle.bus_world.specs.Budgets.{moment}
use Rattle.claims_world.specs.Visits.{visited}
use Rattle.law_microframes.proofs.lemmas.visits.ReasonMoments.{next_moment}
use Rattle.law_microframes.specs.time.Rounds.{round}
use Rattle.law_microframes.specs.time.HeadReads.{heads}
use Rattle.law_microframes.specs.time.Ahead.{events_ahead, ahead, IsCounted, EachRowLowers}
use Rattle.claims_world.specs.Microframes.{microframe_whole, EndsWithin, MicroframesEnd}
use Rattle.law_microframes.proofs.lemmas.time.TurnMoments.{IsCountedIn, AreCounted, counted_by, ended_or, ahead_in, ahead_after, ahead_next, event_lowers, ahead_bound}

-- ---- a turn

orders_next : (s : Script) (k : ℕ) (orders : List Left) → (moment s k).orders ≡ orders → (moment s (suc k)).orders ≡ (tick_at (fixed_of s) (moment s k).world orders).orders
orders_next s k orders is =
    ap (λ (p : OrderedWorld). p.orders) (next_moment s k) ∙ ap (λ (xs : List Left). (tick_at (fixed_of s) (moment s k).world xs).orders) is

module _ (s : Script) (k n : ℕ) (rest : List Left) (is : (moment s k).orders ≡ Microframes (suc n) ∷ rest) where
  answers : (moment s (suc k)).orders ≡ Answer (is_end (kind_next (moment s k).world)) (suc n) ∷ rest
  answers = orders_next s k (Microframes (suc n) ∷ rest) is

  turn_orders : (moment s (suc (suc k))).orders ≡ Microframes (fewer (is_end (kind_next (moment s k).world)) (suc n)) ∷ rest
  turn_orders = orders_next s (suc k) (Answer (is_end (kind_next (moment s k).world)) (suc n) ∷ rest) answers

  turn_ahead : ahead s (suc (suc k)) ≡ ahead_after (fixed_of s) (moment s k).world (visited s k) (round s k) (heads s k)
  unfolding ahead
  turn_ahead =
      ahead_next s (suc k)
      ∙ ap (λ (xs : List Left). ahead_in (fixed_of s) (moment s (suc k)).world xs (visited s (suc k)) (round s (suc k)) (heads s (suc k))) answers
      ∙ ahead_next s k
      ∙ ap (λ (xs : List Left). ahead_in (fixed_of s) (moment s k).world xs (visited s k) (round s k) (heads s k)) is

  counted_here : AreCounted s → IsCounted (fixed_of s) (moment s k).world (visited s k) (round s k) (heads s k)
  counted_here counted =
      counted_by (fixed_of s) (moment s k).world n rest (visited s k) (round s k) (heads s k)
      (subst (λ (xs : List Left). IsCountedIn (fixed_of s) (moment s k).world xs (visited s k) (round s k) (heads s k)) is (counted k))

  turn_lowers : EachRowLowers → AreCounted s → kind_next (moment s k).world ≢ steps.End → ahead s (suc (suc k)) < ahead s k
  unfolding ahead
  turn_lowers lowers counted goes =
      subst (λ (m : ℕ). m < events_ahead (moment s k).world.control (visited s k) (round s k) (heads s k)) (sym turn_ahead)
      (event_lowers lowers (fixed_of s) (moment s k).world (visited s k) (round s k) (heads s k) (counted_here counted) goes)

  turn_goes : is_end (kind_next (moment s k).world) ≡ false → (moment s (suc (suc k))).orders ≡ Microframes (suc n) ∷ rest
  turn_goes goes = turn_orders ∙ ap (λ (b : Bool). Microframes (fewer b (suc n)) ∷ rest) goes

  turn_ends : is_end (kind_next (moment s k).world) ≡ true → (moment s (suc (suc k))).orders ≡ Microframes n ∷ rest
  turn_ends ends = turn_orders ∙ ap (λ (b : Bool). Microframes (fewer b (suc n)) ∷ rest) ends

-- ---- so many turns

record EndsBy (s : Script) (b k n : ℕ) (rest : List Left) : Type 0 where
  turns : ℕ
  few : turns ≤ suc b
  over : (moment s (k + 2 * turns)).orders ≡ Microframes n ∷ rest

ends_now : (s : Script) (b k n : ℕ) (rest : List Left) → (moment s (suc (suc k))).orders ≡ Microframes n ∷ rest → EndsBy s b k n rest
ends_now s b k n rest over =
    let at : k + 2 * 1 ≡ suc (suc k) = omega arith in
    record { turns = 1; few = omega arith; over = ap (λ (j : ℕ). (moment s j).orders) at ∙ over }

ends_later : (s : Script) (b k n : ℕ) (rest : List Left) → EndsBy s b (suc (suc k)) n rest → EndsBy s (suc b) k n rest
ends_later s b k n rest e =
    let at : k + 2 * suc e.turns ≡ suc (suc k) + 2 * e.turns = omega arith in
    record { turns = suc e.turns; few = omega (arith, e.few); over = ap (λ (j : ℕ). (moment s j).orders) at ∙ e.over }

abbrev Kinds : World → Type 0
Kinds w = ((kind_next w ≡ steps.End) × (is_end (kind_next w) ≡ true)) ⊎ ((kind_next w ≢ steps.End) × (is_end (kind_next w) ≡ false))

less_yet : (a b c : ℕ) → a < b → b ≤ suc c → a ≤ c
less_yet a b c less top = omega (arith, less, top)

none_less : (a b : ℕ) → a < b → b ≤ 0 → ⊥
none_less a b less top = omega (arith, less, top)

module _ (lowers : EachRowLowers) (s : Script) (counted : AreCounted s) where
  Next : ℕ → ℕ → ℕ → List Left → Type 0
  Next b k n rest = (moment s (suc (suc k))).orders ≡ Microframes (suc n) ∷ rest → ahead s (suc (suc k)) ≤ b → EndsBy s b (suc (suc k)) n rest

  last_turn : (k n : ℕ) (rest : List Left) → (moment s k).orders ≡ Microframes (suc n) ∷ rest → ahead s k ≤ 0 → Kinds (moment s k).world → EndsBy s 0 k n rest
  last_turn k n rest is top (inl ends) = ends_now s 0 k n rest (turn_ends s k n rest is ends.1)
  last_turn k n rest is top (inr goes) = absurd (none_less (ahead s (suc (suc k))) (ahead s k) (turn_lowers s k n rest is lowers counted goes.0) top)

  one_turn : (b k n : ℕ) (rest : List Left) → (moment s k).orders ≡ Microframes (suc n) ∷ rest → ahead s k ≤ suc b → Next b k n rest → Kinds (moment s k).world → EndsBy s (suc b) k n rest
  unfolding Next
  one_turn b k n rest is top later (inl ends) = ends_now s (suc b) k n rest (turn_ends s k n rest is ends.1)
  one_turn b k n rest is top later (inr goes) =
      ends_later s b k n rest
      (later (turn_goes s k n rest is goes.1) (less_yet (ahead s (suc (suc k))) (ahead s k) b (turn_lowers s k n rest is lowers counted goes.0) top))

  ends_by : (b k n : ℕ) (rest : List Left) → (moment s k).orders ≡ Microframes (suc n) ∷ rest → ahead s k ≤ b → EndsBy s b k n rest
  unfolding Next
  ends_by zero k n rest is top = last_turn k n rest is top (ended_or (kind_next (moment s k).world))
  ends_by (suc b) k n rest is top = one_turn b k n rest is top (λ on less. ends_by b (suc (suc k)) n rest on less) (ended_or (kind_next (moment s k).world))

  within_bound : (b k n : ℕ) (rest : List Left) → b ≡ microframe_whole → EndsBy s b k n rest → EndsWithin s k n rest
  within_bound b k n rest is e = record { turns = e.turns; few = omega (arith, e.few, is); over = e.over }

  pub microframes_end : MicroframesEnd s
  microframes_end k n rest is = within_bound microframe_whole k n rest refl (ends_by microframe_whole k n rest is (ahead_bound lowers s counted k))
