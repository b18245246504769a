-- Ticks of a world at work, one after the other: they join, and what turns and events are.
use Rattle.std.proofs.Common.{◌≡◌, ℕ, zero, suc, ◌+◌, ◌*◌, List, ◌∷◌, Bool, true, false, refl, ap, sym, ◌∙◌, zero-add, arith, subst}
use Rattle.script_types.specs.declared.scripts.Event.{Event}
use Rattle.script_types.specs.declared.scripts.Event.TheVariants as events
use Rattle.bus_wire.specs.Bus.{Fixed}
use Rattle.bus_world.specs.World.{kind_next}
use Rattle.bus_world.specs.Orders.{Left, Events, Microframes, is_end, fewer, most_turns}
use Rattle.bus_world.specs.AtWork.{WorldAtWork, StandingAtWork, next_at_work}
use Rattle.bus_world.specs.RunsAtWork.{PlaceAtWork, tick_at_work, ticks_at_work, LeadsAtWork, place_at_work, IsUnendedAtWork, IsOverlongAtWork}

pub ticks_more : (fixed : Fixed) (p : PlaceAtWork) (a b : ℕ)
    → ticks_at_work fixed p (a + b) ≡ ticks_at_work fixed (ticks_at_work fixed p a) b
unfolding ticks_at_work
ticks_more fixed p zero b = ap (λ n. ticks_at_work fixed p n) (zero-add b)
ticks_more fixed p (suc a) b =
    let e : suc a + b ≡ suc (a + b) = omega arith in
    ap (λ n. ticks_at_work fixed p n) e ∙ ticks_more fixed (tick_at_work fixed p) a b

pub joined : (fixed : Fixed) (p q r : PlaceAtWork) → LeadsAtWork fixed p q → LeadsAtWork fixed q r → LeadsAtWork fixed p r
joined fixed p q r a b = record {
  count = a.count + b.count;
  there = ticks_more fixed p a.count b.count ∙ ap (λ x. ticks_at_work fixed x b.count) a.there ∙ b.there;
}

pub nothing : (fixed : Fixed) (p : PlaceAtWork) → LeadsAtWork fixed p p
unfolding ticks_at_work
nothing fixed p = record { count = 0; there = refl }

pub one_tick : (fixed : Fixed) (p : PlaceAtWork) → LeadsAtWork fixed p (tick_at_work fixed p)
unfolding ticks_at_work
one_tick fixed p = record { count = 1; there = refl }

-- a turn of the controller and the driver
pub two_ticks : (fixed : Fixed) (w : WorldAtWork) (n : ℕ) (rest : List Left)
    → ticks_at_work fixed (place_at_work w (Microframes (suc n) ∷ rest)) 2 ≡ place_at_work (next_at_work fixed
    (next_at_work fixed w events.C) events.D) (Microframes (fewer (is_end (kind_next w.world)) (suc n)) ∷ rest)
unfolding ticks_at_work
two_ticks fixed w n rest = refl

-- ---- a microframe, turn by turn

-- k turns were made since it began, and it hasn't ended
abbrev pub Still : StandingAtWork → StandingAtWork → ℕ → Type 0
Still begun now k = (n : ℕ) (rest : List Left) → ticks_at_work begun.fixed (place_at_work begun.work (Microframes (suc n) ∷ rest))
    (2 * k) ≡ place_at_work now.work (Microframes (suc n) ∷ rest)

abbrev pub turned : StandingAtWork → WorldAtWork
turned s = next_at_work s.fixed (next_at_work s.fixed s.work events.C) events.D

-- one turn more
turn_more : (begun now later : StandingAtWork) (k : ℕ) (ended : Bool) → ended ≡ is_end (kind_next now.work.world)
    → later ≡ record now { work = turned now } → now.fixed ≡ begun.fixed → Still begun now k
    → (n : ℕ) (rest : List Left) → ticks_at_work begun.fixed (place_at_work begun.work (Microframes (suc n) ∷ rest))
    (2 * k + 2) ≡ place_at_work later.work (Microframes (fewer ended (suc n)) ∷ rest)
turn_more begun now later k ended is world fixed still n rest =
    ticks_more begun.fixed (place_at_work begun.work (Microframes (suc n) ∷ rest)) (2 * k) 2
    ∙ ap (λ q. ticks_at_work begun.fixed q 2) (still n rest)
    ∙ two_ticks begun.fixed now.work n rest
    ∙ ap (λ f. place_at_work (next_at_work f (next_at_work f now.work events.C) events.D) (Microframes (fewer (is_end
    (kind_next now.work.world)) (suc n)) ∷ rest)) (sym fixed)
    ∙ ap (λ w. place_at_work w (Microframes (fewer (is_end (kind_next now.work.world)) (suc n)) ∷ rest)) (sym (ap (λ
    (s : StandingAtWork). s.work) world))
    ∙ ap (λ b. place_at_work later.work (Microframes (fewer b (suc n)) ∷ rest)) (sym is)

pub still_more : (begun now later : StandingAtWork) (k : ℕ) (ended : Bool) → ended ≡ is_end (kind_next now.work.world)
    → later ≡ record now { work = turned now } → now.fixed ≡ begun.fixed
    → Still begun now k → ended ≡ false → Still begun later (k + 1)
still_more begun now later k ended is world fixed still goes n rest =
    let e : 2 * (k + 1) ≡ 2 * k + 2 = omega arith in
    ap (λ m. ticks_at_work begun.fixed (place_at_work begun.work (Microframes (suc n) ∷ rest)) m) e
    ∙ turn_more begun now later k ended is world fixed still n rest
    ∙ ap (λ b. place_at_work later.work (Microframes (fewer b (suc n)) ∷ rest)) goes

pub microframe_ends : (begun now later : StandingAtWork) (k : ℕ) (ended : Bool) → ended ≡ is_end (kind_next now.work.world)
    → later ≡ record now { work = turned now } → now.fixed ≡ begun.fixed
    → Still begun now k → ended ≡ true → (n : ℕ) (rest : List Left) → LeadsAtWork begun.fixed (place_at_work begun.work (Microframes
    (suc n) ∷ rest)) (place_at_work later.work (Microframes n ∷ rest))
microframe_ends begun now later k ended is world fixed still ends n rest = record {
  count = 2 * k + 2;
  there =
      turn_more begun now later k ended is world fixed still n rest
      ∙ ap (λ b. place_at_work later.work (Microframes (fewer b (suc n)) ∷ rest)) ends;
}

pub still_begins : (begun : StandingAtWork) → Still begun begun 0
unfolding ticks_at_work
still_begins begun n rest = refl

pub is_unended : (begun now : StandingAtWork) (k : ℕ) → k ≡ most_turns → Still begun now k → (n : ℕ) (rest : List Left)
    → IsUnendedAtWork begun.fixed (place_at_work begun.work (Microframes (suc n) ∷ rest)) (place_at_work now.work (Microframes
    (suc n) ∷ rest))
is_unended begun now k many still n rest = record { turns = k; many = many; still = still n rest }

-- ---- orders that go on

pub orders_end : (fixed : Fixed) (p : PlaceAtWork) (w : WorldAtWork) (n : ℕ) (rest : List Left) → n ≡ 0
    → LeadsAtWork fixed p (place_at_work w (Microframes n ∷ rest)) → LeadsAtWork fixed p (place_at_work w rest)
orders_end fixed p w n rest z h =
    joined fixed p (place_at_work w (Microframes 0 ∷ rest)) (place_at_work w rest)
    (subst (λ m. LeadsAtWork fixed p (place_at_work w (Microframes m ∷ rest))) z h)
    (one_tick fixed (place_at_work w (Microframes 0 ∷ rest)))

pub events_end : (fixed : Fixed) (p : PlaceAtWork) (w : WorldAtWork) (event : Event) (n : ℕ) (rest : List Left) → n ≡ 0
    → LeadsAtWork fixed p (place_at_work w (Events event n ∷ rest)) → LeadsAtWork fixed p (place_at_work w rest)
events_end fixed p w event n rest z h =
    joined fixed p (place_at_work w (Events event 0 ∷ rest)) (place_at_work w rest)
    (subst (λ m. LeadsAtWork fixed p (place_at_work w (Events event m ∷ rest))) z h)
    (one_tick fixed (place_at_work w (Events event 0 ∷ rest)))

pub one_event : (fixed : Fixed) (p : PlaceAtWork) (w : WorldAtWork) (event : Event) (n m : ℕ) (rest : List Left) → n ≡ suc m
    → LeadsAtWork fixed p (place_at_work w (Events event n ∷ rest))
    → LeadsAtWork fixed p (place_at_work (next_at_work fixed w event) (Events event m ∷ rest))
one_event fixed p w event n m rest e h =
    joined fixed p (place_at_work w (Events event (suc m) ∷ rest)) (place_at_work (next_at_work fixed w event) (Events event m ∷ rest))
    (subst (λ k. LeadsAtWork fixed p (place_at_work w (Events event k ∷ rest))) e h)
    (one_tick fixed (place_at_work w (Events event (suc m) ∷ rest)))

-- ---- several of one kind

-- of `count` events or microframes of this order so many are left
abbrev pub GoneOn : StandingAtWork → StandingAtWork → (ℕ → Left) → ℕ → ℕ → Type 0
GoneOn begun now kind count left = (rest : List Left) → LeadsAtWork begun.fixed (place_at_work begun.work (kind count ∷ rest))
    (place_at_work now.work (kind left ∷ rest))

pub gone_begins : (begun : StandingAtWork) (kind : ℕ → Left) (count left : ℕ) → left ≡ count → GoneOn begun begun kind count left
gone_begins begun kind count left e rest =
    subst (λ n. LeadsAtWork begun.fixed (place_at_work begun.work (kind count ∷ rest)) (place_at_work begun.work (kind n ∷ rest))) (sym e)
    (nothing begun.fixed (place_at_work begun.work (kind count ∷ rest)))

pub event_more : (begun now later : StandingAtWork) (event : Event) (count left fewer_left : ℕ) → left ≡ suc fewer_left
    → later ≡ record now { work = next_at_work now.fixed now.work event }
    → now.fixed ≡ begun.fixed → GoneOn begun now (Events event) count left → GoneOn begun later (Events event) count fewer_left
event_more begun now later event count left fewer_left e world fixed gone rest =
    let is : later.work ≡ next_at_work begun.fixed now.work event = ap (λ (s : StandingAtWork). s.work) world ∙ ap (λ
    (f : Fixed). next_at_work f now.work event) fixed in
    subst (λ w. LeadsAtWork begun.fixed (place_at_work begun.work (Events event count ∷ rest)) (place_at_work w
    (Events event fewer_left ∷ rest))) (sym is)
    (one_event begun.fixed (place_at_work begun.work (Events event count ∷ rest)) now.work event left fewer_left rest e (gone rest))

pub events_done : (begun now : StandingAtWork) (event : Event) (count left : ℕ) → left ≡ 0 → GoneOn begun now (Events event) count left
    → (rest : List Left)
    → LeadsAtWork begun.fixed (place_at_work begun.work (Events event count ∷ rest)) (place_at_work now.work rest)
events_done begun now event count left z gone rest = events_end begun.fixed (place_at_work begun.work
    (Events event count ∷ rest)) now.work event left rest z (gone rest)

-- what one microframe that ended leads to
abbrev pub Ended : StandingAtWork → StandingAtWork → Type 0
Ended now later = (n : ℕ) (rest : List Left) → LeadsAtWork now.fixed (place_at_work now.work (Microframes (suc n) ∷ rest))
    (place_at_work later.work (Microframes n ∷ rest))

abbrev pub Unended : StandingAtWork → StandingAtWork → Type 0
Unended now later = (n : ℕ) (rest : List Left) → IsUnendedAtWork now.fixed (place_at_work now.work (Microframes (suc n) ∷ rest))
    (place_at_work later.work (Microframes (suc n) ∷ rest))

pub microframe_more : (begun now later : StandingAtWork) (count left fewer_left : ℕ) → left ≡ suc fewer_left → now.fixed ≡ begun.fixed
    → Ended now later → GoneOn begun now Microframes count left
    → GoneOn begun later Microframes count fewer_left
microframe_more begun now later count left fewer_left e fixed ended gone rest =
    joined begun.fixed (place_at_work begun.work (Microframes count ∷ rest)) (place_at_work now.work (Microframes left ∷ rest))
    (place_at_work later.work (Microframes fewer_left ∷ rest)) (gone rest)
    (subst (λ n. LeadsAtWork begun.fixed (place_at_work now.work (Microframes n ∷ rest)) (place_at_work later.work
    (Microframes fewer_left ∷ rest))) (sym e)
    (subst (λ (f : Fixed). LeadsAtWork f (place_at_work now.work (Microframes (suc fewer_left) ∷ rest)) (place_at_work later.work
    (Microframes fewer_left ∷ rest))) fixed (ended fewer_left rest)))

pub microframes_done : (begun now : StandingAtWork) (count left : ℕ) → left ≡ 0 → GoneOn begun now Microframes count left
    → (rest : List Left)
    → LeadsAtWork begun.fixed (place_at_work begun.work (Microframes count ∷ rest)) (place_at_work now.work rest)
microframes_done begun now count left z gone rest = orders_end begun.fixed (place_at_work begun.work
    (Microframes count ∷ rest)) now.work left rest z (gone rest)

pub microframes_overlong : (begun now later : StandingAtWork) (count left fewer_left : ℕ) → left ≡ suc fewer_left
    → now.fixed ≡ begun.fixed → Unended now later → GoneOn begun now Microframes count left
    → (rest : List Left) → IsOverlongAtWork begun.fixed (place_at_work begun.work (Microframes count ∷ rest)) later.work
microframes_overlong begun now later count left fewer_left e fixed unended gone rest = record {
  begun = now.work;
  n = fewer_left;
  rest = rest;
  leads = subst (λ n. LeadsAtWork begun.fixed (place_at_work begun.work (Microframes count ∷ rest)) (place_at_work now.work
      (Microframes n ∷ rest))) e (gone rest);
  unended = subst (λ (f : Fixed). IsUnendedAtWork f (place_at_work now.work (Microframes (suc fewer_left) ∷ rest))
      (place_at_work later.work (Microframes (suc fewer_left) ∷ rest))) fixed (unended fewer_left rest);
}
