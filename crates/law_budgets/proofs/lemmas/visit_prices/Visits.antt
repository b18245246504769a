-- A visit of which each event keeps what holds of it costs what it may.
use Rattle.std.proofs.Common.{◌≡◌, ℕ, ◌-◌, ◌≤◌, List, [], ◌∷◌, ◌++◌, Option, Some, None, refl, arith}
use Rattle.std.specs.Prelude.{is_none, if◌then◌else◌}
use Rattle.usb_base.specs.declared.packets.Reply.{Reply}
use Rattle.periodic_walk.specs.declared.state.Hand.{Hand}
use Rattle.periodic_walk.specs.Place.{FramePlace, Effect}
use Rattle.periodic_walk.specs.Place.Effect.{Leaves, Asks}
use Rattle.periodic_walk.specs.Rows.{effect_of}
use Rattle.law_budgets.specs.visit_prices.Prices.{left_by, after, paid, prices, Costs}

-- an event leaves what holds with so many transactions to come, or asks the bus once and leaves it with one less
abbrev pub Goes : (ℕ → FramePlace → Type 0) → ℕ → ℕ → FramePlace → Effect → Type 0
Goes Holds c n p (Leaves q) = Holds n q
Goes Holds c n p (Asks ask out by) = (1 ≤ n) × ((r : Reply) → (p.walk.left - (by r).walk.left ≤ c) × Holds (n - 1) (by r))

costs_none : (n c : ℕ) → Costs n c []
costs_none n c = record { few = omega arith; each = tt }

costs_more : (n c x : ℕ) (ps : List ℕ) → 1 ≤ n → x ≤ c → Costs (n - 1) c ps → Costs n c (x ∷ ps)
costs_more n c x ps some small h = record { few = omega (arith, some, h.few); each = (small, h.each) }

by_effect : (Holds : ℕ → FramePlace → Type 0) (c n : ℕ) (p : FramePlace) (r : Reply) (rs : List Reply) (e : Effect) → ((m : ℕ) (q : FramePlace) → Holds m q → Costs m c (prices q rs)) → Goes Holds c n p e
    → Costs n c (paid p e r ++ prices (left_by e r) rs)
by_effect Holds c n p r rs (Leaves q) rest g = rest n q g
by_effect Holds c n p r rs (Asks ask out by) rest g =
    costs_more n c (p.walk.left - (by r).walk.left) (prices (by r) rs) g.0 (g.1 r).0 (rest (n - 1) (by r) (g.1 r).1)

by_hand : (Holds : ℕ → FramePlace → Type 0) (c n : ℕ) (p : FramePlace) (r : Reply) (rs : List Reply) (hand : Option Hand) → ((m : ℕ) (q : FramePlace) → Holds m q → Costs m c (prices q rs))
    → ((k : Hand) → hand ≡ Some k → Goes Holds c n p (effect_of p)) → Costs n c (if is_none hand then [] else paid p (effect_of p) r ++ prices (after p r) rs)
by_hand Holds c n p r rs None rest step = costs_none n c
by_hand Holds c n p r rs (Some hand) rest step = by_effect Holds c n p r rs (effect_of p) rest (step hand refl)

pub along : (Holds : ℕ → FramePlace → Type 0) (c : ℕ) → ((n : ℕ) (p : FramePlace) (hand : Hand) → p.walk.hand ≡ Some hand → Holds n p → Goes Holds c n p (effect_of p)) → (n : ℕ) (p : FramePlace) (rs : List Reply) → Holds n p
    → Costs n c (prices p rs)
unfolding prices
along Holds c step n p [] h = costs_none n c
along Holds c step n p (r ∷ rs) h =
    by_hand Holds c n p r rs p.walk.hand (λ m q k. along Holds c step m q rs k) (λ hand e. step n p hand e h)
