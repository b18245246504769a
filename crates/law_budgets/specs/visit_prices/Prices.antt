-- What a visit of the walk of a frame's chain costs, whatever the bus replies (EHCI 1.0, 4.7 and 4.10.3; USB 2.0, 5.11.3).
--     after p r         the place after the next event, where the bus replies so
--     prices p rs       the prices of the transactions of a visit, up to its end, over these replies
--     Costs n c ps      at most n transactions, none dearer than c
use Rattle.std.specs.Prelude.{ℕ, ◌-◌, ◌≤◌, List, [], ◌∷◌, ◌++◌, length, is_none, if◌then◌else◌}
use Rattle.std.specs.List.{AllByRecursion}
use Rattle.usb_base.specs.declared.packets.Reply.{Reply}
use Rattle.periodic_walk.specs.Place.{FramePlace, Effect}
use Rattle.periodic_walk.specs.Place.Effect.{Leaves, Asks}
use Rattle.periodic_walk.specs.Rows.{effect_of}

abbrev pub left_by : Effect → Reply → FramePlace
left_by (Leaves q) r = q
left_by (Asks ask out by) r = by r

abbrev pub after : FramePlace → Reply → FramePlace
after p r = left_by (effect_of p) r

-- the price of the transaction that an event makes, if it makes one: what it takes of the time that is left
abbrev pub paid : FramePlace → Effect → Reply → List ℕ
paid p (Leaves q) r = []
paid p (Asks ask out by) r = (p.walk.left - (by r).walk.left) ∷ []

unfoldable pub prices : FramePlace → List Reply → List ℕ
prices p [] = []
prices p (r ∷ rs) = if is_none p.walk.hand then [] else paid p (effect_of p) r ++ prices (after p r) rs

pub record Costs (n c : ℕ) (ps : List ℕ) : Type 0 where
  pub few : length ps ≤ n
  pub each : AllByRecursion (λ price. price ≤ c) ps
