-- What was visited in a round is there once.
use Rattle.std.proofs.Common.{ℕ, List}
use Rattle.law_microframes.proofs.Common.{none_higher}
use Rattle.bus_world.specs.World.{World}
use Rattle.law_microframes.specs.time.Rounds.{RoundsGoOn, IsRounding}
use Rattle.law_microframes.proofs.lemmas.time.RoundLists.{falling_once}
use Rattle.law_microframes.specs.time.RoundLaws.{RoundsApart}

pub rounds_apart : (w : World) (vs : List ℕ) → IsRounding w vs → RoundsApart w vs
rounds_apart w vs h =
    let g : RoundsGoOn w vs = h.rounds in
    record {
      once = falling_once g.height vs g.behind.falling;
      reached = g.behind.reached;
      in_hand = g.behind.in_hand;
      next = λ k ahead other. none_higher g.height k vs (g.behind.next k ahead other);
    }
