-- The device's side of a control endpoint (USB 2.0, 8.5.3): the replies that it knows, and its stage.
--     Device   the device's side of a control endpoint: the replies that it knows, and its stage
use Rattle.std.specs.Prelude.{ℕ, List, Option}
use Rattle.dev_control.specs.Stages.{Stages}

pub record Device : Type 0 where
  pub known : List ℕ → Option (List ℕ)
  pub stages : Stages
