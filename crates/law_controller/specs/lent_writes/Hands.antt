-- What the controller has in hand (EHCI 1.0, 3.4, 3.6, 4.6, 4.8 and 4.10).
--     IsCopyPlaced h     the copy of a queue head was read at a multiple of 32, and its current qTD stands at one
--     IsHandPlaced h     so was what the walk of a frame's chain has in hand; the words of an iTD may stand anywhere
--     ArePlaced c        both walks' copies are so
use Rattle.std.specs.Prelude.{◌≡◌, ℕ, ◌%◌, IfSome}
use Rattle.hc_copy.specs.declared.held.Held.{Held}
use Rattle.periodic_walk.specs.declared.state.Hand.{Hand}
use Rattle.periodic_walk.specs.declared.state.Hand.TheVariants as hands
use Rattle.hc_core.specs.Controller.{Control}

pub record IsCopyPlaced (h : Held) : Type 0 where
  pub at : h.at % 32 ≡ 0
  pub current : h.queue_head.current % 32 ≡ 0

abbrev pub IsHandPlaced : Hand → Type 0
IsHandPlaced (hands.Queue h) = IsCopyPlaced h.copy
IsHandPlaced (hands.Itd h) = Unit {0}
IsHandPlaced (hands.Sitd h) = h.at % 32 ≡ 0

pub record ArePlaced (c : Control) : Type 0 where
  pub frame : IfSome c.frame.hand IsHandPlaced
  pub ring : IfSome c.walk.held IsCopyPlaced
