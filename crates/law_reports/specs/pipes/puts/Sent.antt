-- What is sent to the OUT endpoints at high speed of a world with endpoints of every kind (EHCI 1.0, 4.10.2 to 4.10.6; USB 2.0, 5.7, 5.8
-- and 8.5): the qTDs of each are sent whole and in turn, so what was sent begins the bytes of those that were published.
--     AreSent s outs          so it is of each of these queue heads
--     HasSent fixed x w       the streams of the world w stand, and its OUT endpoints are so, for some standing, lines and queue heads
use Rattle.std.specs.Prelude.{◌≡◌, ℕ, Bool, true}
use Rattle.bus_wire.specs.Bus.{Fixed}
use Rattle.law_queues.specs.whole_sends.Whole.{AreSentWhole}
use Rattle.law_world.specs.memory.Mixed.{Standing}
use Rattle.law_reports.specs.lines.Lined.{in_hand, Lines}
use Rattle.law_reports.specs.pipes.Declared.{Sides}
use Rattle.law_reports.specs.pipes.Piped.{Heads, IsPiped}
use Rattle.bus_world.specs.World.{World}

abbrev pub AreSent : Standing → (ℕ → Bool) → Type 0
AreSent s outs = (n : ℕ) → outs n ≡ true → AreSentWhole (s.order n) (s.out n) (in_hand s) n (s.parts n)

pub record HasSent (fixed : Fixed) (x : Sides) (w : World) : Type 0 where
  pub standing : Standing
  pub lines : Lines
  pub heads : Heads
  pub piped : IsPiped fixed x standing lines heads w
  pub sent : AreSent standing heads.outs
