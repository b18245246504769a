-- The devices' endpoints with streams, or with takers, grow fewer as endpoints leave the ring (EHCI 1.0, 4.8.2), and a control endpoint is none of them.
use Rattle.std.proofs.Common.{ℕ, Bool, not, ◌&&◌, ap}
use Rattle.usb_base.specs.declared.commands.Cmd.{Cmd}
use Rattle.usb_base.specs.declared.commands.Cmd.TheVariants as commands
use Rattle.drv_table.specs.DriverContent.{DriverContent}
use Rattle.law_world.specs.steps.closed_streams.Left.{names_kept}
use Rattle.law_world.specs.streams.Feeding.{AreControlsApart}
use Rattle.law_world.specs.streams.FeedingLaws.{OpensNoStream}
use Rattle.law_world.specs.streams.Whole.{AreOf}
use Rattle.law_world.specs.streams.Laws.{OpensTo}

pub kept_of : (has left : ℕ → ℕ → Bool) → AreOf has (names_kept has left)
kept_of has left addr ep off = ap (λ (b : Bool). b && not (left addr ep)) off

pub are_same : (has : ℕ → ℕ → Bool) → AreOf has has
are_same has addr ep off = off

pub are_fewer : (base before now : ℕ → ℕ → Bool) → AreOf base before → AreOf before now → AreOf base now
are_fewer base before now first second addr ep off = second addr ep (first addr ep off)

pub fewer_apart : (d : DriverContent) (has now : ℕ → ℕ → Bool) → AreOf has now → AreControlsApart d has → AreControlsApart d now
fewer_apart d has now of k e x here way = of x.desc.name.addr x.desc.name.num (k e x here way)

-- ---- a control endpoint that is opened

pub opens_no_stream : (stream takes : ℕ → ℕ → Bool) (cmd : Cmd) → OpensTo stream takes cmd → OpensNoStream stream cmd
opens_no_stream stream takes (commands.OpenEp desc) to = λ way. (to.2 way).0
opens_no_stream stream takes _ to = tt

pub opens_no_taker : (stream takes : ℕ → ℕ → Bool) (cmd : Cmd) → OpensTo stream takes cmd → OpensNoStream takes cmd
opens_no_taker stream takes (commands.OpenEp desc) to = λ way. (to.2 way).1
opens_no_taker stream takes _ to = tt
