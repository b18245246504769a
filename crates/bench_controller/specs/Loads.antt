-- The loads.
use Rattle.std.specs.Prelude.{ℕ}
use Rattle.bench_controller.specs.declared.line.Kind.{Kind}
use Rattle.bench_controller.specs.declared.line.Kind.TheVariants as kinds

-- the fewest queue heads beside the ring's head
abbrev pub fewest : Kind → ℕ
fewest kinds.In = 1
fewest kinds.Out = 1
fewest kinds.Control = 1
fewest kinds.Interrupt = 0
