use Rattle.word_mem.specs.Memory.{AreAll}
use Rattle.word_mem.specs.declared.blocks.BlockState.TheVariants.{Lent}
use Rattle.example_driver.proofs.main.Given as goal

-- no event of the controller changes whose a block is
abbrev pub invariant-loop-event : goal.invariant-loop-event
invariant-loop-event l = AreAll l.mem Lent l.ring
