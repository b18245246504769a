use Rattle.std.proofs.Common.{◌≡◌, ◌≤◌, replicate, vec_len, vec_capacity}
use Rattle.mem_runs.specs.declared.slots.Slot.TheVariants.{Empty}
use Rattle.mem_runs.proofs.book.RunBook.of_blocks.Given as goal

abbrev pub invariant-loop-block : goal.invariant-loop-block
invariant-loop-block l = record { items : l.slots.items ≡ replicate l._block Empty; len : vec_len l.slots ≡ l._block; room : l.blocks ≤ vec_capacity l.slots }
