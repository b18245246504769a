use Rattle.std.proofs.Common.{◌≡◌, ◌+◌, ◌-◌, ◌*◌, ◌++◌}
use Rattle.bulk_only.specs.Blocks.{block_size}
use Rattle.bulk_only.specs.Contents.{zero_blocks}
use Rattle.bulk_only.specs.Replies.{bytes_in}
use Rattle.bulk_only.proofs.stored.send_zeros.Given as goal

abbrev pub invariant-loop-k : goal.invariant-loop-k
invariant-loop-k l = record {
  room : l.replies.room ≡ l.initial.replies.room;
  packets : l.replies.packets ++ zero_blocks (l.blocks - l._k) ≡ l.initial.replies.packets ++ zero_blocks l.blocks;
  size : bytes_in l.replies.packets ≡ bytes_in l.initial.replies.packets + block_size * l._k;
}
