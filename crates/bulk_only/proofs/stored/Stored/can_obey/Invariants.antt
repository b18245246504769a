use Rattle.std.proofs.Common.{◌≡◌, ◌≤◌, ◌+◌, ◌-◌, length, drop}
use Rattle.bulk_only.specs.Commands.{commands_of, rest_of}
use Rattle.bulk_only.specs.Contents.{reply_lengths}
use Rattle.bulk_only.specs.Replies.{bytes_in}
use Rattle.bulk_only.proofs.stored.Stored.can_obey.Given as goal

abbrev pub invariant-loop-block : goal.invariant-loop-block
invariant-loop-block l = record {
  within : l.at ≤ length l.bytes;
  rest : rest_of (drop l.at l.bytes) ≡ rest_of l.bytes;
  left : bytes_in l.self.replies.packets + (reply_lengths (commands_of l.bytes) + l.left) ≡ l.self.replies.room + reply_lengths (commands_of (drop l.at l.bytes));
}

abbrev pub decreases-loop-block : goal.decreases-loop-block
decreases-loop-block l = length l.bytes - l.at
