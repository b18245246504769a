use Rattle.std.proofs.Common.{◌≡◌, ◌≤◌, ◌+◌, ◌-◌, length, drop}
use Rattle.bulk_only.specs.Commands.{commands_of, rest_of}
use Rattle.bulk_only.specs.Contents.{obeyed, reply_lengths}
use Rattle.bulk_only.specs.Replies.{bytes_in}
use Rattle.bulk_only.proofs.stored.Stored.obey_all.Given as goal

abbrev pub invariant-loop-block : goal.invariant-loop-block
invariant-loop-block l = record {
  within : l.at ≤ length l.bytes;
  rest : rest_of (drop l.at l.bytes) ≡ rest_of l.bytes;
  room : bytes_in l.self.replies.packets + reply_lengths (commands_of (drop l.at l.bytes)) ≤ l.self.replies.room;
  after : obeyed (commands_of (drop l.at l.bytes)) l.self ≡ obeyed (commands_of l.bytes) l.initial.self;
}

abbrev pub decreases-loop-block : goal.decreases-loop-block
decreases-loop-block l = length l.bytes - l.at
