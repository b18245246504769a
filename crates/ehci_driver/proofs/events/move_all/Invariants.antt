use Rattle.std.proofs.Common.{◌≡◌, ◌+◌, ◌++◌}
use Rattle.std.specs.VecDeque.{deque_len, deque_capacity}
use Rattle.ehci_driver.proofs.events.move_all.Given as goal

abbrev pub invariant-loop-e : goal.invariant-loop-e
invariant-loop-e l = record {
  items : l.to.items ++ l.from.items ≡ l.fn.to.items ++ l.fn.from.items;
  long : deque_len l.to + deque_len l.from ≡ deque_len l.fn.from + deque_len l.fn.to;
  room : deque_capacity l.to ≡ deque_capacity l.fn.to;
  kept : deque_capacity l.from ≡ deque_capacity l.fn.from;
}

abbrev pub decreases-loop-e : goal.decreases-loop-e
decreases-loop-e l = deque_len l.from
