use Rattle.std.proofs.Common.{arith}
use Rattle.bandwidth.proofs.Books.{book_opening}
use Rattle.bandwidth.proofs.accounts.Accounts.build.Goals as goal

pub invariant_of-result : goal.invariant_of-result
invariant_of-result c = (
  rw c.in_ok-placed.ensures.items
      (book_opening c.args.room _ _ c.in_ok-loads.ensures c.in_ok-pool.ensures.count c.in_ok-pool.ensures.none
      (omega (arith, c.in_ok-pool.ensures.size, c.min.ensures))),
  omega (arith, c.in_ok-placed.ensures.exact),
)
