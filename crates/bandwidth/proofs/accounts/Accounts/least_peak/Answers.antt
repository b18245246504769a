use Rattle.bandwidth.specs.Sums.{translator_of}
use Rattle.bandwidth.specs.Tables.{sheet_at}
use Rattle.bandwidth.proofs.Budgets.{cells_peak, cells_out}
use Rattle.bandwidth.proofs.Books.{sums_for, loads_small}
use Rattle.bandwidth.proofs.Peaks.{cost_peak, first_frame}
use Rattle.bandwidth.proofs.accounts.Accounts.least_peak.Goals as goal

pub first_sum-requires-clause-room : goal.first_sum-requires-clause-room
first_sum-requires-clause-room g c = loads_small _ c.self.invariant.0

pub returns-then-is_some-clause-peak : goal.returns-then-is_some-clause-peak
returns-then-is_some-clause-peak g c =
    c.least_cost.ensures _ (cost_peak c.args.self.now.placed c.args.want.now c.args.shape.now c.args.placement.now c.requires.shape c.requires.place)

pub returns-clause-peak : goal.returns-clause-peak
returns-clause-peak g c =
    let w = c.args.want.now in
    let p = c.args.placement.now in
    let x = c.args.shape.now in
    rw (← c.self.view_is)
    (c.first_sum.ensures.least _
    (first_frame _ _ p _ c.requires.place.place
    (cells_out _ w x p _ c.requires.shape c.requires.place
    (cells_peak (sheet_at (record { room = c.self.inside.room; placed = c.self.inside.placed.items; loads = c.self.inside.loads; pool = c.self.inside.pool }) (translator_of w)) w p (sums_for _ (translator_of w) c.self.invariant.0)))))
