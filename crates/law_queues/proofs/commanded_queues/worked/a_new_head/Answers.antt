use Rattle.std.proofs.Common.{refl, arith}
use Rattle.claims_driver.specs.Walk.{IsNumbered}
use Rattle.law_driver.specs.chained_transfers.Bulk.{IsBulk}
use Rattle.law_driver.specs.AsynchronousScripts.{IsAsynchronous}
use Rattle.law_driver.proofs.lemmas.chained_transfers.BulkAndControl.{bulk_asynchronous}
use Rattle.law_queues.specs.commanded_queues.Samples.{highest, highest_out, highest_control}
use Rattle.law_queues.proofs.lemmas.commanded_queues.Ranges.{new_head_range}
use Rattle.law_queues.proofs.commanded_queues.worked.a_new_head.Goals as goal

bulk : IsBulk highest
bulk = record { kind = refl; speed = refl; way = tt }

out : IsBulk highest_out
out = record { kind = refl; speed = refl; way = tt }

control : IsAsynchronous highest_control
control = record { kind = refl; speed = refl }

numbered : IsNumbered highest
numbered = (omega arith, omega arith)

pub returns-clause-bulk : goal.returns-clause-bulk
returns-clause-bulk c = bulk

pub returns-clause-out : goal.returns-clause-out
returns-clause-out c = out

pub returns-clause-control : goal.returns-clause-control
returns-clause-control c = control

pub returns-clause-numbered : goal.returns-clause-numbered
returns-clause-numbered c = numbered

pub returns-clause-range : goal.returns-clause-range
returns-clause-range c = new_head_range highest 128 143 (bulk_asynchronous highest bulk) numbered (omega arith)

pub returns-clause-out_range : goal.returns-clause-out_range
returns-clause-out_range c = new_head_range highest_out 128 143 (bulk_asynchronous highest_out out) (omega arith, omega arith) (omega arith)

pub returns-clause-control_range : goal.returns-clause-control_range
returns-clause-control_range c = new_head_range highest_control 128 143 control (omega arith, omega arith) (omega arith)
