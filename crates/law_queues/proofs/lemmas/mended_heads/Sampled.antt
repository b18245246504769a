-- The premises of the laws hold of the sample.
use Rattle.std.proofs.Common.{◌≡◌, [], ◌∷◌, slice_get, Some, refl, arith}
use Rattle.qh_qtd.specs.QueueHead.{IsQhInRange}
use Rattle.drv_table.specs.Words.{dummy_qtd}
use Rattle.drv_table.specs.declared.rows.DriverRow.TheVariants as rows
use Rattle.drv_table.specs.Harvesting.{behind}
use Rattle.drv_table.specs.Rows.{after_driver_row}
use Rattle.law_queues.specs.mended_heads.Owed.{left_of, IsOwed}
use Rattle.law_queues.specs.mended_heads.Waiting.{Waits, AreStalled}
use Rattle.law_queues.specs.mended_heads.Stalling.{HaltsQueue}
use Rattle.law_queues.specs.mended_heads.Mended.{IsAtMend}
use Rattle.law_queues.specs.mended_heads.Samples.{asking, stall, endpoint, waiting, stalled, halted_head, first_parts, none_out}

owed : IsOwed waiting.driver stalled
owed = record { number = 0; endpoint = endpoint; here = refl; control = refl; kept = refl; going = refl; queue = refl; onward = refl; some = omega arith }

queue_waits : Waits stalled first_parts none_out
queue_waits = record {
  stands = record { head = halted_head; here = refl; halted = refl; next = λ some. absurd (omega (arith, some)); alternate = λ some. absurd (omega (arith, some)) };
  published = λ a t among is. absurd among;
}

pub waits : AreStalled waiting.driver first_parts none_out (stalled ∷ [])
waits = record { mends = refl; owed = (owed, tt); wait = (queue_waits, tt); apart = (tt, tt) }

pub moment : IsAtMend waiting first_parts none_out
moment = record { stalled = stalled; others = []; row = refl; idle = refl; are = waits; can = refl; onward = record { qtd = dummy_qtd; here = refl } }

pub range : IsQhInRange halted_head
range = (
  (omega arith, (omega arith, tt)),
  (
    (omega arith, (omega arith, (omega arith, (omega arith, (omega arith, tt))))),
    (
      (omega arith, (omega arith, (omega arith, (omega arith, (omega arith, tt))))),
      (
        (refl, tt),
        (
          (refl, tt),
          (
            (refl, (omega arith, tt)),
            (
              (omega arith, (omega arith, (omega arith, (omega arith, tt)))),
              ((omega arith, (omega arith, tt)), ((omega arith, (omega arith, tt)), ((omega arith, (omega arith, (omega arith, tt))), ((omega arith, tt), ((omega arith, tt), tt))))),
            ),
          ),
        ),
      ),
    ),
  ),
)

-- ---- the harvest before

pub owes : (after_driver_row (rows.Harvest 0 0 stall) asking).driver.mends ≡ left_of stalled
unfolding behind
owes = refl

pub ends : slice_get (after_driver_row (rows.Harvest 0 0 stall) asking).driver.endpoints 0 ≡ Some endpoint
unfolding behind
ends = refl

pub given : (after_driver_row (rows.Harvest 0 0 stall) asking).driver.harvested ≡ 0 ∷ []
unfolding behind
given = refl

pub halts : HaltsQueue [] first_parts 4160
halts = record { queue = halted_head; here = refl; halted = refl; published = λ a t among is. absurd among }
