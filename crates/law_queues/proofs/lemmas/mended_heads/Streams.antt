-- The streams of OUT endpoints, and the reports, once the store that is owed is made.
use Rattle.std.proofs.Common.{◌*◌}
use Rattle.law_common.proofs.Numbers.{streamed_apart}
use Rattle.law_controller.proofs.lemmas.controlled_streams.Outs.{stale_is_unmoved, out_is_spared}
use Rattle.law_queues.specs.mended_heads.Mended.{parts_then, hand_then}
use Rattle.law_queues.specs.mended_heads.Streams.{MendLeavesOutPipe, MendLeavesReports}
use Rattle.law_queues.proofs.lemmas.mended_heads.Queues.{mend_adds_none, mend_leaves_accounts}
use Rattle.law_queues.proofs.lemmas.mended_heads.Row.{mend_spares_heads, mend_spares_elements, mend_spares_hand}

pub mend_leaves_out_pipe : MendLeavesOutPipe
mend_leaves_out_pipe taker known hand n x p parts out k differs pipe =
    out_is_spared hand (hand_then k hand) parts (parts_then k) n x taker known (mend_spares_hand hand p parts out k) (λ un. stale_is_unmoved (32 * k.stalled.queue) hand n un)
    (mend_spares_heads p parts out k n differs) (λ q here on. mend_spares_elements p parts out k n q.current) (λ a t is on. pipe.outs a t (mend_adds_none p parts out k n a t is) on) pipe

pub mend_leaves_reports : MendLeavesReports
mend_leaves_reports heads order sent acc reported hand p parts out k off right n on =
    let r = right n on in
    record {
      place = r.place;
      told = r.told;
      accounts = mend_leaves_accounts (order n) r.place (sent n) hand n r.told p parts out k (streamed_apart heads (32 * k.stalled.queue) n off on) r.accounts;
      sum = r.sum;
    }
