-- Blocks that are given back leave fronts and tails.
use Rattle.std.proofs.Common.{◌≡◌, ℕ, ◌*◌, sym, subst}
use Rattle.law_queues.proofs.Common2.{fewer_within}
use Rattle.law_queues.proofs.Common.{fewer_tail}
use Rattle.drv_table.specs.Parts.{Parts}
use Rattle.law_ring.specs.Fewer.{without_those}
use Rattle.law_ring.specs.Front.{HasTail}
use Rattle.law_controller.specs.controlled_streams.Returned.{staying_of}
use Rattle.law_driver_ring.specs.Released.{goes_of}
use Rattle.law_queues.proofs.lemmas.released_queues.Staying.{after_is, stands_there}
use Rattle.law_queues.specs.standing_fronts.Reaching.{Reaches, ReleaseLeavesTails}

pub release_leaves_tails : ReleaseLeavesTails
release_leaves_tails parts p order out t y x s k whole i z c r =
    let n = 32 * x.queue in
    let m = 32 * z.queue in
    let goes = goes_of p.driver y in
    let there = stands_there parts p order out t y x s k whole i z r.stands in
    subst (λ (q : Parts). Reaches q.driver (without_those parts n goes m) (order m) (staying_of n goes out m) i z c) (sym (after_is p t y x k))
    (record {
      stands = there.0;
      within = fewer_within parts n goes (order m) m c r.within;
      tail = subst (λ (f : ℕ). HasTail (order m) c f m (without_those parts n goes m)) (sym there.1) (fewer_tail parts n goes (order m) m c r.stands.front r.tail);
    })
