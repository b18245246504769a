-- What the row leaves of a driver over a ring.
use Rattle.std.proofs.Common.{◌≡◌, Option, Some, ap, refl, sym, subst}
use Rattle.mem_runs.specs.Book.{holding}
use Rattle.drv_table.specs.declared.content.Transfer.{Transfer}
use Rattle.drv_table.specs.DriverContent.{DriverContent}
use Rattle.drv_table.specs.Parts.{Parts as DriverParts}
use Rattle.drv_table.specs.Releases.{freed_by, after_transfer}
use Rattle.drv_table.specs.Rows.{after_driver_row}
use Rattle.claims_driver.specs.Owners.{runs_of_endpoint}
use Rattle.law_driver_ring.specs.Released.{release_row}
use Rattle.law_driver_ring.proofs.Releasing.{release_drives}
use Rattle.law_driver_ring.specs.fed_queues.Places.{AreMet, HaveStreams}
use Rattle.law_queues.specs.released_queues.Released.{ReleaseFeeds, ReleaseKeepsMet}
use Rattle.law_driver_ring.proofs.lemmas.fed_queues.Places.{SameQueues, same_ends, met_stays, streams_stay}
use Rattle.law_queues.proofs.lemmas.released_queues.Queues.{told_of, part_of}
use Rattle.law_queues.proofs.lemmas.released_queues.Staying.{release_stays}

pub release_feeds : ReleaseFeeds
release_feeds base member parts hand w p order out t y x s k =
    let r = release_stays parts p order out t y x (told_of base member parts hand w p order out s) k (part_of base member parts hand w p order out t y x s k) in
    record {
      drives = (release_drives base member parts hand w p t y (runs_of_endpoint x) s.drives s.owners s.stands s.in_runs r.to_go (λ on q here. r.may_go q here)).0;
      in_runs = r.in_runs;
      fed = r.fed;
      last = r.last;
      still_out = r.still_out;
      fronts = r.fronts;
      head = r.head;
      buffers = r.buffers;
      untold = r.untold hand;
    }

pub release_keeps_met : ReleaseKeepsMet
release_keeps_met p t y member streams ends here met have =
    let d : DriverContent = (after_transfer p t (Some y) (freed_by p.driver (holding p.driver.book p.memory) (Some y))).driver in
    let row_is : after_driver_row (release_row t) p ≡ after_transfer p t (Some y) (freed_by p.driver (holding p.driver.book p.memory) (Some y)) =
    ap (λ (o : Option Transfer). after_transfer p t o (freed_by p.driver (holding p.driver.book p.memory) o)) here in
    let same : SameQueues p.driver d = same_ends p.driver d (record { waiting = refl; rung = refl; opens = λ c is. is }) (record { waiting = refl; rung = refl; opens = λ c is. is }) refl in
    subst (λ (q : DriverParts). AreMet q.driver member × HaveStreams q.driver streams ends) (sym row_is) (met_stays p.driver d member same met, streams_stay p.driver d streams ends same have)
