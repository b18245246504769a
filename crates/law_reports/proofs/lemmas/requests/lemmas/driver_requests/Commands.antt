-- What is accepted without a transfer leaves the requests of an endpoint; chained transfers have qTDs.
use Rattle.std.proofs.Common.{ℕ, true, None, option_map, ap, sym, subst, refl}
use Rattle.law_common.proofs.Lists.{still_there}
use Rattle.word_mem.specs.Memory.{Mem}
use Rattle.drv_table.specs.DriverContent.{DriverContent}
use Rattle.drv_table.specs.Accepting.{Offered}
use Rattle.drv_table.specs.CancelOffers.{accepted_cancel, first_end}
use Rattle.law_driver.specs.run_owners.Accepts.{Opens, Cancels}
use Rattle.claims_driver.specs.Owners.{runs_of_transfer, views_of}
use Rattle.law_driver.specs.chained_transfers.Chains.{AreChained}
use Rattle.law_reports.specs.requests.driver_requests.Requests.{HaveQtds}
use Rattle.law_reports.specs.requests.driver_requests.Rows.{KeepsRequests}
use Rattle.law_reports.proofs.lemmas.requests.lemmas.driver_requests.Rows.{endpoint_set, keeps}

pub open_keeps_requests : (d : DriverContent) (m : Mem) (o : Offered) (i : ℕ) → Opens d m o → KeepsRequests None d o.driver i
open_keeps_requests d m o i why =
    subst (λ (g : Offered). KeepsRequests None d g.driver i) (sym why.is) (record {
      endpoint = λ x here. record { own = x; here = still_there d.endpoints _ i x here; desc = refl; queue = refl; gone = refl };
      transfers = λ t y there of. record { own = y; here = there; endpoint = refl; sort = refl; first = refl; qtds = refl; held = λ other. refl };
      notes = λ t b y there of held piece. refl;
    })

pub cancel_keeps_requests : (d : DriverContent) (m : Mem) (o : Offered) (i : ℕ) → Cancels d m o → KeepsRequests None d o.driver i
cancel_keeps_requests d m o i why =
    let x = why.endpoint in
    let e = accepted_cancel d why.number x in
    subst (λ (g : Offered). KeepsRequests None d g.driver i) (sym why.is)
    (keeps None d e i (endpoint_set d e why.number x (record x { cancelled = true; ended = first_end x.ended }) why.here refl refl refl refl))

pub chained_have_qtds : (d : DriverContent) → AreChained (views_of d) → HaveQtds d
chained_have_qtds d chained t y here sort held = chained.some t (runs_of_transfer y) (ap (option_map runs_of_transfer) here) held
