-- An accepted open.
use Rattle.std.proofs.Common.{◌≡◌, ◌≢◌, ℕ, length, get_or, slice_get, Some, refl, sym, subst, arith}
use Rattle.law_common.proofs.Lists.{pushed_last}
use Rattle.drv_table.specs.declared.content.Endpoint.{Endpoint}
use Rattle.drv_table.specs.declared.content.Transfer.{Transfer}
use Rattle.drv_table.specs.DriverContent.{DriverContent}
use Rattle.drv_table.specs.Words.{queue_head}
use Rattle.drv_table.specs.Accepting.{Offered, new_runs, newest_of}
use Rattle.drv_table.specs.Offers.{new_endpoint, accepted_open}
use Rattle.claims_driver.specs.Owners.{runs_of_endpoint}
use Rattle.claims_driver.specs.Leaving.{HasOwners}
use Rattle.law_driver_ring.specs.LendOpened.{IsOpened, opened_runs, opened_head}
use Rattle.law_driver_ring.proofs.Ready.{open_is_ready}
use Rattle.law_driver_ring.proofs.Beside.{opened_stays}
use Rattle.law_queues.specs.open_laws.Lends.{IsOpenReady}
use Rattle.law_queues.specs.open_laws.Accepted.{OpenBecomesReady, ReadyStays}

none_new : (d : DriverContent) → HasOwners d → (t : ℕ) (y : Transfer) → slice_get d.transfers t ≡ Some y → y.endpoint ≢ length d.endpoints
none_new d owners t y there same = let below = owners.orderly.within t y there in omega (arith, below, same)

pub open_becomes_ready : OpenBecomesReady
open_becomes_ready m d o why owners lent stands shape range =
    let g = why.holding_after in
    let queue : ℕ = get_or (new_runs d g) 0 0 in
    let dummy : ℕ = get_or (new_runs d g) 1 0 in
    let x : Endpoint = new_endpoint why.desc queue dummy in
    let opened : IsOpened (accepted_open d why.desc g queue dummy).driver (accepted_open d why.desc g queue dummy).memory (length d.endpoints) (opened_runs d why.desc g) (opened_head d why.desc g) =
    subst (λ (f : Offered). IsOpened f.driver f.memory (length d.endpoints) (opened_runs d why.desc g) (opened_head d why.desc g)) why.is (open_is_ready m d o why owners lent stands shape range) in
    let ready : IsOpenReady (accepted_open d why.desc g queue dummy).driver (accepted_open d why.desc g queue dummy).memory = record {
      number = length d.endpoints;
      endpoint = x;
      here = pushed_last d.endpoints x;
      command = refl;
      made = refl;
      fresh = refl;
      none = none_new d owners;
      link = newest_of d.endpoints;
      opened = opened;
    } in
    subst (λ (f : Offered). IsOpenReady f.driver f.memory) (sym why.is) ready

pub ready_stays : ReadyStays
ready_stays d m new owners stands same k = record {
  number = k.number;
  endpoint = k.endpoint;
  here = k.here;
  command = k.command;
  made = k.made;
  fresh = k.fresh;
  none = k.none;
  link = k.link;
  opened = opened_stays d m new k.number (runs_of_endpoint k.endpoint) (queue_head k.endpoint.desc k.link k.endpoint.dummy) k.opened owners stands same;
}
