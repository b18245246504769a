-- The requests of the queue heads are the transfers of which the recorder's law speaks.
use Rattle.std.proofs.Common.{◌≡◌, ◌≢◌, ℕ, ◌*◌, ◌+◌, ◌<◌, ◌≤◌, Bool, true, false, slice_get, Some, None, option_map, ap, sym, ◌∙◌, refl, ⊎_elim, arith}
use Rattle.std.proofs.lemmas.Bool.{cases_eq, cases_lt, true≢false}
use Rattle.std.proofs.lemmas.Option.{same_Some}
use Rattle.law_reports.proofs.Common.{of_transfer}
use Rattle.qh_qtd.specs.declared.qtd.Qtd.{Qtd}
use Rattle.drv_table.specs.declared.content.Endpoint.{Endpoint as DriverEndpoint}
use Rattle.drv_table.specs.declared.content.Transfer.{Transfer}
use Rattle.drv_table.specs.DriverContent.{DriverContent}
use Rattle.claims_driver.specs.Owners.{views_of}
use Rattle.claims_driver.specs.Leaving.{HasOwners}
use Rattle.law_structures.specs.lent_structures.Structures.{Element, StructureSets}
use Rattle.law_driver_ring.specs.Inventory.{sort_of, sorts_of, OfElement, IsDriven}
use Rattle.law_devices.specs.ring_requests.Windows.{Queue, Lines, AreSent}
use Rattle.claims_world.specs.Requests.{setup_at}
use Rattle.law_reports.specs.requests.world_requests.Recording.{IsFound, IsNoSetup, AreFound, AreTransfers}
use Rattle.law_reports.specs.requests.driver_requests.Requests.{AreOfDriver, HaveQtds, AreUnderWay}
use Rattle.law_reports.proofs.lemmas.requests.lemmas.driver_requests.Finding.{setup_is}
use Rattle.law_reports.proofs.lemmas.requests.lemmas.driver_requests.Owning.{IsQtdAt, status_place, data_place, laid_setup, laid_beside, nobody_there, same_queue}

one_each : (number : ℕ → ℕ) (count i k : ℕ) → ((j l : ℕ) → j < l → l < count → number j < number l) → i < count → k < count → number i ≡ number k → i ≡ k
one_each number count i k rising few less same =
    ⊎_elim {C = i ≡ k} (λ (is : i ≡ k). is)
    (λ (differs : i ≢ k).
    absurd (⊎_elim {C = ⊥} (λ (low : i < k). let up = rising i k low less in omega (arith, up, same))
    (λ (high : k ≤ i). let up = rising k i (omega (arith, high, differs)) few in omega (arith, up, same)) (cases_lt i k)))
    (cases_eq i k)

module _ (d : DriverContent) (member windows : ℕ → Bool) (sent : ℕ → Queue) (lines : ℕ → Lines) (endpoint : ℕ → ℕ) (number : ℕ → ℕ → ℕ) (has : HasOwners d) (some : HaveQtds d) (apart : AreSent member windows sent) (are : AreOfDriver d windows sent lines endpoint number) where
  pub found_each : (n i : ℕ) → windows n ≡ true → (lines n).under ≤ i → i < (sent n).count → IsFound d (sent n) (number n) i
  found_each n i on after few =
      let v = sent n in
      let k = are n on in
      let laid = k.laid i after few in
      let x = v.places i in
      let places = apart.places n i on few in
      record {
        setup = laid_setup d has some (endpoint n) (number n i) (v.requests i) x (k.transfers i few) laid;
        data_at =
            ⊎_elim {C = setup_at d x.data_at ≡ None} (λ (at : x.data_at ≡ 32 * laid.own.first + 1). nobody_there d has some laid.own.first x.data_at at)
            (λ (q : IsQtdAt d laid.own x.data_at). laid_beside d has some (number n i) (v.requests i) x x.data_at laid q places.setup_data)
            (data_place d (number n i) (v.requests i) x laid);
        status = laid_beside d has some (number n i) (v.requests i) x x.status laid (status_place d (number n i) (v.requests i) x laid) places.setup_status;
      }

  module _ (parts : StructureSets) (driven : IsDriven (views_of d) (sorts_of parts)) where
    none_beside : (n k a : ℕ) (t : Qtd) → windows n ≡ true → windows k ≡ false → parts k a ≡ Some (Element t) → IsNoSetup d (endpoint n) a
    none_beside n k a t on off here u begins of =
        let s = setup_is d a u begins in
        let e : s.own.endpoint ≡ endpoint n = same_Some s.own.endpoint (endpoint n) (sym (ap (option_map (λ (y : Transfer). y.endpoint)) s.here) ∙ of) in
        let same : k ≡ n =
        same_queue d has some (endpoint n) n u (sent n).endpoint (are n on).endpoint k a OfElement refl (driven.only k a OfElement (ap (option_map sort_of) here)) s e in
        true≢false (sym on ∙ ap windows (sym same) ∙ off)

    told : AreUnderWay windows sent lines → AreTransfers d windows sent lines parts endpoint number
    told way = record {
      named = λ n on. let k = (are n on).endpoint in record { own = k.own; here = k.here; address = k.address; number = k.number };
      apart = λ n k on other same.
          let one = (are n on).endpoint in
          let two = (are k other).endpoint in
          let own : one.own ≡ two.own = same_Some one.own two.own (sym one.here ∙ ap (slice_get d.endpoints) same ∙ two.here) in
          one.queue ∙ ap (λ (x : DriverEndpoint). 32 * x.queue) own ∙ sym two.queue;
      are = λ n i on few. of_transfer d (endpoint n) (number n i) ((are n on).transfers i few);
      own = λ n i k on few less same. one_each (number n) (sent n).count i k (are n on).rising few less same;
      setup = λ n on. (found_each n (lines n).under on (omega arith) (way n on)).setup;
      data_at = λ n on. (found_each n (lines n).under on (omega arith) (way n on)).data_at;
      status = λ n on. (found_each n (lines n).under on (omega arith) (way n on)).status;
      others = none_beside;
    }

pub transfers_are_told : (d : DriverContent) (member windows : ℕ → Bool) (sent : ℕ → Queue) (lines : ℕ → Lines) (parts : StructureSets) (endpoint : ℕ → ℕ) (number : ℕ → ℕ → ℕ) → HasOwners d → HaveQtds d
    → IsDriven (views_of d) (sorts_of parts) → AreSent member windows sent → AreUnderWay windows sent lines → AreOfDriver d windows sent lines endpoint number → AreTransfers d windows sent lines parts endpoint number
transfers_are_told d member windows sent lines parts endpoint number has some driven apart way are = told d member windows sent lines endpoint number has some apart are parts driven way

pub requests_are_found : (d : DriverContent) (member windows : ℕ → Bool) (sent : ℕ → Queue) (lines : ℕ → Lines) (endpoint : ℕ → ℕ) (number : ℕ → ℕ → ℕ) → HasOwners d → HaveQtds d
    → AreSent member windows sent → AreOfDriver d windows sent lines endpoint number → AreFound d windows sent lines number
requests_are_found d member windows sent lines endpoint number has some apart are n i on after few = found_each d member windows sent lines endpoint number has some apart are n i on after few
