-- What is owed after each row of the driver but a harvest.
use Rattle.std.proofs.Common.{◌≡◌, ◌≢◌, ℕ, ◌*◌, false, List, [], ◌++◌, slice_get, Option, Some, ap, refl, sym, subst, ◌∙◌, ⊎_elim}
use Rattle.std.specs.List.{concat}
use Rattle.law_queues.proofs.Common.{none_open}
use Rattle.law_common.proofs.Lists.{none_there}
use Rattle.law_world.proofs.Common.{framed_same}
use Rattle.mem_runs.specs.Book.{holding, lend_taken}
use Rattle.drv_table.specs.declared.content.Command.TheVariants as unfinished
use Rattle.drv_table.specs.declared.content.Endpoint.{Endpoint}
use Rattle.drv_table.specs.declared.content.Transfer.{Transfer}
use Rattle.drv_table.specs.declared.rows.DriverRow.{DriverRow}
use Rattle.drv_table.specs.declared.rows.DriverRow.TheVariants as rows
use Rattle.drv_table.specs.declared.rows.Found.{Found}
use Rattle.drv_table.specs.DriverContent.{DriverContent}
use Rattle.drv_table.specs.Parts.{Parts}
use Rattle.drv_table.specs.Commands.{advance}
use Rattle.drv_table.specs.FrameChoice.{linked_by}
use Rattle.drv_table.specs.Releases.{freed_by, after_transfer}
use Rattle.drv_table.specs.Rows.{driver_row, after_driver_row}
use Rattle.law_driver.specs.endpoint_lives.Lives.{told_end}
use Rattle.law_driver.specs.run_owners.Due.{IsDue, IsTransferDue}
use Rattle.claims_driver.specs.Leaving.{HasOwners}
use Rattle.law_driver.proofs.lemmas.run_owners.Reasons.{each_event_is_due}
use Rattle.law_driver.specs.chained_transfers.Bulk.{IsBulkCommand}
use Rattle.law_driver.specs.chained_transfers.Asynchronous.{OnlyAsynchronous}
use Rattle.law_driver.specs.chained_transfers.AsynchronousTurns.{AsynchronousTakesTurns}
use Rattle.law_driver.proofs.lemmas.chained_transfers.Events.{first_owed}
use Rattle.law_driver.proofs.lemmas.chained_transfers.Rows.{left, advanced_or_left, set_which}
use Rattle.law_driver_ring.specs.fed_queues.Places.{IsThere}
use Rattle.law_world.specs.streams.put_laws.HeldPuts.{HoldsPuts}
use Rattle.law_world.specs.streams.put_laws.TakenPuts.{puts_of}
use Rattle.law_world.specs.streams.put_laws.Owed.{rest_of, Owes}
use Rattle.law_world.specs.streams.put_laws.OwedLaws.{DriverOwes}
use Rattle.law_world.proofs.lemmas.streams.lemmas.put_laws.Rests.{prefix_of}
use Rattle.law_world.proofs.lemmas.streams.lemmas.put_laws.Same.{idle_there, WasEnd, WereEnds, ends_same, TellsLike, same_owes, gone_owes}

-- ---- contents that tell the same, and open nothing more

pub record IsNoMore (d f : DriverContent) : Type 0 where
  pub alike : TellsLike d f
  pub opens : (q : ℕ) → f.command ≡ Some (unfinished.Open q) → d.command ≡ Some (unfinished.Open q)

pub no_more_itself : (d : DriverContent) → IsNoMore d d
no_more_itself d = record { alike = record { ends = ends_same d d refl; transfers = refl; notes = refl }; opens = λ q is. is }

-- an endpoint that leaves the ring tells the same
left_ends : (d f : DriverContent) (e : ℕ) (x : Endpoint) → slice_get f.endpoints e ≡ Some x → WereEnds d f → WereEnds d (left f e x)
left_ends d f e x here were i z there =
    ⊎_elim
    (λ (own : (i ≡ e) × (z ≡ record x { linked = false })).
    let w : WasEnd d e x = were e x here in
    record {
      endpoint = w.endpoint;
      here = ap (slice_get d.endpoints) own.0 ∙ w.here;
      queue = ap (λ (r : Endpoint). r.queue) own.1 ∙ w.queue;
      desc = ap (λ (r : Endpoint). r.desc) own.1 ∙ w.desc;
      gone = ap (λ (r : Endpoint). r.gone) own.1 ∙ w.gone;
      ends = ap (λ (r : Endpoint). told_end r) own.1 ∙ w.ends;
    })
    (λ (other : slice_get f.endpoints i ≡ Some z). were i z other) (set_which f.endpoints e i x (record x { linked = false }) z here there)

pub advanced_no_more : (d f : DriverContent) → IsBulkCommand f.command → IsNoMore d f → IsNoMore d (advance f)
advanced_no_more d f bulk k =
    advanced_or_left (IsNoMore d) f f.command bulk k (record { alike = record { ends = k.alike.ends; transfers = k.alike.transfers; notes = k.alike.notes }; opens = λ q is. k.opens q is })
    (record { alike = record { ends = k.alike.ends; transfers = k.alike.transfers; notes = k.alike.notes }; opens = λ q is. absurd (none_open q is) })
    (λ e x leaves here. record { alike = record { ends = left_ends d f e x here k.alike.ends; transfers = k.alike.transfers; notes = k.alike.notes }; opens = λ q is. absurd (none_open q is) })

pub quiet_no_more : (d f : DriverContent) → f.endpoints ≡ d.endpoints → f.transfers ≡ d.transfers → f.notes ≡ d.notes → f.command ≡ d.command → IsNoMore d f
quiet_no_more d f endpoints transfers notes command = record { alike = record { ends = ends_same d f endpoints; transfers = transfers; notes = notes }; opens = λ q is. sym command ∙ is }

-- each row but a harvest, and but one that gives something back, tells the same
pub row_no_more : (p : Parts) (row : DriverRow) → IsDue p row → OnlyAsynchronous p.driver → ((e t : ℕ) (found : Found) → row ≢ rows.Harvest e t found) → ((t : ℕ) → row ≢ rows.ReleaseTransfer t) → ((e : ℕ) → row ≢ rows.ReleaseEndpoint e) → IsNoMore p.driver (after_driver_row row p).driver
row_no_more p rows.Lend due bulk harvest release endpoint =
    advanced_no_more p.driver (record p.driver { book = (lend_taken (holding p.driver.book p.memory)).book }) bulk.command (quiet_no_more p.driver _ refl refl refl refl)
row_no_more p (rows.Store b at v) due bulk harvest release endpoint = advanced_no_more p.driver p.driver bulk.command (no_more_itself p.driver)
row_no_more p rows.Frames due bulk harvest release endpoint =
    subst (IsNoMore p.driver) (sym (framed_same p.driver p.registers.frame_index p.driver.command bulk.command)) (no_more_itself p.driver)
row_no_more p rows.LendDescriptors due bulk harvest release endpoint =
    advanced_no_more p.driver (record p.driver { book = (lend_taken (holding p.driver.book (linked_by p.driver p.memory p.driver.command))).book }) bulk.command (quiet_no_more p.driver _ refl refl refl refl)
row_no_more p (rows.Unlink t) due bulk harvest release endpoint = absurd (none_there p.driver.periodic.unlinks t bulk.unlinks due.first)
row_no_more p (rows.ReleaseRemoved what) due bulk harvest release endpoint = absurd (none_there p.driver.periodic.removals due.removal bulk.removals due.first)
row_no_more p (rows.ReleaseTransfer t) due bulk harvest release endpoint = absurd (release t refl)
row_no_more p (rows.ReleaseEndpoint e) due bulk harvest release endpoint = absurd (endpoint e refl)
row_no_more p (rows.Harvest e t found) due bulk harvest release endpoint = absurd (harvest e t found refl)
row_no_more p rows.Rest due bulk harvest release endpoint = no_more_itself p.driver
row_no_more p _ due bulk harvest release endpoint = quiet_no_more p.driver _ refl refl refl refl

-- ---- the law

module _ (p : Parts) (puts reported told : ℕ → List ℕ) (owners : HasOwners p.driver) (turns : AsynchronousTakesTurns p.driver) (held : HoldsPuts p.driver p.memory puts) (owes : Owes p.driver p.memory puts reported) (met : (e : ℕ) (x : Endpoint) → slice_get p.driver.endpoints e ≡ Some x → IsThere p.driver x → told (32 * x.queue) ≡ reported (32 * x.queue)) where
  abbrev after : DriverRow → Parts
  after row = after_driver_row row p

  told_same : (row : DriverRow) → IsNoMore p.driver (after_driver_row row p).driver
      → ((e : ℕ) (x : Endpoint) → slice_get p.driver.endpoints e ≡ Some x → p.driver.command ≡ Some (unfinished.Open x.queue) → IsThere (after_driver_row row p).driver x → told (32 * x.queue) ≡ [])
      → HoldsPuts (after_driver_row row p).driver (after_driver_row row p).memory puts → Owes (after_driver_row row p).driver (after_driver_row row p).memory puts told
  told_same row k opened still =
      same_owes p.driver (after row).driver p.memory (after row).memory puts puts reported told turns k.alike (λ t low. refl) held still (λ e x here meets before. met e x here before)
      (λ e x here meets at_open. opened e x here at_open meets) (λ x is. k.opens x.queue is) owes

  -- the endpoints and the command stay
  told_released : (t : ℕ) → IsTransferDue p t → HoldsPuts (after_driver_row (rows.ReleaseTransfer t) p).driver (after_driver_row (rows.ReleaseTransfer t) p).memory puts
      → Owes (after_driver_row (rows.ReleaseTransfer t) p).driver (after_driver_row (rows.ReleaseTransfer t) p).memory puts told
  told_released t due still =
      let o = first_owed p.driver t due.first owners.orderly in
      let row_is : (after (rows.ReleaseTransfer t)).driver ≡ (after_transfer p t (Some o.transfer) (freed_by p.driver (holding p.driver.book p.memory) (Some o.transfer))).driver =
      ap (λ (q : Option Transfer). (after_transfer p t q (freed_by p.driver (holding p.driver.book p.memory) q)).driver) o.there in
      let gone : Owes (after (rows.ReleaseTransfer t)).driver (after (rows.ReleaseTransfer t)).memory puts reported =
      gone_owes p.driver (after (rows.ReleaseTransfer t)).driver p.memory (after (rows.ReleaseTransfer t)).memory t o.transfer puts reported turns o.there o.reported
      (ap (λ (f : DriverContent). f.endpoints) row_is) (ap (λ (f : DriverContent). f.transfers) row_is) (ap (λ (f : DriverContent). f.notes) row_is) (ap (λ (f : DriverContent). f.command) row_is) held still owes in
      let same : (e : ℕ) (x : Endpoint) → slice_get (after (rows.ReleaseTransfer t)).driver.endpoints e ≡ Some x → x.gone ≡ false → told (32 * x.queue) ≡ reported (32 * x.queue) =
      (λ e x here alive. met e x (ap (λ (f : DriverContent). slice_get f.endpoints e) (sym row_is) ∙ here) (idle_there p.driver due.idle x alive)) in
      record {
        going = λ e x here meets sends goes. ap (λ (bs : List ℕ). bs ++ rest_of (after (rows.ReleaseTransfer t)).driver (after (rows.ReleaseTransfer t)).memory e) (same e x here meets.kept) ∙ gone.going e x here meets sends goes;
        over = λ e x cause here meets sends ends. prefix_of (told (32 * x.queue)) (reported (32 * x.queue)) (concat (puts_of (after (rows.ReleaseTransfer t)).driver puts e)) (same e x here meets.kept) (gone.over e x cause here meets sends ends);
        opening = gone.opening;
        last = gone.last;
      }

  by_row : (row : DriverRow) → IsDue p row → ((e t : ℕ) (found : Found) → row ≢ rows.Harvest e t found) → ((e : ℕ) → row ≢ rows.ReleaseEndpoint e)
      → ((e : ℕ) (x : Endpoint) → slice_get p.driver.endpoints e ≡ Some x → p.driver.command ≡ Some (unfinished.Open x.queue) → IsThere (after_driver_row row p).driver x → told (32 * x.queue) ≡ [])
      → HoldsPuts (after_driver_row row p).driver (after_driver_row row p).memory puts → Owes (after_driver_row row p).driver (after_driver_row row p).memory puts told
  by_row (rows.ReleaseTransfer t) due harvest endpoint opened still = told_released t due still
  by_row row due harvest endpoint opened still =
      told_same row (row_no_more p row due turns.asynchronous harvest (λ t is. cc) endpoint) opened still

pub driver_owes : DriverOwes
driver_owes p puts reported told owners turns harvest endpoint met opened held still owes = by_row p puts reported told owners turns held owes met (driver_row p) (each_event_is_due p) harvest endpoint opened still
