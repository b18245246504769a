-- An endpoint with a transfer isn't one whose open is unfinished.
use Rattle.std.proofs.Common.{◌≡◌, ◌≢◌, ℕ, ◌||◌, false, List, slice_get, Option, Some, None, ap, refl, sym, ◌∙◌, ⊎_elim}
use Rattle.std.proofs.lemmas.Bool.{cases_eq}
use Rattle.law_world.proofs.Common.{same_queue}
use Rattle.law_reports.proofs.Common.{none_opens}
use Rattle.drv_table.specs.declared.content.Command.{Command}
use Rattle.drv_table.specs.declared.content.Command.TheVariants as unfinished
use Rattle.drv_table.specs.declared.content.Endpoint.{Endpoint}
use Rattle.drv_table.specs.declared.content.Transfer.{Transfer}
use Rattle.drv_table.specs.DriverContent.{DriverContent}
use Rattle.drv_table.specs.Kinds.{is_iso}
use Rattle.claims_driver.specs.Leaving.{HasOwners}
use Rattle.claims_driver.specs.Owners.{is_descriptor}
use Rattle.law_driver.specs.queued_drivers.Queued.{with_queue, queued, queued_command}
use Rattle.law_driver.proofs.lemmas.queued_drivers.RowLists.{queue_at, moves_at}
use Rattle.law_driver.proofs.lemmas.queued_drivers.RowOwners.{queued_has_owners}
use Rattle.law_driver.proofs.lemmas.ring_members.Placed.{has_queue, in_ring_alive, queues_apart}
use Rattle.law_queues.specs.open_laws.Lends.{IsOpenReady}
use Rattle.law_queues.specs.open_laws.Opens.{IsOpenLent}
use Rattle.law_queues.specs.open_laws.Queues.{IsOpenToLend, IsOpenThere}
use Rattle.bus_world.specs.World.{World}
use Rattle.law_world.specs.memory.Mixed.{IsChainToLend, IsChainThere, IsUnderWay, Standing, IsMixedAt}
use Rattle.law_world.proofs.lemmas.memory.ChainReady.{to_lend}
use Rattle.law_world.proofs.lemmas.memory.QueueViews.{told_queue}

-- a new endpoint, to which these belong: its queue head, and no transfer
record IsNewOf (d : DriverContent) (queue : ℕ) : Type 0 where
  number : ℕ
  endpoint : Endpoint
  here : slice_get d.endpoints number ≡ Some endpoint
  alive : is_iso endpoint.desc.kind || endpoint.gone ≡ false
  its : endpoint.queue ≡ queue
  none : (t : ℕ) (y : Transfer) → slice_get d.transfers t ≡ Some y → y.endpoint ≢ number

other_queue : (d : DriverContent) (e t : ℕ) (x : Endpoint) (y : Transfer) (queue : ℕ) → HasOwners d → slice_get d.endpoints e ≡ Some x
    → is_iso x.desc.kind || x.gone ≡ false → slice_get d.transfers t ≡ Some y → y.endpoint ≡ e → IsNewOf d queue → x.queue ≡ queue → ⊥
other_queue d e t x y queue owners here alive at own k same =
    ⊎_elim (λ (one : e ≡ k.number). k.none t y at (own ∙ one))
    (λ (differs : e ≢ k.number). queues_apart d e k.number x k.endpoint owners here alive k.here k.alive differs (same ∙ sym k.its))
    (cases_eq e k.number)

publish_opens : {b q : ℕ} {words : List ℕ} → ◌≡◌ {A = Option Command} (Some (unfinished.Publish b words)) (Some (unfinished.Open q)) → ⊥
publish_opens same = cc

unlink_opens : {e b link q : ℕ} → ◌≡◌ {A = Option Command} (Some (unfinished.Unlink e b link)) (Some (unfinished.Open q)) → ⊥
unlink_opens same = cc

module _ (s : Standing) (w : World) (mixed : IsMixedAt s w) (e : ℕ) (x : Endpoint) (here : slice_get w.driver.endpoints e ≡ Some x)
    (iso : is_iso x.desc.kind ≡ false) (kept : x.gone ≡ false) (t : ℕ) (y : Transfer) (at : slice_get w.driver.transfers t ≡ Some y)
    (own : y.endpoint ≡ e) (sort : is_descriptor y.sort ≡ false) where
  abbrev d : DriverContent
  d = w.driver

  owners : HasOwners w.driver
  owners = mixed.now.framed.place.sound.owners

  -- as the driver has it, and as its queues tell it
  real_none : (queue : ℕ) → IsNewOf w.driver queue → x.queue ≡ queue → ⊥
  real_none queue = other_queue w.driver e t x y queue owners here (has_queue x iso kept) at own

  told_none : (queue : ℕ) → IsNewOf (queued w.driver) queue → x.queue ≡ queue → ⊥
  told_none queue =
      other_queue (queued w.driver) e t (with_queue x) y queue (queued_has_owners w.driver owners mixed.turns)
      (queue_at w.driver.endpoints e x here iso) (has_queue (with_queue x) (told_queue x) kept)
      (moves_at w.driver.endpoints w.driver.transfers t y at sort) own

  abbrev Opens : Option Command → Type 0
  Opens c = queued_command w.driver.endpoints c ≡ Some (unfinished.Open x.queue)

  not_by : (c : Option Command) → w.driver.command ≡ c → IsUnderWay w.driver w.memory s.member s.recent s.parts c → Opens c → ⊥
  not_by (Some (unfinished.Open queue)) is u opening =
      ⊎_elim
      (λ (r : IsOpenReady w.driver w.memory).
      real_none queue (record {
        number = r.number;
        endpoint = r.endpoint;
        here = r.here;
        alive = in_ring_alive w.driver r.number r.endpoint owners.orderly r.here r.fresh;
        its = same_queue r.endpoint.queue queue (sym r.command ∙ is);
        none = r.none;
      }) (same_queue x.queue queue (sym opening)))
      (λ (l : IsOpenLent w.driver s.member s.parts).
      real_none queue (record {
        number = l.number;
        endpoint = l.endpoint;
        here = l.here;
        alive = in_ring_alive w.driver l.number l.endpoint owners.orderly l.here l.fresh;
        its = same_queue l.endpoint.queue queue (sym l.command ∙ is);
        none = l.none;
      }) (same_queue x.queue queue (sym opening))) u
  not_by (Some unfinished.Chain) is u opening =
      let command : (queued w.driver).command ≡ Some (unfinished.Open x.queue) = ap (queued_command d.endpoints) is ∙ opening in
      let told : HasOwners (queued w.driver) = queued_has_owners w.driver owners mixed.turns in
      ⊎_elim
      (λ (c : IsChainToLend w.driver w.memory).
      let k : IsOpenToLend (queued w.driver) w.memory = to_lend w.driver w.memory owners c.ready c.newest in
      told_none x.queue (record {
        number = k.number;
        endpoint = k.endpoint;
        here = k.here;
        alive = in_ring_alive (queued w.driver) k.number k.endpoint told.orderly k.here k.fresh;
        its = same_queue k.endpoint.queue x.queue (sym k.command ∙ command);
        none = k.none;
      }) refl)
      (λ (c : IsChainThere w.driver s.member s.recent s.parts).
      let k : IsOpenThere (queued w.driver) s.parts = c.there in
      told_none x.queue (record {
        number = k.number;
        endpoint = k.endpoint;
        here = k.here;
        alive = in_ring_alive (queued w.driver) k.number k.endpoint told.orderly k.here k.fresh;
        its = same_queue k.endpoint.queue x.queue (sym k.command ∙ command);
        none = k.none;
      }) refl) u
  not_by (Some (unfinished.Publish b words)) is u opening = publish_opens opening
  not_by (Some (unfinished.Unlink f b link)) is u opening = unlink_opens opening
  not_by (Some (unfinished.Iso f c count)) is u opening = none_opens opening
  not_by (Some (unfinished.Unchain f)) is u opening = none_opens opening
  not_by None is u opening = none_opens opening

  pub not_opening : (queued w.driver).command ≢ Some (unfinished.Open x.queue)
  not_opening opening = not_by w.driver.command refl mixed.under_way opening
