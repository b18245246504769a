-- A row of the driver, and a command, keep it that what was taken begins the puts.
use Rattle.std.proofs.Common.{false, ◌≡◌, ◌≢◌, ℕ, ◌==◌, true, if◌then◌else◌, List, [], ◌∷◌, ◌++◌, get_or, length, slice_get, Option, Some, ap, sym, ◌∙◌, ⊎_elim}
use Rattle.std.specs.Prelude.{◌⊎◌}
use Rattle.std.specs.List.{concat}
use Rattle.std.proofs.lemmas.Bool.{false≢true}
use Rattle.law_world.proofs.Common.{begins_all}
use Rattle.law_common.proofs.Lists.{push_which}
use Rattle.law_queues.proofs.Common.{last_one}
use Rattle.claims_base.specs.Prefix.{IsPrefix}
use Rattle.usb_base.specs.declared.commands.Cmd.{Cmd}
use Rattle.usb_base.specs.declared.commands.Cmd.TheVariants as commands
use Rattle.usb_base.specs.declared.endpoints.EpDesc.{EpDesc}
use Rattle.word_mem.specs.Memory.{Mem}
use Rattle.drv_table.specs.declared.content.Command.TheVariants as unfinished
use Rattle.drv_table.specs.declared.content.Endpoint.{Endpoint}
use Rattle.drv_table.specs.declared.content.Transfer.{Transfer}
use Rattle.drv_table.specs.DriverContent.{DriverContent}
use Rattle.drv_table.specs.Accepting.{Offered, new_runs}
use Rattle.drv_table.specs.Offers.{new_endpoint, new_transfer}
use Rattle.drv_table.specs.Rows.{driver_row, after_driver_row}
use Rattle.law_driver.specs.run_owners.Accepts.{Opens, Transfers, Cancels}
use Rattle.law_driver.specs.chained_transfers.Asynchronous.{AcceptsAsynchronous}
use Rattle.claims_driver.specs.Scripts.{receives}
use Rattle.law_driver.proofs.lemmas.chained_transfers.Accepting.{asynchronous_command_is_accepted}
use Rattle.law_driver_ring.specs.fed_queues.Places.{IsThere}
use Rattle.law_queues.proofs.lemmas.fed_lends.Asked.{set_which}
use Rattle.law_ring.specs.OutBus.{Taker}
use Rattle.law_world.specs.streams.put_laws.TakenPuts.{puts_from, puts_of}
use Rattle.law_world.proofs.lemmas.streams.lemmas.put_laws.Mapped.{mapped, was_mapped}
use Rattle.law_world.proofs.lemmas.streams.lemmas.put_laws.Stays.{desc_at, Stays, event_stays}
use Rattle.law_world.proofs.lemmas.streams.lemmas.put_laws.Sums.{puts_in, by_owners}
use Rattle.law_world.specs.streams.put_laws.OwedLaws.{KeepsPuts}
use Rattle.law_world.specs.streams.put_laws.OwedTaken.{TakenBegin, DriverKeepsTaken, CommandKeepsTaken}
use Rattle.law_world.proofs.lemmas.streams.lemmas.put_laws.Rests.{prefix_to, puts_kept, puts_push}
use Rattle.law_world.proofs.lemmas.streams.lemmas.put_laws.Same.{life_or, idle_life}

-- ---- a row of the driver

pub driver_taken : {W : Type 0} (taker : W → ℕ → ℕ → Option Taker) → DriverKeepsTaken taker
driver_taken taker p puts wire opened k e x s here life sends is =
    let f = (after_driver_row (driver_row p) p).driver in
    let stays : Stays p.driver f = event_stays p in
    let w = was_mapped desc_at p.driver.endpoints e x.desc (ap (λ (ds : List EpDesc). slice_get ds e) (sym stays.descs) ∙ mapped desc_at f.endpoints e x here) in
    let its = ap (λ (r : EpDesc). taker wire r.name.addr r.name.num) w.2 ∙ is in
    let out = ap (λ (r : EpDesc). receives r.name.way) w.2 ∙ sends in
    let same : concat (puts_of p.driver puts e) ≡ concat (puts_of f puts e) =
    ap concat (by_owners puts e 0 p.driver.transfers ∙ ap (puts_in puts e 0) (sym stays.owners) ∙ sym (by_owners puts e 0 f.transfers)) in
    ⊎_elim (λ (at_open : (p.driver.command ≡ Some (unfinished.Open w.0.queue)) × (w.0.gone ≡ false)). begins_all s.taken (concat (puts_of f puts e)) (opened e w.0 s w.1 at_open.0 at_open.1 out its))
    (λ (before : (w.0.gone ≡ true) ⊎ IsThere p.driver w.0). prefix_to s.taken (concat (puts_of p.driver puts e)) (concat (puts_of f puts e)) same (k e w.0 s w.1 before out its)) (life_or p.driver w.0)

-- ---- a command

module _ {W : Type 0} (taker : W → ℕ → ℕ → Option Taker) (d : DriverContent) (m : Mem) (o : Offered) (puts now : ℕ → List ℕ) (wire : W) (keeps : KeepsPuts d puts now) (k : TakenBegin taker d puts wire) where
  pub opened_taken : Opens d m o → TakenBegin taker o.driver now wire
  opened_taken w e x s here life sends is =
      let new : Endpoint = new_endpoint w.desc (get_or (new_runs d w.holding_after) 0 0) (get_or (new_runs d w.holding_after) 1 0) in
      let same : concat (puts_of o.driver now e) ≡ concat (puts_of d puts e) =
      ap (λ (g : Offered). concat (puts_from now e 0 g.driver.transfers)) w.is ∙ ap concat (puts_kept puts now e d.transfers keeps) in
      ⊎_elim (λ (was : slice_get d.endpoints e ≡ Some x).
      prefix_to s.taken (concat (puts_of d puts e)) (concat (puts_of o.driver now e)) (sym same) (k e x s was (idle_life d w.idle x) sends is))
      (λ (own : (e ≡ length d.endpoints) × (x ≡ new)).
      absurd
      (⊎_elim (λ (gone : x.gone ≡ true). false≢true (ap (λ (y : Endpoint). y.gone) (sym own.1) ∙ gone))
      (λ (there : IsThere o.driver x). there.linked (ap (λ (g : Offered). g.driver.command) w.is ∙ ap (λ (y : Endpoint). Some (unfinished.Open y.queue)) (sym own.1))) life))
      (push_which d.endpoints new e x (ap (λ (g : Offered). slice_get g.driver.endpoints e) (sym w.is) ∙ here))

  module _ (i : Transfers d m o) where
    abbrev added : Transfer
    added = new_transfer i.number i.asked i.endpoint.dummy

    transfers_are : o.driver.transfers ≡ d.transfers ++ added ∷ []
    transfers_are = ap (λ (g : Offered). g.driver.transfers) i.is

    puts_are : (e : ℕ) → concat (puts_of d puts e) ++ (if added.endpoint == e then now (length d.transfers) else []) ≡ concat (puts_of o.driver now e)
    puts_are e =
        sym (ap (λ (ts : List Transfer). concat (puts_from now e 0 ts)) transfers_are ∙ puts_push now e d.transfers added
        ∙ ap (λ (xs : List (List ℕ)). concat xs ++ (if added.endpoint == e then now (length d.transfers) else [])) (puts_kept puts now e d.transfers keeps))

    begins_more : (e : ℕ) (xs : List ℕ) → IsPrefix xs (concat (puts_of d puts e)) → IsPrefix xs (concat (puts_of o.driver now e))
    begins_more e xs begins =
        let more = if added.endpoint == e then now (length d.transfers) else [] in
        prefix_to xs (concat (puts_of d puts e) ++ more) (concat (puts_of o.driver now e)) (puts_are e) (last_one xs (concat (puts_of d puts e)) more begins)

    pub asked_taken : TakenBegin taker o.driver now wire
    asked_taken e x s here life sends is =
        let to : Endpoint = i.endpoint in
        ⊎_elim
        (λ (own : (e ≡ i.number) × (x ≡ _)).
        let desc : x.desc ≡ to.desc = ap (λ (z : Endpoint). z.desc) own.1 in
        begins_more e s.taken
        (k e to s (ap (slice_get d.endpoints) own.0 ∙ i.here) (idle_life d i.idle to) (ap (λ (r : EpDesc). receives r.name.way) (sym desc) ∙ sends) (ap (λ (r : EpDesc). taker wire r.name.addr r.name.num) (sym desc) ∙ is)))
        (λ (other : (e ≢ i.number) × (slice_get d.endpoints e ≡ Some x)). begins_more e s.taken (k e x s other.1 (idle_life d i.idle x) sends is))
        (set_which d.endpoints i.number e to _ x i.here (ap (λ (g : Offered). slice_get g.driver.endpoints e) (sym i.is) ∙ here))

  -- a cancel changes no transfer
  pub cancelled_taken : Cancels d m o → TakenBegin taker o.driver now wire
  cancelled_taken i e x s here life sends is =
      let same : concat (puts_of d puts e) ≡ concat (puts_of o.driver now e) =
      sym (ap (λ (g : Offered). concat (puts_from now e 0 g.driver.transfers)) i.is ∙ ap concat (puts_kept puts now e d.transfers keeps)) in
      ⊎_elim
      (λ (own : (e ≡ i.number) × (x ≡ _)).
      let desc : x.desc ≡ i.endpoint.desc = ap (λ (z : Endpoint). z.desc) own.1 in
      prefix_to s.taken (concat (puts_of d puts e)) (concat (puts_of o.driver now e)) same
      (k e i.endpoint s (ap (slice_get d.endpoints) own.0 ∙ i.here) (idle_life d i.idle i.endpoint) (ap (λ (r : EpDesc). receives r.name.way) (sym desc) ∙ sends) (ap (λ (r : EpDesc). taker wire r.name.addr r.name.num) (sym desc) ∙ is)))
      (λ (other : (e ≢ i.number) × (slice_get d.endpoints e ≡ Some x)). prefix_to s.taken (concat (puts_of d puts e)) (concat (puts_of o.driver now e)) same (k e x s other.1 (idle_life d i.idle x) sends is))
      (set_which d.endpoints i.number e i.endpoint _ x i.here (ap (λ (g : Offered). slice_get g.driver.endpoints e) (sym i.is) ∙ here))

  pub any_taken : (cmd : Cmd) → AcceptsAsynchronous d m o cmd → TakenBegin taker o.driver now wire
  any_taken (commands.OpenEp x) why = opened_taken why.opens
  any_taken (commands.Get name len by) why = asked_taken why.transfers
  any_taken (commands.Put name bytes by) why = asked_taken why.transfers
  any_taken (commands.Control name setup bytes) why = asked_taken why.transfers
  any_taken (commands.Cancel name) why = cancelled_taken why
  any_taken _ why = absurd why

pub command_taken : {W : Type 0} (taker : W → ℕ → ℕ → Option Taker) → CommandKeepsTaken taker
command_taken taker d m cmd o puts now wire turns only offer keeps k =
    any_taken taker d m o puts now wire keeps k cmd (asynchronous_command_is_accepted d m cmd o turns.asynchronous only offer)
