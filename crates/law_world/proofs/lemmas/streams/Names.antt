-- What is known of each endpoint's description stays known: no row changes one, and a command adds at most the one that it opens.
use Rattle.std.proofs.Common.{◌≡◌, ◌≢◌, ℕ, ◌-◌, Bool, false, List, length, get_or, take, slice_get, Option, Some, None, Ok, option_map, ap, refl, sym, subst, ◌∙◌, ⊎_elim}
use Rattle.std.proofs.lemmas.Option.{same_Some}
use Rattle.law_common.proofs.Lists.{push_which}
use Rattle.usb_base.specs.declared.commands.Cmd.{Cmd}
use Rattle.usb_base.specs.declared.commands.Cmd.TheVariants as commands
use Rattle.usb_base.specs.declared.endpoints.EpDesc.{EpDesc}
use Rattle.usb_base.specs.declared.packets.Way.TheVariants as ways
use Rattle.word_mem.specs.Memory.{Mem}
use Rattle.drv_table.specs.declared.content.Endpoint.{Endpoint}
use Rattle.drv_table.specs.declared.rows.DriverRow.{DriverRow}
use Rattle.drv_table.specs.DriverContent.{DriverContent}
use Rattle.drv_table.specs.Accepting.{Offered, new_runs}
use Rattle.drv_table.specs.Offers.{offered, new_endpoint, with_queued}
use Rattle.drv_table.specs.Parts.{Parts}
use Rattle.drv_table.specs.Rows.{after_driver_row}
use Rattle.law_driver.specs.run_owners.Accepts.{Opens, Transfers, Cancels}
use Rattle.law_driver_ring.proofs.lemmas.walk_members.Descriptions.{desc_of, row_left}
use Rattle.law_driver.specs.AsynchronousScripts.{OpensAsynchronous}
use Rattle.law_driver.specs.chained_transfers.Asynchronous.{AcceptsAsynchronous}
use Rattle.law_driver.specs.chained_transfers.AsynchronousTurns.{AsynchronousTakesTurns}
use Rattle.law_driver.proofs.lemmas.chained_transfers.Accepting.{asynchronous_command_is_accepted}
use Rattle.law_queues.proofs.lemmas.commanded_queues.Which.{opens_its_own}
use Rattle.law_queues.proofs.lemmas.fed_lends.Asked.{set_which}
use Rattle.law_queues.specs.leaving_drivers.Before.{WasSame}
use Rattle.law_queues.proofs.lemmas.leaving_drivers.Leaving.{cancel_is_as_before}
use Rattle.bus_world.specs.World.{World}
use Rattle.law_devices.specs.declared_controls.Names.{IsNameOf}
use Rattle.law_world.specs.streams.Feeding.{AreControlsApart}
use Rattle.law_world.specs.streams.Left.{AreNamed}
use Rattle.law_world.specs.streams.LeftLaws.{OpensNamed}
use Rattle.law_world.specs.streams.FeedingLaws.{OpensNoStream, OpensApart}

abbrev pub EachDescribed : (EpDesc → Type 0) → DriverContent → Type 0
EachDescribed P d = (e : ℕ) (z : Endpoint) → slice_get d.endpoints e ≡ Some z → P z.desc

-- where the endpoints are the same
pub same_described : (P : EpDesc → Type 0) (d f : DriverContent) → f.endpoints ≡ d.endpoints → EachDescribed P d → EachDescribed P f
same_described P d f ends old e z here = old e z (ap (λ (xs : List Endpoint). slice_get xs e) (sym ends) ∙ here)

-- ---- rows

at_row : (P : EpDesc → Type 0) (d : DriverContent) (e : ℕ) (z : Endpoint) (o : Option Endpoint) → slice_get d.endpoints e ≡ o → Some z.desc ≡ option_map desc_of o → EachDescribed P d → P z.desc
at_row P d e z None here is old = absurd (cc)
at_row P d e z (Some y) here is old = subst P (sym (same_Some z.desc y.desc is)) (old e y here)

pub row_described : (P : EpDesc → Type 0) (row : DriverRow) (p : Parts) → EachDescribed P p.driver → EachDescribed P (after_driver_row row p).driver
row_described P row p old e z here = at_row P p.driver e z (slice_get p.driver.endpoints e) refl (sym (ap (option_map desc_of) here) ∙ row_left row p e) old

-- ---- commands

module _ (P : EpDesc → Type 0) (d : DriverContent) (m : Mem) (o : Offered) (old : EachDescribed P d) where
  opened_described : (why : Opens d m o) → P why.desc → EachDescribed P o.driver
  opened_described w own e z here =
      let new : Endpoint = new_endpoint w.desc (get_or (new_runs d w.holding_after) 0 0) (get_or (new_runs d w.holding_after) 1 0) in
      ⊎_elim (λ (was : slice_get d.endpoints e ≡ Some z). old e z was)
      (λ (is : (e ≡ length d.endpoints) × (z ≡ new)). subst (λ (y : Endpoint). P y.desc) (sym is.1) own)
      (push_which d.endpoints new e z (ap (λ (p : Offered). slice_get p.driver.endpoints e) (sym w.is) ∙ here))

  moved_described : Transfers d m o → EachDescribed P o.driver
  moved_described w e z here =
      let queued : Endpoint = with_queued w.endpoint (get_or (take (length w.asked.stages) (new_runs d w.holding_after)) (length w.asked.stages - 1) 0) (length d.transfers) in
      ⊎_elim
      (λ (own : (e ≡ w.number) × (z ≡ queued)). subst (λ (y : Endpoint). P y.desc) (sym own.1) (old w.number w.endpoint w.here))
      (λ (other : (e ≢ w.number) × (slice_get d.endpoints e ≡ Some z)). old e z other.1)
      (set_which d.endpoints w.number e w.endpoint queued z w.here (ap (λ (p : Offered). slice_get p.driver.endpoints e) (sym w.is) ∙ here))

  cancelled_described : AsynchronousTakesTurns d → Cancels d m o → EachDescribed P o.driver
  cancelled_described turns why e z here =
      let w : WasSame d e z = (cancel_is_as_before d m o turns why).0.ends e z here in
      subst P (sym w.desc) (old e w.endpoint w.here)

  -- what an accepted command comes to
  accepted_described : (cmd : Cmd) → AsynchronousTakesTurns d → OpensAsynchronous cmd → offered d m cmd ≡ Ok o → ((desc : EpDesc) → cmd ≡ commands.OpenEp desc → P desc)
      → (like : Cmd) → AcceptsAsynchronous d m o like → EachDescribed P o.driver
  accepted_described cmd turns only is own (commands.OpenEp x) why = opened_described why.opens (own why.opens.desc (opens_its_own d m cmd o only is why.opens))
  accepted_described cmd turns only is own (commands.Get name len by) why = moved_described why.transfers
  accepted_described cmd turns only is own (commands.Put name bytes by) why = moved_described why.transfers
  accepted_described cmd turns only is own (commands.Control name setup bytes) why = moved_described why.transfers
  accepted_described cmd turns only is own (commands.Cancel name) why = cancelled_described turns why
  accepted_described cmd turns only is own _ why = absurd why

  pub command_described : (cmd : Cmd) → AsynchronousTakesTurns d → OpensAsynchronous cmd → offered d m cmd ≡ Ok o → ((desc : EpDesc) → cmd ≡ commands.OpenEp desc → P desc) → EachDescribed P o.driver
  command_described cmd turns only is own = accepted_described cmd turns only is own cmd (asynchronous_command_is_accepted d m cmd o turns.asynchronous only is)

-- ---- names

abbrev HasItsName : EpDesc → Type 0
HasItsName desc = IsNameOf desc.kind desc.name

pub row_named : (row : DriverRow) (p : Parts) → AreNamed p.driver → AreNamed (after_driver_row row p).driver
row_named row p old = row_described HasItsName row p old

pub command_named : (d : DriverContent) (m : Mem) (cmd : Cmd) (o : Offered) → AsynchronousTakesTurns d → OpensAsynchronous cmd → OpensNamed cmd → offered d m cmd ≡ Ok o → AreNamed d → AreNamed o.driver
command_named d m cmd o turns only named is old = command_described HasItsName d m o old cmd turns only is (λ desc opens. subst OpensNamed opens named)

-- ---- control endpoints, which have no stream

abbrev IsApart : (ℕ → ℕ → Bool) → EpDesc → Type 0
IsApart stream desc = desc.name.way ≡ ways.Ctl → stream desc.name.addr desc.name.num ≡ false

pub row_apart : (stream : ℕ → ℕ → Bool) (row : DriverRow) (p : Parts) → AreControlsApart p.driver stream → AreControlsApart (after_driver_row row p).driver stream
row_apart stream row p old = row_described (IsApart stream) row p old

pub command_apart : (stream : ℕ → ℕ → Bool) (w : World) (cmd : Cmd) (o : Offered) → AsynchronousTakesTurns w.driver → OpensAsynchronous cmd → OpensApart stream w cmd → offered w.driver w.memory cmd ≡ Ok o
    → AreControlsApart w.driver stream → AreControlsApart o.driver stream
command_apart stream w cmd o turns only apart is old =
    command_described (IsApart stream) w.driver w.memory o old cmd turns only is (λ desc opens. subst (OpensNoStream stream) opens (apart o is))
