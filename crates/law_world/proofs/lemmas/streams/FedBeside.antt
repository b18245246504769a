-- Where an endpoint leaves the ring, each queue keeps its front and its tail, and what is told of it.
use Rattle.std.proofs.Common.{◌≡◌, ℕ, ◌*◌, length, ◌-◌, slice_get, Result, Ok, Err, sym, subst, refl}
use Rattle.law_world.proofs.Common.{unlinks_block}
use Rattle.usb_base.specs.declared.commands.Cmd.TheVariants as commands
use Rattle.usb_base.specs.declared.endpoints.EpName.{EpName}
use Rattle.usb_base.specs.declared.reports.OfferError.{OfferError}
use Rattle.usb_base.specs.declared.reports.Report.{Report}
use Rattle.usb_base.specs.declared.reports.What.TheVariants.{Refused}
use Rattle.drv_table.specs.declared.rows.DriverRow.{DriverRow}
use Rattle.drv_table.specs.declared.rows.DriverRow.TheVariants as rows
use Rattle.drv_table.specs.Accepting.{Offered}
use Rattle.drv_table.specs.Offers.{offered}
use Rattle.drv_table.specs.Rows.{after_driver_row}
use Rattle.law_driver.specs.chained_transfers.AsynchronousTurns.{AsynchronousTakesTurns}
use Rattle.law_driver.proofs.lemmas.chained_transfers.Accepting.{asynchronous_command_is_accepted}
use Rattle.law_queues.specs.standing_fronts.Reaching.{Reaches}
use Rattle.law_queues.proofs.lemmas.commanded_queues.Tails.{reaches_alike}
use Rattle.law_queues.proofs.lemmas.harvest_laws.Standing.{refused_is_told}
use Rattle.law_queues.specs.leaving_drivers.Before.{IsAsBefore, NearFewer}
use Rattle.law_queues.proofs.lemmas.leaving_drivers.Alike.{near_fewer}
use Rattle.law_queues.proofs.lemmas.leaving_drivers.Leaving.{cancel_is_as_before, clear_is_as_before}
use Rattle.law_queues.proofs.lemmas.leaving_drivers.Clearing.{clear_finds}
use Rattle.law_world.proofs.lemmas.steps.lemmas.left_queues.Same.{tails_now}
use Rattle.law_world.proofs.lemmas.streams.lemmas.left_reports.Before.{leaves_are_told}
use Rattle.bus_world.specs.World.{World, driver_parts, with_parts, refused_line, commanded_by}
use Rattle.law_world.specs.steps.Streaming.{Standing}
use Rattle.law_queues.specs.standing_fronts.Tails.{tail_of}
use Rattle.law_world.specs.streams.Beside.{IsTold, LeaveKeepsTails, CancelKeepsTold, ClearKeepsTold}

pub leave_keeps_tails : LeaveKeepsTails
leave_keeps_tails d f parts order out b near old e x here met =
    subst (λ (c : ℕ). Reaches f (parts (32 * x.queue)) (order (32 * x.queue)) (out (32 * x.queue)) e x (32 * c)) (sym (unlinks_block f.command (slice_get f.transfers (length f.transfers - 1)) e x.dummy b.idle_now))
    (tails_now d f b near parts order out
    (λ i z at meets.
    subst (λ (c : ℕ). Reaches d (parts (32 * z.queue)) (order (32 * z.queue)) (out (32 * z.queue)) i z (32 * c)) (unlinks_block d.command (slice_get d.transfers (length d.transfers - 1)) i z.dummy b.idle)
    (old i z at meets)) e x here met)

leave_told : (s : Standing) (w v : World) → IsAsBefore w.driver v.driver → NearFewer w.driver v.driver → IsTold s w → IsTold s v
leave_told s w v b near k = record {
  tails = leave_keeps_tails w.driver v.driver s.parts s.order s.out b near k.tails;
  told = leaves_are_told w.driver v.driver s.hand s.parts s.reported b k.told;
}

-- ---- a cancel

refusal_told : (s : Standing) (w : World) (line : ℕ) (name : EpName) (why : OfferError) → IsTold s w → IsTold s (commanded_by w line name (Err why))
refusal_told s w line name why k =
    let d = w.driver in
    let row : Report = record { name = name; what = Refused line why; from = length d.store; len = 0 } in
    record {
      tails = λ e z here met.
          reaches_alike d (refused_line d line name why) s.parts s.order s.out e (tail_of d e z) z z refl refl
          (λ h u y at there held. record { transfer = y; here = there; endpoint = refl; released = refl; qtds = refl; left = refl; places = λ j most. refl })
          (k.tails e z here (record { there = record { linked = met.there.linked; kept = met.there.kept }; near = met.near }));
      told = refused_is_told d (refused_line d line name why) s.hand s.parts s.reported row refl refl refl refl refl refl refl refl refl k.told;
    }

cancel_by : (s : Standing) (w : World) (line : ℕ) (name : EpName) (r : Result Offered OfferError) → AsynchronousTakesTurns w.driver → IsTold s w → offered w.driver w.memory (commands.Cancel name) ≡ r → IsTold s (commanded_by w line name r)
cancel_by s w line name (Ok o) turns k is =
    let b = cancel_is_as_before w.driver w.memory o turns (asynchronous_command_is_accepted w.driver w.memory (commands.Cancel name) o turns.asynchronous tt is) in
    leave_told s w (commanded_by w line name (Ok o)) b.0 (near_fewer w.driver o.driver b.1) k
cancel_by s w line name (Err why) turns k is = refusal_told s w line name why k

pub cancel_keeps_told : CancelKeepsTold
cancel_keeps_told s w line name turns k = cancel_by s w line name (offered w.driver w.memory (commands.Cancel name)) turns k refl

-- ---- the clear

pub clear_keeps_told : ClearKeepsTold
clear_keeps_told s w is k =
    let p = driver_parts w in
    let b = clear_is_as_before p (clear_finds p is).idle in
    subst (λ (row : DriverRow). IsTold s (with_parts w (after_driver_row row p))) (sym is) (leave_told s w (with_parts w (after_driver_row rows.ClearAdvance p)) b.0 b.1 k)
