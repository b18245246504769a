-- Each command, accepted or refused, leaves a mixed world one.
use Rattle.std.proofs.Common.{◌≡◌, ℕ, Result, Ok, Err, refl, ⊎_elim}
use Rattle.usb_base.specs.declared.commands.Cmd.{Cmd}
use Rattle.usb_base.specs.declared.commands.Cmd.TheVariants as commands
use Rattle.usb_base.specs.declared.endpoints.EpDesc.{EpDesc}
use Rattle.usb_base.specs.declared.endpoints.EpName.{EpName}
use Rattle.usb_base.specs.declared.reports.OfferError.{OfferError}
use Rattle.drv_table.specs.Accepting.{Offered}
use Rattle.drv_table.specs.Offers.{offered, IsOffered}
use Rattle.law_driver.specs.queued_drivers.Queued.{queued}
use Rattle.law_driver.specs.queued_drivers.Commands.{IsQueueOpened, IsEndOpened, IsQueueLeft, IsEndLeft, QueuesAccept}
use Rattle.law_driver.proofs.lemmas.queued_drivers.CommandReasons.{IsNew, in_ring, in_frames, bare, IsLeft, from_ring, from_frames, IsReasonOf, reason_of}
use Rattle.claims_world.specs.Memory.{IsWalking}
use Rattle.law_world.proofs.lemmas.steps.lemmas.controlled_walks.Worlds.{command_keeps_walking}
use Rattle.bus_world.specs.World.{World, name_in, commanded_by}
use Rattle.law_world.specs.memory.Mixed.{QueuesGoOn, Standing, IsMixedAt}
use Rattle.law_world.specs.memory.Steps.{left_by_command, stays}
use Rattle.law_world.specs.memory.Laws.{OpensMixed, CommandKeepsMixed, CommandKeepsStanding, CommandTellsStep}
use Rattle.law_world.proofs.lemmas.memory.Stepping.{still_same}
use Rattle.law_world.proofs.lemmas.memory.CommandRefused.{refused_mixed}
use Rattle.law_world.proofs.lemmas.memory.CommandShared.{walks_numbered, IsAccepted, LeavesMixed, accepts, mixed_by}
use Rattle.law_world.proofs.lemmas.memory.CommandTransfers.{get_or_put_leaves, request_leaves}
use Rattle.law_world.proofs.lemmas.memory.CommandOpens.{opened_queues, open_leaves, chain_leaves}
use Rattle.law_world.proofs.lemmas.memory.CommandCancels.{left_queues, cancel_leaves, unchain_leaves}
use Rattle.law_world.proofs.lemmas.memory.CommandEnds.{end_opened_queues, end_left_queues, ends_taken_queues, place_leaves, describe_leaves}

-- ---- by what was accepted

module _ (s : Standing) (w : World) (line : ℕ) (o : Offered) where
  open_by : (x : EpDesc) → IsAccepted s w line (commands.OpenEp x) o → QueuesGoOn (queued o.driver) s.near s.streams s.ends s.parts s.order s.out → IsNew w.driver w.memory o x → LeavesMixed s w o
  open_by x a queues (in_ring why same) = open_leaves s w line x o a queues why same
  open_by x a queues (in_frames why same) = chain_leaves s w line x o a queues why same
  open_by x a queues (bare why same) = place_leaves s w line x o a queues why

  cancel_by : (name : EpName) → IsAccepted s w line (commands.Cancel name) o → QueuesGoOn (queued o.driver) s.near s.streams s.ends s.parts s.order s.out → IsLeft w.driver w.memory o name
      → LeavesMixed s w o
  cancel_by name a queues (from_ring why named) = cancel_leaves s w line name o a queues why
  cancel_by name a queues (from_frames why named) = unchain_leaves s w line name o a queues why

  leaves : (cmd : Cmd) → IsAccepted s w line cmd o → QueuesAccept w.driver w.memory o cmd → IsReasonOf w.driver w.memory o cmd → LeavesMixed s w o
  leaves (commands.OpenEp x) a accept why =
      open_by x a
      (⊎_elim (λ (q : IsQueueOpened w.driver w.memory x o). opened_queues s w line x o a q)
      (λ (q : IsEndOpened w.driver w.memory x o). end_opened_queues s w line (commands.OpenEp x) o a x q) accept) why
  leaves (commands.Get name len by) a accept why = get_or_put_leaves s w line (commands.Get name len by) o tt a accept
  leaves (commands.Put name bytes by) a accept why = get_or_put_leaves s w line (commands.Put name bytes by) o tt a accept
  leaves (commands.Control name setup bytes) a accept why = request_leaves s w line (commands.Control name setup bytes) o tt a accept
  leaves (commands.Iso name count len seed) a accept why =
      describe_leaves s w line (commands.Iso name count len seed) o a (ends_taken_queues s w line (commands.Iso name count len seed) o a accept) why
  leaves (commands.Cancel name) a accept why =
      cancel_by name a
      (⊎_elim (λ (q : IsQueueLeft w.driver w.memory name o). left_queues s w line name o a q)
      (λ (q : IsEndLeft w.driver w.memory o). end_left_queues s w line (commands.Cancel name) o a q) accept) why
  leaves _ a accept why = absurd why

-- ---- any command

by_offer : (s : Standing) (w : World) (line : ℕ) (cmd : Cmd) (r : Result Offered OfferError) → OpensMixed cmd → IsOffered w.driver.room cmd → offered w.driver w.memory cmd ≡ r
    → IsWalking (commanded_by w line (name_in cmd) r) → IsMixedAt s w → IsMixedAt s (commanded_by w line (name_in cmd) r)
by_offer s w line cmd (Ok o) fits room is walking k =
    let a : IsAccepted s w line cmd o = record { mixed = k; fits = fits; room = room; is = is; walking = walking } in
    mixed_by s w line cmd o a (leaves s w line o cmd a (accepts s w line cmd o a) (reason_of w.driver w.memory cmd o is))
by_offer s w line cmd (Err why) fits room is walking k = refused_mixed s w line (name_in cmd) why walking k

pub command_keeps_standing : CommandKeepsStanding
command_keeps_standing s w line cmd fits room k =
    by_offer s w line cmd (offered w.driver w.memory cmd) fits room refl
    (command_keeps_walking w line cmd (walks_numbered cmd fits) k.walking) k

pub command_tells_step : CommandTellsStep
command_tells_step s w line cmd fits room k =
    record {
      standing = s;
      step = stays s (left_by_command line cmd fits room refl) (still_same s);
      mixed = command_keeps_standing s w line cmd fits room k;
    }

pub command_keeps_mixed : CommandKeepsMixed
command_keeps_mixed w line cmd fits room k =
    record { standing = k.standing; mixed = command_keeps_standing k.standing w line cmd fits room k.mixed }
