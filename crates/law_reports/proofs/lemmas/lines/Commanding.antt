-- Any command, accepted or refused, tells the same of each queue; and of a new world nothing is told.
use Rattle.std.proofs.Common.{◌≡◌, ℕ, length, Result, Ok, Err, refl, subst, ⊎_elim}
use Rattle.usb_base.specs.declared.commands.Cmd.{Cmd}
use Rattle.usb_base.specs.declared.commands.Cmd.TheVariants as commands
use Rattle.usb_base.specs.declared.endpoints.EpDesc.{EpDesc}
use Rattle.usb_base.specs.declared.endpoints.EpName.{EpName}
use Rattle.usb_base.specs.declared.reports.OfferError.{OfferError}
use Rattle.usb_base.specs.declared.reports.What.TheVariants.{Refused}
use Rattle.drv_table.specs.Accepting.{Offered}
use Rattle.drv_table.specs.Offers.{offered, IsOffered}
use Rattle.law_driver.proofs.lemmas.queued_drivers.CommandOpens.{opens_are_of_queues, chains_are_of_queues}
use Rattle.law_driver.proofs.lemmas.queued_drivers.CommandReasons.{IsNew, in_ring, in_frames, bare, IsReasonOf, reason_of}
use Rattle.law_driver.specs.queued_drivers.Queued.{queued}
use Rattle.law_driver.specs.queued_drivers.Commands.{IsQueueOpened, IsEndOpened, IsQueueLeft, IsEndLeft, QueuesAccept}
use Rattle.law_queues.proofs.lemmas.harvest_laws.Standing.{refused_is_told}
use Rattle.claims_world.specs.Memory.{IsWalking}
use Rattle.law_world.specs.memory.Mixed.{Standing, IsMixedAt}
use Rattle.law_world.specs.memory.Opens.{OpensMixed}
use Rattle.law_world.proofs.lemmas.memory.CommandShared.{walks_numbered, IsAccepted, place, accepts}
use Rattle.law_world.proofs.lemmas.memory.CommandCancels.{before}
use Rattle.law_world.proofs.lemmas.steps.lemmas.controlled_walks.Worlds.{command_keeps_walking}
use Rattle.bus_world.specs.World.{World, refused_line, name_in, commanded_by, commanded}
use Rattle.law_reports.specs.lines.Lined.{in_hand, Lines, IsTelling}
use Rattle.law_reports.proofs.lemmas.lines.Commanded.{open_telling, get_telling, request_telling, left_telling}
use Rattle.law_reports.proofs.lemmas.lines.CommandedEnds.{placed_telling, taken_telling, end_left_telling}

-- ---- accepted

module _ (s : Standing) (m : Lines) (w : World) (line : ℕ) (o : Offered) (g : IsTelling s m w) where
  opened_by : (x : EpDesc) → IsAccepted s w line (commands.OpenEp x) o → IsEndOpened w.driver w.memory x o → IsNew w.driver w.memory o x
      → IsTelling s m (commanded_by w line (name_in (commands.OpenEp x)) (Ok o))
  opened_by x a k (in_ring why same) =
      open_telling s m w line (commands.OpenEp x) o a g why.desc
      (opens_are_of_queues w.driver w.memory o (place s w line (commands.OpenEp x) o a).sound.owners.orderly why)
  opened_by x a k (in_frames why same) =
      open_telling s m w line (commands.OpenEp x) o a g why.desc
      (chains_are_of_queues w.driver w.memory o (place s w line (commands.OpenEp x) o a).sound.owners.orderly why)
  opened_by x a k (bare why same) = placed_telling s m w line (commands.OpenEp x) o a g x k why same

  accepted_telling : (cmd : Cmd) → IsAccepted s w line cmd o → QueuesAccept w.driver w.memory o cmd → IsReasonOf w.driver w.memory o cmd
      → IsTelling s m (commanded_by w line (name_in cmd) (Ok o))
  accepted_telling (commands.OpenEp x) a accept why =
      ⊎_elim (λ (k : IsQueueOpened w.driver w.memory x o). open_telling s m w line (commands.OpenEp x) o a g x k)
      (λ (k : IsEndOpened w.driver w.memory x o). opened_by x a k why) accept
  accepted_telling (commands.Get name len by) a accept why = get_telling s m w line (commands.Get name len by) o a g accept.asked
  accepted_telling (commands.Put name bytes by) a accept why = get_telling s m w line (commands.Put name bytes by) o a g accept.asked
  accepted_telling (commands.Control name setup bytes) a accept why =
      request_telling s m w line (commands.Control name setup bytes) o a g accept.requested
  accepted_telling (commands.Iso name count len seed) a accept why = taken_telling s m w line (commands.Iso name count len seed) o a g
      accept
  accepted_telling (commands.Cancel name) a accept why =
      ⊎_elim (λ (k : IsQueueLeft w.driver w.memory name o).
      left_telling s m w line (commands.Cancel name) o a g _ k.alike (before s w line name o a k))
      (λ (k : IsEndLeft w.driver w.memory o). end_left_telling s m w line (commands.Cancel name) o a g k) accept
  accepted_telling _ a accept why = absurd why

-- ---- refused

refused_telling : (s : Standing) (m : Lines) (w : World) (line : ℕ) (name : EpName) (why : OfferError) → IsTelling s m w
    → IsTelling s m (commanded_by w line name (Err why))
refused_telling s m w line name why g =
    record {
      told = refused_is_told (queued w.driver) (queued (refused_line w.driver line name why)) (in_hand s) s.parts m.reported
          (record { name = name; what = Refused line why; from = length w.driver.store; len = 0 }) refl refl refl refl refl refl refl refl
          refl g.told;
      moved = g.moved;
      sound = g.sound;
    }

-- ---- any

by_offer : (s : Standing) (m : Lines) (w : World) (line : ℕ) (cmd : Cmd) (r : Result Offered OfferError) → OpensMixed cmd
    → IsOffered w.driver.room cmd → offered w.driver w.memory cmd ≡ r → IsMixedAt s w → IsTelling s m w
    → IsTelling s m (commanded_by w line (name_in cmd) r)
by_offer s m w line cmd (Ok o) fits room is k g =
    let walking = subst (λ (r : Result Offered OfferError). IsWalking (commanded_by w line (name_in cmd) r)) is
    (command_keeps_walking w line cmd (walks_numbered cmd fits) k.walking) in
    let a : IsAccepted s w line cmd o = record { mixed = k; fits = fits; room = room; is = is; walking = walking } in
    accepted_telling s m w line o g cmd a (accepts s w line cmd o a) (reason_of w.driver w.memory cmd o is)
by_offer s m w line cmd (Err why) fits room is k g = refused_telling s m w line (name_in cmd) why g

pub command_keeps_telling : (s : Standing) (m : Lines) (w : World) (line : ℕ) (cmd : Cmd) → OpensMixed cmd → IsOffered w.driver.room cmd
    → IsMixedAt s w → IsTelling s m w → IsTelling s m (commanded w line cmd)
command_keeps_telling s m w line cmd fits room k g = by_offer s m w line cmd (offered w.driver w.memory cmd) fits room refl k g
