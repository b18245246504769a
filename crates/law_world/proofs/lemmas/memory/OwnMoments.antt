-- From each moment of a script to the next each word that is written is written by its owner.
use Rattle.std.proofs.Common.{◌≡◌, ℕ, zero, suc, List, [], ◌∷◌, true, false, Result, Ok, Err, ap, refl, sym, subst}
use Rattle.usb_base.specs.declared.endpoints.EpName.{EpName}
use Rattle.usb_base.specs.declared.reports.OfferError.{OfferError}
use Rattle.script_types.specs.declared.scripts.Event.TheVariants as events
use Rattle.script_types.specs.declared.scripts.Script.{Script}
use Rattle.script_text.specs.Faults.{Spells}
use Rattle.bus_wire.specs.Bus.{Fixed, fixed_of}
use Rattle.bus_world.proofs.Wire.{begins_in, transacts_in}
use Rattle.bus_world.specs.Budgets.{moment}
use Rattle.bus_world.specs.Opening.{opening_world}
use Rattle.bus_world.specs.Orders.{Left, Events, Microframes, Answer, Command, OrderedWorld, tick_at, ticks}
use Rattle.bus_world.specs.World.{World, controller_parts, controller_next, commanded_by, name_in}
use Rattle.drv_table.specs.Accepting.{Offered}
use Rattle.drv_table.specs.Offers.{offered}
use Rattle.claims_base.specs.Controller.{opening_base}
use Rattle.claims_world.specs.Owners.{WritesItsOwn, LeavesControllers, is_controllers, KeepsToOwners}
use Rattle.law_descriptors.specs.Both.{both}
use Rattle.law_descriptors.specs.Meeting.{met}
use Rattle.law_world.specs.memory.Mixed.{Standing, IsMixedWorld}
use Rattle.law_world.specs.memory.Owners.{EndsActive, TextsKeepToOwners}
use Rattle.law_world.proofs.lemmas.memory.lemmas.worlds_keep_to_lent.Turning.{at_bus, world_has_row}
use Rattle.law_world.proofs.lemmas.memory.LetGo.{moment_then}
use Rattle.law_world.proofs.lemmas.memory.Together.{texts_stay_mixed}
use Rattle.law_world.proofs.lemmas.memory.OwnControl.{runs_write_their_own}
use Rattle.law_world.proofs.lemmas.memory.OwnDriver.{driver_leaves_controllers, command_leaves_controllers}
use Rattle.law_world.proofs.lemmas.memory.OwnEnded.{next_active}

pub controller_writes : (fixed : Fixed) (w : World) → IsMixedWorld w → EndsActive w.control
    → WritesItsOwn (controller_parts w) (controller_next fixed w).memory
controller_writes fixed w k ends =
    let s : Standing = k.standing in
    runs_write_their_own begins_in transacts_in opening_base s.member (met w.driver s.recent) (both s.descs s.parts) s.hand s.frame
    (controller_parts w)
    (at_bus fixed w.bus) (controller_parts (controller_next fixed w)) (at_bus fixed
    (controller_next fixed w).bus) k.mixed.now.framed.runs ends
    (world_has_row fixed w)

-- nothing is written
idle_leaves : (w : World) → LeavesControllers (controller_parts w) w.memory
idle_leaves w at low changed own = changed refl

module _ (fixed : Fixed) (w : World) (k : IsMixedWorld w) where
  by_orders : EndsActive w.control → (orders : List Left) → KeepsToOwners (is_controllers orders) (controller_parts w)
      (tick_at fixed w orders).world.memory
  by_orders ends (Events events.C (suc n) ∷ rest) = controller_writes fixed w k ends
  by_orders ends (Events events.D (suc n) ∷ rest) = driver_leaves_controllers w k
  by_orders ends (Microframes (suc n) ∷ rest) = controller_writes fixed w k ends
  by_orders ends (Answer ended n ∷ rest) = driver_leaves_controllers w k
  by_orders ends (Command n cmd ∷ rest) = command_leaves_controllers w n cmd k
  by_orders ends _ = idle_leaves w

  commanded_ends : (n : ℕ) (name : EpName) (r : Result Offered OfferError) → EndsActive w.control
      → EndsActive (commanded_by w n name r).control
  commanded_ends n name (Ok o) ends = ends
  commanded_ends n name (Err why) ends = ends

  next_ends : EndsActive w.control → (orders : List Left) → EndsActive (tick_at fixed w orders).world.control
  next_ends ends (Events events.C zero ∷ rest) = ends
  next_ends ends (Events events.C (suc n) ∷ rest) = next_active fixed k.standing w k.mixed
  next_ends ends (Events events.D zero ∷ rest) = ends
  next_ends ends (Events events.D (suc n) ∷ rest) = ends
  next_ends ends (Microframes zero ∷ rest) = ends
  next_ends ends (Microframes (suc n) ∷ rest) = next_active fixed k.standing w k.mixed
  next_ends ends (Answer ended n ∷ rest) = ends
  next_ends ends (Command n cmd ∷ rest) = commanded_ends n (name_in cmd) (offered w.driver w.memory cmd) ends
  next_ends ends _ = ends

module _ (text : List ℕ) (s : Script) (spelled : Spells text s) where
  mixed : (k : ℕ) → IsMixedWorld (moment s k).world
  mixed k = texts_stay_mixed text s spelled k

  pub ends_active : (k : ℕ) → EndsActive (moment s k).world.control
  unfolding ticks
  ends_active zero = λ h e part held ended. absurd (cc held)
  ends_active (suc k) =
      subst (λ (q : OrderedWorld). EndsActive q.world.control) (sym (moment_then s k))
      (next_ends (fixed_of s) (moment s k).world (mixed k) (ends_active k) (moment s k).orders)

  keeps : (k : ℕ) → KeepsToOwners (is_controllers (moment s k).orders) (controller_parts (moment s k).world) (moment s (suc k)).world.memory
  keeps k =
      subst (λ (q : OrderedWorld). KeepsToOwners (is_controllers (moment s k).orders) (controller_parts (moment s k).world) q.world.memory)
      (sym (moment_then s k))
      (by_orders (fixed_of s) (moment s k).world (mixed k) (ends_active k) (moment s k).orders)

pub texts_keep_to_owners : TextsKeepToOwners
texts_keep_to_owners = λ text s spelled k. keeps text s spelled k
