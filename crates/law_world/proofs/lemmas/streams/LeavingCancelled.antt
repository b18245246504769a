-- A cancel, accepted or refused, leaves a world whole.
use Rattle.std.proofs.Common.{◌≡◌, ℕ, Bool, true, false, Result, Ok, Err, ap, sym, subst, ◌∙◌, refl}
use Rattle.law_queues.proofs.Common.{not_open}
use Rattle.usb_base.specs.declared.commands.Cmd.TheVariants as commands
use Rattle.usb_base.specs.declared.endpoints.EpDesc.{EpDesc}
use Rattle.usb_base.specs.declared.endpoints.EpName.{EpName}
use Rattle.usb_base.specs.declared.reports.OfferError.{OfferError}
use Rattle.word_mem.specs.Memory.{Mem}
use Rattle.mem_runs.specs.declared.slots.Slot.{Slot}
use Rattle.bus_wire.specs.Bus.{Fixed}
use Rattle.drv_table.specs.DriverContent.{DriverContent}
use Rattle.drv_table.specs.Accepting.{Offered}
use Rattle.drv_table.specs.Offers.{offered, IsOffered}
use Rattle.drv_table.specs.CancelOffers.{accepted_cancel}
use Rattle.law_driver.specs.run_owners.Accepts.{Cancels}
use Rattle.claims_driver.specs.Owners.{SlotHas, Views, views_of}
use Rattle.law_driver.proofs.lemmas.chained_transfers.Accepting.{asynchronous_command_is_accepted}
use Rattle.law_world.proofs.lemmas.streams.Names.{command_apart}
use Rattle.law_structures.specs.lent_structures.Structures.{StructureSets}
use Rattle.law_driver_ring.specs.Extents.{KeepExtents, AreInRuns}
use Rattle.law_driver_ring.proofs.Viewing.{SameViews}
use Rattle.law_driver_ring.proofs.Extending.{extents_stay}
use Rattle.law_driver_ring.proofs.Opens.{cancel_views}
use Rattle.law_queues.specs.open_laws.Opens.{AreNamesApart}
use Rattle.law_queues.specs.leaving_drivers.Before.{WasSame, UnlinksAtMost, IsAsBefore}
use Rattle.law_queues.proofs.lemmas.leaving_drivers.Leaving.{cancel_is_as_before}
use Rattle.law_world.specs.streams.Beside.{IsTold}
use Rattle.law_world.proofs.lemmas.streams.FedBeside.{cancel_keeps_told}
use Rattle.law_world.proofs.lemmas.streams.Cancelling.{cancel_feeds}
use Rattle.bus_world.specs.World.{World, commanded_by, commanded}
use Rattle.law_world.specs.steps.Streaming.{Streams, Standing}
use Rattle.law_world.specs.streams.Feeding.{IsFeeding}
use Rattle.law_world.specs.streams.Taking.{HaveSides}
use Rattle.law_world.specs.streams.Tails.{IsUnderWay}
use Rattle.law_world.specs.streams.Left.{IsLeft}
use Rattle.law_world.proofs.lemmas.streams.Refused.{refused_whole}
use Rattle.law_world.specs.streams.Whole.{IsWhole}
use Rattle.law_world.proofs.lemmas.streams.FedCommands.{command_keeps_left}

-- ---- where no endpoint is being opened, and no run is given back

pub idle_sides : (way : Bool) (d : DriverContent) (has : ℕ → ℕ → Bool) → UnlinksAtMost d.command → HaveSides way d has
idle_sides way d has idle e x here opens = absurd (not_open d.command x.queue idle opens)

pub runs_now : (v w : Views) (parts now : StructureSets) → SameViews v w → KeepExtents parts now → AreInRuns v parts → AreInRuns w now
runs_now v w parts now same keep runs =
    extents_stay v w parts now
    (record { slots = λ c j has. subst (λ (s : Slot). SlotHas s j) (sym (same.slot c)) has; endpoints = same.endpoint; transfers = same.transfer; notes = same.note }) keep runs

-- ---- an accepted cancel

-- names stay
names_before : (d f : DriverContent) → IsAsBefore d f → AreNamesApart d → AreNamesApart f
names_before d f b k e g x y one other addr num way =
    let v : WasSame d e x = b.ends e x one in
    let u : WasSame d g y = b.ends g y other in
    k e g v.endpoint u.endpoint v.here u.here (sym (ap (λ (z : EpDesc). z.name.addr) v.desc) ∙ addr ∙ ap (λ (z : EpDesc). z.name.addr) u.desc)
    (sym (ap (λ (z : EpDesc). z.name.num) v.desc) ∙ num ∙ ap (λ (z : EpDesc). z.name.num) u.desc) (sym (ap (λ (z : EpDesc). z.name.way) v.desc) ∙ way ∙ ap (λ (z : EpDesc). z.name.way) u.desc)

cancel_runs : (d : DriverContent) (m : Mem) (o : Offered) (parts : StructureSets) → Cancels d m o → AreInRuns (views_of d) parts → AreInRuns (views_of o.driver) parts
cancel_runs d m o parts why runs =
    subst (λ (g : Offered). AreInRuns (views_of g.driver) parts) (sym why.is)
    (runs_now (views_of d) (views_of (accepted_cancel d why.number why.endpoint)) parts parts (cancel_views d why.number why.endpoint why.here)
    (record { buffers = λ n a pages j bs here. record { bytes = bs; here = here; size = refl }; tables = λ n a ws here. record { words = ws; here = here; size = refl } }) runs)

-- ---- the world

module _ (fixed : Fixed) (takes : ℕ → ℕ → Bool) (member : ℕ → Bool) (x : Streams) (s : Standing) (w : World) (line : ℕ) (name : EpName) (k : IsWhole fixed takes member x s w) where
  by_offer : (r : Result Offered OfferError) → offered w.driver w.memory (commands.Cancel name) ≡ r → IsFeeding fixed member x s (commanded_by w line name r) → IsTold s (commanded_by w line name r)
      → IsLeft fixed takes x.packets s.acc (commanded_by w line name r) → IsWhole fixed takes member x s (commanded_by w line name r)
  by_offer (Ok o) is feeding told left =
      let why : Cancels w.driver w.memory o = asynchronous_command_is_accepted w.driver w.memory (commands.Cancel name) o k.feeding.turns.asynchronous tt is in
      let b = (cancel_is_as_before w.driver w.memory o k.feeding.turns why).0 in
      record {
        feeding = feeding;
        taking = record { ends = k.taking.ends; piped = k.taking.piped; untaken = k.taking.untaken };
        under_way = subst (λ (g : Offered). IsUnderWay g.driver g.memory member s.parts g.driver.command) (sym why.is) refl;
        names = names_before w.driver o.driver b k.names;
        senders = idle_sides true o.driver x.stream b.idle_now;
        takers = idle_sides false o.driver takes b.idle_now;
        controls_apart = command_apart takes w (commands.Cancel name) o k.feeding.turns tt (λ p offer. tt) is k.controls_apart;
        runs = cancel_runs w.driver w.memory o s.parts why k.runs;
        tails = told.tails;
        told = told.told;
        bytes = k.bytes;
        left = left;
      }
  by_offer (Err why) is feeding told left = refused_whole fixed takes member x s w line name why feeding left k

pub cancel_whole : (fixed : Fixed) (takes : ℕ → ℕ → Bool) (member : ℕ → Bool) (x : Streams) (s : Standing) (w : World) (line : ℕ) (name : EpName)
    → IsOffered w.driver.room (commands.Cancel name) → IsWhole fixed takes member x s w → IsWhole fixed takes member x s (commanded w line (commands.Cancel name))
cancel_whole fixed takes member x s w line name room k =
    by_offer fixed takes member x s w line name k (offered w.driver w.memory (commands.Cancel name)) refl (cancel_feeds fixed member x s w line name room k.feeding)
    (cancel_keeps_told s w line name k.feeding.turns (record { tails = k.tails; told = k.told }))
    (command_keeps_left fixed takes member x s w line (commands.Cancel name) tt tt tt room k.feeding k.left)
