-- What a content tells of its queues stays, where its report, its room and its frames alone change.
use Rattle.std.proofs.Common.{ℕ, ◌*◌, Bool, List, refl, sym, subst}
use Rattle.usb_base.specs.declared.reports.Report.{Report}
use Rattle.drv_periodic_table.specs.Periodic.{PeriodicContent}
use Rattle.drv_table.specs.declared.content.Reserve.{Reserve}
use Rattle.drv_table.specs.DriverContent.{DriverContent}
use Rattle.law_structures.specs.lent_structures.Structures.{StructureSets}
use Rattle.law_ring.specs.Told.{Endpoint as Told}
use Rattle.law_frames.specs.Met.{IsQueuePart}
use Rattle.law_world.proofs.lemmas.steps.lemmas.control_queues.Alike.{ThereAlike}
use Rattle.law_descriptors.specs.queue_events.Events.{PartsStand}
use Rattle.law_driver.specs.queued_drivers.Commands.{QueuesAlike}
use Rattle.law_world.specs.memory.Mixed.{QueuesGoOn}
use Rattle.law_world.proofs.lemmas.memory.Alike.{goes_on_near}

-- the part of each queue head that is met is sound, where these were met before
pub sound_by : (d f : DriverContent) (parts : StructureSets) → ThereAlike d f → PartsStand d parts → PartsStand f parts
sound_by d f parts alike old e x here met =
    let w = alike e x here met.there in
    subst (λ (q : ℕ). IsQueuePart (32 * q) (parts (32 * q))) (sym w.queue) (old e w.endpoint w.here (w.met met))

pub beside : (d : DriverContent) (reports : List Report) (store : List ℕ) (room : Reserve) (p : PeriodicContent) (near streams : ℕ → Bool) (ends : ℕ → Told) (parts : StructureSets)
    (order : ℕ → ℕ → ℕ) (out : ℕ → List ℕ) → QueuesGoOn d near streams ends parts order out
    → QueuesGoOn (record d { reports = reports; store = store; room = room; periodic = p }) near streams ends parts order out
beside d reports store room p near streams ends parts order out old =
    goes_on_near d (record d { reports = reports; store = store; room = room; periodic = p }) (λ e x here. refl) (λ e x here kept lent. lent) near streams ends parts order out old

-- as where a content has the same but for its frames
pub by_alike : (c d : DriverContent) (near streams : ℕ → Bool) (ends : ℕ → Told) (parts : StructureSets) (order : ℕ → ℕ → ℕ) (out : ℕ → List ℕ) → QueuesAlike c d
    → QueuesGoOn d near streams ends parts order out → QueuesGoOn c near streams ends parts order out
by_alike c d near streams ends parts order out alike old =
    subst (λ (g : DriverContent). QueuesGoOn g near streams ends parts order out) (sym alike) (beside d d.reports d.store d.room c.periodic near streams ends parts order out old)
