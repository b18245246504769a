-- Accepted commands over a driven ring.
use Rattle.std.proofs.Common.{◌≡◌, ℕ, ◌-◌, Bool, List, [], ◌∷◌, length, take, drop, get_or, ap, sym, subst, ◌∙◌}
use Rattle.law_common.proofs.Lists.{drop_first}
use Rattle.word_mem.specs.Memory.{Mem}
use Rattle.op_registers.specs.RegisterFile.{RegisterFile}
use Rattle.async_walk.specs.Walk.{Walk}
use Rattle.async_walk.specs.Rows.{place}
use Rattle.mem_runs.specs.Book.{holding, Stands}
use Rattle.drv_table.specs.DriverContent.{DriverContent}
use Rattle.drv_table.specs.Words.{needs}
use Rattle.drv_table.specs.Accepting.{Offered, new_runs}
use Rattle.drv_table.specs.Offers.{note_stages, new_endpoint, accepted_open, accepted_transfer}
use Rattle.drv_table.specs.CancelOffers.{accepted_cancel}
use Rattle.law_driver.specs.run_owners.Accepts.{Opens, Transfers, Cancels}
use Rattle.claims_driver.specs.Owners.{runs_of_endpoint, views_of}
use Rattle.claims_driver.specs.Leaving.{HasOwners}
use Rattle.law_driver.proofs.lemmas.run_owners.Taking.{runs_taken}
use Rattle.law_driver.proofs.lemmas.run_owners.Transferred.{goes_on_alive}
use Rattle.law_driver.proofs.lemmas.ring_members.Placed.{has_queue}
use Rattle.law_structures.specs.lent_structures.Structures.{StructureSets}
use Rattle.law_structures.specs.lent_structures.Changes.{Leaves}
use Rattle.law_structures.proofs.lemmas.lent_structures.Telling.{rest_is_told}
use Rattle.law_ring.specs.Hand.{Hand}
use Rattle.claims_base.specs.Controller.{Base}
use Rattle.law_ring.specs.Ring.{IsRing}
use Rattle.law_ring.proofs.Driving.{other_parts_leave_ring}
use Rattle.law_driver_ring.specs.Inventory.{sorts_of, IsDriven}
use Rattle.law_driver_ring.specs.Driven.{DrivesRing}
use Rattle.law_driver_ring.proofs.Offered.{opens_leave}
use Rattle.law_driver_ring.proofs.Viewing.{driven_views}
use Rattle.law_driver_ring.proofs.Opens.{open_one_more, driven_more, cancel_views}
use Rattle.law_driver_ring.proofs.Transfers.{driven_transfer}
use Rattle.law_driver_ring.proofs.AcceptNoted.{transfer_one}
use Rattle.law_driver_ring.proofs.Sending.{transfer_leaves}

-- a ring stays one where what was Lent stays
pub ring_leaves : (base : Base) (member : ℕ → Bool) (parts : StructureSets) (hand : Hand) (w : Walk) (r : RegisterFile) (m after : Mem) → IsRing base member parts hand (place w r m) → Leaves m after → IsRing base member parts hand (place w r after)
ring_leaves base member parts hand w r m after ring left =
    other_parts_leave_ring base member parts parts hand (place w r m) after ring (rest_is_told m after parts left ring.tells) ring.members (λ n q here. here)

pub open_drives : (base : Base) (member : ℕ → Bool) (parts : StructureSets) (hand : Hand) (w : Walk) (r : RegisterFile) (m : Mem) (d : DriverContent) (o : Offered) → Opens d m o → HasOwners d → Stands (holding d.book m) → DrivesRing base member parts hand (place w r m) d → DrivesRing base member parts hand (place w r o.memory) o.driver
open_drives base member parts hand w r m d o why has stands k =
    let g = why.holding_after in
    let all = runs_taken (holding d.book m) g (2 ∷ 1 ∷ []) stands why.runs in
    let bs = all.blocks in
    let new : new_runs d g ≡ bs = ap (drop (length d.book.taken)) all.are.taken ∙ drop_first d.book.taken bs in
    let is : o ≡ accepted_open d why.desc g (get_or bs 0 0) (get_or bs 1 0) = why.is ∙ ap (λ (rs : List ℕ). accepted_open d why.desc g (get_or rs 0 0) (get_or rs 1 0)) new in
    record {
      ring = ring_leaves base member parts hand w r m o.memory k.ring (opens_leave d m o why stands k.ring.tells.shape);
      driven = subst (λ (f : Offered). IsDriven (views_of f.driver) (sorts_of parts)) (sym is)
          (driven_more (views_of d) (views_of (accepted_open d why.desc g (get_or bs 0 0) (get_or bs 1 0)).driver) (runs_of_endpoint (new_endpoint why.desc (get_or bs 0 0) (get_or bs 1 0))) (length d.endpoints) (sorts_of parts)
          (open_one_more d m why.desc g bs has why.runs all.are) k.driven);
    }

pub transfer_drives : (base : Base) (member : ℕ → Bool) (parts : StructureSets) (hand : Hand) (w : Walk) (r : RegisterFile) (m : Mem) (d : DriverContent) (o : Offered) → Transfers d m o → HasOwners d → Stands (holding d.book m) → DrivesRing base member parts hand (place w r m) d → DrivesRing base member parts hand (place w r o.memory) o.driver
transfer_drives base member parts hand w r m d o why has stands k =
    let g = why.holding_after in
    let n = length why.asked.stages in
    let x = why.endpoint in
    let all = runs_taken (holding d.book m) g (needs why.asked.stages) stands why.runs in
    let bs = all.blocks in
    let new : new_runs d g ≡ bs = ap (drop (length d.book.taken)) all.are.taken ∙ drop_first d.book.taken bs in
    let alive = has_queue x why.queued (goes_on_alive x why.goes_on (has.orderly.steady why.number x why.here)) in
    let dummy = get_or (take n bs) (n - 1) 0 in
    let notes = note_stages d.notes why.asked.stages x.dummy (take n bs) (drop n bs) in
    let is : o ≡ accepted_transfer d why.number x why.asked g dummy notes =
    why.is ∙ ap (λ (rs : List ℕ). accepted_transfer d why.number x why.asked g (get_or (take n rs) (n - 1) 0) (note_stages d.notes why.asked.stages x.dummy (take n rs) (drop n rs))) new in
    record {
      ring = ring_leaves base member parts hand w r m o.memory k.ring (transfer_leaves d m o why has stands k.ring.tells.shape);
      driven = subst (λ (f : Offered). IsDriven (views_of f.driver) (sorts_of parts)) (sym is)
          (driven_transfer (views_of d) (views_of (accepted_transfer d why.number x why.asked g dummy notes).driver) has.owner why.number (runs_of_endpoint x) dummy (length d.transfers) n (sorts_of parts)
          (transfer_one d m why.number x why.asked g bs has why.runs all.are why.some why.here alive why.sort) k.driven);
    }

pub cancel_drives : (base : Base) (member : ℕ → Bool) (parts : StructureSets) (hand : Hand) (w : Walk) (r : RegisterFile) (m : Mem) (d : DriverContent) (o : Offered) → Cancels d m o → DrivesRing base member parts hand (place w r m) d → DrivesRing base member parts hand (place w r o.memory) o.driver
cancel_drives base member parts hand w r m d o why k =
    subst (λ (f : Offered). DrivesRing base member parts hand (place w r f.memory) f.driver) (sym why.is)
    (record {
      ring = k.ring;
      driven = driven_views (views_of d) (views_of (accepted_cancel d why.number why.endpoint)) (sorts_of parts) (cancel_views d why.number why.endpoint why.here) k.driven;
    })
