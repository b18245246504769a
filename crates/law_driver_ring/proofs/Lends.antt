-- A transfer is lent: the ring goes on with all of its structures.
use Rattle.std.proofs.Common.{◌≡◌, ℕ, ◌*◌, Bool, List, ◌∷◌, Some, option_map, ap, refl, sym, subst, ◌∙◌, ⊎_elim, inl, inr}
use Rattle.word_mem.specs.Memory.{Mem}
use Rattle.op_registers.specs.RegisterFile.{RegisterFile}
use Rattle.async_walk.specs.Walk.{Walk}
use Rattle.async_walk.specs.Rows.{place}
use Rattle.mem_runs.specs.Book.{holding, slot_of, Stands}
use Rattle.drv_table.specs.declared.content.Stage.{Stage}
use Rattle.drv_table.specs.DriverContent.{DriverContent}
use Rattle.drv_table.specs.Harvests.{note_at}
use Rattle.drv_table.specs.Commands.{advance}
use Rattle.claims_driver.specs.Owners.{EndpointRuns, TransferRuns, views_of}
use Rattle.claims_driver.specs.Leaving.{HasOwners}
use Rattle.law_structures.specs.lent_structures.Structures.{StructureSets}
use Rattle.law_ring.specs.Hand.{Hand}
use Rattle.claims_base.specs.Controller.{Base}
use Rattle.law_ring.specs.Ring.{IsRing}
use Rattle.law_ring.specs.Together.{Item, put_all}
use Rattle.law_ring.proofs.Joining.{all_beside, lends_leave_ring}
use Rattle.law_driver_ring.specs.Inventory.{sort_of, sorts_of, OfElement, IsDriverOwned, AreTold}
use Rattle.law_driver_ring.specs.Driven.{DrivesRing}
use Rattle.law_driver_ring.proofs.Lent.{lend_taken_leaves}
use Rattle.law_driver_ring.proofs.Viewing.{advance_views, driven_views}
use Rattle.law_driver_ring.specs.Written.{AreAllApart, AwaitsLend}
use Rattle.law_driver_ring.specs.Pieces.{qtd_items, buffer_items, NamesLent}
use Rattle.law_driver_ring.specs.TransferLaws.{lent_memory, lent_driver, HasPieces, LendDrives}
use Rattle.law_driver_ring.proofs.Lists.{IsOneOf}
use Rattle.law_driver_ring.proofs.Lots.{items, lots_new, IsItem, item_either, all_found}
use Rattle.law_driver_ring.proofs.TransferOwning.{transfer_on, IsToldOn, driven_lent}
use Rattle.law_driver_ring.proofs.Growing.{member_grown}
use Rattle.law_driver_ring.proofs.TransferLending.{lent_on_views, lots_of, lots_there}
use Rattle.law_driver_ring.proofs.Joining.{joined_parts, beside_head, still_there, same_sorts}
use Rattle.law_driver_ring.proofs.Joined.{Joins, standing, buffered, dummy_stands, elements_sound, names_lent, joined_own, first_publishable, elements_known, none_there, buffers_stay, none_at_zero}
use Rattle.law_driver_ring.proofs.Told.{first_told, item_owned}

joins : (base : Base) (member : ℕ → Bool) (parts : StructureSets) (hand : Hand) (w : Walk) (r : RegisterFile) (m : Mem) (d : DriverContent) (t : ℕ) (y : TransferRuns) (x : EndpointRuns) (s : Stage) (ss : List Stage) → AwaitsLend d m t y x s ss → (has : HasOwners d) → Stands (holding d.book m) → DrivesRing base member parts hand (place w r m) d → NamesLent (slot_of d.book.slots) (parts (32 * x.queue))
    → Joins (views_of d) (views_of (lent_driver d m)) has.owner t y x d.book.taken (lent_memory d m) parts (lots_of d m y x s ss) d.notes s ss
joins base member parts hand w r m d t y x s ss k has stands drives names =
    let lots = lots_there d m t y x s ss k stands drives.ring.tells.shape in
    record {
      joining = record {
        on = lent_on_views d m t y x s ss k has stands drives.ring.tells.shape;
        driven = drives.driven;
        each = lots.each;
        runs = lots.runs;
        apart = k.apart;
        names = names;
      };
      chain = record { noted = k.noted; ends = k.ends; taken_is = k.taken; items = lots.items };
    }

ring_goes_on : (base : Base) (member : ℕ → Bool) (parts : StructureSets) (hand : Hand) (w : Walk) (r : RegisterFile) (m : Mem) (d : DriverContent) (t : ℕ) (y : TransferRuns) (x : EndpointRuns) (s : Stage) (ss : List Stage) → AwaitsLend d m t y x s ss → HasOwners d → Stands (holding d.book m) → DrivesRing base member parts hand (place w r m) d → NamesLent (slot_of d.book.slots) (parts (32 * x.queue))
    → IsRing base member (joined_parts parts x (lots_of d m y x s ss)) hand (place w r (lent_memory d m))
ring_goes_on base member parts hand w r m d t y x s ss k has stands drives names =
    let n = 32 * x.queue in
    let h = holding d.book m in
    let after = lent_memory d m in
    let ls = lots_of d m y x s ss in
    let shape = drives.ring.tells.shape in
    let lots = lots_there d m t y x s ss k stands shape in
    let j = joins base member parts hand w r m d t y x s ss k has stands drives names in
    let v = views_of d in
    let u = views_of (lent_driver d m) in
    lends_leave_ring base member parts hand (place w r m) n (items ls) after drives.ring (lend_taken_leaves h stands shape)
    (lots_new h after ls stands lots.each (subst AreAllApart (sym lots.runs) k.apart))
    (beside_head v u has.owner t y x d.book.taken after parts ls j.joining)
    (λ on. let was = drives.ring.members n on in
    member_grown member n (parts n) (joined_parts parts x ls n) (λ a z there. still_there v u has.owner t y x d.book.taken after parts ls n a z j.joining there) (λ a z there. elements_sound j a z there) (joined_own j was.own) was)

told_after : (base : Base) (member : ℕ → Bool) (parts : StructureSets) (hand : Hand) (w : Walk) (r : RegisterFile) (m : Mem) (d : DriverContent) (t : ℕ) (y : TransferRuns) (x : EndpointRuns) (s : Stage) (ss : List Stage) → AwaitsLend d m t y x s ss → HasOwners d → Stands (holding d.book m) → DrivesRing base member parts hand (place w r m) d → NamesLent (slot_of d.book.slots) (parts (32 * x.queue))
    → IsToldOn (views_of (lent_driver d m)) parts (joined_parts parts x (lots_of d m y x s ss)) y x d.book.taken
told_after base member parts hand w r m d t y x s ss k has stands drives names =
    let n = 32 * x.queue in
    let after = lent_memory d m in
    let ls = lots_of d m y x s ss in
    let now = joined_parts parts x ls in
    let lots = lots_there d m t y x s ss k stands drives.ring.tells.shape in
    let j = joins base member parts hand w r m d t y x s ss k has stands drives names in
    let v = views_of d in
    let u = views_of (lent_driver d m) in
    let same = same_sorts v u has.owner t y x d.book.taken after parts ls j.joining in
    let told = subst (AreTold v (sorts_of parts n) y.first) k.qtds (drives.driven.pieces t y x k.here) in
    let first : sorts_of now n (32 * y.first) ≡ Some OfElement = same n y.first (λ one. j.joining.on.kept y.first one k.first) ∙ told.0.element k.first in
    record {
      same = same;
      pieces = subst (AreTold u (sorts_of now n) y.first) (sym k.qtds) (first_told v u now n d.notes x.dummy s ss y.first (λ c. refl) k.noted first (standing j) (buffered j));
      dummy = ap (option_map sort_of) (dummy_stands j);
      found = λ i a z there.
          let qtds = qtd_items d.notes x.dummy ss (note_at d.notes y.first).next in
          let buffers = buffer_items after d.notes x.dummy (s ∷ ss) y.first in
          ⊎_elim
          (λ (new : (i ≡ n) × IsItem (items ls) a z).
          inl (subst (λ (c : ℕ). IsDriverOwned u c a (sort_of z)) (sym new.0)
          (item_owned u t y x v.slot after d.notes x.dummy s ss a z (transfer_on v u has.owner t y x d.book.taken t y x j.joining.on k.here) k.qtds (λ c. refl) k.noted
          (λ c one. j.joining.on.lent c (subst (IsOneOf c) (sym k.taken) one)) k.ends (item_either qtds buffers a z (subst (λ (is : List Item). IsItem is a z) lots.items new.1)))))
          (λ (old : parts i a ≡ Some z). inr old)
          (all_found parts n (items ls) i a z there);
    }

pub lend_drives : LendDrives
lend_drives base member parts hand w r m d t y x s ss k has stands drives names =
    let n = 32 * x.queue in
    let ls = lots_of d m y x s ss in
    let lent = lent_driver d m in
    let v = views_of d in
    let u = views_of lent in
    let j = joins base member parts hand w r m d t y x s ss k has stands drives names in
    let lots = lots_there d m t y x s ss k stands drives.ring.tells.shape in
    let driven = driven_lent v u has.owner t y x d.book.taken parts (joined_parts parts x ls) j.joining.on (told_after base member parts hand w r m d t y x s ss k has stands drives names) drives.driven in
    subst (λ (is : List Item). DrivesRing base member (put_all parts n is) hand (place w r (lent_memory d m)) (advance lent) × HasPieces d (slot_of lent.book.slots) parts (put_all parts n is) y x s ss) lots.items (
      record {
        ring = ring_goes_on base member parts hand w r m d t y x s ss k has stands drives names;
        driven = driven_views u (views_of (advance lent)) (sorts_of (joined_parts parts x ls)) (advance_views lent) driven;
      },
      record {
        still = λ i a z there. still_there v u has.owner t y x d.book.taken (lent_memory d m) parts ls i a z j.joining there;
        beside = λ i differs. all_beside parts n (items ls) i differs;
        standing = standing j;
        buffered = buffered j;
        first = first_publishable j;
        names = names_lent j;
        elements = elements_known j;
        none_before = none_there j;
        old_buffers = buffers_stay j;
        none_at_zero = none_at_zero j;
      },
    )
