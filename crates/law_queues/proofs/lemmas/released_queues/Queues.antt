-- What a queue of the ring has, and what of it goes with a transfer that is given back.
use Rattle.std.proofs.Common.{◌≡◌, ◌≢◌, ℕ, ◌*◌, ◌<◌, Bool, true, false, List, slice_get, Some}
use Rattle.async_walk.specs.Walk.{Walk}
use Rattle.drv_table.specs.declared.content.Endpoint.{Endpoint}
use Rattle.drv_table.specs.declared.content.Transfer.{Transfer}
use Rattle.drv_table.specs.Parts.{Parts as DriverParts}
use Rattle.mem_runs.specs.Book.{slot_of}
use Rattle.claims_driver.specs.Owners.{ArePieces, note_in}
use Rattle.law_driver.specs.chained_transfers.Chains.{piece_at}
use Rattle.law_structures.specs.lent_structures.Structures.{StructureSets}
use Rattle.law_ring.specs.Hand.{Hand}
use Rattle.claims_base.specs.Controller.{Base}
use Rattle.law_frames.specs.Met.{IsQueuePart}
use Rattle.law_frames.proofs.Queues.{a_members_part_is_linked}
use Rattle.law_driver_ring.specs.Released.{goes_of}
use Rattle.law_driver_ring.proofs.Blocks.{mine}
use Rattle.law_queues.specs.released_queues.Released.{IsReturning, ReleaseStands}
use Rattle.law_queues.specs.released_queues.Staying.{QueuesAreTold}
use Rattle.law_queues.proofs.lemmas.released_queues.StayingQueues.{goes_off as any_off, dummy_off as any_dummy, pieces_of as any_pieces, piece_off as any_piece, met as its_met}
pub use Rattle.law_queues.proofs.lemmas.released_queues.Links.{none_yet}

abbrev pub told_of : (base : Base) (member : ℕ → Bool) (parts : StructureSets) (hand : Hand) (w : Walk) (p : DriverParts) (order : ℕ → ℕ → ℕ) (out : ℕ → List ℕ) → ReleaseStands base member parts hand w p order out → QueuesAreTold parts p order out
told_of base member parts hand w p order out s = record {
  driven = s.drives.driven;
  owners = s.owners;
  in_runs = s.in_runs;
  asynchronous = s.asynchronous;
  chained = s.chained;
  turns = s.turns;
  fed = s.fed;
  last = s.last;
  still_out = s.still_out;
  fronts = s.fronts;
  rise = s.rise;
}

module _ (base : Base) (member : ℕ → Bool) (parts : StructureSets) (hand : Hand) (w : Walk) (p : DriverParts) (order : ℕ → ℕ → ℕ) (out : ℕ → List ℕ) (t : ℕ) (y : Transfer) (x : Endpoint) (s : ReleaseStands base member parts hand w p order out) (k : IsReturning p.driver t y x) where
  pub pieces_of : (u : ℕ) (z : Transfer) → slice_get p.driver.transfers u ≡ Some z → z.released ≡ false → ArePieces (slot_of p.driver.book.slots) s.owners.owner (note_in p.driver.notes) u z.first z.qtds
  pieces_of = any_pieces parts p order out t y x (told_of base member parts hand w p order out s) k

  pub goes_off : (c : ℕ) → mine t (s.owners.owner c) ≡ false → goes_of p.driver y (32 * c) ≡ false
  goes_off = any_off parts p order out t y x (told_of base member parts hand w p order out s) k

  pub dummy_off : (e : ℕ) (z : Endpoint) → slice_get p.driver.endpoints e ≡ Some z → z.gone ≡ false → mine t (s.owners.owner z.dummy) ≡ false
  dummy_off = any_dummy parts p order out t y x (told_of base member parts hand w p order out s) k

  pub piece_off : (u i : ℕ) (z : Transfer) → slice_get p.driver.transfers u ≡ Some z → z.released ≡ false → i < z.qtds → u ≢ t → mine t (s.owners.owner (piece_at (note_in p.driver.notes) z.first i)) ≡ false
  piece_off = any_piece parts p order out t y x (told_of base member parts hand w p order out s) k

  -- the walk of the ring may meet it, so its part is sound
  pub part_of : IsQueuePart (32 * x.queue) (parts (32 * x.queue))
  part_of =
      let on : member (32 * x.queue) ≡ true = s.met y.endpoint x k.endpoint (its_met parts p order out t y x (told_of base member parts hand w p order out s) k) in
      (a_members_part_is_linked member (32 * x.queue) (parts (32 * x.queue)) (s.drives.ring.members (32 * x.queue) on)).part_is
