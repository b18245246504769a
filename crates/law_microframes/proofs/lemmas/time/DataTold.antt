-- What is told of the qTDs of an interrupt endpoint's transfer: whose they are, and what stands in memory for them.
use Rattle.std.proofs.Common.{◌≡◌, ℕ, ◌+◌, ◌*◌, ◌/◌, ◌<◌, ◌≤◌, Bool, true, false, slice_get, Some, option_map, ap, refl, sym, subst, ◌∙◌, arith}
use Rattle.std.proofs.lemmas.Bool.{false≢true}
use Rattle.law_queues.proofs.Common.{told_at}
use Rattle.usb_base.specs.declared.packets.Dir.{Dir}
use Rattle.usb_base.specs.declared.packets.Dir.TheVariants as directions
use Rattle.usb_base.specs.declared.packets.EpKind.{EpKind}
use Rattle.usb_base.specs.declared.packets.EpKind.TheVariants.{Interrupt}
use Rattle.usb_base.specs.declared.packets.Way.{Way}
use Rattle.usb_base.specs.declared.packets.Way.TheVariants as ways
use Rattle.word_mem.specs.Memory.{Mem}
use Rattle.mem_runs.specs.Book.{holding, Stands, slot_of}
use Rattle.drv_periodic_table.specs.Periodic.{dir_of}
use Rattle.drv_table.specs.declared.content.Endpoint.{Endpoint}
use Rattle.drv_table.specs.declared.content.Transfer.{Transfer}
use Rattle.drv_table.specs.DriverContent.{DriverContent}
use Rattle.drv_table.specs.Kinds.{is_iso}
use Rattle.claims_driver.specs.Owners.{Element, HasRun, SlotHas, is_descriptor, runs_of_endpoint, runs_of_transfer, note_in, views_of}
use Rattle.claims_driver.specs.Leaving.{HasOwners}
use Rattle.law_driver.specs.chained_transfers.Bulk.{pid_by}
use Rattle.law_driver.specs.chained_transfers.Chains.{piece_at}
use Rattle.law_driver.specs.chained_transfers.Turns.{turn_of}
use Rattle.law_driver_ring.specs.Inventory.{IsLent, sorts_of, IsTransferIn, IsDriven}
use Rattle.law_driver.proofs.lemmas.run_owners.Runs.{placed_run}
use Rattle.law_driver.proofs.lemmas.ring_members.Placed.{has_first}
use Rattle.law_structures.specs.lent_structures.Structures.{StructureSets}
use Rattle.law_structures.specs.lent_structures.Sound.{IsElement}
use Rattle.law_queues.proofs.lemmas.mended_heads.Lent.{queued_in, is_element}
use Rattle.law_queues.proofs.lemmas.publish_laws.Apart.{piece_placed}
use Rattle.law_driver.specs.queued_drivers.Queued.{with_queue, queued, IsOfWay, QueuesTakeTurns}
use Rattle.law_driver.proofs.lemmas.queued_drivers.RowLists.{queue_at, moves_at}
use Rattle.law_microframes.specs.time.DataQueues.{pid_of}

-- ---- data go one way

pub pid_low : (dir : Dir) → pid_of dir ≤ 1
pid_low directions.In = omega arith
pid_low directions.Out = omega arith

pub pid_is : (way : Way) (kind : EpKind) → IsOfWay way kind → kind ≡ Interrupt → pid_by way ≡ pid_of (dir_of way)
pid_is ways.Ctl kind fits is = absurd (let e = sym fits ∙ is in cc)
pid_is ways.In kind fits is = refl
pid_is ways.Out kind fits is = refl

-- ---- its qTDs

-- its token is in its run
pub token_in : (d : DriverContent) (m : Mem) (b : ℕ) → Stands (holding d.book m) → HasRun (slot_of d.book.slots b) → SlotHas (slot_of d.book.slots b) ((32 * b + 8) / 32)
token_in d m b stands run = let e : b ≡ (32 * b + 8) / 32 = omega arith in subst (SlotHas (slot_of d.book.slots b)) e (has_first (holding d.book m) b stands run)

pub piece_run : (d : DriverContent) (h : HasOwners d) (t i : ℕ) (y : Transfer) → slice_get d.transfers t ≡ Some y → y.released ≡ false → i < y.qtds
    → HasRun (slot_of d.book.slots (piece_at (note_in d.notes) y.first i))
piece_run d h t i y there held below = placed_run (piece_at (note_in d.notes) y.first i) (Element t) (piece_placed d h t i y there held below)

module _ (d : DriverContent) (turns : QueuesTakeTurns d) (t : ℕ) (y : Transfer) (x : Endpoint) (there : slice_get d.transfers t ≡ Some y) (sort : is_descriptor y.sort ≡ false)
    (held : y.released ≡ false) (here : slice_get d.endpoints y.endpoint ≡ Some x) (kind : x.desc.kind ≡ Interrupt) where
  pub no_iso : is_iso x.desc.kind ≡ false
  no_iso = ap is_iso kind

  pub there_queued : slice_get (queued d).transfers t ≡ Some y
  there_queued = moves_at d.endpoints d.transfers t y there sort

  pub here_queued : slice_get (queued d).endpoints y.endpoint ≡ Some (with_queue x)
  here_queued = queue_at d.endpoints y.endpoint x here no_iso

  -- its endpoint wasn't given back
  pub endpoint_kept : x.gone ≡ false
  endpoint_kept = by x.gone refl
    where
      by : (b : Bool) → x.gone ≡ b → x.gone ≡ false
      by false is = is
      by true is = absurd (false≢true (sym held ∙ (turns.turns.turns.returned t (turn_of y) (with_queue x) (ap (option_map turn_of) there_queued) here_queued is).released))

  pub in_queue : IsTransferIn (views_of d) t (runs_of_transfer y) (runs_of_endpoint x)
  in_queue = record { here = ap (option_map runs_of_transfer) there; held = held; qtds = sort; queue = queued_in d y.endpoint x here no_iso endpoint_kept }

  -- one that is lent stands in its queue
  pub element_there : (parts : StructureSets) (i : ℕ) → IsDriven (views_of d) (sorts_of parts) → i < y.qtds → IsLent (slot_of d.book.slots (piece_at (note_in d.notes) y.first i))
      → IsElement (parts (32 * x.queue)) (32 * piece_at (note_in d.notes) y.first i)
  element_there parts i driven below lent =
      is_element parts (32 * x.queue) (32 * piece_at (note_in d.notes) y.first i)
      ((told_at (views_of d) (sorts_of parts (32 * x.queue)) y.first y.qtds i (driven.pieces t (runs_of_transfer y) (runs_of_endpoint x) in_queue) below).element lent)
