-- What is told of the driver's queues once the walk may meet one more.
use Rattle.std.proofs.Common.{◌≡◌, ℕ, ◌*◌, Bool, false, List, slice_get, Option, Some, None, sym, subst}
use Rattle.qh_qtd.specs.declared.qtd.Qtd.{Qtd}
use Rattle.qh_qtd.specs.declared.queue_head.Qh.{Qh}
use Rattle.drv_table.specs.declared.content.Command.{Command}
use Rattle.drv_table.specs.declared.content.Command.TheVariants as unfinished
use Rattle.drv_table.specs.declared.content.Endpoint.{Endpoint}
use Rattle.drv_table.specs.DriverContent.{DriverContent}
use Rattle.drv_table.specs.Parts.{Parts as DriverParts}
use Rattle.drv_table.specs.Words.{to_queue_head, queue_head}
use Rattle.law_structures.specs.lent_structures.Structures.{Element, StructureSets}
use Rattle.law_ring.specs.Told.{Endpoint as Told}
use Rattle.law_driver_ring.specs.Linked.{with_member, head_at}
use Rattle.law_controller.specs.controlled_streams.Opened.{with_end, with_none}
use Rattle.law_queues.specs.publish_laws.Stores.{QueuesThen}
use Rattle.law_queues.specs.open_laws.Opens.{IsAtOpen, head_then, end_then, streams_then, next_of, OpenStands}
use Rattle.law_queues.specs.open_laws.Queues.{IsOpenThere, open_finished}
use Rattle.law_queues.proofs.lemmas.open_laws.FinishedQueues as finished
use Rattle.law_queues.proofs.lemmas.open_laws.HeadStores.{element_before, head_keeps_queues}
use Rattle.law_queues.proofs.lemmas.open_laws.Linking.{driver_is, differs}
use Rattle.law_queues.proofs.lemmas.open_laws.Newest.{new_heads_rest, new_part}
pub use Rattle.law_queues.proofs.lemmas.open_laws.FinishedQueues.{then_here, then_beside, member_here, member_old, member_beside}

module _ (p : DriverParts) (member streams : ℕ → Bool) (ends : ℕ → Told) (parts : StructureSets) (order : ℕ → ℕ → ℕ) (out : ℕ → List ℕ) (k : IsAtOpen p.driver p.memory member streams ends parts order out) where
  abbrev d : DriverContent
  d = p.driver

  abbrev x : Endpoint
  x = k.lent.endpoint

  abbrev n : ℕ
  n = 32 * k.lent.endpoint.queue

  abbrev new_head : Qh
  new_head = record k.queue { link = to_queue_head k.lent.endpoint.queue }

  abbrev now : StructureSets
  now = head_then parts k.queue k.lent.endpoint

  -- its queue head and its inactive qTD stand
  abbrev pub stands_there : IsOpenThere p.driver parts
  stands_there = record {
    number = k.lent.number;
    endpoint = k.lent.endpoint;
    here = k.lent.here;
    command = k.lent.command;
    fresh = k.lent.fresh;
    none = k.lent.none;
    part = new_part x (queue_head x.desc k.lent.link x.dummy) (parts n) (differs p member streams ends parts order out k) (new_heads_rest x.desc 0 0 k.lent.link x.dummy).0 k.lent.part;
  }

  pub element_was : (m a : ℕ) (t : Qtd) → now m a ≡ Some (Element t) → parts m a ≡ Some (Element t)
  element_was m a t is = element_before parts head_at k.queue new_head k.head m a t is

  pub its_alive : x.gone ≡ false
  its_alive = finished.its_alive p.driver member streams ends parts order out k.sound.owners k.turns stands_there k.stand

  pub same_number : (e : ℕ) (y : Endpoint) → slice_get d.endpoints e ≡ Some y → y.gone ≡ false → y.queue ≡ x.queue → e ≡ k.lent.number
  same_number e y there kept same = finished.same_number p.driver member streams ends parts order out k.sound.owners k.turns stands_there k.stand e y there kept same

  no_command : (b : ℕ) (words : List ℕ) → ◌≡◌ {A = Option Command} None (Some (unfinished.Publish b words)) → ⊥
  no_command b words same = cc

  pub stands_by : QueuesThen (next_of p).driver (with_member member n) (streams_then streams x) (with_end ends n (end_then x)) now order (with_none out n)
  stands_by =
      subst (λ (g : DriverContent). QueuesThen g (with_member member n) (streams_then streams x) (with_end ends n (end_then x)) now order (with_none out n)) (sym (driver_is p member streams ends parts order out k))
      (head_keeps_queues (open_finished p.driver) (with_member member n) (streams_then streams x) (with_end ends n (end_then x)) parts order (with_none out n) head_at k.queue new_head k.head (λ b words. no_command b words)
      (finished.open_finishes p.driver member streams ends parts order out k.sound.owners k.turns stands_there k.stand))

pub open_stands : OpenStands
open_stands p member streams ends parts order out k = stands_by p member streams ends parts order out k
