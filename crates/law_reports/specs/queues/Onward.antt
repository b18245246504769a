-- How far a queue head has come along its qTDs, and what it left behind (EHCI 1.0, 3.5, 3.6, 4.10 and 4.10.2).
--     LeadsOnward n part       an active qTD has one behind it, and so has an overlay that rests and isn't halted
--     place_of order q         the place in the order of the qTD that the overlay of q works on, or goes on to
--     IsSkipped order part a   a qTD that is done, no later than a, leads past a
--     IsUnpublished d n a      the qTD at a is being stored, at the end of the queue of the queue head at n
--     StandsOnward ..          an active qTD before that place was skipped; and one that isn't active stands before it, is the last of the
--                              queue, or is being stored
use Rattle.std.specs.Prelude.{◌≡◌, ℕ, ◌-◌, ◌*◌, ◌<◌, ◌≤◌, ◌⊎◌, true, false, List, length, slice_get, Some, if◌then◌else◌}
use Rattle.link_words.specs.declared.kinds.QtdLink.{QtdLink}
use Rattle.link_words.specs.declared.kinds.QtdLink.TheVariants as qtd_links
use Rattle.link_words.specs.Links.{qtd_link_of}
use Rattle.qh_qtd.specs.declared.qtd.Qtd.{Qtd}
use Rattle.qh_qtd.specs.declared.queue_head.Qh.{Qh}
use Rattle.hc_copy.specs.Visits.{next_pointer}
use Rattle.drv_table.specs.declared.content.Command.TheVariants as unfinished
use Rattle.drv_table.specs.declared.content.Endpoint.{Endpoint}
use Rattle.drv_table.specs.declared.content.Transfer.{Transfer}
use Rattle.drv_table.specs.DriverContent.{DriverContent}
use Rattle.law_structures.specs.lent_structures.Structures.{QueueHead, Element, Structures}
use Rattle.law_ring.specs.Front.{own_pointer}
use Rattle.law_driver_ring.specs.fed_queues.Places.{IsLast}

pub record LeadsOnward (n : ℕ) (part : Structures) : Type 0 where
  pub next : (a : ℕ) (u : Qtd) → part a ≡ Some (Element u) → u.token.active ≡ true → u.next.t ≡ false
  pub rest : (q : Qh) → part n ≡ Some (QueueHead q) → q.token.halted ≡ false → q.token.active ≡ false → (next_pointer q).t ≡ false

-- ---- where it stands

abbrev pub place_at : (ℕ → ℕ) → QtdLink → ℕ
place_at order qtd_links.End = 0
place_at order (qtd_links.To b) = order b

abbrev pub place_of : (ℕ → ℕ) → Qh → ℕ
place_of order q = if q.token.active then order q.current else place_at order (qtd_link_of (next_pointer q))

-- ---- what it left

pub record IsSkipped (order : ℕ → ℕ) (part : Structures) (a : ℕ) : Type 0 where
  pub by : ℕ
  pub qtd : Qtd
  pub here : part by ≡ Some (Element qtd)
  pub done : qtd.token.active ≡ false
  pub to : ℕ
  pub leads : qtd_link_of (own_pointer qtd) ≡ qtd_links.To to
  pub from : order by ≤ order a
  pub past : order a < order to

-- the first qTD of the newest transfer, once the others are lent
pub record IsUnpublished (d : DriverContent) (n a : ℕ) : Type 0 where
  pub block : ℕ
  pub words : List ℕ
  pub command : d.command ≡ Some (unfinished.Publish block words)
  pub lent : 1 ≤ d.made
  pub at : a ≡ 32 * block
  pub transfer : Transfer
  pub newest : slice_get d.transfers (length d.transfers - 1) ≡ Some transfer
  pub endpoint : Endpoint
  pub here : slice_get d.endpoints transfer.endpoint ≡ Some endpoint
  pub its : n ≡ 32 * endpoint.queue

pub record StandsOnward (order : ℕ → ℕ) (d : DriverContent) (n : ℕ) (part : Structures) (q : Qh) : Type 0 where
  pub active : (a : ℕ) (u : Qtd) → part a ≡ Some (Element u) → u.token.active ≡ true → order a < place_of order q → IsSkipped order part a
  pub done : (a : ℕ) (u : Qtd) → part a ≡ Some (Element u) → u.token.active ≡ false
      → (order a < place_of order q) ⊎ (IsLast order part a ⊎ IsUnpublished d n a)
