-- How memory and the copy in hand show the host of a request (EHCI 1.0, 4.10).
--     hand_side hand n q         the host's side of the queue head q at n: between a transaction and its write-back the copy in hand has it
--     Works ..                   the overlay works on the qTD of the stage, and those after it are fresh
--     Waits ..                   the overlay has ended, and leads to the qTD of the stage, which is fresh as those after it
--     Ends ..                    the request is done, and the overlay leads where its status did, or to nothing that is published
--     IsPending part a           the qTD at a is published, and not done
--     Halts ..                   the overlay is halted
--     Shows ..                   one of these
--     IsAmong x q                while the overlay is active, it works on a qTD of the request
use Rattle.std.specs.Prelude.{◌≡◌, ◌≢◌, ℕ, true, false, not, ◌&&◌, ◌==◌, Some, if◌then◌else◌}
use Rattle.usb_base.specs.declared.endpoints.EndCause.{EndCause}
use Rattle.link_words.specs.declared.fields.ShortLink.{ShortLink}
use Rattle.link_words.specs.declared.kinds.QtdLink.TheVariants.{To}
use Rattle.link_words.specs.Links.{qtd_link_of}
use Rattle.qh_qtd.specs.declared.qtd.Qtd.{Qtd}
use Rattle.qh_qtd.specs.declared.queue_head.Qh.{Qh}
use Rattle.toggle_error.specs.declared.host.HostSide.{HostSide}
use Rattle.law_structures.specs.lent_structures.Structures.{Element, Structures}
use Rattle.hc_copy.specs.Planning.{host_in}
use Rattle.claims_report.specs.Requests.{Request}
use Rattle.law_request.specs.Host.{Endpoint, Host, Stage, Done, Halted, is_over, side_at, next_stage}
use Rattle.law_ring.specs.Hand.{Hand, Empty, Copied, Settled, Stale}
use Rattle.law_devices.specs.ring_requests.Laid.{Places, place_at, IsPlace, comes, IsLinkBehind, IsStage, IsFresh}

abbrev pub hand_side : Hand → ℕ → Qh → HostSide
hand_side Empty n q = host_in q
hand_side (Copied c) n q = host_in q
hand_side (Settled c z) n q = if c.at == n then z.host else host_in q
hand_side (Stale at old) n q = host_in q

-- the link that is followed once the overlay ended with so many bytes left (4.10.2)
abbrev pub pointer_at : ℕ → Qh → ShortLink
pointer_at left q = if not (left == 0) && not q.alternate.t then q.alternate else q.next

abbrev pub AreFresh : Endpoint → Request → Places → Structures → Stage → Type 0
AreFresh e r x part from = (s : Stage) → comes r from s ≡ true → IsFresh e r x part s

pub record Works (e : Endpoint) (r : Request) (x : Places) (part : Structures) (side : HostSide) (q : Qh) (h : Host) : Type 0 where
  pub goes_on : is_over h.stage ≡ false
  pub active : side.active ≡ true
  pub side_is : side ≡ h.side
  pub current : q.current ≡ place_at x h.stage
  pub stage : IsStage e r x part h.stage
  pub pid : q.token.pid ≡ stage.qtd.token.pid
  pub next : q.next ≡ stage.qtd.next
  pub alternate : q.alternate ≡ stage.qtd.alternate
  pub later : AreFresh e r x part (next_stage r h.stage)

pub record Waits (e : Endpoint) (r : Request) (x : Places) (part : Structures) (side : HostSide) (q : Qh) (h : Host) : Type 0 where
  pub goes_on : is_over h.stage ≡ false
  pub idle : side.active ≡ false
  pub side_is : h.side ≡ side_at r e.max side.ping h.stage
  pub leads : qtd_link_of (pointer_at side.left q) ≡ To (place_at x h.stage)
  pub fresh : AreFresh e r x part h.stage
  pub beside : q.token.active ≡ true → (s : Stage) → comes r h.stage s ≡ true → place_at x s ≢ q.current

-- until it is written back the overlay works on the status yet
pub record Ends (x : Places) (part : Structures) (side : HostSide) (q : Qh) (h : Host) : Type 0 where
  pub done : h.stage ≡ Done
  pub idle : side.active ≡ false
  pub ping : side.ping ≡ h.side.ping
  pub behind : IsLinkBehind part x.behind (pointer_at side.left q)
  pub worked : q.token.active ≡ true → q.current ≡ x.status

pub record IsPending (part : Structures) (a : ℕ) : Type 0 where
  pub qtd : Qtd
  pub here : part a ≡ Some (Element qtd)
  pub published : qtd.token.active ≡ true

-- until the halt is written back the status is still to come, and where it is the status that halted its qTD shows so
pub record Halts (x : Places) (part : Structures) (side : HostSide) (q : Qh) (h : Host) : Type 0 where
  pub cause : EndCause
  pub ended : h.stage ≡ Halted cause
  pub idle : side.active ≡ false
  pub halted : side.halted ≡ true
  pub pending : q.token.active ≡ true → IsPending part x.status
  pub status : (t : Qtd) → part x.status ≡ Some (Element t) → t.token.active ≡ false → t.token.halted ≡ true

pub data Shows (e : Endpoint) (r : Request) (x : Places) (part : Structures) (side : HostSide) (q : Qh) (h : Host) : Type 0 where
  works : Works e r x part side q h → Shows e r x part side q h
  waits : Waits e r x part side q h → Shows e r x part side q h
  ends : Ends x part side q h → Shows e r x part side q h
  halts : Halts x part side q h → Shows e r x part side q h

abbrev pub IsAmong : Places → Qh → Type 0
IsAmong x q = q.token.active ≡ true → IsPlace x q.current
