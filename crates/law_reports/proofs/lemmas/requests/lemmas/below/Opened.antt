-- A transaction of its own queue head opens the window of the request under way, or finds it open.
use Rattle.std.proofs.Common.{◌≡◌, ℕ, true, Option, Some, None, ap, refl, sym, subst, ◌∙◌, ⊎_elim}
use Rattle.std.proofs.lemmas.Bool.{false≢true}
use Rattle.bus_world.specs.World.{World}
use Rattle.qh_qtd.specs.declared.queue_head.Qh.{Qh}
use Rattle.toggle_error.specs.declared.host.HostSide.{HostSide}
use Rattle.hc_copy.specs.Planning.{host_in}
use Rattle.claims_report.specs.ControlSides.{Device}
use Rattle.claims_world.specs.Requests.{setup_at, endpoint_of, Windows, opened_by, begun_by}
use Rattle.law_structures.specs.lent_structures.Structures.{QueueHead, StructureSets}
use Rattle.law_structures.proofs.lemmas.lent_structures.Altering.{found_queue}
use Rattle.law_ring.specs.Hand.{Copy, Hand, Copied}
use Rattle.law_request.specs.Host.{Stage, Setup, Data, Status, is_over}
use Rattle.law_devices.specs.ring_requests.Laid.{place_at}
use Rattle.law_devices.specs.ring_requests.Shown.{hand_side, Works, Shows}
use Rattle.law_devices.specs.ring_requests.Windows.{Queue, Lines, IsQueue, stage_of}
use Rattle.law_reports.specs.requests.world_requests.Recording.{IsFound, IsOpened}
use Rattle.law_reports.specs.requests.Records.{Numbers}
use Rattle.law_reports.specs.requests.below.Opened.{OwnTransactionOpens}
use Rattle.law_reports.proofs.lemmas.requests.lemmas.world_requests.Following.{works_only}
use Rattle.law_reports.proofs.lemmas.requests.lemmas.world_requests.Queues.{setup_opens}

data_no_setup : Data ≡ Setup → ⊥
data_no_setup same = cc

status_no_setup : Status ≡ Setup → ⊥
status_no_setup same = cc

module _ (w : World) (v : Windows) (q : Queue) (l : Lines) (a : Numbers) (hand : Hand) (parts : StructureSets) (n : ℕ) (o : Option Device)
    (copy : Copy) (k : IsQueue q l hand parts n o) (in_hand : hand ≡ Copied copy) (here : parts n n ≡ Some (QueueHead copy.queue))
    (works : copy.queue.token.active ≡ true) (found : IsFound w.driver q a.number l.under)
    (of : endpoint_of w.driver (a.number l.under) ≡ Some a.endpoint) (begun : begun_by w ≡ setup_at w.driver copy.queue.current)
    (opened : IsOpened (v.opened a.endpoint) (a.number l.under) l) where
  same_queue : k.window.queue ≡ copy.queue
  same_queue = found_queue (parts n n) k.window.queue copy.queue k.window.head here

  unmade : hand_side hand n k.window.queue ≡ host_in k.window.queue
  unmade = ap (λ (h : Hand). hand_side h n k.window.queue) in_hand

  work : Works q.endpoint (q.requests l.under) (q.places l.under) (parts n) (host_in copy.queue) copy.queue (l.line l.under).host
  work =
      works_only q.endpoint (q.requests l.under) (q.places l.under) (parts n) (host_in copy.queue) copy.queue (l.line l.under).host works
      (subst (λ (z : Qh). Shows q.endpoint (q.requests l.under) (q.places l.under) (parts n) (host_in z) z (l.line l.under).host) same_queue
      (subst (λ (s : HostSide). Shows q.endpoint (q.requests l.under) (q.places l.under) (parts n) s k.window.queue (l.line l.under).host)
      unmade k.window.shown))

  place : (s : Stage) → stage_of l ≡ s → setup_at w.driver copy.queue.current ≡ setup_at w.driver (place_at (q.places l.under) s)
  place s stage = ap (setup_at w.driver) (work.current ∙ ap (place_at (q.places l.under)) stage)

  -- where it is no SETUP the window is open already
  still_open : setup_at w.driver copy.queue.current ≡ None → (stage_of l ≡ Setup → ⊥)
      → opened_by w.driver (begun_by w) v.opened a.endpoint ≡ Some (a.number l.under)
  still_open none other =
      ap (λ (x : Option ℕ). opened_by w.driver x v.opened a.endpoint) (begun ∙ none)
      ∙ ⊎_elim {C = v.opened a.endpoint ≡ Some (a.number l.under)} (λ (is : v.opened a.endpoint ≡ Some (a.number l.under)). is)
      (λ (setup : stage_of l ≡ Setup). absurd (other setup)) opened

  opens_at : (s : Stage) → stage_of l ≡ s → opened_by w.driver (begun_by w) v.opened a.endpoint ≡ Some (a.number l.under)
  opens_at Setup stage =
      ap (λ (x : Option ℕ). opened_by w.driver x v.opened a.endpoint) begun
      ∙ setup_opens w.driver a.endpoint copy.queue.current (a.number l.under) v.opened (place Setup stage ∙ found.setup) of
  opens_at Data stage = still_open (place Data stage ∙ found.data_at) (λ same. data_no_setup (sym stage ∙ same))
  opens_at Status stage = still_open (place Status stage ∙ found.status) (λ same. status_no_setup (sym stage ∙ same))
  opens_at _ stage = absurd (false≢true (sym work.goes_on ∙ ap is_over stage))

pub own_transaction_opens : OwnTransactionOpens
own_transaction_opens w v q l a hand parts n o copy k in_hand here works found of begun opened =
    opens_at w v q l a hand parts n o copy k in_hand here works found of begun opened (stage_of l) refl
