-- What the next event leaves of what is in hand, by what it would write (EHCI 1.0, 4.7.1, 4.10.2, 4.10.4, 4.12.2.4 and 4.12.3): an overlay
-- only where it isn't
-- halted, the token and the bytes only after a transaction, or where one was missed.
use Rattle.std.proofs.Common.{◌≡◌, ◌≢◌, ℕ, ◌+◌, ◌*◌, ◌/◌, ◌<◌, Bool, true, false, List, length, Option, None, Some}
use Rattle.usb_base.specs.declared.packets.Reply.{Reply}
use Rattle.qh_qtd.specs.declared.queue_head.Qh.{Qh}
use Rattle.toggle_error.specs.declared.host.Outcome.{Outcome}
use Rattle.mem_descriptors.specs.Descriptors.{slot_address}
use Rattle.hc_copy.specs.declared.held.Held.{Held}
use Rattle.hc_copy.specs.Overlay.{pages_of, buffer_place}
use Rattle.hc_copy.specs.WriteBack.{received}
use Rattle.hc_iso.specs.declared.held.HeldItd.{HeldItd}
use Rattle.hc_iso.specs.declared.held.HeldSitd.{HeldSitd}
use Rattle.hc_iso.specs.declared.held.IsoEnd.{IsoEnd}
use Rattle.hc_iso.specs.declared.held.SplitOutcome.{SplitOutcome}
use Rattle.hc_iso.specs.Sitd.{sitd_place}
use Rattle.hc_iso.specs.WriteBack.{itd_pages, slot_place, sitd_pages, sitd_received}
use Rattle.periodic_walk.specs.declared.state.Hand.{Hand}
use Rattle.periodic_walk.specs.declared.state.Hand.TheVariants as hands
use Rattle.law_controller.specs.event_places.Places.{IsBesideBytes}

pub record IsQueueLeft (h : Held) (reply : Reply) (at : ℕ) : Type 0 where
  pub overlay : (h.settled ≡ None → h.queue_head.token.halted ≡ false) → (i : ℕ) → i < 9 → at / 4 ≢ (h.at + 12 + 4 * i) / 4
  pub token : (h.settled ≡ None → (h.queue_head.token.active ≡ true) × (h.queue_head.token.halted ≡ false))
      → at / 4 ≢ (h.queue_head.current + 8) / 4
  pub bytes : (o : Outcome) → h.settled ≡ Some o → IsBesideBytes (pages_of h.queue_head) (buffer_place h.queue_head)
      (length (received h.queue_head o reply)) at

pub record IsItdLeft (h : HeldItd) (got : List ℕ) (at : ℕ) : Type 0 where
  pub slot : (e : IsoEnd) → h.ended ≡ Some e → at / 4 ≢ slot_address h.at h.number / 4
  pub bytes : (e : IsoEnd) → h.ended ≡ Some e → IsBesideBytes (itd_pages h.itd) (slot_place h.slot) (length got) at

pub record IsSitdLeft (h : HeldSitd) (reply : Reply) (at : ℕ) : Type 0 where
  pub state : (h.settled ≡ None → h.sitd.active ≡ true) → (i : ℕ) → i < 3 → at / 4 ≢ (h.at + 12 + 4 * i) / 4
  pub bytes : (o : SplitOutcome) → h.settled ≡ Some o → IsBesideBytes (sitd_pages h.sitd) (sitd_place h.sitd)
      (length (sitd_received h.sitd.dir_in o reply)) at

abbrev pub IsHandLeft : List ℕ → Reply → ℕ → Hand → Type 0
IsHandLeft got reply at (hands.Queue h) = IsQueueLeft h.copy reply at
IsHandLeft got reply at (hands.Itd h) = IsItdLeft h got at
IsHandLeft got reply at (hands.Sitd h) = IsSitdLeft h reply at
