-- Where an event of the controller may write (EHCI 1.0, 3.3.2, 3.4.3, 3.6.3, 4.7.1, 4.10.2 and 4.10.4 to 4.10.6): of a queue head in hand its overlay,
-- words 3 to 11, and the token of its current qTD; of an iTD the word of its microframe; of a siTD words 3 to 5; and the words of the bytes that were
-- heard, in its buffer.
--     heard reply                how many bytes came
--     IsBesideBytes pages k n at the word at the byte address `at` has none of the n bytes from byte k of these pages on
--     IsBesideQueue h n at       it is none of those of the queue head in hand, of which n bytes were heard
--     IsBesideHand got n h at    .. of what the walk of a frame's chain has in hand
--     IsBeside c at              .. of either walk's
--     IsLinkBesideQueue h n a    the word at a, a multiple of 32, isn't the first of its second block, and has none of the bytes
--     IsLinkBesideHand got n h a, IsLinkBeside c a    the same of the others
use Rattle.std.specs.Prelude.{◌≢◌, ℕ, ◌+◌, ◌*◌, ◌/◌, ◌<◌, List, length, IfSome}
use Rattle.usb_base.specs.declared.packets.Reply.{Reply}
use Rattle.usb_base.specs.declared.packets.Reply.TheVariants.{Bytes}
use Rattle.mem_bytes.specs.Bytes.{place}
use Rattle.mem_descriptors.specs.Descriptors.{slot_address}
use Rattle.hc_copy.specs.declared.held.Held.{Held}
use Rattle.hc_copy.specs.Overlay.{pages_of, buffer_place}
use Rattle.hc_iso.specs.declared.held.HeldItd.{HeldItd}
use Rattle.hc_iso.specs.declared.held.HeldSitd.{HeldSitd}
use Rattle.hc_iso.specs.Sitd.{sitd_place}
use Rattle.hc_iso.specs.WriteBack.{itd_pages, slot_place, sitd_pages}
use Rattle.periodic_walk.specs.declared.state.Hand.{Hand}
use Rattle.periodic_walk.specs.declared.state.Hand.TheVariants as hands
use Rattle.hc_core.specs.Controller.{Control}

abbrev pub heard : Reply → ℕ
heard (Bytes pid bytes) = length bytes
heard _ = 0

abbrev pub IsBesideBytes : List ℕ → ℕ → ℕ → ℕ → Type 0
IsBesideBytes pages k n at = (i : ℕ) → i < n → place pages (k + i) / 4 ≢ at / 4

pub record IsBesideQueue (h : Held) (n at : ℕ) : Type 0 where
  pub overlay : (i : ℕ) → i < 9 → at / 4 ≢ (h.at + 12 + 4 * i) / 4
  pub token : at / 4 ≢ (h.queue_head.current + 8) / 4
  pub bytes : IsBesideBytes (pages_of h.queue_head) (buffer_place h.queue_head) n at

pub record IsBesideItd (h : HeldItd) (n at : ℕ) : Type 0 where
  pub slot : at / 4 ≢ slot_address h.at h.number / 4
  pub bytes : IsBesideBytes (itd_pages h.itd) (slot_place h.slot) n at

pub record IsBesideSitd (h : HeldSitd) (n at : ℕ) : Type 0 where
  pub state : (i : ℕ) → i < 3 → at / 4 ≢ (h.at + 12 + 4 * i) / 4
  pub bytes : IsBesideBytes (sitd_pages h.sitd) (sitd_place h.sitd) n at

abbrev pub IsBesideHand : List ℕ → ℕ → ℕ → Hand → Type 0
IsBesideHand got n at (hands.Queue h) = IsBesideQueue h.copy n at
IsBesideHand got n at (hands.Itd h) = IsBesideItd h (length got) at
IsBesideHand got n at (hands.Sitd h) = IsBesideSitd h n at

pub record IsBeside (c : Control) (at : ℕ) : Type 0 where
  pub frame : IfSome c.frame.hand (IsBesideHand c.frame.got (heard c.frame.reply) at)
  pub ring : IfSome c.walk.held (λ h. IsBesideQueue h (heard c.walk.reply) at)

-- ---- the first word of a block

pub record IsLinkBesideQueue (h : Held) (n a : ℕ) : Type 0 where
  pub second : a ≢ h.at + 32
  pub bytes : IsBesideBytes (pages_of h.queue_head) (buffer_place h.queue_head) n a

pub record IsLinkBesideItd (h : HeldItd) (n a : ℕ) : Type 0 where
  pub second : a ≢ h.at + 32
  pub bytes : IsBesideBytes (itd_pages h.itd) (slot_place h.slot) n a

abbrev pub IsLinkBesideHand : List ℕ → ℕ → ℕ → Hand → Type 0
IsLinkBesideHand got n a (hands.Queue h) = IsLinkBesideQueue h.copy n a
IsLinkBesideHand got n a (hands.Itd h) = IsLinkBesideItd h (length got) a
IsLinkBesideHand got n a (hands.Sitd h) = IsBesideBytes (sitd_pages h.sitd) (sitd_place h.sitd) n a

pub record IsLinkBeside (c : Control) (a : ℕ) : Type 0 where
  pub frame : IfSome c.frame.hand (IsLinkBesideHand c.frame.got (heard c.frame.reply) a)
  pub ring : IfSome c.walk.held (λ h. IsLinkBesideQueue h (heard c.walk.reply) a)
