-- A ring of queue heads at any moment of the controller's walk (EHCI 1.0, 4.8 and 4.10): any number of queue heads, each with its qTDs and their
-- buffers, wherever the walk is and whatever it has in hand.
--     IsCopied ..              a copy in hand is one of a queue head that the walk may meet, and leads to another
--     IsSettled q reply s      what the last transaction of a queue head came to, where this reply was heard
--     IsStale member n q       a stale copy leads to a queue head that the walk may meet
--     IsInHand ..              what is in hand is so
--     IsRing base member parts hand p
--                              memory is told by these structures, the queue heads that the walk may meet are sound, the walk is among them, and
--                              has this in hand
use Rattle.std.specs.Prelude.{◌≡◌, ℕ, ◌<◌, Bool, true, slice_index, Some}
use Rattle.usb_base.specs.declared.packets.Reply.{Reply}
use Rattle.link_words.specs.declared.kinds.Link.TheVariants as links
use Rattle.qh_qtd.specs.declared.queue_head.Qh.{Qh}
use Rattle.qh_qtd.specs.QueueHead.{IsQhInRange}
use Rattle.law_structures.specs.lent_structures.Settles.{Leaves, Brings}
use Rattle.hc_copy.specs.Planning.{pid_at, host_in}
use Rattle.hc_copy.specs.WriteBack.{received}
use Rattle.async_walk.specs.Rows.{WalkPlace, cursor_link}
use Rattle.law_structures.specs.lent_structures.Structures.{QueueHead, StructureSets, Tells}
use Rattle.law_structures.specs.lent_structures.Sound.{LeadsAmong, IsMember}
use Rattle.law_ring.specs.Hand.{Copy, copied_queue, Settlement, Hand, Empty, Copied, Settled, Stale, held_of}
use Rattle.claims_base.specs.Controller.{Base, base_of}

-- ---- the walk

-- the walk goes on at a queue head that it may meet
pub record IsCursorAmong (member : ℕ → Bool) (p : WalkPlace) : Type 0 where
  pub to : ℕ
  pub leads : cursor_link p.registers p.walk.cursor ≡ links.Qh to
  pub on : member to ≡ true

pub record IsCopied (member : ℕ → Bool) (parts : StructureSets) (c : Copy) : Type 0 where
  pub on : member c.at ≡ true
  pub here : parts c.at c.at ≡ Some (QueueHead c.queue)
  pub link : LeadsAmong member c.link
  pub range : IsQhInRange (copied_queue c)

pub record IsSettled (q : Qh) (reply : Reply) (s : Settlement) : Type 0 where
  pub works : q.token.active ≡ true
  pub host : Leaves (host_in q) s.outcome s.host
  pub bytes : Brings (pid_at q.token.pid) s.outcome s.got
  pub got : s.got ≡ received q s.outcome reply
  pub are_bytes : (i : ℕ) → slice_index s.got i < 256

pub record IsStale (member : ℕ → Bool) (n : ℕ) (q : Qh) : Type 0 where
  pub on : member n ≡ true
  pub link : LeadsAmong member q.link
  pub halted : q.token.halted ≡ true

abbrev pub IsInHand : (ℕ → Bool) → StructureSets → Reply → Hand → Type 0
IsInHand member parts reply Empty = Unit {0}
IsInHand member parts reply (Copied c) = IsCopied member parts c
IsInHand member parts reply (Settled c s) = IsCopied member parts c × IsSettled c.queue reply s
IsInHand member parts reply (Stale n q) = IsStale member n q

-- ---- the whole

pub record IsRing (base : Base) (member : ℕ → Bool) (parts : StructureSets) (hand : Hand) (p : WalkPlace) : Type 0 where
  pub tells : Tells p.memory parts
  pub members : (n : ℕ) → member n ≡ true → IsMember member n (parts n)
  pub registers : base_of p.registers ≡ base
  pub start : member base.async_list_address ≡ true
  pub cursor : IsCursorAmong member p
  pub held : p.walk.held ≡ held_of hand
  pub in_hand : IsInHand member parts p.walk.reply hand
