-- Tokens that tell no missed microframe, and that have errors left (EHCI 1.0, 3.5.3, 3.6.2, 4.10.3 and 4.12.2).
--     Key, key_of q        what a queue head says of its endpoint, which no event changes
--     HasLeft Q x ..       at high speed no microframe is missed; and where x is one of Q, what is active or halted has errors left, and an
--                          active SETUP has all its bytes left
--     TokenHasLeft, HostHasLeft      so it is of a token, and of the host's side of a transaction
--     PartHasLeft Q n part           .. of the queue head at n and of its qTDs
--     HandHasLeft Q hand             .. of what is in hand, and isn't written back yet
--     IsFirstQtd t                   the first qTD of a transfer as it is stored: nothing is missed, it isn't halted, has errors left and
--                                    begins with a start-split, and a SETUP has its eight bytes
--     PublishesLeft made command     so is that of a transfer which is being stored
use Rattle.std.specs.Prelude.{◌≡◌, ◌≢◌, ℕ, ◌≤◌, Bool, true, false, Option, Some}
use Rattle.qh_qtd.specs.declared.qtd.Qtd.{Qtd}
use Rattle.qh_qtd.specs.declared.queue_head.Qh.{Qh}
use Rattle.qh_qtd.specs.declared.token.Token.{Token}
use Rattle.qh_qtd.specs.Qtd.{qtd_words, IsQtdInRange}
use Rattle.usb_base.specs.declared.packets.Pid.TheVariants.{Setup}
use Rattle.toggle_error.specs.declared.host.HostSide.{HostSide}
use Rattle.hc_copy.specs.Planning.{pid_at}
use Rattle.drv_table.specs.declared.content.Command.{Command}
use Rattle.drv_table.specs.declared.content.Command.TheVariants as unfinished
use Rattle.law_structures.specs.lent_structures.Structures.{QueueHead, Element, Structures}
use Rattle.law_ring.specs.Hand.{Hand, Empty, Copied, Settled, Stale}

pub record Key : Type 0 where
  pub addr : ℕ
  pub ep : ℕ
  pub eps : ℕ
  pub dtc : Bool
  pub smask : ℕ

abbrev pub key_of : Qh → Key
key_of q = record { addr = q.addr; ep = q.ep; eps = q.eps; dtc = q.dtc; smask = q.smask }

pub record HasLeft (Q : Key → Bool) (x : Key) (missed active halted : Bool) (cerr pid total : ℕ) : Type 0 where
  pub met : x.eps ≡ 2 → missed ≡ false
  pub going : Q x ≡ true → active ≡ true → cerr ≢ 0
  pub stopped : Q x ≡ true → halted ≡ true → cerr ≢ 0
  pub setup : Q x ≡ true → pid_at pid ≡ Setup → active ≡ true → total ≡ 8

abbrev pub TokenHasLeft : (Key → Bool) → Key → Token → Type 0
TokenHasLeft Q x t = HasLeft Q x t.missed t.active t.halted t.cerr t.pid t.total

-- of a token with this PID code
abbrev pub HostHasLeft : (Key → Bool) → Key → ℕ → HostSide → Type 0
HostHasLeft Q x pid z = HasLeft Q x z.missed z.active z.halted z.cerr pid z.left

pub record PartHasLeft (Q : Key → Bool) (n : ℕ) (part : Structures) : Type 0 where
  pub head : (q : Qh) → part n ≡ Some (QueueHead q) → TokenHasLeft Q (key_of q) q.token
  pub elements : (q : Qh) (a : ℕ) (t : Qtd) → part n ≡ Some (QueueHead q) → part a ≡ Some (Element t) → TokenHasLeft Q (key_of q) t.token

abbrev pub HandHasLeft : (Key → Bool) → Hand → Type 0
HandHasLeft Q Empty = Unit {0}
HandHasLeft Q (Copied c) = Unit {0}
HandHasLeft Q (Settled c z) = HostHasLeft Q (key_of c.queue) c.queue.token.pid z.host
HandHasLeft Q (Stale n q) = Unit {0}

pub record IsFirstQtd (t : Qtd) : Type 0 where
  pub met : t.token.missed ≡ false
  pub goes : t.token.halted ≡ false
  pub counts : t.token.cerr ≢ 0
  pub begins : t.token.split_state ≡ false
  pub setup : pid_at t.token.pid ≡ Setup → t.token.total ≡ 8

-- once the others of its transfer are lent; whatever queue head it is of
abbrev pub PublishesLeft : ℕ → Option Command → Type 0
PublishesLeft made (Some (unfinished.Publish b words)) =
    1 ≤ made → (t : Qtd) → words ≡ qtd_words t → IsQtdInRange t → IsFirstQtd t
PublishesLeft made _ = Unit {0}
