-- Where a walk of the ring may go (EHCI 1.0, 4.8 and 4.8.2): to the head, to the queue heads in the ring, and to those that have left since
-- the last answered doorbell was rung; and how far the doorbell is.
--     IsBellIn d r           while no doorbell is pending no batch is rung, and doorbell and Async Advance are 0; once Async Advance is 1,
--                            or was read, the doorbell is 0
--     IsReached d rings b    block b is such a queue head; `rings`: the doorbell isn't answered yet
--     LeadsOn d rings link   the link leads to one
--     IsWalkIn d r w         the cursor and the copy in hand name such queue heads, and the copy leads to one
--     AreNumbered d          the address and the number of each endpoint fit their fields (USB 2.0, 8.3.2): 7 and 4 bits
use Rattle.std.specs.Prelude.{◌≡◌, ℕ, ◌*◌, ◌<◌, Bool, true, false, [], slice_get, Some}
use Rattle.usb_base.specs.declared.endpoints.EpDesc.{EpDesc}
use Rattle.link_words.specs.declared.kinds.Link.{Link}
use Rattle.link_words.specs.declared.kinds.Link.TheVariants as links
use Rattle.link_words.specs.Links.{link_of}
use Rattle.op_registers.specs.RegisterFile.{RegisterFile}
use Rattle.drv_table.specs.declared.content.Bell.TheVariants as bells
use Rattle.drv_table.specs.declared.content.Endpoint.{Endpoint}
use Rattle.drv_table.specs.DriverContent.{DriverContent}
use Rattle.drv_table.specs.Words.{head_block}
use Rattle.hc_copy.specs.declared.held.Held.{Held}
use Rattle.async_walk.specs.Rows.{cursor_link}
use Rattle.async_walk.specs.Walk.{Walk}
use Rattle.claims_driver.specs.Ring.{IsAmong, IsQueueOf}

pub record IsBellIn (d : DriverContent) (r : RegisterFile) : Type 0 where
  pub quiet : d.bell ≡ bells.Quiet → (d.rung ≡ []) × (r.async_advance ≡ false) × (r.doorbell ≡ false)
  pub answered : r.async_advance ≡ true → r.doorbell ≡ false
  pub heard : d.bell ≡ bells.Heard → r.doorbell ≡ false

pub data IsReached (d : DriverContent) (rings : Bool) (b : ℕ) : Type 0 where
  at_head : b ≡ head_block → IsReached d rings b
  at_member : (e : ℕ) (at : IsQueueOf d.endpoints e b) → at.endpoint.linked ≡ true → IsReached d rings b
  at_waiting : (e : ℕ) → IsQueueOf d.endpoints e b → IsAmong e d.waiting → IsReached d rings b
  at_rung : (e : ℕ) → IsQueueOf d.endpoints e b → IsAmong e d.rung → rings ≡ true → IsReached d rings b

pub record LeadsOn (d : DriverContent) (rings : Bool) (link : Link) : Type 0 where
  pub block : ℕ
  pub is : link ≡ links.Qh (32 * block)
  pub reached : IsReached d rings block

-- a copy in hand
pub record IsCopyIn (d : DriverContent) (rings : Bool) (h : Held) : Type 0 where
  pub block : ℕ
  pub at : h.at ≡ 32 * block
  pub reached : IsReached d rings block
  pub next : LeadsOn d rings (link_of h.queue_head.link)

pub record IsWalkIn (d : DriverContent) (r : RegisterFile) (w : Walk) : Type 0 where
  pub start : r.async_list_address ≡ 32 * head_block
  pub cursor : LeadsOn d r.doorbell (cursor_link r w.cursor)
  pub copy : (h : Held) → w.held ≡ Some h → IsCopyIn d r.doorbell h

abbrev pub IsNumbered : EpDesc → Type 0
IsNumbered x = (x.name.addr < 128) × (x.name.num < 16)

abbrev pub AreNumbered : DriverContent → Type 0
AreNumbered d = (e : ℕ) (x : Endpoint) → slice_get d.endpoints e ≡ Some x → IsNumbered x.desc
