-- The words of a queue head that no event writes are those of its endpoint (EHCI 1.0, 3.6.2).
--     characteristics x, capabilities x   these words of the endpoint x
--     IsMet d e x                         a walk may meet its queue head: it is in the ring, or has left since the last answered doorbell
--                                         was rung
--     AreFixed m d                        the words stand
use Rattle.std.specs.Prelude.{◌≡◌, ℕ, ◌+◌, ◌*◌, ◌⊎◌, true, ◌++◌, slice_get, slice_index, Some}
use Rattle.usb_base.specs.declared.endpoints.EpDesc.{EpDesc}
use Rattle.word_mem.specs.Memory.{Mem, word_at}
use Rattle.qh_qtd.specs.QueueHead.{qh_words}
use Rattle.drv_table.specs.declared.content.Endpoint.{Endpoint}
use Rattle.drv_table.specs.DriverContent.{DriverContent}
use Rattle.drv_table.specs.Words.{head_block, queue_head, opening_head}
use Rattle.claims_driver.specs.Ring.{IsAmong}

-- they are the same whatever the queue head leads to
abbrev pub characteristics : EpDesc → ℕ
characteristics x = slice_index (qh_words (queue_head x 0 0)) 1

abbrev pub capabilities : EpDesc → ℕ
capabilities x = slice_index (qh_words (queue_head x 0 0)) 2

abbrev pub IsMet : DriverContent → ℕ → Endpoint → Type 0
IsMet d e x = (x.linked ≡ true) ⊎ IsAmong e (d.rung ++ d.waiting)

pub record IsFixed (m : Mem) (b first second : ℕ) : Type 0 where
  pub characteristics : word_at m (32 * b + 4) ≡ first
  pub capabilities : word_at m (32 * b + 8) ≡ second

pub record AreFixed (m : Mem) (d : DriverContent) : Type 0 where
  pub each : (e : ℕ) (x : Endpoint) → slice_get d.endpoints e ≡ Some x → IsMet d e x → IsFixed m x.queue (characteristics x.desc) (capabilities x.desc)
  pub head : IsFixed m head_block (slice_index (qh_words opening_head) 1) (slice_index (qh_words opening_head) 2)
