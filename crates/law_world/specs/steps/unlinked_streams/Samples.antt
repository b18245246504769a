-- A worked ring: two bulk endpoints, the older with its queue head in block 130 and the newer in block 140, and the older is cancelled.
--     two                  both of them
--     cancelling           the driver once the cancel was accepted
--     word, word_then      the first words of the queue heads, before the store and after it
--     newer, copy          the newer queue head, and a copy of it in hand
use Rattle.std.specs.Prelude.{ℕ, ◌==◌, List, [], ◌∷◌, if◌then◌else◌}
use Rattle.word_mem.specs.Memory.{all_lent}
use Rattle.qh_qtd.specs.declared.queue_head.Qh.{Qh}
use Rattle.drv_table.specs.declared.content.Endpoint.{Endpoint}
use Rattle.drv_table.specs.Opening.{opening, opening_registers}
use Rattle.drv_table.specs.Offers.{new_endpoint}
use Rattle.drv_table.specs.CancelOffers.{accepted_cancel}
use Rattle.drv_table.specs.Parts.{Parts as DriverParts}
use Rattle.drv_table.specs.Words.{queue_head_link, queue_head}
use Rattle.law_driver.specs.run_owners.Worked.{bulk}
use Rattle.law_ring.specs.Hand.{Copy}
use Rattle.usb_base.specs.Rules.{first_rules}

abbrev pub older_endpoint : Endpoint
older_endpoint = new_endpoint bulk 130 133

abbrev pub two : List Endpoint
two = older_endpoint ∷ new_endpoint bulk 140 142 ∷ []

abbrev pub cancelling : DriverParts
cancelling = record {
  driver = accepted_cancel (record (opening 2048 (record { endpoints = 4; transfers = 8; reports = 8; report_bytes = 4096; rules = first_rules })).driver { endpoints = two }) 0 older_endpoint;
  registers = opening_registers;
  memory = all_lent [];
}

abbrev pub word : ℕ → ℕ
word b = if b == 128 then queue_head_link 140 else (if b == 140 then queue_head_link 130 else queue_head_link 128)

abbrev pub word_then : ℕ → ℕ
word_then b = if b == 140 then queue_head_link 128 else word b

abbrev pub newer : Qh
newer = queue_head bulk 130 142

abbrev pub copy : Copy
copy = record { at = 4480; queue = newer; link = newer.link; naks = 0 }
