-- A ring for worked rows.
--     ring_endpoints         a bulk endpoint, an interrupt one, which is in no ring, and another bulk one
--     ring_word              the first words of the head and of their queue heads
use Rattle.std.specs.Prelude.{ℕ, ◌==◌, true, false, List, [], ◌∷◌, if◌then◌else◌}
use Rattle.drv_table.specs.declared.content.Endpoint.{Endpoint}
use Rattle.drv_table.specs.Offers.{new_endpoint}
use Rattle.drv_table.specs.Words.{head_block, queue_head_link}
use Rattle.law_driver.specs.run_owners.Worked.{bulk, interrupt}

abbrev pub ring_endpoints : List Endpoint
ring_endpoints = new_endpoint bulk 130 133 ∷ record (new_endpoint interrupt 136 135) { linked = false; chained = true } ∷ new_endpoint bulk 140 142 ∷ []

abbrev pub ring_word : ℕ → ℕ
ring_word b = if b == head_block then queue_head_link 140 else (if b == 140 then queue_head_link 130 else queue_head_link head_block)
