-- A control endpoint with its queue head in block 130 and two requests, each a SETUP and its status stage: the first SETUP, in block 131, was halted by a STALL
-- (EHCI 1.0, 4.10.3), and the inactive qTD at the end of the queue stands in block 135.
--     asked                  the driver, which hasn't harvested it yet
--     its_part, its_parts    what of its queue memory has
--     its_out                its qTDs that are out
use Rattle.std.specs.Prelude.{ℕ, true, List, [], ◌∷◌, Some}
use Rattle.qh_qtd.specs.declared.qtd.Qtd.{Qtd}
use Rattle.qh_qtd.specs.Blank.{blank_token}
use Rattle.drv_table.specs.declared.content.Endpoint.{Endpoint}
use Rattle.drv_table.specs.DriverContent.{DriverContent}
use Rattle.drv_table.specs.Offers.{new_endpoint}
use Rattle.drv_table.specs.Words.{to_qtd, dummy_qtd}
use Rattle.law_structures.specs.lent_structures.Structures.{QueueHead, Element, Structures, StructureSets, with_structure}
use Rattle.law_queues.specs.mended_heads.Samples.{control, opened, request, halted_head, nothing}

abbrev pub asked_endpoint : Endpoint
asked_endpoint = record (new_endpoint control 130 135) { next = Some 0 }

abbrev pub asked : DriverContent
asked = record opened.driver { endpoints = asked_endpoint ∷ []; transfers = request ∷ record request { first = 133; place = 133 } ∷ [] }

-- ---- its queue

abbrev pub leading_to : ℕ → Qtd
leading_to b = record dummy_qtd { next = to_qtd b }

abbrev pub published_to : ℕ → Qtd
published_to b = record (leading_to b) { token = record blank_token { active = true } }

abbrev pub halted_setup : Qtd
halted_setup = record (leading_to 132) { token = record blank_token { halted = true; pid = 2; cerr = 3; total = 8; toggle = true } }

abbrev pub head_part : Structures
head_part = with_structure nothing 4160 (QueueHead halted_head)

abbrev pub first_part : Structures
first_part = with_structure (with_structure head_part 4192 (Element halted_setup)) 4224 (Element (published_to 133))

abbrev pub its_part : Structures
its_part = with_structure (with_structure (with_structure first_part 4256 (Element (published_to 134))) 4288 (Element (published_to 135))) 4320 (Element dummy_qtd)

abbrev pub its_parts : StructureSets
its_parts n = its_part

abbrev pub its_out : ℕ → List ℕ
its_out n = 4192 ∷ 4224 ∷ 4256 ∷ 4288 ∷ []
