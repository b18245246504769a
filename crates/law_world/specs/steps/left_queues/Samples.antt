-- A driver of worked rows. Endpoint 0 was cancelled before the answered doorbell and is to be given back: its queue head stands in block 1, and the inactive qTD at its
-- end in block 3.
--     cleared_driver      the driver, with no transfer
--     cleared_parts       .. with six blocks
--     only_end            what is told of its queue: the inactive qTD
--     head_alone          the walk meets the head of the ring, and no other queue head
--     rung_parts          a driver with one bulk endpoint in the ring, one that waits, and one that was there when the doorbell was rung
use Rattle.std.specs.Prelude.{ℕ, ◌*◌, ◌==◌, ◌&&◌, Bool, false, List, [], Some, None, if◌then◌else◌}
use Rattle.drv_table.specs.DriverContent.{DriverContent}
use Rattle.drv_table.specs.Parts.{Parts}
use Rattle.drv_table.specs.Words.{head_block, dummy_qtd}
use Rattle.law_structures.specs.lent_structures.Structures.{Element, StructureSets}
use Rattle.law_world.specs.steps.endpoint_releases.Samples.{left_driver, left_parts}
use Rattle.law_queues.specs.reached_rings.Worked.{leaving_driver}

abbrev pub cleared_driver : DriverContent
cleared_driver = record left_driver { transfers = [] }

abbrev pub cleared_parts : Parts
cleared_parts = record left_parts { driver = cleared_driver }

abbrev pub only_end : StructureSets
only_end n a = if (n == 32) && (a == 96) then Some (Element dummy_qtd) else None

abbrev pub head_alone : ℕ → Bool
head_alone n = n == 32 * head_block

abbrev pub no_stream : ℕ → Bool
no_stream n = false

abbrev pub as_addresses : ℕ → ℕ → ℕ
as_addresses n a = a

abbrev pub none_out : ℕ → List ℕ
none_out n = []

abbrev pub rung_parts : Parts
rung_parts = record left_parts { driver = leaving_driver }
