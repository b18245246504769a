-- How many bytes a report may still tell.
--     owed_of e ts      the most bytes that the transfers of endpoint e tell that have no line of the report yet
use Rattle.std.specs.Prelude.{ℕ, List, sum_by, if◌then◌else◌}
use Rattle.drv_table.specs.declared.content.Transfer.{Transfer}
use Rattle.drv_table.specs.DriverContent.{waits_for}

abbrev pub owed_of : ℕ → List Transfer → ℕ
owed_of e ts = sum_by (λ t. if waits_for e t then t.most else 0) ts
