-- The frame list of a driver is in order (EHCI 1.0, 4.6): queue heads by period, phase and order of opening, descriptors by frame, each in
-- range, and no two members of one name.
use Rattle.drv_members.specs.Members.{IsKept}
use Rattle.drv_table.specs.DriverContent.{DriverContent}

abbrev pub IsOrdered : DriverContent → Type 0
IsOrdered d = IsKept d.periodic.list.members.schedule
