-- An interrupt endpoint for the worked rows: that of the driver that `run_owners` has for them.
use Rattle.std.specs.Prelude.{ℕ, true, false, Some}
use Rattle.bandwidth.specs.declared.placements.Placement.{Placement}
use Rattle.claims_driver.specs.FrameListMembers.{Framed}

abbrev pub each_frame : Placement
each_frame = record { period = 8; phase = 0; smask = 1; cmask = 0 }

abbrev pub each_other_frame : Placement
each_other_frame = record { period = 16; phase = 1; smask = 1; cmask = 0 }

-- with its queue head in this block
abbrev pub polled_from : ℕ → Framed
polled_from b = record { chained = true; isochronous = false; queue = b; placement = Some each_frame }
