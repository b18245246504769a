-- Endpoints and reports of worked lines.
--     endpoint addr num way          the name of an endpoint
--     told_of name what from len     a report whose bytes are the `len` from `from` on
use Rattle.std.specs.Prelude.{ℕ}
use Rattle.usb_base.specs.declared.endpoints.EpName.{EpName}
use Rattle.usb_base.specs.declared.packets.Way.{Way}
use Rattle.usb_base.specs.declared.reports.Report.{Report}
use Rattle.usb_base.specs.declared.reports.What.{What}

abbrev pub endpoint : ℕ → ℕ → Way → EpName
endpoint addr num way = record { addr = addr; num = num; way = way }

abbrev pub told_of : EpName → What → ℕ → ℕ → Report
told_of name what from len = record { name = name; what = what; from = from; len = len }
