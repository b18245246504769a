-- What differs between hosts, as version 1 of the script language has it.
use Rattle.std.specs.Prelude.{false}
use Rattle.usb_base.specs.declared.rules.Rules.{Rules}

-- 1,024 elements (EHCI 1.0, 2.3.4), no bits stuffed, no park mode (4.10.3.2)
abbrev pub first_rules : Rules
first_rules = record { frames = 1024; stuffed = false; park = 0 }
