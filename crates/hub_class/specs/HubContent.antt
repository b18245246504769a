-- What a hub has in it (USB 2.0, 11.1 and 11.14).
use Rattle.std.specs.Prelude.{ℕ, Bool, nat_le, length, List, map}
use Rattle.dev_control.specs.Stages.{Stages, opened}
use Rattle.hub_ports.specs.declared.port.Port.{Port}
use Rattle.hub_ports.specs.Ports.{opened_port}
use Rattle.script_types.specs.declared.devices.HubText.{HubText}
use Rattle.multi_tt.specs.Translators.{Translators, opening_of}

pub record HubContent : Type 0 where
  pub address : ℕ
  pub ports : List Port  -- from port 1 on
  pub control : Stages  -- its endpoint 0
  pub translators : Translators  -- one for all ports, or one for each

-- what each hub of a script has: at most 15 ports
abbrev pub has_few_ports : HubText → Bool
has_few_ports text = nat_le (length text.attached) 15

-- as a script describes it; endpoint 0 has packets of at most 64 bytes
abbrev pub opening : HubText → HubContent
opening text = record {
  address = text.addr;
  ports = map opened_port text.attached;
  control = opened 64 0;
  translators = opening_of (length text.attached) text.multi;
}
