use Rattle.std.proofs.Common.{arith, ◌≡◌, ◌∙◌, true, false, List, ap, sym, subst}
use Rattle.std.proofs.lemmas.List.{take_all}
use Rattle.root_ports.specs.declared.port.Port.{Port as OnePort}
use Rattle.root_ports.specs.Ports.{bit, is_enabled, opened, played, port_status}
use Rattle.root_ports.proofs.Readiness.{enabled_where_ready}
use Rattle.root_ports.proofs.Readings.{given_reads}
use Rattle.root_ports.proofs.root_ports.play.Goals as goal

pub returns-clause-ports : goal.returns-clause-ports
returns-clause-ports c = c.loop-e.invariant ∙ ap (played (opened c.args.things c.args.n)) (take_all c.loop-e.e-index c.args.events.now (omega arith))

pub returns-clause-ready : goal.returns-clause-ready
returns-clause-ready c port = ap (is_enabled port) (returns-clause-ports c) ∙ enabled_where_ready c.args.things c.args.n c.args.events.now port

pub returns-clause-given : goal.returns-clause-given
returns-clause-given c port =
    subst (λ (ports : List OnePort). bit (port_status port ports) 13 ≡ true → (bit (port_status port ports) 0 ≡ false) × (bit (port_status port ports) 2 ≡ false))
    (sym (returns-clause-ports c))
    (given_reads c.args.things c.args.n c.args.events.now port)
