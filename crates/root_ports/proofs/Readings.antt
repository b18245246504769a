-- What the bits of PORTSC tell.
use Rattle.std.proofs.Common.{◌≡◌, ◌∙◌, ◌≤◌, ◌/◌, ◌%◌, ◌^◌, ℕ, Bool, true, false, not, ◌&&◌, if◌then◌else◌, List, refl, ap, sym, arith, lit≤}
use Rattle.std.specs.Prelude.{◌==◌, Option, Some, None}
use Rattle.root_ports.specs.declared.port.Plugged.{Plugged}
use Rattle.root_ports.specs.declared.port.Plugged.TheVariants.{High, Full, Low}
use Rattle.root_ports.specs.declared.port.Port.{Port}
use Rattle.root_ports.specs.declared.port_event.PortEvent.{PortEvent}
use Rattle.root_ports.specs.Ports.{bit, one_if, line_of, line_status, port_word, port_at, word_of_port, port_status, opened, played}
use Rattle.root_ports.proofs.Soundness.{IsSound}
use Rattle.root_ports.proofs.Readiness.{always_sound}

one_if_small : (b : Bool) → one_if b ≤ 1
one_if_small true = lit≤ tt
one_if_small false = lit≤ tt

one_if-test : (b : Bool) → (one_if b == 1) ≡ b
one_if-test true = refl
one_if-test false = refl

line_small : (thing : Option Plugged) → line_of thing ≤ 2
line_small None = lit≤ tt
line_small (Some High) = lit≤ tt
line_small (Some Full) = lit≤ tt
line_small (Some Low) = lit≤ tt

line_status_if : (b : Bool) (thing : Option Plugged) → (if b then line_of thing else 0) ≤ 2
line_status_if true thing = line_small thing
line_status_if false thing = lit≤ tt

line_status_small : (p : Port) → line_status p ≤ 2
line_status_small p = line_status_if (p.connection && (not p.enable && not p.reset)) p.thing

told : (word k : ℕ) (b : Bool) → word / 2 ^ k % 2 ≡ one_if b → bit word k ≡ b
told word k b is = ap (λ d. d == 1) is ∙ one_if-test b

pub tells_connection : (p : Port) → bit (port_word p) 0 ≡ p.connection
tells_connection p =
    told (port_word p) 0 p.connection (omega (arith, one_if_small p.connection, one_if_small p.connection_changed, one_if_small p.enable, one_if_small p.reset, line_status_small p, one_if_small p.power, one_if_small p.owner))

pub tells_change : (p : Port) → bit (port_word p) 1 ≡ p.connection_changed
tells_change p =
    told (port_word p) 1 p.connection_changed (omega (arith, one_if_small p.connection, one_if_small p.connection_changed, one_if_small p.enable, one_if_small p.reset, line_status_small p, one_if_small p.power, one_if_small p.owner))

pub tells_enable : (p : Port) → bit (port_word p) 2 ≡ p.enable
tells_enable p =
    told (port_word p) 2 p.enable (omega (arith, one_if_small p.connection, one_if_small p.connection_changed, one_if_small p.enable, one_if_small p.reset, line_status_small p, one_if_small p.power, one_if_small p.owner))

pub tells_reset : (p : Port) → bit (port_word p) 8 ≡ p.reset
tells_reset p =
    told (port_word p) 8 p.reset (omega (arith, one_if_small p.connection, one_if_small p.connection_changed, one_if_small p.enable, one_if_small p.reset, line_status_small p, one_if_small p.power, one_if_small p.owner))

pub tells_power : (p : Port) → bit (port_word p) 12 ≡ p.power
tells_power p =
    told (port_word p) 12 p.power (omega (arith, one_if_small p.connection, one_if_small p.connection_changed, one_if_small p.enable, one_if_small p.reset, line_status_small p, one_if_small p.power, one_if_small p.owner))

pub tells_owner : (p : Port) → bit (port_word p) 13 ≡ p.owner
tells_owner p =
    told (port_word p) 13 p.owner (omega (arith, one_if_small p.connection, one_if_small p.connection_changed, one_if_small p.enable, one_if_small p.reset, line_status_small p, one_if_small p.power, one_if_small p.owner))

-- all of them, for a search
pub ruleset port_bits = (tells_connection, tells_change, tells_enable, tells_reset, tells_power, tells_owner)

high_when : (p : Port) → IsSound p → p.enable ≡ true → p.thing ≡ Some High
high_when p h on = grind (arith, h, on)

pub only_high : (things : List (Option Plugged)) (n : ℕ) (events : List PortEvent) (port : ℕ) (p : Port) → port_at port (played (opened things n) events) ≡ Some p
    → p.enable ≡ true → p.thing ≡ Some High
only_high things n events port p there on = high_when p (always_sound things n events port p there) on

given_port : (p : Port) → IsSound p → p.owner ≡ true → (p.connection ≡ false) × (p.enable ≡ false)
given_port p h owner = (grind (arith, h, owner), grind (arith, h, owner))

given_word : (o : Option Port) → ((p : Port) → o ≡ Some p → IsSound p) → bit (word_of_port o) 13 ≡ true → (bit (word_of_port o) 0 ≡ false) × (bit (word_of_port o) 2 ≡ false)
given_word None h on = (refl, refl)
given_word (Some p) h on =
    let off = given_port p (h p refl) (sym (tells_owner p) ∙ on) in
    (tells_connection p ∙ off.0, tells_enable p ∙ off.1)

pub given_reads : (things : List (Option Plugged)) (n : ℕ) (events : List PortEvent) (port : ℕ) → let word = port_status port (played (opened things n) events) in
    bit word 13 ≡ true → (bit word 0 ≡ false) × (bit word 2 ≡ false)
given_reads things n events port = given_word (port_at port (played (opened things n) events)) (always_sound things n events port)
