-- What each bit of the word of USBSTS tells.
use Rattle.std.proofs.Common.{◌≡◌, ◌≤◌, ◌∙◌, ◌^◌, ℕ, Bool, true, false, refl, ap, arith, lit≤}
use Rattle.std.specs.Prelude.{◌==◌, not, ◌&&◌}
use Rattle.std.specs.Int.{bit_at}
use Rattle.op_registers.specs.RegisterFile.{RegisterFile}
use Rattle.op_registers.specs.Table.{one_if, word_of}
use Rattle.op_registers.specs.Events.{has}
use Rattle.op_registers.specs.declared.register.Register.TheVariants.{Status}
use Rattle.op_registers.proofs.Bits.{has_bit}

one_if_small : (b : Bool) → one_if b ≤ 1
one_if_small true = lit≤ tt
one_if_small false = lit≤ tt

one_if-test : (b : Bool) → (one_if b == 1) ≡ b
one_if-test true = refl
one_if-test false = refl

-- a bit that is 1 where something holds
told : (k n : ℕ) (b : Bool) → bit_at n k ≡ one_if b → has n (2 ^ k) ≡ b
told k n b bit = has_bit k n ∙ ap (λ d. d == 1) bit ∙ one_if-test b

pub has_interrupt : (r : RegisterFile) → has (word_of r Status) 0x0001 ≡ r.interrupt
has_interrupt r =
    told 0 (word_of r Status) r.interrupt (omega (arith, one_if_small r.interrupt, one_if_small r.error, one_if_small r.port_change, one_if_small r.rollover, one_if_small r.host_system_error, one_if_small r.async_advance, one_if_small (not r.run), one_if_small r.reclamation, one_if_small (r.run && r.periodic_enable), one_if_small (r.run && r.async_enable)))

pub has_error : (r : RegisterFile) → has (word_of r Status) 0x0002 ≡ r.error
has_error r =
    told 1 (word_of r Status) r.error (omega (arith, one_if_small r.interrupt, one_if_small r.error, one_if_small r.port_change, one_if_small r.rollover, one_if_small r.host_system_error, one_if_small r.async_advance, one_if_small (not r.run), one_if_small r.reclamation, one_if_small (r.run && r.periodic_enable), one_if_small (r.run && r.async_enable)))

pub has_port_change : (r : RegisterFile) → has (word_of r Status) 0x0004 ≡ r.port_change
has_port_change r =
    told 2 (word_of r Status) r.port_change (omega (arith, one_if_small r.interrupt, one_if_small r.error, one_if_small r.port_change, one_if_small r.rollover, one_if_small r.host_system_error, one_if_small r.async_advance, one_if_small (not r.run), one_if_small r.reclamation, one_if_small (r.run && r.periodic_enable), one_if_small (r.run && r.async_enable)))

pub has_rollover : (r : RegisterFile) → has (word_of r Status) 0x0008 ≡ r.rollover
has_rollover r =
    told 3 (word_of r Status) r.rollover (omega (arith, one_if_small r.interrupt, one_if_small r.error, one_if_small r.port_change, one_if_small r.rollover, one_if_small r.host_system_error, one_if_small r.async_advance, one_if_small (not r.run), one_if_small r.reclamation, one_if_small (r.run && r.periodic_enable), one_if_small (r.run && r.async_enable)))

pub has_host_system_error : (r : RegisterFile) → has (word_of r Status) 0x0010 ≡ r.host_system_error
has_host_system_error r =
    told 4 (word_of r Status) r.host_system_error (omega (arith, one_if_small r.interrupt, one_if_small r.error, one_if_small r.port_change, one_if_small r.rollover, one_if_small r.host_system_error, one_if_small r.async_advance, one_if_small (not r.run), one_if_small r.reclamation, one_if_small (r.run && r.periodic_enable), one_if_small (r.run && r.async_enable)))

pub has_async_advance : (r : RegisterFile) → has (word_of r Status) 0x0020 ≡ r.async_advance
has_async_advance r =
    told 5 (word_of r Status) r.async_advance (omega (arith, one_if_small r.interrupt, one_if_small r.error, one_if_small r.port_change, one_if_small r.rollover, one_if_small r.host_system_error, one_if_small r.async_advance, one_if_small (not r.run), one_if_small r.reclamation, one_if_small (r.run && r.periodic_enable), one_if_small (r.run && r.async_enable)))

pub has_halted : (r : RegisterFile) → has (word_of r Status) 0x1000 ≡ (not r.run)
has_halted r =
    told 12 (word_of r Status) (not r.run) (omega (arith, one_if_small r.interrupt, one_if_small r.error, one_if_small r.port_change, one_if_small r.rollover, one_if_small r.host_system_error, one_if_small r.async_advance, one_if_small (not r.run), one_if_small r.reclamation, one_if_small (r.run && r.periodic_enable), one_if_small (r.run && r.async_enable)))

pub has_reclamation : (r : RegisterFile) → has (word_of r Status) 0x2000 ≡ r.reclamation
has_reclamation r =
    told 13 (word_of r Status) r.reclamation (omega (arith, one_if_small r.interrupt, one_if_small r.error, one_if_small r.port_change, one_if_small r.rollover, one_if_small r.host_system_error, one_if_small r.async_advance, one_if_small (not r.run), one_if_small r.reclamation, one_if_small (r.run && r.periodic_enable), one_if_small (r.run && r.async_enable)))

pub has_periodic_status : (r : RegisterFile) → has (word_of r Status) 0x4000 ≡ (r.run && r.periodic_enable)
has_periodic_status r =
    told 14 (word_of r Status) (r.run && r.periodic_enable) (omega (arith, one_if_small r.interrupt, one_if_small r.error, one_if_small r.port_change, one_if_small r.rollover, one_if_small r.host_system_error, one_if_small r.async_advance, one_if_small (not r.run), one_if_small r.reclamation, one_if_small (r.run && r.periodic_enable), one_if_small (r.run && r.async_enable)))

pub has_async_status : (r : RegisterFile) → has (word_of r Status) 0x8000 ≡ (r.run && r.async_enable)
has_async_status r =
    told 15 (word_of r Status) (r.run && r.async_enable) (omega (arith, one_if_small r.interrupt, one_if_small r.error, one_if_small r.port_change, one_if_small r.rollover, one_if_small r.host_system_error, one_if_small r.async_advance, one_if_small (not r.run), one_if_small r.reclamation, one_if_small (r.run && r.periodic_enable), one_if_small (r.run && r.async_enable)))

-- all of them, for a search
pub ruleset status_bits = (has_interrupt, has_error, has_port_change, has_rollover, has_host_system_error, has_async_advance, has_halted, has_reclamation, has_periodic_status, has_async_status)
