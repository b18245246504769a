-- The words of registers tell all that they hold.
use Rattle.std.proofs.Common.{None, ◌≡◌, ◌≤◌, ◌∙◌, ◌^◌, ◌<◌, ◌*◌, ℕ, Bool, true, false, refl, ap, sym, arith, lit≤}
use Rattle.std.specs.Prelude.{◌==◌, ◌||◌}
use Rattle.op_registers.specs.RegisterFile.{RegisterFile}
use Rattle.op_registers.specs.declared.register.Register.TheVariants.{Command, InterruptEnable, FrameIndex, PeriodicListBase, AsyncListAddress}
use Rattle.op_registers.specs.Table.{one_if, word_of, bits_of}
use Rattle.op_registers.proofs.StatusBits.{has_interrupt, has_error, has_port_change, has_rollover, has_host_system_error, has_async_advance, has_reclamation}
use Rattle.hc_microframe.specs.State.{shown, file_of, IsHeld, WordsKeepRegisters}

one_if_small : (b : Bool) → one_if b ≤ 1
one_if_small true = lit≤ tt
one_if_small false = lit≤ tt

one_if-test : (b : Bool) → (one_if b == 1) ≡ b
one_if-test true = refl
one_if-test false = refl

or_false : (b : Bool) → (b || false) ≡ b
or_false true = refl
or_false false = refl

run_bit : (r : RegisterFile) → r.list_size < 2 ^ 2 → bits_of (word_of r Command) 0 0 ≡ one_if r.run
run_bit r few = omega (arith, few, one_if_small r.run, one_if_small r.periodic_enable, one_if_small r.async_enable, one_if_small r.doorbell)

reset_bit : (r : RegisterFile) → r.list_size < 2 ^ 2 → bits_of (word_of r Command) 1 1 ≡ 0
reset_bit r few = omega (arith, few, one_if_small r.run, one_if_small r.periodic_enable, one_if_small r.async_enable, one_if_small r.doorbell)

periodic_bit : (r : RegisterFile) → r.list_size < 2 ^ 2 → bits_of (word_of r Command) 4 4 ≡ one_if r.periodic_enable
periodic_bit r few = omega (arith, few, one_if_small r.run, one_if_small r.periodic_enable, one_if_small r.async_enable, one_if_small r.doorbell)

async_bit : (r : RegisterFile) → r.list_size < 2 ^ 2 → bits_of (word_of r Command) 5 5 ≡ one_if r.async_enable
async_bit r few = omega (arith, few, one_if_small r.run, one_if_small r.periodic_enable, one_if_small r.async_enable, one_if_small r.doorbell)

doorbell_bit : (r : RegisterFile) → r.list_size < 2 ^ 2 → bits_of (word_of r Command) 6 6 ≡ one_if r.doorbell
doorbell_bit r few = omega (arith, few, one_if_small r.run, one_if_small r.periodic_enable, one_if_small r.async_enable, one_if_small r.doorbell)

threshold_bits : (r : RegisterFile) → r.list_size < 2 ^ 2 → r.threshold < 2 ^ 8 → bits_of (word_of r Command) 23 16 ≡ r.threshold
threshold_bits r few small =
    omega (arith, few, small, one_if_small r.run, one_if_small r.periodic_enable, one_if_small r.async_enable, one_if_small r.doorbell)

size_bits : (r : RegisterFile) → r.list_size < 2 ^ 2 → bits_of (word_of r Command) 3 2 ≡ r.list_size
size_bits r few = omega (arith, few, one_if_small r.run, one_if_small r.periodic_enable, one_if_small r.async_enable, one_if_small r.doorbell)

enable_bits : (r : RegisterFile) → IsHeld r → bits_of (word_of r InterruptEnable) 5 0 ≡ r.interrupt_enable
enable_bits r held = omega (arith, held.ranges.enables_named)

frame_bits : (r : RegisterFile) → IsHeld r → bits_of (word_of r FrameIndex) 13 0 ≡ r.frame_index
frame_bits r held = omega (arith, held.ranges.index_wraps)

list_bits : (r : RegisterFile) → IsHeld r → bits_of (word_of r PeriodicListBase) 31 12 * 2 ^ 12 ≡ r.periodic_list_base
list_bits r held = omega (arith, held.ranges.base_aligned, held.base_fits)

ring_bits : (r : RegisterFile) → IsHeld r → bits_of (word_of r AsyncListAddress) 31 5 * 2 ^ 5 ≡ r.async_list_address
ring_bits r held = omega (arith, held.ranges.address_aligned, held.address_fits)

configured_bit : (b : Bool) → (bits_of (one_if b) 0 0 == 1) ≡ b
configured_bit true = refl
configured_bit false = refl

resets : (r : RegisterFile) → r.list_size < 2 ^ 2 → (bits_of (word_of r Command) 1 1 == 1) ≡ false
resets r few = ap (λ (n : ℕ). n == 1) (reset_bit r few)

all_but_ports : (r : RegisterFile) (cursor : ℕ) → IsHeld r → file_of (shown r cursor) ≡ record r { ports = None }
all_but_ports r cursor held =
    rw (resets r held.ranges.size_coded)
    (simp (
      run_bit r held.ranges.size_coded,
      size_bits r held.ranges.size_coded,
      periodic_bit r held.ranges.size_coded,
      async_bit r held.ranges.size_coded,
      doorbell_bit r held.ranges.size_coded,
      threshold_bits r held.ranges.size_coded held.threshold,
      enable_bits r held,
      frame_bits r held,
      list_bits r held,
      ring_bits r held,
      configured_bit,
      has_interrupt r,
      has_error r,
      has_port_change r,
      has_rollover r,
      has_host_system_error r,
      has_async_advance r,
      has_reclamation r,
      one_if-test,
      or_false,
    ))

pub words_keep_registers : WordsKeepRegisters
words_keep_registers r cursor held = all_but_ports r cursor held ∙ ap (λ ports. record r { ports = ports }) (sym held.ports)
