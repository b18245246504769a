use Rattle.std.proofs.Common.{◌≡◌, ℕ, Some, sym, subst}
use Rattle.op_registers.specs.RegisterFile.{RegisterFile}
use Rattle.op_registers.specs.Table.{word_of, word_at}
use Rattle.op_registers.specs.Events.{has}
use Rattle.op_registers.specs.declared.register.Register.TheVariants.{Status}
use Rattle.op_registers.proofs.StatusBits.{has_host_system_error}
use Rattle.app_probe.proofs.probing.has_failed.Goals as goal

same_word : (a b : ℕ) → Some a ≡ Some b → a ≡ b
same_word a b e = cc

failed : (r : RegisterFile) (status : ℕ) → Some status ≡ word_at r 0x04 → has status 0x10 ≡ r.host_system_error
failed r status e = subst (λ (word : ℕ). has word 0x10 ≡ r.host_system_error) (sym (same_word status (word_of r Status) e)) (has_host_system_error r)

pub returns-in-Some : goal.returns-in-Some
returns-in-Some c = failed c.args.regs.now c.in-Some.status c.in-Some.ensures
