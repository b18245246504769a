-- Runs of scripts in which the controller goes on (EHCI 1.0, 2.3.1, 2.3.2 and 4.15.2.4): what is so while Run is 1, whatever the script opens.
--     NoErrorWhileItRuns       while the controller of a script runs, Host System Error is 0
--     NoRefusalWhileItRuns    .. and no refusal is counted
use Rattle.std.specs.Prelude.{◌≡◌, ℕ, true, false}
use Rattle.script_types.specs.declared.scripts.Script.{Script}
use Rattle.bus_world.specs.Budgets.{moment}

-- EHCI 1.0, 2.3.2 and 4.15.2.4: the fault clears Run and sets Host System Error, and nothing else sets that
abbrev pub NoErrorWhileItRuns : Type 0
NoErrorWhileItRuns = (s : Script) → ((k : ℕ) → (moment s k).world.registers.run ≡ true) → (k : ℕ) → (moment s k).world.registers.host_system_error ≡ false

-- the driver's events and commands change no count, and an event of the controller that counts one clears Run
abbrev pub NoRefusalWhileItRuns : Type 0
NoRefusalWhileItRuns = (s : Script) → ((k : ℕ) → (moment s k).world.registers.run ≡ true) → (k : ℕ) → (moment s k).world.memory.foreign ≡ 0
