use Rattle.worked_claims.proofs.Reading.{other_device_breaks, stray_cursor_breaks, error_breaks}
use Rattle.worked_claims.proofs.structures.memory_is_broken_by_a_stray_walk_and_a_fault.Goals as goal

pub returns : goal.returns
returns c = record { words = other_device_breaks; cursor = stray_cursor_breaks; error = error_breaks }
