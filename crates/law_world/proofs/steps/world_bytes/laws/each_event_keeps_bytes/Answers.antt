use Rattle.law_world.proofs.lemmas.steps.lemmas.world_bytes.Turning.{opened_bytes, next_bytes, commanded_bytes, run_bytes}
use Rattle.law_world.proofs.steps.world_bytes.laws.each_event_keeps_bytes.Goals as goal

pub returns : goal.returns
returns c = record { opening = opened_bytes; event = next_bytes; command = commanded_bytes; run = run_bytes }
