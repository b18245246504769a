use Rattle.std.proofs.Common.{arith, []}
use Rattle.bus_wire.specs.Samples.{script}
use Rattle.law_scripts.specs.byte_answers.Bytes.{IsByteScript}
use Rattle.law_world.proofs.lemmas.steps.lemmas.world_bytes.Turning.{opened_bytes}
use Rattle.law_world.proofs.lemmas.steps.lemmas.world_bytes.Hearing.{moment_hears}
use Rattle.law_world.proofs.steps.world_bytes.worked.three_bytes.Goals as goal

says_bytes : IsByteScript (script [])
says_bytes = record { devices = (((((omega arith, (omega arith, (omega arith, tt))), tt), tt), tt)); lines = tt }

pub returns : goal.returns
returns c = record { opening = opened_bytes (script []) says_bytes; moment = λ k. moment_hears (script []) k says_bytes }
