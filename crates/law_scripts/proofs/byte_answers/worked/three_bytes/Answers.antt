use Rattle.std.proofs.Common.{arith, []}
use Rattle.bus_wire.specs.Samples.{script}
use Rattle.law_scripts.specs.byte_answers.Bytes.{IsByteScript}
use Rattle.law_scripts.proofs.lemmas.byte_answers.Buses.{opening_bytes}
use Rattle.law_scripts.proofs.byte_answers.worked.three_bytes.Goals as goal

says_bytes : IsByteScript (script [])
says_bytes = record { devices = (((((omega arith, (omega arith, (omega arith, tt))), tt), tt), tt)); lines = tt }

pub returns : goal.returns
returns c = record { script = says_bytes; bus = opening_bytes (script []) says_bytes }
