use Rattle.std.proofs.Common.{refl, arith}
use Rattle.law_world.proofs.lemmas.streams.lemmas.put_laws.Cuts.{puts_filled}
use Rattle.law_world.specs.streams.put_laws.Held.{held_bytes}
use Rattle.law_world.specs.streams.put_laws.ByteSamples.{five}
use Rattle.drv_table.specs.Harvests.{buffer_bytes}
use Rattle.law_world.proofs.streams.put_laws.byte_worked.a_put_of_five_bytes.Goals as goal

pub returns-clause-held : goal.returns-clause-held
unfolding held_bytes buffer_bytes
returns-clause-held c = refl

pub returns-clause-pieces : goal.returns-clause-pieces
returns-clause-pieces c = refl

pub returns-clause-filled : goal.returns-clause-filled
returns-clause-filled c = puts_filled five 2 (omega arith)
