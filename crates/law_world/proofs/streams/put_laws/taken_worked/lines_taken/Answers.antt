use Rattle.std.proofs.Common.{inl, inr, refl}
use Rattle.bus_world.specs.Orders.{Events}
use Rattle.script_types.specs.declared.scripts.Event.TheVariants.{D}
use Rattle.law_world.proofs.lemmas.streams.lemmas.put_laws.TakenSampling.{parts}
use Rattle.law_world.proofs.streams.put_laws.taken_worked.lines_taken.Goals as goal

pub returns-clause-part : goal.returns-clause-part
returns-clause-part c = record { lines = refl; orders = inr (Events D 1, tt, parts.0) }

pub returns-clause-over : goal.returns-clause-over
returns-clause-over c = parts.1

pub returns-clause-all : goal.returns-clause-all
returns-clause-all c = record { lines = refl; orders = inl parts.1 }
