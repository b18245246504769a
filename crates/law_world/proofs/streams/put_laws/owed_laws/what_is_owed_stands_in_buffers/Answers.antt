use Rattle.law_world.proofs.lemmas.streams.lemmas.put_laws.BufferBytes.{buffers_are_rest, buffers_before_lend, buffers_around}
use Rattle.law_world.proofs.streams.put_laws.owed_laws.what_is_owed_stands_in_buffers.Goals as goal

pub returns-clause-all : goal.returns-clause-all
returns-clause-all c = buffers_are_rest

pub returns-clause-before : goal.returns-clause-before
returns-clause-before c = buffers_before_lend

pub returns-clause-around : goal.returns-clause-around
returns-clause-around c = buffers_around
