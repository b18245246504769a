use Rattle.law_resting.proofs.Storing.{a_new_driver_is_storing, events_keep_storing, commands_keep_storing}
use Rattle.law_resting.proofs.Words.{linked_has_words, work_has_store}
use Rattle.law_resting.proofs.a_linking_command_has_a_store.Goals as goal

pub returns : goal.returns
returns c = record {
  new = a_new_driver_is_storing;
  events = events_keep_storing;
  commands = commands_keep_storing;
  linked = linked_has_words;
  next = work_has_store;
}
