use Rattle.law_world.proofs.lemmas.memory.lemmas.owned_blocks.Busy.{list_owned, head_owned, queue_owned, inactive_owned, qtd_owned, buffer_owned, interrupt_owned}
use Rattle.law_world.proofs.memory.owned_blocks.worked.runs_of_queues.Goals as goal

pub returns : goal.returns
returns c = record { list = list_owned; head = head_owned; queue = queue_owned; inactive = inactive_owned; qtd = qtd_owned; buffer = buffer_owned; interrupt = interrupt_owned }
