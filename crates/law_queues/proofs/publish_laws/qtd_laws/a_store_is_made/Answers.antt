use Rattle.law_queues.proofs.lemmas.publish_laws.Rows.{row_is, store_is_made, next_is_ready, last_is_made}
use Rattle.law_queues.proofs.publish_laws.qtd_laws.a_store_is_made.Goals as goal

pub returns : goal.returns
returns c = record { row = row_is; made = store_is_made; next = next_is_ready; last = last_is_made }
