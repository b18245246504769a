use Rattle.law_driver.proofs.lemmas.queue_head_words.Stored.{events_leave_the_overlay}
use Rattle.law_driver.proofs.queue_head_words.overlay.events_leave_the_overlay.Goals as goal

pub returns : goal.returns
returns c = events_leave_the_overlay
