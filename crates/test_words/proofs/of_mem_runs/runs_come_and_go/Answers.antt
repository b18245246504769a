use Rattle.mem_runs.proofs.NewBook.{fresh_again}
use Rattle.test_words.proofs.of_mem_runs.runs_come_and_go.Goals as goal

pub build-requires-2 : goal.build-requires-2
build-requires-2 g c = fresh_again c.in_ok-mem.mem 1024 c.in_ok-mem.ensures
