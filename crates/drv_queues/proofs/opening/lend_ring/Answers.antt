use Rattle.std.proofs.Common.{◌≡◌, ◌/◌, ◌≤◌, [], ap, arith, ◌∙◌, length, replicate, Some}
use Rattle.word_mem.specs.Memory.{Mem, fresh}
use Rattle.word_mem.specs.Free.{lowest_run}
use Rattle.mem_runs.specs.Book.{Holding, holding}
use Rattle.mem_runs.specs.declared.slots.Slot.TheVariants.{Empty}
use Rattle.drv_table.specs.Opening.{list_run, head_run}
use Rattle.drv_queues.proofs.Opened.{lowest_list, lowest_head, lent_run}
use Rattle.drv_queues.proofs.opening.lend_ring.Goals as goal

pub lend_lowest-requires-2-clause-none : goal.lend_lowest-requires-2-clause-none
lend_lowest-requires-2-clause-none c =
    let n = length c.args.mem.now.words in
    let lowest : lowest_run c.args.mem.now.states 128 ≡ Some list_run =
    ap (λ (m : Mem). lowest_run m.states 128) c.requires.memory ∙ lowest_list (n / 8) (omega (arith, c.requires.words)) in
    ap (λ (h : Holding). h.book.taken) (c.lend_lowest.ensures.lent list_run lowest)

pub returns-clause-lent : goal.returns-clause-lent
returns-clause-lent c =
    let n = length c.args.mem.now.words in
    let many : 256 ≤ n / 8 = omega (arith, c.requires.words) in
    let lowest : lowest_run c.args.mem.now.states 128 ≡ Some list_run = ap (λ (m : Mem). lowest_run m.states 128) c.requires.memory ∙ lowest_list (n / 8) many in
    let first : holding c.lend_lowest.new.book c.lend_lowest.new.mem ≡ lent_run (holding (record { slots = replicate (n / 8) Empty; taken = [] }) (fresh n)) list_run =
    c.lend_lowest.ensures.lent list_run lowest ∙ (ap (λ k. lent_run (holding k c.args.mem.now) list_run) c.requires.book ∙ ap (λ m. lent_run (holding (record { slots = replicate (n / 8) Empty; taken = [] }) m) list_run) c.requires.memory) in
    let second : lowest_run c.lend_lowest.new.mem.states 2 ≡ Some head_run = ap (λ (h : Holding). lowest_run h.memory.states 2) first ∙ lowest_head (n / 8) many in
    c.lend_lowest-2.ensures.lent head_run second ∙ ap (λ h. lent_run h head_run) first
