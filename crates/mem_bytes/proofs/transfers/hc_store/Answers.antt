use Rattle.std.proofs.Common.{ℕ, ◌+◌, arith, ap, sym, ◌∙◌, length-take, length-drop}
use Rattle.word_mem.specs.Memory.{refused}
use Rattle.word_mem.proofs.ByController.{by_nothing, by_both}
use Rattle.mem_bytes.proofs.Reach.{all_reached_if, all_reached_no, stored_short, stored_done, with_bytes_none, with_bytes_on, AreReached_more, AreReached_before, unreached_before}
use Rattle.mem_bytes.proofs.transfers.hc_store.Goals as goal

pub loop-done-init : goal.loop-done-init
loop-done-init g c = (
  omega arith,
  (
    with_bytes_none (g.M.HcMemory.mem c.args.mem.now) c.args.pages.now c.args.from,
    ((λ i below. absurd (omega arith)), by_nothing (g.M.HcMemory.mem c.args.mem.now)),
  ),
)

pub returns-in-None-clause-all : goal.returns-in-None-clause-all
returns-in-None-clause-all g c =
    let stop = unreached_before (g.M.HcMemory.mem c.args.mem.now) _ c.args.pages.now c.args.from _ _ c.loop-done.invariant.1.0
    c.in-None.ensures.moved in
    sym (all_reached_no (g.M.HcMemory.mem c.args.mem.now) c.args.pages.now c.args.from _ c.loop-done.done c.loop-done-test.true stop)

pub returns-in-None-clause-memory : goal.returns-in-None-clause-memory
returns-in-None-clause-memory g c =
    let stop = unreached_before (g.M.HcMemory.mem c.args.mem.now) _ c.args.pages.now c.args.from _ _ c.loop-done.invariant.1.0
    c.in-None.ensures.moved in
    c.in-None.ensures.memory ∙ ap refused c.loop-done.invariant.1.0
    ∙ sym (stored_short (g.M.HcMemory.mem c.args.mem.now) c.args.pages.now c.args.from c.args.bytes.now c.loop-done.done
    c.loop-done-test.true c.loop-done.invariant.1.1.0 stop)

pub loop-done-preserved : goal.loop-done-preserved
loop-done-preserved g c =
    let m = g.M.HcMemory.mem c.args.mem.now in
    let pages = c.args.pages.now in
    let from = c.args.from in
    let bytes = c.args.bytes.now in
    let done = c.loop-done.done in
    let n = c.in-Some.n in (
      omega (arith, c.in-Some.ensures.moved.1, length-take {A = ℕ}, length-drop {A = ℕ}),
      (
        with_bytes_on m (g.M.HcMemory.mem c.loop-done.mem) _ pages from bytes done n (omega arith) c.loop-done.invariant.1.0
            c.in-Some.ensures.memory,
        (
          AreReached_more m pages from done n c.loop-done.invariant.1.1.0
              (AreReached_before m _ pages from _ (from + done) n c.loop-done.invariant.1.0 c.in-Some.ensures.moved.2),
          by_both m
              (g.M.HcMemory.mem c.loop-done.mem) _ c.loop-done.invariant.1.1.1 c.in-Some.ensures.only_lent,
        ),
      ),
    )

pub returns-clause-all : goal.returns-clause-all
returns-clause-all g c = sym (all_reached_if (g.M.HcMemory.mem c.args.mem.now) c.args.pages.now c.args.from _
    (λ i below. c.loop-done.invariant.1.1.0 i (omega arith)))

pub returns-clause-memory : goal.returns-clause-memory
returns-clause-memory g c =
    c.loop-done.invariant.1.0
    ∙ stored_done (g.M.HcMemory.mem c.args.mem.now) c.args.pages.now c.args.from c.args.bytes.now c.loop-done.done (omega arith)
    (omega arith) c.loop-done.invariant.1.1.0

pub returns-in-None-clause-only_lent : goal.returns-in-None-clause-only_lent
returns-in-None-clause-only_lent g c = by_both (g.M.HcMemory.mem c.args.mem.now) (g.M.HcMemory.mem c.loop-done.mem) _
    c.loop-done.invariant.1.1.1 c.in-None.ensures.only_lent
