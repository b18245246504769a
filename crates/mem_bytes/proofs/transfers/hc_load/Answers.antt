use Rattle.std.proofs.Common.{ℕ, ◌≡◌, ◌<◌, ◌≤◌, ◌+◌, false, length, arith, ap, sym, ◌∙◌, refl, length-take, length-drop}
use Rattle.word_mem.specs.Memory.{refused, reaches}
use Rattle.word_mem.proofs.ByController.{by_nothing, by_both}
use Rattle.mem_bytes.specs.Bytes.{place, AreReached}
use Rattle.mem_bytes.proofs.Loads.{read_none, read_on, read_off, read_done, loaded_is, loaded_all}
use Rattle.mem_bytes.proofs.Reach.{all_reached_if, all_reached_no, AreReached_more, AreReached_same, chosen, passed}
use Rattle.mem_bytes.proofs.transfers.hc_load.Goals as goal

pub loop-done-init : goal.loop-done-init
loop-done-init g c = (
  omega arith,
  (
    refl,
    (
      read_none (g.M.HcMemory.mem c.args.mem.now) c.args.pages.now c.args.from c.args.into.now,
      ((λ i below. absurd (omega arith)), by_nothing (g.M.HcMemory.mem c.args.mem.now)),
    ),
  ),
)

stop : (g : _) (c : goal.In-None g) → reaches (g.M.HcMemory.mem c.args.mem.now) (place c.args.pages.now (c.args.from + c.loop-done.done))
    ≡ false
stop g c = sym (ap (λ w. reaches w (place c.args.pages.now (c.args.from + c.loop-done.done))) c.loop-done.invariant.1.0)
    ∙ c.in-None.ensures.moved

inside : (g : _) (c : goal.In-None g) → c.loop-done.done < length c.args.into.now
inside g c = omega arith

pub returns-in-None-clause-all : goal.returns-in-None-clause-all
returns-in-None-clause-all g c = sym (all_reached_no (g.M.HcMemory.mem c.args.mem.now) c.args.pages.now c.args.from _ c.loop-done.done
    (inside g c) (stop g c))

pub returns-in-None-clause-memory : goal.returns-in-None-clause-memory
returns-in-None-clause-memory g c =
    c.in-None.ensures.memory ∙ ap refused c.loop-done.invariant.1.0
    ∙ sym (passed _ _ _ (all_reached_no (g.M.HcMemory.mem c.args.mem.now) c.args.pages.now c.args.from _ c.loop-done.done (inside g c)
    (stop g c)))

pub returns-in-None-clause-bytes : goal.returns-in-None-clause-bytes
returns-in-None-clause-bytes g c =
    read_off c.loop-done.into _ c.loop-done.done (omega arith) c.in-None.ensures.bytes ∙ c.loop-done.invariant.1.1.0
    ∙ sym (loaded_is (g.M.HcMemory.mem c.args.mem.now) c.args.pages.now c.args.from c.args.into.now c.loop-done.done (inside g c)
    c.loop-done.invariant.1.1.1.0 (stop g c))

pub loop-done-preserved : goal.loop-done-preserved
loop-done-preserved g c =
    let m = g.M.HcMemory.mem c.args.mem.now in
    let pages = c.args.pages.now in
    let from = c.args.from in
    let old = c.args.into.now in
    let done = c.loop-done.done in
    let n = c.in-Some.n in
    let more : done + n ≤ length old = omega (arith, c.in-Some.ensures.moved.1, length-take {A = ℕ}, length-drop {A = ℕ}) in (
      more,
      (
        c.in-Some.ensures.memory ∙ c.loop-done.invariant.1.0,
        (
          read_on m (g.M.HcMemory.mem c.loop-done.mem) pages from old c.loop-done.into _ done n c.loop-done.invariant.1.0 more
              (omega arith) c.loop-done.invariant.1.1.0 c.in-Some.ensures.bytes,
          (
            AreReached_more m pages from done n c.loop-done.invariant.1.1.1.0
                (AreReached_same m _ pages (from + done) n c.loop-done.invariant.1.0 c.in-Some.ensures.moved.2),
            by_both m
                (g.M.HcMemory.mem c.loop-done.mem) _ c.loop-done.invariant.1.1.1.1 c.in-Some.ensures.only_lent,
          ),
        ),
      ),
    )

each : (g : _) (c : goal.After-loop-done g) → AreReached (g.M.HcMemory.mem c.args.mem.now) c.args.pages.now c.args.from
    (length c.args.into.now)
each g c = λ i below. c.loop-done.invariant.1.1.1.0 i (omega arith)

pub returns-clause-all : goal.returns-clause-all
returns-clause-all g c = sym (all_reached_if (g.M.HcMemory.mem c.args.mem.now) c.args.pages.now c.args.from _ (each g c))

pub returns-clause-memory : goal.returns-clause-memory
returns-clause-memory g c =
    c.loop-done.invariant.1.0 ∙ sym (chosen _ _ _ (sym (all_reached_if (g.M.HcMemory.mem c.args.mem.now) c.args.pages.now c.args.from _
    (each g c))))

pub returns-clause-bytes : goal.returns-clause-bytes
returns-clause-bytes g c =
    c.loop-done.invariant.1.1.0 ∙ read_done (g.M.HcMemory.mem c.args.mem.now) c.args.pages.now c.args.from c.args.into.now c.loop-done.done
    (omega arith) (omega arith)
    ∙ sym (loaded_all (g.M.HcMemory.mem c.args.mem.now) c.args.pages.now c.args.from c.args.into.now (each g c))

pub returns-in-None-clause-only_lent : goal.returns-in-None-clause-only_lent
returns-in-None-clause-only_lent g c = by_both (g.M.HcMemory.mem c.args.mem.now) (g.M.HcMemory.mem c.loop-done.mem) _
    c.loop-done.invariant.1.1.1.1 c.in-None.ensures.only_lent
