-- The cursor leads on, with no copy in hand (EHCI 1.0, 4.6 and 4.7.1): the structure that its link names is read, or the chain ends.
use Rattle.std.specs.Prelude.{◌≡◌, ℕ, ◌%◌, [], Option, None, Some}
use Rattle.word_mem.specs.Memory.{Mem}
use Rattle.link_words.specs.declared.kinds.Link.{Link}
use Rattle.link_words.specs.declared.kinds.Link.TheVariants as links
use Rattle.qh_qtd.specs.declared.queue_head.Qh.{Qh}
use Rattle.itd_sitd.specs.declared.itd.Itd.{Itd}
use Rattle.itd_sitd.specs.declared.sitd.Sitd.{Sitd}
use Rattle.qh_qtd.specs.QueueHead.{IsQhInRange}
use Rattle.itd_sitd.specs.Itd.{IsItdInRange}
use Rattle.itd_sitd.specs.Sitd.{IsSitdInRange}
use Rattle.op_registers.specs.RegisterFile.{RegisterFile}
use Rattle.op_registers.specs.Events.{after_fault}
use Rattle.mem_queues.specs.Structures.{queue_head_at_address, queue_head_was_read}
use Rattle.mem_descriptors.specs.Descriptors.{itd_at_address, itd_was_read, sitd_at_address, sitd_was_read}
use Rattle.hc_interrupt.specs.Turns.{microframe_of}
use Rattle.hc_iso.specs.Itd.{fetched_itd}
use Rattle.async_walk.specs.declared.state.WalkStep.{WalkStep}
use Rattle.async_walk.specs.declared.state.WalkStep.TheVariants as steps
use Rattle.periodic_walk.specs.declared.chain.ChainRow.{ChainRow}
use Rattle.periodic_walk.specs.declared.chain.ChainRow.TheVariants as rows
use Rattle.periodic_walk.specs.declared.state.Hand.TheVariants as hands
use Rattle.periodic_walk.specs.Walk.{Walk, stopped}
use Rattle.periodic_walk.specs.Place.{FramePlace}

-- ---- which row it is

abbrev pub queue_fetch : ℕ → Option Qh → ChainRow
queue_fetch a None = rows.Fault
queue_fetch a (Some q) = rows.Queue a q

abbrev pub itd_fetch : ℕ → Option Itd → ChainRow
itd_fetch a None = rows.Fault
itd_fetch a (Some v) = rows.Itd a v

abbrev pub sitd_fetch : ℕ → Option Sitd → ChainRow
sitd_fetch a None = rows.Fault
sitd_fetch a (Some v) = rows.Sitd a v

-- frame span traversal nodes aren't served (3.7)
abbrev pub chain_row : Mem → Link → ChainRow
chain_row m links.End = rows.Ends
chain_row m (links.Itd a) = itd_fetch a (itd_at_address m a)
chain_row m (links.Qh a) = queue_fetch a (queue_head_at_address m a)
chain_row m (links.Sitd a) = sitd_fetch a (sitd_at_address m a)
chain_row m (links.Fstn a) = rows.Fault

-- what was read is in its range
abbrev pub IsSound : ChainRow → Type 0
IsSound rows.Fault = Unit {0}
IsSound rows.Ends = Unit {0}
IsSound (rows.Queue a q) = (a % 32 ≡ 0) × IsQhInRange q
IsSound (rows.Itd a v) = (a % 32 ≡ 0) × IsItdInRange v
IsSound (rows.Sitd a v) = (a % 32 ≡ 0) × IsSitdInRange v

-- what reading leaves of memory: a structure that isn't wholly Lent is one more refusal
abbrev pub chain_read : Mem → Link → Mem
chain_read m links.End = m
chain_read m (links.Itd a) = itd_was_read m a
chain_read m (links.Qh a) = queue_head_was_read m a
chain_read m (links.Sitd a) = sitd_was_read m a
chain_read m (links.Fstn a) = m

-- ---- what stands after it

abbrev pub fetched_queue : ℕ → Qh → Walk → Walk
fetched_queue a q w = record w {
  cursor = links.Qh a;
  hand = Some (hands.Queue (record { copy = record { at = a; queue_head = q; settled = None }; made = 0 }));
}

abbrev pub fetched_itd_walk : ℕ → Itd → Walk → Walk
fetched_itd_walk a v w = record w {
  cursor = links.Itd a;
  hand = Some (hands.Itd (fetched_itd a (microframe_of w.index) v));
  got = [];
}

abbrev pub fetched_sitd : ℕ → Sitd → Walk → Walk
fetched_sitd a v w = record w {
  cursor = links.Sitd a;
  hand = Some (hands.Sitd (record { at = a; sitd = v; settled = None }));
}

abbrev pub chain_walk : ChainRow → Walk → Walk
chain_walk rows.Fault w = stopped w
chain_walk rows.Ends w = stopped w
chain_walk (rows.Queue a q) w = fetched_queue a q w
chain_walk (rows.Itd a v) w = fetched_itd_walk a v w
chain_walk (rows.Sitd a v) w = fetched_sitd a v w

abbrev pub chain_registers : ChainRow → RegisterFile → RegisterFile
chain_registers rows.Fault r = after_fault r
chain_registers rows.Ends r = r
chain_registers (rows.Queue a q) r = r
chain_registers (rows.Itd a v) r = r
chain_registers (rows.Sitd a v) r = r

abbrev pub chain_after : ChainRow → FramePlace → FramePlace
chain_after row p = record p { walk = chain_walk row p.walk; registers = chain_registers row p.registers }

abbrev pub chain_step : ChainRow → WalkStep
chain_step rows.Fault = steps.Fault
chain_step rows.Ends = steps.Ended
chain_step (rows.Queue a q) = steps.Fetch
chain_step (rows.Itd a v) = steps.Fetch
chain_step (rows.Sitd a v) = steps.Fetch
