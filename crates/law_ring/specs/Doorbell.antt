-- Where the walk is once the doorbell was answered (EHCI 1.0, 4.8.2): a read of the head of the ring answers it.
--     IsAtHead new            the walk begins at the start of the ring again, with nothing in hand, or has a copy of the head in hand, just read
--     HasHeads member narrow parts
--                             each queue head that the walk may meet and that has the H bit is one of these
use Rattle.std.specs.Prelude.{◌≡◌, ℕ, Bool, true, Some, None}
use Rattle.link_words.specs.declared.kinds.Link.TheVariants as links
use Rattle.qh_qtd.specs.declared.queue_head.Qh.{Qh}
use Rattle.mem_queues.specs.Structures.{queue_head_at_address}
use Rattle.async_walk.specs.declared.state.Cursor.TheVariants as cursors
use Rattle.async_walk.specs.declared.state.ReloadMode.{ReloadMode}
use Rattle.async_walk.specs.Naks.{reloaded}
use Rattle.async_walk.specs.Rows.{WalkPlace}
use Rattle.law_structures.specs.lent_structures.Structures.{QueueHead, StructureSets}

pub record IsAtStart (new : WalkPlace) : Type 0 where
  pub cursor : new.walk.cursor ≡ cursors.Start
  pub nothing : new.walk.held ≡ None

pub record HoldsHead (new : WalkPlace) : Type 0 where
  pub at : ℕ
  pub queue : Qh
  pub mode : ReloadMode
  pub cursor : new.walk.cursor ≡ cursors.At (links.Qh at)
  pub held : new.walk.held ≡ Some (record { at = at; queue_head = reloaded mode queue; settled = None })
  pub is_head : queue.head ≡ true
  pub stands : queue_head_at_address new.memory at ≡ Some queue

pub data IsAtHead (new : WalkPlace) : Type 0 where
  at_start : IsAtStart new → IsAtHead new
  at_head : HoldsHead new → IsAtHead new

abbrev pub HasHeads : (ℕ → Bool) → (ℕ → Bool) → StructureSets → Type 0
HasHeads member narrow parts = (n : ℕ) (q : Qh) → member n ≡ true → parts n n ≡ Some (QueueHead q) → q.head ≡ true → narrow n ≡ true
