-- The order of a queue's qTDs with those of a transfer more (EHCI 1.0, 4.10.2): they come after all others, each before the next, and the inactive qTD
-- at the new end of the queue is the last.
--     numbered notes ss b k order     the order in which the qTDs of these stages from block b on, and the inactive one, have numbers from k on
--     at_queue f n y                  y for the queue head at n, and for the others what they had
use Rattle.std.specs.Prelude.{ℕ, suc, ◌*◌, ◌==◌, List, [], ◌∷◌, if◌then◌else◌}
use Rattle.drv_table.specs.declared.content.QtdNote.{QtdNote}
use Rattle.drv_table.specs.declared.content.Stage.{Stage}
use Rattle.drv_table.specs.Harvests.{note_at}

abbrev pub numbered : List QtdNote → List Stage → ℕ → ℕ → (ℕ → ℕ) → ℕ → ℕ
numbered notes [] b k order a = if a == 32 * b then k else order a
numbered notes (s ∷ ss) b k order a = if a == 32 * b then k else numbered notes ss (note_at notes b).next (suc k) order a

abbrev pub at_queue : {X : Type 0} → (ℕ → X) → ℕ → X → ℕ → X
at_queue f n y i = if i == n then y else f i
