-- The ring as its words tell it (EHCI 1.0, 4.8): the head leads to the newest endpoint in the ring, each endpoint to the one before it, and
-- the oldest to the head.
--     newest_from b xs           the block to which the next newer one leads
-- `word b` is the first word of block b: the link of the queue head that begins there.
use Rattle.std.specs.Prelude.{ℕ, List, fold, if◌then◌else◌}
use Rattle.drv_table.specs.declared.content.Endpoint.{Endpoint}

abbrev pub newest_from : ℕ → List Endpoint → ℕ
newest_from b xs = fold (λ b x. if x.linked then x.queue else b) b xs
