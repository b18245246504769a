-- An entry of a translator's pipeline, watched beside a count of the parts that never came (USB 2.0, 11.18.4).
--     gap_of e                1 where a microframe brought it no part while it lacked its last
use Rattle.std.specs.Prelude.{ℕ, Bool, ◌&&◌, ◌==◌, not, nat_lt, if◌then◌else◌}
use Rattle.tt_pipeline.specs.declared.entry.Brought.{Brought}
use Rattle.tt_pipeline.specs.declared.entry.Entry.{Entry}

-- an entry, and how many microframes after its first brought it no part while it lacked its last
pub record Watched : Type 0 where
  pub entry : Entry
  pub gaps : ℕ

-- from the earlier to the later of two moments no part came, while the last was lacked
abbrev pub is_gap : Brought → Brought → Bool
is_gap a b = not a.whole && not b.whole && nat_lt 0 a.parts && b.parts == a.parts

abbrev pub gap_between : Brought → Brought → ℕ
gap_between a b = if is_gap a b then 1 else 0

-- the microframe that is worked from its turn on
abbrev pub gap_of : Entry → ℕ
gap_of e = gap_between e.heard e.before
