-- Values for worked rows.
use Rattle.std.specs.Prelude.{ℕ}
use Rattle.drv_chains.specs.declared.members.Member.{Member}
use Rattle.drv_chains.specs.declared.members.Member.TheVariants.{Once, Each}

-- the queue head in the block 130, of every eighth frame, and an iTD in the block 140
abbrev pub queue : Member
queue = Each (record { id = 4162; period = 64; phase = 3 })

abbrev pub itd : Member
itd = Once (record { id = 4480; frame = 5 })

-- words that all end their lists, but that of element 3, which leads to the queue head
abbrev pub ends : ℕ → ℕ
ends at = 1
