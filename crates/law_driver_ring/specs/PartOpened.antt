-- The structures of a driver that was just built (EHCI 1.0, 4.1 and 4.8): the frame list, whose elements end their frames, and the head of the ring,
-- which leads to itself. A word has four bytes, so the head begins at byte 4096.
--     empty_list          1,024 elements 00000001h
--     opening_parts       the two structures by owner and name
--     is_head             whom a walk may meet: the head
use Rattle.std.specs.Prelude.{ℕ, Bool, ◌==◌, List, replicate, None}
use Rattle.drv_table.specs.Words.{opening_head}
use Rattle.law_structures.specs.lent_structures.Structures.{QueueHead, Table, StructureSets, put}

abbrev pub empty_list : List ℕ
empty_list = replicate 1024 1

abbrev pub no_parts : StructureSets
no_parts n a = None

abbrev pub list_parts : StructureSets
list_parts = put no_parts 0 0 (Table empty_list)

abbrev pub opening_parts : StructureSets
opening_parts = put list_parts 4096 4096 (QueueHead opening_head)

abbrev pub is_head : ℕ → Bool
is_head n = n == 4096
