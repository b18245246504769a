-- Samples of streams beside all others: the driver of three endpoints, a bulk IN one of device 1, an interrupt IN one of device 2 at high
-- speed, and an isochronous IN one of device 3 below a hub, each of number 1.
--     both_send, one_sends     devices that have the first two, and the bulk one alone
--     other_ends               queue heads that are told to have longer packets
--     named_memory             the siTDs in blocks 138 and 140 tell device 3, endpoint 1 and IN (EHCI 1.0, 3.4.2)
--     alone                    a script that opens endpoints of no device
use Rattle.std.specs.Prelude.{ℕ, ◌==◌, ◌&&◌, [], ◌∷◌, ◌++◌, replicate}
use Rattle.script_types.specs.declared.scripts.Script.{Script}
use Rattle.word_mem.specs.Memory.{Mem}
use Rattle.law_ring.specs.Told.{Endpoint as Told}
use Rattle.law_world.specs.memory.Samples.{keyboard_and_disk}
use Rattle.law_world.specs.memory.pipe_steps.Samples.{named, unnamed, packets, key_end}
use Rattle.law_reports.specs.pipes.Declared.{Sides}

abbrev pub both_send : Sides
both_send = record { sends = named; takes = unnamed; packets = packets }

abbrev pub one_sends : Sides
one_sends = record both_send { sends = λ addr ep. addr == 1 && ep == 1 }

abbrev pub other_ends : ℕ → Told
other_ends n = record key_end { max = 1024 }

abbrev pub named_memory : Mem
named_memory = record { words = replicate 1105 0 ++ 2147483907 ∷ replicate 15 0 ++ 2147483907 ∷ []; states = []; foreign = 0 }

abbrev pub alone : Script
alone = record keyboard_and_disk { devices = []; endpoints = [] }
