-- The worked frame of an iTD and a queue head behind it, where the driver ends the chain at the iTD.
--     ended, now     the iTD without a link, and the structures with it
--     memory         the words then
--     narrow         whom the walk meets from then on
-- And both worked walks, where the driver ends the chain of frame 3 at its element.
--     elements       the words of the frame list then
--     listed         the structures with it
--     stored         the controller then, before its first microframe
use Rattle.std.specs.Prelude.{ℕ, ◌+◌, ◌*◌, ◌==◌, if◌then◌else◌, List, slice_set, Option, Some, None}
use Rattle.word_mem.specs.Memory.{Mem, with_word}
use Rattle.link_words.specs.Layout.{word_of}
use Rattle.link_words.specs.Fields.{link_rows}
use Rattle.link_words.specs.Links.{no_link}
use Rattle.hc_core.specs.Controller.{Content}
use Rattle.law_structures.specs.lent_structures.Structures.{Structure, Table, Isochronous, StructureSets, put}
use Rattle.law_frames.specs.Met.{Kind, AnItd}
use Rattle.law_frames.specs.PartSamples as frame
use Rattle.law_controller.specs.frame_control.Samples as both
use Rattle.law_controller.specs.frame_stores.Stores.{linked}

abbrev pub ended : Structure
ended = linked no_link (Isochronous frame.itd)

abbrev pub now : StructureSets
now = put frame.parts 64 64 ended

abbrev pub memory : Mem
memory = with_word frame.memory 64 (word_of link_rows no_link)

abbrev pub narrow : ℕ → Option Kind
narrow a = if a == 64 then Some AnItd else None

abbrev pub elements : List ℕ
elements = slice_set both.elements 3 1

abbrev pub listed : StructureSets
listed = put both.parts 4096 4096 (Table elements)

abbrev pub stored : Content
stored = record both.opening { memory = with_word both.memory (4096 + 4 * 3) 1 }
