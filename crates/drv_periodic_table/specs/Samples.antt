-- Values of worked rows.
--     behind_a_hub num way max    an isochronous endpoint of device 3, which stands behind port 1 of hub 9
--     a_split                     the note of a siTD of 6 bytes, whose buffer is block 1
--     in_words ws                 a memory of these words
use Rattle.std.specs.Prelude.{ℕ, true, List, [], ◌∷◌, Some}
use Rattle.usb_base.specs.declared.endpoints.EpDesc.{EpDesc}
use Rattle.usb_base.specs.declared.packets.EpKind.TheVariants.{Iso}
use Rattle.usb_base.specs.declared.packets.Speed.TheVariants.{Full}
use Rattle.usb_base.specs.declared.packets.Way.{Way}
use Rattle.word_mem.specs.Memory.{Mem}
use Rattle.drv_periodic_table.specs.declared.content.DescriptorNote.{DescriptorNote}
use Rattle.drv_periodic_table.specs.Periodic.{no_descriptor}

abbrev pub behind_a_hub : ℕ → Way → ℕ → EpDesc
behind_a_hub num way max = record {
  name = record { addr = 3; num = num; way = way };
  speed = Full;
  kind = Iso;
  max = max;
  period = 8;
  multi = 1;
  hub = Some 9;
  port = 1;
  tt = 0;
}

abbrev pub a_split : DescriptorNote
a_split = record no_descriptor { split = true; slot = 6; buffer = 1 ∷ [] }

abbrev pub in_words : List ℕ → Mem
in_words ws = record { words = ws; states = []; foreign = 0 }
