-- The work of a hub in a microframe, where the bus below answers and changes by functions of its content: then what the work leaves of hub
-- and bus is a function too (USB 2.0, 11.18).
--     hub_worked frindex h w    the hub after the work of the microframe before the one with this frame index
--     wire_left h w             the bus below after it
use Rattle.std.specs.Prelude.{ℕ, List, [], ◌∷◌}
use Rattle.usb_base.specs.declared.packets.Ask.{Ask}
use Rattle.usb_base.specs.declared.packets.Reply.{Reply}
use Rattle.usb_base.specs.declared.packets.Reply.TheVariants.{Silent}
use Rattle.hub_keys.specs.Asks.{classic_of}
use Rattle.tt_bulk.specs.Contents.{TwoBuffers}
use Rattle.tt_bulk.specs.Work.{Turn, Tries, Rests, earlier_turn, later_turn, worked}
use Rattle.tt_pipeline.specs.Working.{budget, kept, entries_after, wire_worked}
use Rattle.multi_tt.specs.Translators.{Translator}
use Rattle.multi_tt.specs.Single.{room_left}
use Rattle.hub_class.specs.HubContent.{HubContent}

module _ {W : Type 0} (reply_of : W → Ask → List ℕ → Reply) (wire_after : W → Ask → List ℕ → W) where
  -- ---- two buffers

  -- what a buffer hears at its turn, and what that leaves of the bus
  abbrev pub turn_hears : Turn → W → Reply
  turn_hears (Tries taken) w = reply_of w (classic_of taken.ask) taken.packet
  turn_hears Rests w = Silent

  abbrev pub wire_tried : Turn → W → W
  wire_tried (Tries taken) w = wire_after w (classic_of taken.ask) taken.packet
  wire_tried Rests w = w

  -- the bus after the turn of the buffer that took its packet first
  abbrev pub wire_half : ℕ → TwoBuffers → W → W
  wire_half room b w = wire_tried (earlier_turn room b) w

  abbrev pub buffers_worked : ℕ → TwoBuffers → W → TwoBuffers
  buffers_worked room b w = worked room (turn_hears (earlier_turn room b) w) (turn_hears (later_turn room b) (wire_half room b w)) b

  abbrev pub wire_of_buffers : ℕ → TwoBuffers → W → W
  wire_of_buffers room b w = wire_tried (later_turn room b) (wire_half room b w)

  -- ---- one translator

  -- the bus after the turns of the pipeline
  abbrev pub wire_between : Translator → W → W
  wire_between t w = wire_worked reply_of wire_after budget t.pipeline w

  abbrev pub translator_worked : ℕ → Translator → W → Translator
  translator_worked frindex t w = record {
    bulk = buffers_worked (room_left t) t.bulk (wire_between t w);
    pipeline = kept frindex (entries_after reply_of wire_after budget t.pipeline w);
  }

  abbrev pub wire_of_translator : Translator → W → W
  wire_of_translator t w = wire_of_buffers (room_left t) t.bulk (wire_between t w)

  -- ---- those of a hub, one after the other

  abbrev pub translators_worked : ℕ → List Translator → W → List Translator
  translators_worked frindex [] w = []
  translators_worked frindex (t ∷ ts) w = translator_worked frindex t w ∷ translators_worked frindex ts (wire_of_translator t w)

  abbrev pub wire_of_translators : List Translator → W → W
  wire_of_translators [] w = w
  wire_of_translators (t ∷ ts) w = wire_of_translators ts (wire_of_translator t w)

  abbrev pub hub_worked : ℕ → HubContent → W → HubContent
  hub_worked frindex h w = record h { translators = record h.translators { all = translators_worked frindex h.translators.all w } }

  abbrev pub wire_left : HubContent → W → W
  wire_left h w = wire_of_translators h.translators.all w
