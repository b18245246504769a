-- Over the bus below a hub, the work of a hub as a function is its work.
use Rattle.std.proofs.Common.{ℕ, ◌-◌, Bool, true, false, List, [], ◌∷◌, refl}
use Rattle.usb_base.specs.declared.packets.Ask.{Ask}
use Rattle.usb_base.specs.declared.packets.Reply.{Reply}
use Rattle.hub_keys.specs.Asks.{classic_of}
use Rattle.tt_bulk.specs.Contents.{TwoBuffers}
use Rattle.tt_bulk.specs.Work.{Turn, Tries, Rests, earlier_turn, later_turn, Works}
use Rattle.tt_bulk.specs.Work as Buffered
use Rattle.tt_pipeline.specs.declared.entry.Entry.{Entry}
use Rattle.tt_pipeline.specs.Work.{moved, is_due, sent_of}
use Rattle.tt_pipeline.specs.Work as Piped
use Rattle.tt_pipeline.specs.Working.{budget, used_at, entries_after, wire_turned, wire_worked, wire_at, reply_at}
use Rattle.tt_pipeline.specs.Working as PipelineWork
use Rattle.multi_tt.specs.Translators.{Translator}
use Rattle.multi_tt.specs.Single.{room_left, TranslatorWorks, AllWork}
use Rattle.hub_class.specs.Microframe.{turn_hears, wire_tried, wire_half, buffers_worked, wire_of_buffers, wire_between, translator_worked, wire_of_translator, translators_worked, wire_of_translators}

module _ {W : Type 0} (transacts : W → Ask → List ℕ → Reply → W → Type 0) (reply_of : W → Ask → List ℕ → Reply)
    (wire_after : W → Ask → List ℕ → W)
    (makes : (w : W) (ask : Ask) (out : List ℕ)
    → transacts w (classic_of ask) out (reply_of w (classic_of ask) out) (wire_after w (classic_of ask) out)) where
  turn_made : (t : Turn) (w : W) → Buffered.Asks transacts t w (turn_hears reply_of wire_after t w) (wire_tried reply_of wire_after t w)
  turn_made (Tries taken) w = makes w taken.ask taken.packet
  turn_made Rests w = refl

  buffers_made : (room : ℕ) (b : TwoBuffers) (w : W)
      → Works transacts room b w (buffers_worked reply_of wire_after room b w) (wire_of_buffers reply_of wire_after room b w)
  buffers_made room b w = record {
    earlier = turn_hears reply_of wire_after (earlier_turn room b) w;
    between = wire_half reply_of wire_after room b w;
    later = turn_hears reply_of wire_after (later_turn room b) (wire_half reply_of wire_after room b w);
    asks_earlier = turn_made (earlier_turn room b) w;
    asks_later = turn_made (later_turn room b) (wire_half reply_of wire_after room b w);
    becomes = refl;
  }

  entry_made : (due : Bool) (m : Entry) (w : W)
      → Piped.Asks transacts due m w (reply_of w (classic_of m.ask) (sent_of m)) (wire_at reply_of wire_after due m w)
  entry_made true m w = makes w m.ask (sent_of m)
  entry_made false m w = refl

  entries_made : (room : ℕ) (es : List Entry) (w : W)
      → PipelineWork.Works transacts room es w (wire_worked reply_of wire_after room es w) (entries_after reply_of wire_after room es w)
  entries_made room [] w = (refl, refl)
  entries_made room (e ∷ es) w = (
    wire_turned reply_of wire_after room e w,
    _,
    entries_after reply_of wire_after (room - used_at room e) es (wire_turned reply_of wire_after room e w),
    record { reply = reply_at reply_of wire_after room e w; asks = entry_made (is_due (moved room e)) (moved room e) w; becomes = refl },
    entries_made (room - used_at room e) es (wire_turned reply_of wire_after room e w),
    refl,
  )

  one_made : (frindex : ℕ) (t : Translator) (w : W)
      → TranslatorWorks transacts frindex t w (translator_worked reply_of wire_after frindex t w)
      (wire_of_translator reply_of wire_after t w)
  one_made frindex t w = record {
    between = wire_between reply_of wire_after t w;
    pipeline = record {
      worked = entries_after reply_of wire_after budget t.pipeline w;
      works = entries_made budget t.pipeline w;
      stays = refl;
    };
    bulk = buffers_made (room_left t) t.bulk (wire_between reply_of wire_after t w);
  }

  pub all_made : (frindex : ℕ) (ts : List Translator) (w : W)
      → AllWork transacts frindex ts w (wire_of_translators reply_of wire_after ts w) (translators_worked reply_of wire_after frindex ts w)
  all_made frindex [] w = (refl, refl)
  all_made frindex (t ∷ ts) w = (
    wire_of_translator reply_of wire_after t w,
    translator_worked reply_of wire_after frindex t w,
    translators_worked reply_of wire_after frindex ts (wire_of_translator reply_of wire_after t w),
    one_made frindex t w,
    all_made frindex ts (wire_of_translator reply_of wire_after t w),
    refl,
  )
