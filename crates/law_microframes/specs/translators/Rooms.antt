-- The pipeline of a translator has room (USB 2.0, 11.18): no key has two entries in it, and there are fewer than the 256 that it takes, so
-- that no start-split which makes an entry is forgotten.
--     HasRoom k es            there are fewer than 256 entries, and at most one of this key
--     TextsHaveRoom           so it is of each pipeline at each moment of a script that a text spells, of every key
use Rattle.std.specs.Prelude.{◌≡◌, ℕ, ◌<◌, false, List, length, slice_get, Some}
use Rattle.script_types.specs.declared.scripts.Script.{Script}
use Rattle.script_text.specs.Faults.{Spells}
use Rattle.hub_keys.specs.declared.key.Key.{Key}
use Rattle.tt_pipeline.specs.declared.entry.Entry.{Entry}
use Rattle.tt_pipeline.specs.Starting.{is_there, without}
use Rattle.multi_tt.specs.Translators.{Translator}
use Rattle.hub_class.specs.HubContent.{HubContent}
use Rattle.bus_world.specs.Budgets.{moment}

pub record HasRoom (k : Key) (es : List Entry) : Type 0 where
  pub few : length es < 256
  pub once : is_there k (without k es) ≡ false

abbrev pub TextsHaveRoom : Type 0
TextsHaveRoom = (text : List ℕ) (s : Script) → Spells text s → (k i j : ℕ) (h : HubContent) (t : Translator)
    → slice_get (moment s k).world.bus.hubs i ≡ Some h → slice_get h.translators.all j ≡ Some t → (key : Key) → HasRoom key t.pipeline
