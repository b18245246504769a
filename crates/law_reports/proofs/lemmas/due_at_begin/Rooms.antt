-- Each pipeline of a moment has room for a start-split of each key (USB 2.0, 11.14 and 11.18).
use Rattle.std.proofs.Common.{◌≡◌, ℕ, List, [], slice_get, Option, Some, None, refl, sym, subst, arith}
use Rattle.std.specs.Option.{option_map_or}
use Rattle.std.specs.Prelude.{◌==◌, position}
use Rattle.script_types.specs.declared.scripts.Script.{Script}
use Rattle.script_text.specs.Faults.{Spells}
use Rattle.hub_keys.specs.declared.key.Key.{Key}
use Rattle.tt_pipeline.specs.declared.entry.Entry.{Entry}
use Rattle.multi_tt.specs.Translators.{Translator, place_of}
use Rattle.hub_class.specs.HubContent.{HubContent}
use Rattle.bus_world.specs.Budgets.{moment}
use Rattle.law_microframes.specs.translators.Results.{entries_at, entries_of_hub, entries_by, pipeline_for, pipeline_in}
use Rattle.law_microframes.specs.translators.Rooms.{HasRoom}
use Rattle.law_microframes.proofs.lemmas.translators.Rooms.{texts_have_room}

abbrev entries_in : Option Translator → List Entry
entries_in o = option_map_or (λ (t : Translator). t.pipeline) o []

none_has_room : (key : Key) → HasRoom key []
none_has_room key = record { few = omega arith; once = refl }

module _ (text : List ℕ) (s : Script) (spelled : Spells text s) (k : ℕ) (key : Key) where
  abbrev hubs : List HubContent
  hubs = (moment s k).world.bus.hubs

  at_translator : (i j : ℕ) (h : HubContent) → slice_get (moment s k).world.bus.hubs i ≡ Some h → (o : Option Translator)
      → slice_get h.translators.all j ≡ o → HasRoom key (pipeline_in h.translators.all j)
  at_translator i j h here None there =
      subst (λ (o : Option Translator). HasRoom key (entries_in o)) (sym there) (none_has_room key)
  at_translator i j h here (Some t) there =
      subst (λ (o : Option Translator). HasRoom key (entries_in o)) (sym there) (texts_have_room text s spelled k i j h t here there key)

  at_place : (i : ℕ) (h : HubContent) → slice_get (moment s k).world.bus.hubs i ≡ Some h → (o : Option ℕ) → HasRoom key (entries_at o h)
  at_place i h here None = none_has_room key
  at_place i h here (Some j) = at_translator i j h here (slice_get h.translators.all j) refl

  at_hub : (i port : ℕ) (o : Option HubContent) → slice_get (moment s k).world.bus.hubs i ≡ o → HasRoom key (entries_of_hub o port)
  at_hub i port None here = none_has_room key
  at_hub i port (Some h) here = at_place i h here (place_of h.translators.multi port)

  at_position : (port : ℕ) (o : Option ℕ) → HasRoom key (entries_by (moment s k).world.bus.hubs o port)
  at_position port None = none_has_room key
  at_position port (Some i) = at_hub i port (slice_get (moment s k).world.bus.hubs i) refl

pub rooms_at : (text : List ℕ) (s : Script) → Spells text s → (k hub port : ℕ) (key : Key)
    → HasRoom key (pipeline_for (moment s k).world.bus.hubs hub port)
rooms_at text s spelled k hub port key =
    at_position text s spelled k key port (position (λ (x : HubContent). x.address == hub) (moment s k).world.bus.hubs)
