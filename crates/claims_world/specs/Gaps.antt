-- The parts of isochronous OUTs that never came, along a run (USB 2.0, 11.18.4).
--     watched_of g es          the entries of a pipeline, where g tells of each key how many microframes after its first brought no part
--     gaps_begun hs g          those numbers after the work of a microframe
--     gaps s k                 by the places of a hub and of its translator and by the key: after k events and commands of a run, how many
--                              microframes after the first brought the entry no part while it lacked its last
use Rattle.std.specs.Prelude.{ℕ, ◌+◌, Bool, ◌||◌, nat_lt, if◌then◌else◌, List, [], map, slice_get, Option, Some, None}
use Rattle.std.specs.List.{find}
use Rattle.std.specs.Option.{option_map_or}
use Rattle.script_types.specs.declared.scripts.Script.{Script}
use Rattle.hub_keys.specs.declared.key.Key.{Key}
use Rattle.tt_pipeline.specs.declared.entry.Brought.{Brought}
use Rattle.tt_pipeline.specs.declared.entry.Entry.{Entry}
use Rattle.tt_pipeline.specs.Starting.{has_key}
use Rattle.multi_tt.specs.Translators.{Translator}
use Rattle.hub_class.specs.HubContent.{HubContent}
use Rattle.hc_core.specs.declared.controller.ControllerRow.{ControllerRow}
use Rattle.hc_core.specs.declared.controller.ControllerRow.TheVariants as rows
use Rattle.bus_wire.specs.Bus.{Fixed}
use Rattle.bus_world.specs.World.{World, controller_row}
use Rattle.claims_world.specs.Carried.{carried}
use Rattle.claims_world.specs.Watched.{Watched, gap_of}

-- a part came, or the last
abbrev pub is_seen : Brought → Bool
is_seen b = b.whole || nat_lt 0 b.parts

-- an entry of which nothing is to be worked yet has had no microframe without a part
abbrev pub gaps_at : (Key → ℕ) → Entry → ℕ
gaps_at g e = if is_seen e.heard then g e.key else 0

abbrev pub watched_one : (Key → ℕ) → Entry → Watched
watched_one g e = record { entry = e; gaps = gaps_at g e }

abbrev pub watched_of : (Key → ℕ) → List Entry → List Watched
watched_of g es = map (watched_one g) es

abbrev pub gaps_more : (Key → ℕ) → Option Entry → ℕ
gaps_more g None = 0
gaps_more g (Some e) = gaps_at g e + gap_of e

abbrev pub gaps_worked : (Key → ℕ) → List Entry → Key → ℕ
gaps_worked g es k = gaps_more g (find (has_key k) es)

abbrev pub pipeline_in : List Translator → ℕ → List Entry
pipeline_in ts j = option_map_or (λ t. t.pipeline) (slice_get ts j) []

abbrev pub translators_in : List HubContent → ℕ → List Translator
translators_in hs i = option_map_or (λ h. h.translators.all) (slice_get hs i) []

abbrev pub gaps_in : List Translator → (ℕ → Key → ℕ) → ℕ → Key → ℕ
gaps_in ts g j k = gaps_worked (g j) (pipeline_in ts j) k

-- by the place of the hub, that of its translator, and the key
abbrev pub gaps_begun : List HubContent → (ℕ → ℕ → Key → ℕ) → ℕ → ℕ → Key → ℕ
gaps_begun hs g i j k = gaps_in (translators_in hs i) (g i) j k

-- ---- along a run

abbrev pub gaps_after : ControllerRow → List HubContent → (ℕ → ℕ → Key → ℕ) → ℕ → ℕ → Key → ℕ
gaps_after rows.Begin hubs g = gaps_begun hubs g
gaps_after _ hubs g = g

abbrev pub gaps_next : Fixed → World → (ℕ → ℕ → Key → ℕ) → ℕ → ℕ → Key → ℕ
gaps_next fixed w g = gaps_after (controller_row w) w.bus.hubs g

abbrev pub no_gaps : ℕ → ℕ → Key → ℕ
no_gaps i j k = 0

abbrev pub gaps : Script → ℕ → ℕ → ℕ → Key → ℕ
gaps s k = carried gaps_next s no_gaps k
