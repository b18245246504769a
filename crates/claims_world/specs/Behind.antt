-- What a translator has for an endpoint behind its hub (USB 2.0, 11.14 and 11.17.1).
--     key_for x                  the key of the endpoint so described
--     pipeline_for hs hub port   the entries of the translator by which the hub with this address serves this port
use Rattle.std.specs.Prelude.{ℕ, ◌==◌, position, List, [], slice_get, Option}
use Rattle.std.specs.Option.{option_map_or}
use Rattle.usb_base.specs.declared.endpoints.EpDesc.{EpDesc}
use Rattle.hub_keys.specs.declared.key.Key.{Key}
use Rattle.tt_pipeline.specs.declared.entry.Entry.{Entry}
use Rattle.multi_tt.specs.Translators.{place_of}
use Rattle.hub_class.specs.HubContent.{HubContent}
use Rattle.drv_periodic_table.specs.Periodic.{dir_of}
use Rattle.claims_world.specs.Gaps.{pipeline_in}

abbrev pub key_for : EpDesc → Key
key_for x = record { addr = x.name.addr; ep = x.name.num; dir = dir_of x.name.way; kind = x.kind }

abbrev pub entries_at : Option ℕ → HubContent → List Entry
entries_at o h = option_map_or (pipeline_in h.translators.all) o []

abbrev pub entries_of_hub : Option HubContent → ℕ → List Entry
entries_of_hub o port = option_map_or (λ h. entries_at (place_of h.translators.multi port) h) o []

abbrev pub entries_by : List HubContent → Option ℕ → ℕ → List Entry
entries_by hs o port = option_map_or (λ i. entries_of_hub (slice_get hs i) port) o []

abbrev pub pipeline_for : List HubContent → ℕ → ℕ → List Entry
pipeline_for hs hub port = entries_by hs (position (λ x. x.address == hub) hs) port
