-- The pipelines of a bus's translators, watched beside a count of the parts that never came (USB 2.0, 11.14, 11.18 and 11.18.4).
--     frame_of p now g t       the pipeline of a translator, watched in microframe `now` of a frame with this plan
--     HubsHold H plans now g hs     what H says holds of each translator of these hubs
--     WithKeys Q H             .. with what Q tells of the key of each entry
--     StartFollows Q plans now hs ask n     a start-split of a periodic endpoint, with n bytes, is one that the plan of its translator
--                                           calls for
use Rattle.std.specs.Prelude.{◌≡◌, ℕ, suc, ◌==◌, position, false, List, [], ◌∷◌, slice_get, Some}
use Rattle.std.specs.List.{AllByRecursion}
use Rattle.usb_base.specs.declared.packets.Ask.{Ask}
use Rattle.usb_base.specs.declared.packets.DataPart.{DataPart}
use Rattle.usb_base.specs.declared.packets.Split.TheVariants.{Start}
use Rattle.hub_keys.specs.Keys.{key_of}
use Rattle.hub_keys.specs.declared.key.Key.{Key}
use Rattle.multi_tt.specs.Translators.{Translator, place_of}
use Rattle.multi_tt.specs.Single.{is_buffered}
use Rattle.hub_class.specs.HubContent.{HubContent}
use Rattle.claims_world.specs.Plans.{Plan}
use Rattle.law_translator.specs.Frames.{Frame}
use Rattle.claims_world.specs.Watched.{Watched}
use Rattle.law_translator.specs.Premises.{Follows}
use Rattle.claims_world.specs.Pipelines.{port_at}
use Rattle.claims_world.specs.Gaps.{watched_of}

-- ---- one pipeline

abbrev pub frame_of : Plan → ℕ → (Key → ℕ) → Translator → Frame
frame_of p now g t = record { plan = p; now = now; watched = watched_of g t.pipeline }

-- ---- those of all hubs

-- each is so, by its place
abbrev pub AllAt : {A : Type 0} → (ℕ → A → Type 0) → List A → Type 0
AllAt P [] = Unit {0}
AllAt P (x ∷ xs) = P 0 x × AllAt (λ n. P (suc n)) xs

-- H tells of a watched pipeline of the translator with this number of the hub with this address
abbrev pub HubHolds : (ℕ → ℕ → Frame → Type 0) → (ℕ → ℕ → Plan) → ℕ → (ℕ → Key → ℕ) → HubContent → Type 0
HubHolds H plans now g h = AllAt (λ j t. H h.address (port_at h.translators.multi j)
    (frame_of (plans h.address (port_at h.translators.multi j)) now (g j) t)) h.translators.all

abbrev pub HubsHold : (ℕ → ℕ → Frame → Type 0) → (ℕ → ℕ → Plan) → ℕ → (ℕ → ℕ → Key → ℕ) → List HubContent → Type 0
HubsHold H plans now g hs = AllAt (λ i h. HubHolds H plans now (g i) h) hs

-- ---- what is told of the keys of entries

abbrev pub HasKey : (Key → Type 0) → Watched → Type 0
HasKey Q w = Q w.entry.key

abbrev pub HaveKeys : (Key → Type 0) → List Watched → Type 0
HaveKeys Q ws = AllByRecursion (HasKey Q) ws

abbrev pub WithKeys : (Key → Type 0) → (Frame → Type 0) → Frame → Type 0
WithKeys Q H f = H f × HaveKeys Q f.watched

-- ---- what the host may ask

-- .. and Q tells of its key
abbrev pub StartFollows : (ℕ → ℕ → Key → Type 0) → (ℕ → ℕ → Plan) → ℕ → List HubContent → Ask → ℕ → Type 0
StartFollows Q plans now hs ask n =
    (hub port : ℕ) (part : DataPart) (i j : ℕ) (h : HubContent) (t : Translator) → ask.split ≡ Start hub port part
    → is_buffered ask.kind ≡ false
    → position (λ x. x.address == hub) hs ≡ Some i → slice_get hs i ≡ Some h → h.address ≡ hub
    → place_of h.translators.multi port ≡ Some j → slice_get h.translators.all j ≡ Some t
    → Follows (plans h.address (port_at h.translators.multi j)) now ask n t.pipeline
    × Q h.address (port_at h.translators.multi j) (key_of ask)
