-- What the work of hubs and the host's transactions with them leave of what holds of their pipelines.
use Rattle.std.proofs.Common.{◌≡◌, ℕ, zero, suc, ◌+◌, ◌≤◌, Bool, true, false, List, [], ◌∷◌, length, slice_get, slice_set, Option, Some, None, refl, sym, ap, subst, ◌∙◌}
use Rattle.std.specs.Prelude.{◌==◌, ◌%◌, position, if◌then◌else◌}
use Rattle.std.specs.Option.{option_map, option_map_or, option_and_then}
use Rattle.std.proofs.lemmas.Bool.{eqb-true}
use Rattle.std.proofs.lemmas.Option.{same_Some}
use Rattle.usb_base.specs.declared.packets.Ask.{Ask}
use Rattle.usb_base.specs.declared.packets.DataPart.{DataPart}
use Rattle.usb_base.specs.declared.packets.Split.{Split}
use Rattle.usb_base.specs.declared.packets.Split.TheVariants as splits
use Rattle.hub_keys.specs.Keys.{key_of}
use Rattle.hub_keys.specs.declared.key.Key.{Key}
use Rattle.hub_ports.specs.declared.rows.HubRequest.{HubRequest}
use Rattle.hub_ports.specs.declared.rows.HubRequest.TheVariants as requests
use Rattle.tt_pipeline.specs.declared.entry.Entry.{Entry}
use Rattle.tt_pipeline.specs.Working.{budget, kept, turned_all, entries_after}
use Rattle.multi_tt.specs.Translators.{Translator, opening as opening_translator, place_of, put_if, changed_place}
use Rattle.multi_tt.specs.Single.{is_buffered, started_by, started, completed_by, completed, cleared}
use Rattle.multi_tt.specs.Calls.{port_of}
use Rattle.hub_class.specs.HubContent.{HubContent}
use Rattle.hub_class.specs.EndpointZero.{suits, acts_on, row_at, acted_with, reply_under, hub_answered_at, hub_answered}
use Rattle.hub_class.specs.Requesting.{request_at, effect, effect_if}
use Rattle.hub_class.specs.Translating.{after_split}
use Rattle.hub_class.specs.Microframe.{wire_of_translator, translators_worked}
use Rattle.dev_control.specs.Stages.{stages_after, stages_acked}
use Rattle.bus_wire.specs.declared.asked.Answerer.{Answerer}
use Rattle.bus_wire.specs.declared.asked.Answerer.TheVariants as Answerers
use Rattle.bus_wire.specs.declared.seats.Owner.{Owner}
use Rattle.bus_wire.specs.declared.seats.Owner.TheVariants as Owners
use Rattle.bus_wire.specs.declared.seats.Seat.{Seat}
use Rattle.bus_wire.specs.declared.who_heard.WhoHeard.{WhoHeard}
use Rattle.bus_wire.specs.declared.who_heard.WhoHeard.TheVariants as heard
use Rattle.bus_wire.specs.Seats.{token_kind, place_for}
use Rattle.bus_wire.specs.Asking.{hub_after, translator_after, put_at, changed_at as changed_in}
use Rattle.bus_wire.specs.Below.{Floor, Below, below_at, below_reply, below_after, floor_left, hubs_worked}
use Rattle.bus_wire.specs.Bus.{Bus, Fixed, floor_of, begin_after, stuff_of, hears_plain, hears, asked_at, bus_row, changed_by, after_at, transact_after}
use Rattle.law_translator.specs.Plans.{Fits}
use Rattle.claims_world.specs.Plans.{Plan}
use Rattle.law_translator.specs.Frames.{Frame}
use Rattle.law_translator.specs.Premises.{Follows}
use Rattle.law_microframes.proofs.lemmas.due.lemmas.repeats.Lists.{position_passes}
use Rattle.law_microframes.specs.translators.Watching.{frame_of, AllAt, HubHolds, HubsHold, StartFollows}
use Rattle.claims_world.specs.Gaps.{watched_of, gaps_worked, gaps_in, gaps_begun}
use Rattle.claims_world.specs.Pipelines.{port_at, StuffsAtMost}
use Rattle.law_microframes.proofs.lemmas.translators.Watching.{IsKept, replies_by, worked_as, starts_keep, completes_keep, clears_keep, works_keep}

-- ---- lists of which each element is so by its place

pub at_get : {A : Type 0} (P : ℕ → A → Type 0) (xs : List A) (i : ℕ) (x : A) → AllAt P xs → slice_get xs i ≡ Some x → P i x
at_get P [] i x all e = absurd cc
at_get P (y ∷ ys) zero x all e = subst (P 0) (same_Some y x e) all.0
at_get P (y ∷ ys) (suc i) x all e = at_get (λ n. P (suc n)) ys i x all.1 e

pub at_set : {A : Type 0} (P : ℕ → A → Type 0) (xs : List A) (i : ℕ) (y : A) → AllAt P xs → P i y → AllAt P (slice_set xs i y)
at_set P [] zero y all p = tt
at_set P [] (suc i) y all p = tt
at_set P (x ∷ xs) zero y all p = (p, all.1)
at_set P (x ∷ xs) (suc i) y all p = (all.0, at_set (λ n. P (suc n)) xs i y all.1 p)

pub at_all : {A : Type 0} (P : ℕ → A → Type 0) (xs : List A) → ((i : ℕ) (x : A) → slice_get xs i ≡ Some x → P i x) → AllAt P xs
at_all P [] each = tt
at_all P (x ∷ xs) each = (each 0 x refl, at_all (λ n. P (suc n)) xs (λ i y e. each (suc i) y e))

pub at_more : {A : Type 0} (P Q : ℕ → A → Type 0) (xs : List A) → ((i : ℕ) (x : A) → slice_get xs i ≡ Some x → P i x → Q i x) → AllAt P xs
    → AllAt Q xs
at_more P Q [] more all = tt
at_more P Q (x ∷ xs) more all = (more 0 x refl all.0, at_more (λ n. P (suc n)) (λ n. Q (suc n)) xs (λ i y e. more (suc i) y e) all.1)

module _ (most : ℕ) (Q : ℕ → ℕ → Key → Type 0) (H : ℕ → ℕ → Frame → Type 0)
    (is : (hub port : ℕ) → IsKept most (Q hub port) (H hub port)) (fixed : Fixed) where
  -- ---- a microframe begins, in the frame or with a new one

  kept_on : (frindex : ℕ) (es : List Entry) → (frindex % 8 == 0) ≡ false → kept frindex es ≡ es
  kept_on frindex es off = rw off refl

  kept_none : (frindex : ℕ) (es : List Entry) → (frindex % 8 == 0) ≡ true → kept frindex es ≡ []
  kept_none frindex es on = rw on refl

  module _ (frindex : ℕ) where
    abbrev Worked : List Translator → Below → List Translator
    Worked ts w = translators_worked below_reply below_after frindex ts w

    module _ (off : (frindex % 8 == 0) ≡ false) (plans : ℕ → ℕ → Plan) (now : ℕ) where
      translators_work : (hub : ℕ) (port : ℕ → ℕ) (plan : ℕ → Plan) (g : ℕ → Key → ℕ) (ts : List Translator) (w : Below)
          → AllAt (λ j t. H hub (port j) (frame_of (plan j) now (g j) t)) ts
          → AllAt (λ j t. H hub (port j) (frame_of (plan j) (now + 1) (gaps_in ts g j) t)) (Worked ts w)
      translators_work hub port plan g [] w all = tt
      translators_work hub port plan g (t ∷ ts) w all =
          let es = t.pipeline in
          let one = works_keep most (Q hub (port 0)) (H hub (port 0)) (is hub (port 0)) (plan 0) now (g 0) es
          (replies_by below_reply below_after budget es w) all.0 in
          let same : kept frindex (entries_after below_reply below_after budget es w)
          ≡ turned_all budget (replies_by below_reply below_after budget es w) es =
          kept_on frindex _ off ∙ worked_as below_reply below_after budget es w in (
            subst (λ (xs : List Entry). H hub (port 0) (record {
              plan = plan 0;
              now = now + 1;
              watched = watched_of (gaps_worked (g 0) es) xs;
            })) (sym same) one,
            translators_work hub (λ j. port (suc j)) (λ j. plan (suc j)) (λ j. g (suc j)) ts
                (wire_of_translator below_reply below_after t w) all.1,
          )

      hubs_work : (g : ℕ → ℕ → Key → ℕ) (hs : List HubContent) (floor : Floor) → HubsHold H plans now g hs
          → HubsHold H plans (now + 1) (gaps_begun hs g) (hubs_worked fixed frindex hs floor)
      hubs_work g [] floor all = tt
      hubs_work g (h ∷ hs) floor all = (
        translators_work h.address (port_at h.translators.multi) (λ j. plans h.address (port_at h.translators.multi j))
            (g 0) h.translators.all (below_at fixed h floor) all.0,
        hubs_work (λ i. g (suc i)) hs (floor_left fixed h floor) all.1,
      )

    module _ (on : (frindex % 8 == 0) ≡ true) (plans : ℕ → ℕ → Plan) (fit : (hub port : ℕ) → Fits (plans hub port)) where
      translators_drop : (hub : ℕ) (port : ℕ → ℕ) (plan : ℕ → Plan) (g : ℕ → Key → ℕ) (ts : List Translator) (w : Below)
          → ((j : ℕ) → Fits (plan j))
          → AllAt (λ j t. H hub (port j) (frame_of (plan j) 0 (g j) t)) (Worked ts w)
      translators_drop hub port plan g [] w fits = tt
      translators_drop hub port plan g (t ∷ ts) w fits =
          let none = kept_none frindex (entries_after below_reply below_after budget t.pipeline w) on in (
            subst (λ (xs : List Entry). H hub (port 0) (record { plan = plan 0; now = 0; watched = watched_of (g 0) xs })) (sym none)
                ((is hub (port 0)).opens (plan 0) (fits 0)),
            translators_drop hub (λ j. port (suc j)) (λ j. plan (suc j)) (λ j. g (suc j)) ts
                (wire_of_translator below_reply below_after t w) (λ j. fits (suc j)),
          )

      hubs_drop : (g : ℕ → ℕ → Key → ℕ) (hs : List HubContent) (floor : Floor) → HubsHold H plans 0 g (hubs_worked fixed frindex hs floor)
      hubs_drop g [] floor = tt
      hubs_drop g (h ∷ hs) floor = (
        translators_drop h.address (port_at h.translators.multi) (λ j. plans h.address (port_at h.translators.multi j))
            (g 0) h.translators.all (below_at fixed h floor)
            (λ j. fit h.address (port_at h.translators.multi j)),
        hubs_drop (λ i. g (suc i)) hs (floor_left fixed h floor),
      )

  -- a microframe within a frame
  pub begins_work : (frindex : ℕ) (plans : ℕ → ℕ → Plan) (now : ℕ) (g : ℕ → ℕ → Key → ℕ) (b : Bus) → (frindex % 8 == 0) ≡ false
      → HubsHold H plans now g b.hubs → HubsHold H plans (now + 1) (gaps_begun b.hubs g) (begin_after fixed frindex b).hubs
  begins_work frindex plans now g b off all = hubs_work frindex off plans now g b.hubs (floor_of b) all

  -- the first of a frame
  pub begins_drop : (frindex : ℕ) (plans : ℕ → ℕ → Plan) (g : ℕ → ℕ → Key → ℕ) (b : Bus) → (frindex % 8 == 0) ≡ true
      → ((hub port : ℕ) → Fits (plans hub port)) → HubsHold H plans 0 g (begin_after fixed frindex b).hubs
  begins_drop frindex plans g b on fit = hubs_drop frindex on plans fit g b.hubs (floor_of b)

  -- ---- the host's transactions

  module _ (plans : ℕ → ℕ → Plan) (now : ℕ) where
    module _ (hub : ℕ) (port : ℕ → ℕ) (g : ℕ → Key → ℕ) where
      abbrev Each : ℕ → Translator → Type 0
      Each j t = H hub (port j) (frame_of (plans hub (port j)) now (g j) t)

      changed_all : (o : Option ℕ) (f : Translator → Translator) (ts : List Translator)
          → ((j : ℕ) (t : Translator) → o ≡ Some j → slice_get ts j ≡ Some t → Each j t → Each j (f t)) → AllAt Each ts
          → AllAt Each (changed_place o f ts)
      changed_all None f ts keeps all = all
      changed_all (Some place) f ts keeps all = by (slice_get ts place) refl
        where
          by : (o : Option Translator) → slice_get ts place ≡ o → AllAt Each (put_if o place f ts)
          by None here = all
          by (Some t) here = at_set Each ts place (f t) all (keeps place t refl here (at_get Each ts place t all here))

      started_one : (buffered : Bool) (ask : Ask) (out : List ℕ) (stuff j : ℕ) (t : Translator) → stuff ≤ most
          → (buffered ≡ false → Follows (plans hub (port j)) now ask (length out) t.pipeline × Q hub (port j) (key_of ask)) → Each j t
          → Each j (started_by buffered ask out stuff t)
      started_one true ask out stuff j t few follows h = h
      started_one false ask out stuff j t few follows h =
          starts_keep most (Q hub (port j)) (H hub (port j)) (is hub (port j)) (plans hub (port j)) now (g j) t.pipeline ask out stuff few
          (follows refl).0 (follows refl).1 h

      completed_one : (buffered : Bool) (ask : Ask) (j : ℕ) (t : Translator) → Each j t → Each j (completed_by buffered ask t)
      completed_one true ask j t h = h
      completed_one false ask j t h = completes_keep most (Q hub (port j)) (H hub (port j)) (is hub (port j)) (plans hub (port j)) now
          (g j) t.pipeline (key_of ask) h

    abbrev Hub : (ℕ → Key → ℕ) → HubContent → Type 0
    Hub g h = HubHolds H plans now g h

    -- a start of the plan, at this hub
    abbrev FollowsAt : HubContent → Ask → ℕ → Type 0
    FollowsAt h ask n = (j : ℕ) (t : Translator) → is_buffered ask.kind ≡ false → place_of h.translators.multi (port_of ask.split) ≡ Some j
        → slice_get h.translators.all j ≡ Some t
        → Follows (plans h.address (port_at h.translators.multi j)) now ask n t.pipeline
        × Q h.address (port_at h.translators.multi j) (key_of ask)

    abbrev IfStarts : Split → Type 0 → Type 0
    IfStarts splits.Plain P = Unit {0}
    IfStarts (splits.Start hub port part) P = P
    IfStarts (splits.Complete hub port) P = Unit {0}

    split_keeps : (split : Split) (ask : Ask) (out : List ℕ) (stuff : ℕ) (g : ℕ → Key → ℕ) (h : HubContent) → stuff ≤ most
        → IfStarts split (FollowsAt h ask (length out)) → Hub g h → Hub g (after_split split ask out stuff h)
    split_keeps splits.Plain ask out stuff g h few follows all = all
    split_keeps (splits.Start hub port part) ask out stuff g h few follows all =
        changed_all h.address (port_at h.translators.multi) g (place_of h.translators.multi (port_of ask.split))
        (started ask out stuff) h.translators.all
        (λ j t place here one. started_one h.address (port_at h.translators.multi) g (is_buffered ask.kind) ask out stuff j t
        few (λ piped. follows j t piped place here) one) all
    split_keeps (splits.Complete hub port) ask out stuff g h few follows all =
        changed_all h.address (port_at h.translators.multi) g (place_of h.translators.multi (port_of ask.split))
        (completed ask) h.translators.all
        (λ j t place here one. completed_one h.address (port_at h.translators.multi) g (is_buffered ask.kind) ask j t one) all

    effect_keeps : (request : HubRequest) (g : ℕ → Key → ℕ) (h : HubContent) → Hub g h → Hub g (effect request h)
    effect_keeps requests.HubStatus g h all = all
    effect_keeps (requests.PortStatus port) g h all = all
    effect_keeps (requests.ChangePort port change) g h all = all
    effect_keeps (requests.ClearBuffer port key) g h all =
        changed_all h.address (port_at h.translators.multi) g (place_of h.translators.multi port) (cleared key)
        h.translators.all (λ j t place here one. one) all
    effect_keeps (requests.ResetTranslator port) g h all =
        changed_all h.address (port_at h.translators.multi) g (place_of h.translators.multi port)
        (λ t. opening_translator) h.translators.all
        (λ j t place here one. clears_keep most (Q h.address (port_at h.translators.multi j)) (H h.address (port_at h.translators.multi j))
        (is h.address (port_at h.translators.multi j)) (plans h.address (port_at h.translators.multi j)) now (g j) t.pipeline one) all

    effect_if_keeps : (o : Option HubRequest) (g : ℕ → Key → ℕ) (h : HubContent) → Hub g h → Hub g (effect_if o h)
    effect_if_keeps None g h all = all
    effect_if_keeps (Some request) g h all = effect_keeps request g h all

    acted_keeps : (o : Option (List ℕ)) (g : ℕ → Key → ℕ) (h : HubContent) → Hub g h → Hub g (acted_with o h)
    acted_keeps None g h all = all
    acted_keeps (Some setup) g h all = effect_if_keeps (request_at setup h) g h all

    zero_keeps : (on : Bool) (ask : Ask) (out : List ℕ) (g : ℕ → Key → ℕ) (h : HubContent) → Hub g h
        → Hub g (if on then hub_answered_at ask out h else h)
    zero_keeps true ask out g h all =
        acted_keeps (acts_on (row_at ask out h) h.control.request) g
        (record h { control = stages_after (reply_under h) h.control ask out }) all
    zero_keeps false ask out g h all = all

    acked_keeps : (on : Bool) (ask : Ask) (g : ℕ → Key → ℕ) (h : HubContent) → Hub g h
        → Hub g (if on then record h { control = stages_acked (reply_under h) h.control } else h)
    acked_keeps true ask g h all = all
    acked_keeps false ask g h all = all

    answered_keeps : (ask : Ask) (out : List ℕ) (g : ℕ → Key → ℕ) (h : HubContent) → Hub g h → Hub g (hub_answered ask out h)
    answered_keeps ask out g h all = zero_keeps (suits ask h) ask out g h all

    hub_keeps : (row : WhoHeard) (ask : Ask) (out : List ℕ) (g : ℕ → Key → ℕ) (h : HubContent) → Hub g h → Hub g (hub_after row ask out h)
    hub_keeps heard.SentUnheard ask out g h all = all
    hub_keeps heard.AckHeard ask out g h all =
        acked_keeps (suits ask (hub_answered ask out h)) ask g (hub_answered ask out h) (answered_keeps ask out g h all)
    hub_keeps _ ask out g h all = answered_keeps ask out g h all

    translated_keeps : (row : WhoHeard) (ask : Ask) (out : List ℕ) (stuff : ℕ) (g : ℕ → Key → ℕ) (h : HubContent) → stuff ≤ most
        → IfStarts ask.split (FollowsAt h ask (length out)) → Hub g h → Hub g (translator_after row ask out stuff h)
    translated_keeps heard.SentUnheard ask out stuff g h few follows all = all
    translated_keeps _ ask out stuff g h few follows all = split_keeps ask.split ask out stuff g h few follows all

    module _ (g : ℕ → ℕ → Key → ℕ) (b : Bus) (ask : Ask) (out : List ℕ) (follows : StartFollows Q plans now b.hubs ask (length out)) where
      abbrev All : List HubContent → Type 0
      All hs = HubsHold H plans now g hs

      hub_changed : (place : ℕ) (f : HubContent → HubContent)
          → ((h : HubContent) → slice_get b.hubs place ≡ Some h → Hub (g place) h → Hub (g place) (f h)) → All b.hubs
          → All (changed_in place f b.hubs)
      hub_changed place f keeps all = by (slice_get b.hubs place) refl
        where
          by : (o : Option HubContent) → slice_get b.hubs place ≡ o → All (put_at o place f b.hubs)
          by None here = all
          by (Some h) here =
              at_set (λ i h. Hub (g i) h) b.hubs place (f h) all (keeps h here (at_get (λ i h. Hub (g i) h) b.hubs place h all here))

      changed_keeps : (row : WhoHeard) (who : Answerer)
          → ((place stuff : ℕ) → who ≡ Answerers.Translator place stuff
          → (stuff ≤ most) × ((h : HubContent) → slice_get b.hubs place ≡ Some h
          → IfStarts ask.split (FollowsAt h ask (length out)))) → All b.hubs → All (changed_by row who ask out b).hubs
      changed_keeps row (Answerers.Device place) may all = all
      changed_keeps row (Answerers.Hub place) may all =
          hub_changed place (hub_after row ask out) (λ h here one. hub_keeps row ask out (g place) h one) all
      changed_keeps row (Answerers.Translator place stuff) may all =
          let m = may place stuff refl in
          hub_changed place (translator_after row ask out stuff)
          (λ h here one. translated_keeps row ask out stuff (g place) h m.0 (m.1 h here) one) all
      changed_keeps row Answerers.Nobody may all = all

      -- a split is heard by the translator of the hub that it names
      no_translator : (owner : Owner) (place stuff : ℕ) → hears_plain owner ≡ Answerers.Translator place stuff → ⊥
      no_translator (Owners.Hub at) place stuff e = absurd cc
      no_translator (Owners.High at) place stuff e = absurd cc
      no_translator (Owners.Below at hub port bits) place stuff e = absurd cc

      abbrev Heard : ℕ → ℕ → Type 0
      Heard place stuff =
          (stuff ≤ most) × ((h : HubContent) → slice_get b.hubs place ≡ Some h → IfStarts ask.split (FollowsAt h ask (length out)))

      same_translator : (i bits place stuff : ℕ) → Answerers.Translator i bits ≡ Answerers.Translator place stuff
          → (i ≡ place) × (bits ≡ stuff)
      same_translator i bits place stuff e = (cc, cc)

      found_heard : (hub port : ℕ) (part : DataPart) (bits place stuff : ℕ) (o : Option ℕ) → ask.split ≡ splits.Start hub port part
          → bits ≤ most
          → position (λ h. h.address == hub) b.hubs ≡ o
          → option_map_or (λ at. Answerers.Translator at bits) o Answerers.Nobody ≡ Answerers.Translator place stuff → Heard place stuff
      found_heard hub port part bits place stuff None is few found e = absurd cc
      found_heard hub port part bits place stuff (Some i) is few found e =
          let same = same_translator i bits place stuff e in
          let at : position (λ h. h.address == hub) b.hubs ≡ Some place = found ∙ ap Some same.0 in (
            subst (λ (n : ℕ). n ≤ most) same.1 few,
            λ h here. subst (λ (split : Split). IfStarts split (FollowsAt h ask (length out))) (sym is)
                (λ j t piped serves there. follows hub port part place j h t is piped at here
                (eqb-true _ _ (position_passes (λ (x : HubContent). x.address == hub) b.hubs place h at here))
                (ap (λ (split : Split). place_of h.translators.multi (port_of split)) (sym is) ∙ serves) there),
          )

      found_complete : (hub port : ℕ) (bits place stuff : ℕ) (o : Option ℕ) → ask.split ≡ splits.Complete hub port → bits ≤ most
          → option_map_or (λ at. Answerers.Translator at bits) o Answerers.Nobody ≡ Answerers.Translator place stuff → Heard place stuff
      found_complete hub port bits place stuff None is few e = absurd cc
      found_complete hub port bits place stuff (Some i) is few e =
          let same = same_translator i bits place stuff e in (
            subst (λ (n : ℕ). n ≤ most) same.1 few,
            λ h here. subst (λ (split : Split). IfStarts split (FollowsAt h ask (length out))) (sym is) tt,
          )

      heard_by : (split : Split) (owner : Owner) (place stuff : ℕ) → ask.split ≡ split → stuff_of owner ≤ most
          → hears b split owner ≡ Answerers.Translator place stuff → Heard place stuff
      heard_by splits.Plain owner place stuff is few e = absurd (no_translator owner place stuff e)
      heard_by (splits.Start hub port part) owner place stuff is few e =
          found_heard hub port part (stuff_of owner) place stuff (position (λ h. h.address == hub) b.hubs) is few refl e
      heard_by (splits.Complete hub port) owner place stuff is few e =
          found_complete hub port (stuff_of owner) place stuff (position (λ h. h.address == hub) b.hubs) is few e

      module _ (few : StuffsAtMost most fixed) where
        seated : (place : ℕ) (packet : Option ℕ) (o : Option Seat) → slice_get fixed.seats place ≡ o → All b.hubs
            → All (after_at fixed b ask out (option_and_then
            (λ seat. option_map (λ n. record { place = place; name = seat.name; packet = n; who = hears b ask.split seat.owner })
            packet) o)).hubs
        seated place packet None here all = all
        seated place None (Some seat) here all = all
        seated place (Some n) (Some seat) here all =
            changed_keeps
            (bus_row fixed b (record { place = place; name = seat.name; packet = n; who = hears b ask.split seat.owner }) ask out)
            (hears b ask.split seat.owner)
            (λ at stuff e. heard_by ask.split seat.owner at stuff refl (few place seat here) e) all

        placed : (o : Option ℕ) → All b.hubs → All (after_at fixed b ask out (option_and_then (asked_at fixed b ask.split) o)).hubs
        placed None all = all
        placed (Some place) all = seated place (slice_get b.high place) (slice_get fixed.seats place) refl all

        -- a transaction of the host
        pub asks_keep : All b.hubs → All (transact_after fixed b ask out).hubs
        asks_keep all = placed (place_for fixed.seats ask.addr ask.ep (token_kind ask.pid)) all
