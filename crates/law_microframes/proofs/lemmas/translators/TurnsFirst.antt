-- To the first part of an isochronous OUT in its frame no entry of its key lacks nothing: what has an entry began in an earlier microframe,
-- or in this one (USB 2.0, 11.18.4; EHCI 1.0, 4.12.3).
use Rattle.std.proofs.Common.{◌≡◌, ℕ, ◌%◌, Bool, true, false, List, [], ◌∷◌, length, slice_get, Option, Some, None, refl, sym, ap, subst, ◌∙◌, inl, inr, arith, if◌then◌else◌}
use Rattle.std.specs.Prelude.{◌==◌, ◌||◌, nat_lt, position}
use Rattle.std.specs.Option.{option_map_or}
use Rattle.std.proofs.lemmas.Bool.{true≢false, or_parts, eqb-true}
use Rattle.usb_base.specs.declared.packets.Ask.{Ask}
use Rattle.usb_base.specs.declared.packets.DataPart.{DataPart}
use Rattle.usb_base.specs.declared.packets.DataPart.TheVariants as parts
use Rattle.usb_base.specs.declared.packets.Split.TheVariants as splits
use Rattle.hub_keys.specs.Keys.{key_of}
use Rattle.hub_keys.specs.declared.key.Key.{Key}
use Rattle.tt_pipeline.specs.declared.entry.Brought.{Brought}
use Rattle.tt_pipeline.specs.declared.entry.Entry.{Entry}
use Rattle.tt_pipeline.specs.declared.rows.StartRow.TheVariants.{Enters, Forgotten}
use Rattle.tt_pipeline.specs.Starting.{is_there, row_of_part}
use Rattle.tt_pipeline.specs.Work.{asked_part, nothing_brought}
use Rattle.multi_tt.specs.Single.{is_buffered}
use Rattle.multi_tt.specs.Translators.{Translator, place_of}
use Rattle.hub_class.specs.HubContent.{HubContent}
use Rattle.bus_world.specs.World.{World}
use Rattle.claims_world.specs.Plans.{Plan}
use Rattle.law_translator.specs.Frames.{Frame}
use Rattle.law_translator.specs.Premises.{FollowsRow, Follows}
use Rattle.law_translator.proofs.Keys.{same_key}
use Rattle.law_translator.proofs.Owing.{Came, unseen, partial, ended, Seen, Coming}
use Rattle.law_translator.proofs.Work.{All}
use Rattle.law_microframes.specs.translators.Keeping.{IsOwned, IsRight, WorldKeeps}
use Rattle.claims_world.specs.HubPlans.{plans_now}
use Rattle.law_microframes.specs.translators.Parts.{EachOf, Lacks, IsEven}
use Rattle.law_microframes.specs.translators.Turns.{entries_at, entries_of_hub, entries_by, pipeline_for}
use Rattle.law_microframes.specs.translators.Watching.{frame_of, HubHolds, StartFollows}
use Rattle.claims_world.specs.Gaps.{watched_of, pipeline_in}
use Rattle.claims_world.specs.Pipelines.{port_at}
use Rattle.law_microframes.proofs.lemmas.due.lemmas.repeats.Lists.{position_passes}
use Rattle.law_microframes.proofs.lemmas.translators.Hubs.{at_get}
use Rattle.law_microframes.proofs.lemmas.translators.Kept.{Any}
use Rattle.law_microframes.proofs.lemmas.translators.Parts.{none_each}
use Rattle.law_microframes.proofs.lemmas.translators.Watching.{IsKept}

abbrev piped_by : Option Translator → List Entry
piped_by o = option_map_or (λ (t : Translator). t.pipeline) o []

-- ---- an entry to which no part came in the first microframe of its key

nothing_seen : (b : Brought) → b ≡ nothing_brought → Seen b → ⊥
nothing_seen b is (inl whole) = true≢false (sym whole ∙ ap (λ (x : Brought). x.whole) is)
nothing_seen b is (inr some) = let none : b.parts ≡ 0 = ap (λ (x : Brought). x.parts) is in omega (arith, some, none)

module _ (most : ℕ) (p : Plan) (now : ℕ) (k : Key) (first : now ≡ p.first k) where
  not_early : (e : Entry) (gaps : ℕ) → Came p e.key e.ask e.before gaps now → Seen e.came → e.came ≡ e.before → e.key ≡ k → ⊥
  not_early e gaps (unseen is none ahead) seen even key = nothing_seen e.came (even ∙ is) seen
  not_early e gaps (partial lacks some count bytes begun) seen even key =
      let at : p.first e.key ≡ p.first k = ap p.first key in omega (arith, begun, at, first)
  not_early e gaps (ended whole fits begun) seen even key =
      let at : p.first e.key ≡ p.first k = ap p.first key in omega (arith, begun, at, first)

  early_lacks : (g : Key → ℕ) (es : List Entry) → All (Coming most p now) (watched_of g es) → EachOf IsEven k es → EachOf Lacks k es
  early_lacks g [] comes even = tt
  early_lacks g (e ∷ es) comes even = (
    (λ own. absurd (not_early e _ comes.0.before comes.0.seen (even.0 own) (same_key e.key k own))),
    early_lacks g es comes.1 even.1,
  )

module _ (most : ℕ) (H : Frame → Type 0) (is : IsKept most Any H) (w : World) (g : ℕ → ℕ → Key → ℕ) (all : WorldKeeps H w g) (ask : Ask)
    (n hub port : ℕ) (part : DataPart) (split : ask.split ≡ splits.Start hub port part) (piped : is_buffered ask.kind ≡ false)
    (follows : StartFollows (IsOwned w.driver w.registers.frame_index) (plans_now w.driver w.registers.frame_index)
    (w.registers.frame_index % 8) w.bus.hubs ask n) (begins : asked_part ask ≡ parts.Begin) where
  abbrev k : Key
  k = key_of ask

  abbrev now : ℕ
  now = w.registers.frame_index % 8

  in_plan : (p : Plan) (h : Key → ℕ) (t : Translator) → H (frame_of p (w.registers.frame_index % 8) h t)
      → Follows p (w.registers.frame_index % 8) ask n t.pipeline → EachOf IsEven (key_of ask) t.pipeline
      → EachOf Lacks (key_of ask) t.pipeline
  in_plan p h t holds fair even =
      by (is_there k t.pipeline || nat_lt (length t.pipeline) 256) refl
      (subst (λ (z : DataPart). FollowsRow (row_of_part z k n t.pipeline) p now ask n t.pipeline) begins fair)
    where
      by : (b : Bool) → (is_there (key_of ask) t.pipeline || nat_lt (length t.pipeline) 256) ≡ b
          → FollowsRow (if b then Enters else Forgotten) p (w.registers.frame_index % 8) ask n t.pipeline
          → EachOf Lacks (key_of ask) t.pipeline
      by true room first = early_lacks most p now k first.on_time h t.pipeline (is.comes _ holds) even
      by false room first =
          none_each Lacks k t.pipeline (or_parts (is_there k t.pipeline) (nat_lt (length t.pipeline) 256) room).0

  -- the translator of a hub
  module _ (i : ℕ) (found : position (λ x. x.address == hub) w.bus.hubs ≡ Some i) (h : HubContent) (here : slice_get w.bus.hubs i ≡ Some h) where
    address : h.address ≡ hub
    address = eqb-true h.address hub (position_passes (λ (x : HubContent). x.address == hub) w.bus.hubs i h found here)

    of_translator : (j : ℕ) (t : Translator) → place_of h.translators.multi port ≡ Some j → slice_get h.translators.all j ≡ Some t
        → EachOf IsEven (key_of ask) t.pipeline → EachOf Lacks (key_of ask) t.pipeline
    of_translator j t place there even =
        let i_hub = at_get (λ m x. HubHolds (IsRight H w.driver w.registers.frame_index) (plans_now w.driver w.registers.frame_index)
        now (g m) x) w.bus.hubs i h all here in
        let one = at_get (λ m x. IsRight H w.driver w.registers.frame_index h.address (port_at h.translators.multi m)
        (frame_of (plans_now w.driver w.registers.frame_index h.address (port_at h.translators.multi m)) now (g i m) x))
        h.translators.all j t i_hub there in
        in_plan (plans_now w.driver w.registers.frame_index h.address (port_at h.translators.multi j)) (g i j) t one.0
        (follows hub port part i j h t split piped found here address place there).0 even

    at_place : (j : ℕ) (o : Option Translator) → place_of h.translators.multi port ≡ Some j → slice_get h.translators.all j ≡ o
        → EachOf IsEven (key_of ask) (pipeline_in h.translators.all j) → EachOf Lacks (key_of ask) (pipeline_in h.translators.all j)
    at_place j None place there even = subst (EachOf Lacks k) (sym (ap (λ (o : Option Translator). piped_by o) there)) tt
    at_place j (Some t) place there even =
        let same : pipeline_in h.translators.all j ≡ t.pipeline = ap (λ (o : Option Translator). piped_by o) there in
        subst (EachOf Lacks k) (sym same) (of_translator j t place there (subst (EachOf IsEven k) same even))

    by_port : (o : Option ℕ) → place_of h.translators.multi port ≡ o → EachOf IsEven (key_of ask) (entries_at o h)
        → EachOf Lacks (key_of ask) (entries_at o h)
    by_port None place even = tt
    by_port (Some j) place even = at_place j (slice_get h.translators.all j) place refl even

  by_hub : (i : ℕ) (o : Option HubContent) → position (λ x. x.address == hub) w.bus.hubs ≡ Some i → slice_get w.bus.hubs i ≡ o
      → EachOf IsEven (key_of ask) (entries_of_hub o port) → EachOf Lacks (key_of ask) (entries_of_hub o port)
  by_hub i None found here even = tt
  by_hub i (Some h) found here even = by_port i found h here (place_of h.translators.multi port) refl even

  by_position : (o : Option ℕ) → position (λ x. x.address == hub) w.bus.hubs ≡ o
      → EachOf IsEven (key_of ask) (entries_by w.bus.hubs o port) → EachOf Lacks (key_of ask) (entries_by w.bus.hubs o port)
  by_position None found even = tt
  by_position (Some i) found even = by_hub i (slice_get w.bus.hubs i) found refl even

  pub firsts_lack : EachOf IsEven (key_of ask) (pipeline_for w.bus.hubs hub port)
      → EachOf Lacks (key_of ask) (pipeline_for w.bus.hubs hub port)
  firsts_lack even = by_position (position (λ x. x.address == hub) w.bus.hubs) refl even
