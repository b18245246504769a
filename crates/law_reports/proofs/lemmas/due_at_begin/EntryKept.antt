-- What the host asks otherwise leaves the entry of an interrupt endpoint in the pipeline of its translator, where its hub hasn't heard last
-- to clear a buffer or to reset a translator; and it ages as a microframe of the frame begins (USB 2.0, 11.14, 11.17, 11.18 and 11.24.2).
use Rattle.std.proofs.Common.{◌≡◌, ◌≢◌, ℕ, zero, suc, ◌+◌, ◌%◌, Bool, true, false, if◌then◌else◌, List, [], ◌∷◌, length, slice_get}
use Rattle.std.proofs.Common.{slice_set, Option}
use Rattle.std.proofs.Common.{Some, None, ap, refl, sym, subst, ◌∙◌, ⊎_elim, inl, inr, ◌⊎◌}
use Rattle.std.specs.Prelude.{◌==◌, position, not, nat_lt}
use Rattle.std.specs.List.{AllByRecursion, position_or_len}
use Rattle.std.specs.Option.{option_map_or, option_and_then}
use Rattle.std.proofs.lemmas.Bool.{cases_eq, eqb-true}
use Rattle.std.proofs.lemmas.Option.{same_Some}
use Rattle.law_common.proofs.Lists.{nth_all}
use Rattle.usb_base.specs.declared.packets.Ask.{Ask}
use Rattle.usb_base.specs.declared.packets.DataPart.{DataPart}
use Rattle.usb_base.specs.declared.packets.Split.{Split}
use Rattle.usb_base.specs.declared.packets.Split.TheVariants as splits
use Rattle.hub_keys.specs.Keys.{key_of, is_same_key}
use Rattle.hub_keys.specs.declared.key.Key.{Key}
use Rattle.tt_pipeline.specs.declared.entry.Entry.{Entry}
use Rattle.tt_pipeline.specs.Working.{budget, kept, entries_after, turned_all}
use Rattle.multi_tt.specs.Translators.{Translator, place_of}
use Rattle.multi_tt.specs.Single.{is_buffered, started_by, started, completed_by, completed}
use Rattle.multi_tt.specs.Calls.{port_of}
use Rattle.hub_class.specs.HubContent.{HubContent}
use Rattle.hub_class.specs.Translating.{after_split}
use Rattle.bus_wire.specs.declared.asked.Answerer.{Answerer}
use Rattle.bus_wire.specs.declared.asked.Answerer.TheVariants as answerers
use Rattle.bus_wire.specs.declared.asked.Asked.{Asked}
use Rattle.bus_wire.specs.declared.who_heard.WhoHeard.{WhoHeard}
use Rattle.bus_wire.specs.declared.who_heard.WhoHeard.TheVariants as heard
use Rattle.bus_wire.specs.Asking.{hub_after, translator_after, put_at, changed_at as changed_in}
use Rattle.bus_wire.specs.Below.{Below, below_reply, below_after}
use Rattle.bus_wire.specs.Bus.{Bus, Fixed, asked_of, bus_row, changed_by, after_at, transact_after, begin_after}
use Rattle.claims_world.specs.Behind.{entries_at, entries_of_hub, entries_by}
use Rattle.claims_world.specs.BelowStreams.{heard_clear}
use Rattle.law_devices.proofs.Places.{position_passes, set_here, set_beside}
use Rattle.law_microframes.specs.translators.Results.{pipeline_for}
use Rattle.law_microframes.proofs.lemmas.translators.TurnsPipelines.{Beside, pipelines_beside, begun_beside}
use Rattle.law_microframes.proofs.lemmas.translators.Watching.{replies_by, worked_as}
use Rattle.law_reports.proofs.lemmas.due_at_begin.EntryStages.{HasStaged, turns_stage, completes_stage, other_start_stage}
use Rattle.law_reports.proofs.lemmas.due_at_begin.PipelinesLeft.{Hub, hub_same, hubs_same, hubs_put, in_changed}
use Rattle.law_reports.proofs.lemmas.pipes.lemmas.below_hubs.DeafHubs.{address_after}
use Rattle.law_reports.proofs.lemmas.pipes.lemmas.below_hubs.SparedHubs.{asked_keeps}

-- ---- a microframe of the frame begins

pub begins_stage : (m : ℕ) (k : Key) (fixed : Fixed) (frindex : ℕ) (b : Bus) (hub port : ℕ) → (frindex % 8 == 0) ≡ false
    → HasStaged m k (pipeline_for b.hubs hub port) → HasStaged (suc m) k (pipeline_for (begin_after fixed frindex b).hubs hub port)
begins_stage m k fixed frindex b hub port within =
    begun_beside (λ es fs. HasStaged m k es → HasStaged (suc m) k fs) frindex
    (λ es w h.
    subst (λ (c : Bool). HasStaged (suc m) k (if c then [] else entries_after below_reply below_after budget es w)) (sym within)
    (subst (HasStaged (suc m) k) (sym (worked_as below_reply below_after budget es w))
    (turns_stage m k budget (replies_by below_reply below_after budget es w) es h)))
    (λ h. absurd (let none = h.there in cc)) fixed b hub port

-- ---- hubs, one of which becomes another

set_first : (p : HubContent → Bool) (hs : List HubContent) (n : ℕ) (h g : HubContent) → slice_get hs n ≡ Some h → p g ≡ p h
    → position_or_len p (slice_set hs n g) ≡ position_or_len p hs
set_first p [] n h g here same = refl
set_first p (x ∷ xs) zero h g here same =
    ap (λ (b : Bool). if not b then 1 + position_or_len p xs else 0) (same ∙ ap p (sym (same_Some x h here)))
set_first p (x ∷ xs) (suc n) h g here same =
    ap (λ (i : ℕ). if not (p x) then 1 + i else 0) (set_first p xs n h g here same)

set_length : (hs : List HubContent) (n : ℕ) (g : HubContent) → length (slice_set hs n g) ≡ length hs
set_length [] n g = refl
set_length (x ∷ xs) zero g = refl
set_length (x ∷ xs) (suc n) g = ap suc (set_length xs n g)

set_position : (p : HubContent → Bool) (hs : List HubContent) (n : ℕ) (h g : HubContent) → slice_get hs n ≡ Some h → p g ≡ p h
    → position p (slice_set hs n g) ≡ position p hs
set_position p hs n h g here same =
    ap (λ (i : ℕ). if nat_lt i (length (slice_set hs n g)) then Some i else None) (set_first p hs n h g here same)
    ∙ ap (λ (i : ℕ). if nat_lt (position_or_len p hs) i then Some (position_or_len p hs) else None) (set_length hs n g)

module _ (hub port : ℕ) (hs : List HubContent) (n : ℕ) (h g : HubContent) (here : slice_get hs n ≡ Some h) (address : g.address ≡ h.address)
    (same : h.address ≡ hub → g.translators ≡ h.translators) where
  abbrev is_it : HubContent → Bool
  is_it x = x.address == hub

  entries_same : (i : ℕ) → position is_it hs ≡ Some i → entries_of_hub (slice_get (slice_set hs n g) i) port ≡ entries_of_hub (slice_get hs i) port
  entries_same i found =
      ⊎_elim {C = entries_of_hub (slice_get (slice_set hs n g) i) port ≡ entries_of_hub (slice_get hs i) port}
      (λ (own : i ≡ n).
      let at : slice_get hs i ≡ Some h = ap (slice_get hs) own ∙ here in
      let its : h.address ≡ hub = eqb-true h.address hub (position_passes is_it hs i h found at) in
      ap (λ (o : Option HubContent). entries_of_hub o port) (ap (slice_get (slice_set hs n g)) own ∙ set_here hs n h g here)
      ∙ ap (λ ts. entries_at (place_of ts.multi port) (record h { translators = ts })) (same its)
      ∙ ap (λ (o : Option HubContent). entries_of_hub o port) (sym at))
      (λ (other : i ≢ n). ap (λ (o : Option HubContent). entries_of_hub o port) (set_beside hs n i g other))
      (cases_eq i n)

  by_position : (o : Option ℕ) → position is_it hs ≡ o → entries_by (slice_set hs n g) o port ≡ entries_by hs o port
  by_position None found = refl
  by_position (Some i) found = entries_same i found

  pub set_pipeline : pipeline_for (slice_set hs n g) hub port ≡ pipeline_for hs hub port
  set_pipeline =
      ap (λ (o : Option ℕ). entries_by (slice_set hs n g) o port)
      (set_position is_it hs n h g here (ap (λ (a : ℕ). a == hub) address))
      ∙ by_position (position is_it hs) refl

-- ---- a transaction of the host

abbrev pub AreSpared : ℕ → List HubContent → Type 0
AreSpared hub hs = AllByRecursion (λ (h : HubContent). h.address ≡ hub → heard_clear h ≡ false) hs

module _ (m : ℕ) (k : Key) (fixed : Fixed) (b : Bus) (ask : Ask) (out : List ℕ)
    (starts : (hub port : ℕ) (part : DataPart) → ask.split ≡ splits.Start hub port part → is_buffered ask.kind ≡ false
    → is_same_key (key_of ask) k ≡ false) (hub port : ℕ) (spared : AreSpared hub b.hubs) where
  abbrev R : List Entry → List Entry → Type 0
  R es fs = HasStaged m k es → HasStaged m k fs

  itself : (es : List Entry) → R es es
  itself es h = h

  started_stage : (buffered : Bool) (stuff : ℕ) (t : Translator) → (buffered ≡ false → is_same_key (key_of ask) k ≡ false)
      → R t.pipeline (started_by buffered ask out stuff t).pipeline
  started_stage true stuff t apart h = h
  started_stage false stuff t apart h = other_start_stage m k ask out stuff t.pipeline (apart refl) h

  completed_stage : (buffered : Bool) (t : Translator) → R t.pipeline (completed_by buffered ask t).pipeline
  completed_stage true t h = h
  completed_stage false t h = completes_stage m k (key_of ask) t.pipeline h

  split_stage : (split : Split) (stuff : ℕ) (h : HubContent) → ask.split ≡ split → Hub R itself h (after_split split ask out stuff h)
  split_stage splits.Plain stuff h is = hub_same R itself h
  split_stage (splits.Start a p part) stuff h is = (
    refl,
    (
      refl,
      in_changed R itself (place_of h.translators.multi (port_of ask.split)) (started ask out stuff) h.translators.all
          (λ t. started_stage (is_buffered ask.kind) stuff t (λ piped. starts a p part is piped)),
    ),
  )
  split_stage (splits.Complete a p) stuff h is = (
    refl,
    (
      refl,
      in_changed R itself (place_of h.translators.multi (port_of ask.split)) (completed ask) h.translators.all
          (λ t. completed_stage (is_buffered ask.kind) t),
    ),
  )

  translated_stage : (row : WhoHeard) (stuff : ℕ) (h : HubContent) → Hub R itself h (translator_after row ask out stuff h)
  translated_stage heard.SentUnheard stuff h = hub_same R itself h
  translated_stage _ stuff h = split_stage ask.split stuff h refl

  by_beside : (hs : List HubContent) → Beside R b.hubs hs → R (pipeline_for b.hubs hub port) (pipeline_for hs hub port)
  by_beside hs beside = pipelines_beside R (λ h. h) b.hubs hs beside hub port

  put_hub : (row : WhoHeard) (n : ℕ) (o : Option HubContent) → slice_get b.hubs n ≡ o
      → R (pipeline_for b.hubs hub port) (pipeline_for (put_at o n (hub_after row ask out) b.hubs) hub port)
  put_hub row n None here h = h
  put_hub row n (Some x) here h =
      subst (HasStaged m k)
      (sym (set_pipeline hub port b.hubs n x (hub_after row ask out x) here (address_after ask row out x)
      (λ its. asked_keeps x (nth_all (λ (y : HubContent). y.address ≡ hub → heard_clear y ≡ false) b.hubs n x spared here its) row ask out)))
      h

  changed_stage : (row : WhoHeard) (who : Answerer) → R (pipeline_for b.hubs hub port) (pipeline_for (changed_by row who ask out b).hubs hub port)
  changed_stage row (answerers.Device n) h = h
  changed_stage row (answerers.Hub n) h = put_hub row n (slice_get b.hubs n) refl h
  changed_stage row (answerers.Translator n stuff) h =
      by_beside (changed_in n (translator_after row ask out stuff) b.hubs)
      (hubs_put R itself b.hubs n (translator_after row ask out stuff) (λ x. translated_stage row stuff x)) h
  changed_stage row answerers.Nobody h = h

  after_stage : (o : Option Asked) → R (pipeline_for b.hubs hub port) (pipeline_for (after_at fixed b ask out o).hubs hub port)
  after_stage None h = h
  after_stage (Some e) h = changed_stage (bus_row fixed b e ask out) e.who h

  pub asks_stage : HasStaged m k (pipeline_for b.hubs hub port) → HasStaged m k (pipeline_for (transact_after fixed b ask out).hubs hub port)
  asks_stage h = after_stage (asked_of fixed b ask) h
