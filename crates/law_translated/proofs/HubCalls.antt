-- Each call on the translators of a hub, and their work, key by key.
use Rattle.std.proofs.Common.{◌≡◌, ◌≢◌, ℕ, zero, suc, Bool, true, false, List, [], ◌∷◌, Option, Some, None, slice_get, if◌then◌else◌, ◌%◌, ◌==◌, refl, sym, subst, ap, ◌∙◌}
use Rattle.std.specs.Option.{option_map_or, option_and_then}
use Rattle.law_translated.proofs.Common.{later_at}
use Rattle.usb_base.specs.declared.packets.Ask.{Ask}
use Rattle.usb_base.specs.declared.packets.Reply.{Reply}
use Rattle.usb_base.specs.declared.packets.Reply.TheVariants.{Silent}
use Rattle.hub_keys.specs.Keys.{key_of, is_same_key}
use Rattle.hub_keys.specs.declared.key.Key.{Key}
use Rattle.tt_bulk.specs.Rows.{is_cleared_by}
use Rattle.multi_tt.specs.Translators.{Translator, Translators, place_of, put_if, changed_place, translator_at}
use Rattle.multi_tt.specs.Single.{started, start_answer, completed, complete_answer, cleared, AllWork}
use Rattle.multi_tt.specs.Calls.{Starts, Completes, Clears, hub_after, port_of}
use Rattle.law_translated.specs.Lift.{Way, Buffered, Piped, Empty, told}
use Rattle.law_translated.specs.KeySlots.{KeySlot, way_of}
use Rattle.law_translated.specs.KeySteps.{OtherStart, KeyTurn, OfOthers, none, Showing, left_slot, WorkOfKey}
use Rattle.law_translated.specs.KeySteps.OtherStart.{stays, forgets}
use Rattle.law_translated.specs.KeySteps.KeyTurn.{rests, works, is_quiet, gives_dead}
use Rattle.law_translated.specs.KeySteps.Showing.{stays as shown_stays, shows}
use Rattle.law_translated.specs.KeyLaws.{IsAskedFor, Has, cleared_slot}
use Rattle.law_translated.specs.KeyHubs.{HaveNone, HasAt, HubStartsOwn, LeavesOther, HubStartByKey, HubCompletesOwn, HubCompleteByKey, HubClearByKey, HubWorksForKey, HubWorkByKey}
use Rattle.law_translated.proofs.BufferWork.{then_others, before_it, behind_it}
use Rattle.law_translated.proofs.TranslatorCalls.{asked_by_key, start_by_key, complete_by_key, clear_by_key, work_by_key}

-- ---- one translator of a list changes

module _ (way : Way) (k : Key) where
  -- the key's own is found
  record IsFound (place : ℕ) (all : List Translator) (s : KeySlot) : Type 0 where
    translator : Translator
    there : slice_get all place ≡ Some translator
    has : Has way k translator s

  found : (place : ℕ) (all : List Translator) (s : KeySlot) → HasAt way k place all s → IsFound place all s
  found place [] s h = absurd h
  found zero (t ∷ ts) s h = record { translator = t; there = refl; has = h.0 }
  found (suc place) (t ∷ ts) s h = let r = found place ts s h.1 in record { translator = r.translator; there = r.there; has = r.has }

  own_changed : (f : Translator → Translator) (place : ℕ) (all : List Translator) (s new : KeySlot) → HasAt way k place all s
      → ((t : Translator) → slice_get all place ≡ Some t → Has way k t s → Has way k (f t) new)
      → HasAt way k place (put_if (slice_get all place) place f all) new
  own_changed f place [] s new h each = absurd h
  own_changed f zero (t ∷ ts) s new h each = (each t refl h.0, h.1)
  own_changed f (suc place) (t ∷ ts) s new h each =
      subst (λ (xs : List Translator). HasAt way k (suc place) xs new) (sym (later_at (slice_get ts place) place f t ts))
      (h.0, own_changed f place ts s new h.1 each)

  -- a change that leaves the key, or takes what was told
  abbrev Leaves : (Translator → Translator) → Type 0
  Leaves f = (t : Translator) (s : KeySlot) → Has way k t s → (new : KeySlot) × Has way k (f t) new × OtherStart way s new

  empty_left : (s new : KeySlot) → s ≡ Empty → OtherStart way s new → new ≡ Empty
  empty_left s _ e stays = e
  empty_left s _ e (forgets a r buffered is) = refl

  none_left : (f : Translator → Translator) (t : Translator) → Leaves f → Has way k t Empty → Has way k (f t) Empty
  none_left f t leaves h =
      let r = leaves t Empty h in
      subst (λ (x : KeySlot). Has way k (f t) x) (empty_left Empty r.0 refl r.2) r.1

  none_changed : (f : Translator → Translator) (q : ℕ) (all : List Translator) → Leaves f → HaveNone way k all
      → HaveNone way k (put_if (slice_get all q) q f all)
  none_changed f q [] leaves h = h
  none_changed f zero (t ∷ ts) leaves h = (none_left f t leaves h.0, h.1)
  none_changed f (suc q) (t ∷ ts) leaves h =
      subst (λ (xs : List Translator). HaveNone way k xs) (sym (later_at (slice_get ts q) q f t ts)) (h.0, none_changed f q ts leaves h.1)

  other_changed : (f : Translator → Translator) (q place : ℕ) (all : List Translator) (s : KeySlot) → Leaves f → HasAt way k place all s
      → LeavesOther way k place s (put_if (slice_get all q) q f all)
  other_changed f q place [] s leaves h = absurd h
  other_changed f zero zero (t ∷ ts) s leaves h = let r = leaves t s h.0 in record { slot = r.0; has = (r.1, h.1); step = r.2 }
  other_changed f zero (suc place) (t ∷ ts) s leaves h = record { slot = s; has = (none_left f t leaves h.0, h.1); step = stays }
  other_changed f (suc q) zero (t ∷ ts) s leaves h =
      subst (λ (xs : List Translator). LeavesOther way k zero s xs) (sym (later_at (slice_get ts q) q f t ts))
      (record { slot = s; has = (h.0, none_changed f q ts leaves h.1); step = stays })
  other_changed f (suc q) (suc place) (t ∷ ts) s leaves h =
      let r = other_changed f q place ts s leaves h.1 in
      subst (λ (xs : List Translator). LeavesOther way k (suc place) s xs) (sym (later_at (slice_get ts q) q f t ts))
      (record { slot = r.slot; has = (h.0, r.has); step = r.step })

  other_at : (f : Translator → Translator) (o : Option ℕ) (place : ℕ) (all : List Translator) (s : KeySlot) → Leaves f
      → HasAt way k place all s
      → LeavesOther way k place s (changed_place o f all)
  other_at f None place all s leaves h = record { slot = s; has = h; step = stays }
  other_at f (Some q) place all s leaves h = other_changed f q place all s leaves h

  own_at : (f : Translator → Translator) (o : Option ℕ) (place : ℕ) (all : List Translator) (s new : KeySlot) → o ≡ Some place
      → HasAt way k place all s
      → ((t : Translator) → slice_get all place ≡ Some t → Has way k t s → Has way k (f t) new)
      → HasAt way k place (changed_place o f all) new
  own_at f o place all s new at h each =
      subst (λ (p : Option ℕ). HasAt way k place (changed_place p f all) new) (sym at) (own_changed f place all s new h each)

  -- the answer is that of the key's own
  answer_at : (f : Translator → Reply) (ts : Translators) (port place : ℕ) (t : Translator) → place_of ts.multi port ≡ Some place
      → slice_get ts.all place ≡ Some t
      → option_map_or f (translator_at port ts) Silent ≡ f t
  answer_at f ts port place t at there =
      ap (λ (o : Option ℕ). option_map_or f (option_and_then (λ p. slice_get ts.all p) o) Silent) at
      ∙ ap (λ (o : Option Translator). option_map_or f o Silent) there

-- ---- starts

start_at : (way : Way) (ask : Ask) (bytes : List ℕ) (stuff place : ℕ) (ts : Translators) (s : KeySlot) → way_of ask.kind ≡ Some way
    → place_of ts.multi (port_of ask.split) ≡ Some place → HasAt way (key_of ask) place ts.all s
    → HubStartsOwn way ask bytes stuff place ts s
start_at way ask bytes stuff place ts s kind at h =
    let k : Key = key_of ask in
    let x = found way k place ts.all s h in
    let r = start_by_key.own way ask bytes stuff x.translator s kind x.has in
    record {
      reply = start_answer ask x.translator;
      answer = ap (λ (y : Reply). Some y) (answer_at way k (start_answer ask) ts (port_of ask.split) place x.translator at x.there);
      slot = r.slot;
      has = own_at way k (started ask bytes stuff) (place_of ts.multi (port_of ask.split)) place ts.all s r.slot at h
          (λ t there has. subst (λ (y : Translator). Has way k (started ask bytes stuff y) r.slot) (same there x.there) r.has);
      step = r.step;
    }
  where
    same : {o : Option Translator} {t u : Translator} → o ≡ Some t → o ≡ Some u → u ≡ t
    same a b = let c = sym b ∙ a in cc

pub hub_start_by_key : HubStartByKey
hub_start_by_key = record {
  own = start_at;
  other = λ way k ask bytes stuff place ts s kind apart h.
      other_at way k (started ask bytes stuff) (place_of ts.multi (port_of ask.split)) place ts.all s
      (λ t x has. let r = start_by_key.other way k ask bytes stuff t x kind apart has in (r.slot, r.has, r.step)) h;
}

-- ---- complete-splits

complete_at : (way : Way) (ask : Ask) (place : ℕ) (ts : Translators) (s : KeySlot) → way_of ask.kind ≡ Some way
    → place_of ts.multi (port_of ask.split) ≡ Some place → HasAt way (key_of ask) place ts.all s → HubCompletesOwn way ask place ts s
complete_at way ask place ts s kind at h =
    let k : Key = key_of ask in
    let x = found way k place ts.all s h in
    let r = complete_by_key.own way ask x.translator s kind x.has in
    record {
      answer = ap (λ (y : Reply). Some y)
          (answer_at way k (complete_answer ask) ts (port_of ask.split) place x.translator at x.there ∙ r.answer);
      has = own_at way k (completed ask) (place_of ts.multi (port_of ask.split)) place ts.all s (told s) at h
          (λ t there has. (complete_by_key.own way ask t s kind has).has);
    }

complete_beside : (way : Way) (k : Key) (ask : Ask) (place : ℕ) (ts : Translators) (s : KeySlot) → way_of k.kind ≡ Some way
    → is_same_key (key_of ask) k ≡ false → HasAt way k place ts.all s → HasAt way k place (hub_after (Completes ask) ts).all s
complete_beside way k ask place ts s kind apart h = by_place (place_of ts.multi (port_of ask.split))
  where
    each : (t : Translator) (x : KeySlot) → Has way k t x → Has way k (completed ask t) x
    each t x has = complete_by_key.other way k ask t x kind apart has

    put : (q place : ℕ) (all : List Translator) → HasAt way k place all s
        → HasAt way k place (put_if (slice_get all q) q (completed ask) all) s
    put q place [] g = absurd g
    put zero zero (t ∷ ts) g = (each t s g.0, g.1)
    put zero (suc place) (t ∷ ts) g = (each t Empty g.0, g.1)
    put (suc q) zero (t ∷ ts) g =
        subst (λ (xs : List Translator). HasAt way k zero xs s) (sym (later_at (slice_get ts q) q (completed ask) t ts))
        (g.0, none_changed way k (completed ask) q ts (λ t x has. (x, each t x has, stays)) g.1)
    put (suc q) (suc place) (t ∷ ts) g =
        subst (λ (xs : List Translator). HasAt way k (suc place) xs s) (sym (later_at (slice_get ts q) q (completed ask) t ts))
        (g.0, put q place ts g.1)

    by_place : (o : Option ℕ) → HasAt way k place (changed_place o (completed ask) ts.all) s
    by_place None = h
    by_place (Some q) = put q place ts.all h

pub hub_complete_by_key : HubCompleteByKey
hub_complete_by_key = record { own = complete_at; other = complete_beside }

-- ---- clears

empty_cleared : (way : Way) (c k : Key) → cleared_slot way c k Empty ≡ Empty
empty_cleared Buffered c k = by (is_cleared_by c k)
  where
    nothing : KeySlot
    nothing = Empty

    by : (b : Bool) → (if b then nothing else nothing) ≡ nothing
    by true = refl
    by false = refl
empty_cleared Piped c k = refl

clear_beside : (way : Way) (c k : Key) (port place : ℕ) (ts : Translators) (s : KeySlot) → place_of ts.multi port ≢ Some place
    → HasAt way k place ts.all s
    → HasAt way k place (hub_after (Clears port c) ts).all s
clear_beside way c k port place ts s apart h = by_place (place_of ts.multi port) apart
  where
    empties : (t : Translator) → Has way k t Empty → Has way k (cleared c t) Empty
    empties t has = subst (λ (x : KeySlot). Has way k (cleared c t) x) (empty_cleared way c k) (clear_by_key way c k t Empty has)

    nones : (q : ℕ) (all : List Translator) → HaveNone way k all → HaveNone way k (put_if (slice_get all q) q (cleared c) all)
    nones q [] g = g
    nones zero (t ∷ ts) g = (empties t g.0, g.1)
    nones (suc q) (t ∷ ts) g =
        subst (λ (xs : List Translator). HaveNone way k xs) (sym (later_at (slice_get ts q) q (cleared c) t ts)) (g.0, nones q ts g.1)

    put : (q place : ℕ) (all : List Translator) → q ≢ place → HasAt way k place all s
        → HasAt way k place (put_if (slice_get all q) q (cleared c) all) s
    put q place [] differs g = absurd g
    put zero zero (t ∷ ts) differs g = absurd (differs refl)
    put zero (suc place) (t ∷ ts) differs g = (empties t g.0, g.1)
    put (suc q) zero (t ∷ ts) differs g =
        subst (λ (xs : List Translator). HasAt way k zero xs s) (sym (later_at (slice_get ts q) q (cleared c) t ts)) (g.0, nones q ts g.1)
    put (suc q) (suc place) (t ∷ ts) differs g =
        subst (λ (xs : List Translator). HasAt way k (suc place) xs s) (sym (later_at (slice_get ts q) q (cleared c) t ts))
        (g.0, put q place ts (λ e. differs (ap suc e)) g.1)

    by_place : (o : Option ℕ) → o ≢ Some place → HasAt way k place (changed_place o (cleared c) ts.all) s
    by_place None differs = h
    by_place (Some q) differs = put q place ts.all (λ e. differs (ap Some e)) h

pub hub_clear_by_key : HubClearByKey
hub_clear_by_key = record {
  own = λ way c k port place ts s at h.
      own_at way k (cleared c) (place_of ts.multi port) place ts.all s (cleared_slot way c k s) at h
      (λ t there has. clear_by_key way c k t s has);
  other = clear_beside;
}

-- ---- the work of a microframe

module _ {W : Type 0} (transacts : W → Ask → List ℕ → Reply → W → Type 0) (way : Way) (k : Key) where
  -- one that has nothing of the key asks nothing for it
  record IsNoWork (new : KeySlot) (before after : W) : Type 0 where
    empty : new ≡ Empty
    others : OfOthers transacts k before after

  no_turn : (s : KeySlot) (before : W) (new : KeySlot) (after : W) → s ≡ Empty → KeyTurn transacts way s before new after
      → (new ≡ Empty) × (after ≡ before)
  no_turn s before _ _ e rests = (e, refl)
  no_turn s before _ _ e (works a r after is made heard) = let z = sym e ∙ is in absurd cc
  no_turn s before _ _ e (is_quiet a r after buffered is made silent) = let z = sym e ∙ is in absurd cc
  no_turn s before _ _ e (gives_dead a r after is made silent) = let z = sym e ∙ is in absurd cc

  no_showing : (s new : KeySlot) → s ≡ Empty → Showing way s new → new ≡ Empty
  no_showing s _ e shown_stays = e
  no_showing s _ e (shows a r piped is) = let z = sym e ∙ is in absurd cc

  no_left : (way : Way) (frindex : ℕ) → left_slot way frindex Empty ≡ Empty
  no_left Buffered frindex = refl
  no_left Piped frindex = by (frindex % 8 == 0)
    where
      nothing : KeySlot
      nothing = Empty

      by : (b : Bool) → (if b then nothing else nothing) ≡ nothing
      by true = refl
      by false = refl

  no_work : (frindex : ℕ) (s : KeySlot) (before : W) (new : KeySlot) (after : W) → s ≡ Empty
      → WorkOfKey transacts way k frindex s before new after → IsNoWork new before after
  no_work frindex s before new after e w =
      let t = w.turns in
      let n = no_turn s t.first w.made t.second e t.turn in
      record {
        empty = w.leaves ∙ ap (left_slot way frindex) (no_showing w.made w.seen n.0 w.shows) ∙ no_left way frindex;
        others = then_others transacts k before t.first after t.earlier (subst (λ (x : W). OfOthers transacts k x after) n.1 t.later);
      }

  pub record AreNone (new : List Translator) (before after : W) : Type 0 where
    pub none : HaveNone way k new
    pub others : OfOthers transacts k before after

  pub none_work : (frindex : ℕ) (all : List Translator) (before after : W) (new : List Translator) → HaveNone way k all
      → AllWork transacts frindex all before after new
      → AreNone new before after
  none_work frindex [] before after new h (same, is) =
      subst (λ (xs : List Translator). AreNone xs before after) (sym is)
      (record { none = tt; others = subst (λ (x : W). OfOthers transacts k before x) (sym same) (none before) })
  none_work frindex (t ∷ ts) before after new h (mid, first, rest, one, more, is) =
      let r = work_by_key transacts way k frindex t before first mid Empty one h.0 in
      let n = no_work frindex Empty before r.slot mid refl r.work in
      let l = none_work frindex ts mid after rest h.1 more in
      subst (λ (xs : List Translator). AreNone xs before after) (sym is)
      (record {
        none = (subst (λ (x : KeySlot). Has way k first x) n.empty r.has, l.none);
        others = then_others transacts k before mid after n.others l.others;
      })

  pub hub_work : (frindex place : ℕ) (all : List Translator) (before after : W) (new : List Translator) (s : KeySlot)
      → HasAt way k place all s
      → AllWork transacts frindex all before after new → HubWorksForKey transacts way k frindex place s before new after
  hub_work frindex place [] before after new s h w = absurd h
  hub_work frindex zero (t ∷ ts) before after new s h (mid, first, rest, one, more, is) =
      let r = work_by_key transacts way k frindex t before first mid s one h.0 in
      let l = none_work frindex ts mid after rest h.1 more in
      subst (λ (xs : List Translator). HubWorksForKey transacts way k frindex zero s before xs after) (sym is)
      (record {
        slot = r.slot;
        has = (r.has, l.none);
        work = record {
          made = r.work.made;
          turns = behind_it transacts k way _ _ before mid after r.work.turns l.others;
          seen = r.work.seen;
          shows = r.work.shows;
          leaves = r.work.leaves;
        };
      })
  hub_work frindex (suc place) (t ∷ ts) before after new s h (mid, first, rest, one, more, is) =
      let r = work_by_key transacts way k frindex t before first mid Empty one h.0 in
      let n = no_work frindex Empty before r.slot mid refl r.work in
      let l = hub_work frindex place ts mid after rest s h.1 more in
      subst (λ (xs : List Translator). HubWorksForKey transacts way k frindex (suc place) s before xs after) (sym is)
      (record {
        slot = l.slot;
        has = (subst (λ (x : KeySlot). Has way k first x) n.empty r.has, l.has);
        work = record {
          made = l.work.made;
          turns = before_it transacts k way _ _ before mid after n.others l.work.turns;
          seen = l.work.seen;
          shows = l.work.shows;
          leaves = l.work.leaves;
        };
      })

pub hub_work_by_key : {W : Type 0} (transacts : W → Ask → List ℕ → Reply → W → Type 0) → HubWorkByKey transacts
hub_work_by_key transacts way k frindex place old before after new s w h = hub_work transacts way k frindex place old before after new s h w

-- ---- what is asked

pub asked_at : (way : Way) (k : Key) (place : ℕ) (all : List Translator) (s : KeySlot) → HasAt way k place all s → IsAskedFor k s
asked_at way k place [] s h = absurd h
asked_at way k zero (t ∷ ts) s h = asked_by_key way k t s h.0
asked_at way k (suc place) (t ∷ ts) s h = asked_at way k place ts s h.1

-- ---- a hub whose translators have nothing of the key

none_left_at : (way : Way) (k : Key) (f : Translator → Translator) (o : Option ℕ) (all : List Translator) → Leaves way k f
    → HaveNone way k all
    → HaveNone way k (changed_place o f all)
none_left_at way k f None all leaves h = h
none_left_at way k f (Some q) all leaves h = none_changed way k f q all leaves h

pub none_started : (way : Way) (k : Key) (ask : Ask) (bytes : List ℕ) (stuff : ℕ) (ts : Translators) → way_of k.kind ≡ Some way
    → is_same_key (key_of ask) k ≡ false → HaveNone way k ts.all → HaveNone way k (hub_after (Starts ask bytes stuff) ts).all
none_started way k ask bytes stuff ts kind apart h =
    none_left_at way k (started ask bytes stuff) (place_of ts.multi (port_of ask.split)) ts.all
    (λ t x has. let r = start_by_key.other way k ask bytes stuff t x kind apart has in (r.slot, r.has, r.step)) h

pub none_completed : (way : Way) (k : Key) (ask : Ask) (ts : Translators) → way_of k.kind ≡ Some way
    → is_same_key (key_of ask) k ≡ false → HaveNone way k ts.all → HaveNone way k (hub_after (Completes ask) ts).all
none_completed way k ask ts kind apart h =
    none_left_at way k (completed ask) (place_of ts.multi (port_of ask.split)) ts.all
    (λ t x has. (x, complete_by_key.other way k ask t x kind apart has, stays)) h
