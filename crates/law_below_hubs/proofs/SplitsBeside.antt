-- A complete-split of another key leaves what the hubs have of a key.
use Rattle.std.proofs.Common.{◌≡◌, ℕ, zero, suc, ◌==◌, false, List, [], ◌∷◌, slice_get, Option, Some, None, refl, sym, subst, position}
use Rattle.std.specs.Option.{option_map_or}
use Rattle.usb_base.specs.declared.packets.Ask.{Ask}
use Rattle.usb_base.specs.declared.packets.Reply.{Reply}
use Rattle.usb_base.specs.declared.packets.Split.TheVariants.{Complete}
use Rattle.hub_keys.specs.Keys.{key_of, is_same_key}
use Rattle.hub_keys.specs.declared.key.Key.{Key}
use Rattle.hub_class.specs.HubContent.{HubContent}
use Rattle.hub_class.specs.Translating.{transacted}
use Rattle.bus_wire.specs.declared.asked.Answerer.{Answerer}
use Rattle.bus_wire.specs.declared.asked.Answerer.TheVariants as Answerers
use Rattle.bus_wire.specs.declared.asked.Asked.{Asked}
use Rattle.bus_wire.specs.declared.who_heard.WhoHeard.{WhoHeard}
use Rattle.bus_wire.specs.declared.who_heard.WhoHeard.TheVariants as Rows
use Rattle.bus_wire.specs.Asking.{translator_after, put_at}
use Rattle.bus_wire.specs.Bus.{Bus, Wired, Fixed, asked_of, bus_row, changed_by, after_at}
use Rattle.law_devices.specs.scripted_requests.Controls.{transacts_by}
use Rattle.law_translated.specs.Lift.{Way}
use Rattle.law_translated.specs.KeySlots.{KeySlot, way_of}
use Rattle.law_translated.specs.KeyHubs.{HaveNone, HasAt}
use Rattle.law_translated.proofs.HubCalls.{hub_complete_by_key, none_completed}
use Rattle.law_below_hubs.specs.HubsKeys.{HubsHaveNone, HubsHave}
use Rattle.law_below_hubs.specs.Splits.{SplitsByKey}
use Rattle.law_below_hubs.proofs.Splits.{put_later, complete_after, complete_who, starts_law, starts_other_law, completes_law}

module _ (way : Way) (k : Key) where
  -- a change that leaves the key
  record Leaves (f : HubContent → HubContent) : Type 0 where
    nones : (h : HubContent) → HaveNone way k h.translators.all → HaveNone way k (f h).translators.all
    slots : (h : HubContent) (place : ℕ) (s : KeySlot) → HasAt way k place h.translators.all s → HasAt way k place (f h).translators.all s

  none_hubs : (f : HubContent → HubContent) (j : ℕ) (hubs : List HubContent) → Leaves f → HubsHaveNone way k hubs
      → HubsHaveNone way k (put_at (slice_get hubs j) j f hubs)
  none_hubs f j [] leaves has = has
  none_hubs f zero (x ∷ hs) leaves has = (leaves.nones x has.0, has.1)
  none_hubs f (suc j) (x ∷ hs) leaves has =
      subst (λ (xs : List HubContent). HubsHaveNone way k xs) (sym (put_later (slice_get hs j) j f x hs))
      (has.0, none_hubs f j hs leaves has.1)

  kept_hub : (f : HubContent → HubContent) (j i place : ℕ) (hubs : List HubContent) (s : KeySlot) → Leaves f → HubsHave way k i place hubs s
      → HubsHave way k i place (put_at (slice_get hubs j) j f hubs) s
  kept_hub f j i place [] s leaves has = absurd has
  kept_hub f zero zero place (x ∷ hs) s leaves has = (leaves.slots x place s has.0, has.1)
  kept_hub f zero (suc i) place (x ∷ hs) s leaves has = (leaves.nones x has.0, has.1)
  kept_hub f (suc j) zero place (x ∷ hs) s leaves has =
      subst (λ (xs : List HubContent). HubsHave way k zero place xs s) (sym (put_later (slice_get hs j) j f x hs))
      (has.0, none_hubs f j hs leaves has.1)
  kept_hub f (suc j) (suc i) place (x ∷ hs) s leaves has =
      subst (λ (xs : List HubContent). HubsHave way k (suc i) place xs s) (sym (put_later (slice_get hs j) j f x hs))
      (has.0, kept_hub f j i place hs s leaves has.1)

module _ (way : Way) (k : Key) (ask : Ask) (out : List ℕ) (kind : way_of k.kind ≡ Some way) (apart : is_same_key (key_of ask) k ≡ false)
    (hub port : ℕ)
    (split_is : ask.split ≡ Complete hub port) where
  leaves_same : Leaves way k (λ h. h)
  leaves_same = record { nones = λ h none. none; slots = λ h place s has. has }

  complete_leaves : (stuff : ℕ) → Leaves way k (transacted ask out stuff)
  complete_leaves stuff = record {
    nones = λ h none.
        subst (λ (x : HubContent). HaveNone way k x.translators.all) (sym (complete_after hub port ask out stuff h split_is))
        (none_completed way k ask h.translators kind apart none);
    slots = λ h place s has.
        subst (λ (x : HubContent). HasAt way k place x.translators.all s) (sym (complete_after hub port ask out stuff h split_is))
        (hub_complete_by_key.other way k ask place h.translators s kind apart has);
  }

  row_leaves : (stuff : ℕ) (row : WhoHeard) → Leaves way k (translator_after row ask out stuff)
  row_leaves stuff Rows.SentUnheard = leaves_same
  row_leaves stuff Rows.NoAnswer = complete_leaves stuff
  row_leaves stuff Rows.AnswerUnheard = complete_leaves stuff
  row_leaves stuff Rows.AnswerHeard = complete_leaves stuff
  row_leaves stuff Rows.AckUnheard = complete_leaves stuff
  row_leaves stuff Rows.AckHeard = complete_leaves stuff

  who_leaves : (b : Bus) (row : WhoHeard) (i place : ℕ) (s : KeySlot) (stuff : ℕ) (o : Option ℕ) → HubsHave way k i place b.hubs s
      → HubsHave way k i place
      (changed_by row (option_map_or (λ (j : ℕ). Answerers.Translator j stuff) o Answerers.Nobody) ask out b).hubs s
  who_leaves b row i place s stuff None has = has
  who_leaves b row i place s stuff (Some j) has =
      kept_hub way k (translator_after row ask out stuff) j i place b.hubs s (row_leaves stuff row) has

  asked_leaves : (fixed : Fixed) (b : Bus) (i place : ℕ) (s : KeySlot) (o : Option Asked) → asked_of fixed b ask ≡ o
      → HubsHave way k i place b.hubs s
      → HubsHave way k i place (after_at fixed b ask out o).hubs s
  asked_leaves fixed b i place s None asked has = has
  asked_leaves fixed b i place s (Some e) asked has =
      let w = complete_who fixed b ask hub port e split_is asked in
      subst (λ (x : Answerer). HubsHave way k i place (changed_by (bus_row fixed b e ask out) x ask out b).hubs s) (sym w.1)
      (who_leaves b (bus_row fixed b e ask out) i place s w.0 (position (λ h. h.address == hub) b.hubs) has)

completes_other_law : (way : Way) (k : Key) (i place : ℕ) (hub port : ℕ) (w : Wired) (ask : Ask) (out : List ℕ) (reply : Reply)
    (v : Wired) (s : KeySlot)
    → ask.split ≡ Complete hub port → way_of k.kind ≡ Some way → is_same_key (key_of ask) k ≡ false → HubsHave way k i place w.bus.hubs s
    → transacts_by w ask out reply v → HubsHave way k i place v.bus.hubs s
completes_other_law way k i place hub port w ask out reply v s split_is kind apart has made =
    subst (λ (x : Wired). HubsHave way k i place x.bus.hubs s) (sym made.1)
    (asked_leaves way k ask out kind apart hub port split_is w.fixed w.bus i place s (asked_of w.fixed w.bus ask) refl has)

pub splits_by_key : SplitsByKey
splits_by_key = record
    { starts = starts_law; starts_other = starts_other_law; completes = completes_law; completes_other = completes_other_law }
