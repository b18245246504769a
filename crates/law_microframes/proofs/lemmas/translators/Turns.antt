-- What goes on of the isochronous OUTs below hubs tells that the entry of the one in hand lacks its last part; and each event of the driver
-- goes on with it: of the words of a siTD that it has, only the link was stored (EHCI 1.0, 3.4 and 4.12.3).
use Rattle.std.proofs.Common.{◌≡◌, ℕ, ◌+◌, ◌*◌, ◌%◌, ◌<◌, ◌≤◌, true, false, List, [], ◌∷◌, slice_get, slice_index, Option, Some, None, refl, ap, sym, subst, ◌∙◌, ⊎_elim, arith}
use Rattle.std.specs.Prelude.{◌==◌, position}
use Rattle.std.specs.List.{find}
use Rattle.std.specs.Option.{option_map_or}
use Rattle.usb_base.specs.declared.packets.DataPart.{DataPart}
use Rattle.usb_base.specs.declared.packets.Split.TheVariants as splits
use Rattle.word_mem.specs.Memory.{Mem, word_at}
use Rattle.itd_sitd.specs.declared.sitd.Sitd.{Sitd}
use Rattle.itd_sitd.specs.Sitd.{sitd_at}
use Rattle.drv_periodic_table.specs.Descriptors.{sitd_in}
use Rattle.tt_pipeline.specs.declared.entry.Entry.{Entry}
use Rattle.tt_pipeline.specs.Starting.{has_key}
use Rattle.multi_tt.specs.Translators.{Translator, place_of}
use Rattle.usb_base.specs.declared.packets.Dir.TheVariants.{Out}
use Rattle.usb_base.specs.declared.packets.EpKind.TheVariants.{Iso}
use Rattle.hub_keys.specs.Keys.{key_of}
use Rattle.hub_keys.specs.declared.key.Key.{Key}
use Rattle.hub_class.specs.HubContent.{HubContent}
use Rattle.hc_iso.specs.declared.held.HeldSitd.{HeldSitd}
use Rattle.hc_iso.specs.declared.held.IsoTransaction.{IsoTransaction}
use Rattle.hc_iso.specs.Sitd.{sitd_missed, comes}
use Rattle.periodic_walk.specs.declared.state.Hand.TheVariants as hands
use Rattle.hc_core.specs.declared.controller.MicroframePart.TheVariants.{Periodic}
use Rattle.bus_world.specs.World.{World}
use Rattle.claims_world.specs.Visits.{frame_in, HasVisited}
use Rattle.law_queues.specs.open_laws.Opens.{AreNamesApart}
use Rattle.law_microframes.specs.visits.OneDescriptor.{IsActiveDescriptor, IsMixedOnce}
use Rattle.law_microframes.specs.translators.Keeping.{key_for, EntryLacks}
use Rattle.law_microframes.specs.translators.Parts.{EachOf, Lacks, IsEven, key_asked}
use Rattle.law_microframes.specs.translators.Turns.{entries_at, entries_of_hub, entries_by, pipeline_for, EntriesAre, IsUnasked, IsOfKey, BroughtPart, OutsGoOn, OutsAreLacked}
use Rattle.law_microframes.proofs.lemmas.visits.OneDescriptor.{one_descriptor_each}
use Rattle.law_microframes.proofs.lemmas.time.SitdParts.{works}
use Rattle.law_microframes.proofs.lemmas.translators.Parts.{found_lacks}
use Rattle.law_microframes.proofs.lemmas.translators.SitdStarts.{out_ask, out_transaction}

-- ---- the entry of the one in hand

pub pipeline_is : (hs : List HubContent) (hub port i j : ℕ) (h : HubContent) (t : Translator) → position (λ x. x.address == hub) hs ≡ Some i
    → slice_get hs i ≡ Some h → place_of h.translators.multi port ≡ Some j → slice_get h.translators.all j ≡ Some t
    → pipeline_for hs hub port ≡ t.pipeline
pipeline_is hs hub port i j h t found here place there =
    ap (λ (o : Option ℕ). entries_by hs o port) found ∙ ap (λ (o : Option HubContent). entries_of_hub o port) here
    ∙ ap (λ (o : Option ℕ). entries_at o h) place ∙ ap (λ (o : Option Translator). option_map_or (λ x. x.pipeline) o []) there

out_names : (v : Sitd) (hub port : ℕ) (part : DataPart) → (out_ask v).split ≡ splits.Start hub port part → (v.hub ≡ hub) × (v.port ≡ port)
out_names v hub port part is = (cc, cc)

-- two of one key, that were active for one frame as the microframe began, are the same
pub same_place : (start w : World) (f n l : ℕ) (k : Key) → IsMixedOnce start → AreNamesApart w.driver → IsOfKey start w.driver f n k
    → IsOfKey start w.driver f l k → n ≡ l
same_place start w f n l k once apart one other =
    let key : key_for one.endpoint.desc ≡ key_for other.endpoint.desc = one.key ∙ sym other.key in
    let same : one.number ≡ other.number =
    apart one.number other.number one.endpoint other.endpoint one.here other.here (ap (λ (z : Key). z.addr) key)
    (ap (λ (z : Key). z.ep) key) (one.way ∙ sym other.way) in
    one_descriptor_each once.mixed.standing start other.number f n l once.mixed.mixed once.one
    (subst (λ (e : ℕ). IsActiveDescriptor start.driver start.memory e f n) same one.was) other.was

pub asked_key : (v : Sitd) → v.dir_in ≡ false → ((key_asked v).kind ≡ Iso) × ((key_asked v).dir ≡ Out)
asked_key v way =
    let out = out_transaction v way in
    (ap (λ (z : IsoTransaction). (key_of z.ask).kind) out, ap (λ (z : IsoTransaction). (key_of z.ask).dir) out)

-- to the entry of the one in hand none came in this microframe
pub asked_even : (start w : World) (vs : List ℕ) → IsMixedOnce start → AreNamesApart w.driver → OutsGoOn start w vs → (h : HeldSitd)
    → w.control.part ≡ Periodic → w.control.frame.hand ≡ Some (hands.Sitd h) → h.settled ≡ None → h.sitd.active ≡ true
    → h.sitd.dir_in ≡ false → EachOf IsEven (key_asked h.sitd) (pipeline_for w.bus.hubs h.sitd.hub h.sitd.port)
asked_even start w vs once apart k h periodic held unset on way =
    let u : IsUnasked w.control h.at = record {
      hand = record { copy = h; part = periodic; held = held; at = refl };
      unset = unset;
    } in
    let f : ℕ = frame_in w.registers.frame_index in
    let key : Key = key_asked h.sitd in
    let of : IsOfKey start w.driver f h.at key × HasVisited h.at vs = k.read h.at u on way in
    let is = asked_key h.sitd way in
    ⊎_elim {C = EachOf IsEven key (pipeline_for w.bus.hubs h.sitd.hub h.sitd.port)}
    (λ (even : EachOf IsEven key (pipeline_for w.bus.hubs h.sitd.hub h.sitd.port)). even)
    (λ (m : BroughtPart start w vs key).
    absurd (m.asked (subst (IsUnasked w.control) (sym (same_place start w f m.at h.at key once apart m.of of.0)) u)))
    (k.came key h.sitd.hub h.sitd.port is.0 is.1)

pub outs_are_lacked : OutsAreLacked
outs_are_lacked start w vs once apart k h periodic held unset work way some =
    let on = (works h.sitd.active (sitd_missed (w.registers.frame_index % 8) h.sitd) (comes (w.registers.frame_index % 8) h.sitd) work).0 in
    let out = out_transaction h.sitd way in
    subst (λ (z : IsoTransaction). EntryLacks w z.ask) (sym out)
    (λ hub port part i j content t e split found here place there at.
    let names = out_names h.sitd hub port part split in
    let piped : pipeline_for w.bus.hubs h.sitd.hub h.sitd.port ≡ t.pipeline
    = ap (λ (n : ℕ). pipeline_for w.bus.hubs n h.sitd.port) names.0 ∙ ap (pipeline_for w.bus.hubs hub) names.1
    ∙ pipeline_is w.bus.hubs hub port i j content t found here place there in
    let lacks = subst (EachOf Lacks (key_asked h.sitd)) piped (k.held h periodic held on way some) in
    let even = subst (EachOf IsEven (key_asked h.sitd)) piped (asked_even start w vs once apart k h periodic held unset on way) in
    found_lacks (key_asked h.sitd) t.pipeline e lacks even
    (subst (λ (z : IsoTransaction). find (has_key (key_of z.ask)) t.pipeline ≡ Some e) (sym out) at))

-- ---- the words that tell of it

module _ (P : Entry → Type 0) (hs : List HubContent) where
  abbrev core : Mem → ℕ → Sitd
  core m b =
      sitd_at (0 ∷ word_at m (32 * b + 4) ∷ word_at m (32 * b + 8) ∷ word_at m (32 * b + 12) ∷ 0 ∷ word_at m (32 * b + 20) ∷ [])

  to_list : (ws : List ℕ) → EntriesAre P hs (sitd_at ws) → EntriesAre P hs (sitd_at (0 ∷ slice_index ws 1 ∷ slice_index ws 2
      ∷ slice_index ws 3 ∷ 0 ∷ slice_index ws 5 ∷ []))
  unfolding sitd_at
  to_list ws k = k

  of_list : (ws : List ℕ) → EntriesAre P hs (sitd_at (0 ∷ slice_index ws 1 ∷ slice_index ws 2 ∷ slice_index ws 3 ∷ 0 ∷ slice_index ws 5
      ∷ [])) → EntriesAre P hs (sitd_at ws)
  unfolding sitd_at
  of_list ws k = k

  to_core : (m : Mem) (b : ℕ) → EntriesAre P hs (sitd_in m b) → EntriesAre P hs (core m b)
  to_core m b k = to_list _ k

  of_core : (m : Mem) (b : ℕ) → EntriesAre P hs (core m b) → EntriesAre P hs (sitd_in m b)
  of_core m b k = of_list _ k

  core_stays : (m new : Mem) (b : ℕ) → ((i : ℕ) → 1 ≤ i → i < 7 → word_at new (32 * b + 4 * i) ≡ word_at m (32 * b + 4 * i))
      → core m b ≡ core new b
  core_stays m new b same =
      ap (λ (i : ℕ). sitd_at (0 ∷ i ∷ word_at m (32 * b + 8) ∷ word_at m (32 * b + 12) ∷ 0 ∷ word_at m (32 * b + 20) ∷ []))
      (sym (same 1 (omega arith) (omega arith)))
      ∙ ap (λ (i : ℕ). sitd_at (0 ∷ word_at new (32 * b + 4) ∷ i ∷ word_at m (32 * b + 12) ∷ 0 ∷ word_at m (32 * b + 20) ∷ []))
      (sym (same 2 (omega arith) (omega arith)))
      ∙ ap (λ (i : ℕ). sitd_at (0 ∷ word_at new (32 * b + 4) ∷ word_at new (32 * b + 8) ∷ i ∷ 0 ∷ word_at m (32 * b + 20) ∷ []))
      (sym (same 3 (omega arith) (omega arith)))
      ∙ ap (λ (i : ℕ). sitd_at (0 ∷ word_at new (32 * b + 4) ∷ word_at new (32 * b + 8) ∷ word_at new (32 * b + 12) ∷ 0 ∷ i ∷ []))
      (sym (same 5 (omega arith) (omega arith)))

  pub words_stay : (m new : Mem) (b : ℕ) → ((i : ℕ) → 1 ≤ i → i < 7 → word_at new (32 * b + 4 * i) ≡ word_at m (32 * b + 4 * i))
      → EntriesAre P hs (sitd_in m b) → EntriesAre P hs (sitd_in new b)
  words_stay m new b same k = of_core new b (subst (EntriesAre P hs) (core_stays m new b same) (to_core m b k))
