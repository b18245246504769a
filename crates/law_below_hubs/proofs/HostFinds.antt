-- What a translator's pipeline has of a key wasn't told where nothing of it is worked; and nothing is to come of it where its result is
-- there.
use Rattle.std.proofs.Common.{◌≡◌, nat_le, ℕ, zero, suc, Bool, true, false, if◌then◌else◌, List, [], ◌∷◌, slice_get, Option, Some, None, refl}
use Rattle.std.proofs.Common.{sym, subst, ap, ◌∙◌, ⊎_elim}
use Rattle.std.specs.List.{find}
use Rattle.std.proofs.lemmas.Option.{same_Some}
use Rattle.usb_base.specs.declared.packets.EpKind.{EpKind}
use Rattle.usb_base.specs.declared.packets.EpKind.TheVariants.{Interrupt}
use Rattle.hub_keys.specs.declared.key.Key.{Key}
use Rattle.tt_pipeline.specs.declared.entry.Brought.{Brought}
use Rattle.tt_pipeline.specs.declared.entry.Entry.{Entry}
use Rattle.tt_pipeline.specs.declared.entry.Exchange.{Exchange}
use Rattle.tt_pipeline.specs.declared.entry.Exchange.TheVariants.{Ahead, Made}
use Rattle.tt_pipeline.specs.declared.rows.AnswerRow.TheVariants.{Result, NotYet}
use Rattle.tt_pipeline.specs.Answers.{made_row, row_at, result_of}
use Rattle.tt_pipeline.specs.Starting.{has_key}
use Rattle.tt_pipeline.specs.Work.{called_for, nothing_brought}
use Rattle.multi_tt.specs.Translators.{Translator}
use Rattle.hub_class.specs.HubContent.{HubContent}
use Rattle.law_translated.specs.Lift.{Piped}
use Rattle.law_translated.specs.KeyHubs.{HasAt}
use Rattle.law_translated.specs.KeyLaws.{Has}
use Rattle.law_translated.specs.KeySlots.{KeySlot, shown, exchange_slot, slot_if, AreEntries, IfOwn, IsWhole, IsNew, IsWorking}
use Rattle.law_below_hubs.specs.HubsKeys.{HubsHave}
use Rattle.law_below_hubs.specs.HostIns.{IsOver, IsResult, ResultIsOver}
use Rattle.law_below_hubs.specs.HostOuts.{IsUntold, UnworkedIsUntold}

-- ---- where it is

record AtTranslator (k : Key) (place : ℕ) (ts : List Translator) (s : KeySlot) : Type 0 where
  translator : Translator
  there : slice_get ts place ≡ Some translator
  has : Has Piped k translator s

at_translator : (k : Key) (place : ℕ) (ts : List Translator) (s : KeySlot) → HasAt Piped k place ts s → AtTranslator k place ts s
at_translator k place [] s has = absurd has
at_translator k zero (t ∷ ts) s has = record { translator = t; there = refl; has = has.0 }
at_translator k (suc place) (t ∷ ts) s has =
    let a : AtTranslator k place ts s = at_translator k place ts s has.1 in
    record { translator = a.translator; there = a.there; has = a.has }

record AtHub (k : Key) (i place : ℕ) (hubs : List HubContent) (s : KeySlot) : Type 0 where
  hub : HubContent
  here : slice_get hubs i ≡ Some hub
  at : AtTranslator k place hub.translators.all s

at_hub : (k : Key) (i place : ℕ) (hubs : List HubContent) (s : KeySlot) → HubsHave Piped k i place hubs s → AtHub k i place hubs s
at_hub k i place [] s has = absurd has
at_hub k zero place (h ∷ hs) s has = record { hub = h; here = refl; at = at_translator k place h.translators.all s has.0 }
at_hub k (suc i) place (h ∷ hs) s has =
    let a : AtHub k i place hs s = at_hub k i place hs s has.1 in
    record { hub = a.hub; here = a.here; at = a.at }

-- ---- its entry

whole_entry : (k : Key) (es : List Entry) (e : Entry) → AreEntries k es → find (has_key k) es ≡ Some e → IsWhole e
whole_entry k [] e are found = absurd (let x : ◌≡◌ {A = Option Entry} None (Some e) = found in cc)
whole_entry k (x ∷ xs) e are found = by (whole_entry k xs e are.2) (has_key k x) refl
  where
    by : (find (has_key k) xs ≡ Some e → IsWhole e) → (b : Bool) → has_key k x ≡ b → IsWhole e
    by later false off = later (sym (ap (λ (b : Bool). if b then Some x else find (has_key k) xs) off) ∙ found)
    by later true on =
        subst IsWhole (same_Some x e (sym (ap (λ (b : Bool). if b then Some x else find (has_key k) xs) on) ∙ found))
        (subst (λ (b : Bool). IfOwn b (IsWhole x)) on are.1)

-- it came whole, so nothing is worked of it where its transaction isn't made
unworked_ahead : (e : Entry) → IsWhole e → e.heard ≡ nothing_brought → IsNew e
unworked_ahead e w none =
    ⊎_elim (λ (n : IsNew e). n)
    (λ (k : IsWorking e).
    absurd (let x : false ≡ true = ap (λ (b : Brought). b.whole) (sym none ∙ k.heard ∙ w.came) in cc)) w.age

unworked_by : (is_told : Bool) (packet : List ℕ) (e : Entry) → IsNew e → IsUntold (exchange_slot is_told packet e.exchange e)
unworked_by is_told packet e n =
    subst (λ (x : Exchange). IsUntold (exchange_slot is_told packet x e)) (sym n.ahead.1) tt

pub unworked_is_untold : UnworkedIsUntold
unworked_is_untold k i place w unworked s has =
    let a : AtHub k i place w.bus.hubs s = at_hub k i place w.bus.hubs s has in
    let t : Translator = a.at.translator in
    subst IsUntold a.at.has.slot.is (by t (λ e found. unworked a.hub t e a.here a.at.there found) a.at.has (find
    (has_key k) t.pipeline) refl)
  where
    by : (t : Translator) → ((e : Entry) → find (has_key k) t.pipeline ≡ Some e → e.heard ≡ nothing_brought) → (z : Has Piped k t s)
        → (o : Option Entry) → find (has_key k) t.pipeline ≡ o
        → IsUntold (slot_if z.slot.is_told z.slot.packet (find (has_key k) t.pipeline))
    by t none z None is = subst (λ (o : Option Entry). IsUntold (slot_if z.slot.is_told z.slot.packet o)) (sym is) tt
    by t none z (Some e) is =
        subst (λ (o : Option Entry). IsUntold (slot_if z.slot.is_told z.slot.packet o)) (sym is)
        (unworked_by z.slot.is_told z.slot.packet e
        (unworked_ahead e (whole_entry k t.pipeline e z.keyed.entries is) (none e is)))

-- ---- its result is there

result_by : (is_told : Bool) (packet : List ℕ) (e : Entry) (x : Exchange) → e.exchange ≡ x → e.ask.kind ≡ Interrupt
    → row_at x e ≡ Result → IsOver (exchange_slot is_told packet x e)
result_by is_told packet e (Ahead sent) is kind there = absurd (let n : NotYet ≡ Result = there in cc)
result_by is_told packet e (Made reply) is kind there = by (nat_le (called_for e) e.done) is_told made
  where
    made : (if nat_le (called_for e) e.done then Result else NotYet) ≡ Result
    made = subst (λ (k : EpKind). made_row k e.ask.pid reply e ≡ Result) kind there

    by : (b told : Bool) → (if b then Result else NotYet) ≡ Result
        → IsOver (shown b told (record { ask = e.ask; packet = packet; stuff = e.stuff }) (result_of reply))
    by true true on = tt
    by true false on = tt
    by false told on = absurd (let n : NotYet ≡ Result = on in cc)

-- all of it is worked
worked_whole : (e : Entry) → IsWhole e → (e.heard ≡ nothing_brought → ⊥) → e.heard.whole ≡ true
worked_whole e w some =
    ⊎_elim (λ (n : IsNew e). absurd (some n.heard)) (λ (k : IsWorking e). ap (λ (b : Brought). b.whole) (k.heard ∙ w.came)) w.age

pub result_is_over : ResultIsOver
result_is_over k i place w results s has =
    let a : AtHub k i place w.bus.hubs s = at_hub k i place w.bus.hubs s has in
    let t : Translator = a.at.translator in
    subst IsOver a.at.has.slot.is (by t (λ e found. results a.hub t e a.here a.at.there found) a.at.has (find
    (has_key k) t.pipeline) refl)
  where
    by : (t : Translator) → ((e : Entry) → find (has_key k) t.pipeline ≡ Some e → IsResult e) → (z : Has Piped k t s)
        → (o : Option Entry) → find (has_key k) t.pipeline ≡ o
        → IsOver (slot_if z.slot.is_told z.slot.packet (find (has_key k) t.pipeline))
    by t there z None is = subst (λ (o : Option Entry). IsOver (slot_if z.slot.is_told z.slot.packet o)) (sym is) tt
    by t there z (Some e) is =
        let w_is : IsWhole e = whole_entry k t.pipeline e z.keyed.entries is in
        let r : IsResult e = there e is in
        subst (λ (o : Option Entry). IsOver (slot_if z.slot.is_told z.slot.packet o)) (sym is)
        (result_by z.slot.is_told z.slot.packet e e.exchange refl w_is.kind (r.there w_is.kind (worked_whole e w_is r.worked)))
