-- Over a bus below that answers and changes by functions, a hub's work is a function; what that bus keeps at each ask, it keeps over the work.
use Rattle.std.proofs.Common.{◌≡◌, ℕ, ◌-◌, Bool, true, false, List, [], ◌∷◌, refl, ◌∙◌, ap, subst}
use Rattle.usb_base.specs.declared.packets.Ask.{Ask}
use Rattle.usb_base.specs.declared.packets.Reply.{Reply}
use Rattle.hub_keys.specs.Asks.{classic_of}
use Rattle.tt_bulk.specs.Contents.{BufferContent, TwoBuffers, buffer_content, with_place}
use Rattle.tt_bulk.specs.Work.{Turn, Tries, Rests, after_turn, earlier_turn, later_turn, other, worked, Works as BuffersWork}
use Rattle.tt_bulk.specs.Work as Buffered
use Rattle.tt_pipeline.specs.declared.entry.Entry.{Entry}
use Rattle.tt_pipeline.specs.Work as Piped
use Rattle.tt_pipeline.specs.Work.{moved, is_due, sent_of, answered}
use Rattle.tt_pipeline.specs.Working.{budget, kept, used_at, Works, turned, reply_at, wire_at, wire_turned, entries_after, wire_worked}
use Rattle.multi_tt.specs.Translators.{Translator}
use Rattle.multi_tt.specs.Single.{room_left, TranslatorWorks, AllWork}
use Rattle.hub_class.specs.HubContent.{HubContent}
use Rattle.hub_class.specs.Translating.{HubWorks}
use Rattle.hub_class.specs.Microframe.{turn_hears, wire_tried, wire_half, buffers_worked, wire_of_buffers, wire_between, translator_worked, wire_of_translator, translators_worked, wire_of_translators, hub_worked, wire_left}

-- the buffers after their turns depend on what was heard by the turns alone
joined : (room : ℕ) (b : TwoBuffers) (e e' l l' : Reply) → after_turn (earlier_turn room b) e (buffer_content (other b.latest) b) ≡ after_turn (earlier_turn room b) e' (buffer_content (other b.latest) b) → after_turn (later_turn room b) l (buffer_content b.latest b) ≡ after_turn (later_turn room b) l' (buffer_content b.latest b) → worked room e l b ≡ worked room e' l' b
joined room b e e' l l' a c =
    ap (λ (x : BufferContent). with_place (other b.latest) x (with_place b.latest (after_turn (later_turn room b) l (buffer_content b.latest b)) b)) a
    ∙ ap (λ (x : BufferContent). with_place (other b.latest) (after_turn (earlier_turn room b) e' (buffer_content (other b.latest) b)) (with_place b.latest x b)) c

module _ {W : Type 0} (transacts : W → Ask → List ℕ → Reply → W → Type 0) (reply_of : W → Ask → List ℕ → Reply) (wire_after : W → Ask → List ℕ → W) (is_function : (w : W) (ask : Ask) (out : List ℕ) (reply : Reply) (v : W) → transacts w ask out reply v → (reply ≡ reply_of w ask out) × (v ≡ wire_after w ask out)) where
  -- ---- the pipeline

  entry_told : (b : Bool) (m : Entry) (before after : W) (reply : Reply) → Piped.Asks transacts b m before reply after → answered b reply m ≡ answered b (reply_of before (classic_of m.ask) (sent_of m)) m
  entry_told true m before after reply asks =
      ap (λ (r : Reply). answered true r m) (is_function before (classic_of m.ask) (sent_of m) reply after asks).0
  entry_told false m before after reply asks = refl

  wire_told : (b : Bool) (m : Entry) (before after : W) (reply : Reply) → Piped.Asks transacts b m before reply after → after ≡ wire_at reply_of wire_after b m before
  wire_told true m before after reply asks = (is_function before (classic_of m.ask) (sent_of m) reply after asks).1
  wire_told false m before after reply asks = asks

  pipeline_told : (room : ℕ) (es : List Entry) (before after : W) (new : List Entry) → Works transacts room es before after new → (new ≡ entries_after reply_of wire_after room es before) × (after ≡ wire_worked reply_of wire_after room es before)
  pipeline_told room [] before after new (same, none) = (none, same)
  pipeline_told room (e ∷ es) before after new (mid, first, rest, turn, works, is) =
      let m : Entry = moved room e in
      let f : first ≡ turned room (reply_at reply_of wire_after room e before) e = turn.becomes ∙ entry_told (is_due m) m before mid turn.reply turn.asks in
      let w : mid ≡ wire_turned reply_of wire_after room e before = wire_told (is_due m) m before mid turn.reply turn.asks in
      let r = pipeline_told (room - used_at room e) es mid after rest works in
      let r0 = subst (λ (v : W). rest ≡ entries_after reply_of wire_after (room - used_at room e) es v) w r.0 in
      let r1 = subst (λ (v : W). after ≡ wire_worked reply_of wire_after (room - used_at room e) es v) w r.1 in
      (is ∙ (ap (λ (x : Entry). x ∷ rest) f ∙ ap (λ (xs : List Entry). turned room (reply_at reply_of wire_after room e before) e ∷ xs) r0), r1)

  -- ---- the buffers

  turn_told : (t : Turn) (b : BufferContent) (before after : W) (reply : Reply) → Buffered.Asks transacts t before reply after → after_turn t reply b ≡ after_turn t (turn_hears reply_of wire_after t before) b
  turn_told (Tries taken) b before after reply asks =
      ap (λ (r : Reply). after_turn (Tries taken) r b) (is_function before (classic_of taken.ask) taken.packet reply after asks).0
  turn_told Rests b before after reply asks = refl

  tried_told : (t : Turn) (before after : W) (reply : Reply) → Buffered.Asks transacts t before reply after → after ≡ wire_tried reply_of wire_after t before
  tried_told (Tries taken) before after reply asks = (is_function before (classic_of taken.ask) taken.packet reply after asks).1
  tried_told Rests before after reply asks = asks

  buffers_told : (room : ℕ) (b : TwoBuffers) (before : W) (new : TwoBuffers) (after : W) → BuffersWork transacts room b before new after → (new ≡ buffers_worked reply_of wire_after room b before) × (after ≡ wire_of_buffers reply_of wire_after room b before)
  buffers_told room b before new after s =
      let first : Turn = earlier_turn room b in
      let second : Turn = later_turn room b in
      let a = turn_told first (buffer_content (other b.latest) b) before s.between s.earlier s.asks_earlier in
      let c = turn_told second (buffer_content b.latest b) s.between after s.later s.asks_later in
      let w : s.between ≡ wire_half reply_of wire_after room b before = tried_told first before s.between s.earlier s.asks_earlier in
      let v : after ≡ wire_tried reply_of wire_after second s.between = tried_told second s.between after s.later s.asks_later in (
        s.becomes
            ∙ (joined room b s.earlier (turn_hears reply_of wire_after first before) s.later (turn_hears reply_of wire_after second s.between) a c
            ∙ ap (λ (x : W). worked room (turn_hears reply_of wire_after first before) (turn_hears reply_of wire_after second x) b) w),
        v ∙ ap (λ (x : W). wire_tried reply_of wire_after second x) w,
      )

  -- ---- translators, one after the other

  translator_told : (frindex : ℕ) (old : Translator) (before : W) (new : Translator) (after : W)
      → TranslatorWorks transacts frindex old before new after
      → (new ≡ translator_worked reply_of wire_after frindex old before) × (after ≡ wire_of_translator reply_of wire_after old before)
  translator_told frindex old before new after s =
      let p = pipeline_told budget old.pipeline before s.between s.pipeline.worked s.pipeline.works in
      let b = buffers_told (room_left old) old.bulk s.between new.bulk after s.bulk in
      let b0 = subst (λ (v : W). new.bulk ≡ buffers_worked reply_of wire_after (room_left old) old.bulk v) p.1 b.0 in
      let b1 = subst (λ (v : W). after ≡ wire_of_buffers reply_of wire_after (room_left old) old.bulk v) p.1 b.1 in
      let entries : List Entry = kept frindex (entries_after reply_of wire_after budget old.pipeline before) in
      let e : new.pipeline ≡ entries = s.pipeline.stays ∙ ap (kept frindex) p.0 in (
        ap (λ (es : List Entry). record { bulk = new.bulk; pipeline = es }) e
            ∙ ap (λ (x : TwoBuffers). record { bulk = x; pipeline = entries }) b0,
        b1,
      )

  all_told : (frindex : ℕ) (ts : List Translator) (before after : W) (new : List Translator) → AllWork transacts frindex ts before after new
      → (new ≡ translators_worked reply_of wire_after frindex ts before) × (after ≡ wire_of_translators reply_of wire_after ts before)
  all_told frindex [] before after new (same, none) = (none, same)
  all_told frindex (t ∷ ts) before after new (mid, first, rest, one, more, is) =
      let f = translator_told frindex t before first mid one in
      let r = all_told frindex ts mid after rest more in
      let r0 = subst (λ (v : W). rest ≡ translators_worked reply_of wire_after frindex ts v) f.1 r.0 in
      let r1 = subst (λ (v : W). after ≡ wire_of_translators reply_of wire_after ts v) f.1 r.1 in
      let first_is : Translator = translator_worked reply_of wire_after frindex t before in
      (is ∙ (ap (λ (x : Translator). x ∷ rest) f.0 ∙ ap (λ (xs : List Translator). first_is ∷ xs) r0), r1)

  -- ---- the hub

  pub work_told : (frindex : ℕ) (old : HubContent) (before : W) (new : HubContent) (after : W)
      → HubWorks transacts frindex old before new after
      → (new ≡ hub_worked reply_of wire_after frindex old before) × (after ≡ wire_left reply_of wire_after old before)
  work_told frindex old before new after s =
      let r = all_told frindex old.translators.all before after new.translators.all s.work in
      (s.same ∙ ap (λ (ts : List Translator). record old { translators = record old.translators { all = ts } }) r.0, r.1)

-- ---- what a bus keeps

module _ {W : Type 0} (reply_of : W → Ask → List ℕ → Reply) (wire_after : W → Ask → List ℕ → W) (P : W → Type 0) (keeps : (w : W) (ask : Ask) (out : List ℕ) → P w → P (wire_after w ask out)) where
  at_keeps : (b : Bool) (e : Entry) (w : W) → P w → P (wire_at reply_of wire_after b e w)
  at_keeps true e w h = keeps w (classic_of e.ask) (sent_of e) h
  at_keeps false e w h = h

  pipeline_keeps : (room : ℕ) (es : List Entry) (w : W) → P w → P (wire_worked reply_of wire_after room es w)
  pipeline_keeps room [] w h = h
  pipeline_keeps room (e ∷ es) w h =
      pipeline_keeps (room - used_at room e) es (wire_turned reply_of wire_after room e w) (at_keeps (is_due (moved room e)) (moved room e) w h)

  tried_keeps : (t : Turn) (w : W) → P w → P (wire_tried reply_of wire_after t w)
  tried_keeps (Tries taken) w h = keeps w (classic_of taken.ask) taken.packet h
  tried_keeps Rests w h = h

  pub translator_keeps : (t : Translator) (w : W) → P w → P (wire_of_translator reply_of wire_after t w)
  translator_keeps t w p =
      let between : W = wire_between reply_of wire_after t w in
      let room : ℕ = room_left t in
      tried_keeps (later_turn room t.bulk) (wire_half reply_of wire_after room t.bulk between)
      (tried_keeps (earlier_turn room t.bulk) between (pipeline_keeps budget t.pipeline w p))

  translators_keep : (ts : List Translator) (w : W) → P w → P (wire_of_translators reply_of wire_after ts w)
  translators_keep [] w p = p
  translators_keep (t ∷ ts) w p = translators_keep ts (wire_of_translator reply_of wire_after t w) (translator_keeps t w p)

  pub work_keeps : (h : HubContent) (w : W) → P w → P (wire_left reply_of wire_after h w)
  work_keeps h w p = translators_keep h.translators.all w p
