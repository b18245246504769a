-- Over a bus below on which nobody answers, the work of a microframe is that in which nothing is heard.
use Rattle.std.proofs.Common.{◌≡◌, ℕ, ◌-◌, Bool, true, false, List, [], ◌∷◌, refl, ◌∙◌, ap}
use Rattle.usb_base.specs.declared.packets.Ask.{Ask}
use Rattle.usb_base.specs.declared.packets.Reply.{Reply}
use Rattle.usb_base.specs.declared.packets.Reply.TheVariants.{Silent}
use Rattle.hub_keys.specs.Asks.{classic_of}
use Rattle.tt_bulk.specs.Contents.{BufferContent, TwoBuffers, buffer_content, with_place}
use Rattle.tt_bulk.specs.Work as Buffered
use Rattle.tt_bulk.specs.Work.{Turn, Tries, Rests, after_turn, other, earlier_turn, later_turn, worked}
use Rattle.tt_pipeline.specs.declared.entry.Entry.{Entry}
use Rattle.tt_pipeline.specs.Work.{moved, is_due, sent_of, answered}
use Rattle.tt_pipeline.specs.Work as Piped
use Rattle.tt_pipeline.specs.Working.{budget, kept, used_at, Works, turned, turned_all}
use Rattle.multi_tt.specs.Translators.{Translator, Translators}
use Rattle.multi_tt.specs.Single.{room_left, TranslatorWorks, AllWork, silence, worked_by}
use Rattle.multi_tt.specs.Calls.{all_worked}

module _ {W : Type 0} (transacts : W → Ask → List ℕ → Reply → W → Type 0) (silent : (w : W) (ask : Ask) (out : List ℕ) (reply : Reply) (v : W) → transacts w ask out reply v → reply ≡ Silent) where
  silent_entry : (b : Bool) (m : Entry) (before after : W) (reply : Reply) → Piped.Asks transacts b m before reply after
      → answered b reply m ≡ answered b Silent m
  silent_entry true m before after reply asks =
      ap (λ (r : Reply). answered true r m) (silent before (classic_of m.ask) (sent_of m) reply after asks)
  silent_entry false m before after reply asks = refl

  silent_entries : (room : ℕ) (es : List Entry) (before after : W) (new : List Entry) → Works transacts room es before after new
      → new ≡ turned_all room [] es
  silent_entries room [] before after new (same, none) = none
  silent_entries room (e ∷ es) before after new (mid, first, rest, turn, works, is) =
      let f : first ≡ turned room Silent e = turn.becomes ∙ silent_entry (is_due (moved room e)) (moved room e) before mid turn.reply turn.asks in
      let r : rest ≡ turned_all (room - used_at room e) [] es = silent_entries (room - used_at room e) es mid after rest works in
      is ∙ (ap (λ (x : Entry). x ∷ rest) f ∙ ap (λ (xs : List Entry). turned room Silent e ∷ xs) r)

  silent_turn : (t : Turn) (b : BufferContent) (before after : W) (reply : Reply) → Buffered.Asks transacts t before reply after
      → after_turn t reply b ≡ after_turn t Silent b
  silent_turn (Tries taken) b before after reply asks =
      ap (λ (r : Reply). after_turn (Tries taken) r b) (silent before (classic_of taken.ask) taken.packet reply after asks)
  silent_turn Rests b before after reply asks = refl

  silent_buffers : (room : ℕ) (b : TwoBuffers) (before : W) (new : TwoBuffers) (after : W)
      → Buffered.Works transacts room b before new after → new ≡ worked room Silent Silent b
  silent_buffers room b before new after s =
      let first : Turn = earlier_turn room b in
      let second : Turn = later_turn room b in
      let e = silent_turn first (buffer_content (other b.latest) b) before s.between s.earlier s.asks_earlier in
      let l = silent_turn second (buffer_content b.latest b) s.between after s.later s.asks_later in
      s.becomes
      ∙ (ap (λ (x : BufferContent). with_place (other b.latest) x (with_place b.latest (after_turn second s.later (buffer_content b.latest b)) b)) e
      ∙ ap (λ (x : BufferContent). with_place (other b.latest) (after_turn first Silent (buffer_content (other b.latest) b)) (with_place b.latest x b)) l)

  silent_one : (frindex : ℕ) (old : Translator) (before : W) (new : Translator) (after : W)
      → TranslatorWorks transacts frindex old before new after → new ≡ worked_by frindex silence old
  silent_one frindex old before new after s =
      let p : new.pipeline ≡ kept frindex (turned_all budget [] old.pipeline) = s.pipeline.stays ∙ ap (kept frindex) (silent_entries budget old.pipeline before s.between s.pipeline.worked s.pipeline.works) in
      let b : new.bulk ≡ worked (room_left old) Silent Silent old.bulk = silent_buffers (room_left old) old.bulk s.between new.bulk after s.bulk in
      both old new p b
    where
      both : (old new : Translator) → new.pipeline ≡ kept frindex (turned_all budget [] old.pipeline)
          → new.bulk ≡ worked (room_left old) Silent Silent old.bulk → new ≡ worked_by frindex silence old
      both old new p b =
          ap (λ (es : List Entry). record { bulk = new.bulk; pipeline = es }) p
          ∙ ap (λ (x : TwoBuffers). record { bulk = x; pipeline = kept frindex (turned_all budget [] old.pipeline) }) b

  pub all_silent : (frindex : ℕ) (ts : List Translator) (before after : W) (new : List Translator)
      → AllWork transacts frindex ts before after new → new ≡ all_worked frindex [] ts
  all_silent frindex [] before after new (same, none) = none
  all_silent frindex (t ∷ ts) before after new (mid, first, rest, one, more, is) =
      let f : first ≡ worked_by frindex silence t = silent_one frindex t before first mid one in
      let r : rest ≡ all_worked frindex [] ts = all_silent frindex ts mid after rest more in
      is ∙ (ap (λ (x : Translator). x ∷ rest) f ∙ ap (λ (xs : List Translator). worked_by frindex silence t ∷ xs) r)

  pub silent_hub : (frindex : ℕ) (old new : Translators) (before after : W) → AllWork transacts frindex old.all before after new.all
      → new.multi ≡ old.multi
      → new ≡ record old { all = all_worked frindex [] old.all }
  silent_hub frindex old new before after work same =
      ap (λ (ts : List Translator). record { multi = new.multi; all = ts }) (all_silent frindex old.all before after new.all work)
      ∙ ap (λ (b : Bool). record { multi = b; all = all_worked frindex [] old.all }) same
