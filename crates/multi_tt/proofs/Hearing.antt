-- The work of translators over any wire is that in which some answers are heard.
use Rattle.std.proofs.Common.{◌≡◌, ℕ, List, [], ◌∷◌, ◌∙◌, ap}
use Rattle.usb_base.specs.declared.packets.Ask.{Ask}
use Rattle.usb_base.specs.declared.packets.Reply.{Reply}
use Rattle.tt_bulk.specs.Contents.{TwoBuffers}
use Rattle.tt_pipeline.specs.declared.entry.Entry.{Entry}
use Rattle.tt_pipeline.specs.Working.{budget, kept, turned_all}
use Rattle.tt_pipeline.proofs.Works.{works_turned}
use Rattle.multi_tt.specs.Translators.{Translator}
use Rattle.multi_tt.specs.Single.{TranslatorWorks, AllWork, Heard, worked_by}
use Rattle.multi_tt.specs.Calls.{all_worked}

module _ {W : Type 0} (transacts : W → Ask → List ℕ → Reply → W → Type 0) where
  one_heard : (frindex : ℕ) (old : Translator) (before : W) (new : Translator) (after : W)
      → TranslatorWorks transacts frindex old before new after → (heard : Heard) × (new ≡ worked_by frindex heard old)
  one_heard frindex old before new after s =
      let r = works_turned transacts budget old.pipeline before s.between s.pipeline.worked s.pipeline.works in
      let p : new.pipeline ≡ kept frindex (turned_all budget r.0 old.pipeline) = s.pipeline.stays ∙ ap (kept frindex) r.1 in (
        record { replies = r.0; earlier = s.bulk.earlier; later = s.bulk.later },
        ap (λ (es : List Entry). record { bulk = new.bulk; pipeline = es }) p
            ∙ ap (λ (x : TwoBuffers). record { bulk = x; pipeline = kept frindex (turned_all budget r.0 old.pipeline) }) s.bulk.becomes,
      )

  pub all_heard : (frindex : ℕ) (ts : List Translator) (before after : W) (new : List Translator)
      → AllWork transacts frindex ts before after new → (heard : List Heard) × (new ≡ all_worked frindex heard ts)
  all_heard frindex [] before after new (same, none) = ([], none)
  all_heard frindex (t ∷ ts) before after new (mid, first, rest, one, more, is) =
      let h = one_heard frindex t before first mid one in
      let r = all_heard frindex ts mid after rest more in
      (h.0 ∷ r.0, is ∙ (ap (λ (x : Translator). x ∷ rest) h.1 ∙ ap (λ (xs : List Translator). worked_by frindex h.0 t ∷ xs) r.1))
