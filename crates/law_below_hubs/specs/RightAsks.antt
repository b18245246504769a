-- What the translators of a hub ask below is what was put into them: a property of all asks that are taken is one of all that are made (USB
-- 2.0, 11.17 and 11.18).
--     AreRight, AllRight          all that a translator has taken, and all translators of a hub, are so
--     Rightly                     a wire on which only such asks are made
--     KeepsRight, WorksRightly    calls and work keep it, and the work makes only such asks
use Rattle.std.specs.Prelude.{ℕ, List, [], ◌∷◌}
use Rattle.usb_base.specs.declared.packets.Ask.{Ask}
use Rattle.usb_base.specs.declared.packets.Reply.{Reply}
use Rattle.hub_keys.specs.Asks.{classic_of}
use Rattle.hub_keys.specs.declared.key.Key.{Key}
use Rattle.tt_bulk.specs.Contents.{BufferContent, Free, Pending, Ready, Old}
use Rattle.tt_pipeline.specs.declared.entry.Entry.{Entry}
use Rattle.multi_tt.specs.Translators.{Translator, opening}
use Rattle.multi_tt.specs.Single.{started, completed, cleared, AllWork}

module _ (right : Ask → Type 0) where
  abbrev pub IsRightIn : BufferContent → Type 0
  IsRightIn Free = Unit {0}
  IsRightIn (Pending taken silences) = right (classic_of taken.ask)
  IsRightIn (Ready taken answer) = Unit {0}
  IsRightIn (Old taken answer) = Unit {0}

  abbrev pub AreRightEntries : List Entry → Type 0
  AreRightEntries [] = Unit {0}
  AreRightEntries (e ∷ es) = right (classic_of e.ask) × AreRightEntries es

  pub record AreRight (t : Translator) : Type 0 where
    pub first : IsRightIn t.bulk.first
    pub second : IsRightIn t.bulk.second
    pub entries : AreRightEntries t.pipeline

  abbrev pub AllRight : List Translator → Type 0
  AllRight [] = Unit {0}
  AllRight (t ∷ ts) = AreRight t × AllRight ts

  abbrev pub Rightly : {W : Type 0} → (W → Ask → List ℕ → Reply → W → Type 0) → W → Ask → List ℕ → Reply → W → Type 0
  Rightly transacts w ask out reply v = transacts w ask out reply v × right ask

  -- each call keeps it, where a start is so
  pub record KeepsRight : Type 0 where
    pub opens : AreRight opening
    pub starts : (ask : Ask) (bytes : List ℕ) (stuff : ℕ) (t : Translator) → right (classic_of ask) → AreRight t
        → AreRight (started ask bytes stuff t)
    pub completes : (ask : Ask) (t : Translator) → AreRight t → AreRight (completed ask t)
    pub clears : (key : Key) (t : Translator) → AreRight t → AreRight (cleared key t)

  pub record WorkIsRight {W : Type 0} (transacts : W → Ask → List ℕ → Reply → W → Type 0) (frindex : ℕ) (old : List Translator)
      (before after : W) (new : List Translator) : Type 0 where
    pub work : AllWork (Rightly transacts) frindex old before after new
    pub leaves : AllRight new

  abbrev pub WorksRightly : {W : Type 0} → (W → Ask → List ℕ → Reply → W → Type 0) → Type 0
  WorksRightly {W} transacts = (frindex : ℕ) (old : List Translator) (before after : W) (new : List Translator) → AllRight old
      → AllWork transacts frindex old before after new → WorkIsRight transacts frindex old before after new
