-- What a translator has done for the entries of its pipeline (USB 2.0, 11.18 and 11.18.4).
--     KeepsUp                 the work that is laid is done; what is laid whole is answered
--     KeepsUpStuffed          the same with stuffed bits: one microframe later
use Rattle.std.specs.Prelude.{◌≡◌, ℕ, ◌+◌, ◌-◌, ◌*◌, ◌≤◌, min, true, List, [], ◌∷◌}
use Rattle.usb_base.specs.declared.packets.EpKind.TheVariants.{Interrupt}
use Rattle.tt_pipeline.specs.declared.rows.AnswerRow.TheVariants.{Result}
use Rattle.tt_pipeline.specs.Answers.{answer_row}
use Rattle.tt_pipeline.specs.Work.{called_for}
use Rattle.claims_world.specs.Plans.{Plan, laid}
use Rattle.claims_world.specs.Watched.{Watched}

-- at the begin of a microframe, after the work, an entry has had what is laid for it up to the last microframe but one, less
-- 188 for each microframe that brought no part while it lacked its last, or all that its starts up to then call for
pub record KeepsUp (p : Plan) (now : ℕ) (w : Watched) : Type 0 where
  pub enough : min (laid p w.entry.key (now - 1)) (called_for w.entry + 188 * w.gaps) ≤ w.entry.done + 188 * w.gaps
  pub no_more : w.entry.done ≤ called_for w.entry
  -- once all is laid and its last part was heard, all that it calls for was worked
  pub whole : w.entry.heard.whole ≡ true → p.times w.entry.key ≤ laid p w.entry.key (now - 1) → w.entry.done ≡ called_for w.entry
  -- and an interrupt's answer is there
  pub answered :
      w.entry.ask.kind ≡ Interrupt → w.entry.heard.whole ≡ true → p.times w.entry.key ≤ laid p w.entry.key (now - 1)
      → answer_row w.entry ≡ Result

abbrev pub AllKeepUp : Plan → ℕ → List Watched → Type 0
AllKeepUp p now [] = Unit {0}
AllKeepUp p now (w ∷ ws) = KeepsUp p now w × AllKeepUp p now ws

-- with stuffed bits, up to one in six: an entry of which all is laid up to the last microframe but two has had all that its
-- starts call for (7.1.9, 11.18)
pub record KeepsUpStuffed (p : Plan) (now : ℕ) (w : Watched) : Type 0 where
  pub no_more : w.entry.done ≤ called_for w.entry
  pub whole : now ≤ 8 → p.times w.entry.key ≤ laid p w.entry.key (now - 2) → w.entry.done ≡ called_for w.entry
  -- and an interrupt's answer is there
  pub answered :
      w.entry.ask.kind ≡ Interrupt → w.entry.heard.whole ≡ true → now ≤ 8 → p.times w.entry.key ≤ laid p w.entry.key (now - 2)
      → answer_row w.entry ≡ Result

abbrev pub AllKeepUpStuffed : Plan → ℕ → List Watched → Type 0
AllKeepUpStuffed p now [] = Unit {0}
AllKeepUpStuffed p now (w ∷ ws) = KeepsUpStuffed p now w × AllKeepUpStuffed p now ws
