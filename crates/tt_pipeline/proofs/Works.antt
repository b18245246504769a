-- The work of a pipeline over any wire is a function of what is heard.
use Rattle.std.proofs.Common.{◌≡◌, ℕ, ◌-◌, List, [], ◌∷◌, ◌∙◌, ap}
use Rattle.usb_base.specs.declared.packets.Ask.{Ask}
use Rattle.usb_base.specs.declared.packets.Reply.{Reply}
use Rattle.tt_pipeline.specs.declared.entry.Entry.{Entry}
use Rattle.tt_pipeline.specs.Working.{used_at, Works, turned, turned_all}

module _ {W : Type 0} (transacts : W → Ask → List ℕ → Reply → W → Type 0) where
  -- what works is what the function of some replies gives
  pub works_turned : (room : ℕ) (es : List Entry) (before after : W) (new : List Entry)
      → Works transacts room es before after new → (replies : List Reply) × (new ≡ turned_all room replies es)
  works_turned room [] before after new (same, none) = ([], none)
  works_turned room (e ∷ es) before after new (mid, first, rest, turn, works, is) =
      let r = works_turned (room - used_at room e) es mid after rest works in
      let a : first ≡ turned room turn.reply e = turn.becomes in
      let b : rest ≡ turned_all (room - used_at room e) r.0 es = r.1 in
      (turn.reply ∷ r.0, is ∙ (ap (λ (x : Entry). x ∷ rest) a ∙ ap (λ (xs : List Entry). turned room turn.reply e ∷ xs) b))
