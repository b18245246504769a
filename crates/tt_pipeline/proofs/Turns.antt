-- The turns of the entries, one more at a time.
use Rattle.std.proofs.Common.{◌≡◌, ℕ, ◌+◌, ◌-◌, ◌<◌, List, ◌∷◌, ◌++◌, length, take, drop, get_or, refl, ap, sym, ◌∙◌, arith, add-one, drop-cons, append_assoc, slice_set, length-drop, drop-set-lt}
use Rattle.std.specs.Prelude.{suc}
use Rattle.std.proofs.Math.Seq.{take-suc-set}
use Rattle.usb_base.specs.declared.packets.Ask.{Ask}
use Rattle.usb_base.specs.declared.packets.Reply.{Reply}
use Rattle.tt_pipeline.specs.declared.entry.Entry.{Entry}
use Rattle.tt_pipeline.specs.Work.{Turn}
use Rattle.tt_pipeline.specs.Working.{used_at, Works}

tail_of : {x y : Entry} (xs ys : List Entry) → x ∷ xs ≡ y ∷ ys → xs ≡ ys
tail_of xs ys h = cc

-- the next entry, and those after it
pub split : (i : ℕ) (old items : List Entry) (e : Entry) → i < length items → e ≡ get_or items i e → drop i items ≡ drop i old → drop i old ≡ e ∷ drop (i + 1) old
split i old items e inside is same =
    let more : i < length old = omega (arith, length-drop i items, length-drop i old, ap length same) in
    let a : drop i items ≡ get_or items i e ∷ drop (suc i) items = drop-cons items i e inside in
    let b : drop i old ≡ get_or old i e ∷ drop (suc i) old = drop-cons old i e more in
    let h : get_or items i e ∷ drop (suc i) items ≡ get_or old i e ∷ drop (suc i) old = sym a ∙ same ∙ b in
    let first : e ≡ get_or old i e = cc in
    let c : drop i old ≡ e ∷ drop (suc i) old = rw first b in
    rw add-one c

-- those after it are as they were
pub same_rest : (i : ℕ) (old items : List Entry) (e new : Entry) → i < length items → e ≡ get_or items i e → drop i items ≡ drop i old → drop (i + 1) (slice_set items i new) ≡ drop (i + 1) old
same_rest i old items e new inside is same =
    let a : drop i items ≡ get_or items i e ∷ drop (suc i) items = drop-cons items i e inside in
    let b : drop i old ≡ e ∷ drop (i + 1) old = split i old items e inside is same in
    let h : get_or items i e ∷ drop (suc i) items ≡ e ∷ drop (i + 1) old = sym a ∙ same ∙ b in
    let t : drop (suc i) items ≡ drop (i + 1) old = tail_of _ _ h in
    let u : drop (suc i) (slice_set items i new) ≡ drop (suc i) items = drop-set-lt (suc i) items i new (omega arith) in
    rw add-one (u ∙ (rw add-one at t))

module _ {W : Type 0} (transacts : W → Ask → List ℕ → Reply → W → Type 0) where
  -- one more turn: what the rest of the turns leads to is what all turns lead to
  pub one_more :
      (room i total : ℕ) (old items : List Entry) (e new : Entry) (start port after : W) →
      i < length items → e ≡ get_or items i e → drop i items ≡ drop i old →
      Turn transacts room e port after new →
      ((fin : W) (rest : List Entry) → Works transacts room (drop i old) port fin rest → Works transacts total old start fin (take i items ++ rest)) →
      (fin : W) (rest : List Entry) → Works transacts (room - used_at room e) (drop (i + 1) old) after fin rest →
      Works transacts total old start fin (take (i + 1) (slice_set items i new) ++ rest)
  one_more room i total old items e new start port after inside is same turn all fin rest works =
      let here : drop i old ≡ e ∷ drop (i + 1) old = split i old items e inside is same in
      let more : Works transacts room (drop i old) port fin (new ∷ rest) = rw here (after, new, rest, turn, works, refl) in
      let done : Works transacts total old start fin (take i items ++ new ∷ rest) = all fin (new ∷ rest) more in
      let e1 : take (i + 1) (slice_set items i new) ++ rest ≡ take i items ++ new ∷ rest =
      rw (add-one, take-suc-set items i new inside, append_assoc) refl in
      rw e1 done
