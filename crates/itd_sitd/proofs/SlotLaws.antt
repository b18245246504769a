-- What the word of a microframe says, and lists of eight microframes.
use Rattle.std.proofs.Common.{◌≡◌, ℕ, suc, ◌<◌, List, [], ◌∷◌, length, get_or, drop, refl, ap, ◌∙◌, arith, drop-cons}
use Rattle.std.proofs.lemmas.List.{drop_all}
use Rattle.link_words.proofs.Tables.{SaysWord}
use Rattle.itd_sitd.specs.declared.slot.ItdSlot.{ItdSlot}
use Rattle.itd_sitd.specs.Slot.{slot_rows, slot_at, no_slot}

pub slot_says : (w : ℕ) → SaysWord slot_rows w (slot_at w)
unfolding slot_at
slot_says w = (refl, (refl, (refl, (refl, (refl, (refl, (refl, (refl, tt))))))))

pub slot_same : (w : ℕ) (s : ItdSlot) → SaysWord slot_rows w s → s ≡ slot_at w
unfolding slot_at
slot_same w s (active, (buffer_error, (babble, (xact_err, (len, (ioc, (pg, (offset, _)))))))) = λ i. record {
  offset = offset i;
  pg = pg i;
  ioc = ioc i;
  length = len i;
  xact_err = xact_err i;
  babble = babble i;
  buffer_error = buffer_error i;
  active = active i;
}

next_slot : (xs : List ItdSlot) (k : ℕ) (rest : List ItdSlot) → k < length xs → drop (suc k) xs ≡ rest → drop k xs ≡ get_or xs k no_slot ∷ rest
next_slot xs k rest within e = drop-cons xs k no_slot within ∙ ap (λ (l : List ItdSlot). get_or xs k no_slot ∷ l) e

-- a list of eight is that of its places
pub eight_slots : (xs : List ItdSlot) → length xs ≡ 8 → xs ≡ get_or xs 0 no_slot ∷ get_or xs 1 no_slot ∷ get_or xs 2 no_slot ∷ get_or xs 3 no_slot ∷ get_or xs 4 no_slot ∷ get_or xs 5 no_slot ∷ get_or xs 6 no_slot ∷ get_or xs 7 no_slot ∷ []
eight_slots xs eight =
    let e8 : drop 8 xs ≡ [] = drop_all 8 xs (omega arith) in
    let e7 = next_slot xs 7 _ (omega arith) e8 in
    let e6 = next_slot xs 6 _ (omega arith) e7 in
    let e5 = next_slot xs 5 _ (omega arith) e6 in
    let e4 = next_slot xs 4 _ (omega arith) e5 in
    let e3 = next_slot xs 3 _ (omega arith) e4 in
    let e2 = next_slot xs 2 _ (omega arith) e3 in
    let e1 = next_slot xs 1 _ (omega arith) e2 in
    next_slot xs 0 _ (omega arith) e1
