-- A siTD by its words: words 1, 2, 3 and 5 tell all that is said of it (EHCI 1.0, 3.4).
use Rattle.std.proofs.Common.{◌≡◌, ℕ, ◌+◌, ◌*◌, ◌<◌, ◌≤◌, Bool, true, false, List, [], ◌∷◌, slice_index, Some, None, Ok, ap, sym, subst, ◌∙◌, arith, if◌then◌else◌}
use Rattle.std.specs.Result.{result_ok}
use Rattle.law_microframes.proofs.Common.{words_are, ok_is}
use Rattle.word_mem.specs.Memory.{Mem, word_at, reaches}
use Rattle.word_mem.specs.Views.{words_at}
use Rattle.word_mem.proofs.Words.{get_or-words_in}
use Rattle.itd_sitd.specs.declared.sitd.Sitd.{Sitd}
use Rattle.itd_sitd.specs.Sitd.{sitd_at, sitd_read}
use Rattle.itd_sitd.proofs.SitdLaws.{sitd_read-is}
use Rattle.mem_descriptors.specs.Descriptors.{sitd_at_address}
use Rattle.drv_periodic_table.specs.Descriptors.{sitd_in}
use Rattle.law_structures.specs.lent_structures.Structures.{HoldsSplitIsochronous}
use Rattle.law_microframes.specs.time.SitdFields.{SitdName, IsSitdAs}

read_ok : (m : Mem) (a : ℕ) (v : Sitd) (b : Bool) → (if b then result_ok (sitd_read (words_at m a 7)) else None) ≡ Some v
    → sitd_read (words_at m a 7) ≡ Ok v
read_ok m a v true is = ok_is (sitd_read (words_at m a 7)) v is
read_ok m a v false is = absurd (cc)

module _ (way : SitdName) (s c n : ℕ) where
  abbrev pub AreWordsAs : ℕ → ℕ → ℕ → ℕ → Type 0
  AreWordsAs one two three five = IsSitdAs way s c n (sitd_at (0 ∷ one ∷ two ∷ three ∷ 0 ∷ five ∷ []))

  pub list_as : (ws : List ℕ) → IsSitdAs way s c n (sitd_at ws)
      → AreWordsAs (slice_index ws 1) (slice_index ws 2) (slice_index ws 3) (slice_index ws 5)
  unfolding sitd_at
  list_as ws k = record {
    way = k.way;
    named = k.named;
    smask = k.smask;
    cmask = k.cmask;
    prog = k.prog;
    parts = record { fits = k.parts.fits; count = k.parts.count; within = k.parts.within; position = k.parts.position };
  }

  pub as_list : (ws : List ℕ) → AreWordsAs (slice_index ws 1) (slice_index ws 2) (slice_index ws 3) (slice_index ws 5)
      → IsSitdAs way s c n (sitd_at ws)
  unfolding sitd_at
  as_list ws k = record {
    way = k.way;
    named = k.named;
    smask = k.smask;
    cmask = k.cmask;
    prog = k.prog;
    parts = record { fits = k.parts.fits; count = k.parts.count; within = k.parts.within; position = k.parts.position };
  }

  -- ---- in memory

  pub told_words : (m : Mem) (b : ℕ) → IsSitdAs way s c n (sitd_in m b)
      → AreWordsAs (word_at m (32 * b + 4)) (word_at m (32 * b + 8)) (word_at m (32 * b + 12)) (word_at m (32 * b + 20))
  told_words m b k = list_as _ k

  pub words_told : (m : Mem) (b : ℕ) → AreWordsAs (word_at m (32 * b + 4)) (word_at m (32 * b + 8)) (word_at m (32 * b + 12))
      (word_at m (32 * b + 20))
      → IsSitdAs way s c n (sitd_in m b)
  words_told m b k = as_list _ k

  words_of : (m : Mem) (a i : ℕ) → i < 7 → slice_index (words_at m a 7) i ≡ word_at m (a + 4 * i)
  words_of m a i small = get_or-words_in m.words a 7 i small

  -- where the same words stand
  four : (w v x y w1 v1 x1 y1 : ℕ) → w ≡ w1 → v ≡ v1 → x ≡ x1 → y ≡ y1 → AreWordsAs w v x y → AreWordsAs w1 v1 x1 y1
  four w v x y w1 v1 x1 y1 one two three five k =
      subst (λ (i : ℕ). AreWordsAs i v1 x1 y1) one
      (subst (λ (i : ℕ). AreWordsAs w i x1 y1) two
      (subst (λ (i : ℕ). AreWordsAs w v i y1) three (subst (λ (i : ℕ). AreWordsAs w v x i) five k)))

  pub words_stay : (m new : Mem) (b : ℕ) → ((i : ℕ) → 1 ≤ i → i < 7 → word_at new (32 * b + 4 * i) ≡ word_at m (32 * b + 4 * i))
      → IsSitdAs way s c n (sitd_in m b)
      → IsSitdAs way s c n (sitd_in new b)
  words_stay m new b same k =
      words_told new b
      (four (word_at m (32 * b + 4)) (word_at m (32 * b + 8)) (word_at m (32 * b + 12)) (word_at m (32 * b + 20))
      (word_at new (32 * b + 4)) (word_at new (32 * b + 8)) (word_at new (32 * b + 12)) (word_at new (32 * b + 20))
      (sym (same 1 (omega arith) (omega arith))) (sym (same 2 (omega arith) (omega arith))) (sym (same 3 (omega arith) (omega arith)))
      (sym (same 5 (omega arith) (omega arith)))
      (told_words m b k))

  -- the words at an address, as they are read
  address_as : (m : Mem) (b : ℕ) → IsSitdAs way s c n (sitd_in m b) → IsSitdAs way s c n (sitd_at (words_at m (32 * b) 7))
  address_as m b k =
      as_list (words_at m (32 * b) 7)
      (four (word_at m (32 * b + 4)) (word_at m (32 * b + 8)) (word_at m (32 * b + 12)) (word_at m (32 * b + 20)) _ _ _ _
      (sym (words_of m (32 * b) 1 (omega arith))) (sym (words_of m (32 * b) 2 (omega arith))) (sym (words_of m (32 * b) 3 (omega arith)))
      (sym (words_of m (32 * b) 5 (omega arith)))
      (told_words m b k))

  pub as_address : (m : Mem) (b : ℕ) → IsSitdAs way s c n (sitd_at (words_at m (32 * b) 7)) → IsSitdAs way s c n (sitd_in m b)
  as_address m b k =
      words_told m b
      (four _ _ _ _ (word_at m (32 * b + 4)) (word_at m (32 * b + 8)) (word_at m (32 * b + 12)) (word_at m (32 * b + 20))
      (words_of m (32 * b) 1 (omega arith)) (words_of m (32 * b) 2 (omega arith)) (words_of m (32 * b) 3 (omega arith))
      (words_of m (32 * b) 5 (omega arith))
      (list_as (words_at m (32 * b) 7) k))

  -- ---- a structure that stands there

  pub structure_as : (m : Mem) (b : ℕ) (v : Sitd) → HoldsSplitIsochronous m (32 * b) v → IsSitdAs way s c n (sitd_in m b)
      → IsSitdAs way s c n v
  structure_as m b v h k = subst (IsSitdAs way s c n) (words_are m (32 * b) v h) (address_as m b k)

  pub as_structure : (m : Mem) (b : ℕ) (v : Sitd) → HoldsSplitIsochronous m (32 * b) v → IsSitdAs way s c n v
      → IsSitdAs way s c n (sitd_in m b)
  as_structure m b v h k = as_address m b (subst (IsSitdAs way s c n) (sym (words_are m (32 * b) v h)) k)

  -- ---- what is read

  pub read_as : (m : Mem) (b a : ℕ) (v : Sitd) → a ≡ 32 * b → sitd_at_address m a ≡ Some v → IsSitdAs way s c n (sitd_in m b)
      → IsSitdAs way s c n v
  read_as m b a v at is k =
      let reads : v ≡ sitd_at (words_at m a 7) = sitd_read-is (words_at m a 7) v (read_ok m a v (reaches m a) is) in
      subst (IsSitdAs way s c n) (sym (reads ∙ ap (λ (i : ℕ). sitd_at (words_at m i 7)) at)) (address_as m b k)

-- what is read where one stands is it
pub read_one : (m : Mem) (a : ℕ) (v x : Sitd) → sitd_at_address m a ≡ Some v → HoldsSplitIsochronous m a x → v ≡ x
read_one m a v x is h =
    sitd_read-is (words_at m a 7) v (read_ok m a v (reaches m a) is) ∙ words_are m a x h
