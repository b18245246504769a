-- The text of a frame, by what its element is.
use Rattle.std.proofs.Common.{◌≡◌, ℕ, zero, suc, ◌+◌, ◌<◌, true, false, List, [], ◌++◌, None, inl, inr, refl, sym, ap, subst, ◌∙◌, append_assoc, append-nil, arith}
use Rattle.std.proofs.lemmas.Bool.{cases_eq}
use Rattle.link_words.specs.declared.kinds.Link.{Link}
use Rattle.link_words.specs.declared.kinds.Link.TheVariants as links
use Rattle.link_words.specs.Links.{is_end}
use Rattle.image_show.specs.Base.{raised, link_from}
use Rattle.image_show.specs.declared.image_at.ImageAt.{ImageAt}
use Rattle.image_show.specs.Linked.{count, ending_at, list_text, passed}
use Rattle.image_show.specs.Marks.{AreMarks}
use Rattle.image_show.specs.Shown.{chain, element_at, frame_first, frame_line, frame_text, frames_text, is_outside, outside_text, seen_before, word_at}
use Rattle.image_show.proofs.Listing.{first_below-at, is_marked-fresh}
use Rattle.image_show.proofs.Marking.{are_marks-next, fresh-first, in_list-first}

pub frame-outside : (i : ImageAt) (n : ℕ) → is_outside i.words (element_at i n) 1 ≡ true → frame_text i n ≡ outside_text n (raised i.base (element_at i n))
unfolding frame_text
frame-outside i n h = rw h refl

pub frame-end : (i : ImageAt) (n : ℕ) → is_outside i.words (element_at i n) 1 ≡ false → is_end (link_from i.base (word_at i.words (element_at i n))) ≡ true → frame_text i n ≡ []
unfolding frame_text frame_first
frame-end i n h e = rw h (rw e refl)

pub frame-listed : (i : ImageAt) (n : ℕ) → is_outside i.words (element_at i n) 1 ≡ false → is_end (link_from i.base (word_at i.words (element_at i n))) ≡ false
    → frame_text i n ≡ frame_line n ++ list_text (chain i.base i.words None (seen_before i n)) (link_from i.base (word_at i.words (element_at i n)))
unfolding frame_text frame_first
frame-listed i n h e = rw h (rw e refl)

-- ---- where a frame's chain begins

end_is : (l : Link) → is_end l ≡ true → l ≡ links.End
end_is links.End h = refl
end_is _ h = cc

pub first-outside : (i : ImageAt) (n : ℕ) → is_outside i.words (element_at i n) 1 ≡ true → frame_first i n ≡ links.End
unfolding frame_first
first-outside i n h = rw h refl

pub first-end : (i : ImageAt) (n : ℕ) → is_outside i.words (element_at i n) 1 ≡ false → is_end (link_from i.base (word_at i.words (element_at i n))) ≡ true → frame_first i n ≡ links.End
unfolding frame_first
first-end i n h e = rw h (end_is _ e)

first-listed : (i : ImageAt) (n : ℕ) → is_outside i.words (element_at i n) 1 ≡ false → frame_first i n ≡ link_from i.base (word_at i.words (element_at i n))
unfolding frame_first
first-listed i n h = rw h refl

-- ---- what the frames so far have shown

-- a list that begins with its end has no structures
count-end : (base : ℕ) (words seen : List ℕ) → count (chain base words None seen) links.End ≡ 0
unfolding count ending_at
count-end base words seen = first_below-at _ _ 0 (λ i h. absurd (omega arith)) (omega arith) refl

seen-step : (i : ImageAt) (n : ℕ) (first : Link) → frame_first i n ≡ first
    → seen_before i (n + 1) ≡ seen_before i n ++ passed (chain i.base i.words None (seen_before i n)) first (count (chain i.base i.words None (seen_before i n)) first)
unfolding seen_before
seen-step i n first e =
    let l = chain i.base i.words None (seen_before i n) in
    let next : n + 1 ≡ suc n = omega arith in
    ap (seen_before i) next ∙ ap (λ (x : Link). seen_before i n ++ passed l x (count l x)) e

seen-skipped : (i : ImageAt) (n : ℕ) → frame_first i n ≡ links.End → seen_before i (n + 1) ≡ seen_before i n ++ []
seen-skipped i n e =
    let l = chain i.base i.words None (seen_before i n) in
    seen-step i n links.End e ∙ ap (λ (k : ℕ). seen_before i n ++ passed l links.End k) (count-end i.base i.words (seen_before i n))

-- the marks stay where a frame shows nothing
pub marks-skipped : (i : ImageAt) (n : ℕ) (lists queues : List ℕ) → frame_first i n ≡ links.End → AreMarks lists queues (n + 1) (seen_before i n)
    → AreMarks lists queues (n + 2) (seen_before i (n + 1))
marks-skipped i n lists queues e m =
    let next = are_marks-next lists queues (n + 1) (seen_before i n) [] (in_list-first lists queues (n + 1) (seen_before i n) m) (omega arith)
    (λ a h. is_marked-fresh lists (n + 1) a (fresh-first lists queues (n + 1) (seen_before i n) m)) in
    let two : n + 1 + 1 ≡ n + 2 = omega arith in
    subst (λ (k : ℕ). AreMarks lists queues k (seen_before i (n + 1))) two
    (subst (λ (s : List ℕ). AreMarks lists queues (n + 1 + 1) s) (sym (seen-skipped i n e)) next)

-- the marks after a frame with a chain
pub marks-listed : (i : ImageAt) (n : ℕ) (lists queues : List ℕ) (first : Link) → is_outside i.words (element_at i n) 1 ≡ false
    → first ≡ link_from i.base (word_at i.words (element_at i n))
    → AreMarks lists queues (n + 2) (seen_before i n ++ passed (chain i.base i.words None (seen_before i n)) first (count (chain i.base i.words None (seen_before i n)) first))
    → AreMarks lists queues (n + 2) (seen_before i (n + 1))
marks-listed i n lists queues first h e m =
    subst (λ (s : List ℕ). AreMarks lists queues (n + 2) s) (sym (seen-step i n first (first-listed i n h ∙ sym e))) m

-- ---- all frames

pub frames-none : (i : ImageAt) → [] ≡ frames_text i 0
unfolding frames_text
frames-none i = refl

pub frames-more : (i : ImageAt) (n : ℕ) → frames_text i n ++ frame_text i n ≡ frames_text i (n + 1)
unfolding frames_text
frames-more i n = let next : n + 1 ≡ suc n = omega arith in sym (ap (frames_text i) next)

-- the text of the frames begins with that of the first ones
pub frames-front : (i : ImageAt) (n m : ℕ) → n < m → (rest : List ℕ) × (frames_text i n ++ (frame_text i n ++ rest) ≡ frames_text i m)
unfolding frames_text
frames-front i n zero h = absurd (omega arith)
frames-front i n (suc m) h = elim (cases_eq n m) [
  | inl e ↦
      ([], ap (λ (t : List ℕ). frames_text i n ++ t) (append-nil (frame_text i n)) ∙ ap (λ (k : ℕ). frames_text i k ++ frame_text i k) e)
  | inr differ ↦
      let front = frames-front i n m (omega arith) in (
        front.0 ++ frame_text i m,
        ap (λ (t : List ℕ). frames_text i n ++ t) (sym (append_assoc (frame_text i n) front.0 (frame_text i m)))
            ∙ sym (append_assoc (frames_text i n) (frame_text i n ++ front.0) (frame_text i m)) ∙ ap (λ (t : List ℕ). t ++ frame_text i m) front.1,
      )
]

pub seen-none : (i : ImageAt) → [] ≡ seen_before i 0
unfolding seen_before
seen-none i = refl
