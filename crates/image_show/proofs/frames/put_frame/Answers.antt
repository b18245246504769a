use Rattle.std.proofs.Common.{◌≡◌, ℕ, Bool, true, false, List, None, refl, arith, sym, ap, ◌∙◌, ◌++◌}
use Rattle.std.proofs.lemmas.Result.{on_ok_weaker}
use Rattle.link_words.specs.declared.kinds.Link.{Link}
use Rattle.link_words.specs.Links.{is_end}
use Rattle.image_show.specs.Base.{link_from, raised}
use Rattle.image_show.specs.declared.image_at.ImageAt.{ImageAt}
use Rattle.image_show.specs.Linked.{list_text}
use Rattle.image_show.specs.Shown.{chain, element_at, frame_line, frame_text, is_outside, outside_text, seen_before, word_at}
use Rattle.image_show.proofs.FrameTexts.{first-end, first-outside, frame-end, frame-listed, frame-outside, marks-listed, marks-skipped}
use Rattle.image_codec.proofs.Passing.{on_ok, passes_none, passes_same}
use Rattle.image_codec.proofs.Paged.{on_same}
use Rattle.image_show.proofs.frames.put_frame.Goals as goal

-- whether the element is outside, over the image's words
tested : (words own : List ℕ) (element at : ℕ) (result answer : Bool) → own ≡ words → at ≡ element → result ≡ is_outside own at 1
    → result ≡ answer → is_outside words element 1 ≡ answer
tested words own element at result answer w a r e =
    ap (λ (x : List ℕ). is_outside x element 1) (sym w) ∙ ap (λ (x : ℕ). is_outside own x 1) (sym a) ∙ sym r ∙ e

-- the element's link, over the image's words
linked : (base : ℕ) (words own : List ℕ) (element at word : ℕ) (first : Link) → own ≡ words → at ≡ element → first ≡ link_from base word
    → word ≡ word_at own at → first ≡ link_from base (word_at words element)
linked base words own element at word first w a f e =
    f ∙ ap (link_from base) (e ∙ ap (λ (x : List ℕ). word_at x at) w ∙ ap (word_at words) a)

pub returns-then-reaches_outside-clause-printed : goal.returns-then-reaches_outside-clause-printed
returns-then-reaches_outside-clause-printed g c =
    let outside = tested c.args.image.now.words c.as_slice-words.result.now (element_at c.args.image.now c.args.n) c.element_at-at.result c.reaches_outside.result true
    c.as_slice-words.ensures c.element_at-at.ensures c.reaches_outside.ensures c.if-reaches_outside.true in
    on_same _ _ _ _ _ _ _ _ _
    (ap (λ (x : ℕ). outside_text c.args.n x) (c.raised.ensures ∙ ap (raised c.args.image.now.base) c.element_at-at.ensures)
    ∙ sym (frame-outside c.args.image.now c.args.n outside)) c.put_outside.ensures

pub returns-then-reaches_outside-clause-marked : goal.returns-then-reaches_outside-clause-marked
returns-then-reaches_outside-clause-marked g c =
    let outside = tested c.args.image.now.words c.as_slice-words.result.now (element_at c.args.image.now c.args.n) c.element_at-at.result c.reaches_outside.result true
    c.as_slice-words.ensures c.element_at-at.ensures c.reaches_outside.ensures c.if-reaches_outside.true in
    on_ok c.put_outside.result _ (marks-skipped c.args.image.now c.args.n c.args.lists.now c.args.queues.now (first-outside c.args.image.now c.args.n outside) c.requires.marks)

pub returns-then-is_end-clause-printed : goal.returns-then-is_end-clause-printed
returns-then-is_end-clause-printed g c =
    let inside = tested c.args.image.now.words c.as_slice-words.result.now (element_at c.args.image.now c.args.n) c.element_at-at.result c.reaches_outside.result false
    c.as_slice-words.ensures c.element_at-at.ensures c.reaches_outside.ensures c.if-reaches_outside.false in
    let first = linked c.args.image.now.base c.args.image.now.words c.as_slice-words.result.now (element_at c.args.image.now c.args.n) c.element_at-at.result c.read_word.result c.link_from-first.result
    c.as_slice-words.ensures c.element_at-at.ensures c.link_from-first.ensures.meaning c.read_word.ensures in
    let ends = ap is_end (sym first) ∙ sym c.is_end.ensures ∙ c.if-is_end.true in
    record {
      ok = passes_same _ _ _ _ _ _ (sym (frame-end c.args.image.now c.args.n inside ends)) (passes_none _ c.args.page.now);
      err = tt;
      stays = refl;
      rises = tt;
      counted = omega arith;
    }

pub returns-then-is_end-clause-marked : goal.returns-then-is_end-clause-marked
returns-then-is_end-clause-marked g c =
    let inside = tested c.args.image.now.words c.as_slice-words.result.now (element_at c.args.image.now c.args.n) c.element_at-at.result c.reaches_outside.result false
    c.as_slice-words.ensures c.element_at-at.ensures c.reaches_outside.ensures c.if-reaches_outside.false in
    let first = linked c.args.image.now.base c.args.image.now.words c.as_slice-words.result.now (element_at c.args.image.now c.args.n) c.element_at-at.result c.read_word.result c.link_from-first.result
    c.as_slice-words.ensures c.element_at-at.ensures c.link_from-first.ensures.meaning c.read_word.ensures in
    let ends = ap is_end (sym first) ∙ sym c.is_end.ensures ∙ c.if-is_end.true in
    marks-skipped c.args.image.now c.args.n c.args.lists.now c.args.queues.now (first-end c.args.image.now c.args.n inside ends) c.requires.marks

-- the text of a frame with a chain
listed : (i : ImageAt) (n : ℕ) (first : Link) → is_outside i.words (element_at i n) 1 ≡ false → first ≡ link_from i.base (word_at i.words (element_at i n)) → is_end first ≡ false
    → frame_line n ++ list_text (chain i.base i.words None (seen_before i n)) first ≡ frame_text i n
listed i n first h f e =
    ap (λ (x : Link). frame_line n ++ list_text (chain i.base i.words None (seen_before i n)) x) f ∙ sym (frame-listed i n h (ap is_end (sym f) ∙ e))

pub returns-clause-printed : goal.returns-clause-printed
returns-clause-printed g c =
    let inside = tested c.args.image.now.words c.as_slice-words.result.now (element_at c.args.image.now c.args.n) c.element_at-at.result c.reaches_outside.result false
    c.as_slice-words.ensures c.element_at-at.ensures c.reaches_outside.ensures c.if-reaches_outside.false in
    let first = linked c.args.image.now.base c.args.image.now.words c.as_slice-words.result.now (element_at c.args.image.now c.args.n) c.element_at-at.result c.read_word.result c.link_from-first.result
    c.as_slice-words.ensures c.element_at-at.ensures c.link_from-first.ensures.meaning c.read_word.ensures in
    on_same _ _ _ _ _ _ _ _ _ (listed c.args.image.now c.args.n c.link_from-first.result inside first (sym c.is_end.ensures ∙ c.if-is_end.false)) c.put_listed.ensures.printed

pub returns-clause-marked : goal.returns-clause-marked
returns-clause-marked g c =
    let inside = tested c.args.image.now.words c.as_slice-words.result.now (element_at c.args.image.now c.args.n) c.element_at-at.result c.reaches_outside.result false
    c.as_slice-words.ensures c.element_at-at.ensures c.reaches_outside.ensures c.if-reaches_outside.false in
    let first = linked c.args.image.now.base c.args.image.now.words c.as_slice-words.result.now (element_at c.args.image.now c.args.n) c.element_at-at.result c.read_word.result c.link_from-first.result
    c.as_slice-words.ensures c.element_at-at.ensures c.link_from-first.ensures.meaning c.read_word.ensures in
    on_ok_weaker c.put_listed.result (λ m. marks-listed c.args.image.now c.args.n c.put_listed.new.lists c.put_listed.new.queues c.link_from-first.result inside first m) c.put_listed.ensures.marked
