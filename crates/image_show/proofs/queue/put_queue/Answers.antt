use Rattle.std.proofs.lemmas.Result.{err_from_is_err_and, on_err_weaker, on_ok_weaker}
use Rattle.usb_base.specs.Outside.{one_more}
use Rattle.std.proofs.Common.{◌≡◌, ℕ, suc, ◌/◌, ◌<◌, Bool, List, length, set, Option, Some, None, inr, refl, sym, ap, subst, ◌∙◌, arith}
use Rattle.image_show.specs.declared.ending.Ending.{Ending}
use Rattle.link_words.specs.declared.kinds.QtdLink.{QtdLink}
use Rattle.image_show.specs.Base.{qtd_from}
use Rattle.std.proofs.lemmas.List.{length-set}
use Rattle.image_show.specs.Marks.{is_marked}
use Rattle.image_show.specs.Shown.{descriptor_text, next_in_queue, queue, queue_address, queue_ending, word_at}
use Rattle.image_show.proofs.Listing.{Stage, either_mark, put_ending_err, put_ending_ok, stage-goes_err, stage-more, stage-none}
use Rattle.image_codec.proofs.Passing.{passes_same, prefix_same}
use Rattle.image_show.proofs.queue.put_queue.Goals as goal

-- the ending by the marks is the one that was found
found : (base : ℕ) (words marks : List ℕ) (head at : ℕ) (here : Bool) (link : QtdLink) (result answer : Option Ending)
    → at ≡ queue_address link → here ≡ is_marked marks head at → result ≡ queue_ending base words here link → result ≡ answer
    → queue_ending base words (is_marked marks head (queue_address link)) link ≡ answer
found base words marks head at here link result answer e h r a =
    ap (λ (x : ℕ). queue_ending base words (is_marked marks head x) link) (sym e) ∙ ap (λ (x : Bool). queue_ending base words x link) (sym h) ∙ sym r ∙ a

pub loop-ending-init : goal.loop-ending-init
loop-ending-init g c = record {
  whole = c.requires.whole;
  aligned = c.requires.aligned;
  stage = (0, stage-none (queue c.args.base c.args.words.now) c.args.first c.args.head c.args.marks.now _ _ c.requires.fresh c.requires.whole);
  counted = omega arith;
  same = refl;
  marks = λ u. inr refl;
}

pub returns-in-Some-clause-printed : goal.returns-in-Some-clause-printed
returns-in-Some-clause-printed g c =
    let s = c.loop-ending.invariant.stage in
    let ends = found c.args.base c.args.words.now c.loop-ending.marks c.args.head c.address_of-at.result c.has_mark-here.result c.loop-ending.link c.ending_of.result (Some c.in-Some.ending)
    c.address_of-at.ensures.address c.has_mark-here.ensures c.ending_of.ensures.ending c.in-Some.is in
    record {
      ok = put_ending_ok (queue c.args.base c.args.words.now) c.args.first c.args.head c.loop-ending.marks c.put.result c.loop-ending.link s.0 _ _ _ _ _ _ _ c.in-Some.ending s.1
          c.address_of-at.ensures.aligned ends (c.as_slice.ensures.bytes ∙ c.line_of_ending.ensures) c.put.ensures.ok;
      err = put_ending_err (queue c.args.base c.args.words.now) c.args.first c.args.head c.loop-ending.marks c.put.result c.loop-ending.link s.0 _ _ _ _ _ _ c.in-Some.ending s.1
          c.address_of-at.ensures.aligned ends (c.as_slice.ensures.bytes ∙ c.line_of_ending.ensures) c.put.ensures.err;
      stays = on_ok_weaker c.put.result (λ h. h ∙ c.loop-ending.invariant.same) c.put.ensures.stays;
      rises = on_err_weaker c.put.result (λ h. h ∙ ap one_more c.loop-ending.invariant.same) c.put.ensures.rises;
      counted = omega (arith, c.put.ensures.counted, c.loop-ending.invariant.counted);
    }

pub returns-in_err-put_descriptor-clause-printed : goal.returns-in_err-put_descriptor-clause-printed
returns-in_err-put_descriptor-clause-printed g c =
    let p = err_from_is_err_and c.from_residual.result c.from_residual.ensures.1 in
    let s = c.loop-ending.invariant.stage in
    let goes = found c.args.base c.args.words.now c.loop-ending.marks c.args.head c.address_of-at.result c.has_mark-here.result c.loop-ending.link c.ending_of.result None
    c.address_of-at.ensures.address c.has_mark-here.ensures c.ending_of.ensures.ending c.in_default.is in
    let fresh = sym (c.has_mark-here.ensures ∙ ap (is_marked c.loop-ending.marks c.args.head) c.address_of-at.ensures.address) ∙ c.in_default.ensures.fresh in
    let inside : queue_address c.loop-ending.link / 32 < length c.loop-ending.marks = omega (arith, c.loop-ending.invariant.whole, c.in_default.ensures.inside) in
    let piece = prefix_same _ _ c.loop-ending.page _ _ (ap (descriptor_text c.args.base c.args.words.now) c.address_of-at.ensures.address) c.in_err-put_descriptor.ensures.err in
    rw p.1 (record {
      ok = tt;
      err = stage-goes_err (queue c.args.base c.args.words.now) c.args.first c.args.head c.loop-ending.marks c.loop-ending.link s.0 _ _ _ _ _ s.1
          c.address_of-at.ensures.aligned inside fresh goes piece;
      stays = tt;
      rises = c.in_err-put_descriptor.ensures.rises ∙ ap one_more c.loop-ending.invariant.same;
      counted = omega (arith, c.in_err-put_descriptor.ensures.counted, c.loop-ending.invariant.counted);
    })

-- the mark and the link, as the code has them
moved : (base : ℕ) (words marks : List ℕ) (first link next : QtdLink) (head at word k : ℕ) (start now : Option (List ℕ)) (held holds : List ℕ)
    → at ≡ queue_address link → next ≡ qtd_from base word → word ≡ word_at words at
    → Stage (queue base words) first head (set marks (queue_address link / 32) head) (next_in_queue base words link) k start now held holds
    → Stage (queue base words) first head (set marks (at / 32) head) next k start now held holds
moved base words marks first link next head at word k start now held holds e n w s =
    let leads : next_in_queue base words link ≡ next = sym (n ∙ ap (qtd_from base) (w ∙ ap (word_at words) e)) in
    subst (λ (x : QtdLink). Stage (queue base words) first head (set marks (at / 32) head) x k start now held holds) leads
    (subst (λ (x : ℕ). Stage (queue base words) first head (set marks (x / 32) head) (next_in_queue base words link) k start now held holds) (sym e) s)

pub loop-ending-preserved : goal.loop-ending-preserved
loop-ending-preserved g c =
    let s = c.loop-ending.invariant.stage in
    let goes = found c.args.base c.args.words.now c.loop-ending.marks c.args.head c.address_of-at.result c.has_mark-here.result c.loop-ending.link c.ending_of.result None
    c.address_of-at.ensures.address c.has_mark-here.ensures c.ending_of.ensures.ending c.in_default.is in
    let fresh = sym (c.has_mark-here.ensures ∙ ap (is_marked c.loop-ending.marks c.args.head) c.address_of-at.ensures.address) ∙ c.in_default.ensures.fresh in
    let inside : queue_address c.loop-ending.link / 32 < length c.loop-ending.marks = omega (arith, c.loop-ending.invariant.whole, c.in_default.ensures.inside) in
    let within : c.address_of-at.result / 32 < length c.loop-ending.marks = omega (arith, inside, c.address_of-at.ensures.address) in
    let piece = passes_same _ _ _ _ _ _ (ap (descriptor_text c.args.base c.args.words.now) c.address_of-at.ensures.address) c.in_ok-put_descriptor.ensures.ok in
    let more = stage-more (queue c.args.base c.args.words.now) c.args.first c.args.head c.loop-ending.marks c.loop-ending.link s.0 _ _ _ _ _ _ s.1
    c.address_of-at.ensures.aligned inside fresh goes piece in
    record {
      whole = length-set c.loop-ending.marks (c.address_of-at.result / 32) c.args.head ∙ c.loop-ending.invariant.whole;
      aligned = c.qtd_from-link.ensures.aligned;
      stage = (
        suc s.0,
        moved c.args.base c.args.words.now c.loop-ending.marks c.args.first c.loop-ending.link c.qtd_from-link.result c.args.head c.address_of-at.result c.read_word.result (suc s.0)
            _ _ _ _ c.address_of-at.ensures.address c.qtd_from-link.ensures.meaning c.read_word.ensures more,
      );
      counted = omega (arith, c.loop-ending.invariant.counted, c.in_ok-put_descriptor.ensures.counted);
      same = c.in_ok-put_descriptor.ensures.stays ∙ c.loop-ending.invariant.same;
      marks = either_mark c.loop-ending.marks c.args.marks.now (c.address_of-at.result / 32) c.args.head within c.loop-ending.invariant.marks;
    }
