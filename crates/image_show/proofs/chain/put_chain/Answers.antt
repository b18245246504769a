use Rattle.std.proofs.Common.{◌≡◌, ℕ, suc, ◌+◌, ◌/◌, ◌%◌, ◌<◌, ◌++◌, Bool, ltb, List, length, set, Option, Some, None, refl, sym, ap, subst, ◌∙◌, arith}
use Rattle.std.proofs.lemmas.Bool.{lt-ltb}
use Rattle.std.proofs.lemmas.Result.{err_from_is_err_and, on_err_weaker, on_ok_weaker}
use Rattle.usb_base.specs.Outside.{one_more}
use Rattle.std.proofs.lemmas.List.{length-set}
use Rattle.link_words.specs.declared.kinds.Link.{Link}
use Rattle.link_words.specs.Links.{address_of}
use Rattle.image_show.specs.Base.{link_from}
use Rattle.image_show.specs.declared.ending.Ending.{Ending}
use Rattle.image_show.specs.Linked.{Linked, count, is_in, passed}
use Rattle.image_show.specs.Marks.{is_marked, is_marked_before, AreMarks}
use Rattle.image_show.specs.Shown.{chain, chain_ending, next_in_chain, seen_before, structure_text, word_at}
use Rattle.image_show.proofs.Listing.{Stage, ends_here, put_ending_err, put_ending_ok, stage-goes_err, stage-more, stage-none}
use Rattle.image_show.proofs.Marking.{InList, are_marks-next, fresh-first, in_list-first, in_list-more}
use Rattle.image_codec.proofs.Passing.{on_ok, passes_same, prefix_same}
use Rattle.image_show.proofs.chain.put_chain.Goals as goal

-- the link's address is a multiple of 32
multiple : (at : ℕ) (link : Link) → at ≡ address_of link → at % 32 ≡ 0 → address_of link % 32 ≡ 0
multiple at link e h = subst (λ (a : ℕ). a % 32 ≡ 0) e h

-- the ending by the marks is the one that was found
found : (base : ℕ) (words own seen lists : List ℕ) (home : Option ℕ) (number at k : ℕ) (begun here earlier : Bool) (link : Link) (result answer : Option Ending)
    → own ≡ words → at ≡ address_of link → here ≡ is_marked lists number at → earlier ≡ is_marked_before lists number at
    → is_marked_before lists number (address_of link) ≡ is_in (address_of link) seen → ltb 0 k ≡ begun
    → result ≡ chain_ending base own home begun here earlier link → result ≡ answer
    → chain_ending base words home (ltb 0 k) (is_marked lists number (address_of link)) (is_in (address_of link) seen) link ≡ answer
found base words own seen lists home number at k begun here earlier link result answer w a h s known b r e =
    let marked = sym (h ∙ ap (is_marked lists number) a) in
    let before = sym known ∙ sym (s ∙ ap (is_marked_before lists number) a) in
    ap (λ (x : Bool). chain_ending base words home x (is_marked lists number (address_of link)) (is_in (address_of link) seen) link) b
    ∙ ap (λ (x : Bool). chain_ending base words home begun x (is_in (address_of link) seen) link) marked
    ∙ ap (λ (x : Bool). chain_ending base words home begun here x link) before
    ∙ ap (λ (x : List ℕ). chain_ending base x home begun here earlier link) (sym w)
    ∙ sym r ∙ e

-- the mark and the link, as the code has them
moved : (base : ℕ) (words own seen lists : List ℕ) (home : Option ℕ) (first link next : Link) (number at word k : ℕ) (start now : Option (List ℕ)) (held holds : List ℕ)
    → own ≡ words → at ≡ address_of link → next ≡ link_from base word → word ≡ word_at own at
    → Stage (chain base words home seen) first number (set lists (address_of link / 32) number) (next_in_chain base words link) k start now held holds
    → Stage (chain base words home seen) first number (set lists (at / 32) number) next k start now held holds
moved base words own seen lists home first link next number at word k start now held holds o e n w s =
    let leads : next_in_chain base words link ≡ next = sym (n ∙ ap (link_from base) (w ∙ ap (λ (x : List ℕ). word_at x at) o ∙ ap (word_at words) e)) in
    subst (λ (x : Link). Stage (chain base words home seen) first number (set lists (at / 32) number) x k start now held holds) leads
    (subst (λ (x : ℕ). Stage (chain base words home seen) first number (set lists (x / 32) number) (next_in_chain base words link) k start now held holds) (sym e) s)

-- the marks as the next list begins
next_marks : (l : Linked Link) (first : Link) (lists queues seen : List ℕ) (frames k : ℕ) → InList lists queues (frames + 1) seen
    → ((a : ℕ) → a % 32 ≡ 0 → is_marked lists (frames + 1) a ≡ is_in a (passed l first k)) → count l first ≡ k
    → AreMarks lists queues (frames + 2) (seen ++ passed l first (count l first))
next_marks l first lists queues seen frames k m marked counted =
    let next = are_marks-next lists queues (frames + 1) seen (passed l first k) m (omega arith) marked in
    let two : frames + 1 + 1 ≡ frames + 2 = omega arith in
    subst (λ (n : ℕ). AreMarks lists queues n (seen ++ passed l first (count l first))) two
    (subst (λ (j : ℕ). AreMarks lists queues (frames + 1 + 1) (seen ++ passed l first j)) (sym counted) next)

pub loop-ending-init : goal.loop-ending-init
loop-ending-init g c =
    let seen = seen_before c.args.image.now c.args.place.frames in
    record {
      aligned = c.requires.aligned;
      lists_whole = c.requires.lists_whole;
      queues_whole = c.requires.queues_whole;
      stage = (
        0,
        (
          stage-none (chain c.args.image.now.base c.args.image.now.words c.args.place.home seen) c.args.first (c.args.place.frames + 1) c.args.lists.now _ _
              (fresh-first c.args.lists.now c.args.queues.now (c.args.place.frames + 1) seen c.requires.marks) c.requires.lists_whole,
          refl,
        ),
      );
      marks = in_list-first c.args.lists.now c.args.queues.now (c.args.place.frames + 1) seen c.requires.marks;
      counted = omega arith;
      same = refl;
    }

pub returns-in-Some-clause-printed : goal.returns-in-Some-clause-printed
returns-in-Some-clause-printed g c =
    let seen = seen_before c.args.image.now c.args.place.frames in
    let l = chain c.args.image.now.base c.args.image.now.words c.args.place.home seen in
    let k = c.loop-ending.invariant.stage.0 in
    let aligned = multiple c.address-at.result c.loop-ending.link c.address-at.ensures.address (c.address-at.ensures.aligned c.loop-ending.invariant.aligned) in
    let s = c.loop-ending.invariant.stage.1.0 in
    let ends = found c.args.image.now.base c.args.image.now.words c.as_slice-words.result.now seen c.loop-ending.lists c.args.place.home (c.args.place.frames + 1) c.address-at.result k
    c.loop-ending.begun c.has_mark-here.result c.has_earlier_mark-earlier.result c.loop-ending.link c.ending_of.result (Some c.in-Some.ending)
    c.as_slice-words.ensures c.address-at.ensures.address c.has_mark-here.ensures c.has_earlier_mark-earlier.ensures
    (c.loop-ending.invariant.marks.earlier (address_of c.loop-ending.link) aligned) c.loop-ending.invariant.stage.1.1
    c.ending_of.ensures.ending c.in-Some.is in
    record {
      ok = put_ending_ok l c.args.first (c.args.place.frames + 1) c.loop-ending.lists c.put.result c.loop-ending.link k _ _ _ _ _ _ _ c.in-Some.ending s
          aligned ends (c.as_slice.ensures.bytes ∙ c.line_of_ending.ensures) c.put.ensures.ok;
      err = put_ending_err l c.args.first (c.args.place.frames + 1) c.loop-ending.lists c.put.result c.loop-ending.link k _ _ _ _ _ _ c.in-Some.ending s
          aligned ends (c.as_slice.ensures.bytes ∙ c.line_of_ending.ensures) c.put.ensures.err;
      stays = on_ok_weaker c.put.result (λ h. h ∙ c.loop-ending.invariant.same) c.put.ensures.stays;
      rises = on_err_weaker c.put.result (λ h. h ∙ ap one_more c.loop-ending.invariant.same) c.put.ensures.rises;
      counted = omega (arith, c.put.ensures.counted, c.loop-ending.invariant.counted);
    }

pub returns-in-Some-clause-marked : goal.returns-in-Some-clause-marked
returns-in-Some-clause-marked g c =
    let seen = seen_before c.args.image.now c.args.place.frames in
    let l = chain c.args.image.now.base c.args.image.now.words c.args.place.home seen in
    let k = c.loop-ending.invariant.stage.0 in
    let aligned = multiple c.address-at.result c.loop-ending.link c.address-at.ensures.address (c.address-at.ensures.aligned c.loop-ending.invariant.aligned) in
    let s = c.loop-ending.invariant.stage.1.0 in
    let ends = found c.args.image.now.base c.args.image.now.words c.as_slice-words.result.now seen c.loop-ending.lists c.args.place.home (c.args.place.frames + 1) c.address-at.result k
    c.loop-ending.begun c.has_mark-here.result c.has_earlier_mark-earlier.result c.loop-ending.link c.ending_of.result (Some c.in-Some.ending)
    c.as_slice-words.ensures c.address-at.ensures.address c.has_mark-here.ensures c.has_earlier_mark-earlier.ensures
    (c.loop-ending.invariant.marks.earlier (address_of c.loop-ending.link) aligned) c.loop-ending.invariant.stage.1.1
    c.ending_of.ensures.ending c.in-Some.is in
    let here = ends_here l c.args.first (c.args.place.frames + 1) c.loop-ending.lists k c.loop-ending.link s.shown c.in-Some.ending s.progress aligned ends in
    on_ok c.put.result _ (next_marks l c.args.first c.loop-ending.lists c.loop-ending.queues seen c.args.place.frames k c.loop-ending.invariant.marks s.progress.marked here.0)

pub returns-in_err-put_structure-clause-printed : goal.returns-in_err-put_structure-clause-printed
returns-in_err-put_structure-clause-printed g c =
    let seen = seen_before c.args.image.now c.args.place.frames in
    let l = chain c.args.image.now.base c.args.image.now.words c.args.place.home seen in
    let k = c.loop-ending.invariant.stage.0 in
    let aligned = multiple c.address-at.result c.loop-ending.link c.address-at.ensures.address (c.address-at.ensures.aligned c.loop-ending.invariant.aligned) in
    let s = c.loop-ending.invariant.stage.1.0 in
    let goes = found c.args.image.now.base c.args.image.now.words c.as_slice-words.result.now seen c.loop-ending.lists c.args.place.home (c.args.place.frames + 1) c.address-at.result k
    c.loop-ending.begun c.has_mark-here.result c.has_earlier_mark-earlier.result c.loop-ending.link c.ending_of.result None
    c.as_slice-words.ensures c.address-at.ensures.address c.has_mark-here.ensures c.has_earlier_mark-earlier.ensures
    (c.loop-ending.invariant.marks.earlier (address_of c.loop-ending.link) aligned) c.loop-ending.invariant.stage.1.1
    c.ending_of.ensures.ending c.in_default.is in
    let fresh = sym (c.has_mark-here.ensures ∙ ap (is_marked c.loop-ending.lists (c.args.place.frames + 1)) c.address-at.ensures.address) ∙ c.in_default.ensures.fresh in
    let long = ap length c.as_slice-words.ensures in
    let inside : address_of c.loop-ending.link / 32 < length c.loop-ending.lists =
    omega (arith, long, c.loop-ending.invariant.lists_whole, c.in_default.ensures.inside, c.in_default.ensures.size, aligned) in
    let piece = prefix_same _ _ c.loop-ending.page _ _ (ap (λ (x : List ℕ). structure_text c.args.image.now.base x c.loop-ending.link) c.as_slice-words.ensures) c.in_err-put_structure.ensures.printed.err in
    let p = err_from_is_err_and c.from_residual.result c.from_residual.ensures.1 in
    rw p.1 (record {
      ok = tt;
      err = stage-goes_err l c.args.first (c.args.place.frames + 1) c.loop-ending.lists c.loop-ending.link k _ _ _ _ _ s aligned inside fresh goes piece;
      stays = tt;
      rises = c.in_err-put_structure.ensures.printed.rises ∙ ap one_more c.loop-ending.invariant.same;
      counted = omega (arith, c.in_err-put_structure.ensures.printed.counted, c.loop-ending.invariant.counted);
    })

pub loop-ending-preserved : goal.loop-ending-preserved
loop-ending-preserved g c =
    let seen = seen_before c.args.image.now c.args.place.frames in
    let l = chain c.args.image.now.base c.args.image.now.words c.args.place.home seen in
    let k = c.loop-ending.invariant.stage.0 in
    let aligned = multiple c.address-at.result c.loop-ending.link c.address-at.ensures.address (c.address-at.ensures.aligned c.loop-ending.invariant.aligned) in
    let s = c.loop-ending.invariant.stage.1.0 in
    let goes = found c.args.image.now.base c.args.image.now.words c.as_slice-words.result.now seen c.loop-ending.lists c.args.place.home (c.args.place.frames + 1) c.address-at.result k
    c.loop-ending.begun c.has_mark-here.result c.has_earlier_mark-earlier.result c.loop-ending.link c.ending_of.result None
    c.as_slice-words.ensures c.address-at.ensures.address c.has_mark-here.ensures c.has_earlier_mark-earlier.ensures
    (c.loop-ending.invariant.marks.earlier (address_of c.loop-ending.link) aligned) c.loop-ending.invariant.stage.1.1
    c.ending_of.ensures.ending c.in_default.is in
    let fresh = sym (c.has_mark-here.ensures ∙ ap (is_marked c.loop-ending.lists (c.args.place.frames + 1)) c.address-at.ensures.address) ∙ c.in_default.ensures.fresh in
    let long = ap length c.as_slice-words.ensures in
    let inside : address_of c.loop-ending.link / 32 < length c.loop-ending.lists =
    omega (arith, long, c.loop-ending.invariant.lists_whole, c.in_default.ensures.inside, c.in_default.ensures.size, aligned) in
    let unseen = sym (c.has_earlier_mark-earlier.ensures ∙ ap (is_marked_before c.loop-ending.lists (c.args.place.frames + 1)) c.address-at.ensures.address) ∙ c.in_default.ensures.unseen in
    let piece = passes_same _ _ _ _ _ _ (ap (λ (x : List ℕ). structure_text c.args.image.now.base x c.loop-ending.link) c.as_slice-words.ensures) c.in_ok-put_structure.ensures.printed.ok in
    let more = stage-more l c.args.first (c.args.place.frames + 1) c.loop-ending.lists c.loop-ending.link k _ _ _ _ _ _ s aligned inside fresh goes piece in
    let marks = in_list-more c.loop-ending.lists c.loop-ending.queues c.put_structure.new.queues (c.args.place.frames + 1) seen (address_of c.loop-ending.link)
    c.loop-ending.invariant.marks aligned inside (omega arith) unseen c.put_structure.auto.queues c.in_ok-put_structure.ensures.queues in
    record {
      aligned = c.link_from-link.ensures.aligned;
      lists_whole = length-set c.loop-ending.lists (c.address-at.result / 32) (c.args.place.frames + 1) ∙ c.loop-ending.invariant.lists_whole;
      queues_whole = c.put_structure.auto.queues ∙ c.loop-ending.invariant.queues_whole;
      stage = (
        suc k,
        (
          moved c.args.image.now.base c.args.image.now.words c.as_slice-words.result.now seen c.loop-ending.lists c.args.place.home c.args.first c.loop-ending.link c.link_from-link.result
              (c.args.place.frames + 1) c.address-at.result c.read_word.result (suc k) _ _ _ _ c.as_slice-words.ensures c.address-at.ensures.address
              c.link_from-link.ensures.meaning c.read_word.ensures more,
          lt-ltb 0 (suc k) (omega arith),
        ),
      );
      marks = subst (λ (x : ℕ). InList (set c.loop-ending.lists (x / 32) (c.args.place.frames + 1)) c.put_structure.new.queues (c.args.place.frames + 1) seen)
          (sym c.address-at.ensures.address) marks;
      counted = omega (arith, c.loop-ending.invariant.counted, c.in_ok-put_structure.ensures.printed.counted);
      same = c.in_ok-put_structure.ensures.printed.stays ∙ c.loop-ending.invariant.same;
    }
